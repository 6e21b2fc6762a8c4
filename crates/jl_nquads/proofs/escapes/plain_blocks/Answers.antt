use Rattle.std.proofs.Common.{◌≡◌, ◌+◌, ◌-◌, arith, flat_map, take, drop, subst}
use Rattle.jl_model.specs.Lines.{escaped}
use Rattle.jl_nquads.proofs.EscapeRuns.{plain_more}
use Rattle.jl_nquads.proofs.escapes.plain_blocks.Goals as goal

pub loop-at-preserved : goal.loop-at-preserved
loop-at-preserved c =
    let at = c.loop-at.at in
    let rest = drop at c.args.text.now in
    let size : at + 64 - at ≡ 64 = omega arith in
    let block : flat_map escaped (take 64 rest) ≡ take 64 rest = subst (λ k. flat_map escaped (take k rest) ≡ take k rest) size (c.has_no_escape.ensures c.if-has_no_escape.true) in
    record {
      within = omega (arith, c.loop-at-test.true);
      plain = plain_more c.args.text.now at 64 c.loop-at.invariant.plain block;
    }
