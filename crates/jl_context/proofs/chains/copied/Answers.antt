use Rattle.std.proofs.Common.{◌≡◌, ◌<◌, ◌+◌, suc, arith, length}
use Rattle.jl_context.proofs.ChainLemmas.{copied-more}
use Rattle.jl_context.proofs.chains.copied.Goals as goal

pub loop-index-preserved : goal.loop-index-preserved
loop-index-preserved c =
    let next : c.loop-index.index + 1 ≡ suc c.loop-index.index = omega arith in
    let within : c.loop-index.index < length c.args.levels.now = omega (arith, c.loop-index-test.true, c.requires) in
    copied-more c.loop-index.copy.items c.args.levels.now c.push_level.new.levels.items c.loop-index.index (c.loop-index.index + 1) c.in_ok-clone.field-0 c.index-levels-index.result
    within c.index-levels-index.is c.in_ok-clone.ensures.cases next c.in_ok-push_level.ensures.ok c.loop-index.invariant
