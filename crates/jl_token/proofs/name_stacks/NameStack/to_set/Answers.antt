use Rattle.std.proofs.Common.{◌≡◌, suc, ◌-◌, ap, ◌∙◌, arith}
use Rattle.jl_token.specs.Names.{with_name}
use Rattle.jl_token.proofs.NameRows.{in_set}
use Rattle.jl_token.proofs.name_stacks.NameStack.to_set.Goals as goal

pub loop-left-preserved : goal.loop-left-preserved
loop-left-preserved c =
    let i = c.loop-left.invariant in
    let one : c.loop-left.left ≡ suc (c.loop-left.left - 1) = omega (arith, c.loop-left-test.true) in
    (omega (arith, i.0), in_set c.loop-left.set c.add.new.self c.args.count c.loop-left.left (c.loop-left.left - 1) c.args.self.now c.in-Some.name.now c.in-Some.ensures.0 one i.0 i.1 c.in-Some.ensures.1 (c.in_ok-add.ensures.names ∙ ap (λ n. with_name c.loop-left.set n) c.in_ok-from_slice.ensures.items))
