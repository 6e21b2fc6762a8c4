use Rattle.std.proofs.Common.{ap, ◌∙◌}
use Rattle.jl_context.specs.Layers.{seen, change}
use Rattle.jl_context.proofs.Bools.{on-ok}
use Rattle.jl_context.proofs.terms.change_in.Goals as goal

pub returns-clause-ok : goal.returns-clause-ok
returns-clause-ok c =
    on-ok c.set_in.result c.set_in.ensures.ok (λ h. h ∙ ap (change c.args.key.items (seen c.args.value)) c.in_ok-make_room.ensures.same)
