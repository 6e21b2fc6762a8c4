use Rattle.std.proofs.Common.{refl}
use Rattle.jl_nquads.proofs.CodeFronts.{nothing_begins}
use Rattle.jl_nquads.proofs.code_points.begins_code.Goals as goal

pub returns-in-None : goal.returns-in-None
returns-in-None c = ((λ h. nothing_begins c.args.class c.args.text.now c.in-None.ensures.item.3), (λ k. refl))
