use Rattle.std.proofs.Common.{arith}
use Rattle.jl_nquads.proofs.CodeFronts.{nothing_there}
use Rattle.jl_nquads.proofs.code_points.code_at.Goals as goal

pub returns-in-None : goal.returns-in-None
returns-in-None c = λ code back h e. nothing_there code back c.args.text.now (omega (arith, c.in-None.ensures.item.3)) e
