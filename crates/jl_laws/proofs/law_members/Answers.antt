use Rattle.jl_laws.proofs.MembersMove.{members-move}
use Rattle.jl_laws.proofs.law_members.Goals as goal

pub returns : goal.returns
returns c = members-move
