use Rattle.jl_walk.proofs.Closed.{members-put}
use Rattle.jl_walk.proofs.law_closed_members.Goals as goal

pub returns : goal.returns
returns c = members-put
