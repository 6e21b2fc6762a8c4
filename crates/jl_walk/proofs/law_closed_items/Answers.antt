use Rattle.jl_walk.proofs.Closed.{items-put}
use Rattle.jl_walk.proofs.law_closed_items.Goals as goal

pub returns : goal.returns
returns c = items-put
