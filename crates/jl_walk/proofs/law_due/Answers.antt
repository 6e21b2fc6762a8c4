use Rattle.jl_walk.proofs.DueOpen.{due-put}
use Rattle.jl_walk.proofs.law_due.Goals as goal

pub returns : goal.returns
returns c = due-put
