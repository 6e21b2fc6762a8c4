use Rattle.jl_walk.proofs.Settling.{open-enters}
use Rattle.jl_walk.proofs.law_enters.Goals as goal

pub returns : goal.returns
returns c = open-enters
