use Rattle.jl_walk.proofs.Parting.{part-says}
use Rattle.jl_walk.proofs.law_part.Goals as goal

pub returns : goal.returns
returns c = part-says
