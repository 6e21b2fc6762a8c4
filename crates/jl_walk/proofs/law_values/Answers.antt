use Rattle.jl_walk.proofs.Walking.{values-run}
use Rattle.jl_walk.proofs.law_values.Goals as goal

pub returns : goal.returns
returns c = values-run
