use Rattle.jl_engine.proofs.Feeding.{sure-now}
use Rattle.jl_engine.proofs.laws.law_sure.Goals as goal

pub returns : goal.returns
returns c = sure-now
