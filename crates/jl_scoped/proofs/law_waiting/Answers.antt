use Rattle.jl_scoped.proofs.WaitingSteps.{waiting-steps}
use Rattle.jl_scoped.proofs.law_waiting.Goals as goal

pub returns : goal.returns
returns c = waiting-steps
