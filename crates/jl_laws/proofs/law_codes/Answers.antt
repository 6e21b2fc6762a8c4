use Rattle.jl_laws.proofs.FaultCodes.{faults-are-built}
use Rattle.jl_laws.proofs.law_codes.Goals as goal

pub returns : goal.returns
returns c = faults-are-built
