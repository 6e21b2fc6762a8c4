use Rattle.jl_laws.proofs.FaultsStay.{faults-stay}
use Rattle.jl_laws.proofs.law_faults.Goals as goal

pub returns : goal.returns
returns c = faults-stay
