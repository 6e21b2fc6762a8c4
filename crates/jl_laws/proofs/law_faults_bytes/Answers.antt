use Rattle.jl_laws.proofs.FaultsStayInBytes.{faults-stay-in-bytes}
use Rattle.jl_laws.proofs.law_faults_bytes.Goals as goal

pub returns : goal.returns
returns c = faults-stay-in-bytes
