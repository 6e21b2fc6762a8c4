-- A fault that is reported for the first bytes stays, in streaming order.
use Rattle.jl_laws.specs.Laws.{FaultsStayInBytes}
use Rattle.jl_laws.proofs.FaultsStay.{faults-stay}
use Rattle.jl_laws.proofs.OpenGoesOn.{goes-on}

pub faults-stay-in-bytes : FaultsStayInBytes
faults-stay-in-bytes s front rest f t e (o, opens, has) reads = faults-stay s o t e (goes-on front rest o t opens reads) f has
