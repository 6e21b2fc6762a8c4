use Rattle.std.proofs.Common.{refl}
use Rattle.jl_top.proofs.conversions.Conversion.new.Goals as goal

pub returns : goal.returns
returns c = λ before fresh. record { fresh = fresh; reads = c.new.ensures; writes = c.new-2.ensures before; count = refl }
