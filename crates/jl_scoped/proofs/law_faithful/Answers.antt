use Rattle.jl_scoped.proofs.Growing.{define-faithful}
use Rattle.jl_scoped.proofs.law_faithful.Goals as goal

pub returns : goal.returns
returns c = define-faithful
