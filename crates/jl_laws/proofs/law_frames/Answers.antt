use Rattle.jl_laws.proofs.Counting.{same-set}
use Rattle.jl_laws.proofs.Equality.{parts_eq}
use Rattle.jl_laws.proofs.Frames.{says-dataset}
use Rattle.jl_defs.specs.Dataset.{dataset}
use Rattle.jl_laws.specs.Says.{says, root_spot}
use Rattle.jl_laws.proofs.law_frames.Goals as goal

pub returns : goal.returns
returns c = λ s t. same-set parts_eq (says s (root_spot s) t) (dataset s t) (λ f. says-dataset f s t)
