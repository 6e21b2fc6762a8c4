use Rattle.jl_walk.proofs.Datasets.{reads-dataset}
use Rattle.jl_walk.proofs.law_reads_dataset.Goals as goal

pub returns : goal.returns
returns c = reads-dataset
