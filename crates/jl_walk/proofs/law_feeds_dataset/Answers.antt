use Rattle.jl_walk.proofs.Datasets.{feeds-dataset}
use Rattle.jl_walk.proofs.law_feeds_dataset.Goals as goal

pub returns : goal.returns
returns c = feeds-dataset
