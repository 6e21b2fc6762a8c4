use Rattle.jl_model.proofs.SameBlocks.{same_block}
use Rattle.jl_model.proofs.same_bytes.is_same_block.Goals as goal

pub returns : goal.returns
returns c = same_block c.args.one c.args.other c.fits-one.0 c.fits-other.0
