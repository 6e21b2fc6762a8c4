use Rattle.jl_model.proofs.UsualBlocks.{block_marks, usual_block}
use Rattle.jl_model.proofs.usual_iris.is_usual_block.Goals as goal

pub returns : goal.returns
returns c = usual_block c.args.block _ c.fits-block.0 c.fits-block.1 (block_marks c.args.block c.fits-block.0)
