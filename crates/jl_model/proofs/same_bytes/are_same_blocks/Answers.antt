use Rattle.std.proofs.Common.{◌-◌, length, ap, arith}
use lib.Lanes.{chunk}
use Rattle.jl_model.proofs.SameBlocks.{last_block, longer_front}
use Rattle.jl_model.proofs.same_bytes.are_same_blocks.Goals as goal

pub loop-at-preserved : goal.loop-at-preserved
loop-at-preserved c =
    (longer_front c.args.one.now c.args.other.now c.loop-at.at c.loop-at.invariant.0 (c.is_same_block.ensures.0 c.if-not-is_same_block.false), omega (arith, c.loop-at-test.true))

pub returns : goal.returns
returns c =
    let from = length c.args.one.now - 16 in (
      (λ same. last_block c.args.one.now c.args.other.now c.loop-at.at c.loop-at.invariant.0 c.requires.lengths c.loop-at.invariant.1 c.loop-at-test.false c.requires.long (c.is_same_block-2.ensures.0 same)),
      (λ e. c.is_same_block-2.ensures.1 (ap (chunk from 16) e)),
    )
