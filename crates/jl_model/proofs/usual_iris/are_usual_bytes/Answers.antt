use Rattle.std.proofs.Common.{sym, ◌∙◌, arith}
use Rattle.jl_model.specs.UsualIris.{is_usual_byte}
use Rattle.jl_model.proofs.UsualTexts.{longer_front, block_fails, last_block}
use Rattle.jl_model.proofs.usual_iris.are_usual_bytes.Goals as goal

pub returns-then-not-is_usual_block : goal.returns-then-not-is_usual_block
returns-then-not-is_usual_block c =
    sym (block_fails is_usual_byte c.args.text.now c.loop-at.at 16 c.loop-at.invariant.0 (sym c.is_usual_block.ensures ∙ c.if-not-is_usual_block.true))

pub loop-at-preserved : goal.loop-at-preserved
loop-at-preserved c =
    (longer_front is_usual_byte c.args.text.now c.loop-at.at 16 c.loop-at.invariant.0 (sym c.is_usual_block.ensures ∙ c.if-not-is_usual_block.false), omega arith)

pub returns : goal.returns
returns c =
    c.is_usual_block-2.ensures
    ∙ last_block is_usual_byte c.args.text.now c.loop-at.at 16 c.loop-at.invariant.0 c.loop-at.invariant.1 c.loop-at-test.false c.if-text-lt16.false
