use Rattle.jl_top.proofs.ConvertingPieces.{handed_end, stopped_end}
use Rattle.jl_top.proofs.conversion_pieces.convert_end.Goals as goal

pub returns-in-Ok-clause-answer : goal.returns-in-Ok-clause-answer
returns-in-Ok-clause-answer g c =
    let h = c.hand_on_rest.ensures in
    handed_end (g.B.ByteOut.written c.args.out.now) (g.B.ByteOut.written c.finish_into.new.out) (g.B.ByteOut.written c.hand_on_rest.new.out) c.args.block.now c.finish_into.new.block c.hand_on_rest.new.block c.requires.none_held h.hands_on
    c.args.conversion.now c.finish_into.new.conversion c.hand_on_rest.result h.all h.stop c.in-Ok.ensures.answer

pub returns-in-Err-clause-answer : goal.returns-in-Err-clause-answer
returns-in-Err-clause-answer g c =
    let h = c.hand_on_stopped.ensures in
    stopped_end (g.B.ByteOut.written c.args.out.now) (g.B.ByteOut.written c.finish_into.new.out) (g.B.ByteOut.written c.hand_on_stopped.new.out) c.args.block.now c.finish_into.new.block c.hand_on_stopped.new.block c.requires.none_held h.hands_on
    c.args.conversion.now c.finish_into.new.conversion c.in-Err.stop c.hand_on_stopped.result h.answer c.in-Err.ensures.answer
