use Rattle.std.proofs.Common.{subst, sym}
use Rattle.jl_top.specs.Pieces.{StoppedLines}
use Rattle.jl_io.proofs.Outcomes.{on_ok, if_err_too}
use Rattle.jl_top.proofs.PieceLines.{fed_handed, fed_cut, stopped_answered, at_stop}
use Rattle.jl_top.proofs.pieces.read_piece.Goals as goal

pub returns-in-Ok-clause-fed : goal.returns-in-Ok-clause-fed
returns-in-Ok-clause-fed g c =
    on_ok c.hand_on_rest.result (λ all s bytes quads h.
    fed_handed quads (g.B.ByteOut.written c.args.out.now) (g.B.ByteOut.written c.read_into.new.out) (g.B.ByteOut.written c.hand_on_rest.new.out)
    c.args.block.now c.read_into.new.block c.hand_on_rest.new.block c.requires.none_held c.hand_on_rest.ensures.hands_on s bytes c.args.piece.now c.read_into.new.engine all (c.in-Ok.ensures.fed s bytes quads h))
    c.hand_on_rest.ensures.all

pub returns-in-Ok-clause-stopped : goal.returns-in-Ok-clause-stopped
returns-in-Ok-clause-stopped g c =
    record {
      stopped = if_err_too c.hand_on_rest.result (λ stop is s bytes quads h.
          subst (λ x. StoppedLines s bytes quads c.args.piece.now x c.read_into.new.engine (g.B.ByteOut.written c.args.out.now) (g.B.ByteOut.written c.hand_on_rest.new.out)) (sym is)
          (fed_cut quads (g.B.ByteOut.written c.args.out.now) (g.B.ByteOut.written c.read_into.new.out) (g.B.ByteOut.written c.hand_on_rest.new.out)
          c.args.block.now c.read_into.new.block c.hand_on_rest.new.block c.requires.none_held c.hand_on_rest.ensures.hands_on s bytes c.args.piece.now c.read_into.new.engine (c.in-Ok.ensures.fed s bytes quads h)))
          c.hand_on_rest.ensures.stop;
    }

pub returns-in-Err-clause-stopped : goal.returns-in-Err-clause-stopped
returns-in-Err-clause-stopped g c = record {
  stopped = λ s bytes quads h.
      stopped_answered quads (g.B.ByteOut.written c.args.out.now) (g.B.ByteOut.written c.read_into.new.out) (g.B.ByteOut.written c.hand_on_stopped.new.out)
      c.args.block.now c.read_into.new.block c.hand_on_stopped.new.block c.requires.none_held c.hand_on_stopped.ensures.hands_on s bytes c.args.piece.now c.in-Err.stop c.hand_on_stopped.result c.read_into.new.engine c.hand_on_stopped.ensures.answer
      (at_stop c.read_into.result c.in-Err.stop c.args.engine.now c.read_into.new.engine c.args.piece.now _ _ c.read_into.ensures.stopped c.in-Err.is s bytes quads h);
}
