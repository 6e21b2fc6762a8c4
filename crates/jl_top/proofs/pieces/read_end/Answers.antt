use Rattle.std.proofs.Common.{subst, sym}
use Rattle.jl_top.specs.Pieces.{EndedLines}
use Rattle.jl_io.proofs.Outcomes.{on_ok, if_err_too}
use Rattle.jl_top.proofs.PieceLines.{finished_handed, finished_cut, ended_answered, at_end_stop}
use Rattle.jl_top.proofs.pieces.read_end.Goals as goal

pub returns-in-Ok-clause-finished : goal.returns-in-Ok-clause-finished
returns-in-Ok-clause-finished g c =
    on_ok c.hand_on_rest.result (λ all s bytes quads h.
    finished_handed quads (g.B.ByteOut.written c.args.out.now) (g.B.ByteOut.written c.end_into.new.out) (g.B.ByteOut.written c.hand_on_rest.new.out)
    c.args.block.now c.end_into.new.block c.hand_on_rest.new.block c.requires.none_held c.hand_on_rest.ensures.hands_on s bytes all (c.in-Ok.ensures.finished s bytes quads h))
    c.hand_on_rest.ensures.all

pub returns-in-Ok-clause-stopped : goal.returns-in-Ok-clause-stopped
returns-in-Ok-clause-stopped g c =
    record {
      stopped = if_err_too c.hand_on_rest.result (λ stop is s bytes quads h.
          subst (λ x. EndedLines s bytes quads x (g.B.ByteOut.written c.args.out.now) (g.B.ByteOut.written c.hand_on_rest.new.out)) (sym is)
          (finished_cut quads (g.B.ByteOut.written c.args.out.now) (g.B.ByteOut.written c.end_into.new.out) (g.B.ByteOut.written c.hand_on_rest.new.out)
          c.args.block.now c.end_into.new.block c.hand_on_rest.new.block c.requires.none_held c.hand_on_rest.ensures.hands_on s bytes (c.in-Ok.ensures.finished s bytes quads h)))
          c.hand_on_rest.ensures.stop;
    }

pub returns-in-Err-clause-stopped : goal.returns-in-Err-clause-stopped
returns-in-Err-clause-stopped g c = record {
  stopped = λ s bytes quads h.
      ended_answered quads (g.B.ByteOut.written c.args.out.now) (g.B.ByteOut.written c.end_into.new.out) (g.B.ByteOut.written c.hand_on_stopped.new.out)
      c.args.block.now c.end_into.new.block c.hand_on_stopped.new.block c.requires.none_held c.hand_on_stopped.ensures.hands_on s bytes c.in-Err.stop c.hand_on_stopped.result c.hand_on_stopped.ensures.answer
      (at_end_stop c.end_into.result c.in-Err.stop c.args.engine.now _ _ c.end_into.ensures.stopped c.in-Err.is s bytes quads h);
}
