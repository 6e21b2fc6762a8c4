use Rattle.std.proofs.Common.{rules, [], Ok, Err, IsErr, refl, sym, ap, subst, ◌∙◌, ◌≡◌, ◌+◌, ◌==◌, length, take, min, arith, true, false}
use Rattle.std.proofs.lemmas.List.{length-take, length-take-le}
use Rattle.std.proofs.lemmas.Bool.{ne_eqb, eq-eqb}
use Rattle.jl_io.specs.Outside.{appended, Leaves}
use Rattle.jl_model.proofs.Causing.{cause_none, cause_after, cause_as}
use Rattle.jl_engine.specs.declared.stops.Stop.TheVariants as stops
use Rattle.jl_top.specs.ConversionRuns.{EndsLines, AnswersLines}
use Rattle.jl_top.specs.Conversions.{AnswersPiece}
use Rattle.jl_top.specs.Runs.{read_stop_for}
use Rattle.jl_top.specs.declared.stops.ReadStop.TheVariants.{TakeFault, OutFault}
use Rattle.jl_top.proofs.ConvertingRuns.{converting_start, place_is, converting_more, may_take_more, take_stops, long_stops, piece_stops, end_lines, stop_fault_to, stop_fault_from, stop_take_fault}
use Rattle.jl_top.proofs.Going.{not_out, err_of, stop_of}
use Rattle.jl_top.proofs.conversion_runs.convert_on.Goals as goal

pub loop-taken-init : goal.loop-taken-init
loop-taken-init g c = record {
  going = converting_start c.args.conversion.now c.args.block.now (g.P.Port.taken c.args.port.now) (g.P.Port.left c.args.port.now) (g.P.ByteOut.written c.args.port.now) c.requires.fresh c.requires.block c.requires.begun;
  goes_on = c.requires.begun.writes.goes_on;
  ended = c.requires.open;
  may = c.requires.may;
  said = refl;
  takes = refl;
  puts = refl;
}

pub take-requires-clause-may : goal.take-requires-clause-may
take-requires-clause-may g c = λ t p taken put.
    may_take_more c.loop-taken.conversion c.loop-taken.block (g.P.Port.taken c.loop-taken.port) (g.P.Port.left c.args.port.now) (g.P.Port.left c.loop-taken.port) (g.P.ByteOut.written c.args.port.now) (g.P.ByteOut.written c.loop-taken.port) c.loop-taken.taken c.loop-taken.invariant.going
    (g.P.Port.may_take c.loop-taken.port) c.loop-taken.invariant.may c.requires.fresh.none_put (omega (arith, c.loop-taken-test.true)) t p taken put

pub returns-in-Err-clause-answers : goal.returns-in-Err-clause-answers
returns-in-Err-clause-answers g c =
    take_stops c.loop-taken.conversion c.loop-taken.block (g.P.Port.taken c.loop-taken.port) (g.P.Port.left c.args.port.now) (g.P.Port.left c.loop-taken.port) (g.P.ByteOut.written c.args.port.now) (g.P.ByteOut.written c.loop-taken.port) c.loop-taken.taken c.loop-taken.invariant.going c.requires.fresh.none_put
    (g.P.Port.taken c.take.new.self) (g.P.Port.left c.take.new.self) (g.P.ByteOut.written c.take.new.self) (g.P.Port.ended c.take.new.self) c.in-Err.ensures.err_taken c.in-Err.ensures.err_left c.take.ensures.written

pub returns-in-Err-clause-takes : goal.returns-in-Err-clause-takes
returns-in-Err-clause-takes g c =
    let m = g.P.Port.take_faults c.args.port.now in
    let n = g.P.Port.take_faults c.take.new.self in
    let h = cause_after m (g.P.Port.take_faults c.loop-taken.port) n _ c.loop-taken.invariant.takes c.take.ensures.cause in
    cause_as m n _ _ (λ e. refl) (λ e. subst (λ r. IsErr r) (sym c.in-Err.is) refl) h

pub returns-in-Err-clause-puts : goal.returns-in-Err-clause-puts
returns-in-Err-clause-puts g c =
    cause_none (g.P.ByteOut.put_faults c.args.port.now) (g.P.ByteOut.put_faults c.take.new.self) _ (c.take.ensures.put_faults ∙ c.loop-taken.invariant.puts) not_out

pub returns-then-n-eq0-clause-answers : goal.returns-then-n-eq0-clause-answers
returns-then-n-eq0-clause-answers g c =
    let b = c.end.ensures.beside in
    let taken = subst (λ n. g.P.Port.taken c.take.new.self ≡ appended (g.P.Port.taken c.loop-taken.port) (take n c.take.new.buf)) c.if-n-eq0.true c.in-Ok.ensures.taken in
    let left = subst (λ n. Leaves (g.P.Port.left c.loop-taken.port) (take n c.take.new.buf) (g.P.Port.left c.take.new.self)) c.if-n-eq0.true c.in-Ok.ensures.left in
    let ended : g.P.Port.ended c.take.new.self ≡ true = c.in-Ok.ensures.end ∙ eq-eqb c.in-Ok.n 0 c.if-n-eq0.true in
    end_lines c.loop-taken.conversion c.loop-taken.block (g.P.Port.taken c.loop-taken.port) (g.P.Port.left c.args.port.now) (g.P.Port.left c.loop-taken.port) (g.P.ByteOut.written c.args.port.now) (g.P.ByteOut.written c.loop-taken.port) c.loop-taken.taken c.loop-taken.invariant.going c.requires.fresh.none_put
    (g.P.Port.taken c.end.new.port) (g.P.Port.left c.end.new.port) (g.P.ByteOut.written c.end.new.port)
    (g.met.P.Port.keeps_taken c.take.new.self c.end.new.port b ∙ taken) (subst (λ l. Leaves (g.P.Port.left c.loop-taken.port) [] l) (sym (g.met.P.Port.keeps_left c.take.new.self c.end.new.port b)) left) (c.in-Ok.ensures.none_left c.if-n-eq0.true)
    c.end.new.conversion c.end.result (g.P.Port.ended c.end.new.port) (g.met.P.Port.keeps_ended c.take.new.self c.end.new.port b ∙ ended)
    (subst (λ w. EndsLines c.end.result c.loop-taken.conversion c.end.new.conversion w (g.P.ByteOut.written c.end.new.port)) c.take.ensures.written c.end.ensures.answer)

pub returns-then-n-eq0-clause-said : goal.returns-then-n-eq0-clause-said
returns-then-n-eq0-clause-said g c = g.met.P.Port.keeps_said c.take.new.self c.end.new.port c.end.ensures.beside ∙ c.take.ensures.said ∙ c.loop-taken.invariant.said

pub returns-then-n-eq0-clause-takes : goal.returns-then-n-eq0-clause-takes
returns-then-n-eq0-clause-takes g c =
    let same = g.met.P.Port.keeps_take_faults c.take.new.self c.end.new.port c.end.ensures.beside in
    let kept : g.P.Port.take_faults c.take.new.self ≡ g.P.Port.take_faults c.args.port.now = search rules in
    cause_none (g.P.Port.take_faults c.args.port.now) (g.P.Port.take_faults c.end.new.port) _ (same ∙ kept) c.end.ensures.takes

pub returns-then-n-eq0-clause-puts : goal.returns-then-n-eq0-clause-puts
returns-then-n-eq0-clause-puts g c =
    cause_after (g.P.ByteOut.put_faults c.args.port.now) (g.P.ByteOut.put_faults c.take.new.self) (g.P.ByteOut.put_faults c.end.new.port) _
    (c.take.ensures.put_faults ∙ c.loop-taken.invariant.puts) c.end.ensures.puts

pub returns-in-Err-convert_piece-clause-answers : goal.returns-in-Err-convert_piece-clause-answers
returns-in-Err-convert_piece-clause-answers g c =
    let b = c.convert_piece.ensures.beside in
    let piece = take c.in-Ok.n c.take.new.buf in
    let left = subst (λ l. Leaves (g.P.Port.left c.loop-taken.port) piece l) (sym (g.met.P.Port.keeps_left c.take.new.self c.convert_piece.new.out b)) c.in-Ok.ensures.left in
    let k = c.loop-taken.invariant.going in
    let stopped = subst (λ w. AnswersPiece (Err c.in-Err-convert_piece.stop) piece c.loop-taken.conversion c.convert_piece.new.conversion w (g.P.ByteOut.written c.convert_piece.new.out)) c.take.ensures.written c.in-Err-convert_piece.ensures.answer in
    subst (λ s. AnswersLines (Err s) c.convert_piece.new.conversion.quads (g.P.Port.taken c.convert_piece.new.out) (g.P.Port.left c.args.port.now) (g.P.Port.left c.convert_piece.new.out) (g.P.ByteOut.written c.convert_piece.new.out) (g.P.Port.ended c.convert_piece.new.out)) (sym c.read_stop_of.ensures)
    (piece_stops c.loop-taken.conversion c.loop-taken.block (g.P.Port.taken c.loop-taken.port) (g.P.Port.left c.args.port.now) (g.P.Port.left c.loop-taken.port) (g.P.ByteOut.written c.args.port.now) (g.P.ByteOut.written c.loop-taken.port) c.loop-taken.taken k c.requires.fresh.none_put
    (g.P.Port.taken c.convert_piece.new.out) (g.P.Port.left c.convert_piece.new.out) (g.P.ByteOut.written c.convert_piece.new.out) piece c.convert_piece.new.conversion
    (g.met.P.Port.keeps_taken c.take.new.self c.convert_piece.new.out b ∙ c.in-Ok.ensures.taken) left (g.P.Port.ended c.convert_piece.new.out)
    (let most = c.requires.piece in let short : length piece ≡ min c.in-Ok.n (length c.take.new.buf) = length-take c.in-Ok.n c.take.new.buf in omega (arith, most, short))
    c.in-Err-convert_piece.stop (stopped (g.P.ByteOut.written c.args.port.now) k.bytes k.quads k.converts))

pub returns-in-Err-convert_piece-clause-said : goal.returns-in-Err-convert_piece-clause-said
returns-in-Err-convert_piece-clause-said g c = g.met.P.Port.keeps_said c.take.new.self c.convert_piece.new.out c.convert_piece.ensures.beside ∙ c.take.ensures.said ∙ c.loop-taken.invariant.said

pub returns-in-Err-convert_piece-clause-takes : goal.returns-in-Err-convert_piece-clause-takes
returns-in-Err-convert_piece-clause-takes g c =
    let same = g.met.P.Port.keeps_take_faults c.take.new.self c.convert_piece.new.out c.convert_piece.ensures.beside in
    let kept : g.P.Port.take_faults c.take.new.self ≡ g.P.Port.take_faults c.args.port.now = search rules in
    cause_none (g.P.Port.take_faults c.args.port.now) (g.P.Port.take_faults c.convert_piece.new.out) _ (same ∙ kept)
    (λ e. stop_take_fault c.in-Err-convert_piece.stop (sym c.read_stop_of.ensures ∙ err_of c.read_stop_of.result TakeFault e))

pub returns-in-Err-convert_piece-clause-puts : goal.returns-in-Err-convert_piece-clause-puts
returns-in-Err-convert_piece-clause-puts g c =
    let m = g.P.ByteOut.put_faults c.args.port.now in
    let n = g.P.ByteOut.put_faults c.convert_piece.new.out in
    let h = cause_after m (g.P.ByteOut.put_faults c.take.new.self) n _ (c.take.ensures.put_faults ∙ c.loop-taken.invariant.puts) c.convert_piece.ensures.cause in
    cause_as m n _ _
    (λ e. ap (λ r. Err r) (stop_fault_to c.in-Err-convert_piece.stop c.read_stop_of.result c.read_stop_of.ensures (stop_of c.in-Err-convert_piece.stop stops.OutFault (sym c.in-Err-convert_piece.is ∙ e))))
    (λ e. c.in-Err-convert_piece.is ∙ ap (λ s. Err s) (stop_fault_from c.in-Err-convert_piece.stop (sym c.read_stop_of.ensures ∙ err_of c.read_stop_of.result OutFault e)))
    h

pub loop-taken-preserved : goal.loop-taken-preserved
loop-taken-preserved g c =
    let k = c.loop-taken.invariant.going in
    let b = c.convert_piece.ensures.beside in
    let piece = take c.in-Ok.n c.take.new.buf in
    let left = subst (λ l. Leaves (g.P.Port.left c.loop-taken.port) piece l) (sym (g.met.P.Port.keeps_left c.take.new.self c.convert_piece.new.out b)) c.in-Ok.ensures.left in
    let long : length piece ≡ c.in-Ok.n = length-take-le c.in-Ok.n c.take.new.buf c.in-Ok.ensures.within in
    let end : (c.in-Ok.n == 0) ≡ false = ne_eqb c.in-Ok.n 0 c.if-n-eq0.false in
    let takes_same = g.met.P.Port.keeps_take_faults c.take.new.self c.convert_piece.new.out b in
    let takes_kept : g.P.Port.take_faults c.take.new.self ≡ g.P.Port.take_faults c.args.port.now = search rules in
    let puts_kept : g.P.ByteOut.put_faults c.convert_piece.new.out ≡ g.P.ByteOut.put_faults c.args.port.now = search rules in
    record {
      going = converting_more c.loop-taken.conversion c.loop-taken.block (g.P.Port.taken c.loop-taken.port) (g.P.Port.left c.args.port.now) (g.P.Port.left c.loop-taken.port) (g.P.ByteOut.written c.args.port.now) (g.P.ByteOut.written c.loop-taken.port) c.loop-taken.taken k
          c.convert_piece.new.conversion c.convert_piece.new.block (g.P.Port.taken c.convert_piece.new.out) (g.P.Port.left c.convert_piece.new.out) (g.P.ByteOut.written c.convert_piece.new.out) (c.loop-taken.taken + c.in-Ok.n) piece
          (g.met.P.Port.keeps_taken c.take.new.self c.convert_piece.new.out b ∙ c.in-Ok.ensures.taken) left
          (subst (λ w. AnswersPiece (Ok tt) piece c.loop-taken.conversion c.convert_piece.new.conversion w (g.P.ByteOut.written c.convert_piece.new.out)) c.take.ensures.written c.in_default.ensures.answer)
          c.in_default.ensures.none_held (omega (arith, long));
      goes_on = c.in_default.ensures.goes_on;
      ended = g.met.P.Port.keeps_ended c.take.new.self c.convert_piece.new.out b ∙ c.in-Ok.ensures.end ∙ end;
      may = λ t p begun quads short lines text. (g.met.P.Port.keeps_may_take c.take.new.self c.convert_piece.new.out b t p).0 ((c.take.ensures.may_take t p).0 (c.loop-taken.invariant.may t p begun quads short lines text));
      said = g.met.P.Port.keeps_said c.take.new.self c.convert_piece.new.out b ∙ c.take.ensures.said ∙ c.loop-taken.invariant.said;
      takes = takes_same ∙ takes_kept;
      puts = puts_kept;
    }

pub returns-clause-answers : goal.returns-clause-answers
returns-clause-answers g c =
    long_stops c.loop-taken.conversion c.loop-taken.block (g.P.Port.taken c.loop-taken.port) (g.P.Port.left c.args.port.now) (g.P.Port.left c.loop-taken.port) (g.P.ByteOut.written c.args.port.now) (g.P.ByteOut.written c.loop-taken.port) c.loop-taken.taken
    c.loop-taken.invariant.going c.requires.fresh.none_put (g.P.Port.ended c.loop-taken.port) (omega (arith, c.loop-taken-test.false))
