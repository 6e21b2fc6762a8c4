use Rattle.std.proofs.Common.{rules, [], min, refl, sym, subst, ◌∙◌, ◌≡◌, ◌+◌, ◌==◌, length, take, arith, IsErr, Err, ap, false, true}
use Rattle.std.proofs.lemmas.List.{length-take, length-take-le}
use Rattle.std.proofs.lemmas.Bool.{ne_eqb, eq-eqb}
use Rattle.jl_io.specs.Outside.{appended, Leaves}
use Rattle.jl_model.proofs.Causing.{cause_none, cause_after, cause_as}
use Rattle.jl_engine.specs.declared.stops.Stop.TheVariants as stops
use Rattle.jl_top.specs.Blocks.{CountsLines}
use Rattle.jl_top.specs.Pieces.{FedLines, StoppedLines}
use Rattle.jl_top.specs.Runs.{EndsRun, piece_stop_for}
use Rattle.jl_top.specs.declared.stops.ReadStop.TheVariants.{TakeFault, OutFault}
use Rattle.jl_top.proofs.Going.{going_start, going_more, begun_more, end_answers, take_answers, piece_answers, long_answers, going_short, piece_fault_from, piece_take_fault, not_out, err_of, piece_fault_to, stop_of}
use Rattle.jl_engine.proofs.DuePut.{due-said}
use Rattle.jl_top.proofs.DueLines.{going_due}
use Rattle.jl_top.proofs.PieceLines.{at_stop}
use Rattle.jl_top.proofs.runs.read_on.Goals as goal

pub loop-taken-init : goal.loop-taken-init
loop-taken-init g c =
    record {
      going = going_start c.args.engine.now c.args.block.now (g.P.Port.taken c.args.port.now) (g.P.Port.left c.args.port.now) (g.P.ByteOut.written c.args.port.now) c.requires.fresh c.requires.block;
      begun = c.requires.begun;
      ended = c.requires.open;
      may = c.requires.may;
      said = refl;
      takes = refl;
      puts = refl;
    }

pub take-requires-clause-may : goal.take-requires-clause-may
take-requires-clause-may g c = λ t p taken put.
    let short = going_short c.args.engine.now c.loop-taken.engine c.loop-taken.block (g.P.Port.taken c.loop-taken.port) (g.P.Port.left c.args.port.now) (g.P.Port.left c.loop-taken.port) (g.P.ByteOut.written c.loop-taken.port) c.loop-taken.taken c.loop-taken.invariant.going
    (omega (arith, c.loop-taken-test.true)) t taken in
    let m = c.loop-taken.invariant.may in
    m.grants t p short
    (going_due c.args.engine.now c.loop-taken.engine c.loop-taken.block (g.P.Port.taken c.loop-taken.port) (g.P.Port.left c.args.port.now) (g.P.Port.left c.loop-taken.port) (g.P.ByteOut.written c.loop-taken.port) c.loop-taken.taken m.settings
    (λ bytes quads stands. due-said m.settings bytes quads c.loop-taken.engine stands) c.loop-taken.invariant.going m.stands t p taken put)

pub returns-in-Err-clause-answers : goal.returns-in-Err-clause-answers
returns-in-Err-clause-answers g c = λ s start.
    take_answers c.args.engine.now c.loop-taken.engine c.loop-taken.block (g.P.Port.taken c.loop-taken.port) (g.P.Port.left c.args.port.now) (g.P.Port.left c.loop-taken.port) (g.P.ByteOut.written c.loop-taken.port) c.loop-taken.taken c.loop-taken.invariant.going s start
    (g.P.Port.taken c.take.new.self) (g.P.Port.left c.take.new.self) (g.P.ByteOut.written c.take.new.self) (g.P.Port.ended c.take.new.self) c.in-Err.ensures.err_taken c.in-Err.ensures.err_left c.take.ensures.written

pub returns-in-Err-clause-counts : goal.returns-in-Err-clause-counts
returns-in-Err-clause-counts g c = subst (λ w. CountsLines w c.loop-taken.block.lines) (sym c.take.ensures.written) c.loop-taken.invariant.going.counts

pub returns-in-Err-clause-takes : goal.returns-in-Err-clause-takes
returns-in-Err-clause-takes g c =
    let m = g.P.Port.take_faults c.args.port.now in
    let n = g.P.Port.take_faults c.take.new.self in
    let h = cause_after m (g.P.Port.take_faults c.loop-taken.port) n _ c.loop-taken.invariant.takes c.take.ensures.cause in
    cause_as m n _ _ (λ e. refl) (λ e. subst (λ r. IsErr r) (sym c.in-Err.is) refl) h

pub returns-in-Err-clause-puts : goal.returns-in-Err-clause-puts
returns-in-Err-clause-puts g c =
    cause_none (g.P.ByteOut.put_faults c.args.port.now) (g.P.ByteOut.put_faults c.take.new.self) _ (c.take.ensures.put_faults ∙ c.loop-taken.invariant.puts) not_out

pub returns-then-n-eq0-clause-answers : goal.returns-then-n-eq0-clause-answers
returns-then-n-eq0-clause-answers g c = λ s start.
    let b = c.end.ensures.beside in
    let taken = subst (λ n. g.P.Port.taken c.take.new.self ≡ appended (g.P.Port.taken c.loop-taken.port) (take n c.take.new.buf)) c.if-n-eq0.true c.in-Ok.ensures.taken in
    let left = subst (λ n. Leaves (g.P.Port.left c.loop-taken.port) (take n c.take.new.buf) (g.P.Port.left c.take.new.self)) c.if-n-eq0.true c.in-Ok.ensures.left in
    let ended : g.P.Port.ended c.take.new.self ≡ true = c.in-Ok.ensures.end ∙ eq-eqb c.in-Ok.n 0 c.if-n-eq0.true in
    end_answers c.args.engine.now c.loop-taken.engine c.loop-taken.block (g.P.Port.taken c.loop-taken.port) (g.P.Port.left c.args.port.now) (g.P.Port.left c.loop-taken.port) (g.P.ByteOut.written c.loop-taken.port) c.loop-taken.taken c.loop-taken.invariant.going s start
    (g.P.Port.taken c.end.new.port) (g.P.Port.left c.end.new.port) (g.P.ByteOut.written c.end.new.port)
    (g.met.P.Port.keeps_taken c.take.new.self c.end.new.port b ∙ taken) (subst (λ l. Leaves (g.P.Port.left c.loop-taken.port) [] l) (sym (g.met.P.Port.keeps_left c.take.new.self c.end.new.port b)) left) (c.in-Ok.ensures.none_left c.if-n-eq0.true)
    c.end.result (g.P.Port.ended c.end.new.port) (g.met.P.Port.keeps_ended c.take.new.self c.end.new.port b ∙ ended)
    (subst (λ w. EndsRun c.end.result c.loop-taken.engine w (g.P.ByteOut.written c.end.new.port)) c.take.ensures.written c.end.ensures.answers)

pub returns-then-n-eq0-clause-counts : goal.returns-then-n-eq0-clause-counts
returns-then-n-eq0-clause-counts g c = c.end.ensures.counts (subst (λ w. CountsLines w c.loop-taken.block.lines) (sym c.take.ensures.written) c.loop-taken.invariant.going.counts)

pub returns-then-n-eq0-clause-said : goal.returns-then-n-eq0-clause-said
returns-then-n-eq0-clause-said g c = g.met.P.Port.keeps_said c.take.new.self c.end.new.port c.end.ensures.beside ∙ c.take.ensures.said ∙ c.loop-taken.invariant.said

pub returns-then-n-eq0-clause-takes : goal.returns-then-n-eq0-clause-takes
returns-then-n-eq0-clause-takes g c =
    let same = g.met.P.Port.keeps_take_faults c.take.new.self c.end.new.port c.end.ensures.beside in
    let kept : g.P.Port.take_faults c.take.new.self ≡ g.P.Port.take_faults c.args.port.now = search rules in
    cause_none (g.P.Port.take_faults c.args.port.now) (g.P.Port.take_faults c.end.new.port) _ (same ∙ kept) c.end.ensures.takes

pub returns-then-n-eq0-clause-puts : goal.returns-then-n-eq0-clause-puts
returns-then-n-eq0-clause-puts g c =
    cause_after (g.P.ByteOut.put_faults c.args.port.now) (g.P.ByteOut.put_faults c.take.new.self) (g.P.ByteOut.put_faults c.end.new.port) _
    (c.take.ensures.put_faults ∙ c.loop-taken.invariant.puts) c.end.ensures.puts

pub returns-in-Err-read_piece-clause-answers : goal.returns-in-Err-read_piece-clause-answers
returns-in-Err-read_piece-clause-answers g c = λ s start.
    let b = c.read_piece.ensures.beside in
    let piece = take c.in-Ok.n c.take.new.buf in
    let left = subst (λ l. Leaves (g.P.Port.left c.loop-taken.port) piece l) (sym (g.met.P.Port.keeps_left c.take.new.self c.read_piece.new.out b)) c.in-Ok.ensures.left in
    let stopped = at_stop c.read_piece.result c.in-Err-read_piece.stop c.loop-taken.engine c.read_piece.new.engine piece (g.P.ByteOut.written c.take.new.self) (g.P.ByteOut.written c.read_piece.new.out) c.read_piece.ensures.stopped c.in-Err-read_piece.is s in
    piece_answers c.args.engine.now c.loop-taken.engine c.loop-taken.block (g.P.Port.taken c.loop-taken.port) (g.P.Port.left c.args.port.now) (g.P.Port.left c.loop-taken.port) (g.P.ByteOut.written c.loop-taken.port) c.loop-taken.taken c.loop-taken.invariant.going s start
    (g.P.Port.taken c.read_piece.new.out) (g.P.Port.left c.read_piece.new.out) (g.P.ByteOut.written c.read_piece.new.out) piece c.read_piece.new.engine
    (g.met.P.Port.keeps_taken c.take.new.self c.read_piece.new.out b ∙ c.in-Ok.ensures.taken) left (g.P.Port.ended c.read_piece.new.out) c.in-Err-read_piece.stop c.piece_stop.result
    (let most = c.requires.piece in let short : length piece ≡ min c.in-Ok.n (length c.take.new.buf) = length-take c.in-Ok.n c.take.new.buf in omega (arith, most, short))
    (λ bytes quads stands. subst (λ w. StoppedLines s bytes quads piece c.in-Err-read_piece.stop c.read_piece.new.engine w (g.P.ByteOut.written c.read_piece.new.out)) c.take.ensures.written (stopped bytes quads stands))
    (subst (λ n. c.piece_stop.result ≡ piece_stop_for c.in-Err-read_piece.stop n) c.bytes.ensures c.piece_stop.ensures)

pub returns-in-Err-read_piece-clause-counts : goal.returns-in-Err-read_piece-clause-counts
returns-in-Err-read_piece-clause-counts g c = c.read_piece.ensures.counts (subst (λ w. CountsLines w c.loop-taken.block.lines) (sym c.take.ensures.written) c.loop-taken.invariant.going.counts)

pub returns-in-Err-read_piece-clause-said : goal.returns-in-Err-read_piece-clause-said
returns-in-Err-read_piece-clause-said g c = g.met.P.Port.keeps_said c.take.new.self c.read_piece.new.out c.read_piece.ensures.beside ∙ c.take.ensures.said ∙ c.loop-taken.invariant.said

pub returns-in-Err-read_piece-clause-takes : goal.returns-in-Err-read_piece-clause-takes
returns-in-Err-read_piece-clause-takes g c =
    let same = g.met.P.Port.keeps_take_faults c.take.new.self c.read_piece.new.out c.read_piece.ensures.beside in
    let kept : g.P.Port.take_faults c.take.new.self ≡ g.P.Port.take_faults c.args.port.now = search rules in
    cause_none (g.P.Port.take_faults c.args.port.now) (g.P.Port.take_faults c.read_piece.new.out) _ (same ∙ kept)
    (λ e. piece_take_fault c.in-Err-read_piece.stop c.bytes.result (sym c.piece_stop.ensures ∙ err_of c.piece_stop.result TakeFault e))

pub returns-in-Err-read_piece-clause-puts : goal.returns-in-Err-read_piece-clause-puts
returns-in-Err-read_piece-clause-puts g c =
    let m = g.P.ByteOut.put_faults c.args.port.now in
    let n = g.P.ByteOut.put_faults c.read_piece.new.out in
    let h = cause_after m (g.P.ByteOut.put_faults c.take.new.self) n _ (c.take.ensures.put_faults ∙ c.loop-taken.invariant.puts) c.read_piece.ensures.cause in
    cause_as m n _ _
    (λ e. ap (λ r. Err r) (piece_fault_to c.in-Err-read_piece.stop c.bytes.result c.piece_stop.result c.piece_stop.ensures (stop_of c.in-Err-read_piece.stop stops.OutFault (sym c.in-Err-read_piece.is ∙ e))))
    (λ e. c.in-Err-read_piece.is ∙ ap (λ s. Err s) (piece_fault_from c.in-Err-read_piece.stop c.bytes.result (sym c.piece_stop.ensures ∙ err_of c.piece_stop.result OutFault e)))
    h

pub loop-taken-preserved : goal.loop-taken-preserved
loop-taken-preserved g c =
    let k = c.loop-taken.invariant.going in
    let b = c.read_piece.ensures.beside in
    let piece = take c.in-Ok.n c.take.new.buf in
    let left = subst (λ l. Leaves (g.P.Port.left c.loop-taken.port) piece l) (sym (g.met.P.Port.keeps_left c.take.new.self c.read_piece.new.out b)) c.in-Ok.ensures.left in
    let long : length piece ≡ c.in-Ok.n = length-take-le c.in-Ok.n c.take.new.buf c.in-Ok.ensures.within in
    let end : (c.in-Ok.n == 0) ≡ false = ne_eqb c.in-Ok.n 0 c.if-n-eq0.false in
    let takes_same = g.met.P.Port.keeps_take_faults c.take.new.self c.read_piece.new.out b in
    let takes_kept : g.P.Port.take_faults c.take.new.self ≡ g.P.Port.take_faults c.args.port.now = search rules in
    let puts_kept : g.P.ByteOut.put_faults c.read_piece.new.out ≡ g.P.ByteOut.put_faults c.args.port.now = search rules in
    record {
      going = going_more c.args.engine.now c.loop-taken.engine c.read_piece.new.engine c.loop-taken.block c.read_piece.new.block (g.P.Port.taken c.loop-taken.port) (g.P.Port.taken c.read_piece.new.out) (g.P.Port.left c.args.port.now) (g.P.Port.left c.loop-taken.port) (g.P.Port.left c.read_piece.new.out)
          (g.P.ByteOut.written c.loop-taken.port) (g.P.ByteOut.written c.read_piece.new.out) c.loop-taken.taken (c.loop-taken.taken + c.in-Ok.n) piece k
          (g.met.P.Port.keeps_taken c.take.new.self c.read_piece.new.out b ∙ c.in-Ok.ensures.taken) left
          (λ s bytes quads stands. subst (λ w. FedLines s bytes quads piece c.read_piece.new.engine w (g.P.ByteOut.written c.read_piece.new.out)) c.take.ensures.written (c.in_default.ensures.fed s bytes quads stands))
          c.in_default.ensures.none_held
          (λ n. c.read_piece.ensures.counts (subst (λ w. CountsLines w c.loop-taken.block.lines) (sym c.take.ensures.written) n)) (omega (arith, long));
      begun = begun_more c.loop-taken.engine c.read_piece.new.engine piece (g.P.ByteOut.written c.take.new.self) (g.P.ByteOut.written c.read_piece.new.out) c.loop-taken.invariant.begun c.in_default.ensures.fed;
      ended = g.met.P.Port.keeps_ended c.take.new.self c.read_piece.new.out b ∙ c.in-Ok.ensures.end ∙ end;
      may = let m = c.loop-taken.invariant.may in
          record {
            settings = m.settings;
            stands = m.stands;
            grants = λ t p short due. (g.met.P.Port.keeps_may_take c.take.new.self c.read_piece.new.out b t p).0 ((c.take.ensures.may_take t p).0 (m.grants t p short due));
          };
      said = g.met.P.Port.keeps_said c.take.new.self c.read_piece.new.out b ∙ c.take.ensures.said ∙ c.loop-taken.invariant.said;
      takes = takes_same ∙ takes_kept;
      puts = puts_kept;
    }

pub returns-clause-answers : goal.returns-clause-answers
returns-clause-answers g c = λ s start.
    long_answers c.args.engine.now c.loop-taken.engine c.loop-taken.block (g.P.Port.taken c.loop-taken.port) (g.P.Port.left c.args.port.now) (g.P.Port.left c.loop-taken.port) (g.P.ByteOut.written c.loop-taken.port) c.loop-taken.taken
    c.loop-taken.invariant.going s start (g.P.Port.ended c.loop-taken.port) (omega (arith, c.loop-taken-test.false))

pub returns-clause-counts : goal.returns-clause-counts
returns-clause-counts g c = c.loop-taken.invariant.going.counts
