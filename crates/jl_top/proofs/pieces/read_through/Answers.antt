use Rattle.jl_io.proofs.Outcomes.{on_ok, either, if_err_too}
use Rattle.jl_top.proofs.PieceLines.{fed_lines, stopped_lines, failed_fed, failed_stopped, rose_alone, same_alone}
use Rattle.jl_top.proofs.pieces.read_through.Goals as goal

pub returns-then-lines-clause-stopped : goal.returns-then-lines-clause-stopped
returns-then-lines-clause-stopped g c =
    let w0 = g.B.ByteOut.written c.args.lines.now.out.now in
    let w1 = g.B.ByteOut.written c.feed-read.new.out.out.now in
    let f0 = c.args.lines.now.failed in
    let f1 = c.feed-read.new.out.failed in
    record {
      stopped = λ s bytes quads h. either c.feed-read.result
          (λ f. failed_fed s bytes quads w0 w1 f0 f1 c.requires.unfailed c.args.piece.now c.feed-read.new.self (f s bytes quads h))
          (λ stop f. failed_stopped s bytes quads w0 w1 f0 f1 c.requires.unfailed c.args.piece.now stop c.feed-read.new.self (f s bytes quads h))
          c.feed-read.ensures.fed c.feed-read.ensures.stopped;
    }

pub returns-clause-fed : goal.returns-clause-fed
returns-clause-fed g c =
    on_ok c.feed-read.result (λ f s bytes quads h.
    fed_lines s bytes quads (g.B.ByteOut.written c.args.lines.now.out.now) (g.B.ByteOut.written c.feed-read.new.out.out.now) c.args.lines.now.failed c.feed-read.new.out.failed
    c.requires.unfailed c.args.piece.now c.feed-read.new.self c.if-lines.false (f s bytes quads h))
    c.feed-read.ensures.fed

pub returns-clause-stopped : goal.returns-clause-stopped
returns-clause-stopped g c =
    record {
      stopped = if_err_too c.feed-read.result (λ stop f s bytes quads h.
          stopped_lines s bytes quads (g.B.ByteOut.written c.args.lines.now.out.now) (g.B.ByteOut.written c.feed-read.new.out.out.now) c.args.lines.now.failed c.feed-read.new.out.failed
          c.requires.unfailed c.args.piece.now stop c.feed-read.new.self (f s bytes quads h) c.if-lines.false)
          c.feed-read.ensures.stopped;
    }

pub returns-clause-cause : goal.returns-clause-cause
returns-clause-cause g c =
    let h = c.feed-read.ensures.cause c.requires.begun.3.goes_on in
    let m = g.B.ByteOut.put_faults c.args.lines.now.out.now in
    let n = g.B.ByteOut.put_faults c.feed-read.new.out.out.now in
    let same = c.feed-read.ensures.beside.2.unrefused c.if-lines.false in
    record {
      later = c.feed-read.ensures.beside.2.later;
      failed = λ e. rose_alone m n c.args.lines.now.refused c.feed-read.new.out.refused c.requires.unrefused same (h.failed e);
      others = λ never. same_alone m n c.args.lines.now.refused c.feed-read.new.out.refused same (h.others never);
    }
