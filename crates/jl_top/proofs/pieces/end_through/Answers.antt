use Rattle.jl_io.proofs.Outcomes.{on_ok, either, if_err_too}
use Rattle.jl_top.proofs.PieceLines.{finished_lines, ended_lines, failed_finished, failed_ended, rose_alone, same_alone}
use Rattle.jl_top.proofs.pieces.end_through.Goals as goal

pub returns-then-lines-clause-stopped : goal.returns-then-lines-clause-stopped
returns-then-lines-clause-stopped g c =
    let w0 = g.B.ByteOut.written c.args.lines.now.out.now in
    let w1 = g.B.ByteOut.written c.finish-ended.new.out.out.now in
    let f0 = c.args.lines.now.failed in
    let f1 = c.finish-ended.new.out.failed in
    record {
      stopped = λ s bytes quads h. either c.finish-ended.result
          (λ f. failed_finished s bytes quads w0 w1 f0 f1 c.requires.unfailed (f s bytes quads h))
          (λ stop f. failed_ended s bytes quads w0 w1 f0 f1 c.requires.unfailed stop (f s bytes quads h))
          c.finish-ended.ensures.finished c.finish-ended.ensures.stopped;
    }

pub returns-clause-finished : goal.returns-clause-finished
returns-clause-finished g c =
    on_ok c.finish-ended.result (λ f s bytes quads h.
    finished_lines s bytes quads (g.B.ByteOut.written c.args.lines.now.out.now) (g.B.ByteOut.written c.finish-ended.new.out.out.now) c.args.lines.now.failed c.finish-ended.new.out.failed
    c.requires.unfailed c.if-lines.false (f s bytes quads h))
    c.finish-ended.ensures.finished

pub returns-clause-stopped : goal.returns-clause-stopped
returns-clause-stopped g c =
    record {
      stopped = if_err_too c.finish-ended.result (λ stop f s bytes quads h.
          ended_lines s bytes quads (g.B.ByteOut.written c.args.lines.now.out.now) (g.B.ByteOut.written c.finish-ended.new.out.out.now) c.args.lines.now.failed c.finish-ended.new.out.failed
          c.requires.unfailed stop c.if-lines.false (f s bytes quads h))
          c.finish-ended.ensures.stopped;
    }

pub returns-clause-cause : goal.returns-clause-cause
returns-clause-cause g c =
    let h = c.finish-ended.ensures.cause c.requires.begun.3.goes_on in
    let m = g.B.ByteOut.put_faults c.args.lines.now.out.now in
    let n = g.B.ByteOut.put_faults c.finish-ended.new.out.out.now in
    let same = c.finish-ended.ensures.beside.2.unrefused c.if-lines.false in
    record {
      later = c.finish-ended.ensures.beside.2.later;
      failed = λ e. rose_alone m n c.args.lines.now.refused c.finish-ended.new.out.refused c.requires.unrefused same (h.failed e);
      others = λ never. same_alone m n c.args.lines.now.refused c.finish-ended.new.out.refused same (h.others never);
    }
