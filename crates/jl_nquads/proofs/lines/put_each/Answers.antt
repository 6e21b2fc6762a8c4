use Rattle.std.proofs.Common.{◌++◌}
use Rattle.jl_io.proofs.Fronts.{put_then, cut_first, cut_then}
use Rattle.jl_io.proofs.Outcomes.{on_err, on_err_too, on_ok}
use Rattle.jl_nquads.proofs.lines.put_each.Goals as goal

pub returns-in_err-put_all-clause-cut : goal.returns-in_err-put_all-clause-cut
returns-in_err-put_all-clause-cut g c =
    let w0 = g.B.ByteOut.written c.args.out.now in
    let w1 = g.B.ByteOut.written c.put_all.new.out in
    on_err c.from_residual.result (cut_first w0 w1 c.args.front.now (c.args.text.now ++ c.args.back.now) c.in_err-put_all.ensures.cut)

pub returns-in_err-put_all-2-clause-cut : goal.returns-in_err-put_all-2-clause-cut
returns-in_err-put_all-2-clause-cut g c =
    let w0 = g.B.ByteOut.written c.args.out.now in
    let w1 = g.B.ByteOut.written c.put_all.new.out in
    let w2 = g.B.ByteOut.written c.put_all-2.new.out in
    on_err c.from_residual-in_err-put_all-2.result
    (cut_then w0 w1 w2 c.args.front.now (c.args.text.now ++ c.args.back.now) c.in_ok-put_all.ensures.put (cut_first w1 w2 c.args.text.now c.args.back.now c.in_err-put_all-2.ensures.cut))

pub returns-clause-put : goal.returns-clause-put
returns-clause-put g c =
    let w0 = g.B.ByteOut.written c.args.out.now in
    let w1 = g.B.ByteOut.written c.put_all.new.out in
    let w2 = g.B.ByteOut.written c.put_all-2.new.out in
    let w3 = g.B.ByteOut.written c.put_all-3.new.out in
    on_ok c.put_all-3.result (λ h. put_then w0 w1 w3 c.args.front.now (c.args.text.now ++ c.args.back.now) c.in_ok-put_all.ensures.put (put_then w1 w2 w3 c.args.text.now c.args.back.now c.in_ok-put_all-2.ensures.put h)) c.put_all-3.ensures.put

pub returns-clause-cut : goal.returns-clause-cut
returns-clause-cut g c =
    let w0 = g.B.ByteOut.written c.args.out.now in
    let w1 = g.B.ByteOut.written c.put_all.new.out in
    let w2 = g.B.ByteOut.written c.put_all-2.new.out in
    let w3 = g.B.ByteOut.written c.put_all-3.new.out in
    on_err_too c.put_all-3.result (λ h. cut_then w0 w1 w3 c.args.front.now (c.args.text.now ++ c.args.back.now) c.in_ok-put_all.ensures.put (cut_then w1 w2 w3 c.args.text.now c.args.back.now c.in_ok-put_all-2.ensures.put h)) c.put_all-3.ensures.cut
