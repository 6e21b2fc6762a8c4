use Rattle.std.proofs.Common.{flat_map, codes}
use Rattle.jl_model.specs.Lines.{escaped}
use Rattle.jl_io.proofs.Fronts.{put_then, cut_first, cut_then}
use Rattle.jl_io.proofs.Outcomes.{on_err, on_err_too, on_ok}
use Rattle.jl_nquads.proofs.lines.put_quoted.Goals as goal

pub returns-in_err-put_all-clause-cut : goal.returns-in_err-put_all-clause-cut
returns-in_err-put_all-clause-cut g c =
    on_err c.from_residual.result (cut_first (g.B.ByteOut.written c.args.out.now) (g.B.ByteOut.written c.put_all.new.out) (codes "\"") (flat_map escaped c.args.text.now) c.in_err-put_all.ensures.cut)

pub returns-clause-put : goal.returns-clause-put
returns-clause-put g c =
    let w0 = g.B.ByteOut.written c.args.out.now in
    let w1 = g.B.ByteOut.written c.put_all.new.out in
    let w2 = g.B.ByteOut.written c.put_escaped.new.out in
    on_ok c.put_escaped.result (put_then w0 w1 w2 (codes "\"") (flat_map escaped c.args.text.now) c.in_ok-put_all.ensures.put) c.put_escaped.ensures.put

pub returns-clause-cut : goal.returns-clause-cut
returns-clause-cut g c =
    let w0 = g.B.ByteOut.written c.args.out.now in
    let w1 = g.B.ByteOut.written c.put_all.new.out in
    let w2 = g.B.ByteOut.written c.put_escaped.new.out in
    on_err_too c.put_escaped.result (cut_then w0 w1 w2 (codes "\"") (flat_map escaped c.args.text.now) c.in_ok-put_all.ensures.put) c.put_escaped.ensures.cut
