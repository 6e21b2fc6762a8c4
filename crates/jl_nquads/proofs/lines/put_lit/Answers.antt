use Rattle.std.proofs.Common.{flat_map, codes, ◌++◌}
use Rattle.jl_model.specs.Lines.{escaped, suffix_text}
use Rattle.jl_nquads.specs.Endings.{ending}
use Rattle.jl_io.proofs.Fronts.{put_then, cut_first, cut_then}
use Rattle.jl_nquads.proofs.Joins.{lit_put, lit_cut}
use Rattle.jl_io.proofs.Outcomes.{on_err, on_err_too, on_ok}
use Rattle.jl_nquads.proofs.lines.put_lit.Goals as goal

pub returns-in_err-put_string-clause-cut : goal.returns-in_err-put_string-clause-cut
returns-in_err-put_string-clause-cut g c =
    let w0 = g.B.ByteOut.written c.args.out.now in
    let w1 = g.B.ByteOut.written c.put_string.new.out in
    let text = flat_map escaped c.args.text.now in
    let suffix = suffix_text c.args.datatype.now c.args.language.now in
    on_err c.from_residual.result (lit_cut w0 w1 text suffix (cut_first w0 w1 (codes "\"" ++ text) (ending c.args.datatype.now c.args.language.now) c.in_err-put_string.ensures.cut))

pub returns-clause-put : goal.returns-clause-put
returns-clause-put g c =
    let w0 = g.B.ByteOut.written c.args.out.now in
    let w1 = g.B.ByteOut.written c.put_string.new.out in
    let w2 = g.B.ByteOut.written c.put_ending.new.out in
    let text = flat_map escaped c.args.text.now in
    let suffix = suffix_text c.args.datatype.now c.args.language.now in
    on_ok c.put_ending.result
    (λ h. lit_put w0 w2 text suffix (put_then w0 w1 w2 (codes "\"" ++ text) (ending c.args.datatype.now c.args.language.now) c.in_ok-put_string.ensures.put h)) c.put_ending.ensures.put

pub returns-clause-cut : goal.returns-clause-cut
returns-clause-cut g c =
    let w0 = g.B.ByteOut.written c.args.out.now in
    let w1 = g.B.ByteOut.written c.put_string.new.out in
    let w2 = g.B.ByteOut.written c.put_ending.new.out in
    let text = flat_map escaped c.args.text.now in
    let suffix = suffix_text c.args.datatype.now c.args.language.now in
    on_err_too c.put_ending.result
    (λ h. lit_cut w0 w2 text suffix (cut_then w0 w1 w2 (codes "\"" ++ text) (ending c.args.datatype.now c.args.language.now) c.in_ok-put_string.ensures.put h)) c.put_ending.ensures.cut
