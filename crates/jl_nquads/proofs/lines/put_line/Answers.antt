use Rattle.std.proofs.Common.{codes, ◌++◌}
use Rattle.jl_model.specs.Lines.{spaced, term_text, iri_text, graph_text}
use Rattle.std.specs.Option.{option_copied}
use Rattle.jl_io.proofs.Fronts.{put_then, cut_first, cut_then}
use Rattle.jl_io.proofs.Outcomes.{on_err, on_err_too, on_ok}
use Rattle.jl_nquads.proofs.lines.put_line.Goals as goal

pub returns-in_err-put_spaced-clause-cut : goal.returns-in_err-put_spaced-clause-cut
returns-in_err-put_spaced-clause-cut g c =
    let w0 = g.B.ByteOut.written c.args.out.now in
    let w1 = g.B.ByteOut.written c.put_spaced.new.out in
    let s = spaced (term_text c.args.subject.now) in
    let p = spaced (iri_text c.args.predicate.now) in
    let o = spaced (term_text c.args.object.now) in
    let n = graph_text (option_copied c.args.graph) in
    on_err c.from_residual.result (cut_first w0 w1 (s ++ p ++ o ++ n) (codes ".\n") (cut_first w0 w1 (s ++ p ++ o) n (cut_first w0 w1 (s ++ p) o (cut_first w0 w1 s p c.in_err-put_spaced.ensures.cut))))

pub returns-in_err-put_spaced_iri-clause-cut : goal.returns-in_err-put_spaced_iri-clause-cut
returns-in_err-put_spaced_iri-clause-cut g c =
    let w0 = g.B.ByteOut.written c.args.out.now in
    let w1 = g.B.ByteOut.written c.put_spaced.new.out in
    let w2 = g.B.ByteOut.written c.put_spaced_iri.new.out in
    let s = spaced (term_text c.args.subject.now) in
    let p = spaced (iri_text c.args.predicate.now) in
    let o = spaced (term_text c.args.object.now) in
    let n = graph_text (option_copied c.args.graph) in
    on_err c.from_residual-in_err-put_spaced_iri.result (cut_first w0 w2 (s ++ p ++ o ++ n) (codes ".\n") (cut_first w0 w2 (s ++ p ++ o) n (cut_first w0 w2 (s ++ p) o (cut_then w0 w1 w2 s p c.in_ok-put_spaced.ensures.put c.in_err-put_spaced_iri.ensures.cut))))

pub returns-in_err-put_spaced-2-clause-cut : goal.returns-in_err-put_spaced-2-clause-cut
returns-in_err-put_spaced-2-clause-cut g c =
    let w0 = g.B.ByteOut.written c.args.out.now in
    let w1 = g.B.ByteOut.written c.put_spaced.new.out in
    let w2 = g.B.ByteOut.written c.put_spaced_iri.new.out in
    let w3 = g.B.ByteOut.written c.put_spaced-2.new.out in
    let s = spaced (term_text c.args.subject.now) in
    let p = spaced (iri_text c.args.predicate.now) in
    let o = spaced (term_text c.args.object.now) in
    let n = graph_text (option_copied c.args.graph) in
    let p_put = put_then w0 w1 w2 s p c.in_ok-put_spaced.ensures.put c.in_ok-put_spaced_iri.ensures.put in
    on_err c.from_residual-in_err-put_spaced-2.result (cut_first w0 w3 (s ++ p ++ o ++ n) (codes ".\n") (cut_first w0 w3 (s ++ p ++ o) n (cut_then w0 w2 w3 (s ++ p) o p_put c.in_err-put_spaced-2.ensures.cut)))

pub returns-in_err-put_graph-clause-cut : goal.returns-in_err-put_graph-clause-cut
returns-in_err-put_graph-clause-cut g c =
    let w0 = g.B.ByteOut.written c.args.out.now in
    let w1 = g.B.ByteOut.written c.put_spaced.new.out in
    let w2 = g.B.ByteOut.written c.put_spaced_iri.new.out in
    let w3 = g.B.ByteOut.written c.put_spaced-2.new.out in
    let w4 = g.B.ByteOut.written c.put_graph.new.out in
    let s = spaced (term_text c.args.subject.now) in
    let p = spaced (iri_text c.args.predicate.now) in
    let o = spaced (term_text c.args.object.now) in
    let n = graph_text (option_copied c.args.graph) in
    let p_put = put_then w0 w1 w2 s p c.in_ok-put_spaced.ensures.put c.in_ok-put_spaced_iri.ensures.put in
    let o_put = put_then w0 w2 w3 (s ++ p) o p_put c.in_ok-put_spaced-2.ensures.put in
    on_err c.from_residual-in_err-put_graph.result (cut_first w0 w4 (s ++ p ++ o ++ n) (codes ".\n") (cut_then w0 w3 w4 (s ++ p ++ o) n o_put c.in_err-put_graph.ensures.cut))

pub returns-clause-put : goal.returns-clause-put
returns-clause-put g c =
    let w0 = g.B.ByteOut.written c.args.out.now in
    let w1 = g.B.ByteOut.written c.put_spaced.new.out in
    let w2 = g.B.ByteOut.written c.put_spaced_iri.new.out in
    let w3 = g.B.ByteOut.written c.put_spaced-2.new.out in
    let w4 = g.B.ByteOut.written c.put_graph.new.out in
    let s = spaced (term_text c.args.subject.now) in
    let p = spaced (iri_text c.args.predicate.now) in
    let o = spaced (term_text c.args.object.now) in
    let n = graph_text (option_copied c.args.graph) in
    let p_put = put_then w0 w1 w2 s p c.in_ok-put_spaced.ensures.put c.in_ok-put_spaced_iri.ensures.put in
    let o_put = put_then w0 w2 w3 (s ++ p) o p_put c.in_ok-put_spaced-2.ensures.put in
    let n_put = put_then w0 w3 w4 (s ++ p ++ o) n o_put c.in_ok-put_graph.ensures.put in
    on_ok c.put_all.result (put_then w0 w4 (g.B.ByteOut.written c.put_all.new.out) (s ++ p ++ o ++ n) (codes ".\n") n_put) c.put_all.ensures.put

pub returns-clause-cut : goal.returns-clause-cut
returns-clause-cut g c =
    let w0 = g.B.ByteOut.written c.args.out.now in
    let w1 = g.B.ByteOut.written c.put_spaced.new.out in
    let w2 = g.B.ByteOut.written c.put_spaced_iri.new.out in
    let w3 = g.B.ByteOut.written c.put_spaced-2.new.out in
    let w4 = g.B.ByteOut.written c.put_graph.new.out in
    let s = spaced (term_text c.args.subject.now) in
    let p = spaced (iri_text c.args.predicate.now) in
    let o = spaced (term_text c.args.object.now) in
    let n = graph_text (option_copied c.args.graph) in
    let p_put = put_then w0 w1 w2 s p c.in_ok-put_spaced.ensures.put c.in_ok-put_spaced_iri.ensures.put in
    let o_put = put_then w0 w2 w3 (s ++ p) o p_put c.in_ok-put_spaced-2.ensures.put in
    let n_put = put_then w0 w3 w4 (s ++ p ++ o) n o_put c.in_ok-put_graph.ensures.put in
    on_err_too c.put_all.result (cut_then w0 w4 (g.B.ByteOut.written c.put_all.new.out) (s ++ p ++ o ++ n) (codes ".\n") n_put) c.put_all.ensures.cut
