use Rattle.std.proofs.Common.{◌∙◌, Err, refl, subst}
use Rattle.std.proofs.lemmas.Result.{err_from_is_err_and}
use Rattle.jl_nquads.specs.LinesRead.{ReadsFrom}
use Rattle.jl_nquads.specs.Nexts.{next_of}
use Rattle.jl_nquads.specs.Spots.{has_object, has_graph}
use Rattle.jl_nquads.proofs.NextBytes.{stops_here, no_dot}
use Rattle.jl_nquads.proofs.PartReads.{graph_close}
use Rattle.jl_nquads.proofs.SpotReads.{graph_leads, in_line_on}
use Rattle.jl_nquads.proofs.read_lines.read_graph.Goals as goal

pub rest_of-requires : goal.rest_of-requires
rest_of-requires c = c.in_ok-name.ensures.within

pub skip_blanks-rest-requires : goal.skip_blanks-rest-requires
skip_blanks-rest-requires c = in_line_on c.args.text.now c.rest_of.result.now c.in_ok-name.name.len c.requires.in_line c.rest_of.ensures

pub returns-in_err-name : goal.returns-in_err-name
returns-in_err-name c =
    let p = err_from_is_err_and c.from_residual.result c.from_residual.ensures.1 in
    rw (p.1, p.2)
    (λ s p o. c.in_err-name.ensures (has_object s p o) (has_graph s p o) (graph_leads s p o) (c.requires.wants s p o))

pub returns-in-Dot : goal.returns-in-Dot
returns-in-Dot c = graph_close c.args.text.now c.rest_of.result.now c.skip_blanks-rest.result.now c.in_ok-name.name.term c.in_ok-name.name.len c.in_ok-name.ensures c.rest_of.ensures c.skip_blanks-rest.ensures c.in-Dot.ensures

pub returns-in_default : goal.returns-in_default
returns-in_default c = λ s p o.
    c.in_ok-name.ensures.continues (has_object s p o) (has_graph s p o) (graph_leads s p o) (Err c.stop.result)
    (subst (λ z. ReadsFrom (has_graph s p o c.in_ok-name.name.term) z (Err c.stop.result)) c.rest_of.ensures
    (stops_here (has_graph s p o c.in_ok-name.name.term) c.rest_of.result.now c.skip_blanks-rest.result.now c.stop.result c.skip_blanks-rest.ensures (λ b. refl)
    (no_dot s p o c.in_ok-name.name.term (next_of c.skip_blanks-rest.result.now) c.skip_blanks-rest.ensures.apart (λ i. c.in_default.not-Dot (c.next_of.ensures ∙ i)))
    (λ i. refl) c.stop.ensures))
