use Rattle.std.proofs.Common.{◌∙◌}
use Rattle.jl_nquads.proofs.PartReads.{stops_now, wanted}
use Rattle.jl_nquads.proofs.names.read_name.Goals as goal

pub returns-in-Iri : goal.returns-in-Iri
returns-in-Iri c = wanted c.args.dotted c.args.text.now c.read_iri.result (c.read_iri.ensures c.args.dotted)

pub returns-in_default : goal.returns-in_default
returns-in_default c = λ s to lead w. stops_now s c.args.text.now c.stop.result (w.others (λ i. c.in_default.not-Iri (c.next_of.ensures ∙ i)) (λ i. c.in_default.not-Label (c.next_of.ensures ∙ i))) w.goes_on c.stop.ensures
