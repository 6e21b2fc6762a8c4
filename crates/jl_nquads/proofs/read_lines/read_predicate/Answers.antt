use Rattle.std.proofs.Common.{◌∙◌, refl}
use Rattle.jl_nquads.specs.Nexts.{next_of}
use Rattle.jl_nquads.specs.Spots.{has_subject}
use Rattle.jl_nquads.proofs.NextBytes.{no_predicate}
use Rattle.jl_nquads.proofs.PartReads.{stops_now, predicate_read}
use Rattle.jl_nquads.proofs.read_lines.read_predicate.Goals as goal

pub returns-in-Iri : goal.returns-in-Iri
returns-in-Iri c = predicate_read c.args.text.now c.read_framed.result c.read_framed.ensures

pub returns-in_default : goal.returns-in_default
returns-in_default c = λ s. stops_now (has_subject s) c.args.text.now c.stop.result (no_predicate s (next_of c.args.text.now) c.requires (λ i. c.in_default.not-Iri (c.next_of.ensures ∙ i))) (λ i. refl) c.stop.ensures
