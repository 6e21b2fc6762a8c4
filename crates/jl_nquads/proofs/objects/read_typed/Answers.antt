use Rattle.std.proofs.Common.{◌∙◌, None, Err, refl, sym}
use Rattle.std.proofs.lemmas.Result.{err_from_is_err_and}
use Rattle.jl_model.specs.LineTokens.{meaning}
use Rattle.jl_nquads.specs.Nexts.{next_of}
use Rattle.jl_nquads.specs.Spots.{has_string, has_carets, has_object, literal_of}
use Rattle.jl_nquads.proofs.NameReads.{iri_halts}
use Rattle.jl_nquads.proofs.NextBytes.{no_datatype}
use Rattle.jl_nquads.proofs.PartReads.{stops_now, typed_suffix}
use Rattle.jl_nquads.proofs.SpotReads.{carets_bad, carets_on}
use Rattle.jl_nquads.proofs.objects.read_typed.Goals as goal

pub returns-then-not-has_carets : goal.returns-then-not-has_carets
returns-then-not-has_carets c = λ s p t. carets_bad (has_string s p t) (has_carets s p t) c.args.text.now _ refl c.requires (sym c.has_carets.ensures ∙ c.if-not-has_carets.true) refl refl

pub returns-in_err-datatype-in-Iri : goal.returns-in_err-datatype-in-Iri
returns-in_err-datatype-in-Iri c =
    let p = err_from_is_err_and c.from_residual.result c.from_residual.ensures.1 in
    rw (p.1, p.2)
    (λ s p t. carets_on (has_string s p t) (has_carets s p t) c.args.text.now c.rest_of-iri.result.now (Err c.in_err-datatype-in-Iri.field-0.0) refl c.requires (sym c.has_carets.ensures ∙ c.if-not-has_carets.false) c.rest_of-iri.ensures
    (iri_halts c.rest_of-iri.result.now c.in_err-datatype-in-Iri.field-0.0 c.in_err-datatype-in-Iri.ensures (has_carets s p t) (λ ws. (has_object s p (literal_of t (meaning ws) None), refl))))

pub returns-in_ok-datatype-in-Iri : goal.returns-in_ok-datatype-in-Iri
returns-in_ok-datatype-in-Iri c = typed_suffix c.args.text.now c.rest_of-iri.result.now c.in_ok-datatype-in-Iri.datatype.meaning c.in_ok-datatype-in-Iri.datatype.len c.requires (sym c.has_carets.ensures ∙ c.if-not-has_carets.false) c.rest_of-iri.ensures c.in_ok-datatype-in-Iri.ensures

pub returns-in_default : goal.returns-in_default
returns-in_default c = λ s p t.
    carets_on (has_string s p t) (has_carets s p t) c.args.text.now c.rest_of-iri.result.now (Err c.stop.result) refl c.requires (sym c.has_carets.ensures ∙ c.if-not-has_carets.false) c.rest_of-iri.ensures
    (stops_now (has_carets s p t) c.rest_of-iri.result.now c.stop.result (no_datatype s p t (next_of c.rest_of-iri.result.now) (λ i. c.in_default.not-Iri (c.next_of.ensures ∙ i))) (λ i. refl) c.stop.ensures)
