use Rattle.std.proofs.Common.{Some, refl}
use Rattle.std.proofs.lemmas.Result.{err_from_is_err_and}
use Rattle.jl_model.specs.Parts.{rdf_lang_string}
use Rattle.jl_nquads.specs.Spots.{has_string, has_object, literal_of}
use Rattle.jl_nquads.proofs.PartReads.{tag_suffix}
use Rattle.jl_nquads.proofs.objects.read_tagged.Goals as goal

pub returns-in_err-tag : goal.returns-in_err-tag
returns-in_err-tag c =
    let p = err_from_is_err_and c.from_residual.result c.from_residual.ensures.1 in
    rw (p.1, p.2)
    (λ s p t. c.in_err-tag.ensures (has_string s p t) (λ l. (has_object s p (literal_of t rdf_lang_string (Some l)), refl)))

pub returns : goal.returns
returns c = tag_suffix c.args.text.now c.in_ok-tag.tag.text c.in_ok-datatype.datatype c.in_ok-tag.tag.len c.in_ok-tag.ensures c.in_ok-datatype.ensures
