use Rattle.std.proofs.Common.{Err, refl}
use Rattle.std.proofs.lemmas.Result.{err_from_is_err_and}
use Rattle.jl_model.specs.LineTokens.{meaning}
use Rattle.jl_nquads.specs.Spots.{has_predicate, has_string}
use Rattle.jl_nquads.proofs.NameReads.{string_halts}
use Rattle.jl_nquads.proofs.PartReads.{literal_read}
use Rattle.jl_nquads.proofs.SpotReads.{string_on}
use Rattle.jl_nquads.proofs.objects.read_literal.Goals as goal

pub returns-in_err-string : goal.returns-in_err-string
returns-in_err-string c =
    let p = err_from_is_err_and c.from_residual.result c.from_residual.ensures.1 in
    rw (p.1, p.2)
    (λ s p. string_halts c.args.text.now c.in_err-string.field-0.0 c.requires.in_line c.in_err-string.ensures (has_predicate s p) (λ ws. (has_string s p (meaning ws), refl)))

pub returns-in_err-suffix : goal.returns-in_err-suffix
returns-in_err-suffix c =
    let p = err_from_is_err_and c.from_residual-in_err-suffix.result c.from_residual-in_err-suffix.ensures.1 in
    rw (p.1, p.2)
    (λ s p. string_on (has_predicate s p) (has_string s p) c.args.text.now c.rest_of.result.now c.in_ok-string.string.meaning c.in_ok-string.string.len (Err c.in_err-suffix.field-0.0) c.requires.in_line (λ ws. refl) c.in_ok-string.ensures c.rest_of.ensures (c.in_err-suffix.ensures s p c.in_ok-string.string.meaning))

pub returns : goal.returns
returns c = literal_read c.args.text.now c.rest_of.result.now c.in_ok-string.string.meaning c.in_ok-suffix.suffix.datatype c.in_ok-suffix.suffix.language c.in_ok-string.string.len c.in_ok-suffix.suffix.len c.literal.result c.requires.in_line c.in_ok-string.ensures c.rest_of.ensures c.in_ok-suffix.ensures c.literal.ensures
