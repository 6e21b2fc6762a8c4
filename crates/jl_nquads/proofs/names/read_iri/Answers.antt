use Rattle.std.proofs.lemmas.Result.{err_from_is_err_and}
use Rattle.jl_nquads.proofs.NameReads.{iri_is_name, name_halts}
use Rattle.jl_nquads.proofs.names.read_iri.Goals as goal

pub returns-in_err-iri : goal.returns-in_err-iri
returns-in_err-iri c = let p = err_from_is_err_and c.from_residual.result c.from_residual.ensures.1 in rw (p.1, p.2) (name_halts c.args.text.now c.in_err-iri.field-0.0 c.in_err-iri.ensures)

pub returns : goal.returns
returns c = iri_is_name c.args.text.now c.in_ok-iri.iri.meaning c.in_ok-iri.iri.len c.in_ok-iri.ensures
