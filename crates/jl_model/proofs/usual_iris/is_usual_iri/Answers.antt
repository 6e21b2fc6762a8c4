use Rattle.std.proofs.Common.{sym, ◌∙◌}
use Rattle.jl_model.proofs.UsualTexts.{usual_iri}
use Rattle.jl_model.proofs.usual_iris.is_usual_iri.Goals as goal

pub returns-then-has_usual_scheme : goal.returns-then-has_usual_scheme
returns-then-has_usual_scheme c = λ t. usual_iri c.args.text.now (c.has_usual_scheme.ensures c.if-has_usual_scheme.true) (sym c.are_usual_bytes.ensures ∙ t)
