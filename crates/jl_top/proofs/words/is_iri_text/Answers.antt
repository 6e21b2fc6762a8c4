use Rattle.jl_context.proofs.Expanding.{test-is_iri}
use Rattle.jl_top.proofs.words.is_iri_text.Goals as goal

pub returns : goal.returns
returns c = test-is_iri c.is_iri.result c.args.text.now c.is_iri.ensures
