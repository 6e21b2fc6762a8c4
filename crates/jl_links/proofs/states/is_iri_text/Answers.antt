use Rattle.jl_links.proofs.Cells.{test_is_iri}
use Rattle.jl_links.proofs.states.is_iri_text.Goals as goal

pub returns : goal.returns
returns c = test_is_iri c.is_iri.result c.args.text.now c.is_iri.ensures
