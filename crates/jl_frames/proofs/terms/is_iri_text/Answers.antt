use Rattle.jl_frames.proofs.Quads.{test_is_iri}
use Rattle.jl_frames.proofs.terms.is_iri_text.Goals as goal

pub returns : goal.returns
returns c = test_is_iri c.is_iri.result c.args.text.now c.is_iri.ensures
