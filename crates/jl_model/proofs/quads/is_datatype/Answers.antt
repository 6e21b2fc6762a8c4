use Rattle.jl_model.proofs.Datatypes.{xsd_string_is_iri}
use Rattle.jl_model.proofs.quads.is_datatype.Goals as goal

-- src/quads.rt:124:1
pub returns-then-is_xsd_string : goal.returns-then-is_xsd_string
returns-then-is_xsd_string c = (λ t. xsd_string_is_iri c.args.datatype.now (c.is_xsd_string.ensures.0 t), λ i. c.if-is_xsd_string.true)
