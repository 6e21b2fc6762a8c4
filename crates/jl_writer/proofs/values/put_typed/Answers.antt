use Rattle.std.proofs.Common.{sym, ◌∙◌}
use Rattle.jl_writer.proofs.PlainTexts.{plain_iri}
use Rattle.jl_writer.proofs.Putting.{put_as, cut_as, untagged_string, untagged_object}
use Rattle.jl_writer.proofs.values.put_typed.Goals as goal

pub returns-then-is_xsd_string-clause-put : goal.returns-then-is_xsd_string-clause-put
returns-then-is_xsd_string-clause-put g c =
    let text = untagged_string c.args.datatype.now c.args.quote.now c.args.text.now (sym c.is_xsd_string.ensures ∙ c.if-is_xsd_string.true) in
    put_as c.put_parts.result _ _ _ _ text c.put_parts.ensures.put

pub returns-then-is_xsd_string-clause-cut : goal.returns-then-is_xsd_string-clause-cut
returns-then-is_xsd_string-clause-cut g c =
    let text = untagged_string c.args.datatype.now c.args.quote.now c.args.text.now (sym c.is_xsd_string.ensures ∙ c.if-is_xsd_string.true) in
    cut_as c.put_parts.result _ _ _ _ text c.put_parts.ensures.cut

pub returns-else-is_xsd_string-clause-put : goal.returns-else-is_xsd_string-clause-put
returns-else-is_xsd_string-clause-put g c =
    let text = untagged_object c.args.datatype.now c.args.quote.now c.args.text.now (sym c.is_xsd_string.ensures ∙ c.if-is_xsd_string.false) (plain_iri c.args.datatype.now c.requires) in
    put_as c.put_parts-else-is_xsd_string.result _ _ _ _ text c.put_parts-else-is_xsd_string.ensures.put

pub returns-else-is_xsd_string-clause-cut : goal.returns-else-is_xsd_string-clause-cut
returns-else-is_xsd_string-clause-cut g c =
    let text = untagged_object c.args.datatype.now c.args.quote.now c.args.text.now (sym c.is_xsd_string.ensures ∙ c.if-is_xsd_string.false) (plain_iri c.args.datatype.now c.requires) in
    cut_as c.put_parts-else-is_xsd_string.result _ _ _ _ text c.put_parts-else-is_xsd_string.ensures.cut
