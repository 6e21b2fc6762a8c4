use Rattle.jl_defs.specs.WriterText.{value_text}
use Rattle.jl_writer.proofs.PlainTexts.{plain_iri}
use Rattle.jl_writer.proofs.Putting.{cut_in_front, put_behind, cut_behind, member_joined}
use Rattle.jl_writer.proofs.nodes.put_member.Goals as goal

pub returns-in_err-put_parts-clause-cut : goal.returns-in_err-put_parts-clause-cut
returns-in_err-put_parts-clause-cut g c =
    let text = member_joined c.args.predicate.now (value_text c.args.object.now) (plain_iri c.args.predicate.now c.requires.predicate) in
    cut_in_front c.from_residual.result _ _ _ _ _ text c.in_err-put_parts.ensures.cut

pub returns-clause-put : goal.returns-clause-put
returns-clause-put g c =
    let text = member_joined c.args.predicate.now (value_text c.args.object.now) (plain_iri c.args.predicate.now c.requires.predicate) in
    put_behind c.put_value.result _ _ _ _ _ _ text c.in_ok-put_parts.ensures.put c.put_value.ensures.put

pub returns-clause-cut : goal.returns-clause-cut
returns-clause-cut g c =
    let text = member_joined c.args.predicate.now (value_text c.args.object.now) (plain_iri c.args.predicate.now c.requires.predicate) in
    cut_behind c.put_value.result _ _ _ _ _ _ text c.in_ok-put_parts.ensures.put c.put_value.ensures.cut
