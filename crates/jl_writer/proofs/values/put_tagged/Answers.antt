use Rattle.jl_writer.proofs.Putting.{put_as, cut_as, tagged_object}
use Rattle.jl_writer.proofs.values.put_tagged.Goals as goal

pub returns-clause-put : goal.returns-clause-put
returns-clause-put g c =
    let text = tagged_object c.args.tag.now c.args.quote.now c.args.text.now c.requires in
    put_as c.put_parts.result _ _ _ _ text c.put_parts.ensures.put

pub returns-clause-cut : goal.returns-clause-cut
returns-clause-cut g c =
    let text = tagged_object c.args.tag.now c.args.quote.now c.args.text.now c.requires in
    cut_as c.put_parts.result _ _ _ _ text c.put_parts.ensures.cut
