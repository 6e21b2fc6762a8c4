use Rattle.std.proofs.Common.{rules, length, ◌<◌, refl}
use Rattle.std.proofs.lemmas.List.{nil_from_length}
use Rattle.jl_nquads.proofs.CommentFronts.{comment_front, comment_whole, comment_bad}
use Rattle.jl_nquads.proofs.comments.read_comment.Goals as goal

pub returns-then-is_empty : goal.returns-then-is_empty
returns-then-is_empty c =
    comment_whole c.args.text.now c.rest_of-rest.result.now
    (comment_front c.args.text.now c.rest_of-inner.result.now c.rest_of-rest.result.now c.utf8_len.result c.requires.in_line c.requires.sign c.rest_of-inner.ensures c.utf8_len.ensures.len c.rest_of-rest.ensures)
    (nil_from_length c.rest_of-rest.result.now (search rules))

pub returns : goal.returns
returns c =
    let some : 0 < length c.rest_of-rest.result.now = search rules in
    comment_bad c.args.text.now c.rest_of-rest.result.now _
    (comment_front c.args.text.now c.rest_of-inner.result.now c.rest_of-rest.result.now c.utf8_len.result c.requires.in_line c.requires.sign c.rest_of-inner.ensures c.utf8_len.ensures.len c.rest_of-rest.ensures)
    some refl c.begins_code.ensures
