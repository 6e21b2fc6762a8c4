use Rattle.std.proofs.Common.{sym, ◌∙◌, ap, refl, take}
use Rattle.jl_model.specs.Tags.{is_language_tag}
use Rattle.jl_nquads.proofs.TagReads.{tag_is_read, tag_bad}
use Rattle.jl_nquads.proofs.tags.read_tag.Goals as goal

pub returns-then-is_language_tag : goal.returns-then-is_language_tag
returns-then-is_language_tag c =
    tag_is_read c.args.text.now c.rest_of-inner.result.now c.in_ok-text.text c.tag_len-len.result c.requires c.rest_of-inner.ensures c.tag_len-len.ensures c.in_ok-text.ensures
    (ap is_language_tag c.in_ok-text.ensures ∙ sym c.is_language_tag.ensures ∙ c.if-is_language_tag.true)

pub returns : goal.returns
returns c =
    tag_bad c.args.text.now c.rest_of-inner.result.now (take c.tag_len-len.result c.rest_of-inner.result.now) c.tag_len-len.result _ c.requires c.rest_of-inner.ensures c.tag_len-len.ensures refl
    (sym c.is_language_tag.ensures ∙ c.if-is_language_tag.false) refl refl
