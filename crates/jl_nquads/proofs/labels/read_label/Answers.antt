use Rattle.std.proofs.Common.{sym, ◌∙◌, subst, refl}
use Rattle.jl_nquads.specs.LinesRead.{LabelRead}
use Rattle.std.proofs.lemmas.Bool.{false≢true}
use Rattle.jl_nquads.proofs.LabelReads.{no_colon_bad, no_first_bad, colon_is}
use Rattle.jl_nquads.proofs.labels.read_label.Goals as goal

pub returns-then-not-has_colon : goal.returns-then-not-has_colon
returns-then-not-has_colon c = no_colon_bad c.args.dotted c.args.text.now _ c.requires (sym c.has_colon.ensures ∙ c.if-not-has_colon.true) refl refl

pub returns-then-not-begins_with_label : goal.returns-then-not-begins_with_label
returns-then-not-begins_with_label c =
    no_first_bad c.args.dotted c.args.text.now c.rest_of-inner.result.now _ (colon_is c.args.text.now c.rest_of-inner.result.now c.requires (sym c.has_colon.ensures ∙ c.if-not-has_colon.false) c.rest_of-inner.ensures)
    (λ k. false≢true (sym c.if-not-begins_with_label.true ∙ c.begins_with_label.ensures.1 k)) refl c.begins_code.ensures

pub returns : goal.returns
returns c =
    subst (λ z. LabelRead c.args.dotted z c.read_after_colon.result) (sym (colon_is c.args.text.now c.rest_of-inner.result.now c.requires (sym c.has_colon.ensures ∙ c.if-not-has_colon.false) c.rest_of-inner.ensures)) c.read_after_colon.ensures
