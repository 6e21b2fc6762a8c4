use Rattle.std.proofs.Common.{sym, ◌∙◌, ap, subst, ◌≡◌, IfOk}
use Rattle.jl_model.specs.declared.expansions.Expanded.TheVariants.{Keyword, Name}
use Rattle.jl_context.proofs.Expanding.{expand_iri-keyword, expand_iri-form, expand_iri-whole, expand_iri-other}
use Rattle.jl_context.proofs.expansions.expand_iri.Goals as goal

pub returns-then-is_keyword : goal.returns-then-is_keyword
returns-then-is_keyword c =
    ap Keyword c.in_ok-from_bytes.ensures
    ∙ sym (expand_iri-keyword c.args.context.now c.args.text.now c.args.vocab c.args.relative (sym c.is_keyword.ensures ∙ c.if-is_keyword.true))

pub returns-then-has_keyword_form : goal.returns-then-has_keyword_form
returns-then-has_keyword_form c =
    sym (expand_iri-form c.args.context.now c.args.text.now c.args.vocab c.args.relative (sym c.is_keyword.ensures ∙ c.if-is_keyword.false) (sym c.has_keyword_form.ensures ∙ c.if-has_keyword_form.true))

pub returns-then-is_whole : goal.returns-then-is_whole
returns-then-is_whole c =
    ap Name c.in_ok-from_bytes-2.ensures
    ∙ sym (expand_iri-whole c.args.context.now c.args.text.now c.args.vocab c.args.relative (sym c.is_keyword.ensures ∙ c.if-is_keyword.false) (sym c.has_keyword_form.ensures ∙ c.if-has_keyword_form.false) (sym c.is_whole.ensures ∙ c.if-is_whole.true))

pub returns : goal.returns
returns c =
    subst (λ e. IfOk c.by_vocab.result (λ expanded. expanded ≡ e))
    (sym (expand_iri-other c.args.context.now c.args.text.now c.args.vocab c.args.relative (sym c.is_keyword.ensures ∙ c.if-is_keyword.false) (sym c.has_keyword_form.ensures ∙ c.if-has_keyword_form.false) (sym c.is_whole.ensures ∙ c.if-is_whole.false)))
    c.by_vocab.ensures
