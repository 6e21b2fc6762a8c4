use Rattle.std.proofs.Common.{sym, ap, ◌∙◌, subst, ◌≡◌, IfOk}
use Rattle.jl_model.specs.declared.expansions.Expanded.TheVariants.{Keyword}
use Rattle.jl_context.proofs.Naming.{expand-keyword, expand-form, expand-found, expand-left}
use Rattle.jl_context.proofs.term_expansions.expand_iri.Goals as goal

pub returns-then-is_keyword : goal.returns-then-is_keyword
returns-then-is_keyword c =
    ap Keyword c.in_ok-from_bytes.ensures
    ∙ sym (expand-keyword c.args.context.now c.args.text.now c.args.vocab c.args.relative (sym c.is_keyword.ensures ∙ c.if-is_keyword.true))

pub returns-then-has_keyword_form : goal.returns-then-has_keyword_form
returns-then-has_keyword_form c =
    sym (expand-form c.args.context.now c.args.text.now c.args.vocab c.args.relative (sym c.is_keyword.ensures ∙ c.if-is_keyword.false) (sym c.has_keyword_form.ensures ∙ c.if-has_keyword_form.true))

pub returns-in-Some : goal.returns-in-Some
returns-in-Some c =
    sym (expand-found c.args.context.now c.args.text.now c.args.vocab c.args.relative c.in-Some.expanded
    (sym c.is_keyword.ensures ∙ c.if-is_keyword.false) (sym c.has_keyword_form.ensures ∙ c.if-has_keyword_form.false) (sym c.in_ok-found.ensures ∙ c.in-Some.is))

pub returns-in-None : goal.returns-in-None
returns-in-None c =
    subst (λ e. IfOk c.without_terms.result (λ expanded. expanded ≡ e))
    (sym (expand-left c.args.context.now c.args.text.now c.args.vocab c.args.relative
    (sym c.is_keyword.ensures ∙ c.if-is_keyword.false) (sym c.has_keyword_form.ensures ∙ c.if-has_keyword_form.false) (sym c.in_ok-found.ensures ∙ c.in-None.is)))
    c.without_terms.ensures
