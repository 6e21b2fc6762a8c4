use Rattle.std.proofs.Common.{sym, ap, ◌∙◌, subst, ◌≡◌, IfOk}
use Rattle.jl_defs.specs.Texts.{is_keyword, has_keyword_form}
use Rattle.jl_context.specs.TermNames.{from_terms}
use Rattle.jl_context.proofs.Naming.{expand-keyword, expand-form, expand-found, expand-left}
use Rattle.jl_context.proofs.term_expansions.expand_text.Goals as goal

pub returns-then-is_keyword : goal.returns-then-is_keyword
returns-then-is_keyword c =
    sym (expand-keyword c.args.context.now c.args.text c.args.vocab c.args.relative (sym (ap is_keyword c.bytes.ensures) ∙ (sym c.is_keyword.ensures ∙ c.if-is_keyword.true)))

pub returns-then-has_keyword_form : goal.returns-then-has_keyword_form
returns-then-has_keyword_form c =
    let none = sym (ap is_keyword c.bytes.ensures) ∙ (sym c.is_keyword.ensures ∙ c.if-is_keyword.false) in
    let form = sym (ap has_keyword_form c.bytes-2.ensures) ∙ (sym c.has_keyword_form.ensures ∙ c.if-has_keyword_form.true) in
    sym (expand-form c.args.context.now c.args.text c.args.vocab c.args.relative none form)

pub returns-in-Some : goal.returns-in-Some
returns-in-Some c =
    let none = sym (ap is_keyword c.bytes.ensures) ∙ (sym c.is_keyword.ensures ∙ c.if-is_keyword.false) in
    let form = sym (ap has_keyword_form c.bytes-2.ensures) ∙ (sym c.has_keyword_form.ensures ∙ c.if-has_keyword_form.false) in
    let found = sym (ap (λ t. from_terms c.args.context.now t c.args.vocab) c.bytes-3.ensures) ∙ (sym c.in_ok-found.ensures ∙ c.in-Some.is) in
    sym (expand-found c.args.context.now c.args.text c.args.vocab c.args.relative c.in-Some.expanded none form found)

pub returns-in-None : goal.returns-in-None
returns-in-None c =
    let none = sym (ap is_keyword c.bytes.ensures) ∙ (sym c.is_keyword.ensures ∙ c.if-is_keyword.false) in
    let form = sym (ap has_keyword_form c.bytes-2.ensures) ∙ (sym c.has_keyword_form.ensures ∙ c.if-has_keyword_form.false) in
    let left = sym (ap (λ t. from_terms c.args.context.now t c.args.vocab) c.bytes-3.ensures) ∙ (sym c.in_ok-found.ensures ∙ c.in-None.is) in
    subst (λ e. IfOk c.move_without_terms.result (λ expanded. expanded ≡ e)) (sym (expand-left c.args.context.now c.args.text c.args.vocab c.args.relative none form left)) c.move_without_terms.ensures
