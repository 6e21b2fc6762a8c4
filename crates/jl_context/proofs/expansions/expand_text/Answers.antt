use Rattle.std.proofs.Common.{sym, ap, ◌∙◌, subst, ◌≡◌, IfOk}
use Rattle.jl_defs.specs.IriExpansion.{compact}
use Rattle.jl_defs.specs.Texts.{is_keyword, has_keyword_form}
use Rattle.jl_context.specs.Names.{whole}
use Rattle.jl_context.proofs.Expanding.{expand_iri-keyword, expand_iri-form, expand_iri-whole, expand_iri-other}
use Rattle.jl_context.proofs.expansions.expand_text.Goals as goal

pub returns-then-is_keyword : goal.returns-then-is_keyword
returns-then-is_keyword c =
    sym (expand_iri-keyword c.args.context.now c.args.text c.args.vocab c.args.relative (sym (ap is_keyword c.bytes.ensures) ∙ sym c.is_keyword.ensures ∙ c.if-is_keyword.true))

pub returns-then-has_keyword_form : goal.returns-then-has_keyword_form
returns-then-has_keyword_form c =
    let none = sym (ap is_keyword c.bytes.ensures) ∙ sym c.is_keyword.ensures ∙ c.if-is_keyword.false in
    let form = sym (ap has_keyword_form c.bytes-2.ensures) ∙ sym c.has_keyword_form.ensures ∙ c.if-has_keyword_form.true in
    sym (expand_iri-form c.args.context.now c.args.text c.args.vocab c.args.relative none form)

pub returns-then-is_whole : goal.returns-then-is_whole
returns-then-is_whole c =
    let none = sym (ap is_keyword c.bytes.ensures) ∙ sym c.is_keyword.ensures ∙ c.if-is_keyword.false in
    let form = sym (ap has_keyword_form c.bytes-2.ensures) ∙ sym c.has_keyword_form.ensures ∙ c.if-has_keyword_form.false in
    let stays = sym (ap (λ text. whole text (compact text)) c.bytes-3.ensures) ∙ sym c.is_whole.ensures ∙ c.if-is_whole.true in
    sym (expand_iri-whole c.args.context.now c.args.text c.args.vocab c.args.relative none form stays)

pub returns : goal.returns
returns c =
    let none = sym (ap is_keyword c.bytes.ensures) ∙ sym c.is_keyword.ensures ∙ c.if-is_keyword.false in
    let form = sym (ap has_keyword_form c.bytes-2.ensures) ∙ sym c.has_keyword_form.ensures ∙ c.if-has_keyword_form.false in
    let stays = sym (ap (λ text. whole text (compact text)) c.bytes-3.ensures) ∙ sym c.is_whole.ensures ∙ c.if-is_whole.false in
    subst (λ e. IfOk c.move_by_vocab.result (λ expanded. expanded ≡ e)) (sym (expand_iri-other c.args.context.now c.args.text c.args.vocab c.args.relative none form stays)) c.move_by_vocab.ensures
