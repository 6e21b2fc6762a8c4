use Rattle.std.proofs.Common.{sym, ◌∙◌}
use Rattle.jl_terms.proofs.KeywordForms.{listed-keyword, formless-keyword}
use Rattle.jl_terms.proofs.keywords.is_keyword.Goals as goal

pub returns-then-has_keyword_form : goal.returns-then-has_keyword_form
returns-then-has_keyword_form c =
    listed-keyword c.args.text.now c.is_listed.result (sym c.has_keyword_form.ensures ∙ c.if-has_keyword_form.true) c.is_listed.ensures

pub returns-else-has_keyword_form : goal.returns-else-has_keyword_form
returns-else-has_keyword_form c =
    formless-keyword c.args.text.now c.has_keyword_form.result c.has_keyword_form.ensures c.if-has_keyword_form.false
