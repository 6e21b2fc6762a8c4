use Rattle.std.proofs.Common.{sym, ◌∙◌, arith}
use Rattle.std.proofs.lemmas.Grind.{common_steps}
use Rattle.jl_model.proofs.Subtags.{tag_with_dash}
use Rattle.jl_model.proofs.text_tests.is_language_tag.Goals as goal

pub returns-then-is_some_letters : goal.returns-then-is_some_letters
returns-then-is_some_letters c =
    let there = sym c.first_dash.ensures ∙ c.in-Some.is in
    let parts = tag_with_dash c.args.text.now c.in-Some.dash there in
    grind (arith, common_steps)
