use Rattle.std.proofs.Common.{sym, ◌∙◌, ap, ◌&&◌}
use Rattle.std.specs.Str.{is_utf8}
use Rattle.jl_frames.proofs.Quads.{test_is_utf8}
use Rattle.jl_frames.proofs.terms.is_blank_text.Goals as goal

pub returns-then-has_blank_form : goal.returns-then-has_blank_form
returns-then-has_blank_form c =
    test_is_utf8 c.is_utf8_text.result c.args.text.now c.is_utf8_text.ensures ∙ ap (λ b. b && is_utf8 c.args.text.now) (sym c.if-has_blank_form.true ∙ c.has_blank_form.ensures)
