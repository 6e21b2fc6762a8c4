use Rattle.std.proofs.Common.{◌∙◌, ap}
use Rattle.serde_json.proofs.FreeTexts.{text_of_str}
use Rattle.jl_defs.specs.Canon.{string_text}
use Rattle.jl_jsonlit.proofs.Escapes.{string_same}
use Rattle.jl_jsonlit.proofs.strings.quoted.Goals as goal

pub returns-in-Ok-to_vec : goal.returns-in-Ok-to_vec
returns-in-Ok-to_vec c =
    let e = c.in-Ok-to_vec.ensures.events in
    text_of_str c.in-Ok.text.now e.0 c.in-Ok-to_vec.made.items e.1 e.2 ∙ string_same c.in-Ok.text.now ∙ ap string_text c.in-Ok.ensures.0
