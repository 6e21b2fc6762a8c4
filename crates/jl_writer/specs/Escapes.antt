-- Strings that are written as they are, and strings that were made beforehand.
use Rattle.std.specs.Prelude.{◌≡◌, ℕ, Bool, ◌||◌, ◌==◌, nat_lt, Option, Some, None, flat_map}
use Rattle.jl_model.specs.declared.terms.Term.{Term}
use Rattle.jl_model.specs.declared.terms.Term.TheVariants.{Iri, Blank, Literal}
use Rattle.jl_defs.specs.Canon.{string_byte, string_text}
use Rattle.jl_defs.specs.Texts.{Text}

-- quote, backslash and the controls
abbrev pub needs_escape : ℕ → Bool
needs_escape c = nat_lt c 32 || (c == 34 || c == 92)

-- no byte of the text has to be escaped
abbrev pub IsPlain : Text → Type 0
IsPlain text = flat_map string_byte text ≡ text

-- the JSON string of the text, unless the text is written as it is
abbrev pub IsStringOf : Option Text → Text → Type 0
IsStringOf None text = IsPlain text
IsStringOf (Some made) text = made ≡ string_text text

-- the same of the text of a literal
abbrev pub IsMadeFor : Option Text → Term → Type 0
IsMadeFor made (Literal lit) = IsStringOf made lit.text
IsMadeFor made (Iri iri) = Unit {0}
IsMadeFor made (Blank label) = Unit {0}
