-- The answers of value expansion, as the definition has them.
use Rattle.std.specs.Prelude.{◌≡◌, ℕ, List, Option, Some, None}
use Rattle.jl_model.specs.declared.scalars.Scalar.{Scalar}
use Rattle.jl_model.specs.declared.scalars.Scalar.TheVariants.{Str}
use Rattle.jl_model.specs.declared.terms.Lit.{Lit}
use Rattle.jl_model.specs.Parts.{xsd_string}
use Rattle.jl_defs.specs.Context.{TermDef, Context}
use Rattle.jl_defs.specs.Values as spec
use Rattle.jl_value.specs.declared.literals.ValueStop.{ValueStop}
use Rattle.jl_value.specs.declared.literals.ValueStop.TheVariants as stop
use Rattle.jl_value.specs.declared.valued.Valued.{Valued}
use Rattle.jl_value.specs.declared.valued.Valued.TheVariants as given_as

-- a literal, or none where its language tag is ill-formed
abbrev pub valued : Option Lit → spec.Valued
valued None = spec.left_out
valued (Some lit) = spec.literal lit

-- value expansion where the property's definition has been looked up
abbrev pub value_under : Context → Option TermDef → Scalar → spec.Valued
value_under c t (Str text) = spec.string_value c t text
value_under c t v = spec.literal_of v (spec.datatype_by (spec.kind_under t)) None

-- what value expansion gives
abbrev pub given : Valued → spec.Valued
given (given_as.Reference name) = spec.reference name
given (given_as.Literal lit) = spec.literal lit
given given_as.LeftOut = spec.left_out

-- a code comes where the definition refuses the number with it
abbrev pub Refuses : ValueStop → spec.Valued → Type 0
Refuses (stop.Code code) value = value ≡ spec.refused code
Refuses stop.NoMemory value = Unit {0}

-- the literal of a string, with the datatype or the language that is given
abbrev pub string_literal : List ℕ → Option (List ℕ) → Option (List ℕ) → spec.Valued
string_literal text datatype None = spec.plain text (spec.type_or datatype xsd_string)
string_literal text datatype (Some tag) = spec.tagged text tag
