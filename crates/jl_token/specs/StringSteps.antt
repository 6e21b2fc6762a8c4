-- What the code does in a string, in terms of the automaton.
use Rattle.std.specs.Prelude.{◌≡◌, ℕ, List, ◌++◌, Option, Some, None}
use Rattle.jl_model.specs.JsonStrings.{Lead}
use Rattle.jl_token.specs.declared.strings.InString.{InString}
use Rattle.jl_token.specs.declared.strings.InString.TheVariants.{Tail}
use Rattle.jl_token.specs.declared.strings.StringStep.{StringStep}
use Rattle.jl_token.specs.declared.strings.StringStep.TheVariants.{Bad, Ends, Stays}
use Rattle.jl_token.specs.StringMachine.{Did}
use Rattle.jl_token.specs.StringMachine.Did.{bad, ends, stays}

-- behind a first byte of a longer character
abbrev pub lead_place : Option Lead → Option InString
lead_place None = None
lead_place (Some l) = Some (Tail l.later l.low l.high)

-- the step that was made, with the bytes that it gives
abbrev pub DoesString : List ℕ → List ℕ → Did → StringStep → Type 0
DoesString old new did Bad = did ≡ bad
DoesString old new did Ends = (did ≡ ends) × (new ≡ old)
DoesString old new did (Stays place) = (bytes : List ℕ) × (did ≡ stays bytes place) × (new ≡ old ++ bytes)
