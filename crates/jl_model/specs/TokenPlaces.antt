-- Where tokens stand.
use Rattle.std.specs.Prelude.{ℕ}
use Rattle.jl_model.specs.declared.tokens.Token.{Token}
use Rattle.jl_model.specs.declared.tokens.Token.TheVariants.{OpenObject, CloseObject, OpenArray, CloseArray, Key, Value}

-- the place of a token's first byte
abbrev pub place_of : Token → ℕ
place_of (OpenObject at) = at
place_of (CloseObject at) = at
place_of (OpenArray at) = at
place_of (CloseArray at) = at
place_of (Key at name) = at
place_of (Value at scalar) = at
