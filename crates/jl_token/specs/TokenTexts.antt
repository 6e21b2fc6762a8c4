-- The texts of tokens: the names of keys and the strings.
use Rattle.std.specs.Prelude.{IsUtf8}
use Rattle.jl_model.specs.declared.scalars.Scalar.{Scalar}
use Rattle.jl_model.specs.declared.scalars.Scalar.TheVariants.{Str}
use Rattle.jl_model.specs.declared.tokens.Token.{Token}
use Rattle.jl_model.specs.declared.tokens.Token.TheVariants.{Key, Value}

-- where the scalar is a string, it is UTF-8
abbrev pub IsUtf8Scalar : Scalar → Type 0
IsUtf8Scalar (Str text) = IsUtf8 text
IsUtf8Scalar _ = Unit {0}

-- where the token has a name or a string, that is UTF-8
abbrev pub HasUtf8 : Token → Type 0
HasUtf8 (Key at name) = IsUtf8 name
HasUtf8 (Value at scalar) = IsUtf8Scalar scalar
HasUtf8 _ = Unit {0}
