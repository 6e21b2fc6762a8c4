-- The bytes of a scalar's text.
use Rattle.std.specs.Prelude.{ℕ, length}
use Rattle.jl_model.specs.declared.scalars.Scalar.{Scalar}
use Rattle.jl_model.specs.declared.scalars.Scalar.TheVariants.{Null, Bool as boolean, Number, Str}

abbrev pub scalar_size : Scalar → ℕ
scalar_size Null = 0
scalar_size (boolean b) = 0
scalar_size (Number text) = length text
scalar_size (Str text) = length text
