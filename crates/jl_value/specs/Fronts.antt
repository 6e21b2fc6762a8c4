-- Digits without the zeros at their end, for private clauses.
use Rattle.std.specs.Prelude.{ℕ, List, reverse}
use Rattle.jl_defs.specs.Numbers.{without_zeros}

abbrev pub front_of : List ℕ → List ℕ
front_of digits = reverse (without_zeros (reverse digits))
