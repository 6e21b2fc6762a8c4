-- The renaming of the labels of blank nodes that a document writes.
use Rattle.std.specs.Prelude.{ℕ, ◌+◌, ◌/◌, ◌%◌, Bool, true, false, not, ◌&&◌, ◌==◌, nat_lt, List, [], ◌∷◌, ◌++◌, codes, flat_map}
use Rattle.jl_model.specs.Labels.{is_kept_label}

-- a digit of base 16, in lower case
abbrev pub hex_digit : ℕ → ℕ
hex_digit n = elim (nat_lt n 10) [ true ↦ 48 + n | false ↦ 87 + n ]

abbrev pub hex_byte : ℕ → List ℕ
hex_byte c = hex_digit (c / 16) ∷ hex_digit (c % 16) ∷ []

-- the label begins with `jl`, as the labels that are made here do
abbrev pub begins_jl : List ℕ → Bool
begins_jl [] = false
begins_jl (c ∷ []) = false
begins_jl (c ∷ d ∷ ds) = c == 106 && d == 108

-- a label of the kept form that doesn't begin with `jl` stays; every other one becomes `jlx` and its bytes in hexadecimal
unfoldable pub ren : List ℕ → List ℕ
ren label =
    elim (is_kept_label label && not (begins_jl label)) [
      | true ↦ label
      | false ↦ codes "jlx" ++ flat_map hex_byte label
    ]
