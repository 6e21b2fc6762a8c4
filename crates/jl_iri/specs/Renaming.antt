-- What the renaming of labels promises.
use Rattle.std.specs.Prelude.{◌≡◌, ℕ, List, ◌++◌, codes, IsTrue}
use Rattle.jl_model.specs.Ren.{ren, begins_jl}

-- two labels with one new name are one label
abbrev pub IsOneToOne : Type 0
IsOneToOne = (a b : List ℕ) → ren a ≡ ren b → a ≡ b

-- a new name that begins with `jl` goes on with `x`, so it is no label that is made here
abbrev pub StandsApart : Type 0
StandsApart = (label : List ℕ) → IsTrue (begins_jl (ren label)) → (rest : List ℕ) × (ren label ≡ codes "jlx" ++ rest)
