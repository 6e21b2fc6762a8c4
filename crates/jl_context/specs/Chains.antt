-- A chain as the list of its levels, the newest first.
use Rattle.std.specs.Prelude.{◌≡◌, ◌≤◌, ◌+◌, ℕ, zero, suc, List, [], ◌∷◌, length, map, Option, Some, None, sum_by}
use Rattle.std.specs.declared.alloc.Global.{Global}
use Rattle.std.specs.declared.rc.Rc.{Rc}
use Rattle.jl_defs.specs.Context.{Level, level_size}

-- as many of the levels, the last of them first, before others
abbrev pub onto : ℕ → List (Rc Level Global) → List Level → List Level
onto zero rs others = others
onto (suc n) [] others = others
onto (suc n) (r ∷ rs) others = onto n rs (r.value ∷ others)

-- the levels of a chain, the newest first
abbrev pub levels_of : ℕ → List (Rc Level Global) → List Level
levels_of count rs = onto count rs []

-- the newest level, and the levels behind it
abbrev pub first_of : List Level → Option Level
first_of [] = None
first_of (l ∷ ls) = Some l

abbrev pub rest_of : List Level → List Level
rest_of [] = []
rest_of (l ∷ ls) = ls

-- the levels of handles
abbrev pub values : List (Rc Level Global) → List Level
values rs = map (λ r. r.value) rs

-- one level more before as many of the others
unfoldable pub IsPushed : ℕ → Level → List (Rc Level Global) → List (Rc Level Global) → Type 0
IsPushed count level old new = (levels_of (count + 1) new ≡ level ∷ levels_of count old) × (count + 1 ≤ length new)

-- the vector has as many levels as are counted, and the size is theirs
pub record HoldsLevels (count : ℕ) (levels : List (Rc Level Global)) (total : ℕ) : Type 0 where
  pub within : count ≤ length levels
  pub size : total ≡ sum_by level_size (levels_of count levels)
