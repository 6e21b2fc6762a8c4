-- What the calls of a port do to the bytes that it tells. A port that doesn't tell them has `None`.
use Rattle.std.specs.Prelude.{◌≡◌, ℕ, Bool, true, false, List, [], ◌++◌, Option, Some, None, IsSome, IfSome, option_map}

-- the bytes told before, with these at their end
abbrev pub appended : Option (List ℕ) → List ℕ → Option (List ℕ)
appended told bytes = option_map (λ before. before ++ bytes) told

-- either these bytes were put, or none
abbrev pub PutsAtOnce : Bool → List ℕ → Option (List ℕ) → Option (List ℕ) → Type 0
PutsAtOnce true bytes old new = new ≡ appended old bytes
PutsAtOnce false bytes old new = new ≡ old

-- these bytes went from the front of those told as left
abbrev pub Leaves : Option (List ℕ) → List ℕ → Option (List ℕ) → Type 0
Leaves None bytes None = Unit {0}
Leaves (Some old) bytes (Some new) = old ≡ bytes ++ new
Leaves None bytes (Some new) = ⊥
Leaves (Some old) bytes None = ⊥

-- no byte is left, where that is told
abbrev pub NoneLeft : Option (List ℕ) → Type 0
NoneLeft left = IfSome left (λ bytes. bytes ≡ [])

-- where the bytes said are told now, they are those told before, with these at their end
abbrev pub SaysMore : Option (List ℕ) → List ℕ → Option (List ℕ) → Type 0
SaysMore old bytes new = IsSome new → new ≡ appended old bytes

-- the fact holds of the bytes taken and the bytes put, where both are told
abbrev pub MayTake : (List ℕ → List ℕ → Type 0) → Option (List ℕ) → Option (List ℕ) → Type 0
MayTake may_take taken put = (t p : List ℕ) → taken ≡ Some t → put ≡ Some p → may_take t p

-- two facts say the same of any bytes taken and put
abbrev pub SaysSame : (List ℕ → List ℕ → Type 0) → (List ℕ → List ℕ → Type 0) → Type 0
SaysSame old new = (t p : List ℕ) → (old t p → new t p) × (new t p → old t p)
