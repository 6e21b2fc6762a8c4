-- Lists as sets: order and repeats don't count.
use Rattle.std.specs.Prelude.{ℕ, ◌+◌, ◌≡◌, ◌⊎◌, List, [], ◌∷◌}

-- the list has the item
abbrev pub Has : {A : Type 0} → List A → A → Type 0
Has [] x = ⊥
Has (y ∷ ys) x = (y ≡ x) ⊎ Has ys x

-- the first list is a part of the second
abbrev pub IsWithin : {A : Type 0} → List A → List A → Type 0
IsWithin {A = A} xs ys = (x : A) → Has xs x → Has ys x

-- both have the same items
abbrev pub SameSet : {A : Type 0} → List A → List A → Type 0
SameSet xs ys = IsWithin xs ys × IsWithin ys xs

-- the sum of what each item counts: where it is the same for every count, so are the items
abbrev pub tally : {A : Type 0} → (A → ℕ) → List A → ℕ
tally f [] = 0
tally f (x ∷ xs) = f x + tally f xs
