-- Counting: what each count finds as often in two lists is the same set.
use Rattle.std.proofs.Common.{ℕ, ◌+◌, ◌≤◌, ◌<◌, ◌≡◌, ◌⊎◌, inl, inr, refl, List, [], ◌∷◌, ◌++◌, arith}
use Rattle.jl_defs.specs.Sets.{Has, IsWithin, SameSet, tally}

pub tally-append : {A : Type 0} (f : A → ℕ) (xs ys : List A) → tally f (xs ++ ys) ≡ tally f xs + tally f ys
tally-append f [] ys = omega arith
tally-append f (x ∷ xs) ys = omega (arith, tally-append f xs ys)

abbrev to_nat : {A : Type 0} → Dec A → ℕ
to_nat (yes h) = 1
to_nat (no h) = 0

-- 1 at x, and 0 elsewhere
abbrev is_it : {A : Type 0} → Discrete A → A → A → ℕ
is_it d x y = to_nat (d y x)

it-one : {A : Type 0} (d : Dec A) → A → to_nat d ≡ 1
it-one (yes h) a = refl
it-one (no h) a = absurd (h a)

has-tally : {A : Type 0} (d : Discrete A) (x : A) (xs : List A) → Has xs x → 0 < tally (is_it d x) xs
has-tally d x [] h = absurd h
has-tally d x (y ∷ xs) (inl e) = omega (arith, it-one (d y x) e)
has-tally d x (y ∷ xs) (inr h) = omega (arith, has-tally d x xs h)

tally-has : {A : Type 0} (d : Discrete A) (x : A) (xs : List A) → 0 < tally (is_it d x) xs → Has xs x
tally-has d x [] l = absurd (omega (arith, l))
tally-has d x (y ∷ xs) l = at-head (d y x) l (λ l'. tally-has d x xs l')
  where
    at-head : (e : Dec (y ≡ x)) → 0 < to_nat e + tally (is_it d x) xs → (0 < tally (is_it d x) xs → Has xs x) → (y ≡ x) ⊎ Has xs x
    at-head (yes e) l rest = inl e
    at-head (no e) l rest = inr (rest (omega (arith, l)))

pub le-within : {A : Type 0} (d : Discrete A) (xs ys : List A) → ((f : A → ℕ) → tally f xs ≤ tally f ys) → IsWithin xs ys
le-within d xs ys h = λ x g. tally-has d x ys (omega (arith, h (is_it d x), has-tally d x xs g))

pub same-set : {A : Type 0} (d : Discrete A) (xs ys : List A) → ((f : A → ℕ) → tally f xs ≡ tally f ys) → SameSet xs ys
same-set d xs ys h =
    (le-within d xs ys (λ f. omega (arith, h f)), le-within d ys xs (λ f. omega (arith, h f)))
