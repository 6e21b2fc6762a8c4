-- Names in the order of their bytes.
use Rattle.std.proofs.Common.{ℕ, ◌<◌, ◌==◌, nat_lt, ◌≡◌, ◌⊎◌, inl, inr, refl, sym, ◌∙◌, Bool, true, false, ◌&&◌, [], ◌∷◌, arith}
use Rattle.std.proofs.lemmas.Bool.{ltb-true, ltb-false, lt-ltb, eqb-true, eq-eqb}
use Rattle.jl_defs.specs.Texts.{Text, is_before}
use Rattle.jl_context.proofs.Bools.{or-left, or-right, or-true, and-left, and-right}

abbrev pub Before : Text → Text → Type 0
Before [] [] = ⊥
Before [] (d ∷ ds) = Unit {0}
Before (c ∷ cs) [] = ⊥
Before (c ∷ cs) (d ∷ ds) = (c < d) ⊎ ((c ≡ d) × Before cs ds)

pub before-true : (x y : Text) → is_before x y ≡ true → Before x y
before-true [] [] e = absurd cc
before-true [] (d ∷ ds) e = tt
before-true (c ∷ cs) [] e = absurd cc
before-true (c ∷ cs) (d ∷ ds) e = by (or-true e) (λ e'. before-true cs ds e')
  where
    by : (nat_lt c d ≡ true) ⊎ ((c == d && is_before cs ds) ≡ true) → (is_before cs ds ≡ true → Before cs ds) → (c < d) ⊎ ((c ≡ d) × Before cs ds)
    by (inl h) next = inl (ltb-true c d h)
    by (inr h) next = inr (eqb-true c d (and-left (c == d) (is_before cs ds) h), next (and-right (c == d) (is_before cs ds) h))

and-both : (a b : Bool) → a ≡ true → b ≡ true → (a && b) ≡ true
and-both true b e h = h
and-both false b e h = absurd cc

pub true-before : (x y : Text) → Before x y → is_before x y ≡ true
true-before [] [] e = absurd e
true-before [] (d ∷ ds) e = refl
true-before (c ∷ cs) [] e = absurd e
true-before (c ∷ cs) (d ∷ ds) (inl l) = or-left (nat_lt c d) (c == d && is_before cs ds) (lt-ltb c d l)
true-before (c ∷ cs) (d ∷ ds) (inr (e, h)) =
    or-right (nat_lt c d) (c == d && is_before cs ds) (and-both (c == d) (is_before cs ds) (eq-eqb c d e) (true-before cs ds h))

compared : (c d : ℕ) → (c < d) ⊎ ((c ≡ d) ⊎ (d < c))
compared c d = by (nat_lt c d) (nat_lt d c) refl refl
  where
    by : (a b : Bool) → nat_lt c d ≡ a → nat_lt d c ≡ b → (c < d) ⊎ ((c ≡ d) ⊎ (d < c))
    by true b e f = inl (ltb-true c d e)
    by false true e f = inr (inr (ltb-true d c f))
    by false false e f = inr (inl (omega (arith, ltb-false c d e, ltb-false d c f)))

pub sorted-out : (x y : Text) → Before x y ⊎ ((x ≡ y) ⊎ Before y x)
sorted-out [] [] = inr (inl refl)
sorted-out [] (d ∷ ds) = inl tt
sorted-out (c ∷ cs) [] = inr (inr tt)
sorted-out (c ∷ cs) (d ∷ ds) = by (compared c d) (sorted-out cs ds)
  where
    by : (c < d) ⊎ ((c ≡ d) ⊎ (d < c)) → Before cs ds ⊎ ((cs ≡ ds) ⊎ Before ds cs) → Before (c ∷ cs) (d ∷ ds) ⊎ (((c ∷ cs) ≡ (d ∷ ds)) ⊎ Before (d ∷ ds) (c ∷ cs))
    by (inl l) h = inl (inl l)
    by (inr (inr l)) h = inr (inr (inl l))
    by (inr (inl e)) (inl h) = inl (inr (e, h))
    by (inr (inl e)) (inr (inl h)) = inr (inl (λ i. e i ∷ h i))
    by (inr (inl e)) (inr (inr h)) = inr (inr (inr (sym e, h)))

pub passed-on : (x y z : Text) → Before x y → Before y z → Before x z
passed-on [] [] z a b = absurd a
passed-on [] (d ∷ ds) [] a b = absurd b
passed-on [] (d ∷ ds) (f ∷ fs) a b = tt
passed-on (c ∷ cs) [] z a b = absurd a
passed-on (c ∷ cs) (d ∷ ds) [] a b = absurd b
passed-on (c ∷ cs) (d ∷ ds) (f ∷ fs) (inl l) (inl m) = inl (omega (arith, l, m))
passed-on (c ∷ cs) (d ∷ ds) (f ∷ fs) (inl l) (inr (e, h)) = inl (omega (arith, l, e))
passed-on (c ∷ cs) (d ∷ ds) (f ∷ fs) (inr (e, h)) (inl m) = inl (omega (arith, m, e))
passed-on (c ∷ cs) (d ∷ ds) (f ∷ fs) (inr (e, h)) (inr (e', h')) = inr (e ∙ e', passed-on cs ds fs h h')

pub not-before : (x : Text) → Before x x → ⊥
not-before [] a = a
not-before (c ∷ cs) (inl l) = omega (arith, l)
not-before (c ∷ cs) (inr (e, h)) = not-before cs h
