-- In a number: what may follow is taken, and what follows behind a byte that is taken follows with it.
use Rattle.std.proofs.Common.{lit≤, ◌≡◌, ℕ, ◌≤◌, inl, inr, Bool, true, false, cond, eqb, List, [], ◌∷◌, ◌++◌, refl, sym, ap, ◌∙◌, subst, arith, Option, Some, None}
use Rattle.std.proofs.lemmas.Bool.{cond_both, eqb-true, eqb-false, le-leb, lt-leb, eq-eqb, ne_eqb}
use Rattle.jl_model.specs.JsonNumbers.{IsDigit, Digits, SomeDigits, Whole, Fraction, Signed, Exponent, Joined}
use Rattle.jl_token.specs.declared.numbers.InNumber.{InNumber}
use Rattle.jl_token.specs.declared.numbers.InNumber.TheVariants as at
use Rattle.jl_token.specs.NumberMachine.{NumberEnd, is_digit, exponent_did, fraction_did, number_did, is_whole}
use Rattle.jl_token.proofs.Heads.{head_is, tail_is}

abbrev pub NumberFollows : Option InNumber → List ℕ → Type 0
NumberFollows None t = ⊥
NumberFollows (Some s) t = NumberEnd s t

abbrev pub NumberBacks : InNumber → ℕ → Option InNumber → Type 0
NumberBacks s c None = Unit {0}
NumberBacks s c (Some s') = (t : List ℕ) → NumberEnd s' t → NumberEnd s (c ∷ t)

follows_true : (b : Bool) (X Y : Option InNumber) (t : List ℕ) → b ≡ true → NumberFollows X t → NumberFollows (cond b X Y) t
follows_true b X Y t q f = subst (λ x. NumberFollows (cond x X Y) t) (sym q) f

follows_false : (b : Bool) (X Y : Option InNumber) (t : List ℕ) → b ≡ false → NumberFollows Y t → NumberFollows (cond b X Y) t
follows_false b X Y t q f = subst (λ x. NumberFollows (cond x X Y) t) (sym q) f

digit_is : (c : ℕ) → IsDigit c → is_digit c ≡ true
digit_is c h = rw (le-leb 48 c h.0, le-leb c 57 h.1)

digit_says : (c : ℕ) → is_digit c ≡ true → IsDigit c
digit_says c q = grind arith

no_digit_below : (c : ℕ) → c ≤ 47 → is_digit c ≡ false
no_digit_below c h = rw (lt-leb 48 c (omega arith)) refl

no_digit_above : (c : ℕ) → 58 ≤ c → is_digit c ≡ false
no_digit_above c h = rw (le-leb 48 c (omega arith), lt-leb c 57 (omega arith)) refl

put_first : (P Q : List ℕ → Type 0) (c : ℕ) (t : List ℕ) (f : List ℕ) (b : List ℕ) → t ≡ f ++ b → P (c ∷ f) → Q b → Joined P Q (c ∷ t)
put_first P Q c t f b q p r = record { front = c ∷ f; back = b; text_is = ap (λ x. c ∷ x) q; in_one = p; in_other = r }

-- the first byte of an exponent
exponent_goes : (c : ℕ) (t : List ℕ) → Exponent (c ∷ t) → NumberFollows (exponent_did c) t
exponent_goes c t (inl i, h) = follows_true _ _ _ t (eq-eqb c 101 i) h
exponent_goes c t (inr i, h) = follows_false _ _ _ t (ne_eqb c 101 (λ q. omega arith)) (follows_true _ _ _ t (eq-eqb c 69 i) h)

fraction_goes : (c : ℕ) (t : List ℕ) → Joined Fraction Exponent (c ∷ t) → NumberFollows (fraction_did c) t
fraction_goes c t h = go h.front h.text_is h.in_one
  where
    go : (f : List ℕ) → c ∷ t ≡ f ++ h.back → Fraction f → NumberFollows (fraction_did c) t
    go [] q i = let x : Exponent (c ∷ t) = subst Exponent (sym q) h.in_other in follows_false _ _ _ t (ne_eqb c 46 (λ r. not_dot c t x r)) (exponent_goes c t x)
      where
        not_dot : (c : ℕ) (t : List ℕ) → Exponent (c ∷ t) → c ≡ 46 → ⊥
        not_dot c t (inl i, h) r = omega arith
        not_dot c t (inr i, h) r = omega arith
    go (d ∷ f) q i = follows_true _ _ _ t (eq-eqb c 46 (head_is c d t (f ++ h.back) q ∙ i.0)) (record { front = f; back = h.back; text_is = tail_is c d t (f ++ h.back) q; in_one = i.1; in_other = h.in_other })

exponent_no_digit : (c : ℕ) (t : List ℕ) → Exponent (c ∷ t) → is_digit c ≡ false
exponent_no_digit c t (inl i, h) = no_digit_above c (omega arith)
exponent_no_digit c t (inr i, h) = no_digit_above c (omega arith)

fraction_no_digit : (c : ℕ) (t : List ℕ) → Joined Fraction Exponent (c ∷ t) → is_digit c ≡ false
fraction_no_digit c t h = go h.front h.text_is h.in_one
  where
    go : (f : List ℕ) → c ∷ t ≡ f ++ h.back → Fraction f → is_digit c ≡ false
    go [] q i = exponent_no_digit c t (subst Exponent (sym q) h.in_other)
    go (d ∷ f) q i = no_digit_below c (omega (arith, head_is c d t (f ++ h.back) q, i.0))

whole_goes : (c : ℕ) (t : List ℕ) → NumberEnd at.Minus (c ∷ t) → NumberFollows (number_did at.Minus c) t
whole_goes c t h = go h.front h.text_is h.in_one
  where
    go : (f : List ℕ) → c ∷ t ≡ f ++ h.back → Whole f → NumberFollows (number_did at.Minus c) t
    go [] q i = absurd i
    go (d ∷ f) q (inl i) = follows_true _ _ _ t (eq-eqb c 48 (head_is c d t (f ++ h.back) q ∙ i.0)) (subst (Joined Fraction Exponent) (sym (tail_is c d t (f ++ h.back) q ∙ ap (λ x. x ++ h.back) i.1)) h.in_other)
    go (d ∷ f) q (inr i) =
        let k = head_is c d t (f ++ h.back) q in
        follows_false _ _ _ t (ne_eqb c 48 (λ r. omega (arith, i))) (follows_true _ _ _ t (digit_is c (omega (arith, i), omega (arith, i))) (record { front = f; back = h.back; text_is = tail_is c d t (f ++ h.back) q; in_one = i.2; in_other = h.in_other }))

whole_on : (c : ℕ) (t : List ℕ) → NumberEnd at.Whole (c ∷ t) → NumberFollows (number_did at.Whole c) t
whole_on c t h = go h.front h.text_is h.in_one
  where
    go : (f : List ℕ) → c ∷ t ≡ f ++ h.back → Digits f → NumberFollows (number_did at.Whole c) t
    go [] q i = let x : Joined Fraction Exponent (c ∷ t) = subst (Joined Fraction Exponent) (sym q) h.in_other in follows_false _ _ _ t (fraction_no_digit c t x) (fraction_goes c t x)
    go (d ∷ f) q i = follows_true _ _ _ t (digit_is c (subst IsDigit (sym (head_is c d t (f ++ h.back) q)) i.0)) (record { front = f; back = h.back; text_is = tail_is c d t (f ++ h.back) q; in_one = i.1; in_other = h.in_other })

fraction_on : (c : ℕ) (t : List ℕ) → NumberEnd at.Fraction (c ∷ t) → NumberFollows (number_did at.Fraction c) t
fraction_on c t h = go h.front h.text_is h.in_one
  where
    go : (f : List ℕ) → c ∷ t ≡ f ++ h.back → Digits f → NumberFollows (number_did at.Fraction c) t
    go [] q i = let x : Exponent (c ∷ t) = subst Exponent (sym q) h.in_other in follows_false _ _ _ t (exponent_no_digit c t x) (exponent_goes c t x)
    go (d ∷ f) q i = follows_true _ _ _ t (digit_is c (subst IsDigit (sym (head_is c d t (f ++ h.back) q)) i.0)) (record { front = f; back = h.back; text_is = tail_is c d t (f ++ h.back) q; in_one = i.1; in_other = h.in_other })

fraction_begins : (c : ℕ) (t : List ℕ) → NumberEnd at.Point (c ∷ t) → NumberFollows (number_did at.Point c) t
fraction_begins c t h = go h.front h.text_is h.in_one
  where
    go : (f : List ℕ) → c ∷ t ≡ f ++ h.back → SomeDigits f → NumberFollows (number_did at.Point c) t
    go [] q i = absurd i
    go (d ∷ f) q i = follows_true _ _ _ t (digit_is c (subst IsDigit (sym (head_is c d t (f ++ h.back) q)) i.0)) (record { front = f; back = h.back; text_is = tail_is c d t (f ++ h.back) q; in_one = i.1; in_other = h.in_other })

exponent_begins : (c : ℕ) (t : List ℕ) → Signed (c ∷ t) → NumberFollows (number_did at.Letter c) t
exponent_begins c t (inl h) = follows_true _ _ _ t (digit_is c h.0) h.1
exponent_begins c t (inr (inl i, h)) = follows_false _ _ _ t (no_digit_below c (omega arith)) (follows_true _ _ _ t (eq-eqb c 43 i) h)
exponent_begins c t (inr (inr i, h)) = follows_false _ _ _ t (no_digit_below c (omega arith)) (follows_false _ _ _ t (ne_eqb c 43 (λ q. omega arith)) (follows_true _ _ _ t (eq-eqb c 45 i) h))

-- What may follow in a number is taken.
pub number_forward : (s : InNumber) (c : ℕ) (t : List ℕ) → NumberEnd s (c ∷ t) → NumberFollows (number_did s c) t
number_forward at.Minus c t h = whole_goes c t h
number_forward at.Zero c t h = fraction_goes c t h
number_forward at.Whole c t h = whole_on c t h
number_forward at.Point c t h = fraction_begins c t h
number_forward at.Fraction c t h = fraction_on c t h
number_forward at.Letter c t h = exponent_begins c t h
number_forward at.Sign c t h = follows_true _ _ _ t (digit_is c h.0) h.1
number_forward at.Exponent c t h = follows_true _ _ _ t (digit_is c h.0) h.1

-- back
put_none : (P Q : List ℕ → Type 0) (t : List ℕ) → P [] → Q t → Joined P Q t
put_none P Q t p q = record { front = []; back = t; text_is = refl; in_one = p; in_other = q }

exponent_back : (s : InNumber) (c : ℕ) → ((t : List ℕ) → Exponent (c ∷ t) → NumberEnd s (c ∷ t)) → NumberBacks s c (exponent_did c)
exponent_back s c f = cond_both (eqb c 101) _ _ (NumberBacks s c) (λ q t h. f t (inl (eqb-true c 101 q), h)) (λ _. cond_both (eqb c 69) _ _ (NumberBacks s c) (λ q t h. f t (inr (eqb-true c 69 q), h)) (λ _. tt))

fraction_back : (s : InNumber) (c : ℕ) → ((t : List ℕ) → Joined Fraction Exponent (c ∷ t) → NumberEnd s (c ∷ t)) → NumberBacks s c (fraction_did c)
fraction_back s c f = cond_both (eqb c 46) _ _ (NumberBacks s c)
    (λ q t h. f t (put_first Fraction Exponent c t h.front h.back h.text_is (eqb-true c 46 q, h.in_one) h.in_other))
    (λ _. exponent_back s c (λ t h. f t (put_none Fraction Exponent (c ∷ t) tt h)))

-- What follows behind a byte that is taken follows with it.
pub number_back : (s : InNumber) (c : ℕ) → NumberBacks s c (number_did s c)
number_back at.Minus c = cond_both (eqb c 48) _ _ (NumberBacks at.Minus c)
    (λ q t h. put_first Whole (Joined Fraction Exponent) c t [] t refl (inl (eqb-true c 48 q, refl)) h)
    (λ n. cond_both (is_digit c) _ _ (NumberBacks at.Minus c)
    (λ q t h. let i = digit_says c q in let o = eqb-false c 48 n in put_first Whole (Joined Fraction Exponent) c t h.front h.back h.text_is (inr (omega (arith, i, o), i.1, h.in_one)) h.in_other)
    (λ _. tt))
number_back at.Zero c = fraction_back at.Zero c (λ t h. h)
number_back at.Whole c = cond_both (is_digit c) _ _ (NumberBacks at.Whole c)
    (λ q t h. put_first Digits (Joined Fraction Exponent) c t h.front h.back h.text_is (digit_says c q, h.in_one) h.in_other)
    (λ _. fraction_back at.Whole c (λ t h. put_none Digits (Joined Fraction Exponent) (c ∷ t) tt h))
number_back at.Point c = cond_both (is_digit c) _ _ (NumberBacks at.Point c) (λ q t h. put_first SomeDigits Exponent c t h.front h.back h.text_is (digit_says c q, h.in_one) h.in_other) (λ _. tt)
number_back at.Fraction c = cond_both (is_digit c) _ _ (NumberBacks at.Fraction c)
    (λ q t h. put_first Digits Exponent c t h.front h.back h.text_is (digit_says c q, h.in_one) h.in_other)
    (λ _. exponent_back at.Fraction c (λ t h. put_none Digits Exponent (c ∷ t) tt h))
number_back at.Letter c = cond_both (is_digit c) _ _ (NumberBacks at.Letter c) (λ q t h. inl (digit_says c q, h))
    (λ _. cond_both (eqb c 43) _ _ (NumberBacks at.Letter c) (λ q t h. inr (inl (eqb-true c 43 q), h)) (λ _. cond_both (eqb c 45) _ _ (NumberBacks at.Letter c) (λ q t h. inr (inr (eqb-true c 45 q), h)) (λ _. tt)))
number_back at.Sign c = cond_both (is_digit c) _ _ (NumberBacks at.Sign c) (λ q t h. (digit_says c q, h)) (λ _. tt)
number_back at.Exponent c = cond_both (is_digit c) _ _ (NumberBacks at.Exponent c) (λ q t h. (digit_says c q, h)) (λ _. tt)

-- some text may follow
pub some_number : (s : InNumber) → (t : List ℕ) × NumberEnd s t
some_number at.Minus = (48 ∷ [], put_first Whole (Joined Fraction Exponent) 48 [] [] [] refl (inl (refl, refl)) (put_none Fraction Exponent [] tt tt))
some_number at.Zero = ([], put_none Fraction Exponent [] tt tt)
some_number at.Whole = ([], put_none Digits (Joined Fraction Exponent) [] tt (put_none Fraction Exponent [] tt tt))
some_number at.Point = (48 ∷ [], put_first SomeDigits Exponent 48 [] [] [] refl ((lit≤ tt, lit≤ tt), tt) tt)
some_number at.Fraction = ([], put_none Digits Exponent [] tt tt)
some_number at.Letter = (48 ∷ [], inl ((lit≤ tt, lit≤ tt), tt))
some_number at.Sign = (48 ∷ [], ((lit≤ tt, lit≤ tt), tt))
some_number at.Exponent = ([], tt)

-- and so may another one
pub other_number : (s : InNumber) → (t : List ℕ) × NumberEnd s t × (t ≡ (some_number s).0 → ⊥)
unfolding some_number
other_number at.Minus = (49 ∷ [], number_back at.Minus 49 [] (some_number at.Whole).1, λ e. omega (arith, head_is 49 48 [] [] e))
other_number at.Zero = (46 ∷ 48 ∷ [], number_back at.Zero 46 (48 ∷ []) (some_number at.Point).1, λ e. cc)
other_number at.Whole = (48 ∷ [], number_back at.Whole 48 [] (some_number at.Whole).1, λ e. cc)
other_number at.Point = (49 ∷ [], number_back at.Point 49 [] (some_number at.Fraction).1, λ e. omega (arith, head_is 49 48 [] [] e))
other_number at.Fraction = (48 ∷ [], number_back at.Fraction 48 [] (some_number at.Fraction).1, λ e. cc)
other_number at.Letter = (49 ∷ [], number_back at.Letter 49 [] (some_number at.Exponent).1, λ e. omega (arith, head_is 49 48 [] [] e))
other_number at.Sign = (49 ∷ [], number_back at.Sign 49 [] (some_number at.Exponent).1, λ e. omega (arith, head_is 49 48 [] [] e))
other_number at.Exponent = (48 ∷ [], number_back at.Exponent 48 [] (some_number at.Exponent).1, λ e. cc)

-- a number is whole where nothing more need follow
pub whole_end : (s : InNumber) → is_whole s ≡ true → NumberEnd s []
whole_end at.Zero q = put_none Fraction Exponent [] tt tt
whole_end at.Whole q = put_none Digits (Joined Fraction Exponent) [] tt (put_none Fraction Exponent [] tt tt)
whole_end at.Fraction q = put_none Digits Exponent [] tt tt
whole_end at.Exponent q = tt
whole_end _ q = cc

empty_front : (f b : List ℕ) → [] ≡ f ++ b → f ≡ []
empty_front [] b q = refl
empty_front (x ∷ f) b q = cc

pub end_whole : (s : InNumber) → NumberEnd s [] → is_whole s ≡ true
end_whole at.Minus h = absurd (let x : Whole [] = subst Whole (empty_front h.front h.back h.text_is) h.in_one in x)
end_whole at.Point h = absurd (let x : SomeDigits [] = subst SomeDigits (empty_front h.front h.back h.text_is) h.in_one in x)
end_whole at.Letter h = absurd h
end_whole at.Sign h = absurd h
end_whole _ h = refl
