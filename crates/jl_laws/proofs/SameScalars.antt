-- Two scalars at the front of one text are the same.
use Rattle.std.proofs.Common.{◌≡◌, ℕ, ◌⊎◌, inl, inr, true, false, List, [], ◌∷◌, ◌++◌, refl, sym, ap, ◌∙◌, subst, arith}
use Rattle.std.specs.List.{AllByRecursion}
use Rattle.jl_model.specs.declared.scalars.Scalar.{Scalar}
use Rattle.jl_model.specs.declared.scalars.Scalar.TheVariants.{Null, Bool as boolean, Number, Str}
use Rattle.jl_model.specs.JsonNumbers.{Joined, IsDigit, Digits, SomeDigits, Minus, Whole, Fraction, Signed, Exponent, IsNumber}
use Rattle.jl_model.specs.JsonText.{IsBlank, IsScalar}
use Rattle.jl_model.proofs.SameStrings.{head-is, tail-is, strings-same}

-- ---- numbers

-- a blank, a comma or a byte that closes a container
abbrev pub Stop : ℕ → Type 0
Stop c = IsBlank c ⊎ (c ≡ 44) ⊎ (c ≡ 93) ⊎ (c ≡ 125)

-- no number goes on with this text
abbrev pub Stops : List ℕ → Type 0
Stops [] = Unit {0}
Stops (c ∷ cs) = Stop c

abbrev AllBare : List ℕ → Type 0
AllBare = AllByRecursion (λ c. Stop c → ⊥)

digit-bare : (c : ℕ) → IsDigit c → Stop c → ⊥
digit-bare c d s = grind arith

sign-bare : (c : ℕ) → (c ≡ 43) ⊎ (c ≡ 45) ⊎ (c ≡ 46) ⊎ (c ≡ 69) ⊎ (c ≡ 101) → Stop c → ⊥
sign-bare c l s = grind arith

bare-then : (x y : List ℕ) → AllBare x → AllBare y → AllBare (x ++ y)
bare-then [] y a b = b
bare-then (c ∷ x) y a b = (a.0, bare-then x y a.1 b)

joined-bare : (P Q : List ℕ → Type 0) → ((t : List ℕ) → P t → AllBare t) → ((t : List ℕ) → Q t → AllBare t) → (t : List ℕ) → Joined P Q t → AllBare t
joined-bare P Q f g t h = subst AllBare (sym h.text_is) (bare-then h.front h.back (f h.front h.in_one) (g h.back h.in_other))

digits-bare : (t : List ℕ) → Digits t → AllBare t
digits-bare [] h = tt
digits-bare (c ∷ cs) h = (digit-bare c h.0, digits-bare cs h.1)

some-digits-bare : (t : List ℕ) → SomeDigits t → AllBare t
some-digits-bare [] h = tt
some-digits-bare (c ∷ cs) h = (digit-bare c h.0, digits-bare cs h.1)

minus-bare : (t : List ℕ) → Minus t → AllBare t
minus-bare [] h = tt
minus-bare (c ∷ cs) h = (sign-bare c (inr (inl h.0)), subst AllBare (sym h.1) tt)

whole-bare : (t : List ℕ) → Whole t → AllBare t
whole-bare [] h = tt
whole-bare (c ∷ cs) (inl h) = (digit-bare c (omega (arith, h.0), omega (arith, h.0)), subst AllBare (sym h.1) tt)
whole-bare (c ∷ cs) (inr h) = (digit-bare c (omega (arith, h.0), h.1), digits-bare cs h.2)

fraction-bare : (t : List ℕ) → Fraction t → AllBare t
fraction-bare [] h = tt
fraction-bare (c ∷ cs) h = (sign-bare c (inr (inr (inl h.0))), some-digits-bare cs h.1)

signed-bare : (t : List ℕ) → Signed t → AllBare t
signed-bare [] h = tt
signed-bare (c ∷ cs) (inl h) = some-digits-bare (c ∷ cs) h
signed-bare (c ∷ cs) (inr (inl e, h)) = (sign-bare c (inl e), some-digits-bare cs h)
signed-bare (c ∷ cs) (inr (inr e, h)) = (sign-bare c (inr (inl e)), some-digits-bare cs h)

exponent-bare : (t : List ℕ) → Exponent t → AllBare t
exponent-bare [] h = tt
exponent-bare (c ∷ cs) (inl e, h) = (sign-bare c (inr (inr (inr (inr e)))), signed-bare cs h)
exponent-bare (c ∷ cs) (inr e, h) = (sign-bare c (inr (inr (inr (inl e)))), signed-bare cs h)

number-bare : (t : List ℕ) → IsNumber t → AllBare t
number-bare = joined-bare Minus _ minus-bare (joined-bare Whole _ whole-bare (joined-bare Fraction Exponent fraction-bare exponent-bare))

bare-same : (x y r s : List ℕ) → AllBare x → AllBare y → Stops r → Stops s → x ++ r ≡ y ++ s → x ≡ y
bare-same [] [] r s a b f g e = refl
bare-same [] (d ∷ y) r s a b f g e = absurd (b.0 (subst Stops e f))
bare-same (c ∷ x) [] r s a b f g e = absurd (a.0 (subst Stops (sym e) g))
bare-same (c ∷ x) (d ∷ y) r s a b f g e =
    ap (λ z. z ∷ x) (head-is c d (x ++ r) (y ++ s) e) ∙ ap (λ z. d ∷ z) (bare-same x y r s a.1 b.1 f g (tail-is c d (x ++ r) (y ++ s) e))

-- ---- first bytes

-- the text has a first byte, and that is one of these
abbrev pub First : (ℕ → Type 0) → List ℕ → Type 0
First P [] = ⊥
First P (c ∷ cs) = P c

abbrev pub NumberByte : ℕ → Type 0
NumberByte c = (c ≡ 45) ⊎ IsDigit c

abbrev pub ScalarByte : Scalar → ℕ → Type 0
ScalarByte Null c = c ≡ 110
ScalarByte (boolean true) c = c ≡ 116
ScalarByte (boolean false) c = c ≡ 102
ScalarByte (Number digits) c = NumberByte c
ScalarByte (Str meant) c = c ≡ 34

-- the text of two parts, of which the first may be empty
first-joined : (P : ℕ → Type 0) (x y t : List ℕ) → t ≡ x ++ y → ((c : ℕ) (cs : List ℕ) → x ≡ c ∷ cs → P c) → First P y → First P t
first-joined P [] y t e f g = subst (First P) (sym e) g
first-joined P (c ∷ x) y t e f g = subst (First P) (sym e) (f c x refl)

minus-byte : (x : List ℕ) → Minus x → (c : ℕ) (cs : List ℕ) → x ≡ c ∷ cs → NumberByte c
minus-byte [] h c cs e = cc
minus-byte (d ∷ ds) h c cs e = inl (head-is c d cs ds (sym e) ∙ h.0)

whole-first : (x y t : List ℕ) → t ≡ x ++ y → Whole x → First NumberByte t
whole-first [] y t e h = absurd h
whole-first (c ∷ x) y t e (inl h) = subst (First NumberByte) (sym e) (inr (omega (arith, h.0), omega (arith, h.0)))
whole-first (c ∷ x) y t e (inr h) = subst (First NumberByte) (sym e) (inr (omega (arith, h.0), h.1))

number-first : (t : List ℕ) → IsNumber t → First NumberByte t
number-first t h =
    let w = h.in_other in
    first-joined NumberByte h.front h.back t h.text_is (minus-byte h.front h.in_one) (whole-first w.front w.back h.back w.text_is w.in_one)

pub scalar-first : (v : Scalar) (t : List ℕ) → IsScalar v t → First (ScalarByte v) t
scalar-first Null t h = subst (First (ScalarByte Null)) (sym h) refl
scalar-first (boolean true) t h = subst (First (ScalarByte (boolean true))) (sym h) refl
scalar-first (boolean false) t h = subst (First (ScalarByte (boolean false))) (sym h) refl
scalar-first (Number digits) t h = number-first t (subst IsNumber (sym h.0) h.1)
scalar-first (Str meant) t h = subst (First (ScalarByte (Str meant))) (sym h.1) refl

-- the first byte of two texts at the front of one
pub firsts-meet : (P Q : ℕ → Type 0) (x y r s : List ℕ) → First P x → First Q y → x ++ r ≡ y ++ s → (c : ℕ) × P c × Q c
firsts-meet P Q [] y r s f g e = absurd f
firsts-meet P Q (c ∷ x) [] r s f g e = absurd g
firsts-meet P Q (c ∷ x) (d ∷ y) r s f g e = (c, f, subst Q (sym (head-is c d (x ++ r) (y ++ s) e)) g)

-- ---- scalars

-- two scalars with one first byte are of one kind
abbrev Kindred : Scalar → Scalar → Type 0
Kindred Null Null = Unit {0}
Kindred (boolean true) (boolean true) = Unit {0}
Kindred (boolean false) (boolean false) = Unit {0}
Kindred (Number m) (Number n) = Unit {0}
Kindred (Str m) (Str n) = Unit {0}
Kindred v w = ⊥

no-number : (c n : ℕ) → NumberByte c → c ≡ n → ((n ≡ 45 → ⊥) × (IsDigit n → ⊥)) → ⊥
no-number c n (inl i) e h = h.0 (sym e ∙ i)
no-number c n (inr i) e h = h.1 (subst IsDigit e i)

no-letter : (n : ℕ) → (n ≡ 110) ⊎ (n ≡ 116) ⊎ (n ≡ 102) ⊎ (n ≡ 34) → (n ≡ 45 → ⊥) × (IsDigit n → ⊥)
no-letter n h = (λ e. grind arith, λ d. grind arith)

kindred : (c : ℕ) (v w : Scalar) → ScalarByte v c → ScalarByte w c → Kindred v w
kindred c Null Null h k = tt
kindred c Null (boolean true) h k = omega (arith, h, k)
kindred c Null (boolean false) h k = omega (arith, h, k)
kindred c Null (Number n) h k = no-number c 110 k h (no-letter 110 (inl refl))
kindred c Null (Str n) h k = omega (arith, h, k)
kindred c (boolean true) Null h k = omega (arith, h, k)
kindred c (boolean true) (boolean true) h k = tt
kindred c (boolean true) (boolean false) h k = omega (arith, h, k)
kindred c (boolean true) (Number n) h k = no-number c 116 k h (no-letter 116 (inr (inl refl)))
kindred c (boolean true) (Str n) h k = omega (arith, h, k)
kindred c (boolean false) Null h k = omega (arith, h, k)
kindred c (boolean false) (boolean true) h k = omega (arith, h, k)
kindred c (boolean false) (boolean false) h k = tt
kindred c (boolean false) (Number n) h k = no-number c 102 k h (no-letter 102 (inr (inr (inl refl))))
kindred c (boolean false) (Str n) h k = omega (arith, h, k)
kindred c (Number m) Null h k = no-number c 110 h k (no-letter 110 (inl refl))
kindred c (Number m) (boolean true) h k = no-number c 116 h k (no-letter 116 (inr (inl refl)))
kindred c (Number m) (boolean false) h k = no-number c 102 h k (no-letter 102 (inr (inr (inl refl))))
kindred c (Number m) (Number n) h k = tt
kindred c (Number m) (Str n) h k = no-number c 34 h k (no-letter 34 (inr (inr (inr refl))))
kindred c (Str m) Null h k = omega (arith, h, k)
kindred c (Str m) (boolean true) h k = omega (arith, h, k)
kindred c (Str m) (boolean false) h k = omega (arith, h, k)
kindred c (Str m) (Number n) h k = no-number c 34 k h (no-letter 34 (inr (inr (inr refl))))
kindred c (Str m) (Str n) h k = tt

-- only a number asks for what stands behind it
abbrev pub StopsFor : Scalar → List ℕ → Type 0
StopsFor (Number digits) text = Stops text
StopsFor v text = Unit {0}

pub scalars-same : (v w : Scalar) (x y r s : List ℕ) → IsScalar v x → IsScalar w y → StopsFor v r → Stops s → x ++ r ≡ y ++ s → (v ≡ w) × (x ≡ y)
scalars-same v w x y r s h k f g e =
    let m = firsts-meet (ScalarByte v) (ScalarByte w) x y r s (scalar-first v x h) (scalar-first w y k) e in
    go v w h k f (kindred m.0 v w m.1 m.2)
  where
    go : (v w : Scalar) → IsScalar v x → IsScalar w y → StopsFor v r → Kindred v w → (v ≡ w) × (x ≡ y)
    go Null Null h k f i = (refl, h ∙ sym k)
    go (boolean true) (boolean true) h k f i = (refl, h ∙ sym k)
    go (boolean false) (boolean false) h k f i = (refl, h ∙ sym k)
    go (Number m) (Number n) h k f i =
        let o = bare-same x y r s (number-bare x (subst IsNumber (sym h.0) h.1)) (number-bare y (subst IsNumber (sym k.0) k.1)) f g e in
        (ap Number (sym h.0 ∙ o ∙ k.0), o)
    go (Str m) (Str n) h k f i = let o = strings-same m n x y r s h k e in (ap Str o.0, o.1)
    go v w h k f i = absurd i
