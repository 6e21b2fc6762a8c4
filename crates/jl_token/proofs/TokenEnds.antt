-- The first byte of each token, and what is no whole token yet.
use Rattle.std.proofs.Common.{◌≡◌, ℕ, ◌≤◌, ◌⊎◌, inl, inr, true, false, eqb, List, [], ◌∷◌, ◌++◌, refl, sym, ap, ◌∙◌, subst, arith, Option, Some, None}
use Rattle.std.proofs.lemmas.Bool.{true≢false}
use Rattle.jl_model.specs.JsonNumbers.{IsNumber, Minus, Whole, Fraction, Exponent, Joined}
use Rattle.jl_model.specs.JsonStrings.{Quoted, IsString}
use Rattle.jl_model.specs.JsonText.{IsBlank}
use Rattle.jl_token.specs.declared.numbers.InNumber.{InNumber}
use Rattle.jl_token.specs.declared.numbers.InNumber.TheVariants as at
use Rattle.jl_token.specs.declared.strings.InString.{InString}
use Rattle.jl_token.specs.declared.strings.InString.TheVariants as in_string
use Rattle.jl_token.specs.declared.words.InWord.{InWord}
use Rattle.jl_token.specs.declared.words.InWord.TheVariants as letters
use Rattle.jl_token.specs.NumberMachine.{NumberEnd, is_digit, number_did, is_whole, next_letter, later_letters, word_next, word_of}
use Rattle.jl_token.specs.StringMachine.{ValueEnd, EndOf}
use Rattle.jl_token.proofs.Heads.{head_is, tail_is, none_left, none_right}

-- ---- strings

no_quoted : (m t : List ℕ) → t ≡ [] → Quoted m t → ⊥
no_quoted m t e h = let q : ◌≡◌ {A = List ℕ} (34 ∷ []) [] = none_right h.0 (34 ∷ []) (sym e ∙ h.1) in cc

no_value : (v : ℕ) (m t : List ℕ) → t ≡ [] → ValueEnd v m t → ⊥
no_value v m t e (inl k) = no_quoted k.1.0 t e k.1.2
no_value v m t e (inr k) = let q : ◌≡◌ {A = List ℕ} (92 ∷ k.1.0) [] = sym k.1.1 ∙ e in cc

-- a string that isn't closed needs more bytes
pub string_open : (place : InString) (m : List ℕ) → EndOf place m [] → ⊥
string_open in_string.Plain m h = no_quoted m [] refl h
string_open (in_string.Tail n l u) m (bs, ts, k, q, w) = no_quoted w.0 ts (none_right bs ts q) w.2
string_open in_string.Escape m (inl h) = let q = h.3 in cc
string_open in_string.Escape m (inr h) = let q = h.1 in cc
string_open (in_string.Hex n before) m (v, ds, ts, d, q, h) = no_value v m ts (none_right ds ts q) h
string_open (in_string.High v) m (ts, q, h) = cc
string_open (in_string.HighEscape v) m (ts, q, h) = cc
string_open (in_string.Low n v before) m (w, ds, ts, d, l, q, h) = no_quoted h.0 ts (none_right ds ts q) h.2

pub no_string : (m : List ℕ) → IsString m [] → ⊥
no_string m h = let q = h.1 in cc

-- a string begins with its quote
pub string_first : (m : List ℕ) (c : ℕ) (g : List ℕ) → IsString m (c ∷ g) → (c ≡ 34) × Quoted m g
string_first m c g (rest, q, h) = (head_is c 34 g rest q, subst (Quoted m) (sym (tail_is c 34 g rest q)) h)

-- ---- numbers

pub no_number : IsNumber [] → ⊥
no_number h =
    let j : Joined Whole (Joined Fraction Exponent) [] = subst (Joined Whole (Joined Fraction Exponent)) (none_right h.front h.back h.text_is) h.in_other in
    let x : Whole [] = subst Whole (none_left j.front j.back j.text_is) j.in_one in
    x

abbrev pub FirstOfNumber : ℕ → List ℕ → Type 0
FirstOfNumber c g = ((c ≡ 45) × NumberEnd at.Minus g) ⊎ ((c ≡ 48) × NumberEnd at.Zero g) ⊎ ((49 ≤ c) × (c ≤ 57) × NumberEnd at.Whole g)

whole_first : (c : ℕ) (g : List ℕ) → NumberEnd at.Minus (c ∷ g) → FirstOfNumber c g
whole_first c g h = go h.front h.text_is h.in_one
  where
    go : (f : List ℕ) → c ∷ g ≡ f ++ h.back → Whole f → FirstOfNumber c g
    go [] q i = absurd i
    go (d ∷ f) q (inl i) = inr (inl (head_is c d g (f ++ h.back) q ∙ i.0, subst (Joined Fraction Exponent) (sym (tail_is c d g (f ++ h.back) q ∙ ap (λ x. x ++ h.back) i.1)) h.in_other))
    go (d ∷ f) q (inr i) =
        let k = head_is c d g (f ++ h.back) q in
        inr (inr (omega (arith, i), omega (arith, i), record { front = f; back = h.back; text_is = tail_is c d g (f ++ h.back) q; in_one = i.2; in_other = h.in_other }))

-- a number begins with minus, zero or another digit
pub number_first : (c : ℕ) (g : List ℕ) → IsNumber (c ∷ g) → FirstOfNumber c g
number_first c g h = go h.front h.text_is h.in_one
  where
    go : (f : List ℕ) → c ∷ g ≡ f ++ h.back → Minus f → FirstOfNumber c g
    go [] q i = whole_first c g (subst (NumberEnd at.Minus) (sym q) h.in_other)
    go (d ∷ f) q i = inl (head_is c d g (f ++ h.back) q ∙ i.0, subst (NumberEnd at.Minus) (sym (tail_is c d g (f ++ h.back) q ∙ ap (λ x. x ++ h.back) i.1)) h.in_other)

-- and back
unsigned : (text : List ℕ) → NumberEnd at.Minus text → IsNumber text
unsigned text h = record { front = []; back = text; text_is = refl; in_one = tt; in_other = h }

pub minus_begins : (c : ℕ) (g : List ℕ) → c ≡ 45 → NumberEnd at.Minus g → IsNumber (c ∷ g)
minus_begins c g e h = record { front = c ∷ []; back = g; text_is = refl; in_one = (e, refl); in_other = h }

pub zero_begins : (c : ℕ) (g : List ℕ) → c ≡ 48 → NumberEnd at.Zero g → IsNumber (c ∷ g)
zero_begins c g e h = unsigned (c ∷ g) (record { front = c ∷ []; back = g; text_is = refl; in_one = inl (e, refl); in_other = h })

pub digit_begins : (c : ℕ) (g : List ℕ) → 49 ≤ c → c ≤ 57 → NumberEnd at.Whole g → IsNumber (c ∷ g)
digit_begins c g l u h = unsigned (c ∷ g) (record { front = c ∷ h.front; back = h.back; text_is = ap (λ x. c ∷ x) h.text_is; in_one = inr (l, u, h.in_one); in_other = h.in_other })

-- what stands behind a value
abbrev pub Delimits : ℕ → Type 0
Delimits c = IsBlank c ⊎ (c ≡ 93) ⊎ (c ≡ 125) ⊎ (c ≡ 44)

no_goes : (c : ℕ) → is_digit c ≡ false → eqb c 46 ≡ false → eqb c 101 ≡ false → eqb c 69 ≡ false → (place : InNumber) → is_whole place ≡ true → number_did place c ≡ None
no_goes c d p e u at.Zero w = rw (p, e, u) refl
no_goes c d p e u at.Whole w = rw (d, p, e, u) refl
no_goes c d p e u at.Fraction w = rw (d, e, u) refl
no_goes c d p e u at.Exponent w = rw d refl
no_goes c d p e u _ w = absurd (true≢false (sym w))

no_goes_at : (c byte : ℕ) → c ≡ byte → is_digit byte ≡ false → eqb byte 46 ≡ false → eqb byte 101 ≡ false → eqb byte 69 ≡ false → (place : InNumber) → is_whole place ≡ true → number_did place c ≡ None
no_goes_at c byte i d p e u place w = subst (λ x. number_did place x ≡ None) (sym i) (no_goes byte d p e u place w)

-- a whole number ends before it
pub number_stops : (c : ℕ) → Delimits c → (place : InNumber) → is_whole place ≡ true → number_did place c ≡ None
number_stops c (inl (inl i)) = no_goes_at c 32 i refl refl refl refl
number_stops c (inl (inr (inl i))) = no_goes_at c 9 i refl refl refl refl
number_stops c (inl (inr (inr (inl i)))) = no_goes_at c 10 i refl refl refl refl
number_stops c (inl (inr (inr (inr i)))) = no_goes_at c 13 i refl refl refl refl
number_stops c (inr (inl i)) = no_goes_at c 93 i refl refl refl refl
number_stops c (inr (inr (inl i))) = no_goes_at c 125 i refl refl refl refl
number_stops c (inr (inr (inr i))) = no_goes_at c 44 i refl refl refl refl

-- ---- words

abbrev pub WordSays : InWord → Option InWord → Type 0
WordSays place None = later_letters place ≡ []
WordSays place (Some w) = (later_letters place ≡ next_letter w ∷ later_letters w) × (word_of place ≡ word_of w)

pub word_says : (place : InWord) → WordSays place (word_next place)
word_says letters.N = (refl, refl)
word_says letters.Nu = (refl, refl)
word_says letters.Nul = refl
word_says letters.T = (refl, refl)
word_says letters.Tr = (refl, refl)
word_says letters.Tru = refl
word_says letters.F = (refl, refl)
word_says letters.Fa = (refl, refl)
word_says letters.Fal = (refl, refl)
word_says letters.Fals = refl
