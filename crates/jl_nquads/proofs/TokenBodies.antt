-- What stands between the signs of IRIs and of strings.
use Rattle.std.proofs.Common.{◌≡◌, ℕ, zero, suc, ◌<◌, ◌≤◌, inl, inr, Bool, true, false, not, ◌&&◌, ◌||◌, ◌==◌, nat_le, List, [], ◌∷◌, ◌++◌, length, is_some, IsTrue, refl, sym, ap, ◌∙◌, subst, arith, lit<}
use Rattle.std.proofs.lemmas.Bool.{cases_Bool, cases_lt, cases_eq, and_parts, and_from, false≢true, cond-true, cond-false, eqb-true, ne_eqb, lt-ltb, le-leb, lt-leb}
use Rattle.std.proofs.lemmas.List.Folds.{list_all-append}
use Rattle.std.proofs.lemmas.Str.{encode_ascii}
use Rattle.std.specs.Char.{is_ascii_alphabetic, is_ascii_alphanumeric}
use Rattle.std.specs.List.{list_all}
use lib.Utf8.{encode, scalar, scalar_cases}
use Rattle.jl_model.specs.Iris.{is_scheme_byte, is_iri_byte, is_colon, has_iri_form}
use Rattle.jl_model.specs.LineTokens.{Written, itself, letter, four, eight, spelling, meaning, meant_byte, letter_value, is_uchar, is_hex_digit, hex_number, is_iri_character, is_string_character, is_line_end, is_token}
use Rattle.jl_model.specs.LineTokens as tokens
use Rattle.jl_nquads.specs.IriFronts.{begins_iri, may_stand}
use Rattle.jl_nquads.proofs.Characters.{Body, is_spelled}
use Rattle.jl_nquads.proofs.Deciding.{CanBeTried}
use Rattle.jl_nquads.proofs.IriForms.{ends_scheme, iri_form, iri_front, iri_colon}

-- a test that holds of every number below n
abbrev pub all_below : ℕ → (ℕ → Bool) → Bool
all_below zero f = true
all_below (suc n) f = f n && all_below n f

pub at_below : (n : ℕ) (f : ℕ → Bool) (c : ℕ) → IsTrue (all_below n f) → c < n → IsTrue (f c)
at_below zero f c h l = absurd (let z : ⊥ = omega (arith, l) in z)
at_below (suc n) f c h l =
    let p = and_parts (f n) (all_below n f) h in
    elim (cases_eq c n) [ inl e ↦ subst (λ x. IsTrue (f x)) (sym e) p.0 | inr e ↦ at_below n f c p.1 (omega (arith, l, e)) ]

-- bytes of schemes are bytes of IRIs
abbrev scheme_in_iri : ℕ → Bool
scheme_in_iri c = not (is_scheme_byte c) || is_iri_byte c

pub no_range : (lo hi c : ℕ) → lo ≤ c → hi < c → (nat_le lo c && nat_le c hi) ≡ false
no_range lo hi c l h = rw (le-leb lo c l, lt-leb c hi h) refl

-- beyond ASCII
pub high_alphanumeric : (c : ℕ) → 128 ≤ c → is_ascii_alphanumeric c ≡ false
high_alphanumeric c l = rw (no_range 48 57 c (omega arith) (omega arith), no_range 65 90 c (omega arith) (omega arith), no_range 97 122 c (omega arith) (omega arith)) refl

pub high_alphabetic : (c : ℕ) → 128 ≤ c → is_ascii_alphabetic c ≡ false
high_alphabetic c l = rw (no_range 65 90 c (omega arith) (omega arith), no_range 97 122 c (omega arith) (omega arith)) refl

pub high_scheme : (c : ℕ) → 128 ≤ c → is_scheme_byte c ≡ false
high_scheme c l = rw (high_alphanumeric c l, ne_eqb c 43 (λ e. omega (arith, e)), ne_eqb c 45 (λ e. omega (arith, e)), ne_eqb c 46 (λ e. omega (arith, e))) refl

pub high_iri : (c : ℕ) → 128 ≤ c → is_iri_byte c ≡ true
high_iri c l =
    rw (lt-ltb 32 c (omega arith), ne_eqb c 60 (λ e. omega (arith, e)), ne_eqb c 62 (λ e. omega (arith, e)), ne_eqb c 34 (λ e. omega (arith, e)), ne_eqb c 123 (λ e. omega (arith, e)), ne_eqb c 125 (λ e. omega (arith, e)), ne_eqb c 124 (λ e. omega (arith, e)), ne_eqb c 94 (λ e. omega (arith, e)), ne_eqb c 92 (λ e. omega (arith, e)), ne_eqb c 96 (λ e. omega (arith, e))) refl

scheme_below : (c : ℕ) → IsTrue (is_scheme_byte c) → c < 128
scheme_below c h = elim (cases_lt c 128) [ inl l ↦ l | inr l ↦ absurd (false≢true (sym (high_scheme c l) ∙ h)) ]

pub implied : (a b : Bool) → IsTrue (not a || b) → IsTrue a → IsTrue b
implied true b h k = h
implied false b h k = absurd (false≢true k)

scheme_is_iri : (c : ℕ) → IsTrue (is_scheme_byte c) → IsTrue (is_iri_byte c)
scheme_is_iri c h = implied (is_scheme_byte c) (is_iri_byte c) (at_below 128 scheme_in_iri c refl (scheme_below c h)) h

letter_is_iri : (c : ℕ) → IsTrue (is_ascii_alphabetic c) → IsTrue (is_iri_byte c)
letter_is_iri c h = implied (is_ascii_alphabetic c) (is_iri_byte c) (at_below 128 (λ x. not (is_ascii_alphabetic x) || is_iri_byte x) c refl below) h
  where
    below : c < 128
    below = elim (cases_lt c 128) [ inl l ↦ l | inr l ↦ absurd (false≢true (sym (high_alphabetic c l) ∙ h)) ]

ends_are_iri : (cs : List ℕ) → IsTrue (ends_scheme cs) → IsTrue (list_all is_iri_byte cs)
ends_are_iri [] h = refl
ends_are_iri (c ∷ cs) h = elim (cases_Bool (is_colon c)) [
  | inl e ↦ and_from (is_iri_byte c) (list_all is_iri_byte cs) (ap is_iri_byte (eqb-true c 58 e)) (sym (cond-true (is_colon c) (list_all is_iri_byte cs) (is_scheme_byte c && ends_scheme cs) e) ∙ h)
  | inr e ↦ let p = and_parts (is_scheme_byte c) (ends_scheme cs) (sym (cond-false (is_colon c) (list_all is_iri_byte cs) (is_scheme_byte c && ends_scheme cs) e) ∙ h) in and_from (is_iri_byte c) (list_all is_iri_byte cs) (scheme_is_iri c p.0) (ends_are_iri cs p.1)
]

-- each byte of an IRI is one that IRIs may have
pub iri_bytes : (m : List ℕ) → IsTrue (has_iri_form m) → IsTrue (list_all is_iri_byte m)
iri_bytes [] h = refl
iri_bytes (c ∷ cs) h = let p = and_parts (is_ascii_alphabetic c) (ends_scheme cs) (sym (iri_form c cs) ∙ h) in and_from (is_iri_byte c) (list_all is_iri_byte cs) (letter_is_iri c p.0) (ends_are_iri cs p.1)

-- ---- characters of IRIs

-- a byte that IRIs may have is no closing sign and no backslash
iri_plain : (c : ℕ) → IsTrue (is_iri_byte c) → IsTrue (not (c == 62 || c == 92))
iri_plain c h = elim (cases_eq c 62) [
  | inl e ↦ absurd (false≢true (sym (ap is_iri_byte e) ∙ h))
  | inr n ↦ elim (cases_eq c 92) [
    | inl e ↦ absurd (false≢true (sym (ap is_iri_byte e) ∙ h))
    | inr m ↦ rw (ne_eqb c 62 n, ne_eqb c 92 m) refl
  ]
]

iri_stands : (w : Written) → IsTrue (is_iri_character w) → IsTrue (may_stand 62 false w)
iri_stands (itself c) h = let p = and_parts (scalar c) (is_iri_byte c) h in and_from (scalar c) (not (c == 62 || c == 92)) p.0 (iri_plain c p.1)
iri_stands (letter c) h = h
iri_stands (four ds) h = h
iri_stands (eight ds) h = h

-- the character c, where each of its bytes may stand in an IRI
pub byte_stands : (c : ℕ) → IsTrue (list_all is_iri_byte (encode c)) → IsTrue (is_iri_byte c)
byte_stands c h = elim (cases_lt c 128) [
  | inl l ↦ (and_parts (is_iri_byte c) true (ap (list_all is_iri_byte) (sym (encode_ascii c l)) ∙ h)).0
  | inr l ↦ high_iri c l
]

stands_iri : (w : Written) → IsTrue (may_stand 62 false w) → IsTrue (list_all is_iri_byte (meant_byte w)) → IsTrue (is_iri_character w)
stands_iri (itself c) h k = and_from (scalar c) (is_iri_byte c) (and_parts (scalar c) (not (c == 62 || c == 92)) h).0 (byte_stands c k)
stands_iri (letter c) h k = h
stands_iri (four ds) h k = h
stands_iri (eight ds) h k = h

all_stand : (ws : List Written) → IsTrue (list_all is_iri_character ws) → IsTrue (list_all (may_stand 62 false) ws)
all_stand [] h = refl
all_stand (w ∷ ws) h = let p = and_parts (is_iri_character w) (list_all is_iri_character ws) h in and_from (may_stand 62 false w) (list_all (may_stand 62 false) ws) (iri_stands w p.0) (all_stand ws p.1)

all_iri : (ws : List Written) → IsTrue (list_all (may_stand 62 false) ws) → IsTrue (list_all is_iri_byte (meaning ws)) → IsTrue (list_all is_iri_character ws)
all_iri [] h k = refl
all_iri (w ∷ ws) h k =
    let p = and_parts (may_stand 62 false w) (list_all (may_stand 62 false) ws) h in
    let q = and_parts (list_all is_iri_byte (meant_byte w)) (list_all is_iri_byte (meaning ws)) (sym (list_all-append is_iri_byte (meant_byte w) (meaning ws)) ∙ k) in
    and_from (is_iri_character w) (list_all is_iri_character ws) (stands_iri w p.0 q.0) (all_iri ws p.1 q.1)

-- an IRI is characters that may stand between its signs, and whose meaning has the form
pub iri_from : (ws : List Written) → IsTrue (list_all (may_stand 62 false) ws) → IsTrue (has_iri_form (meaning ws)) → IsTrue (is_token (tokens.iri ws))
iri_from ws h k = and_from (list_all is_iri_character ws) (has_iri_form (meaning ws)) (all_iri ws h (iri_bytes (meaning ws) k)) k

pub iri_to : (ws : List Written) → IsTrue (is_token (tokens.iri ws)) → IsTrue (list_all (may_stand 62 false) ws) × IsTrue (has_iri_form (meaning ws))
iri_to ws h = let p = and_parts (list_all is_iri_character ws) (has_iri_form (meaning ws)) h in (all_stand ws p.0, p.1)

-- ---- what can be tried

pub letter_low : (c : ℕ) → IsTrue (is_some (letter_value c)) → c < 128
letter_low c h = elim (cases_lt c 128) [ inl l ↦ l | inr l ↦ absurd (false≢true (sym (none l) ∙ h)) ]
  where
    none : 128 ≤ c → is_some (letter_value c) ≡ false
    none l =
        rw (ne_eqb c 116 (λ e. omega (arith, e)), ne_eqb c 98 (λ e. omega (arith, e)), ne_eqb c 110 (λ e. omega (arith, e)), ne_eqb c 114 (λ e. omega (arith, e)), ne_eqb c 102 (λ e. omega (arith, e)), ne_eqb c 34 (λ e. omega (arith, e)), ne_eqb c 39 (λ e. omega (arith, e)), ne_eqb c 92 (λ e. omega (arith, e))) refl

pub scalar_below : (c : ℕ) → IsTrue (scalar c) → c < 1114112
scalar_below c h = elim (scalar_cases c h) [ inl l ↦ omega (arith, l) | inr l ↦ l.1 ]

digits_are : (n : ℕ) (ds : List ℕ) → IsTrue (is_uchar n ds) → (length ds ≡ n) × IsTrue (list_all is_hex_digit ds)
digits_are n ds h =
    let p = and_parts (length ds == n) (list_all is_hex_digit ds && scalar (hex_number 0 ds)) h in
    (eqb-true (length ds) n p.0, (and_parts (list_all is_hex_digit ds) (scalar (hex_number 0 ds)) p.1).0)

iri_tried : CanBeTried (may_stand 62 false)
iri_tried = record {
  itself_below = λ c h. scalar_below c (and_parts (scalar c) (not (c == 62 || c == 92)) h).0;
  letter_below = λ c h. absurd (false≢true h);
  four_digits = λ ds h. digits_are 4 ds h;
  eight_digits = λ ds h. digits_are 8 ds h;
}

string_tried : CanBeTried is_string_character
string_tried = record {
  itself_below = λ c h. scalar_below c (and_parts (scalar c) (not (c == 34 || (c == 92 || (c == 10 || c == 13)))) h).0;
  letter_below = λ c h. letter_low c h;
  four_digits = λ ds h. digits_are 4 ds h;
  eight_digits = λ ds h. digits_are 8 ds h;
}

-- ---- the bodies

not_right : (a b : Bool) → IsTrue (not (a || b)) → IsTrue (not b)
not_right true b h = absurd (false≢true h)
not_right false b h = h

not_left : (a b : Bool) → IsTrue (not (a || b)) → IsTrue (not a)
not_left true b h = h
not_left false b h = refl

iri_spelled : (w : Written) → IsTrue (may_stand 62 false w) → IsTrue (is_spelled w)
iri_spelled (itself c) h = let p = and_parts (scalar c) (not (c == 62 || c == 92)) h in and_from (scalar c) (not (c == 92)) p.0 (not_right (c == 62) (c == 92) p.1)
iri_spelled (letter c) h = absurd (false≢true h)
iri_spelled (four ds) h = h
iri_spelled (eight ds) h = h

string_spelled : (w : Written) → IsTrue (is_string_character w) → IsTrue (is_spelled w)
string_spelled (itself c) h =
    let p = and_parts (scalar c) (not (c == 34 || (c == 92 || (c == 10 || c == 13)))) h in
    and_from (scalar c) (not (c == 92)) p.0 (not_left (c == 92) (c == 10 || c == 13) (not_right (c == 34) (c == 92 || (c == 10 || c == 13)) p.1))
string_spelled (letter c) h = h
string_spelled (four ds) h = h
string_spelled (eight ds) h = h

pub iri_body : Body (may_stand 62 false) 62 has_iri_form begins_iri
unfolding encode
iri_body = record {
  spelled = iri_spelled;
  can_be_tried = iri_tried;
  close_low = lit< tt;
  close_spelled = refl;
  closes = refl;
  fine_front = iri_front;
  fine_goes_on = goes_on;
}
  where
    goes_on : (m : List ℕ) → IsTrue (begins_iri m) → (ws : List Written) × IsTrue (list_all (may_stand 62 false) ws) × IsTrue (has_iri_form (m ++ meaning ws))
    goes_on [] h = (itself 97 ∷ itself 58 ∷ [], refl, refl)
    goes_on (c ∷ m) h = (itself 58 ∷ [], refl, iri_colon c m ∙ h)

abbrev pub any : List ℕ → Bool
any m = true

pub string_body : Body is_string_character 34 any any
string_body = record {
  spelled = string_spelled;
  can_be_tried = string_tried;
  close_low = lit< tt;
  close_spelled = refl;
  closes = refl;
  fine_front = λ m x h. refl;
  fine_goes_on = λ m h. ([], refl, refl);
}
