-- The tokens that the texts of well-formed terms are.
use Rattle.std.proofs.Common.{◌≡◌, ℕ, ◌<◌, ◌≤◌, inl, inr, Bool, true, false, not, ◌&&◌, ◌||◌, ◌==◌, List, [], ◌∷◌, ◌++◌, map, flat_map, IsTrue, IsFalse, IsUtf8, refl, sym, ap, ap₂, ◌∙◌, subst, arith}
use Rattle.std.proofs.lemmas.Bool.{cases_lt, cases_eq, and_parts, and_from, or_cases, or_left, or_right, false≢true, eqb-true, ne_eqb}
use Rattle.std.proofs.lemmas.List.Concat.{flat_map-append}
use Rattle.std.proofs.lemmas.List.Folds.{list_all-append}
use Rattle.std.proofs.lemmas.Str.{encode_ascii}
use Rattle.std.specs.Char.{is_ascii_alphanumeric}
use Rattle.std.specs.List.{list_all}
use lib.Utf8.{encode, encodes, scalar, scalars}
use Rattle.jl_model.specs.Iris.{is_iri_byte, has_iri_form, IsIri}
use Rattle.jl_model.specs.Labels.{is_word_byte, is_label_byte, last_byte, is_kept_label}
use Rattle.jl_model.specs.Lines.{escaped}
use Rattle.jl_model.specs.LineTokens.{Written, itself, letter, spelling, meaning, meant_byte, is_iri_character, is_string_character, begins_label, goes_on_label, base_ranges, further_ranges, is_in, is_label, is_token}
use Rattle.jl_model.specs.LineTokens as tokens
use Rattle.jl_nquads.specs.Escapes.{needs_escape}
use Rattle.jl_nquads.proofs.CharacterRuns.{plain_spelling, plain_meaning}
use Rattle.jl_nquads.proofs.EscapeRuns.{same_byte}
use Rattle.jl_nquads.proofs.NoLineEnds.{encode_all}
use Rattle.jl_nquads.proofs.TokenBodies.{byte_stands, iri_bytes, high_alphanumeric}

-- characters that mean the text, and whose bytes are those that are written for it
pub record AreWritten (test : Written → Bool) (text bytes : List ℕ) : Type 0 where
  pub characters : List Written
  pub each : IsTrue (list_all test characters)
  pub bytes_are : flat_map spelling characters ≡ bytes
  pub meaning_is : meaning characters ≡ text

-- ---- IRIs

iri_characters : (cs : List ℕ) → scalars cs ≡ true → IsTrue (list_all is_iri_byte (encodes cs)) → IsTrue (list_all is_iri_character (map itself cs))
iri_characters [] h k = refl
iri_characters (c ∷ cs) h k =
    let p = and_parts (scalar c) (scalars cs) h in
    let q = and_parts (list_all is_iri_byte (encode c)) (list_all is_iri_byte (encodes cs)) (sym (list_all-append is_iri_byte (encode c) (encodes cs)) ∙ k) in
    and_from (is_iri_character (itself c)) (list_all is_iri_character (map itself cs)) (and_from (scalar c) (is_iri_byte c) p.0 (byte_stands c q.0)) (iri_characters cs p.1 q.1)

pub iri_written : (text : List ℕ) → IsIri text → AreWritten is_iri_character text text
iri_written text h =
    let (cs, (ok, spelled)) = h.utf8 in
    record {
      characters = map itself cs;
      each = iri_characters cs ok (subst (λ z. IsTrue (list_all is_iri_byte z)) (sym spelled) (iri_bytes text h.form));
      bytes_are = plain_spelling cs ∙ spelled;
      meaning_is = plain_meaning cs ∙ spelled;
    }

pub iri_token : (text : List ℕ) → IsTrue (has_iri_form text) → (w : AreWritten is_iri_character text text) → IsTrue (is_token (tokens.iri w.characters))
iri_token text h w = and_from (list_all is_iri_character w.characters) (has_iri_form (meaning w.characters)) w.each (subst (λ z. IsTrue (has_iri_form z)) (sym w.meaning_is) h)

-- ---- strings

-- a character as a string has it
record IsWritten (c : ℕ) : Type 0 where
  pub character : Written
  pub fits : IsTrue (is_string_character character)
  pub bytes_are : spelling character ≡ flat_map escaped (encode c)
  pub meaning_is : meant_byte character ≡ encode c

by_letter : (c l : ℕ) → IsTrue (is_string_character (letter l)) → spelling (letter l) ≡ flat_map escaped (encode c) → meant_byte (letter l) ≡ encode c → IsWritten c
by_letter c l f b m = record { character = letter l; fits = f; bytes_are = b; meaning_is = m }

quote_written : IsWritten 34
unfolding encode
quote_written = by_letter 34 34 refl refl refl

backslash_written : IsWritten 92
unfolding encode
backslash_written = by_letter 92 92 refl refl refl

line_feed_written : IsWritten 10
unfolding encode
line_feed_written = by_letter 10 110 refl refl refl

return_written : IsWritten 13
unfolding encode
return_written = by_letter 13 114 refl refl refl

-- bytes that need no escape are written as they are
plain_bytes : (bs : List ℕ) → IsTrue (list_all (λ b. not (needs_escape b)) bs) → flat_map escaped bs ≡ bs
plain_bytes [] h = refl
plain_bytes (b ∷ bs) h =
    let p = and_parts (not (needs_escape b)) (list_all (λ b. not (needs_escape b)) bs) h in
    ap (λ z. z ++ flat_map escaped bs) (same_byte b (not_true (needs_escape b) p.0)) ∙ ap (λ z. b ∷ z) (plain_bytes bs p.1)
  where
    not_true : (b : Bool) → IsTrue (not b) → IsFalse b
    not_true true h = absurd (false≢true h)
    not_true false h = refl

high_plain : (b : ℕ) → 128 ≤ b → IsTrue (not (needs_escape b))
high_plain b l = rw (ne_eqb b 34 (λ e. omega (arith, e)), ne_eqb b 92 (λ e. omega (arith, e)), ne_eqb b 10 (λ e. omega (arith, e)), ne_eqb b 13 (λ e. omega (arith, e))) refl

plain_written : (c : ℕ) → IsTrue (scalar c) → IsTrue (not (needs_escape c)) → IsWritten c
plain_written c s n = record {
  character = itself c;
  fits = and_from (scalar c) (not (needs_escape c)) s n;
  bytes_are = sym (plain_bytes (encode c) (encode_all (λ b. not (needs_escape b)) c high_plain (λ l. n)));
  meaning_is = refl;
}

character_written : (c : ℕ) → IsTrue (scalar c) → IsWritten c
character_written c s = elim (cases_eq c 34) [
  | inl e ↦ subst IsWritten (sym e) quote_written
  | inr a ↦ elim (cases_eq c 92) [
    | inl e ↦ subst IsWritten (sym e) backslash_written
    | inr b ↦ elim (cases_eq c 10) [
      | inl e ↦ subst IsWritten (sym e) line_feed_written
      | inr d ↦ elim (cases_eq c 13) [
        | inl e ↦ subst IsWritten (sym e) return_written
        | inr e ↦ plain_written c s (rw (ne_eqb c 34 a, ne_eqb c 92 b, ne_eqb c 10 d, ne_eqb c 13 e) refl)
      ]
    ]
  ]
]

characters_written : (cs : List ℕ) → scalars cs ≡ true → AreWritten is_string_character (encodes cs) (flat_map escaped (encodes cs))
characters_written [] h = record { characters = []; each = refl; bytes_are = refl; meaning_is = refl }
characters_written (c ∷ cs) h =
    let p = and_parts (scalar c) (scalars cs) h in
    let w = character_written c p.0 in
    let ws = characters_written cs p.1 in
    record {
      characters = w.character ∷ ws.characters;
      each = and_from (is_string_character w.character) (list_all is_string_character ws.characters) w.fits ws.each;
      bytes_are = ap₂ (λ x y. x ++ y) w.bytes_are ws.bytes_are ∙ sym (flat_map-append escaped (encode c) (encodes cs));
      meaning_is = ap₂ (λ x y. x ++ y) w.meaning_is ws.meaning_is;
    }

pub string_written : (text : List ℕ) → IsUtf8 text → AreWritten is_string_character text (flat_map escaped text)
string_written text (cs, (ok, spelled)) = subst (λ z. AreWritten is_string_character z (flat_map escaped z)) spelled (characters_written cs ok)

-- ---- labels

word_low : (c : ℕ) → IsTrue (is_word_byte c) → c < 128
word_low c h = elim (or_cases (is_ascii_alphanumeric c) (c == 95) h) [
  | inl k ↦ elim (cases_lt c 128) [ inl l ↦ l | inr l ↦ absurd (false≢true (sym (high_alphanumeric c l) ∙ k)) ]
  | inr k ↦ omega (arith, eqb-true c 95 k)
]

label_low : (c : ℕ) → IsTrue (is_label_byte c) → c < 128
label_low c h = elim (or_cases (is_word_byte c) (c == 45 || c == 46) h) [
  | inl k ↦ word_low c k
  | inr k ↦ elim (or_cases (c == 45) (c == 46) k) [ inl e ↦ omega (arith, eqb-true c 45 e) | inr e ↦ omega (arith, eqb-true c 46 e) ]
]

word_begins : (c : ℕ) → IsTrue (is_word_byte c) → IsTrue (begins_label c)
word_begins c h = elim (or_cases (is_ascii_alphanumeric c) (c == 95) h) [
  | inl k ↦ or_left (is_ascii_alphanumeric c) (c == 95 || (c == 58 || is_in base_ranges c)) k
  | inr k ↦ or_right (is_ascii_alphanumeric c) (c == 95 || (c == 58 || is_in base_ranges c)) (or_left (c == 95) (c == 58 || is_in base_ranges c) k)
]

byte_goes_on : (c : ℕ) → IsTrue (is_label_byte c) → IsTrue (goes_on_label c)
byte_goes_on c h =
    let others = c == 45 || (c == 46 || is_in further_ranges c) in
    elim (or_cases (is_word_byte c) (c == 45 || c == 46) h) [
      | inl k ↦ or_left (begins_label c) others (word_begins c k)
      | inr k ↦ or_right (begins_label c) others (elim (or_cases (c == 45) (c == 46) k) [
        | inl e ↦ or_left (c == 45) (c == 46 || is_in further_ranges c) e
        | inr e ↦ or_right (c == 45) (c == 46 || is_in further_ranges c) (or_left (c == 46) (is_in further_ranges c) e)
      ])
    ]

bytes_go_on : (cs : List ℕ) → IsTrue (list_all is_label_byte cs) → IsTrue (list_all goes_on_label cs)
bytes_go_on [] h = refl
bytes_go_on (c ∷ cs) h = let p = and_parts (is_label_byte c) (list_all is_label_byte cs) h in and_from (goes_on_label c) (list_all goes_on_label cs) (byte_goes_on c p.0) (bytes_go_on cs p.1)

label_bytes : (cs : List ℕ) → IsTrue (list_all is_label_byte cs) → encodes cs ≡ cs
label_bytes [] h = refl
label_bytes (c ∷ cs) h = let p = and_parts (is_label_byte c) (list_all is_label_byte cs) h in ap₂ (λ x y. x ++ y) (encode_ascii c (label_low c p.0)) (label_bytes cs p.1)

-- a label of the kept form is a label, and its characters are its bytes
pub kept_token : (text : List ℕ) → IsTrue (is_kept_label text) → IsTrue (is_token (tokens.label text)) × (encodes text ≡ text)
kept_token [] h = absurd (false≢true h)
kept_token (c ∷ cs) h =
    let p = and_parts (is_word_byte c) (list_all is_label_byte cs && not (last_byte c cs == 46)) h in
    let q = and_parts (list_all is_label_byte cs) (not (last_byte c cs == 46)) p.1 in (
      and_from (begins_label c) (list_all goes_on_label cs && not (last_byte c cs == 46)) (word_begins c p.0) (and_from (list_all goes_on_label cs) (not (last_byte c cs == 46)) (bytes_go_on cs q.0) q.1),
      ap₂ (λ x y. x ++ y) (encode_ascii c (word_low c p.0)) (label_bytes cs q.0),
    )
