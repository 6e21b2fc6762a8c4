-- Texts that have no byte to be escaped.
use Rattle.std.proofs.Common.{◌≡◌, ℕ, suc, ◌+◌, ◌==◌, ◌&&◌, Bool, true, false, not, cond, inl, inr, List, [], ◌∷◌, ◌++◌, refl, sym, ap, ap₂, ◌∙◌, subst, arith, codes, IsTrue, get_or, add-one, take, drop, Option, Some, None, position}
use Rattle.std.proofs.lemmas.Bool.{and_parts, cases_Bool, not-true, eqb-true}
use Rattle.std.proofs.lemmas.List.{take-append-drop}
use Rattle.std.proofs.lemmas.List.Quantifiers.{position-Some}
use Rattle.std.proofs.Math.Seq.{drop-cons}
use Rattle.std.proofs.lemmas.Bool.Decides.{nat_tests}
use Rattle.std.proofs.lemmas.List.Concat.{flat_map-append}
use Rattle.std.specs.Char.{is_ascii_alphanumeric, is_ascii_alphabetic}
use Rattle.std.specs.List.{list_all, slice_split, onto_first}
use Rattle.jl_model.specs.Iris.{IsIri, is_iri_byte, is_scheme_byte, has_form_at, is_colon, is_scheme}
use Rattle.jl_model.specs.Labels.{is_kept_label, is_label_byte, is_word_byte, last_byte}
use Rattle.jl_model.specs.Tags.{is_language_tag, is_dash, is_some_of, are_subtags}
use Rattle.jl_defs.specs.Canon.{string_byte, string_text}
use Rattle.jl_writer.specs.Escapes.{IsPlain, needs_escape}

-- a byte that needs no escape stands for itself
pub plain_byte : (c : ℕ) → needs_escape c ≡ false → string_byte c ≡ c ∷ []
plain_byte c h = grind (arith, nat_tests)

-- bytes that pass a test need no escape
pub plain_by : (test : ℕ → Bool) → ((c : ℕ) → test c ≡ true → needs_escape c ≡ false) → (text : List ℕ) → list_all test text ≡ true → IsPlain text
plain_by test passes [] h = refl
plain_by test passes (c ∷ text) h =
    let both = and_parts (test c) (list_all test text) h in
    ap₂ (λ a b. a ++ b) (plain_byte c (passes c both.0)) (plain_by test passes text both.1)

letter_plain : (c : ℕ) → is_ascii_alphabetic c ≡ true → needs_escape c ≡ false
letter_plain c h = grind (arith, nat_tests)

letter_alphanumeric : (c : ℕ) → is_ascii_alphabetic c ≡ true → is_ascii_alphanumeric c ≡ true
letter_alphanumeric c h = grind (arith, nat_tests)

word_byte_plain : (c : ℕ) → is_word_byte c ≡ true → needs_escape c ≡ false
word_byte_plain c h = grind (arith, nat_tests)

iri_byte_plain : (c : ℕ) → is_iri_byte c ≡ true → needs_escape c ≡ false
iri_byte_plain c h = grind (arith, nat_tests)

alphanumeric_plain : (c : ℕ) → is_ascii_alphanumeric c ≡ true → needs_escape c ≡ false
alphanumeric_plain c h = grind (arith, nat_tests)

scheme_byte_plain : (c : ℕ) → is_scheme_byte c ≡ true → needs_escape c ≡ false
scheme_byte_plain c h = grind (arith, nat_tests)

label_byte_plain : (c : ℕ) → is_label_byte c ≡ true → needs_escape c ≡ false
label_byte_plain c h = grind (arith, nat_tests)

plain_append : (a b : List ℕ) → IsPlain a → IsPlain b → IsPlain (a ++ b)
plain_append a b h k = flat_map-append string_byte a b ∙ ap₂ (λ x y. x ++ y) h k

plain_scheme : (text : List ℕ) → is_scheme text ≡ true → IsPlain text
plain_scheme [] h = refl
plain_scheme (c ∷ cs) h =
    let both = and_parts (is_ascii_alphabetic c) (list_all is_scheme_byte cs) h in
    ap₂ (λ a b. a ++ b) (plain_byte c (letter_plain c both.0)) (plain_by is_scheme_byte scheme_byte_plain cs both.1)

plain_at : (text : List ℕ) (colon : Option ℕ) → position is_colon text ≡ colon → has_form_at text colon ≡ true → IsPlain text
plain_at text None e h = absurd cc
plain_at text (Some k) e h =
    let both = and_parts (is_scheme (take k text)) (list_all is_iri_byte (drop (k + 1) text)) h in
    let scheme = plain_scheme (take k text) both.0 in
    let rest = plain_by is_iri_byte iri_byte_plain (drop (k + 1) text) both.1 in
    let here = position-Some is_colon text k 0 e in
    let colon : get_or text k 0 ≡ 58 = eqb-true (get_or text k 0) 58 here.1 in
    let whole : text ≡ take k text ++ 58 ∷ drop (k + 1) text = sym (take-append-drop k text) ∙ ap (λ t. take k text ++ t) (drop-cons text k 0 here.0 ∙ rw add-one (ap (λ c. c ∷ drop (suc k) text) colon)) in
    subst IsPlain (sym whole) (plain_append (take k text) (58 ∷ drop (k + 1) text) scheme (ap (λ t. 58 ∷ t) rest))

pub plain_iri : (iri : List ℕ) → IsIri iri → IsPlain iri
plain_iri iri h = plain_at iri (position is_colon iri) refl h.form

pub plain_label : (label : List ℕ) → IsTrue (is_kept_label label) → IsPlain label
plain_label [] h = refl
plain_label (c ∷ cs) h =
    let both = and_parts (is_word_byte c) (list_all is_label_byte cs && not (last_byte c cs == 46)) h in
    let rest = and_parts (list_all is_label_byte cs) (not (last_byte c cs == 46)) both.1 in
    ap₂ (λ a b. a ++ b) (plain_byte c (word_byte_plain c both.0)) (plain_by is_label_byte label_byte_plain cs rest.0)

and_true : {a b : Bool} → a ≡ true → b ≡ true → (a && b) ≡ true
and_true h k = ap₂ (λ x y. x && y) h k

part_longer : (c : ℕ) (parts : List (List ℕ)) → list_all (list_all is_ascii_alphanumeric) (onto_first c parts) ≡ true → (is_ascii_alphanumeric c ≡ true) × (list_all (list_all is_ascii_alphanumeric) parts ≡ true)
part_longer c [] h =
    let one = and_parts (is_ascii_alphanumeric c && true) true h in
    let first = and_parts (is_ascii_alphanumeric c) true one.0 in
    (first.0, refl)
part_longer c (part ∷ parts) h =
    let both = and_parts (is_ascii_alphanumeric c && list_all is_ascii_alphanumeric part) (list_all (list_all is_ascii_alphanumeric) parts) h in
    let first = and_parts (is_ascii_alphanumeric c) (list_all is_ascii_alphanumeric part) both.0 in
    (first.0, and_true first.1 both.1)

plain_parts : (text : List ℕ) → list_all (list_all is_ascii_alphanumeric) (slice_split is_dash text) ≡ true → IsPlain text
plain_parts [] h = refl
plain_parts (c ∷ cs) h = elim (cases_Bool (is_dash c)) [
  | inl e ↦
      let dash : c ≡ 45 = eqb-true c 45 e in
      let rest = subst (λ b. list_all (list_all is_ascii_alphanumeric) (cond b ([] ∷ slice_split is_dash cs) (onto_first c (slice_split is_dash cs))) ≡ true) e h in
      ap₂ (λ a b. a ++ b) (plain_byte c (ap needs_escape dash)) (plain_parts cs rest)
  | inr e ↦
      let both = part_longer c (slice_split is_dash cs) (subst (λ b. list_all (list_all is_ascii_alphanumeric) (cond b ([] ∷ slice_split is_dash cs) (onto_first c (slice_split is_dash cs))) ≡ true) e h) in
      ap₂ (λ a b. a ++ b) (plain_byte c (alphanumeric_plain c both.0)) (plain_parts cs both.1)
]

all_weaker : (part : List ℕ) → list_all is_ascii_alphabetic part ≡ true → list_all is_ascii_alphanumeric part ≡ true
all_weaker [] h = refl
all_weaker (c ∷ cs) h =
    let both = and_parts (is_ascii_alphabetic c) (list_all is_ascii_alphabetic cs) h in
    and_true (letter_alphanumeric c both.0) (all_weaker cs both.1)

some_letters : (part : List ℕ) → is_some_of is_ascii_alphabetic part ≡ true → list_all is_ascii_alphanumeric part ≡ true
some_letters [] h = refl
some_letters (c ∷ cs) h = all_weaker (c ∷ cs) h

some_parts : (parts : List (List ℕ)) → list_all (is_some_of is_ascii_alphanumeric) parts ≡ true → list_all (list_all is_ascii_alphanumeric) parts ≡ true
some_parts [] h = refl
some_parts ([] ∷ parts) h = absurd cc
some_parts ((c ∷ cs) ∷ parts) h =
    let both = and_parts (is_ascii_alphanumeric c && list_all is_ascii_alphanumeric cs) (list_all (is_some_of is_ascii_alphanumeric) parts) h in
    and_true both.0 (some_parts parts both.1)

pub subtags_parts : (parts : List (List ℕ)) → are_subtags parts ≡ true → list_all (list_all is_ascii_alphanumeric) parts ≡ true
subtags_parts [] h = refl
subtags_parts (first ∷ others) h =
    let both = and_parts (is_some_of is_ascii_alphabetic first) (list_all (is_some_of is_ascii_alphanumeric) others) h in
    and_true (some_letters first both.0) (some_parts others both.1)

pub plain_tag : (tag : List ℕ) → IsTrue (is_language_tag tag) → IsPlain tag
plain_tag tag h = plain_parts tag (subtags_parts (slice_split is_dash tag) h)

-- the JSON string of such a text
pub plain_string : (text : List ℕ) → IsPlain text → codes "\"" ++ text ++ codes "\"" ≡ string_text text
unfolding string_text
plain_string text h = ap (λ t. 34 ∷ (t ++ 34 ∷ [])) (sym h)

pub iri_name : (iri : List ℕ) → IsIri iri → codes "\"" ++ iri ++ codes "\"" ≡ string_text iri
iri_name iri h = plain_string iri (plain_iri iri h)

pub label_name : (label : List ℕ) → IsTrue (is_kept_label label) → codes "\"_:" ++ label ++ codes "\"" ≡ string_text (codes "_:" ++ label)
label_name label h = plain_string (codes "_:" ++ label) (ap (λ t. 95 ∷ 58 ∷ t) (plain_label label h))

-- a text that is written as it is, and one byte more that needs no escape
pub plain_more : (bytes : List ℕ) (none : Bool) (c : ℕ) (more : Bool) → (none ≡ true → IsPlain bytes) → more ≡ (none && not (needs_escape c)) → more ≡ true → IsPlain (bytes ++ c ∷ [])
plain_more bytes none c more h e t =
    let both = and_parts none (not (needs_escape c)) (sym e ∙ t) in
    plain_append bytes (c ∷ []) (h both.0) (ap (λ t. t ++ []) (plain_byte c (not-true (needs_escape c) both.1)))
