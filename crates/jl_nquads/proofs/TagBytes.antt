-- Language tags, byte by byte.
use Rattle.std.proofs.Common.{◌≡◌, ℕ, inl, inr, Bool, true, false, ◌&&◌, ◌||◌, cond, List, [], ◌∷◌, ◌++◌, codes, IsTrue, IsFalse, refl, sym, ap, ◌∙◌}
use Rattle.std.proofs.lemmas.Bool.{cases_Bool, and_parts, and_from, or_cases, or_left, or_right, false≢true, cond-true, cond-false}
use Rattle.std.proofs.lemmas.List.Folds.{list_all-append}
use Rattle.std.specs.Char.{is_ascii_alphabetic, is_ascii_alphanumeric}
use Rattle.std.specs.Int.{is_in_range}
use Rattle.std.specs.List.{list_all, slice_split, onto_first}
use Rattle.jl_model.specs.Tags.{is_dash, is_some_of, are_subtags, is_language_tag}
use Rattle.jl_model.specs.LineTokens.{begins_tag}
use Rattle.jl_nquads.specs.LinesRead.{in_part}

-- the rest of a tag, where its first part or a later one is read, and has begun or hasn't
abbrev pub ends_tag : Bool → Bool → List ℕ → Bool
ends_tag first begun [] = begun
ends_tag first begun (c ∷ cs) = cond (is_dash c) (begun && ends_tag false false cs) (in_part first c && ends_tag first true cs)

abbrev part_ok : Bool → Bool → List ℕ → Bool
part_ok first true part = list_all (in_part first) part
part_ok first false part = is_some_of (in_part first) part

abbrev parts_ok : Bool → Bool → List (List ℕ) → Bool
parts_ok first begun [] = true
parts_ok first begun (part ∷ parts) = part_ok first begun part && list_all (is_some_of is_ascii_alphanumeric) parts

not_begun : (parts : List (List ℕ)) → parts_ok false false parts ≡ list_all (is_some_of is_ascii_alphanumeric) parts
not_begun [] = refl
not_begun (part ∷ parts) = refl

one_part : (first begun : Bool) (parts : List (List ℕ)) → parts_ok first begun ([] ∷ parts) ≡ (begun && list_all (is_some_of is_ascii_alphanumeric) parts)
one_part first true parts = refl
one_part first false parts = refl

grouped : (a b c : Bool) → ((a && b) && c) ≡ (a && (b && c))
grouped true b c = refl
grouped false b c = refl

longer_part : (first begun : Bool) (c : ℕ) (parts : List (List ℕ)) → parts_ok first begun (onto_first c parts) ≡ (in_part first c && parts_ok first true parts)
longer_part first true c [] = grouped (in_part first c) true true
longer_part first false c [] = grouped (in_part first c) true true
longer_part first true c (part ∷ parts) = grouped (in_part first c) (list_all (in_part first) part) (list_all (is_some_of is_ascii_alphanumeric) parts)
longer_part first false c (part ∷ parts) = grouped (in_part first c) (list_all (in_part first) part) (list_all (is_some_of is_ascii_alphanumeric) parts)

parts_ok-split : (first begun : Bool) (text : List ℕ) → parts_ok first begun (slice_split is_dash text) ≡ ends_tag first begun text
parts_ok-split first true [] = refl
parts_ok-split first false [] = refl
parts_ok-split first begun (c ∷ cs) =
    elim (is_dash c) as (λ b. parts_ok first begun (cond b ([] ∷ slice_split is_dash cs) (onto_first c (slice_split is_dash cs))) ≡ cond b (begun && ends_tag false false cs) (in_part first c && ends_tag first true cs)) [
      | true ↦ one_part first begun (slice_split is_dash cs) ∙ ap (λ b. begun && b) (sym (not_begun (slice_split is_dash cs)) ∙ parts_ok-split false false cs)
      | false ↦ longer_part first begun c (slice_split is_dash cs) ∙ ap (λ b. in_part first c && b) (parts_ok-split first true cs)
    ]

some_parts : (text : List ℕ) → are_subtags (slice_split is_dash text) ≡ parts_ok true false (slice_split is_dash text)
some_parts [] = refl
some_parts (c ∷ cs) = elim (is_dash c) as (λ b. are_subtags (cond b ([] ∷ slice_split is_dash cs) (onto_first c (slice_split is_dash cs))) ≡ parts_ok true false (cond b ([] ∷ slice_split is_dash cs) (onto_first c (slice_split is_dash cs)))) [
  | true ↦ refl
  | false ↦ onto (slice_split is_dash cs)
]
  where
    onto : (parts : List (List ℕ)) → are_subtags (onto_first c parts) ≡ parts_ok true false (onto_first c parts)
    onto [] = refl
    onto (part ∷ parts) = refl

-- a tag, byte by byte
pub tag_ends : (text : List ℕ) → is_language_tag text ≡ ends_tag true false text
tag_ends text = some_parts text ∙ parts_ok-split true false text

-- ---- fronts of tags

-- the bytes go on to the rest of a tag
abbrev pub goes_tag : Bool → Bool → List ℕ → Bool
goes_tag first begun [] = true
goes_tag first begun (c ∷ cs) = cond (is_dash c) (begun && goes_tag false false cs) (in_part first c && goes_tag first true cs)

with_letter : (first begun : Bool) (text : List ℕ) → ends_tag first begun (text ++ codes "a") ≡ goes_tag first begun text
with_letter true begun [] = refl
with_letter false begun [] = refl
with_letter first begun (c ∷ cs) =
    elim (is_dash c) as (λ b. cond b (begun && ends_tag false false (cs ++ codes "a")) (in_part first c && ends_tag first true (cs ++ codes "a")) ≡ cond b (begun && goes_tag false false cs) (in_part first c && goes_tag first true cs)) [
      | true ↦ ap (λ b. begun && b) (with_letter false false cs)
      | false ↦ ap (λ b. in_part first c && b) (with_letter first true cs)
    ]

pub tag_goes : (text : List ℕ) → begins_tag text ≡ goes_tag true false text
tag_goes text = tag_ends (text ++ codes "a") ∙ with_letter true false text

-- what is a tag goes on to one
pub ends_go : (first begun : Bool) (text : List ℕ) → IsTrue (ends_tag first begun text) → IsTrue (goes_tag first begun text)
ends_go first begun [] = λ h. refl
ends_go first begun (c ∷ cs) = elim (is_dash c) as (λ d. IsTrue (cond d (begun && ends_tag false false cs) (in_part first c && ends_tag first true cs)) → IsTrue (cond d (begun && goes_tag false false cs) (in_part first c && goes_tag first true cs))) [
  | true ↦ λ h. let p = and_parts begun (ends_tag false false cs) h in and_from begun (goes_tag false false cs) p.0 (ends_go false false cs p.1)
  | false ↦ λ h. let p = and_parts (in_part first c) (ends_tag first true cs) h in and_from (in_part first c) (goes_tag first true cs) p.0 (ends_go first true cs p.1)
]

-- so does a front of what does
pub front_goes : (first begun : Bool) (x y : List ℕ) → IsTrue (goes_tag first begun (x ++ y)) → IsTrue (goes_tag first begun x)
front_goes first begun [] y = λ h. refl
front_goes first begun (c ∷ cs) y =
    elim (is_dash c) as (λ d. IsTrue (cond d (begun && goes_tag false false (cs ++ y)) (in_part first c && goes_tag first true (cs ++ y))) → IsTrue (cond d (begun && goes_tag false false cs) (in_part first c && goes_tag first true cs))) [
      | true ↦ λ h. let p = and_parts begun (goes_tag false false (cs ++ y)) h in and_from begun (goes_tag false false cs) p.0 (front_goes false false cs y p.1)
      | false ↦ λ h. let p = and_parts (in_part first c) (goes_tag first true (cs ++ y)) h in and_from (in_part first c) (goes_tag first true cs) p.0 (front_goes first true cs y p.1)
    ]

-- a byte of a tag
abbrev pub is_tag_byte : ℕ → Bool
is_tag_byte c = is_dash c || is_ascii_alphanumeric c

letter_is_alphanumeric : (c : ℕ) → IsTrue (is_ascii_alphabetic c) → IsTrue (is_ascii_alphanumeric c)
letter_is_alphanumeric c h =
    let digit = is_in_range 48 57 c in
    let upper = is_in_range 65 90 c in
    let lower = is_in_range 97 122 c in
    elim (or_cases upper lower h) [ inl k ↦ or_left (digit || upper) lower (or_right digit upper k) | inr k ↦ or_right (digit || upper) lower k ]

part_is_alphanumeric : (first : Bool) (c : ℕ) → IsTrue (in_part first c) → IsTrue (is_ascii_alphanumeric c)
part_is_alphanumeric true c h = letter_is_alphanumeric c h
part_is_alphanumeric false c h = h

pub bytes_go : (first begun : Bool) (text : List ℕ) → IsTrue (goes_tag first begun text) → IsTrue (list_all is_tag_byte text)
bytes_go first begun [] h = refl
bytes_go first begun (c ∷ cs) h =
    let dashed = begun && goes_tag false false cs in
    let lettered = in_part first c && goes_tag first true cs in
    elim (cases_Bool (is_dash c)) [
      | inl e ↦
          let p = and_parts begun (goes_tag false false cs) (sym (cond-true (is_dash c) dashed lettered e) ∙ h) in
          and_from (is_tag_byte c) (list_all is_tag_byte cs) (or_left (is_dash c) (is_ascii_alphanumeric c) e) (bytes_go false false cs p.1)
      | inr e ↦
          let p = and_parts (in_part first c) (goes_tag first true cs) (sym (cond-false (is_dash c) dashed lettered e) ∙ h) in
          and_from (is_tag_byte c) (list_all is_tag_byte cs) (or_right (is_dash c) (is_ascii_alphanumeric c) (part_is_alphanumeric first c p.0)) (bytes_go first true cs p.1)
    ]

-- a tag doesn't go on with another byte
pub other_ends : (text : List ℕ) (c : ℕ) (r : List ℕ) → IsFalse (is_tag_byte c) → begins_tag (text ++ c ∷ r) ≡ false
other_ends text c r n = elim (cases_Bool (begins_tag (text ++ c ∷ r))) [
  | inl e ↦
      let h = bytes_go true false (text ++ c ∷ r) (sym (tag_goes (text ++ c ∷ r)) ∙ e) in
      let p = and_parts (list_all is_tag_byte text) (list_all is_tag_byte (c ∷ r)) (sym (list_all-append is_tag_byte text (c ∷ r)) ∙ h) in
      absurd (false≢true (sym n ∙ (and_parts (is_tag_byte c) (list_all is_tag_byte r) p.1).0))
  | inr e ↦ e
]

pub tag_bytes : (text : List ℕ) → IsTrue (is_language_tag text) → IsTrue (list_all is_tag_byte text)
tag_bytes text h = bytes_go true false text (ends_go true false text (sym (tag_ends text) ∙ h))
