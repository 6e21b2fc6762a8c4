-- Parts between dashes, byte by byte.
use Rattle.std.proofs.Common.{◌≡◌, ℕ, ◌≤◌, inl, inr, arith, Bool, true, false, ◌&&◌, cond, List, [], ◌∷◌, length, take, drop, ◌+◌, Some, None, refl, sym, ap, ◌∙◌, nat_lt}
use Rattle.std.proofs.lemmas.Bool.{cases_Bool, cond-true, cond-false, ltb-true, ltb-false}
use Rattle.std.proofs.Math.Bool.{and-true}
use Rattle.std.proofs.lemmas.List.Splits.{slice_split_none, slice_split_first}
use Rattle.std.proofs.lemmas.List.Sums.{fails_before_first}
use Rattle.std.specs.Char.{is_ascii_alphabetic, is_ascii_alphanumeric}
use Rattle.std.specs.List.{list_all, slice_split, onto_first, position, position_or_len}
use Rattle.jl_model.specs.Tags.{is_dash, is_some_of, are_subtags, is_language_tag}

-- what goes on parts of letters and digits, where the part that is being read has begun or hasn't
abbrev pub go_on : Bool → List ℕ → Bool
go_on begun [] = begun
go_on begun (c ∷ cs) = cond (is_dash c) (begun && go_on false cs) (is_ascii_alphanumeric c && go_on true cs)

-- the first part may be empty where it has begun before
abbrev parts_go_on : Bool → List (List ℕ) → Bool
parts_go_on begun [] = true
parts_go_on true (part ∷ parts) = list_all is_ascii_alphanumeric part && list_all (is_some_of is_ascii_alphanumeric) parts
parts_go_on false (part ∷ parts) = is_some_of is_ascii_alphanumeric part && list_all (is_some_of is_ascii_alphanumeric) parts

not_begun : (parts : List (List ℕ)) → parts_go_on false parts ≡ list_all (is_some_of is_ascii_alphanumeric) parts
not_begun [] = refl
not_begun (part ∷ parts) = refl

one_part : (begun : Bool) (parts : List (List ℕ)) → parts_go_on begun ([] ∷ parts) ≡ (begun && list_all (is_some_of is_ascii_alphanumeric) parts)
one_part true parts = refl
one_part false parts = refl

grouped : (a b c : Bool) → ((a && b) && c) ≡ (a && (b && c))
grouped true b c = refl
grouped false b c = refl

longer_part : (begun : Bool) (c : ℕ) (parts : List (List ℕ)) → parts_go_on begun (onto_first c parts) ≡ (is_ascii_alphanumeric c && parts_go_on true parts)
longer_part true c [] = grouped (is_ascii_alphanumeric c) true true
longer_part false c [] = grouped (is_ascii_alphanumeric c) true true
longer_part true c (part ∷ parts) = grouped (is_ascii_alphanumeric c) (list_all is_ascii_alphanumeric part) (list_all (is_some_of is_ascii_alphanumeric) parts)
longer_part false c (part ∷ parts) = grouped (is_ascii_alphanumeric c) (list_all is_ascii_alphanumeric part) (list_all (is_some_of is_ascii_alphanumeric) parts)

parts_go_on-split : (begun : Bool) (text : List ℕ) → parts_go_on begun (slice_split is_dash text) ≡ go_on begun text
parts_go_on-split true [] = refl
parts_go_on-split false [] = refl
parts_go_on-split begun (c ∷ cs) =
    elim (is_dash c) as (λ b. parts_go_on begun (cond b ([] ∷ slice_split is_dash cs) (onto_first c (slice_split is_dash cs))) ≡ cond b (begun && go_on false cs) (is_ascii_alphanumeric c && go_on true cs)) [
      | true ↦ one_part begun (slice_split is_dash cs) ∙ ap (λ b. begun && b) (sym (not_begun (slice_split is_dash cs)) ∙ parts_go_on-split false cs)
      | false ↦ longer_part begun c (slice_split is_dash cs) ∙ ap (λ b. is_ascii_alphanumeric c && b) (parts_go_on-split true cs)
    ]

pub subtags_go_on : (text : List ℕ) → list_all (is_some_of is_ascii_alphanumeric) (slice_split is_dash text) ≡ go_on false text
subtags_go_on text = sym (not_begun (slice_split is_dash text)) ∙ parts_go_on-split false text

-- a tag without a dash is its first part
pub tag_without_dash : (text : List ℕ) → position is_dash text ≡ None → is_language_tag text ≡ is_some_of is_ascii_alphabetic text
tag_without_dash text h =
    elim (cases_Bool (nat_lt (position_or_len is_dash text) (length text))) [
      | inl e ↦ let there : position is_dash text ≡ Some (position_or_len is_dash text) = cond-true (nat_lt (position_or_len is_dash text) (length text)) (Some (position_or_len is_dash text)) None e in cc
      | inr e ↦
          let past : length text ≤ position_or_len is_dash text = ltb-false (position_or_len is_dash text) (length text) e in
          let whole : slice_split is_dash text ≡ text ∷ [] = slice_split_none is_dash text (λ k d within. fails_before_first is_dash text k d (omega arith)) in
          ap are_subtags whole ∙ and-true (is_some_of is_ascii_alphabetic text)
    ]

-- a tag with a dash is what stands before it and what stands behind it
pub tag_with_dash : (text : List ℕ) (dash : ℕ) → position is_dash text ≡ Some dash
    → is_language_tag text ≡ (is_some_of is_ascii_alphabetic (take dash text) && list_all (is_some_of is_ascii_alphanumeric) (slice_split is_dash (drop (dash + 1) text)))
tag_with_dash text dash h =
    elim (cases_Bool (nat_lt (position_or_len is_dash text) (length text))) [
      | inl e ↦
          let there : position is_dash text ≡ Some (position_or_len is_dash text) = cond-true (nat_lt (position_or_len is_dash text) (length text)) (Some (position_or_len is_dash text)) None e in
          let place : position_or_len is_dash text ≡ dash = cc in
          ap are_subtags (slice_split_first is_dash text 0 (ltb-true (position_or_len is_dash text) (length text) e))
          ∙ ap (λ n. is_some_of is_ascii_alphabetic (take n text) && list_all (is_some_of is_ascii_alphanumeric) (slice_split is_dash (drop (n + 1) text))) place
      | inr e ↦ let none : position is_dash text ≡ None = cond-false (nat_lt (position_or_len is_dash text) (length text)) (Some (position_or_len is_dash text)) None e in absurd (cc)
    ]
