-- Paths read from their end, and paths cut at a slash.
use Rattle.std.proofs.Common.{◌≡◌, ℕ, ◌+◌, ◌≤◌, ◌<◌, true, false, List, [], ◌∷◌, ◌++◌, length, take, drop, ap, sym, ◌∙◌, nat_lt, inl, inr, arith, Some, None, position, reverse}
use Rattle.std.proofs.lemmas.Bool.{cases_Bool, cond-true, cond-false, ltb-true, ltb-false}
use Rattle.std.proofs.lemmas.List.{reverse-append, reverse-reverse}
use Rattle.std.proofs.lemmas.List.Splits.{slice_split_none, slice_split_first}
use Rattle.std.proofs.lemmas.List.Sums.{fails_before_first}
use Rattle.std.specs.List.{position_or_len, slice_split}
use Rattle.jl_model.specs.Resolve.{is_slash, up_to_slash, from}
use Rattle.jl_iri.specs.Segments.{behind_slash, without_segment}

reverse-last : (path : List ℕ) (c : ℕ) → reverse (path ++ c ∷ []) ≡ c ∷ reverse path
reverse-last path c = reverse-append path (c ∷ [])

-- a last byte that is no slash goes away with the last segment
pub without_segment-other : (path : List ℕ) (c : ℕ) → is_slash c ≡ false → without_segment (path ++ c ∷ []) ≡ without_segment path
without_segment-other path c e =
    ap (λ r. reverse (behind_slash r)) (reverse-last path c)
    ∙ ap (λ b. reverse (elim b [ true ↦ reverse path | false ↦ behind_slash (reverse path) ])) e

-- a last slash is all that goes away
pub without_segment-slash : (path : List ℕ) (c : ℕ) → is_slash c ≡ true → without_segment (path ++ c ∷ []) ≡ path
without_segment-slash path c e =
    ap (λ r. reverse (behind_slash r)) (reverse-last path c)
    ∙ ap (λ b. reverse (elim b [ true ↦ reverse path | false ↦ behind_slash (reverse path) ])) e
    ∙ reverse-reverse path

pub up_to_slash-other : (path : List ℕ) (c : ℕ) → is_slash c ≡ false → up_to_slash (path ++ c ∷ []) ≡ up_to_slash path
up_to_slash-other path c e =
    ap (λ r. reverse (from is_slash r)) (reverse-last path c)
    ∙ ap (λ b. reverse (elim b [ true ↦ c ∷ reverse path | false ↦ from is_slash (reverse path) ])) e

pub up_to_slash-slash : (path : List ℕ) (c : ℕ) → is_slash c ≡ true → up_to_slash (path ++ c ∷ []) ≡ path ++ c ∷ []
up_to_slash-slash path c e =
    ap (λ r. reverse (from is_slash r)) (reverse-last path c)
    ∙ ap (λ b. reverse (elim b [ true ↦ c ∷ reverse path | false ↦ from is_slash (reverse path) ])) e
    ∙ ap reverse (sym (reverse-last path c))
    ∙ reverse-reverse (path ++ c ∷ [])

pub split_none : (path : List ℕ) → position is_slash path ≡ None → slice_split is_slash path ≡ path ∷ []
split_none path h =
    elim (cases_Bool (nat_lt (position_or_len is_slash path) (length path))) [
      | inl e ↦ let there : position is_slash path ≡ Some (position_or_len is_slash path) = cond-true (nat_lt (position_or_len is_slash path) (length path)) (Some (position_or_len is_slash path)) None e in cc
      | inr e ↦
          let past : length path ≤ position_or_len is_slash path = ltb-false (position_or_len is_slash path) (length path) e in
          slice_split_none is_slash path (λ k d within. fails_before_first is_slash path k d (omega arith))
    ]

pub split_at : (path : List ℕ) (i : ℕ) → position is_slash path ≡ Some i → slice_split is_slash path ≡ take i path ∷ slice_split is_slash (drop (i + 1) path)
split_at path i h =
    elim (cases_Bool (nat_lt (position_or_len is_slash path) (length path))) [
      | inl e ↦
          let there : position is_slash path ≡ Some (position_or_len is_slash path) = cond-true (nat_lt (position_or_len is_slash path) (length path)) (Some (position_or_len is_slash path)) None e in
          let same : position_or_len is_slash path ≡ i = cc in
          let within : position_or_len is_slash path < length path = ltb-true (position_or_len is_slash path) (length path) e in
          slice_split_first is_slash path 0 within ∙ ap (λ k. take k path ∷ slice_split is_slash (drop (k + 1) path)) same
      | inr e ↦ let gone : position is_slash path ≡ None = cond-false (nat_lt (position_or_len is_slash path) (length path)) (Some (position_or_len is_slash path)) None e in cc
    ]
