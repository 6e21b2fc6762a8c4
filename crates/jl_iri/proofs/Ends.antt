-- Where a test first passes, as a place and as what stands before it and from there on.
use Rattle.std.proofs.Common.{◌≡◌, ℕ, suc, Option, ◌+◌, ◌≤◌, Bool, true, false, cond, not, List, [], ◌∷◌, length, take, drop, ap, refl, sym, ◌∙◌, unwrap_or, nat_lt, inl, inr, arith, Some, None, position}
use Rattle.std.proofs.lemmas.Bool.{cases_Bool, cond-true, cond-false, ltb-false}
use Rattle.std.proofs.lemmas.List.Sums.{prefix_len-le-length}
use Rattle.std.specs.List.{position_or_len}
use Rattle.jl_model.specs.Resolve.{until, from}

take-one : (c n : ℕ) (cs : List ℕ) → take (1 + n) (c ∷ cs) ≡ c ∷ take n cs
take-one c n cs = let e : 1 + n ≡ suc n = omega arith in ap (λ k. take k (c ∷ cs)) e

drop-one : (c n : ℕ) (cs : List ℕ) → drop (1 + n) (c ∷ cs) ≡ drop n cs
drop-one c n cs = let e : 1 + n ≡ suc n = omega arith in ap (λ k. drop k (c ∷ cs)) e

until-take : (test : ℕ → Bool) (text : List ℕ) → until test text ≡ take (position_or_len test text) text
until-take test [] = refl
until-take test (c ∷ cs) =
    elim (test c) as (λ b. elim b [ true ↦ [] | false ↦ c ∷ until test cs ] ≡ take (cond (not b) (1 + position_or_len test cs) 0) (c ∷ cs)) [
      | true ↦ refl
      | false ↦ ap (λ front. c ∷ front) (until-take test cs) ∙ sym (take-one c (position_or_len test cs) cs)
    ]

from-drop : (test : ℕ → Bool) (text : List ℕ) → from test text ≡ drop (position_or_len test text) text
from-drop test [] = refl
from-drop test (c ∷ cs) =
    elim (test c) as (λ b. elim b [ true ↦ c ∷ cs | false ↦ from test cs ] ≡ drop (cond (not b) (1 + position_or_len test cs) 0) (c ∷ cs)) [
      | true ↦ refl
      | false ↦ from-drop test cs ∙ sym (drop-one c (position_or_len test cs) cs)
    ]

place-is : (test : ℕ → Bool) (text : List ℕ) → unwrap_or (position test text) (length text) ≡ position_or_len test text
place-is test text =
    let within : position_or_len test text ≤ length text = prefix_len-le-length (λ x. not (test x)) text in
    elim (cases_Bool (nat_lt (position_or_len test text) (length text))) [
      | inl e ↦ ap (λ place. unwrap_or place (length text)) (cond-true (nat_lt (position_or_len test text) (length text)) (Some (position_or_len test text)) None e)
      | inr e ↦
          let past : length text ≤ position_or_len test text = ltb-false (position_or_len test text) (length text) e in
          ap (λ place. unwrap_or place (length text)) (cond-false (nat_lt (position_or_len test text) (length text)) (Some (position_or_len test text)) None e) ∙ omega arith
    ]

-- what stands before the first byte that passes, by its place
pub take-place : (test : ℕ → Bool) (text : List ℕ) → take (unwrap_or (position test text) (length text)) text ≡ until test text
take-place test text = ap (λ i. take i text) (place-is test text) ∙ sym (until-take test text)

-- what stands from there on
pub drop-place : (test : ℕ → Bool) (text : List ℕ) → drop (unwrap_or (position test text) (length text)) text ≡ from test text
drop-place test text = ap (λ i. drop i text) (place-is test text) ∙ sym (from-drop test text)

-- the two pieces of a text that is cut at the first byte that passes
pub cut_before : (test : ℕ → Bool) (text before : List ℕ) (place : Option ℕ) → place ≡ position test text
    → before ≡ take (unwrap_or place (length text)) text → before ≡ until test text
cut_before test text before place e h = h ∙ ap (λ p. take (unwrap_or p (length text)) text) e ∙ take-place test text

pub cut_from : (test : ℕ → Bool) (text rest : List ℕ) (place : Option ℕ) → place ≡ position test text
    → rest ≡ drop (unwrap_or place (length text)) text → rest ≡ from test text
cut_from test text rest place e h = h ∙ ap (λ p. drop (unwrap_or p (length text)) text) e ∙ drop-place test text
