-- A text split at its first colon, by the colon's place.
use Rattle.std.proofs.Common.{◌≡◌, ℕ, suc, ◌+◌, ◌-◌, ◌≤◌, ◌<◌, true, false, cond, not, List, [], ◌∷◌, length, take, drop, ap, refl, ◌∙◌, nat_lt, inl, inr, arith, Option, Some, None, position}
use Rattle.std.proofs.lemmas.Bool.{cases_Bool, cond-true, cond-false, ltb-true, ltb-false}
use Rattle.std.proofs.lemmas.List.{take_rest}
use Rattle.std.specs.List.{position_or_len}
use Rattle.jl_defs.specs.Texts.{is_colon}
use Rattle.jl_defs.specs.IriExpansion.{Compact, split_colon}

abbrev pub cut : ℕ → List ℕ → Option Compact
cut i text = Some (record { prefix = take i text; rest = drop (i + 1) text })

cut-cons : (c i : ℕ) (cs : List ℕ) → ◌≡◌ {A = Option Compact} (Some (record { prefix = c ∷ take i cs; rest = drop (i + 1) cs })) (cut (1 + i) (c ∷ cs))
cut-cons c i cs =
    let e : suc i ≡ 1 + i = omega arith in
    let f : suc (i + 1) ≡ 1 + i + 1 = omega arith in
    let front : c ∷ take i cs ≡ take (1 + i) (c ∷ cs) = ap (λ k. take k (c ∷ cs)) e in
    let back : drop (i + 1) cs ≡ drop (1 + i + 1) (c ∷ cs) = ap (λ k. drop k (c ∷ cs)) f in
    ap (λ p. Some (record { prefix = p; rest = drop (i + 1) cs })) front ∙ ap (λ r. Some (record { prefix = take (1 + i) (c ∷ cs); rest = r })) back

behind_first : (c : ℕ) (cs : List ℕ) → is_colon c ≡ true → position_or_len is_colon (c ∷ cs) ≡ 0
behind_first c cs h = ap (λ b. cond (not b) (1 + position_or_len is_colon cs) 0) h

behind_other : (c : ℕ) (cs : List ℕ) → is_colon c ≡ false → position_or_len is_colon (c ∷ cs) ≡ 1 + position_or_len is_colon cs
behind_other c cs h = ap (λ b. cond (not b) (1 + position_or_len is_colon cs) 0) h

split_here : (text : List ℕ) → position_or_len is_colon text < length text → split_colon text ≡ cut (position_or_len is_colon text) text
split_here [] lt = let no : ⊥ = omega (arith, lt) in absurd no
split_here (c ∷ cs) lt =
    elim (cases_Bool (is_colon c)) [
      | inl h ↦ rw (behind_first c cs h) (rw (split_colon, h) refl)
      | inr h ↦
          let within : position_or_len is_colon cs < length cs = let e = behind_other c cs h in omega (arith, lt, e) in
          rw (behind_other c cs h) (rw (split_colon, h) (rw (split_here cs within) (cut-cons c (position_or_len is_colon cs) cs)))
    ]

split_nowhere : (text : List ℕ) → length text ≤ position_or_len is_colon text → split_colon text ≡ None
split_nowhere [] past = refl
split_nowhere (c ∷ cs) past =
    elim (cases_Bool (is_colon c)) [
      | inl h ↦ let no : ⊥ = let e = behind_first c cs h in omega (arith, past, e) in absurd no
      | inr h ↦
          let past_rest : length cs ≤ position_or_len is_colon cs = let e = behind_other c cs h in omega (arith, past, e) in
          rw (split_colon, h) (rw (split_nowhere cs past_rest) refl)
    ]

-- a colon at this place
pub split_at : (text : List ℕ) (i : ℕ) → position is_colon text ≡ Some i → split_colon text ≡ Some (record { prefix = take i text; rest = drop (i + 1) text })
split_at text i h =
    elim (cases_Bool (nat_lt (position_or_len is_colon text) (length text))) [
      | inl e ↦
          let there : position is_colon text ≡ Some (position_or_len is_colon text) = cond-true (nat_lt (position_or_len is_colon text) (length text)) (Some (position_or_len is_colon text)) None e in
          let same : position_or_len is_colon text ≡ i = cc in
          split_here text (ltb-true (position_or_len is_colon text) (length text) e) ∙ ap (λ k. cut k text) same
      | inr e ↦ let gone : position is_colon text ≡ None = cond-false (nat_lt (position_or_len is_colon text) (length text)) (Some (position_or_len is_colon text)) None e in cc
    ]

-- no colon
pub split_none : (text : List ℕ) → position is_colon text ≡ None → split_colon text ≡ None
split_none text h =
    elim (cases_Bool (nat_lt (position_or_len is_colon text) (length text))) [
      | inl e ↦ let there : position is_colon text ≡ Some (position_or_len is_colon text) = cond-true (nat_lt (position_or_len is_colon text) (length text)) (Some (position_or_len is_colon text)) None e in cc
      | inr e ↦ split_nowhere text (ltb-false (position_or_len is_colon text) (length text) e)
    ]

-- what is lent from the colon on is all that stands behind it
pub with_rest : (i : ℕ) (text : List ℕ)
    → ◌≡◌ {A = Option Compact}
    (Some (record { prefix = take i text; rest = take (length text - (i + 1)) (drop (i + 1) text) }))
    (Some (record { prefix = take i text; rest = drop (i + 1) text }))
with_rest i text = ap (λ r. Some (record { prefix = take i text; rest = r })) (take_rest text (i + 1))
