-- A word split at its first `=`, by the place of that byte.
use Rattle.std.proofs.Common.{◌≡◌, ℕ, suc, ◌+◌, ◌-◌, ◌≤◌, ◌<◌, true, false, cond, not, List, [], ◌∷◌, length, take, drop, ap, refl, ◌∙◌, nat_lt, inl, inr, arith, Some, None, position}
use Rattle.std.proofs.lemmas.Bool.{cases_Bool, cond-true, cond-false, ltb-true, ltb-false}
use Rattle.std.proofs.lemmas.List.{take_rest}
use Rattle.std.specs.List.{position_or_len}
use Rattle.jl_defs.specs.Words.{Split, split_word}
use Rattle.jl_top.specs.Words.{is_equals}

abbrev pub cut : ℕ → List ℕ → Split
cut i word = record { name = take i word; value = Some (drop (i + 1) word) }

cut-cons : (c i : ℕ) (cs : List ℕ) → ◌≡◌ {A = Split} (record { name = c ∷ take i cs; value = Some (drop (i + 1) cs) }) (cut (1 + i) (c ∷ cs))
cut-cons c i cs =
    let e : suc i ≡ 1 + i = omega arith in
    let f : suc (i + 1) ≡ 1 + i + 1 = omega arith in
    let front : c ∷ take i cs ≡ take (1 + i) (c ∷ cs) = ap (λ k. take k (c ∷ cs)) e in
    let back : drop (i + 1) cs ≡ drop (1 + i + 1) (c ∷ cs) = ap (λ k. drop k (c ∷ cs)) f in
    ap (λ p. record { name = p; value = Some (drop (i + 1) cs) }) front ∙ ap (λ r. record { name = take (1 + i) (c ∷ cs); value = Some r }) back

behind_first : (c : ℕ) (cs : List ℕ) → is_equals c ≡ true → position_or_len is_equals (c ∷ cs) ≡ 0
behind_first c cs h = ap (λ b. cond (not b) (1 + position_or_len is_equals cs) 0) h

behind_other : (c : ℕ) (cs : List ℕ) → is_equals c ≡ false → position_or_len is_equals (c ∷ cs) ≡ 1 + position_or_len is_equals cs
behind_other c cs h = ap (λ b. cond (not b) (1 + position_or_len is_equals cs) 0) h

split_here : (word : List ℕ) → position_or_len is_equals word < length word → split_word word ≡ cut (position_or_len is_equals word) word
split_here [] lt = let no : ⊥ = omega (arith, lt) in absurd no
split_here (c ∷ cs) lt =
    elim (cases_Bool (is_equals c)) [
      | inl h ↦ rw (behind_first c cs h) (rw (split_word, h) refl)
      | inr h ↦
          let within : position_or_len is_equals cs < length cs = let e = behind_other c cs h in omega (arith, lt, e) in
          rw (behind_other c cs h) (rw (split_word, h) (rw (split_here cs within) (cut-cons c (position_or_len is_equals cs) cs)))
    ]

split_nowhere : (word : List ℕ) → length word ≤ position_or_len is_equals word → split_word word ≡ record { name = word; value = None }
split_nowhere [] past = refl
split_nowhere (c ∷ cs) past =
    elim (cases_Bool (is_equals c)) [
      | inl h ↦ let no : ⊥ = let e = behind_first c cs h in omega (arith, past, e) in absurd no
      | inr h ↦
          let past_rest : length cs ≤ position_or_len is_equals cs = let e = behind_other c cs h in omega (arith, past, e) in
          rw (split_word, h) (rw (split_nowhere cs past_rest) refl)
    ]

-- an `=` at this place
pub split_at : (word : List ℕ) (i : ℕ) → position is_equals word ≡ Some i → split_word word ≡ record { name = take i word; value = Some (drop (i + 1) word) }
split_at word i h =
    elim (cases_Bool (nat_lt (position_or_len is_equals word) (length word))) [
      | inl e ↦
          let there : position is_equals word ≡ Some (position_or_len is_equals word) = cond-true (nat_lt (position_or_len is_equals word) (length word)) (Some (position_or_len is_equals word)) None e in
          let same : position_or_len is_equals word ≡ i = cc in
          split_here word (ltb-true (position_or_len is_equals word) (length word) e) ∙ ap (λ k. cut k word) same
      | inr e ↦ let gone : position is_equals word ≡ None = cond-false (nat_lt (position_or_len is_equals word) (length word)) (Some (position_or_len is_equals word)) None e in cc
    ]

-- no `=`
pub split_none : (word : List ℕ) → position is_equals word ≡ None → split_word word ≡ record { name = word; value = None }
split_none word h =
    elim (cases_Bool (nat_lt (position_or_len is_equals word) (length word))) [
      | inl e ↦ let there : position is_equals word ≡ Some (position_or_len is_equals word) = cond-true (nat_lt (position_or_len is_equals word) (length word)) (Some (position_or_len is_equals word)) None e in cc
      | inr e ↦ split_nowhere word (ltb-false (position_or_len is_equals word) (length word) e)
    ]

-- what is lent from the `=` on is all that stands behind it
pub with_rest : (i : ℕ) (word : List ℕ)
    → ◌≡◌ {A = Split} (record { name = take i word; value = Some (take (length word - (i + 1)) (drop (i + 1) word)) }) (record { name = take i word; value = Some (drop (i + 1) word) })
with_rest i word = ap (λ r. record { name = take i word; value = Some r }) (take_rest word (i + 1))
