-- Which code points hexadecimal digits begin.
use Rattle.std.proofs.Common.{◌≡◌, ℕ, zero, suc, ◌+◌, ◌*◌, ◌/◌, ◌%◌, ◌<◌, ◌≤◌, inl, inr, Bool, ◌&&◌, ◌==◌, nat_lt, min, List, [], ◌∷◌, ◌++◌, length, Option, Some, None, is_some, unwrap_or, IsTrue, refl, sym, ap, ◌∙◌, arith}
use Rattle.std.proofs.lemmas.Bool.{and_parts, and_from, false≢true, cases_lt, eqb-true, ltb-true}
use Rattle.std.specs.List.{list_all}
use Rattle.jl_model.specs.JsonStrings.{hex_value}
use Rattle.jl_model.specs.LineTokens.{is_hex_digit, hex_number}
use Rattle.jl_model.specs.Ren.{hex_digit}
use Rattle.jl_nquads.specs.CodePoints.{IsAmong}
use Rattle.jl_nquads.specs.Unframed.{first_with, codes_with, codes_end}
use Rattle.jl_nquads.proofs.Deciding.{hex_below}
use Rattle.jl_nquads.proofs.TokenBodies.{all_below, at_below}

-- the number without its last digits
abbrev pub over : ℕ → ℕ → ℕ
over zero c = c
over (suc n) c = over n c / 16

over_less : (n c : ℕ) → over n c ≤ c
over_less zero c = omega arith
over_less (suc n) c = let h = over_less n c in omega (arith, h)

-- the first number with these digits more is the least one from which they are left
first_up : (n v c : ℕ) → c < 1114112 → v ≤ over n c → first_with n v ≤ c
first_up zero v c l h = h
first_up (suc n) v c l h = first_up n (min (v * 16) codes_end) c l (omega (arith, h))

first_down : (n v c : ℕ) → c < 1114112 → first_with n v ≤ c → v ≤ over n c
first_down zero v c l h = h
first_down (suc n) v c l h =
    let k = first_down n (min (v * 16) codes_end) c l h in
    let m = over_less n c in
    omega (arith, k, m, l)

pub among_over : (n v c : ℕ) → c < 1114112 → over n c ≡ v → IsAmong (codes_with v n) c
among_over n v c l e = (first_up n v c l (omega (arith, e)), above)
  where
    above : c < first_with n (v + 1)
    above = elim (cases_lt c (first_with n (v + 1))) [ inl m ↦ m | inr m ↦ absurd (let k = first_down n (v + 1) c l m in let z : ⊥ = omega (arith, k, e) in z) ]

pub over_among : (n v c : ℕ) → c < 1114112 → IsAmong (codes_with v n) c → over n c ≡ v
over_among n v c l h =
    let low = first_down n v c l h.0 in
    elim (cases_lt v (over n c)) [
      | inl m ↦ absurd (let k = first_up n (v + 1) c l (omega (arith, m)) in let z : ⊥ = omega (arith, k, h.1) in z)
      | inr m ↦ omega (arith, low, m)
    ]

-- ---- digits

digit_fits : ℕ → Bool
digit_fits k = (unwrap_or (hex_value (hex_digit k)) 99 == k) && is_hex_digit (hex_digit k)

digits_fit : IsTrue (all_below 16 digit_fits)
unfolding hex_value digit_fits
digits_fit = refl

some_value : (o : Option ℕ) → IsTrue (is_some o) → unwrap_or o 99 ≡ unwrap_or o 0
some_value None h = absurd (false≢true h)
some_value (Some v) h = refl

a_digit : (k : ℕ) → k < 16 → (unwrap_or (hex_value (hex_digit k)) 0 ≡ k) × IsTrue (is_hex_digit (hex_digit k))
unfolding digit_fits
a_digit k l =
    let p = and_parts (unwrap_or (hex_value (hex_digit k)) 99 == k) (is_hex_digit (hex_digit k)) (at_below 16 digit_fits k digits_fit l) in
    (sym (some_value (hex_value (hex_digit k)) p.1) ∙ eqb-true (unwrap_or (hex_value (hex_digit k)) 99) k p.0, p.1)

value_small : IsTrue (all_below 128 (λ d. nat_lt (unwrap_or (hex_value d) 0) 16))
unfolding hex_value
value_small = refl

value_below : (d : ℕ) → IsTrue (is_hex_digit d) → unwrap_or (hex_value d) 0 < 16
value_below d h = ltb-true (unwrap_or (hex_value d) 0) 16 (at_below 128 (λ d. nat_lt (unwrap_or (hex_value d) 0) 16) d value_small (hex_below d h))

-- digits that are added make a number of which the one before them is left
pub over_digits : (es : List ℕ) (v : ℕ) → IsTrue (list_all is_hex_digit es) → over (length es) (hex_number v es) ≡ v
over_digits [] v h = refl
over_digits (d ∷ es) v h =
    let p = and_parts (is_hex_digit d) (list_all is_hex_digit es) h in
    let k : ℕ = unwrap_or (hex_value d) 0 in
    let small : k < 16 = value_below d p.0 in
    let e : over (length es) (hex_number (v * 16 + k) es) ≡ v * 16 + k = over_digits es (v * 16 + k) p.1 in
    ap (λ z. z / 16) e ∙ (let z : (v * 16 + k) / 16 ≡ v = omega (arith, small) in z)

-- and each such number is made so
pub digits_over : (n v x : ℕ) → over n x ≡ v → (es : List ℕ) × (length es ≡ n) × IsTrue (list_all is_hex_digit es) × (hex_number v es ≡ x)
digits_over zero v x e = ([], refl, refl, sym e)
digits_over (suc n) v x e =
    let w : ℕ = over n x in
    let small : w % 16 < 16 = omega arith in
    let (m, h) = a_digit (w % 16) small in
    let (es, l, all, i) = digits_over n w x refl in
    let same : v * 16 + unwrap_or (hex_value (hex_digit (w % 16))) 0 ≡ w = omega (arith, e, m) in
    (hex_digit (w % 16) ∷ es, ap suc l, and_from (is_hex_digit (hex_digit (w % 16))) (list_all is_hex_digit es) h all, ap (λ z. hex_number z es) same ∙ i)

pub hex_joined : (v : ℕ) (es fs : List ℕ) → hex_number v (es ++ fs) ≡ hex_number (hex_number v es) fs
hex_joined v [] fs = refl
hex_joined v (d ∷ es) fs = hex_joined (v * 16 + unwrap_or (hex_value d) 0) es fs
