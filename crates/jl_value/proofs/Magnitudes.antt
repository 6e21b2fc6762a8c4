-- The size of a number, digit by digit.
use Rattle.std.proofs.Common.{◌≡◌, ℕ, suc, ◌+◌, ◌-◌, ◌*◌, ◌≤◌, ◌<◌, List, [], ◌∷◌, length, drop, get_or, ap, ◌∙◌, sym, subst, arith}
use Rattle.std.proofs.lemmas.List.{drop_all}
use Rattle.std.proofs.Math.Seq.{drop-cons}
use Rattle.jl_defs.specs.Numbers.{number_from, magnitude, unsigned}

-- more digits make no smaller number
pub le-number_from : (n : ℕ) (digits : List ℕ) → n ≤ number_from n digits
le-number_from n [] = omega arith
le-number_from n (c ∷ cs) =
    let more : n * 10 + (c - 48) ≤ number_from (n * 10 + (c - 48)) cs = le-number_from (n * 10 + (c - 48)) cs in
    let scaled : n ≤ n * 10 + (c - 48) = omega arith in
    omega arith

-- the number is above the most that may be as soon as its front is
pub passed : (token digits : List ℕ) (most m i next : ℕ) → digits ≡ unsigned token → i < length digits
    → number_from m (drop i digits) ≡ number_from 0 digits
    → next ≡ m * 10 + (get_or digits i 0 - 48) → most < next → magnitude token ≤ most → ⊥
unfolding magnitude
passed token digits most m i next same within rest is above small =
    let step : number_from next (drop (suc i) digits) ≡ number_from m (drop i digits)
    = ap (λ n. number_from n (drop (suc i) digits)) is ∙ ap (λ d. number_from m d) (sym (drop-cons digits i 0 within)) in
    let whole : number_from 0 digits ≡ number_from 0 (unsigned token) = ap (λ d. number_from 0 d) same in
    let grown : next ≤ number_from next (drop (suc i) digits) = le-number_from next (drop (suc i) digits) in
    omega (arith, step, whole, grown, rest, above, small)

-- with no digit left the number is the whole one
pub whole : (token digits : List ℕ) (most m i : ℕ) → digits ≡ unsigned token → length digits ≤ i → m ≤ most
    → number_from m (drop i digits) ≡ number_from 0 digits → (magnitude token ≤ most) × (m ≡ magnitude token)
unfolding magnitude
whole token digits most m i same past small rest =
    let e : m ≡ number_from 0 (unsigned token)
    = ap (λ d. number_from m d) (sym (drop_all i digits past)) ∙ rest ∙ ap (λ d. number_from 0 d) same in
    (subst (λ n. n ≤ most) e small, e)
