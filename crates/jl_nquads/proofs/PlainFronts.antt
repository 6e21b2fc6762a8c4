-- Characters that mean themselves, as far as they go.
use Rattle.std.proofs.Common.{◌≡◌, ℕ, zero, suc, ◌+◌, ◌-◌, ◌<◌, ◌≤◌, inl, inr, true, ◌==◌, cond, List, [], ◌∷◌, ◌++◌, length, take, drop, get_or, IsTrue, IsFalse, IsUtf8, refl, sym, ap, ◌∙◌, subst, arith, length-append, append-nil, append_assoc}
use Rattle.std.proofs.lemmas.Bool.{cases_Bool, cases_lt, cases_eq, and_from, or_cases, false≢true, eqb-true}
use Rattle.std.proofs.lemmas.List.{take-append-drop, length-take-le, take_at, get_or-drop}
use Rattle.std.proofs.lemmas.Str.{IsUtf8-nil, IsUtf8-append, IsUtf8-from_is_utf8, is_utf8-from_IsUtf8, inside_one, utf8_valid_len_le}
use Rattle.std.specs.Str.{is_utf8}
use Rattle.std.specs.Str.Lossy.{utf8_valid_len, valid_len_up_to}
use lib.Utf8.{encode, scalar}
use Rattle.jl_nquads.specs.CharactersRead.{is_stop, IsRun, IsPlainFront}
use Rattle.jl_nquads.proofs.Codes.{encode_some}

-- the longest front that is UTF-8 is UTF-8, and none is longer
valid_up_to : (bs : List ℕ) (n : ℕ) → IsUtf8 (take (valid_len_up_to bs n) bs)
valid_up_to bs zero = IsUtf8-nil
valid_up_to bs (suc n) = elim (cases_Bool (is_utf8 (take (suc n) bs))) [
  | inl e ↦ subst (λ b. IsUtf8 (take (cond b (suc n) (valid_len_up_to bs n)) bs)) (sym e) (IsUtf8-from_is_utf8 (take (suc n) bs) e)
  | inr e ↦ subst (λ b. IsUtf8 (take (cond b (suc n) (valid_len_up_to bs n)) bs)) (sym e) (valid_up_to bs n)
]

most_up_to : (bs : List ℕ) (n m : ℕ) → m ≤ n → IsUtf8 (take m bs) → m ≤ valid_len_up_to bs n
most_up_to bs zero m l u = l
most_up_to bs (suc n) m l u = elim (cases_Bool (is_utf8 (take (suc n) bs))) [
  | inl e ↦ subst (λ b. m ≤ cond b (suc n) (valid_len_up_to bs n)) (sym e) l
  | inr e ↦ subst (λ b. m ≤ cond b (suc n) (valid_len_up_to bs n)) (sym e) (elim (cases_eq m (suc n)) [
    | inl i ↦ absurd (false≢true (sym e ∙ is_utf8-from_IsUtf8 (take (suc n) bs) (subst (λ k. IsUtf8 (take k bs)) i u)))
    | inr i ↦ most_up_to bs n m (omega (arith, l, i)) u
  ])
]

pub valid_is_utf8 : (bs : List ℕ) → IsUtf8 (take (utf8_valid_len bs) bs)
unfolding utf8_valid_len
valid_is_utf8 bs = valid_up_to bs (length bs)

pub valid_is_most : (bs : List ℕ) (m : ℕ) → m ≤ length bs → IsUtf8 (take m bs) → m ≤ utf8_valid_len bs
unfolding utf8_valid_len
valid_is_most bs m l u = most_up_to bs (length bs) m l u

-- a front of a front
pub take_take : (m n : ℕ) (xs : List ℕ) → m ≤ n → take m (take n xs) ≡ take m xs
take_take zero n xs l = refl
take_take (suc m) zero xs l = absurd (let z : ⊥ = omega (arith, l) in z)
take_take (suc m) (suc n) [] l = refl
take_take (suc m) (suc n) (x ∷ xs) l = ap (λ z. x ∷ z) (take_take m n xs (omega (arith, l)))

pub scalar_is : (c : ℕ) → IsTrue (scalar c) → IsUtf8 (encode c)
scalar_is c h = (c ∷ [], (and_from (scalar c) true h refl, append-nil (encode c)))

-- the sign or the backslash is ASCII
pub stop_low : (close c : ℕ) → close < 128 → IsTrue (is_stop close c) → c < 128
stop_low close c l h = elim (or_cases (c == close) (c == 92) h) [ inl e ↦ omega (arith, l, eqb-true c close e) | inr e ↦ omega (arith, eqb-true c 92 e) ]

pub plain_front : (close : ℕ) (text : List ℕ) (run n : ℕ) → close < 128 → IsRun close text run → n ≡ utf8_valid_len (take run text) → IsPlainFront close text n
plain_front close text run n low r e = record {
  within = omega (arith, near, r.within);
  utf8 = subst IsUtf8 (ap (λ k. take k (take run text)) (sym e) ∙ take_take n run text near) (valid_is_utf8 (take run text));
  none = λ k l. r.none k (omega (arith, l, near));
  no_more = no_more;
}
  where
    near : n ≤ run
    near = omega (arith, e, utf8_valid_len_le (take run text), length-take-le run text r.within)

    u : IsUtf8 (take n text)
    u = subst IsUtf8 (ap (λ k. take k (take run text)) (sym e) ∙ take_take n run text near) (valid_is_utf8 (take run text))

    no_more : (c : ℕ) (back : List ℕ) → IsTrue (scalar c) → IsFalse (is_stop close c) → drop n text ≡ encode c ++ back → ⊥
    no_more c back h s i = elim (cases_lt run (n + length (encode c))) [
      | inl l ↦ meets l
      | inr l ↦ longer l
    ]
      where
        whole : text ≡ (take n text ++ encode c) ++ back
        whole = sym (take-append-drop n text) ∙ ap (λ z. take n text ++ z) i ∙ sym (append_assoc (take n text) (encode c) back)

        size : length text ≡ n + (length (encode c) + length back)
        size = omega (arith, ap length whole, length-append (take n text ++ encode c) back, length-append (take n text) (encode c), length-take-le n text (omega (arith, near, r.within)))

        -- the stop stands in the character
        meets : run < n + length (encode c) → ⊥
        meets l =
            let k : ℕ = run - n in
            let at : get_or (drop n text) k 0 ≡ get_or text run 0 = get_or-drop n text k 0 ∙ ap (λ z. get_or text z 0) (let z : n + k ≡ run = omega (arith, near) in z) in
            let stop = r.stop (omega (arith, l, size)) in
            let same = inside_one c back (drop n text) k i (omega (arith, l, near)) (subst (λ z. z < 128) (sym at) (stop_low close (get_or text run 0) low stop)) in
            false≢true (sym s ∙ ap (is_stop close) (same ∙ at) ∙ stop)

        -- or a longer front is UTF-8
        longer : n + length (encode c) ≤ run → ⊥
        longer l =
            let m : ℕ = n + length (encode c) in
            let front : take m (take run text) ≡ take n text ++ encode c = take_take m run text l ∙ ap (take m) whole ∙ take_at (take n text ++ encode c) back m (length-append (take n text) (encode c) ∙ ap (λ z. z + length (encode c)) (length-take-le n text (omega (arith, near, r.within)))) in
            let far = valid_is_most (take run text) m (omega (arith, l, length-take-le run text r.within)) (subst IsUtf8 (sym front) (IsUtf8-append (take n text) (encode c) u (scalar_is c h))) in
            let z : ⊥ = omega (arith, far, e, encode_some c) in
            z
