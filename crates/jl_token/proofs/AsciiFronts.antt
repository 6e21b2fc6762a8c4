-- ASCII in front of other bytes of a string.
use Rattle.std.proofs.Common.{inl, inr, ◌≡◌, ℕ, zero, suc, ◌+◌, ◌<◌, ◌≤◌, false, cond, leb, List, [], ◌∷◌, ◌++◌, length, take, drop, get_or, refl, sym, ap, ◌∙◌, subst, arith, add-zero, length-append, IsUtf8, ◌↔◌}
use Rattle.std.proofs.lemmas.Bool.{cases_Bool, and_parts, leb-true, le-leb, false≢true}
use Rattle.std.proofs.lemmas.List.Folds.{length-prefix_len}
use Rattle.std.proofs.lemmas.List.Sums.{prefix_len_stops, prefix_len-drop_no, prefix_len-drop_all}
use Rattle.std.proofs.lemmas.Str.{IsUtf8-from_ascii, IsUtf8-from_is_utf8, is_utf8-from_IsUtf8}
use Rattle.std.proofs.lemmas.Str.Ascii.{IsAscii-nil, IsAscii-cons}
use Rattle.std.proofs.Math.Seq.{take-add}
use Rattle.std.specs.List.{prefix_len, take_while}
use Rattle.std.specs.Str.{IsAscii, is_utf8}
use Rattle.std.specs.Str.Lossy.{utf8_valid_len, valid_len_up_to}
use Rattle.simdutf8.proofs.StepsLemmas.{IsUtf8-after_ascii}
use Rattle.jl_token.specs.Runs.{is_text, is_ascii_text, plain_len}

-- the front that is valid, behind ASCII
same_test : (a b : List ℕ) → IsUtf8 a ↔ IsUtf8 b → is_utf8 a ≡ is_utf8 b
same_test a b f = elim (cases_Bool (is_utf8 a)) [
  | inl e ↦ e ∙ sym (is_utf8-from_IsUtf8 b (f.0 (IsUtf8-from_is_utf8 a e)))
  | inr e ↦ elim (cases_Bool (is_utf8 b)) [
    | inl g ↦ absurd (false≢true (sym e ∙ is_utf8-from_IsUtf8 a (f.1 (IsUtf8-from_is_utf8 b g))))
    | inr g ↦ e ∙ sym g
  ]
]

whole_valid : (bytes : List ℕ) (n : ℕ) → IsUtf8 (take n bytes) → valid_len_up_to bytes n ≡ n
whole_valid bytes zero u = refl
whole_valid bytes (suc n) u = ap (λ b. cond b (suc n) (valid_len_up_to bytes n)) (is_utf8-from_IsUtf8 (take (suc n) bytes) u)

take_behind : (front rest : List ℕ) (n : ℕ) → take (length front + n) (front ++ rest) ≡ front ++ take n rest
take_behind [] rest n = ap (λ k. take k rest) (let e : 0 + n ≡ n = omega arith in e)
take_behind (c ∷ front) rest n = ap (λ k. take k (c ∷ (front ++ rest))) (let e : suc (length front) + n ≡ suc (length front + n) = omega arith in e) ∙ ap (λ z. c ∷ z) (take_behind front rest n)

valid_behind : (front rest : List ℕ) → IsAscii front → (n : ℕ) → valid_len_up_to (front ++ rest) (length front + n) ≡ length front + valid_len_up_to rest n
valid_behind front rest a zero = whole_valid (front ++ rest) (length front + 0) (subst IsUtf8 (sym (take_behind front rest 0)) ((IsUtf8-after_ascii front [] a).1 (IsUtf8-from_ascii [] IsAscii-nil)))
valid_behind front rest a (suc n) =
    let k : ℕ = length front + n in
    let i : length front + suc n ≡ suc k = omega arith in
    let t : is_utf8 (take (suc k) (front ++ rest)) ≡ is_utf8 (take (suc n) rest) =
    ap (λ x. is_utf8 (take x (front ++ rest))) (sym i) ∙ ap is_utf8 (take_behind front rest (suc n)) ∙ same_test (front ++ take (suc n) rest) (take (suc n) rest) (IsUtf8-after_ascii front (take (suc n) rest) a) in
    ap (λ x. valid_len_up_to (front ++ rest) x) i ∙ elim (cases_Bool (is_utf8 (take (suc n) rest))) [
      | inl e ↦ ap (λ b. cond b (suc k) (valid_len_up_to (front ++ rest) k)) (t ∙ e) ∙ sym i ∙ ap (λ b. length front + cond b (suc n) (valid_len_up_to rest n)) (sym e)
      | inr e ↦ ap (λ b. cond b (suc k) (valid_len_up_to (front ++ rest) k)) (t ∙ e) ∙ valid_behind front rest a n ∙ ap (λ b. length front + cond b (suc n) (valid_len_up_to rest n)) (sym e)
    ]

behind_ascii : (front rest : List ℕ) → IsAscii front → utf8_valid_len (front ++ rest) ≡ length front + utf8_valid_len rest
unfolding utf8_valid_len
behind_ascii front rest a = ap (λ n. valid_len_up_to (front ++ rest) n) (length-append front rest) ∙ valid_behind front rest a (length rest)

-- how many of the first bytes are ASCII that means itself
abbrev pub ascii_len : List ℕ → ℕ
ascii_len = prefix_len is_ascii_text

ascii_front : (bytes : List ℕ) → IsAscii (take (ascii_len bytes) bytes)
ascii_front [] = IsAscii-nil
ascii_front (c ∷ cs) = elim (cases_Bool (is_ascii_text c)) [
  | inl e ↦
      let p = and_parts (is_text c) (leb c 127) e in
      let l : c ≤ 127 = leb-true c 127 p.1 in
      subst (λ b. IsAscii (take (cond b (1 + ascii_len cs) 0) (c ∷ cs))) (sym e) (subst (λ n. IsAscii (take n (c ∷ cs))) (let i : suc (ascii_len cs) ≡ 1 + ascii_len cs = omega arith in i) (IsAscii-cons c (take (ascii_len cs) cs) (omega arith) (ascii_front cs)))
  | inr e ↦ subst (λ b. IsAscii (take (cond b (1 + ascii_len cs) 0) (c ∷ cs))) (sym e) IsAscii-nil
]

text_len_behind : (bytes : List ℕ) → prefix_len is_text bytes ≡ ascii_len bytes + prefix_len is_text (drop (ascii_len bytes) bytes)
text_len_behind [] = refl
text_len_behind (c ∷ cs) = elim (cases_Bool (is_ascii_text c)) [
  | inl e ↦
      let p = and_parts (is_text c) (leb c 127) e in
      let i : ascii_len (c ∷ cs) ≡ suc (ascii_len cs) = ap (λ b. cond b (1 + ascii_len cs) 0) e ∙ (let j : 1 + ascii_len cs ≡ suc (ascii_len cs) = omega arith in j) in
      let t : prefix_len is_text (c ∷ cs) ≡ 1 + prefix_len is_text cs = ap (λ b. cond b (1 + prefix_len is_text cs) 0) p.0 in
      subst (λ n. prefix_len is_text (c ∷ cs) ≡ n + prefix_len is_text (drop n (c ∷ cs))) (sym i) (omega (arith, t, text_len_behind cs))
  | inr e ↦
      let i : ascii_len (c ∷ cs) ≡ 0 = ap (λ b. cond b (1 + ascii_len cs) 0) e in
      subst (λ n. prefix_len is_text (c ∷ cs) ≡ n + prefix_len is_text (drop n (c ∷ cs))) (sym i) (let j : prefix_len is_text (c ∷ cs) ≡ 0 + prefix_len is_text (c ∷ cs) = omega arith in j)
]

-- A run is ASCII and what stands behind it.
pub plain_behind : (bytes : List ℕ) → plain_len bytes ≡ ascii_len bytes + plain_len (drop (ascii_len bytes) bytes)
plain_behind bytes =
    let k : ℕ = ascii_len bytes in
    let m : ℕ = prefix_len is_text (drop k bytes) in
    let e : take_while is_text bytes ≡ take k bytes ++ take m (drop k bytes) = ap (λ n. take n bytes) (text_len_behind bytes) ∙ take-add k m bytes in
    ap utf8_valid_len e ∙ behind_ascii (take k bytes) (take m (drop k bytes)) (ascii_front bytes) ∙ ap (λ n. n + utf8_valid_len (take m (drop k bytes))) (length-prefix_len is_ascii_text bytes)

none_plain : (bytes : List ℕ) → prefix_len is_text bytes ≡ 0 → plain_len bytes ≡ 0
unfolding utf8_valid_len
none_plain bytes e = ap (λ n. utf8_valid_len (take n bytes)) e

-- where all bytes are ASCII that means itself
pub plain_all : (bytes : List ℕ) → length bytes ≤ ascii_len bytes → ascii_len bytes ≡ plain_len bytes
plain_all bytes l = sym (plain_behind bytes ∙ ap (λ n. ascii_len bytes + n) (none_plain (drop (ascii_len bytes) bytes) (prefix_len-drop_all is_text bytes (ascii_len bytes) l)) ∙ add-zero (ascii_len bytes))

-- where the next byte is ASCII
pub plain_ascii : (bytes : List ℕ) (n c : ℕ) → n ≡ ascii_len bytes → n < length bytes → c ≡ get_or bytes n 0 → c < 128 → n ≡ plain_len bytes
plain_ascii bytes n c e l i h =
    let k : ℕ = ascii_len bytes in
    let j : c ≡ get_or bytes k 0 = i ∙ ap (λ x. get_or bytes x 0) e in
    let s : is_ascii_text c ≡ false = ap is_ascii_text j ∙ prefix_len_stops is_ascii_text bytes 0 (omega (arith, e)) in
    let t : is_text (get_or bytes k 0) ≡ false = sym (ap is_text j) ∙ no_text c s h in
    let z : plain_len (drop k bytes) ≡ 0 = none_plain (drop k bytes) (prefix_len-drop_no is_text bytes k 0 (omega (arith, e)) t) in
    e ∙ sym (plain_behind bytes ∙ ap (λ n. k + n) z ∙ add-zero k)
  where
    no_text : (c : ℕ) → is_ascii_text c ≡ false → c < 128 → is_text c ≡ false
    no_text c s h = elim (cases_Bool (is_text c)) [
      | inl e ↦ absurd (false≢true (sym s ∙ rw (e, le-leb c 127 (omega arith)) refl))
      | inr e ↦ e
    ]
