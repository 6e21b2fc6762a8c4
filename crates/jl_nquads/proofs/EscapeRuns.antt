-- Runs of bytes that need no escape.
use Rattle.std.proofs.Common.{◌≡◌, ℕ, suc, ◌+◌, ◌-◌, ◌<◌, ◌≤◌, ◌==◌, ◌||◌, ◌&&◌, Bool, true, false, not, cond, List, [], ◌∷◌, ◌++◌, take, drop, length, flat_map, Option, Some, None, refl, sym, ap, ap₂, ◌∙◌, subst, arith, inl, inr, nat_lt, append-nil, get_or}
use Rattle.std.proofs.Math.Seq.{take-add}
use Rattle.std.proofs.lemmas.Bool.{and_parts, cases_Bool, cond-true, ltb-false, not-true}
use Rattle.std.proofs.lemmas.List.{take-append-drop}
use Rattle.std.proofs.lemmas.List.Concat.{flat_map-append}
use Rattle.std.specs.List.{position}
use Rattle.jl_io.specs.Outside.{appended}
use Rattle.jl_model.specs.Lines.{escaped}
use Rattle.jl_nquads.specs.Escapes.{needs_escape, plain_len_of}
use Rattle.jl_io.specs.Puts.{PutsFront}
use Rattle.jl_io.proofs.Fronts.{cut_first, cut_then, put_then, rest_of}

-- the run is a part of the text
pub run_within : (text : List ℕ) → plain_len_of text ≤ length text
run_within [] = omega arith
run_within (c ∷ text) = let h = run_within text in elim (needs_escape c) as (λ b. cond (not b) (1 + plain_len_of text) 0 ≤ length (c ∷ text)) [ true ↦ omega arith | false ↦ omega arith ]

-- where no byte needs an escape, the run is the whole text
pub plain_whole : (text : List ℕ) → position needs_escape text ≡ None → plain_len_of text ≡ length text
plain_whole text h =
    elim (cases_Bool (nat_lt (plain_len_of text) (length text))) [
      | inl e ↦ let there : position needs_escape text ≡ Some (plain_len_of text) = cond-true (nat_lt (plain_len_of text) (length text)) (Some (plain_len_of text)) None e in cc
      | inr e ↦ let past : length text ≤ plain_len_of text = ltb-false (plain_len_of text) (length text) e in let within = run_within text in omega arith
    ]

same_at : (a b d e : Bool) (c : ℕ) → (a || (b || (d || e))) ≡ false → cond a (92 ∷ 34 ∷ []) (cond b (92 ∷ 92 ∷ []) (cond d (92 ∷ 110 ∷ []) (cond e (92 ∷ 114 ∷ []) (c ∷ [])))) ≡ c ∷ []
same_at false false false false c h = refl
same_at true b d e c h = cc
same_at false true d e c h = cc
same_at false false true e c h = cc
same_at false false false true c h = cc

-- a byte that needs no escape is written as it is
pub same_byte : (c : ℕ) → needs_escape c ≡ false → escaped c ≡ c ∷ []
same_byte c h = same_at (c == 34) (c == 92) (c == 10) (c == 13) c h

-- a run is written as it is
pub run_escaped : (text : List ℕ) → flat_map escaped (take (plain_len_of text) text) ≡ take (plain_len_of text) text
run_escaped [] = refl
run_escaped (c ∷ text) = elim (cases_Bool (needs_escape c)) [
  | inl e ↦
      let none : plain_len_of (c ∷ text) ≡ 0 = ap (λ b. cond (not b) (1 + plain_len_of text) 0) e in
      subst (λ k. flat_map escaped (take k (c ∷ text)) ≡ take k (c ∷ text)) (sym none) refl
  | inr e ↦
      let one : plain_len_of (c ∷ text) ≡ suc (plain_len_of text) = ap (λ b. cond (not b) (1 + plain_len_of text) 0) e ∙ omega arith in
      subst (λ k. flat_map escaped (take k (c ∷ text)) ≡ take k (c ∷ text)) (sym one)
      (ap (λ t. t ++ flat_map escaped (take (plain_len_of text) text)) (same_byte c e) ∙ ap (λ t. c ∷ t) (run_escaped text))
]

-- a text that is written as it is, and one byte more that needs no escape
pub unescaped_more : (bytes : List ℕ) (none : Bool) (c : ℕ) (more : Bool) → (none ≡ true → flat_map escaped bytes ≡ bytes) → more ≡ (none && not (needs_escape c)) → more ≡ true
    → flat_map escaped (bytes ++ c ∷ []) ≡ bytes ++ c ∷ []
unescaped_more bytes none c more h e t =
    let both = and_parts none (not (needs_escape c)) (sym e ∙ t) in
    flat_map-append escaped bytes (c ∷ []) ∙ ap (λ t. t ++ (escaped c ++ [])) (h both.0) ∙ ap (λ t. bytes ++ t) (append-nil (escaped c) ∙ same_byte c (not-true (needs_escape c) both.1))

-- a text is a front of it and what is left
escaped-split : (text : List ℕ) (n : ℕ) → flat_map escaped text ≡ flat_map escaped (take n text) ++ flat_map escaped (drop n text)
escaped-split text n = ap (flat_map escaped) (sym (take-append-drop n text)) ∙ flat_map-append escaped (take n text) (drop n text)

-- one escape was put
pub escape_put : (text : List ℕ) → 0 < length text → flat_map escaped (take 1 text) ≡ escaped (get_or text 0 0)
escape_put [] h = absurd (omega arith)
escape_put (c ∷ text) h = append-nil (escaped c)

-- one escape was cut
pub escape_cut : (w0 w1 : Option (List ℕ)) (text : List ℕ) → 0 < length text → PutsFront w0 (escaped (get_or text 0 0)) w1 → PutsFront w0 (flat_map escaped text) w1
escape_cut w0 w1 [] some h = absurd (omega arith)
escape_cut w0 w1 (c ∷ text) some h = cut_first w0 w1 (escaped c) (flat_map escaped text) h

-- a run was cut
pub run_cut : (w0 w1 : Option (List ℕ)) (text : List ℕ) (n : ℕ) → flat_map escaped (take n text) ≡ take n text → PutsFront w0 (take n text) w1 → PutsFront w0 (flat_map escaped text) w1
run_cut w0 w1 text n plain h =
    let whole : flat_map escaped text ≡ take n text ++ flat_map escaped (drop n text) = escaped-split text n ∙ ap (λ t. t ++ flat_map escaped (drop n text)) plain in
    subst (λ t. PutsFront w0 t w1) (sym whole) (cut_first w0 w1 (take n text) (flat_map escaped (drop n text)) h)

-- two runs, one behind the other, are one
pub plain_more : (text : List ℕ) (at n : ℕ) → flat_map escaped (take at text) ≡ take at text → flat_map escaped (take n (drop at text)) ≡ take n (drop at text) → flat_map escaped (take (at + n) text) ≡ take (at + n) text
plain_more text at n h k =
    ap (flat_map escaped) (take-add at n text) ∙ flat_map-append escaped (take at text) (take n (drop at text)) ∙ ap₂ (λ a b. a ++ b) h k ∙ sym (take-add at n text)

-- a run, and the run at the front of the rest
pub run_more : (text : List ℕ) (at n : ℕ) → flat_map escaped (take at text) ≡ take at text → n ≡ plain_len_of (take (length text - at) (drop at text)) → flat_map escaped (take (at + n) text) ≡ take (at + n) text
run_more text at n h e =
    let front : n ≡ plain_len_of (drop at text) = e ∙ ap plain_len_of (rest_of text at) in
    plain_more text at n h (subst (λ k. flat_map escaped (take k (drop at text)) ≡ take k (drop at text)) (sym front) (run_escaped (drop at text)))

-- one more piece of the text was put
pub escaped_piece : (w0 w1 w2 : Option (List ℕ)) (text : List ℕ) (at n : ℕ) → w1 ≡ appended w0 (flat_map escaped (take at text)) → w2 ≡ appended w1 (flat_map escaped (take n (drop at text)))
    → w2 ≡ appended w0 (flat_map escaped (take (at + n) text))
escaped_piece w0 w1 w2 text at n h k =
    put_then w0 w1 w2 (flat_map escaped (take at text)) (flat_map escaped (take n (drop at text))) h k
    ∙ ap (λ t. appended w0 t) (sym (flat_map-append escaped (take at text) (take n (drop at text))) ∙ ap (flat_map escaped) (sym (take-add at n text)))

-- a piece of the text was cut
pub escaped_cut : (w0 w1 w2 : Option (List ℕ)) (text : List ℕ) (at : ℕ) → w1 ≡ appended w0 (flat_map escaped (take at text)) → PutsFront w1 (flat_map escaped (drop at text)) w2
    → PutsFront w0 (flat_map escaped text) w2
escaped_cut w0 w1 w2 text at h k =
    subst (λ t. PutsFront w0 t w2) (sym (escaped-split text at)) (cut_then w0 w1 w2 (flat_map escaped (take at text)) (flat_map escaped (drop at text)) h k)
