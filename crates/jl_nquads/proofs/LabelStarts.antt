-- A label that isn't whole.
use Rattle.std.proofs.Common.{◌≡◌, ℕ, List, [], ◌∷◌, ◌++◌, IsTrue, append-nil, append_assoc, refl, sym, ap, ◌∙◌, subst}
use lib.Utf8.{encode, encodes}
use Rattle.jl_model.specs.LineTokens.{LineToken, token_bytes, is_token, is_label, begins_label, is_line_end}
use Rattle.jl_model.specs.LineTokens as tokens
use Rattle.jl_nquads.specs.CodePoints.{HasCode, BeginsCode}
use Rattle.jl_nquads.specs.Spots.{Spot, BreaksInside, BreaksAtEnd}
use Rattle.jl_nquads.proofs.Codes.{no_further, code_turns, first_of_label}
use Rattle.jl_nquads.proofs.LabelBytes.{label_first, one_label}
use Rattle.jl_nquads.proofs.LabelTokens.{IsLabel, LeadsLabel, label_kind}
use Rattle.jl_nquads.proofs.NoLineEnds.{is_inside}
use Rattle.jl_nquads.proofs.Texts.{head_is, tail_is}
use Rattle.jl_nquads.proofs.TokenBreaks.{Fronts, NoneIn, NoToken, breaks_within, token_unfinished}

module _ (s : Spot) (lead : LeadsLabel s) where
  inside : (t : LineToken) → IsLabel t → IsTrue (is_inside t)
  inside t k = subst (λ z. IsTrue (is_inside z)) (sym k.1) refl

  -- the bytes of a label
  label_is : (t : LineToken) (x y : List ℕ) → IsLabel t → IsTrue (is_token t) → x ≡ token_bytes t ++ y → (c : ℕ) × (cs : List ℕ) × IsTrue (begins_label c) × (x ≡ 95 ∷ 58 ∷ (encodes (c ∷ cs) ++ y))
  label_is t x y (cs, i) h e =
      let (c, ds, j, k) = label_first cs (subst (λ z. IsTrue (is_token z)) i h) in
      (c, ds, k, e ∙ ap (λ z. token_bytes z ++ y) i ∙ ap (λ z. 95 ∷ 58 ∷ (encodes z ++ y)) j)

  -- `_` alone
  one_byte : Fronts IsLabel (95 ∷ [])
  unfolding encode
  one_byte = (tokens.label (97 ∷ []), 58 ∷ 97 ∷ [], (97 ∷ [], refl), refl, refl)

  pub underscore_unfinished : BreaksAtEnd s (95 ∷ []) 0
  underscore_unfinished = token_unfinished s 95 IsLabel (label_kind s lead) inside [] none one_byte
    where
      none : NoToken IsLabel (95 ∷ [])
      none t x k h e = let (c, cs, m, f) = label_is t (95 ∷ []) x k h e in let z : ⊥ = cc in z

  pub underscore_broken : (c : ℕ) (x : List ℕ) → (c ≡ 58 → ⊥) → BreaksInside s (95 ∷ c ∷ x) 0
  underscore_broken c x n = record { front = 95 ∷ []; byte = c; back = x; text_is = refl; breaks = breaks_within s 95 IsLabel (label_kind s lead) [] c one_byte none }
    where
      none : NoneIn IsLabel (95 ∷ c ∷ [])
      none behind t y k h a e =
          let (d, cs, m, f) = label_is t (95 ∷ c ∷ behind) y k h e in
          n (head_is c 58 behind (encodes (d ∷ cs) ++ y) (tail_is 95 95 (c ∷ behind) (58 ∷ (encodes (d ∷ cs) ++ y)) f))

  -- `_:` and no first character
  label_front : (t : List ℕ) → BeginsCode begins_label t → Fronts IsLabel (95 ∷ 58 ∷ t)
  label_front t (c, h, (back, e)) = (tokens.label (c ∷ []), back, (c ∷ [], refl), one_label c h, ap (λ z. 95 ∷ 58 ∷ z) (append-nil (encode c) ∙ e))

  no_label : (t : List ℕ) → (HasCode begins_label t → ⊥) → NoToken IsLabel (95 ∷ 58 ∷ t)
  no_label t n u x k h e =
      let (c, cs, m, f) = label_is u (95 ∷ 58 ∷ t) x k h e in
      n (c, m, (encodes cs ++ x, tail_is 58 58 t (encodes (c ∷ cs) ++ x) (tail_is 95 95 (58 ∷ t) (58 ∷ (encodes (c ∷ cs) ++ x)) f) ∙ append_assoc (encode c) (encodes cs) x))

  pub label_start_unfinished : (t : List ℕ) → (HasCode begins_label t → ⊥) → BeginsCode begins_label t → BreaksAtEnd s (95 ∷ 58 ∷ t) 0
  label_start_unfinished t n k = token_unfinished s 95 IsLabel (label_kind s lead) inside (58 ∷ t) (no_label t n) (label_front t k)

  pub label_start_broken : (t : List ℕ) → (HasCode begins_label t → ⊥) → (BeginsCode begins_label t → ⊥) → BreaksInside s (95 ∷ 58 ∷ t) 0
  label_start_broken t n k =
      let (front, c, back, e, f, g) = code_turns begins_label first_of_label 97 refl t k in
      record {
        front = 95 ∷ 58 ∷ front;
        byte = c;
        back = back;
        text_is = ap (λ z. 95 ∷ 58 ∷ z) e;
        breaks = breaks_within s 95 IsLabel (label_kind s lead) (58 ∷ front) c (label_front front f) (none front c back e g);
      }
    where
      none : (front : List ℕ) (c : ℕ) (back : List ℕ) → t ≡ front ++ c ∷ back → (BeginsCode begins_label (front ++ c ∷ []) → ⊥) → NoneIn IsLabel (95 ∷ 58 ∷ (front ++ c ∷ []))
      none front c back e g behind u y m h a i =
          let (d, ds, hd, j) = label_is u (95 ∷ 58 ∷ ((front ++ c ∷ []) ++ behind)) y m h i in
          no_further begins_label first_of_label (front ++ c ∷ []) behind d ds y
          (record { not_begun = g; not_had = λ (x, hx, (z, k)). n (x, hx, (z ++ back, e ∙ sym (append_assoc front (c ∷ []) back) ∙ ap (λ w. w ++ back) k ∙ append_assoc (encode x) z back)) })
          hd (tail_is 58 58 _ _ (tail_is 95 95 _ _ j))
