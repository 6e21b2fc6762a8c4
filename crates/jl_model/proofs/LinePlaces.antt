-- Bytes are lines of quads, or have at most one bad line, and never both.
use Rattle.std.proofs.Common.{inl, inr, ◌⊎◌, ◌≡◌, ℕ, List, [], ◌∷◌, ◌++◌, refl, sym, ap, ◌∙◌, subst, arith, append_assoc, append-nil}
use Rattle.jl_model.specs.Parts.{Parts}
use Rattle.jl_model.specs.LineGrammar.{QuadsOf, BeginsLines}
use Rattle.jl_model.specs.LineFaults.{StopsAt, BadLine}

head_is : (c d : ℕ) (cs ds : List ℕ) → c ∷ cs ≡ d ∷ ds → c ≡ d
head_is c d cs ds e = cc

tail_is : (c d : ℕ) (cs ds : List ℕ) → c ∷ cs ≡ d ∷ ds → cs ≡ ds
tail_is c d cs ds e = cc

-- two fronts of one text, each with the byte behind it
compare : (p q : List ℕ) (c d : ℕ) (r s : List ℕ) → p ++ c ∷ r ≡ q ++ d ∷ s → ((p ≡ q) × (c ≡ d)) ⊎ ((z : List ℕ) × (q ≡ p ++ c ∷ z)) ⊎ ((z : List ℕ) × (p ≡ q ++ d ∷ z))
compare [] [] c d r s e = inl (refl, head_is c d r s e)
compare [] (b ∷ q) c d r s e = inr (inl (q, ap (λ x. x ∷ q) (sym (head_is c b r (q ++ d ∷ s) e))))
compare (a ∷ p) [] c d r s e = inr (inr (p, ap (λ x. x ∷ p) (head_is a d (p ++ c ∷ r) s e)))
compare (a ∷ p) (b ∷ q) c d r s e =
    let i : a ≡ b = head_is a b (p ++ c ∷ r) (q ++ d ∷ s) e in
    elim (compare p q c d r s (tail_is a b (p ++ c ∷ r) (q ++ d ∷ s) e)) [
      | inl k ↦ inl (ap (λ x. x ∷ p) i ∙ ap (λ x. b ∷ x) k.0, k.1)
      | inr k ↦ elim k [
        | inl m ↦ inr (inl (m.0, ap (λ x. x ∷ q) (sym i) ∙ ap (λ x. a ∷ x) m.1))
        | inr m ↦ inr (inr (m.0, ap (λ x. x ∷ p) i ∙ ap (λ x. b ∷ x) m.1))
      ]
    ]

-- what begins so begins with each front
front_begins : (p : List ℕ) (c : ℕ) (r : List ℕ) → BeginsLines (p ++ c ∷ r) → BeginsLines (p ++ c ∷ [])
front_begins p c r b =
    let e : (p ++ c ∷ r) ++ b.0 ≡ (p ++ c ∷ []) ++ (r ++ b.0) = append_assoc p (c ∷ r) b.0 ∙ sym (append_assoc p (c ∷ []) (r ++ b.0)) in
    (r ++ b.0, b.1, subst (λ x. QuadsOf x b.1) e b.2)

whole_begins : (bytes : List ℕ) (quads : List Parts) → QuadsOf bytes quads → BeginsLines bytes
whole_begins bytes quads q = ([], quads, subst (λ x. QuadsOf x quads) (sym (append-nil bytes)) q)

-- the place where a text stops is one
one_stop : (text : List ℕ) (a b : ℕ) → StopsAt text a → StopsAt text b → a ≡ b
one_stop text a b x y = omega (arith, x.place_is, y.place_is, x.longest y.row y.goes_on, y.longest x.row x.goes_on)

-- a front that breaks is the shortest one
no_longer : (p q : List ℕ) (c : ℕ) (z : List ℕ) → q ≡ p ++ c ∷ z → BeginsLines q → (BeginsLines (p ++ c ∷ []) → ⊥) → ⊥
no_longer p q c z e b stops = stops (front_begins p c z (subst BeginsLines e b))

-- Bytes have one bad line.
pub one_bad_line : (bytes : List ℕ) (a b : ℕ) → BadLine bytes a → BadLine bytes b → a ≡ b
one_bad_line bytes a b (inl x) (inl y) =
    let (p, c, r, e, f) = x in
    let (q, d, s, g, h) = y in
    elim (compare p q c d r s (sym e ∙ g)) [
      | inl k ↦ one_stop (q ++ d ∷ []) a b (subst (λ t. StopsAt t a) (ap (λ t. t ++ c ∷ []) k.0 ∙ ap (λ t. q ++ t ∷ []) k.1) f.stops) h.stops
      | inr k ↦ elim k [
        | inl m ↦ absurd (no_longer p q c m.0 m.1 h.begins f.breaks)
        | inr m ↦ absurd (no_longer q p d m.0 m.1 f.begins h.breaks)
      ]
    ]
one_bad_line bytes a b (inl x) (inr y) = let (p, c, r, e, f) = x in absurd (no_longer p bytes c r e y.begins f.breaks)
one_bad_line bytes a b (inr x) (inl y) = let (p, c, r, e, f) = y in absurd (no_longer p bytes c r e x.begins f.breaks)
one_bad_line bytes a b (inr x) (inr y) = x.place_is ∙ sym y.place_is

-- Lines of quads have no bad line.
pub no_bad_line : (bytes : List ℕ) (quads : List Parts) (place : ℕ) → QuadsOf bytes quads → BadLine bytes place → ⊥
no_bad_line bytes quads place q (inl x) = let (p, c, r, e, f) = x in no_longer p bytes c r e (whole_begins bytes quads q) f.breaks
no_bad_line bytes quads place q (inr x) = x.unfinished quads q
