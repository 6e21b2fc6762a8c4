-- Texts that begin alike, and the byte with which a property of fronts ends.
use Rattle.std.proofs.Common.{◌≡◌, ℕ, ◌⊎◌, inl, inr, List, [], ◌∷◌, ◌++◌, length, append-nil, append_assoc, refl, sym, ap, ◌∙◌, subst}

pub head_is : (c d : ℕ) (cs ds : List ℕ) → c ∷ cs ≡ d ∷ ds → c ≡ d
head_is c d cs ds e = cc

pub tail_is : (c d : ℕ) (cs ds : List ℕ) → c ∷ cs ≡ d ∷ ds → cs ≡ ds
tail_is c d cs ds e = cc

-- of two fronts of one text one begins with the other
pub fronts_of : (a b x y : List ℕ) → a ++ x ≡ b ++ y → ((z : List ℕ) × (b ≡ a ++ z) × (x ≡ z ++ y)) ⊎ ((d : ℕ) × (z : List ℕ) × (a ≡ b ++ d ∷ z) × (y ≡ (d ∷ z) ++ x))
fronts_of [] b x y e = inl (b, refl, e)
fronts_of (c ∷ a) [] x y e = inr (c, a, refl, sym e)
fronts_of (c ∷ a) (d ∷ b) x y e =
    let h = head_is c d (a ++ x) (b ++ y) e in
    elim (fronts_of a b x y (tail_is c d (a ++ x) (b ++ y) e)) [
      | inl (z, i, j) ↦ inl (z, ap (λ t. d ∷ t) i ∙ ap (λ k. k ∷ (a ++ z)) (sym h), j)
      | inr (k, z, i, j) ↦ inr (k, z, ap (λ t. c ∷ t) i ∙ ap (λ m. m ∷ (b ++ k ∷ z)) h, j)
    ]

-- of two fronts of one list one begins with the other
pub lists_of : {A : Type 0} (a b x y : List A) → a ++ x ≡ b ++ y → ((z : List A) × (b ≡ a ++ z) × (x ≡ z ++ y)) ⊎ ((d : A) × (z : List A) × (a ≡ b ++ d ∷ z) × (y ≡ (d ∷ z) ++ x))
lists_of [] b x y e = inl (b, refl, e)
lists_of (c ∷ a) [] x y e = inr (c, a, refl, sym e)
lists_of {A} (c ∷ a) (d ∷ b) x y e =
    let h : c ≡ d = cc in
    let t : a ++ x ≡ b ++ y = cc in
    elim (lists_of a b x y t) [
      | inl (z, i, j) ↦ inl (z, ap (λ t. d ∷ t) i ∙ ap (λ (k : A). k ∷ (a ++ z)) (sym h), j)
      | inr (k, z, i, j) ↦ inr (k, z, ap (λ t. c ∷ t) i ∙ ap (λ (m : A). m ∷ (b ++ k ∷ z)) h, j)
    ]

-- fronts of one length are the same
pub same_length : (a b x y : List ℕ) → length a ≡ length b → a ++ x ≡ b ++ y → (a ≡ b) × (x ≡ y)
same_length [] [] x y l e = (refl, e)
same_length [] (d ∷ b) x y l e = absurd (let z : ⊥ = cc in z)
same_length (c ∷ a) [] x y l e = absurd (let z : ⊥ = cc in z)
same_length (c ∷ a) (d ∷ b) x y l e =
    let h = head_is c d (a ++ x) (b ++ y) e in
    let l2 : length a ≡ length b = cc in
    let i = same_length a b x y l2 (tail_is c d (a ++ x) (b ++ y) e) in
    (ap (λ t. c ∷ t) i.0 ∙ ap (λ m. m ∷ b) h, i.1)

-- the property holds of p and some front of the text behind it, and with one byte more it doesn't
abbrev pub TurnsIn : (List ℕ → Type 0) → List ℕ → List ℕ → Type 0
TurnsIn P p t = (front : List ℕ) × (c : ℕ) × (back : List ℕ) × (t ≡ front ++ c ∷ back) × P (p ++ front) × (P (p ++ (front ++ c ∷ [])) → ⊥)

turns_now : (P : List ℕ → Type 0) (p : List ℕ) (c : ℕ) (t : List ℕ) → P p → Dec (P (p ++ c ∷ [])) → (P (p ++ c ∷ []) → TurnsIn P (p ++ c ∷ []) t) → TurnsIn P p (c ∷ t)
turns_now P p c t h (no m) later = ([], c, t, refl, subst P (sym (append-nil p)) h, m)
turns_now P p c t h (yes m) later =
    let (front, d, back, e, f, g) = later m in
    (c ∷ front, d, back, ap (λ x. c ∷ x) e, subst P (append_assoc p (c ∷ []) front) f, λ k. g (subst P (sym (append_assoc p (c ∷ []) (front ++ d ∷ []))) k))

-- a property that can be decided, and holds of p and not of the text behind it too, ends with a byte
pub turns : (P : List ℕ → Type 0) → ((t : List ℕ) → Dec (P t)) → (p t : List ℕ) → P p → (P (p ++ t) → ⊥) → TurnsIn P p t
turns P decide p [] h n = absurd (n (subst P (sym (append-nil p)) h))
turns P decide p (c ∷ t) h n = turns_now P p c t h (decide (p ++ c ∷ [])) (λ k. turns P decide (p ++ c ∷ []) t k (λ m. n (subst P (append_assoc p (c ∷ []) t) m)))
