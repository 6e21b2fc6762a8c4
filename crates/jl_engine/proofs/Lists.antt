-- Lists.
use Rattle.std.proofs.Common.{◌≡◌, ◌≤◌, List, [], ◌∷◌, ◌++◌, length, refl, sym, ◌∙◌, ap, arith}

pub nothing_left : {X : Type 0} (xs : List X) → length xs ≡ 0 → xs ≡ []
nothing_left [] e = refl
nothing_left (x ∷ xs) e = absurd (omega arith)

tail-same : {A : Type 0} (x y : A) (xs ys : List A) → ◌≡◌ {A = List A} (x ∷ xs) (y ∷ ys) → xs ≡ ys
tail-same x y xs ys e = cc

head-same : {A : Type 0} (x y : A) (xs ys : List A) → ◌≡◌ {A = List A} (x ∷ xs) (y ∷ ys) → x ≡ y
head-same x y xs ys e = cc

-- of two fronts of a list the longer one begins with the shorter one
pub front-first : {A : Type 0} (xs ys us vs : List A) → (xs ++ ys) ≡ (us ++ vs) → length xs ≤ length us → (mid : List A) × (us ≡ xs ++ mid)
front-first [] ys us vs e l = (us, refl)
front-first (x ∷ xs) ys [] vs e l = absurd (omega (arith, l))
front-first (x ∷ xs) ys (u ∷ us) vs e l =
    let r = front-first xs ys us vs (tail-same x u (xs ++ ys) (us ++ vs) e) (omega (arith, l)) in
    (r.0, ap (λ z. z ∷ us) (sym (head-same x u (xs ++ ys) (us ++ vs) e)) ∙ ap (λ zs. x ∷ zs) r.1)
