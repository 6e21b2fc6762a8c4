-- Lists that are equal have equal heads and tails.
use Rattle.std.proofs.Common.{◌≡◌, ℕ, List, [], ◌∷◌, ◌++◌, refl, sym}

pub head_is : (c x : ℕ) (t u : List ℕ) → c ∷ t ≡ x ∷ u → c ≡ x
head_is c x t u e = cc

pub tail_is : (c x : ℕ) (t u : List ℕ) → c ∷ t ≡ x ∷ u → t ≡ u
tail_is c x t u e = cc

pub none_left : (xs ys : List ℕ) → [] ≡ xs ++ ys → xs ≡ []
none_left [] ys e = refl
none_left (x ∷ xs) ys e = cc

pub none_right : (xs ys : List ℕ) → [] ≡ xs ++ ys → ys ≡ []
none_right [] ys e = sym e
none_right (x ∷ xs) ys e = cc
