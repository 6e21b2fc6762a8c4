-- A sum over a list is that over the list from behind.
use Rattle.std.proofs.Common.{◌≡◌, ℕ, List, [], ◌∷◌, reverse, refl, ap, arith}
use Rattle.std.specs.List.{sum_by}
use Rattle.std.proofs.lemmas.List.{reverse-append}
use Rattle.std.proofs.lemmas.List.Sums.{sum_by-cons, sum_by_push}

pub sum_by_reverse : {X : Type 0} (f : X → ℕ) (xs : List X) → sum_by f (reverse xs) ≡ sum_by f xs
sum_by_reverse f [] = refl
sum_by_reverse f (x ∷ xs) =
    let a = ap (sum_by f) (reverse-append (x ∷ []) xs) in
    let b = sum_by_push f (reverse xs) x in
    let c = sum_by-cons f x xs in
    let d = sum_by_reverse f xs in
    omega arith
