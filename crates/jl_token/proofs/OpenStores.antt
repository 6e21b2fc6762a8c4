-- The open containers as they are kept, and as contracts see them.
use Rattle.std.proofs.Common.{◌≡◌, ℕ, ◌-◌, ◌^◌, min, List, [], ◌∷◌, ◌++◌, length, reverse, take, drop, refl, ap, ◌∙◌, arith}
use Rattle.std.specs.List.{sum_by}
use Rattle.std.proofs.lemmas.List.{length-reverse, reverse-append}
use Rattle.std.proofs.lemmas.List.Sums.{sum_by-cons}
use Rattle.jl_token.specs.declared.within.Within.{Within}
use Rattle.jl_token.specs.declared.within.Within.TheVariants as withins
use Rattle.jl_token.specs.declared.opens.Open.TheVariants as opens
use Rattle.jl_token.specs.declared.opens.Open.{Open}
use Rattle.jl_token.specs.declared.shapes.Shape.TheVariants as shapes
use Rattle.jl_token.specs.OpenLists.{open_names_len, HasShape}
use Rattle.jl_token.specs.NameStacks.{opens_of, set_of, AreCounted, within_len}

count : (list : List Within) (names : List (List ℕ)) → length (opens_of list names) ≡ length list
count [] names = refl
count (withins.Array ∷ below) names = let c = count below names in omega (arith, c)
count (withins.Few few len ∷ below) names = let c = count below (drop few names) in omega (arith, c)
count (withins.Many had ∷ below) names = let c = count below names in omega (arith, c)

-- there are as many
pub count_opens : (list : List Within) (names : List (List ℕ)) → length (opens_of (reverse list) names) ≡ length list
count_opens list names = count (reverse list) names ∙ length-reverse list

-- and their names have as many bytes
pub sum_opens : (list : List Within) (names : List (List ℕ)) → AreCounted list names → min (sum_by within_len list) (2 ^ 64 - 1) ≡ min (sum_by open_names_len (opens_of list names)) (2 ^ 64 - 1)
sum_opens [] names counted = refl
sum_opens (withins.Array ∷ below) names counted =
    let a = sum_by-cons within_len withins.Array below in
    let b = sum_by-cons open_names_len opens.Array (opens_of below names) in
    let c = sum_opens below names counted in
    omega (arith, a, b, c)
sum_opens (withins.Few few len ∷ below) names counted =
    let a = sum_by-cons within_len (withins.Few few len) below in
    let b = sum_by-cons open_names_len (opens.Object (set_of (take few names))) (opens_of below (drop few names)) in
    let c = sum_opens below (drop few names) counted.1 in
    omega (arith, a, b, c, counted.0)
sum_opens (withins.Many had ∷ below) names counted =
    let a = sum_by-cons within_len (withins.Many had) below in
    let b = sum_by-cons open_names_len (opens.Object had) (opens_of below names) in
    let c = sum_opens below names counted in
    omega (arith, a, b, c)

-- the last container is the innermost one
before_last : (list before : List Within) (last with_shape : Within) → list ≡ before ++ (last ∷ []) → last ≡ with_shape → reverse list ≡ with_shape ∷ reverse before
before_last list before last with_shape e is = ap reverse e ∙ reverse-append before (last ∷ []) ∙ ap (λ w. w ∷ reverse before) is

pub last_array : (list before : List Within) (last : Within) (names : List (List ℕ)) → list ≡ before ++ (last ∷ []) → last ≡ withins.Array → (below : List Open) × HasShape (opens_of (reverse list) names) shapes.Array below
last_array list before last names e is = (opens_of (reverse before) names, ap (λ l. opens_of l names) (before_last list before last withins.Array e is))

pub last_few : (list before : List Within) (last : Within) (count len : ℕ) (names : List (List ℕ)) → list ≡ before ++ (last ∷ []) → last ≡ withins.Few count len → (below : List Open) × HasShape (opens_of (reverse list) names) shapes.Object below
last_few list before last count len names e is = (opens_of (reverse before) (drop count names), (set_of (take count names), ap (λ l. opens_of l names) (before_last list before last (withins.Few count len) e is)))

pub last_many : (list before : List Within) (last : Within) (had : List (List ℕ)) (names : List (List ℕ)) → list ≡ before ++ (last ∷ []) → last ≡ withins.Many had → (below : List Open) × HasShape (opens_of (reverse list) names) shapes.Object below
last_many list before last had names e is = (opens_of (reverse before) names, (had, ap (λ l. opens_of l names) (before_last list before last (withins.Many had) e is)))
