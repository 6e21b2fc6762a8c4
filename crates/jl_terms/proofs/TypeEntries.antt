-- The container of the term `@type`.
use Rattle.std.proofs.Common.{◌≡◌, ◌≤◌, ℕ, Bool, true, false, List, [], ◌∷◌, length, Some, refl, arith}
use Rattle.jl_model.specs.JsonTree.{Tree, scalar, array, object, Trees, no_item, item}
use Rattle.jl_model.specs.declared.scalars.Scalar.TheVariants.{Null, Bool as boolean, Number, Str}
use Rattle.jl_model.specs.declared.trees.Json.{Json}
use Rattle.jl_model.specs.JsonView.{tree_of, trees}
use Rattle.jl_defs.specs.TermEntry.{is_set_container}

two_no_set : (x y : Tree) (ys : Trees) → is_set_container (Some (array 0 (item x (item y ys)))) ≡ false
two_no_set (scalar at Null) y ys = refl
two_no_set (scalar at (boolean b)) y ys = refl
two_no_set (scalar at (Number text)) y ys = refl
two_no_set (scalar at (Str text)) y ys = refl
two_no_set (array at xs) y ys = refl
two_no_set (object at ms) y ys = refl

-- an array of several items is no container of it
pub many_no_set : (items : List Json) → 2 ≤ length items → is_set_container (Some (array 0 (trees items))) ≡ false
many_no_set [] few = let no : ⊥ = omega (arith, few) in absurd no
many_no_set (x ∷ []) few = let no : ⊥ = omega (arith, few) in absurd no
many_no_set (x ∷ y ∷ items) few = two_no_set (tree_of x) (tree_of y) (trees items)
