-- A JSON value (RFC 8259, section 3) with the places of its parts.
use Rattle.std.specs.Prelude.{ℕ, List}
use Rattle.jl_model.specs.declared.scalars.Scalar.{Scalar}

mutual
  -- a scalar, an array or an object, with the place of its first byte
  pub data Tree : Type 0 where
    scalar : (at : ℕ) → (value : Scalar) → Tree
    array : (at : ℕ) → (items : Trees) → Tree
    object : (at : ℕ) → (members : Members) → Tree

  -- the items of an array, in their order
  pub data Trees : Type 0 where
    no_item : Trees
    item : (first : Tree) → (rest : Trees) → Trees

  -- the members of an object, in their order: the place of the name, the name, the value
  pub data Members : Type 0 where
    no_member : Members
    member : (at : ℕ) → (name : List ℕ) → (value : Tree) → (rest : Members) → Members
