-- The events of a document, as a reader meets them: one for each container that opens or closes, each key and each scalar.
use Rattle.std.specs.Prelude.{ℕ, List, ◌∷◌}
use Rattle.jl_model.specs.JsonTree.{Tree, scalar, array, object, Trees, no_item, item, Members, no_member, member}
use Rattle.jl_model.specs.declared.scalars.Scalar.{Scalar}
use Rattle.jl_defs.specs.Texts.{Text}

-- each with the place of its first byte
pub data Event : Type 0 where
  opens_object : (place : ℕ) → Event
  opens_array : (place : ℕ) → Event
  closes : Event
  a_key : (place : ℕ) → (name : Text) → Event
  a_scalar : (place : ℕ) → (v : Scalar) → Event

-- the events of a tree, before those that follow
unfoldable mutual
  pub tree_events : Tree → List Event → List Event
  tree_events (scalar b v) more = a_scalar b v ∷ more
  tree_events (array b xs) more = opens_array b ∷ items_events xs (closes ∷ more)
  tree_events (object b ms) more = opens_object b ∷ members_events ms (closes ∷ more)

  -- those of items
  pub items_events : Trees → List Event → List Event
  items_events no_item more = more
  items_events (item x rest) more = tree_events x (items_events rest more)

  -- those of members
  pub members_events : Members → List Event → List Event
  members_events no_member more = more
  members_events (member a n v rest) more = a_key a n ∷ tree_events v (members_events rest more)
