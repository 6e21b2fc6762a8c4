-- What expansion gives: items with their places (the expanded form of JSON-LD 1.1).
use Rattle.std.specs.Prelude.{ℕ, Bool, Option, Some, None}
use Rattle.jl_model.specs.declared.map_kinds.ItemKind.{ItemKind}
use Rattle.jl_model.specs.declared.map_kinds.ItemKind.TheVariants as item_kind
use Rattle.jl_defs.specs.Texts.{Text}
use Rattle.jl_defs.specs.Values.{Valued, reference, literal, left_out, refused}

-- how a node is named: by a text, or by the place of its object or of the value that a graph wraps
pub data Naming : Type 0 where
  named : (text : Text) → Naming
  by_object : Naming
  by_graph : Naming

mutual
  pub data Item : Type 0 where
    value_at : (at : ℕ) → (valued : Valued) → Item
    list_at : (at : ℕ) → (items : Items) → Item
    node_at : (at : ℕ) → (naming : Naming) → (entries : NodeEntries) → Item

  pub data Items : Type 0 where
    no_more : Items
    more : (first : Item) → (rest : Items) → Items

  -- what a node says, entry by entry
  pub data NodeEntries : Type 0 where
    nothing_said : NodeEntries
    -- a type
    typed : (text : Text) → (rest : NodeEntries) → NodeEntries
    -- the items of a property, which is turned where it doesn't go forward
    said : (forward : Bool) → (property : Text) → (items : Items) → (rest : NodeEntries) → NodeEntries
    -- the content of the graph that the node names
    holding : (items : Items) → (rest : NodeEntries) → NodeEntries
    -- included nodes, in the same graph
    including : (items : Items) → (rest : NodeEntries) → NodeEntries

abbrev pub one : Item → Items
one x = more x no_more

abbrev pub both : Items → Items → Items
both no_more ys = ys
both (more x xs) ys = more x (both xs ys)

-- the items that something gives, or none
abbrev pub given : Option Items → Items
given None = no_more
given (Some xs) = xs

-- entries, and what else the node says
abbrev pub then_entries : NodeEntries → NodeEntries → NodeEntries
then_entries nothing_said more_entries = more_entries
then_entries (typed text rest) more_entries = typed text (then_entries rest more_entries)
then_entries (said forward property items rest) more_entries = said forward property items (then_entries rest more_entries)
then_entries (holding items rest) more_entries = holding items (then_entries rest more_entries)
then_entries (including items rest) more_entries = including items (then_entries rest more_entries)

-- the place of an item
abbrev pub item_place : Item → ℕ
item_place (value_at at valued) = at
item_place (list_at at items) = at
item_place (node_at at naming entries) = at

-- an implicit graph round an item
abbrev pub wrapped : Item → Item
wrapped x = node_at (item_place x) by_graph (holding (one x) nothing_said)

abbrev pub all_wrapped : Items → Items
all_wrapped no_more = no_more
all_wrapped (more x xs) = more (wrapped x) (all_wrapped xs)

-- a scalar's item: a reference is a node that says nothing
abbrev pub scalar_item : ℕ → Valued → Item
scalar_item at (reference name) = node_at at (named name) nothing_said
scalar_item at (literal lit) = value_at at (literal lit)
scalar_item at left_out = value_at at left_out
scalar_item at (refused code) = value_at at (refused code)

abbrev pub kind_of_item : Item → ItemKind
kind_of_item (value_at at valued) = item_kind.ValueObject
kind_of_item (list_at at items) = item_kind.ListObject
kind_of_item (node_at at naming entries) = item_kind.Node
