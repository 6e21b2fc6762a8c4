-- What a reading is set to, and where a value stands.
use Rattle.std.specs.Prelude.{Bool, true, false, Option, Some, None}
use Rattle.jl_model.specs.declared.orders.Order.{Order}
use Rattle.jl_defs.specs.Texts.{Text}
use Rattle.jl_defs.specs.Context.{TermDef, Scoped, Context, term}
use Rattle.jl_defs.specs.Process.{Library}

-- the order of members that is asked for, the base, and the contexts that are handed in
pub record Settings : Type 0 where
  pub order : Order
  pub base : Option Text
  pub library : Library

-- the property that a value is expanded under (the active property of the standard)
pub data Under : Type 0 where
  -- of the document, and of what stands under `@included`
  no_property : Under
  graph_property : Under
  reverse_property : Under
  property_of : (name : Text) → Under

-- where a value stands, beside its property
pub data Stand : Type 0 where
  root : Stand
  -- the value of a map's entry, and what stands in it through arrays and sets alone
  entry : Stand
  -- the same in a map of a container that has `@graph` too: an item of a graph map
  graph_entry : Stand
  elsewhere : Stand

-- the value of a map's entry, of either kind
abbrev pub is_entry : Stand → Bool
is_entry root = false
is_entry entry = true
is_entry graph_entry = true
is_entry elsewhere = false

-- items of arrays stand where these do, but for the root; those of sets too (this project's own rule)
abbrev pub inside_of : Stand → Stand
inside_of root = elsewhere
inside_of entry = entry
inside_of graph_entry = graph_entry
inside_of elsewhere = elsewhere

-- scalars, value objects and list objects are dropped under no property and under `@graph` (API, section 5.1.2, steps 4.1 and
-- 19), and right under `@reverse`, where only a map may stand
abbrev pub drops : Under → Bool
drops no_property = true
drops graph_property = true
drops reverse_property = true
drops (property_of name) = false

-- the definition of the property's term
abbrev pub term_under : Context → Under → Option TermDef
term_under c no_property = None
term_under c graph_property = None
term_under c reverse_property = None
term_under c (property_of name) = term c name

abbrev pub scoped_in : Option TermDef → Option Scoped
scoped_in None = None
scoped_in (Some t) = t.scoped

-- the container of the property's term has `@list`
abbrev pub lists : Option TermDef → Bool
lists None = false
lists (Some t) = t.containers.list
