-- The members of an object in another order.
use Rattle.std.specs.Prelude.{ℕ, ◌≡◌, Bool, [], None}
use Rattle.jl_model.specs.JsonTree.{Tree, Members, no_member, member}
use Rattle.jl_model.specs.declared.orders.Order.{Order}
use Rattle.jl_model.specs.declared.orders.Order.TheVariants.{Any, Streaming}
use Rattle.jl_defs.specs.Trees.{member_named, then_members}
use Rattle.jl_defs.specs.Settings.{Settings}
use Rattle.jl_defs.specs.ObjectContexts.{decide}
use Rattle.jl_defs.specs.Kept.{decided_bool}
use Rattle.jl_defs.specs.Graphs.{reads_as_graph}
use Rattle.jl_defs.specs.Faults.{value_faults}
use Rattle.jl_laws.specs.Spots.{Spot, stand_of}

-- each member stands somewhere among the others, and the rest is a reordering of what is left
abbrev pub Reordered : Members → Members → Type 0
Reordered no_member ns = ns ≡ no_member
Reordered (member a n v rest) ns = (front back : Members) × (ns ≡ then_members front (member a n v back)) × Reordered rest (then_members front back)

-- no name comes twice, as in each readable text
abbrev pub HasNamesOnce : Members → Type 0
HasNamesOnce no_member = Unit {0}
HasNamesOnce (member a n v rest) = (member_named n rest ≡ None) × HasNamesOnce rest

-- a value has no faults at its spot
abbrev pub IsFaultless : Settings → Spot → Tree → Type 0
IsFaultless s p t = value_faults s p.context p.under (stand_of p.role.around) t ≡ []

-- whether an object is read as a graph
abbrev pub is_read_as_graph : Settings → Spot → ℕ → Members → Bool
is_read_as_graph s p at ms =
    decided_bool (decide s p.context p.under (stand_of p.role.around) at ms)
    (λ i. reads_as_graph s p.context p.under (stand_of p.role.around) at i ms)

-- in streaming order, where only the rest of an object tells: both orders of its members are read as a graph, or neither
abbrev pub AreReadAlike : Settings → Spot → ℕ → Members → Members → Type 0
AreReadAlike s p at ms ns = by s.order
  where
    by : Order → Type 0
    by Any = Unit {0}
    by Streaming = is_read_as_graph s p at ms ≡ is_read_as_graph s p at ns
