-- What is due while a document is still open, in streaming order: each quad that is due by what has been read has been put, and
-- what has been put is sure.
use Rattle.std.specs.Prelude.{◌≡◌, List, [], ◌∷◌, ◌++◌, Ok}
use Rattle.jl_model.specs.JsonTree.{Tree}
use Rattle.jl_model.specs.Parts.{Parts}
use Rattle.jl_model.specs.declared.orders.Order.TheVariants.{Streaming}
use Rattle.jl_defs.specs.Settings.{Settings}
use Rattle.jl_defs.specs.Sets.{IsWithin}
use Rattle.jl_defs.specs.Faults.{AcceptsTree}
use Rattle.jl_defs.specs.OpenTree.{Open, unread, in_scalar, in_array, in_object, in_key, in_member, whole, Extends}
use Rattle.jl_defs.specs.Due.{due}
use Rattle.jl_laws.specs.Says.{says, root_spot}
use Rattle.jl_walk.specs.Stage.{document_forms}
use Rattle.jl_walk.specs.Feeding.{start}
use Rattle.jl_walk.specs.Events.{Event, opens_array, opens_object, a_key, tree_events, items_events, members_events}
use Rattle.jl_walk.specs.States.{State, at}
use Rattle.jl_walk.specs.Running.{run}

-- the events of what has been read: a scalar or a key that is being read is none yet
abbrev pub open_events : Open → List Event
open_events unread = []
open_events (in_scalar b first) = []
open_events (in_array b xs next) = opens_array b ∷ items_events xs (open_events next)
open_events (in_object b ms ends) = opens_object b ∷ members_events ms []
open_events (in_key b ms ends a) = opens_object b ∷ members_events ms []
open_events (in_member b ms ends a n next) = opens_object b ∷ members_events ms (a_key a n ∷ open_events next)
open_events (whole t) = tree_events t []

-- where the events of what has been read don't stop, they have put each quad that is due by it, whatever follows
abbrev pub DueIsPut : Type 0
DueIsPut =
    (s : Settings) (o : Open) (t : Tree) (quads : List Parts) (z : State) → s.order ≡ Streaming → Extends o t →
    run s (open_events o) (at (start s)) ≡ Ok (quads, z) → IsWithin (due s o) quads

-- the events of what has been read go: they have put each quad that is due, and no quad that the document doesn't say
pub record IsPrompt (s : Settings) (o : Open) (t : Tree) : Type 0 where
  pub quads : List Parts
  pub state : State
  pub goes : run s (open_events o) (at (start s)) ≡ Ok (quads, state)
  pub all_due : IsWithin (due s o) quads
  -- what comes after what has been read
  pub later : List Parts
  pub all_said : says s (root_spot s) t ≡ quads ++ later

-- so they do wherever an accepted document of the forms that are built goes on from what has been read
abbrev pub PartsPrompt : Type 0
PartsPrompt = (s : Settings) (o : Open) (t : Tree) → s.order ≡ Streaming → Extends o t → AcceptsTree s t → document_forms s t ≡ [] → IsPrompt s o t
