-- The laws of the walk, as statements.
use Rattle.std.specs.Prelude.{◌≡◌, ◌⊎◌, ℕ, false, List, [], ◌∷◌, ◌++◌, Some, Ok, Err}
use Rattle.jl_model.specs.JsonTree.{Tree}
use Rattle.jl_model.specs.Parts.{Parts}
use Rattle.jl_model.specs.declared.codes.Code.TheVariants as code
use Rattle.jl_model.specs.declared.faults.Fault.{Fault}
use Rattle.jl_model.specs.declared.orders.Order.TheVariants.{Streaming}
use Rattle.jl_defs.specs.Settings.{Settings, term_under, lists}
use Rattle.jl_defs.specs.Sets.{Has, SameSet}
use Rattle.jl_defs.specs.Dataset.{dataset}
use Rattle.jl_defs.specs.Kept.{keeps}
use Rattle.jl_defs.specs.Faults.{value_faults, faults, AcceptsTree}
use Rattle.jl_laws.specs.Spots.{Around, document, ordinary, graphs, map_entry, graph_map_entry, Spot, stand_of, moved}
use Rattle.jl_laws.specs.Says.{walk, says, root_spot}
use Rattle.jl_walk.specs.Stage.{forms, document_forms}
use Rattle.jl_walk.specs.Frames.{Frame, values, spot_in, told}
use Rattle.jl_walk.specs.Steps.{Step}
use Rattle.jl_walk.specs.Feeding.{feed, start}
use Rattle.jl_walk.specs.Events.{Event, tree_events}
use Rattle.jl_walk.specs.States.{State, at, Go, from}
use Rattle.jl_walk.specs.Running.{run}

-- the fault is one of these, or a form that isn't built stands at its place
abbrev pub IsCause : List Fault → List ℕ → Fault → Type 0
IsCause fs places f = Has fs f ⊎ ((f.code ≡ code.NotYet) × Has places f.at)

-- a run: there is no fault and all is built, and then it brings just these quads and leads to these frames; or it stops at one
-- of the faults, or at a form that isn't built
pub data Runs (fs : List Fault) (places : List ℕ) (r : Step) (quads : List Parts) (k : List Frame) : Type 0 where
  goes : fs ≡ [] → places ≡ [] → r ≡ Ok (quads, k) → Runs fs places r quads k
  stops : (f : Fault) → IsCause fs places f → r ≡ Err f → Runs fs places r quads k

-- the spots of the forms that are built; a form that comes takes away its clause
abbrev pub IsPlainAround : Around → Type 0
IsPlainAround document = Unit {0}
IsPlainAround ordinary = Unit {0}
IsPlainAround graphs = Unit {0}
IsPlainAround (map_entry adds) = ⊥
IsPlainAround (graph_map_entry adds) = ⊥

-- a spot of a form that is built
abbrev pub IsPlain : Spot → Type 0
IsPlain p = (lists (term_under p.context p.under) ≡ false) × IsPlainAround p.role.around

-- a value at a spot: the run says what `says` says there, and the frame learns whether the value is kept and where the next
-- one hangs; it stops where the definitions have a fault
abbrev pub ValueRuns : Settings → Tree → Type 0
ValueRuns s t =
    (f : Frame) (k : List Frame) (p : Spot) → spot_in f ≡ Some p → IsPlain p →
    Runs (value_faults s p.context p.under (stand_of p.role.around) t) (forms s p.context p.under (stand_of p.role.around) t)
    (feed s t (f ∷ k)) (walk s p t).0
    (told (keeps s p.context p.under (stand_of p.role.around) t) (walk s p t).1 f ∷ k)

-- the same of every value, whatever is open round it
abbrev pub ValuesRun : Type 0
ValuesRun = (s : Settings) (t : Tree) → ValueRuns s t

-- after a document only its own frame is open
abbrev pub finished : Settings → Tree → List Frame
finished s t = values (moved (root_spot s) document (walk s (root_spot s) t).1) ∷ []

-- a document in either order: it brings the quads of `says`, in the same order, or stops at one of the faults, a late key among
-- them, or at a form that isn't built
abbrev pub WalkSays : Type 0
WalkSays =
    (s : Settings) (t : Tree) →
    Runs (faults s t) (document_forms s t) (feed s t (start s)) (says s (root_spot s) t) (finished s t)

-- in streaming order the events of a tree do what the tree does, whatever is open round it and whatever follows
abbrev pub EventsCut : Type 0
EventsCut =
    (s : Settings) (t : Tree) (k : List Frame) (more : List Event) → s.order ≡ Streaming →
    run s (tree_events t more) (at k) ≡ from (feed s t k) (λ l. run s more (at l))

-- a run over events: as `Runs`, and no object is held at its end
pub data Reads (fs : List Fault) (places : List ℕ) (r : Go) (quads : List Parts) (k : List Frame) : Type 0 where
  reads : fs ≡ [] → places ≡ [] → r ≡ Ok (quads, at k) → Reads fs places r quads k
  refuses : (f : Fault) → IsCause fs places f → r ≡ Err f → Reads fs places r quads k

-- in streaming order the events of a document bring the quads of `says`, in the same order, or stop at one of its faults, or at a
-- form that isn't built
abbrev pub ReadSays : Type 0
ReadSays =
    (s : Settings) (t : Tree) → s.order ≡ Streaming →
    Reads (faults s t) (document_forms s t) (run s (tree_events t []) (at (start s))) (says s (root_spot s) t) (finished s t)

-- a run over a part of the events: where the document has no fault and all is built, what it has brought begins these quads; or
-- it has stopped at one of the faults, or at a form that isn't built
pub data Begins (fs : List Fault) (places : List ℕ) (r : Go) (quads : List Parts) : Type 0 where
  brings : (q : List Parts) → (z : State) → r ≡ Ok (q, z) → (fs ≡ [] → places ≡ [] → (more : List Parts) × (quads ≡ q ++ more)) → Begins fs places r quads
  stopped : (f : Fault) → IsCause fs places f → r ≡ Err f → Begins fs places r quads

-- in streaming order what a part of the events has brought begins the quads of each accepted document that goes on from it, and
-- a fault that has come is one of the document's, whatever follows
abbrev pub PartSays : Type 0
PartSays =
    (s : Settings) (t : Tree) (es more : List Event) → s.order ≡ Streaming → tree_events t [] ≡ es ++ more →
    Begins (faults s t) (document_forms s t) (run s es (at (start s))) (says s (root_spot s) t)

-- what is said of a document that has been read: it has no fault, all in it is built, and these quads are its dataset
pub record IsRead (s : Settings) (t : Tree) (quads : List Parts) : Type 0 where
  pub accepted : AcceptsTree s t
  pub built : document_forms s t ≡ []
  pub quads_are : SameSet quads (dataset s t)

-- in both orders, where a document's tree goes
abbrev pub FeedsDataset : Type 0
FeedsDataset =
    (s : Settings) (t : Tree) (quads : List Parts) (k : List Frame) → feed s t (start s) ≡ Ok (quads, k) → IsRead s t quads

-- in streaming order, where its events go
abbrev pub ReadsDataset : Type 0
ReadsDataset =
    (s : Settings) (t : Tree) (quads : List Parts) (z : State) → s.order ≡ Streaming →
    run s (tree_events t []) (at (start s)) ≡ Ok (quads, z) → IsRead s t quads
