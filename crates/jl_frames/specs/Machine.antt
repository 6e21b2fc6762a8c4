-- The stack of frames: what each fact brings, and what is open behind it. A fact is a container that opens or closes,
-- a key, or a scalar.
use Rattle.std.specs.Prelude.{ℕ, Bool, true, false, List, [], ◌∷◌, Option, Some, None, Result, Ok, Err}
use Rattle.jl_model.specs.Parts.{Parts}
use Rattle.jl_model.specs.declared.faults.Fault.{Fault}
use Rattle.jl_model.specs.declared.terms.Term.{Term}
use Rattle.jl_defs.specs.ObjectContexts.{fault}
use Rattle.jl_frames.specs.declared.roles.Role.{Role}
use Rattle.jl_frames.specs.declared.roles.Role.TheVariants as role
use Rattle.jl_frames.specs.declared.facts.Frame.{Frame}
use Rattle.jl_frames.specs.declared.facts.KeyFact.{KeyFact}
use Rattle.jl_frames.specs.declared.facts.ValueFact.{ValueFact}
use Rattle.jl_frames.specs.declared.keywords.Keyword.{Keyword}
use Rattle.jl_frames.specs.declared.keywords.Keyword.TheVariants as keyword
use Rattle.jl_frames.specs.declared.nodes.Node.{Node}
use Rattle.jl_frames.specs.declared.nodes.Pending.{Pending}
use Rattle.jl_frames.specs.declared.nodes.Pending.TheVariants as pending
use Rattle.jl_frames.specs.declared.values.Ended.{Ended}
use Rattle.jl_frames.specs.declared.values.Ended.TheVariants as ended
use Rattle.jl_frames.specs.declared.opens.Open.{Open}
use Rattle.jl_frames.specs.declared.opens.Open.TheVariants as opens
use Rattle.jl_frames.specs.declared.states.StackState.{StackState}
use Rattle.jl_frames.specs.Nodes.{opened, rested, holding, hang_pending, wrong_form, with_many_kinds, take_key, Taken, take_scalar}
use Rattle.jl_frames.specs.Closing.{term_of_lit, end_of}

-- a fact brings quads and leads to another state, or it is a fault
abbrev pub Step : Type 0
Step = Result (List Parts × StackState) Fault

abbrev pub state : Option Node → List Open → StackState
state n k = record { node = n; opens = k; stopped = None; short = false }

abbrev pub quiet : Option Node → List Open → Step
quiet n k = Ok ([], state n k)

-- the state before the first fact
abbrev pub start : StackState
start = state None []

abbrev pub all_rested : Option Node → Option Node
all_rested None = None
all_rested (Some n) = Some (rested n)

abbrev pub in_object : List Open → Bool
in_object (opens.Object o ∷ k) = true
in_object k = false

abbrev pub in_dropped : List Open → Bool
in_dropped (opens.Dropped ∷ k) = true
in_dropped k = false

-- the object round the innermost one
abbrev pub outer_of : List Open → Option Node
outer_of (opens.Object o ∷ k) = o
outer_of k = None

abbrev pub rest_of : List Open → List Open
rest_of [] = []
rest_of (o ∷ k) = k

-- a value has ended: of the innermost object, of an array, or of the document
abbrev pub complete : Option Node → List Open → StackState
complete n k = elim (in_object k) [ true ↦ state (all_rested n) k | false ↦ state n k ]

abbrev pub all_holding : Option Node → Option Node
all_holding None = None
all_holding (Some n) = Some (holding n)

-- a container opens as the value of a property, outside of all properties, or in an array of such values
abbrev pub on_frame : Role → Frame → Option Node → List Open → Step
on_frame role.Object f n k = quiet (Some (opened f)) (opens.Object n ∷ k)
on_frame role.Set f n k = quiet (all_holding n) (opens.Array ∷ k)
on_frame r f n k = quiet n (opens.Dropped ∷ k)

-- an array opens under `@type`; no other container may open under a keyword
abbrev pub opens_types : Keyword → Role → Bool → Bool
opens_types keyword.Kind role.Set true = true
opens_types q r in_array = false

abbrev pub all_typed : Option Node → Option Node
all_typed None = None
all_typed (Some n) = Some (with_many_kinds n)

abbrev pub on_types : Bool → ℕ → Keyword → Node → List Open → Step
on_types true at q n k = quiet (all_typed (Some n)) (opens.Array ∷ k)
on_types false at q n k = Err (fault (wrong_form q) at)

abbrev pub on_pending : Pending → Frame → Node → List Open → Step
on_pending (pending.Property p) f n k = on_frame f.role f (Some n) k
on_pending (pending.Keyword at q) f n k = on_types (opens_types q f.role (in_object k)) at q n k
on_pending pending.Ignored f n k = quiet (Some n) (opens.Dropped ∷ k)
on_pending pending.Nothing f n k = quiet (Some n) (opens.Dropped ∷ k)

abbrev pub enter_in : Bool → Frame → Option Node → List Open → Step
enter_in true f n k = quiet n (opens.Dropped ∷ k)
enter_in false f None k = on_frame f.role f None k
enter_in false f (Some n) k = on_pending n.pending f n k

abbrev pub on_enter : Frame → Option Node → List Open → Step
on_enter f n k = enter_in (in_dropped k) f n k

-- a key stands in an object
abbrev pub after_key : Result Node Fault → List Open → Step
after_key (Ok n) k = quiet (Some n) k
after_key (Err f) k = Err f

abbrev pub key_in : Bool → KeyFact → Option Node → List Open → Step
key_in true f (Some n) k = after_key (take_key f n) k
key_in b f n k = quiet n k

abbrev pub on_key : KeyFact → Option Node → List Open → Step
on_key f n k = key_in (in_object k) f n k

-- outside of all objects a scalar is dropped
abbrev pub some_taken : Taken → Result (List Parts × Option Node) Fault
some_taken (Ok (quads, n)) = Ok (quads, Some n)
some_taken (Err f) = Err f

abbrev pub all_take : ValueFact → Option Node → Result (List Parts × Option Node) Fault
all_take f None = Ok ([], None)
all_take f (Some n) = some_taken (take_scalar f n)

abbrev pub after_scalar : Result (List Parts × Option Node) Fault → List Open → Step
after_scalar (Ok (quads, n)) k = Ok (quads, complete n k)
after_scalar (Err f) k = Err f

abbrev pub scalar_in : Bool → ValueFact → Option Node → List Open → Step
scalar_in true f n k = quiet n k
scalar_in false f n k = after_scalar (all_take f n) k

abbrev pub on_scalar : ValueFact → Option Node → List Open → Step
on_scalar f n k = scalar_in (in_dropped k) f n k

-- what an object gives hangs on the property round it
abbrev pub hang_on : Option Node → Option Term → List Parts
hang_on None o = []
hang_on (Some n) o = hang_pending n o

abbrev pub is_outside : Option Node → Bool
is_outside None = true
is_outside (Some n) = false

abbrev pub ended_of : Option Node → Bool → Result Ended Fault
ended_of None drops = Ok ended.Nothing
ended_of (Some n) drops = end_of n drops

abbrev pub subject_of : Option Node → Option Term
subject_of None = None
subject_of (Some n) = n.subject

abbrev pub after_object : Result Ended Fault → Option Node → Option Node → List Open → Step
after_object (Ok ended.Nothing) n o k = Ok ([], complete o k)
after_object (Ok ended.Node) n o k = Ok (hang_on o (subject_of n), complete (all_holding o) k)
after_object (Ok (ended.Value lit)) n o k = Ok (hang_on o (term_of_lit lit), complete (all_holding o) k)
after_object (Err f) n o k = Err f

abbrev pub on_close : Option Node → List Open → Step
on_close n [] = quiet n []
on_close n (opens.Array ∷ k) = Ok ([], complete n k)
on_close n (opens.Dropped ∷ k) = Ok ([], complete n k)
on_close n (opens.Object o ∷ k) = after_object (ended_of n (is_outside o)) n o k

-- behind a fault each fact is that fault
abbrev pub unless_stopped : Option Fault → (Unit {0} → Step) → Step
unless_stopped (Some f) next = Err f
unless_stopped None next = next tt

unfoldable pub enter : Frame → StackState → Step
enter f s = unless_stopped s.stopped (λ _. on_enter f s.node s.opens)

unfoldable pub key : KeyFact → StackState → Step
key f s = unless_stopped s.stopped (λ _. on_key f s.node s.opens)

unfoldable pub scalar : ValueFact → StackState → Step
scalar f s = unless_stopped s.stopped (λ _. on_scalar f s.node s.opens)

unfoldable pub close : StackState → Step
close s = unless_stopped s.stopped (λ _. on_close s.node s.opens)
