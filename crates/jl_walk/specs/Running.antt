-- The machine over events, in streaming order. The event that ends the prelude of an object decides its contexts; where its rest
-- begins it is named, enters, and what was held is fed.
use Rattle.std.specs.Prelude.{ℕ, Bool, true, false, ◌&&◌, List, [], ◌∷◌, Option, Some, None, Result, Ok, Err}
use Rattle.std.specs.List.{list_any}
use Rattle.jl_model.specs.JsonTree.{Tree, scalar, array, object, Trees, no_item, Members, no_member, member}
use Rattle.jl_model.specs.declared.codes.Code.TheVariants as code
use Rattle.jl_model.specs.declared.faults.Fault.{Fault}
use Rattle.jl_defs.specs.Texts.{Text}
use Rattle.jl_defs.specs.Trees.{then_members}
use Rattle.jl_defs.specs.Context.{Context}
use Rattle.jl_defs.specs.Settings.{Settings}
use Rattle.jl_defs.specs.ObjectContexts.{fault, Inside, Look, look_at, look_at_key, first_context, is_context_name, leads_in, types_in, decide_by}
use Rattle.jl_defs.specs.Rest.{own_candidates}
use Rattle.jl_laws.specs.Spots.{Spot, stand_of}
use Rattle.jl_walk.specs.Phases.{at_start, in_lead, follow, past, is_rest}
use Rattle.jl_walk.specs.Frames.{Frame, spot_in}
use Rattle.jl_walk.specs.Steps.{Step, then_goes}
use Rattle.jl_walk.specs.Scalars.{take_scalar}
use Rattle.jl_walk.specs.Opening.{open_array, enter_at, enter}
use Rattle.jl_walk.specs.Keys.{take_key}
use Rattle.jl_walk.specs.Ending.{close}
use Rattle.jl_walk.specs.Feeding.{entering_as, feed_members}
use Rattle.jl_walk.specs.Events.{Event, opens_object, opens_array, closes, a_key, a_scalar}
use Rattle.jl_walk.specs.States.{Lead, Second, State, at, leading, leading_key, context_key, running, running_key, in_items, in_members, in_member, Go, go, then_go, settle, members_length, held_with, add_item}

-- ---- how an object is decided by what is held

-- the contexts that may be its own
abbrev pub contexts_of : Settings → Spot → ℕ → Members → List Context
contexts_of s p place first = own_candidates s p.context p.under (stand_of p.role.around) place first

-- in one of them the key leads, or it means `@type`
abbrev pub may_lead : List Context → Text → Bool
may_lead cs n = list_any (leads_in n) cs

abbrev pub may_type : List Context → Text → Bool
may_type cs n = list_any (types_in n) cs

-- what is seen of the members
abbrev pub held_looks : Members → List Look → List Look
held_looks no_member more = more
held_looks (member a n v rest) more = look_at n v ∷ held_looks rest more

-- its contexts, decided by what is held and by what is seen beside it
abbrev pub contexts_by : Settings → Spot → ℕ → Members → Members → List Look → Result Inside Fault
contexts_by s p place first held more =
    decide_by s p.context p.under (stand_of p.role.around) place (first_context first) (held_looks held more)

-- contexts at fault stop
abbrev pub if_decided : Result Inside Fault → (Inside → Go) → Go
if_decided (Err f) next = Err f
if_decided (Ok i) next = next i

-- its second run begins
abbrev pub second_of : Lead → Inside → Second
second_of l i = record {
  spot = l.spot;
  place = l.place;
  start = at_start (members_length (then_members l.first l.held));
  inside = i;
  phase = in_lead 0;
  held = then_members l.first l.held;
  frames = l.frames;
}

-- it enters, named by what is held, and this is fed
abbrev pub settles : Settings → Second → Step
settles s r = then_goes (enter_at r.spot r.place (Ok (entering_as r.start r.inside r.held)) r.frames) (feed_members s r.held)

-- a key after the prelude: the rest begins, or the key belongs to the second run
abbrev pub run_key : Settings → Second → ℕ → Text → Go
run_key s r a n =
    elim (is_rest (follow r.phase r.inside n)) [
      | true ↦ settle (then_goes (settles s r) (take_key a n))
      | false ↦ go (running_key (record r { phase = follow r.phase r.inside n }) a n)
    ]

-- the key that ends the prelude decides the contexts
abbrev pub ending_key : Settings → Lead → ℕ → Text → Go
ending_key s l a n =
    if_decided (contexts_by s l.spot l.place l.first l.held (look_at_key n ∷ [])) (λ i. run_key s (second_of l i) a n)

-- ---- events where no object is held

-- the spot of the next value, where one may stand
abbrev pub top_spot : List Frame → Option Spot
top_spot [] = None
top_spot (f ∷ k) = spot_in f

-- an object that opens, before its first member
abbrev pub opened : Spot → ℕ → List Frame → Lead
opened p place k = record { spot = p; place = place; first = no_member; held = no_member; frames = k }

-- an object that opens is held; where no value stands it isn't decided, but dropped or refused
abbrev pub opens : ℕ → List Frame → Option Spot → Go
opens place k None = settle (enter place (λ p. Err (fault code.NotYet place)) k)
opens place k (Some p) = go (leading (opened p place k))

-- an event is a move on the frames
abbrev pub at_step : Settings → Event → List Frame → Go
at_step s (opens_object b) k = opens b k (top_spot k)
at_step s (opens_array b) k = settle (open_array b k)
at_step s closes k = settle (close k)
at_step s (a_key a n) k = settle (take_key a n k)
at_step s (a_scalar b v) k = settle (take_scalar s b v k)

-- ---- events inside an object that is held

-- a value begins that is held whole
abbrev pub takes : Event → (Tree → State) → Go
takes (a_scalar b v) back = go (back (scalar b v))
takes (opens_array b) back = go (in_items b no_item back)
takes (opens_object b) back = go (in_members b no_member back)
takes e back = go (at [])

-- the first event of a value, after its key
abbrev pub value_step : Settings → Event → State → Go
value_step s e (at k) = at_step s e k
value_step s e (running_key r a n) =
    takes e (λ v. running (record r { phase = past r.phase r.inside n v; held = held_with r.held a n v }))
value_step s e z = go z

-- one more leading member
abbrev pub leads_with : Lead → ℕ → Text → Tree → State
leads_with l a n v = leading (record l { held = held_with l.held a n v })

-- no member has been read
abbrev pub nothing_held : Members → Members → Bool
nothing_held no_member no_member = true
nothing_held first held = false

-- a context of its own isn't built; another key may lead, or it ends the prelude; at its end an object is decided by all that
-- is held
abbrev pub lead_step : Settings → Event → Lead → Go
lead_step s (a_key a n) l =
    elim (nothing_held l.first l.held && is_context_name n) [
      | true ↦ Err (fault code.NotYet a)
      | false ↦ elim (may_lead (contexts_of s l.spot l.place l.first) n) [ true ↦ go (leading_key l a n) | false ↦ ending_key s l a n ]
    ]
lead_step s e l =
    if_decided (contexts_by s l.spot l.place l.first l.held []) (λ i. settle (then_goes (settles s (second_of l i)) close))

-- a scalar leads, and so does an array of types; another value ends the prelude
abbrev pub key_step : Settings → Event → Lead → ℕ → Text → Go
key_step s (a_scalar b v) l a n = go (leads_with l a n (scalar b v))
key_step s (opens_array b) l a n =
    elim (may_type (contexts_of s l.spot l.place l.first) n) [
      | true ↦ go (in_items b no_item (leads_with l a n))
      | false ↦ then_go (ending_key s l a n) (value_step s (opens_array b))
    ]
key_step s e l a n = then_go (ending_key s l a n) (value_step s e)

-- in the second run: another key, or the end of the object
abbrev pub run_step : Settings → Event → Second → Go
run_step s (a_key a n) r = run_key s r a n
run_step s e r = settle (then_goes (settles s r) close)

-- in an array that is held whole
abbrev pub items_step : Event → ℕ → Trees → (Tree → State) → Go
items_step closes b xs back = go (back (array b xs))
items_step e b xs back = takes e (λ t. in_items b (add_item xs t) back)

-- in an object that is held whole
abbrev pub members_step : Event → ℕ → Members → (Tree → State) → Go
members_step (a_key a n) b ms back = go (in_member b ms a n back)
members_step e b ms back = go (back (object b ms))

-- ---- one event, and all of them

-- an event in a state
unfoldable pub step : Settings → Event → State → Go
step s e (at k) = at_step s e k
step s e (leading l) = lead_step s e l
step s e (leading_key l a n) = key_step s e l a n
step s e (context_key l a n) = takes e (λ v. leading (record l { first = member a n v no_member }))
step s e (running r) = run_step s e r
step s e (running_key r a n) = value_step s e (running_key r a n)
step s e (in_items b xs back) = items_step e b xs back
step s e (in_members b ms back) = members_step e b ms back
step s e (in_member b ms a n back) = takes e (λ t. in_members b (held_with ms a n t) back)

-- events from a state on
unfoldable pub run : Settings → List Event → State → Go
run s [] z = go z
run s (e ∷ es) z = then_go (step s e z) (run s es)
