-- The events of a document fit: each comes in a state in which one of its kind may come. The events have a shape of open
-- containers, and the states of the machine keep it.
use Rattle.std.proofs.Common.{ℕ, ◌≡◌, subst, Bool, true, false, List, [], ◌∷◌, ◌++◌, Option, Some, None, Result, Ok, Err}
use Rattle.std.specs.Prelude.{◌&&◌}
use Rattle.jl_model.specs.JsonTree.{Tree, scalar, array, object, Trees, no_item, item, Members, no_member, member}
use Rattle.jl_model.specs.Parts.{Parts}
use Rattle.jl_model.specs.declared.codes.Code.TheVariants as code
use Rattle.jl_model.specs.declared.faults.Fault.{Fault}
use Rattle.jl_model.specs.declared.scalars.Scalar.{Scalar}
use Rattle.jl_model.specs.declared.orders.Order.TheVariants.{Streaming}
use Rattle.jl_defs.specs.Texts.{Text}
use Rattle.jl_defs.specs.Settings.{Settings}
use Rattle.jl_defs.specs.ObjectContexts.{fault, Inside, is_context_name, look_at_key}
use Rattle.jl_laws.specs.Spots.{Spot}
use Rattle.jl_walk.specs.Phases.{follow, past, is_rest}
use Rattle.jl_walk.specs.Frames.{Expected, no_value, property_value, keyword_value, dropped_value, Frame, values, object as object_frame, types, dropped}
use Rattle.jl_walk.specs.Steps.{Step, then_goes}
use Rattle.jl_walk.specs.Scalars.{take_scalar}
use Rattle.jl_walk.specs.Opening.{open_array, Entering, enter_at, enter}
use Rattle.jl_walk.specs.Keys.{take_key}
use Rattle.jl_walk.specs.Ending.{close}
use Rattle.jl_walk.specs.Feeding.{entering_as, feed_members, start}
use Rattle.jl_walk.specs.Events.{Event, opens_object, opens_array, closes, a_key, a_scalar, tree_events, items_events, members_events}
use Rattle.jl_walk.specs.States.{Lead, Second, State, at, leading, leading_key, context_key, running, running_key, in_items, in_members, in_member, Go, go, before, then_go, settle, held_with}
use Rattle.jl_walk.specs.Running.{contexts_of, may_lead, may_type, contexts_by, if_decided, second_of, settles, run_key, ending_key, top_spot, opens, at_step, takes, value_step, leads_with, nothing_held, lead_step, key_step, run_step, items_step, members_step, step, run}
use Rattle.jl_walk.specs.Fits.{BeginsValue, FitsItems, FitsMembers, FitsObject, FitsFrames, Fits}
use Rattle.jl_walk.proofs.Shapes.{Place, in_array, between, after_key, ended, TakesValue, ExpectsAt, Stand, Shapes, shapes-then, scalar-shapes, array-shapes, enter-at-shapes, enter-shapes, key-shapes, close-shapes, members-shape}

-- ---- the shape of events

-- the shape after an event
abbrev pub next_shape : Event → List Place → List Place
next_shape (opens_object b) w = between ∷ w
next_shape (opens_array b) w = in_array ∷ w
next_shape (a_scalar b v) w = ended w
next_shape (a_key a n) (x ∷ w) = after_key ∷ w
next_shape (a_key a n) [] = []
next_shape closes (x ∷ w) = ended w
next_shape closes [] = []

-- the event may come
abbrev pub FitsShape : List Place → Event → Type 0
FitsShape [] e = BeginsValue e
FitsShape (in_array ∷ w) e = FitsItems e
FitsShape (between ∷ w) e = FitsMembers e
FitsShape (after_key ∷ w) e = BeginsValue e

-- so may all of these
abbrev pub AllFit : List Place → List Event → Type 0
AllFit w [] = Unit {0}
AllFit w (e ∷ es) = FitsShape w e × AllFit (next_shape e w) es

scalar-fits : (w : List Place) (b : ℕ) → TakesValue w → (v : Scalar) → FitsShape w (a_scalar b v)
scalar-fits [] b t v = tt
scalar-fits (in_array ∷ w) b t v = tt
scalar-fits (between ∷ w) b t v = absurd t
scalar-fits (after_key ∷ w) b t v = tt

array-fits : (w : List Place) (b : ℕ) → TakesValue w → FitsShape w (opens_array b)
array-fits [] b t = tt
array-fits (in_array ∷ w) b t = tt
array-fits (between ∷ w) b t = absurd t
array-fits (after_key ∷ w) b t = tt

object-fits : (w : List Place) (b : ℕ) → TakesValue w → FitsShape w (opens_object b)
object-fits [] b t = tt
object-fits (in_array ∷ w) b t = tt
object-fits (between ∷ w) b t = absurd t
object-fits (after_key ∷ w) b t = tt

mutual
  unfolding tree_events

  tree-fits : (t : Tree) (more : List Event) (w : List Place) → TakesValue w → AllFit (ended w) more → AllFit w (tree_events t more)
  tree-fits (scalar b v) more w t h = (scalar-fits w b t v, h)
  tree-fits (array b xs) more w t h = (array-fits w b t, items-fit xs (closes ∷ more) w (tt, h))
  tree-fits (object b ms) more w t h = (object-fits w b t, members-fit ms (closes ∷ more) w (tt, h))

  items-fit : (xs : Trees) (more : List Event) (w : List Place) → AllFit (in_array ∷ w) more → AllFit (in_array ∷ w) (items_events xs more)
  items-fit no_item more w h = h
  items-fit (item x rest) more w h = tree-fits x (items_events rest more) (in_array ∷ w) tt (items-fit rest more w h)

  members-fit : (ms : Members) (more : List Event) (w : List Place) → AllFit (between ∷ w) more → AllFit (between ∷ w) (members_events ms more)
  members-fit no_member more w h = h
  members-fit (member a n v rest) more w h = (tt, tree-fits v (members_events rest more) (after_key ∷ w) tt (members-fit rest more w h))

-- ---- the shape of a state

-- between the members of an object that is held, and after a key of it
abbrev pub InObject : List Frame → List Place → Type 0
InObject k (between ∷ w) = Stand k w
InObject k w = ⊥

abbrev pub AfterKey : List Frame → List Place → Type 0
AfterKey k (after_key ∷ w) = Stand k w
AfterKey k w = ⊥

-- what is held whole is a value of the container round it
unfoldable pub Stands : State → List Place → Type 0
Stands (at k) w = Stand k w
Stands (leading l) w = InObject l.frames w
Stands (leading_key l a n) w = AfterKey l.frames w
Stands (context_key l a n) w = AfterKey l.frames w
Stands (running r) w = InObject r.frames w
Stands (running_key r a n) w = AfterKey r.frames w
Stands (in_items b xs back) (in_array ∷ w) = (t : Tree) → Stands (back t) (ended w)
Stands (in_items b xs back) w = ⊥
Stands (in_members b ms back) (between ∷ w) = (t : Tree) → Stands (back t) (ended w)
Stands (in_members b ms back) w = ⊥
Stands (in_member b ms a n back) (after_key ∷ w) = (t : Tree) → Stands (back t) (ended w)
Stands (in_member b ms a n back) w = ⊥

-- ---- a step keeps the shape

abbrev pub Goes : List Place → Go → Type 0
Goes w (Ok (q, z)) = Stands z w
Goes w (Err f) = Unit {0}

goes-before : (w : List Place) (q : List Parts) (g : Go) → Goes w g → Goes w (before q g)
goes-before w q (Ok (more, z)) h = h
goes-before w q (Err f) h = tt

settle-goes : (w : List Place) (r : Step) → Shapes w r → Goes w (settle r)
unfolding Stands
settle-goes w (Ok (q, k)) h = h
settle-goes w (Err f) h = tt

takes-goes : (e : Event) (w : List Place) (back : Tree → State) → BeginsValue e → ((t : Tree) → Stands (back t) (ended w)) → Goes (next_shape e w) (takes e back)
unfolding Stands
takes-goes (a_scalar b v) w back f h = h (scalar b v)
takes-goes (opens_array b) w back f h = h
takes-goes (opens_object b) w back f h = h
takes-goes closes w back f h = absurd f
takes-goes (a_key a n) w back f h = absurd f

opens-goes : (b : ℕ) (k : List Frame) (w : List Place) (o : Option Spot) → Stand k w → Goes (between ∷ w) (opens b k o)
unfolding Stands
opens-goes b k w None h = let d : Spot → Result Entering Fault = λ p. Err (fault code.NotYet b) in settle-goes (between ∷ w) (enter b d k) (enter-shapes w b d k h)
opens-goes b k w (Some p) h = h

at-goes : (s : Settings) (e : Event) (k : List Frame) (w : List Place) → FitsShape w e → Stand k w → Goes (next_shape e w) (at_step s e k)
at-goes s (opens_object b) k w f h = opens-goes b k w (top_spot k) h
at-goes s (opens_array b) k w f h = settle-goes (in_array ∷ w) (open_array b k) (array-shapes w b k h)
at-goes s (a_scalar b v) k w f h = settle-goes (ended w) (take_scalar s b v k) (scalar-shapes s w b v k h)
at-goes s (a_key a n) k [] f h = absurd f
at-goes s (a_key a n) k (in_array ∷ w) f h = absurd f
at-goes s (a_key a n) k (between ∷ w) f h = settle-goes (after_key ∷ w) (take_key a n k) (key-shapes w a n k h)
at-goes s (a_key a n) k (after_key ∷ w) f h = absurd f
at-goes s closes k [] f h = absurd f
at-goes s closes k (x ∷ w) f h = settle-goes (ended w) (close k) (close-shapes x w k h)

-- an object that was held enters, and what was held is fed
settles-shapes : (s : Settings) (r : Second) (w : List Place) → Stand r.frames w → Shapes (between ∷ w) (settles s r)
settles-shapes s r w h =
    let e : Result Entering Fault = Ok (entering_as r.start r.inside r.held) in
    shapes-then (between ∷ w) (between ∷ w) (enter_at r.spot r.place e r.frames) (feed_members s r.held) (enter-at-shapes w r.spot r.place e r.frames h)
    (λ k g. members-shape s r.held w k g)

closing-goes : (s : Settings) (r : Second) (w : List Place) → Stand r.frames w → Goes (ended w) (settle (then_goes (settles s r) close))
closing-goes s r w h =
    settle-goes (ended w) (then_goes (settles s r) close)
    (shapes-then (between ∷ w) (ended w) (settles s r) close (settles-shapes s r w h) (λ k g. close-shapes between w k g))

-- a key that ends the prelude, or comes after it: the object has entered, or it is in its second run
abbrev pub KeyTaken : List Place → Go → Type 0
KeyTaken w (Ok (q, at k)) = Stand k (after_key ∷ w)
KeyTaken w (Ok (q, running_key r a n)) = Stand r.frames w
KeyTaken w (Ok (q, z)) = ⊥
KeyTaken w (Err f) = Unit {0}

taken-goes : (w : List Place) (g : Go) → KeyTaken w g → Goes (after_key ∷ w) g
unfolding Stands
taken-goes w (Ok (q, at k)) h = h
taken-goes w (Ok (q, running_key r a n)) h = h
taken-goes w (Ok (q, z)) h = absurd h
taken-goes w (Err f) h = tt

settle-taken : (w : List Place) (r : Step) → Shapes (after_key ∷ w) r → KeyTaken w (settle r)
settle-taken w (Ok (q, k)) h = h
settle-taken w (Err f) h = tt

key-taken : (s : Settings) (r : Second) (a : ℕ) (n : Text) (w : List Place) → Stand r.frames w → KeyTaken w (run_key s r a n)
key-taken s r a n w h = by (is_rest (follow r.phase r.inside n))
  where
    by : (x : Bool) → KeyTaken w (elim x [
      | true ↦ settle (then_goes (settles s r) (take_key a n))
      | false ↦ go (running_key (record r { phase = follow r.phase r.inside n }) a n)
    ])
    by true =
        settle-taken w (then_goes (settles s r) (take_key a n))
        (shapes-then (between ∷ w) (after_key ∷ w) (settles s r) (take_key a n) (settles-shapes s r w h) (λ k g. key-shapes w a n k g))
    by false = h

ending-taken : (s : Settings) (l : Lead) (a : ℕ) (n : Text) (w : List Place) → Stand l.frames w → KeyTaken w (ending_key s l a n)
ending-taken s l a n w h = by (contexts_by s l.spot l.place l.first l.held (look_at_key n ∷ []))
  where
    by : (x : Result Inside Fault) → KeyTaken w (if_decided x (λ i. run_key s (second_of l i) a n))
    by (Ok i) = key-taken s (second_of l i) a n w h
    by (Err f) = tt

-- then the first event of its value
value-goes : (s : Settings) (e : Event) (w : List Place) (g : Go) → BeginsValue e → KeyTaken w g → Goes (next_shape e (after_key ∷ w)) (then_go g (value_step s e))
unfolding Stands
value-goes s e w (Ok (q, at k)) f h = goes-before (next_shape e (after_key ∷ w)) q (at_step s e k) (at-goes s e k (after_key ∷ w) f h)
value-goes s e w (Ok (q, running_key r a n)) f h =
    let back : Tree → State = λ v. running (record r { phase = past r.phase r.inside n v; held = held_with r.held a n v }) in
    goes-before (next_shape e (after_key ∷ w)) q (takes e back) (takes-goes e (after_key ∷ w) back f (λ t. h))
value-goes s e w (Ok (q, z)) f h = absurd h
value-goes s e w (Err x) f h = tt

lead-goes : (s : Settings) (e : Event) (l : Lead) (w : List Place) → FitsMembers e → Stand l.frames w → Goes (next_shape e (between ∷ w)) (lead_step s e l)
unfolding Stands
lead-goes s (a_key a n) l w f h = by (nothing_held l.first l.held && is_context_name n) (may_lead (contexts_of s l.spot l.place l.first) n)
  where
    by : (x y : Bool) → Goes (after_key ∷ w) (elim x [
      | true ↦ Err (fault code.NotYet a)
      | false ↦ elim y [ true ↦ go (leading_key l a n) | false ↦ ending_key s l a n ]
    ])
    by true y = tt
    by false true = h
    by false false = taken-goes w (ending_key s l a n) (ending-taken s l a n w h)
lead-goes s closes l w f h = by (contexts_by s l.spot l.place l.first l.held [])
  where
    by : (x : Result Inside Fault) → Goes (ended w) (if_decided x (λ i. settle (then_goes (settles s (second_of l i)) close)))
    by (Ok i) = closing-goes s (second_of l i) w h
    by (Err x) = tt
lead-goes s e l w f h = absurd f

led-goes : (s : Settings) (e : Event) (l : Lead) (a : ℕ) (n : Text) (w : List Place) → BeginsValue e → Stand l.frames w → Goes (next_shape e (after_key ∷ w)) (key_step s e l a n)
unfolding Stands
led-goes s (a_scalar b v) l a n w f h = h
led-goes s (opens_array b) l a n w f h = by (may_type (contexts_of s l.spot l.place l.first) n)
  where
    by : (x : Bool) → Goes (in_array ∷ (after_key ∷ w)) (elim x [
      | true ↦ go (in_items b no_item (leads_with l a n))
      | false ↦ then_go (ending_key s l a n) (value_step s (opens_array b))
    ])
    by true = λ t. h
    by false = value-goes s (opens_array b) w (ending_key s l a n) tt (ending-taken s l a n w h)
led-goes s (opens_object b) l a n w f h = value-goes s (opens_object b) w (ending_key s l a n) tt (ending-taken s l a n w h)
led-goes s e l a n w f h = absurd f

run-goes : (s : Settings) (e : Event) (r : Second) (w : List Place) → FitsMembers e → Stand r.frames w → Goes (next_shape e (between ∷ w)) (run_step s e r)
run-goes s (a_key a n) r w f h = taken-goes w (run_key s r a n) (key-taken s r a n w h)
run-goes s closes r w f h = closing-goes s r w h
run-goes s e r w f h = absurd f

items-go : (e : Event) (b : ℕ) (xs : Trees) (back : Tree → State) (w : List Place) → FitsItems e → ((t : Tree) → Stands (back t) (ended w)) →
    Goes (next_shape e (in_array ∷ w)) (items_step e b xs back)
unfolding Stands
items-go closes b xs back w f h = h (array b xs)
items-go (a_scalar c v) b xs back w f h = λ t. h t
items-go (opens_array c) b xs back w f h = λ t u. h u
items-go (opens_object c) b xs back w f h = λ t u. h u
items-go (a_key a n) b xs back w f h = absurd f

members-go : (e : Event) (b : ℕ) (ms : Members) (back : Tree → State) (w : List Place) → FitsMembers e → ((t : Tree) → Stands (back t) (ended w)) →
    Goes (next_shape e (between ∷ w)) (members_step e b ms back)
unfolding Stands
members-go closes b ms back w f h = h (object b ms)
members-go (a_key a n) b ms back w f h = h
members-go e b ms back w f h = absurd f

step-goes : (s : Settings) (e : Event) (z : State) (w : List Place) → FitsShape w e → Stands z w → Goes (next_shape e w) (step s e z)
unfolding step Stands
step-goes s e (at k) w f h = at-goes s e k w f h
step-goes s e (leading l) (between ∷ w) f h = lead-goes s e l w f h
step-goes s e (leading_key l a n) (after_key ∷ w) f h = led-goes s e l a n w f h
step-goes s e (context_key l a n) (after_key ∷ w) f h = takes-goes e (after_key ∷ w) (λ v. leading (record l { first = member a n v no_member })) f (λ t. h)
step-goes s e (running r) (between ∷ w) f h = run-goes s e r w f h
step-goes s e (running_key r a n) (after_key ∷ w) f h =
    takes-goes e (after_key ∷ w) (λ v. running (record r { phase = past r.phase r.inside n v; held = held_with r.held a n v })) f (λ t. h)
step-goes s e (in_items b xs back) (in_array ∷ w) f h = items-go e b xs back w f h
step-goes s e (in_members b ms back) (between ∷ w) f h = members-go e b ms back w f h
step-goes s e (in_member b ms a n back) (after_key ∷ w) f h = takes-goes e (after_key ∷ w) (λ t. in_members b (held_with ms a n t) back) f (λ t. h)
step-goes s e z w f h = absurd h

-- ---- what may come by its shape fits the state

object-fit : (x : Expected) (y : Place) (w : List Place) (e : Event) → FitsShape (y ∷ w) e → ExpectsAt x y → FitsObject x e
object-fit x in_array w e f h = absurd h
object-fit no_value between w e f h = f
object-fit x between w e f h = absurd h
object-fit no_value after_key w e f h = absurd h
object-fit (property_value name iri) after_key w e f h = f
object-fit (keyword_value q a) after_key w e f h = f
object-fit dropped_value after_key w e f h = f

frames-fit : (k : List Frame) (w : List Place) (e : Event) → FitsShape w e → Stand k w → FitsFrames k e
frames-fit [] w e f h = absurd h
frames-fit (values p ∷ []) [] e f h = f
frames-fit (values p ∷ []) (x ∷ w) e f h = absurd h.1
frames-fit (values p ∷ (g ∷ k)) [] e f h = absurd h
frames-fit (values p ∷ (g ∷ k)) (in_array ∷ w) e f h = f
frames-fit (values p ∷ (g ∷ k)) (x ∷ w) e f h = absurd h.0
frames-fit (object_frame p i o ∷ k) [] e f h = absurd h
frames-fit (object_frame p i o ∷ k) (x ∷ w) e f h = object-fit o.expects x w e f h.0
frames-fit (types b n g place ∷ k) [] e f h = absurd h
frames-fit (types b n g place ∷ k) (in_array ∷ w) e f h = f
frames-fit (types b n g place ∷ k) (x ∷ w) e f h = absurd h.0
frames-fit (dropped ∷ k) w e f h = tt

state-fits : (z : State) (w : List Place) (e : Event) → FitsShape w e → Stands z w → Fits z e
unfolding Stands
state-fits (at k) w e f h = frames-fit k w e f h
state-fits (leading l) (between ∷ w) e f h = f
state-fits (leading_key l a n) (after_key ∷ w) e f h = f
state-fits (context_key l a n) (after_key ∷ w) e f h = f
state-fits (running r) (between ∷ w) e f h = f
state-fits (running_key r a n) (after_key ∷ w) e f h = f
state-fits (in_items b xs back) (in_array ∷ w) e f h = f
state-fits (in_members b ms back) (between ∷ w) e f h = f
state-fits (in_member b ms a n back) (after_key ∷ w) e f h = f
state-fits z w e f h = absurd h

-- ---- events one after another

-- where a run goes, this event fits its state
abbrev pub FitsAfter : Event → Go → Type 0
FitsAfter e (Ok (q, z)) = Fits z e
FitsAfter e (Err f) = Unit {0}

fits-before : (e : Event) (q : List Parts) (g : Go) → FitsAfter e g → FitsAfter e (before q g)
fits-before e q (Ok (more, z)) h = h
fits-before e q (Err f) h = tt

runs-fit : (s : Settings) (es more : List Event) (e : Event) (z : State) (w : List Place) → AllFit w (es ++ e ∷ more) → Stands z w → FitsAfter e (run s es z)
unfolding run
runs-fit s [] more e z w all h = state-fits z w e all.0 h
runs-fit s (x ∷ es) more e z w all h = by (step s x z) (λ y g. runs-fit s es more e y (next_shape x w) all.1 g) (step-goes s x z w all.0 h)
  where
    by : (g : Go) → ((y : State) → Stands y (next_shape x w) → FitsAfter e (run s es y)) → Goes (next_shape x w) g → FitsAfter e (then_go g (run s es))
    by (Ok (q, y)) next g = fits-before e q (run s es y) (next y g)
    by (Err f) next g = tt

-- an event of a document fits the state that those before it lead to
pub events-fit : (s : Settings) (t : Tree) (es more : List Event) (e : Event) (q : List Parts) (z : State) → s.order ≡ Streaming → tree_events t [] ≡ es ++ e ∷ more →
    run s es (at (start s)) ≡ Ok (q, z) → Fits z e
unfolding Stands
events-fit s t es more e q z order same r =
    let all : AllFit [] (es ++ e ∷ more) = subst (AllFit []) same (tree-fits t [] [] tt tt) in
    subst (FitsAfter e) r (runs-fit s es more e (at (start s)) [] all tt)
