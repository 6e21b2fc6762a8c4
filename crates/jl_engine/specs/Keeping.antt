-- How what the reader keeps stands for a state of the walk. It keeps less: no spots, but for what the containers round them tell; of
-- an object's entries marks; of a held object the list of its events, and what they show.
use Rattle.std.specs.Prelude.{◌≡◌, ℕ, zero, suc, Bool, true, false, ◌&&◌, List, [], ◌∷◌, ◌++◌, Option, Some, None, is_some, Ok, Err, codes, bytes_eq}
use Rattle.jl_model.specs.JsonTree.{Tree, scalar, array, object, Trees, no_item, item, Members, no_member, member}
use Rattle.jl_model.specs.declared.orders.Order.TheVariants.{Streaming}
use Rattle.jl_defs.specs.Texts.{Text}
use Rattle.jl_defs.specs.Trees.{string_of}
use Rattle.jl_defs.specs.Context.{Context, initial}
use Rattle.jl_defs.specs.Settings.{Settings}
use Rattle.jl_defs.specs.Keys.{key_of, is_leading, is_id, is_kind, is_value}
use Rattle.jl_defs.specs.ObjectContexts.{is_in_prelude, last_string}
use Rattle.jl_defs.specs.ValueObjects as objects
use Rattle.jl_defs.specs.ValueObjects.{first_with}
use Rattle.jl_defs.specs.Expansion.{naming}
use Rattle.jl_prelude.specs.Classes.{class_of}
use Rattle.jl_laws.specs.Spots.{Spot}
use Rattle.jl_frames.specs.Formed.{formed}
use Rattle.jl_frames.specs.declared.states.StackState.{StackState}
use Rattle.jl_walk.specs.Phases.{Phase, any_time, at_start, in_lead, in_run, in_rest, prelude_length}
use Rattle.jl_walk.specs.Frames.{Frame, values, object as object_frame, types, dropped}
use Rattle.jl_walk.specs.Fits.{Fits}
use Rattle.jl_walk.specs.Running as walk
use Rattle.jl_walk.specs.Running.{top_spot, leads_with}
use Rattle.jl_walk.specs.States as states
use Rattle.jl_walk.specs.States.{Second, State, at, leading, leading_key, context_key, running, running_key, in_items, in_members, in_member, Go}
use Rattle.jl_engine.specs.Leads.{naming_shown}
use Rattle.jl_engine.specs.Reading.{Read, step}
use Rattle.jl_engine.specs.TreeEvents.{walked}
use Rattle.jl_engine.specs.KeepsFrames.{KeepsFrames, IsPlainInside}
use Rattle.jl_engine.specs.declared.events.Event.{Event}
use Rattle.jl_engine.specs.declared.events.Event.TheVariants as events
use Rattle.jl_engine.specs.declared.leads.Lead.{Lead}
use Rattle.jl_engine.specs.declared.leads.LeadPart.{LeadPart}
use Rattle.jl_engine.specs.declared.leads.LeadPart.TheVariants as parts
use Rattle.jl_engine.specs.declared.leads.LeadSpot.{LeadSpot}
use Rattle.jl_engine.specs.declared.leads.LeadSpot.TheVariants as spots
use Rattle.jl_engine.specs.declared.readers.Reader.{Reader}

-- ---- the open containers, but for an object that is held

-- each open object is in its rest
abbrev pub IsResting : Frame → Type 0
IsResting (object_frame p i o) = o.phase ≡ in_rest
IsResting (values p) = Unit {0}
IsResting (types b n g place) = Unit {0}
IsResting dropped = Unit {0}

abbrev pub AllRest : List Frame → Type 0
AllRest [] = Unit {0}
AllRest (f ∷ k) = IsResting f × AllRest k

-- an object is held that stands at this spot
pub record StandsAt (s : Settings) (p : Spot) (k : List Frame) (st : StackState) : Type 0 where
  pub top : top_spot k ≡ Some p
  pub keeps : KeepsFrames s k st
  pub rests : AllRest k

-- ---- what the members of an object show that are held

-- the last string of a type
abbrev pub last_of : Tree → Option Text
last_of (scalar b v) = string_of (scalar b v)
last_of (array b xs) = last_string xs
last_of (object b ms) = None

abbrev pub json_text : Option Text → Bool
json_text None = false
json_text (Some text) = bytes_eq text (codes "@json")

-- the first type is `@json`
abbrev pub json_first : Option Tree → Bool
json_first None = false
json_first (Some v) = json_text (last_of v)

pub record Shows (c : Context) (ms : Members) (m : Lead) : Type 0 where
  pub named : m.named ≡ is_some (first_with is_id c ms)
  pub name : naming_shown m.name ≡ naming c ms
  pub valued : m.valued ≡ is_some (first_with is_value c ms)
  pub json : m.json ≡ json_first (first_with is_kind c ms)

-- ---- the events of members that are held

-- the events of types, up to one that is a container: what follows this doesn't matter
abbrev pub Told : Trees → List Event → Type 0
Told no_item es = es ≡ []
Told (item (scalar b v) rest) es = (more : List Event) × ((es ≡ events.Value b v ∷ more) × Told rest more)
Told (item (array b xs) rest) es = (more : List Event) × (es ≡ events.OpensArray b ∷ more)
Told (item (object b ms) rest) es = (more : List Event) × (es ≡ events.OpensObject b ∷ more)

-- the events of a member whose value is an array: what follows doesn't matter, where it isn't one of types
abbrev pub HeldArray : Bool → ℕ → Text → ℕ → Trees → (List Event → Type 0) → List Event → Type 0
HeldArray true a n b xs next es =
    (own : List Event) × ((more : List Event) × ((es ≡ events.Key a n ∷ (events.OpensArray b ∷ (own ++ events.Closes ∷ more))) × (Told xs own × next more)))
HeldArray false a n b xs next es = (more : List Event) × (es ≡ events.Key a n ∷ (events.OpensArray b ∷ more))

-- the events of members, up to one at which the object stops whatever follows
abbrev pub Held : Context → Members → List Event → Type 0
Held c no_member es = es ≡ []
Held c (member a n (scalar b v) rest) es = (more : List Event) × ((es ≡ events.Key a n ∷ (events.Value b v ∷ more)) × Held c rest more)
Held c (member a n (array b xs) rest) es = HeldArray (is_kind (key_of c n)) a n b xs (Held c rest) es
Held c (member a n (object b ms) rest) es = (more : List Event) × (es ≡ events.Key a n ∷ (events.OpensObject b ∷ more))

-- each key leads
abbrev pub KeysLead : Context → Members → Type 0
KeysLead c no_member = Unit {0}
KeysLead c (member a n v rest) = (is_leading (key_of c n) ≡ true) × KeysLead c rest

-- each member stands in the prelude
abbrev pub all_lead : Context → Members → Bool
all_lead c no_member = true
all_lead c (member a n v rest) = is_in_prelude (c ∷ []) n v && all_lead c rest

-- ---- an object that is held

abbrev pub lead_by : ℕ → List Event → LeadPart → LeadSpot → Lead → Lead
lead_by place es part spot m = record m { at = place; held = es; part = part; spot = spot }

abbrev pub reader_by : StackState → Lead → Reader
reader_by st m = record { stack = st; lead = Some m }

-- in its prelude
pub record KeepsLead (s : Settings) (l : states.Lead) (es : List Event) (m : Lead) (st : StackState) : Type 0 where
  pub stands : StandsAt s l.spot l.frames st
  pub first : l.first ≡ no_member
  pub held : Held (initial s.base) l.held es
  pub keys : KeysLead (initial s.base) l.held
  pub leads : all_lead (initial s.base) l.held ≡ true
  pub shows : Shows (initial s.base) l.held m
  pub typed : m.typed ≡ is_some (first_with is_kind (initial s.base) l.held)

-- in its second run, which begins with a member at which it stops once it has entered
pub record KeepsRun (s : Settings) (q : Second) (es : List Event) (m : Lead) (st : StackState) : Type 0 where
  pub stands : StandsAt s q.spot q.frames st
  pub plain : IsPlainInside s q.inside
  pub start : q.start ≡ at_start (prelude_length (initial s.base ∷ []) q.held)
  pub held : Held (initial s.base) q.held es
  pub keys : KeysLead (initial s.base) q.held
  pub stops : all_lead (initial s.base) q.held ≡ false
  pub shows : Shows (initial s.base) q.held m
  pub input : objects.is_json q.inside.input ≡ json_first (first_with is_kind (initial s.base) q.held)

-- the second run goes on, or is over
abbrev pub PartIs : Phase → LeadPart → Type 0
PartIs in_run part = part ≡ parts.Run
PartIs in_rest part = part ≡ parts.Over
PartIs any_time part = ⊥
PartIs (at_start left) part = ⊥
PartIs (in_lead left) part = ⊥

-- ---- a state

-- between values: no object is held, or one between its members or after a key
abbrev pub Between : Settings → State → Reader → Type 0
Between s (at k) r = (st : StackState) × ((r ≡ record { stack = st; lead = None }) × (KeepsFrames s k st × AllRest k))
Between s (leading l) r =
    (st : StackState) × ((es : List Event) × ((m : Lead) × ((r ≡ reader_by st (lead_by l.place es parts.Prelude spots.Between m)) × KeepsLead s l es m st)))
Between s (leading_key l a n) r =
    (st : StackState) × ((es : List Event) × ((m : Lead) × (
    (r ≡ reader_by st (lead_by l.place (es ++ events.Key a n ∷ []) parts.Prelude (spots.After (class_of (key_of (initial s.base) n))) m))
    × (KeepsLead s l es m st × (is_leading (key_of (initial s.base) n) ≡ true)))))
Between s (running q) r =
    (st : StackState) × ((es : List Event) × ((m : Lead) × ((part : LeadPart) × (
    (r ≡ reader_by st (lead_by q.place es part spots.Between m)) × (KeepsRun s q es m st × PartIs q.phase part)))))
Between s (running_key q a n) r =
    (st : StackState) × ((es : List Event) × ((m : Lead) × (
    (r ≡ reader_by st (lead_by q.place (es ++ events.Key a n ∷ []) parts.Run (spots.After (class_of (key_of (initial s.base) n))) m))
    × (KeepsRun s q es m st × ((q.phase ≡ in_run) × ((is_leading (key_of (initial s.base) n) ≡ true) × (is_kind (key_of (initial s.base) n) ≡ false)))))))
Between s z r = ⊥

-- in the array of types of a leading member
pub record InTypes (s : Settings) (z : State) (r : Reader) : Type 0 where
  pub lead : states.Lead
  pub key_at : ℕ
  pub key : Text
  pub place : ℕ
  pub items : Trees
  pub stack : StackState
  pub held : List Event
  pub own : List Event
  pub shown : Lead
  pub state : z ≡ in_items place items (leads_with lead key_at key)
  pub reader : r ≡ reader_by stack (lead_by lead.place (held ++ events.Key key_at key ∷ (events.OpensArray place ∷ own)) parts.Prelude (spots.InTypes zero (json_text (last_string items))) shown)
  pub keeps : KeepsLead s lead held shown stack
  pub kind : is_kind (key_of (initial s.base) key) ≡ true
  pub told : Told items own

-- inside a value that is held whole, so many containers deep: once it has closed, this holds of the state
abbrev pub InsideAt : (State → Type 0) → ℕ → State → Type 0
InsideAt P zero (in_items b xs back) = (ys : Trees) → P (back (array b ys))
InsideAt P zero (in_members b ms back) = (ns : Members) → P (back (object b ns))
InsideAt P zero (in_member b ms a n back) = (ns : Members) → P (back (object b ns))
InsideAt P (suc d) (in_items b xs back) = (t : Tree) → InsideAt P d (back t)
InsideAt P (suc d) (in_members b ms back) = (t : Tree) → InsideAt P d (back t)
InsideAt P (suc d) (in_member b ms a n back) = (t : Tree) → InsideAt P d (back t)
InsideAt P d z = ⊥

-- in a container among types
pub record DeepInTypes (s : Settings) (depth : ℕ) (z : State) (r : Reader) : Type 0 where
  pub stack : StackState
  pub place : ℕ
  pub held : List Event
  pub shown : Lead
  pub reader : r ≡ reader_by stack (lead_by place held parts.Prelude (spots.InTypes (suc depth) false) shown)
  pub closing : InsideAt (λ y. (more : List Event) → InTypes s y (reader_by stack (lead_by place (held ++ more) parts.Prelude (spots.InTypes zero false) shown))) depth z

-- in a value of the second run
pub record InRun (s : Settings) (depth : ℕ) (z : State) (r : Reader) : Type 0 where
  pub stack : StackState
  pub place : ℕ
  pub held : List Event
  pub part : LeadPart
  pub shown : Lead
  pub reader : r ≡ reader_by stack (lead_by place held part (spots.Inside depth) shown)
  pub closing : InsideAt (λ y. Between s y (reader_by stack (lead_by place (held ++ events.Closes ∷ []) part spots.Between shown))) depth z

-- the reader stands for the state
pub data Keeps (s : Settings) (z : State) (r : Reader) : Type 0 where
  between : Between s z r → Keeps s z r
  in_types : InTypes s z r → Keeps s z r
  deep_in_types : (depth : ℕ) → DeepInTypes s depth z r → Keeps s z r
  in_run_value : (depth : ℕ) → InRun s depth z r → Keeps s z r

-- the reader does what the walk does: it brings the quads that are well-formed, and keeps its state; or it stops at the same fault
abbrev pub Agrees : Settings → Go → Read → Type 0
Agrees s (Ok (quads, z)) t = (r : Reader) × ((t ≡ Ok (formed quads, r)) × Keeps s z r)
Agrees s (Err f) t = t ≡ Err f

-- one event
abbrev pub StepsKeep : Type 0
StepsKeep =
    (s : Settings) (e : Event) (z : State) (r : Reader) → s.order ≡ Streaming → Keeps s z r → Fits z (walked e) →
    Agrees s (walk.step s (walked e) z) (step (initial s.base) e r)
