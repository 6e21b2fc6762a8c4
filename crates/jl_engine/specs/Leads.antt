-- An object that is held: what its leading members show of it, and whether an event is held with them.
use Rattle.std.specs.Prelude.{◌≡◌, ℕ, zero, suc, Bool, true, false, ◌&&◌, List, [], ◌∷◌, Option, Some, None, codes, bytes_eq}
use Rattle.jl_model.specs.declared.scalars.Scalar.{Scalar}
use Rattle.jl_model.specs.declared.scalars.Scalar.TheVariants.{Str}
use Rattle.jl_model.specs.declared.codes.Code.TheVariants as code
use Rattle.jl_model.specs.declared.faults.Fault.{Fault}
use Rattle.jl_model.specs.declared.expansions.Expanded.{Expanded}
use Rattle.jl_model.specs.declared.graph_scopes.GraphScope.TheVariants.{Main}
use Rattle.jl_defs.specs.Texts.{Text}
use Rattle.jl_defs.specs.Context.{Context}
use Rattle.jl_defs.specs.IriExpansion.{expand_iri}
use Rattle.jl_defs.specs.Keys.{key_of}
use Rattle.jl_defs.specs.ObjectContexts.{fault, is_context_name}
use Rattle.jl_defs.specs.Items.{Naming, by_object}
use Rattle.jl_defs.specs.NodeMap.{term_of_node}
use Rattle.jl_defs.specs.Expansion.{naming_by}
use Rattle.jl_prelude.specs.declared.classes.Class.{Class}
use Rattle.jl_prelude.specs.declared.classes.Class.TheVariants as class
use Rattle.jl_prelude.specs.Classes.{class_of}
use Rattle.jl_frames.specs.declared.facts.Frame.{Frame}
use Rattle.jl_frames.specs.declared.roles.Role.TheVariants as role
use Rattle.jl_engine.specs.declared.events.Event.{Event}
use Rattle.jl_engine.specs.declared.events.Event.TheVariants as events
use Rattle.jl_engine.specs.declared.leads.Admit.{Admit}
use Rattle.jl_engine.specs.declared.leads.Admit.TheVariants as admit
use Rattle.jl_engine.specs.declared.leads.Lead.{Lead}
use Rattle.jl_engine.specs.declared.leads.LeadPart.{LeadPart}
use Rattle.jl_engine.specs.declared.leads.LeadPart.TheVariants as parts
use Rattle.jl_engine.specs.declared.leads.LeadSpot.{LeadSpot}
use Rattle.jl_engine.specs.declared.leads.LeadSpot.TheVariants as spots

-- an object that has just opened
abbrev pub begun : ℕ → Lead
begun at = record { at = at; held = []; name = None; named = false; valued = false; json = false; typed = false; part = parts.Prelude; spot = spots.Between }

-- what an event does in it
pub data Admits : Type 0 where
  -- the event is held, after this is noted
  holds : (lead : Lead) → Admits
  -- it is inside a value that is at fault whatever stands in it: this is noted, and the event isn't held
  drops : (lead : Lead) → Admits
  -- the object is decided before the event
  decides : Admits
  refuses : (f : Fault) → Admits

-- ---- a key

-- a key with which the part of the object goes on
abbrev pub goes_on : LeadPart → Class → Bool
goes_on parts.Prelude class.Other = false
goes_on parts.Prelude k = true
goes_on parts.Run class.Other = false
goes_on parts.Run class.Kind = false
goes_on parts.Run k = true
goes_on parts.Over k = false

abbrev pub key_by : Class → Lead → Admits
key_by k l = elim (goes_on l.part k) [ true ↦ holds (record l { spot = spots.After k }) | false ↦ decides ]

abbrev pub is_empty : {A : Type 0} → List A → Bool
is_empty [] = true
is_empty (x ∷ xs) = false

-- a context of its own isn't built
abbrev pub key_between : Context → ℕ → Text → Lead → Admits
key_between c at n l = elim (is_empty l.held && is_context_name n) [
  | true ↦ refuses (fault code.NotYet at)
  | false ↦ key_by (class_of (key_of c n)) l
]

abbrev pub key_at : LeadSpot → Context → ℕ → Text → Lead → Admits
key_at (spots.InTypes n last) c at name l = holds l
key_at (spots.Inside n) c at name l = drops l
key_at spot c at name l = key_between c at name l

-- ---- a scalar

-- whether a scalar is the type `@json`
abbrev pub is_json : Scalar → Bool
is_json (Str text) = bytes_eq text (codes "@json")
is_json v = false

abbrev pub name_of : Context → Scalar → Option Expanded
name_of c (Str text) = Some (expand_iri c text false true)
name_of c v = None

-- only the first of such members shows it
abbrev pub first_of : {A : Type 0} → Bool → A → A → A
first_of true old new = old
first_of false old new = new

abbrev pub named : Option Expanded → Lead → Lead
named name l = record l { name = first_of l.named l.name name; named = true }

abbrev pub typed : Bool → Lead → Lead
typed json l = record l { json = first_of l.typed l.json json; typed = true }

-- what the scalar of a leading member shows
abbrev pub shows : Context → Class → Scalar → Lead → Lead
shows c class.Identifier v l = named (name_of c v) (record l { spot = spots.Between })
shows c class.Kind v l = typed (is_json v) (record l { spot = spots.Between })
shows c class.Value v l = record l { valued = true; spot = spots.Between }
shows c k v l = record l { spot = spots.Between }

abbrev pub scalar_at : LeadSpot → Context → Scalar → Lead → Lead
scalar_at (spots.After k) c v l = shows c k v l
scalar_at (spots.InTypes zero last) c v l = record l { spot = spots.InTypes zero (is_json v) }
scalar_at spot c v l = l

abbrev pub scalar_in : LeadSpot → Context → Scalar → Lead → Admits
scalar_in (spots.Inside n) c v l = drops l
scalar_in spot c v l = holds (scalar_at spot c v l)

-- ---- a container

-- an array or an object as the value of a key, unless it is one of types: the second run begins, or goes on; under `@value` the
-- object is a value object, and the run is over. Such a value is at fault, or a JSON literal, which isn't built: so what stands in it
-- isn't held
abbrev pub opens_whole : Class → Lead → Admits
opens_whole class.Value l = holds (record l { valued = true; part = parts.Over; spot = spots.Inside zero })
opens_whole class.Identifier l = holds (named None (record l { part = parts.Run; spot = spots.Inside zero }))
opens_whole k l = holds (record l { part = parts.Run; spot = spots.Inside zero })

abbrev pub array_at : LeadSpot → Lead → Admits
array_at (spots.After class.Kind) l = holds (record l { spot = spots.InTypes zero false })
array_at (spots.After k) l = opens_whole k l
array_at (spots.InTypes n last) l = holds (record l { spot = spots.InTypes (suc n) false })
array_at (spots.Inside n) l = drops (record l { spot = spots.Inside (suc n) })
array_at spots.Between l = decides

abbrev pub object_at : LeadSpot → Lead → Admits
object_at (spots.After k) l = opens_whole k l
object_at (spots.InTypes n last) l = holds (record l { spot = spots.InTypes (suc n) false })
object_at (spots.Inside n) l = drops (record l { spot = spots.Inside (suc n) })
object_at spots.Between l = decides

abbrev pub close_at : LeadSpot → Lead → Admits
close_at (spots.InTypes zero last) l = holds (typed last (record l { spot = spots.Between }))
close_at (spots.InTypes (suc n) last) l = holds (record l { spot = spots.InTypes n last })
close_at (spots.Inside zero) l = holds (record l { spot = spots.Between })
close_at (spots.Inside (suc n)) l = drops (record l { spot = spots.Inside n })
close_at spot l = decides

-- an event
abbrev pub admits : Context → Event → Lead → Admits
admits c (events.OpensObject at) l = object_at l.spot l
admits c (events.OpensArray at) l = array_at l.spot l
admits c events.Closes l = close_at l.spot l
admits c (events.Key at n) l = key_at l.spot c at n l
admits c (events.Value at v) l = scalar_in l.spot c v l

-- the answer of the code, and what it leaves
abbrev pub Answers : Admit → Lead → Lead → Admits → Type 0
Answers admit.Held old new a = a ≡ holds new
Answers admit.Dropped old new a = a ≡ drops new
Answers admit.Decides old new a = (a ≡ decides) × (new ≡ old)
Answers (admit.Refused f) old new a = a ≡ refuses f

-- ---- how it enters

abbrev pub naming_shown : Option Expanded → Naming
naming_shown None = by_object
naming_shown (Some e) = naming_by e

abbrev pub frame_by : ℕ → Option Expanded → Bool → Frame
frame_by at name valued = record {
  at = at;
  role = role.Object;
  subject = elim valued [ true ↦ None | false ↦ term_of_node at (naming_shown name) ];
  scope = Main;
  valued = valued;
}
