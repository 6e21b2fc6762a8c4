-- An array or an object opens. An object enters with what its members decide: its contexts and its name, and whether it is a
-- value object.
use Rattle.std.specs.Prelude.{ℕ, Bool, true, false, not, ◌&&◌, List, [], ◌∷◌, Option, None, Result, Ok, Err}
use Rattle.jl_model.specs.JsonTree.{array, object, no_item, no_member}
use Rattle.jl_model.specs.declared.codes.Code.TheVariants as code
use Rattle.jl_model.specs.declared.faults.Fault.{Fault}
use Rattle.jl_model.specs.declared.terms.Term.{Term}
use Rattle.jl_model.specs.declared.graph_scopes.GraphScope.{GraphScope}
use Rattle.jl_defs.specs.Keys.{kind}
use Rattle.jl_defs.specs.ObjectContexts.{fault, Inside}
use Rattle.jl_defs.specs.Items.{Naming, by_graph}
use Rattle.jl_defs.specs.ValueObjects.{untyped, not_one}
use Rattle.jl_defs.specs.NodeMap.{term_of_node, graph_of}
use Rattle.jl_defs.specs.MemberFaults.{shape_faults}
use Rattle.jl_laws.specs.Spots.{Around, graphs, Spot, inside, moved}
use Rattle.jl_walk.specs.Phases.{Phase}
use Rattle.jl_walk.specs.Frames.{Expected, no_value, property_value, keyword_value, Object, Frame, values, object as object_frame, types, dropped, property_spot}
use Rattle.jl_walk.specs.Steps.{Step, quiet, unless_fault, if_built}

-- ---- an array

-- the items of an array at a spot
abbrev pub items_of : Spot → Frame
items_of p = values (moved p (inside p.role.around) p.head)

-- in an object an array is the values of a property, or types, or it is at fault or dropped
abbrev pub array_under : ℕ → Expected → Spot → Inside → Object → List Frame → Step
array_under at (property_value name iri) p i o k = quiet (items_of (property_spot i o name iri) ∷ (object_frame p i o ∷ k))
array_under at (keyword_value kind key_at) p i o k =
    quiet (types i.base o.subject o.scope key_at ∷ (object_frame p i (record o { types = not_one }) ∷ k))
array_under at (keyword_value q key_at) p i o k =
    unless_fault (shape_faults q false key_at (array at no_item)) (λ _. quiet (dropped ∷ (object_frame p i o ∷ k)))
array_under at e p i o k = quiet (dropped ∷ (object_frame p i o ∷ k))

-- an array opens
unfoldable pub open_array : ℕ → List Frame → Step
open_array at [] = quiet []
open_array at (values p ∷ k) = quiet (items_of p ∷ (values p ∷ k))
open_array at (object_frame p i o ∷ k) = array_under at o.expects p i o k
open_array at (types b n g key_at ∷ k) = Err (fault code.InvalidTypeValue key_at)
open_array at (dropped ∷ k) = quiet (dropped ∷ (dropped ∷ k))

-- ---- an object

-- what an object is as it enters; `valued` says that it is a value object, and `json` that its value is a JSON literal
pub record Entering : Type 0 where
  pub inside : Inside
  pub naming : Naming
  pub valued : Bool
  pub json : Bool
  pub phase : Phase

-- the graph in which a node's members stand
abbrev pub scope_of : Around → ℕ → GraphScope → GraphScope
scope_of graphs at scope = graph_of (term_of_node at by_graph)
scope_of around at scope = scope

-- the term that is linked: of a node in a graph of its own that graph
abbrev pub linked_by : Around → ℕ → Option Term → Option Term
linked_by graphs at n = term_of_node at by_graph
linked_by around at n = n

-- an object before its first member
abbrev pub fresh : Spot → ℕ → Entering → Object
fresh p at e = record {
  at = at;
  subject = elim e.valued [ true ↦ None | false ↦ term_of_node at e.naming ];
  scope = scope_of p.role.around at p.head.scope;
  entries = [];
  expects = no_value;
  phase = e.phase;
  value = None;
  types = untyped;
  language = None;
}

-- it enters at this spot
abbrev pub enter_at : Spot → ℕ → Result Entering Fault → List Frame → Step
enter_at p at (Ok e) k = if_built (not (e.valued && e.json)) at (λ _. quiet (object_frame p e.inside (fresh p at e) ∷ k))
enter_at p at (Err f) k = Err f

-- in an object an object is a value of a property, or it is at fault or dropped
abbrev pub object_under : ℕ → Expected → (Spot → Result Entering Fault) → Spot → Inside → Object → List Frame → Step
object_under at (property_value name iri) decided p i o k =
    enter_at (property_spot i o name iri) at (decided (property_spot i o name iri)) (object_frame p i o ∷ k)
object_under at (keyword_value q key_at) decided p i o k =
    unless_fault (shape_faults q false key_at (object at no_member)) (λ _. quiet (dropped ∷ (object_frame p i o ∷ k)))
object_under at e decided p i o k = quiet (dropped ∷ (object_frame p i o ∷ k))

-- an object enters, decided at its spot
unfoldable pub enter : ℕ → (Spot → Result Entering Fault) → List Frame → Step
enter at decided [] = quiet []
enter at decided (values p ∷ k) = enter_at p at (decided p) (values p ∷ k)
enter at decided (object_frame p i o ∷ k) = object_under at o.expects decided p i o k
enter at decided (types b n g key_at ∷ k) = Err (fault code.InvalidTypeValue key_at)
enter at decided (dropped ∷ k) = quiet (dropped ∷ (dropped ∷ k))
