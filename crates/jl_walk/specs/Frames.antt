-- The frames of the walk: one for each container that is open. A frame is the spot at which `says` stands there, and of an open
-- object also what it has said so far.
use Rattle.std.specs.Prelude.{ℕ, Bool, true, false, List, [], ◌∷◌, ◌++◌, Option, Some, None}
use Rattle.jl_model.specs.declared.scalars.Scalar.{Scalar}
use Rattle.jl_model.specs.declared.terms.Term.{Term}
use Rattle.jl_model.specs.declared.graph_scopes.GraphScope.{GraphScope}
use Rattle.jl_defs.specs.Texts.{Text}
use Rattle.jl_defs.specs.Context.{Context, term}
use Rattle.jl_defs.specs.Settings.{property_of}
use Rattle.jl_defs.specs.Keys.{Key, property}
use Rattle.jl_defs.specs.ObjectContexts.{Inside}
use Rattle.jl_defs.specs.ValueObjects.{ValueType}
use Rattle.jl_defs.specs.Kept.{own_member, if_key}
use Rattle.jl_defs.specs.Expansion.{is_plain_graph}
use Rattle.jl_defs.specs.Dataset.{Head}
use Rattle.jl_laws.specs.Spots.{Around, ordinary, graphs, linked, Spot, spot, moved}
use Rattle.jl_laws.specs.Says.{property_head}
use Rattle.jl_walk.specs.Phases.{Phase}

-- what the value of the key read last is: a key is decided once, and this is all that is kept of it
pub data Expected : Type 0 where
  no_value : Expected
  -- of a property: the term as written, and as expanded
  property_value : (name : Text) → (iri : Text) → Expected
  -- of a keyword that takes a scalar, or of `@type`; the key stands at this place
  keyword_value : (key : Key) → (at : ℕ) → Expected
  dropped_value : Expected

-- what an open object has said so far
pub record Object : Type 0 where
  pub at : ℕ
  -- its node, of which a value object has none, and the graph in which its members stand
  pub subject : Option Term
  pub scope : GraphScope
  -- the keys that have put an entry
  pub entries : List Key
  pub expects : Expected
  pub phase : Phase
  -- of a value object: its value with its place, its types and its language
  pub value : Option (ℕ × Scalar)
  pub types : ValueType
  pub language : Option Text

-- a container that is open
pub data Frame : Type 0 where
  -- the document, or an array of values: where its next item hangs
  values : (spot : Spot) → Frame
  -- an object at its spot, with its contexts
  object : (spot : Spot) → (inside : Inside) → (said : Object) → Frame
  -- an array under `@type` of this node; the key stands at this place
  types : (base : Context) → (subject : Option Term) → (scope : GraphScope) → (at : ℕ) → Frame
  -- what is dropped, with all inside it
  dropped : Frame

-- the values of a container with `@graph` stand in graphs of their own
abbrev pub around_by : Bool → Around
around_by true = graphs
around_by false = ordinary

-- the spot of a property's values
abbrev pub property_spot : Inside → Object → Text → Text → Spot
property_spot i o name iri =
    spot i.final (property_of name) (around_by (is_plain_graph (term i.final name))) linked
    (property_head own_member (term i.final name) iri o.subject o.scope)

-- only the value of a property has a spot
abbrev pub spot_under : Inside → Object → Expected → Option Spot
spot_under i o (property_value name iri) = Some (property_spot i o name iri)
spot_under i o e = None

-- the spot of the value that comes next, where one may stand there
abbrev pub spot_in : Frame → Option Spot
spot_in (values p) = Some p
spot_in (object p i o) = spot_under i o o.expects
spot_in f = None

-- the entry of a property, where its value is kept
abbrev pub its_entry : Expected → Bool → List Key
its_entry (property_value name iri) kept = if_key kept (property iri ∷ [])
its_entry e kept = []

-- an object after the value of its key
abbrev pub after_value : Bool → Object → Object
after_value kept o = record o { entries = o.entries ++ its_entry o.expects kept; expects = no_value }

-- a value has ended: whether it is kept, and where the next one hangs
abbrev pub told : Bool → Head → Frame → Frame
told kept h (values p) = values (moved p p.role.around h)
told kept h (object p i o) = object p i (after_value kept o)
told kept h (types b n g at) = types b n g at
told kept h dropped = dropped
