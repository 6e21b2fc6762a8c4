-- A scalar comes: a value at its spot, a part of its object, or a type.
use Rattle.std.specs.Prelude.{ℕ, false, List, [], ◌∷◌, Some, Ok, Err}
use Rattle.jl_model.specs.JsonTree.{scalar}
use Rattle.jl_model.specs.Parts.{Parts}
use Rattle.jl_model.specs.declared.scalars.Scalar.{Scalar}
use Rattle.jl_model.specs.declared.scalars.Scalar.TheVariants.{Str}
use Rattle.jl_model.specs.declared.codes.Code.TheVariants as code
use Rattle.jl_defs.specs.Settings.{Settings}
use Rattle.jl_defs.specs.Keys.{Key, kind, value, language}
use Rattle.jl_defs.specs.ObjectContexts.{fault, Inside}
use Rattle.jl_defs.specs.ValueObjects.{ValueType, untyped, typed_by, not_one, expand_type}
use Rattle.jl_defs.specs.Kept.{scalar_gives}
use Rattle.jl_defs.specs.MemberFaults.{shape_faults}
use Rattle.jl_defs.specs.Faults.{scalar_faults}
use Rattle.jl_laws.specs.Spots.{Spot}
use Rattle.jl_laws.specs.Says.{scalar_at, type_says}
use Rattle.jl_walk.specs.Frames.{Expected, no_value, property_value, keyword_value, Object, Frame, values, object as object_frame, types, dropped, property_spot, told}
use Rattle.jl_walk.specs.Steps.{Step, quiet, unless_fault}

-- at a spot it says what `says` says there
abbrev pub hang_scalar : Settings → Spot → ℕ → Scalar → Frame → List Frame → Step
hang_scalar s q at v f k =
    unless_fault (scalar_faults s q.context q.under at v)
    (λ _. Ok ((scalar_at s q q.under at v).0, told (scalar_gives q.under v) (scalar_at s q q.under at v).1 f ∷ k))

-- one more type of an object
abbrev pub another : ValueType → ValueType → ValueType
another untyped t = t
another t u = not_one

-- a type is one string
abbrev pub type_of : Inside → Scalar → ValueType
type_of i (Str text) = typed_by (expand_type i.base text)
type_of i v = not_one

-- an object with the scalar of its keyword
abbrev pub with_part : Key → Inside → ℕ → Scalar → Object → Object
with_part kind i at v o = record o { types = another o.types (type_of i v); expects = no_value }
with_part value i at v o = record o { value = Some (at, v); expects = no_value }
with_part language i at (Str text) o = record o { language = Some text; expects = no_value }
with_part q i at v o = record o { expects = no_value }

-- the quads of its type
abbrev pub types_of : Key → Inside → Scalar → Object → List Parts
types_of kind i (Str text) o = type_says o.subject o.scope (expand_type i.base text)
types_of q i v o = []

-- in an object a scalar is a value of a property, or of a keyword, or it is dropped
abbrev pub scalar_under : Settings → ℕ → Scalar → Expected → Spot → Inside → Object → List Frame → Step
scalar_under s at v (property_value name iri) p i o k = hang_scalar s (property_spot i o name iri) at v (object_frame p i o) k
scalar_under s at v (keyword_value q key_at) p i o k =
    unless_fault (shape_faults q false key_at (scalar at v))
    (λ _. Ok (types_of q i v o, object_frame p i (with_part q i at v o) ∷ k))
scalar_under s at v e p i o k = quiet (object_frame p i (record o { expects = no_value }) ∷ k)

-- in an array under `@type`
abbrev pub type_item : Scalar → ℕ → Frame → List Frame → Step
type_item (Str text) at (types b n g key_at) k = Ok (type_says n g (expand_type b text), types b n g key_at ∷ k)
type_item v at f k = Err (fault code.InvalidTypeValue at)

-- a scalar on these frames
unfoldable pub take_scalar : Settings → ℕ → Scalar → List Frame → Step
take_scalar s at v [] = quiet []
take_scalar s at v (values p ∷ k) = hang_scalar s p at v (values p) k
take_scalar s at v (object_frame p i o ∷ k) = scalar_under s at v o.expects p i o k
take_scalar s at v (types b n g key_at ∷ k) = type_item v key_at (types b n g key_at) k
take_scalar s at v (dropped ∷ k) = quiet (dropped ∷ k)
