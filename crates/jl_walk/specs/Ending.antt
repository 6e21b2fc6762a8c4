-- A container closes. An object is judged by what it has said, and hangs where its spot says (JSON-LD 1.1 API, section 5.1.2,
-- steps 15 to 18).
use Rattle.std.specs.Prelude.{ℕ, Bool, true, false, not, ◌&&◌, List, [], ◌∷◌, Option, Some, None, Ok}
use Rattle.jl_model.specs.JsonTree.{Tree, scalar}
use Rattle.jl_model.specs.declared.scalars.Scalar.{Scalar}
use Rattle.jl_model.specs.declared.codes.Code.TheVariants as code
use Rattle.jl_model.specs.declared.faults.Fault.{Fault}
use Rattle.jl_defs.specs.Texts.{Text}
use Rattle.jl_defs.specs.Settings.{Under, drops}
use Rattle.jl_defs.specs.Keys.{is_value, is_kind}
use Rattle.jl_defs.specs.ObjectContexts.{fault, Inside}
use Rattle.jl_defs.specs.Values.{Valued, left_out}
use Rattle.jl_defs.specs.ValueObjects as objects
use Rattle.jl_defs.specs.ValueObjects.{ValueType, is_null, object_value, unless_refused}
use Rattle.jl_defs.specs.Kept.{any_key, is_only_language}
use Rattle.jl_defs.specs.Dataset.{term_of_value}
use Rattle.jl_defs.specs.LateKeys.{if_so}
use Rattle.jl_defs.specs.MemberFaults.{is_value_form, or_else, language_closing, closing_number, has_iri}
use Rattle.jl_laws.specs.Spots.{Spot, Said, nothing, value_says, hangs}
use Rattle.jl_walk.specs.Frames.{no_value, Object, Frame, values, object as object_frame, types, dropped, told}
use Rattle.jl_walk.specs.Steps.{Step, quiet, unless_fault}
use Rattle.jl_walk.specs.Opening.{linked_by}

-- the value of a value object
abbrev pub its_value : Object → Option Tree
its_value o = by o.value
  where
    by : Option (ℕ × Scalar) → Option Tree
    by None = None
    by (Some (at, v)) = Some (scalar at v)

-- what a value object gives
abbrev pub valued_in : ValueType → Option Text → Option Tree → Valued
valued_in t l None = left_out
valued_in t l (Some v) = object_value t l v

-- the same with its types and its language
abbrev pub its_valued : Object → Valued
its_valued o = valued_in o.types o.language (its_value o)

-- a value object is kept, unless it is dropped or its value is null
abbrev pub keeps_value : Under → Object → Bool
keeps_value under o = not (drops under) && not (is_null (its_value o))

-- a type is one IRI
abbrev pub types_closing : Object → List Fault
types_closing o = if_so (any_key is_kind o.entries && not (has_iri (objects.type_iri o.types))) (fault code.InvalidTypedValue o.at ∷ [])

-- what is wrong with an object as it closes
abbrev pub closing_of : Under → Inside → Object → List Fault
closing_of under i o =
    if_so (any_key is_value o.entries)
    (or_else (if_so (not (is_value_form o.entries)) (fault code.InvalidValueObject o.at ∷ []))
    (if_so (not (is_null (its_value o)))
    (or_else (language_closing o.at o.entries (its_value o)) (or_else (types_closing o) (closing_number under i (its_valued o) (its_value o))))))

-- whether an object is kept
abbrev pub is_kept : Under → Object → Bool
is_kept under o = elim (any_key is_value o.entries) [ true ↦ keeps_value under o | false ↦ not (is_only_language o.entries) ]

-- what it says at its end: where it is kept it hangs on the node of its spot
abbrev pub said_at_end : Spot → Object → Said
said_at_end p o =
    elim (is_kept p.under o) [
      | true ↦ elim (any_key is_value o.entries) [
        | true ↦ value_says p.role.around p.role.hanging o.at (term_of_value (unless_refused (its_valued o))) p.head
        | false ↦ hangs p.role.hanging o.at (linked_by p.role.around o.at o.subject) p.head
      ]
      | false ↦ nothing p.head
    ]

-- an object tells the frame round it
abbrev pub close_object : Spot → Inside → Object → List Frame → Step
close_object p i o [] = quiet []
close_object p i o (f ∷ k) =
    unless_fault (closing_of p.under i o) (λ _. Ok ((said_at_end p o).0, told (is_kept p.under o) (said_at_end p o).1 f ∷ k))

-- an object after the array of its types, or after a value that is dropped
abbrev pub rested : Frame → Frame
rested (object_frame p i o) = object_frame p i (record o { expects = no_value })
rested f = f

-- the frame round an array of types, or round what was dropped
abbrev pub rest_in : List Frame → List Frame
rest_in [] = []
rest_in (f ∷ k) = rested f ∷ k

-- an array is kept, with items and without
abbrev pub close_values : Spot → List Frame → Step
close_values p [] = quiet []
close_values p (f ∷ k) = quiet (told true p.head f ∷ k)

-- the container on top closes
unfoldable pub close : List Frame → Step
close [] = quiet []
close (values p ∷ k) = close_values p k
close (object_frame p i o ∷ k) = close_object p i o k
close (types b n g at ∷ k) = quiet (rest_in k)
close (dropped ∷ k) = quiet (rest_in k)
