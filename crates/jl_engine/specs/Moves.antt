-- What an event does where no object is held: it is told to the stack, with its text expanded.
use Rattle.std.specs.Prelude.{◌≡◌, ℕ, Bool, true, false, List, [], ◌∷◌, ◌++◌, None, Result, Ok, Err}
use Rattle.jl_model.specs.Parts.{Parts}
use Rattle.jl_model.specs.declared.scalars.Scalar.{Scalar}
use Rattle.jl_model.specs.declared.scalars.Scalar.TheVariants.{Null, Str}
use Rattle.jl_model.specs.declared.codes.Code.TheVariants as code
use Rattle.jl_model.specs.declared.faults.Fault.{Fault}
use Rattle.jl_model.specs.declared.expansions.Expanded.{Expanded}
use Rattle.jl_model.specs.declared.graph_scopes.GraphScope.TheVariants.{Main}
use Rattle.jl_value.specs.declared.valued.Valued.TheVariants as valued
use Rattle.jl_defs.specs.Texts.{Text}
use Rattle.jl_defs.specs.Context.{Context}
use Rattle.jl_defs.specs.IriExpansion.{expand_iri}
use Rattle.jl_defs.specs.Keys.{Key, id, kind, value, key_of}
use Rattle.jl_defs.specs.ObjectContexts.{fault}
use Rattle.jl_defs.specs.ValueObjects.{expand_type}
use Rattle.jl_defs.specs.Values as values
use Rattle.jl_defs.specs.Values.{literal_of}
use Rattle.jl_prelude.specs.declared.classes.Class.{Class}
use Rattle.jl_prelude.specs.declared.classes.Class.TheVariants as class
use Rattle.jl_frames.specs.Answers.{HasCause, is_built_key}
use Rattle.jl_frames.specs.Machine as frames
use Rattle.jl_frames.specs.Machine.{Step, in_object}
use Rattle.jl_frames.specs.ReadAs.{read_as}
use Rattle.jl_frames.specs.declared.facts.Frame.{Frame}
use Rattle.jl_frames.specs.declared.facts.KeyFact.{KeyFact}
use Rattle.jl_frames.specs.declared.facts.Given.{Given}
use Rattle.jl_frames.specs.declared.facts.Given.TheVariants as given
use Rattle.jl_frames.specs.declared.roles.Role.{Role}
use Rattle.jl_frames.specs.declared.roles.Role.TheVariants as role
use Rattle.jl_frames.specs.declared.states.FrameStop.{FrameStop}
use Rattle.jl_frames.specs.declared.states.StackState.{StackState}
use Rattle.jl_frames.specs.declared.reads.ReadAs.{ReadAs}
use Rattle.jl_frames.specs.declared.reads.ReadAs.TheVariants as reads

-- it brings no quads
abbrev pub quiet : StackState → Step
quiet k = Ok ([], k)

-- the quads of a step after those before it
abbrev pub after : List Parts → Step → Step
after quads (Ok (more, k)) = Ok (quads ++ more, k)
after quads (Err f) = Err f

-- a call of the code does this step, and adds its quads to those before; or it stops at the fault of the step
abbrev pub Moves : Result (Unit {0}) FrameStop → List Parts → Step → List Parts → StackState → Type 0
Moves (Ok done) old step new k = after old step ≡ Ok (new, k)
Moves (Err stop) old step new k = HasCause stop step

-- the first of these faults stops it
abbrev pub unless : List Fault → (Unit {0} → Step) → Step
unless [] next = next tt
unless (f ∷ fs) next = Err f

abbrev pub if_built : Bool → ℕ → (Unit {0} → Step) → Step
if_built true at next = next tt
if_built false at next = Err (fault code.NotYet at)

-- a container without a subject
abbrev pub plain_frame : Role → ℕ → Frame
plain_frame r at = record { at = at; role = r; subject = None; scope = Main; valued = false }

abbrev pub opens_array : ℕ → StackState → Step
opens_array at k = frames.enter (plain_frame role.Set at) k

-- an object that stands where no value does: it is dropped or at fault
abbrev pub opens_other : ℕ → StackState → Step
opens_other at k = frames.enter (plain_frame role.Object at) k

-- a key of the rest of an object for a type, its identifier or a value comes too late
abbrev pub late_faults : Key → ℕ → List Fault
late_faults kind at = fault code.LateType at ∷ []
late_faults id at = fault code.LateIdentifier at ∷ []
late_faults value at = fault code.LateValue at ∷ []
late_faults q at = []

-- the same by the class of the key
abbrev pub late_by : Class → ℕ → List Fault
late_by class.Kind at = fault code.LateType at ∷ []
late_by class.Identifier at = fault code.LateIdentifier at ∷ []
late_by class.Value at = fault code.LateValue at ∷ []
late_by k at = []

abbrev pub unless_leading : Bool → List Fault → List Fault
unless_leading true fs = []
unless_leading false fs = fs

-- a key of a form that isn't built is refused
abbrev pub told_key : KeyFact → StackState → Step
told_key f k = if_built (is_built_key f.expanded) f.at (λ _. frames.key f k)

-- a key of an object, a leading one or one of its rest
abbrev pub key_by : Bool → Key → ℕ → Expanded → StackState → Step
key_by leading q at e k =
    unless (unless_leading leading (late_faults q at)) (λ _. told_key (record { at = at; expanded = e }) k)

-- only an object has keys
abbrev pub key_in : Bool → Context → Bool → ℕ → Text → StackState → Step
key_in true c leading at n k = key_by leading (key_of c n) at (expand_iri c n true false) k
key_in false c leading at n k = quiet k

abbrev pub takes_key : Context → Bool → ℕ → Text → StackState → Step
takes_key c leading at n k = key_in (in_object k.opens) c leading at n k

abbrev pub gives : ℕ → Given → StackState → Step
gives at g k = frames.scalar (record { at = at; given = g }) k

-- what a scalar gives under a property
abbrev pub gives_value : ℕ → values.Valued → StackState → Step
gives_value at (values.reference name) k = gives at (given.Valued (valued.Reference name)) k
gives_value at (values.literal lit) k = gives at (given.Valued (valued.Literal lit)) k
gives_value at values.left_out k = gives at (given.Valued valued.LeftOut) k
gives_value at (values.refused c) k = Err (fault c at)

abbrev pub under_property : ℕ → Scalar → StackState → Step
under_property at Null k = gives at (given.Written Null) k
under_property at v k = gives_value at (literal_of v None None) k

abbrev pub under_type : Context → ℕ → Scalar → StackState → Step
under_type c at (Str text) k = gives at (given.Type (expand_type c text)) k
under_type c at v k = gives at (given.Written v) k

abbrev pub scalar_by : ReadAs → Context → ℕ → Scalar → StackState → Step
scalar_by reads.Property c at v k = under_property at v k
scalar_by reads.Types c at v k = under_type c at v k
scalar_by t c at v k = gives at (given.Written v) k

abbrev pub takes_scalar : Context → ℕ → Scalar → StackState → Step
takes_scalar c at v k = scalar_by (read_as k) c at v k
