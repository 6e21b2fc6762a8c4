-- The streaming form: which keys come too late (this project's own rules).
use Rattle.std.specs.Prelude.{ℕ, Bool, true, false, not, ◌&&◌, ◌||◌, List, [], ◌∷◌, ◌++◌}
use Rattle.jl_model.specs.JsonTree.{Tree, Members, no_member, member}
use Rattle.jl_model.specs.declared.codes.Code.TheVariants as code
use Rattle.jl_model.specs.declared.faults.Fault.{Fault}
use Rattle.jl_model.specs.declared.orders.Order.{Order}
use Rattle.jl_model.specs.declared.orders.Order.TheVariants.{Any, Streaming}
use Rattle.jl_defs.specs.Texts.{Text}
use Rattle.jl_defs.specs.Context.{Context}
use Rattle.jl_defs.specs.Settings.{Settings, Under, Stand}
use Rattle.jl_defs.specs.Keys.{key_of, is_id, is_kind, is_value, is_graph}
use Rattle.jl_defs.specs.ObjectContexts.{fault, is_context_name, is_in_prelude, Inside}
use Rattle.jl_defs.specs.Rest.{own_candidates, rest_of}
use Rattle.jl_defs.specs.Kept.{own_member, has_any, entries}
use Rattle.jl_defs.specs.Graphs.{reads_as_graph}

-- faults that count where something holds
abbrev pub if_so : Bool → List Fault → List Fault
if_so true fs = fs
if_so false fs = []

-- a key that is `@context`, at this place
abbrev pub context_fault : Text → ℕ → List Fault
context_fault name at = if_so (is_context_name name) (fault code.LateContext at ∷ [])

abbrev pub context_faults : Members → List Fault
context_faults no_member = []
context_faults (member a n v rest) = context_fault n a ++ context_faults rest

-- a `@context` that isn't the first member
abbrev pub late_contexts : Order → Members → List Fault
late_contexts Any ms = []
late_contexts Streaming no_member = []
late_contexts Streaming (member a n v rest) = context_faults rest

-- a key that means `@type` in the base or the final context
abbrev pub is_late_type : Inside → Text → Bool
is_late_type i name = is_kind (key_of i.base name) || is_kind (key_of i.final name)

-- a key that means `@value` in the final context, or would have kept the object from going back
abbrev pub is_late_value : Inside → Text → Bool
is_late_value i name = is_value (key_of i.final name) || (i.could_go_back && is_value (key_of i.outside name))

-- a key of the rest for a type, an identifier or a value
abbrev pub late_key : Inside → Text → ℕ → List Fault
late_key i name at =
    if_so (is_late_type i name) (fault code.LateType at ∷ [])
    ++ (if_so (is_id (key_of i.final name)) (fault code.LateIdentifier at ∷ [])
    ++ if_so (is_late_value i name) (fault code.LateValue at ∷ []))

-- the same of all members of a rest
abbrev pub late_keys : Inside → Members → List Fault
late_keys i no_member = []
late_keys i (member a n v rest) = late_key i n a ++ late_keys i rest

-- a member after `@graph`, in an object that is read as a graph: where it is kept it is late, unless another late code names its key
abbrev pub late_graph : Settings → Inside → Under → ℕ → Text → Tree → List Fault
late_graph s i under at name v =
    if_so (has_any (entries s i own_member under (member at name v no_member)) && not (any_fault (late_key i name at))) (fault code.LateGraph at ∷ [])
  where
    any_fault : List Fault → Bool
    any_fault [] = false
    any_fault (f ∷ fs) = true

abbrev pub all_late_graph : Settings → Inside → Under → Members → List Fault
all_late_graph s i under no_member = []
all_late_graph s i under (member a n v rest) = late_graph s i under a n v ++ all_late_graph s i under rest

-- the members after the one that means `@graph`
abbrev pub after_graph : Inside → Members → Members
after_graph i no_member = no_member
after_graph i (member a n v rest) = elim (is_graph (key_of i.final n)) [ true ↦ rest | false ↦ after_graph i rest ]

-- the late members of a pure graph or a graph object
abbrev pub late_graphs : Settings → Context → Under → Stand → ℕ → Inside → Members → List Fault
late_graphs s c under stand at i ms =
    if_so (reads_as_graph s c under stand at i ms) (all_late_graph s i under (after_graph i (rest_of s c under stand at i ms)))

-- A first key that means `@id` outside keeps the object from going back where it comes alone. Where its value ends the prelude
-- that can't be waited for: the object doesn't go back, and the key is late, whatever it means in the final context.
abbrev pub lone_identifier : List Context → Inside → Members → List Fault
lone_identifier cs i no_member = []
lone_identifier cs i (member a n v rest) =
    if_so (i.could_go_back && (is_id (key_of i.outside n) && not (is_in_prelude cs n v))) (fault code.LateIdentifier a ∷ [])

-- the keys that are late by what they mean: a lone identifier, and those of the rest
abbrev pub late_in : Settings → Context → Under → Stand → ℕ → Inside → Members → List Fault
late_in s c under stand at i ms =
    lone_identifier (own_candidates s c under stand at ms) i ms ++ late_keys i (rest_of s c under stand at i ms)

-- the breaches of a decided object
abbrev pub late_members : Settings → Context → Under → Stand → ℕ → Inside → Members → List Fault
late_members s c under stand at i ms = by s.order
  where
    by : Order → List Fault
    by Any = []
    by Streaming = late_in s c under stand at i ms ++ late_graphs s c under stand at i ms
