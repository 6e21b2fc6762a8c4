-- What is wrong with a member by its key and the form of its value, and with an object as it closes (JSON-LD 1.1 API, section
-- 5.1.2, steps 13, 15 and 17).
use Rattle.std.specs.Prelude.{ℕ, Bool, true, false, not, ◌&&◌, ◌||◌, List, [], ◌∷◌, ◌++◌, Option, Some, None, Result, Ok, Err, codes, bytes_eq}
use Rattle.std.specs.List.{list_any, list_all}
use Rattle.jl_model.specs.JsonTree.{Tree, scalar, array, object, Trees, no_item, item, Members, no_member, member}
use Rattle.jl_model.specs.declared.scalars.Scalar.TheVariants.{Null, Str}
use Rattle.jl_model.specs.declared.codes.Code.{Code}
use Rattle.jl_model.specs.declared.codes.Code.TheVariants as code
use Rattle.jl_model.specs.declared.faults.Fault.{Fault}
use Rattle.jl_model.specs.declared.orders.Order.{Order}
use Rattle.jl_model.specs.declared.orders.Order.TheVariants.{Any, Streaming}
use Rattle.jl_model.specs.declared.map_kinds.MapKind.{MapKind}
use Rattle.jl_model.specs.declared.map_kinds.MapKind.TheVariants as map_kind
use Rattle.jl_defs.specs.Texts.{Text}
use Rattle.jl_defs.specs.Trees.{place_of}
use Rattle.jl_defs.specs.Settings.{Under, drops}
use Rattle.jl_defs.specs.Keys.{Key, id, kind, value, language, direction, index, graph, list, set, reverse, nest, is_id, is_kind, is_value, is_language, is_direction, is_index, is_graph, is_list, is_set, is_reverse}
use Rattle.jl_defs.specs.ObjectContexts.{Inside, fault}
use Rattle.jl_defs.specs.LateKeys.{if_so}
use Rattle.jl_defs.specs.Canon.{json_faults}
use Rattle.jl_defs.specs.Values.{Valued, refused}
use Rattle.jl_defs.specs.ValueObjects.{first_with, is_json, is_json_type, type_iri, type_of_values, value_type, is_null, value_object}
use Rattle.jl_defs.specs.Items.{Item, value_at, node_at, Items, no_more, more, item_place, kind_of_item}
use Rattle.jl_defs.specs.Maps.{check_item}
use Rattle.jl_defs.specs.Kept.{any_key}

-- the keys of an object that have been read before a member: their entries, and the values of those for `@type`
pub record Seen : Type 0 where
  pub entries : List Key
  pub kinds : List Tree

abbrev pub nothing_seen : Seen
nothing_seen = record { entries = []; kinds = [] }

-- a second entry of a keyword that may come once (step 13.4.2), judged by the entries before it
abbrev pub collides : Key → Under → List Key → Bool
collides id under ks = any_key is_id ks
collides value under ks = any_key is_value ks
collides language under ks = any_key is_language ks
collides direction under ks = any_key is_direction ks
collides index under ks = any_key is_index ks
collides graph under ks = any_key is_graph ks
collides set under ks = any_key is_set ks
collides reverse under ks = any_key is_reverse ks
collides list under ks = not (drops under) && any_key is_list ks
collides k under ks = false

abbrev pub key_faults : Key → Under → Seen → ℕ → List Fault
key_faults k under seen at = if_so (collides k under seen.entries) (fault code.CollidingKeywords at ∷ [])

-- a value that is no string has this code
abbrev pub unless_string : Code → ℕ → Tree → List Fault
unless_string c at (scalar at' (Str text)) = []
unless_string c at t = fault c at ∷ []

abbrev pub all_strings : Trees → Bool
all_strings no_item = true
all_strings (item (scalar at (Str text)) rest) = all_strings rest
all_strings (item x rest) = false

-- `@type`: a string or an array of strings
abbrev pub type_faults : ℕ → Tree → List Fault
type_faults at (scalar at' (Str text)) = []
type_faults at (scalar at' v) = fault code.InvalidTypeValue at ∷ []
type_faults at (array at' xs) = if_so (not (all_strings xs)) (fault code.InvalidTypeValue at ∷ [])
type_faults at (object at' ms) = fault code.InvalidTypeValue at ∷ []

abbrev pub is_direction_text : Text → Bool
is_direction_text text = bytes_eq text (codes "ltr") || bytes_eq text (codes "rtl")

-- `@direction`: `ltr` or `rtl`
abbrev pub direction_faults : ℕ → Tree → List Fault
direction_faults at (scalar at' (Str text)) = if_so (not (is_direction_text text)) (fault code.InvalidBaseDirection at ∷ [])
direction_faults at t = fault code.InvalidBaseDirection at ∷ []

-- a map
abbrev pub unless_map : Code → ℕ → Tree → List Fault
unless_map c at (object at' ms) = []
unless_map c at (array at' xs) = fault c at ∷ []
unless_map c at (scalar at' v) = fault c at ∷ []

-- a map or an array; the items are judged on their own
abbrev pub nest_faults : Tree → List Fault
nest_faults (scalar at v) = fault code.InvalidNestValue at ∷ []
nest_faults (array at xs) = []
nest_faults (object at ms) = []

-- an array or an object may stand under `@value` where both the input type and the one type are `@json`;
-- in streaming order the types are those before it (this project's own rule)
abbrev pub takes_json : Order → Inside → Seen → List Tree → Bool
takes_json order i seen kinds = is_json i.input && is_json_type (type_of_values i.base (by order))
  where
    by : Order → List Tree
    by Any = kinds
    by Streaming = seen.kinds

abbrev pub value_faults : Bool → ℕ → Tree → List Fault
value_faults json at (scalar at' v) = []
value_faults json at (array at' xs) = if_so (not json) (fault code.InvalidValueObjectValue at ∷ [])
value_faults json at (object at' ms) = if_so (not json) (fault code.InvalidValueObjectValue at ∷ [])

-- the faults of a member's value that don't hang on what is inside it
abbrev pub shape_faults : Key → Bool → ℕ → Tree → List Fault
shape_faults id json at v = unless_string code.InvalidIdValue at v
shape_faults kind json at v = type_faults at v
shape_faults value json at v = value_faults json at v
shape_faults language json at v = unless_string code.InvalidLanguageTaggedString at v
shape_faults direction json at v = direction_faults at v
shape_faults index json at v = unless_string code.InvalidIndexValue at v
shape_faults reverse json at v = unless_map code.InvalidReverseValue at v
shape_faults nest json at v = nest_faults v
shape_faults k json at v = []

-- the values of a language map's entry: strings and null
abbrev pub language_value_faults : Tree → List Fault
language_value_faults (scalar at (Str text)) = []
language_value_faults (scalar at Null) = []
language_value_faults t = fault code.InvalidLanguageMapValue (place_of t) ∷ []

abbrev pub language_items_faults : Trees → List Fault
language_items_faults no_item = []
language_items_faults (item x rest) = language_value_faults x ++ language_items_faults rest

abbrev pub language_entry_faults : Tree → List Fault
language_entry_faults (array at xs) = language_items_faults xs
language_entry_faults (scalar at v) = language_value_faults (scalar at v)
language_entry_faults (object at ms) = fault code.InvalidLanguageMapValue at ∷ []

abbrev pub language_map_faults : Members → List Fault
language_map_faults no_member = []
language_map_faults (member a n v rest) = language_entry_faults v ++ language_map_faults rest

-- an item of a turned property is a node
abbrev pub turned_faults : Items → List Fault
turned_faults no_more = []
turned_faults (more (node_at at naming entries) rest) = turned_faults rest
turned_faults (more x rest) = fault code.InvalidReversePropertyValue (item_place x) ∷ turned_faults rest

-- a scalar that is a number at fault says that alone
abbrev pub is_refused : Item → Bool
is_refused (value_at at (refused code)) = true
is_refused x = false

abbrev pub item_fault : ℕ → Result (Unit {0}) Code → List Fault
item_fault at (Ok _) = []
item_fault at (Err c) = fault c at ∷ []

abbrev pub entry_item_faults : MapKind → Items → List Fault
entry_item_faults m no_more = []
entry_item_faults m (more x rest) = if_so (not (is_refused x)) (item_fault (item_place x) (check_item m (kind_of_item x))) ++ entry_item_faults m rest

-- a key that means `@none` has no property to add
abbrev pub checked_kind : Bool → Option MapKind → Option MapKind
checked_kind true (Some map_kind.PropertyIndex) = None
checked_kind none_key m = m

abbrev pub map_item_faults : Option MapKind → Items → List Fault
map_item_faults None xs = []
map_item_faults (Some m) xs = entry_item_faults m xs

-- what may stand beside `@value`
abbrev pub is_value_entry : Key → Bool
is_value_entry value = true
is_value_entry kind = true
is_value_entry language = true
is_value_entry direction = true
is_value_entry index = true
is_value_entry k = false

-- the entries of a value object are those of one
abbrev pub is_value_form : List Key → Bool
is_value_form ks = list_all is_value_entry ks && not (any_key is_kind ks && (any_key is_language ks || any_key is_direction ks))

abbrev pub is_string : Option Tree → Bool
is_string (Some (scalar at (Str text))) = true
is_string (Some t) = false
is_string None = false

abbrev pub has_iri : Option Text → Bool
has_iri None = false
has_iri (Some text) = true

-- a number at fault, judged as the object closes (this project's own rule): not where it is dropped, nor where the input type is
-- `@json`
abbrev pub closing_number : Under → Inside → Valued → Option Tree → List Fault
closing_number under i (refused c) (Some v) = if_so (not (drops under) && not (is_json i.input)) (fault c (place_of v) ∷ [])
closing_number under i v t = []

-- the first of two kinds of faults
abbrev pub or_else : List Fault → List Fault → List Fault
or_else [] fs = fs
or_else (f ∷ others) fs = f ∷ others

-- a language stands only with a string
abbrev pub language_closing : ℕ → List Key → Option Tree → List Fault
language_closing at ks v = if_so (any_key is_language ks && not (is_string v)) (fault code.InvalidLanguageTaggedValue at ∷ [])

-- a type is one IRI
abbrev pub type_closing : Inside → ℕ → Members → List Key → List Fault
type_closing i at ms ks = if_so (any_key is_kind ks && not (has_iri (type_iri (value_type i ms)))) (fault code.InvalidTypedValue at ∷ [])

-- steps 15.3 to 15.5: what is wrong with a value object, unless its value is null
abbrev pub typed_closing : Under → Inside → ℕ → Members → List Key → Option Tree → List Fault
typed_closing under i at ms ks v =
    if_so (not (is_null v)) (or_else (language_closing at ks v) (or_else (type_closing i at ms ks) (closing_number under i (value_object i ms) v)))

-- the numbers of a JSON literal, which under the input type `@json` were judged as they were read
abbrev pub closing_numbers : Under → Inside → Option Tree → List Fault
closing_numbers under i None = []
closing_numbers under i (Some v) = if_so (not (drops under) && not (is_json i.input)) (json_faults v)

-- a JSON literal has at most numbers at fault
abbrev pub formed_closing : Bool → Under → Inside → ℕ → Members → List Key → Option Tree → List Fault
formed_closing true under i at ms ks v = closing_numbers under i v
formed_closing false under i at ms ks v = typed_closing under i at ms ks v

-- step 15: a wrong entry first, then what the value's type asks
abbrev pub value_closing : Under → Inside → ℕ → Members → List Key → Option Tree → List Fault
value_closing under i at ms ks v =
    or_else (if_so (not (is_value_form ks)) (fault code.InvalidValueObject at ∷ [])) (formed_closing (is_json_type (value_type i ms)) under i at ms ks v)

-- step 17: only `@index` may stand beside `@set` and `@list`
abbrev pub is_beside_set : Key → Bool
is_beside_set k = not (is_set k || is_index k)

abbrev pub is_beside_list : Key → Bool
is_beside_list k = not (is_list k || is_index k)

abbrev pub set_closing : ℕ → List Key → List Fault
set_closing at ks =
    if_so ((any_key is_set ks && list_any is_beside_set ks) || (any_key is_list ks && list_any is_beside_list ks)) (fault code.InvalidSetOrListObject at ∷ [])

-- what is judged as an object closes, on its entries
unfoldable pub closing_faults : Under → Inside → ℕ → Members → List Key → List Fault
closing_faults under i at ms ks =
    if_so (any_key is_value ks) (value_closing under i at ms ks (first_with is_value i.final ms)) ++ set_closing at ks
