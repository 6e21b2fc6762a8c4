-- Which members put an entry into the expansion of their object (JSON-LD 1.1 API, section 5.1.2, step 13).
use Rattle.std.specs.Prelude.{if◌then◌else◌, Bool, true, false, not, ◌&&◌, ◌||◌, List, [], ◌∷◌, ◌++◌, Option, Some, None, Result, Ok, Err, codes, bytes_eq, is_none}
use Rattle.std.specs.List.{list_any}
use Rattle.jl_model.specs.JsonTree.{Tree, scalar, array, object, Trees, no_item, item, Members, no_member, member}
use Rattle.jl_model.specs.declared.scalars.Scalar.{Scalar}
use Rattle.jl_model.specs.declared.scalars.Scalar.TheVariants.{Null}
use Rattle.jl_model.specs.declared.codes.Code.{Code}
use Rattle.jl_model.specs.declared.codes.Code.TheVariants as code
use Rattle.jl_model.specs.declared.faults.Fault.{Fault}
use Rattle.jl_defs.specs.Texts.{Text}
use Rattle.jl_defs.specs.Context.{TermDef, Context, term}
use Rattle.jl_defs.specs.Settings.{Settings, Under, reverse_property, property_of, Stand, elsewhere, drops, scoped_in}
use Rattle.jl_defs.specs.Keys.{Key, its_context, kind, value, language, index, graph, included, list, reverse, nest, other, dropped, property, key_of, is_value, is_list}
use Rattle.jl_defs.specs.ObjectContexts.{Inside, decide, apply_scoped}
use Rattle.jl_defs.specs.ValueObjects.{first_with, value_type, is_json_type, is_null}

-- whose members these are: the object's own, those of a map under `@nest`, or those of the map of `@reverse`
pub data Role : Type 0 where
  own_member : Role
  nested_member : Role
  reversed_member : Role

-- the fault of a key under `@nest`: of the keywords only some may stand there (for others than `@value` this project's own
-- rule)
abbrev pub nest_refusal : Key → Option Code
nest_refusal kind = None
nest_refusal nest = None
nest_refusal reverse = None
nest_refusal included = None
nest_refusal graph = None
nest_refusal index = None
nest_refusal dropped = None
nest_refusal (property name) = None
nest_refusal value = Some code.InvalidNestValue
nest_refusal k = Some code.NestedKeyword

-- the fault of a key under `@reverse`: no keyword but `@context` may stand there (step 13.4.1)
abbrev pub reverse_refusal : Key → Option Code
reverse_refusal its_context = None
reverse_refusal dropped = None
reverse_refusal (property name) = None
reverse_refusal k = Some code.InvalidReversePropertyMap

-- the fault of a key that may not stand where it does; such a member puts no entry, and its value isn't looked at
abbrev pub refusal : Role → Key → Option Code
refusal own_member k = None
refusal nested_member k = nest_refusal k
refusal reversed_member k = reverse_refusal k

abbrev pub is_admitted : Role → Key → Bool
is_admitted role k = is_none (refusal role k)

-- how the values of a property are treated: the cases of a property in their order (steps 13.6 to 13.9)
pub data Form : Type 0 where
  json_form : Form
  language_form : Form
  -- a map by index, identifier or type
  map_form : Form
  plain_form : Form

abbrev pub is_map : Tree → Bool
is_map (object at ms) = true
is_map (array at xs) = false
is_map (scalar at v) = false

abbrev pub is_json_kind : Option Text → Bool
is_json_kind None = false
is_json_kind (Some text) = bytes_eq text (codes "@json")

abbrev pub form_in : TermDef → Bool → Form
form_in t map =
    if is_json_kind t.kind then json_form
    else (if map && t.containers.language then language_form
    else (if map && (t.containers.index || (t.containers.id || t.containers.kind)) then map_form else plain_form))

abbrev pub form_of : Option TermDef → Tree → Form
form_of None v = plain_form
form_of (Some t) v = form_in t (is_map v)

-- the object with its members in a nest term's context
abbrev pub nest_inside : Settings → Inside → Text → Result Inside Code
nest_inside s i name = in_context (apply_scoped s true true (scoped_in (term i.final name)) i.final)
  where
    in_context : Result Context Code → Result Inside Code
    in_context (Ok c) = Ok (record i { final = c })
    in_context (Err e) = Err e

abbrev pub any_key : (Key → Bool) → List Key → Bool
any_key test ks = list_any test ks

-- the entries are `@language` alone
abbrev pub is_only_language : List Key → Bool
is_only_language (language ∷ []) = true
is_only_language ks = false

-- a scalar gives something, unless it is null or dropped
abbrev pub scalar_gives : Under → Scalar → Bool
scalar_gives under Null = false
scalar_gives under v = not (drops under)

-- a value object gives something, unless it is dropped, or its value is null and no JSON literal
abbrev pub value_gives : Under → Inside → Members → Bool
value_gives under i ms = not (drops under) && (is_json_type (value_type i ms) || not (is_null (first_with is_value i.final ms)))

-- an object with these entries gives something
abbrev pub object_gives : Under → Inside → Members → List Key → Bool
object_gives under i ms entries =
    elim (any_key is_value entries) [
      | true ↦ value_gives under i ms
      | false ↦ not (is_only_language entries)
    ]

-- what a decided object answers; one whose contexts are at fault gives nothing
abbrev pub decided_bool : Result Inside Fault → (Inside → Bool) → Bool
decided_bool (Ok i) answer = answer i
decided_bool (Err e) answer = false

-- whether a property is kept for its object; one whose contexts are at fault counts as kept, so that the object round
-- it is closed on its members (this project's own rule)
abbrev pub decided_keeps : Result Inside Fault → (Inside → Bool) → Bool
decided_keeps (Ok i) answer = answer i
decided_keeps (Err e) answer = true

abbrev pub decided_keys : Result Inside Fault → (Inside → List Key) → List Key
decided_keys (Ok i) answer = answer i
decided_keys (Err e) answer = []

abbrev pub nested_keys : Result Inside Code → (Inside → List Key) → List Key
nested_keys (Ok i) answer = answer i
nested_keys (Err e) answer = []

abbrev pub has_any : List Key → Bool
has_any [] = false
has_any (k ∷ ks) = true

abbrev pub if_key : Bool → List Key → List Key
if_key true ks = ks
if_key false ks = []

-- the entries that a member puts: whether its value is kept is asked where it matters. That `@nest` puts one, empty or
-- not, is this project's own rule
abbrev pub entries_by : Key → Under → (Unit {0} → Bool) → (Unit {0} → List Key) → (Unit {0} → Bool) → List Key
entries_by its_context under keeps nested reverses = []
entries_by dropped under keeps nested reverses = []
entries_by other under keeps nested reverses = []
entries_by (property name) under keeps nested reverses = if_key (keeps tt) (property name ∷ [])
entries_by nest under keeps nested reverses = nest ∷ nested tt
entries_by reverse under keeps nested reverses = if_key (reverses tt) (reverse ∷ [])
entries_by list under keeps nested reverses = if_key (not (drops under)) (list ∷ [])
entries_by k under keeps nested reverses = k ∷ []

-- a property is kept for its value
abbrev pub form_keeps : Form → (Unit {0} → Bool) → Bool
form_keeps json_form keeps = true
form_keeps language_form keeps = true
form_keeps map_form keeps = true
form_keeps plain_form keeps = keeps tt

unfoldable mutual
  -- whether a property is kept for this value: it gives something, perhaps an empty list, or its contexts are at fault
  pub keeps : Settings → Context → Under → Stand → Tree → Bool
  keeps s c under stand (scalar at v) = scalar_gives under v
  keeps s c under stand (array at xs) = true
  keeps s c under stand (object at ms) = decided_keeps (decide s c under stand at ms) (λ i. object_gives under i ms (entries s i own_member under ms))

  -- the keys of the members that put an entry, in their order; those under `@nest` come after it
  pub entries : Settings → Inside → Role → Under → Members → List Key
  entries s i role under no_member = []
  entries s i role under (member a n v rest) =
      if_key (is_admitted role (key_of i.final n))
      (entries_by (key_of i.final n) under
      (λ _. form_keeps (form_of (term i.final n) v) (λ _. keeps s i.final (property_of n) elsewhere v))
      (λ _. nested_keys (nest_inside s i n) (λ j. nested_entries s j under v))
      (λ _. has_any (reversed_entries s i.final v)))
      ++ entries s i role under rest

  -- the entries of a map under `@nest`, or of an array of such maps
  pub nested_entries : Settings → Inside → Under → Tree → List Key
  nested_entries s i under (scalar at v) = []
  nested_entries s i under (array at xs) = all_nested_entries s i under xs
  nested_entries s i under (object at ms) = entries s i nested_member under ms

  pub all_nested_entries : Settings → Inside → Under → Trees → List Key
  all_nested_entries s i under no_item = []
  all_nested_entries s i under (item (object at ms) rest) = entries s i nested_member under ms ++ all_nested_entries s i under rest
  all_nested_entries s i under (item x rest) = all_nested_entries s i under rest

  -- the entries of the map of `@reverse`
  pub reversed_entries : Settings → Context → Tree → List Key
  reversed_entries s c (scalar at v) = []
  reversed_entries s c (array at xs) = []
  reversed_entries s c (object at ms) = decided_keys (decide s c reverse_property elsewhere at ms) (λ i. entries s i reversed_member reverse_property ms)

-- whether a value gives something, perhaps an empty list
abbrev pub gives : Settings → Context → Under → Stand → Tree → Bool
gives s c under stand (scalar at v) = scalar_gives under v
gives s c under stand (array at xs) = true
gives s c under stand (object at ms) = decided_bool (decide s c under stand at ms) (λ i. object_gives under i ms (entries s i own_member under ms))

-- an object that is a list
abbrev pub is_list_object : Settings → Context → Under → Stand → Tree → Bool
is_list_object s c under stand (scalar at v) = false
is_list_object s c under stand (array at xs) = false
is_list_object s c under stand (object at ms) = decided_bool (decide s c under stand at ms) (λ i. any_key is_list (entries s i own_member under ms))
