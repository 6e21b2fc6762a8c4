-- Expansion (JSON-LD 1.1 API, section 5.1.2): the items of a value under a property.
use Rattle.std.specs.Prelude.{ℕ, Bool, true, false, not, ◌&&◌, ◌||◌, List, [], ◌∷◌, Option, Some, None, Result, Ok, Err}
use Rattle.jl_model.specs.JsonTree.{Tree, scalar, array, object, Trees, no_item, item, Members, no_member, member}
use Rattle.jl_model.specs.declared.scalars.Scalar.{Scalar}
use Rattle.jl_model.specs.declared.scalars.Scalar.TheVariants.{Null, Str}
use Rattle.jl_model.specs.declared.codes.Code.{Code}
use Rattle.jl_model.specs.declared.faults.Fault.{Fault}
use Rattle.jl_model.specs.declared.expansions.Expanded.{Expanded}
use Rattle.jl_model.specs.declared.expansions.Expanded.TheVariants as expanded
use Rattle.jl_defs.specs.Texts.{Text}
use Rattle.jl_defs.specs.Trees.{place_of, string_of, strings_of}
use Rattle.jl_defs.specs.Context.{TermDef, Context, term, initial}
use Rattle.jl_defs.specs.IriExpansion.{expand_iri}
use Rattle.jl_defs.specs.Settings.{Settings, Under, no_property, graph_property, reverse_property, property_of, Stand, root, entry, graph_entry, elsewhere, inside_of, term_under, lists}
use Rattle.jl_defs.specs.Keys.{Key, kind, graph, included, reverse, nest, property, key_of, is_id, is_list, is_set, is_graph}
use Rattle.jl_defs.specs.ObjectContexts.{Inside, decide, property_context}
use Rattle.jl_defs.specs.Values.{value_of}
use Rattle.jl_defs.specs.ValueObjects.{first_with, expand_type, value_object as value_of_object, unless_refused, json_value}
use Rattle.jl_defs.specs.Items.{Naming, named, by_object, Item, value_at, list_at, node_at, Items, no_more, NodeEntries, nothing_said, typed, said, holding, including, one, both, given, then_entries, wrapped, all_wrapped, scalar_item}
use Rattle.jl_defs.specs.Kept.{Role, own_member, nested_member, reversed_member, is_admitted, Form, json_form, language_form, map_form, plain_form, form_of, nest_inside, value_gives, entries, is_list_object}
use Rattle.jl_defs.specs.Graphs.{Shape, value_object, list_object, set_object, language_alone, graph_alone, node_object, reads_as_graph, shape_of}
use Rattle.jl_defs.specs.Maps.{addition, all_with_addition, entry_stand, entry_context, language_key, language_values}

-- an item of a graph map, which is wrapped in a graph; a graph object isn't handed to this
abbrev pub in_graph : Stand → Item → Item
in_graph graph_entry x = wrapped x
in_graph root x = x
in_graph entry x = x
in_graph elsewhere x = x

-- a scalar in the context of its property
abbrev pub scalar_in : Stand → Text → ℕ → Scalar → Result Context Code → Option Items
scalar_in stand name at v (Ok c) = Some (one (in_graph stand (scalar_item at (value_of c name v))))
scalar_in stand name at v (Err e) = None

-- a scalar: null gives nothing, and neither does any under no property or `@graph`
abbrev pub scalar_items : Settings → Context → Under → Stand → ℕ → Scalar → Option Items
scalar_items s c under stand at Null = None
scalar_items s c (property_of name) stand at v = scalar_in stand name at v (property_context s c (property_of name) c)
scalar_items s c under stand at v = None

-- an array inside an array under a container with `@list` is a list
abbrev pub inner_array : Bool → Stand → ℕ → Items → Items
inner_array true stand at xs = one (in_graph stand (list_at at xs))
inner_array false stand at xs = xs

-- what a decided object gives; one whose contexts are at fault gives nothing
abbrev pub decided_items : Result Inside Fault → (Inside → Option Items) → Option Items
decided_items (Ok i) answer = answer i
decided_items (Err e) answer = None

-- the identifier of an object, expanded with relative; null counts as none (this project's own choice)
abbrev pub naming_by : Expanded → Naming
naming_by expanded.Null = by_object
naming_by (expanded.Keyword text) = named text
naming_by (expanded.Name text) = named text

abbrev pub naming_of : Context → Option Text → Naming
naming_of d None = by_object
naming_of d (Some text) = naming_by (expand_iri d text false true)

abbrev pub id_text : Option Tree → Option Text
id_text None = None
id_text (Some t) = string_of t

abbrev pub naming : Context → Members → Naming
naming d ms = naming_of d (id_text (first_with is_id d ms))

-- the types that a member says
abbrev pub typed_as : Expanded → NodeEntries → NodeEntries
typed_as expanded.Null rest = rest
typed_as (expanded.Keyword text) rest = typed text rest
typed_as (expanded.Name text) rest = typed text rest

abbrev pub types_said : Context → List Text → NodeEntries
types_said b [] = nothing_said
types_said b (text ∷ texts) = typed_as (expand_type b text) (types_said b texts)

abbrev pub type_strings : Tree → List Text
type_strings (scalar at (Str text)) = text ∷ []
type_strings (scalar at v) = []
type_strings (array at xs) = strings_of xs
type_strings (object at ms) = []

-- a value object
abbrev pub value_items : Under → Stand → Inside → ℕ → Members → Option Items
value_items under stand i at ms = elim (value_gives under i ms) [ true ↦ Some (one (in_graph stand (value_at at (unless_refused (value_of_object i ms))))) | false ↦ None ]

-- a pure graph says its content, a graph object is used as it is
abbrev pub graph_items : Stand → Item → (Unit {0} → Items) → Items
graph_items root node content = content tt
graph_items graph_entry node content = one node
graph_items entry node content = no_more
graph_items elsewhere node content = no_more

-- an object by its entries: its list, its set, its content and what it says as a node are asked where they matter
abbrev pub object_items : Shape → Under → Stand → Inside → ℕ → Members → (Unit {0} → Items) → (Unit {0} → Items) → (Unit {0} → Items) → (Unit {0} → NodeEntries) → Option Items
object_items value_object under stand i at ms its_list its_set content its_entries = value_items under stand i at ms
object_items list_object under stand i at ms its_list its_set content its_entries = Some (one (in_graph stand (list_at at (its_list tt))))
object_items set_object under stand i at ms its_list its_set content its_entries = Some (its_set tt)
object_items language_alone under stand i at ms its_list its_set content its_entries = None
object_items graph_alone under stand i at ms its_list its_set content its_entries = Some (graph_items stand (node_at at (naming i.final ms) (its_entries tt)) content)
object_items node_object under stand i at ms its_list its_set content its_entries = Some (one (in_graph stand (node_at at (naming i.final ms) (its_entries tt))))

abbrev pub is_reverse_term : Option TermDef → Bool
is_reverse_term None = false
is_reverse_term (Some t) = t.reverse

-- a property goes forward, but that of a reverse term; under `@reverse` each is turned
abbrev pub goes_forward : Role → Option TermDef → Bool
goes_forward reversed_member t = is_reverse_term t
goes_forward own_member t = not (is_reverse_term t)
goes_forward nested_member t = not (is_reverse_term t)

-- the container has `@graph`, and keys name no graphs in it
abbrev pub is_plain_graph : Option TermDef → Bool
is_plain_graph None = false
is_plain_graph (Some t) = t.containers.graph && not (t.containers.id || t.containers.index)

-- the values of a container with `@list` are one list, those of one with `@graph` are wrapped (steps 13.11 and 13.12)
abbrev pub contained_items : Option TermDef → Bool → ℕ → Items → Items
contained_items t is_list at xs =
    elim (lists t && not is_list) [
      | true ↦ one (list_at at xs)
      | false ↦ elim (is_plain_graph t) [ true ↦ all_wrapped xs | false ↦ xs ]
    ]

abbrev pub contained : Option TermDef → Bool → ℕ → Option Items → Option Items
contained t is_list at None = None
contained t is_list at (Some xs) = Some (contained_items t is_list at xs)

-- the values of a property by their form
abbrev pub by_form : Form → Tree → Option TermDef → (Unit {0} → Items) → (TermDef → Items) → (Unit {0} → Option Items) → Option Items
by_form json_form v t languages mapped plain = Some (one (value_at (place_of v) (json_value v)))
by_form language_form v t languages mapped plain = Some (languages tt)
by_form map_form v None languages mapped plain = None
by_form map_form v (Some t) languages mapped plain = Some (mapped t)
by_form plain_form v t languages mapped plain = plain tt

-- a property whose value gives nothing isn't kept
abbrev pub said_of : Bool → Text → Option Items → NodeEntries
said_of forward name None = nothing_said
said_of forward name (Some xs) = said forward name xs nothing_said

-- what a member says
abbrev pub said_by : Key → (Text → NodeEntries) → (Unit {0} → NodeEntries) → (Unit {0} → Items) → (Unit {0} → Items) → (Unit {0} → NodeEntries) → (Unit {0} → NodeEntries) → NodeEntries
said_by (property name) properties types held included_items nested reversed = properties name
said_by kind properties types held included_items nested reversed = types tt
said_by graph properties types held included_items nested reversed = holding (held tt) nothing_said
said_by included properties types held included_items nested reversed = including (included_items tt) nothing_said
said_by nest properties types held included_items nested reversed = nested tt
said_by reverse properties types held included_items nested reversed = reversed tt
said_by k properties types held included_items nested reversed = nothing_said

abbrev pub if_admitted : Bool → (Unit {0} → NodeEntries) → NodeEntries
if_admitted true es = es tt
if_admitted false es = nothing_said

abbrev pub nested_said : Result Inside Code → (Inside → NodeEntries) → NodeEntries
nested_said (Ok i) answer = answer i
nested_said (Err e) answer = nothing_said

abbrev pub decided_said : Result Inside Fault → (Inside → NodeEntries) → NodeEntries
decided_said (Ok i) answer = answer i
decided_said (Err e) answer = nothing_said

-- the items of a map's entry in the context of its value; none where that is at fault
abbrev pub in_entry : Result Context Code → (Context → Option Items) → Items
in_entry (Ok c) answer = given (answer c)
in_entry (Err e) answer = no_more

-- what an entry with this key gives
abbrev pub if_key_is : Bool → (Unit {0} → Items) → Items → Items
if_key_is true xs rest = both (xs tt) rest
if_key_is false xs rest = rest

unfoldable mutual
  -- nothing, or a list of items
  pub expand : Settings → Context → Under → Stand → Tree → Option Items
  expand s c under stand (scalar at v) = scalar_items s c under stand at v
  expand s c under stand (array at xs) = Some (expand_all s c under (inside_of stand) xs)
  expand s c under stand (object at ms) =
      decided_items (decide s c under stand at ms)
      (λ i. object_items (shape_of (reads_as_graph s c under stand at i ms) (entries s i own_member under ms)) under stand i at ms
      (λ _. with_key s i is_list under elsewhere ms)
      (λ _. with_key s i is_set under (inside_of stand) ms)
      (λ _. with_key s i is_graph graph_property elsewhere ms)
      (λ _. members_say s i own_member ms))

  -- the items of an array, one after another
  pub expand_all : Settings → Context → Under → Stand → Trees → Items
  expand_all s c under stand no_item = no_more
  expand_all s c under stand (item (array at xs) rest) =
      both (inner_array (lists (term_under c under)) stand at (expand_all s c under stand xs)) (expand_all s c under stand rest)
  expand_all s c under stand (item x rest) = both (given (expand s c under stand x)) (expand_all s c under stand rest)

  -- the items of the members with such a key: of `@list`, `@set` or `@graph`
  pub with_key : Settings → Inside → (Key → Bool) → Under → Stand → Members → Items
  with_key s i test under stand no_member = no_more
  with_key s i test under stand (member a n v rest) =
      if_key_is (test (key_of i.final n)) (λ _. given (expand s i.final under stand v)) (with_key s i test under stand rest)

  -- what the members say of their node
  pub members_say : Settings → Inside → Role → Members → NodeEntries
  members_say s i role no_member = nothing_said
  members_say s i role (member a n v rest) =
      then_entries
      (if_admitted (is_admitted role (key_of i.final n)) (λ _. said_by (key_of i.final n)
      (λ name. said_of (goes_forward role (term i.final n)) name (by_form (form_of (term i.final n) v) v (term i.final n)
      (λ _. language_map i.final v)
      (λ t. map_items s i.final t n v)
      (λ _. contained (term i.final n) (is_list_object s i.final (property_of n) elsewhere v) (place_of v) (expand s i.final (property_of n) elsewhere v))))
      (λ _. types_said i.base (type_strings v))
      (λ _. given (expand s i.final graph_property elsewhere v))
      (λ _. given (expand s i.final no_property elsewhere v))
      (λ _. nested_said (nest_inside s i n) (λ j. nested s j v))
      (λ _. reversed s i.final v)))
      (members_say s i role rest)

  -- what a map under `@nest` says, or an array of such maps
  pub nested : Settings → Inside → Tree → NodeEntries
  nested s i (scalar at v) = nothing_said
  nested s i (array at xs) = all_nested s i xs
  nested s i (object at ms) = members_say s i nested_member ms

  pub all_nested : Settings → Inside → Trees → NodeEntries
  all_nested s i no_item = nothing_said
  all_nested s i (item (object at ms) rest) = then_entries (members_say s i nested_member ms) (all_nested s i rest)
  all_nested s i (item x rest) = all_nested s i rest

  -- what the map of `@reverse` says
  pub reversed : Settings → Context → Tree → NodeEntries
  reversed s c (scalar at v) = nothing_said
  reversed s c (array at xs) = nothing_said
  reversed s c (object at ms) = decided_said (decide s c reverse_property elsewhere at ms) (λ i. members_say s i reversed_member ms)

  -- the items of a container's map, in the entries' own contexts
  pub map_items : Settings → Context → TermDef → Text → Tree → Items
  map_items s d t name (scalar at v) = no_more
  map_items s d t name (array at xs) = no_more
  map_items s d t name (object at ms) = map_entries s d t name ms

  pub map_entries : Settings → Context → TermDef → Text → Members → Items
  map_entries s d t name no_member = no_more
  map_entries s d t name (member a n v rest) =
      both (all_with_addition (addition d t n) (in_entry (entry_context s d t n) (λ c. expand s c (property_of name) (entry_stand t) v)))
      (map_entries s d t name rest)

  pub language_map : Context → Tree → Items
  language_map d (scalar at v) = no_more
  language_map d (array at xs) = no_more
  language_map d (object at ms) = language_entries d ms

  pub language_entries : Context → Members → Items
  language_entries d no_member = no_more
  language_entries d (member a n v rest) = both (language_values (language_key d n) v) (language_entries d rest)

-- the items of a document
abbrev pub expanded_document : Settings → Tree → Items
expanded_document s t = given (expand s (initial s.base) no_property root t)
