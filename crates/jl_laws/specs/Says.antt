-- What a value says at its spot: one walk over the tree, without expanded items and without a node map
-- (JSON-LD 1.1 API, sections 5.1.2, 7.2 and 8).
use Rattle.std.specs.Prelude.{ℕ, Bool, true, false, not, ◌&&◌, List, [], ◌∷◌, ◌++◌, Option, Some, None, Result, Ok, Err}
use Rattle.jl_model.specs.JsonTree.{Tree, scalar, array, object, Trees, no_item, item, Members, no_member, member}
use Rattle.jl_model.specs.Parts.{Parts}
use Rattle.jl_model.specs.declared.scalars.Scalar.{Scalar}
use Rattle.jl_model.specs.declared.scalars.Scalar.TheVariants.{Null, Str}
use Rattle.jl_model.specs.declared.codes.Code.{Code}
use Rattle.jl_model.specs.declared.faults.Fault.{Fault}
use Rattle.jl_model.specs.declared.terms.Term.{Term}
use Rattle.jl_model.specs.declared.expansions.Expanded.{Expanded}
use Rattle.jl_model.specs.declared.expansions.Expanded.TheVariants as expanded
use Rattle.jl_model.specs.declared.graph_scopes.GraphScope.{GraphScope}
use Rattle.jl_model.specs.declared.graph_scopes.GraphScope.TheVariants.{Main}
use Rattle.jl_defs.specs.Texts.{Text}
use Rattle.jl_defs.specs.Context.{TermDef, Context, term, initial}
use Rattle.jl_defs.specs.Settings.{Settings, Under, no_property, graph_property, reverse_property, property_of, elsewhere, term_under, lists}
use Rattle.jl_defs.specs.Keys.{Key, kind, graph, included, reverse, nest, property, key_of, is_list, is_set, is_graph}
use Rattle.jl_defs.specs.ObjectContexts.{Inside, decide, property_context}
use Rattle.jl_defs.specs.Values.{value_of}
use Rattle.jl_defs.specs.ValueObjects.{expand_type, value_object as value_of_object, unless_refused, json_value}
use Rattle.jl_defs.specs.Kept.{Role, own_member, nested_member, reversed_member, is_admitted, Form, json_form, language_form, map_form, plain_form, form_of, nest_inside, scalar_gives, value_gives, gives, entries, is_list_object}
use Rattle.jl_defs.specs.Graphs.{Shape, value_object, list_object, set_object, language_alone, graph_alone, node_object, reads_as_graph, shape_of}
use Rattle.jl_defs.specs.Maps.{addition, entry_context, language_key, language_string}
use Rattle.jl_defs.specs.NodeMap.{term_of_text, graph_of, rdf_type}
use Rattle.jl_defs.specs.Dataset.{Head, link, term_of_value}
use Rattle.jl_defs.specs.Expansion.{naming, type_strings, goes_forward, is_plain_graph}
use Rattle.jl_laws.specs.Spots.{linked, loose, Around, document, ordinary, graphs, map_entry, graph_map_entry, Spot, spot, stand_of, inside, inside_list, moved, Said, nothing, then_says, head, Own, node_says, graph_object_says, value_says, scalar_says, Content, list_hangs, list_says}

-- a scalar in the context of its property
abbrev pub scalar_in : Spot → Text → ℕ → Scalar → Result Context Code → Said
scalar_in p name at v (Ok c) = scalar_says p.role.around p.role.hanging at (value_of c name v) p.head
scalar_in p name at v (Err e) = nothing p.head

-- null says nothing, and neither does any scalar under no property or `@graph`
abbrev pub scalar_at : Settings → Spot → Under → ℕ → Scalar → Said
scalar_at s p under at Null = nothing p.head
scalar_at s p (property_of name) at v = scalar_in p name at v (property_context s p.context (property_of name) p.context)
scalar_at s p under at v = nothing p.head

-- an object whose contexts are at fault says nothing
abbrev pub decided_says : Head → Result Inside Fault → (Inside → Said) → Said
decided_says h (Ok i) answer = answer i
decided_says h (Err e) answer = nothing h

abbrev pub decided_quads : Result Inside Fault → (Inside → List Parts) → List Parts
decided_quads (Ok i) answer = answer i
decided_quads (Err e) answer = []

abbrev pub nested_quads : Result Inside Code → (Inside → List Parts) → List Parts
nested_quads (Ok i) answer = answer i
nested_quads (Err e) answer = []

-- a value object
abbrev pub value_at_spot : Bool → Spot → Inside → ℕ → Members → Said
value_at_spot true p i at ms = value_says p.role.around p.role.hanging at (term_of_value (unless_refused (value_of_object i ms))) p.head
value_at_spot false p i at ms = nothing p.head

-- a pure graph says its content, and a graph object is used as it is
abbrev pub graph_at_spot : Around → Spot → Inside → ℕ → Members → (Unit {0} → Said) → Own → Said
graph_at_spot document p i at ms content own = content tt
graph_at_spot around p i at ms content own = graph_object_says around p.role.hanging at (naming i.final ms) own p.head

-- an object by its entries: its list, its set, its content and what it says as a node are asked where they matter
abbrev pub object_says : Shape → Spot → Inside → ℕ → Members → Content → (Unit {0} → Said) → (Unit {0} → Said) → Own → Said
object_says value_object p i at ms its_list its_set content own = value_at_spot (value_gives p.under i ms) p i at ms
object_says list_object p i at ms its_list its_set content own = list_says p.role.around p.role.hanging at its_list p.head
object_says set_object p i at ms its_list its_set content own = its_set tt
object_says language_alone p i at ms its_list its_set content own = nothing p.head
object_says graph_alone p i at ms its_list its_set content own = graph_at_spot p.role.around p i at ms content own
object_says node_object p i at ms its_list its_set content own = node_says p.role.around p.role.hanging at (naming i.final ms) own p.head

-- an array inside an array under a container with `@list` is a list
abbrev pub inner_says : Bool → Spot → ℕ → Content → (Unit {0} → Said) → Said
inner_says true p at its_list joined = list_says p.role.around p.role.hanging at its_list p.head
inner_says false p at its_list joined = joined tt

abbrev pub if_key_is : Bool → (Unit {0} → Said) → Head → Said
if_key_is true said h = said tt
if_key_is false said h = nothing h

-- types of a node
abbrev pub type_says : Option Term → GraphScope → Expanded → List Parts
type_says n scope expanded.Null = []
type_says n scope (expanded.Keyword text) = link (head n rdf_type scope) (term_of_text text)
type_says n scope (expanded.Name text) = link (head n rdf_type scope) (term_of_text text)

abbrev pub types_say : Option Term → GraphScope → Context → List Text → List Parts
types_say n scope b [] = []
types_say n scope b (text ∷ texts) = type_says n scope (expand_type b text) ++ types_say n scope b texts

-- the strings of a language map
abbrev pub language_items_say : Head → Option Text → Trees → List Parts
language_items_say h tag no_item = []
language_items_say h tag (item (scalar at (Str text)) rest) = link h (term_of_value (language_string tag text)) ++ language_items_say h tag rest
language_items_say h tag (item x rest) = language_items_say h tag rest

abbrev pub language_entry_says : Head → Option Text → Tree → List Parts
language_entry_says h tag (scalar at (Str text)) = link h (term_of_value (language_string tag text))
language_entry_says h tag (scalar at v) = []
language_entry_says h tag (array at xs) = language_items_say h tag xs
language_entry_says h tag (object at ms) = []

abbrev pub language_entries_say : Head → Context → Members → List Parts
language_entries_say h d no_member = []
language_entries_say h d (member a n v rest) = language_entry_says h (language_key d n) v ++ language_entries_say h d rest

abbrev pub language_map_says : Head → Context → Tree → List Parts
language_map_says h d (scalar at v) = []
language_map_says h d (array at xs) = []
language_map_says h d (object at ms) = language_entries_say h d ms

-- what stands round the values of a map's entry
abbrev pub entry_around : Settings → Context → TermDef → Text → Around
entry_around s d t name = elim t.containers.graph [ true ↦ graph_map_entry (addition d t name) | false ↦ map_entry (addition d t name) ]

abbrev pub in_entry : Result Context Code → (Context → List Parts) → List Parts
in_entry (Ok c) answer = answer c
in_entry (Err e) answer = []

-- a value gives something: a scalar where the scoped context of its property has no fault
abbrev pub is_ok : {A E : Type 0} → Result A E → Bool
is_ok (Ok x) = true
is_ok (Err e) = false

abbrev pub is_given : Settings → Context → Under → Tree → Bool
is_given s c under (scalar at v) = scalar_gives under v && is_ok (property_context s c under c)
is_given s c under (array at xs) = true
is_given s c under (object at ms) = gives s c under elsewhere (object at ms)

abbrev pub if_given : Bool → (Unit {0} → List Parts) → List Parts
if_given true quads = quads tt
if_given false quads = []

-- the values of a container with `@list` are one list, those of one with `@graph` stand in graphs of their own
abbrev pub contained_says : Option TermDef → Bool → Bool → Head → Content → (Around → List Parts) → List Parts
contained_says t is_list is_given h its_list around =
    elim (lists t && not is_list) [
      | true ↦ if_given is_given (λ _. list_hangs its_list h)
      | false ↦ elim (is_plain_graph t) [ true ↦ around graphs | false ↦ around ordinary ]
    ]

-- the values of a property by their form
abbrev pub by_form : Form → Option TermDef → (Unit {0} → List Parts) → (Unit {0} → List Parts) → (TermDef → List Parts) → (Unit {0} → List Parts) → List Parts
by_form json_form t json languages mapped plain = json tt
by_form language_form t json languages mapped plain = languages tt
by_form map_form None json languages mapped plain = []
by_form map_form (Some t) json languages mapped plain = mapped t
by_form plain_form t json languages mapped plain = plain tt

-- what a member says, by its key
abbrev pub by_key : Key → (Text → List Parts) → (Unit {0} → List Parts) → (Unit {0} → List Parts) → (Unit {0} → List Parts) → (Unit {0} → List Parts) → (Unit {0} → List Parts) → List Parts
by_key (property name) properties types held included_says nested reversed = properties name
by_key kind properties types held included_says nested reversed = types tt
by_key graph properties types held included_says nested reversed = held tt
by_key included properties types held included_says nested reversed = included_says tt
by_key nest properties types held included_says nested reversed = nested tt
by_key reverse properties types held included_says nested reversed = reversed tt
by_key k properties types held included_says nested reversed = []

-- where the values of a property hang
abbrev pub property_head : Role → Option TermDef → Text → Option Term → GraphScope → Head
property_head role t name n scope = record { subject = n; predicate = name; scope = scope; forward = goes_forward role t }

-- values that stand in a graph by themselves: nothing hangs on a node
abbrev pub graph_head : GraphScope → Head
graph_head scope = head None [] scope

abbrev pub in_graph : Context → Under → GraphScope → Spot
in_graph c under scope = spot c under ordinary loose (graph_head scope)

unfoldable mutual
  pub walk : Settings → Spot → Tree → Said
  walk s p (scalar at v) = scalar_at s p p.under at v
  walk s p (array at xs) = walk_all s (moved p (inside p.role.around) p.head) xs
  walk s p (object at ms) =
      decided_says p.head (decide s p.context p.under (stand_of p.role.around) at ms)
      (λ i. object_says (shape_of (reads_as_graph s p.context p.under (stand_of p.role.around) at i ms) (entries s i own_member p.under ms)) p i at ms
      (λ hanging h. walk_key s i is_list (spot i.final p.under ordinary hanging h) ms)
      (λ _. walk_key s i is_set (spot i.final p.under (inside p.role.around) p.role.hanging p.head) ms)
      (λ _. walk_key s i is_graph (spot i.final graph_property ordinary p.role.hanging p.head) ms)
      (λ n scope. members_say s i own_member n scope ms))

  -- the items of an array, one after another
  pub walk_all : Settings → Spot → Trees → Said
  walk_all s p no_item = nothing p.head
  walk_all s p (item (array at xs) rest) =
      then_says (inner_says (lists (term_under p.context p.under)) p at
      (λ hanging h. walk_all s (spot p.context p.under (inside_list p.role.around) hanging h) xs)
      (λ _. walk_all s p xs))
      (λ h. walk_all s (moved p p.role.around h) rest)
  walk_all s p (item x rest) = then_says (walk s p x) (λ h. walk_all s (moved p p.role.around h) rest)

  -- the values of the members with such a key: of `@list`, `@set` or `@graph`
  pub walk_key : Settings → Inside → (Key → Bool) → Spot → Members → Said
  walk_key s i test p no_member = nothing p.head
  walk_key s i test p (member a n v rest) =
      then_says (if_key_is (test (key_of i.final n)) (λ _. walk s p v) p.head)
      (λ h. walk_key s i test (moved p p.role.around h) rest)

  -- what the members say of their node, in its graph
  pub members_say : Settings → Inside → Role → Option Term → GraphScope → Members → List Parts
  members_say s i role n scope no_member = []
  members_say s i role n scope (member a name v rest) =
      if_given (is_admitted role (key_of i.final name)) (λ _. by_key (key_of i.final name)
      (λ iri. by_form (form_of (term i.final name) v) (term i.final name)
      (λ _. link (property_head role (term i.final name) iri n scope) (term_of_value (json_value v)))
      (λ _. language_map_says (property_head role (term i.final name) iri n scope) i.final v)
      (λ t. map_says s i.final t name (property_head role (term i.final name) iri n scope) v)
      (λ _. contained_says (term i.final name) (is_list_object s i.final (property_of name) elsewhere v) (is_given s i.final (property_of name) v)
      (property_head role (term i.final name) iri n scope)
      (λ hanging h. walk s (spot i.final (property_of name) ordinary hanging h) v)
      (λ around. (walk s (spot i.final (property_of name) around linked (property_head role (term i.final name) iri n scope)) v).0)))
      (λ _. types_say n scope i.base (type_strings v))
      (λ _. (walk s (in_graph i.final graph_property (graph_of n)) v).0)
      (λ _. (walk s (in_graph i.final no_property scope) v).0)
      (λ _. nested_quads (nest_inside s i name) (λ j. nested_says s j n scope v))
      (λ _. reversed_says s i.final n scope v))
      ++ members_say s i role n scope rest

  -- what a map under `@nest` says, or an array of such maps
  pub nested_says : Settings → Inside → Option Term → GraphScope → Tree → List Parts
  nested_says s i n scope (scalar at v) = []
  nested_says s i n scope (array at xs) = all_nested_say s i n scope xs
  nested_says s i n scope (object at ms) = members_say s i nested_member n scope ms

  pub all_nested_say : Settings → Inside → Option Term → GraphScope → Trees → List Parts
  all_nested_say s i n scope no_item = []
  all_nested_say s i n scope (item (object at ms) rest) = members_say s i nested_member n scope ms ++ all_nested_say s i n scope rest
  all_nested_say s i n scope (item x rest) = all_nested_say s i n scope rest

  -- what the map of `@reverse` says
  pub reversed_says : Settings → Context → Option Term → GraphScope → Tree → List Parts
  reversed_says s c n scope (scalar at v) = []
  reversed_says s c n scope (array at xs) = []
  reversed_says s c n scope (object at ms) =
      decided_quads (decide s c reverse_property elsewhere at ms) (λ i. members_say s i reversed_member n scope ms)

  -- the entries of a container's map, in their own contexts
  pub map_says : Settings → Context → TermDef → Text → Head → Tree → List Parts
  map_says s d t name h (scalar at v) = []
  map_says s d t name h (array at xs) = []
  map_says s d t name h (object at ms) = map_entries_say s d t name h ms

  pub map_entries_say : Settings → Context → TermDef → Text → Head → Members → List Parts
  map_entries_say s d t name h no_member = []
  map_entries_say s d t name h (member a n v rest) =
      in_entry (entry_context s d t n) (λ c. (walk s (spot c (property_of name) (entry_around s d t n) linked h) v).0)
      ++ map_entries_say s d t name h rest

-- the quads that a value says at its spot
abbrev pub says : Settings → Spot → Tree → List Parts
says s p t = (walk s p t).0

-- the spot of a document
abbrev pub root_spot : Settings → Spot
root_spot s = spot (initial s.base) no_property document loose (graph_head Main)
