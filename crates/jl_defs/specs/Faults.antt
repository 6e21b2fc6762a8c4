-- All faults of a document, with their codes (JSON-LD 1.1 API, section 9.6) and their places (this project's own rules). A fault
-- belongs to an object's contexts, to a key (judged by this key and earlier ones), to a value (judged by how it begins or by its
-- parts), or to the end of an object.
use Rattle.std.specs.Prelude.{ℕ, Bool, true, false, ◌&&◌, ◌||◌, ◌≡◌, List, [], ◌∷◌, ◌++◌, Option, Some, None, Result, Ok, Err}
use Rattle.std.specs.List.{list_all}
use Rattle.jl_model.specs.JsonTree.{Tree, scalar, array, object, Trees, no_item, item, Members, no_member, member}
use Rattle.jl_model.specs.declared.scalars.Scalar.{Scalar}
use Rattle.jl_model.specs.declared.scalars.Scalar.TheVariants.{Null}
use Rattle.jl_model.specs.declared.codes.Code.{Code}
use Rattle.jl_model.specs.declared.codes.Code.TheVariants as code
use Rattle.jl_model.specs.declared.faults.Fault.{Fault}
use Rattle.jl_defs.specs.Texts.{Text}
use Rattle.jl_defs.specs.Trees.{place_of}
use Rattle.jl_defs.specs.Context.{TermDef, Context, term, initial}
use Rattle.jl_defs.specs.Settings.{Settings, Under, no_property, graph_property, reverse_property, property_of, Stand, root, elsewhere, inside_of, drops}
use Rattle.jl_defs.specs.Keys.{Key, value, graph, included, list, set, reverse, nest, property, key_of, is_kind, is_value, is_list, is_set, is_index}
use Rattle.jl_defs.specs.ObjectContexts.{fault, Inside, decide, property_context}
use Rattle.jl_defs.specs.Values.{Valued, refused, value_of}
use Rattle.jl_defs.specs.ValueObjects.{all_with, first_with, is_json}
use Rattle.jl_defs.specs.Canon.{json_faults}
use Rattle.jl_defs.specs.Items.{Items, given}
use Rattle.jl_defs.specs.Kept.{Role, own_member, nested_member, reversed_member, refusal, Form, json_form, language_form, map_form, plain_form, form_of, nest_inside, any_key, is_only_language, entries, is_list_object}
use Rattle.jl_defs.specs.Maps.{is_none_key, entry_stand, entry_context, map_kind_of}
use Rattle.jl_defs.specs.Expansion.{expand, by_form, contained, language_map, map_items, is_reverse_term}
use Rattle.jl_defs.specs.LateKeys.{if_so, late_contexts, late_members}
use Rattle.jl_defs.specs.MemberFaults.{Seen, nothing_seen, key_faults, takes_json, shape_faults, language_map_faults, turned_faults, map_item_faults, checked_kind, closing_faults}

-- the fault of a scalar's value
abbrev pub valued_fault : ℕ → Valued → List Fault
valued_fault at (refused c) = fault c at ∷ []
valued_fault at v = []

-- a scalar in the context of its property, or the fault of that
abbrev pub scalar_in : Text → ℕ → Scalar → Result Context Code → List Fault
scalar_in name at v (Ok c) = valued_fault at (value_of c name v)
scalar_in name at v (Err e) = fault e at ∷ []

-- a scalar that isn't dropped: its property's scoped context, or its number
abbrev pub scalar_faults : Settings → Context → Under → ℕ → Scalar → List Fault
scalar_faults s c under at Null = []
scalar_faults s c (property_of name) at v = scalar_in name at v (property_context s c (property_of name) c)
scalar_faults s c under at v = []

-- where an object's contexts fail, nothing from inside it counts
abbrev pub decided_faults : Result Inside Fault → (Inside → List Fault) → List Fault
decided_faults (Ok i) answer = answer i
decided_faults (Err f) answer = f ∷ []

-- a context that is at fault says that alone, at the value to which it is applied
abbrev pub applied_faults : {A : Type 0} → ℕ → Result A Code → (A → List Fault) → List Fault
applied_faults at (Ok c) answer = answer c
applied_faults at (Err e) answer = fault e at ∷ []

-- a key that may not stand here hides its value
abbrev pub unless_refused : Option Code → ℕ → (Unit {0} → List Fault) → List Fault
unless_refused None at fs = fs tt
unless_refused (Some c) at fs = fault c at ∷ []

-- the faults from within a value, by its member's key
abbrev pub inside_by : Key → Bool → (Unit {0} → List Fault) → (Under → List Fault) → (Unit {0} → List Fault) → (Unit {0} → List Fault)
    → (Unit {0} → List Fault) → (Unit {0} → List Fault) → (Unit {0} → List Fault) → (Unit {0} → List Fault) → List Fault
inside_by (property name) ignored numbers under included_faults properties nested reversed listed set_faults = properties tt
inside_by value ignored numbers under included_faults properties nested reversed listed set_faults = numbers tt
inside_by graph ignored numbers under included_faults properties nested reversed listed set_faults = under graph_property
inside_by included ignored numbers under included_faults properties nested reversed listed set_faults = under no_property ++ included_faults tt
inside_by list true numbers under included_faults properties nested reversed listed set_faults = []
inside_by list false numbers under included_faults properties nested reversed listed set_faults = listed tt
inside_by set ignored numbers under included_faults properties nested reversed listed set_faults = set_faults tt
inside_by nest ignored numbers under included_faults properties nested reversed listed set_faults = nested tt
inside_by reverse ignored numbers under included_faults properties nested reversed listed set_faults = reversed tt
inside_by k ignored numbers under included_faults properties nested reversed listed set_faults = []

-- the values of a property by their form
abbrev pub faults_by : Form → Option TermDef → (Unit {0} → List Fault) → (Unit {0} → List Fault) → (TermDef → List Fault) → (Unit {0} → List Fault) → List Fault
faults_by json_form t numbers languages mapped plain = numbers tt
faults_by language_form t numbers languages mapped plain = languages tt
faults_by map_form None numbers languages mapped plain = []
faults_by map_form (Some t) numbers languages mapped plain = mapped t
faults_by plain_form t numbers languages mapped plain = plain tt

-- a property whose items are turned
abbrev pub turns : Role → Option TermDef → Bool
turns own_member t = is_reverse_term t
turns nested_member t = is_reverse_term t
turns reversed_member t = true

abbrev pub if_turned : Bool → (Unit {0} → List Fault) → List Fault
if_turned true fs = fs tt
if_turned false fs = []

abbrev pub json_numbers : Inside → Tree → List Fault
json_numbers i v = if_so (is_json i.input) (json_faults v)

abbrev pub language_faults : Tree → List Fault
language_faults (object at ms) = language_map_faults ms
language_faults (array at xs) = []
language_faults (scalar at v) = []

-- the items of a property, as its node says them
abbrev pub property_items : Settings → Context → Text → Tree → Items
property_items s d name v =
    given (by_form (form_of (term d name) v) v (term d name)
    (λ _. language_map d v)
    (λ t. map_items s d t name v)
    (λ _. contained (term d name) (is_list_object s d (property_of name) elsewhere v) (place_of v) (expand s d (property_of name) elsewhere v)))

-- the faults of a property's values, by their form, and of their items where they are turned
abbrev pub property_faults : Settings → Context → Role → Text → Tree → (TermDef → List Fault) → (Unit {0} → List Fault) → List Fault
property_faults s d role name v mapped plain =
    faults_by (form_of (term d name) v) (term d name) (λ _. json_faults v) (λ _. language_faults v) mapped plain
    ++ if_turned (turns role (term d name)) (λ _. turned_faults (property_items s d name v))

-- a kind of object that is no node: a value, what has only a language, and what would be a list
abbrev pub is_no_node : Inside → Members → List Key → Bool
is_no_node i ms ks = any_key is_value ks || (is_only_language ks || (any_list (first_with is_list i.final ms) && list_all is_index ks))
  where
    any_list : Option Tree → Bool
    any_list None = false
    any_list (Some t) = true

abbrev pub included_fault : ℕ → List Fault
included_fault at = fault code.InvalidIncludedValue at ∷ []

-- a set stands for its items
abbrev pub judged_object : ℕ → Inside → Members → List Key → (Unit {0} → List Fault) → List Fault
judged_object at i ms ks in_set =
    elim (is_no_node i ms ks) [ true ↦ included_fault at | false ↦ elim (any_key is_set ks) [ true ↦ in_set tt | false ↦ [] ] ]

abbrev pub judged_by : Result Inside Fault → (Inside → List Fault) → List Fault
judged_by (Ok i) answer = answer i
judged_by (Err f) answer = []

abbrev pub if_set : Bool → (Unit {0} → List Fault) → List Fault → List Fault
if_set true fs rest = fs tt ++ rest
if_set false fs rest = rest

-- what stands under `@included` without being a node, judged before anything is dropped (this project's own rule)
unfoldable mutual
  pub judged : Settings → Context → Tree → List Fault
  judged s c (scalar at v) = included_fault at
  judged s c (array at xs) = all_judged s c xs
  judged s c (object at ms) =
      judged_by (decide s c no_property elsewhere at ms)
      (λ i. judged_object at i ms (entries s i own_member no_property ms) (λ _. judged_in_set s i ms))

  pub all_judged : Settings → Context → Trees → List Fault
  all_judged s c no_item = []
  all_judged s c (item x rest) = judged s c x ++ all_judged s c rest

  pub judged_in_set : Settings → Inside → Members → List Fault
  judged_in_set s i no_member = []
  judged_in_set s i (member a n v rest) = if_set (is_set (key_of i.final n)) (λ _. judged s i.final v) (judged_in_set s i rest)

abbrev pub see_kind : Bool → Tree → List Tree → List Tree
see_kind true v ks = ks ++ v ∷ []
see_kind false v ks = ks

-- what has been seen after a member
abbrev pub see : Settings → Inside → Role → Under → Seen → ℕ → Text → Tree → Seen
see s i role under seen at name v = record {
  entries = seen.entries ++ entries s i role under (member at name v no_member);
  kinds = see_kind (is_kind (key_of i.final name)) v seen.kinds;
}

-- inside `@nest`, the member for it has put its entry
abbrev pub see_nest : Seen → Seen
see_nest seen = record seen { entries = seen.entries ++ nest ∷ [] }

-- under `@nest` the members are the object's own
abbrev pub see_nested : Settings → Inside → Under → Seen → Members → Seen
see_nested s i under seen ms = record seen { entries = seen.entries ++ entries s i nested_member under ms }

abbrev pub see_nested_in : Result Inside Code → (Inside → Seen) → Seen → Seen
see_nested_in (Ok i) answer seen = answer i
see_nested_in (Err e) answer seen = seen

-- where the members stand: their role, the property of their object, its place among sets, and the values of all its keys for `@type`
pub record Place : Type 0 where
  pub role : Role
  pub under : Under
  pub stand : Stand
  pub kinds : List Tree

abbrev pub place : Role → Under → Stand → List Tree → Place
place role under stand kinds = record { role = role; under = under; stand = stand; kinds = kinds }

abbrev pub nested_place : Place → Place
nested_place p = record p { role = nested_member }

unfoldable mutual
  pub value_faults : Settings → Context → Under → Stand → Tree → List Fault
  value_faults s c under stand (scalar at v) = scalar_faults s c under at v
  value_faults s c under stand (array at xs) = items_faults s c under (inside_of stand) xs
  value_faults s c under stand (object at ms) =
      decided_faults (decide s c under stand at ms)
      (λ i. members_faults s i (place own_member under stand (all_with is_kind i.final ms)) nothing_seen ms
      ++ (late_members s c under stand at i ms ++ closing_faults under i at ms (entries s i own_member under ms)))
      ++ late_contexts s.order ms

  pub items_faults : Settings → Context → Under → Stand → Trees → List Fault
  items_faults s c under stand no_item = []
  items_faults s c under stand (item x rest) = value_faults s c under stand x ++ items_faults s c under stand rest

  -- the faults of members, after those that were seen
  pub members_faults : Settings → Inside → Place → Seen → Members → List Fault
  members_faults s i p seen no_member = []
  members_faults s i p seen (member a n v rest) =
      unless_refused (refusal p.role (key_of i.final n)) a (λ _.
      key_faults (key_of i.final n) p.under seen a
      ++ (shape_faults (key_of i.final n) (takes_json s.order i seen p.kinds) a v
      ++ inside_by (key_of i.final n) (drops p.under)
      (λ _. json_numbers i v)
      (λ under. value_faults s i.final under elsewhere v)
      (λ _. judged s i.final v)
      (λ _. property_faults s i.final p.role n v
      (λ t. map_faults s i.final t n v)
      (λ _. value_faults s i.final (property_of n) elsewhere v))
      (λ _. nested_faults s i n p (see_nest seen) v)
      (λ _. reversed_faults s i.final v)
      (λ _. value_faults s i.final p.under elsewhere v)
      (λ _. value_faults s i.final p.under (inside_of p.stand) v)))
      ++ members_faults s i p (see s i p.role p.under seen a n v) rest

  -- a map under `@nest`, or an array of such maps
  pub nested_faults : Settings → Inside → Text → Place → Seen → Tree → List Fault
  nested_faults s i name p seen (scalar at v) = []
  nested_faults s i name p seen (array at xs) = all_nested_faults s i name p seen xs
  nested_faults s i name p seen (object at ms) = applied_faults at (nest_inside s i name) (λ j. members_faults s j (nested_place p) seen ms)

  pub all_nested_faults : Settings → Inside → Text → Place → Seen → Trees → List Fault
  all_nested_faults s i name p seen no_item = []
  all_nested_faults s i name p seen (item (object at ms) rest) =
      applied_faults at (nest_inside s i name) (λ j. members_faults s j (nested_place p) seen ms)
      ++ all_nested_faults s i name p (see_nested_in (nest_inside s i name) (λ j. see_nested s j p.under seen ms) seen) rest
  all_nested_faults s i name p seen (item x rest) = fault code.InvalidNestValue (place_of x) ∷ all_nested_faults s i name p seen rest

  -- the map of `@reverse`
  pub reversed_faults : Settings → Context → Tree → List Fault
  reversed_faults s c (scalar at v) = []
  reversed_faults s c (array at xs) = []
  reversed_faults s c (object at ms) =
      decided_faults (decide s c reverse_property elsewhere at ms)
      (λ i. members_faults s i (place reversed_member reverse_property elsewhere []) nothing_seen ms
      ++ late_members s c reverse_property elsewhere at i ms)
      ++ late_contexts s.order ms

  -- a container's map
  pub map_faults : Settings → Context → TermDef → Text → Tree → List Fault
  map_faults s d t name (scalar at v) = []
  map_faults s d t name (array at xs) = []
  map_faults s d t name (object at ms) = entries_faults s d t name ms

  pub entries_faults : Settings → Context → TermDef → Text → Members → List Fault
  entries_faults s d t name no_member = []
  entries_faults s d t name (member a n v rest) =
      applied_faults (place_of v) (entry_context s d t n) (λ c.
      value_faults s c (property_of name) (entry_stand t) v
      ++ map_item_faults (checked_kind (is_none_key d n) (map_kind_of t)) (given (expand s c (property_of name) (entry_stand t) v)))
      ++ entries_faults s d t name rest

-- all faults of a document
unfoldable pub faults : Settings → Tree → List Fault
faults s t = value_faults s (initial s.base) no_property root t

-- the tree is accepted
abbrev pub AcceptsTree : Settings → Tree → Type 0
AcceptsTree s t = faults s t ≡ []
