-- The measures of what has been read, and the bound of the weight (this project's own rules).
use Rattle.std.specs.Prelude.{ℕ, zero, suc, ◌+◌, ◌-◌, ◌*◌, max, Bool, true, false, not, ◌||◌, List, [], ◌∷◌, ◌++◌, length, Option, Some, None, Result, Ok, Err}
use Rattle.jl_model.specs.JsonTree.{Members, no_member, member}
use Rattle.jl_model.specs.declared.codes.Code.{Code}
use Rattle.jl_model.specs.declared.faults.Fault.{Fault}
use Rattle.jl_model.specs.declared.orders.Order.{Order}
use Rattle.jl_model.specs.declared.orders.Order.TheVariants.{Any, Streaming}
use Rattle.jl_model.specs.declared.terms.Term.{Term}
use Rattle.jl_model.specs.declared.terms.Term.TheVariants.{Iri, Blank, Literal}
use Rattle.jl_model.specs.declared.graph_scopes.GraphScope.{GraphScope}
use Rattle.jl_model.specs.declared.graph_scopes.GraphScope.TheVariants.{LeftOut, Main, Named}
use Rattle.jl_defs.specs.Texts.{Text, is_among}
use Rattle.jl_defs.specs.Context.{TermDef, Context, term, initial, size}
use Rattle.jl_defs.specs.Settings.{Settings, Under, no_property, graph_property, reverse_property, Stand, elsewhere, drops}
use Rattle.jl_defs.specs.Keys.{Key, its_context, graph, included, list, set, reverse, nest, value, property, key_of, is_id}
use Rattle.jl_defs.specs.ObjectContexts.{Own, Inside, decide, is_context_name, own_context, type_base}
use Rattle.jl_defs.specs.Kept.{own_member, Form, json_form, language_form, map_form, plain_form, form_of, nest_inside}
use Rattle.jl_defs.specs.Maps.{entry_context}
use Rattle.jl_defs.specs.Rest.{own_candidates, rest_of}
use Rattle.jl_defs.specs.OpenTree.{Open, unread, in_scalar, in_array, in_object, in_key, in_member, whole, stand_in, read_members}
use Rattle.jl_defs.specs.Settled.{kinds_awaited, decided, decided_by_key, settled, settled_by_key}
use Rattle.jl_defs.specs.Reported.{decide_read}
use Rattle.jl_defs.specs.Due.{Hang, Spot, free_spot, root_spot, item_spot, NodeSpot, open_entry, node_of, property_spot, entry_spot, listed_spot, set_spot}
use Rattle.jl_defs.specs.ValueObjects.{is_json}

-- the bytes of the scalar or key that is being read, where so many bytes have been read in all
unfoldable pub token : ℕ → Open → ℕ
token n unread = 0
token n (in_scalar at first) = n - at
token n (in_array at xs next) = token n next
token n (in_object at ms ends) = 0
token n (in_key at ms ends a) = n - a
token n (in_member at ms ends a name next) = token n next
token n (whole t) = 0

-- the names of keys, with 8 for each
abbrev pub keys : Members → ℕ
keys no_member = 0
keys (member a name v rest) = 8 + length name + keys rest

-- the names that hold where a value stands: its node, its graph, its property in both spellings, and the entry's key in a map
pub record Names : Type 0 where
  pub subject : Option Term
  pub scope : GraphScope
  pub written : Text
  pub expanded : Text
  pub key : Text

abbrev pub no_names : Names
no_names = record { subject = None; scope = Main; written = []; expanded = []; key = [] }

abbrev pub term_bytes : Option Term → ℕ
term_bytes None = 0
term_bytes (Some (Iri iri)) = length iri
term_bytes (Some (Blank label)) = length label
term_bytes (Some (Literal lit)) = 0

abbrev pub scope_bytes : GraphScope → ℕ
scope_bytes LeftOut = 0
scope_bytes Main = 0
scope_bytes (Named t) = term_bytes (Some t)

abbrev pub names_size : Names → ℕ
names_size m = term_bytes m.subject + scope_bytes m.scope + length m.written + length m.expanded + length m.key

-- the property that a key means
abbrev pub property_text : Key → Text
property_text (property iri) = iri
property_text k = []

-- an open container outside the waiting part: its keys, its leading members, its context and the names in force
abbrev pub container : ℕ → ℕ → ℕ → Names → ℕ
container its_keys leading context m = 64 + its_keys + 4 * leading + 3 * context + 2 * names_size m

-- the greatest size among contexts
abbrev pub greatest : List Context → ℕ
greatest [] = 0
greatest (c ∷ cs) = max (size c) (greatest cs)

abbrev pub decided_contexts : Bool → Result Inside Fault → List Context
decided_contexts true (Ok i) = i.base ∷ i.final ∷ []
decided_contexts true (Err f) = []
decided_contexts false d = []

abbrev pub base_of : Result Context Fault → List Context
base_of (Ok c) = c ∷ []
base_of (Err f) = []

-- where members may come in any order, the only candidate is the base, and only once the object's context is whole
abbrev pub base_candidate : Settings → Context → Under → ℕ → Option Own → List Context
base_candidate s c under at None = []
base_candidate s c under at (Some own) = base_of (type_base s c under at (Some own) c)

abbrev pub candidates_of : Settings → Context → Under → Stand → ℕ → Members → List Context
candidates_of s c under stand at ms = by s.order
  where
    by : Order → List Context
    by Any = base_candidate s c under at (own_context Any ms)
    by Streaming = own_candidates s c under stand at ms

-- the greatest context of an object: outside it, among its candidates, and among those that were decided
abbrev pub big : Settings → Context → Under → Stand → ℕ → Members → Bool → Result Inside Fault → ℕ
big s c under stand at ms decided d = greatest (c ∷ (candidates_of s c under stand at ms ++ decided_contexts decided d))

-- the bytes of a member, from its key's quote to its end; a context isn't counted here
abbrev pub member_bytes : Text → ℕ → ℕ → ℕ
member_bytes name from to = elim (is_context_name name) [ true ↦ 0 | false ↦ to - from ]

abbrev pub count : Members → ℕ
count no_member = 0
count (member a name v rest) = 1 + count rest

-- the bytes of so many members
abbrev pub first_bytes : ℕ → Members → List ℕ → ℕ
first_bytes zero ms ends = 0
first_bytes (suc k) no_member ends = 0
first_bytes (suc k) (member a name v rest) [] = 0
first_bytes (suc k) (member a name v rest) (e ∷ ends) = member_bytes name a e + first_bytes k rest ends

-- the members that may decide an object in the order any: those for `@type` and `@id`
abbrev pub is_handed : Inside → Text → Bool
is_handed i name = is_among (kinds_awaited i) name || is_id (key_of i.final name)

abbrev pub handed_member : Inside → Text → ℕ → ℕ → ℕ
handed_member i name from to = elim (is_handed i name) [ true ↦ to - from | false ↦ 0 ]

abbrev pub handed_bytes : Inside → Members → List ℕ → ℕ
handed_bytes i no_member ends = 0
handed_bytes i (member a name v rest) [] = 0
handed_bytes i (member a name v rest) (e ∷ ends) = handed_member i name a e + handed_bytes i rest ends

-- what is open after closed members: nothing, a key, or a member
pub data Tail : Type 0 where
  no_tail : Tail
  key_tail : (at : ℕ) → Tail
  member_tail : (at : ℕ) → (name : Text) → (next : Open) → Tail

-- the members that have been read, the open one with them
abbrev pub with_tail : Members → Tail → Members
with_tail ms no_tail = ms
with_tail ms (key_tail at) = ms
with_tail ms (member_tail at name next) = read_members ms at name next

-- the bytes of the open member, from its key's quote on
abbrev pub tail_bytes : ℕ → Tail → ℕ
tail_bytes n no_tail = 0
tail_bytes n (key_tail at) = n - at
tail_bytes n (member_tail at name next) = member_bytes name at n

abbrev pub tail_keys : Tail → ℕ
tail_keys no_tail = 0
tail_keys (key_tail at) = 0
tail_keys (member_tail at name next) = 8 + length name

-- all members lead, and so does the open one
abbrev pub all_lead : ℕ → Members → List ℕ → Tail → ℕ
all_lead n ms ends t = first_bytes (count ms) ms ends + tail_bytes n t

-- the members before the rest lead
abbrev pub lead_before : ℕ → Members → List ℕ → Tail → Members → ℕ
lead_before n ms ends t no_member = all_lead n ms ends t
lead_before n ms ends t (member a name v rest) = first_bytes (count (with_tail ms t) - (1 + count rest)) ms ends

abbrev pub leading_streaming : Settings → Context → Under → Stand → ℕ → ℕ → Members → List ℕ → Tail → Bool → Result Inside Fault → ℕ
leading_streaming s c under stand at n ms ends t false d = all_lead n ms ends t
leading_streaming s c under stand at n ms ends t true (Err f) = all_lead n ms ends t
leading_streaming s c under stand at n ms ends t true (Ok i) = lead_before n ms ends t (rest_of s c under stand at i (with_tail ms t))

-- in the order any only closed members lead, and none once the object has settled
abbrev pub leading_any : Bool → Members → List ℕ → Result Inside Fault → ℕ
leading_any true ms ends d = 0
leading_any false ms ends (Err f) = 0
leading_any false ms ends (Ok i) = handed_bytes i ms ends

-- an object is decided, and is settled, by what has been read of it
abbrev pub decided_with : Settings → Context → Under → Stand → ℕ → Members → Tail → Bool
decided_with s c under stand at ms no_tail = decided s c under stand at ms
decided_with s c under stand at ms (key_tail a) = decided s c under stand at ms
decided_with s c under stand at ms (member_tail a name next) = decided_by_key s c under stand at ms a name next

abbrev pub settled_with : Settings → Context → Under → Stand → ℕ → Members → Tail → Bool
settled_with s c under stand at ms no_tail = settled s c under stand at ms
settled_with s c under stand at ms (key_tail a) = settled s c under stand at ms
settled_with s c under stand at ms (member_tail a name next) = settled_by_key s c under stand at ms a name next

abbrev pub decide_with : Settings → Context → Under → Stand → ℕ → Members → Tail → Result Inside Fault
decide_with s c under stand at ms no_tail = decide s c under stand at ms
decide_with s c under stand at ms (key_tail a) = decide s c under stand at ms
decide_with s c under stand at ms (member_tail a name next) = decide_read s c under stand at ms a name next

-- the bytes of the leading members
abbrev pub leading : Settings → Context → Under → Stand → ℕ → ℕ → Members → List ℕ → Tail → ℕ
leading s c under stand at n ms ends t = by s.order
  where
    by : Order → ℕ
    by Any = leading_any (settled_with s c under stand at ms t) ms ends (decide_with s c under stand at ms t)
    by Streaming = leading_streaming s c under stand at n ms ends t (decided_with s c under stand at ms t) (decide_with s c under stand at ms t)

-- the names that hold inside an object: its latest key is the written property from the moment it has been read
abbrev pub written_in : Names → Tail → Names
written_in m no_tail = m
written_in m (key_tail at) = m
written_in m (member_tail at name next) = record m { written = name }

abbrev pub expanded_in : Context → Names → Tail → Names
expanded_in d m no_tail = m
expanded_in d m (key_tail at) = m
expanded_in d m (member_tail at name next) = record m { written = name; expanded = property_text (key_of d name) }

-- the entry of the open member
abbrev pub tail_entry : Inside → Under → Tail → List Key
tail_entry i under no_tail = []
tail_entry i under (key_tail at) = []
tail_entry i under (member_tail at name next) = open_entry (key_of i.final name) under

-- the object as a node; the map of `@reverse` speaks of the node round it
abbrev pub node_in : Settings → Spot → Names → ℕ → Inside → Members → Tail → NodeSpot
node_in s p m at i ms t = by p.under
  where
    by : Under → NodeSpot
    by reverse_property = record { subject = m.subject; scope = m.scope; content = m.scope; pure = false }
    by under = node_of s p at i ms (tail_entry i p.under t)

abbrev pub is_property : Key → Bool
is_property (property iri) = true
is_property k = false

-- a key for a property has been read
abbrev pub has_property : Context → Members → Tail → Bool
has_property d no_member no_tail = false
has_property d no_member (key_tail at) = false
has_property d no_member (member_tail at name next) = is_property (key_of d name)
has_property d (member a name v rest) t = is_property (key_of d name) || has_property d rest t

-- the key of a map's entry is in force in the first object below the map, until a key for a property has been read there
abbrev pub entry_key : Context → Members → Tail → Text → Text
entry_key d ms t key = elim (has_property d ms t) [ true ↦ [] | false ↦ key ]

-- below an object the key of the map's entry that it stands in isn't in force
abbrev pub below_object : Names → Names
below_object m = record m { key = [] }

abbrev pub names_in : Settings → Spot → Names → ℕ → Members → Tail → Bool → Result Inside Fault → Names
names_in s p m at ms t false d = written_in m t
names_in s p m at ms t true (Err f) = written_in m t
names_in s p m at ms t true (Ok i) =
    expanded_in i.final
    (record m { subject = (node_in s p m at i ms t).subject; scope = (node_in s p m at i ms t).scope; key = entry_key i.final ms t m.key })
    t

-- what an open value is
pub data Part : Type 0 where
  value_part : (spot : Spot) → (names : Names) → Part
  -- a container's map
  map_part : (context : Context) → (t : TermDef) → (hang : Hang) → (scope : GraphScope) → (name : Text) → (names : Names) → Part
  -- a language map
  language_part : (context : Context) → (names : Names) → Part
  -- a map under `@nest`
  nest_part : (inside : Inside) → (spot : Spot) → (node : NodeSpot) → (name : Text) → (names : Names) → Part
  -- a JSON literal, or the value of `@context`
  literal_part : (context : Context) → (names : Names) → Part
  -- what nothing is said of
  silent_part : (context : Context) → (names : Names) → Part

abbrev pub part_context : Part → Context
part_context (value_part p m) = p.context
part_context (map_part d t hang scope name m) = d
part_context (language_part d m) = d
part_context (nest_part i p n name m) = i.final
part_context (literal_part c m) = c
part_context (silent_part c m) = c

abbrev pub part_names : Part → Names
part_names (value_part p m) = m
part_names (map_part d t hang scope name m) = m
part_names (language_part d m) = m
part_names (nest_part i p n name m) = m
part_names (literal_part c m) = m
part_names (silent_part c m) = m

abbrev pub silent : Part → Part
silent x = silent_part (part_context x) (part_names x)

-- five times the bytes of a literal, from where it begins
abbrev pub literal_bytes : ℕ → ℕ → Part → ℕ
literal_bytes n at (literal_part c m) = 5 * (n - at)
literal_bytes n at x = 0

-- the open item of an array
abbrev pub item_part : Part → Open → Part
item_part (value_part p m) next = value_part (item_spot p next) m
item_part (nest_part i p n name m) next = nest_part i p n name m
item_part x next = silent x

-- the value of a property, by its form
abbrev pub form_part : Form → Inside → Spot → GraphScope → Text → Option TermDef → Names → Part
form_part json_form i q scope name t m = literal_part i.final m
form_part language_form i q scope name t m = language_part i.final m
form_part map_form i q scope name None m = silent_part i.final m
form_part map_form i q scope name (Some t) m = map_part i.final t q.hang scope name m
form_part plain_form i q scope name t m = value_part q m

-- the value of a member, by its key
abbrev pub key_part : Key → Inside → Spot → NodeSpot → Text → Open → Names → Part
key_part (property iri) i p n name next m =
    form_part (form_of (term i.final name) (stand_in next)) i (property_spot i own_member n name iri) n.scope name (term i.final name) m
key_part its_context i p n name next m = literal_part i.final m
key_part value i p n name next m = elim (is_json i.input) [ true ↦ literal_part i.final m | false ↦ silent_part i.final m ]
key_part graph i p n name next m = value_part (free_spot i.final graph_property elsewhere n.content) (record m { scope = n.content })
key_part included i p n name next m = value_part (free_spot i.final no_property elsewhere n.scope) m
key_part list i p n name next m = elim (drops p.under) [ true ↦ silent_part i.final m | false ↦ value_part (listed_spot p i n) m ]
key_part set i p n name next m = value_part (set_spot p i) m
key_part nest i p n name next m = nest_part i p n name m
key_part reverse i p n name next m = value_part (free_spot i.final reverse_property elsewhere n.scope) m
key_part k i p n name next m = silent_part i.final m

-- before the contexts are decided only `@context` is looked into
abbrev pub undecided_part : Context → Text → Names → Part
undecided_part c name m = elim (is_context_name name) [ true ↦ literal_part c m | false ↦ silent_part c m ]

abbrev pub member_part : Settings → Spot → Names → ℕ → Members → Text → Open → Tail → Bool → Result Inside Fault → Part
member_part s p m at ms name next t false d = undecided_part p.context name (below_object (names_in s p m at ms t false d))
member_part s p m at ms name next t true (Err f) = undecided_part p.context name (below_object (names_in s p m at ms t true (Err f)))
member_part s p m at ms name next t true (Ok i) =
    key_part (key_of i.final name) i p (node_in s p m at i ms t) name next (below_object (names_in s p m at ms t true (Ok i)))

abbrev pub nested_part : Result Inside Code → Spot → NodeSpot → Text → Open → Names → Part → Part
nested_part (Ok j) p n name next m x = key_part (key_of j.final name) j p n name next (record m { written = name; expanded = property_text (key_of j.final name) })
nested_part (Err e) p n name next m x = silent x

abbrev pub entry_part : Result Context Code → Context → TermDef → Hang → GraphScope → Text → Text → Names → Part
entry_part (Ok c) d t hang scope name key m = value_part (entry_spot d c t hang scope name key) (record m { key = key })
entry_part (Err e) d t hang scope name key m = silent_part d (record m { key = key })

-- what a member's value is in a map that is no object
abbrev pub map_value_part : Settings → Part → Text → Open → Part
map_value_part s (map_part d t hang scope name m) key next = entry_part (entry_context s d t key) d t hang scope name key m
map_value_part s (language_part d m) key next = silent_part d (record m { key = key })
map_value_part s (nest_part i p n name m) key next = nested_part (nest_inside s i name) p n key next m (nest_part i p n name m)
map_value_part s x key next = silent x

-- an open object, outside the waiting part
abbrev pub object_bound : Settings → Spot → Names → ℕ → ℕ → Members → List ℕ → Tail → ℕ
object_bound s p m n at ms ends t =
    container (keys ms + tail_keys t) (leading s p.context p.under p.stand at n ms ends t)
    (big s p.context p.under p.stand at ms (decided_with s p.context p.under p.stand at ms t) (decide_with s p.context p.under p.stand at ms t))
    (names_in s p m at ms t (decided_with s p.context p.under p.stand at ms t) (decide_with s p.context p.under p.stand at ms t))

-- the context and the names that hold inside an open map: under `@nest` those of the nest term; the key read last is in force
abbrev pub nested_names : Result Inside Code → Names → Tail → Names
nested_names (Ok j) m t = expanded_in j.final m t
nested_names (Err e) m t = written_in m t

abbrev pub entry_names : Names → Tail → Names
entry_names m no_tail = m
entry_names m (key_tail at) = m
entry_names m (member_tail at name next) = record m { key = name }

abbrev pub names_inside : Settings → Part → Tail → Names
names_inside s (map_part d u hang scope name m) t = entry_names m t
names_inside s (language_part d m) t = entry_names m t
names_inside s (nest_part i p n name m) t = nested_names (nest_inside s i name) m t
names_inside s x t = part_names x

abbrev pub nested_context : Result Inside Code → Context → Context
nested_context (Ok j) c = j.final
nested_context (Err e) c = c

abbrev pub context_inside : Settings → Part → Context
context_inside s (nest_part i p n name m) = nested_context (nest_inside s i name) i.final
context_inside s x = part_context x

-- an open map that is no object
abbrev pub map_bound : Settings → Part → ℕ → Tail → ℕ
map_bound s x its_keys t = container its_keys 0 (size (context_inside s x)) (names_inside s x t)

-- an open array
abbrev pub array_bound : Part → ℕ
array_bound x = container 0 0 (size (part_context x)) (part_names x)

-- inside the waiting part a container counts 64 and its keys
unfoldable pub held_bound : Open → ℕ
held_bound unread = 0
held_bound (in_scalar at first) = 0
held_bound (in_array at xs next) = 64 + held_bound next
held_bound (in_object at ms ends) = 64 + keys ms
held_bound (in_key at ms ends a) = 64 + keys ms
held_bound (in_member at ms ends a name next) = 64 + keys ms + (8 + length name) + held_bound next
held_bound (whole t) = 0

-- an object that isn't settled in the order any: its bytes wait
abbrev pub is_waiting : Settings → Spot → ℕ → Members → Tail → Bool
is_waiting s p at ms t = by s.order
  where
    by : Order → Bool
    by Any = not (settled_with s p.context p.under p.stand at ms t)
    by Streaming = false

abbrev pub waiting_bytes : Bool → ℕ → ℕ → ℕ
waiting_bytes true n at = n - at
waiting_bytes false n at = 0

-- the value of an object's open member
abbrev pub open_part : Settings → Spot → Names → ℕ → Members → ℕ → Text → Open → Part
open_part s p m at ms a name next =
    member_part s p m at ms name next (member_tail a name next)
    (decided_with s p.context p.under p.stand at ms (member_tail a name next))
    (decide_with s p.context p.under p.stand at ms (member_tail a name next))

unfoldable pub part_bound : Settings → Part → ℕ → Open → ℕ
part_bound s x n unread = 0
part_bound s x n (in_scalar at first) = literal_bytes n at x
part_bound s x n (whole t) = 0
part_bound s x n (in_array at xs next) = literal_bytes n at x + array_bound x + part_bound s (item_part x next) n next
part_bound s (value_part p m) n (in_object at ms ends) = object_bound s p m n at ms ends no_tail + waiting_bytes (is_waiting s p at ms no_tail) n at
part_bound s x n (in_object at ms ends) = literal_bytes n at x + map_bound s x (keys ms) no_tail
part_bound s (value_part p m) n (in_key at ms ends a) =
    object_bound s p m n at ms ends (key_tail a) + waiting_bytes (is_waiting s p at ms (key_tail a)) n at
part_bound s x n (in_key at ms ends a) = literal_bytes n at x + map_bound s x (keys ms) (key_tail a)
part_bound s (value_part p m) n (in_member at ms ends a name next) =
    object_bound s p m n at ms ends (member_tail a name next)
    + elim (is_waiting s p at ms (member_tail a name next)) [
      | true ↦ (n - at) + held_bound next
      | false ↦ part_bound s (open_part s p m at ms a name next) n next
    ]
part_bound s x n (in_member at ms ends a name next) =
    literal_bytes n at x + map_bound s x (keys ms + (8 + length name)) (member_tail a name next) + part_bound s (map_value_part s x name next) n next

-- the bound, where so many bytes have been read; the document counts as a container with the initial context
unfoldable pub bound : Settings → ℕ → Open → ℕ
bound s n o =
    token n o + container 0 0 (size (initial s.base)) no_names + part_bound s (value_part (root_spot s) no_names) n o

-- the bytes that wait in a part
unfoldable pub part_waiting : Settings → Part → ℕ → Open → ℕ
part_waiting s x n unread = 0
part_waiting s x n (in_scalar at first) = 0
part_waiting s x n (whole t) = 0
part_waiting s x n (in_array at xs next) = part_waiting s (item_part x next) n next
part_waiting s (value_part p m) n (in_object at ms ends) = waiting_bytes (is_waiting s p at ms no_tail) n at
part_waiting s x n (in_object at ms ends) = 0
part_waiting s (value_part p m) n (in_key at ms ends a) = waiting_bytes (is_waiting s p at ms (key_tail a)) n at
part_waiting s x n (in_key at ms ends a) = 0
part_waiting s (value_part p m) n (in_member at ms ends a name next) =
    elim (is_waiting s p at ms (member_tail a name next)) [ true ↦ n - at | false ↦ part_waiting s (open_part s p m at ms a name next) n next ]
part_waiting s x n (in_member at ms ends a name next) = part_waiting s (map_value_part s x name next) n next

-- the waiting bytes, where so many have been read
unfoldable pub waiting : Settings → ℕ → Open → ℕ
waiting s n o = part_waiting s (value_part (root_spot s) no_names) n o
