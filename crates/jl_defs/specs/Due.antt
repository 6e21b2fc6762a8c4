-- The quads that are due by what has been read of a document: what closed members of settled objects and closed
-- items of open arrays say (this project's own rules).
use Rattle.std.specs.Prelude.{ℕ, Bool, true, false, not, ◌&&◌, ◌||◌, List, [], ◌∷◌, ◌++◌, flat_map, Option, Some, None, Result, Ok, Err}
use Rattle.jl_model.specs.JsonTree.{Members, no_member, member}
use Rattle.jl_model.specs.Parts.{Parts}
use Rattle.jl_model.specs.declared.codes.Code.{Code}
use Rattle.jl_model.specs.declared.faults.Fault.{Fault}
use Rattle.jl_model.specs.declared.terms.Term.{Term}
use Rattle.jl_model.specs.declared.graph_scopes.GraphScope.{GraphScope}
use Rattle.jl_model.specs.declared.graph_scopes.GraphScope.TheVariants.{Main}
use Rattle.jl_defs.specs.Texts.{Text}
use Rattle.jl_defs.specs.Context.{TermDef, Context, term, initial}
use Rattle.jl_defs.specs.Settings.{Settings, Under, no_property, graph_property, reverse_property, property_of, Stand, root, graph_entry, elsewhere, inside_of, drops, lists, term_under}
use Rattle.jl_defs.specs.Keys.{Key, graph, included, list, set, reverse, nest, dropped, other, its_context, property, key_of, is_value, is_list, is_set, is_graph}
use Rattle.jl_defs.specs.ObjectContexts.{Inside, decide}
use Rattle.jl_defs.specs.Items.{Naming, by_graph, list_at, Items, NodeEntries, one, given, all_wrapped}
use Rattle.jl_defs.specs.Kept.{Role, own_member, nested_member, reversed_member, is_admitted, Form, json_form, language_form, map_form, plain_form, form_of, nest_inside}
use Rattle.jl_defs.specs.Graphs.{is_graph_with}
use Rattle.jl_defs.specs.Maps.{Addition, adds_nothing, adds_name, name_or, addition, all_with_addition, entry_stand, entry_context, language_key, language_items}
use Rattle.jl_defs.specs.Expansion.{in_graph, naming, goes_forward, is_plain_graph, expand, expand_all, with_key, members_say, all_nested}
use Rattle.jl_defs.specs.NodeMap.{Entry, items_entries, node_entries, graph_of, term_of_node}
use Rattle.jl_defs.specs.Dataset.{entry_quads, items_quads, dataset}
use Rattle.jl_defs.specs.OpenTree.{Open, unread, in_scalar, in_array, in_object, in_key, in_member, whole, stand_in}
use Rattle.jl_defs.specs.Settled.{settled, settled_by_key}
use Rattle.jl_defs.specs.Reported.{decide_read}

-- how items hang: nodes by themselves, or as the values of a property
pub data Hang : Type 0 where
  by_themselves : Hang
  below : (subject : Option Term) → (forward : Bool) → (iri : Text) → Hang

-- whether items become items of a list: of no list, of one that a container makes of the whole value, or of one around them
pub data Listing : Type 0 where
  in_no_list : Listing
  whole_list : Listing
  in_list : Listing

-- where an open value stands
pub record Spot : Type 0 where
  pub context : Context
  pub under : Under
  pub stand : Stand
  pub scope : GraphScope
  pub hang : Hang
  pub listing : Listing
  -- each item is wrapped in a graph
  pub wraps : Bool
  -- what the key of a map's entry adds
  pub adds : Addition

-- nodes that stand in a graph by themselves
abbrev pub free_spot : Context → Under → Stand → GraphScope → Spot
free_spot c under stand scope = record {
  context = c;
  under = under;
  stand = stand;
  scope = scope;
  hang = by_themselves;
  listing = in_no_list;
  wraps = false;
  adds = adds_nothing;
}

abbrev pub root_spot : Settings → Spot
root_spot s = free_spot (initial s.base) no_property root Main

-- the items of an array, and those of a set, stand among the list's items
abbrev pub within : Listing → Listing
within in_no_list = in_no_list
within whole_list = in_list
within in_list = in_list

abbrev pub inside_spot : Spot → Spot
inside_spot p = record p { stand = inside_of p.stand; listing = within p.listing }

abbrev pub hanging : GraphScope → Hang → Items → List Entry
hanging scope by_themselves xs = []
hanging scope (below subject forward iri) xs = items_entries scope subject forward iri xs

abbrev pub placed : Spot → Items → Items
placed p xs = all_with_addition p.adds (elim p.wraps [ true ↦ all_wrapped xs | false ↦ xs ])

-- the quads that items say at their spot
abbrev pub items_say : Spot → Items → List Parts
items_say p xs = flat_map entry_quads (hanging p.scope p.hang (placed p xs)) ++ items_quads p.scope (placed p xs)

abbrev pub unless_listed : Listing → (Unit {0} → List Parts) → List Parts
unless_listed in_no_list quads = quads tt
unless_listed whole_list quads = []
unless_listed in_list quads = []

abbrev pub unless_item : Listing → (Unit {0} → List Parts) → List Parts
unless_item in_no_list quads = quads tt
unless_item whole_list quads = quads tt
unless_item in_list quads = []

abbrev pub if_so : Bool → (Unit {0} → List Parts) → List Parts
if_so true quads = quads tt
if_so false quads = []

-- an open object as a node: its term, the graph in which it stands, and that of the content of its `@graph`
pub record NodeSpot : Type 0 where
  pub subject : Option Term
  pub scope : GraphScope
  pub content : GraphScope
  pub pure : Bool

abbrev pub node_spot : Option Term → GraphScope → NodeSpot
node_spot subject scope = record { subject = subject; scope = scope; content = graph_of subject; pure = false }

-- the identifier that a map's key adds
abbrev pub named_by : Addition → Naming → Naming
named_by (adds_name text) n = name_or n text
named_by a n = n

-- the implicit graph round an object
abbrev pub implicit : Addition → ℕ → GraphScope
implicit a at = graph_of (term_of_node at (named_by a by_graph))

-- the graph of a list that is an array in a map's entry
abbrev pub list_scope : Spot → ℕ → Stand → GraphScope
list_scope p at graph_entry = implicit p.adds at
list_scope p at stand = p.scope

-- the spot of an array's open item; an array inside an array under a container with `@list` is a list
abbrev pub item_spot : Spot → Open → Spot
item_spot p (in_array at xs next) =
    elim (lists (term_under p.context p.under)) [
      | true ↦ record (free_spot p.context p.under (inside_of p.stand) (list_scope p at p.stand)) { listing = in_list }
      | false ↦ inside_spot p
    ]
item_spot p o = inside_spot p

-- a pure graph says its content where it stands, and what is wrapped stands in a graph of its own
abbrev pub node_by : Spot → ℕ → Naming → Stand → Bool → NodeSpot
node_by p at n root true = record { subject = None; scope = p.scope; content = p.scope; pure = true }
node_by p at n graph_entry false = node_spot (term_of_node at n) (implicit p.adds at)
node_by p at n stand role =
    elim p.wraps [
      | true ↦ node_spot (term_of_node at n) (implicit adds_nothing at)
      | false ↦ node_spot (term_of_node at (named_by p.adds n)) p.scope
    ]

-- the entry of an open member, which is taken as kept: where anything is said inside it, it is
abbrev pub open_entry : Key → Under → List Key
open_entry its_context under = []
open_entry dropped under = []
open_entry other under = []
open_entry list under = elim (drops under) [ true ↦ [] | false ↦ list ∷ [] ]
open_entry k under = k ∷ []

abbrev pub node_of : Settings → Spot → ℕ → Inside → Members → List Key → NodeSpot
node_of s p at i ms opened = node_by p at (naming i.final ms) p.stand (is_graph_with s p.context p.under p.stand at i ms opened)

abbrev pub entries_say : NodeSpot → NodeEntries → List Parts
entries_say n es = flat_map entry_quads (node_entries n.scope n.subject es)

abbrev pub has_key : (Key → Bool) → Context → Members → Bool
has_key test d no_member = false
has_key test d (member a n v rest) = test (key_of d n) || has_key test d rest

-- what closed members say: as a node's, as a set and as a list
abbrev pub node_due : Settings → Inside → NodeSpot → Members → List Parts
node_due s i n ms =
    elim n.pure [
      | true ↦ items_quads n.content (with_key s i is_graph graph_property elsewhere ms)
      | false ↦ entries_say n (members_say s i own_member ms)
    ]

abbrev pub set_due : Settings → Spot → Inside → Members → List Parts
set_due s p i ms = unless_listed p.listing (λ _. items_say p (with_key s i is_set p.under (inside_of p.stand) ms))

abbrev pub list_due : Settings → Spot → ℕ → Inside → Members → List Parts
list_due s p at i ms =
    if_so (not (drops p.under) && has_key is_list i.final ms)
    (λ _. unless_item p.listing (λ _. items_say p (one (in_graph p.stand (list_at at (with_key s i is_list p.under elsewhere ms))))))

-- the closed members of a settled object that is no value
abbrev pub members_due : Settings → Spot → ℕ → Inside → NodeSpot → Members → List Parts
members_due s p at i n ms = node_due s i n ms ++ (set_due s p i ms ++ list_due s p at i ms)

abbrev pub decided_due : Result Inside Fault → (Inside → List Parts) → List Parts
decided_due (Ok i) answer = answer i
decided_due (Err f) answer = []

abbrev pub in_context : {A : Type 0} → Result A Code → (A → List Parts) → List Parts
in_context (Ok c) answer = answer c
in_context (Err e) answer = []

-- an open object between two members
abbrev pub object_due : Settings → Spot → ℕ → Members → List Parts
object_due s p at ms =
    if_so (settled s p.context p.under p.stand at ms) (λ _.
    decided_due (decide s p.context p.under p.stand at ms) (λ i.
    if_so (not (has_key is_value i.final ms)) (λ _. members_due s p at i (node_of s p at i ms []) ms)))

-- the spot of a property's values
abbrev pub listing_of : Option TermDef → Listing
listing_of t = elim (lists t) [ true ↦ whole_list | false ↦ in_no_list ]

abbrev pub property_spot : Inside → Role → NodeSpot → Text → Text → Spot
property_spot i role n name iri = record {
  context = i.final;
  under = property_of name;
  stand = elsewhere;
  scope = n.scope;
  hang = below n.subject (goes_forward role (term i.final name)) iri;
  listing = listing_of (term i.final name);
  wraps = is_plain_graph (term i.final name);
  adds = adds_nothing;
}

-- the spot of the values of a map's entry
abbrev pub entry_spot : Context → Context → TermDef → Hang → GraphScope → Text → Text → Spot
entry_spot d c t hang scope name key = record {
  context = c;
  under = property_of name;
  stand = entry_stand t;
  scope = scope;
  hang = hang;
  listing = in_no_list;
  wraps = false;
  adds = addition d t key;
}

-- the items of a list: their nodes stand by themselves
abbrev pub listed_spot : Spot → Inside → NodeSpot → Spot
listed_spot p i n = record (free_spot i.final p.under elsewhere n.scope) { listing = in_list }

-- the items of a set stand where the set does
abbrev pub set_spot : Spot → Inside → Spot
set_spot p i = record (inside_spot p) { context = i.final }

-- the open entry of a language map
abbrev pub language_entry_due : Spot → Option Text → Open → List Parts
language_entry_due p tag (in_array at xs next) = items_say p (language_items tag xs)
language_entry_due p tag o = []

abbrev pub language_due : Context → Spot → Open → List Parts
language_due d p (in_member at ms ends a n next) = language_entry_due p (language_key d n) next
language_due d p o = []

abbrev pub form_due : Form → Option TermDef → Spot → Inside → Open → (TermDef → List Parts) → (Spot → List Parts) → List Parts
form_due json_form t p i next mapped reading = []
form_due language_form t p i next mapped reading = language_due i.final p next
form_due map_form None p i next mapped reading = []
form_due map_form (Some t) p i next mapped reading = mapped t
form_due plain_form t p i next mapped reading = reading p

-- what an open member's value says, by its key
abbrev pub key_due : Key → Spot → Inside → Role → NodeSpot → Text → Open → (Spot → List Parts) → (Hang → TermDef → List Parts) → (Unit {0} → List Parts) → (Unit {0} → List Parts) → List Parts
key_due (property iri) p i role n name next reading mapped nested reversed =
    form_due (form_of (term i.final name) (stand_in next)) (term i.final name) (property_spot i role n name iri) i next
    (mapped (below n.subject (goes_forward role (term i.final name)) iri)) reading
key_due graph p i role n name next reading mapped nested reversed = reading (free_spot i.final graph_property elsewhere n.content)
key_due included p i role n name next reading mapped nested reversed = reading (free_spot i.final no_property elsewhere n.scope)
key_due list p i role n name next reading mapped nested reversed = if_so (not (drops p.under)) (λ _. reading (listed_spot p i n))
key_due set p i role n name next reading mapped nested reversed = reading (set_spot p i)
key_due nest p i role n name next reading mapped nested reversed = nested tt
key_due reverse p i role n name next reading mapped nested reversed = reversed tt
key_due k p i role n name next reading mapped nested reversed = []

-- a member that may not stand here says nothing
abbrev pub open_due : Spot → Inside → Role → NodeSpot → Text → Open → (Spot → List Parts) → (Hang → TermDef → List Parts) → (Unit {0} → List Parts) → (Unit {0} → List Parts) → List Parts
open_due p i role n name next reading mapped nested reversed =
    if_so (is_admitted role (key_of i.final name)) (λ _. key_due (key_of i.final name) p i role n name next reading mapped nested reversed)

-- the closed members of the map of `@reverse`
abbrev pub reverse_due : Settings → Context → NodeSpot → ℕ → Members → List Parts
reverse_due s c n at ms =
    if_so (settled s c reverse_property elsewhere at ms) (λ _.
    decided_due (decide s c reverse_property elsewhere at ms) (λ i. entries_say n (members_say s i reversed_member ms)))

unfoldable mutual
  -- what an open value says at its spot
  pub value_due : Settings → Spot → Open → List Parts
  value_due s p unread = []
  value_due s p (in_scalar at first) = []
  value_due s p (whole t) = items_say p (given (expand s p.context p.under p.stand t))
  value_due s p (in_array at xs next) =
      unless_listed p.listing (λ _. items_say p (expand_all s p.context p.under (inside_of p.stand) xs)) ++ value_due s (item_spot p next) next
  value_due s p (in_object at ms ends) = object_due s p at ms
  value_due s p (in_key at ms ends a) = object_due s p at ms
  value_due s p (in_member at ms ends a name next) =
      if_so (settled_by_key s p.context p.under p.stand at ms a name next) (λ _.
      decided_due (decide_read s p.context p.under p.stand at ms a name next) (λ i.
      let n = node_of s p at i ms (open_entry (key_of i.final name) p.under) in
      if_so (not (has_key is_value i.final ms || is_value (key_of i.final name))) (λ _.
      members_due s p at i n ms
      ++ open_due p i own_member n name next
      (λ q. value_due s q next)
      (λ h t. map_due s i.final t h n.scope name next)
      (λ _. nested_due s p i n name next)
      (λ _. reversed_due s i.final n next))))

  -- an open map under `@nest`, or an array of such maps: the maps are no objects, so only closed items of arrays count
  pub nested_due : Settings → Spot → Inside → NodeSpot → Text → Open → List Parts
  nested_due s p i n name unread = []
  nested_due s p i n name (in_scalar at first) = []
  nested_due s p i n name (whole t) = []
  nested_due s p i n name (in_array at xs next) =
      in_context (nest_inside s i name) (λ j. entries_say n (all_nested s j xs)) ++ nested_due s p i n name next
  nested_due s p i n name (in_object at ms ends) = []
  nested_due s p i n name (in_key at ms ends a) = []
  nested_due s p i n name (in_member at ms ends a m next) =
      in_context (nest_inside s i name) (λ j.
      open_due p j nested_member n m next
      (λ q. value_due s q next)
      (λ h t. map_due s j.final t h n.scope m next)
      (λ _. nested_due s p j n m next)
      (λ _. reversed_due s j.final n next))

  -- the open map of `@reverse`
  pub reversed_due : Settings → Context → NodeSpot → Open → List Parts
  reversed_due s c n unread = []
  reversed_due s c n (in_scalar at first) = []
  reversed_due s c n (in_array at xs next) = []
  reversed_due s c n (whole t) = []
  reversed_due s c n (in_object at ms ends) = reverse_due s c n at ms
  reversed_due s c n (in_key at ms ends a) = reverse_due s c n at ms
  reversed_due s c n (in_member at ms ends a name next) =
      if_so (settled_by_key s c reverse_property elsewhere at ms a name next) (λ _.
      decided_due (decide_read s c reverse_property elsewhere at ms a name next) (λ i.
      entries_say n (members_say s i reversed_member ms)
      ++ open_due (free_spot i.final reverse_property elsewhere n.scope) i reversed_member n name next
      (λ q. value_due s q next)
      (λ h t. map_due s i.final t h n.scope name next)
      (λ _. [])
      (λ _. [])))

  -- the open map of a container: its open entry
  pub map_due : Settings → Context → TermDef → Hang → GraphScope → Text → Open → List Parts
  map_due s d t hang scope name unread = []
  map_due s d t hang scope name (in_scalar at first) = []
  map_due s d t hang scope name (in_array at xs next) = []
  map_due s d t hang scope name (whole v) = []
  map_due s d t hang scope name (in_object at ms ends) = []
  map_due s d t hang scope name (in_key at ms ends a) = []
  map_due s d t hang scope name (in_member at ms ends a key next) =
      in_context (entry_context s d t key) (λ c. value_due s (entry_spot d c t hang scope name key) next)

-- a document that has been read whole says its dataset
unfoldable pub due : Settings → Open → List Parts
due s (whole t) = dataset s t
due s o = value_due s (root_spot s) o
