-- The faults that a document is known to have before its end: however it goes on, they are among its faults (this project's own
-- rules).
use Rattle.std.specs.Prelude.{ℕ, Bool, true, false, not, ◌&&◌, ◌||◌, List, [], ◌∷◌, ◌++◌, Option, Some, None, Result, Ok, Err}
use Rattle.jl_model.specs.JsonTree.{Trees, Members, no_member, member}
use Rattle.jl_model.specs.declared.codes.Code.{Code}
use Rattle.jl_model.specs.declared.codes.Code.TheVariants as code
use Rattle.jl_model.specs.declared.faults.Fault.{Fault}
use Rattle.jl_model.specs.declared.orders.Order.{Order}
use Rattle.jl_model.specs.declared.orders.Order.TheVariants.{Any, Streaming}
use Rattle.jl_model.specs.declared.map_kinds.MapKind.{MapKind}
use Rattle.jl_defs.specs.Texts.{Text}
use Rattle.jl_defs.specs.Trees.{place_of}
use Rattle.jl_defs.specs.Context.{TermDef, Context, term, initial}
use Rattle.jl_defs.specs.Settings.{Settings, Under, no_property, graph_property, reverse_property, property_of, Stand, root, elsewhere, inside_of, drops, lists, term_under}
use Rattle.jl_defs.specs.Keys.{Key, id, kind, value, language, direction, index, graph, included, list, set, reverse, nest, property, key_of, is_kind}
use Rattle.jl_defs.specs.ObjectContexts.{fault, Inside, decide}
use Rattle.jl_defs.specs.ValueObjects.{all_with, is_json}
use Rattle.jl_defs.specs.Canon.{json_faults, items_json_faults, members_json_faults}
use Rattle.jl_defs.specs.Items.{Items, no_more, both}
use Rattle.jl_defs.specs.Kept.{Role, own_member, nested_member, reversed_member, refusal, all_nested_entries, Form, json_form, language_form, map_form, plain_form, form_of, nest_inside}
use Rattle.jl_defs.specs.Maps.{is_none_key, entry_stand, entry_context, map_kind_of, language_key, language_items}
use Rattle.jl_defs.specs.Expansion.{is_plain_graph, in_entry, expand_all, map_entries, language_entries}
use Rattle.jl_defs.specs.LateKeys.{if_so, late_contexts, late_in, late_graphs}
use Rattle.jl_defs.specs.MemberFaults.{Seen, nothing_seen, key_faults, turned_faults, map_item_faults, checked_kind, language_items_faults, language_map_faults}
use Rattle.jl_defs.specs.Faults.{value_faults, items_faults, members_faults, entries_faults, all_nested_faults, all_judged, decided_faults, unless_refused, turns, if_turned, Place, place, nested_place, see, see_nest, see_nested_in}
use Rattle.jl_defs.specs.OpenTree.{First, quote, brace, bracket, Open, unread, in_scalar, in_array, in_object, in_key, in_member, whole, first_byte, stand_in, read_members}
use Rattle.jl_defs.specs.Settled.{decided, decided_by_key}

-- how the items of an open array are judged beside their own faults: as items of a turned property, of a map's entry, or as included nodes
pub data Judging : Type 0 where
  as_they_are : Judging
  as_turned : Judging
  as_entries : (map : Option MapKind) → Judging
  as_included : Judging

abbrev pub judged_items : Judging → Items → List Fault → List Fault
judged_items as_they_are xs own = []
judged_items as_turned xs own = turned_faults xs
judged_items (as_entries m) xs own = map_item_faults m xs
judged_items as_included xs own = own

-- a turned property is judged item by item, unless its items become one list or are wrapped in graphs
abbrev pub judging_of : Role → Option TermDef → Judging
judging_of role t = elim (turns role t && not (lists t || is_plain_graph t)) [ true ↦ as_turned | false ↦ as_they_are ]

-- an array inside an array under a container with `@list` is a list, whose items aren't judged on their own
abbrev pub judging_inside : Bool → Judging → Judging
judging_inside true j = as_they_are
judging_inside false j = j

-- what the first byte of a value alone gives
abbrev pub unless_quote : Code → ℕ → First → List Fault
unless_quote c at quote = []
unless_quote c at first = fault c at ∷ []

abbrev pub type_first : ℕ → First → List Fault
type_first at quote = []
type_first at bracket = []
type_first at first = fault code.InvalidTypeValue at ∷ []

abbrev pub reverse_first : ℕ → First → List Fault
reverse_first at brace = []
reverse_first at first = fault code.InvalidReverseValue at ∷ []

-- of `@nest` the place is that of the value
abbrev pub nest_first : ℕ → First → List Fault
nest_first at brace = []
nest_first at bracket = []
nest_first at first = fault code.InvalidNestValue at ∷ []

abbrev pub value_first : Bool → ℕ → First → List Fault
value_first true at first = []
value_first false at brace = fault code.InvalidValueObjectValue at ∷ []
value_first false at bracket = fault code.InvalidValueObjectValue at ∷ []
value_first false at first = []

abbrev pub first_faults : Key → Bool → ℕ → ℕ → First → List Fault
first_faults id json at value_at first = unless_quote code.InvalidIdValue at first
first_faults index json at value_at first = unless_quote code.InvalidIndexValue at first
first_faults language json at value_at first = unless_quote code.InvalidLanguageTaggedString at first
first_faults direction json at value_at first = unless_quote code.InvalidBaseDirection at first
first_faults kind json at value_at first = type_first at first
first_faults reverse json at value_at first = reverse_first at first
first_faults nest json at value_at first = nest_first value_at first
first_faults value json at value_at first = value_first json at first
first_faults k json at value_at first = []

-- the place of a value that has begun
abbrev pub begun_at : Open → ℕ
begun_at unread = 0
begun_at (in_scalar at first) = at
begun_at (in_array at xs next) = at
begun_at (in_object at ms ends) = at
begun_at (in_key at ms ends a) = at
begun_at (in_member at ms ends a n next) = at
begun_at (whole t) = place_of t

abbrev pub first_known : Key → Bool → ℕ → ℕ → Option First → List Fault
first_known k json at value_at None = []
first_known k json at value_at (Some first) = first_faults k json at value_at first

-- the numbers of an open JSON literal
unfoldable pub json_reported : Open → List Fault
json_reported unread = []
json_reported (in_scalar at first) = []
json_reported (in_array at xs next) = items_json_faults xs ++ json_reported next
json_reported (in_object at ms ends) = members_json_faults ms
json_reported (in_key at ms ends a) = members_json_faults ms
json_reported (in_member at ms ends a n next) = members_json_faults ms ++ json_reported next
json_reported (whole t) = json_faults t

-- the open entry of a language map
abbrev pub language_entry_reported : Open → List Fault
language_entry_reported (in_array at xs next) = language_items_faults xs
language_entry_reported o = []

abbrev pub language_reported : Open → List Fault
language_reported (in_object at ms ends) = language_map_faults ms
language_reported (in_key at ms ends a) = language_map_faults ms
language_reported (in_member at ms ends a n next) = language_map_faults ms ++ language_entry_reported next
language_reported o = []

abbrev pub if_begun : Option First → List Fault → List Fault
if_begun None fs = []
if_begun (Some first) fs = fs

-- a context at fault is reported where the value to which it is applied has begun
abbrev pub applied_reported : {A : Type 0} → Option First → ℕ → Result A Code → (A → List Fault) → List Fault
applied_reported first at (Ok c) answer = answer c
applied_reported first at (Err e) answer = if_begun first (fault e at ∷ [])

-- the contexts of an object, by what has been read of it
abbrev pub decide_read : Settings → Context → Under → Stand → ℕ → Members → ℕ → Text → Open → Result Inside Fault
decide_read s c under stand at ms a n next = decide s c under stand at (by s.order)
  where
    by : Order → Members
    by Any = ms
    by Streaming = read_members ms a n next

-- a nest term's context at fault hides its map
abbrev pub nested_in : Result Inside Code → (Inside → List Fault) → List Fault
nested_in (Ok i) answer = answer i
nested_in (Err e) answer = []

-- the keys read too late by what they mean, in streaming order
abbrev pub late_read : Settings → Context → Under → Stand → ℕ → Inside → Members → List Fault
late_read s c under stand at i ms = by s.order
  where
    by : Order → List Fault
    by Any = []
    by Streaming = late_in s c under stand at i ms

abbrev pub own_place : Inside → Under → Stand → Members → Place
own_place i under stand ms = place own_member under stand (all_with is_kind i.final ms)

abbrev pub reverse_place : Place
reverse_place = place reversed_member reverse_property elsewhere []

-- what a decided object gives by its closed members
abbrev pub closed_reported : Settings → Context → ℕ → Inside → Place → Members → List Fault
closed_reported s c at i p ms = members_faults s i p nothing_seen ms ++ late_graphs_in s.order
  where
    late_graphs_in : Order → List Fault
    late_graphs_in Any = []
    late_graphs_in Streaming = late_graphs s c p.under p.stand at i ms

-- a decided object between two members
abbrev pub object_reported : Settings → Context → Under → Stand → ℕ → Members → List Fault
object_reported s c under stand at ms =
    if_so (decided s c under stand at ms)
    (decided_faults (decide s c under stand at ms) (λ i. closed_reported s c at i (own_place i under stand ms) ms ++ late_read s c under stand at i ms)
    ++ late_contexts s.order ms)

-- a decided map of `@reverse` between two members
abbrev pub reverse_reported : Settings → Context → ℕ → Members → List Fault
reverse_reported s c at ms =
    if_so (decided s c reverse_property elsewhere at ms)
    (decided_faults (decide s c reverse_property elsewhere at ms) (λ i.
    members_faults s i reverse_place nothing_seen ms ++ late_read s c reverse_property elsewhere at i ms)
    ++ late_contexts s.order ms)

-- what has been seen after members
unfoldable pub seen_behind : Settings → Inside → Place → Seen → Members → Seen
seen_behind s i p seen no_member = seen
seen_behind s i p seen (member a n v rest) = seen_behind s i p (see s i p.role p.under seen a n v) rest

-- the numbers of an open `@value`
abbrev pub numbers_read : Inside → Open → List Fault
numbers_read i next = if_so (is_json i.input) (json_reported next)

-- what an open value gives in its context, under its property and at its place
abbrev pub Reading : Type 0
Reading = Context → Under → Stand → Judging → List Fault

-- an open value of a property, by its form
abbrev pub form_reported : Form → Option TermDef → Open → (TermDef → List Fault) → List Fault → List Fault
form_reported json_form t next mapped plain = json_reported next
form_reported language_form t next mapped plain = language_reported next
form_reported map_form None next mapped plain = []
form_reported map_form (Some t) next mapped plain = mapped t
form_reported plain_form t next mapped plain = plain

abbrev pub unless_list : Bool → (Unit {0} → Items) → Items
unless_list true xs = no_more
unless_list false xs = xs tt

-- the items of an open array: its closed ones, and those of an open array inside it, unless that is a list
unfoldable pub items_read : Settings → Context → Under → Stand → Open → Items
items_read s c under stand unread = no_more
items_read s c under stand (in_scalar at first) = no_more
items_read s c under stand (whole t) = no_more
items_read s c under stand (in_array at xs next) =
    both (expand_all s c under (inside_of stand) xs) (unless_list (lists (term_under c under)) (λ _. items_read s c under (inside_of stand) next))
items_read s c under stand (in_object at ms ends) = no_more
items_read s c under stand (in_key at ms ends a) = no_more
items_read s c under stand (in_member at ms ends a n next) = no_more

-- the items of a container's open map: those of its closed entries, and those of an open array in its open entry
abbrev pub map_items_read : Settings → Context → TermDef → Text → Open → Items
map_items_read s d t name (in_object at ms ends) = map_entries s d t name ms
map_items_read s d t name (in_key at ms ends a) = map_entries s d t name ms
map_items_read s d t name (in_member at ms ends a n next) =
    both (map_entries s d t name ms) (in_entry (entry_context s d t n) (λ c. Some (items_read s c (property_of name) (entry_stand t) next)))
map_items_read s d t name o = no_more

-- the same of a language map
abbrev pub language_entry_read : Option Text → Open → Items
language_entry_read tag (in_array at xs next) = language_items tag xs
language_entry_read tag o = no_more

abbrev pub language_items_read : Context → Open → Items
language_items_read d (in_object at ms ends) = language_entries d ms
language_items_read d (in_key at ms ends a) = language_entries d ms
language_items_read d (in_member at ms ends a n next) = both (language_entries d ms) (language_entry_read (language_key d n) next)
language_items_read d o = no_more

-- where a property is turned, the items of its open map are judged for that too
abbrev pub map_turned : Settings → Role → Context → TermDef → Text → Open → List Fault
map_turned s role d t name next = if_turned (turns role (Some t)) (λ _. turned_faults (map_items_read s d t name next))

abbrev pub language_turned : Form → Inside → Role → Text → Open → List Fault
language_turned language_form i role n next = if_turned (turns role (term i.final n)) (λ _. turned_faults (language_items_read i.final next))
language_turned form i role n next = []

abbrev pub property_reported : Inside → Role → Text → Open → Reading → (TermDef → List Fault) → List Fault
property_reported i role name next reading mapped =
    form_reported (form_of (term i.final name) (stand_in next)) (term i.final name) next mapped
    (reading i.final (property_of name) elsewhere (judging_of role (term i.final name)))
    ++ language_turned (form_of (term i.final name) (stand_in next)) i role name next

-- what the inside of an open member's value gives
abbrev pub open_by : Key → Inside → Place → Seen → Text → Open → Reading → (TermDef → List Fault) → (Seen → List Fault) → (Unit {0} → List Fault) → List Fault
open_by (property name) i p seen n next reading mapped nested reversed = property_reported i p.role n next reading mapped
open_by value i p seen n next reading mapped nested reversed = numbers_read i next
open_by graph i p seen n next reading mapped nested reversed = reading i.final graph_property elsewhere as_they_are
open_by included i p seen n next reading mapped nested reversed = reading i.final no_property elsewhere as_included
open_by list i p seen n next reading mapped nested reversed = if_so (not (drops p.under)) (reading i.final p.under elsewhere as_they_are)
open_by set i p seen n next reading mapped nested reversed = reading i.final p.under (inside_of p.stand) as_they_are
open_by nest i p seen n next reading mapped nested reversed = nested (see_nest seen)
open_by reverse i p seen n next reading mapped nested reversed = reversed tt
open_by k i p seen n next reading mapped nested reversed = []

-- the open member of a decided object, or of a map under `@nest` or `@reverse`
abbrev pub member_reported : Inside → Place → Seen → ℕ → Text → Open → Reading → (TermDef → List Fault) → (Seen → List Fault) → (Unit {0} → List Fault) → List Fault
member_reported i p seen a n next reading mapped nested reversed =
    unless_refused (refusal p.role (key_of i.final n)) a (λ _.
    key_faults (key_of i.final n) p.under seen a
    ++ (first_known (key_of i.final n) (is_json i.input) a (begun_at next) (first_byte next)
    ++ open_by (key_of i.final n) i p seen n next reading mapped nested reversed))

-- what has been seen after closed maps of an array under `@nest`, in the nest term's context
abbrev pub see_maps : Settings → Inside → Text → Place → Seen → Trees → Seen
see_maps s i name p seen xs =
    see_nested_in (nest_inside s i name) (λ j. record seen { entries = seen.entries ++ all_nested_entries s j p.under xs }) seen

-- an array inside an array under `@nest` is no map, and is at fault as a whole
abbrev pub unless_array : Open → (Unit {0} → List Fault) → List Fault
unless_array (in_array at xs next) fs = []
unless_array o fs = fs tt

unfoldable mutual
  -- what an open value gives
  pub value_reported : Settings → Context → Under → Stand → Judging → Open → List Fault
  value_reported s c under stand j unread = []
  value_reported s c under stand j (in_scalar at first) = []
  value_reported s c under stand j (whole t) = value_faults s c under stand t
  value_reported s c under stand j (in_array at xs next) =
      items_faults s c under (inside_of stand) xs
      ++ (judged_items j (expand_all s c under (inside_of stand) xs) (all_judged s c xs)
      ++ value_reported s c under (inside_of stand) (judging_inside (lists (term_under c under)) j) next)
  value_reported s c under stand j (in_object at ms ends) = object_reported s c under stand at ms
  value_reported s c under stand j (in_key at ms ends a) = object_reported s c under stand at ms
  value_reported s c under stand j (in_member at ms ends a n next) =
      if_so (decided_by_key s c under stand at ms a n next)
      (decided_faults (decide_read s c under stand at ms a n next) (λ i.
      closed_reported s c at i (own_place i under stand ms) ms
      ++ (late_read s c under stand at i (read_members ms a n next)
      ++ member_reported i (own_place i under stand ms) (seen_behind s i (own_place i under stand ms) nothing_seen ms) a n next
      (λ d u w k. value_reported s d u w k next)
      (λ t. map_reported s i.final t n next ++ map_turned s own_member i.final t n next)
      (λ seen. nested_reported s i n (own_place i under stand ms) seen next)
      (λ _. reversed_reported s i.final next)))
      ++ late_contexts s.order (read_members ms a n next))

  -- an open map under `@nest`, or an array of such maps
  pub nested_reported : Settings → Inside → Text → Place → Seen → Open → List Fault
  nested_reported s i name p seen unread = []
  nested_reported s i name p seen (in_scalar at first) = []
  nested_reported s i name p seen (whole t) = []
  nested_reported s i name p seen (in_array at xs next) =
      all_nested_faults s i name p seen xs ++ unless_array next (λ _. nested_reported s i name p (see_maps s i name p seen xs) next)
  nested_reported s i name p seen (in_object at ms ends) = nested_in (nest_inside s i name) (λ j. members_faults s j (nested_place p) seen ms)
  nested_reported s i name p seen (in_key at ms ends a) = nested_in (nest_inside s i name) (λ j. members_faults s j (nested_place p) seen ms)
  nested_reported s i name p seen (in_member at ms ends a n next) =
      nested_in (nest_inside s i name) (λ j.
      members_faults s j (nested_place p) seen ms
      ++ member_reported j (nested_place p) (seen_behind s j (nested_place p) seen ms) a n next
      (λ d u w k. value_reported s d u w k next)
      (λ t. map_reported s j.final t n next ++ map_turned s nested_member j.final t n next)
      (λ behind. nested_reported s j n (nested_place p) behind next)
      (λ _. reversed_reported s j.final next))

  -- the open map of `@reverse`
  pub reversed_reported : Settings → Context → Open → List Fault
  reversed_reported s c unread = []
  reversed_reported s c (in_scalar at first) = []
  reversed_reported s c (in_array at xs next) = []
  reversed_reported s c (whole t) = []
  reversed_reported s c (in_object at ms ends) = reverse_reported s c at ms
  reversed_reported s c (in_key at ms ends a) = reverse_reported s c at ms
  reversed_reported s c (in_member at ms ends a n next) =
      if_so (decided_by_key s c reverse_property elsewhere at ms a n next)
      (decided_faults (decide_read s c reverse_property elsewhere at ms a n next) (λ i.
      members_faults s i reverse_place nothing_seen ms
      ++ (late_read s c reverse_property elsewhere at i (read_members ms a n next)
      ++ member_reported i reverse_place (seen_behind s i reverse_place nothing_seen ms) a n next
      (λ d u w k. value_reported s d u w k next)
      (λ t. map_reported s i.final t n next ++ map_turned s reversed_member i.final t n next)
      (λ seen. [])
      (λ _. [])))
      ++ late_contexts s.order (read_members ms a n next))

  -- the open map of a container
  pub map_reported : Settings → Context → TermDef → Text → Open → List Fault
  map_reported s d t name unread = []
  map_reported s d t name (in_scalar at first) = []
  map_reported s d t name (in_array at xs next) = []
  map_reported s d t name (whole v) = []
  map_reported s d t name (in_object at ms ends) = entries_faults s d t name ms
  map_reported s d t name (in_key at ms ends a) = entries_faults s d t name ms
  map_reported s d t name (in_member at ms ends a n next) =
      entries_faults s d t name ms
      ++ applied_reported (first_byte next) (begun_at next) (entry_context s d t n)
      (λ c. value_reported s c (property_of name) (entry_stand t) (as_entries (checked_kind (is_none_key d n) (map_kind_of t))) next)

-- the faults known of an open document
unfoldable pub reported : Settings → Open → List Fault
reported s o = value_reported s (initial s.base) no_property root as_they_are o
