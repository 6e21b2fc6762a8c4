-- No fault of a document is a form that isn't built: that code is no code of the definitions.
use Rattle.std.proofs.Common.{ℕ, ◌≡◌, refl, Bool, true, false, not, List, [], ◌∷◌, ◌++◌, Option, Some, None, Result, Ok, Err, inl, inr, ap, sym, ◌∙◌, nat_le}
use Rattle.std.specs.Prelude.{codes}
use Rattle.jl_model.specs.JsonTree.{Tree, scalar, array, object, Trees, no_item, item, Members, no_member, member}
use Rattle.jl_model.specs.Tags.{is_language_tag}
use Rattle.jl_model.specs.declared.scalars.Scalar.{Scalar}
use Rattle.jl_model.specs.declared.scalars.Scalar.TheVariants.{Null, Bool as boolean, Number, Str}
use Rattle.jl_model.specs.declared.codes.Code.{Code}
use Rattle.jl_model.specs.declared.codes.Code.TheVariants as code
use Rattle.jl_model.specs.declared.faults.Fault.{Fault}
use Rattle.jl_model.specs.declared.map_kinds.MapKind.{MapKind}
use Rattle.jl_model.specs.declared.map_kinds.MapKind.TheVariants as map_kind
use Rattle.jl_model.specs.declared.map_kinds.ItemKind.{ItemKind}
use Rattle.jl_model.specs.declared.map_kinds.ItemKind.TheVariants as item_kind
use Rattle.jl_model.specs.declared.orders.Order.{Order}
use Rattle.jl_model.specs.declared.orders.Order.TheVariants.{Any, Streaming}
use Rattle.jl_model.specs.declared.expansions.Expanded.{Expanded}
use Rattle.jl_model.specs.declared.expansions.Expanded.TheVariants as expanded
use Rattle.jl_defs.specs.Texts.{Text}
use Rattle.jl_defs.specs.Trees.{place_of}
use Rattle.jl_defs.specs.Context.{TermDef, Context, term, initial}
use Rattle.jl_defs.specs.Settings.{Settings, Under, no_property, graph_property, reverse_property, property_of, Stand, root, elsewhere, inside_of, scoped_in}
use Rattle.jl_defs.specs.Sets.{Has}
use Rattle.jl_defs.specs.Keys.{Key, its_context, id, kind, value, language, direction, index, graph, included, list, set, reverse, nest, other, dropped, property, key_of, is_id, is_set, is_value}
use Rattle.jl_defs.specs.ObjectContexts.{fault, Inside, decide, property_context, apply_scoped}
use Rattle.jl_defs.specs.Numbers.{magnitude, is_whole, whole_number, double_number, integer_number, json_number, largest_integer, largest_double}
use Rattle.jl_defs.specs.Values as values
use Rattle.jl_defs.specs.Values.{Valued, reference, literal, left_out, refused}
use Rattle.jl_defs.specs.ValueObjects as objects
use Rattle.jl_defs.specs.Canon as canon
use Rattle.jl_defs.specs.Items.{value_at, list_at, node_at, Items, no_more, more, given, item_place, kind_of_item}
use Rattle.jl_defs.specs.Expansion.{expand}
use Rattle.jl_defs.specs.Kept as kept
use Rattle.jl_defs.specs.Kept.{Role, own_member, nested_member, reversed_member, Form, json_form, language_form, map_form, plain_form}
use Rattle.jl_defs.specs.Maps as maps
use Rattle.jl_defs.specs.Graphs.{reads_as_graph}
use Rattle.jl_defs.specs.Rest.{own_candidates, rest_of}
use Rattle.jl_defs.specs.LateKeys as late
use Rattle.jl_defs.specs.LateKeys.{if_so}
use Rattle.jl_defs.specs.MemberFaults as members
use Rattle.jl_defs.specs.MemberFaults.{Seen, nothing_seen}
use Rattle.jl_defs.specs.Faults as faults
use Rattle.jl_defs.specs.Faults.{Place}
use Rattle.jl_laws.specs.Laws.{FaultsAreBuilt}
use Rattle.jl_laws.proofs.ContextCodes.{is_not_yet, Fine, FaultFine, either-fine, applied-fine, decided-fine}

-- none of these is a form that isn't built
abbrev pub AllFine : List Fault → Type 0
AllFine [] = Unit {0}
AllFine (f ∷ fs) = (is_not_yet f.code ≡ false) × AllFine fs

one : (c : Code) (at : ℕ) → is_not_yet c ≡ false → AllFine (fault c at ∷ [])
one c at h = (h, tt)

both : (xs ys : List Fault) → AllFine xs → AllFine ys → AllFine (xs ++ ys)
both [] ys a b = b
both (x ∷ xs) ys a b = (a.0, both xs ys a.1 b)

if-so : (b : Bool) (fs : List Fault) → AllFine fs → AllFine (if_so b fs)
if-so true fs h = h
if-so false fs h = tt

so : (b : Bool) (c : Code) (at : ℕ) → is_not_yet c ≡ false → AllFine (if_so b (fault c at ∷ []))
so b c at h = if-so b (fault c at ∷ []) (h, tt)

either : (b : Bool) (xs ys : List Fault) → AllFine xs → AllFine ys → AllFine (elim b as (λ z. List Fault) [ true ↦ xs | false ↦ ys ])
either true xs ys g h = g
either false xs ys g h = h

-- ---- numbers and scalars

whole-fine : (most : ℕ) (token : Text) → Fine (whole_number most token)
whole-fine most token = either-fine (is_whole token) _ _ (either-fine (nat_le (magnitude token) most) _ _ tt refl) refl

double-fine : (token : Text) → Fine (double_number token)
double-fine token = by (whole_number largest_double token) refl (whole-fine largest_double token)
  where
    by : (r : Result Text Code) → whole_number largest_double token ≡ r → Fine r → Fine (double_number token)
    by (Ok x) e h = rw (e) tt
    by (Err c) e h = rw (e) h

abbrev ValuedFine : Valued → Type 0
ValuedFine (refused c) = is_not_yet c ≡ false
ValuedFine v = Unit {0}

numbered-fine : (d : Text) (r : Result Text Code) → Fine r → ValuedFine (values.numbered d r)
numbered-fine d (Ok x) h = tt
numbered-fine d (Err c) h = h

either-valued : (b : Bool) (x y : Valued) → ValuedFine x → ValuedFine y → ValuedFine (elim b as (λ z. Valued) [ true ↦ x | false ↦ y ])
either-valued true x y g h = g
either-valued false x y g h = h

literal-fine : (v : Scalar) (d l : Option Text) → ValuedFine (values.literal_of v d l)
unfolding values.literal_of
literal-fine Null d l = tt
literal-fine (boolean true) d l = tt
literal-fine (boolean false) d l = tt
literal-fine (Number token) d l =
    either-valued _ _ _ (numbered-fine _ (double_number token) (double-fine token)) (numbered-fine _ (integer_number token) (whole-fine largest_integer token))
literal-fine (Str text) d None = tt
literal-fine (Str text) d (Some tag) = either-valued (is_language_tag tag) _ _ tt tt

reference-fine : (e : Expanded) → ValuedFine (values.reference_to e)
reference-fine expanded.Null = tt
reference-fine (expanded.Keyword text) = tt
reference-fine (expanded.Name text) = tt

string-by-fine : (c : Context) (t : Option TermDef) (text : Text) (d : Option Text) → ValuedFine (values.string_by c t text d)
string-by-fine c t text (Some d) = literal-fine (Str text) (Some d) None
string-by-fine c t text None = literal-fine (Str text) None (values.language_under t c.level.language)

string-fine : (c : Context) (t : Option TermDef) (text : Text) → ValuedFine (values.string_value c t text)
string-fine c t text =
    either-valued (values.has_kind (codes "@id") (values.kind_under t)) _ _ (reference-fine _)
    (either-valued (values.has_kind (codes "@vocab") (values.kind_under t)) _ _ (reference-fine _) (string-by-fine c t text (values.datatype_by (values.kind_under t))))

value-fine : (c : Context) (name : Text) (v : Scalar) → ValuedFine (values.value_of c name v)
unfolding values.value_of
value-fine c name (Str text) = string-fine c (term c name) text
value-fine c name Null = literal-fine Null (values.datatype_by (values.kind_under (term c name))) None
value-fine c name (boolean b) = literal-fine (boolean b) (values.datatype_by (values.kind_under (term c name))) None
value-fine c name (Number n) = literal-fine (Number n) (values.datatype_by (values.kind_under (term c name))) None

valued-faults : (at : ℕ) (v : Valued) → ValuedFine v → AllFine (faults.valued_fault at v)
valued-faults at (refused c) h = (h, tt)
valued-faults at (reference name) h = tt
valued-faults at (literal lit) h = tt
valued-faults at left_out h = tt

scalar-in : (name : Text) (at : ℕ) (v : Scalar) (r : Result Context Code) → Fine r → AllFine (faults.scalar_in name at v r)
scalar-in name at v (Ok c) h = valued-faults at (values.value_of c name v) (value-fine c name v)
scalar-in name at v (Err c) h = (h, tt)

scalar-faults : (s : Settings) (c : Context) (under : Under) (at : ℕ) (v : Scalar) → AllFine (faults.scalar_faults s c under at v)
scalar-faults s c under at Null = tt
scalar-faults s c (property_of name) at (boolean b) = scalar-in name at (boolean b) (property_context s c (property_of name) c) (applied-fine s true true _ c)
scalar-faults s c (property_of name) at (Number n) = scalar-in name at (Number n) (property_context s c (property_of name) c) (applied-fine s true true _ c)
scalar-faults s c (property_of name) at (Str x) = scalar-in name at (Str x) (property_context s c (property_of name) c) (applied-fine s true true _ c)
scalar-faults s c no_property at v = scalar-none v
  where
    scalar-none : (v : Scalar) → AllFine (faults.scalar_faults s c no_property at v)
    scalar-none Null = tt
    scalar-none (boolean b) = tt
    scalar-none (Number n) = tt
    scalar-none (Str x) = tt
scalar-faults s c graph_property at v = scalar-none v
  where
    scalar-none : (v : Scalar) → AllFine (faults.scalar_faults s c graph_property at v)
    scalar-none Null = tt
    scalar-none (boolean b) = tt
    scalar-none (Number n) = tt
    scalar-none (Str x) = tt
scalar-faults s c reverse_property at v = scalar-none v
  where
    scalar-none : (v : Scalar) → AllFine (faults.scalar_faults s c reverse_property at v)
    scalar-none Null = tt
    scalar-none (boolean b) = tt
    scalar-none (Number n) = tt
    scalar-none (Str x) = tt

-- ---- JSON literals

number-faults : (at : ℕ) (r : Result Text Code) → Fine r → AllFine (canon.number_fault at r)
number-faults at (Ok x) h = tt
number-faults at (Err c) h = (h, tt)

mutual
  unfolding canon.json_faults canon.items_json_faults canon.members_json_faults

  json-fine : (t : Tree) → AllFine (canon.json_faults t)
  json-fine (scalar at (Number token)) = number-faults at (json_number token) (whole-fine largest_double token)
  json-fine (scalar at Null) = tt
  json-fine (scalar at (boolean b)) = tt
  json-fine (scalar at (Str x)) = tt
  json-fine (array at xs) = json-items-fine xs
  json-fine (object at ms) = json-members-fine ms

  json-items-fine : (xs : Trees) → AllFine (canon.items_json_faults xs)
  json-items-fine no_item = tt
  json-items-fine (item x rest) = both (canon.json_faults x) (canon.items_json_faults rest) (json-fine x) (json-items-fine rest)

  json-members-fine : (ms : Members) → AllFine (canon.members_json_faults ms)
  json-members-fine no_member = tt
  json-members-fine (member a n v rest) = both (canon.json_faults v) (canon.members_json_faults rest) (json-fine v) (json-members-fine rest)

json-valued : (t : Tree) → ValuedFine (objects.json_value t)
json-valued (scalar at (Number token)) = by (json_number token) refl (whole-fine largest_double token)
  where
    by : (r : Result Text Code) → json_number token ≡ r → Fine r → ValuedFine (objects.json_value (scalar at (Number token)))
    by (Ok x) e h = rw (e) tt
    by (Err c) e h = rw (e) h
json-valued (scalar at Null) = tt
json-valued (scalar at (boolean b)) = tt
json-valued (scalar at (Str x)) = tt
json-valued (array at xs) = tt
json-valued (object at ms) = tt

typed-fine : (t : objects.ValueType) (l : Option Text) (v : Tree) → ValuedFine (objects.typed_literal t l v)
typed-fine t l (scalar at v) = literal-fine v (objects.type_iri t) l
typed-fine t l (array at xs) = tt
typed-fine t l (object at ms) = tt

value-in-fine : (i : Inside) (ms : Members) (v : Option Tree) → ValuedFine (objects.value_in i ms v)
value-in-fine i ms None = tt
value-in-fine i ms (Some v) = either-valued (objects.is_json_type (objects.value_type i ms)) _ _ (json-valued v) (typed-fine (objects.value_type i ms) _ v)

-- ---- a key, and the form of its value

key-fine : (k : Key) (under : Under) (seen : Seen) (at : ℕ) → AllFine (members.key_faults k under seen at)
key-fine k under seen at = if-so (members.collides k under seen.entries) _ (one code.CollidingKeywords at refl)

unless-string : (c : Code) (at : ℕ) (v : Tree) → is_not_yet c ≡ false → AllFine (members.unless_string c at v)
unless-string c at (scalar a (Str text)) h = tt
unless-string c at (scalar a Null) h = (h, tt)
unless-string c at (scalar a (boolean b)) h = (h, tt)
unless-string c at (scalar a (Number n)) h = (h, tt)
unless-string c at (array a xs) h = (h, tt)
unless-string c at (object a ms) h = (h, tt)

type-faults : (at : ℕ) (v : Tree) → AllFine (members.type_faults at v)
type-faults at (scalar a (Str text)) = tt
type-faults at (scalar a Null) = (refl, tt)
type-faults at (scalar a (boolean b)) = (refl, tt)
type-faults at (scalar a (Number n)) = (refl, tt)
type-faults at (array a xs) = if-so (not (members.all_strings xs)) _ (refl, tt)
type-faults at (object a ms) = (refl, tt)

direction-faults : (at : ℕ) (v : Tree) → AllFine (members.direction_faults at v)
direction-faults at (scalar a (Str text)) = if-so (not (members.is_direction_text text)) _ (refl, tt)
direction-faults at (scalar a Null) = (refl, tt)
direction-faults at (scalar a (boolean b)) = (refl, tt)
direction-faults at (scalar a (Number n)) = (refl, tt)
direction-faults at (array a xs) = (refl, tt)
direction-faults at (object a ms) = (refl, tt)

unless-map : (c : Code) (at : ℕ) (v : Tree) → is_not_yet c ≡ false → AllFine (members.unless_map c at v)
unless-map c at (object a ms) h = tt
unless-map c at (array a xs) h = (h, tt)
unless-map c at (scalar a v) h = (h, tt)

nest-faults : (v : Tree) → AllFine (members.nest_faults v)
nest-faults (scalar a v) = (refl, tt)
nest-faults (array a xs) = tt
nest-faults (object a ms) = tt

value-shape : (json : Bool) (at : ℕ) (v : Tree) → AllFine (members.value_faults json at v)
value-shape json at (scalar a v) = tt
value-shape json at (array a xs) = if-so (not json) _ (refl, tt)
value-shape json at (object a ms) = if-so (not json) _ (refl, tt)

shape-fine : (k : Key) (json : Bool) (at : ℕ) (v : Tree) → AllFine (members.shape_faults k json at v)
shape-fine id json at v = unless-string code.InvalidIdValue at v refl
shape-fine kind json at v = type-faults at v
shape-fine value json at v = value-shape json at v
shape-fine language json at v = unless-string code.InvalidLanguageTaggedString at v refl
shape-fine direction json at v = direction-faults at v
shape-fine index json at v = unless-string code.InvalidIndexValue at v refl
shape-fine reverse json at v = unless-map code.InvalidReverseValue at v refl
shape-fine nest json at v = nest-faults v
shape-fine its_context json at v = tt
shape-fine graph json at v = tt
shape-fine included json at v = tt
shape-fine list json at v = tt
shape-fine set json at v = tt
shape-fine other json at v = tt
shape-fine dropped json at v = tt
shape-fine (property name) json at v = tt

-- ---- maps and turned items

language-value : (t : Tree) → AllFine (members.language_value_faults t)
language-value (scalar at (Str text)) = tt
language-value (scalar at Null) = tt
language-value (scalar at (boolean b)) = (refl, tt)
language-value (scalar at (Number n)) = (refl, tt)
language-value (array at xs) = (refl, tt)
language-value (object at ms) = (refl, tt)

language-items : (xs : Trees) → AllFine (members.language_items_faults xs)
language-items no_item = tt
language-items (item x rest) = both (members.language_value_faults x) (members.language_items_faults rest) (language-value x) (language-items rest)

language-entry : (t : Tree) → AllFine (members.language_entry_faults t)
language-entry (array at xs) = language-items xs
language-entry (scalar at v) = language-value (scalar at v)
language-entry (object at ms) = (refl, tt)

language-map : (ms : Members) → AllFine (members.language_map_faults ms)
language-map no_member = tt
language-map (member a n v rest) = both (members.language_entry_faults v) (members.language_map_faults rest) (language-entry v) (language-map rest)

language-fine : (t : Tree) → AllFine (faults.language_faults t)
language-fine (object at ms) = language-map ms
language-fine (array at xs) = tt
language-fine (scalar at v) = tt

turned-fine : (xs : Items) → AllFine (members.turned_faults xs)
turned-fine no_more = tt
turned-fine (more (node_at at naming entries) rest) = turned-fine rest
turned-fine (more (value_at at v) rest) = (refl, turned-fine rest)
turned-fine (more (list_at at xs) rest) = (refl, turned-fine rest)

check-fine : (m : MapKind) (k : ItemKind) → Fine (maps.check_item m k)
check-fine map_kind.Id item_kind.ValueObject = refl
check-fine map_kind.Id item_kind.ListObject = refl
check-fine map_kind.Kind item_kind.ValueObject = refl
check-fine map_kind.Kind item_kind.ListObject = refl
check-fine map_kind.PropertyIndex item_kind.ValueObject = refl
check-fine m k = tt

item-fault : (at : ℕ) (r : Result (Unit {0}) Code) → Fine r → AllFine (members.item_fault at r)
item-fault at (Ok x) h = tt
item-fault at (Err c) h = (h, tt)

entry-items : (m : MapKind) (xs : Items) → AllFine (members.entry_item_faults m xs)
entry-items m no_more = tt
entry-items m (more x rest) =
    both (if_so (not (members.is_refused x)) _) (members.entry_item_faults m rest) (if-so (not (members.is_refused x)) _ (item-fault (item_place x) (maps.check_item m (kind_of_item x)) (check-fine m (kind_of_item x)))) (entry-items m rest)

map-items : (m : Option MapKind) (xs : Items) → AllFine (members.map_item_faults m xs)
map-items None xs = tt
map-items (Some m) xs = entry-items m xs

-- ---- how an object closes

closing-number : (under : Under) (i : Inside) (v : Valued) (t : Option Tree) → ValuedFine v → AllFine (members.closing_number under i v t)
closing-number under i (refused c) (Some t) h = so _ c _ h
closing-number under i (refused c) None h = tt
closing-number under i (reference name) t h = tt
closing-number under i (literal lit) t h = tt
closing-number under i left_out t h = tt

or-else : (xs ys : List Fault) → AllFine xs → AllFine ys → AllFine (members.or_else xs ys)
or-else [] ys a b = b
or-else (x ∷ xs) ys a b = a

typed-closing : (under : Under) (i : Inside) (at : ℕ) (ms : Members) (ks : List Key) (v : Option Tree) → AllFine (members.typed_closing under i at ms ks v)
typed-closing under i at ms ks v =
    if-so _ _ (or-else (members.language_closing at ks v) _ (so _ code.InvalidLanguageTaggedValue at refl)
    (or-else (members.type_closing i at ms ks) _ (so _ code.InvalidTypedValue at refl) (closing-number under i (objects.value_object i ms) v (value-in-fine i ms _))))

closing-numbers : (under : Under) (i : Inside) (v : Option Tree) → AllFine (members.closing_numbers under i v)
closing-numbers under i None = tt
closing-numbers under i (Some v) = if-so _ _ (json-fine v)

formed-closing : (b : Bool) (under : Under) (i : Inside) (at : ℕ) (ms : Members) (ks : List Key) (v : Option Tree) → AllFine (members.formed_closing b under i at ms ks v)
formed-closing true under i at ms ks v = closing-numbers under i v
formed-closing false under i at ms ks v = typed-closing under i at ms ks v

value-closing : (under : Under) (i : Inside) (at : ℕ) (ms : Members) (ks : List Key) (v : Option Tree) → AllFine (members.value_closing under i at ms ks v)
value-closing under i at ms ks v =
    or-else (if_so (not (members.is_value_form ks)) (fault code.InvalidValueObject at ∷ [])) (members.formed_closing (objects.is_json_type (objects.value_type i ms)) under i at ms ks v)
    (so (not (members.is_value_form ks)) code.InvalidValueObject at refl) (formed-closing (objects.is_json_type (objects.value_type i ms)) under i at ms ks v)

closing-fine : (under : Under) (i : Inside) (at : ℕ) (ms : Members) (ks : List Key) → AllFine (members.closing_faults under i at ms ks)
unfolding members.closing_faults
closing-fine under i at ms ks =
    both (if_so (kept.any_key is_value ks) (members.value_closing under i at ms ks (objects.first_with is_value i.final ms))) (members.set_closing at ks)
    (if-so (kept.any_key is_value ks) _ (value-closing under i at ms ks (objects.first_with is_value i.final ms)))
    (so _ code.InvalidSetOrListObject at refl)

-- ---- late keys

context-faults : (ms : Members) → AllFine (late.context_faults ms)
context-faults no_member = tt
context-faults (member a n v rest) = both (late.context_fault n a) (late.context_faults rest) (so _ code.LateContext a refl) (context-faults rest)

late-contexts : (o : Order) (ms : Members) → AllFine (late.late_contexts o ms)
late-contexts Any ms = tt
late-contexts Streaming no_member = tt
late-contexts Streaming (member a n v rest) = context-faults rest

late-key : (i : Inside) (name : Text) (at : ℕ) → AllFine (late.late_key i name at)
late-key i name at =
    let types = if_so (late.is_late_type i name) (fault code.LateType at ∷ []) in
    let ids = if_so (is_id (key_of i.final name)) (fault code.LateIdentifier at ∷ []) in
    let values = if_so (late.is_late_value i name) (fault code.LateValue at ∷ []) in
    both types (ids ++ values) (so (late.is_late_type i name) code.LateType at refl)
    (both ids values (so (is_id (key_of i.final name)) code.LateIdentifier at refl) (so (late.is_late_value i name) code.LateValue at refl))

late-keys : (i : Inside) (ms : Members) → AllFine (late.late_keys i ms)
late-keys i no_member = tt
late-keys i (member a n v rest) = both (late.late_key i n a) (late.late_keys i rest) (late-key i n a) (late-keys i rest)

all-late-graph : (s : Settings) (i : Inside) (under : Under) (ms : Members) → AllFine (late.all_late_graph s i under ms)
all-late-graph s i under no_member = tt
all-late-graph s i under (member a n v rest) = both (late.late_graph s i under a n v) (late.all_late_graph s i under rest) (so _ code.LateGraph a refl) (all-late-graph s i under rest)

lone-fine : (cs : List Context) (i : Inside) (ms : Members) → AllFine (late.lone_identifier cs i ms)
lone-fine cs i no_member = tt
lone-fine cs i (member a n v rest) = so _ code.LateIdentifier a refl

late-in : (s : Settings) (c : Context) (under : Under) (stand : Stand) (at : ℕ) (i : Inside) (ms : Members) → AllFine (late.late_in s c under stand at i ms ++ late.late_graphs s c under stand at i ms)
late-in s c under stand at i ms =
    let lone = late.lone_identifier (own_candidates s c under stand at ms) i ms in
    let keys = late.late_keys i (rest_of s c under stand at i ms) in
    both (lone ++ keys) (late.late_graphs s c under stand at i ms)
    (both lone keys (lone-fine (own_candidates s c under stand at ms) i ms) (late-keys i (rest_of s c under stand at i ms)))
    (if-so (reads_as_graph s c under stand at i ms) _ (all-late-graph s i under (late.after_graph i (rest_of s c under stand at i ms))))

late-members : (s : Settings) (c : Context) (under : Under) (stand : Stand) (at : ℕ) (i : Inside) (ms : Members) → AllFine (late.late_members s c under stand at i ms)
late-members s c under stand at i ms = by s.order refl
  where
    by : (o : Order) → s.order ≡ o → AllFine (late.late_members s c under stand at i ms)
    by Any e = rw (e) tt
    by Streaming e = rw (e) (late-in (record s { order = Streaming }) c under stand at i ms)

-- ---- what stands under `@included`

judged-object : (at : ℕ) (i : Inside) (ms : Members) (ks : List Key) (in_set : Unit {0} → List Fault) → AllFine (in_set tt) → AllFine (faults.judged_object at i ms ks in_set)
judged-object at i ms ks in_set h = either (faults.is_no_node i ms ks) _ _ (refl, tt) (either (kept.any_key is_set ks) _ _ h tt)

judged-by : (r : Result Inside Fault) (answer : Inside → List Fault) → ((i : Inside) → AllFine (answer i)) → AllFine (faults.judged_by r answer)
judged-by (Ok i) answer h = h i
judged-by (Err f) answer h = tt

if-set : (b : Bool) (fs : Unit {0} → List Fault) (rest : List Fault) → AllFine (fs tt) → AllFine rest → AllFine (faults.if_set b fs rest)
if-set true fs rest a b = both (fs tt) rest a b
if-set false fs rest a b = b

mutual
  unfolding faults.judged faults.all_judged faults.judged_in_set

  judged-fine : (s : Settings) (c : Context) (t : Tree) → AllFine (faults.judged s c t)
  judged-fine s c (scalar at v) = (refl, tt)
  judged-fine s c (array at xs) = all-judged-fine s c xs
  judged-fine s c (object at ms) = judged-by (decide s c no_property elsewhere at ms) _ (λ i. judged-object at i ms (kept.entries s i own_member no_property ms) (λ _. faults.judged_in_set s i ms) (set-judged-fine s i ms))

  all-judged-fine : (s : Settings) (c : Context) (xs : Trees) → AllFine (faults.all_judged s c xs)
  all-judged-fine s c no_item = tt
  all-judged-fine s c (item x rest) = both (faults.judged s c x) (faults.all_judged s c rest) (judged-fine s c x) (all-judged-fine s c rest)

  set-judged-fine : (s : Settings) (i : Inside) (ms : Members) → AllFine (faults.judged_in_set s i ms)
  set-judged-fine s i no_member = tt
  set-judged-fine s i (member a n v rest) = if-set (is_set (key_of i.final n)) (λ _. faults.judged s i.final v) (faults.judged_in_set s i rest) (judged-fine s i.final v) (set-judged-fine s i rest)

-- ---- values and members

decided-faults : (r : Result Inside Fault) (answer : Inside → List Fault) → FaultFine r → ((i : Inside) → AllFine (answer i)) → AllFine (faults.decided_faults r answer)
decided-faults (Ok i) answer a h = h i
decided-faults (Err f) answer a h = (a, tt)

applied-faults : {A : Type 0} (at : ℕ) (r : Result A Code) (answer : A → List Fault) → Fine r → ((x : A) → AllFine (answer x)) → AllFine (faults.applied_faults at r answer)
applied-faults at (Ok x) answer a h = h x
applied-faults at (Err c) answer a h = (a, tt)

nest-refusal : (k : Key) (at : ℕ) (fs : Unit {0} → List Fault) → AllFine (fs tt) → AllFine (faults.unless_refused (kept.nest_refusal k) at fs)
nest-refusal kind at fs h = h
nest-refusal nest at fs h = h
nest-refusal reverse at fs h = h
nest-refusal included at fs h = h
nest-refusal graph at fs h = h
nest-refusal index at fs h = h
nest-refusal dropped at fs h = h
nest-refusal (property name) at fs h = h
nest-refusal value at fs h = (refl, tt)
nest-refusal its_context at fs h = (refl, tt)
nest-refusal id at fs h = (refl, tt)
nest-refusal language at fs h = (refl, tt)
nest-refusal direction at fs h = (refl, tt)
nest-refusal list at fs h = (refl, tt)
nest-refusal set at fs h = (refl, tt)
nest-refusal other at fs h = (refl, tt)

reverse-refusal : (k : Key) (at : ℕ) (fs : Unit {0} → List Fault) → AllFine (fs tt) → AllFine (faults.unless_refused (kept.reverse_refusal k) at fs)
reverse-refusal its_context at fs h = h
reverse-refusal dropped at fs h = h
reverse-refusal (property name) at fs h = h
reverse-refusal id at fs h = (refl, tt)
reverse-refusal kind at fs h = (refl, tt)
reverse-refusal value at fs h = (refl, tt)
reverse-refusal language at fs h = (refl, tt)
reverse-refusal direction at fs h = (refl, tt)
reverse-refusal index at fs h = (refl, tt)
reverse-refusal graph at fs h = (refl, tt)
reverse-refusal included at fs h = (refl, tt)
reverse-refusal list at fs h = (refl, tt)
reverse-refusal set at fs h = (refl, tt)
reverse-refusal reverse at fs h = (refl, tt)
reverse-refusal nest at fs h = (refl, tt)
reverse-refusal other at fs h = (refl, tt)

unless-refused : (role : Role) (k : Key) (at : ℕ) (fs : Unit {0} → List Fault) → AllFine (fs tt) → AllFine (faults.unless_refused (kept.refusal role k) at fs)
unless-refused own_member k at fs h = h
unless-refused nested_member k at fs h = nest-refusal k at fs h
unless-refused reversed_member k at fs h = reverse-refusal k at fs h

inside-fine : (k : Key) (ignored : Bool) (ns : Unit {0} → List Fault) (u : Under → List Fault) (is ps ts rs ls ss : Unit {0} → List Fault) →
    AllFine (ns tt) → ((under : Under) → AllFine (u under)) → AllFine (is tt) → AllFine (ps tt) → AllFine (ts tt) → AllFine (rs tt) → AllFine (ls tt) → AllFine (ss tt) → AllFine (faults.inside_by k ignored ns u is ps ts rs ls ss)
inside-fine (property name) ignored ns u is ps ts rs ls ss a b c d e f g h = d
inside-fine value ignored ns u is ps ts rs ls ss a b c d e f g h = a
inside-fine graph ignored ns u is ps ts rs ls ss a b c d e f g h = b graph_property
inside-fine included ignored ns u is ps ts rs ls ss a b c d e f g h = both (u no_property) (is tt) (b no_property) c
inside-fine list true ns u is ps ts rs ls ss a b c d e f g h = tt
inside-fine list false ns u is ps ts rs ls ss a b c d e f g h = g
inside-fine set ignored ns u is ps ts rs ls ss a b c d e f g h = h
inside-fine nest ignored ns u is ps ts rs ls ss a b c d e f g h = e
inside-fine reverse ignored ns u is ps ts rs ls ss a b c d e f g h = f
inside-fine its_context ignored ns u is ps ts rs ls ss a b c d e f g h = tt
inside-fine id ignored ns u is ps ts rs ls ss a b c d e f g h = tt
inside-fine kind ignored ns u is ps ts rs ls ss a b c d e f g h = tt
inside-fine language ignored ns u is ps ts rs ls ss a b c d e f g h = tt
inside-fine direction ignored ns u is ps ts rs ls ss a b c d e f g h = tt
inside-fine index ignored ns u is ps ts rs ls ss a b c d e f g h = tt
inside-fine other ignored ns u is ps ts rs ls ss a b c d e f g h = tt
inside-fine dropped ignored ns u is ps ts rs ls ss a b c d e f g h = tt

form-fine : (f : Form) (t : Option TermDef) (ns ls : Unit {0} → List Fault) (mapped : TermDef → List Fault) (plain : Unit {0} → List Fault) →
    AllFine (ns tt) → AllFine (ls tt) → ((d : TermDef) → AllFine (mapped d)) → AllFine (plain tt) → AllFine (faults.faults_by f t ns ls mapped plain)
form-fine json_form t ns ls mapped plain a b c d = a
form-fine language_form t ns ls mapped plain a b c d = b
form-fine map_form None ns ls mapped plain a b c d = tt
form-fine map_form (Some t) ns ls mapped plain a b c d = c t
form-fine plain_form t ns ls mapped plain a b c d = d

if-turned : (b : Bool) (fs : Unit {0} → List Fault) → AllFine (fs tt) → AllFine (faults.if_turned b fs)
if-turned true fs h = h
if-turned false fs h = tt

property-fine : (s : Settings) (d : Context) (role : Role) (name : Text) (v : Tree) (mapped : TermDef → List Fault) (plain : Unit {0} → List Fault) → ((t : TermDef) → AllFine (mapped t)) → AllFine (plain tt) →
    AllFine (faults.property_faults s d role name v mapped plain)
property-fine s d role name v mapped plain a b =
    both _ _ (form-fine (kept.form_of (term d name) v) (term d name) _ _ mapped plain (json-fine v) (language-fine v) a b) (if-turned (faults.turns role (term d name)) _ (turned-fine (faults.property_items s d name v)))

nest-inside-fine : (s : Settings) (i : Inside) (name : Text) → Fine (kept.nest_inside s i name)
nest-inside-fine s i name = by (apply_scoped s true true (scoped_in (term i.final name)) i.final) refl (applied-fine s true true (scoped_in (term i.final name)) i.final)
  where
    by : (r : Result Context Code) → apply_scoped s true true (scoped_in (term i.final name)) i.final ≡ r → Fine r → Fine (kept.nest_inside s i name)
    by (Ok c) e h = rw (e) tt
    by (Err c) e h = rw (e) h

entry-context-fine : (s : Settings) (d : Context) (t : TermDef) (name : Text) → Fine (maps.entry_context s d t name)
entry-context-fine s d t name = either-fine (maps.is_index_map t) _ _ tt (either-fine (maps.is_type_map (maps.map_kind_of t)) _ _ (applied-fine s false true _ _) tt)

mutual
  unfolding faults.value_faults faults.items_faults faults.members_faults faults.nested_faults faults.all_nested_faults faults.reversed_faults faults.map_faults faults.entries_faults

  value-codes : (s : Settings) (c : Context) (under : Under) (stand : Stand) (t : Tree) → AllFine (faults.value_faults s c under stand t)
  value-codes s c under stand (scalar at v) = scalar-faults s c under at v
  value-codes s c under stand (array at xs) = items-codes s c under (inside_of stand) xs
  value-codes s c under stand (object at ms) =
      both (faults.decided_faults (decide s c under stand at ms) _) (late.late_contexts s.order ms)
      (decided-faults (decide s c under stand at ms) _ (decided-fine s c under stand at ms)
      (λ i. both (faults.members_faults s i _ nothing_seen ms) _ (members-codes s i _ nothing_seen ms)
      (both (late.late_members s c under stand at i ms) _ (late-members s c under stand at i ms) (closing-fine under i at ms _))))
      (late-contexts s.order ms)

  items-codes : (s : Settings) (c : Context) (under : Under) (stand : Stand) (xs : Trees) → AllFine (faults.items_faults s c under stand xs)
  items-codes s c under stand no_item = tt
  items-codes s c under stand (item x rest) = both (faults.value_faults s c under stand x) (faults.items_faults s c under stand rest) (value-codes s c under stand x) (items-codes s c under stand rest)

  members-codes : (s : Settings) (i : Inside) (p : Place) (seen : Seen) (ms : Members) → AllFine (faults.members_faults s i p seen ms)
  members-codes s i p seen no_member = tt
  members-codes s i p seen (member a n v rest) =
      both (faults.unless_refused (kept.refusal p.role (key_of i.final n)) a _) (faults.members_faults s i p (faults.see s i p.role p.under seen a n v) rest)
      (unless-refused p.role (key_of i.final n) a _
      (both (members.key_faults (key_of i.final n) p.under seen a) _ (key-fine (key_of i.final n) p.under seen a)
      (both (members.shape_faults (key_of i.final n) (members.takes_json s.order i seen p.kinds) a v) _ (shape-fine (key_of i.final n) (members.takes_json s.order i seen p.kinds) a v)
      (inside-fine (key_of i.final n) _ _ _ _ _ _ _ _ _
      (if-so _ _ (json-fine v))
      (λ under. value-codes s i.final under elsewhere v)
      (judged-fine s i.final v)
      (property-fine s i.final p.role n v _ _ (λ t. map-codes s i.final t n v) (value-codes s i.final (property_of n) elsewhere v))
      (nested-codes s i n p (faults.see_nest seen) v)
      (reversed-codes s i.final v)
      (value-codes s i.final p.under elsewhere v)
      (value-codes s i.final p.under (inside_of p.stand) v)))))
      (members-codes s i p (faults.see s i p.role p.under seen a n v) rest)

  nested-codes : (s : Settings) (i : Inside) (name : Text) (p : Place) (seen : Seen) (t : Tree) → AllFine (faults.nested_faults s i name p seen t)
  nested-codes s i name p seen (scalar at v) = tt
  nested-codes s i name p seen (array at xs) = all-nested-codes s i name p seen xs
  nested-codes s i name p seen (object at ms) = applied-faults at (kept.nest_inside s i name) _ (nest-inside-fine s i name) (λ j. members-codes s j (faults.nested_place p) seen ms)

  all-nested-codes : (s : Settings) (i : Inside) (name : Text) (p : Place) (seen : Seen) (xs : Trees) → AllFine (faults.all_nested_faults s i name p seen xs)
  all-nested-codes s i name p seen no_item = tt
  all-nested-codes s i name p seen (item (object at ms) rest) =
      both (faults.applied_faults at (kept.nest_inside s i name) _) _
      (applied-faults at (kept.nest_inside s i name) _ (nest-inside-fine s i name) (λ j. members-codes s j (faults.nested_place p) seen ms))
      (all-nested-codes s i name p (faults.see_nested_in (kept.nest_inside s i name) (λ j. faults.see_nested s j p.under seen ms) seen) rest)
  all-nested-codes s i name p seen (item (scalar at v) rest) = (refl, all-nested-codes s i name p seen rest)
  all-nested-codes s i name p seen (item (array at xs) rest) = (refl, all-nested-codes s i name p seen rest)

  reversed-codes : (s : Settings) (c : Context) (t : Tree) → AllFine (faults.reversed_faults s c t)
  reversed-codes s c (scalar at v) = tt
  reversed-codes s c (array at xs) = tt
  reversed-codes s c (object at ms) =
      both (faults.decided_faults (decide s c reverse_property elsewhere at ms) _) (late.late_contexts s.order ms)
      (decided-faults (decide s c reverse_property elsewhere at ms) _ (decided-fine s c reverse_property elsewhere at ms)
      (λ i. both (faults.members_faults s i _ nothing_seen ms) _ (members-codes s i _ nothing_seen ms) (late-members s c reverse_property elsewhere at i ms)))
      (late-contexts s.order ms)

  map-codes : (s : Settings) (d : Context) (t : TermDef) (name : Text) (v : Tree) → AllFine (faults.map_faults s d t name v)
  map-codes s d t name (scalar at v) = tt
  map-codes s d t name (array at xs) = tt
  map-codes s d t name (object at ms) = entries-codes s d t name ms

  entries-codes : (s : Settings) (d : Context) (t : TermDef) (name : Text) (ms : Members) → AllFine (faults.entries_faults s d t name ms)
  entries-codes s d t name no_member = tt
  entries-codes s d t name (member a n v rest) =
      both (faults.applied_faults (place_of v) (maps.entry_context s d t n) _) (faults.entries_faults s d t name rest)
      (applied-faults (place_of v) (maps.entry_context s d t n) _ (entry-context-fine s d t n)
      (λ c. both (faults.value_faults s c (property_of name) (maps.entry_stand t) v) _ (value-codes s c (property_of name) (maps.entry_stand t) v) (map-items (members.checked_kind (maps.is_none_key d n) (maps.map_kind_of t)) (given (expand s c (property_of name) (maps.entry_stand t) v)))))
      (entries-codes s d t name rest)

fine-one : (fs : List Fault) (f : Fault) → AllFine fs → Has fs f → is_not_yet f.code ≡ false
fine-one [] f a h = absurd h
fine-one (g ∷ fs) f a (inl e) = ap (λ x. is_not_yet x.code) (sym e) ∙ a.0
fine-one (g ∷ fs) f a (inr h) = fine-one fs f a.1 h

-- a fault of a document isn't a form that isn't built
pub faults-built : (s : Settings) (t : Tree) (f : Fault) → Has (faults.faults s t) f → is_not_yet f.code ≡ false
unfolding faults.faults
faults-built s t f h = fine-one (faults.faults s t) f (value-codes s (initial s.base) no_property root t) h

pub faults-are-built : FaultsAreBuilt
faults-are-built s t f h e = absurd (let no : true ≡ false = sym (ap is_not_yet e) ∙ faults-built s t f h in cc)
