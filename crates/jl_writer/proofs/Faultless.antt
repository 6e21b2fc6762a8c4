-- The trees of grouped quads have no faults.
use Rattle.std.proofs.Common.{◌≡◌, ℕ, ◌+◌, Bool, true, false, not, ◌&&◌, ◌||◌, List, [], ◌∷◌, ◌++◌, length, Option, Some, None, Ok, IsTrue, bytes_eq, refl, sym, ap, ap₂, ◌∙◌, append-nil}
use Rattle.std.specs.List.{AllByRecursion}
use Rattle.jl_model.specs.Iris.{IsIri}
use Rattle.jl_model.specs.JsonTree.{Tree, object, Trees, item, Members, no_member, member}
use Rattle.jl_model.specs.Parts.{IsObject, IsLanguage, xsd_string, rdf_lang_string}
use Rattle.jl_model.specs.Tags.{is_language_tag}
use Rattle.jl_model.specs.declared.scalars.Scalar.TheVariants.{Str}
use Rattle.jl_model.specs.declared.codes.Code.TheVariants as code
use Rattle.jl_model.specs.declared.faults.Fault.{Fault}
use Rattle.jl_model.specs.declared.orders.Order.TheVariants.{Streaming}
use Rattle.jl_model.specs.declared.expansions.Expanded.TheVariants.{Null, Name}
use Rattle.jl_model.specs.declared.terms.Lit.{Lit}
use Rattle.jl_model.specs.declared.terms.Term.{Term}
use Rattle.jl_model.specs.declared.terms.Term.TheVariants.{Iri, Blank, Literal}
use Rattle.jl_defs.specs.Texts.{Text, is_keyword}
use Rattle.jl_defs.specs.IriExpansion.{expand_iri}
use Rattle.jl_defs.specs.Settings.{Under, no_property, graph_property, property_of, Stand, elsewhere}
use Rattle.jl_defs.specs.Keys.{Key, id, kind, value, language, property, key_of, is_id, is_value, is_list, is_set, is_kind, is_leading}
use Rattle.jl_defs.specs.ObjectContexts.{fault, Inside, decide, final_context}
use Rattle.jl_defs.specs.Values.{literal, left_out, value_of, literal_of}
use Rattle.jl_defs.specs.ValueObjects.{all_with, typed_by, value_type, type_iri, is_json_type, object_value, value_object}
use Rattle.jl_defs.specs.Kept.{own_member, any_key, keeps, entries}
use Rattle.jl_defs.specs.MemberFaults.{Seen, nothing_seen, has_iri, or_else, closing_number, formed_closing, closing_faults}
use Rattle.jl_defs.specs.LateKeys.{if_so, late_contexts, context_faults, late_key, late_keys, late_members}
use Rattle.jl_defs.specs.Faults.{value_faults, items_faults, members_faults, Place, place, see, decided_faults, faults}
use Rattle.jl_defs.specs.WriterText.{node_name, value_text}
use Rattle.jl_writer.specs.Laws.{streaming}
use Rattle.jl_writer.proofs.Grouped.{Group, Node, Item, one_node, one_graph, id_key, graph_key, node_text, item_text}
use Rattle.jl_writer.proofs.GroupedTrees.{type_key, value_key, language_key, after_key, after_string, string_at, reference_members, pair_members, literal_by, value_tree, values_tree, values_in, list_text, groups_tree, node_tree, nodes_tree, nodes_in, item_tree, items_tree, array_tree}
use Rattle.jl_writer.proofs.GoodGroups.{AreGroups, IsGoodNode, IsGoodItem}
use Rattle.jl_writer.proofs.KeysMean.{outset, iri_expands, iri_is, predicate_means, predicate_no_context}
use Rattle.jl_writer.proofs.Decided.{inside, IsArrayFirst, id_decided, rest_is, language_decided, type_decided}

-- ---- objects

none_of : (a b c d : List Fault) → a ≡ [] → b ≡ [] → c ≡ [] → d ≡ [] → (a ++ (b ++ c)) ++ d ≡ []
none_of a b c d e f g h = ap₂ (λ x y. x ++ y) (ap₂ (λ x y. x ++ y) e (ap₂ (λ x y. x ++ y) f g)) h

-- a decided object whose members, keys and end have no fault
object_faultless : (under : Under) (stand : Stand) (at : ℕ) (ms : Members) (i : Inside) → decide streaming outset under stand at ms ≡ Ok i
    → members_faults streaming i (place own_member under stand (all_with is_kind i.final ms)) nothing_seen ms ≡ []
    → late_members streaming outset under stand at i ms ≡ [] → closing_faults under i at ms (entries streaming i own_member under ms) ≡ [] → late_contexts Streaming ms ≡ []
    → value_faults streaming outset under stand (object at ms) ≡ []
unfolding value_faults
object_faultless under stand at ms i d f g h k =
    ap (λ r. decided_faults r (λ i. members_faults streaming i (place own_member under stand (all_with is_kind i.final ms)) nothing_seen ms
    ++ (late_members streaming outset under stand at i ms ++ closing_faults under i at ms (entries streaming i own_member under ms))) ++ late_contexts Streaming ms) d
    ∙ none_of _ _ _ _ f g h k

-- ---- values

string_faultless : (p : Text) (at : ℕ) (text : Text) → value_faults streaming outset (property_of p) elsewhere (string_at at text) ≡ []
unfolding value_faults value_of literal_of
string_faultless p at text = refl

reference_faultless : (p : Text) (at a : ℕ) (name : Text) → value_faults streaming outset (property_of p) elsewhere (object at (reference_members a name)) ≡ []
unfolding value_faults decide final_context key_of expand_iri is_keyword keeps closing_faults
reference_faultless p at a name = refl

-- the value of a pair of members, and its place
abbrev second_at : ℕ → Text → Text → ℕ
second_at a key text = after_key (after_string (after_key a key) text + 1) value_key

tag_closes : (p : Text) (at a : ℕ) (tag text : Text) → IsTrue (is_language_tag tag)
    → closing_faults (property_of p) (inside Null) at (pair_members a language_key tag text) (language ∷ value ∷ []) ≡ []
unfolding closing_faults literal_of key_of expand_iri is_keyword
tag_closes p at a tag text h =
    ap (λ b. closing_number (property_of p) (inside Null) (elim b [ true ↦ literal (record { text = text; datatype = rdf_lang_string; language = Some tag }) | false ↦ left_out ]) (Some (string_at (second_at a language_key tag) text)) ++ []) h

language_faultless : (p : Text) (at a : ℕ) (tag text : Text) → IsTrue (is_language_tag tag)
    → value_faults streaming outset (property_of p) elsewhere (object at (pair_members a language_key tag text)) ≡ []
unfolding value_faults keeps key_of expand_iri is_keyword
language_faultless p at a tag text h =
    object_faultless (property_of p) elsewhere at (pair_members a language_key tag text) (inside Null) (language_decided p at a _ _ _ tag text) refl refl (tag_closes p at a tag text h) refl

pub type_is : (a : ℕ) (datatype text : Text) → IsIri datatype → value_type (inside (Name datatype)) (pair_members a type_key datatype text) ≡ typed_by (Name datatype)
unfolding key_of expand_iri is_keyword
type_is a datatype text h = ap typed_by (iri_expands datatype true true h)

iri_of_type : (datatype : Text) → IsIri datatype → type_iri (typed_by (Name datatype)) ≡ Some datatype
iri_of_type datatype h = ap (λ b. elim b [ true ↦ Some datatype | false ↦ None ]) (iri_is datatype h)

pub typed_value : (a : ℕ) (datatype text : Text) → IsIri datatype
    → value_object (inside (Name datatype)) (pair_members a type_key datatype text) ≡ literal (record { text = text; datatype = datatype; language = None })
unfolding key_of expand_iri is_keyword literal_of
typed_value a datatype text h =
    ap (λ t. object_value t None (string_at (second_at a type_key datatype) text)) (type_is a datatype text h)
    ∙ ap (λ t. literal_of (Str text) t None) (iri_of_type datatype h)

type_closes : (p : Text) (at a : ℕ) (datatype text : Text) → IsIri datatype
    → closing_faults (property_of p) (inside (Name datatype)) at (pair_members a type_key datatype text) (kind ∷ value ∷ []) ≡ []
unfolding closing_faults key_of expand_iri is_keyword
type_closes p at a datatype text h =
    let i = inside (Name datatype) in
    let ms = pair_members a type_key datatype text in
    let v = Some (string_at (second_at a type_key datatype) text) in
    let json : is_json_type (value_type i ms) ≡ false = ap is_json_type (type_is a datatype text h) in
    let iri : has_iri (type_iri (value_type i ms)) ≡ true = ap (λ t. has_iri (type_iri t)) (type_is a datatype text h) ∙ ap has_iri (iri_of_type datatype h) in
    let valued = typed_value a datatype text h in
    ap (λ b. formed_closing b (property_of p) i at ms (kind ∷ value ∷ []) v ++ []) json
    ∙ ap₂ (λ b x. or_else (if_so (true && not b) (fault code.InvalidTypedValue at ∷ [])) (closing_number (property_of p) i x v) ++ []) iri valued

type_faultless : (p : Text) (at a : ℕ) (datatype text : Text) → IsIri datatype
    → value_faults streaming outset (property_of p) elsewhere (object at (pair_members a type_key datatype text)) ≡ []
unfolding value_faults keeps key_of expand_iri is_keyword
type_faultless p at a datatype text h =
    object_faultless (property_of p) elsewhere at (pair_members a type_key datatype text) (inside (Name datatype)) (type_decided p at a _ _ _ datatype text h) refl refl
    (type_closes p at a datatype text h) refl

literal_faultless : (p : Text) (at : ℕ) (lit : Lit) (tag : Option Text) → IsIri lit.datatype → IsLanguage lit.datatype tag → value_faults streaming outset (property_of p) elsewhere (literal_by at lit tag) ≡ []
literal_faultless p at lit (Some tag) d l = language_faultless p at (at + 1) tag lit.text l.0
literal_faultless p at lit None d l = by (bytes_eq lit.datatype xsd_string)
  where
    by : (b : Bool) → value_faults streaming outset (property_of p) elsewhere (elim b [ true ↦ string_at at lit.text | false ↦ object at (pair_members (at + 1) type_key lit.datatype lit.text) ]) ≡ []
    by true = string_faultless p at lit.text
    by false = type_faultless p at (at + 1) lit.datatype lit.text d

value_faultless : (p : Text) (at : ℕ) (t : Term) → IsObject t → value_faults streaming outset (property_of p) elsewhere (value_tree at t) ≡ []
value_faultless p at (Iri iri) h = reference_faultless p at (at + 1) (node_name (Iri iri))
value_faultless p at (Blank label) h = reference_faultless p at (at + 1) (node_name (Blank label))
value_faultless p at (Literal lit) h = literal_faultless p at lit lit.language h.datatype h.language

-- ---- lists of values

next_faultless : (under : Under) (stand : Stand) (x : Tree) (xs : Trees) → value_faults streaming outset under stand x ≡ [] → items_faults streaming outset under stand xs ≡ [] → items_faults streaming outset under stand (item x xs) ≡ []
unfolding value_faults
next_faultless under stand x xs e h = ap₂ (λ a b. a ++ b) e h

values_faultless : (p : Text) (at : ℕ) (ts : List Term) → AllByRecursion IsObject ts → items_faults streaming outset (property_of p) elsewhere (values_tree at ts) ≡ []
unfolding value_faults values_tree
values_faultless p at [] h = refl
values_faultless p at (t ∷ ts) h = next_faultless (property_of p) elsewhere (value_tree (at + 1) t) (values_tree (at + 1 + length (value_text t)) ts) (value_faultless p (at + 1) t h.0) (values_faultless p (at + 1 + length (value_text t)) ts h.1)

array_faultless : (p : Text) (at : ℕ) (t : Term) (ts : List Term) → IsObject t → AllByRecursion IsObject ts → value_faults streaming outset (property_of p) elsewhere (values_in at t ts) ≡ []
unfolding value_faults
array_faultless p at t ts h hs = next_faultless (property_of p) elsewhere (value_tree (at + 1) t) (values_tree (at + 1 + length (value_text t)) ts) (value_faultless p (at + 1) t h) (values_faultless p (at + 1 + length (value_text t)) ts hs)

-- ---- members of a node

split_member : (i : Inside) (p : Place) (seen : Seen) (a : ℕ) (n : Text) (v : Tree) (rest : Members)
    → members_faults streaming i p seen (member a n v rest) ≡ members_faults streaming i p seen (member a n v no_member) ++ members_faults streaming i p (see streaming i p.role p.under seen a n v) rest
unfolding value_faults
split_member i p seen a n v rest = ap (λ x. x ++ members_faults streaming i p (see streaming i p.role p.under seen a n v) rest) (sym (append-nil _))

group_faultless : (under : Under) (kinds : List Tree) (seen : Seen) (a at : ℕ) (p : Text) (t : Term) (ts : List Term) → IsIri p → IsObject t → AllByRecursion IsObject ts
    → members_faults streaming (inside Null) (place own_member under elsewhere kinds) seen (member a p (values_in at t ts) no_member) ≡ []
unfolding value_faults
group_faultless under kinds seen a at p t ts i h hs = rw (predicate_means p i) (ap (λ x. (x ++ []) ++ []) (array_faultless p at t ts h hs))

groups_faultless : (under : Under) (kinds : List Tree) (seen : Seen) (at : ℕ) (had : List Text) (gs : List Group) → AreGroups had gs
    → members_faults streaming (inside Null) (place own_member under elsewhere kinds) seen (groups_tree at gs) ≡ []
unfolding value_faults groups_tree
groups_faultless under kinds seen at had [] h = refl
groups_faultless under kinds seen at had (g ∷ gs) h =
    let place_of = after_key (at + 1) g.predicate in
    let end = place_of + length (list_text g.first g.more) in
    let vs = values_in place_of g.first g.more in
    split_member (inside Null) (place own_member under elsewhere kinds) seen (at + 1) g.predicate vs (groups_tree end gs)
    ∙ ap₂ (λ a b. a ++ b) (group_faultless under kinds seen (at + 1) place_of g.predicate g.first g.more h.0.predicate h.0.first h.0.more)
    (groups_faultless under kinds (see streaming (inside Null) own_member under seen (at + 1) g.predicate vs) end (g.predicate ∷ had) gs h.1)

id_faultless : (under : Under) (kinds : List Tree) (a b : ℕ) (name : Text)
    → members_faults streaming (inside Null) (place own_member under elsewhere kinds) nothing_seen (member a id_key (string_at b name) no_member) ≡ []
unfolding value_faults key_of expand_iri is_keyword
id_faultless under kinds a b name = refl

-- ---- late keys

pub groups_first : (had : List Text) (at : ℕ) (gs : List Group) → AreGroups had gs → IsArrayFirst (groups_tree at gs)
unfolding groups_tree
groups_first had at [] h = tt
groups_first had at (g ∷ gs) h = (ap is_kind (predicate_means g.predicate h.0.predicate), ap is_leading (predicate_means g.predicate h.0.predicate))

groups_late : (had : List Text) (at : ℕ) (gs : List Group) → AreGroups had gs → late_keys (inside Null) (groups_tree at gs) ≡ []
unfolding groups_tree
groups_late had at [] h = refl
groups_late had at (g ∷ gs) h =
    ap₂ (λ a b. a ++ b) (one g.predicate (at + 1) h.0.predicate) (groups_late (g.predicate ∷ had) (after_key (at + 1) g.predicate + length (list_text g.first g.more)) gs h.1)
  where
    one : (p : Text) (a : ℕ) → IsIri p → late_key (inside Null) p a ≡ []
    one p a i =
        ap (λ k. if_so (is_kind k || is_kind k) (fault code.LateType a ∷ []) ++ (if_so (is_id k) (fault code.LateIdentifier a ∷ []) ++ if_so (is_value k || (false && is_value k)) (fault code.LateValue a ∷ []))) (predicate_means p i)

groups_contexts : (had : List Text) (at : ℕ) (gs : List Group) → AreGroups had gs → context_faults (groups_tree at gs) ≡ []
unfolding groups_tree
groups_contexts had at [] h = refl
groups_contexts had at (g ∷ gs) h =
    ap₂ (λ a b. a ++ b) (ap (λ b. if_so b (fault code.LateContext (at + 1) ∷ [])) (predicate_no_context g.predicate h.0.predicate))
    (groups_contexts (g.predicate ∷ had) (after_key (at + 1) g.predicate + length (list_text g.first g.more)) gs h.1)

-- where nothing after the identifier is late
not_late : (under : Under) (at a b : ℕ) (name : Text) (ms : Members) → IsArrayFirst ms → late_keys (inside Null) ms ≡ []
    → late_members streaming outset under elsewhere at (inside Null) (member a id_key (string_at b name) ms) ≡ []
not_late under at a b name ms h k = ap (λ x. x ++ []) (ap (late_keys (inside Null)) (rest_is under elsewhere at a b name ms h) ∙ k)

-- ---- the end of an object

abbrev pub keys_of : List Group → List Key
keys_of [] = []
keys_of (g ∷ gs) = property g.predicate ∷ keys_of gs

group_entry : (under : Under) (a at : ℕ) (p : Text) (t : Term) (ts : List Term) (rest : Members) → IsIri p
    → entries streaming (inside Null) own_member under (member a p (values_in at t ts) rest) ≡ property p ∷ entries streaming (inside Null) own_member under rest
unfolding keeps
group_entry under a at p t ts rest i = rw (predicate_means p i) refl

pub groups_entries : (under : Under) (had : List Text) (at : ℕ) (gs : List Group) → AreGroups had gs → entries streaming (inside Null) own_member under (groups_tree at gs) ≡ keys_of gs
unfolding keeps groups_tree
groups_entries under had at [] h = refl
groups_entries under had at (g ∷ gs) h =
    let end = after_key (at + 1) g.predicate + length (list_text g.first g.more) in
    group_entry under (at + 1) (after_key (at + 1) g.predicate) g.predicate g.first g.more (groups_tree end gs) h.0.predicate
    ∙ ap (λ ks. property g.predicate ∷ ks) (groups_entries under (g.predicate ∷ had) end gs h.1)

pub no_key : (test : Key → Bool) → ((p : Text) → test (property p) ≡ false) → (gs : List Group) → any_key test (keys_of gs) ≡ false
no_key test none [] = refl
no_key test none (g ∷ gs) = ap₂ (λ a b. a || b) (none g.predicate) (no_key test none gs)

node_closes : (under : Under) (i : Inside) (at : ℕ) (ms : Members) (gs : List Group) → closing_faults under i at ms (id ∷ keys_of gs) ≡ []
unfolding closing_faults
node_closes under i at ms gs =
    rw (no_key is_value (λ p. refl) gs, no_key is_set (λ p. refl) gs, no_key is_list (λ p. refl) gs) refl

pub id_entry : (under : Under) (a b : ℕ) (name : Text) (ms : Members) → entries streaming (inside Null) own_member under (member a id_key (string_at b name) ms) ≡ id ∷ entries streaming (inside Null) own_member under ms
unfolding keeps key_of expand_iri is_keyword
id_entry under a b name ms = refl

-- ---- nodes

node_faultless : (under : Under) (at : ℕ) (n : Node) → IsGoodNode n → value_faults streaming outset under elsewhere (node_tree at n) ≡ []
unfolding node_tree
node_faultless under at n h =
    let name = node_name n.subject in
    let a = at + 1 in
    let b = after_key a id_key in
    let end = after_string b name in
    let gs = groups_tree end n.groups in
    let ms = member a id_key (string_at b name) gs in
    let first = groups_first (id_key ∷ []) end n.groups h.groups in
    let members = λ (kinds : List Tree). split_member (inside Null) (place own_member under elsewhere kinds) nothing_seen a id_key (string_at b name) gs
    ∙ ap₂ (λ x y. x ++ y) (id_faultless under kinds a b name) (groups_faultless under kinds (see streaming (inside Null) own_member under nothing_seen a id_key (string_at b name)) end (id_key ∷ []) n.groups h.groups) in
    let closes = ap (closing_faults under (inside Null) at ms) (id_entry under a b name gs ∙ ap (λ ks. id ∷ ks) (groups_entries under (id_key ∷ []) end n.groups h.groups)) ∙ node_closes under (inside Null) at ms n.groups in
    object_faultless under elsewhere at ms (inside Null) (id_decided under elsewhere at a b name gs first) (members (all_with is_kind outset ms))
    (not_late under at a b name gs first (groups_late (id_key ∷ []) end n.groups h.groups)) closes (groups_contexts (id_key ∷ []) end n.groups h.groups)

nodes_faultless : (at : ℕ) (ns : List Node) → AllByRecursion IsGoodNode ns → items_faults streaming outset graph_property elsewhere (nodes_tree at ns) ≡ []
unfolding value_faults nodes_tree
nodes_faultless at [] h = refl
nodes_faultless at (n ∷ ns) h =
    next_faultless graph_property elsewhere (node_tree (at + 1) n) (nodes_tree (at + 1 + length (node_text n)) ns) (node_faultless graph_property (at + 1) n h.0)
    (nodes_faultless (at + 1 + length (node_text n)) ns h.1)

list_faultless : (at : ℕ) (n : Node) (ns : List Node) → IsGoodNode n → AllByRecursion IsGoodNode ns → value_faults streaming outset graph_property elsewhere (nodes_in at n ns) ≡ []
unfolding value_faults
list_faultless at n ns h hs =
    next_faultless graph_property elsewhere (node_tree (at + 1) n) (nodes_tree (at + 1 + length (node_text n)) ns) (node_faultless graph_property (at + 1) n h)
    (nodes_faultless (at + 1 + length (node_text n)) ns hs)

-- ---- graphs

pub graph_first : (c : ℕ) (d : ℕ) (n : Node) (ns : List Node) → IsArrayFirst (member c graph_key (nodes_in d n ns) no_member)
unfolding key_of expand_iri is_keyword
graph_first c d n ns = (refl, refl)

content_faultless : (kinds : List Tree) (a b c d : ℕ) (name : Text) (n : Node) (ns : List Node) → IsGoodNode n → AllByRecursion IsGoodNode ns
    → members_faults streaming (inside Null) (place own_member no_property elsewhere kinds) (see streaming (inside Null) own_member no_property nothing_seen a id_key (string_at b name))
    (member c graph_key (nodes_in d n ns) no_member) ≡ []
unfolding value_faults keeps key_of expand_iri is_keyword
content_faultless kinds a b c d name n ns h hs = ap (λ x. x ++ []) (list_faultless d n ns h hs)

graph_late : (c d : ℕ) (n : Node) (ns : List Node) → late_keys (inside Null) (member c graph_key (nodes_in d n ns) no_member) ≡ []
unfolding key_of expand_iri is_keyword
graph_late c d n ns = refl

graph_closes : (at a b c d : ℕ) (name : Text) (n : Node) (ns : List Node)
    → closing_faults no_property (inside Null) at (member a id_key (string_at b name) (member c graph_key (nodes_in d n ns) no_member))
    (entries streaming (inside Null) own_member no_property (member a id_key (string_at b name) (member c graph_key (nodes_in d n ns) no_member))) ≡ []
unfolding closing_faults keeps key_of expand_iri is_keyword
graph_closes at a b c d name n ns = refl

graph_faultless : (at a b c d : ℕ) (name : Text) (n : Node) (ns : List Node) → IsGoodNode n → AllByRecursion IsGoodNode ns
    → value_faults streaming outset no_property elsewhere (object at (member a id_key (string_at b name) (member c graph_key (nodes_in d n ns) no_member))) ≡ []
graph_faultless at a b c d name n ns h hs =
    let content = member c graph_key (nodes_in d n ns) no_member in
    let ms = member a id_key (string_at b name) content in
    let members = λ (kinds : List Tree). split_member (inside Null) (place own_member no_property elsewhere kinds) nothing_seen a id_key (string_at b name) content
    ∙ ap₂ (λ x y. x ++ y) (id_faultless no_property kinds a b name) (content_faultless kinds a b c d name n ns h hs) in
    object_faultless no_property elsewhere at ms (inside Null) (id_decided no_property elsewhere at a b name content (graph_first c d n ns)) (members (all_with is_kind outset ms))
    (not_late no_property at a b name content (graph_first c d n ns) (graph_late c d n ns)) (graph_closes at a b c d name n ns) refl

item_faultless : (at : ℕ) (i : Item) → IsGoodItem i → value_faults streaming outset no_property elsewhere (item_tree at i) ≡ []
unfolding item_tree
item_faultless at (one_node n) h = node_faultless no_property at n h
item_faultless at (one_graph g n ns) h = graph_faultless at (at + 1) _ _ _ (node_name g) n ns h.first h.more

more_faultless : (at : ℕ) (is : List Item) → AllByRecursion IsGoodItem is → items_faults streaming outset no_property elsewhere (items_tree at is) ≡ []
unfolding value_faults items_tree
more_faultless at [] h = refl
more_faultless at (i ∷ is) h =
    next_faultless no_property elsewhere (item_tree (at + 1 + 1) i) (items_tree (at + 1 + 1 + length (item_text i)) is) (item_faultless (at + 1 + 1) i h.0)
    (more_faultless (at + 1 + 1 + length (item_text i)) is h.1)

-- the tree of the items has no fault
pub tree_faultless : (is : List Item) → AllByRecursion IsGoodItem is → faults streaming (array_tree is) ≡ []
unfolding faults value_faults array_tree
tree_faultless [] h = refl
tree_faultless (i ∷ is) h =
    next_faultless no_property elsewhere (item_tree 1 i) (items_tree (1 + length (item_text i)) is) (item_faultless 1 i h.0) (more_faultless (1 + length (item_text i)) is h.1)
