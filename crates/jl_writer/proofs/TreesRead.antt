-- The text of grouped quads reads as their tree.
use Rattle.std.proofs.Common.{◌≡◌, ℕ, ◌+◌, suc, Bool, true, false, List, [], ◌∷◌, ◌++◌, length, Option, Some, None, IsUtf8, codes, bytes_eq, inl, inr, refl, sym, ap, ◌∙◌, subst, append_assoc}
use Rattle.std.specs.List.{AllByRecursion}
use Rattle.jl_model.specs.Parts.{IsObject, IsLanguage, xsd_string}
use Rattle.jl_model.specs.JsonText.{Blanks, ValueText, MoreItems, MoreMembers}
use Rattle.jl_model.specs.declared.terms.Lit.{Lit}
use Rattle.jl_model.specs.declared.terms.Term.{Term}
use Rattle.jl_model.specs.declared.terms.Term.TheVariants.{Iri, Blank, Literal}
use Rattle.jl_model.specs.JsonTree.{no_item, item, no_member, object}
use Rattle.jl_defs.specs.Texts.{Text}
use Rattle.jl_defs.specs.Canon.{string_text}
use Rattle.jl_defs.specs.OpenText.{ReadsAs}
use Rattle.jl_defs.specs.WriterText.{node_name, value_text, literal_value}
use Rattle.jl_writer.proofs.Grouped.{Group, Node, Item, one_node, one_graph, id_key, graph_key, values_text, groups_text, node_text, nodes_text, item_text, items_text, array_text}
use Rattle.jl_writer.proofs.GroupedTrees.{type_key, value_key, language_key, after_key, string_at, named, no_more, reference_members, pair_members, literal_by, value_tree, values_tree, values_in, list_text, groups_tree, node_tree, nodes_tree, nodes_in, graph_members, item_tree, items_tree, array_tree}
use Rattle.jl_writer.proofs.GoodGroups.{AreGroups, IsGoodNode, IsGoodItem, apart, low_utf8, name_utf8, tag_utf8}
use Rattle.jl_writer.proofs.Readings.{Language, Read, and_then, unblank, string_read, array_read, object_read, no_items, items_end, first_item, next_item, next_line, members_end, first_member, next_member}

read_as : (L : Language) (at : ℕ) (t u : Text) → t ≡ u → Read L at t → Read L at u
read_as L at t u e h = subst (Read L at) e h

-- ---- the keys

id_utf8 : IsUtf8 id_key
id_utf8 = low_utf8 id_key refl

graph_utf8 : IsUtf8 graph_key
graph_utf8 = low_utf8 graph_key refl

type_utf8 : IsUtf8 type_key
type_utf8 = low_utf8 type_key refl

value_utf8 : IsUtf8 value_key
value_utf8 = low_utf8 value_key refl

language_utf8 : IsUtf8 language_key
language_utf8 = low_utf8 language_key refl

-- ---- values

abbrev reference_text : Text → Text
reference_text name = 123 ∷ (string_text id_key ++ 58 ∷ (string_text name ++ 125 ∷ []))

reference_read : (r at : ℕ) (name : Text) → IsUtf8 name → Read (ValueText true (suc r) (object at (reference_members (at + 1) name))) at (reference_text name)
reference_read r at name u =
    object_read (suc r) r at (reference_members (at + 1) name) _ refl
    (first_member r (at + 1) id_key (string_at (after_key (at + 1) id_key) name) no_member (string_text name) (125 ∷ []) id_utf8 (string_read r (after_key (at + 1) id_key) name u)
    (members_end r (after_key (at + 1) id_key + length (string_text name)) (id_key ∷ [])))

id_string : string_text id_key ≡ codes "\"@id\""
unfolding string_text
id_string = refl

reference_is : (name : Text) → reference_text name ≡ codes "{\"@id\":" ++ string_text name ++ codes "}"
reference_is name = ap (λ id. 123 ∷ (id ++ 58 ∷ (string_text name ++ 125 ∷ []))) id_string

abbrev pair_text : Text → Text → Text → Text
pair_text key text value = 123 ∷ (string_text key ++ 58 ∷ (string_text text ++ 44 ∷ (string_text value_key ++ 58 ∷ (string_text value ++ 125 ∷ []))))

pair_read : (r at : ℕ) (key text value : Text) → IsUtf8 key → IsUtf8 text → IsUtf8 value → bytes_eq key value_key ≡ false
    → Read (ValueText true (suc r) (object at (pair_members (at + 1) key text value))) at (pair_text key text value)
pair_read r at key text value k t v other =
    let first = after_key (at + 1) key in
    let end = first + length (string_text text) in
    let second = after_key (end + 1) value_key in
    object_read (suc r) r at (pair_members (at + 1) key text value) _ refl
    (first_member r (at + 1) key (string_at first text) (named (end + 1) value_key value no_more) (string_text text) (44 ∷ (string_text value_key ++ 58 ∷ (string_text value ++ 125 ∷ []))) k (string_read r first text t)
    (next_member r end (key ∷ []) value_key (string_at second value) no_member (string_text value) (125 ∷ []) value_utf8 (apart key value_key other, tt) (string_read r second value v)
    (members_end r (second + length (string_text value)) (value_key ∷ key ∷ []))))

pair_is : (a b key text value : Text) (k v : Text) → 123 ∷ (key ++ 58 ∷ []) ≡ a → 44 ∷ (v ++ 58 ∷ []) ≡ b
    → 123 ∷ (key ++ 58 ∷ (text ++ 44 ∷ (v ++ 58 ∷ (value ++ 125 ∷ [])))) ≡ a ++ text ++ b ++ value ++ codes "}"
pair_is a b key text value k v e f =
    let left : 123 ∷ (key ++ 58 ∷ (text ++ 44 ∷ (v ++ 58 ∷ (value ++ 125 ∷ [])))) ≡ (((123 ∷ (key ++ 58 ∷ [])) ++ text) ++ (44 ∷ (v ++ 58 ∷ []))) ++ value ++ 125 ∷ [] = sym (simp append_assoc) in
    left ∙ ap (λ x. ((x ++ text) ++ (44 ∷ (v ++ 58 ∷ []))) ++ value ++ 125 ∷ []) e ∙ ap (λ x. ((a ++ text) ++ x) ++ value ++ 125 ∷ []) f

value_front : 44 ∷ (string_text value_key ++ 58 ∷ []) ≡ codes ",\"@value\":"
unfolding string_text
value_front = refl

language_front : 123 ∷ (string_text language_key ++ 58 ∷ []) ≡ codes "{\"@language\":"
unfolding string_text
language_front = refl

type_front : 123 ∷ (string_text type_key ++ 58 ∷ []) ≡ codes "{\"@type\":"
unfolding string_text
type_front = refl

pair_written : (a key text value : Text) → 123 ∷ (string_text key ++ 58 ∷ []) ≡ a → pair_text key text value ≡ a ++ string_text text ++ codes ",\"@value\":" ++ string_text value ++ codes "}"
pair_written a key text value e = pair_is a (codes ",\"@value\":") (string_text key) (string_text text) (string_text value) key (string_text value_key) e value_front

literal_read : (r at : ℕ) (lit : Lit) (language : Option Text) → IsUtf8 lit.text → IsUtf8 lit.datatype → IsLanguage lit.datatype language
    → Read (ValueText true (suc r) (literal_by at lit language)) at (literal_value (record lit { language = language }))
literal_read r at lit (Some tag) t d l =
    read_as (ValueText true (suc r) (literal_by at lit (Some tag))) at _ _ (pair_written (codes "{\"@language\":") language_key tag lit.text language_front)
    (pair_read r at language_key tag lit.text language_utf8 (tag_utf8 tag l.0) t refl)
literal_read r at lit None t d l = by (bytes_eq lit.datatype xsd_string)
  where
    by : (b : Bool) → Read (ValueText true (suc r) (elim b [ true ↦ string_at at lit.text | false ↦ object at (pair_members (at + 1) type_key lit.datatype lit.text) ])) at
        (elim b [ true ↦ string_text lit.text | false ↦ codes "{\"@type\":" ++ string_text lit.datatype ++ codes ",\"@value\":" ++ string_text lit.text ++ codes "}" ])
    by true = string_read (suc r) at lit.text t
    by false =
        read_as (ValueText true (suc r) (object at (pair_members (at + 1) type_key lit.datatype lit.text))) at _ _ (pair_written (codes "{\"@type\":") type_key lit.datatype lit.text type_front)
        (pair_read r at type_key lit.datatype lit.text type_utf8 d t refl)

value_read : (r at : ℕ) (t : Term) → IsObject t → Read (ValueText true (suc r) (value_tree at t)) at (value_text t)
value_read r at (Iri iri) h = read_as (ValueText true (suc r) (value_tree at (Iri iri))) at _ _ (reference_is iri) (reference_read r at iri (name_utf8 (Iri iri) h))
value_read r at (Blank label) h =
    read_as (ValueText true (suc r) (value_tree at (Blank label))) at _ _ (reference_is (node_name (Blank label))) (reference_read r at (node_name (Blank label)) (name_utf8 (Blank label) h))
value_read r at (Literal lit) h = literal_read r at lit lit.language h.text h.datatype.utf8 h.language

-- ---- lists of values, predicates, nodes and items

values_read : (r at : ℕ) (ts : List Term) → AllByRecursion IsObject ts → Read (MoreItems true (suc r) (values_tree at ts)) at (values_text ts)
unfolding values_tree values_text
values_read r at [] h = items_end (suc r) at
values_read r at (t ∷ ts) h =
    next_item (suc r) at (value_tree (at + 1) t) (values_tree (at + 1 + length (value_text t)) ts) (value_text t) (values_text ts) (value_read r (at + 1) t h.0)
    (values_read r (at + 1 + length (value_text t)) ts h.1)

list_read : (r at : ℕ) (t : Term) (ts : List Term) → IsObject t → AllByRecursion IsObject ts → Read (ValueText true (suc (suc r)) (values_in at t ts)) at (list_text t ts)
list_read r at t ts h hs =
    array_read (suc (suc r)) (suc r) at (item (value_tree (at + 1) t) (values_tree (at + 1 + length (value_text t)) ts)) _ refl
    (first_item (suc r) (at + 1) (value_tree (at + 1) t) (values_tree (at + 1 + length (value_text t)) ts) (value_text t) (values_text ts) (value_read r (at + 1) t h)
    (values_read r (at + 1 + length (value_text t)) ts hs))

groups_read : (r at : ℕ) (had : List Text) (gs : List Group) → AreGroups had gs → Read (MoreMembers true (suc (suc r)) had (groups_tree at gs)) at (groups_text gs)
unfolding groups_tree groups_text
groups_read r at had [] h = members_end (suc (suc r)) at had
groups_read r at had (g ∷ gs) h =
    let place = after_key (at + 1) g.predicate in
    let end = place + length (list_text g.first g.more) in
    next_member (suc (suc r)) at had g.predicate (values_in place g.first g.more) (groups_tree end gs) (list_text g.first g.more) (groups_text gs) h.0.predicate.utf8 h.0.new
    (list_read r place g.first g.more h.0.first h.0.more) (groups_read r end (g.predicate ∷ had) gs h.1)

node_read : (r at : ℕ) (n : Node) → IsGoodNode n → Read (ValueText true (suc (suc (suc r))) (node_tree at n)) at (node_text n)
unfolding node_tree node_text
node_read r at n h =
    let place = after_key (at + 1) id_key in
    let name = node_name n.subject in
    let end = place + length (string_text name) in
    object_read (suc (suc (suc r))) (suc (suc r)) at (named (at + 1) id_key name (λ end. groups_tree end n.groups)) _ refl
    (first_member (suc (suc r)) (at + 1) id_key (string_at place name) (groups_tree end n.groups) (string_text name) (groups_text n.groups) id_utf8
    (string_read (suc (suc r)) place name (name_utf8 n.subject h.subject)) (groups_read r end (id_key ∷ []) n.groups h.groups))

nodes_read : (r at : ℕ) (ns : List Node) → AllByRecursion IsGoodNode ns → Read (MoreItems true (suc (suc (suc r))) (nodes_tree at ns)) at (nodes_text ns)
unfolding nodes_tree nodes_text
nodes_read r at [] h = items_end (suc (suc (suc r))) at
nodes_read r at (n ∷ ns) h =
    next_item (suc (suc (suc r))) at (node_tree (at + 1) n) (nodes_tree (at + 1 + length (node_text n)) ns) (node_text n) (nodes_text ns) (node_read r (at + 1) n h.0)
    (nodes_read r (at + 1 + length (node_text n)) ns h.1)

item_read : (at : ℕ) (i : Item) → IsGoodItem i → Read (ValueText true 255 (item_tree at i)) at (item_text i)
unfolding item_tree item_text
item_read at (one_node n) h = node_read 252 at n h
item_read at (one_graph g n ns) h =
    let place = after_key (at + 1) id_key in
    let name = node_name g in
    let end = place + length (string_text name) in
    let list = after_key (end + 1) graph_key in
    let nodes = 91 ∷ (node_text n ++ nodes_text ns) in
    object_read 255 254 at (named (at + 1) id_key name (graph_members n ns)) _ refl
    (first_member 254 (at + 1) id_key (string_at place name) (graph_members n ns end) (string_text name) (44 ∷ (string_text graph_key ++ 58 ∷ (nodes ++ 125 ∷ []))) id_utf8
    (string_read 254 place name (name_utf8 g h.name))
    (next_member 254 end (id_key ∷ []) graph_key (nodes_in list n ns) no_member nodes (125 ∷ []) graph_utf8 (apart id_key graph_key refl, tt)
    (array_read 254 253 list (item (node_tree (list + 1) n) (nodes_tree (list + 1 + length (node_text n)) ns)) _ refl
    (first_item 253 (list + 1) (node_tree (list + 1) n) (nodes_tree (list + 1 + length (node_text n)) ns) (node_text n) (nodes_text ns) (node_read 250 (list + 1) n h.first)
    (nodes_read 250 (list + 1 + length (node_text n)) ns h.more)))
    (members_end 254 (list + length nodes) (graph_key ∷ id_key ∷ []))))

items_read : (at : ℕ) (is : List Item) → AllByRecursion IsGoodItem is → Read (MoreItems true 255 (items_tree at is)) at (items_text is)
unfolding items_tree items_text
items_read at [] h = items_end 255 at
items_read at (i ∷ is) h =
    next_line 255 at (item_tree (at + 1 + 1) i) (items_tree (at + 1 + 1 + length (item_text i)) is) (item_text i) (items_text is) (item_read (at + 1 + 1) i h.0)
    (items_read (at + 1 + 1 + length (item_text i)) is h.1)

whole_read : (is : List Item) → AllByRecursion IsGoodItem is → Read (ValueText true 256 (array_tree is)) 0 (array_text is)
unfolding array_tree array_text
whole_read [] h = array_read 256 255 0 no_item (93 ∷ []) refl (no_items 255 1)
whole_read (i ∷ is) h =
    array_read 256 255 0 (item (item_tree 1 i) (items_tree (1 + length (item_text i)) is)) _ refl
    (first_item 255 1 (item_tree 1 i) (items_tree (1 + length (item_text i)) is) (item_text i) (items_text is) (item_read 1 i h.0) (items_read (1 + length (item_text i)) is h.1))

-- the text of the items is read as their tree
pub items_text_read : (is : List Item) → AllByRecursion IsGoodItem is → ReadsAs (array_text is ++ 10 ∷ []) (array_tree is)
items_text_read is h =
    unblank _ 0 _ (and_then (ValueText true 256 (array_tree is)) Blanks 0 (array_text is) (10 ∷ []) (whole_read is h)
    ([], record { tokens_are = refl; blank = (inr (inr (inl refl)), tt) }))
