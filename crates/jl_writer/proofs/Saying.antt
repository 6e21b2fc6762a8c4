-- What the trees of grouped quads say.
use Rattle.std.proofs.Common.{◌≡◌, ℕ, ◌+◌, Bool, true, false, ◌&&◌, ◌||◌, List, [], ◌∷◌, ◌++◌, length, map, Option, Some, None, Ok, IsTrue, IsUtf8, bytes_eq, refl, sym, ap, ap₂, ◌∙◌, subst, append-nil}
use Rattle.std.proofs.lemmas.List.{map-append}
use Rattle.std.proofs.lemmas.Str.{is_utf8-from_IsUtf8}
use Rattle.std.proofs.lemmas.Slice.Eq.{bytes_eq-Decides}
use Rattle.std.specs.List.{AllByRecursion}
use Rattle.jl_model.specs.Iris.{IsIri}
use Rattle.jl_model.specs.JsonTree.{Tree, scalar, array, object, Trees, item, Members, no_member, member}
use Rattle.jl_model.specs.Parts.{Parts, parts_of, IsNode, IsObject, IsLanguage, xsd_string, rdf_lang_string}
use Rattle.jl_model.specs.Tags.{is_language_tag}
use Rattle.jl_model.specs.declared.expansions.Expanded.TheVariants.{Null, Name}
use Rattle.jl_model.specs.declared.terms.Lit.{Lit}
use Rattle.jl_model.specs.declared.terms.Term.{Term}
use Rattle.jl_model.specs.declared.terms.Term.TheVariants.{Iri, Blank, Literal}
use Rattle.jl_model.specs.declared.graph_scopes.GraphScope.{GraphScope}
use Rattle.jl_model.specs.declared.graph_scopes.GraphScope.TheVariants.{Main, Named}
use Rattle.jl_defs.specs.Texts.{Text, is_keyword}
use Rattle.jl_defs.specs.IriExpansion.{expand_iri}
use Rattle.jl_defs.specs.Settings.{Under, no_property, graph_property, property_of, elsewhere}
use Rattle.jl_defs.specs.Keys.{id, key_of, is_graph, is_value, is_list, is_set}
use Rattle.jl_defs.specs.ObjectContexts.{Inside, decide, final_context}
use Rattle.jl_defs.specs.Values.{literal, left_out, value_of, literal_of}
use Rattle.jl_defs.specs.ValueObjects.{unless_refused, is_json_type, value_type}
use Rattle.jl_defs.specs.Kept.{own_member, keeps, entries}
use Rattle.jl_defs.specs.Graphs.{Shape, node_object, reads_as_graph, shape_of}
use Rattle.jl_defs.specs.NodeMap.{term_of_node}
use Rattle.jl_defs.specs.Items.{named as named_by}
use Rattle.jl_defs.specs.Dataset.{Head, link, turned, term_of_literal, term_of_value}
use Rattle.jl_defs.specs.Expansion.{naming, naming_by}
use Rattle.jl_defs.specs.WriterText.{node_name, value_text}
use Rattle.jl_laws.specs.Spots.{Spot, spot, Said, ordinary, linked, loose, moved, stand_of, then_says, behind, node_says}
use Rattle.jl_laws.specs.Spots as spots
use Rattle.jl_laws.specs.Says.{walk, walk_all, walk_key, members_say, object_says, decided_says, value_at_spot, graph_head, says, root_spot}
use Rattle.jl_nquads.specs.Renamed.{renamed, renamed_term}
use Rattle.jl_writer.specs.Laws.{streaming}
use Rattle.jl_writer.proofs.Grouped.{Group, Node, Item, one_node, one_graph, id_key, graph_key, node_text, item_text}
use Rattle.jl_writer.proofs.GroupedTrees.{type_key, language_key, after_key, after_string, string_at, reference_members, pair_members, literal_by, value_tree, values_tree, values_in, list_text, groups_tree, node_tree, nodes_tree, nodes_in, item_tree, items_tree, array_tree}
use Rattle.jl_writer.proofs.GroupedQuads.{values_said, groups_said, node_said, nodes_said, item_said, items_said}
use Rattle.jl_writer.proofs.GoodGroups.{AreGroups, IsGoodNode, IsGoodItem}
use Rattle.jl_writer.proofs.KeysMean.{outset, iri_is, name_expands, name_is_term, predicate_means}
use Rattle.jl_writer.proofs.Decided.{inside, id_decided, type_decided}
use Rattle.jl_writer.proofs.Faultless.{type_is, typed_value, groups_first, groups_entries, keys_of, no_key, id_entry, graph_first}

-- the graph in which a quad is said
abbrev scope_of : Option Term → GraphScope
scope_of None = Main
scope_of (Some g) = Named (renamed_term g)

-- where the values of a predicate hang
abbrev value_head : Option Term → Term → Text → Head
value_head g s p = record { subject = Some (renamed_term s); predicate = p; scope = scope_of g; forward = true }

abbrev value_spot : Option Term → Term → Text → Spot
value_spot g s p = spot outset (property_of p) ordinary linked (value_head g s p)

link_is : (g : Option Term) (s : Term) (p : Text) (o : Term) → IsIri p → IsNode s → link (value_head g s p) (Some (renamed_term o)) ≡ renamed (parts_of s p o g) ∷ []
unfolding link
link_is g s p o i h =
    ap (λ b. elim b [ true ↦ turned true (scope_of g) (renamed_term s) p (renamed_term o) | false ↦ [] ]) (iri_is p i) ∙ by g s h
  where
    by : (g : Option Term) (s : Term) → IsNode s → turned true (scope_of g) (renamed_term s) p (renamed_term o) ≡ renamed (parts_of s p o g) ∷ []
    by None (Iri iri) h = refl
    by None (Blank label) h = refl
    by None (Literal lit) h = absurd h
    by (Some g) (Iri iri) h = refl
    by (Some g) (Blank label) h = refl
    by (Some g) (Literal lit) h = absurd h

literal_term : (text datatype : Text) (language : Option Text) → IsUtf8 text → IsIri datatype
    → term_of_literal (record { text = text; datatype = datatype; language = language }) ≡ Some (Literal (record { text = text; datatype = datatype; language = language }))
literal_term text datatype language u i =
    ap₂ (λ a b. elim (a && b) [ true ↦ Some (Literal (record { text = text; datatype = datatype; language = language })) | false ↦ None ]) (iri_is datatype i) (is_utf8-from_IsUtf8 text u)

-- ---- an object by what it is

abbrev object_of : Shape → Spot → ℕ → Members → Inside → Said
object_of shape p at ms i =
    object_says shape p i at ms
    (λ hanging h. walk_key streaming i is_list (spot i.final p.under ordinary hanging h) ms)
    (λ _. walk_key streaming i is_set (spot i.final p.under (spots.inside p.role.around) p.role.hanging p.head) ms)
    (λ _. walk_key streaming i is_graph (spot i.final graph_property ordinary p.role.hanging p.head) ms)
    (λ n scope. members_say streaming i own_member n scope ms)

abbrev shape_in : Spot → ℕ → Members → Inside → Shape
shape_in p at ms i = shape_of (reads_as_graph streaming p.context p.under (stand_of p.role.around) at i ms) (entries streaming i own_member p.under ms)

object_walks : (p : Spot) (at : ℕ) (ms : Members) (i : Inside) → decide streaming p.context p.under (stand_of p.role.around) at ms ≡ Ok i → walk streaming p (object at ms) ≡ object_of (shape_in p at ms i) p at ms i
unfolding walk
object_walks p at ms i d = ap (λ r. decided_says p.head r (λ i. object_of (shape_in p at ms i) p at ms i)) d

-- ---- values

abbrev SaysValue : Option Term → Term → Text → Term → Tree → Type 0
SaysValue g s p o t = walk streaming (value_spot g s p) t ≡ (renamed (parts_of s p o g) ∷ [], value_head g s p)

reference_walks : (g : Option Term) (s : Term) (p : Text) (at a : ℕ) (name : Text)
    → walk streaming (value_spot g s p) (object at (reference_members a name)) ≡ (link (value_head g s p) (term_of_node at (naming_by (expand_iri outset name false true))), value_head g s p)
unfolding walk decide final_context key_of expand_iri is_keyword keeps
reference_walks g s p at a name = refl

name_says : (g : Option Term) (s : Term) (p : Text) (at a : ℕ) (o : Term) → IsIri p → IsNode s → IsNode o → SaysValue g s p o (object at (reference_members a (node_name o)))
name_says g s p at a o i h k =
    reference_walks g s p at a (node_name o)
    ∙ ap (λ e. (link (value_head g s p) (term_of_node at (naming_by e)), value_head g s p)) (name_expands o false true k)
    ∙ ap (λ t. (link (value_head g s p) t, value_head g s p)) (name_is_term o k)
    ∙ ap (λ qs. (qs, value_head g s p)) (link_is g s p o i h)

string_walks : (g : Option Term) (s : Term) (p : Text) (at : ℕ) (text : Text)
    → walk streaming (value_spot g s p) (string_at at text) ≡ (link (value_head g s p) (term_of_literal (record { text = text; datatype = xsd_string; language = None })), value_head g s p)
unfolding walk value_of literal_of
string_walks g s p at text = refl

-- a literal that hangs here
hung : (g : Option Term) (s : Term) (p : Text) (text datatype : Text) (language : Option Text) → IsIri p → IsNode s → IsUtf8 text → IsIri datatype
    → ◌≡◌ {A = Said} (link (value_head g s p) (term_of_literal (record { text = text; datatype = datatype; language = language })), value_head g s p)
    (renamed (parts_of s p (Literal (record { text = text; datatype = datatype; language = language })) g) ∷ [], value_head g s p)
hung g s p text datatype language i h u d =
    ap (λ t. (link (value_head g s p) t, value_head g s p)) (literal_term text datatype language u d)
    ∙ ap (λ qs. (qs, value_head g s p)) (link_is g s p (Literal (record { text = text; datatype = datatype; language = language })) i h)

language_walks : (g : Option Term) (s : Term) (p : Text) (at a : ℕ) (tag text : Text) → IsTrue (is_language_tag tag)
    → walk streaming (value_spot g s p) (object at (pair_members a language_key tag text)) ≡ (link (value_head g s p) (term_of_literal (record { text = text; datatype = rdf_lang_string; language = Some tag })), value_head g s p)
unfolding walk decide final_context key_of expand_iri is_keyword keeps literal_of
language_walks g s p at a tag text h =
    ap (λ b. (link (value_head g s p) (term_of_value (unless_refused (elim b [ true ↦ literal (record { text = text; datatype = rdf_lang_string; language = Some tag }) | false ↦ left_out ]))), value_head g s p)) h

type_walks : (g : Option Term) (s : Term) (p : Text) (at a : ℕ) (datatype text : Text) → IsIri datatype
    → walk streaming (value_spot g s p) (object at (pair_members a type_key datatype text)) ≡ (link (value_head g s p) (term_of_literal (record { text = text; datatype = datatype; language = None })), value_head g s p)
unfolding keeps key_of expand_iri is_keyword
type_walks g s p at a datatype text h =
    let ms = pair_members a type_key datatype text in
    let i = inside (Name datatype) in
    let json : is_json_type (value_type i ms) ≡ false = ap is_json_type (type_is a datatype text h) in
    object_walks (value_spot g s p) at ms i (type_decided p at a _ _ _ datatype text h)
    ∙ ap (λ b. value_at_spot (b || true) (value_spot g s p) i at ms) json
    ∙ ap (λ v. (link (value_head g s p) (term_of_value (unless_refused v)), value_head g s p)) (typed_value a datatype text h)

literal_says : (g : Option Term) (s : Term) (p : Text) (at : ℕ) (lit : Lit) (tag : Option Text) → IsIri p → IsNode s → IsUtf8 lit.text → IsIri lit.datatype → IsLanguage lit.datatype tag
    → SaysValue g s p (Literal (record lit { language = tag })) (literal_by at lit tag)
literal_says g s p at lit (Some tag) i h u d l =
    language_walks g s p at (at + 1) tag lit.text l.0 ∙ hung g s p lit.text rdf_lang_string (Some tag) i h u (subst IsIri l.1 d)
    ∙ ap (λ t. (renamed (parts_of s p (Literal (record { text = lit.text; datatype = t; language = Some tag })) g) ∷ [], value_head g s p)) (sym l.1)
literal_says g s p at lit None i h u d l = by (bytes_eq lit.datatype xsd_string) refl
  where
    by : (b : Bool) → bytes_eq lit.datatype xsd_string ≡ b
        → SaysValue g s p (Literal (record lit { language = None })) (elim b [ true ↦ string_at at lit.text | false ↦ object at (pair_members (at + 1) type_key lit.datatype lit.text) ])
    by true e =
        let is = (bytes_eq-Decides lit.datatype xsd_string).0 e in
        string_walks g s p at lit.text ∙ hung g s p lit.text xsd_string None i h u (subst IsIri is d)
        ∙ ap (λ t. (renamed (parts_of s p (Literal (record { text = lit.text; datatype = t; language = None })) g) ∷ [], value_head g s p)) (sym is)
    by false e = type_walks g s p at (at + 1) lit.datatype lit.text d ∙ hung g s p lit.text lit.datatype None i h u d

value_says_it : (g : Option Term) (s : Term) (p : Text) (at : ℕ) (o : Term) → IsIri p → IsNode s → IsObject o → SaysValue g s p o (value_tree at o)
value_says_it g s p at (Iri iri) i h k = name_says g s p at (at + 1) (Iri iri) i h k
value_says_it g s p at (Blank label) i h k = name_says g s p at (at + 1) (Blank label) i h k
value_says_it g s p at (Literal lit) i h k = literal_says g s p at lit lit.language i h k.text k.datatype k.language

-- ---- lists of values

abbrev IsNoArray : Tree → Type 0
IsNoArray (array at xs) = ⊥
IsNoArray (scalar at v) = Unit {0}
IsNoArray (object at ms) = Unit {0}

literal_no_array : (at : ℕ) (lit : Lit) (tag : Option Text) → IsNoArray (literal_by at lit tag)
literal_no_array at lit (Some tag) = tt
literal_no_array at lit None = by (bytes_eq lit.datatype xsd_string)
  where
    by : (b : Bool) → IsNoArray (elim b [ true ↦ string_at at lit.text | false ↦ object at (pair_members (at + 1) type_key lit.datatype lit.text) ])
    by true = tt
    by false = tt

value_no_array : (at : ℕ) (o : Term) → IsNoArray (value_tree at o)
value_no_array at (Iri iri) = tt
value_no_array at (Blank label) = tt
value_no_array at (Literal lit) = literal_no_array at lit lit.language

-- an item, and those after it, which hang at the same place
item_walks : (p : Spot) (x : Tree) (xs : Trees) (qs rs : List Parts) → IsNoArray x → walk streaming p x ≡ (qs, p.head) → walk_all streaming p xs ≡ (rs, p.head)
    → walk_all streaming p (item x xs) ≡ (qs ++ rs, p.head)
unfolding walk
item_walks p (array at ys) xs qs rs n e h = absurd n
item_walks p (scalar at v) xs qs rs n e h = ap (λ said. then_says said (λ h. walk_all streaming (moved p p.role.around h) xs)) e ∙ ap (behind qs) h
item_walks p (object at ms) xs qs rs n e h = ap (λ said. then_says said (λ h. walk_all streaming (moved p p.role.around h) xs)) e ∙ ap (behind qs) h

values_walk : (g : Option Term) (s : Term) (p : Text) (at : ℕ) (ts : List Term) → IsIri p → IsNode s → AllByRecursion IsObject ts
    → walk_all streaming (value_spot g s p) (values_tree at ts) ≡ (map renamed (values_said g s p ts), value_head g s p)
unfolding walk values_tree values_said
values_walk g s p at [] i h ks = refl
values_walk g s p at (t ∷ ts) i h ks =
    item_walks (value_spot g s p) (value_tree (at + 1) t) (values_tree (at + 1 + length (value_text t)) ts) (renamed (parts_of s p t g) ∷ []) (map renamed (values_said g s p ts)) (value_no_array (at + 1) t)
    (value_says_it g s p (at + 1) t i h ks.0) (values_walk g s p (at + 1 + length (value_text t)) ts i h ks.1)

array_walks : (g : Option Term) (s : Term) (p : Text) (at : ℕ) (t : Term) (ts : List Term) → IsIri p → IsNode s → IsObject t → AllByRecursion IsObject ts
    → walk streaming (value_spot g s p) (values_in at t ts) ≡ (map renamed (parts_of s p t g ∷ values_said g s p ts), value_head g s p)
unfolding walk
array_walks g s p at t ts i h k ks =
    item_walks (value_spot g s p) (value_tree (at + 1) t) (values_tree (at + 1 + length (value_text t)) ts) (renamed (parts_of s p t g) ∷ []) (map renamed (values_said g s p ts)) (value_no_array (at + 1) t)
    (value_says_it g s p (at + 1) t i h k) (values_walk g s p (at + 1 + length (value_text t)) ts i h ks)

-- ---- members of a node

abbrev own_says : Term → Option Term → Members → List Parts
own_says s g ms = members_say streaming (inside Null) own_member (Some (renamed_term s)) (scope_of g) ms

split_says : (s : Term) (g : Option Term) (a : ℕ) (n : Text) (v : Tree) (rest : Members) → own_says s g (member a n v rest) ≡ own_says s g (member a n v no_member) ++ own_says s g rest
unfolding walk
split_says s g a n v rest = ap (λ x. x ++ own_says s g rest) (sym (append-nil _))

group_says : (s : Term) (g : Option Term) (a at : ℕ) (p : Text) (t : Term) (ts : List Term) → IsIri p → IsNode s → IsObject t → AllByRecursion IsObject ts
    → own_says s g (member a p (values_in at t ts) no_member) ≡ map renamed (parts_of s p t g ∷ values_said g s p ts)
unfolding walk
group_says s g a at p t ts i h k ks = rw (predicate_means p i) (ap (λ said. said.0 ++ []) (array_walks g s p at t ts i h k ks) ∙ append-nil _)

groups_say : (s : Term) (g : Option Term) (had : List Text) (at : ℕ) (gs : List Group) → IsNode s → AreGroups had gs → own_says s g (groups_tree at gs) ≡ map renamed (groups_said g s gs)
unfolding walk groups_tree groups_said
groups_say s g had at [] h k = refl
groups_say s g had at (x ∷ xs) h k =
    let place = after_key (at + 1) x.predicate in
    let end = place + length (list_text x.first x.more) in
    split_says s g (at + 1) x.predicate (values_in place x.first x.more) (groups_tree end xs)
    ∙ ap₂ (λ a b. a ++ b) (group_says s g (at + 1) place x.predicate x.first x.more k.0.predicate h k.0.first k.0.more) (groups_say s g (x.predicate ∷ had) end xs h k.1)
    ∙ sym (map-append renamed (parts_of s x.predicate x.first g ∷ values_said g s x.predicate x.more) (groups_said g s xs))

-- ---- nodes

-- a node that stands in a graph by itself
abbrev node_spot : Under → Option Term → Spot
node_spot under g = spot outset under ordinary loose (graph_head (scope_of g))

id_says : (s : Term) (g : Option Term) (a b : ℕ) (name : Text) → own_says s g (member a id_key (string_at b name) no_member) ≡ []
unfolding walk key_of expand_iri is_keyword
id_says s g a b name = refl

naming_is : (s : Term) (a b : ℕ) (ms : Members) → IsNode s → naming outset (member a id_key (string_at b (node_name s)) ms) ≡ named_by (node_name s)
unfolding key_of expand_iri is_keyword
naming_is s a b ms h = ap naming_by (name_expands s false true h)

term_is : (s : Term) (at a b : ℕ) (ms : Members) → IsNode s → term_of_node at (naming outset (member a id_key (string_at b (node_name s)) ms)) ≡ Some (renamed_term s)
term_is s at a b ms h = ap (term_of_node at) (naming_is s a b ms h) ∙ name_is_term s h

-- an object that is a node says what its members say
node_walk : (under : Under) (g : Option Term) (s : Term) (at a b : ℕ) (ms : Members) → IsNode s
    → decide streaming outset under elsewhere at (member a id_key (string_at b (node_name s)) ms) ≡ Ok (inside Null)
    → shape_in (node_spot under g) at (member a id_key (string_at b (node_name s)) ms) (inside Null) ≡ node_object
    → walk streaming (node_spot under g) (object at (member a id_key (string_at b (node_name s)) ms)) ≡ (own_says s g ms, graph_head (scope_of g))
node_walk under g s at a b ms h d e =
    let whole = member a id_key (string_at b (node_name s)) ms in
    object_walks (node_spot under g) at whole (inside Null) d
    ∙ ap (λ shape. object_of shape (node_spot under g) at whole (inside Null)) e
    ∙ ap (λ t. (members_say streaming (inside Null) own_member t (scope_of g) whole ++ [], graph_head (scope_of g))) (term_is s at a b ms h)
    ∙ ap (λ qs. (qs, graph_head (scope_of g))) (append-nil (members_say streaming (inside Null) own_member (Some (renamed_term s)) (scope_of g) whole) ∙ split_says s g a id_key (string_at b (node_name s)) ms ∙ ap (λ qs. qs ++ own_says s g ms) (id_says s g a b (node_name s)))

shape_is : (gs : List Group) → shape_of false (id ∷ keys_of gs) ≡ node_object
shape_is gs = rw (no_key is_value (λ p. refl) gs, no_key is_list (λ p. refl) gs, no_key is_set (λ p. refl) gs) refl

node_walks : (under : Under) (g : Option Term) (at : ℕ) (n : Node) → IsGoodNode n → walk streaming (node_spot under g) (node_tree at n) ≡ (map renamed (node_said g n), graph_head (scope_of g))
unfolding node_tree node_said
node_walks under g at n h =
    let a = at + 1 in
    let b = after_key a id_key in
    let end = after_string b (node_name n.subject) in
    let gs = groups_tree end n.groups in
    node_walk under g n.subject at a b gs h.subject (id_decided under elsewhere at a b (node_name n.subject) gs (groups_first (id_key ∷ []) end n.groups h.groups))
    (ap (shape_of false) (id_entry under a b (node_name n.subject) gs ∙ ap (λ ks. id ∷ ks) (groups_entries under (id_key ∷ []) end n.groups h.groups)) ∙ shape_is n.groups)
    ∙ ap (λ qs. (qs, graph_head (scope_of g))) (groups_say n.subject g (id_key ∷ []) end n.groups h.subject h.groups)

node_no_array : (at : ℕ) (n : Node) → IsNoArray (node_tree at n)
unfolding node_tree
node_no_array at n = tt

nodes_walk : (g : Option Term) (at : ℕ) (ns : List Node) → AllByRecursion IsGoodNode ns → walk_all streaming (node_spot graph_property g) (nodes_tree at ns) ≡ (map renamed (nodes_said g ns), graph_head (scope_of g))
unfolding walk nodes_tree nodes_said
nodes_walk g at [] h = refl
nodes_walk g at (n ∷ ns) h =
    item_walks (node_spot graph_property g) (node_tree (at + 1) n) (nodes_tree (at + 1 + length (node_text n)) ns) (map renamed (node_said g n)) (map renamed (nodes_said g ns)) (node_no_array (at + 1) n)
    (node_walks graph_property g (at + 1) n h.0) (nodes_walk g (at + 1 + length (node_text n)) ns h.1)
    ∙ ap (λ qs. (qs, graph_head (scope_of g))) (sym (map-append renamed (node_said g n) (nodes_said g ns)))

list_walks : (g : Option Term) (at : ℕ) (n : Node) (ns : List Node) → IsGoodNode n → AllByRecursion IsGoodNode ns
    → walk streaming (node_spot graph_property g) (nodes_in at n ns) ≡ (map renamed (node_said g n ++ nodes_said g ns), graph_head (scope_of g))
unfolding walk
list_walks g at n ns h hs =
    item_walks (node_spot graph_property g) (node_tree (at + 1) n) (nodes_tree (at + 1 + length (node_text n)) ns) (map renamed (node_said g n)) (map renamed (nodes_said g ns)) (node_no_array (at + 1) n)
    (node_walks graph_property g (at + 1) n h) (nodes_walk g (at + 1 + length (node_text n)) ns hs)
    ∙ ap (λ qs. (qs, graph_head (scope_of g))) (sym (map-append renamed (node_said g n) (nodes_said g ns)))

-- ---- items

content_says : (g : Term) (c d : ℕ) (n : Node) (ns : List Node) → IsGoodNode n → AllByRecursion IsGoodNode ns
    → own_says g None (member c graph_key (nodes_in d n ns) no_member) ≡ map renamed (node_said (Some g) n ++ nodes_said (Some g) ns)
unfolding walk key_of expand_iri is_keyword
content_says g c d n ns h hs = ap (λ said. said.0 ++ []) (list_walks (Some g) d n ns h hs) ∙ append-nil _

graph_shape : (at a b c d : ℕ) (name : Text) (n : Node) (ns : List Node)
    → shape_in (node_spot no_property None) at (member a id_key (string_at b name) (member c graph_key (nodes_in d n ns) no_member)) (inside Null) ≡ node_object
unfolding keeps key_of expand_iri is_keyword
graph_shape at a b c d name n ns = refl

abbrev SaysItem : Item → Tree → Type 0
SaysItem i t = walk streaming (node_spot no_property None) t ≡ (map renamed (item_said i), graph_head Main)

graph_walks : (at a b c d : ℕ) (g : Term) (n : Node) (ns : List Node) → IsNode g → IsGoodNode n → AllByRecursion IsGoodNode ns
    → SaysItem (one_graph g n ns) (object at (member a id_key (string_at b (node_name g)) (member c graph_key (nodes_in d n ns) no_member)))
unfolding item_said
graph_walks at a b c d g n ns k h hs =
    let content = member c graph_key (nodes_in d n ns) no_member in
    node_walk no_property None g at a b content k (id_decided no_property elsewhere at a b (node_name g) content (graph_first c d n ns)) (graph_shape at a b c d (node_name g) n ns)
    ∙ ap (λ qs. (qs, graph_head Main)) (content_says g c d n ns h hs)

item_says : (at : ℕ) (i : Item) → IsGoodItem i → SaysItem i (item_tree at i)
unfolding item_tree item_said
item_says at (one_node n) h = node_walks no_property None at n h
item_says at (one_graph g n ns) h = graph_walks at (at + 1) _ _ _ g n ns h.name h.first h.more

item_no_array : (at : ℕ) (i : Item) → IsNoArray (item_tree at i)
unfolding item_tree node_tree
item_no_array at (one_node n) = tt
item_no_array at (one_graph g n ns) = tt

items_walk : (at : ℕ) (is : List Item) → AllByRecursion IsGoodItem is → walk_all streaming (node_spot no_property None) (items_tree at is) ≡ (map renamed (items_said is), graph_head Main)
unfolding walk items_tree items_said
items_walk at [] h = refl
items_walk at (i ∷ is) h =
    item_walks (node_spot no_property None) (item_tree (at + 1 + 1) i) (items_tree (at + 1 + 1 + length (item_text i)) is) (map renamed (item_said i)) (map renamed (items_said is)) (item_no_array (at + 1 + 1) i)
    (item_says (at + 1 + 1) i h.0) (items_walk (at + 1 + 1 + length (item_text i)) is h.1)
    ∙ ap (λ qs. (qs, graph_head Main)) (sym (map-append renamed (item_said i) (items_said is)))

whole_walk : (is : List Item) → AllByRecursion IsGoodItem is → walk streaming (root_spot streaming) (array_tree is) ≡ (map renamed (items_said is), graph_head Main)
unfolding walk array_tree items_said
whole_walk [] h = refl
whole_walk (i ∷ is) h =
    item_walks (node_spot no_property None) (item_tree 1 i) (items_tree (1 + length (item_text i)) is) (map renamed (item_said i)) (map renamed (items_said is)) (item_no_array 1 i)
    (item_says 1 i h.0) (items_walk (1 + length (item_text i)) is h.1)
    ∙ ap (λ qs. (qs, graph_head Main)) (sym (map-append renamed (item_said i) (items_said is)))

-- the tree of the items says their quads, renamed
pub tree_says : (is : List Item) → AllByRecursion IsGoodItem is → says streaming (root_spot streaming) (array_tree is) ≡ map renamed (items_said is)
tree_says is h = ap (λ said. said.0) (whole_walk is h)
