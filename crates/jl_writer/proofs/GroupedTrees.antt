-- The trees of grouped quads, with the places at which their text stands.
use Rattle.std.proofs.Common.{ℕ, ◌+◌, true, false, List, [], ◌∷◌, ◌++◌, length, Option, Some, None, codes, bytes_eq}
use Rattle.jl_model.specs.JsonTree.{Tree, scalar, array, object, Trees, no_item, item, Members, no_member, member}
use Rattle.jl_model.specs.Parts.{xsd_string}
use Rattle.jl_model.specs.declared.scalars.Scalar.TheVariants.{Str}
use Rattle.jl_model.specs.declared.terms.Lit.{Lit}
use Rattle.jl_model.specs.declared.terms.Term.{Term}
use Rattle.jl_model.specs.declared.terms.Term.TheVariants.{Iri, Blank, Literal}
use Rattle.jl_defs.specs.Texts.{Text}
use Rattle.jl_defs.specs.Canon.{string_text}
use Rattle.jl_defs.specs.WriterText.{node_name, value_text}
use Rattle.jl_writer.proofs.Grouped.{Group, Node, Item, one_node, one_graph, id_key, graph_key, values_text, node_text, item_text}

abbrev pub type_key : Text
type_key = codes "@type"

abbrev pub value_key : Text
value_key = codes "@value"

abbrev pub language_key : Text
language_key = codes "@language"

-- the place after a key and its colon
abbrev pub after_key : ℕ → Text → ℕ
after_key at name = at + length (string_text name) + 1

-- the place after a string
abbrev pub after_string : ℕ → Text → ℕ
after_string at text = at + length (string_text text)

abbrev pub string_at : ℕ → Text → Tree
string_at at text = scalar at (Str text)

-- one member with a string, at this place, and those after it, which stand at the place after the string
abbrev pub named : ℕ → Text → Text → (ℕ → Members) → Members
named at key text more = member at key (string_at (after_key at key) text) (more (after_string (after_key at key) text))

abbrev pub no_more : ℕ → Members
no_more at = no_member

abbrev pub reference_members : ℕ → Text → Members
reference_members at name = named at id_key name no_more

abbrev pub pair_members : ℕ → Text → Text → Text → Members
pair_members at key text value = named at key text (λ end. named (end + 1) value_key value no_more)

abbrev pub literal_by : ℕ → Lit → Option Text → Tree
literal_by at lit (Some tag) = object at (pair_members (at + 1) language_key tag lit.text)
literal_by at lit None = elim (bytes_eq lit.datatype xsd_string) [ true ↦ string_at at lit.text | false ↦ object at (pair_members (at + 1) type_key lit.datatype lit.text) ]

abbrev pub literal_tree : ℕ → Lit → Tree
literal_tree at lit = literal_by at lit lit.language

abbrev pub value_tree : ℕ → Term → Tree
value_tree at (Literal lit) = literal_tree at lit
value_tree at (Iri iri) = object at (reference_members (at + 1) (node_name (Iri iri)))
value_tree at (Blank label) = object at (reference_members (at + 1) (node_name (Blank label)))

-- the values after a value, each with its comma
unfoldable pub values_tree : ℕ → List Term → Trees
values_tree at [] = no_item
values_tree at (t ∷ ts) = item (value_tree (at + 1) t) (values_tree (at + 1 + length (value_text t)) ts)

-- all values of a predicate, by the place of their list
abbrev pub values_in : ℕ → Term → List Term → Tree
values_in at t ts = array at (item (value_tree (at + 1) t) (values_tree (at + 1 + length (value_text t)) ts))

abbrev pub list_text : Term → List Term → Text
list_text t ts = 91 ∷ (value_text t ++ values_text ts)

unfoldable pub groups_tree : ℕ → List Group → Members
groups_tree at [] = no_member
groups_tree at (g ∷ gs) =
    member (at + 1) g.predicate (values_in (after_key (at + 1) g.predicate) g.first g.more)
    (groups_tree (after_key (at + 1) g.predicate + length (list_text g.first g.more)) gs)

unfoldable pub node_tree : ℕ → Node → Tree
node_tree at n = object at (named (at + 1) id_key (node_name n.subject) (λ end. groups_tree end n.groups))

unfoldable pub nodes_tree : ℕ → List Node → Trees
nodes_tree at [] = no_item
nodes_tree at (n ∷ ns) = item (node_tree (at + 1) n) (nodes_tree (at + 1 + length (node_text n)) ns)

abbrev pub nodes_in : ℕ → Node → List Node → Tree
nodes_in at n ns = array at (item (node_tree (at + 1) n) (nodes_tree (at + 1 + length (node_text n)) ns))

abbrev pub graph_members : Node → List Node → ℕ → Members
graph_members n ns end = member (end + 1) graph_key (nodes_in (after_key (end + 1) graph_key) n ns) no_member

unfoldable pub item_tree : ℕ → Item → Tree
item_tree at (one_node n) = node_tree at n
item_tree at (one_graph g n ns) = object at (named (at + 1) id_key (node_name g) (graph_members n ns))

unfoldable pub items_tree : ℕ → List Item → Trees
items_tree at [] = no_item
items_tree at (i ∷ is) = item (item_tree (at + 1 + 1) i) (items_tree (at + 1 + 1 + length (item_text i)) is)

-- the tree of the text of these items
unfoldable pub array_tree : List Item → Tree
array_tree [] = array 0 no_item
array_tree (i ∷ is) = array 0 (item (item_tree 1 i) (items_tree (1 + length (item_text i)) is))
