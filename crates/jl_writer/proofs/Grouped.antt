-- Quads as the writer's text groups them: nodes with their predicates, and items of nodes.
use Rattle.std.proofs.Common.{List, [], ◌∷◌, ◌++◌, Option, Some, None, codes}
use Rattle.jl_model.specs.Parts.{Parts}
use Rattle.jl_model.specs.declared.terms.Term.{Term}
use Rattle.jl_defs.specs.Texts.{Text}
use Rattle.jl_defs.specs.Canon.{string_text}
use Rattle.jl_defs.specs.WriterText.{OpenNode, Next, same_predicate, new_predicate, new_node, new_item, next_of, opened, begins_node, node_name, value_text}

-- a predicate with its values, of which the first stands apart
pub record Group : Type 0 where
  pub predicate : Text
  pub first : Term
  pub more : List Term

pub record Node : Type 0 where
  pub subject : Term
  pub groups : List Group

-- a node of the default graph, or a graph with its nodes, of which the first stands apart
pub data Item : Type 0 where
  one_node : (node : Node) → Item
  one_graph : (name : Term) → (first : Node) → (more : List Node) → Item

-- what comes after a value: more values, more predicates of the node, more nodes of the graph, more items
pub record Rest : Type 0 where
  pub values : List Term
  pub groups : List Group
  pub nodes : List Node
  pub items : List Item

abbrev pub no_rest : Rest
no_rest = record { values = []; groups = []; nodes = []; items = [] }

abbrev pub group_of : Parts → Rest → Group
group_of q r = record { predicate = q.predicate; first = q.object; more = r.values }

abbrev pub node_of : Parts → Rest → Node
node_of q r = record { subject = q.subject; groups = group_of q r ∷ r.groups }

abbrev pub item_in : Option Term → Parts → Rest → Item
item_in None q r = one_node (node_of q r)
item_in (Some g) q r = one_graph g (node_of q r) r.nodes

-- a node of the graph that is open: in the default graph each is an item
abbrev pub with_node : Option Term → Node → Rest → Rest
with_node None n r = record { values = []; groups = []; nodes = []; items = one_node n ∷ r.items }
with_node (Some g) n r = record { values = []; groups = []; nodes = n ∷ r.nodes; items = r.items }

-- a quad before the rest
abbrev pub with_quad : Option Term → Parts → Next → Rest → Rest
with_quad g q same_predicate r = record { values = q.object ∷ r.values; groups = r.groups; nodes = r.nodes; items = r.items }
with_quad g q new_predicate r = record { values = []; groups = group_of q r ∷ r.groups; nodes = r.nodes; items = r.items }
with_quad g q new_node r = with_node g (node_of q r) r
with_quad g q new_item r = record { values = []; groups = []; nodes = []; items = item_in q.graph q r ∷ r.items }

unfoldable pub rest_behind : OpenNode → List Parts → Rest
rest_behind n [] = no_rest
rest_behind n (q ∷ qs) = with_quad n.graph q (next_of n q) (rest_behind (opened n q (next_of n q)) qs)

-- the items of a list of quads
abbrev pub items_of : List Parts → List Item
items_of [] = []
items_of (q ∷ qs) = item_in q.graph q (rest_behind (begins_node q) qs) ∷ (rest_behind (begins_node q) qs).items

-- ---- their text

abbrev pub id_key : Text
id_key = codes "@id"

abbrev pub graph_key : Text
graph_key = codes "@graph"

-- what closes a list ends the text of what follows its first item
unfoldable pub values_text : List Term → Text
values_text [] = 93 ∷ []
values_text (t ∷ ts) = 44 ∷ (value_text t ++ values_text ts)

unfoldable pub groups_text : List Group → Text
groups_text [] = 125 ∷ []
groups_text (g ∷ gs) = 44 ∷ (string_text g.predicate ++ 58 ∷ ((91 ∷ (value_text g.first ++ values_text g.more)) ++ groups_text gs))

unfoldable pub node_text : Node → Text
node_text n = 123 ∷ (string_text id_key ++ 58 ∷ (string_text (node_name n.subject) ++ groups_text n.groups))

unfoldable pub nodes_text : List Node → Text
nodes_text [] = 93 ∷ []
nodes_text (n ∷ ns) = 44 ∷ (node_text n ++ nodes_text ns)

unfoldable pub item_text : Item → Text
item_text (one_node n) = node_text n
item_text (one_graph g n ns) =
    123 ∷ (string_text id_key ++ 58 ∷ (string_text (node_name g) ++ 44 ∷ (string_text graph_key ++ 58 ∷ ((91 ∷ (node_text n ++ nodes_text ns)) ++ 125 ∷ []))))

unfoldable pub items_text : List Item → Text
items_text [] = 93 ∷ []
items_text (i ∷ is) = 44 ∷ 10 ∷ (item_text i ++ items_text is)

unfoldable pub array_text : List Item → Text
array_text [] = 91 ∷ 93 ∷ []
array_text (i ∷ is) = 91 ∷ (item_text i ++ items_text is)
