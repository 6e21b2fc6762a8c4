-- The writer's text: quads in their order, where neighbours that share graph and subject stand in one node (this project's own
-- rules).
use Rattle.std.specs.Prelude.{Bool, true, false, not, ◌&&◌, ◌||◌, nat_lt, List, [], ◌∷◌, ◌++◌, length, Option, Some, None, codes, bytes_eq}
use Rattle.jl_model.specs.Parts.{Parts, xsd_string}
use Rattle.jl_model.specs.declared.terms.Lit.{Lit}
use Rattle.jl_model.specs.declared.terms.Term.{Term}
use Rattle.jl_model.specs.declared.terms.Term.TheVariants.{Iri, Blank, Literal}
use Rattle.jl_defs.specs.Texts.{Text, is_among}
use Rattle.jl_defs.specs.Definitions.{same_text}
use Rattle.jl_defs.specs.Canon.{string_text}

-- the name of a node: an IRI, or `_:` and a label; a literal names none
abbrev pub node_name : Term → Text
node_name (Iri iri) = iri
node_name (Blank label) = codes "_:" ++ label
node_name (Literal lit) = lit.text

abbrev pub language_value : Text → Text → Text
language_value tag text = codes "{\"@language\":" ++ string_text tag ++ codes ",\"@value\":" ++ string_text text ++ codes "}"

abbrev pub typed_value : Text → Text → Text
typed_value datatype text = codes "{\"@type\":" ++ string_text datatype ++ codes ",\"@value\":" ++ string_text text ++ codes "}"

-- a literal: a string where it is plain
abbrev pub literal_value : Lit → Text
literal_value lit = by lit.language
  where
    by : Option Text → Text
    by (Some tag) = language_value tag lit.text
    by None = elim (bytes_eq lit.datatype xsd_string) [ true ↦ string_text lit.text | false ↦ typed_value lit.datatype lit.text ]

abbrev pub value_text : Term → Text
value_text (Literal lit) = literal_value lit
value_text t = codes "{\"@id\":" ++ string_text (node_name t) ++ codes "}"

-- the node that is open: its graph, its subject, and the predicates that it has used, the last one first
pub record OpenNode : Type 0 where
  pub graph : Option Term
  pub subject : Term
  pub used : List Text

abbrev pub same_term : Term → Term → Bool
same_term (Iri a) (Iri b) = bytes_eq a b
same_term (Blank a) (Blank b) = bytes_eq a b
same_term (Literal a) (Literal b) = bytes_eq a.text b.text && (bytes_eq a.datatype b.datatype && same_text a.language b.language)
same_term a b = false

abbrev pub same_graph : Option Term → Option Term → Bool
same_graph None None = true
same_graph (Some a) (Some b) = same_term a b
same_graph a b = false

-- a predicate and its first value
abbrev pub member_text : Parts → Text
member_text q = string_text q.predicate ++ codes ":[" ++ value_text q.object

abbrev pub node_text : Parts → Text
node_text q = codes "{\"@id\":" ++ string_text (node_name q.subject) ++ codes "," ++ member_text q

-- the beginning of an item: a node, or a graph with its first node
abbrev pub item_text : Parts → Text
item_text q = by q.graph
  where
    by : Option Term → Text
    by None = node_text q
    by (Some g) = codes "{\"@id\":" ++ string_text (node_name g) ++ codes ",\"@graph\":[" ++ node_text q

-- the end of an item after its last node
abbrev pub item_end : Option Term → Text
item_end None = []
item_end (Some g) = codes "]}"

abbrev pub node_end : Text
node_end = codes "]}"

abbrev pub begins_node : Parts → OpenNode
begins_node q = record { graph = q.graph; subject = q.subject; used = q.predicate ∷ [] }

-- another node of the same graph: in the default graph each is an item
abbrev pub between_nodes : Option Term → Text
between_nodes None = codes ",\n"
between_nodes (Some g) = codes ","

abbrev pub is_last : Text → List Text → Bool
is_last p [] = false
is_last p (u ∷ us) = bytes_eq p u

-- how a quad goes on from the open node
pub data Next : Type 0 where
  same_predicate : Next
  new_predicate : Next
  new_node : Next
  new_item : Next

-- a node uses at most 64 predicates, each once
abbrev pub in_node : OpenNode → Text → Next
in_node n p =
    elim (is_last p n.used) [
      | true ↦ same_predicate
      | false ↦ elim (is_among n.used p || not (nat_lt (length n.used) 64)) [ true ↦ new_node | false ↦ new_predicate ]
    ]

abbrev pub next_of : OpenNode → Parts → Next
next_of n q =
    elim (same_graph n.graph q.graph) [
      | true ↦ elim (same_term n.subject q.subject) [ true ↦ in_node n q.predicate | false ↦ new_node ]
      | false ↦ new_item
    ]

-- what a quad adds to the text, and the node that is then open
abbrev pub added : OpenNode → Parts → Next → Text
added n q same_predicate = codes "," ++ value_text q.object
added n q new_predicate = codes "]," ++ member_text q
added n q new_node = node_end ++ between_nodes n.graph ++ node_text q
added n q new_item = node_end ++ item_end n.graph ++ codes ",\n" ++ item_text q

abbrev pub opened : OpenNode → Parts → Next → OpenNode
opened n q same_predicate = n
opened n q new_predicate = record n { used = q.predicate ∷ n.used }
opened n q new_node = begins_node q
opened n q new_item = begins_node q

unfoldable pub text_behind : OpenNode → List Parts → Text
text_behind n [] = []
text_behind n (q ∷ qs) = added n q (next_of n q) ++ text_behind (opened n q (next_of n q)) qs

unfoldable pub node_behind : OpenNode → List Parts → OpenNode
node_behind n [] = n
node_behind n (q ∷ qs) = node_behind (opened n q (next_of n q)) qs

-- the text of quads as far as it is written before the end
abbrev pub open_text : List Parts → Text
open_text [] = []
open_text (q ∷ qs) = codes "[" ++ item_text q ++ text_behind (begins_node q) qs

-- what closes the values, the node, the item and the text
abbrev pub closing_text : List Parts → Text
closing_text [] = codes "[]\n"
closing_text (q ∷ qs) = node_end ++ item_end (node_behind (begins_node q) qs).graph ++ codes "]\n"

-- the writer's text
unfoldable pub writer_text : List Parts → Text
writer_text qs = open_text qs ++ closing_text qs
