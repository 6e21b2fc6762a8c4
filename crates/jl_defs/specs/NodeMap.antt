-- Node map generation (JSON-LD 1.1 API, section 7.2), without the check of indexes: what each node says in which graph.
use Rattle.std.specs.Prelude.{ℕ, Bool, true, false, ◌&&◌, List, [], ◌∷◌, ◌++◌, Option, Some, None, codes, decimal, drop}
use Rattle.std.specs.Str.{is_utf8}
use Rattle.jl_model.specs.Ren.{ren}
use Rattle.jl_model.specs.declared.terms.Term.{Term}
use Rattle.jl_model.specs.declared.terms.Term.TheVariants.{Iri, Blank}
use Rattle.jl_model.specs.declared.graph_scopes.GraphScope.{GraphScope}
use Rattle.jl_model.specs.declared.graph_scopes.GraphScope.TheVariants.{LeftOut, Named}
use Rattle.jl_defs.specs.Texts.{Text, is_iri, is_blank}
use Rattle.jl_defs.specs.Items.{Naming, named, by_object, by_graph, Item, value_at, list_at, node_at, Items, no_more, more, NodeEntries, nothing_said, typed, said, holding, including}

-- labels made from a place: of a node, of a list's cell, of a graph (this project's own rule)
abbrev pub node_label : ℕ → Text
node_label at = codes "jlb" ++ decimal at

abbrev pub cell_label : ℕ → Text
cell_label at = codes "jll" ++ decimal at

abbrev pub graph_label : ℕ → Text
graph_label at = codes "jlg" ++ decimal at

-- the term of a text: an IRI, or a blank node of UTF-8 whose label is renamed; any other text has none
unfoldable pub term_of_text : Text → Option Term
term_of_text text =
    elim (is_iri text) [
      | true ↦ Some (Iri text)
      | false ↦ elim (is_blank text && is_utf8 text) [ true ↦ Some (Blank (ren (drop 2 text))) | false ↦ None ]
    ]

-- the term of a node
abbrev pub term_of_node : ℕ → Naming → Option Term
term_of_node at (named text) = term_of_text text
term_of_node at by_object = Some (Blank (node_label at))
term_of_node at by_graph = Some (Blank (graph_label at))

-- the graph that a node names
abbrev pub graph_of : Option Term → GraphScope
graph_of None = LeftOut
graph_of (Some t) = Named t

abbrev pub rdf_type : Text
rdf_type = codes "http://www.w3.org/1999/02/22-rdf-syntax-ns#type"

-- an item of a property of a subject in a graph
pub record Entry : Type 0 where
  pub scope : GraphScope
  pub subject : Option Term
  pub forward : Bool
  pub property : Text
  pub item : Item

abbrev pub entry : GraphScope → Option Term → Bool → Text → Item → Entry
entry scope subject forward property x = record { scope = scope; subject = subject; forward = forward; property = property; item = x }

-- an entry for each of a property's items
abbrev pub items_entries : GraphScope → Option Term → Bool → Text → Items → List Entry
items_entries scope subject forward property no_more = []
items_entries scope subject forward property (more x xs) = entry scope subject forward property x ∷ items_entries scope subject forward property xs

-- a type is a node
abbrev pub type_item : Text → Item
type_item text = node_at 0 (named text) nothing_said

-- a value or list that stands in a graph itself says nothing, but the nodes in a list do
unfoldable mutual
  pub node_map : GraphScope → Items → List Entry
  node_map scope no_more = []
  node_map scope (more x xs) = item_entries scope x ++ node_map scope xs

  pub item_entries : GraphScope → Item → List Entry
  item_entries scope (value_at at valued) = []
  item_entries scope (list_at at xs) = node_map scope xs
  item_entries scope (node_at at naming es) = node_entries scope (term_of_node at naming) es

  pub node_entries : GraphScope → Option Term → NodeEntries → List Entry
  node_entries scope subject nothing_said = []
  node_entries scope subject (typed text rest) = entry scope subject true rdf_type (type_item text) ∷ node_entries scope subject rest
  node_entries scope subject (said forward property xs rest) =
      items_entries scope subject forward property xs ++ (node_map scope xs ++ node_entries scope subject rest)
  node_entries scope subject (holding xs rest) = node_map (graph_of subject) xs ++ node_entries scope subject rest
  node_entries scope subject (including xs rest) = node_map scope xs ++ node_entries scope subject rest
