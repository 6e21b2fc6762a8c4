-- The dataset of a document (JSON-LD 1.1 API, section 8.1), with the quads of lists (section 8.3).
use Rattle.std.specs.Prelude.{ℕ, Bool, true, false, ◌&&◌, List, [], ◌∷◌, ◌++◌, Option, Some, None, codes, flat_map}
use Rattle.std.specs.Str.{is_utf8}
use Rattle.jl_model.specs.JsonTree.{Tree}
use Rattle.jl_model.specs.Parts.{Parts, parts_of}
use Rattle.jl_model.specs.declared.terms.Lit.{Lit}
use Rattle.jl_model.specs.declared.terms.Term.{Term}
use Rattle.jl_model.specs.declared.terms.Term.TheVariants.{Iri, Blank, Literal}
use Rattle.jl_model.specs.declared.graph_scopes.GraphScope.{GraphScope}
use Rattle.jl_model.specs.declared.graph_scopes.GraphScope.TheVariants.{LeftOut, Main, Named}
use Rattle.jl_defs.specs.Texts.{Text, is_iri}
use Rattle.jl_defs.specs.Settings.{Settings}
use Rattle.jl_defs.specs.Values.{Valued, reference, literal, left_out, refused}
use Rattle.jl_defs.specs.Items.{Item, value_at, list_at, node_at, Items, no_more, more, item_place}
use Rattle.jl_defs.specs.NodeMap.{Entry, node_map, term_of_text, term_of_node, cell_label}
use Rattle.jl_defs.specs.Expansion.{expanded_document}

-- a literal is left out where its datatype is no IRI
abbrev pub term_of_literal : Lit → Option Term
term_of_literal lit = elim (is_iri lit.datatype && is_utf8 lit.text) [ true ↦ Some (Literal lit) | false ↦ None ]

abbrev pub term_of_value : Valued → Option Term
term_of_value (reference name) = term_of_text name
term_of_value (literal lit) = term_of_literal lit
term_of_value left_out = None
term_of_value (refused code) = None

abbrev pub rdf_first : Text
rdf_first = codes "http://www.w3.org/1999/02/22-rdf-syntax-ns#first"

abbrev pub rdf_rest : Text
rdf_rest = codes "http://www.w3.org/1999/02/22-rdf-syntax-ns#rest"

abbrev pub rdf_nil : Term
rdf_nil = Iri (codes "http://www.w3.org/1999/02/22-rdf-syntax-ns#nil")

-- the cell of an item
abbrev pub cell_at : ℕ → Term
cell_at at = Blank (cell_label at)

-- the term of an item: that of a list is its first cell
abbrev pub first_cell : Items → Term
first_cell no_more = rdf_nil
first_cell (more x xs) = cell_at (item_place x)

abbrev pub term_of : Item → Option Term
term_of (value_at at valued) = term_of_value valued
term_of (list_at at xs) = Some (first_cell xs)
term_of (node_at at naming entries) = term_of_node at naming

-- where a quad hangs: its subject, predicate and graph, and whether it is turned
pub record Head : Type 0 where
  pub subject : Option Term
  pub predicate : Text
  pub scope : GraphScope
  pub forward : Bool

-- the quad, or none where its graph is left out
abbrev pub quad_in : GraphScope → Term → Text → Term → List Parts
quad_in LeftOut s p o = []
quad_in Main s p o = parts_of s p o None ∷ []
quad_in (Named g) s p o = parts_of s p o (Some g) ∷ []

-- a literal is no subject
abbrev pub is_subject : Term → Bool
is_subject (Iri iri) = true
is_subject (Blank label) = true
is_subject (Literal lit) = false

-- a quad, or the one whose subject and object have changed places
abbrev pub turned : Bool → GraphScope → Term → Text → Term → List Parts
turned true scope s p o = elim (is_subject s) [ true ↦ quad_in scope s p o | false ↦ [] ]
turned false scope s p o = elim (is_subject o) [ true ↦ quad_in scope o p s | false ↦ [] ]

abbrev pub with_terms : Option Term → Option Term → (Term → Term → List Parts) → List Parts
with_terms (Some s) (Some o) quads = quads s o
with_terms (Some s) None quads = []
with_terms None o quads = []

-- the quad of a head and an object; it is left out where a part isn't well-formed
unfoldable pub link : Head → Option Term → List Parts
link h o = elim (is_iri h.predicate) [ true ↦ with_terms h.subject o (λ s t. turned h.forward h.scope s h.predicate t) | false ↦ [] ]

-- the head of a cell's quads
abbrev pub cell_head : GraphScope → ℕ → Text → Head
cell_head scope at p = record { subject = Some (cell_at at); predicate = p; scope = scope; forward = true }

-- a list writes no cells where its own link is left out
abbrev pub is_whole : Head → Bool
is_whole h = by h.subject h.scope && is_iri h.predicate
  where
    by : Option Term → GraphScope → Bool
    by None scope = false
    by (Some s) LeftOut = false
    by (Some s) Main = true
    by (Some s) (Named g) = true

-- what an item gives where it hangs: one quad, or the cells of a list
unfoldable mutual
  pub item_quads : Head → Item → List Parts
  item_quads h (value_at at valued) = link h (term_of_value valued)
  item_quads h (list_at at xs) = elim (is_whole h) [ true ↦ list_quads h xs | false ↦ [] ]
  item_quads h (node_at at naming entries) = link h (term_of_node at naming)

  pub list_quads : Head → Items → List Parts
  list_quads h no_more = link h (Some rdf_nil)
  list_quads h (more x xs) =
      link h (Some (cell_at (item_place x)))
      ++ (item_quads (cell_head h.scope (item_place x) rdf_first) x ++ list_quads (cell_head h.scope (item_place x) rdf_rest) xs)

abbrev pub head_of : Entry → Head
head_of e = record { subject = e.subject; predicate = e.property; scope = e.scope; forward = e.forward }

abbrev pub entry_quads : Entry → List Parts
entry_quads e = item_quads (head_of e) e.item

-- the quads of items that stand in a graph
abbrev pub items_quads : GraphScope → Items → List Parts
items_quads scope xs = flat_map entry_quads (node_map scope xs)

-- the dataset of a document
unfoldable pub dataset : Settings → Tree → List Parts
dataset s t = items_quads Main (expanded_document s t)
