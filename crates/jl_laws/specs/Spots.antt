-- The spot of a value: what stands round it, and how the items that it gives hang on the node that they belong to.
use Rattle.std.specs.Prelude.{ℕ, true, false, List, [], ◌++◌, Option, Some}
use Rattle.jl_model.specs.Parts.{Parts}
use Rattle.jl_model.specs.declared.terms.Term.{Term}
use Rattle.jl_model.specs.declared.graph_scopes.GraphScope.{GraphScope}
use Rattle.jl_defs.specs.Texts.{Text}
use Rattle.jl_defs.specs.Context.{Context}
use Rattle.jl_defs.specs.Settings.{Under, Stand, root, entry, graph_entry, elsewhere}
use Rattle.jl_defs.specs.Values.{Valued, reference, literal, left_out, refused}
use Rattle.jl_defs.specs.Items.{Naming, named, by_graph}
use Rattle.jl_defs.specs.Maps.{Addition, adds_nothing, adds_name, adds_type, adds_property, name_or}
use Rattle.jl_defs.specs.NodeMap.{term_of_text, term_of_node, graph_of, rdf_type}
use Rattle.jl_defs.specs.Dataset.{Head, link, cell_at, cell_head, is_whole, rdf_first, rdf_rest, rdf_nil, term_of_value}

-- how an item hangs on the node of its spot
pub data Hanging : Type 0 where
  -- by a quad
  linked : Hanging
  -- by a cell of a list, on which the next item hangs
  listed : Hanging
  -- it stands in a graph by itself
  loose : Hanging

-- what stands round the items of a value
pub data Around : Type 0 where
  document : Around
  ordinary : Around
  -- a container with `@graph`: each item is in a graph of its own
  graphs : Around
  -- the entry of a map, with what its key adds
  map_entry : (adds : Addition) → Around
  -- the same in a map of a container with `@graph`: an item that is no graph object is in a graph of its own
  graph_map_entry : (adds : Addition) → Around

-- the role of a value
pub record ValueRole : Type 0 where
  pub around : Around
  pub hanging : Hanging

-- the context outside a value, its property as written, where its items hang (a node's term, the property as expanded,
-- the graph and the direction), and its role
pub record Spot : Type 0 where
  pub context : Context
  pub under : Under
  pub head : Head
  pub role : ValueRole

abbrev pub spot : Context → Under → Around → Hanging → Head → Spot
spot c under around hanging h = record { context = c; under = under; head = h; role = record { around = around; hanging = hanging } }

abbrev pub stand_of : Around → Stand
stand_of document = root
stand_of ordinary = elsewhere
stand_of graphs = elsewhere
stand_of (map_entry adds) = entry
stand_of (graph_map_entry adds) = graph_entry

-- the items of an array or a set stand where these do, but for the document
abbrev pub inside : Around → Around
inside document = ordinary
inside ordinary = ordinary
inside graphs = graphs
inside (map_entry adds) = map_entry adds
inside (graph_map_entry adds) = graph_map_entry adds

-- the items of an array that is a list itself have nothing added
abbrev pub inside_list : Around → Around
inside_list document = document
inside_list ordinary = ordinary
inside_list graphs = ordinary
inside_list (map_entry adds) = map_entry adds_nothing
inside_list (graph_map_entry adds) = graph_map_entry adds_nothing

abbrev pub moved : Spot → Around → Head → Spot
moved p around h = spot p.context p.under around p.role.hanging h

-- quads, and where the next item hangs
abbrev pub Said : Type 0
Said = List Parts × Head

abbrev pub nothing : Head → Said
nothing h = ([], h)

abbrev pub behind : List Parts → Said → Said
behind quads said = (quads ++ said.0, said.1)

abbrev pub then_says : Said → (Head → Said) → Said
then_says said next = behind said.0 (next said.1)

abbrev pub with_quads : Said → List Parts → Said
with_quads said quads = (said.0 ++ quads, said.1)

-- an item with this term and place hangs here
abbrev pub hangs : Hanging → ℕ → Option Term → Head → Said
hangs linked at o h = (link h o, h)
hangs listed at o h = (link h (Some (cell_at at)) ++ link (cell_head h.scope at rdf_first) o, cell_head h.scope at rdf_rest)
hangs loose at o h = ([], h)

abbrev pub head : Option Term → Text → GraphScope → Head
head s p scope = record { subject = s; predicate = p; scope = scope; forward = true }

-- a head in another graph
abbrev pub in_scope : Head → GraphScope → Head
in_scope h scope = record h { scope = scope }

-- what a map's key says of a node
abbrev pub added : Addition → Option Term → GraphScope → List Parts
added adds_nothing s scope = []
added (adds_name text) s scope = []
added (adds_type text) s scope = link (head s rdf_type scope) (term_of_text text)
added (adds_property p v) s scope = link (head s p scope) (term_of_value v)

-- a node without a name of its own takes that of its key
abbrev pub named_by : Addition → Naming → Naming
named_by (adds_name text) naming = name_or naming text
named_by adds_nothing naming = naming
named_by (adds_type text) naming = naming
named_by (adds_property p v) naming = naming

-- what a node says, by its term and in its graph
abbrev pub Own : Type 0
Own = Option Term → GraphScope → List Parts

abbrev pub says_nothing : Own
says_nothing s scope = []

-- a node hangs where it closes: what it says comes first, then what a map's key adds, and its link comes last
abbrev pub node_hangs : Hanging → Addition → ℕ → Option Term → Own → Head → Said
node_hangs hanging adds at s own h = behind (own s h.scope) (behind (added adds s h.scope) (hangs hanging at s h))

abbrev pub plain_node : Hanging → Addition → ℕ → Naming → Own → Head → Said
plain_node hanging adds at naming own h = node_hangs hanging adds at (term_of_node at (named_by adds naming)) own h

-- an implicit graph with its content
abbrev pub graph_node : Hanging → Addition → ℕ → (GraphScope → List Parts) → Head → Said
graph_node hanging adds at content h = plain_node hanging adds at by_graph (λ s scope. content (graph_of s)) h

-- a node
abbrev pub node_says : Around → Hanging → ℕ → Naming → Own → Head → Said
node_says document hanging at naming own h = plain_node hanging adds_nothing at naming own h
node_says ordinary hanging at naming own h = plain_node hanging adds_nothing at naming own h
node_says graphs hanging at naming own h = graph_node hanging adds_nothing at (own (term_of_node at naming)) h
node_says (map_entry adds) hanging at naming own h = plain_node hanging adds at naming own h
node_says (graph_map_entry adds) hanging at naming own h = graph_node hanging adds at (own (term_of_node at naming)) h

-- a graph object in a graph map is used as it is
abbrev pub graph_object_says : Around → Hanging → ℕ → Naming → Own → Head → Said
graph_object_says document hanging at naming own h = nothing h
graph_object_says ordinary hanging at naming own h = nothing h
graph_object_says graphs hanging at naming own h = nothing h
graph_object_says (map_entry adds) hanging at naming own h = nothing h
graph_object_says (graph_map_entry adds) hanging at naming own h = plain_node hanging adds at naming own h

-- a value says nothing where it stands in a graph by itself
abbrev pub no_content : GraphScope → List Parts
no_content scope = []

abbrev pub value_says : Around → Hanging → ℕ → Option Term → Head → Said
value_says document hanging at o h = hangs hanging at o h
value_says ordinary hanging at o h = hangs hanging at o h
value_says graphs hanging at o h = graph_node hanging adds_nothing at no_content h
value_says (map_entry adds) hanging at o h = hangs hanging at o h
value_says (graph_map_entry adds) hanging at o h = graph_node hanging adds at no_content h

-- a scalar is a reference to a node, or a value
abbrev pub scalar_says : Around → Hanging → ℕ → Valued → Head → Said
scalar_says around hanging at (reference name) h = node_says around hanging at (named name) says_nothing h
scalar_says around hanging at (literal lit) h = value_says around hanging at (term_of_value (literal lit)) h
scalar_says around hanging at left_out h = value_says around hanging at (term_of_value left_out) h
scalar_says around hanging at (refused code) h = value_says around hanging at (term_of_value (refused code)) h

-- what the items of a list say, by how and where they hang
abbrev pub Content : Type 0
Content = Hanging → Head → Said

abbrev pub loose_content : Content → Head → List Parts
loose_content content h = (content loose h).0

abbrev pub ended : Said → List Parts
ended said = said.0 ++ link said.1 (Some rdf_nil)

-- a list; it writes no cells where its own link is left out, but its nodes still count
abbrev pub list_hangs : Content → Head → List Parts
list_hangs content h = elim (is_whole h) [ true ↦ ended (content listed h) | false ↦ loose_content content h ]

abbrev pub plain_list : Hanging → ℕ → Content → Head → Said
plain_list linked at content h = (list_hangs content h, h)
plain_list listed at content h =
    (link h (Some (cell_at at)) ++ list_hangs content (cell_head h.scope at rdf_first), cell_head h.scope at rdf_rest)
plain_list loose at content h = (loose_content content h, h)

abbrev pub list_says : Around → Hanging → ℕ → Content → Head → Said
list_says document hanging at content h = plain_list hanging at content h
list_says ordinary hanging at content h = plain_list hanging at content h
list_says graphs hanging at content h = graph_node hanging adds_nothing at (λ scope. loose_content content (in_scope h scope)) h
list_says (map_entry adds) hanging at content h = plain_list hanging at content h
list_says (graph_map_entry adds) hanging at content h = graph_node hanging adds at (λ scope. loose_content content (in_scope h scope)) h
