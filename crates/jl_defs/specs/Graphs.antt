-- What an object is by its entries. Two kinds are used for the content of their `@graph`: the graph object, which in a graph map
-- isn't wrapped once more (JSON-LD 1.1, section 9.4; API, section 5.1.2, step 13.8.3.7.1), and the pure graph, a document that is
-- one map with `@graph` alone (API, the method `expand`). In the order any all entries of the object tell, as in the standard.
-- In streaming order its rest tells (this project's own rule).
use Rattle.std.specs.Prelude.{if◌then◌else◌, ℕ, Bool, true, false, not, ◌&&◌, ◌||◌, List, [], ◌∷◌, ◌++◌}
use Rattle.jl_model.specs.JsonTree.{Members}
use Rattle.jl_model.specs.declared.orders.Order.{Order}
use Rattle.jl_model.specs.declared.orders.Order.TheVariants.{Any, Streaming}
use Rattle.std.specs.List.{list_any}
use Rattle.jl_defs.specs.Context.{Context}
use Rattle.jl_defs.specs.Settings.{Settings, Under, Stand, root, entry, graph_entry, elsewhere}
use Rattle.jl_defs.specs.Keys.{Key, graph, is_graph, is_id, is_index, is_value, is_list, is_set}
use Rattle.jl_defs.specs.ObjectContexts.{Inside}
use Rattle.jl_defs.specs.Rest.{before_rest, rest_of}
use Rattle.jl_defs.specs.Kept.{own_member, has_any, is_only_language, entries}

-- entries without the identifier and the index
abbrev pub without_names : List Key → List Key
without_names [] = []
without_names (k ∷ ks) = elim (is_id k || is_index k) [ true ↦ without_names ks | false ↦ k ∷ without_names ks ]

-- the entries from the first one on that isn't the index
abbrev pub after_indexes : List Key → List Key
after_indexes [] = []
after_indexes (k ∷ ks) = elim (is_index k) [ true ↦ after_indexes ks | false ↦ k ∷ ks ]

-- the first entry is `@graph`
abbrev pub begins_graph : List Key → Bool
begins_graph [] = false
begins_graph (k ∷ ks) = is_graph k

-- the one entry is `@graph`
abbrev pub is_graph_alone : List Key → Bool
is_graph_alone (graph ∷ []) = true
is_graph_alone ks = false

-- in the order any: the document has the entry `@graph` alone; an item of a graph map has it, and perhaps `@id` and
-- `@index`
abbrev pub is_graph_by_all : Stand → List Key → Bool
is_graph_by_all root ks = is_graph_alone ks
is_graph_by_all graph_entry ks = is_graph_alone (without_names ks)
is_graph_by_all entry ks = false
is_graph_by_all elsewhere ks = false

-- in streaming order (own): the first entry of the rest is `@graph`, in an item of a graph map perhaps after `@index`; before the
-- rest the document has no entry, and an item at most `@id` and `@index`, so a key there that means `@graph` decides nothing
abbrev pub is_graph_by_rest : Stand → List Key → List Key → Bool
is_graph_by_rest root before rest = not (has_any before) && begins_graph rest
is_graph_by_rest graph_entry before rest = not (has_any (without_names before)) && begins_graph (after_indexes rest)
is_graph_by_rest entry before rest = false
is_graph_by_rest elsewhere before rest = false

-- whether an object is a pure graph or a graph object, by its closed members and the entry of an open one
abbrev pub is_graph_with : Settings → Context → Under → Stand → ℕ → Inside → Members → List Key → Bool
is_graph_with s c under stand at i ms opened = by s.order
  where
    by : Order → Bool
    by Any = is_graph_by_all stand (entries s i own_member under ms ++ opened)
    by Streaming =
        is_graph_by_rest stand
        (entries s i own_member under (before_rest s c under stand at i ms))
        (entries s i own_member under (rest_of s c under stand at i ms) ++ opened)

-- the same of an object that has closed
abbrev pub reads_as_graph : Settings → Context → Under → Stand → ℕ → Inside → Members → Bool
reads_as_graph s c under stand at i ms = is_graph_with s c under stand at i ms []

-- what an object is by its entries
pub data Shape : Type 0 where
  value_object : Shape
  list_object : Shape
  set_object : Shape
  -- `@language` alone, which gives nothing (step 18)
  language_alone : Shape
  -- a pure graph or a graph object
  graph_alone : Shape
  node_object : Shape

-- the shape of an object, by whether it is read as a graph and by its entries
abbrev pub shape_of : Bool → List Key → Shape
shape_of is_graph_here ks =
    if list_any is_value ks then value_object
    else (if list_any is_list ks then list_object
    else (if list_any is_set ks then set_object
    else (if is_only_language ks then language_alone
    else (if is_graph_here then graph_alone else node_object))))
