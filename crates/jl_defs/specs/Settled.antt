-- When an open object is decided and when it is settled, in each order (this project's own rules).
use Rattle.std.specs.Prelude.{ℕ, Bool, true, false, not, ◌&&◌, ◌||◌, List, ◌∷◌, ◌++◌, filter, map, Option, Some, None, Result, Ok, Err, codes, bytes_eq, is_some, is_none}
use Rattle.std.specs.List.{list_any, list_all}
use Rattle.jl_model.specs.JsonTree.{Members, no_member, member}
use Rattle.jl_model.specs.declared.faults.Fault.{Fault}
use Rattle.jl_model.specs.declared.orders.Order.{Order}
use Rattle.jl_model.specs.declared.orders.Order.TheVariants.{Any, Streaming}
use Rattle.jl_defs.specs.Texts.{Text}
use Rattle.jl_defs.specs.Trees.{member_named}
use Rattle.jl_defs.specs.Context.{Context, Named, previous}
use Rattle.jl_defs.specs.Settings.{Settings, Under, Stand, root, entry, graph_entry, elsewhere}
use Rattle.jl_defs.specs.Keys.{key_of, is_id}
use Rattle.jl_defs.specs.ObjectContexts.{Inside, decide, leads_in, types_in}
use Rattle.jl_defs.specs.Rest.{own_candidates, past_prelude, rest_of}
use Rattle.jl_defs.specs.OpenTree.{First, quote, brace, bracket, sign, Open, first_byte, read_members}

abbrev pub is_some_member : Members → Bool
is_some_member no_member = false
is_some_member (member a n v rest) = true

-- among closed members the prelude has ended
abbrev pub has_ended : List Context → Members → Bool
has_ended cs ms = is_some_member (past_prelude cs ms)

-- a member ends the prelude: by its key, or once the first byte of its value is known
abbrev pub ends_by : List Context → Text → Option First → Bool
ends_by cs name None = not (list_any (leads_in name) cs)
ends_by cs name (Some quote) = not (list_any (leads_in name) cs)
ends_by cs name (Some sign) = not (list_any (leads_in name) cs)
ends_by cs name (Some bracket) = not (list_any (types_in name) cs)
ends_by cs name (Some brace) = true

-- the key `@context` belongs to no prelude where it is the first
abbrev pub is_first_context : Members → Text → Bool
is_first_context no_member name = bytes_eq name (codes "@context")
is_first_context (member a n v rest) name = false

-- the prelude has ended, where an open member's key has been read
abbrev pub ends_prelude : Settings → Context → Under → Stand → ℕ → Members → Text → Option First → Bool
ends_prelude s c under stand at ms name first =
    has_ended (own_candidates s c under stand at ms) ms
    || (not (is_first_context ms name) && ends_by (own_candidates s c under stand at ms) name first)

abbrev pub means_type : Named → Bool
means_type e = by e.term.mapping
  where
    by : Option Text → Bool
    by None = false
    by (Some text) = bytes_eq text (codes "@type")

abbrev pub name_of : Named → Text
name_of e = e.name

-- the names of the terms that mean `@type`
abbrev pub type_names : Context → List Text
type_names c = map name_of (filter means_type c.level.terms)

-- the keys for `@type`, each of which is waited for
abbrev pub kinds_awaited : Inside → List Text
kinds_awaited i = codes "@type" ∷ (type_names i.base ++ type_names i.final)

abbrev pub is_closed : Members → Text → Bool
is_closed ms name = is_some (member_named name ms)

abbrev pub has_id : Context → Members → Bool
has_id d no_member = false
has_id d (member a n v rest) = is_id (key_of d n) || has_id d rest

abbrev pub is_graph_item : Stand → Bool
is_graph_item graph_entry = true
is_graph_item root = false
is_graph_item entry = false
is_graph_item elsewhere = false

-- in the order any: the context outside has none before it, the object is no item of a graph map, and its `@context`, all keys for
-- `@type` and one for `@id` have closed
abbrev pub settles_any : Context → Stand → Members → Result Inside Fault → Bool
settles_any c stand ms (Err f) = false
settles_any c stand ms (Ok i) =
    (is_none (previous c) && not (is_graph_item stand))
    && (is_closed ms (codes "@context") && (list_all (is_closed ms) (kinds_awaited i) && has_id i.final ms))

-- in streaming order: the first member of the rest has begun
abbrev pub settles_streaming : Settings → Context → Under → Stand → ℕ → Members → Result Inside Fault → Bool
settles_streaming s c under stand at ms (Err f) = false
settles_streaming s c under stand at ms (Ok i) = is_some_member (rest_of s c under stand at i ms)

-- an object with these closed members, of which none is open
unfoldable pub decided : Settings → Context → Under → Stand → ℕ → Members → Bool
decided s c under stand at ms = by s.order
  where
    by : Order → Bool
    by Any = settles_any c stand ms (decide s c under stand at ms)
    by Streaming = has_ended (own_candidates s c under stand at ms) ms

unfoldable pub settled : Settings → Context → Under → Stand → ℕ → Members → Bool
settled s c under stand at ms = by s.order
  where
    by : Order → Bool
    by Any = settles_any c stand ms (decide s c under stand at ms)
    by Streaming = has_ended (own_candidates s c under stand at ms) ms && settles_streaming s c under stand at ms (decide s c under stand at ms)

-- an object with an open member
unfoldable pub decided_by_key : Settings → Context → Under → Stand → ℕ → Members → ℕ → Text → Open → Bool
decided_by_key s c under stand at ms a n next = by s.order
  where
    by : Order → Bool
    by Any = settles_any c stand ms (decide s c under stand at ms)
    by Streaming = ends_prelude s c under stand at ms n (first_byte next)

unfoldable pub settled_by_key : Settings → Context → Under → Stand → ℕ → Members → ℕ → Text → Open → Bool
settled_by_key s c under stand at ms a n next = by s.order
  where
    by : Order → Bool
    by Any = settles_any c stand ms (decide s c under stand at ms)
    by Streaming =
        ends_prelude s c under stand at ms n (first_byte next)
        && settles_streaming s c under stand at (read_members ms a n next) (decide s c under stand at (read_members ms a n next))
