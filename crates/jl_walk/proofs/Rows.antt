-- The machine computed for some documents, each of which stands above its row.
use Rattle.std.specs.Prelude.{ℕ, Bool, true, false, ◌&&◌, ◌==◌, None, [], codes, refl, ◌∷◌, ◌≡◌, List, map, Result, Ok, Err, bytes_eq}
use Rattle.jl_model.specs.JsonTree.{Tree, array, item, member, no_item, no_member, object, scalar}
use Rattle.jl_model.specs.Lines.{line}
use Rattle.jl_model.specs.Codes.{code_number}
use Rattle.jl_model.specs.declared.codes.Code.{Code}
use Rattle.jl_model.specs.declared.codes.Code.TheVariants as code
use Rattle.jl_model.specs.declared.orders.Order.{Order}
use Rattle.jl_model.specs.declared.orders.Order.TheVariants.{Any, Streaming}
use Rattle.jl_model.specs.declared.scalars.Scalar.TheVariants.{Null, Number, Str}
use Rattle.jl_model.specs.declared.graph_scopes.GraphScope.TheVariants.{Main}
use Rattle.jl_defs.specs.Texts.{Text}
use Rattle.jl_defs.specs.Context.{Context, initial}
use Rattle.jl_defs.specs.Process.{process}
use Rattle.jl_defs.specs.Settings.{Settings, no_property}
use Rattle.jl_defs.specs.OpenTree.{Open, in_array, in_object, in_member}
use Rattle.jl_defs.proofs.RowWords.{settings}
use Rattle.jl_laws.proofs.RowWords.{walked}
use Rattle.jl_laws.specs.Spots.{Spot, spot, document, loose}
use Rattle.jl_laws.specs.Says.{walk, root_spot, graph_head}
use Rattle.jl_walk.specs.Frames.{values}
use Rattle.jl_walk.specs.Steps.{Step}
use Rattle.jl_walk.specs.Scalars.{take_scalar}
use Rattle.jl_walk.specs.Opening.{open_array, enter}
use Rattle.jl_walk.specs.Keys.{take_key}
use Rattle.jl_walk.specs.Ending.{close}
use Rattle.jl_walk.specs.Feeding.{feed, start}
use Rattle.jl_walk.specs.Events.{Event, opens_object, opens_array, a_key, a_scalar, tree_events}
use Rattle.jl_walk.specs.States.{at, Go}
use Rattle.jl_walk.specs.Running.{step, run}
use Rattle.jl_walk.specs.Due.{open_events}

abbrev same_texts : List Text → List Text → Bool
same_texts [] [] = true
same_texts (x ∷ xs) (y ∷ ys) = bytes_eq x y && same_texts xs ys
same_texts xs ys = false

abbrev gives_lines : Step → List Text → Bool
gives_lines (Ok (quads, k)) lines = same_texts (map line quads) lines
gives_lines (Err f) lines = false

abbrev stops_at : Step → Code → ℕ → Bool
stops_at (Ok x) c place = false
stops_at (Err f) c place = code_number f.code == code_number c && f.at == place

unfoldable fed : Order → Tree → Step
unfolding take_scalar take_key open_array enter close feed walked
fed order t = feed (settings order None []) t (start (settings order None []))

-- the quads in this order, of which one walk says as many as the dataset has
unfoldable brings : Order → Tree → List Text → Bool
unfolding fed
brings order t lines = gives_lines (fed order t) lines && walked (settings order None []) t lines

unfoldable stops : Order → Tree → Code → ℕ → Bool
unfolding fed
stops order t c place = stops_at (fed order t) c place

-- the same of events, in streaming order
abbrev puts_lines : Go → List Text → Bool
puts_lines (Ok (quads, z)) lines = same_texts (map line quads) lines
puts_lines (Err f) lines = false

abbrev refuses_at : Go → Code → ℕ → Bool
refuses_at (Ok x) c place = false
refuses_at (Err f) c place = code_number f.code == code_number c && f.at == place

unfoldable read : List Event → Go
unfolding step run fed
read es = run (settings Streaming None []) es (at (start (settings Streaming None [])))

unfoldable puts : List Event → List Text → Bool
unfolding read
puts es lines = puts_lines (read es) lines

unfoldable refuses : Tree → Code → ℕ → Bool
unfolding stops read tree_events
refuses t c place = stops Streaming t c place && refuses_at (read (tree_events t [])) c place

unfoldable brings_in_both : Tree → List Text → Bool
unfolding brings puts tree_events
brings_in_both t lines = brings Any t lines && (brings Streaming t lines && puts (tree_events t []) lines)

unfoldable stops_in_both : Tree → Code → ℕ → Bool
unfolding stops refuses
stops_in_both t c place = stops Any t c place && refuses t c place

-- ---- the same where terms are defined: a context of the object's own isn't built, so these rows begin inside one

-- the spot of a document inside this context
abbrev spot_within : Settings → Tree → Spot
spot_within s t =
    by (process s.library s.base t (record { active = initial s.base; url = s.base; chain = []; may_override = false; propagate = true; validate = true }))
  where
    by : Result Context Code → Spot
    by (Ok c) = spot c no_property document loose (graph_head Main)
    by (Err e) = root_spot s

unfoldable fed_within : Order → Tree → Tree → Step
unfolding fed
fed_within order c t = feed (settings order None []) t (values (spot_within (settings order None []) c) ∷ [])

unfoldable read_within : Tree → Tree → Go
unfolding fed_within read tree_events
read_within c t = run (settings Streaming None []) (tree_events t []) (at (values (spot_within (settings Streaming None []) c) ∷ []))

unfoldable says_within : Order → Tree → Tree → List Text → Bool
unfolding walk fed_within
says_within order c t lines = same_texts (map line (walk (settings order None []) (spot_within (settings order None []) c) t).0) lines

unfoldable brings_within : Tree → Tree → List Text → Bool
unfolding fed_within read_within says_within
brings_within c t lines =
    gives_lines (fed_within Any c t) lines
    && (gives_lines (fed_within Streaming c t) lines
    && (puts_lines (read_within c t) lines && (says_within Any c t lines && says_within Streaming c t lines)))

unfoldable refuses_within : Tree → Tree → Code → ℕ → Bool
unfolding fed_within read_within
refuses_within c t x place = stops_at (fed_within Streaming c t) x place && refuses_at (read_within c t) x place

unfoldable stops_within : Tree → Tree → Code → ℕ → Bool
unfolding refuses_within
stops_within c t x place = stops_at (fed_within Any c t) x place && refuses_within c t x place

-- ---- the rows

-- {"@id":"http://a/s","http://a/p":"x"}: a node with a name and a value
node_row : brings_in_both (object 0 (member 1 (codes "@id") (scalar 7 (Str (codes "http://a/s"))) (member 20 (codes "http://a/p") (scalar 33 (Str (codes "x"))) no_member))) (codes "<http://a/s> <http://a/p> \"x\" .\n" ∷ []) ≡ true
unfolding brings_in_both
node_row = refl

-- {"http://a/p":{"http://a/q":1}}: the quad that links a node comes as the node closes
link_row : brings_in_both (object 0 (member 1 (codes "http://a/p") (object 14 (member 15 (codes "http://a/q") (scalar 28 (Number (codes "1"))) no_member)) no_member)) (codes "_:jlb14 <http://a/q> \"1\"^^<http://www.w3.org/2001/XMLSchema#integer> .\n" ∷ codes "_:jlb0 <http://a/p> _:jlb14 .\n" ∷ []) ≡ true
unfolding brings_in_both
link_row = refl

-- {"http://a/p":[{"@value":"x","@language":"en"},null,{"@id":"http://a/o"}]}: a value object, null and a reference in an array
values_row : brings_in_both (object 0 (member 1 (codes "http://a/p") (array 14 (item (object 15 (member 16 (codes "@value") (scalar 25 (Str (codes "x"))) (member 29 (codes "@language") (scalar 41 (Str (codes "en"))) no_member))) (item (scalar 47 Null) (item (object 52 (member 53 (codes "@id") (scalar 59 (Str (codes "http://a/o"))) no_member)) no_item)))) no_member)) (codes "_:jlb0 <http://a/p> \"x\"@en .\n" ∷ codes "_:jlb0 <http://a/p> <http://a/o> .\n" ∷ []) ≡ true
unfolding brings_in_both
values_row = refl

-- {"x":1,"http://a/p":[{"@language":"en"},"y"]}: a language alone gives nothing, and neither does a key without a colon
silent_row : brings_in_both (object 0 (member 1 (codes "x") (scalar 5 (Number (codes "1"))) (member 7 (codes "http://a/p") (array 20 (item (object 21 (member 22 (codes "@language") (scalar 34 (Str (codes "en"))) no_member)) (item (scalar 40 (Str (codes "y"))) no_item))) no_member))) (codes "_:jlb0 <http://a/p> \"y\" .\n" ∷ []) ≡ true
unfolding brings_in_both
silent_row = refl

-- {"@type":["http://a/t","http://a/u"],"@id":"http://a/s","http://a/p":"x"}: types in an array
types_row : brings_in_both (object 0 (member 1 (codes "@type") (array 9 (item (scalar 10 (Str (codes "http://a/t"))) (item (scalar 23 (Str (codes "http://a/u"))) no_item))) (member 37 (codes "@id") (scalar 43 (Str (codes "http://a/s"))) (member 56 (codes "http://a/p") (scalar 69 (Str (codes "x"))) no_member)))) (codes "<http://a/s> <http://www.w3.org/1999/02/22-rdf-syntax-ns#type> <http://a/t> .\n" ∷ codes "<http://a/s> <http://www.w3.org/1999/02/22-rdf-syntax-ns#type> <http://a/u> .\n" ∷ codes "<http://a/s> <http://a/p> \"x\" .\n" ∷ []) ≡ true
unfolding brings_in_both
types_row = refl

-- within {"T":{"@id":"http://a/T","@context":{"i":"@id"}}}: {"@type":"T","i":"http://a/s","http://a/p":"x"}: the second run names the node, by a term of its type's context
run_row : brings_within (object 0 (member 1 (codes "T") (object 5 (member 6 (codes "@id") (scalar 12 (Str (codes "http://a/T"))) (member 25 (codes "@context") (object 36 (member 37 (codes "i") (scalar 41 (Str (codes "@id"))) no_member)) no_member))) no_member)) (object 0 (member 1 (codes "@type") (scalar 9 (Str (codes "T"))) (member 13 (codes "i") (scalar 17 (Str (codes "http://a/s"))) (member 30 (codes "http://a/p") (scalar 43 (Str (codes "x"))) no_member)))) (codes "<http://a/s> <http://www.w3.org/1999/02/22-rdf-syntax-ns#type> <http://a/T> .\n" ∷ codes "<http://a/s> <http://a/p> \"x\" .\n" ∷ []) ≡ true
unfolding brings_within
run_row = refl

-- within {"g":{"@id":"http://a/g","@container":"@graph"}}: {"@id":"http://a/s","g":{"@id":"http://a/x","http://a/p":"1"}}: a node of a container with `@graph` is in a graph of its own
graph_row : brings_within (object 0 (member 1 (codes "g") (object 5 (member 6 (codes "@id") (scalar 12 (Str (codes "http://a/g"))) (member 25 (codes "@container") (scalar 38 (Str (codes "@graph"))) no_member))) no_member)) (object 0 (member 1 (codes "@id") (scalar 7 (Str (codes "http://a/s"))) (member 20 (codes "g") (object 24 (member 25 (codes "@id") (scalar 31 (Str (codes "http://a/x"))) (member 44 (codes "http://a/p") (scalar 57 (Str (codes "1"))) no_member))) no_member))) (codes "<http://a/x> <http://a/p> \"1\" _:jlg24 .\n" ∷ codes "<http://a/s> <http://a/g> _:jlg24 .\n" ∷ []) ≡ true
unfolding brings_within
graph_row = refl

-- {"http://a/p":"x","@id":"http://a/s"}: in the order any the name may come last
named_last_row : brings Any (object 0 (member 1 (codes "http://a/p") (scalar 14 (Str (codes "x"))) (member 18 (codes "@id") (scalar 24 (Str (codes "http://a/s"))) no_member))) (codes "<http://a/s> <http://a/p> \"x\" .\n" ∷ []) ≡ true
unfolding brings
named_last_row = refl

-- {"http://a/p":"x","@id":"http://a/s"}: in streaming order it comes too late
late_row : refuses (object 0 (member 1 (codes "http://a/p") (scalar 14 (Str (codes "x"))) (member 18 (codes "@id") (scalar 24 (Str (codes "http://a/s"))) no_member))) code.LateIdentifier 18 ≡ true
unfolding refuses
late_row = refl

-- {"@id":"http://a/s","http://a/p":"x","@context":{}}: a late context isn't built, which is told first
late_context_row : refuses (object 0 (member 1 (codes "@id") (scalar 7 (Str (codes "http://a/s"))) (member 20 (codes "http://a/p") (scalar 33 (Str (codes "x"))) (member 37 (codes "@context") (object 48 no_member) no_member)))) code.NotYet 37 ≡ true
unfolding refuses
late_context_row = refl

-- within {"T":{"@id":"http://a/T","@context":{"i":"@id"}}}: {"@type":"T","http://a/p":{"i":[]}}: a lone identifier whose value ends the prelude
lone_row : refuses_within (object 0 (member 1 (codes "T") (object 5 (member 6 (codes "@id") (scalar 12 (Str (codes "http://a/T"))) (member 25 (codes "@context") (object 36 (member 37 (codes "i") (scalar 41 (Str (codes "@id"))) no_member)) no_member))) no_member)) (object 0 (member 1 (codes "@type") (scalar 9 (Str (codes "T"))) (member 13 (codes "http://a/p") (object 26 (member 27 (codes "i") (array 31 no_item) no_member)) no_member))) code.LateIdentifier 27 ≡ true
unfolding refuses_within
lone_row = refl

-- within {"i":"@id"}: {"@id":"http://a/s","i":"http://a/t"}: two keys for `@id`
collision_row : stops_within (object 0 (member 1 (codes "i") (scalar 5 (Str (codes "@id"))) no_member)) (object 0 (member 1 (codes "@id") (scalar 7 (Str (codes "http://a/s"))) (member 20 (codes "i") (scalar 24 (Str (codes "http://a/t"))) no_member))) code.CollidingKeywords 20 ≡ true
unfolding stops_within
collision_row = refl

-- {"@context":{},"http://a/p":"x"}: a context of its own isn't built
context_row : stops_in_both (object 0 (member 1 (codes "@context") (object 12 no_member) (member 15 (codes "http://a/p") (scalar 28 (Str (codes "x"))) no_member))) code.NotYet 1 ≡ true
unfolding stops_in_both
context_row = refl

-- {"http://a/p":"x","@context":{}}: in the order any it may come last
context_last_row : stops Any (object 0 (member 1 (codes "http://a/p") (scalar 14 (Str (codes "x"))) (member 18 (codes "@context") (object 29 no_member) no_member))) code.NotYet 18 ≡ true
unfolding stops
context_last_row = refl

-- {"x":{"@context":{}},"http://a/p":"y"}: one in a value that is dropped stops nothing
context_dropped_row : brings_in_both (object 0 (member 1 (codes "x") (object 5 (member 6 (codes "@context") (object 17 no_member) no_member)) (member 21 (codes "http://a/p") (scalar 34 (Str (codes "y"))) no_member))) (codes "_:jlb0 <http://a/p> \"y\" .\n" ∷ []) ≡ true
unfolding brings_in_both
context_dropped_row = refl

-- {"@id":"http://a/s","@graph":[]}: `@graph` isn't built
stage_row : stops_in_both (object 0 (member 1 (codes "@id") (scalar 7 (Str (codes "http://a/s"))) (member 20 (codes "@graph") (array 29 no_item) no_member))) code.NotYet 20 ≡ true
unfolding stops_in_both
stage_row = refl

-- {"http://a/p":{"@type":"@json","@value":1}}: a JSON literal isn't built
json_row : stops_in_both (object 0 (member 1 (codes "http://a/p") (object 14 (member 15 (codes "@type") (scalar 23 (Str (codes "@json"))) (member 31 (codes "@value") (scalar 40 (Number (codes "1"))) no_member))) no_member)) code.NotYet 14 ≡ true
unfolding stops_in_both
json_row = refl

-- {"@id":"http://a/s","@type":"http://a/T": nothing is put while an object is held
held_row : puts (opens_object 0 ∷ a_key 1 (codes "@id") ∷ a_scalar 7 (Str (codes "http://a/s")) ∷ a_key 20 (codes "@type") ∷ a_scalar 28 (Str (codes "http://a/T")) ∷ []) [] ≡ true
unfolding puts
held_row = refl

-- {"@id":"http://a/s","http://a/p":["x": once its rest has begun, each value is put as it ends
open_row : puts (opens_object 0 ∷ a_key 1 (codes "@id") ∷ a_scalar 7 (Str (codes "http://a/s")) ∷ a_key 20 (codes "http://a/p") ∷ opens_array 33 ∷ a_scalar 34 (Str (codes "x")) ∷ []) (codes "<http://a/s> <http://a/p> \"x\" .\n" ∷ []) ≡ true
unfolding puts
open_row = refl

-- ---- what has been read up to the mark `|`

unfoldable puts_open : Open → List Text → Bool
unfolding puts tree_events
puts_open o lines = puts (open_events o) lines

-- streaming: {"@id":"http://a/s","http://a/p":"x"|
open_1 : puts_open (in_object 0 (member 1 (codes "@id") (scalar 7 (Str (codes "http://a/s"))) (member 20 (codes "http://a/p") (scalar 33 (Str (codes "x"))) no_member)) (19 ∷ 36 ∷ [])) (codes "<http://a/s> <http://a/p> \"x\" .\n" ∷ []) ≡ true
unfolding puts_open
open_1 = refl

-- streaming: {"@id":"http://a/s"|
open_2 : puts_open (in_object 0 (member 1 (codes "@id") (scalar 7 (Str (codes "http://a/s"))) no_member) (19 ∷ [])) [] ≡ true
unfolding puts_open
open_2 = refl

-- streaming: {"http://a/p":[{"http://a/q":"x"},{"http://a/r":"y"|
open_3 : puts_open (in_member 0 no_member [] 1 (codes "http://a/p") (in_array 14 (item (object 15 (member 16 (codes "http://a/q") (scalar 29 (Str (codes "x"))) no_member)) no_item) (in_object 34 (member 35 (codes "http://a/r") (scalar 48 (Str (codes "y"))) no_member) (51 ∷ [])))) (codes "_:jlb15 <http://a/q> \"x\" .\n" ∷ codes "_:jlb0 <http://a/p> _:jlb15 .\n" ∷ codes "_:jlb34 <http://a/r> \"y\" .\n" ∷ []) ≡ true
unfolding puts_open
open_3 = refl
