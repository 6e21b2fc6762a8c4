-- What expanded items say where they hang, by the dataset; the walk is compared with it.
use Rattle.std.proofs.Common.{ℕ, ◌+◌, ◌≡◌, refl, sym, ◌∙◌, ap, subst, Bool, true, false, List, [], ◌∷◌, ◌++◌, flat_map, Option, Some, arith}
use Rattle.jl_model.specs.Parts.{Parts}
use Rattle.jl_model.specs.declared.terms.Term.{Term}
use Rattle.jl_model.specs.declared.graph_scopes.GraphScope.{GraphScope}
use Rattle.jl_defs.specs.Texts.{Text}
use Rattle.jl_defs.specs.Values.{Valued, reference, literal, left_out, refused}
use Rattle.jl_defs.specs.Items.{Naming, named, by_graph, Item, value_at, list_at, node_at, Items, no_more, more, NodeEntries, nothing_said, typed, said, holding, including, one, both, then_entries, item_place, wrapped, all_wrapped, scalar_item}
use Rattle.jl_defs.specs.Maps.{Addition, adds_nothing, adds_name, adds_type, adds_property, with_addition, all_with_addition}
use Rattle.jl_defs.specs.NodeMap.{Entry, entry, type_item, items_entries, node_map, item_entries, node_entries, term_of_text, term_of_node, graph_of, rdf_type}
use Rattle.jl_defs.specs.Dataset.{Head, link, cell_at, cell_head, is_whole, rdf_first, rdf_rest, rdf_nil, term_of_value, item_quads, list_quads, entry_quads}
use Rattle.jl_defs.specs.Expansion.{in_graph}
use Rattle.jl_defs.specs.Sets.{tally}
use Rattle.jl_laws.specs.Spots.{Hanging, linked, listed, loose, Around, document, ordinary, graphs, map_entry, graph_map_entry, stand_of, Said, nothing, behind, then_says, with_quads, hangs, head, in_scope, added, named_by, Own, says_nothing, plain_node, graph_node, node_says, no_content, value_says, scalar_says, Content, loose_content, ended, list_hangs, plain_list, list_says}
use Rattle.jl_laws.proofs.Counting.{tally-append}

-- the quads of entries, counted
abbrev pub total : (Parts → ℕ) → List Entry → ℕ
total f es = tally f (flat_map entry_quads es)

pub total-append : (f : Parts → ℕ) (xs ys : List Entry) → total f (xs ++ ys) ≡ total f xs + total f ys
total-append f [] ys = omega arith
total-append f (x ∷ xs) ys =
    omega (arith, total-append f xs ys, tally-append f (entry_quads x) (flat_map entry_quads (xs ++ ys)), tally-append f (entry_quads x) (flat_map entry_quads xs))

-- an item itself, without what is inside it
abbrev itself : Hanging → Item → Head → Said
itself linked x h = (item_quads h x, h)
itself listed x h = (link h (Some (cell_at (item_place x))) ++ item_quads (cell_head h.scope (item_place x) rdf_first) x, cell_head h.scope (item_place x) rdf_rest)
itself loose x h = ([], h)

abbrev pub item_says : Hanging → Item → Head → Said
item_says hanging x h = with_quads (itself hanging x h) (flat_map entry_quads (item_entries h.scope x))

abbrev pub items_say : Hanging → Items → Head → Said
items_say hanging no_more h = nothing h
items_say hanging (more x xs) h = then_says (item_says hanging x h) (λ k. items_say hanging xs k)

-- as often the same quads, and the next item hangs on the same
abbrev pub Alike : (Parts → ℕ) → Said → Said → Type 0
Alike f x y = (tally f x.0 ≡ tally f y.0) × (x.1 ≡ y.1)

pub alike-refl : (f : Parts → ℕ) (x : Said) → Alike f x x
alike-refl f x = (refl, refl)

pub alike-trans : (f : Parts → ℕ) (x y z : Said) → Alike f x y → Alike f y z → Alike f x z
alike-trans f x y z a b = (omega (arith, a.0, b.0), a.1 ∙ b.1)

pub alike-sym : (f : Parts → ℕ) (x y : Said) → Alike f x y → Alike f y x
alike-sym f x y a = (sym a.0, sym a.1)

pub then-alike : (f : Parts → ℕ) (x y : Said) (g k : Head → Said) → Alike f x y → ((h : Head) → Alike f (g h) (k h)) → Alike f (then_says x g) (then_says y k)
then-alike f x y g k a b =
    let e = b x.1 in
    (omega (arith, a.0, e.0, ap (λ h. tally f (k h).0) a.1, tally-append f x.0 (g x.1).0, tally-append f y.0 (k y.1).0), e.1 ∙ ap (λ h. (k h).1) a.1)

pub items-both : (f : Parts → ℕ) (hanging : Hanging) (xs ys : Items) (h : Head) → Alike f (items_say hanging (both xs ys) h) (then_says (items_say hanging xs h) (λ k. items_say hanging ys k))
items-both f hanging no_more ys h = alike-refl f (items_say hanging ys h)
items-both f hanging (more x xs) ys h =
    let here = item_says hanging x h in
    let rest = items_say hanging xs here.1 in
    let next = items_say hanging ys rest.1 in
    let e = items-both f hanging xs ys here.1 in (
      omega (
        arith,
        e.0,
        tally-append f here.0 (items_say hanging (both xs ys) here.1).0,
        tally-append f (here.0 ++ rest.0) next.0,
        tally-append f here.0 rest.0,
        tally-append f rest.0 next.0,
      ),
      e.1,
    )

pub one-says : (f : Parts → ℕ) (hanging : Hanging) (x : Item) (h : Head) → Alike f (item_says hanging x h) (items_say hanging (one x) h)
one-says f hanging x h = (omega (arith, tally-append f (item_says hanging x h).0 []), refl)

-- items that are loose say what is inside them
pub loose-items : (f : Parts → ℕ) (xs : Items) (h : Head) → (tally f (items_say loose xs h).0 ≡ total f (node_map h.scope xs)) × ((items_say loose xs h).1 ≡ h)
unfolding node_map
loose-items f no_more h = (refl, refl)
loose-items f (more x xs) h =
    let e = loose-items f xs h in
    (omega (arith, e.0, tally-append f (flat_map entry_quads (item_entries h.scope x)) (items_say loose xs h).0, total-append f (item_entries h.scope x) (node_map h.scope xs)), e.1)

-- items that are linked by a property are its entries
pub linked-items : (f : Parts → ℕ) (n : Option Term) (scope : GraphScope) (forward : Bool) (property : Text) (xs : Items) →
    (let h : Head = record { subject = n; predicate = property; scope = scope; forward = forward } in
    tally f (items_say linked xs h).0 ≡ total f (items_entries scope n forward property xs) + total f (node_map scope xs))
unfolding node_map item_quads
linked-items f n scope forward property no_more = refl
linked-items f n scope forward property (more x xs) =
    let h : Head = record { subject = n; predicate = property; scope = scope; forward = forward } in
    let inner = flat_map entry_quads (item_entries scope x) in
    omega (
      arith,
      linked-items f n scope forward property xs,
      tally-append f (item_quads h x ++ inner) (items_say linked xs h).0,
      tally-append f (item_quads h x) inner,
      tally-append f (item_quads h x) (flat_map entry_quads (items_entries scope n forward property xs)),
      total-append f (item_entries scope x) (node_map scope xs),
    )

-- items of a list are its cells
pub listed-items : (f : Parts → ℕ) (xs : Items) (h : Head) → tally f (ended (items_say listed xs h)) ≡ tally f (list_quads h xs) + total f (node_map h.scope xs)
unfolding node_map item_quads
listed-items f no_more h = omega arith
listed-items f (more x xs) h =
    let at = item_place x in
    let k = cell_head h.scope at rdf_rest in
    let rest = items_say listed xs k in
    let inner = flat_map entry_quads (item_entries h.scope x) in
    let cell = link h (Some (cell_at at)) in
    let own = item_quads (cell_head h.scope at rdf_first) x in
    let end = link rest.1 (Some rdf_nil) in
    omega (
      arith,
      listed-items f xs k,
      tally-append f (((cell ++ own) ++ inner) ++ rest.0) end,
      tally-append f ((cell ++ own) ++ inner) rest.0,
      tally-append f (cell ++ own) inner,
      tally-append f cell own,
      tally-append f rest.0 end,
      tally-append f cell (own ++ list_quads k xs),
      tally-append f own (list_quads k xs),
      total-append f (item_entries h.scope x) (node_map h.scope xs),
    )

-- what a node says, entry by entry
pub entries-then : (f : Parts → ℕ) (scope : GraphScope) (n : Option Term) (es ds : NodeEntries) → total f (node_entries scope n (then_entries es ds)) ≡ total f (node_entries scope n es) + total f (node_entries scope n ds)
unfolding node_map
entries-then f scope n nothing_said ds = omega arith
entries-then f scope n (typed text rest) ds =
    let e = entry scope n true rdf_type (type_item text) in
    omega (
      arith,
      entries-then f scope n rest ds,
      tally-append f (entry_quads e) (flat_map entry_quads (node_entries scope n rest)),
      tally-append f (entry_quads e) (flat_map entry_quads (node_entries scope n (then_entries rest ds))),
    )
entries-then f scope n (said forward property xs rest) ds =
    let mine = items_entries scope n forward property xs in
    let inner = node_map scope xs in
    omega (
      arith,
      entries-then f scope n rest ds,
      total-append f mine (inner ++ node_entries scope n rest),
      total-append f inner (node_entries scope n rest),
      total-append f mine (inner ++ node_entries scope n (then_entries rest ds)),
      total-append f inner (node_entries scope n (then_entries rest ds)),
    )
entries-then f scope n (holding xs rest) ds =
    let inner = node_map (graph_of n) xs in
    omega (arith, entries-then f scope n rest ds, total-append f inner (node_entries scope n rest), total-append f inner (node_entries scope n (then_entries rest ds)))
entries-then f scope n (including xs rest) ds =
    let inner = node_map scope xs in
    omega (arith, entries-then f scope n rest ds, total-append f inner (node_entries scope n rest), total-append f inner (node_entries scope n (then_entries rest ds)))

-- what stands round items, put on them
abbrev pub placed : Around → Items → Items
placed document xs = xs
placed ordinary xs = xs
placed graphs xs = all_wrapped xs
placed (map_entry adds) xs = all_with_addition adds xs
placed (graph_map_entry adds) xs = all_with_addition adds xs

wrapped-both : (xs ys : Items) → all_wrapped (both xs ys) ≡ both (all_wrapped xs) (all_wrapped ys)
wrapped-both no_more ys = refl
wrapped-both (more x xs) ys = ap (more (wrapped x)) (wrapped-both xs ys)

added-both : (adds : Addition) (xs ys : Items) → all_with_addition adds (both xs ys) ≡ both (all_with_addition adds xs) (all_with_addition adds ys)
added-both adds no_more ys = refl
added-both adds (more x xs) ys = ap (more (with_addition adds x)) (added-both adds xs ys)

pub placed-both : (around : Around) (xs ys : Items) → placed around (both xs ys) ≡ both (placed around xs) (placed around ys)
placed-both document xs ys = refl
placed-both ordinary xs ys = refl
placed-both graphs xs ys = wrapped-both xs ys
placed-both (map_entry adds) xs ys = added-both adds xs ys
placed-both (graph_map_entry adds) xs ys = added-both adds xs ys

pub placed-none : (around : Around) → placed around no_more ≡ no_more
placed-none document = refl
placed-none ordinary = refl
placed-none graphs = refl
placed-none (map_entry adds) = refl
placed-none (graph_map_entry adds) = refl

-- a node, by what it says itself
abbrev pub OwnAre : (Parts → ℕ) → Own → NodeEntries → Type 0
OwnAre f own es = (n : Option Term) (scope : GraphScope) → tally f (own n scope) ≡ total f (node_entries scope n es)

pub type-added : (f : Parts → ℕ) (n : Option Term) (scope : GraphScope) (text : Text) (es : NodeEntries) → total f (node_entries scope n (typed text es)) ≡ tally f (link (head n rdf_type scope) (term_of_text text)) + total f (node_entries scope n es)
unfolding node_map item_quads
type-added f n scope text es = tally-append f (link (head n rdf_type scope) (term_of_text text)) (flat_map entry_quads (node_entries scope n es))

scalar-quads : (h : Head) (at : ℕ) (v : Valued) → item_quads h (scalar_item at v) ≡ link h (term_of_value v)
unfolding item_quads
scalar-quads h at (reference name) = refl
scalar-quads h at (literal lit) = refl
scalar-quads h at left_out = refl
scalar-quads h at (refused code) = refl

scalar-entries : (scope : GraphScope) (at : ℕ) (v : Valued) → node_map scope (one (scalar_item at v)) ≡ []
unfolding node_map
scalar-entries scope at (reference name) = refl
scalar-entries scope at (literal lit) = refl
scalar-entries scope at left_out = refl
scalar-entries scope at (refused code) = refl

property-added : (f : Parts → ℕ) (n : Option Term) (scope : GraphScope) (p : Text) (at : ℕ) (v : Valued) (es : NodeEntries) →
    total f (node_entries scope n (said true p (one (scalar_item at v)) es)) ≡ tally f (link (head n p scope) (term_of_value v)) + total f (node_entries scope n es)
unfolding node_map
property-added f n scope p at v es =
    let x = scalar_item at v in
    let rest = node_entries scope n es in
    omega (
      arith,
      tally-append f (item_quads (head n p scope) x) (flat_map entry_quads (node_map scope (one x) ++ rest)),
      total-append f (node_map scope (one x)) rest,
      ap (tally f) (scalar-quads (head n p scope) at v),
      ap (total f) (scalar-entries scope at v),
    )

node-added : (f : Parts → ℕ) (adds : Addition) (at : ℕ) (naming : Naming) (own : Own) (es : NodeEntries) (h : Head) → OwnAre f own es →
    (let n = term_of_node at (named_by adds naming) in
    tally f (added adds n h.scope ++ own n h.scope) ≡ total f (item_entries h.scope (with_addition adds (node_at at naming es))))
unfolding node_map
node-added f adds_nothing at naming own es h e = e (term_of_node at naming) h.scope
node-added f (adds_name text) at naming own es h e = e (term_of_node at (named_by (adds_name text) naming)) h.scope
node-added f (adds_type text) at naming own es h e =
    let n = term_of_node at naming in
    omega (arith, e n h.scope, type-added f n h.scope text es, tally-append f (link (head n rdf_type h.scope) (term_of_text text)) (own n h.scope))
node-added f (adds_property p v) at naming own es h e =
    let n = term_of_node at naming in
    omega (arith, e n h.scope, property-added f n h.scope p at v es, tally-append f (link (head n p h.scope) (term_of_value v)) (own n h.scope))

node-itself : (hanging : Hanging) (adds : Addition) (at : ℕ) (naming : Naming) (es : NodeEntries) (h : Head) →
    hangs hanging at (term_of_node at (named_by adds naming)) h ≡ itself hanging (with_addition adds (node_at at naming es)) h
unfolding item_quads
node-itself linked adds_nothing at naming es h = refl
node-itself linked (adds_name text) at naming es h = refl
node-itself linked (adds_type text) at naming es h = refl
node-itself linked (adds_property p v) at naming es h = refl
node-itself listed adds_nothing at naming es h = refl
node-itself listed (adds_name text) at naming es h = refl
node-itself listed (adds_type text) at naming es h = refl
node-itself listed (adds_property p v) at naming es h = refl
node-itself loose adds at naming es h = refl

quads-alike : (f : Parts → ℕ) (x y : Said) (xs ys : List Parts) → x ≡ y → tally f xs ≡ tally f ys → Alike f (with_quads x xs) (with_quads y ys)
quads-alike f x y xs ys e l = (omega (arith, l, tally-append f x.0 xs, tally-append f y.0 ys, ap (λ s. tally f s.0) e), ap (λ s. s.1) e)

-- the quad that links a node may stand before what the node says or after it
link-last : (f : Parts → ℕ) (own adds : List Parts) (z : Said) → Alike f (behind own (behind adds z)) (with_quads z (adds ++ own))
link-last f own adds z =
    (omega (arith, tally-append f own (adds ++ z.0), tally-append f adds z.0, tally-append f z.0 (adds ++ own), tally-append f adds own), refl)

pub plain-node : (f : Parts → ℕ) (hanging : Hanging) (adds : Addition) (at : ℕ) (naming : Naming) (own : Own) (es : NodeEntries) (h : Head) → OwnAre f own es →
    Alike f (plain_node hanging adds at naming own h) (items_say hanging (one (with_addition adds (node_at at naming es))) h)
plain-node f hanging adds at naming own es h e =
    let x = with_addition adds (node_at at naming es) in
    let n = term_of_node at (named_by adds naming) in
    alike-trans f (plain_node hanging adds at naming own h) (item_says hanging x h) (items_say hanging (one x) h)
    (alike-trans f (plain_node hanging adds at naming own h) (with_quads (hangs hanging at n h) (added adds n h.scope ++ own n h.scope)) (item_says hanging x h)
    (link-last f (own n h.scope) (added adds n h.scope) (hangs hanging at n h))
    (quads-alike f _ _ _ _ (node-itself hanging adds at naming es h) (node-added f adds at naming own es h e)))
    (one-says f hanging x h)

-- an implicit graph round an item
pub graph-node : (f : Parts → ℕ) (hanging : Hanging) (adds : Addition) (x : Item) (content : GraphScope → List Parts) (h : Head) →
    ((scope : GraphScope) → tally f (content scope) ≡ total f (item_entries scope x)) →
    Alike f (graph_node hanging adds (item_place x) content h) (items_say hanging (one (with_addition adds (wrapped x))) h)
unfolding node_map
graph-node f hanging adds x content h e =
    plain-node f hanging adds (item_place x) by_graph (λ s scope. content (graph_of s)) (holding (one x) nothing_said) h
    (λ n scope. omega (arith, e (graph_of n), total-append f (item_entries (graph_of n) x ++ []) [], total-append f (item_entries (graph_of n) x) []))

-- an item with what stands round it
pub node-alike : (f : Parts → ℕ) (around : Around) (hanging : Hanging) (at : ℕ) (naming : Naming) (own : Own) (es : NodeEntries) (h : Head) → OwnAre f own es →
    Alike f (node_says around hanging at naming own h) (items_say hanging (placed around (one (in_graph (stand_of around) (node_at at naming es)))) h)
unfolding node_map
node-alike f document hanging at naming own es h e = plain-node f hanging adds_nothing at naming own es h e
node-alike f ordinary hanging at naming own es h e = plain-node f hanging adds_nothing at naming own es h e
node-alike f graphs hanging at naming own es h e = graph-node f hanging adds_nothing (node_at at naming es) (own (term_of_node at naming)) h (λ scope. e (term_of_node at naming) scope)
node-alike f (map_entry adds) hanging at naming own es h e = plain-node f hanging adds at naming own es h e
node-alike f (graph_map_entry adds) hanging at naming own es h e = graph-node f hanging adds (node_at at naming es) (own (term_of_node at naming)) h (λ scope. e (term_of_node at naming) scope)

added-value : (adds : Addition) (at : ℕ) (v : Valued) → with_addition adds (value_at at v) ≡ value_at at v
added-value adds_nothing at v = refl
added-value (adds_name text) at v = refl
added-value (adds_type text) at v = refl
added-value (adds_property p w) at v = refl

plain-value : (f : Parts → ℕ) (hanging : Hanging) (at : ℕ) (v : Valued) (h : Head) → Alike f (hangs hanging at (term_of_value v) h) (items_say hanging (one (value_at at v)) h)
unfolding item_quads node_map
plain-value f linked at v h = (omega (arith, tally-append f (link h (term_of_value v) ++ []) [], tally-append f (link h (term_of_value v)) []), refl)
plain-value f listed at v h =
    let cell = link h (Some (cell_at at)) ++ link (cell_head h.scope at rdf_first) (term_of_value v) in
    (omega (arith, tally-append f (cell ++ []) [], tally-append f cell []), refl)
plain-value f loose at v h = (refl, refl)

pub value-alike : (f : Parts → ℕ) (around : Around) (hanging : Hanging) (at : ℕ) (v : Valued) (h : Head) →
    Alike f (value_says around hanging at (term_of_value v) h) (items_say hanging (placed around (one (in_graph (stand_of around) (value_at at v)))) h)
unfolding node_map
value-alike f document hanging at v h = plain-value f hanging at v h
value-alike f ordinary hanging at v h = plain-value f hanging at v h
value-alike f graphs hanging at v h = graph-node f hanging adds_nothing (value_at at v) no_content h (λ scope. refl)
value-alike f (map_entry adds) hanging at v h =
    subst (λ x. Alike f (hangs hanging at (term_of_value v) h) (items_say hanging (one x) h)) (sym (added-value adds at v)) (plain-value f hanging at v h)
value-alike f (graph_map_entry adds) hanging at v h = graph-node f hanging adds (value_at at v) no_content h (λ scope. refl)

pub scalar-alike : (f : Parts → ℕ) (around : Around) (hanging : Hanging) (at : ℕ) (v : Valued) (h : Head) →
    Alike f (scalar_says around hanging at v h) (items_say hanging (placed around (one (in_graph (stand_of around) (scalar_item at v)))) h)
unfolding node_map
scalar-alike f around hanging at (reference name) h = node-alike f around hanging at (named name) says_nothing nothing_said h (λ n scope. refl)
scalar-alike f around hanging at (literal lit) h = value-alike f around hanging at (literal lit) h
scalar-alike f around hanging at left_out h = value-alike f around hanging at left_out h
scalar-alike f around hanging at (refused code) h = value-alike f around hanging at (refused code) h

-- a list, by what its items say
abbrev pub ContentIs : (Parts → ℕ) → Content → Items → Type 0
ContentIs f content xs = (hanging : Hanging) (h : Head) → Alike f (content hanging h) (items_say hanging xs h)

pub list-quads : (f : Parts → ℕ) (at : ℕ) (content : Content) (xs : Items) (h : Head) → ContentIs f content xs →
    tally f (list_hangs content h) ≡ tally f (item_quads h (list_at at xs)) + total f (node_map h.scope xs)
unfolding item_quads
list-quads f at content xs h e = by (is_whole h)
  where
    by : (b : Bool) → tally f (elim b [ true ↦ ended (content listed h) | false ↦ loose_content content h ]) ≡ tally f (elim b [ true ↦ list_quads h xs | false ↦ [] ]) + total f (node_map h.scope xs)
    by true =
        let a = e listed h in
        let mine = content listed h in
        let theirs = items_say listed xs h in
        omega (
          arith,
          a.0,
          listed-items f xs h,
          tally-append f mine.0 (link mine.1 (Some rdf_nil)),
          tally-append f theirs.0 (link theirs.1 (Some rdf_nil)),
          ap (λ k. tally f (link k (Some rdf_nil))) a.1,
        )
    by false = omega (arith, (e loose h).0, (loose-items f xs h).0)

plain-list : (f : Parts → ℕ) (hanging : Hanging) (at : ℕ) (content : Content) (xs : Items) (h : Head) → ContentIs f content xs →
    Alike f (plain_list hanging at content h) (items_say hanging (one (list_at at xs)) h)
unfolding node_map
plain-list f linked at content xs h e =
    let own = item_quads h (list_at at xs) in
    let inner = flat_map entry_quads (node_map h.scope xs) in
    (omega (arith, list-quads f at content xs h e, tally-append f (own ++ inner) [], tally-append f own inner), refl)
plain-list f listed at content xs h e =
    let k = cell_head h.scope at rdf_first in
    let cell = link h (Some (cell_at at)) in
    let own = item_quads k (list_at at xs) in
    let inner = flat_map entry_quads (node_map h.scope xs) in (
      omega (
        arith,
        list-quads f at content xs k e,
        tally-append f ((cell ++ own) ++ inner) [],
        tally-append f (cell ++ own) inner,
        tally-append f cell own,
        tally-append f cell (list_hangs content k),
      ),
      refl,
    )
plain-list f loose at content xs h e =
    (omega (arith, (e loose h).0, (loose-items f xs h).0, tally-append f (flat_map entry_quads (node_map h.scope xs)) []), refl)

added-list : (adds : Addition) (at : ℕ) (xs : Items) → with_addition adds (list_at at xs) ≡ list_at at xs
added-list adds_nothing at xs = refl
added-list (adds_name text) at xs = refl
added-list (adds_type text) at xs = refl
added-list (adds_property p w) at xs = refl

pub list-alike : (f : Parts → ℕ) (around : Around) (hanging : Hanging) (at : ℕ) (content : Content) (xs : Items) (h : Head) → ContentIs f content xs →
    Alike f (list_says around hanging at content h) (items_say hanging (placed around (one (in_graph (stand_of around) (list_at at xs)))) h)
unfolding node_map
list-alike f document hanging at content xs h e = plain-list f hanging at content xs h e
list-alike f ordinary hanging at content xs h e = plain-list f hanging at content xs h e
list-alike f graphs hanging at content xs h e =
    graph-node f hanging adds_nothing (list_at at xs) (λ scope. loose_content content (in_scope h scope)) h
    (λ scope. omega (arith, (e loose (in_scope h scope)).0, (loose-items f xs (in_scope h scope)).0))
list-alike f (map_entry adds) hanging at content xs h e =
    subst (λ x. Alike f (plain_list hanging at content h) (items_say hanging (one x) h)) (sym (added-list adds at xs)) (plain-list f hanging at content xs h e)
list-alike f (graph_map_entry adds) hanging at content xs h e =
    graph-node f hanging adds (list_at at xs) (λ scope. loose_content content (in_scope h scope)) h
    (λ scope. omega (arith, (e loose (in_scope h scope)).0, (loose-items f xs (in_scope h scope)).0))
