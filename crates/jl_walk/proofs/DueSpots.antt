-- What is due at a spot of the definitions is what one walk says at its spot.
use Rattle.std.proofs.Common.{ℕ, ◌≡◌, refl, sym, ◌∙◌, ap, Bool, true, false, not, ◌&&◌, ◌||◌, List, [], ◌++◌, flat_map, Option, arith}
use Rattle.jl_model.specs.JsonTree.{Tree, Trees, Members, no_member, member}
use Rattle.jl_model.specs.Parts.{Parts}
use Rattle.jl_defs.specs.Context.{TermDef, Context, term}
use Rattle.jl_defs.specs.Settings.{Settings, Under, Stand, graph_property, elsewhere, inside_of, drops, term_under, lists}
use Rattle.jl_defs.specs.Keys.{Key, list, set, key_of, is_list, is_set, is_graph}
use Rattle.jl_defs.specs.ObjectContexts.{Inside}
use Rattle.jl_defs.specs.Items.{Naming, Items, no_more, more, given, all_wrapped}
use Rattle.jl_defs.specs.Kept.{own_member}
use Rattle.jl_defs.specs.Maps.{adds_nothing, all_with_addition}
use Rattle.jl_defs.specs.Expansion as ex
use Rattle.jl_defs.specs.Expansion.{expand, expand_all, with_key, if_key_is}
use Rattle.jl_defs.specs.NodeMap.{node_map, items_entries, term_of_node}
use Rattle.jl_defs.specs.Dataset.{Head, entry_quads, items_quads}
use Rattle.jl_defs.specs.Sets.{tally}
use Rattle.jl_defs.specs.OpenTree.{Open, unread, in_scalar, in_array, in_object, in_key, in_member, whole}
use Rattle.jl_defs.specs.Due as due
use Rattle.jl_laws.specs.Spots.{Hanging, linked, listed, loose, Around, document, ordinary, graphs, map_entry, graph_map_entry, Spot, stand_of, inside, moved}
use Rattle.jl_laws.specs.Says.{walk, walk_all, members_say}
use Rattle.jl_laws.proofs.Bools.{picked-false}
use Rattle.jl_laws.proofs.Counting.{tally-append}
use Rattle.jl_laws.proofs.ItemsSay.{total, items_say, loose-items, linked-items, placed, placed-none}
use Rattle.jl_laws.proofs.Frames.{inside-placed, walk-is, all-is, members-are}
use Rattle.jl_walk.specs.Stage.{is_built_key, members_forms}
use Rattle.jl_walk.specs.Opening.{scope_of}
use Rattle.jl_walk.specs.Laws.{IsPlainAround}
use Rattle.jl_walk.proofs.Members.{both}
use Rattle.jl_walk.proofs.Runs.{left-nil, right-nil}

-- ---- the spot of the definitions, by that of one walk

abbrev pub hang_of : Hanging → Head → due.Hang
hang_of linked h = due.below h.subject h.forward h.predicate
hang_of listed h = due.by_themselves
hang_of loose h = due.by_themselves

abbrev pub is_graphs : Around → Bool
is_graphs document = false
is_graphs ordinary = false
is_graphs graphs = true
is_graphs (map_entry adds) = false
is_graphs (graph_map_entry adds) = false

abbrev pub due_at : Context → Under → Around → Hanging → Head → due.Spot
due_at c u a hanging h = record {
  context = c;
  under = u;
  stand = stand_of a;
  scope = h.scope;
  hang = hang_of hanging h;
  listing = due.in_no_list;
  wraps = is_graphs a;
  adds = adds_nothing;
}

abbrev pub due_spot : Spot → due.Spot
due_spot p = due_at p.context p.under p.role.around p.role.hanging p.head

-- each item hangs by a quad, or stands by itself
abbrev pub IsHung : Hanging → Type 0
IsHung linked = Unit {0}
IsHung listed = ⊥
IsHung loose = Unit {0}

-- ---- closed items

added-none : (xs : Items) → all_with_addition adds_nothing xs ≡ xs
added-none no_more = refl
added-none (more x xs) = ap (more x) (added-none xs)

placed-so : (c : Context) (u : Under) (a : Around) (hanging : Hanging) (h : Head) (xs : Items) → IsPlainAround a → due.placed (due_at c u a hanging h) xs ≡ placed a xs
placed-so c u document hanging h xs plain = added-none xs
placed-so c u ordinary hanging h xs plain = added-none xs
placed-so c u graphs hanging h xs plain = added-none (all_wrapped xs)
placed-so c u (map_entry adds) hanging h xs plain = absurd plain
placed-so c u (graph_map_entry adds) hanging h xs plain = absurd plain

items-due : (f : Parts → ℕ) (c : Context) (u : Under) (a : Around) (hanging : Hanging) (h : Head) (xs : Items) → IsPlainAround a → IsHung hanging →
    tally f (due.items_say (due_at c u a hanging h) xs) ≡ tally f (items_say hanging (placed a xs) h).0
items-due f c u a linked h xs plain hung =
    ap (λ ys. tally f (flat_map entry_quads (items_entries h.scope h.subject h.forward h.predicate ys) ++ items_quads h.scope ys)) (placed-so c u a linked h xs plain)
    ∙ (tally-append f (flat_map entry_quads (items_entries h.scope h.subject h.forward h.predicate (placed a xs))) (items_quads h.scope (placed a xs))
    ∙ sym (linked-items f h.subject h.scope h.forward h.predicate (placed a xs)))
items-due f c u a loose h xs plain hung = ap (λ ys. total f (node_map h.scope ys)) (placed-so c u a loose h xs plain) ∙ sym (loose-items f (placed a xs) h).0
items-due f c u a listed h xs plain hung = absurd hung

-- the next item hangs where this one does
linked-stays : (xs : Items) (h : Head) → (items_say linked xs h).1 ≡ h
linked-stays no_more h = refl
linked-stays (more x xs) h = linked-stays xs h

stays : (hanging : Hanging) (xs : Items) (h : Head) → IsHung hanging → (items_say hanging xs h).1 ≡ h
stays linked xs h hung = linked-stays xs h
stays loose xs h hung = (loose-items (λ x. 0) xs h).1
stays listed xs h hung = absurd hung

pub all-stays : (s : Settings) (p : Spot) (xs : Trees) → IsHung p.role.hanging → (walk_all s p xs).1 ≡ p.head
all-stays s p xs hung = (all-is (λ x. 0) s p xs).1 ∙ stays p.role.hanging (placed p.role.around (expand_all s p.context p.under (stand_of p.role.around) xs)) p.head hung

pub closed-due : (f : Parts → ℕ) (s : Settings) (p : Spot) (t : Tree) → IsPlainAround p.role.around → IsHung p.role.hanging →
    tally f (due.items_say (due_spot p) (given (expand s p.context p.under (stand_of p.role.around) t))) ≡ tally f (walk s p t).0
closed-due f s p t plain hung =
    items-due f p.context p.under p.role.around p.role.hanging p.head (given (expand s p.context p.under (stand_of p.role.around) t)) plain hung
    ∙ sym (walk-is f s p t).0

pub all-due : (f : Parts → ℕ) (s : Settings) (p : Spot) (xs : Trees) → IsPlainAround p.role.around → IsHung p.role.hanging →
    tally f (due.items_say (due_spot p) (expand_all s p.context p.under (inside_of (stand_of p.role.around)) xs))
    ≡ tally f (walk_all s (moved p (inside p.role.around) p.head) xs).0
all-due f s p xs plain hung =
    items-due f p.context p.under p.role.around p.role.hanging p.head (expand_all s p.context p.under (inside_of (stand_of p.role.around)) xs) plain hung
    ∙ (sym (ap (λ zs. tally f (items_say p.role.hanging zs p.head).0) (inside-placed p.role.around (λ stand. expand_all s p.context p.under stand xs)))
    ∙ sym (all-is f s (moved p (inside p.role.around) p.head) xs).0)

-- the spot of an array's open item
inside-so : (c : Context) (u : Under) (a : Around) (hanging : Hanging) (h : Head) → due.inside_spot (due_at c u a hanging h) ≡ due_at c u (inside a) hanging h
inside-so c u document hanging h = refl
inside-so c u ordinary hanging h = refl
inside-so c u graphs hanging h = refl
inside-so c u (map_entry adds) hanging h = refl
inside-so c u (graph_map_entry adds) hanging h = refl

pub item-so : (c : Context) (u : Under) (a : Around) (hanging : Hanging) (h : Head) (o : Open) → lists (term_under c u) ≡ false →
    due.item_spot (due_at c u a hanging h) o ≡ due_at c u (inside a) hanging h
item-so c u a hanging h (in_array at xs next) e = picked-false (lists (term_under c u)) _ (due.inside_spot (due_at c u a hanging h)) e ∙ inside-so c u a hanging h
item-so c u a hanging h unread e = inside-so c u a hanging h
item-so c u a hanging h (in_scalar at first) e = inside-so c u a hanging h
item-so c u a hanging h (in_object at ms ends) e = inside-so c u a hanging h
item-so c u a hanging h (in_key at ms ends b) e = inside-so c u a hanging h
item-so c u a hanging h (in_member at ms ends b n next) e = inside-so c u a hanging h
item-so c u a hanging h (whole t) e = inside-so c u a hanging h

-- ---- the closed members of a node

not-set : (k : Key) (t : Option TermDef) → is_built_key k t ≡ true → is_set k ≡ false
not-set set t b = absurd cc
not-set k t b = refl

not-list : (k : Key) (t : Option TermDef) → is_built_key k t ≡ true → is_list k ≡ false
not-list list t b = absurd cc
not-list k t b = refl

none-with : (s : Settings) (i : Inside) (test : Key → Bool) → ((k : Key) (t : Option TermDef) → is_built_key k t ≡ true → test k ≡ false) → (under : Under) (stand : Stand) (ms : Members) →
    members_forms s i ms ≡ [] → with_key s i test under stand ms ≡ no_more
unfolding expand members_forms
none-with s i test h under stand no_member b = refl
none-with s i test h under stand (member a n v rest) b =
    ap (λ x. if_key_is x (λ _. given (expand s i.final under stand v)) (with_key s i test under stand rest))
    (h (key_of i.final n) (term i.final n) (both (is_built_key (key_of i.final n) (term i.final n)) a _ (left-nil _ _ b)))
    ∙ none-with s i test h under stand rest (right-nil _ _ b)

none-has : (s : Settings) (i : Inside) (test : Key → Bool) → ((k : Key) (t : Option TermDef) → is_built_key k t ≡ true → test k ≡ false) → (ms : Members) →
    members_forms s i ms ≡ [] → due.has_key test i.final ms ≡ false
unfolding members_forms
none-has s i test h no_member b = refl
none-has s i test h (member a n v rest) b =
    ap (λ x. x || due.has_key test i.final rest) (h (key_of i.final n) (term i.final n) (both (is_built_key (key_of i.final n) (term i.final n)) a _ (left-nil _ _ b)))
    ∙ none-has s i test h rest (right-nil _ _ b)

no-items : (f : Parts → ℕ) (c : Context) (u : Under) (a : Around) (hanging : Hanging) (h : Head) → IsPlainAround a → IsHung hanging → tally f (due.items_say (due_at c u a hanging h) no_more) ≡ 0
no-items f c u a hanging h plain hung =
    items-due f c u a hanging h no_more plain hung ∙ ap (λ xs. tally f (items_say hanging xs h).0) (placed-none a)

set-due : (f : Parts → ℕ) (s : Settings) (c : Context) (u : Under) (a : Around) (hanging : Hanging) (h : Head) (i : Inside) (ms : Members) → IsPlainAround a → IsHung hanging →
    members_forms s i ms ≡ [] → tally f (due.set_due s (due_at c u a hanging h) i ms) ≡ 0
set-due f s c u a hanging h i ms plain hung b =
    ap (λ xs. tally f (due.items_say (due_at c u a hanging h) xs)) (none-with s i is_set not-set u (inside_of (stand_of a)) ms b) ∙ no-items f c u a hanging h plain hung

and-false : (x y : Bool) → y ≡ false → (x && y) ≡ false
and-false true y e = e
and-false false y e = refl

if-not : (f : Parts → ℕ) (b : Bool) (quads : Unit {0} → List Parts) → b ≡ false → tally f (due.if_so b quads) ≡ 0
if-not f true quads e = absurd cc
if-not f false quads e = refl

list-due : (f : Parts → ℕ) (s : Settings) (p : due.Spot) (at : ℕ) (i : Inside) (ms : Members) → members_forms s i ms ≡ [] → tally f (due.list_due s p at i ms) ≡ 0
list-due f s p at i ms b =
    if-not f (not (drops p.under) && due.has_key is_list i.final ms) _ (and-false (not (drops p.under)) (due.has_key is_list i.final ms) (none-has s i is_list not-list ms b))

node-due : (f : Parts → ℕ) (s : Settings) (i : Inside) (n : due.NodeSpot) (ms : Members) → n.pure ≡ false → tally f (due.node_due s i n ms) ≡ tally f (members_say s i own_member n.subject n.scope ms)
node-due f s i n ms e =
    ap (λ b. tally f (elim b [ true ↦ items_quads n.content (with_key s i is_graph graph_property elsewhere ms) | false ↦ due.entries_say n (ex.members_say s i own_member ms) ])) e
    ∙ sym (members-are f s i own_member n.subject n.scope ms)

pub members-due : (f : Parts → ℕ) (s : Settings) (p : Spot) (at : ℕ) (i : Inside) (n : due.NodeSpot) (ms : Members) → IsPlainAround p.role.around → IsHung p.role.hanging →
    n.pure ≡ false → members_forms s i ms ≡ [] → tally f (due.members_due s (due_spot p) at i n ms) ≡ tally f (members_say s i own_member n.subject n.scope ms)
members-due f s p at i n ms plain hung e b =
    omega (
      arith,
      node-due f s i n ms e,
      set-due f s p.context p.under p.role.around p.role.hanging p.head i ms plain hung b,
      list-due f s (due_spot p) at i ms b,
      tally-append f (due.node_due s i n ms) (due.set_due s (due_spot p) i ms ++ due.list_due s (due_spot p) at i ms),
      tally-append f (due.set_due s (due_spot p) i ms) (due.list_due s (due_spot p) at i ms),
    )

-- an open object as a node
pub node-so : (c : Context) (u : Under) (a : Around) (hanging : Hanging) (h : Head) (at : ℕ) (n : Naming) (b : Bool) → IsPlainAround a → b ≡ false →
    due.node_by (due_at c u a hanging h) at n (stand_of a) b ≡ due.node_spot (term_of_node at n) (scope_of a at h.scope)
node-so c u document hanging h at n b plain e = ap (due.node_by (due_at c u document hanging h) at n (stand_of document)) e
node-so c u ordinary hanging h at n b plain e = ap (due.node_by (due_at c u ordinary hanging h) at n (stand_of ordinary)) e
node-so c u graphs hanging h at n b plain e = ap (due.node_by (due_at c u graphs hanging h) at n (stand_of graphs)) e
node-so c u (map_entry adds) hanging h at n b plain e = absurd plain
node-so c u (graph_map_entry adds) hanging h at n b plain e = absurd plain
