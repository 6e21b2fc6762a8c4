-- Each quad that is due by what has been read has been put.
use Rattle.std.proofs.Common.{ℕ, ◌≡◌, refl, sym, ◌∙◌, ap, subst, List, [], ◌∷◌, Option, Ok, arith}
use Rattle.jl_model.specs.JsonTree.{Tree, Trees, no_item, item}
use Rattle.jl_model.specs.Parts.{Parts}
use Rattle.jl_model.specs.declared.orders.Order.{Order}
use Rattle.jl_model.specs.declared.orders.Order.TheVariants.{Any, Streaming}
use Rattle.jl_defs.specs.Texts.{Text}
use Rattle.jl_defs.specs.Process.{Library}
use Rattle.jl_defs.specs.Settings.{Settings, inside_of}
use Rattle.jl_defs.specs.Expansion.{expand_all}
use Rattle.jl_defs.specs.Sets.{IsWithin, tally}
use Rattle.jl_defs.specs.OpenTree.{quote, brace, bracket, sign, Open, unread, in_scalar, in_array, in_object, in_key, in_member, whole, first_byte, NextItem, Extends}
use Rattle.jl_defs.specs.Due as due
use Rattle.jl_defs.specs.Due.{value_due}
use Rattle.jl_laws.specs.Spots.{Spot, stand_of, inside, moved}
use Rattle.jl_laws.specs.Says.{walk, walk_all, root_spot}
use Rattle.jl_laws.proofs.Counting.{le-within}
use Rattle.jl_laws.proofs.Equality.{parts_eq}
use Rattle.jl_laws.proofs.Frames.{says-dataset}
use Rattle.jl_walk.specs.Frames.{Frame, values}
use Rattle.jl_walk.specs.Opening.{open_array}
use Rattle.jl_walk.specs.Feeding.{feed, feed_items, start}
use Rattle.jl_walk.specs.Events.{Event, items_events}
use Rattle.jl_walk.specs.States.{at, Go, from}
use Rattle.jl_walk.specs.Running.{step, run}
use Rattle.jl_walk.specs.Closed.{BeginAs}
use Rattle.jl_walk.specs.Due.{open_events, DueIsPut}
use Rattle.jl_walk.proofs.Phases.{settings_of}
use Rattle.jl_walk.proofs.Goes.{before-none, then-settle}
use Rattle.jl_walk.proofs.Values.{array-at-spot, inside-plain, inside-twice}
use Rattle.jl_walk.proofs.Closing.{object-closes}
use Rattle.jl_walk.proofs.Walking.{trees-run, values-run}
use Rattle.jl_walk.proofs.Cutting.{cut-tree, cut-items}
use Rattle.jl_walk.proofs.Settling.{tree-begins}
use Rattle.jl_walk.proofs.DueSpots.{due_at, due_spot, all-stays, closed-due, all-due, item-so}
use Rattle.jl_walk.proofs.DueKeys.{Brings, brings-none, brings-before, brings-front, brings-same, brings-run, OpenBrings}
use Rattle.jl_walk.proofs.DueObjects.{object-brings, member-brings}

-- ---- values that have closed, and arrays

whole-brings : (s : Settings) → s.order ≡ Streaming → (t : Tree) → OpenBrings s (whole t)
unfolding value_due
whole-brings s e t f k p h plain hung =
    brings-same _ _ _ (cut-tree s e t (f ∷ k) [])
    (brings-run _ _ (feed s t (f ∷ k)) (walk s p t).0 _ (λ l. run s [] (at l)) _ (values-run s t f k p h plain)
    (λ a b. brings-front _ _ _ (λ w. omega (arith, closed-due w s p t plain.1 hung))))

array-brings : (s : Settings) → s.order ≡ Streaming → (b : ℕ) (xs : Trees) (next : Open) → OpenBrings s next → OpenBrings s (in_array b xs next)
unfolding value_due run step
array-brings s e b xs next ih f k p h plain hung =
    brings-same _ _ _
    (then-settle (open_array b (f ∷ k)) (run s (items_events xs es)) ∙ (ap (λ r. from r g) (array-at-spot b f k p h) ∙ (before-none (g (values q ∷ (f ∷ k))) ∙ cut-items s e xs (values q ∷ (f ∷ k)) es)))
    (brings-run _ _ (feed_items s xs (values q ∷ (f ∷ k))) (walk_all s q xs).0 (values its_item ∷ (f ∷ k)) (λ l. run s es (at l)) _
    (trees-run s (object-closes s) xs q (f ∷ k) (plain.0, inside-plain p.role.around plain.1) (inside-twice p.role.around))
    (λ x y. brings-before (walk_all s q xs).0 (run s es (at (values its_item ∷ (f ∷ k)))) closed (value_due s (due.item_spot (due_spot p) next) next)
    (λ w. omega (arith, all-due w s p xs plain.1 hung))
    (subst (λ z. Brings (run s es (at (values its_item ∷ (f ∷ k)))) (value_due s z next)) same
    (ih (values its_item) (f ∷ k) its_item refl (plain.0, inside-plain p.role.around plain.1) hung))))
  where
    q : Spot
    q = moved p (inside p.role.around) p.head

    es : List Event
    es = open_events next

    g : List Frame → Go
    g l = run s (items_events xs es) (at l)

    its_item : Spot
    its_item = moved q q.role.around (walk_all s q xs).1

    closed : List Parts
    closed = due.items_say (due_spot p) (expand_all s p.context p.under (inside_of (stand_of p.role.around)) xs)

    same : due_spot its_item ≡ due.item_spot (due_spot p) next
    same =
        ap (λ x. due_at p.context p.under (inside p.role.around) p.role.hanging x) (all-stays s q xs hung)
        ∙ sym (item-so p.context p.under p.role.around p.role.hanging p.head next plain.0)

-- the next item, where one has begun
next-brings : (s : Settings) (next : Open) (rest : Trees) → NextItem next (Extends next) rest → ((x : Tree) → Extends next x → OpenBrings s next) → OpenBrings s next
unfolding value_due
next-brings s unread no_item x ih = λ f k p h plain hung. brings-none _
next-brings s next no_item x ih = absurd x
next-brings s next (item y rest) x ih = ih y x

-- the events of an open value begin as its first byte tells
open-begins : (o : Open) (t : Tree) → Extends o t → BeginAs (first_byte o) (open_events o)
unfolding Extends
open-begins unread t x = tt
open-begins (in_scalar b quote) t x = tt
open-begins (in_scalar b sign) t x = tt
open-begins (in_scalar b bracket) t x = absurd x
open-begins (in_scalar b brace) t x = absurd x
open-begins (in_array b xs next) t x = tt
open-begins (in_object b ms ends) t x = tt
open-begins (in_key b ms ends a) t x = tt
open-begins (in_member b ms ends a n next) t x = tt
open-begins (whole v) t x = tree-begins v []

-- ---- whatever is open

open-brings : (base : Option Text) (library : Library) (o : Open) (t : Tree) → Extends o t → OpenBrings (settings_of Streaming base library) o
unfolding Extends value_due
open-brings base library unread t x = λ f k p h plain hung. brings-none _
open-brings base library (in_scalar b first) t x = λ f k p h plain hung. brings-none _
open-brings base library (in_array b xs next) t (rest, same, x) =
    let s = settings_of Streaming base library in
    array-brings s refl b xs next (next-brings s next rest x (λ y z. open-brings base library next y z))
open-brings base library (in_object b ms ends) t x = λ f k p h plain hung. object-brings base library b ms f k p h plain hung
open-brings base library (in_key b ms ends a) t x = λ f k p h plain hung. object-brings base library b ms f k p h plain hung
open-brings base library (in_member b ms ends a n next) t (v, rest, same, x) = member-brings base library b ms ends a n next (open-begins next v x) (open-brings base library next v x)
open-brings base library (whole v) t x = whole-brings (settings_of Streaming base library) refl v

root-due : (f : Parts → ℕ) (s : Settings) (o : Open) → tally f (due.due s o) ≡ tally f (value_due s (due_spot (root_spot s)) o)
unfolding due.due value_due
root-due f s (whole t) = sym (says-dataset f s t) ∙ sym (closed-due f s (root_spot s) t tt tt)
root-due f s unread = refl
root-due f s (in_scalar b first) = refl
root-due f s (in_array b xs next) = refl
root-due f s (in_object b ms ends) = refl
root-due f s (in_key b ms ends a) = refl
root-due f s (in_member b ms ends a n next) = refl

pub due-put : DueIsPut
due-put s o t quads z e x r = by s.order s.base s.library e r
  where
    by : (order : Order) (base : Option Text) (library : Library) → order ≡ Streaming →
        (let y = settings_of order base library in
        run y (open_events o) (at (start y)) ≡ Ok (quads, z) → IsWithin (due.due y o) quads)
    by Any base library e r = absurd cc
    by Streaming base library e r =
        let y = settings_of Streaming base library in
        let brings = open-brings base library o t x (values (root_spot y)) [] (root_spot y) refl (refl, tt) tt in
        le-within parts_eq (due.due y o) quads (λ f. omega (arith, root-due f y o, brings quads z r f))
