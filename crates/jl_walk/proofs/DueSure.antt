-- Where an accepted document goes on from what has been read, the events of this have put all that is due, and this is sure.
use Rattle.std.proofs.Common.{ℕ, ◌≡◌, refl, sym, ◌∙◌, ap, subst, List, [], ◌∷◌, ◌++◌}
use Rattle.jl_model.specs.JsonTree.{Tree, scalar, array, object, Trees, no_item, item, Members, no_member, member}
use Rattle.jl_defs.specs.Trees.{then_items, then_members}
use Rattle.jl_defs.specs.Faults.{faults}
use Rattle.jl_defs.specs.OpenTree.{Open, unread, in_scalar, in_array, in_object, in_key, in_member, whole, NextItem, Extends}
use Rattle.jl_laws.specs.Says.{says, root_spot}
use Rattle.jl_walk.specs.Stage.{document_forms}
use Rattle.jl_walk.specs.Feeding.{start}
use Rattle.jl_walk.specs.Events.{Event, opens_object, opens_array, closes, a_key, tree_events, items_events, members_events}
use Rattle.jl_walk.specs.States.{at}
use Rattle.jl_walk.specs.Running.{run}
use Rattle.jl_walk.specs.Laws.{Begins, brings, stopped}
use Rattle.jl_walk.specs.Due.{open_events, IsPrompt, PartsPrompt}
use Rattle.jl_walk.proofs.Parting.{no-cause, part-says}
use Rattle.jl_walk.proofs.DueOpen.{due-put}

-- ---- the first events of a tree

mutual
  unfolding tree_events

  tree-then : (t : Tree) (xs ys : List Event) → tree_events t (xs ++ ys) ≡ tree_events t xs ++ ys
  tree-then (scalar b v) xs ys = refl
  tree-then (array b zs) xs ys = ap (λ es. opens_array b ∷ es) (items-then zs (closes ∷ xs) ys)
  tree-then (object b ms) xs ys = ap (λ es. opens_object b ∷ es) (members-then ms (closes ∷ xs) ys)

  items-then : (zs : Trees) (xs ys : List Event) → items_events zs (xs ++ ys) ≡ items_events zs xs ++ ys
  items-then no_item xs ys = refl
  items-then (item x rest) xs ys = ap (tree_events x) (items-then rest xs ys) ∙ tree-then x (items_events rest xs) ys

  members-then : (ms : Members) (xs ys : List Event) → members_events ms (xs ++ ys) ≡ members_events ms xs ++ ys
  members-then no_member xs ys = refl
  members-then (member a n v rest) xs ys = ap (λ es. a_key a n ∷ es) (ap (tree_events v) (members-then rest xs ys) ∙ tree-then v (members_events rest xs) ys)

first-items : (xs rest : Trees) (more : List Event) → items_events (then_items xs rest) more ≡ items_events xs (items_events rest more)
unfolding tree_events
first-items no_item rest more = refl
first-items (item x xs) rest more = ap (tree_events x) (first-items xs rest more)

first-members : (ms rest : Members) (more : List Event) → members_events (then_members ms rest) more ≡ members_events ms (members_events rest more)
unfolding tree_events
first-members no_member rest more = refl
first-members (member a n v ms) rest more = ap (λ es. a_key a n ∷ tree_events v es) (first-members ms rest more)

-- the events of what has been read are the first of the tree's
abbrev pub AreFirst : Open → Tree → Type 0
AreFirst o t = (more : List Event) → (left : List Event) × (tree_events t more ≡ open_events o ++ left)

next-first : (next : Open) (rest : Trees) → NextItem next (Extends next) rest → ((x : Tree) → Extends next x → AreFirst next x) → (more : List Event) →
    (left : List Event) × (items_events rest more ≡ open_events next ++ left)
unfolding tree_events
next-first unread no_item x ih more = (more, refl)
next-first next no_item x ih more = absurd x
next-first next (item y rest) x ih more = ih y x (items_events rest more)

members-first : (b : ℕ) (ms rest : Members) → AreFirst (in_object b ms []) (object b (then_members ms rest))
unfolding tree_events
members-first b ms rest = λ more. (
  members_events rest (closes ∷ more),
  ap (λ es. opens_object b ∷ es) (first-members ms rest (closes ∷ more) ∙ members-then ms [] (members_events rest (closes ∷ more))),
)

pub open-first : (o : Open) (t : Tree) → Extends o t → AreFirst o t
unfolding Extends tree_events
open-first unread t x = λ more. (tree_events t more, refl)
open-first (in_scalar b first) t x = λ more. (tree_events t more, refl)
open-first (in_array b xs next) t (rest, q, x) = subst (AreFirst (in_array b xs next)) (sym q) (λ more.
    let r = next-first next rest x (λ y z. open-first next y z) (closes ∷ more) in
    (r.0, ap (λ es. opens_array b ∷ es) (first-items xs rest (closes ∷ more) ∙ (ap (items_events xs) r.1 ∙ items-then xs (open_events next) r.0))))
open-first (in_object b ms ends) t (rest, q) = subst (AreFirst (in_object b ms ends)) (sym q) (members-first b ms rest)
open-first (in_key b ms ends a) t (rest, q, x) = subst (AreFirst (in_key b ms ends a)) (sym q) (members-first b ms rest)
open-first (in_member b ms ends a n next) t (v, rest, q, x) = subst (AreFirst (in_member b ms ends a n next)) (sym q) (λ more.
    let r = open-first next v x (members_events rest (closes ∷ more)) in (
      r.0,
      ap (λ es. opens_object b ∷ es) (first-members ms (member a n v rest) (closes ∷ more)
          ∙ (ap (λ es. members_events ms (a_key a n ∷ es)) r.1 ∙ members-then ms (a_key a n ∷ open_events next) r.0)),
    ))
open-first (whole u) t x = subst (AreFirst (whole u)) x (λ more. (more, tree-then u [] more))

-- ---- what they have put

pub parts-prompt : PartsPrompt
parts-prompt s o t e x accepted built = by (part-says s t (open_events o) first.0 e first.1)
  where
    first : (left : List Event) × (tree_events t [] ≡ open_events o ++ left)
    first = open-first o t x []

    by : Begins (faults s t) (document_forms s t) (run s (open_events o) (at (start s))) (says s (root_spot s) t) → IsPrompt s o t
    by (brings q z r more) = let m = more accepted built in record { quads = q; state = z; goes = r; all_due = due-put s o t q z e x r; later = m.0; all_said = m.1 }
    by (stopped f b r) = absurd (no-cause (faults s t) (document_forms s t) f b accepted built)
