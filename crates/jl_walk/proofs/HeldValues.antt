-- A value that is held whole.
use Rattle.std.proofs.Common.{ℕ, ◌≡◌, refl, sym, ◌∙◌, ap, List, ◌∷◌}
use Rattle.jl_model.specs.JsonTree.{Tree, scalar, array, object, Trees, no_item, item, Members, no_member, member}
use Rattle.jl_defs.specs.Texts.{Text}
use Rattle.jl_model.specs.declared.scalars.Scalar.{Scalar}
use Rattle.jl_defs.specs.Trees.{then_members}
use Rattle.jl_defs.specs.Settings.{Settings}
use Rattle.jl_walk.specs.Events.{Event, opens_object, opens_array, closes, a_key, a_scalar, tree_events, items_events, members_events}
use Rattle.jl_walk.specs.States.{State, in_items, in_members, in_member, then_go, held_with, add_item}
use Rattle.jl_walk.specs.Running.{takes, step, run}
use Rattle.jl_walk.proofs.Goes.{before-none}
use Rattle.jl_walk.proofs.HeldMembers.{held-more, held-none}

abbrev pub then_items : Trees → Trees → Trees
then_items no_item ys = ys
then_items (item x rest) ys = item x (then_items rest ys)

pub add-more : (xs : Trees) (t : Tree) (ys : Trees) → then_items (add_item xs t) ys ≡ then_items xs (item t ys)
add-more no_item t ys = refl
add-more (item x rest) t ys = ap (λ z. item x z) (add-more rest t ys)

pub add-none : (xs : Trees) → then_items xs no_item ≡ xs
add-none no_item = refl
add-none (item x rest) = ap (λ z. item x z) (add-none rest)

abbrev pub IsValue : Event → Type 0
IsValue (a_scalar b v) = Unit {0}
IsValue (opens_array b) = Unit {0}
IsValue (opens_object b) = Unit {0}
IsValue closes = ⊥
IsValue (a_key a n) = ⊥

-- a state in which a value is taken whole
abbrev pub Takes : Settings → State → (Tree → State) → Type 0
Takes s z back = (e : Event) → IsValue e → step s e z ≡ takes e back

abbrev pub Builds : Settings → Tree → Type 0
Builds s t = (z : State) (back : Tree → State) (es : List Event) → Takes s z back → run s (tree_events t es) z ≡ run s es (back t)

abbrev pub BuildsItems : Settings → Trees → Type 0
BuildsItems s xs = (b : ℕ) (ys : Trees) (back : Tree → State) (es : List Event) → run s (items_events xs (closes ∷ es)) (in_items b ys back) ≡ run s es (back (array b (then_items ys xs)))

abbrev pub BuildsMembers : Settings → Members → Type 0
BuildsMembers s ms = (b : ℕ) (hs : Members) (back : Tree → State) (es : List Event) → run s (members_events ms (closes ∷ es)) (in_members b hs back) ≡ run s es (back (object b (then_members hs ms)))

pub items-take : (s : Settings) (b : ℕ) (ys : Trees) (back : Tree → State) → Takes s (in_items b ys back) (λ t. in_items b (add_item ys t) back)
unfolding step
items-take s b ys back (a_scalar c v) h = refl
items-take s b ys back (opens_array c) h = refl
items-take s b ys back (opens_object c) h = refl
items-take s b ys back closes h = absurd h
items-take s b ys back (a_key a n) h = absurd h

pub member-takes : (s : Settings) (b : ℕ) (ms : Members) (a : ℕ) (n : Text) (back : Tree → State) → Takes s (in_member b ms a n back) (λ t. in_members b (held_with ms a n t) back)
unfolding step
member-takes s b ms a n back e h = refl

pub build-scalar : (s : Settings) (c : ℕ) (v : Scalar) → Builds s (scalar c v)
unfolding run tree_events
build-scalar s c v z back es h = ap (λ x. then_go x (run s es)) (h (a_scalar c v) tt) ∙ before-none _

pub build-array : (s : Settings) (c : ℕ) (xs : Trees) → BuildsItems s xs → Builds s (array c xs)
unfolding run tree_events
build-array s c xs bi z back es h =
    ap (λ x. then_go x (run s (items_events xs (closes ∷ es)))) (h (opens_array c) tt) ∙ (before-none _ ∙ bi c no_item back es)

pub build-object : (s : Settings) (c : ℕ) (ms : Members) → BuildsMembers s ms → Builds s (object c ms)
unfolding run tree_events
build-object s c ms bm z back es h =
    ap (λ x. then_go x (run s (members_events ms (closes ∷ es)))) (h (opens_object c) tt) ∙ (before-none _ ∙ bm c no_member back es)

pub build-no-item : (s : Settings) → BuildsItems s no_item
unfolding run step tree_events
build-no-item s b ys back es = before-none _ ∙ ap (λ z. run s es (back (array b z))) (sym (add-none ys))

pub build-item : (s : Settings) (x : Tree) (rest : Trees) → Builds s x → BuildsItems s rest → BuildsItems s (item x rest)
unfolding tree_events
build-item s x rest bx bi b ys back es =
    bx (in_items b ys back) (λ t. in_items b (add_item ys t) back) (items_events rest (closes ∷ es)) (items-take s b ys back)
    ∙ (bi b (add_item ys x) back es ∙ ap (λ z. run s es (back (array b z))) (add-more ys x rest))

pub build-no-member : (s : Settings) → BuildsMembers s no_member
unfolding run step tree_events
build-no-member s b hs back es = before-none _ ∙ ap (λ z. run s es (back (object b z))) (sym (held-none hs))

pub build-member : (s : Settings) (a : ℕ) (n : Text) (v : Tree) (rest : Members) → Builds s v → BuildsMembers s rest → BuildsMembers s (member a n v rest)
unfolding run step tree_events
build-member s a n v rest bv bm b hs back es =
    before-none _
    ∙ (bv (in_member b hs a n back) (λ t. in_members b (held_with hs a n t) back) (members_events rest (closes ∷ es)) (member-takes s b hs a n back)
    ∙ (bm b (held_with hs a n v) back es ∙ ap (λ z. run s es (back (object b z))) (held-more hs a n v rest)))

mutual
  pub build-tree : (s : Settings) (t : Tree) → Builds s t
  build-tree s (scalar c v) = build-scalar s c v
  build-tree s (array c xs) = build-array s c xs (build-items s xs)
  build-tree s (object c ms) = build-object s c ms (build-members s ms)

  pub build-items : (s : Settings) (xs : Trees) → BuildsItems s xs
  build-items s no_item = build-no-item s
  build-items s (item x rest) = build-item s x rest (build-tree s x) (build-items s rest)

  pub build-members : (s : Settings) (ms : Members) → BuildsMembers s ms
  build-members s no_member = build-no-member s
  build-members s (member a n v rest) = build-member s a n v rest (build-tree s v) (build-members s rest)
