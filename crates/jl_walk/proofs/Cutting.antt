-- The events of a tree do what the tree does, whatever follows them. One induction, in which no form has a clause.
use Rattle.std.proofs.Common.{ℕ, ◌≡◌, refl, sym, ◌∙◌, ap, List, ◌∷◌, Option, Some, None, Err}
use Rattle.std.specs.Prelude.{Result}
use Rattle.jl_model.specs.JsonTree.{Tree, scalar, array, object, Trees, no_item, item, Members, no_member, member}
use Rattle.jl_model.specs.declared.codes.Code.TheVariants as code
use Rattle.jl_model.specs.declared.faults.Fault.{Fault}
use Rattle.jl_defs.specs.Texts.{Text}
use Rattle.jl_model.specs.declared.scalars.Scalar.{Scalar}
use Rattle.jl_model.specs.declared.orders.Order.TheVariants.{Streaming}
use Rattle.jl_defs.specs.Settings.{Settings}
use Rattle.jl_defs.specs.ObjectContexts.{fault}
use Rattle.jl_laws.specs.Spots.{Spot}
use Rattle.jl_walk.specs.Frames.{Frame}
use Rattle.jl_walk.specs.Steps.{then_goes}
use Rattle.jl_walk.specs.Opening.{Entering, enter_at, enter, open_array}
use Rattle.jl_walk.specs.Feeding.{decided, feed_members, feed, feed_items}
use Rattle.jl_walk.specs.Keys.{take_key}
use Rattle.jl_walk.specs.Scalars.{take_scalar}
use Rattle.jl_walk.specs.Ending.{close}
use Rattle.jl_walk.specs.Events.{Event, closes, tree_events, items_events, members_events}
use Rattle.jl_walk.specs.States.{at, Go, then_go, from}
use Rattle.jl_walk.specs.Running.{top_spot, opens, step, run}
use Rattle.jl_walk.proofs.Deciding.{Opens, opens-none, opens-member}
use Rattle.jl_walk.proofs.Goes.{before-none, from-then, from-same, then-settle}
use Rattle.jl_walk.proofs.HeldMembers.{then-same, after-none, and_then, enter-unasked, enter-top}
use Rattle.jl_walk.proofs.HeldPreludes.{LeadingMembers, leading-end, leading-member}
use Rattle.jl_walk.proofs.HeldRuns.{CutsMembers, cut-rest, RunningMembers, running-end, running-member}

abbrev pub Cuts : Settings → Tree → Type 0
Cuts s t = (k : List Frame) (es : List Event) → run s (tree_events t es) (at k) ≡ from (feed s t k) (λ l. run s es (at l))

abbrev pub CutsItems : Settings → Trees → Type 0
CutsItems s xs = (k : List Frame) (es : List Event) → run s (items_events xs es) (at k) ≡ from (feed_items s xs k) (λ l. run s es (at l))

pub cut-array : (s : Settings) (c : ℕ) (xs : Trees) → CutsItems s xs → Cuts s (array c xs)
unfolding run step tree_events feed
cut-array s c xs ci k es =
    then-settle (open_array c k) (run s (items_events xs (closes ∷ es)))
    ∙ (from-same (open_array c k) _ _ (λ l. ci l (closes ∷ es) ∙ (from-same (feed_items s xs l) _ _ (λ m. then-settle (close m) (run s es)) ∙ sym (from-then (feed_items s xs l) close (λ m. run s es (at m)))))
    ∙ sym (from-then (open_array c k) (λ l. then_goes (feed_items s xs l) close) (λ l. run s es (at l))))

pub cut-object : (s : Settings) (c : ℕ) (ms : Members) → CutsMembers s ms → Opens s ms → Cuts s (object c ms)
unfolding run step tree_events feed
cut-object s c ms cm hm k es = by (top_spot k) refl
  where
    g : List Frame → Go
    g l = run s es (at l)

    unasked : Spot → Result Entering Fault
    unasked p = Err (fault code.NotYet c)

    by : (o : Option Spot) → top_spot k ≡ o → then_go (opens c k o) (run s (members_events ms (closes ∷ es))) ≡ from (then_goes (enter c (decided s c ms) k) (λ l. then_goes (feed_members s ms l) close)) g
    by None e =
        then-settle (enter c unasked k) (run s (members_events ms (closes ∷ es)))
        ∙ (from-same (enter c unasked k) _ _ (λ l. cut-rest s ms cm l es ∙ sym (from-then (feed_members s ms l) close g))
        ∙ (sym (from-then (enter c unasked k) (λ l. then_goes (feed_members s ms l) close) g)
        ∙ ap (λ r. from (then_goes r (λ l. then_goes (feed_members s ms l) close)) g) (enter-unasked c unasked (decided s c ms) k e)))
    by (Some p) e =
        before-none _ ∙ (hm p c k es
        ∙ (ap (λ r. from r g) (then-same (enter_at p c (decided s c ms p) k) (and_then s no_member ms) (λ l. then_goes (feed_members s ms l) close) (λ l. after-none (then_goes (feed_members s ms l) close)))
        ∙ ap (λ r. from (then_goes r (λ l. then_goes (feed_members s ms l) close)) g) (sym (enter-top c (decided s c ms) k p e))))

pub cut-member : (s : Settings) (a : ℕ) (n : Text) (v : Tree) (rest : Members) → Cuts s v → CutsMembers s rest → CutsMembers s (member a n v rest)
unfolding run step tree_events feed
cut-member s a n v rest cv cm k es =
    then-settle (take_key a n k) (run s (tree_events v (members_events rest es)))
    ∙ (from-same (take_key a n k) _ _ (λ l. cv l (members_events rest es) ∙ (from-same (feed s v l) _ _ (λ m. cm m es) ∙ sym (from-then (feed s v l) (feed_members s rest) (λ m. run s es (at m)))))
    ∙ sym (from-then (take_key a n k) (λ l. then_goes (feed s v l) (feed_members s rest)) (λ l. run s es (at l))))

pub cut-item : (s : Settings) (x : Tree) (rest : Trees) → Cuts s x → CutsItems s rest → CutsItems s (item x rest)
unfolding tree_events feed
cut-item s x rest cx ci k es =
    cx k (items_events rest es) ∙ (from-same (feed s x k) _ _ (λ l. ci l es) ∙ sym (from-then (feed s x k) (feed_items s rest) (λ l. run s es (at l))))

pub no-members : (s : Settings) → CutsMembers s no_member
unfolding tree_events feed
no-members s k es = sym (before-none (run s es (at k)))

pub no-items : (s : Settings) → CutsItems s no_item
unfolding tree_events feed
no-items s k es = sym (before-none (run s es (at k)))

pub a-scalar : (s : Settings) (c : ℕ) (v : Scalar) → Cuts s (scalar c v)
unfolding run step tree_events feed
a-scalar s c v k es = then-settle (take_scalar s c v k) (run s es)

abbrev pub Held : Settings → Members → Type 0
Held s ms = CutsMembers s ms × RunningMembers s ms × LeadingMembers s ms × Opens s ms

mutual
  -- a tree's events do what the tree does, whatever frames are open and whatever follows
  pub cut-tree : (s : Settings) → s.order ≡ Streaming → (t : Tree) → Cuts s t
  cut-tree s e (scalar c v) = a-scalar s c v
  cut-tree s e (array c xs) = cut-array s c xs (cut-items s e xs)
  cut-tree s e (object c ms) = let all = cut-members s e ms in cut-object s c ms all.0 all.3

  pub cut-items : (s : Settings) → s.order ≡ Streaming → (xs : Trees) → CutsItems s xs
  cut-items s e no_item = no-items s
  cut-items s e (item x rest) = cut-item s x rest (cut-tree s e x) (cut-items s e rest)

  pub cut-members : (s : Settings) → s.order ≡ Streaming → (ms : Members) → Held s ms
  cut-members s e no_member = (no-members s, running-end s, leading-end s, opens-none s e)
  cut-members s e (member a n v rest) =
      let later = cut-members s e rest in
      let cm = cut-member s a n v rest (cut-tree s e v) later.0 in
      let la = leading-member s a n v rest cm later.1 later.2 in
      (cm, running-member s a n v rest cm later.1, la, opens-member s a n v rest e la)
