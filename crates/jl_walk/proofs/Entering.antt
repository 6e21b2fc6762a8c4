-- An object whose contexts are decided enters at the key that begins its rest.
use Rattle.std.proofs.Common.{ℕ, ◌≡◌, sym, ◌∙◌, ap, true, false, List, ◌∷◌, Ok}
use Rattle.jl_model.specs.JsonTree.{Tree, Members, no_member, member}
use Rattle.jl_model.specs.declared.orders.Order.TheVariants.{Streaming}
use Rattle.jl_defs.specs.Texts.{Text}
use Rattle.jl_defs.specs.Trees.{then_members}
use Rattle.jl_defs.specs.Settings.{Settings}
use Rattle.jl_defs.specs.ObjectContexts.{Inside}
use Rattle.jl_laws.specs.Spots.{Spot}
use Rattle.jl_walk.specs.Phases.{Phase, any_time, at_start, in_lead, in_run, in_rest, follow, past, is_rest, known}
use Rattle.jl_walk.specs.Frames.{Frame}
use Rattle.jl_walk.specs.Steps.{then_goes, Step}
use Rattle.jl_walk.specs.Feeding.{entering_as, feed_members, feed}
use Rattle.jl_walk.specs.Opening.{enter_at}
use Rattle.jl_walk.specs.Keys.{take_key}
use Rattle.jl_walk.specs.Events.{Event, a_key, tree_events, members_events}
use Rattle.jl_walk.specs.States.{at, running, running_key, Go, then_go, from, settle, go, held_with, Second}
use Rattle.jl_walk.specs.Running.{settles, step, run}
use Rattle.jl_walk.proofs.Goes.{before-none, then-settle, from-then, from-same}
use Rattle.jl_walk.proofs.HeldMembers.{then-same, members-both, held-more, held-none, second}
use Rattle.jl_walk.proofs.HeldValues.{build-tree}
use Rattle.jl_walk.proofs.HeldRuns.{run-takes, CutsMembers}
use Rattle.jl_walk.proofs.Cutting.{cut-members}
use Rattle.std.specs.Prelude.{◌≡◌, ℕ, Bool, true, false, List, ◌∷◌, Ok}

-- the rest has begun among these members, or it begins with the next key
abbrev pub rest_begun : Inside → Phase → Members → Text → Bool
rest_begun i ph no_member n = is_rest (follow ph i n)
rest_begun i ph (member b m w rest) n =
    elim (is_rest (follow ph i m)) [ true ↦ true | false ↦ rest_begun i (past (follow ph i m) i m w) rest n ]

-- an object that was held enters, named by these members; what was held is fed, and then more
abbrev pub entered_with : Settings → Second → Members → Members → Step
entered_with s r names ms =
    then_goes (enter_at r.spot r.place (Ok (entering_as r.start r.inside names)) r.frames)
    (λ l. then_goes (feed_members s r.held l) (feed_members s ms))

-- an object in its second run has entered once its rest has begun, at the key, whatever follows
abbrev pub RunEnters : Type 0
RunEnters =
    (s : Settings) (ms : Members) (r : Second) (a : ℕ) (n : Text) (es : List Event) → s.order ≡ Streaming →
    rest_begun r.inside r.phase ms n ≡ true →
    run s (members_events ms (a_key a n ∷ es)) (running r)
    ≡ from (entered_with s r (then_members r.held (known r.inside r.phase ms)) ms) (λ l. run s (a_key a n ∷ es) (at l))

abbrev pub next_key : Settings → ℕ → Text → List Event → List Frame → Go
next_key s a n es l = run s (a_key a n ∷ es) (at l)

enters-goes : (s : Settings) (p : Spot) (b : ℕ) (st : Phase) (i : Inside) (hs ms : Members) (k : List Frame) (x g : List Frame → Go) →
    ((l : List Frame) → x l ≡ from (feed_members s ms l) g) → from (settles s (second p b st i (in_lead 0) hs k)) x ≡ from (entered_with s (second p b st i (in_lead 0) hs k) hs ms) g
enters-goes s p b st i hs ms k x g h =
    let e = enter_at p b (Ok (entering_as st i hs)) k in
    from-then e (feed_members s hs) x
    ∙ (from-same e _ _ (λ l. from-same (feed_members s hs l) x (λ m. from (feed_members s ms m) g) h ∙ sym (from-then (feed_members s hs l) (feed_members s ms) g))
    ∙ sym (from-then e (λ l. then_goes (feed_members s hs l) (feed_members s ms)) g))

-- a key of the rest is read where the object has entered
key-enters : (s : Settings) (p : Spot) (b : ℕ) (st : Phase) (i : Inside) (hs : Members) (k : List Frame) (a : ℕ) (n : Text) (es : List Event) →
    then_go (settle (then_goes (settles s (second p b st i (in_lead 0) hs k)) (take_key a n))) (run s es) ≡ from (settles s (second p b st i (in_lead 0) hs k)) (next_key s a n es)
unfolding run step
key-enters s p b st i hs k a n es =
    then-settle (then_goes (settles s (second p b st i (in_lead 0) hs k)) (take_key a n)) (run s es)
    ∙ (from-then (settles s (second p b st i (in_lead 0) hs k)) (take_key a n) (λ l. run s es (at l))
    ∙ from-same (settles s (second p b st i (in_lead 0) hs k)) _ _ (λ l. sym (then-settle (take_key a n l) (run s es))))

pub fed-one : (s : Settings) (hs : Members) (b : ℕ) (m : Text) (w : Tree) (rest : Members) (l : List Frame) →
    then_goes (feed_members s (held_with hs b m w) l) (feed_members s rest) ≡ then_goes (feed_members s hs l) (feed_members s (member b m w rest))
fed-one s hs b m w rest l =
    sym (members-both s (held_with hs b m w) rest l)
    ∙ (ap (λ z. feed_members s z l) (held-more hs b m w rest) ∙ members-both s hs (member b m w rest) l)

abbrev pub Enters : Settings → Members → Type 0
Enters s ms =
    (p : Spot) (b : ℕ) (st : Phase) (i : Inside) (ph : Phase) (hs : Members) (k : List Frame) (a : ℕ) (n : Text) (es : List Event) → rest_begun i ph ms n ≡ true →
    run s (members_events ms (a_key a n ∷ es)) (running (second p b st i ph hs k))
    ≡ from (entered_with s (second p b st i (in_lead 0) hs k) (then_members hs (known i ph ms)) ms) (next_key s a n es)

enters-end : (s : Settings) → Enters s no_member
unfolding run step tree_events feed
enters-end s p b st i ph hs k a n es h =
    ap (λ x. then_go (elim x [ true ↦ settle (then_goes (settles s (second p b st i (in_lead 0) hs k)) (take_key a n)) | false ↦ go (running_key (second p b st i (follow ph i n) hs k) a n) ]) (run s es)) h
    ∙ (key-enters s p b st i hs k a n es
    ∙ (enters-goes s p b st i hs no_member k (next_key s a n es) (next_key s a n es) (λ l. sym (before-none (next_key s a n es l)))
    ∙ ap (λ x. from (entered_with s (second p b st i (in_lead 0) hs k) x no_member) (next_key s a n es)) (sym (held-none hs))))

enters-member : (s : Settings) (c : ℕ) (m : Text) (w : Tree) (rest : Members) → CutsMembers s (member c m w rest) → Enters s rest → Enters s (member c m w rest)
unfolding run step tree_events
enters-member s c m w rest cm er p b st i ph hs k a n es h = by (follow ph i m) h
  where
    g : List Frame → Go
    g = next_key s a n es

    more : List Event
    more = tree_events w (members_events rest (a_key a n ∷ es))

    still : (x : Phase) → rest_begun i (past x i m w) rest n ≡ true →
        then_go (go (running_key (second p b st i x hs k) c m)) (run s more)
        ≡ from (entered_with s (second p b st i (in_lead 0) hs k) (then_members hs (member c m w (known i (past x i m w) rest))) (member c m w rest)) g
    still x h =
        before-none _
        ∙ (build-tree s w (running_key (second p b st i x hs k) c m) (λ v. running (second p b st i (past x i m v) (held_with hs c m v) k)) (members_events rest (a_key a n ∷ es)) (run-takes s p b st i x hs c m k)
        ∙ (er p b st i (past x i m w) (held_with hs c m w) k a n es h
        ∙ (ap (λ z. from (entered_with s (second p b st i (in_lead 0) (held_with hs c m w) k) z rest) g) (held-more hs c m w (known i (past x i m w) rest))
        ∙ ap (λ r. from r g) (then-same (enter_at p b (Ok (entering_as st i (then_members hs (member c m w (known i (past x i m w) rest))))) k) _ _ (λ l. fed-one s hs c m w rest l)))))

    by : (x : Phase) → elim (is_rest x) [ true ↦ true | false ↦ rest_begun i (past x i m w) rest n ] ≡ true →
        then_go (elim (is_rest x) [ true ↦ settle (then_goes (settles s (second p b st i (in_lead 0) hs k)) (take_key c m)) | false ↦ go (running_key (second p b st i x hs k) c m) ]) (run s more)
        ≡ from (entered_with s (second p b st i (in_lead 0) hs k) (then_members hs (elim (is_rest x) [ true ↦ no_member | false ↦ member c m w (known i (past x i m w) rest) ])) (member c m w rest)) g
    by in_rest h =
        key-enters s p b st i hs k c m more
        ∙ (enters-goes s p b st i hs (member c m w rest) k (next_key s c m more) g (λ l. cm l (a_key a n ∷ es))
        ∙ ap (λ x. from (entered_with s (second p b st i (in_lead 0) hs k) x (member c m w rest)) g) (sym (held-none hs)))
    by any_time h = still any_time h
    by (at_start left) h = still (at_start left) h
    by (in_lead left) h = still (in_lead left) h
    by in_run h = still in_run h

pub enters : (s : Settings) → s.order ≡ Streaming → (ms : Members) → Enters s ms
enters s e no_member = enters-end s
enters s e (member c m w rest) = enters-member s c m w rest ((cut-members s e (member c m w rest)).0) (enters s e rest)

pub run-enters : RunEnters
run-enters s ms r a n es e h = enters s e ms r.spot r.place r.start r.inside r.phase r.held r.frames a n es h
