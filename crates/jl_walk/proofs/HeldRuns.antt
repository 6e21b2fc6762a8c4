-- The second run of an object that is held: it is named by what is held, and by what is still known.
use Rattle.std.proofs.Common.{ℕ, ◌≡◌, refl, sym, ◌∙◌, ap, true, false, List, ◌∷◌, Ok}
use Rattle.std.specs.Prelude.{Result}
use Rattle.jl_model.specs.JsonTree.{Tree, Members, no_member, member}
use Rattle.jl_model.specs.declared.faults.Fault.{Fault}
use Rattle.jl_defs.specs.Texts.{Text}
use Rattle.jl_defs.specs.Trees.{then_members}
use Rattle.jl_defs.specs.Settings.{Settings}
use Rattle.jl_defs.specs.ObjectContexts.{Inside}
use Rattle.jl_laws.specs.Spots.{Spot}
use Rattle.jl_walk.specs.Frames.{Frame}
use Rattle.jl_walk.specs.Steps.{Step, then_goes}
use Rattle.jl_walk.specs.Opening.{Entering, enter_at}
use Rattle.jl_walk.specs.Feeding.{entering_as, feed_members, feed}
use Rattle.jl_walk.specs.Keys.{take_key}
use Rattle.jl_walk.specs.Ending.{close}
use Rattle.jl_walk.specs.Events.{Event, closes, tree_events, members_events}
use Rattle.jl_walk.specs.States.{at, running, running_key, Go, then_go, from, settle, go, held_with}
use Rattle.jl_walk.specs.Running.{settles, run_key, step, run}
use Rattle.jl_walk.specs.Phases.{Phase, any_time, at_start, in_lead, in_run, in_rest, follow, past, is_rest, known}
use Rattle.jl_walk.proofs.Goes.{before-none, from-then, from-same, then-settle}
use Rattle.jl_walk.proofs.HeldMembers.{second, then-same, held-more, held-none, and_then, held-one}
use Rattle.jl_walk.proofs.HeldValues.{Takes, build-tree}

abbrev pub ended_by : Settings → List Event → List Frame → Go
ended_by s es m = from (close m) (λ l. run s es (at l))

-- it enters, what was held is fed, then what follows, and it closes
abbrev pub whole : Settings → Spot → ℕ → Result Entering Fault → Members → Members → List Frame → Step
whole s p b e hs ms k = then_goes (enter_at p b e k) (and_then s hs ms)

pub settled-goes : (s : Settings) (p : Spot) (b : ℕ) (st : Phase) (i : Inside) (hs ms : Members) (k : List Frame) (es : List Event) (x : List Frame → Go) →
    ((l : List Frame) → x l ≡ from (feed_members s ms l) (ended_by s es)) → from (settles s (second p b st i (in_lead 0) hs k)) x ≡ from (whole s p b (Ok (entering_as st i hs)) hs ms k) (λ l. run s es (at l))
settled-goes s p b st i hs ms k es x h =
    let e = enter_at p b (Ok (entering_as st i hs)) k in
    let g : List Frame → Go = λ l. run s es (at l) in
    from-then e (feed_members s hs) x
    ∙ (from-same e _ _ (λ l. from-same (feed_members s hs l) x (λ m. from (then_goes (feed_members s ms m) close) g) (λ m. h m ∙ sym (from-then (feed_members s ms m) close g))
    ∙ sym (from-then (feed_members s hs l) (λ m. then_goes (feed_members s ms m) close) g))
    ∙ sym (from-then e (and_then s hs ms) g))

abbrev pub CutsMembers : Settings → Members → Type 0
CutsMembers s ms = (k : List Frame) (es : List Event) → run s (members_events ms es) (at k) ≡ from (feed_members s ms k) (λ l. run s es (at l))

-- the members after those held, up to the end
pub cut-rest : (s : Settings) (ms : Members) → CutsMembers s ms → (l : List Frame) (es : List Event) → run s (members_events ms (closes ∷ es)) (at l) ≡ from (feed_members s ms l) (ended_by s es)
unfolding run step
cut-rest s ms c l es = c l (closes ∷ es) ∙ from-same (feed_members s ms l) _ _ (λ m. then-settle (close m) (run s es))

-- in the second run: it is named by what is held and what is still known
abbrev pub RunningMembers : Settings → Members → Type 0
RunningMembers s ms =
    (p : Spot) (b : ℕ) (st : Phase) (i : Inside) (ph : Phase) (hs : Members) (k : List Frame) (es : List Event) →
    run s (members_events ms (closes ∷ es)) (running (second p b st i ph hs k))
    ≡ from (whole s p b (Ok (entering_as st i (then_members hs (known i ph ms)))) hs ms k) (λ l. run s es (at l))

-- the object closes with all its members held
pub end-goes : (s : Settings) (p : Spot) (b : ℕ) (st : Phase) (i : Inside) (hs : Members) (k : List Frame) (es : List Event) →
    then_go (settle (then_goes (settles s (second p b st i (in_lead 0) hs k)) close)) (run s es) ≡ from (whole s p b (Ok (entering_as st i (then_members hs no_member))) hs no_member k) (λ l. run s es (at l))
unfolding feed
end-goes s p b st i hs k es =
    then-settle (then_goes (settles s (second p b st i (in_lead 0) hs k)) close) (run s es)
    ∙ (from-then (settles s (second p b st i (in_lead 0) hs k)) close (λ l. run s es (at l))
    ∙ (settled-goes s p b st i hs no_member k es (ended_by s es) (λ l. sym (before-none (ended_by s es l)))
    ∙ ap (λ x. from (whole s p b (Ok (entering_as st i x)) hs no_member k) (λ l. run s es (at l))) (sym (held-none hs))))

pub running-end : (s : Settings) → RunningMembers s no_member
unfolding run step tree_events
running-end s p b st i ph hs k es = end-goes s p b st i hs k es

pub run-takes : (s : Settings) (p : Spot) (b : ℕ) (st : Phase) (i : Inside) (ph : Phase) (hs : Members) (a : ℕ) (n : Text) (k : List Frame) →
    Takes s (running_key (second p b st i ph hs k) a n) (λ v. running (second p b st i (past ph i n v) (held_with hs a n v) k))
unfolding step
run-takes s p b st i ph hs a n k e h = refl

-- a key after the prelude, its value and what follows
pub run-key-goes : (s : Settings) (a : ℕ) (n : Text) (v : Tree) (rest : Members) → CutsMembers s (member a n v rest) → RunningMembers s rest →
    (p : Spot) (b : ℕ) (st : Phase) (i : Inside) (ph : Phase) (hs : Members) (k : List Frame) (es : List Event) →
    then_go (run_key s (second p b st i ph hs k) a n) (run s (tree_events v (members_events rest (closes ∷ es))))
    ≡ from (whole s p b (Ok (entering_as st i (then_members hs (known i ph (member a n v rest))))) hs (member a n v rest) k) (λ l. run s es (at l))
unfolding run step tree_events
run-key-goes s a n v rest cm rm p b st i ph hs k es = by (follow ph i n)
  where
    g : List Frame → Go
    g l = run s es (at l)

    more : List Event
    more = tree_events v (members_events rest (closes ∷ es))

    in-run : (x : Phase) →
        then_go (go (running_key (second p b st i x hs k) a n)) (run s more)
        ≡ from (whole s p b (Ok (entering_as st i (then_members hs (member a n v (known i (past x i n v) rest))))) hs (member a n v rest) k) g
    in-run x =
        before-none _
        ∙ (build-tree s v (running_key (second p b st i x hs k) a n) (λ w. running (second p b st i (past x i n w) (held_with hs a n w) k)) (members_events rest (closes ∷ es)) (run-takes s p b st i x hs a n k)
        ∙ (rm p b st i (past x i n v) (held_with hs a n v) k es
        ∙ (ap (λ z. from (whole s p b (Ok (entering_as st i z)) (held_with hs a n v) rest k) g) (held-more hs a n v (known i (past x i n v) rest))
        ∙ ap (λ r. from r g) (then-same (enter_at p b (Ok (entering_as st i (then_members hs (member a n v (known i (past x i n v) rest))))) k) _ _ (λ l. held-one s hs a n v rest l)))))

    in-the-rest : then_go (settle (then_goes (settles s (second p b st i (in_lead 0) hs k)) (take_key a n))) (run s more)
        ≡ from (whole s p b (Ok (entering_as st i (then_members hs no_member))) hs (member a n v rest) k) g
    in-the-rest =
        then-settle (then_goes (settles s (second p b st i (in_lead 0) hs k)) (take_key a n)) (run s more)
        ∙ (from-then (settles s (second p b st i (in_lead 0) hs k)) (take_key a n) (λ l. run s more (at l))
        ∙ (settled-goes s p b st i hs (member a n v rest) k es _ (λ l. sym (then-settle (take_key a n l) (run s more)) ∙ cut-rest s (member a n v rest) cm l es)
        ∙ ap (λ x. from (whole s p b (Ok (entering_as st i x)) hs (member a n v rest) k) g) (sym (held-none hs))))

    by : (x : Phase) →
        then_go (elim (is_rest x) [ true ↦ settle (then_goes (settles s (second p b st i (in_lead 0) hs k)) (take_key a n)) | false ↦ go (running_key (second p b st i x hs k) a n) ]) (run s more)
        ≡ from (whole s p b (Ok (entering_as st i (then_members hs (elim (is_rest x) [ true ↦ no_member | false ↦ member a n v (known i (past x i n v) rest) ])))) hs (member a n v rest) k) g
    by in_rest = in-the-rest
    by any_time = in-run any_time
    by (at_start left) = in-run (at_start left)
    by (in_lead left) = in-run (in_lead left)
    by in_run = in-run in_run

pub running-member : (s : Settings) (a : ℕ) (n : Text) (v : Tree) (rest : Members) → CutsMembers s (member a n v rest) → RunningMembers s rest → RunningMembers s (member a n v rest)
unfolding run step tree_events
running-member s a n v rest cm rm p b st i ph hs k es = run-key-goes s a n v rest cm rm p b st i ph hs k es
