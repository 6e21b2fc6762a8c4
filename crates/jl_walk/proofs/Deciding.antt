-- An object that opens is decided by its events as by its members.
use Rattle.std.proofs.Common.{ℕ, ◌≡◌, refl, sym, ◌∙◌, ap, Bool, true, false, List, ◌∷◌, Option, Some, None, Ok, Err}
use Rattle.std.specs.Prelude.{Result, suc, ◌&&◌}
use Rattle.jl_model.specs.JsonTree.{Tree, Members, no_member, member}
use Rattle.jl_model.specs.declared.codes.Code.TheVariants as code
use Rattle.jl_model.specs.declared.faults.Fault.{Fault}
use Rattle.jl_defs.specs.Texts.{Text}
use Rattle.jl_defs.specs.Context.{Context}
use Rattle.jl_model.specs.declared.orders.Order.TheVariants.{Streaming}
use Rattle.jl_defs.specs.Settings.{Settings}
use Rattle.jl_defs.specs.ObjectContexts.{fault, Inside, Own, prelude_looks, is_in_prelude, is_context_name, first_context, after_context, candidates, own_context, looks_of, decide_by, decide}
use Rattle.jl_defs.specs.Rest.{prelude_of}
use Rattle.jl_laws.specs.Spots.{Spot, stand_of}
use Rattle.jl_walk.specs.Frames.{Frame}
use Rattle.jl_walk.specs.Stage.{unless_own}
use Rattle.jl_walk.specs.Feeding.{entering, decided, feed}
use Rattle.jl_walk.specs.Events.{Event, closes, a_key, tree_events, members_events}
use Rattle.jl_walk.specs.States.{Lead, at, leading, leading_key, Go, then_go, from, go, members_length}
use Rattle.jl_walk.specs.Running.{contexts_of, may_lead, ending_key, nothing_held, step, run}
use Rattle.jl_walk.specs.Phases.{Phase, at_start, in_lead, known, prelude_length, leading_length, first_phase}
use Rattle.jl_walk.proofs.HeldMembers.{lead}
use Rattle.jl_walk.proofs.HeldPreludes.{named_by, decided_from, LeadingMembers, leading-end}
use Rattle.jl_walk.proofs.HeldRuns.{whole}

abbrev pub streaming_contexts : Settings → Spot → ℕ → Members → Result Inside Fault
streaming_contexts s p b ms =
    decide_by s p.context p.under (stand_of p.role.around) b (first_context ms) (prelude_looks (contexts_of s p b ms) (after_context ms))

pub decide-streaming : (s : Settings) (p : Spot) (b : ℕ) (ms : Members) → s.order ≡ Streaming → decide s p.context p.under (stand_of p.role.around) b ms ≡ streaming_contexts s p b ms
unfolding decide
decide-streaming s p b ms e =
    ap (λ x. decide_by s p.context p.under (stand_of p.role.around) b (own_context x ms) (looks_of (record s { order = x }) p.context p.under (stand_of p.role.around) b ms)) e

pub phase-streaming : (s : Settings) (p : Spot) (b : ℕ) (ms : Members) → s.order ≡ Streaming → first_phase s p.context p.under (stand_of p.role.around) b ms ≡ at_start (leading_length (contexts_of s p b ms) ms)
phase-streaming s p b ms e = ap (λ x. first_phase (record s { order = x }) p.context p.under (stand_of p.role.around) b ms) e

pub entering-named : (ph : Phase) (r : Result Inside Fault) (ms : Members) → entering ph r ms ≡ named_by ph r (λ i. known i ph ms)
entering-named ph (Err f) ms = refl
entering-named ph (Ok i) ms = refl

-- it stops at its own context, or its prelude decides it and the members before the rest name it
pub decided-streaming : (s : Settings) (p : Spot) (b : ℕ) (ms : Members) → s.order ≡ Streaming →
    decided s b ms p ≡ unless_own (first_context ms) (named_by (at_start (leading_length (contexts_of s p b ms) ms)) (streaming_contexts s p b ms)
    (λ i. known i (at_start (leading_length (contexts_of s p b ms) ms)) ms))
decided-streaming s p b ms e =
    ap (λ x. unless_own (own_context x ms) (entering (first_phase s p.context p.under (stand_of p.role.around) b ms) (decide s p.context p.under (stand_of p.role.around) b ms) ms)) e
    ∙ ap (unless_own (first_context ms)) (ap (λ x. entering x (decide s p.context p.under (stand_of p.role.around) b ms) ms) (phase-streaming s p b ms e)
    ∙ (ap (λ x. entering (at_start (leading_length (contexts_of s p b ms) ms)) x ms) (decide-streaming s p b ms e)
    ∙ entering-named _ (streaming_contexts s p b ms) ms))

pub prelude-length : (cs : List Context) (ms : Members) → members_length (prelude_of cs ms) ≡ prelude_length cs ms
prelude-length cs no_member = refl
prelude-length cs (member a n v rest) = by (prelude-length cs rest) (is_in_prelude cs n v)
  where
    by : members_length (prelude_of cs rest) ≡ prelude_length cs rest → (b : Bool) →
        members_length (elim b [ true ↦ member a n v (prelude_of cs rest) | false ↦ no_member ]) ≡ elim b [ true ↦ suc (prelude_length cs rest) | false ↦ 0 ]
    by h true = ap suc h
    by h false = refl

-- its own context stands first, and isn't built
pub decided-own : (s : Settings) (p : Spot) (b : ℕ) (a : ℕ) (n : Text) (v : Tree) (rest : Members) → s.order ≡ Streaming → is_context_name n ≡ true →
    decided s b (member a n v rest) p ≡ Err (fault code.NotYet a)
decided-own s p b a n v rest e t =
    let ms = member a n v rest in
    decided-streaming s p b ms e
    ∙ ap (λ x. let own : Option Own = elim x [ true ↦ Some (record { at = a; local = v }) | false ↦ None ] in
    unless_own own (named_by (at_start (leading_length (contexts_of s p b ms) ms)) (streaming_contexts s p b ms)
    (λ i. known i (at_start (leading_length (contexts_of s p b ms) ms)) ms))) t

-- it has none, or one that is late
pub decided-none : (s : Settings) (p : Spot) (b : ℕ) (a : ℕ) (n : Text) (v : Tree) (rest : Members) → s.order ≡ Streaming → is_context_name n ≡ false →
    decided_from s p b no_member no_member (member a n v rest) ≡ decided s b (member a n v rest) p
decided-none s p b a n v rest e t =
    let cs = contexts_of s p b no_member in
    let ms = member a n v rest in
    ap (λ z. named_by (at_start z) (decide_by s p.context p.under (stand_of p.role.around) b None (prelude_looks cs ms)) (λ i. known i (in_lead (prelude_length cs ms)) ms)) (prelude-length cs ms)
    ∙ (ap (λ x. let own : Option Own = elim x [ true ↦ Some (record { at = a; local = v }) | false ↦ None ] in
    let ds = candidates s p.context p.under (stand_of p.role.around) b own in
    let len : ℕ = elim x [ true ↦ suc (prelude_length ds rest) | false ↦ prelude_length ds ms ] in
    unless_own own (named_by (at_start len) (decide_by s p.context p.under (stand_of p.role.around) b own (prelude_looks ds (elim x [ true ↦ rest | false ↦ ms ]))) (λ i. known i (at_start len) ms))) (sym t)
    ∙ sym (decided-streaming s p b ms e))

-- its events stop at it
pub context-stops : (s : Settings) (a : ℕ) (n : Text) (l : Lead) (es : List Event) → nothing_held l.first l.held ≡ true → is_context_name n ≡ true →
    run s (a_key a n ∷ es) (leading l) ≡ Err (fault code.NotYet a)
unfolding run step
context-stops s a n l es h t =
    ap (λ x. then_go (elim (x && is_context_name n) [
      | true ↦ Err (fault code.NotYet a)
      | false ↦ elim (may_lead (contexts_of s l.spot l.place l.first) n) [ true ↦ go (leading_key l a n) | false ↦ ending_key s l a n ]
    ]) (run s es)) h
    ∙ ap (λ x. then_go (elim x [
      | true ↦ Err (fault code.NotYet a)
      | false ↦ elim (may_lead (contexts_of s l.spot l.place l.first) n) [ true ↦ go (leading_key l a n) | false ↦ ending_key s l a n ]
    ]) (run s es)) t

abbrev pub Opens : Settings → Members → Type 0
Opens s ms =
    (p : Spot) (b : ℕ) (k : List Frame) (es : List Event) →
    run s (members_events ms (closes ∷ es)) (leading (lead p b no_member no_member k)) ≡ from (whole s p b (decided s b ms p) no_member ms k) (λ l. run s es (at l))

pub opens-none : (s : Settings) → s.order ≡ Streaming → Opens s no_member
opens-none s e p b k es =
    leading-end s p b no_member no_member k es tt ∙ ap (λ z. from (whole s p b z no_member no_member k) (λ l. run s es (at l))) (sym (decided-streaming s p b no_member e))

pub opens-member : (s : Settings) (a : ℕ) (n : Text) (v : Tree) (rest : Members) → s.order ≡ Streaming → LeadingMembers s (member a n v rest) → Opens s (member a n v rest)
unfolding run step tree_events feed
opens-member s a n v rest e la p b k es = by (is_context_name n) refl
  where
    ms : Members
    ms = member a n v rest

    g : List Frame → Go
    g l = run s es (at l)

    by : (x : Bool) → is_context_name n ≡ x → run s (members_events ms (closes ∷ es)) (leading (lead p b no_member no_member k)) ≡ from (whole s p b (decided s b ms p) no_member ms k) g
    by false t = la p b no_member no_member k es t ∙ ap (λ z. from (whole s p b z no_member ms k) g) (decided-none s p b a n v rest e t)
    by true t =
        context-stops s a n (lead p b no_member no_member k) (tree_events v (members_events rest (closes ∷ es))) refl t
        ∙ ap (λ z. from (whole s p b z no_member ms k) g) (sym (decided-own s p b a n v rest e t))
