-- An object in its prelude enters at the key that begins its rest.
use Rattle.std.proofs.Common.{ℕ, ◌≡◌, refl, sym, ◌∙◌, ap, Bool, true, false, ◌&&◌, List, [], ◌∷◌, Ok, Err}
use Rattle.std.specs.Prelude.{Result, suc, ◌≡◌, ℕ, Bool, true, false, ◌&&◌, List, [], ◌∷◌, Ok, Err}
use Rattle.jl_model.specs.JsonTree.{Tree, Members, no_member, member}
use Rattle.jl_model.specs.declared.codes.Code.TheVariants as code
use Rattle.jl_model.specs.declared.faults.Fault.{Fault}
use Rattle.jl_model.specs.declared.orders.Order.TheVariants.{Streaming}
use Rattle.jl_defs.specs.Texts.{Text}
use Rattle.jl_defs.specs.Trees.{then_members}
use Rattle.jl_defs.specs.Context.{Context}
use Rattle.jl_defs.specs.Settings.{Settings}
use Rattle.jl_defs.specs.ObjectContexts.{fault, Inside, look_at, look_at_key, first_context, is_context_name, is_in_prelude, decide_by, Look}
use Rattle.jl_defs.specs.Rest.{prelude_of}
use Rattle.jl_laws.specs.Spots.{Spot, stand_of}
use Rattle.jl_walk.specs.Phases.{Phase, at_start, in_lead, known, prelude_length}
use Rattle.jl_walk.specs.Frames.{Frame}
use Rattle.jl_walk.specs.Opening.{enter_at}
use Rattle.jl_walk.specs.Feeding.{entering_as}
use Rattle.jl_walk.specs.Events.{Event, a_key, tree_events, members_events}
use Rattle.jl_walk.specs.States.{at, leading, leading_key, Go, then_go, from, go, members_length, held_with, Lead}
use Rattle.jl_walk.specs.Running.{contexts_of, may_lead, contexts_by, if_decided, run_key, ending_key, second_of, nothing_held, step, run}
use Rattle.jl_walk.proofs.HeldMembers.{lead, second, then-same, held-more, held-none}
use Rattle.jl_walk.proofs.HeldPreludes.{members-assoc, held-nothing, looks-more, leads-by}
use Rattle.jl_defs.specs.ObjectContexts.{after_prelude}
use Rattle.jl_defs.specs.Settled.{is_some_member}
use Rattle.jl_walk.proofs.Entering.{next_key, fed-one, Enters, enters, rest_begun, entered_with}

-- the same of an object in its prelude: the prelude ends among these members or with the next key, and then the rest begins
abbrev pub lead_begun : List Context → Inside → Members → Text → Bool
lead_begun cs i no_member n = rest_begun i (in_lead 0) no_member n
lead_begun cs i (member b m w rest) n =
    elim (is_in_prelude cs m w) [ true ↦ lead_begun cs i rest n | false ↦ rest_begun i (in_lead 0) (member b m w rest) n ]

-- what its prelude shows, of these members and of the next key
abbrev pub looks_until : List Context → Members → Text → List Look
looks_until cs no_member n = look_at_key n ∷ []
looks_until cs (member b m w rest) n =
    elim (is_in_prelude cs m w) [ true ↦ look_at m w ∷ looks_until cs rest n | false ↦ look_at_key m ∷ [] ]

-- the next member isn't a context that stands first
abbrev pub NotFirst : Lead → Members → Text → Type 0
NotFirst l no_member n = (nothing_held l.first l.held && is_context_name n) ≡ false
NotFirst l (member b m w rest) n = (nothing_held l.first l.held && is_context_name m) ≡ false

-- its contexts are decided on the way
abbrev pub decided_on_the_way : Settings → Lead → Members → Text → Result Inside Fault
decided_on_the_way s l ms n =
    contexts_by s l.spot l.place l.first l.held (looks_until (contexts_of s l.spot l.place l.first) ms n)

-- it enters by all members that lead
abbrev pub lead_start : Settings → Lead → Members → Phase
lead_start s l ms =
    at_start (members_length (then_members (then_members l.first l.held)
    (prelude_of (contexts_of s l.spot l.place l.first) ms)))

-- and is named by those before its rest
abbrev pub lead_names : Settings → Lead → Inside → Members → Members
lead_names s l i ms =
    then_members (then_members l.first l.held)
    (known i (in_lead (prelude_length (contexts_of s l.spot l.place l.first) ms)) ms)

-- the next key ends the prelude, where the prelude hasn't ended before it
abbrev pub KeyEnds : Settings → Spot → ℕ → Members → List Frame → Members → ℕ → Text → List Event → Type 0
KeyEnds s p b first k ms a n es =
    is_some_member (after_prelude (contexts_of s p b first) ms) ≡ false → (held : Members) →
    (let l = lead p b first held k in
    then_go (elim (may_lead (contexts_of s p b first) n) [ true ↦ go (leading_key l a n) | false ↦ ending_key s l a n ]) (run s es)
    ≡ then_go (ending_key s l a n) (run s es))

-- an object in its prelude has entered once its rest has begun, at the key, whatever follows
abbrev pub LeadEnters : Type 0
LeadEnters =
    (s : Settings) (ms : Members) (l : Lead) (i : Inside) (a : ℕ) (n : Text) (es : List Event) → s.order ≡ Streaming →
    NotFirst l ms n → decided_on_the_way s l ms n ≡ Ok i →
    lead_begun (contexts_of s l.spot l.place l.first) i ms n ≡ true →
    KeyEnds s l.spot l.place l.first l.frames ms a n es →
    run s (members_events ms (a_key a n ∷ es)) (leading l)
    ≡ from (entered_with s (record (second_of l i) { start = lead_start s l ms }) (lead_names s l i ms) ms)
    (λ k. run s (a_key a n ∷ es) (at k))

-- what is asked of closed members, whatever is held before them
abbrev pub LeadsEnter : Settings → Members → Type 0
LeadsEnter s ms =
    (p : Spot) (b : ℕ) (first held : Members) (k : List Frame) (i : Inside) (a : ℕ) (n : Text) (es : List Event) →
    NotFirst (lead p b first held k) ms n → decided_on_the_way s (lead p b first held k) ms n ≡ Ok i →
    lead_begun (contexts_of s p b first) i ms n ≡ true → KeyEnds s p b first k ms a n es →
    run s (members_events ms (a_key a n ∷ es)) (leading (lead p b first held k))
    ≡ from (entered_with s (second p b (lead_start s (lead p b first held k) ms) i (in_lead 0) (then_members first held) k)
    (lead_names s (lead p b first held k) i ms) ms) (next_key s a n es)

-- once the contexts are decided, the second run begins
ending-runs : (s : Settings) (p : Spot) (b : ℕ) (first held : Members) (k : List Frame) (i : Inside) (a : ℕ) (n : Text) (next : Go → Go) (r : Result Inside Fault) → r ≡ Ok i →
    next (if_decided r (λ j. run_key s (second_of (lead p b first held k) j) a n)) ≡ next (run_key s (second_of (lead p b first held k) i) a n)
ending-runs s p b first held k i a n next r e = ap (λ x. next (if_decided x (λ j. run_key s (second_of (lead p b first held k) j) a n))) e

leads-end : (s : Settings) → Enters s no_member → LeadsEnter s no_member
unfolding run step tree_events
leads-end s en p b first held k i a n es nf d h ke =
    let l = lead p b first held k in
    let hs = then_members first held in
    ap (λ x. then_go (elim x [
      | true ↦ Err (fault code.NotYet a)
      | false ↦ elim (may_lead (contexts_of s p b first) n) [ true ↦ go (leading_key l a n) | false ↦ ending_key s l a n ]
    ]) (run s es)) nf
    ∙ (ke refl held
    ∙ (ending-runs s p b first held k i a n (λ x. then_go x (run s es)) _ d
    ∙ (en p b (at_start (members_length hs)) i (in_lead 0) hs k a n es h
    ∙ ap (λ z. from (entered_with s (second p b (at_start (members_length z)) i (in_lead 0) hs k) (then_members hs no_member) no_member) (next_key s a n es)) (sym (held-none hs)))))

later-not-first : (p : Spot) (b : ℕ) (first held : Members) (k : List Frame) (c : ℕ) (m : Text) (w : Tree) (rest : Members) (n : Text) →
    NotFirst (lead p b first (held_with held c m w) k) rest n
later-not-first p b first held k c m w no_member n = ap (λ x. x && is_context_name n) (held-nothing first held c m w)
later-not-first p b first held k c m w (member d o v more) n = ap (λ x. x && is_context_name o) (held-nothing first held c m w)

-- a member that belongs to the prelude is held, and nothing else changes
one-held : (s : Settings) (p : Spot) (b : ℕ) (first held : Members) (k : List Frame) (i : Inside) (a : ℕ) (n : Text) (es : List Event) (c : ℕ) (m : Text) (w : Tree) (rest : Members) →
    (let cs = contexts_of s p b first in
    let hs = then_members first held in
    let l = lead p b first (held_with held c m w) k in
    from (entered_with s (second p b (lead_start s l rest) i (in_lead 0) (then_members first (held_with held c m w)) k) (lead_names s l i rest) rest) (next_key s a n es)
    ≡ from (entered_with s (second p b (at_start (members_length (then_members hs (member c m w (prelude_of cs rest))))) i (in_lead 0) hs k)
    (then_members hs (member c m w (known i (in_lead (prelude_length cs rest)) rest))) (member c m w rest)) (next_key s a n es))
one-held s p b first held k i a n es c m w rest =
    let g = next_key s a n es in
    let cs = contexts_of s p b first in
    let hs = then_members first held in
    let pr = prelude_of cs rest in
    let kn = known i (in_lead (prelude_length cs rest)) rest in
    ap (λ z. from (entered_with s (second p b (at_start (members_length (then_members z pr))) i (in_lead 0) z k) (then_members z kn) rest) g) (sym (members-assoc first held (member c m w no_member)))
    ∙ (ap (λ z. from (entered_with s (second p b (at_start (members_length z)) i (in_lead 0) (held_with hs c m w) k) (then_members (held_with hs c m w) kn) rest) g) (held-more hs c m w pr)
    ∙ (ap (λ z. from (entered_with s (second p b (at_start (members_length (then_members hs (member c m w pr)))) i (in_lead 0) (held_with hs c m w) k) z rest) g) (held-more hs c m w kn)
    ∙ ap (λ r. from r g) (then-same (enter_at p b (Ok (entering_as (at_start (members_length (then_members hs (member c m w pr)))) i (then_members hs (member c m w kn)))) k) _ _ (λ y. fed-one s hs c m w rest y))))

leads-member : (s : Settings) (c : ℕ) (m : Text) (w : Tree) (rest : Members) → Enters s (member c m w rest) → LeadsEnter s rest → LeadsEnter s (member c m w rest)
unfolding run step tree_events
leads-member s c m w rest en le p b first held k i a n es nf d h ke =
    ap (λ x. then_go (elim x [
      | true ↦ Err (fault code.NotYet c)
      | false ↦ elim (may_lead (contexts_of s p b first) m) [ true ↦ go (leading_key (lead p b first held k) c m) | false ↦ ending_key s (lead p b first held k) c m ]
    ]) (run s (tree_events w (members_events rest (a_key a n ∷ es))))) nf
    ∙ by (is_in_prelude (contexts_of s p b first) m w) refl d h ke
  where
    cs : List Context
    cs = contexts_of s p b first

    hs : Members
    hs = then_members first held

    more : List Event
    more = members_events rest (a_key a n ∷ es)

    by : (x : Bool) → is_in_prelude cs m w ≡ x →
        contexts_by s p b first held (elim x [ true ↦ look_at m w ∷ looks_until cs rest n | false ↦ look_at_key m ∷ [] ]) ≡ Ok i →
        elim x [ true ↦ lead_begun cs i rest n | false ↦ rest_begun i (in_lead 0) (member c m w rest) n ] ≡ true →
        (is_some_member (elim x [ true ↦ after_prelude cs rest | false ↦ member c m w rest ]) ≡ false → (held : Members) →
        then_go (elim (may_lead cs n) [ true ↦ go (leading_key (lead p b first held k) a n) | false ↦ ending_key s (lead p b first held k) a n ]) (run s es)
        ≡ then_go (ending_key s (lead p b first held k) a n) (run s es)) →
        then_go (elim (may_lead cs m) [ true ↦ go (leading_key (lead p b first held k) c m) | false ↦ ending_key s (lead p b first held k) c m ]) (run s (tree_events w more))
        ≡ from (entered_with s (second p b (at_start (members_length (then_members hs (elim x [ true ↦ member c m w (prelude_of cs rest) | false ↦ no_member ])))) i (in_lead 0) hs k)
        (then_members hs (known i (in_lead (elim x [ true ↦ suc (prelude_length cs rest) | false ↦ 0 ])) (member c m w rest))) (member c m w rest)) (next_key s a n es)
    by true f d h ke =
        leads-by s c m w p b first held k more _ true (may_lead cs m) refl f
        (λ t. le p b first (held_with held c m w) k i a n es (later-not-first p b first held k c m w rest n)
        (ap (λ z. decide_by s p.context p.under (stand_of p.role.around) b (first_context first) z) (looks-more held c m w (looks_until cs rest n)) ∙ d) h ke
        ∙ one-held s p b first held k i a n es c m w rest)
        (λ t. absurd (let z : true ≡ false = t in cc))
    by false f d h ke =
        leads-by s c m w p b first held k more _ false (may_lead cs m) refl f
        (λ t. absurd (let z : false ≡ true = t in cc))
        (λ t. ending-runs s p b first held k i c m (λ x. then_go x (run s (tree_events w more))) _ d
        ∙ (en p b (at_start (members_length hs)) i (in_lead 0) hs k a n es h
        ∙ ap (λ z. from (entered_with s (second p b (at_start (members_length z)) i (in_lead 0) hs k) (then_members hs (known i (in_lead 0) (member c m w rest))) (member c m w rest)) (next_key s a n es)) (sym (held-none hs))))

leads-enter : (s : Settings) → s.order ≡ Streaming → (ms : Members) → LeadsEnter s ms
leads-enter s e no_member = leads-end s (enters s e no_member)
leads-enter s e (member c m w rest) = leads-member s c m w rest (enters s e (member c m w rest)) (leads-enter s e rest)

pub lead-enters : LeadEnters
lead-enters s ms l i a n es e nf d h ke = leads-enter s e ms l.spot l.place l.first l.held l.frames i a n es nf d h ke
