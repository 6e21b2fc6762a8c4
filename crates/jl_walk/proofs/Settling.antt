-- An object that is settled by its closed members and the next key has entered, as these decide.
use Rattle.std.proofs.Common.{ℕ, ◌≡◌, refl, sym, ◌∙◌, ap, Bool, true, false, not, ◌&&◌, ◌||◌, List, [], ◌∷◌, Option, Some, None, Ok, Err}
use Rattle.std.specs.Prelude.{Result, suc}
use Rattle.jl_model.specs.JsonTree.{Tree, scalar, array, object, no_item, Members, no_member, member}
use Rattle.jl_model.specs.declared.faults.Fault.{Fault}
use Rattle.jl_model.specs.declared.orders.Order.{Order}
use Rattle.jl_model.specs.declared.orders.Order.TheVariants.{Any, Streaming}
use Rattle.jl_model.specs.declared.scalars.Scalar.TheVariants.{Str}
use Rattle.jl_defs.specs.Texts.{Text}
use Rattle.jl_defs.specs.Trees.{then_members}
use Rattle.jl_defs.specs.Context.{Context}
use Rattle.jl_defs.specs.Process.{Library}
use Rattle.jl_defs.specs.Settings.{Settings}
use Rattle.jl_defs.specs.ObjectContexts.{Inside, Own, Look, look_at, look_at_key, is_context_name, is_in_prelude, candidates, prelude_looks, after_prelude, after_context, decide_by, decide}
use Rattle.jl_defs.specs.Rest.{own_candidates, prelude_of, ends_run, ends_with, after_run, rest_of}
use Rattle.jl_defs.specs.OpenTree.{First, quote, brace, bracket, sign, Open, unread, in_scalar, in_array, in_object, in_key, in_member, whole, first_byte, stand_in}
use Rattle.jl_defs.specs.Settled.{ends_by, ends_prelude, is_some_member, settles_streaming, settled_by_key, settled, has_ended}
use Rattle.jl_laws.specs.Spots.{Spot, stand_of}
use Rattle.jl_walk.specs.Phases.{Phase, at_start, in_lead, in_run, in_rest, run_until, follow, past, is_rest, known, prelude_length, leading_length, first_phase}
use Rattle.jl_walk.specs.Frames.{Frame}
use Rattle.jl_walk.specs.Steps.{then_goes}
use Rattle.jl_walk.specs.Opening.{enter_at}
use Rattle.jl_walk.specs.Stage.{unless_own}
use Rattle.jl_walk.specs.Feeding.{entering_as, entering, decided, feed_members}
use Rattle.jl_walk.specs.Events.{Event, opens_array, opens_object, a_key, tree_events, members_events}
use Rattle.jl_walk.specs.States.{leading, leading_key, Go, then_go, from, go, members_length, in_items, held_with}
use Rattle.jl_walk.specs.Running.{contexts_of, may_lead, may_type, value_step, ending_key, opened, step, run}
use Rattle.jl_walk.specs.Closed.{BeginAs, OpenEnters}
use Rattle.jl_walk.proofs.Entering.{rest_begun, next_key}
use Rattle.jl_walk.proofs.LeadsEnter.{KeyEnds, lead_begun, looks_until, NotFirst, lead-enters}
use Rattle.jl_walk.proofs.Phases.{settings_of}
use Rattle.jl_walk.proofs.Goes.{before-none}
use Rattle.jl_walk.proofs.HeldMembers.{lead, then-same, members-both}
use Rattle.jl_walk.proofs.HeldPreludes.{value-cut}
use Rattle.jl_walk.proofs.Deciding.{prelude-length, context-stops}

-- the closed members and the next key
abbrev pub with_next : Members → ℕ → Text → Tree → Members
with_next ms a n v = then_members ms (member a n v no_member)

-- ---- the rest has begun where the definitions say so

with-some : (ms : Members) (a : ℕ) (n : Text) (v : Tree) → is_some_member (with_next ms a n v) ≡ true
with-some no_member a n v = refl
with-some (member c m w rest) a n v = refl

rest-begun : (i : Inside) (ms : Members) (n : Text) → rest_begun i in_rest ms n ≡ true
rest-begun i no_member n = refl
rest-begun i (member c m w rest) n = refl

end-begun : (i : Inside) (a : ℕ) (n : Text) (v : Tree) (x : Bool) →
    is_some_member (elim x [ true ↦ member a n v no_member | false ↦ elim (ends_with i n v) [ true ↦ no_member | false ↦ no_member ] ]) ≡ is_rest (run_until x)
end-begun i a n v true = refl
end-begun i a n v false = by (ends_with i n v)
  where
    by : (y : Bool) → is_some_member (elim y [ true ↦ no_member | false ↦ no_member ]) ≡ false
    by true = refl
    by false = refl

member-begun : (i : Inside) (c : ℕ) (m : Text) (w : Tree) (rest : Members) (a : ℕ) (n : Text) (v : Tree) → is_some_member (after_run i false (with_next rest a n v)) ≡ rest_begun i in_run rest n → (x : Bool) →
    is_some_member (elim x [ true ↦ member c m w (with_next rest a n v) | false ↦ elim (ends_with i m w) [ true ↦ with_next rest a n v | false ↦ after_run i false (with_next rest a n v) ] ])
    ≡ elim (is_rest (run_until x)) [ true ↦ true | false ↦ rest_begun i (past (run_until x) i m w) rest n ]
member-begun i c m w rest a n v h true = refl
member-begun i c m w rest a n v h false = by (ends_with i m w)
  where
    by : (y : Bool) → is_some_member (elim y [ true ↦ with_next rest a n v | false ↦ after_run i false (with_next rest a n v) ]) ≡ rest_begun i (run_until y) rest n
    by true = with-some rest a n v ∙ sym (rest-begun i rest n)
    by false = h

run-begun : (i : Inside) (ms : Members) (a : ℕ) (n : Text) (v : Tree) → is_some_member (after_run i false (with_next ms a n v)) ≡ rest_begun i in_run ms n
run-begun i no_member a n v = end-begun i a n v (ends_run i false n)
run-begun i (member c m w rest) a n v = member-begun i c m w rest a n v (run-begun i rest a n v) (ends_run i false m)

-- the prelude has ended among these members, or ends with the next key
abbrev ended_or : List Context → Members → Text → Tree → Bool
ended_or cs ms n v = is_some_member (after_prelude cs ms) || not (is_in_prelude cs n v)

lead-so : (cs : List Context) (i : Inside) (ms : Members) (a : ℕ) (n : Text) (v : Tree) → ended_or cs ms n v ≡ true → is_some_member (after_run i true (after_prelude cs (with_next ms a n v))) ≡ true → lead_begun cs i ms n ≡ true
lead-so cs i no_member a n v e h = by (is_in_prelude cs n v) e h
  where
    by : (y : Bool) → not y ≡ true → is_some_member (after_run i true (elim y [ true ↦ no_member | false ↦ member a n v no_member ])) ≡ true → is_rest (follow (in_lead 0) i n) ≡ true
    by true e h = absurd cc
    by false e h = sym (end-begun i a n v (ends_run i true n)) ∙ h
lead-so cs i (member c m w rest) a n v e h = by (lead-so cs i rest a n v) (is_in_prelude cs m w) e h
  where
    by : (ended_or cs rest n v ≡ true → is_some_member (after_run i true (after_prelude cs (with_next rest a n v))) ≡ true → lead_begun cs i rest n ≡ true) → (x : Bool) →
        (is_some_member (elim x [ true ↦ after_prelude cs rest | false ↦ member c m w rest ]) || not (is_in_prelude cs n v)) ≡ true →
        is_some_member (after_run i true (elim x [ true ↦ after_prelude cs (with_next rest a n v) | false ↦ member c m w (with_next rest a n v) ])) ≡ true →
        elim x [ true ↦ lead_begun cs i rest n | false ↦ rest_begun i (in_lead 0) (member c m w rest) n ] ≡ true
    by next true e h = next e h
    by next false e h = sym (member-begun i c m w rest a n v (run-begun i rest a n v) (ends_run i true m)) ∙ h

-- ---- what the prelude shows, how long it is, and the members before the rest

looks-so : (cs : List Context) (ms : Members) (a : ℕ) (n : Text) (v : Tree) → ended_or cs ms n v ≡ true → prelude_looks cs (with_next ms a n v) ≡ looks_until cs ms n
looks-so cs no_member a n v e = by (is_in_prelude cs n v) e
  where
    by : (y : Bool) → not y ≡ true → ◌≡◌ {A = List Look} (elim y [ true ↦ look_at n v ∷ [] | false ↦ look_at_key n ∷ [] ]) (look_at_key n ∷ [])
    by true e = absurd cc
    by false e = refl
looks-so cs (member c m w rest) a n v e = by (looks-so cs rest a n v) (is_in_prelude cs m w) e
  where
    by : (ended_or cs rest n v ≡ true → prelude_looks cs (with_next rest a n v) ≡ looks_until cs rest n) → (x : Bool) →
        (is_some_member (elim x [ true ↦ after_prelude cs rest | false ↦ member c m w rest ]) || not (is_in_prelude cs n v)) ≡ true →
        ◌≡◌ {A = List Look} (elim x [ true ↦ look_at m w ∷ prelude_looks cs (with_next rest a n v) | false ↦ look_at_key m ∷ [] ])
        (elim x [ true ↦ look_at m w ∷ looks_until cs rest n | false ↦ look_at_key m ∷ [] ])
    by next true e = ap (λ z. look_at m w ∷ z) (next e)
    by next false e = refl

length-so : (cs : List Context) (ms : Members) (a : ℕ) (n : Text) (v : Tree) → ended_or cs ms n v ≡ true → prelude_length cs (with_next ms a n v) ≡ prelude_length cs ms
length-so cs no_member a n v e = by (is_in_prelude cs n v) e
  where
    by : (y : Bool) → not y ≡ true → ◌≡◌ {A = ℕ} (elim y [ true ↦ 1 | false ↦ 0 ]) 0
    by true e = absurd cc
    by false e = refl
length-so cs (member c m w rest) a n v e = by (length-so cs rest a n v) (is_in_prelude cs m w) e
  where
    by : (ended_or cs rest n v ≡ true → prelude_length cs (with_next rest a n v) ≡ prelude_length cs rest) → (x : Bool) →
        (is_some_member (elim x [ true ↦ after_prelude cs rest | false ↦ member c m w rest ]) || not (is_in_prelude cs n v)) ≡ true →
        ◌≡◌ {A = ℕ} (elim x [ true ↦ suc (prelude_length cs (with_next rest a n v)) | false ↦ 0 ]) (elim x [ true ↦ suc (prelude_length cs rest) | false ↦ 0 ])
    by next true e = ap suc (next e)
    by next false e = refl

known-rest : (i : Inside) (ph : Phase) (ms : Members) (a : ℕ) (n : Text) (v : Tree) → rest_begun i ph ms n ≡ true → known i ph (with_next ms a n v) ≡ known i ph ms
known-rest i ph no_member a n v e = by (is_rest (follow ph i n)) e
  where
    by : (x : Bool) → x ≡ true → ◌≡◌ {A = Members} (elim x [ true ↦ no_member | false ↦ member a n v no_member ]) no_member
    by true e = refl
    by false e = absurd cc
known-rest i ph (member c m w rest) a n v e = by (known-rest i (past (follow ph i m) i m w) rest a n v) (is_rest (follow ph i m)) e
  where
    next : Phase
    next = past (follow ph i m) i m w

    by : (rest_begun i next rest n ≡ true → known i next (with_next rest a n v) ≡ known i next rest) → (x : Bool) → elim x [ true ↦ true | false ↦ rest_begun i next rest n ] ≡ true →
        ◌≡◌ {A = Members} (elim x [ true ↦ no_member | false ↦ member c m w (known i next (with_next rest a n v)) ]) (elim x [ true ↦ no_member | false ↦ member c m w (known i next rest) ])
    by more true e = refl
    by more false e = ap (λ z. member c m w z) (more e)

known-lead : (cs : List Context) (i : Inside) (ms : Members) (a : ℕ) (n : Text) (v : Tree) → lead_begun cs i ms n ≡ true → known i (in_lead (prelude_length cs ms)) (with_next ms a n v) ≡ known i (in_lead (prelude_length cs ms)) ms
known-lead cs i no_member a n v e = known-rest i (in_lead 0) no_member a n v e
known-lead cs i (member c m w rest) a n v e = by (known-lead cs i rest a n v) (is_in_prelude cs m w) e
  where
    by : (lead_begun cs i rest n ≡ true → known i (in_lead (prelude_length cs rest)) (with_next rest a n v) ≡ known i (in_lead (prelude_length cs rest)) rest) → (x : Bool) →
        elim x [ true ↦ lead_begun cs i rest n | false ↦ rest_begun i (in_lead 0) (member c m w rest) n ] ≡ true →
        known i (in_lead (elim x [ true ↦ suc (prelude_length cs rest) | false ↦ 0 ])) (member c m w (with_next rest a n v))
        ≡ known i (in_lead (elim x [ true ↦ suc (prelude_length cs rest) | false ↦ 0 ])) (member c m w rest)
    by next true e = ap (λ z. member c m w z) (next e)
    by next false e = known-rest i (in_lead 0) (member c m w rest) a n v e

known-start : (i : Inside) (left : ℕ) (ms : Members) (a : ℕ) (n : Text) (v : Tree) → known i (at_start left) (with_next ms a n v) ≡ known i (in_lead left) (with_next ms a n v)
known-start i left no_member a n v = refl
known-start i left (member c m w rest) a n v = refl

-- ---- an object that opens

-- once its rest has begun, by the closed members or by the next key, it has entered
settles-from : (s : Settings) → s.order ≡ Streaming → (ms : Members) (p : Spot) (b : ℕ) (k : List Frame) (i : Inside) (a : ℕ) (n : Text) (v : Tree) (es : List Event) →
    (let cs = contexts_of s p b no_member in
    NotFirst (opened p b k) ms n → ended_or cs ms n v ≡ true →
    decide_by s p.context p.under (stand_of p.role.around) b None (prelude_looks cs (with_next ms a n v)) ≡ Ok i →
    is_some_member (after_run i true (after_prelude cs (with_next ms a n v))) ≡ true → KeyEnds s p b no_member k ms a n es →
    run s (members_events ms (a_key a n ∷ es)) (leading (opened p b k))
    ≡ from (then_goes (enter_at p b (Ok (entering_as (at_start (members_length (prelude_of cs ms))) i (known i (in_lead (prelude_length cs (with_next ms a n v))) (with_next ms a n v)))) k)
    (feed_members s ms)) (next_key s a n es))
settles-from s e ms p b k i a n v es nf c d h ke =
    let cs = contexts_of s p b no_member in
    let g = next_key s a n es in
    let pr = prelude_of cs ms in
    let kn = known i (in_lead (prelude_length cs ms)) ms in
    let begun = lead-so cs i ms a n v c h in
    lead-enters s ms (opened p b k) i a n es e nf (ap (decide_by s p.context p.under (stand_of p.role.around) b None) (sym (looks-so cs ms a n v c)) ∙ d) begun ke
    ∙ (ap (λ r. from r g) (then-same (enter_at p b (Ok (entering_as (at_start (members_length pr)) i kn)) k) _ _ (λ l. sym (members-both s no_member ms l)))
    ∙ ap (λ z. from (then_goes (enter_at p b (Ok (entering_as (at_start (members_length pr)) i z)) k) (feed_members s ms)) g)
    (sym (known-lead cs i ms a n v begun) ∙ ap (λ z. known i (in_lead z) (with_next ms a n v)) (sym (length-so cs ms a n v c))))

and-left : (x y : Bool) → (x && y) ≡ true → x ≡ true
and-left true y e = refl
and-left false y e = absurd cc

and-right : (x y : Bool) → (x && y) ≡ true → y ≡ true
and-right true y e = e
and-right false y e = absurd cc

not-true : (x : Bool) → not x ≡ true → x ≡ false
not-true false e = refl
not-true true e = absurd cc

-- settled, by what is decided
abbrev settled_as : Result Inside Fault → (Inside → Bool) → Bool
settled_as (Ok i) answer = answer i
settled_as (Err f) answer = false

settled-so : (s : Settings) (p : Spot) (b : ℕ) (full : Members) (r : Result Inside Fault) →
    settles_streaming s p.context p.under (stand_of p.role.around) b full r
    ≡ settled_as r (λ i. is_some_member (rest_of s p.context p.under (stand_of p.role.around) b i full))
settled-so s p b full (Ok i) = refl
settled-so s p b full (Err f) = refl

-- an object without a context of its own
opens-plain : (base : Option Text) (library : Library) (ms : Members) (p : Spot) (b : ℕ) (k : List Frame) (a : ℕ) (n : Text) (v : Tree) (es : List Event) →
    (let s = settings_of Streaming base library in
    let cs = contexts_of s p b no_member in
    let full = with_next ms a n v in
    let r = decide_by s p.context p.under (stand_of p.role.around) b None (prelude_looks cs full) in
    NotFirst (opened p b k) ms n → ended_or cs ms n v ≡ true →
    settled_as r (λ i. is_some_member (after_run i true (after_prelude cs full))) ≡ true → KeyEnds s p b no_member k ms a n es →
    run s (members_events ms (a_key a n ∷ es)) (leading (opened p b k))
    ≡ from (then_goes (enter_at p b (entering (at_start (prelude_length cs full)) r full) k) (feed_members s ms)) (next_key s a n es))
opens-plain base library ms p b k a n v es nf c h ke = by (decide_by s p.context p.under (stand_of p.role.around) b None (prelude_looks cs full)) refl h
  where
    s : Settings
    s = settings_of Streaming base library

    cs : List Context
    cs = contexts_of s p b no_member

    full : Members
    full = with_next ms a n v

    by : (r : Result Inside Fault) → decide_by s p.context p.under (stand_of p.role.around) b None (prelude_looks cs full) ≡ r →
        settled_as r (λ i. is_some_member (after_run i true (after_prelude cs full))) ≡ true →
        run s (members_events ms (a_key a n ∷ es)) (leading (opened p b k))
        ≡ from (then_goes (enter_at p b (entering (at_start (prelude_length cs full)) r full) k) (feed_members s ms)) (next_key s a n es)
    by (Err f) d h = absurd cc
    by (Ok i) d h =
        settles-from s refl ms p b k i a n v es nf c d h ke
        ∙ (ap (λ z. from (then_goes (enter_at p b (Ok (entering_as (at_start z) i (known i (in_lead (prelude_length cs full)) full))) k) (feed_members s ms)) (next_key s a n es))
        (prelude-length cs ms ∙ sym (length-so cs ms a n v c))
        ∙ ap (λ z. from (then_goes (enter_at p b (Ok (entering_as (at_start (prelude_length cs full)) i z)) k) (feed_members s ms)) (next_key s a n es))
        (sym (known-start i (prelude_length cs full) ms a n v)))

-- the first byte of its value tells whether the next key ends the prelude
next-ends : (cs : List Context) (n : Text) (next : Open) → ends_by cs n (first_byte next) ≡ not (is_in_prelude cs n (stand_in next))
next-ends cs n unread = refl
next-ends cs n (in_scalar b quote) = refl
next-ends cs n (in_scalar b sign) = refl
next-ends cs n (in_scalar b bracket) = refl
next-ends cs n (in_scalar b brace) = refl
next-ends cs n (in_array b xs o) = refl
next-ends cs n (in_object b ms ends) = refl
next-ends cs n (in_key b ms ends c) = refl
next-ends cs n (in_member b ms ends c m o) = refl
next-ends cs n (whole (scalar b (Str text))) = refl
next-ends cs n (whole (scalar b v)) = refl
next-ends cs n (whole (array b xs)) = refl
next-ends cs n (whole (object b ms)) = refl

leads-not : (s : Settings) (p : Spot) (b : ℕ) (first held : Members) (k : List Frame) (a : ℕ) (n : Text) (es : List Event) → not (may_lead (contexts_of s p b first) n) ≡ true →
    (let l = lead p b first held k in
    then_go (elim (may_lead (contexts_of s p b first) n) [ true ↦ go (leading_key l a n) | false ↦ ending_key s l a n ]) (run s es)
    ≡ then_go (ending_key s l a n) (run s es))
leads-not s p b first held k a n es e =
    ap (λ x. then_go (elim x [ true ↦ go (leading_key (lead p b first held k) a n) | false ↦ ending_key s (lead p b first held k) a n ]) (run s es)) (not-true (may_lead (contexts_of s p b first) n) e)

-- the key that ends it decides the contexts, before the first event of its value
key-ends : (s : Settings) (p : Spot) (b : ℕ) (first held : Members) (k : List Frame) (a : ℕ) (n : Text) (r : Option First) (es : List Event) →
    ends_by (contexts_of s p b first) n r ≡ true → BeginAs r es →
    (let l = lead p b first held k in
    then_go (elim (may_lead (contexts_of s p b first) n) [ true ↦ go (leading_key l a n) | false ↦ ending_key s l a n ]) (run s es)
    ≡ then_go (ending_key s l a n) (run s es))
unfolding run step
key-ends s p b first held k a n None es e g = leads-not s p b first held k a n es e
key-ends s p b first held k a n (Some quote) es e g = leads-not s p b first held k a n es e
key-ends s p b first held k a n (Some sign) es e g = leads-not s p b first held k a n es e
key-ends s p b first held k a n (Some bracket) (opens_array c ∷ es) e g = by (may_lead (contexts_of s p b first) n)
  where
    by : (x : Bool) → then_go (elim x [ true ↦ go (leading_key (lead p b first held k) a n) | false ↦ ending_key s (lead p b first held k) a n ]) (run s (opens_array c ∷ es))
        ≡ then_go (ending_key s (lead p b first held k) a n) (run s (opens_array c ∷ es))
    by false = refl
    by true =
        before-none _
        ∙ (ap (λ z. then_go (elim z [
          | true ↦ go (in_items c no_item (λ u. leading (lead p b first (held_with held a n u) k)))
          | false ↦ then_go (ending_key s (lead p b first held k) a n) (value_step s (opens_array c))
        ]) (run s es)) (not-true (may_type (contexts_of s p b first) n) e)
        ∙ value-cut s (opens_array c) es p b first held a n k)
key-ends s p b first held k a n (Some brace) (opens_object c ∷ es) e g = by (may_lead (contexts_of s p b first) n)
  where
    by : (x : Bool) → then_go (elim x [ true ↦ go (leading_key (lead p b first held k) a n) | false ↦ ending_key s (lead p b first held k) a n ]) (run s (opens_object c ∷ es))
        ≡ then_go (ending_key s (lead p b first held k) a n) (run s (opens_object c ∷ es))
    by false = refl
    by true = before-none _ ∙ value-cut s (opens_object c) es p b first held a n k
key-ends s p b first held k a n (Some bracket) es e g = absurd g
key-ends s p b first held k a n (Some brace) es e g = absurd g

or-second : (x y : Bool) → (x || y) ≡ true → x ≡ false → y ≡ true
or-second false y e t = e
or-second true y e t = absurd cc

-- the first byte of a value tells whether its key ends the prelude
abbrev FirstEnds : Text → Tree → Option First → Type 0
FirstEnds n v r = (cs : List Context) → ends_by cs n r ≡ not (is_in_prelude cs n v)

-- an object is settled by closed members and a last one with this first byte
abbrev settled_with_first : Settings → Spot → ℕ → Members → ℕ → Text → Tree → Option First → Bool
settled_with_first s p b ms a n v r =
    ends_prelude s p.context p.under (stand_of p.role.around) b ms n r
    && settles_streaming s p.context p.under (stand_of p.role.around) b (with_next ms a n v) (decide s p.context p.under (stand_of p.role.around) b (with_next ms a n v))

-- both, by the first member
opens-in : (base : Option Text) (library : Library) (ms : Members) (p : Spot) (b : ℕ) (k : List Frame) (a : ℕ) (n : Text) (v : Tree) (r : Option First) (es : List Event) → FirstEnds n v r →
    (let s = settings_of Streaming base library in
    settled_with_first s p b ms a n v r ≡ true → BeginAs r es →
    run s (members_events ms (a_key a n ∷ es)) (leading (opened p b k))
    ≡ from (then_goes (enter_at p b (decided s b (with_next ms a n v) p) k) (feed_members s ms)) (next_key s a n es))
unfolding decide tree_events
opens-in base library no_member p b k a n v r es ne h g =
    let s = settings_of Streaming base library in
    let cs = contexts_of s p b no_member in
    let full = member a n v no_member in
    let both = and-left (not (is_context_name n) && ends_by cs n r) _ h in
    let t = not-true (is_context_name n) (and-left (not (is_context_name n)) _ both) in
    let ends = and-right (not (is_context_name n)) _ both in
    let dec : Result Inside Fault = decide s p.context p.under (stand_of p.role.around) b full in
    let h2 = sym (settled-so s p b full dec) ∙ and-right (not (is_context_name n) && ends_by cs n r) _ h in
    opens-plain base library no_member p b k a n v es t (sym (ne cs) ∙ ends)
    (ap (λ x. let own : Option Own = elim x [ true ↦ Some (record { at = a; local = v }) | false ↦ None ] in
    let ds = candidates s p.context p.under (stand_of p.role.around) b own in
    let after : Members = elim x [ true ↦ no_member | false ↦ full ] in
    settled_as (decide_by s p.context p.under (stand_of p.role.around) b own (prelude_looks ds after)) (λ i. is_some_member (after_run i true (after_prelude ds after)))) (sym t) ∙ h2)
    (λ none held. key-ends s p b no_member held k a n r es ends g)
    ∙ ap (λ x. let own : Option Own = elim x [ true ↦ Some (record { at = a; local = v }) | false ↦ None ] in
    let ds = candidates s p.context p.under (stand_of p.role.around) b own in
    let after : Members = elim x [ true ↦ no_member | false ↦ full ] in
    let len : ℕ = elim x [ true ↦ 1 | false ↦ prelude_length ds full ] in
    from (then_goes (enter_at p b (unless_own own (entering (at_start len) (decide_by s p.context p.under (stand_of p.role.around) b own (prelude_looks ds after)) full)) k) (feed_members s no_member)) (next_key s a n es)) (sym t)
opens-in base library (member c m w rest) p b k a n v r es ne h g = by (is_context_name m) refl
  where
    s : Settings
    s = settings_of Streaming base library

    full : Members
    full = member c m w (with_next rest a n v)

    the-own : Bool → Option Own
    the-own x = elim x [ true ↦ Some (record { at = c; local = w }) | false ↦ None ]

    of_own : Option Own → List Context
    of_own own = candidates s p.context p.under (stand_of p.role.around) b own

    ended_with : List Context → Bool → Bool
    ended_with ds x = is_some_member (after_prelude ds (elim x [ true ↦ rest | false ↦ member c m w rest ])) || ends_by ds n r

    settled_with : Option Own → Bool → Bool
    settled_with own x =
        let after : Members = elim x [ true ↦ with_next rest a n v | false ↦ full ] in
        settled_as (decide_by s p.context p.under (stand_of p.role.around) b own (prelude_looks (of_own own) after)) (λ i. is_some_member (after_run i true (after_prelude (of_own own) after)))

    entered_as : Option Own → Bool → Go
    entered_as own x =
        let after : Members = elim x [ true ↦ with_next rest a n v | false ↦ full ] in
        let len : ℕ = elim x [ true ↦ suc (prelude_length (of_own own) (with_next rest a n v)) | false ↦ prelude_length (of_own own) full ] in
        from (then_goes (enter_at p b (unless_own own (entering (at_start len) (decide_by s p.context p.under (stand_of p.role.around) b own (prelude_looks (of_own own) after)) full)) k) (feed_members s (member c m w rest))) (next_key s a n es)

    -- the name of the first member
    x0 : Bool
    x0 = is_context_name m

    it-ended : ended_with (of_own (the-own x0)) x0 ≡ true
    it-ended = and-left (ended_with (of_own (the-own x0)) x0) _ h

    it-settled : settled_with (the-own x0) x0 ≡ true
    it-settled = sym (settled-so s p b full (decide s p.context p.under (stand_of p.role.around) b full)) ∙ and-right (ended_with (of_own (the-own x0)) x0) _ h

    or-so : (x : Bool) (ds : List Context) → (x || ends_by ds n r) ≡ true → (x || not (is_in_prelude ds n v)) ≡ true
    or-so x ds e = ap (λ z. x || z) (sym (ne ds)) ∙ e

    by : (x : Bool) → is_context_name m ≡ x → run s (members_events (member c m w rest) (a_key a n ∷ es)) (leading (opened p b k)) ≡ entered_as (the-own x0) x0
    by false t =
        let e = sym (ap (λ x. ended_with (of_own (the-own x)) x) t) ∙ it-ended in
        opens-plain base library (member c m w rest) p b k a n v es t (or-so (is_some_member (after_prelude (of_own None) (member c m w rest))) (of_own None) e)
        (sym (ap (λ x. settled_with (the-own x) x) t) ∙ it-settled)
        (λ none held. key-ends s p b no_member held k a n r es (or-second (is_some_member (after_prelude (of_own None) (member c m w rest))) _ e none) g)
        ∙ ap (λ x. entered_as (the-own x) x) (sym t)
    by true t =
        context-stops s c m (opened p b k) (tree_events w (members_events rest (a_key a n ∷ es))) refl t
        ∙ ap (λ x. entered_as (the-own x) x) (sym t)

pub open-enters : OpenEnters
unfolding settled_by_key
open-enters s ms p b k a n next es e h g = by s.order s.base s.library e h
  where
    by : (order : Order) (base : Option Text) (library : Library) → order ≡ Streaming →
        (let z = settings_of order base library in
        settled_by_key z p.context p.under (stand_of p.role.around) b ms a n next ≡ true →
        run z (members_events ms (a_key a n ∷ es)) (leading (opened p b k))
        ≡ from (then_goes (enter_at p b (decided z b (with_next ms a n (stand_in next)) p) k) (feed_members z ms)) (next_key z a n es))
    by Streaming base library e h = opens-in base library ms p b k a n (stand_in next) (first_byte next) es (λ cs. next-ends cs n next) h g
    by Any base library e h = absurd cc

-- ---- an object between two members

closed-ends : (n : Text) (v : Tree) → FirstEnds n v (first_byte (whole v))
closed-ends n (scalar b (Str text)) cs = refl
closed-ends n (scalar b v) cs = refl
closed-ends n (array b xs) cs = refl
closed-ends n (object b ms) cs = refl

pub tree-begins : (v : Tree) (es : List Event) → BeginAs (first_byte (whole v)) (tree_events v es)
unfolding tree_events
tree-begins (scalar b (Str text)) es = tt
tree-begins (scalar b v) es = tt
tree-begins (array b xs) es = tt
tree-begins (object b ms) es = tt

ended-so : (cs : List Context) (ms : Members) (a : ℕ) (n : Text) (v : Tree) → is_some_member (after_prelude cs (with_next ms a n v)) ≡ ended_or cs ms n v
ended-so cs no_member a n v = by (is_in_prelude cs n v)
  where
    by : (x : Bool) → is_some_member (elim x [ true ↦ no_member | false ↦ member a n v no_member ]) ≡ not x
    by true = refl
    by false = refl
ended-so cs (member c m w rest) a n v = by (ended-so cs rest a n v) (is_in_prelude cs m w)
  where
    by : is_some_member (after_prelude cs (with_next rest a n v)) ≡ ended_or cs rest n v → (x : Bool) →
        is_some_member (elim x [ true ↦ after_prelude cs (with_next rest a n v) | false ↦ member c m w (with_next rest a n v) ])
        ≡ (is_some_member (elim x [ true ↦ after_prelude cs rest | false ↦ member c m w rest ]) || not (is_in_prelude cs n v))
    by next true = next
    by next false = refl

-- where closed members end the prelude, the last of them ends it or one before it
last-ends : (s : Settings) (p : Spot) (b : ℕ) (ms : Members) (a : ℕ) (n : Text) (v : Tree) (r : Option First) → FirstEnds n v r →
    has_ended (own_candidates s p.context p.under (stand_of p.role.around) b (with_next ms a n v)) (with_next ms a n v) ≡ true →
    ends_prelude s p.context p.under (stand_of p.role.around) b ms n r ≡ true
last-ends s p b no_member a n v r ne h = by (is_context_name n) h
  where
    by : (x : Bool) →
        (let own : Option Own = elim x [ true ↦ Some (record { at = a; local = v }) | false ↦ None ] in
        is_some_member (after_prelude (candidates s p.context p.under (stand_of p.role.around) b own) (elim x [ true ↦ no_member | false ↦ member a n v no_member ])) ≡ true) →
        (not x && ends_by (candidates s p.context p.under (stand_of p.role.around) b None) n r) ≡ true
    by true h = absurd cc
    by false h = let cs = candidates s p.context p.under (stand_of p.role.around) b None in ne cs ∙ (sym (ended-so cs no_member a n v) ∙ h)
last-ends s p b (member c m w rest) a n v r ne h = by (own_candidates s p.context p.under (stand_of p.role.around) b (member c m w rest)) (is_context_name m) h
  where
    by : (cs : List Context) (x : Bool) → is_some_member (after_prelude cs (elim x [ true ↦ with_next rest a n v | false ↦ member c m w (with_next rest a n v) ])) ≡ true →
        (is_some_member (after_prelude cs (elim x [ true ↦ rest | false ↦ member c m w rest ])) || ends_by cs n r) ≡ true
    by cs true h = ap (λ y. is_some_member (after_prelude cs rest) || y) (ne cs) ∙ (sym (ended-so cs rest a n v) ∙ h)
    by cs false h = ap (λ y. is_some_member (after_prelude cs (member c m w rest)) || y) (ne cs) ∙ (sym (ended-so cs (member c m w rest) a n v) ∙ h)

-- an object that is settled by its closed members has entered before the last of them
pub last-enters : (base : Option Text) (library : Library) (ms : Members) (p : Spot) (b : ℕ) (k : List Frame) (a : ℕ) (n : Text) (v : Tree) (es : List Event) →
    (let s = settings_of Streaming base library in
    settled s p.context p.under (stand_of p.role.around) b (with_next ms a n v) ≡ true →
    run s (members_events ms (a_key a n ∷ tree_events v es)) (leading (opened p b k))
    ≡ from (then_goes (enter_at p b (decided s b (with_next ms a n v) p) k) (feed_members s ms)) (next_key s a n (tree_events v es)))
unfolding settled
last-enters base library ms p b k a n v es h =
    let s = settings_of Streaming base library in
    let full = with_next ms a n v in
    let ended = has_ended (own_candidates s p.context p.under (stand_of p.role.around) b full) full in
    let settles = settles_streaming s p.context p.under (stand_of p.role.around) b full (decide s p.context p.under (stand_of p.role.around) b full) in
    opens-in base library ms p b k a n v (first_byte (whole v)) (tree_events v es) (closed-ends n v)
    (ap (λ x. x && settles) (last-ends s p b ms a n v (first_byte (whole v)) (closed-ends n v) (and-left ended settles h)) ∙ and-right ended settles h)
    (tree-begins v es)

-- ---- the rest has begun with the last key where there is a rest

lead-rest : (cs : List Context) (i : Inside) (ms : Members) (a : ℕ) (n : Text) (v : Tree) →
    is_some_member (after_run i true (after_prelude cs (with_next ms a n v))) ≡ rest_begun i (in_lead (prelude_length cs (with_next ms a n v))) ms n
lead-rest cs i no_member a n v = by (is_in_prelude cs n v)
  where
    by : (y : Bool) → is_some_member (after_run i true (elim y [ true ↦ no_member | false ↦ member a n v no_member ])) ≡ is_rest (follow (in_lead (elim y [ true ↦ 1 | false ↦ 0 ])) i n)
    by true = refl
    by false = end-begun i a n v (ends_run i true n)
lead-rest cs i (member c m w rest) a n v = by (lead-rest cs i rest a n v) (is_in_prelude cs m w)
  where
    by : is_some_member (after_run i true (after_prelude cs (with_next rest a n v))) ≡ rest_begun i (in_lead (prelude_length cs (with_next rest a n v))) rest n → (x : Bool) →
        is_some_member (after_run i true (elim x [ true ↦ after_prelude cs (with_next rest a n v) | false ↦ member c m w (with_next rest a n v) ]))
        ≡ rest_begun i (in_lead (elim x [ true ↦ suc (prelude_length cs (with_next rest a n v)) | false ↦ 0 ])) (member c m w rest) n
    by next true = next
    by next false = member-begun i c m w rest a n v (run-begun i rest a n v) (ends_run i true m)

start-rest : (cs : List Context) (i : Inside) (ms : Members) (a : ℕ) (n : Text) (v : Tree) →
    is_some_member (after_run i true (after_prelude cs (after_context (with_next ms a n v)))) ≡ rest_begun i (at_start (leading_length cs (with_next ms a n v))) ms n
start-rest cs i no_member a n v = by (is_context_name n)
  where
    by : (x : Bool) → is_some_member (after_run i true (after_prelude cs (elim x [ true ↦ no_member | false ↦ member a n v no_member ])))
        ≡ is_rest (follow (at_start (elim x [ true ↦ 1 | false ↦ prelude_length cs (member a n v no_member) ])) i n)
    by true = refl
    by false = lead-rest cs i no_member a n v
start-rest cs i (member c m w rest) a n v = by (is_context_name m)
  where
    by : (x : Bool) → is_some_member (after_run i true (after_prelude cs (elim x [ true ↦ with_next rest a n v | false ↦ member c m w (with_next rest a n v) ])))
        ≡ rest_begun i (at_start (elim x [ true ↦ suc (prelude_length cs (with_next rest a n v)) | false ↦ prelude_length cs (member c m w (with_next rest a n v)) ])) (member c m w rest) n
    by true = lead-rest cs i rest a n v
    by false = lead-rest cs i (member c m w rest) a n v

-- so the members before the rest are among the closed ones
pub key-known : (base : Option Text) (library : Library) (ms : Members) (p : Spot) (b : ℕ) (a : ℕ) (n : Text) (next : Open) (i : Inside) →
    (let s = settings_of Streaming base library in
    let full = with_next ms a n (stand_in next) in
    let ph = first_phase s p.context p.under (stand_of p.role.around) b full in
    settled_by_key s p.context p.under (stand_of p.role.around) b ms a n next ≡ true →
    decide s p.context p.under (stand_of p.role.around) b full ≡ Ok i → known i ph full ≡ known i ph ms)
unfolding settled_by_key
key-known base library ms p b a n next i h d =
    let s = settings_of Streaming base library in
    let full = with_next ms a n (stand_in next) in
    let cs = own_candidates s p.context p.under (stand_of p.role.around) b full in
    let settles = and-right (ends_prelude s p.context p.under (stand_of p.role.around) b ms n (first_byte next)) _ h in
    known-rest i (at_start (leading_length cs full)) ms a n (stand_in next)
    (sym (start-rest cs i ms a n (stand_in next)) ∙ (ap (λ r. settles_streaming s p.context p.under (stand_of p.role.around) b full r) (sym d) ∙ settles))
