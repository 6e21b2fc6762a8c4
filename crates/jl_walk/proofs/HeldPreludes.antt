-- The prelude of an object that is held: what is decided doesn't change as a member is held.
use Rattle.std.proofs.Common.{ℕ, ◌≡◌, refl, sym, ◌∙◌, ap, Bool, true, false, List, [], ◌∷◌, ◌++◌, Ok, Err}
use Rattle.std.specs.Prelude.{Result, suc, ◌&&◌, ◌||◌}
use Rattle.jl_model.specs.JsonTree.{Tree, scalar, array, object, Trees, no_item, Members, no_member, member}
use Rattle.jl_model.specs.declared.codes.Code.TheVariants as code
use Rattle.jl_model.specs.declared.faults.Fault.{Fault}
use Rattle.jl_defs.specs.Texts.{Text}
use Rattle.jl_model.specs.declared.scalars.Scalar.{Scalar}
use Rattle.jl_defs.specs.Context.{Context}
use Rattle.jl_defs.specs.Trees.{then_members}
use Rattle.jl_defs.specs.Settings.{Settings}
use Rattle.jl_defs.specs.ObjectContexts.{fault, Inside, Look, look_at, look_at_key, prelude_looks, is_in_prelude, is_context_name, first_context, decide_by}
use Rattle.jl_defs.specs.Keys.{Key, kind, key_of, is_kind, is_leading}
use Rattle.jl_defs.specs.Rest.{prelude_of}
use Rattle.jl_laws.specs.Spots.{Spot, stand_of}
use Rattle.jl_walk.specs.Frames.{Frame}
use Rattle.jl_walk.specs.Steps.{Step, then_goes}
use Rattle.jl_walk.specs.Opening.{Entering, enter_at}
use Rattle.jl_walk.specs.Feeding.{entering_as}
use Rattle.jl_walk.specs.Keys.{take_key}
use Rattle.jl_walk.specs.Ending.{close}
use Rattle.jl_walk.specs.Events.{Event, opens_object, opens_array, closes, tree_events, items_events, members_events}
use Rattle.jl_walk.specs.States.{at, leading, leading_key, running_key, in_items, Go, then_go, from, settle, go, members_length, held_with}
use Rattle.jl_walk.specs.Running.{contexts_of, may_lead, may_type, held_looks, contexts_by, settles, if_decided, run_key, ending_key, at_step, value_step, nothing_held, step, run}
use Rattle.jl_walk.specs.Phases.{Phase, at_start, in_lead, follow, is_rest, known, prelude_length}
use Rattle.jl_walk.proofs.Goes.{before-none, then-before}
use Rattle.jl_walk.proofs.HeldMembers.{lead, second, then-same, held-more, held-none, held-one}
use Rattle.jl_walk.proofs.HeldValues.{build-items}
use Rattle.jl_walk.proofs.HeldRuns.{whole, CutsMembers, RunningMembers, end-goes, run-key-goes}

-- the object as what is held and what follows decide and name it
abbrev pub named_by : Phase → Result Inside Fault → (Inside → Members) → Result Entering Fault
named_by st (Err f) hs = Err f
named_by st (Ok i) hs = Ok (entering_as st i (hs i))

abbrev pub decided_from : Settings → Spot → ℕ → Members → Members → Members → Result Entering Fault
decided_from s p b first held ms =
    let cs = contexts_of s p b first in
    let hs = then_members first held in
    named_by (at_start (members_length (then_members hs (prelude_of cs ms)))) (contexts_by s p b first held (prelude_looks cs ms)) (λ i. then_members hs (known i (in_lead (prelude_length cs ms)) ms))

-- the next member isn't the object's context
abbrev pub NotFirst : Members → Members → Members → Type 0
NotFirst first held no_member = Unit {0}
NotFirst first held (member a n v rest) = (nothing_held first held && is_context_name n) ≡ false

abbrev pub LeadingMembers : Settings → Members → Type 0
LeadingMembers s ms =
    (p : Spot) (b : ℕ) (first held : Members) (k : List Frame) (es : List Event) → NotFirst first held ms →
    run s (members_events ms (closes ∷ es)) (leading (lead p b first held k))
    ≡ from (whole s p b (decided_from s p b first held ms) (then_members first held) ms k) (λ l. run s es (at l))

pub held-nothing : (first held : Members) (a : ℕ) (n : Text) (v : Tree) → nothing_held first (held_with held a n v) ≡ false
held-nothing no_member no_member a n v = refl
held-nothing no_member (member b m w rest) a n v = refl
held-nothing (member b m w rest) held a n v = refl

pub later : (first held : Members) (a : ℕ) (n : Text) (v : Tree) (ms : Members) → NotFirst first (held_with held a n v) ms
later first held a n v no_member = tt
later first held a n v (member c m w rest) = ap (λ x. x && is_context_name m) (held-nothing first held a n v)

pub members-assoc : (xs ys zs : Members) → then_members (then_members xs ys) zs ≡ then_members xs (then_members ys zs)
members-assoc no_member ys zs = refl
members-assoc (member a n v rest) ys zs = ap (λ x. member a n v x) (members-assoc rest ys zs)

-- where the contexts fail, nothing follows
pub decided-goes : (s : Settings) (p : Spot) (b : ℕ) (st : Phase) (r : Result Inside Fault) (hs : Inside → Members) (held ms : Members) (k : List Frame) (more es : List Event) (next : Inside → Go) →
    ((i : Inside) → then_go (next i) (run s more) ≡ from (whole s p b (Ok (entering_as st i (hs i))) held ms k) (λ l. run s es (at l))) →
    then_go (if_decided r next) (run s more) ≡ from (whole s p b (named_by st r hs) held ms k) (λ l. run s es (at l))
decided-goes s p b st (Err f) hs held ms k more es next h = refl
decided-goes s p b st (Ok i) hs held ms k more es next h = h i

pub leading-end : (s : Settings) → LeadingMembers s no_member
unfolding run step tree_events
leading-end s p b first held k es nf =
    ap (λ z. then_go (if_decided (contexts_by s p b first held []) (λ i. settle (then_goes (settles s (second p b (at_start (members_length z)) i (in_lead 0) (then_members first held) k)) close))) (run s es)) (sym (held-none (then_members first held)))
    ∙ decided-goes s p b (at_start (members_length (then_members (then_members first held) no_member))) (contexts_by s p b first held []) (λ i. then_members (then_members first held) no_member) (then_members first held) no_member k es es _
    (λ i. end-goes s p b (at_start (members_length (then_members (then_members first held) no_member))) i (then_members first held) k es)

-- the key that ends the prelude
pub ending-key-goes : (s : Settings) (a : ℕ) (n : Text) (v : Tree) (rest : Members) → CutsMembers s (member a n v rest) → RunningMembers s rest →
    (p : Spot) (b : ℕ) (first held : Members) (k : List Frame) (es : List Event) →
    then_go (ending_key s (lead p b first held k) a n) (run s (tree_events v (members_events rest (closes ∷ es))))
    ≡ from (whole s p b (named_by (at_start (members_length (then_members (then_members first held) no_member))) (contexts_by s p b first held (look_at_key n ∷ []))
    (λ i. then_members (then_members first held) (known i (in_lead 0) (member a n v rest)))) (then_members first held) (member a n v rest) k) (λ l. run s es (at l))
ending-key-goes s a n v rest cm rm p b first held k es =
    let hs = then_members first held in
    let more = tree_events v (members_events rest (closes ∷ es)) in
    ap (λ z. then_go (if_decided (contexts_by s p b first held (look_at_key n ∷ [])) (λ i. run_key s (second p b (at_start (members_length z)) i (in_lead 0) hs k) a n)) (run s more)) (sym (held-none hs))
    ∙ decided-goes s p b (at_start (members_length (then_members hs no_member))) (contexts_by s p b first held (look_at_key n ∷ [])) (λ i. then_members hs (known i (in_lead 0) (member a n v rest))) hs (member a n v rest) k more es _
    (λ i. run-key-goes s a n v rest cm rm p b (at_start (members_length (then_members hs no_member))) i (in_lead 0) hs k es)

-- the first event of its value belongs to the state after the key
pub value-cut : (s : Settings) (e : Event) (more : List Event) (p : Spot) (b : ℕ) (first held : Members) (a : ℕ) (n : Text) (k : List Frame) →
    then_go (then_go (ending_key s (lead p b first held k) a n) (value_step s e)) (run s more) ≡ then_go (ending_key s (lead p b first held k) a n) (run s (e ∷ more))
unfolding run step
value-cut s e more p b first held a n k = decided_or (contexts_by s p b first held (look_at_key n ∷ []))
  where
    hs : Members
    hs = then_members first held

    st : Phase
    st = at_start (members_length (then_members first held))

    settled : (r : Step) → then_go (then_go (settle r) (value_step s e)) (run s more) ≡ then_go (settle r) (run s (e ∷ more))
    settled (Ok (q, l)) = then-before (q ++ []) (at_step s e l) (run s more)
    settled (Err f) = refl

    kept : (i : Inside) (b2 : Bool) →
        then_go (then_go (elim b2 [ true ↦ settle (then_goes (settles s (second p b st i (in_lead 0) hs k)) (take_key a n)) | false ↦ go (running_key (second p b st i (follow (in_lead 0) i n) hs k) a n) ]) (value_step s e)) (run s more)
        ≡ then_go (elim b2 [ true ↦ settle (then_goes (settles s (second p b st i (in_lead 0) hs k)) (take_key a n)) | false ↦ go (running_key (second p b st i (follow (in_lead 0) i n) hs k) a n) ]) (run s (e ∷ more))
    kept i true = settled (then_goes (settles s (second p b st i (in_lead 0) hs k)) (take_key a n))
    kept i false = then-before [] (value_step s e (running_key (second p b st i (follow (in_lead 0) i n) hs k) a n)) (run s more)

    decided_or : (r : Result Inside Fault) →
        then_go (then_go (if_decided r (λ i. run_key s (second p b st i (in_lead 0) hs k) a n)) (value_step s e)) (run s more) ≡ then_go (if_decided r (λ i. run_key s (second p b st i (in_lead 0) hs k) a n)) (run s (e ∷ more))
    decided_or (Err f) = refl
    decided_or (Ok i) = kept i (is_rest (follow (in_lead 0) i n))

-- ---- a member of the prelude

abbrev pub decided_if : Settings → Spot → ℕ → Members → Members → ℕ → Text → Tree → Members → Bool → Result Entering Fault
decided_if s p b first held a n v rest x =
    let cs = contexts_of s p b first in
    let hs = then_members first held in
    named_by (at_start (members_length (then_members hs (elim x [ true ↦ member a n v (prelude_of cs rest) | false ↦ no_member ]))))
    (contexts_by s p b first held (elim x [ true ↦ look_at n v ∷ prelude_looks cs rest | false ↦ look_at_key n ∷ [] ]))
    (λ i. then_members hs (known i (in_lead (elim x [ true ↦ suc (prelude_length cs rest) | false ↦ 0 ])) (member a n v rest)))

pub named-same : (st : Phase) (r : Result Inside Fault) (f g : Inside → Members) → ((i : Inside) → f i ≡ g i) → named_by st r f ≡ named_by st r g
named-same st (Err x) f g h = refl
named-same st (Ok i) f g h = ap (λ z. Ok (entering_as st i z)) (h i)

pub looks-more : (hs : Members) (a : ℕ) (n : Text) (v : Tree) (more : List Look) → held_looks (held_with hs a n v) more ≡ held_looks hs (look_at n v ∷ more)
looks-more no_member a n v more = refl
looks-more (member b m w rest) a n v more = ap (λ z. look_at m w ∷ z) (looks-more rest a n v more)

-- what is decided doesn't change as a member is held
pub decided-more : (s : Settings) (p : Spot) (b : ℕ) (first held : Members) (a : ℕ) (n : Text) (v : Tree) (rest : Members) →
    decided_from s p b first (held_with held a n v) rest ≡ decided_if s p b first held a n v rest true
decided-more s p b first held a n v rest =
    let cs = contexts_of s p b first in
    let hs = then_members first held in
    let pr = prelude_of cs rest in
    let looks = prelude_looks cs rest in
    let len = prelude_length cs rest in
    let own = first_context first in
    ap (λ z. named_by (at_start (members_length (then_members z pr))) (contexts_by s p b first (held_with held a n v) looks) (λ i. then_members z (known i (in_lead len) rest)))
    (sym (members-assoc first held (member a n v no_member)))
    ∙ (ap (λ z. named_by (at_start (members_length z)) (contexts_by s p b first (held_with held a n v) looks) (λ i. then_members (held_with hs a n v) (known i (in_lead len) rest))) (held-more hs a n v pr)
    ∙ (ap (λ z. named_by (at_start (members_length (then_members hs (member a n v pr)))) (decide_by s p.context p.under (stand_of p.role.around) b own z) (λ i. then_members (held_with hs a n v) (known i (in_lead len) rest))) (looks-more held a n v looks)
    ∙ named-same _ (contexts_by s p b first held (look_at n v ∷ looks)) _ _ (λ i. held-more hs a n v (known i (in_lead len) rest))))

pub prelude-goes : (s : Settings) (a : ℕ) (n : Text) (v : Tree) (rest : Members) → LeadingMembers s rest → (p : Spot) (b : ℕ) (first held : Members) (k : List Frame) (es : List Event) →
    run s (members_events rest (closes ∷ es)) (leading (lead p b first (held_with held a n v) k))
    ≡ from (whole s p b (decided_if s p b first held a n v rest true) (then_members first held) (member a n v rest) k) (λ l. run s es (at l))
prelude-goes s a n v rest lm p b first held k es =
    let g : List Frame → Go = λ l. run s es (at l) in
    let hs = then_members first held in
    lm p b first (held_with held a n v) k es (later first held a n v rest)
    ∙ (ap (λ z. from (whole s p b z (then_members first (held_with held a n v)) rest k) g) (decided-more s p b first held a n v rest)
    ∙ (ap (λ z. from (whole s p b (decided_if s p b first held a n v rest true) z rest k) g) (sym (members-assoc first held (member a n v no_member)))
    ∙ ap (λ r. from r g) (then-same (enter_at p b (decided_if s p b first held a n v rest true) k) _ _ (λ l. held-one s hs a n v rest l))))

-- a member of an object in its prelude belongs to it, or it ends it, whatever follows
abbrev pub LeadsBy : Settings → ℕ → Text → Tree → Type 0
LeadsBy s a n v =
    (p : Spot) (b : ℕ) (first held : Members) (k : List Frame) (es : List Event) (target : Go) (x y : Bool) →
    may_lead (contexts_of s p b first) n ≡ y → is_in_prelude (contexts_of s p b first) n v ≡ x →
    (x ≡ true → run s es (leading (lead p b first (held_with held a n v) k)) ≡ target) →
    (x ≡ false → then_go (ending_key s (lead p b first held k) a n) (run s (tree_events v es)) ≡ target) →
    then_go (elim y [ true ↦ go (leading_key (lead p b first held k) a n) | false ↦ ending_key s (lead p b first held k) a n ]) (run s (tree_events v es)) ≡ target

leads-scalar : (s : Settings) (a : ℕ) (n : Text) (c : ℕ) (w : Scalar) → LeadsBy s a n (scalar c w)
unfolding run step tree_events
leads-scalar s a n c w p b first held k es target true true e f h j = before-none _ ∙ (before-none _ ∙ h refl)
leads-scalar s a n c w p b first held k es target false false e f h j = j refl
leads-scalar s a n c w p b first held k es target true false e f h j = absurd (let z : true ≡ false = sym f ∙ e in cc)
leads-scalar s a n c w p b first held k es target false true e f h j = absurd (let z : false ≡ true = sym f ∙ e in cc)

kind-leads : (k : Key) → is_kind k ≡ true → is_leading k ≡ true
kind-leads kind e = refl
kind-leads k e = absurd cc

types-lead : (n : Text) (cs : List Context) → may_type cs n ≡ true → may_lead cs n ≡ true
types-lead n [] e = absurd cc
types-lead n (c ∷ cs) e = by (is_kind (key_of c n)) (is_leading (key_of c n)) (kind-leads (key_of c n)) (types-lead n cs) e
  where
    by : (x y : Bool) → (x ≡ true → y ≡ true) → (may_type cs n ≡ true → may_lead cs n ≡ true) → (x || may_type cs n) ≡ true → (y || may_lead cs n) ≡ true
    by true y h t e = ap (λ z. z || may_lead cs n) (h refl)
    by false true h t e = refl
    by false false h t e = t e

-- an array leads where its key may mean `@type`
array-key : (s : Settings) (a : ℕ) (n : Text) (c : ℕ) (xs : Trees) (p : Spot) (b : ℕ) (first held : Members) (k : List Frame) (es : List Event) (x : Bool) →
    may_type (contexts_of s p b first) n ≡ x →
    then_go (go (leading_key (lead p b first held k) a n)) (run s (tree_events (array c xs) es))
    ≡ then_go (elim x [
      | true ↦ go (in_items c no_item (λ v. leading (lead p b first (held_with held a n v) k)))
      | false ↦ then_go (ending_key s (lead p b first held k) a n) (value_step s (opens_array c))
    ]) (run s (items_events xs (closes ∷ es)))
unfolding run step tree_events
array-key s a n c xs p b first held k es x f =
    before-none _
    ∙ ap (λ z. then_go (elim z [
      | true ↦ go (in_items c no_item (λ v. leading (lead p b first (held_with held a n v) k)))
      | false ↦ then_go (ending_key s (lead p b first held k) a n) (value_step s (opens_array c))
    ]) (run s (items_events xs (closes ∷ es)))) f

leads-array : (s : Settings) (a : ℕ) (n : Text) (c : ℕ) (xs : Trees) → LeadsBy s a n (array c xs)
unfolding tree_events
leads-array s a n c xs p b first held k es target true true e f h j =
    array-key s a n c xs p b first held k es true f
    ∙ (before-none _ ∙ (build-items s xs c no_item (λ v. leading (lead p b first (held_with held a n v) k)) es ∙ h refl))
leads-array s a n c xs p b first held k es target false true e f h j =
    array-key s a n c xs p b first held k es false f ∙ (value-cut s (opens_array c) (items_events xs (closes ∷ es)) p b first held a n k ∙ j refl)
leads-array s a n c xs p b first held k es target false false e f h j = j refl
leads-array s a n c xs p b first held k es target true false e f h j = absurd (let z : true ≡ false = sym (types-lead n (contexts_of s p b first) f) ∙ e in cc)

leads-object : (s : Settings) (a : ℕ) (n : Text) (c : ℕ) (ms : Members) → LeadsBy s a n (object c ms)
unfolding run step tree_events
leads-object s a n c ms p b first held k es target false true e f h j =
    before-none _ ∙ (value-cut s (opens_object c) (members_events ms (closes ∷ es)) p b first held a n k ∙ j refl)
leads-object s a n c ms p b first held k es target false false e f h j = j refl
leads-object s a n c ms p b first held k es target true y e f h j = absurd cc

pub leads-by : (s : Settings) (a : ℕ) (n : Text) (v : Tree) → LeadsBy s a n v
leads-by s a n (scalar c w) = leads-scalar s a n c w
leads-by s a n (array c xs) = leads-array s a n c xs
leads-by s a n (object c ms) = leads-object s a n c ms

leads-so : (s : Settings) (a : ℕ) (n : Text) (v : Tree) (rest : Members) → CutsMembers s (member a n v rest) → RunningMembers s rest → LeadingMembers s rest →
    (p : Spot) (b : ℕ) (first held : Members) (k : List Frame) (es : List Event) (x y : Bool) → may_lead (contexts_of s p b first) n ≡ y → is_in_prelude (contexts_of s p b first) n v ≡ x →
    then_go (elim y [ true ↦ go (leading_key (lead p b first held k) a n) | false ↦ ending_key s (lead p b first held k) a n ]) (run s (tree_events v (members_events rest (closes ∷ es))))
    ≡ from (whole s p b (decided_if s p b first held a n v rest x) (then_members first held) (member a n v rest) k) (λ l. run s es (at l))
leads-so s a n v rest cm rm lm p b first held k es true y e f =
    leads-by s a n v p b first held k (members_events rest (closes ∷ es)) _ true y e f
    (λ t. prelude-goes s a n v rest lm p b first held k es)
    (λ t. absurd (let z : true ≡ false = t in cc))
leads-so s a n v rest cm rm lm p b first held k es false y e f =
    leads-by s a n v p b first held k (members_events rest (closes ∷ es)) _ false y e f
    (λ t. absurd (let z : false ≡ true = t in cc))
    (λ t. ending-key-goes s a n v rest cm rm p b first held k es)

pub leading-member : (s : Settings) (a : ℕ) (n : Text) (v : Tree) (rest : Members) → CutsMembers s (member a n v rest) → RunningMembers s rest → LeadingMembers s rest → LeadingMembers s (member a n v rest)
unfolding run step tree_events
leading-member s a n v rest cm rm lm p b first held k es nf =
    ap (λ x. then_go (elim x [
      | true ↦ Err (fault code.NotYet a)
      | false ↦ elim (may_lead (contexts_of s p b first) n) [ true ↦ go (leading_key (lead p b first held k) a n) | false ↦ ending_key s (lead p b first held k) a n ]
    ]) (run s (tree_events v (members_events rest (closes ∷ es))))) nf
    ∙ leads-so s a n v rest cm rm lm p b first held k es (is_in_prelude (contexts_of s p b first) n v) (may_lead (contexts_of s p b first) n) refl refl
