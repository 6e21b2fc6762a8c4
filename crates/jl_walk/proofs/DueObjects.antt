-- What is due of an open object has been put: what its closed members say once it has entered, and what is due of its open one.
use Rattle.std.proofs.Common.{ℕ, ◌≡◌, refl, sym, ◌∙◌, ap, subst, Bool, true, false, not, ◌&&◌, ◌||◌, List, [], ◌∷◌, ◌++◌, Option, Some, None, is_some, Result, Ok, Err, arith}
use Rattle.jl_model.specs.JsonTree.{Tree, Members, no_member, member}
use Rattle.jl_model.specs.Parts.{Parts}
use Rattle.jl_model.specs.declared.faults.Fault.{Fault}
use Rattle.jl_model.specs.declared.terms.Term.{Term}
use Rattle.jl_model.specs.declared.orders.Order.TheVariants.{Streaming}
use Rattle.jl_defs.specs.Texts.{Text}
use Rattle.jl_defs.specs.Context.{TermDef, Context, term}
use Rattle.jl_defs.specs.Process.{Library}
use Rattle.jl_defs.specs.Settings.{Settings, Under, elsewhere}
use Rattle.jl_defs.specs.Keys.{Key, id, kind, value, language, direction, index, other, dropped as dropped_key, property, key_of, is_value}
use Rattle.jl_defs.specs.ObjectContexts.{fault, Inside, Own, first_context, decide}
use Rattle.jl_model.specs.declared.codes.Code.TheVariants as code
use Rattle.jl_defs.specs.ValueObjects.{first_with}
use Rattle.jl_defs.specs.Kept.{own_member}
use Rattle.jl_defs.specs.Expansion.{naming}
use Rattle.jl_defs.specs.NodeMap.{term_of_node}
use Rattle.jl_defs.specs.Sets.{tally}
use Rattle.jl_defs.specs.Settled.{settled, settled_by_key}
use Rattle.jl_defs.specs.OpenTree.{Open, in_member, first_byte, stand_in}
use Rattle.jl_defs.specs.Due as due
use Rattle.jl_defs.specs.Due.{value_due}
use Rattle.jl_laws.specs.Spots.{Spot, stand_of}
use Rattle.jl_laws.specs.Says.{members_say}
use Rattle.jl_walk.specs.Phases.{Phase, follow, past, phase_faults, known, first_phase}
use Rattle.jl_walk.specs.Stage.{unless_own, is_built_key, members_forms}
use Rattle.jl_walk.specs.Frames.{Object, Frame, object as object_frame, spot_in}
use Rattle.jl_walk.specs.Steps.{quiet, unless_fault, if_built}
use Rattle.jl_walk.specs.Opening.{scope_of, Entering, fresh, enter_at}
use Rattle.jl_walk.specs.Keys.{key_of_object, with_phase, take_key}
use Rattle.jl_walk.specs.Feeding.{entering_as, entering, decided, feed_members}
use Rattle.jl_walk.specs.Events.{Event, opens_object, a_key, tree_events, members_events}
use Rattle.jl_walk.specs.States.{at, leading, Go, before, then_go, from}
use Rattle.jl_walk.specs.Running.{opens, opened, step, run}
use Rattle.jl_walk.specs.Laws.{IsPlain}
use Rattle.jl_walk.specs.Closed.{BeginAs}
use Rattle.jl_walk.specs.Due.{open_events}
use Rattle.jl_walk.proofs.Runs.{left-nil, right-nil}
use Rattle.jl_walk.proofs.Phases.{settings_of, late_of, context_of, phased-apart}
use Rattle.jl_walk.proofs.Goes.{before-none, from-then, from-same, then-settle}
use Rattle.jl_walk.proofs.HeldMembers.{members-both}
use Rattle.jl_walk.proofs.Members.{NoJson, after_members}
use Rattle.jl_walk.proofs.Silence.{ArePlain, no-graph-with}
use Rattle.jl_walk.proofs.Objects.{named-so}
use Rattle.jl_walk.proofs.Closing.{object-closes, subject-end, scope-end}
use Rattle.jl_walk.proofs.Walking.{members-run}
use Rattle.jl_walk.proofs.Cutting.{cut-members}
use Rattle.jl_walk.proofs.Entering.{next_key}
use Rattle.jl_walk.proofs.Settling.{with_next, open-enters, last-enters, key-known}
use Rattle.jl_walk.proofs.DueSpots.{due_spot, IsHung, members-due, node-so}
use Rattle.jl_walk.proofs.DueKeys.{Brings, brings-none, brings-never, brings-before, brings-front, brings-same, brings-quiet, brings-run, OpenBrings, key-brings}

-- ---- an object that is no value

first-of : (a b : Bool) → (a || b) ≡ false → a ≡ false
first-of false b e = refl
first-of true b e = absurd cc

second-of : (a b : Bool) → (a || b) ≡ false → b ≡ false
second-of false b e = e
second-of true b e = absurd cc

never-json : (i : Inside) (ph : Phase) (ms : Members) → due.has_key is_value i.final ms ≡ false → NoJson i ph ms
never-json i ph no_member e = tt
never-json i ph (member a n v rest) e = (
  λ t r. absurd (let x : true ≡ false = sym t ∙ first-of (is_value (key_of i.final n)) _ e in cc),
  never-json i (past (follow ph i n) i n v) rest (second-of (is_value (key_of i.final n)) _ e),
)

no-value : (c : Context) (ms : Members) → due.has_key is_value c ms ≡ false → first_with is_value c ms ≡ None
no-value c no_member e = refl
no-value c (member a n v rest) e =
    ap (λ b. elim b [ true ↦ Some v | false ↦ first_with is_value c rest ]) (first-of (is_value (key_of c n)) _ e)
    ∙ no-value c rest (second-of (is_value (key_of c n)) _ e)

abbrev node_if : Bool → Option Term → Option Term
node_if true n = None
node_if false n = n

if-node : (b : Bool) (n : Option Term) → ◌≡◌ {A = Option Term} (elim b [ true ↦ None | false ↦ n ]) (node_if b n)
if-node true n = refl
if-node false n = refl

-- it is named by its closed members
subject-so : (p : Spot) (b : ℕ) (ph : Phase) (i : Inside) (ms ks : Members) → ks ≡ known i ph ms → late_of i ph ms ≡ [] → due.has_key is_value i.final ms ≡ false →
    (fresh p b (entering_as ph i ks)).subject ≡ term_of_node b (naming i.final ms)
subject-so p b ph i ms ks same late none =
    ap (λ x. (fresh p b (entering_as ph i x)).subject) same
    ∙ (ap (λ x. (fresh p b x).subject) (named-so ph i ms late)
    ∙ (if-node (is_some (first_with is_value i.final ms)) (term_of_node b (naming i.final ms))
    ∙ ap (λ x. node_if (is_some x) (term_of_node b (naming i.final ms))) (no-value i.final ms none)))

-- ---- what its closed members say

node-of-so : (base : Option Text) (library : Library) (p : Spot) (b : ℕ) (i : Inside) (ms : Members) (opened_keys : List Key) →
    (let s = settings_of Streaming base library in
    IsPlain p → members_forms s i ms ≡ [] → ArePlain opened_keys →
    due.node_of s (due_spot p) b i ms opened_keys ≡ due.node_spot (term_of_node b (naming i.final ms)) (scope_of p.role.around b p.head.scope))
node-of-so base library p b i ms opened_keys plain built o =
    node-so p.context p.under p.role.around p.role.hanging p.head b (naming i.final ms) _ plain.1
    (no-graph-with base library p.context p.under p.role.around b i ms opened_keys plain.1 built o)

due-so : (f : Parts → ℕ) (base : Option Text) (library : Library) (p : Spot) (b : ℕ) (i : Inside) (ms : Members) (opened_keys : List Key) →
    (let s = settings_of Streaming base library in
    IsPlain p → IsHung p.role.hanging → members_forms s i ms ≡ [] → ArePlain opened_keys →
    tally f (due.members_due s (due_spot p) b i (due.node_of s (due_spot p) b i ms opened_keys) ms)
    ≡ tally f (members_say s i own_member (term_of_node b (naming i.final ms)) (scope_of p.role.around b p.head.scope) ms))
due-so f base library p b i ms opened_keys plain hung built o =
    let s = settings_of Streaming base library in
    let n = due.node_spot (term_of_node b (naming i.final ms)) (scope_of p.role.around b p.head.scope) in
    ap (λ x. tally f (due.members_due s (due_spot p) b i x ms)) (node-of-so base library p b i ms opened_keys plain built o)
    ∙ members-due f s p b i n ms plain.1 hung refl built

-- ---- an object enters, and its closed members are fed

enters-bring : (p : Spot) (b : ℕ) (own : Option Own) (ph : Phase) (r : Result Inside Fault) (full : Members) (k : List Frame) (g : List Frame → Go) (quads : Inside → List Parts) →
    ((i : Inside) → r ≡ Ok i → Brings (g (object_frame p i (fresh p b (entering_as ph i (known i ph full))) ∷ k)) (quads i)) →
    Brings (from (enter_at p b (unless_own own (entering ph r full)) k) g) (due.decided_due r quads)
enters-bring p b (Some own) ph r full k g quads h = brings-never (fault code.NotYet own.at) (due.decided_due r quads)
enters-bring p b None ph (Err x) full k g quads h = brings-none (from (enter_at p b (entering ph (Err x) full) k) g)
enters-bring p b None ph (Ok i) full k g quads h = by (e.valued && e.json)
  where
    e : Entering
    e = entering_as ph i (known i ph full)

    by : (x : Bool) → Brings (from (if_built (not x) b (λ _. quiet (object_frame p i (fresh p b e) ∷ k))) g) (quads i)
    by true = brings-never _ (quads i)
    by false = brings-quiet (g (object_frame p i (fresh p b e) ∷ k)) (quads i) (h i refl)

fed-bring : (s : Settings) (p : Spot) (b : ℕ) (ph : Phase) (i : Inside) (ks ms : Members) (k : List Frame) (next : List Frame → Go) (quads : List Parts) →
    due.has_key is_value i.final ms ≡ false → ks ≡ known i ph ms →
    (let o = fresh p b (entering_as ph i ks) in
    let last = after_members s i ms o in
    let subject = term_of_node b (naming i.final ms) in
    let scope = scope_of p.role.around b p.head.scope in
    (members_forms s i ms ≡ [] → last.subject ≡ subject → last.scope ≡ scope → Brings (before (members_say s i own_member subject scope ms) (next (object_frame p i last ∷ k))) quads) →
    Brings (from (feed_members s ms (object_frame p i o ∷ k)) next) quads)
fed-bring s p b ph i ks ms k next quads none same h =
    let o = fresh p b (entering_as ph i ks) in
    let last = after_members s i ms o in
    brings-run _ _ (feed_members s ms (object_frame p i o ∷ k)) (members_say s i own_member o.subject o.scope ms) (object_frame p i last ∷ k) next quads
    (members-run s (object-closes s) ms p i o k elsewhere [] [] (never-json i ph ms none))
    (λ x y.
    let late = left-nil (late_of i ph ms) (context_of i ph ms) ((phased-apart i ph ms).none (right-nil _ _ x)) in
    let named = subject-so p b ph i ms ks same late none in
    subst (λ n. Brings (before (members_say s i own_member n o.scope ms) (next (object_frame p i last ∷ k))) quads) (sym named)
    (h y (subject-end s i ms o ∙ named) (scope-end s i ms o)))

-- ---- an object between two members

-- the last of some members
record Last (c : ℕ) (m : Text) (w : Tree) (rest : Members) : Type 0 where
  front : Members
  place : ℕ
  name : Text
  val : Tree
  same : member c m w rest ≡ with_next front place name val

the-last : (c : ℕ) (m : Text) (w : Tree) (rest : Members) → Last c m w rest
the-last c m w no_member = record { front = no_member; place = c; name = m; val = w; same = refl }
the-last c m w (member d o v more) =
    let l = the-last d o v more in
    record { front = member c m w l.front; place = l.place; name = l.name; val = l.val; same = ap (λ x. member c m w x) l.same }

events-next : (ms : Members) (a : ℕ) (n : Text) (v : Tree) (es : List Event) → members_events (with_next ms a n v) es ≡ members_events ms (a_key a n ∷ tree_events v es)
unfolding tree_events
events-next no_member a n v es = refl
events-next (member c m w rest) a n v es = ap (λ x. a_key c m ∷ tree_events w x) (events-next rest a n v es)

-- where it is settled it has entered, and its closed members are fed
abbrev Enters : Settings → Spot → ℕ → List Frame → Members → Type 0
Enters s p b k ms =
    settled s p.context p.under (stand_of p.role.around) b ms ≡ true →
    run s (members_events ms []) (leading (opened p b k)) ≡ from (enter_at p b (decided s b ms p) k) (λ m. from (feed_members s ms m) (λ l. run s [] (at l)))

enters-last : (base : Option Text) (library : Library) (p : Spot) (b : ℕ) (k : List Frame) (ms : Members) (a : ℕ) (n : Text) (v : Tree) → Enters (settings_of Streaming base library) p b k (with_next ms a n v)
unfolding tree_events
enters-last base library p b k ms a n v h =
    let s = settings_of Streaming base library in
    let one = member a n v no_member in
    let ends : List Frame → Go = λ l. run s [] (at l) in
    let e = enter_at p b (decided s b (with_next ms a n v) p) k in
    ap (λ es. run s es (leading (opened p b k))) (events-next ms a n v [])
    ∙ (last-enters base library ms p b k a n v [] h
    ∙ (from-then e (feed_members s ms) (next_key s a n (tree_events v []))
    ∙ from-same e _ _ (λ m.
    from-same (feed_members s ms m) _ _ (λ l. (cut-members s refl one).0 l [])
    ∙ (sym (from-then (feed_members s ms m) (feed_members s one) ends)
    ∙ ap (λ r. from r ends) (sym (members-both s ms one m))))))

enters-so : (base : Option Text) (library : Library) (p : Spot) (b : ℕ) (k : List Frame) (ms : Members) → Enters (settings_of Streaming base library) p b k ms
unfolding settled
enters-so base library p b k no_member h = absurd cc
enters-so base library p b k (member c m w rest) h =
    let l = the-last c m w rest in
    subst (Enters (settings_of Streaming base library) p b k) (sym l.same) (enters-last base library p b k l.front l.place l.name l.val) h

pub object-brings : (base : Option Text) (library : Library) (b : ℕ) (ms : Members) (f : Frame) (k : List Frame) (p : Spot) → spot_in f ≡ Some p → IsPlain p → IsHung p.role.hanging →
    (let s = settings_of Streaming base library in
    Brings (run s (opens_object b ∷ members_events ms []) (at (f ∷ k))) (due.object_due s (due_spot p) b ms))
unfolding run step
object-brings base library b ms f k p h plain hung =
    brings-same _ _ _ (ap (λ o. then_go (opens b (f ∷ k) o) (run s (members_events ms []))) h ∙ before-none _)
    (by (settled s p.context p.under (stand_of p.role.around) b ms) refl)
  where
    s : Settings
    s = settings_of Streaming base library

    ph : Phase
    ph = first_phase s p.context p.under (stand_of p.role.around) b ms

    ends : List Frame → Go
    ends l = Ok ([], at l)

    quads : Inside → List Parts
    quads i = due.if_so (not (due.has_key is_value i.final ms)) (λ _. due.members_due s (due_spot p) b i (due.node_of s (due_spot p) b i ms []) ms)

    inner : (i : Inside) (x : Bool) → due.has_key is_value i.final ms ≡ x →
        Brings (from (feed_members s ms (object_frame p i (fresh p b (entering_as ph i (known i ph ms))) ∷ (f ∷ k))) ends)
        (due.if_so (not x) (λ _. due.members_due s (due_spot p) b i (due.node_of s (due_spot p) b i ms []) ms))
    inner i true none = brings-none _
    inner i false none =
        let say = members_say s i own_member (term_of_node b (naming i.final ms)) (scope_of p.role.around b p.head.scope) ms in
        let last = after_members s i ms (fresh p b (entering_as ph i (known i ph ms))) in
        let its_due = due.members_due s (due_spot p) b i (due.node_of s (due_spot p) b i ms []) ms in
        fed-bring s p b ph i (known i ph ms) ms (f ∷ k) ends its_due none refl
        (λ built subject scope. brings-front say (ends (object_frame p i last ∷ (f ∷ k))) its_due (λ w. omega (arith, due-so w base library p b i ms [] plain hung built tt)))

    by : (x : Bool) → settled s p.context p.under (stand_of p.role.around) b ms ≡ x →
        Brings (run s (members_events ms []) (leading (opened p b (f ∷ k))))
        (due.if_so x (λ _. due.decided_due (decide s p.context p.under (stand_of p.role.around) b ms) quads))
    by false e = brings-none _
    by true e =
        brings-same _ _ _ (enters-so base library p b (f ∷ k) ms e)
        (enters-bring p b (first_context ms) ph (decide s p.context p.under (stand_of p.role.around) b ms) ms (f ∷ k) (λ m. from (feed_members s ms m) ends) quads
        (λ i d. inner i (due.has_key is_value i.final ms) refl))

-- ---- an object whose member is open

entry-plain : (q : Key) (t : Option TermDef) (under : Under) → is_built_key q t ≡ true → ArePlain (due.open_entry q under)
entry-plain (property name) t under e = (tt, tt)
entry-plain id t under e = (tt, tt)
entry-plain kind t under e = (tt, tt)
entry-plain value t under e = (tt, tt)
entry-plain language t under e = (tt, tt)
entry-plain direction t under e = (tt, tt)
entry-plain index t under e = (tt, tt)
entry-plain other t under e = tt
entry-plain dropped_key t under e = tt
entry-plain k t under e = absurd cc

-- a run that stops
abbrev Stops : Go → Type 0
Stops g = (x : Fault) × (g ≡ Err x)

brings-stopped : (front : List Parts) (g : Go) (quads : List Parts) → Stops g → Brings (before front g) quads
brings-stopped front g quads (x, e) = brings-same _ _ quads (ap (before front) e) (brings-never x quads)

-- a key of a form that isn't built stops
key-stops : (s : Settings) (a : ℕ) (n : Text) (es : List Event) (p : Spot) (i : Inside) (o : Object) (k : List Frame) →
    is_built_key (key_of i.final n) (term i.final n) ≡ false → Stops (next_key s a n es (object_frame p i o ∷ k))
unfolding run step take_key
key-stops s a n es p i o k e = (
  fault code.NotYet a,
  then-settle (take_key a n (object_frame p i o ∷ k)) (run s es)
      ∙ ap (λ x. from (if_built x a (λ _. unless_fault (phase_faults o.phase i n a) (λ _. key_of_object (key_of i.final n) a n p i (with_phase (follow o.phase i n) o) k))) (λ l. run s es (at l))) e,
)

pub member-brings : (base : Option Text) (library : Library) (b : ℕ) (ms : Members) (ends : List ℕ) (a : ℕ) (n : Text) (next : Open) → BeginAs (first_byte next) (open_events next) →
    (let s = settings_of Streaming base library in
    OpenBrings s next → OpenBrings s (in_member b ms ends a n next))
unfolding run step value_due
member-brings base library b ms ends a n next begins ih f k p h plain hung =
    brings-same _ _ _ (ap (λ o. then_go (opens b (f ∷ k) o) (run s (members_events ms (a_key a n ∷ open_events next)))) h ∙ before-none _)
    (by (settled_by_key s p.context p.under (stand_of p.role.around) b ms a n next) refl)
  where
    s : Settings
    s = settings_of Streaming base library

    full : Members
    full = with_next ms a n (stand_in next)

    ph : Phase
    ph = first_phase s p.context p.under (stand_of p.role.around) b full

    goes-on : List Frame → Go
    goes-on = next_key s a n (open_events next)

    node : Inside → due.NodeSpot
    node i = due.node_of s (due_spot p) b i ms (due.open_entry (key_of i.final n) p.under)

    its_own : Inside → List Parts
    its_own i = due.members_due s (due_spot p) b i (node i) ms

    opens-due : Inside → List Parts
    opens-due i =
        due.open_due (due_spot p) i own_member (node i) n next
        (λ q. value_due s q next)
        (λ g t. due.map_due s i.final t g (node i).scope n next)
        (λ _. due.nested_due s (due_spot p) i (node i) n next)
        (λ _. due.reversed_due s i.final (node i) next)

    quads : Inside → List Parts
    quads i = due.if_so (not (due.has_key is_value i.final ms || is_value (key_of i.final n))) (λ _. its_own i ++ opens-due i)

    with-key : (i : Inside) (x : Bool) → is_built_key (key_of i.final n) (term i.final n) ≡ x → members_forms s i ms ≡ [] → (last : Object) →
        last.subject ≡ term_of_node b (naming i.final ms) → last.scope ≡ scope_of p.role.around b p.head.scope →
        Brings (before (members_say s i own_member (term_of_node b (naming i.final ms)) (scope_of p.role.around b p.head.scope) ms) (goes-on (object_frame p i last ∷ (f ∷ k)))) (its_own i ++ opens-due i)
    with-key i false e built last subject scope =
        let say = members_say s i own_member (term_of_node b (naming i.final ms)) (scope_of p.role.around b p.head.scope) ms in
        brings-stopped say (goes-on (object_frame p i last ∷ (f ∷ k))) (its_own i ++ opens-due i) (key-stops s a n (open_events next) p i last (f ∷ k) e)
    with-key i true e built last subject scope =
        let say = members_say s i own_member (term_of_node b (naming i.final ms)) (scope_of p.role.around b p.head.scope) ms in
        let opened_keys = due.open_entry (key_of i.final n) p.under in
        let plain_keys = entry-plain (key_of i.final n) (term i.final n) p.under e in
        let named = node-of-so base library p b i ms opened_keys plain built plain_keys in
        brings-before say (goes-on (object_frame p i last ∷ (f ∷ k))) (its_own i) (opens-due i)
        (λ w. omega (arith, due-so w base library p b i ms opened_keys plain hung built plain_keys))
        (key-brings s a n next p i last (f ∷ k) (node i) _ _ _ ih e (ap (λ y. y.subject) named ∙ sym subject) (ap (λ y. y.scope) named ∙ sym scope))

    inner : (i : Inside) → known i ph full ≡ known i ph ms → (x : Bool) → (due.has_key is_value i.final ms || is_value (key_of i.final n)) ≡ x →
        Brings (from (feed_members s ms (object_frame p i (fresh p b (entering_as ph i (known i ph full))) ∷ (f ∷ k))) goes-on) (due.if_so (not x) (λ _. its_own i ++ opens-due i))
    inner i same true none = brings-none _
    inner i same false none =
        let o = fresh p b (entering_as ph i (known i ph full)) in
        fed-bring s p b ph i (known i ph full) ms (f ∷ k) goes-on _ (first-of (due.has_key is_value i.final ms) _ none) same
        (λ built subject scope. with-key i (is_built_key (key_of i.final n) (term i.final n)) refl built (after_members s i ms o) subject scope)

    by : (x : Bool) → settled_by_key s p.context p.under (stand_of p.role.around) b ms a n next ≡ x →
        Brings (run s (members_events ms (a_key a n ∷ open_events next)) (leading (opened p b (f ∷ k))))
        (due.if_so x (λ _. due.decided_due (decide s p.context p.under (stand_of p.role.around) b full) quads))
    by false e = brings-none _
    by true e =
        brings-same _ _ _ (open-enters s ms p b (f ∷ k) a n next (open_events next) refl e begins ∙ from-then (enter_at p b (decided s b full p) (f ∷ k)) (feed_members s ms) goes-on)
        (enters-bring p b (first_context full) ph (decide s p.context p.under (stand_of p.role.around) b full) full (f ∷ k) (λ m. from (feed_members s ms m) goes-on) quads
        (λ i d. inner i (key-known base library ms p b a n next i e d) (due.has_key is_value i.final ms || is_value (key_of i.final n)) refl))
