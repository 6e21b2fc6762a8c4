-- An object at its spot: it enters, its members run, it closes.
use Rattle.std.proofs.Common.{ℕ, ◌≡◌, inl, inr, refl, sym, ◌∙◌, ap, Bool, true, false, not, ◌&&◌, ◌||◌, List, [], ◌∷◌, ◌++◌, Option, Some, None, is_some, Result, Ok, Err, ◌⊎◌}
use Rattle.jl_model.specs.JsonTree.{Tree, object, Members, no_member, member}
use Rattle.jl_model.specs.Parts.{Parts}
use Rattle.jl_model.specs.declared.codes.Code.TheVariants as code
use Rattle.jl_model.specs.declared.faults.Fault.{Fault}
use Rattle.jl_model.specs.declared.orders.Order.{Order}
use Rattle.jl_model.specs.declared.orders.Order.TheVariants.{Any, Streaming}
use Rattle.jl_defs.specs.Settings.{Settings, graph_property}
use Rattle.jl_defs.specs.Keys.{key_of, is_id, is_value, is_kind, is_list, is_set, is_graph}
use Rattle.jl_defs.specs.ObjectContexts.{fault, Inside, Own, own_context, decide}
use Rattle.jl_defs.specs.ValueObjects.{ValueType, first_with, all_with, is_json, is_json_type, type_of_values, value_type}
use Rattle.jl_defs.specs.Items.{Naming}
use Rattle.jl_defs.specs.Sets.{Has}
use Rattle.jl_defs.specs.Kept.{own_member, decided_keeps, object_gives, keeps, entries}
use Rattle.jl_defs.specs.Graphs.{reads_as_graph, shape_of}
use Rattle.jl_defs.specs.Expansion.{naming, naming_of, id_text}
use Rattle.jl_defs.specs.Texts.{Text}
use Rattle.jl_defs.specs.Process.{Library}
use Rattle.jl_defs.specs.LateKeys.{late_in, if_so, late_members, late_contexts, late_graphs, all_late_graph, after_graph}
use Rattle.jl_defs.specs.Rest.{rest_of}
use Rattle.jl_defs.specs.MemberFaults.{nothing_seen, closing_faults}
use Rattle.jl_defs.specs.Faults.{decided_faults, members_faults, value_faults, place}
use Rattle.jl_laws.specs.Spots.{Spot, spot, stand_of, inside, ordinary, Said}
use Rattle.jl_laws.specs.Says.{walk, walk_key, members_say, object_says, decided_says}
use Rattle.jl_walk.specs.Frames.{Expected, no_value, property_value, keyword_value, dropped_value, Object, Frame, values, object as object_frame, types, dropped, spot_under, spot_in, told}
use Rattle.jl_walk.specs.Steps.{Step, quiet, after_quads, then_goes, if_built}
use Rattle.jl_walk.specs.Opening.{scope_of, Entering, fresh, enter_at, object_under, enter}
use Rattle.jl_walk.specs.Feeding.{entering_as, entering, decided, feed, feed_members}
use Rattle.jl_walk.specs.Ending.{closing_of, is_kept, said_at_end, close}
use Rattle.jl_walk.specs.Stage.{forms, context_form, unless_own, decided_forms, is_json_object, json_form, members_forms}
use Rattle.jl_walk.specs.Laws.{IsCause, Runs, goes, stops, IsPlain, ValueRuns}
use Rattle.jl_walk.specs.Phases.{phased, Phase, any_time, at_start, in_lead, in_run, in_rest, follow, past, is_rest, known, first_phase}
use Rattle.jl_walk.proofs.Runs.{has-left, has-right, left-nil, right-nil, both-nil, runs-by, only-fault-runs}
use Rattle.jl_walk.proofs.SameFaults.{has-split}
use Rattle.jl_walk.proofs.Phases.{late_of, context_of, phased-apart, phase_lates, phased-same, settings_of}
use Rattle.jl_walk.proofs.Naming.{IsLate, known-all, known-first}
use Rattle.jl_walk.proofs.Silence.{no-graph}
use Rattle.jl_walk.proofs.Values.{the-some}
use Rattle.jl_walk.proofs.Members.{NoJson, NeverJson, MembersRun, after_members}

-- an object enters at the spot of its frame
object-by : (at : ℕ) (e : Expected) (d : Spot → Result Entering Fault) (p : Spot) (i : Inside) (o : Object) (k : List Frame) (q : Spot) → spot_under i o e ≡ Some q →
    object_under at e d p i o k ≡ enter_at q at (d q) (object_frame p i o ∷ k)
object-by at (property_value name iri) d p i o k q e = ap (λ x. enter_at x at (d x) (object_frame p i o ∷ k)) (the-some _ q e)
object-by at no_value d p i o k q e = absurd cc
object-by at (keyword_value x y) d p i o k q e = absurd cc
object-by at dropped_value d p i o k q e = absurd cc

pub object-at-spot : (at : ℕ) (d : Spot → Result Entering Fault) (f : Frame) (k : List Frame) (q : Spot) → spot_in f ≡ Some q → enter at d (f ∷ k) ≡ enter_at q at (d q) (f ∷ k)
unfolding enter
object-at-spot at d (values p) k q e = ap (λ x. enter_at x at (d x) (values p ∷ k)) (the-some p q e)
object-at-spot at d (object_frame p i o) k q e = object-by at o.expects d p i o k q e
object-at-spot at d (types b n g a) k q e = absurd cc
object-at-spot at d dropped k q e = absurd cc

-- after its members an object is what the definitions say of them: its faults at the end, what it says, and whether it
-- keeps something. One lemma on entries and parts; forms that come add their entries to it.
abbrev pub its_end : Settings → Spot → Phase → Inside → ℕ → Members → Object
its_end s p ph i at ms = after_members s i ms (fresh p at (entering_as ph i ms))

abbrev pub said_as : Settings → Spot → Inside → ℕ → Members → Said
said_as s p i at ms =
    object_says (shape_of (reads_as_graph s p.context p.under (stand_of p.role.around) at i ms) (entries s i own_member p.under ms)) p i at ms
    (λ hanging h. walk_key s i is_list (spot i.final p.under ordinary hanging h) ms)
    (λ _. walk_key s i is_set (spot i.final p.under (inside p.role.around) p.role.hanging p.head) ms)
    (λ _. walk_key s i is_graph (spot i.final graph_property ordinary p.role.hanging p.head) ms)
    (λ n scope. members_say s i own_member n scope ms)

pub record Closes (s : Settings) (p : Spot) (i : Inside) (at : ℕ) (ms : Members) (o : Object) : Type 0 where
  pub faults : closing_of p.under i o ≡ closing_faults p.under i at ms (entries s i own_member p.under ms)
  pub says : closing_of p.under i o ≡ [] →
      said_as s p i at ms ≡ (members_say s i own_member (fresh p at (entering_as any_time i ms)).subject (scope_of p.role.around at p.head.scope) ms ++ (said_at_end p o).0, (said_at_end p o).1)
  pub keeps : closing_of p.under i o ≡ [] → object_gives p.under i ms (entries s i own_member p.under ms) ≡ is_kept p.under o

abbrev pub ObjectCloses : Settings → Type 0
ObjectCloses s =
    (p : Spot) (ph : Phase) (i : Inside) (at : ℕ) (ms : Members) (all : List Tree) → IsPlain p → is_json_object i ms ≡ false → members_forms s i ms ≡ [] →
    members_faults s i (place own_member p.under (stand_of p.role.around) all) nothing_seen ms ≡ [] → Closes s p i at ms (its_end s p ph i at ms)

-- no value object of the type `@json`
pub never-json : (i : Inside) (ms : Members) → (is_some (first_with is_value i.final ms) ≡ true → is_json i.input ≡ false) → NeverJson i ms
never-json i no_member h = tt
never-json i (member a n v rest) h = by (λ g. never-json i rest g) (is_value (key_of i.final n)) refl
  where
    by : ((is_some (first_with is_value i.final rest) ≡ true → is_json i.input ≡ false) → NeverJson i rest) → (b : Bool) → is_value (key_of i.final n) ≡ b → NeverJson i (member a n v rest)
    by next true e = let j = h (ap (λ x. is_some (elim x [ true ↦ Some v | false ↦ first_with is_value i.final rest ])) e) in (λ _. j, next (λ _. j))
    by next false e = (λ t. absurd (let x : true ≡ false = sym t ∙ e in cc), next (λ t. h (ap (λ x. is_some (elim x [ true ↦ Some v | false ↦ first_with is_value i.final rest ])) e ∙ t)))

known-rest : (i : Inside) (ms : Members) → is_some (first_with is_value i.final (known i in_rest ms)) ≡ false
known-rest i no_member = refl
known-rest i (member a n v rest) = refl

some-later : (b : Bool) (v : Tree) (later : Option Tree) → is_some later ≡ true → is_some (elim b [ true ↦ Some v | false ↦ later ]) ≡ true
some-later true v later e = refl
some-later false v later e = e

-- none among the members before the rest
pub no-json : (i : Inside) (ph : Phase) (ms : Members) → (is_some (first_with is_value i.final (known i ph ms)) ≡ true → is_json i.input ≡ false) → NoJson i ph ms
no-json i ph no_member h = tt
no-json i ph (member a n v rest) h = by (follow ph i n) (λ g. no-json i (past (follow ph i n) i n v) rest g) h
  where
    early : (x : Phase) → ((is_some (first_with is_value i.final (known i (past x i n v) rest)) ≡ true → is_json i.input ≡ false) → NoJson i (past x i n v) rest) →
        (is_some (first_with is_value i.final (member a n v (known i (past x i n v) rest))) ≡ true → is_json i.input ≡ false) →
        (is_value (key_of i.final n) ≡ true → is_rest x ≡ false → is_json i.input ≡ false) × NoJson i (past x i n v) rest
    early x next h = (
      λ t r. h (ap (λ b. is_some (elim b [ true ↦ Some v | false ↦ first_with is_value i.final (known i (past x i n v) rest) ])) t),
      next (λ t. h (some-later (is_value (key_of i.final n)) v _ t)),
    )

    by : (x : Phase) → ((is_some (first_with is_value i.final (known i (past x i n v) rest)) ≡ true → is_json i.input ≡ false) → NoJson i (past x i n v) rest) →
        (is_some (first_with is_value i.final (elim (is_rest x) [ true ↦ no_member | false ↦ member a n v (known i (past x i n v) rest) ])) ≡ true → is_json i.input ≡ false) →
        (is_value (key_of i.final n) ≡ true → is_rest x ≡ false → is_json i.input ≡ false) × NoJson i (past x i n v) rest
    by in_rest next h = (λ t r. absurd (let x : true ≡ false = r in cc), next (λ t. absurd (let x : true ≡ false = sym t ∙ known-rest i rest in cc)))
    by any_time next h = early any_time next h
    by (at_start left) next h = early (at_start left) next h
    by (in_lead left) next h = early (in_lead left) next h
    by in_run next h = early in_run next h

pub and-or : (a b c : Bool) → (a && (b || c)) ≡ false → a ≡ true → b ≡ false
and-or true true c e t = absurd cc
and-or true false c e t = refl
and-or false b c e t = absurd cc

-- a closing object
close-runs : (s : Settings) (p : Spot) (i : Inside) (at : ℕ) (ms : Members) (o : Object) (f : Frame) (k : List Frame) → Closes s p i at ms o →
    Runs (closing_faults p.under i at ms (entries s i own_member p.under ms)) [] (close (object_frame p i o ∷ (f ∷ k))) (said_at_end p o).0 (told (is_kept p.under o) (said_at_end p o).1 f ∷ k)
unfolding close
close-runs s p i at ms o f k c = runs-by _ _ [] [] _ _ _ _ _ _ c.faults refl refl refl refl (only-fault-runs (closing_of p.under i o) _ _ _ (goes refl refl refl))

late-id : (i : Inside) → IsLate i is_id
late-id i n t = t.no_id

late-kind : (i : Inside) → IsLate i is_kind
late-kind i n t = t.no_kind

late-value : (i : Inside) → IsLate i is_value
late-value i n t = t.no_value

-- where no key is late, the members before the rest name the object as all of them do
pub named-so : (ph : Phase) (i : Inside) (ms : Members) → late_of i ph ms ≡ [] → entering_as ph i (known i ph ms) ≡ entering_as ph i ms
named-so ph i ms e =
    let ks = known i ph ms in
    let x = known-first i is_id (late-id i) ph ms e in
    let y = known-first i is_value (late-value i) ph ms e in
    let z = known-all i is_kind (late-kind i) ph ms e in
    ap (λ t. with_parts (naming_of i.final (id_text t)) (is_some (first_with is_value i.final ks)) (value_type i ks)) x
    ∙ (ap (λ t. with_parts (naming i.final ms) (is_some t) (value_type i ks)) y
    ∙ ap (λ t. with_parts (naming i.final ms) (is_some (first_with is_value i.final ms)) (type_of_values i.base t)) z)
  where
    with_parts : Naming → Bool → ValueType → Entering
    with_parts n v t = record { inside = i; naming = n; valued = v; json = is_json i.input || is_json_type t; phase = ph }

json-so : (ph : Phase) (i : Inside) (ms : Members) → late_of i ph ms ≡ [] → is_json_object i (known i ph ms) ≡ is_json_object i ms
json-so ph i ms e =
    ap (λ t. is_some t && (is_json i.input || is_json_type (value_type i (known i ph ms)))) (known-first i is_value (late-value i) ph ms e)
    ∙ ap (λ t. is_some (first_with is_value i.final ms) && (is_json i.input || is_json_type (type_of_values i.base t))) (known-all i is_kind (late-kind i) ph ms e)

-- an object whose contexts are decided: its members and its end
inside-runs : (s : Settings) (p : Spot) (ph : Phase) (i : Inside) (at : ℕ) (ms : Members) (f : Frame) (k : List Frame) (b : Bool) → ObjectCloses s → MembersRun s ms → IsPlain p → is_json_object i (known i ph ms) ≡ b →
    Runs ((members_faults s i (place own_member p.under (stand_of p.role.around) (all_with is_kind i.final ms)) nothing_seen ms ++ phased i ph ms) ++ closing_faults p.under i at ms (entries s i own_member p.under ms))
    (json_form b at ++ members_forms s i ms)
    (then_goes (if_built (not b) at (λ _. quiet (object_frame p i (fresh p at (entering_as ph i (known i ph ms))) ∷ (f ∷ k)))) (λ l. then_goes (feed_members s ms l) close))
    (said_as s p i at ms).0 (told (object_gives p.under i ms (entries s i own_member p.under ms)) (said_as s p i at ms).1 f ∷ k)
inside-runs s p ph i at ms f k true oc mr plain j = stops _ (inr (refl, inl refl)) refl
inside-runs s p ph i at ms f k false oc mr plain j = by (mr p i o (f ∷ k) (stand_of p.role.around) (all_with is_kind i.final ms) [] fine)
  where
    o : Object
    o = fresh p at (entering_as ph i (known i ph ms))

    full : Object
    full = fresh p at (entering_as ph i ms)

    fine : NoJson i ph ms
    fine = no-json i ph ms (λ t. and-or (is_some (first_with is_value i.final (known i ph ms))) (is_json i.input) (is_json_type (value_type i (known i ph ms))) j t)

    mf : List Fault
    mf = members_faults s i (place own_member p.under (stand_of p.role.around) (all_with is_kind i.final ms)) nothing_seen ms

    fs : List Fault
    fs = mf ++ phased i ph ms

    gs : List Fault
    gs = closing_faults p.under i at ms (entries s i own_member p.under ms)

    m : Object
    m = after_members s i ms full

    right : (x : Fault) → IsCause gs [] x → IsCause (fs ++ gs) (members_forms s i ms) x
    right x (inl h) = inl (has-right fs gs x h)
    right x (inr h) = absurd h.1

    left : (x : Fault) → IsCause fs (members_forms s i ms) x → IsCause (fs ++ gs) (members_forms s i ms) x
    left x (inl h) = inl (has-left fs gs x h)
    left x (inr h) = inr h

    -- the end of an object whose members have no fault
    ends : Closes s p i at ms m → Runs gs [] (close (object_frame p i m ∷ (f ∷ k))) (said_at_end p m).0 (told (is_kept p.under m) (said_at_end p m).1 f ∷ k) →
        fs ≡ [] → members_forms s i ms ≡ [] → feed_members s ms (object_frame p i o ∷ (f ∷ k)) ≡ Ok (members_say s i own_member full.subject full.scope ms, object_frame p i m ∷ (f ∷ k)) →
        Runs (fs ++ gs) (members_forms s i ms) (after_quads [] (then_goes (feed_members s ms (object_frame p i o ∷ (f ∷ k))) close)) (said_as s p i at ms).0
        (told (object_gives p.under i ms (entries s i own_member p.under ms)) (said_as s p i at ms).1 f ∷ k)
    ends c (stops x bad g) a b e = stops x (right x bad) (ap (λ z. after_quads [] (then_goes z close)) e ∙ ap (λ z. after_quads [] (after_quads (members_say s i own_member full.subject full.scope ms) z)) g)
    ends c (goes d h g) a b e =
        let none = c.faults ∙ d in
        goes (both-nil fs gs a d) b
        (ap (λ z. after_quads [] (then_goes z close)) e ∙ (ap (λ z. after_quads [] (after_quads (members_say s i own_member full.subject full.scope ms) z)) g
        ∙ (ap (λ z. Ok (z.0, told (is_kept p.under m) z.1 f ∷ k)) (sym (c.says none)) ∙ ap (λ z. Ok ((said_as s p i at ms).0, told z (said_as s p i at ms).1 f ∷ k)) (sym (c.keeps none)))))

    by : Runs fs (members_forms s i ms) (feed_members s ms (object_frame p i o ∷ (f ∷ k))) (members_say s i own_member o.subject o.scope ms) (object_frame p i (after_members s i ms o) ∷ (f ∷ k)) →
        Runs (fs ++ gs) (members_forms s i ms) (after_quads [] (then_goes (feed_members s ms (object_frame p i o ∷ (f ∷ k))) close)) (said_as s p i at ms).0
        (told (object_gives p.under i ms (entries s i own_member p.under ms)) (said_as s p i at ms).1 f ∷ k)
    by (goes a b e) =
        let none = left-nil (late_of i ph ms) (context_of i ph ms) ((phased-apart i ph ms).none (right-nil mf (phased i ph ms) a)) in
        let c = oc p ph i at ms (all_with is_kind i.final ms) plain (sym (json-so ph i ms none) ∙ j) b (left-nil mf (phased i ph ms) a) in
        let same : o ≡ full = ap (fresh p at) (named-so ph i ms none) in
        ends c (close-runs s p i at ms m f k c) a b (e ∙ ap (λ z. Ok (members_say s i own_member z.subject z.scope ms, object_frame p i (after_members s i ms z) ∷ (f ∷ k))) same)
    by (stops x bad e) = stops x (left x bad) (ap (λ z. after_quads [] (then_goes z close)) e)

-- the late faults of an object: those of the definitions, with what is late for a graph, and late contexts
abbrev lates : Settings → Spot → Inside → ℕ → Members → List Fault
lates s p i at ms = late_members s p.context p.under (stand_of p.role.around) at i ms

-- a fault by the phases is one of the definitions
phase-late : (order : Order) (base : Option Text) (library : Library) (p : Spot) (i : Inside) (at : ℕ) (ms : Members) (x : Fault) →
    (let s = settings_of order base library in
    Has (phase_lates order s p.context p.under (stand_of p.role.around) at i ms) x → Has (lates s p i at ms) x ⊎ Has (late_contexts order ms) x)
phase-late Any base library p i at ms x h = absurd h
phase-late Streaming base library p i at ms x h = by (has-split keys (late_contexts Streaming ms) x h)
  where
    s : Settings
    s = settings_of Streaming base library

    keys : List Fault
    keys = late_in s p.context p.under (stand_of p.role.around) at i ms

    by : Has keys x ⊎ Has (late_contexts Streaming ms) x → Has (lates s p i at ms) x ⊎ Has (late_contexts Streaming ms) x
    by (inl k) = inl (has-left keys (late_graphs s p.context p.under (stand_of p.role.around) at i ms) x k)
    by (inr k) = inr k

-- where there is none by the phases, there is none by the definitions
no-late : (order : Order) (base : Option Text) (library : Library) (p : Spot) (i : Inside) (at : ℕ) (ms : Members) → IsPlain p →
    (let s = settings_of order base library in
    members_forms s i ms ≡ [] → phase_lates order s p.context p.under (stand_of p.role.around) at i ms ≡ [] → (lates s p i at ms ≡ []) × (late_contexts order ms ≡ []))
no-late Any base library p i at ms plain b e = (refl, refl)
no-late Streaming base library p i at ms plain b e =
    let s = settings_of Streaming base library in
    let keys = late_in s p.context p.under (stand_of p.role.around) at i ms in (
      both-nil keys (late_graphs s p.context p.under (stand_of p.role.around) at i ms) (left-nil keys (late_contexts Streaming ms) e)
          (ap (λ y. if_so y (all_late_graph s i p.under (after_graph i (rest_of s p.context p.under (stand_of p.role.around) at i ms)))) (no-graph s p.context p.under p.role.around at i ms plain.1 b)),
      right-nil keys (late_contexts Streaming ms) e,
    )

-- the faults of an object by its phases are among those of the definitions
phases-bad : (s : Settings) (p : Spot) (i : Inside) (at : ℕ) (ms : Members) (mf gs : List Fault) (x : Fault) →
    Has ((mf ++ phased i (first_phase s p.context p.under (stand_of p.role.around) at ms) ms) ++ gs) x →
    Has ((mf ++ (lates s p i at ms ++ gs)) ++ late_contexts s.order ms) x
phases-bad s p i at ms mf gs x h = by (has-split (mf ++ phased i ph ms) gs x h)
  where
    ph : Phase
    ph = first_phase s p.context p.under (stand_of p.role.around) at ms

    late : List Fault
    late = lates s p i at ms

    cf : List Fault
    cf = late_contexts s.order ms

    of_phase : Has late x ⊎ Has cf x → Has ((mf ++ (late ++ gs)) ++ cf) x
    of_phase (inl k) = has-left (mf ++ (late ++ gs)) cf x (has-right mf (late ++ gs) x (has-left late gs x k))
    of_phase (inr k) = has-right (mf ++ (late ++ gs)) cf x k

    of_members : Has mf x ⊎ Has (phased i ph ms) x → Has ((mf ++ (late ++ gs)) ++ cf) x
    of_members (inl k) = has-left (mf ++ (late ++ gs)) cf x (has-left mf (late ++ gs) x k)
    of_members (inr k) =
        of_phase (phase-late s.order s.base s.library p i at ms x ((phased-same s p.context p.under (stand_of p.role.around) at i ms).some x k))

    by : Has (mf ++ phased i ph ms) x ⊎ Has gs x → Has ((mf ++ (late ++ gs)) ++ cf) x
    by (inl k) = of_members (has-split mf (phased i ph ms) x k)
    by (inr k) = has-left (mf ++ (late ++ gs)) cf x (has-right mf (late ++ gs) x (has-right late gs x k))

-- and where there is none, the definitions have none
phases-none : (s : Settings) (p : Spot) (i : Inside) (at : ℕ) (ms : Members) (mf gs : List Fault) → IsPlain p → members_forms s i ms ≡ [] →
    (mf ++ phased i (first_phase s p.context p.under (stand_of p.role.around) at ms) ms) ++ gs ≡ [] →
    (mf ++ (lates s p i at ms ++ gs)) ++ late_contexts s.order ms ≡ []
phases-none s p i at ms mf gs plain b e =
    let ph = first_phase s p.context p.under (stand_of p.role.around) at ms in
    let late = lates s p i at ms in
    let l = left-nil (mf ++ phased i ph ms) gs e in
    let none = (phased-same s p.context p.under (stand_of p.role.around) at i ms).none (right-nil mf (phased i ph ms) l) in
    let two = no-late s.order s.base s.library p i at ms plain b none in
    both-nil (mf ++ (late ++ gs)) (late_contexts s.order ms) (both-nil mf (late ++ gs) (left-nil mf (phased i ph ms) l) (both-nil late gs two.0 (right-nil (mf ++ phased i ph ms) gs e))) two.1

decided-runs : (s : Settings) (p : Spot) (own : Option Own) (r : Result Inside Fault) (at : ℕ) (ms : Members) (f : Frame) (k : List Frame) → ObjectCloses s → MembersRun s ms → IsPlain p →
    (let ph = first_phase s p.context p.under (stand_of p.role.around) at ms in
    Runs (decided_faults r (λ i. members_faults s i (place own_member p.under (stand_of p.role.around) (all_with is_kind i.final ms)) nothing_seen ms
    ++ (late_members s p.context p.under (stand_of p.role.around) at i ms ++ closing_faults p.under i at ms (entries s i own_member p.under ms))) ++ late_contexts s.order ms)
    (context_form own ++ decided_forms r (λ i. json_form (is_json_object i (known i ph ms)) at ++ members_forms s i ms))
    (then_goes (enter_at p at (unless_own own (entering ph r ms)) (f ∷ k)) (λ l. then_goes (feed_members s ms l) close))
    (decided_says p.head r (λ i. said_as s p i at ms)).0
    (told (decided_keeps r (λ i. object_gives p.under i ms (entries s i own_member p.under ms))) (decided_says p.head r (λ i. said_as s p i at ms)).1 f ∷ k))
decided-runs s p (Some own) r at ms f k oc mr plain = stops (fault code.NotYet own.at) (inr (refl, inl refl)) refl
decided-runs s p None (Err x) at ms f k oc mr plain = stops x (inl (inl refl)) refl
decided-runs s p None (Ok i) at ms f k oc mr plain =
    by (inside-runs s p ph i at ms f k (is_json_object i (known i ph ms)) oc mr plain refl)
  where
    ph : Phase
    ph = first_phase s p.context p.under (stand_of p.role.around) at ms

    mf : List Fault
    mf = members_faults s i (place own_member p.under (stand_of p.role.around) (all_with is_kind i.final ms)) nothing_seen ms

    gs : List Fault
    gs = closing_faults p.under i at ms (entries s i own_member p.under ms)

    ps : List ℕ
    ps = json_form (is_json_object i (known i ph ms)) at ++ members_forms s i ms

    by : {t : Step} {q : List Parts} {l : List Frame} → Runs ((mf ++ phased i ph ms) ++ gs) ps t q l →
        Runs ((mf ++ (late_members s p.context p.under (stand_of p.role.around) at i ms ++ gs)) ++ late_contexts s.order ms) ps t q l
    by (goes a b e) = goes (phases-none s p i at ms mf gs plain (right-nil (json_form (is_json_object i (known i ph ms)) at) _ b) a) b e
    by (stops x (inl h) e) = stops x (inl (phases-bad s p i at ms mf gs x h)) e
    by (stops x (inr h) e) = stops x (inr h) e

pub object-runs : (s : Settings) (at : ℕ) (ms : Members) → ObjectCloses s → MembersRun s ms → ValueRuns s (object at ms)
unfolding walk feed value_faults forms keeps
object-runs s at ms oc mr f k p e plain =
    runs-by _ _ _ _ _ _ _ _ _ _ refl refl
    (ap (λ x. then_goes x (λ l. then_goes (feed_members s ms l) close)) (object-at-spot at (decided s at ms) f k p e))
    refl refl
    (decided-runs s p (own_context s.order ms) (decide s p.context p.under (stand_of p.role.around) at ms) at ms f k oc mr plain)
