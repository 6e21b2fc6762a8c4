-- Events where no object is held, and between the members of one that is.
use Rattle.std.proofs.Common.{◌≡◌, ap, false, List, Option, Some, None, ℕ, refl, sym, ◌∙◌, subst, Bool, true, not, ◌&&◌, ◌||◌, [], ◌∷◌, ◌++◌, is_some, Ok, Err, ◌⊎◌, inl, inr}
use Rattle.std.proofs.Math.Bool.{or-false}
use Rattle.std.proofs.lemmas.Bool.{or_parts}
use Rattle.std.specs.List.{list_any}
use Rattle.std.specs.Prelude.{zero}
use Rattle.jl_model.specs.JsonTree.{scalar, array, object, Members, no_member, member}
use Rattle.jl_model.specs.declared.expansions.Expanded.{Expanded}
use Rattle.jl_model.specs.declared.codes.Code.TheVariants as code
use Rattle.jl_defs.specs.Context.{initial, Context}
use Rattle.jl_defs.specs.Settings.{Settings}
use Rattle.jl_defs.specs.Texts.{Text}
use Rattle.jl_defs.specs.Keys.{Key, kind, id, value, language, direction, index, key_of, is_leading, is_kind, is_value}
use Rattle.jl_defs.specs.ObjectContexts.{fault, Inside, Look, look_at_key, is_context_name, leads_in, types_in, type_keys, input_type, decide_by, candidates}
use Rattle.jl_defs.specs.ValueObjects as objects
use Rattle.jl_defs.specs.ValueObjects.{first_with, is_json_type, type_of_values, all_with}
use Rattle.jl_defs.specs.LateKeys.{if_so}
use Rattle.jl_prelude.specs.Classes.{class_of}
use Rattle.jl_prelude.specs.declared.classes.Class.{Class}
use Rattle.jl_prelude.specs.declared.classes.Class.TheVariants as class
use Rattle.jl_laws.specs.Spots.{Spot, stand_of}
use Rattle.jl_walk.specs.Frames.{Frame, object as object_frame, Expected, no_value, Object}
use Rattle.jl_walk.specs.Running as walk
use Rattle.jl_walk.specs.Running.{top_spot, contexts_of, may_lead, may_type, held_looks, contexts_by, if_decided, second_of, run_key, ending_key, opened, opens, takes, value_step, nothing_held}
use Rattle.jl_walk.specs.Phases.{Phase, at_start, in_lead, in_run, in_rest, run_until, follow, is_rest, prelude_length, rest_at, phase_faults}
use Rattle.jl_walk.specs.Steps as steps
use Rattle.jl_walk.specs.Steps.{then_goes, Step, quiet, unless_fault, if_built}
use Rattle.jl_walk.specs.Scalars.{take_scalar}
use Rattle.jl_walk.specs.Opening.{open_array, enter_at, enter, Entering, fresh}
use Rattle.jl_walk.specs.Keys.{take_key, with_phase, key_of_object}
use Rattle.jl_walk.specs.Ending.{close}
use Rattle.jl_walk.specs.Feeding.{entering_as, feed_members}
use Rattle.jl_walk.specs.Fits.{FitsFrames, FitsMembers, FitsObject}
use Rattle.jl_walk.specs.States as states
use Rattle.jl_walk.specs.States.{Second, at, leading, leading_key, running, running_key, Go, go, then_go, settle, members_length}
use Rattle.jl_walk.specs.Stage.{is_built_key}
use Rattle.jl_walk.specs.Events as tree
use Rattle.jl_frames.specs.declared.nodes.Node.{Node}
use Rattle.jl_frames.specs.declared.states.StackState.{StackState}
use Rattle.jl_frames.specs.ReadAs.{read_as}
use Rattle.jl_frames.specs.declared.opens.Open.{Open}
use Rattle.jl_frames.specs.Machine as frames
use Rattle.jl_frames.specs.declared.opens.Open.TheVariants as stack
use Rattle.jl_engine.specs.KeepsFrames.{KeepsFrames, HasSpot, plain_inside, node_valued, AgreesFrames, InRest, KeepsIn}
use Rattle.jl_engine.proofs.KeepsKeys.{has-spot, built-no-context, phase-at}
use Rattle.jl_engine.specs.Moves.{opens_array, opens_other, takes_key, takes_scalar}
use Rattle.jl_engine.specs.Leads.{begun, Admits, holds, decides, refuses, goes_on, is_empty, frame_by}
use Rattle.jl_engine.specs.Reading.{on_stack, takes_value, opens_object, at_step, settles_then, by_admits, step, Read, replay, enters, settles}
use Rattle.jl_engine.specs.TreeEvents.{walked}
use Rattle.jl_engine.specs.Keeping.{AllRest, StandsAt, json_first, Shows, HeldArray, Held, KeysLead, all_lead, lead_by, reader_by, KeepsLead, KeepsRun, PartIs, between, Agrees}
use Rattle.jl_engine.specs.declared.events.Event.{Event}
use Rattle.jl_engine.specs.declared.leads.Lead.{Lead}
use Rattle.jl_engine.specs.declared.leads.LeadPart.{LeadPart}
use Rattle.jl_engine.specs.declared.leads.LeadSpot.{LeadSpot}
use Rattle.jl_engine.specs.declared.readers.Reader.{Reader}
use Rattle.jl_engine.proofs.KeepsFrames.{keeps-array, keeps-close, keeps-key, keeps-other, keeps-scalar, value-here, keeps-enter}
use Rattle.jl_engine.proofs.KeepsLeadTells.{AgreesTo, agrees-then, plain_reader, on-frames, forget-valued, Settled, agrees-settled, settled-so, agrees-go, in-lead, OnLeading, on-leading, RestsIn, array-rests, other-rests, scalar-rests, key-rests, close-rests, close-begins, AfterMembers, last_phase, all-tell, OnObject, step-on, unless-object}
use Rattle.jl_engine.proofs.KeepsLeadShown.{nothing-last, key-last, plain-candidates, plain-decided, input-shown, json-shown, length-all}
use Rattle.jl_engine.specs.declared.events.Event.TheVariants as events
use Rattle.jl_engine.specs.declared.leads.LeadPart.TheVariants as parts
use Rattle.jl_engine.specs.declared.leads.LeadSpot.TheVariants as spots

-- ==== The context of a spot where a value may stand.

its-context : (s : Settings) (p : Spot) (n : Option Node) → HasSpot s p n → p.context ≡ initial s.base
its-context s p None h = ap (λ (x : Spot). x.context) h.1.1
its-context s p (Some n) h = ap (λ (x : Spot). x.context) h.1.1.0

pub spot-plain : (s : Settings) (k : List Frame) (st : StackState) (p : Spot) → KeepsFrames s k st → top_spot k ≡ Some p → p.context ≡ initial s.base
spot-plain s k st p h e = its-context s p st.node (has-spot s false k st.node st.opens p h.1 e)

-- ==== Events where no object is held, and between the members of one that is.

-- ---- it enters

-- the object as what is held decides and names it
abbrev pub held_entering : Settings → Expanded → Members → Entering
held_entering s input ms = entering_as (at_start (prelude_length (initial s.base ∷ []) ms)) (plain_inside s input) ms

and-so : (x y : Bool) → (x && y) ≡ false → x ≡ true → y ≡ false
and-so true y e h = e
and-so false y e h = absurd cc

-- a JSON literal stops it; else it enters
abbrev enters_by : Bool → ℕ → Option Expanded → Bool → StackState → Read
enters_by json place name valued st = elim json [
  | true ↦ Err (fault code.NotYet place)
  | false ↦ on_stack (frames.enter (frame_by place name valued) st) (plain_reader st)
]

pub entering-keeps : (s : Settings) (p : Spot) (place : ℕ) (input : Expanded) (k : List Frame) (st : StackState) (ms : Members) (es : List Event) (m : Lead) (part : LeadPart) (spot : LeadSpot) →
    StandsAt s p k st → Shows (initial s.base) ms m → objects.is_json input ≡ json_first (first_with is_kind (initial s.base) ms) →
    AgreesTo (OnObject s p (plain_inside s input) k (at_start (prelude_length (initial s.base ∷ []) ms)) no_value (is_some (first_with is_value (initial s.base) ms)))
    (enter_at p place (Ok (held_entering s input ms)) k) (enters (lead_by place es part spot m) (plain_reader st))
entering-keeps s p place input k st ms es m part spot h shows j =
    subst (λ t. AgreesTo Q (enter_at p place (Ok e) k) t) (sym same) (by (v && e.json) refl)
  where
    c : Context
    c = initial s.base

    i : Inside
    i = plain_inside s input

    e : Entering
    e = held_entering s input ms

    v : Bool
    v = is_some (first_with is_value c ms)

    Q : List Frame → Reader → Type 0
    Q = OnObject s p i k (at_start (prelude_length (c ∷ []) ms)) no_value v

    same : enters (lead_by place es part spot m) (plain_reader st) ≡ enters_by (v && e.json) place m.name v st
    same =
        ap (λ x. enters_by (x && m.json) place m.name x st) shows.valued
        ∙ ap (λ x. enters_by (v && x) place m.name v st) (shows.json ∙ sym (json-shown s.base ms (objects.is_json input) j))

    next : List Frame
    next = object_frame p i (fresh p place e) ∷ k

    by : (x : Bool) → (v && e.json) ≡ x → AgreesTo Q (if_built (not x) place (λ _. quiet next)) (enters_by x place m.name v st)
    by true f = refl
    by false f =
        unless-object s p i k (at_start (prelude_length (c ∷ []) ms)) no_value v [] [] (fresh p place e) (enters_by false place m.name v st) refl refl
        (subst (λ x. AgreesTo (OnLeading s v) (if_built (not x) place (λ _. quiet next)) (enters_by false place m.name v st)) f
        (on-leading s v (enter_at p place (Ok e) k) (frames.enter (frame_by place m.name v) st) st
        (keeps-enter s place e m.name p k st h.keeps h.top refl shows.name f (λ t. (or_parts (objects.is_json input) _ (and-so v e.json f t)).0))))

-- it enters, and what was held is told
pub settling : (s : Settings) (p : Spot) (place : ℕ) (input : Expanded) (k : List Frame) (st : StackState) (ms : Members) (es : List Event) (m : Lead) (part : LeadPart) (spot : LeadSpot) →
    StandsAt s p k st → Held (initial s.base) ms es → KeysLead (initial s.base) ms → Shows (initial s.base) ms m → objects.is_json input ≡ json_first (first_with is_kind (initial s.base) ms) →
    AgreesTo (AfterMembers s p (plain_inside s input) k (last_phase ms) (is_some (first_with is_value (initial s.base) ms)) (all_lead (initial s.base) ms))
    (then_goes (enter_at p place (Ok (held_entering s input ms)) k) (feed_members s ms)) (settles (initial s.base) (lead_by place es part spot m) (plain_reader st))
settling s p place input k st ms es m part spot h held keys shows j =
    let c = initial s.base in
    let i = plain_inside s input in
    let v = is_some (first_with is_value c ms) in
    agrees-then (OnObject s p i k (at_start (prelude_length (c ∷ []) ms)) no_value v) (AfterMembers s p i k (last_phase ms) v (all_lead c ms))
    (enter_at p place (Ok (held_entering s input ms)) k) (enters (lead_by place es part spot m) (plain_reader st)) (feed_members s ms) (replay c es)
    (entering-keeps s p place input k st ms es m part spot h shows j)
    (λ l r x. all-tell s input p k v ms es l r held keys (λ t. t) x)

-- ---- its rest begins

-- the phase isn't kept
phase-in : (s : Settings) (p : Spot) (i : Inside) (o : Object) (k : List Frame) (ph : Phase) (n : Option Node) (opened : List Open) →
    KeepsIn s false (object_frame p i o ∷ k) n opened → KeepsIn s false (object_frame p i (with_phase ph o) ∷ k) n opened
phase-in s p i o k ph (Some n) (stack.Object outer ∷ opened) h = (phase-at s false p i o k n ph h.0, h.1)
phase-in s p i o k ph n opened h = absurd h

-- the key after the prelude is one of the rest
pub rest-follows : (s : Settings) (input : Expanded) (n : Text) → is_leading (key_of (initial s.base) n) ≡ false → follow (in_lead zero) (plain_inside s input) n ≡ in_rest
rest-follows s input n e = ap (λ x. run_until (not x || false)) e

pub last-follows : (s : Settings) (input : Expanded) (n : Text) (ms : Members) → is_leading (key_of (initial s.base) n) ≡ false → follow (last_phase ms) (plain_inside s input) n ≡ in_rest
last-follows s input n no_member e = rest-follows s input n e
last-follows s input n (member a m v rest) e = rest-follows s input n e

last-faults : (s : Settings) (input : Expanded) (a : ℕ) (n : Text) (ms : Members) → is_leading (key_of (initial s.base) n) ≡ false → is_context_name n ≡ false →
    phase_faults (last_phase ms) (plain_inside s input) n a ≡ phase_faults in_rest (plain_inside s input) n a
last-faults s input a n no_member e h =
    ap (λ x. rest_at x (plain_inside s input) n a) (rest-follows s input n e)
    ∙ ap (λ x. if_so x (fault code.LateContext a ∷ []) ++ rest_at in_rest (plain_inside s input) n a) (sym h)
last-faults s input a n (member b m v rest) e h =
    ap (λ x. if_so (is_context_name n) (fault code.LateContext a ∷ []) ++ rest_at x (plain_inside s input) n a) (rest-follows s input n e)

rest-same : (s : Settings) (input : Expanded) (a : ℕ) (n : Text) (p : Spot) (o : Object) (k : List Frame) →
    (let i = plain_inside s input in
    (is_context_name n ≡ false → phase_faults o.phase i n a ≡ phase_faults in_rest i n a) → follow o.phase i n ≡ in_rest →
    take_key a n (object_frame p i o ∷ k) ≡ take_key a n (object_frame p i (with_phase in_rest o) ∷ k))
unfolding take_key
rest-same s input a n p o k e f = by (is_built_key (key_of i.final n) None) refl
  where
    i : Inside
    i = plain_inside s input

    next : Phase → Unit {0} → Step
    next ph _ = key_of_object (key_of i.final n) a n p i (with_phase ph o) k

    by : (b : Bool) → is_built_key (key_of i.final n) None ≡ b →
        if_built b a (λ _. unless_fault (phase_faults o.phase i n a) (next (follow o.phase i n))) ≡ if_built b a (λ _. unless_fault (phase_faults in_rest i n a) (next in_rest))
    by false h = refl
    by true h =
        ap (λ fs. unless_fault fs (next (follow o.phase i n))) (e (built-no-context s.base n h)) ∙ ap (λ ph. unless_fault (phase_faults in_rest i n a) (next ph)) f

pub rest-key : (s : Settings) (input : Expanded) (a : ℕ) (n : Text) (p : Spot) (k : List Frame) (v all : Bool) (ms : Members) (l : List Frame) (r : Reader) → AllRest k →
    is_leading (key_of (initial s.base) n) ≡ false → AfterMembers s p (plain_inside s input) k (last_phase ms) v all l r →
    AgreesTo (Settled s) (take_key a n l) (at_step (initial s.base) false (events.Key a n) r)
rest-key s input a n p k v all ms l r rests e h =
    let c = initial s.base in
    let i = plain_inside s input in
    let x = h.0 in
    let o = x.said in
    let top = object_frame p i (with_phase in_rest o) ∷ k in
    let keeps : KeepsFrames s top x.stack = (x.keeps.0, phase-in s p i o k in_rest x.stack.node x.stack.opens x.keeps.1) in
    let same = rest-same s input a n p o k (λ no. ap (λ y. phase_faults y i n a) x.phase ∙ last-faults s input a n ms e no) (ap (λ y. follow y i n) x.phase ∙ last-follows s input n ms e) in
    step-on (Settled s) (take_key a n) (at_step c false (events.Key a n)) l (object_frame p i o ∷ k) r (plain_reader x.stack) x.frames x.reader
    (subst (λ y. AgreesTo (Settled s) y (at_step c false (events.Key a n) (plain_reader x.stack))) (sym same)
    (settled-so s (take_key a n top) (at_step c false (events.Key a n) (plain_reader x.stack)) (key-rests a n top (refl, rests))
    (on-frames s (take_key a n top) _ x.stack (keeps-key s a n top x.stack keeps refl))))

-- ---- it closes

pub rest-close : (s : Settings) (p : Spot) (i : Inside) (k : List Frame) (ph : Phase) (v all : Bool) (l : List Frame) (r : Reader) → AllRest k → AfterMembers s p i k ph v all l r →
    AgreesTo (Settled s) (close l) (at_step (initial s.base) false events.Closes r)
rest-close s p i k ph v all l r rests h =
    let c = initial s.base in
    let x = h.0 in
    let top = object_frame p i x.said ∷ k in
    step-on (Settled s) close (at_step c false events.Closes) l top r (plain_reader x.stack) x.frames x.reader
    (settled-so s (close top) (at_step c false events.Closes (plain_reader x.stack)) (close-begins (object_frame p i x.said) k rests)
    (on-frames s (close top) _ x.stack (keeps-close s top x.stack x.keeps (subst (λ (y : Expected). FitsObject y tree.closes) (sym x.expects) tt))))

-- ---- where no object is held

in-rest : (k : List Frame) → AllRest k → InRest k
in-rest (object_frame p i o ∷ k) h = h.0
in-rest x h = tt

settled-step : (s : Settings) (x : steps.Step) (t : frames.Step) (st : StackState) → RestsIn x → AgreesFrames s x t → Agrees s (settle x) (on_stack t (plain_reader st))
settled-step s x t st r h = agrees-settled s x (on_stack t (plain_reader st)) (settled-so s x (on_stack t (plain_reader st)) r (on-frames s x t st h))

object-opens : (s : Settings) (b : ℕ) (k : List Frame) (st : StackState) → KeepsFrames s k st → AllRest k →
    Agrees s (opens b k (top_spot k)) (opens_object (takes_value (read_as st)) b (plain_reader st))
object-opens s b k st h r =
    subst (λ x. Agrees s (opens b k (top_spot k)) (opens_object x b (plain_reader st))) (sym (value-here s k st h)) (by (top_spot k) refl)
  where
    by : (o : Option Spot) → top_spot k ≡ o → Agrees s (opens b k o) (opens_object (is_some o) b (plain_reader st))
    by None e =
        settled-step s (enter b (λ p. Err (fault code.NotYet b)) k) (opens_other b st) st (other-rests b (fault code.NotYet b) k r)
        (forget-valued s (node_valued st.node) (enter b (λ p. Err (fault code.NotYet b)) k) (opens_other b st) (keeps-other s b (λ p. Err (fault code.NotYet b)) k st (node_valued st.node) h refl e))
    by (Some p) e =
        agrees-go s _ _ _ (reader_by st (begun b)) refl refl (between (in-lead s (record { spot = p; place = b; first = no_member; held = no_member; frames = k }) [] [] (begun b) st refl (record {
          stands = record { top = e; keeps = h; rests = r };
          first = refl;
          held = refl;
          keys = tt;
          leads = refl;
          shows = record { named = refl; name = refl; valued = refl; json = refl };
          typed = refl;
        })))

pub at-steps : (s : Settings) (e : Event) (k : List Frame) (st : StackState) → KeepsFrames s k st → AllRest k → FitsFrames k (walked e) →
    Agrees s (walk.step s (walked e) (at k)) (step (initial s.base) e (plain_reader st))
unfolding step walk.step
at-steps s (events.OpensObject b) k st h r f = object-opens s b k st h r
at-steps s (events.OpensArray b) k st h r f =
    settled-step s (open_array b k) (opens_array b st) st (array-rests b k r) (forget-valued s (node_valued st.node) (open_array b k) (opens_array b st) (keeps-array s b k st (node_valued st.node) h refl))
at-steps s events.Closes k st h r f = settled-step s (close k) (frames.close st) st (close-rests k r) (keeps-close s k st h f)
at-steps s (events.Key a n) k st h r f = settled-step s (take_key a n k) (takes_key (initial s.base) false a n st) st (key-rests a n k r) (keeps-key s a n k st h (in-rest k r))
at-steps s (events.Value b v) k st h r f =
    settled-step s (take_scalar s b v k) (takes_scalar (initial s.base) b v st) st (scalar-rests s b v k r)
    (forget-valued s (node_valued st.node) (take_scalar s b v k) (takes_scalar (initial s.base) b v st) (keeps-scalar s b v k st (node_valued st.node) h refl))

-- ---- an object that settles

abbrev walk_settles : Settings → Spot → ℕ → ℕ → Inside → Members → List Frame → steps.Step
walk_settles s p b left i ms k = then_goes (enter_at p b (Ok (entering_as (at_start left) i ms)) k) (feed_members s ms)

-- then an event, as it stands for a move
settles-so : (s : Settings) (p : Spot) (b : ℕ) (input : Expanded) (k : List Frame) (st : StackState) (ms : Members) (es : List Event) (m : Lead) (part : LeadPart) (spot : LeadSpot) (left : ℕ) (f : List Frame → steps.Step) (e : Event) →
    StandsAt s p k st → Held (initial s.base) ms es → KeysLead (initial s.base) ms → Shows (initial s.base) ms m → objects.is_json input ≡ json_first (first_with is_kind (initial s.base) ms) → left ≡ prelude_length (initial s.base ∷ []) ms →
    ((l : List Frame) (r : Reader) → AfterMembers s p (plain_inside s input) k (last_phase ms) (is_some (first_with is_value (initial s.base) ms)) (all_lead (initial s.base) ms) l r →
    AgreesTo (Settled s) (f l) (at_step (initial s.base) false e r)) →
    Agrees s (settle (then_goes (walk_settles s p b left (plain_inside s input) ms k) f)) (settles_then (initial s.base) e (lead_by b es part spot m) (plain_reader st))
settles-so s p b input k st ms es m part spot left f e h held keys shows j same next =
    let c = initial s.base in
    let t = settles_then c e (lead_by b es part spot m) (plain_reader st) in
    let all = walk_settles s p b (prelude_length (c ∷ []) ms) (plain_inside s input) ms k in
    subst (λ x. Agrees s (settle (then_goes (walk_settles s p b x (plain_inside s input) ms k) f)) t) (sym same)
    (agrees-settled s (then_goes all f) t
    (agrees-then (AfterMembers s p (plain_inside s input) k (last_phase ms) (is_some (first_with is_value c ms)) (all_lead c ms)) (Settled s) all _ f (at_step c false e)
    (settling s p b input k st ms es m part spot h held keys shows j) next))

-- ---- an object in its prelude

abbrev pub plain_lead : Spot → ℕ → Members → List Frame → states.Lead
plain_lead p b held k = record { spot = p; place = b; first = no_member; held = held; frames = k }

abbrev pub decided_input : Settings → Members → List Look → Expanded
decided_input s held more = input_type (initial s.base) (type_keys (initial s.base) (held_looks held more))

-- its contexts are the initial one
pub lead-decided : (s : Settings) (p : Spot) (b : ℕ) (held : Members) (more : List Look) → p.context ≡ initial s.base →
    contexts_by s p b no_member held more ≡ Ok (plain_inside s (decided_input s held more))
lead-decided s p b held more e =
    ap (λ x. decide_by s x p.under (stand_of p.role.around) b None (held_looks held more)) e ∙ plain-decided s s.base p.under (stand_of p.role.around) b (held_looks held more)

lead-candidates : (s : Settings) (p : Spot) (b : ℕ) → p.context ≡ initial s.base → contexts_of s p b no_member ≡ initial s.base ∷ []
lead-candidates s p b e = ap (λ x. candidates s x p.under (stand_of p.role.around) b None) e ∙ plain-candidates s s.base p.under (stand_of p.role.around) b

pub leads-so : (s : Settings) (p : Spot) (b : ℕ) (n : Text) → p.context ≡ initial s.base → may_lead (contexts_of s p b no_member) n ≡ is_leading (key_of (initial s.base) n)
leads-so s p b n e = ap (λ cs. list_any (leads_in n) cs) (lead-candidates s p b e) ∙ or-false (is_leading (key_of (initial s.base) n))

pub types-so : (s : Settings) (p : Spot) (b : ℕ) (n : Text) → p.context ≡ initial s.base → may_type (contexts_of s p b no_member) n ≡ is_kind (key_of (initial s.base) n)
types-so s p b n e = ap (λ cs. list_any (types_in n) cs) (lead-candidates s p b e) ∙ or-false (is_kind (key_of (initial s.base) n))

-- a key that ends the prelude
key-ends : (s : Settings) (p : Spot) (b : ℕ) (held : Members) (k : List Frame) (es : List Event) (m : Lead) (st : StackState) (a : ℕ) (n : Text) → p.context ≡ initial s.base →
    KeepsLead s (plain_lead p b held k) es m st → is_leading (key_of (initial s.base) n) ≡ false →
    Agrees s (ending_key s (plain_lead p b held k) a n) (settles_then (initial s.base) (events.Key a n) (lead_by b es parts.Prelude spots.Between m) (plain_reader st))
key-ends s p b held k es m st a n e h w =
    let c = initial s.base in
    let l = plain_lead p b held k in
    let more = look_at_key n ∷ [] in
    let input = decided_input s held more in
    let i = plain_inside s input in
    let t = settles_then c (events.Key a n) (lead_by b es parts.Prelude spots.Between m) (plain_reader st) in
    subst (λ x. Agrees s (if_decided x (λ j. run_key s (second_of l j) a n)) t) (sym (lead-decided s p b held more e))
    (subst (λ x. Agrees s (elim (is_rest x) [
      | true ↦ settle (then_goes (walk.settles s (second_of l i)) (take_key a n))
      | false ↦ go (running_key (record (second_of l i) { phase = x }) a n)
    ]) t) (sym (rest-follows s input n w))
    (settles-so s p b input k st held es m parts.Prelude spots.Between (members_length held) (take_key a n) (events.Key a n) h.stands h.held h.keys h.shows
    (input-shown s.base (stand_of p.role.around) held more (key-last c n)) (length-all c held h.leads)
    (λ y r x. rest-key s input a n p k (is_some (first_with is_value c held)) (all_lead c held) held y r h.stands.rests w x)))

-- its end
lead-closes : (s : Settings) (p : Spot) (b : ℕ) (held : Members) (k : List Frame) (es : List Event) (m : Lead) (st : StackState) → p.context ≡ initial s.base →
    KeepsLead s (plain_lead p b held k) es m st →
    Agrees s (if_decided (contexts_by s p b no_member held []) (λ i. settle (then_goes (walk.settles s (second_of (plain_lead p b held k) i)) close)))
    (settles_then (initial s.base) events.Closes (lead_by b es parts.Prelude spots.Between m) (plain_reader st))
lead-closes s p b held k es m st e h =
    let c = initial s.base in
    let l = plain_lead p b held k in
    let input = decided_input s held [] in
    let t = settles_then c events.Closes (lead_by b es parts.Prelude spots.Between m) (plain_reader st) in
    subst (λ x. Agrees s (if_decided x (λ i. settle (then_goes (walk.settles s (second_of l i)) close))) t) (sym (lead-decided s p b held [] e))
    (settles-so s p b input k st held es m parts.Prelude spots.Between (members_length held) close events.Closes h.stands h.held h.keys h.shows
    (input-shown s.base (stand_of p.role.around) held [] (nothing-last c)) (length-all c held h.leads)
    (λ y r x. rest-close s p (plain_inside s input) k (last_phase held) (is_some (first_with is_value c held)) (all_lead c held) y r h.stands.rests x))

-- nothing is held where no event is
nothing-empty : (c : Context) (held : Members) (es : List Event) → Held c held es → nothing_held no_member held ≡ is_empty es
nothing-empty c no_member es h = ap is_empty (sym h)
nothing-empty c (member a n (scalar b v) rest) es h = ap is_empty (sym h.1.0)
nothing-empty c (member a n (array b xs) rest) es h =
    (elim (is_kind (key_of c n)) as (λ x. HeldArray x a n b xs (Held c rest) es → false ≡ is_empty es) [ true ↦ λ g. ap is_empty (sym g.1.1.0) | false ↦ λ g. ap is_empty (sym g.1) ]) h
nothing-empty c (member a n (object b ms) rest) es h = ap is_empty (sym h.1)

goes-prelude : (q : Key) → goes_on parts.Prelude (class_of q) ≡ is_leading q
goes-prelude id = refl
goes-prelude x = refl

-- what the reader does with a key
abbrev key_admits : Bool → Bool → ℕ → Class → Lead → Admits
key_admits first goes a k l = elim first [
  | true ↦ refuses (fault code.NotYet a)
  | false ↦ elim goes [ true ↦ holds (record l { spot = spots.After k }) | false ↦ decides ]
]

lead-key : (s : Settings) (p : Spot) (b : ℕ) (held : Members) (k : List Frame) (es : List Event) (m : Lead) (st : StackState) (a : ℕ) (n : Text) → p.context ≡ initial s.base →
    KeepsLead s (plain_lead p b held k) es m st →
    Agrees s (walk.lead_step s (walked (events.Key a n)) (plain_lead p b held k)) (step (initial s.base) (events.Key a n) (reader_by st (lead_by b es parts.Prelude spots.Between m)))
unfolding step
lead-key s p b held k es m st a n e h =
    subst (λ x. Agrees s (elim (nothing_held no_member held && is_context_name n) [
      | true ↦ Err (fault code.NotYet a)
      | false ↦ elim x [ true ↦ go (leading_key l a n) | false ↦ ending_key s l a n ]
    ]) (by_admits (key_admits (is_empty es && is_context_name n) (goes_on parts.Prelude (class_of q)) a (class_of q) m1) c (events.Key a n) m1 r1)) (sym (leads-so s p b n e))
    (subst (λ x. Agrees s (elim (nothing_held no_member held && is_context_name n) [
      | true ↦ Err (fault code.NotYet a)
      | false ↦ elim (is_leading q) [ true ↦ go (leading_key l a n) | false ↦ ending_key s l a n ]
    ]) (by_admits (key_admits (is_empty es && is_context_name n) x a (class_of q) m1) c (events.Key a n) m1 r1)) (sym (goes-prelude q))
    (subst (λ x. Agrees s (elim (nothing_held no_member held && is_context_name n) [
      | true ↦ Err (fault code.NotYet a)
      | false ↦ elim (is_leading q) [ true ↦ go (leading_key l a n) | false ↦ ending_key s l a n ]
    ]) (by_admits (key_admits (x && is_context_name n) (is_leading q) a (class_of q) m1) c (events.Key a n) m1 r1)) (nothing-empty c held es h.held)
    (by (nothing_held no_member held && is_context_name n) (is_leading q) refl refl)))
  where
    c : Context
    c = initial s.base

    q : Key
    q = key_of (initial s.base) n

    l : states.Lead
    l = plain_lead p b held k

    m1 : Lead
    m1 = lead_by b es parts.Prelude spots.Between m

    r1 : Reader
    r1 = reader_by st m1

    by : (x y : Bool) → (nothing_held no_member held && is_context_name n) ≡ x → is_leading q ≡ y →
        Agrees s (elim x [
          | true ↦ Err (fault code.NotYet a)
          | false ↦ elim y [ true ↦ go (leading_key l a n) | false ↦ ending_key s l a n ]
        ]) (by_admits (key_admits x y a (class_of q) m1) c (events.Key a n) m1 r1)
    by true y f g = refl
    by false true f g = (reader_by st (lead_by b (es ++ events.Key a n ∷ []) parts.Prelude (spots.After (class_of q)) m), (refl, between (st, (es, (m, (refl, (h, g)))))))
    by false false f g = key-ends s p b held k es m st a n e h g

pub lead-steps : (s : Settings) (e : Event) (p : Spot) (b : ℕ) (held : Members) (k : List Frame) (es : List Event) (m : Lead) (st : StackState) →
    KeepsLead s (plain_lead p b held k) es m st → FitsMembers (walked e) →
    Agrees s (walk.step s (walked e) (leading (plain_lead p b held k))) (step (initial s.base) e (reader_by st (lead_by b es parts.Prelude spots.Between m)))
unfolding step walk.step
lead-steps s (events.Key a n) p b held k es m st h f = lead-key s p b held k es m st a n (spot-plain s k st p h.stands.keeps h.stands.top) h
lead-steps s events.Closes p b held k es m st h f = lead-closes s p b held k es m st (spot-plain s k st p h.stands.keeps h.stands.top) h
lead-steps s x p b held k es m st h f = absurd f

-- ---- an object in its second run: it stops once it has entered

run-settles : (s : Settings) (q : Second) (input : Expanded) (es : List Event) (m : Lead) (st : StackState) (part : LeadPart) (spot : LeadSpot) (f : List Frame → steps.Step) (e : Event) →
    KeepsRun s (record q { inside = plain_inside s input }) es m st →
    Agrees s (settle (then_goes (walk.settles s (record q { inside = plain_inside s input })) f)) (settles_then (initial s.base) e (lead_by q.place es part spot m) (plain_reader st))
run-settles s q input es m st part spot f e h =
    let c = initial s.base in
    let t = settles_then c e (lead_by q.place es part spot m) (plain_reader st) in
    let i = plain_inside s input in
    subst (λ x. Agrees s (settle (then_goes (then_goes (enter_at q.spot q.place (Ok (entering_as x i q.held)) q.frames) (feed_members s q.held)) f)) t) (sym h.start)
    (settles-so s q.spot q.place input q.frames st q.held es m part spot (prelude_length (c ∷ []) q.held) f e h.stands h.held h.keys h.shows h.input refl
    (λ l r x. absurd (let z : true ≡ false = sym x.1 ∙ h.stops in cc)))

-- a key goes on with the run, or it is one of the rest
abbrev GoesOn : LeadPart → Key → Phase → Type 0
GoesOn part q next = (goes_on part (class_of q) ≡ true) × ((next ≡ in_run) × ((is_leading q ≡ true) × ((is_kind q ≡ false) × (part ≡ parts.Run))))

run-key : (q : Key) (part : LeadPart) → part ≡ parts.Run → GoesOn part q (run_until (not (is_leading q) || (is_kind q || false))) ⊎ ((goes_on part (class_of q) ≡ false) × (run_until (not (is_leading q) || (is_kind q || false)) ≡ in_rest))
run-key id part e = inl (ap (λ x. goes_on x class.Identifier) e, (refl, (refl, (refl, e))))
run-key value part e = inl (ap (λ x. goes_on x class.Value) e, (refl, (refl, (refl, e))))
run-key language part e = inl (ap (λ x. goes_on x class.Aside) e, (refl, (refl, (refl, e))))
run-key direction part e = inl (ap (λ x. goes_on x class.Aside) e, (refl, (refl, (refl, e))))
run-key index part e = inl (ap (λ x. goes_on x class.Aside) e, (refl, (refl, (refl, e))))
run-key kind part e = inr (ap (λ x. goes_on x class.Kind) e, refl)
run-key q part e = inr (ap (λ x. goes_on x class.Other) e, refl)

part-key : (s : Settings) (input : Expanded) (n : Text) (ph : Phase) (part : LeadPart) → PartIs ph part →
    GoesOn part (key_of (initial s.base) n) (follow ph (plain_inside s input) n) ⊎ ((goes_on part (class_of (key_of (initial s.base) n)) ≡ false) × (follow ph (plain_inside s input) n ≡ in_rest))
part-key s input n in_run part h = run-key (key_of (initial s.base) n) part h
part-key s input n in_rest part h = inr (ap (λ x. goes_on x (class_of (key_of (initial s.base) n))) h, refl)
part-key s input n x part h = absurd h

-- something is held
held-some : (c : Context) (held : Members) (es : List Event) → Held c held es → all_lead c held ≡ false → is_empty es ≡ false
held-some c no_member es h e = absurd cc
held-some c (member a n v rest) es h e = sym (nothing-empty c (member a n v rest) es h)

run-key-steps : (s : Settings) (q : Second) (input : Expanded) (es : List Event) (m : Lead) (st : StackState) (part : LeadPart) (a : ℕ) (n : Text) →
    KeepsRun s (record q { inside = plain_inside s input }) es m st → PartIs q.phase part →
    Agrees s (run_key s (record q { inside = plain_inside s input }) a n) (step (initial s.base) (events.Key a n) (reader_by st (lead_by q.place es part spots.Between m)))
unfolding step
run-key-steps s q input es m st part a n h pt =
    subst (λ x. Agrees s (goes (follow q.phase i n)) (by_admits (key_admits (x && is_context_name n) (goes_on part (class_of key)) a (class_of key) m1) c (events.Key a n) m1 r1)) (sym (held-some c q.held es h.held h.stops))
    (by (part-key s input n q.phase part pt))
  where
    c : Context
    c = initial s.base

    i : Inside
    i = plain_inside s input

    key : Key
    key = key_of (initial s.base) n

    q1 : Second
    q1 = record q { inside = plain_inside s input }

    m1 : Lead
    m1 = lead_by q.place es part spots.Between m

    r1 : Reader
    r1 = reader_by st m1

    goes : Phase → Go
    goes ph = elim (is_rest ph) [ true ↦ settle (then_goes (walk.settles s q1) (take_key a n)) | false ↦ go (running_key (record q1 { phase = ph }) a n) ]

    so : KeepsRun s (record q1 { phase = in_run }) es m st
    so = record {
      stands = h.stands;
      plain = h.plain;
      start = h.start;
      held = h.held;
      keys = h.keys;
      stops = h.stops;
      shows = h.shows;
      input = h.input;
    }

    by : GoesOn part key (follow q.phase i n) ⊎ ((goes_on part (class_of key) ≡ false) × (follow q.phase i n ≡ in_rest)) →
        Agrees s (goes (follow q.phase i n)) (by_admits (key_admits false (goes_on part (class_of key)) a (class_of key) m1) c (events.Key a n) m1 r1)
    by (inl x) =
        subst (λ ph. Agrees s (goes ph) (by_admits (key_admits false (goes_on part (class_of key)) a (class_of key) m1) c (events.Key a n) m1 r1)) (sym x.1.0)
        (subst (λ y. Agrees s (goes in_run) (by_admits (key_admits false y a (class_of key) m1) c (events.Key a n) m1 r1)) (sym x.0) (
          reader_by st (lead_by q.place (es ++ events.Key a n ∷ []) part (spots.After (class_of key)) m),
          (
            refl,
            between (st, (es, (m, (ap (λ y. reader_by st (lead_by q.place (es ++ events.Key a n ∷ []) y (spots.After (class_of key)) m)) x.1.1.1.1, (so, (refl, (x.1.1.0, x.1.1.1.0))))))),
          ),
        ))
    by (inr x) =
        subst (λ ph. Agrees s (goes ph) (by_admits (key_admits false (goes_on part (class_of key)) a (class_of key) m1) c (events.Key a n) m1 r1)) (sym x.1)
        (subst (λ y. Agrees s (goes in_rest) (by_admits (key_admits false y a (class_of key) m1) c (events.Key a n) m1 r1)) (sym x.0)
        (run-settles s q input es m st part spots.Between (take_key a n) (events.Key a n) h))

pub run-steps : (s : Settings) (e : Event) (q : Second) (input : Expanded) (es : List Event) (m : Lead) (st : StackState) (part : LeadPart) →
    KeepsRun s (record q { inside = plain_inside s input }) es m st → PartIs q.phase part → FitsMembers (walked e) →
    Agrees s (walk.step s (walked e) (running (record q { inside = plain_inside s input }))) (step (initial s.base) e (reader_by st (lead_by q.place es part spots.Between m)))
unfolding step walk.step
run-steps s (events.Key a n) q input es m st part h pt f = run-key-steps s q input es m st part a n h pt
run-steps s events.Closes q input es m st part h pt f = run-settles s q input es m st part spots.Between close events.Closes h
run-steps s x q input es m st part h pt f = absurd f
