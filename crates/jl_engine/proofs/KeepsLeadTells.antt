-- Steps one after another, and the members that were held as they are told to the stack.
use Rattle.std.proofs.Common.{◌≡◌, refl, sym, ◌∙◌, ap, subst, if◌then◌else◌, Bool, true, false, List, [], ◌∷◌, ◌++◌, None, Ok, Err, ℕ, not, ◌&&◌, ◌||◌, Option, Some, is_some}
use Rattle.std.proofs.lemmas.List.{append-nil}
use Rattle.std.specs.Prelude.{zero, suc, Result}
use Rattle.jl_model.specs.Parts.{Parts}
use Rattle.jl_model.specs.declared.faults.Fault.{Fault}
use Rattle.jl_model.specs.JsonTree.{scalar, array, object, no_item, no_member, Tree, Trees, item, Members, member}
use Rattle.jl_model.specs.declared.scalars.Scalar.{Scalar}
use Rattle.jl_model.specs.declared.scalars.Scalar.TheVariants.{Str}
use Rattle.jl_model.specs.declared.expansions.Expanded.{Expanded}
use Rattle.jl_model.specs.declared.terms.Term.{Term}
use Rattle.jl_model.specs.declared.graph_scopes.GraphScope.{GraphScope}
use Rattle.jl_model.specs.declared.codes.Code.TheVariants as code
use Rattle.jl_defs.specs.Settings.{Settings}
use Rattle.jl_defs.specs.Texts.{Text}
use Rattle.jl_defs.specs.Context.{term, initial, Context, TermDef}
use Rattle.jl_defs.specs.Keys.{Key, kind, language, property, key_of, is_leading, is_kind, is_value, id, value, direction, index}
use Rattle.jl_defs.specs.ObjectContexts.{Inside, fault, is_context_name, is_in_prelude}
use Rattle.jl_defs.specs.Dataset.{Head}
use Rattle.jl_defs.specs.Kept.{scalar_gives}
use Rattle.jl_defs.specs.MemberFaults.{shape_faults, key_faults}
use Rattle.jl_defs.specs.Faults.{scalar_faults}
use Rattle.jl_defs.specs.LateKeys.{if_so}
use Rattle.jl_defs.specs.ValueObjects.{first_with, not_one}
use Rattle.jl_laws.specs.Says.{scalar_at}
use Rattle.jl_laws.specs.Spots.{Spot}
use Rattle.jl_walk.specs.Frames.{Frame, Expected, no_value, property_value, keyword_value, dropped_value, Object, values, object as object_frame, types, dropped, property_spot, told, spot_under}
use Rattle.jl_walk.specs.Steps as walk
use Rattle.jl_walk.specs.Steps.{after_quads, then_goes, Step, unless_fault, if_built, quiet}
use Rattle.jl_walk.specs.States as states
use Rattle.jl_walk.specs.States.{settle, Second, State, leading, running, Go, go}
use Rattle.jl_walk.specs.Phases.{in_rest, follow, phase_faults, Phase, at_start, in_lead, in_run, run_until, rest_at, prelude_length}
use Rattle.jl_walk.specs.Stage.{is_built_key}
use Rattle.jl_walk.specs.Scalars.{hang_scalar, with_part, types_of, scalar_under, take_scalar}
use Rattle.jl_walk.specs.Opening.{array_under, open_array, object_under, enter, Entering}
use Rattle.jl_walk.specs.Keys.{with_key, seen_by, with_phase, take_key, key_of_object}
use Rattle.jl_walk.specs.Ending.{closing_of, is_kept, said_at_end, rest_in, close}
use Rattle.jl_walk.specs.Feeding.{feed, feed_items, feed_members, decided}
use Rattle.jl_walk.proofs.Members.{then-assoc}
use Rattle.jl_walk.proofs.HeldMembers.{then-same, after-none}
use Rattle.jl_walk.specs.Running.{top_spot}
use Rattle.jl_frames.specs.Formed.{is_formed, formed}
use Rattle.jl_frames.specs.declared.states.StackState.{StackState}
use Rattle.jl_frames.specs.Machine as frames
use Rattle.jl_engine.specs.Reading.{Read, before, then_reads, on_stack, still, at_step, replay, opens_object}
use Rattle.jl_engine.specs.KeepsFrames.{KeepsFrames, node_valued, AgreesFrames, AgreesLeading, plain_inside}
use Rattle.jl_engine.specs.Keeping.{AllRest, between, Agrees, IsResting, Keeps, lead_by, reader_by, KeepsLead, KeepsRun, PartIs, Between, Told, HeldArray, Held, KeysLead, all_lead}
use Rattle.jl_engine.specs.declared.readers.Reader.{Reader}
use Rattle.jl_engine.specs.declared.events.Event.{Event}
use Rattle.jl_engine.specs.declared.leads.Lead.{Lead}
use Rattle.jl_engine.specs.declared.leads.LeadPart.{LeadPart}
use Rattle.jl_engine.specs.declared.leads.LeadPart.TheVariants as parts
use Rattle.jl_engine.specs.declared.leads.LeadSpot.TheVariants as spots
use Rattle.jl_engine.specs.Moves.{opens_other}
use Rattle.jl_engine.proofs.KeepsKeys.{built-no-context}
use Rattle.jl_engine.proofs.KeepsFrames.{keeps-array, keeps-close-types, keeps-leading-key, keeps-other, keeps-scalar, value-here}
use Rattle.jl_engine.specs.declared.events.Event.TheVariants as events

-- ==== Steps of the walk and of the reader, one after another.

-- after a step, unless it stops
abbrev pub RestsIn : Step → Type 0
RestsIn (Ok (quads, k)) = AllRest k
RestsIn (Err f) = Unit {0}

-- a step that stops at faults or leads to these frames
unless-brings : (fs : List Fault) (quads : List Parts) (l : List Frame) → AllRest l → RestsIn (unless_fault fs (λ _. Ok (quads, l)))
unless-brings [] quads l h = h
unless-brings (f ∷ fs) quads l h = tt

unless-rests : (fs : List Fault) (next : Unit {0} → Step) → RestsIn (next tt) → RestsIn (unless_fault fs next)
unless-rests [] next h = h
unless-rests (f ∷ fs) next h = tt

built-rests : (b : Bool) (a : ℕ) (next : Unit {0} → Step) → RestsIn (next tt) → RestsIn (if_built b a next)
built-rests true a next h = h
built-rests false a next h = tt

told-rests : (kept : Bool) (h : Head) (f : Frame) → IsResting f → IsResting (told kept h f)
told-rests kept h (object_frame p i o) r = r
told-rests kept h x r = tt

pub array-rests : (b : ℕ) (k : List Frame) → AllRest k → RestsIn (open_array b k)
unfolding open_array
array-rests b [] r = tt
array-rests b (values p ∷ k) r = (tt, r)
array-rests b (object_frame p i o ∷ k) r = by o.expects
  where
    by : (e : Expected) → RestsIn (array_under b e p i o k)
    by (property_value name iri) = (tt, r)
    by (keyword_value kind a) = (tt, r)
    by (keyword_value q a) = unless-brings (shape_faults q false a (array b no_item)) [] (dropped ∷ (object_frame p i o ∷ k)) (tt, r)
    by no_value = (tt, r)
    by dropped_value = (tt, r)
array-rests b (types c n g a ∷ k) r = tt
array-rests b (dropped ∷ k) r = (tt, r)

-- an object where no value stands
pub other-rests : (b : ℕ) (f : Fault) (k : List Frame) → AllRest k → RestsIn (enter b (λ p. Err f) k)
unfolding enter
other-rests b f (object_frame p i o ∷ k) r = by o.expects
  where
    by : (e : Expected) → RestsIn (object_under b e (λ p. Err f) p i o k)
    by (property_value name iri) = tt
    by (keyword_value q a) = unless-brings (shape_faults q false a (object b no_member)) [] (dropped ∷ (object_frame p i o ∷ k)) (tt, r)
    by no_value = (tt, r)
    by dropped_value = (tt, r)
other-rests b f (dropped ∷ k) r = (tt, r)
other-rests b f x r = tt

pub part-phase : (q : Key) (i : Inside) (b : ℕ) (v : Scalar) (o : Object) → (with_part q i b v o).phase ≡ o.phase
part-phase language i b (Str text) o = refl
part-phase x i b y o = refl

hang-rests : (s : Settings) (q : Spot) (b : ℕ) (v : Scalar) (f : Frame) (k : List Frame) → AllRest (f ∷ k) → RestsIn (hang_scalar s q b v f k)
hang-rests s q b v f k r =
    unless-brings (scalar_faults s q.context q.under b v) (scalar_at s q q.under b v).0 (told (scalar_gives q.under v) (scalar_at s q q.under b v).1 f ∷ k)
    (told-rests (scalar_gives q.under v) (scalar_at s q q.under b v).1 f r.0, r.1)

pub scalar-rests : (s : Settings) (b : ℕ) (v : Scalar) (k : List Frame) → AllRest k → RestsIn (take_scalar s b v k)
unfolding take_scalar
scalar-rests s b v [] r = tt
scalar-rests s b v (values p ∷ k) r = hang-rests s p b v (values p) k r
scalar-rests s b v (object_frame p i o ∷ k) r = by o.expects
  where
    by : (e : Expected) → RestsIn (scalar_under s b v e p i o k)
    by (property_value name iri) = hang-rests s (property_spot i o name iri) b v (object_frame p i o) k r
    by (keyword_value q a) =
        unless-brings (shape_faults q false a (scalar b v)) (types_of q i v o) (object_frame p i (with_part q i b v o) ∷ k) (part-phase q i b v o ∙ r.0, r.1)
    by no_value = r
    by dropped_value = r
scalar-rests s b (Str text) (types c n g a ∷ k) r = r
scalar-rests s b v (types c n g a ∷ k) r = tt
scalar-rests s b v (dropped ∷ k) r = r

pub key-phase : (q : Key) (a : ℕ) (n : Text) (o : Object) → (with_key q a n o).phase ≡ o.phase
key-phase (property iri) a n o = refl
key-phase q a n o = refl

-- an object whose rest begins, or goes on
pub key-begins : (a : ℕ) (n : Text) (p : Spot) (i : Inside) (o : Object) (k : List Frame) → follow o.phase i n ≡ in_rest → AllRest k → RestsIn (take_key a n (object_frame p i o ∷ k))
unfolding take_key
key-begins a n p i o k e r =
    let q = key_of i.final n in
    let next = with_key q a n (with_phase (follow o.phase i n) o) in
    let h : AllRest (object_frame p i next ∷ k) = (key-phase q a n (with_phase (follow o.phase i n) o) ∙ e, r) in
    built-rests (is_built_key q (term i.final n)) a _
    (unless-rests (phase_faults o.phase i n a) _ (unless-brings (key_faults q p.under (seen_by (with_phase (follow o.phase i n) o)) a) [] (object_frame p i next ∷ k) h))

pub key-rests : (a : ℕ) (n : Text) (k : List Frame) → AllRest k → RestsIn (take_key a n k)
unfolding take_key
key-rests a n [] r = tt
key-rests a n (object_frame p i o ∷ k) r = key-begins a n p i o k (ap (λ ph. follow ph i n) r.0) r.1
key-rests a n x r = r

rested-rests : (k : List Frame) → AllRest k → AllRest (rest_in k)
rested-rests (object_frame p i o ∷ k) r = r
rested-rests x r = r

-- the container on top closes
pub close-begins : (f : Frame) (k : List Frame) → AllRest k → RestsIn (close (f ∷ k))
unfolding close
close-begins (values p) [] r = tt
close-begins (values p) (g ∷ k) r = (told-rests true p.head g r.0, r.1)
close-begins (object_frame p i o) [] r = tt
close-begins (object_frame p i o) (g ∷ k) r =
    unless-brings (closing_of p.under i o) (said_at_end p o).0 (told (is_kept p.under o) (said_at_end p o).1 g ∷ k) (told-rests (is_kept p.under o) (said_at_end p o).1 g r.0, r.1)
close-begins (types c n g a) k r = rested-rests k r
close-begins dropped k r = rested-rests k r

pub close-rests : (k : List Frame) → AllRest k → RestsIn (close k)
unfolding close
close-rests [] r = tt
close-rests (f ∷ k) r = close-begins f k r.1

-- they bring the same, and then this holds of the frames and the reader; or they stop at the same fault
abbrev pub AgreesTo : (List Frame → Reader → Type 0) → walk.Step → Read → Type 0
AgreesTo Q (Ok (quads, k)) t = (r : Reader) × ((t ≡ Ok (formed quads, r)) × Q k r)
AgreesTo Q (Err f) t = t ≡ Err f

formed-both : (xs ys : List Parts) → formed xs ++ formed ys ≡ formed (xs ++ ys)
formed-both [] ys = refl
formed-both (x ∷ xs) ys = by (is_formed x) (formed-both xs ys)
  where
    by : (b : Bool) → formed xs ++ formed ys ≡ formed (xs ++ ys) → (if b then x ∷ formed xs else formed xs) ++ formed ys ≡ (if b then x ∷ formed (xs ++ ys) else formed (xs ++ ys))
    by true e = ap (λ zs. x ∷ zs) e
    by false e = e

agrees-before : (R : List Frame → Reader → Type 0) (q : List Parts) (y : walk.Step) (u : Read) → AgreesTo R y u → AgreesTo R (after_quads q y) (before (formed q) u)
agrees-before R q (Ok (more, k)) u h = (h.0, (ap (before (formed q)) h.1.0 ∙ ap (λ x. Ok (x, h.0)) (formed-both q more), h.1.1))
agrees-before R q (Err f) u h = ap (before (formed q)) h

pub agrees-then : (Q R : List Frame → Reader → Type 0) (x : walk.Step) (t : Read) (f : List Frame → walk.Step) (g : Reader → Read) →
    AgreesTo Q x t → ((k : List Frame) (r : Reader) → Q k r → AgreesTo R (f k) (g r)) → AgreesTo R (then_goes x f) (then_reads t g)
agrees-then Q R (Ok (q, k)) t f g h next =
    subst (λ u. AgreesTo R (after_quads q (f k)) (then_reads u g)) (sym h.1.0) (agrees-before R q (f k) (g h.0) (next k h.0 h.1.1))
agrees-then Q R (Err e) t f g h next = ap (λ u. then_reads u g) h

-- ---- steps of the stack

abbrev pub plain_reader : StackState → Reader
plain_reader st = record { stack = st; lead = None }

abbrev pub OnStack : Settings → List Frame → Reader → Type 0
OnStack s k r = (st : StackState) × ((r ≡ plain_reader st) × KeepsFrames s k st)

pub on-frames : (s : Settings) (x : walk.Step) (t : frames.Step) (st : StackState) → AgreesFrames s x t → AgreesTo (OnStack s) x (on_stack t (plain_reader st))
on-frames s (Ok (q, k)) t st h = (plain_reader h.0, (ap (λ y. on_stack y (plain_reader st)) h.1.0, (h.0, (refl, h.1.1))))
on-frames s (Err f) t st h = ap (λ y. on_stack y (plain_reader st)) h

-- the same, and whether the innermost object is a value object
abbrev pub OnLeading : Settings → Bool → List Frame → Reader → Type 0
OnLeading s b k r = (st : StackState) × ((r ≡ plain_reader st) × (KeepsFrames s k st × (node_valued st.node ≡ b)))

pub on-leading : (s : Settings) (b : Bool) (x : walk.Step) (t : frames.Step) (st : StackState) → AgreesLeading s b x t → AgreesTo (OnLeading s b) x (on_stack t (plain_reader st))
on-leading s b (Ok (q, k)) t st h = (plain_reader h.0, (ap (λ y. on_stack y (plain_reader st)) h.1.0, (h.0, (refl, h.1.1))))
on-leading s b (Err f) t st h = ap (λ y. on_stack y (plain_reader st)) h

pub forget-valued : (s : Settings) (b : Bool) (x : walk.Step) (t : frames.Step) → AgreesLeading s b x t → AgreesFrames s x t
forget-valued s b (Ok (q, k)) t h = (h.0, (h.1.0, h.1.1.0))
forget-valued s b (Err f) t h = h

-- ---- a step after which no object is held

abbrev pub Settled : Settings → List Frame → Reader → Type 0
Settled s k r = (st : StackState) × ((r ≡ plain_reader st) × (KeepsFrames s k st × AllRest k))

pub agrees-settled : (s : Settings) (x : walk.Step) (t : Read) → AgreesTo (Settled s) x t → Agrees s (settle x) t
agrees-settled s (Ok (q, k)) t h = (h.0, (h.1.0 ∙ ap (λ y. Ok (formed y, h.0)) (sym (append-nil q)), between h.1.1))
agrees-settled s (Err f) t h = h

pub settled-so : (s : Settings) (x : walk.Step) (t : Read) → RestsIn x → AgreesTo (OnStack s) x t → AgreesTo (Settled s) x t
settled-so s (Ok (q, k)) t g h = (h.0, (h.1.0, (h.1.1.0, (h.1.1.1.0, (h.1.1.1.1, g)))))
settled-so s (Err f) t g h = h

-- a step that stops
pub stops-so : (Q : List Frame → Reader → Type 0) (x : walk.Step) (t : Read) (f : Fault) → x ≡ Err f → AgreesTo Q x t → t ≡ Err f
stops-so Q x t f e h = subst (λ y. AgreesTo Q y t) e h

-- a step that brings no quads
pub agrees-go : (s : Settings) (g : Go) (t : Read) (z : State) (r : Reader) → g ≡ go z → t ≡ still r → Keeps s z r → Agrees s g t
agrees-go s g t z r e f h = subst (λ x. Agrees s x t) (sym e) (r, (f, h))

-- ---- an object that is held, between its members

pub in-lead : (s : Settings) (l : states.Lead) (es held : List Event) (m : Lead) (st : StackState) → held ≡ es → KeepsLead s l es m st →
    Between s (leading l) (reader_by st (lead_by l.place held parts.Prelude spots.Between m))
in-lead s l es held m st e h = (st, (es, (m, (ap (λ x. reader_by st (lead_by l.place x parts.Prelude spots.Between m)) e, h))))

pub in-run : (s : Settings) (q : Second) (es held : List Event) (m : Lead) (st : StackState) (part : LeadPart) → held ≡ es → KeepsRun s q es m st → PartIs q.phase part →
    Between s (running q) (reader_by st (lead_by q.place held part spots.Between m))
in-run s q es held m st part e h p = (st, (es, (m, (part, (ap (λ x. reader_by st (lead_by q.place x part spots.Between m)) e, (h, p))))))

-- ==== The members that were held are told to the stack as they are fed to the frames, or both stop at the same fault.

-- ---- keys that lead

-- the six keys that lead, one by one
leading-by : (P : Key → Type 0) → P id → P kind → P value → P language → P direction → P index → (q : Key) → is_leading q ≡ true → P q
leading-by P i k v l d x id e = i
leading-by P i k v l d x kind e = k
leading-by P i k v l d x value e = v
leading-by P i k v l d x language e = l
leading-by P i k v l d x direction e = d
leading-by P i k v l d x index e = x
leading-by P i k v l d x q e = absurd cc

built-leads : (q : Key) (t : Option TermDef) → is_leading q ≡ true → is_built_key q t ≡ true
built-leads q t e = leading-by (λ q. is_built_key q t ≡ true) refl refl refl refl refl refl q e

-- the name `@context` doesn't lead
pub leads-no-context : (b : Option Text) (n : Text) → is_leading (key_of (initial b) n) ≡ true → is_context_name n ≡ false
leads-no-context b n e = built-no-context b n (built-leads (key_of (initial b) n) None e)

key-expects : (q : Key) (a : ℕ) (n : Text) (o : Object) → is_leading q ≡ true → (with_key q a n o).expects ≡ keyword_value q a
key-expects q a n o e = leading-by (λ q. (with_key q a n o).expects ≡ keyword_value q a) refl refl refl refl refl refl q e

part-expects : (q : Key) (i : Inside) (b : ℕ) (v : Scalar) (o : Object) → (with_part q i b v o).expects ≡ no_value
part-expects language i b (Str text) o = refl
part-expects x i b y o = refl

-- what is at fault whatever stands in it
abbrev FaultFor : Key → ℕ → Tree → Type 0
FaultFor q a v = (f : Fault) × (shape_faults q false a v ≡ f ∷ [])

stops-with : (q : Key) (a : ℕ) (b : ℕ) (xs : Trees) → is_leading q ≡ true → is_kind q ≡ false → FaultFor q a (array b xs)
stops-with q a b xs e w =
    leading-by (λ q. is_kind q ≡ false → FaultFor q a (array b xs)) (λ w. (fault code.InvalidIdValue a, refl)) (λ w. absurd cc) (λ w. (fault code.InvalidValueObjectValue a, refl))
    (λ w. (fault code.InvalidLanguageTaggedString a, refl)) (λ w. (fault code.InvalidBaseDirection a, refl)) (λ w. (fault code.InvalidIndexValue a, refl)) q e w

stops-object : (q : Key) (a : ℕ) (b : ℕ) (ms : Members) → is_leading q ≡ true → FaultFor q a (object b ms)
stops-object q a b ms e =
    leading-by (λ q. FaultFor q a (object b ms)) (fault code.InvalidIdValue a, refl) (fault code.InvalidTypeValue a, refl) (fault code.InvalidValueObjectValue a, refl)
    (fault code.InvalidLanguageTaggedString a, refl) (fault code.InvalidBaseDirection a, refl) (fault code.InvalidIndexValue a, refl) q e

kind-so : (q : Key) → is_kind q ≡ true → q ≡ kind
kind-so kind e = refl
kind-so q e = absurd cc

-- ---- the object on top

-- its object frame stands for the node; it expects this, and is in this phase
pub record OnObject (s : Settings) (p : Spot) (i : Inside) (k : List Frame) (ph : Phase) (e : Expected) (v : Bool) (l : List Frame) (r : Reader) : Type 0 where
  pub said : Object
  pub stack : StackState
  pub frames : l ≡ object_frame p i said ∷ k
  pub reader : r ≡ plain_reader stack
  pub keeps : KeepsFrames s (object_frame p i said ∷ k) stack
  pub expects : said.expects ≡ e
  pub phase : said.phase ≡ ph
  pub valued : node_valued stack.node ≡ v

-- in the array of its types
pub record OnTypes (s : Settings) (p : Spot) (i : Inside) (k : List Frame) (ph : Phase) (v : Bool) (l : List Frame) (r : Reader) : Type 0 where
  pub said : Object
  pub base : Context
  pub subject : Option Term
  pub scope : GraphScope
  pub at : ℕ
  pub stack : StackState
  pub frames : l ≡ types base subject scope at ∷ (object_frame p i said ∷ k)
  pub reader : r ≡ plain_reader stack
  pub keeps : KeepsFrames s (types base subject scope at ∷ (object_frame p i said ∷ k)) stack
  pub phase : said.phase ≡ ph
  pub valued : node_valued stack.node ≡ v

-- a step on the frames of a stack is one on the frames and the reader that are these
pub step-on : (R : List Frame → Reader → Type 0) (x : List Frame → Step) (t : Reader → Read) (l m : List Frame) (r u : Reader) → l ≡ m → r ≡ u → AgreesTo R (x m) (t u) → AgreesTo R (x l) (t r)
step-on R x t l m r u e f h = subst (λ y. AgreesTo R (x y) (t r)) (sym e) (subst (λ y. AgreesTo R (x m) (t y)) (sym f) h)

-- faults, or these frames
pub unless-object : (s : Settings) (p : Spot) (i : Inside) (k : List Frame) (ph : Phase) (e : Expected) (v : Bool) (fs : List Fault) (quads : List Parts) (o : Object) (t : Read) →
    o.expects ≡ e → o.phase ≡ ph → AgreesTo (OnLeading s v) (unless_fault fs (λ _. Ok (quads, object_frame p i o ∷ k))) t →
    AgreesTo (OnObject s p i k ph e v) (unless_fault fs (λ _. Ok (quads, object_frame p i o ∷ k))) t
unless-object s p i k ph e v [] quads o t x y h = (
  h.0,
  (
    h.1.0,
    record {
      said = o;
      stack = h.1.1.0;
      frames = refl;
      reader = h.1.1.1.0;
      keeps = h.1.1.1.1.0;
      expects = x;
      phase = y;
      valued = h.1.1.1.1.1;
    },
  ),
)
unless-object s p i k ph e v (f ∷ fs) quads o t x y h = h

-- a leading key
key-goes : (s : Settings) (input : Expanded) (a : ℕ) (n : Text) (p : Spot) (o : Object) (k : List Frame) → is_leading (key_of (initial s.base) n) ≡ true → phase_faults o.phase (plain_inside s input) n a ≡ [] →
    take_key a n (object_frame p (plain_inside s input) o ∷ k)
    ≡ unless_fault (key_faults (key_of (initial s.base) n) p.under (seen_by (with_phase (follow o.phase (plain_inside s input) n) o)) a)
    (λ _. quiet (object_frame p (plain_inside s input) (with_key (key_of (initial s.base) n) a n (with_phase (follow o.phase (plain_inside s input) n) o)) ∷ k))
unfolding take_key
key-goes s input a n p o k e h =
    let i = plain_inside s input in
    let q = key_of (initial s.base) n in
    let o1 = with_phase (follow o.phase i n) o in
    ap (λ x. if_built x a (λ _. unless_fault (phase_faults o.phase i n a) (λ _. key_of_object q a n p i o1 k))) (built-leads q (term i.final n) e)
    ∙ ap (λ fs. unless_fault fs (λ _. key_of_object q a n p i o1 k)) h

pub leading-key : (s : Settings) (input : Expanded) (a : ℕ) (n : Text) (p : Spot) (k : List Frame) (ph next : Phase) (v : Bool) (l : List Frame) (r : Reader) →
    is_leading (key_of (initial s.base) n) ≡ true → (is_value (key_of (initial s.base) n) ≡ true → v ≡ true) →
    phase_faults ph (plain_inside s input) n a ≡ [] → follow ph (plain_inside s input) n ≡ next → OnObject s p (plain_inside s input) k ph no_value v l r →
    AgreesTo (OnObject s p (plain_inside s input) k next (keyword_value (key_of (initial s.base) n) a) v) (take_key a n l) (at_step (initial s.base) true (events.Key a n) r)
leading-key s input a n p k ph next v l r e val fs fl x =
    let i = plain_inside s input in
    let c = initial s.base in
    let q = key_of c n in
    let o = x.said in
    let o1 = with_phase (follow o.phase i n) o in
    let none : phase_faults o.phase i n a ≡ [] = ap (λ y. phase_faults y i n a) x.phase ∙ fs in
    step-on (OnObject s p i k next (keyword_value q a) v) (take_key a n) (at_step c true (events.Key a n)) l (object_frame p i o ∷ k) r (plain_reader x.stack) x.frames x.reader
    (subst (λ y. AgreesTo (OnObject s p i k next (keyword_value q a) v) y (at_step c true (events.Key a n) (plain_reader x.stack))) (sym (key-goes s input a n p o k e none))
    (unless-object s p i k next (keyword_value q a) v (key_faults q p.under (seen_by o1) a) [] (with_key q a n o1) (at_step c true (events.Key a n) (plain_reader x.stack))
    (key-expects q a n o1 e) (key-phase q a n o1 ∙ (ap (λ y. follow y i n) x.phase ∙ fl))
    (subst (λ y. AgreesTo (OnLeading s v) y (at_step c true (events.Key a n) (plain_reader x.stack))) (key-goes s input a n p o k e none)
    (on-leading s v (take_key a n (object_frame p i o ∷ k)) _ x.stack
    (keeps-leading-key s a n p i o k x.stack v x.keeps x.valued none val)))))

-- its scalar
part-goes : (s : Settings) (q : Key) (a b : ℕ) (v : Scalar) (p : Spot) (i : Inside) (o : Object) (k : List Frame) → o.expects ≡ keyword_value q a →
    take_scalar s b v (object_frame p i o ∷ k) ≡ unless_fault (shape_faults q false a (scalar b v)) (λ _. Ok (types_of q i v o, object_frame p i (with_part q i b v o) ∷ k))
unfolding take_scalar
part-goes s q a b v p i o k e = ap (λ x. scalar_under s b v x p i o k) e

pub leading-scalar : (s : Settings) (q : Key) (a b : ℕ) (w : Scalar) (p : Spot) (i : Inside) (k : List Frame) (ph : Phase) (v : Bool) (l : List Frame) (r : Reader) →
    OnObject s p i k ph (keyword_value q a) v l r →
    AgreesTo (OnObject s p i k ph no_value v) (take_scalar s b w l) (at_step (initial s.base) true (events.Value b w) r)
leading-scalar s q a b w p i k ph v l r x =
    let c = initial s.base in
    let o = x.said in
    let t = at_step c true (events.Value b w) (plain_reader x.stack) in
    step-on (OnObject s p i k ph no_value v) (take_scalar s b w) (at_step c true (events.Value b w)) l (object_frame p i o ∷ k) r (plain_reader x.stack) x.frames x.reader
    (subst (λ y. AgreesTo (OnObject s p i k ph no_value v) y t) (sym (part-goes s q a b w p i o k x.expects))
    (unless-object s p i k ph no_value v (shape_faults q false a (scalar b w)) (types_of q i w o) (with_part q i b w o) t
    (part-expects q i b w o) (part-phase q i b w o ∙ x.phase)
    (subst (λ y. AgreesTo (OnLeading s v) y t) (part-goes s q a b w p i o k x.expects)
    (on-leading s v (take_scalar s b w (object_frame p i o ∷ k)) _ x.stack (keeps-scalar s b w (object_frame p i o ∷ k) x.stack v x.keeps x.valued)))))

-- ---- an array of types

on-types : (s : Settings) (p : Spot) (i : Inside) (k : List Frame) (ph : Phase) (v : Bool) (quads : List Parts) (b : Context) (m : Option Term) (g : GraphScope) (at : ℕ) (o : Object) (t : Read) → o.phase ≡ ph →
    AgreesTo (OnLeading s v) (Ok (quads, types b m g at ∷ (object_frame p i o ∷ k))) t → AgreesTo (OnTypes s p i k ph v) (Ok (quads, types b m g at ∷ (object_frame p i o ∷ k))) t
on-types s p i k ph v quads b m g at o t y h = (
  h.0,
  (
    h.1.0,
    record {
      said = o;
      base = b;
      subject = m;
      scope = g;
      at = at;
      stack = h.1.1.0;
      frames = refl;
      reader = h.1.1.1.0;
      keeps = h.1.1.1.1.0;
      phase = y;
      valued = h.1.1.1.1.1;
    },
  ),
)

types-open : (a b : ℕ) (p : Spot) (i : Inside) (o : Object) (k : List Frame) → o.expects ≡ keyword_value kind a →
    open_array b (object_frame p i o ∷ k) ≡ Ok ([], types i.base o.subject o.scope a ∷ (object_frame p i (record o { types = not_one }) ∷ k))
unfolding open_array
types-open a b p i o k e = ap (λ x. array_under b x p i o k) e

pub leading-types : (s : Settings) (q : Key) (a b : ℕ) (p : Spot) (i : Inside) (k : List Frame) (ph : Phase) (v : Bool) (l : List Frame) (r : Reader) → is_kind q ≡ true →
    OnObject s p i k ph (keyword_value q a) v l r → AgreesTo (OnTypes s p i k ph v) (open_array b l) (at_step (initial s.base) true (events.OpensArray b) r)
leading-types s q a b p i k ph v l r e x =
    let c = initial s.base in
    let o = x.said in
    let t = at_step c true (events.OpensArray b) (plain_reader x.stack) in
    let opened = types-open a b p i o k (x.expects ∙ ap (λ y. keyword_value y a) (kind-so q e)) in
    step-on (OnTypes s p i k ph v) (open_array b) (at_step c true (events.OpensArray b)) l (object_frame p i o ∷ k) r (plain_reader x.stack) x.frames x.reader
    (subst (λ y. AgreesTo (OnTypes s p i k ph v) y t) (sym opened)
    (on-types s p i k ph v [] i.base o.subject o.scope a (record o { types = not_one }) t x.phase
    (subst (λ y. AgreesTo (OnLeading s v) y t) opened
    (on-leading s v (open_array b (object_frame p i o ∷ k)) _ x.stack (keeps-array s b (object_frame p i o ∷ k) x.stack v x.keeps x.valued)))))

-- one of them
pub types-scalar : (s : Settings) (b : ℕ) (w : Scalar) (p : Spot) (i : Inside) (k : List Frame) (ph : Phase) (v : Bool) (l : List Frame) (r : Reader) → OnTypes s p i k ph v l r →
    AgreesTo (OnTypes s p i k ph v) (take_scalar s b w l) (at_step (initial s.base) true (events.Value b w) r)
unfolding take_scalar
types-scalar s b w p i k ph v l r x =
    step-on (OnTypes s p i k ph v) (take_scalar s b w) (at_step (initial s.base) true (events.Value b w)) l top r (plain_reader x.stack) x.frames x.reader
    (by w (on-leading s v (take_scalar s b w top) _ x.stack (keeps-scalar s b w top x.stack v x.keeps x.valued)))
  where
    top : List Frame
    top = types x.base x.subject x.scope x.at ∷ (object_frame p i x.said ∷ k)

    by : (y : Scalar) → AgreesTo (OnLeading s v) (take_scalar s b y top) (at_step (initial s.base) true (events.Value b y) (plain_reader x.stack)) →
        AgreesTo (OnTypes s p i k ph v) (take_scalar s b y top) (at_step (initial s.base) true (events.Value b y) (plain_reader x.stack))
    by (Str text) h = on-types s p i k ph v _ x.base x.subject x.scope x.at x.said _ x.phase h
    by x h = h

-- a container among them
pub types-array : (s : Settings) (b : ℕ) (p : Spot) (i : Inside) (k : List Frame) (ph : Phase) (v : Bool) (l : List Frame) (r : Reader) → OnTypes s p i k ph v l r →
    (f : Fault) × ((open_array b l ≡ Err f) × (at_step (initial s.base) true (events.OpensArray b) r ≡ Err f))
unfolding open_array
types-array s b p i k ph v l r x =
    let top = types x.base x.subject x.scope x.at ∷ (object_frame p i x.said ∷ k) in
    let f = fault code.InvalidTypeValue x.at in (
      f,
      (
        ap (open_array b) x.frames,
        ap (at_step (initial s.base) true (events.OpensArray b)) x.reader
            ∙ stops-so (OnLeading s v) (open_array b top) (at_step (initial s.base) true (events.OpensArray b) (plain_reader x.stack)) f refl
            (on-leading s v (open_array b top) _ x.stack (keeps-array s b top x.stack v x.keeps x.valued)),
      ),
    )

-- an object that stands where no value does
pub other-here : (s : Settings) (b : ℕ) (k : List Frame) (st : StackState) → KeepsFrames s k st → top_spot k ≡ None →
    at_step (initial s.base) true (events.OpensObject b) (plain_reader st) ≡ on_stack (opens_other b st) (plain_reader st)
other-here s b k st h e = ap (λ x. opens_object x b (plain_reader st)) (value-here s k st h ∙ ap is_some e)

pub types-object : (s : Settings) (b : ℕ) (d : Spot → Result Entering Fault) (p : Spot) (i : Inside) (k : List Frame) (ph : Phase) (v : Bool) (l : List Frame) (r : Reader) → OnTypes s p i k ph v l r →
    (f : Fault) × ((enter b d l ≡ Err f) × (at_step (initial s.base) true (events.OpensObject b) r ≡ Err f))
unfolding enter
types-object s b d p i k ph v l r x =
    let top = types x.base x.subject x.scope x.at ∷ (object_frame p i x.said ∷ k) in
    let f = fault code.InvalidTypeValue x.at in (
      f,
      (
        ap (enter b d) x.frames,
        ap (at_step (initial s.base) true (events.OpensObject b)) x.reader
            ∙ (other-here s b top x.stack x.keeps refl
            ∙ stops-so (OnLeading s v) (enter b d top) (on_stack (opens_other b x.stack) (plain_reader x.stack)) f refl
            (on-leading s v (enter b d top) _ x.stack (keeps-other s b d top x.stack v x.keeps x.valued refl))),
      ),
    )

-- it closes
types-close : (b : Context) (m : Option Term) (g : GraphScope) (at : ℕ) (p : Spot) (i : Inside) (o : Object) (k : List Frame) →
    close (types b m g at ∷ (object_frame p i o ∷ k)) ≡ unless_fault [] (λ _. Ok ([], object_frame p i (record o { expects = no_value }) ∷ k))
unfolding close
types-close b m g at p i o k = refl

pub leading-close : (s : Settings) (p : Spot) (i : Inside) (k : List Frame) (ph : Phase) (v : Bool) (l : List Frame) (r : Reader) → OnTypes s p i k ph v l r →
    AgreesTo (OnObject s p i k ph no_value v) (close l) (at_step (initial s.base) true events.Closes r)
leading-close s p i k ph v l r x =
    let c = initial s.base in
    let top = types x.base x.subject x.scope x.at ∷ (object_frame p i x.said ∷ k) in
    let t = at_step c true events.Closes (plain_reader x.stack) in
    let o = record x.said { expects = no_value } in
    let closed = types-close x.base x.subject x.scope x.at p i x.said k in
    step-on (OnObject s p i k ph no_value v) close (at_step c true events.Closes) l top r (plain_reader x.stack) x.frames x.reader
    (subst (λ y. AgreesTo (OnObject s p i k ph no_value v) y t) (sym closed)
    (unless-object s p i k ph no_value v [] [] o t refl x.phase
    (subst (λ y. AgreesTo (OnLeading s v) y t) closed
    (on-leading s v (close top) _ x.stack (keeps-close-types s x.base x.subject x.scope x.at (object_frame p i x.said ∷ k) x.stack v x.keeps x.valued)))))

-- ---- a value that stops

-- the key of a value that is no type
array-under : (q : Key) (a b : ℕ) (p : Spot) (i : Inside) (o : Object) (k : List Frame) → is_kind q ≡ false →
    array_under b (keyword_value q a) p i o k ≡ unless_fault (shape_faults q false a (array b no_item)) (λ _. quiet (dropped ∷ (object_frame p i o ∷ k)))
array-under kind a b p i o k w = absurd cc
array-under q a b p i o k w = refl

array-stops : (q : Key) (a b : ℕ) (p : Spot) (i : Inside) (o : Object) (k : List Frame) → o.expects ≡ keyword_value q a → is_leading q ≡ true → is_kind q ≡ false →
    (f : Fault) × (open_array b (object_frame p i o ∷ k) ≡ Err f)
unfolding open_array
array-stops q a b p i o k e h w =
    let st = stops-with q a b no_item h w in (
      st.0,
      ap (λ x. array_under b x p i o k) e
          ∙ (array-under q a b p i o k w ∙ ap (λ fs. unless_fault fs (λ _. quiet (dropped ∷ (object_frame p i o ∷ k)))) st.1),
    )

object-stops : (q : Key) (a b : ℕ) (d : Spot → Result Entering Fault) (p : Spot) (i : Inside) (o : Object) (k : List Frame) → o.expects ≡ keyword_value q a → is_leading q ≡ true →
    (f : Fault) × (enter b d (object_frame p i o ∷ k) ≡ Err f)
unfolding enter
object-stops q a b d p i o k e h =
    let st = stops-object q a b no_member h in
    (st.0, ap (λ x. object_under b x d p i o k) e ∙ ap (λ fs. unless_fault fs (λ _. quiet (dropped ∷ (object_frame p i o ∷ k)))) st.1)

pub leading-array : (s : Settings) (q : Key) (a b : ℕ) (p : Spot) (i : Inside) (k : List Frame) (ph : Phase) (v : Bool) (l : List Frame) (r : Reader) → is_leading q ≡ true → is_kind q ≡ false →
    OnObject s p i k ph (keyword_value q a) v l r → (f : Fault) × ((open_array b l ≡ Err f) × (at_step (initial s.base) true (events.OpensArray b) r ≡ Err f))
leading-array s q a b p i k ph v l r h w x =
    let top = object_frame p i x.said ∷ k in
    let st = array-stops q a b p i x.said k x.expects h w in (
      st.0,
      (
        ap (open_array b) x.frames ∙ st.1,
        ap (at_step (initial s.base) true (events.OpensArray b)) x.reader
            ∙ stops-so (OnLeading s v) (open_array b top) (at_step (initial s.base) true (events.OpensArray b) (plain_reader x.stack)) st.0 st.1
            (on-leading s v (open_array b top) _ x.stack (keeps-array s b top x.stack v x.keeps x.valued)),
      ),
    )

pub leading-object : (s : Settings) (q : Key) (a b : ℕ) (d : Spot → Result Entering Fault) (p : Spot) (i : Inside) (k : List Frame) (ph : Phase) (v : Bool) (l : List Frame) (r : Reader) → is_leading q ≡ true →
    OnObject s p i k ph (keyword_value q a) v l r → (f : Fault) × ((enter b d l ≡ Err f) × (at_step (initial s.base) true (events.OpensObject b) r ≡ Err f))
leading-object s q a b d p i k ph v l r h x =
    let top = object_frame p i x.said ∷ k in
    let st = object-stops q a b d p i x.said k x.expects h in
    let none : top_spot top ≡ None = ap (spot_under i x.said) x.expects in (
      st.0,
      (
        ap (enter b d) x.frames ∙ st.1,
        ap (at_step (initial s.base) true (events.OpensObject b)) x.reader
            ∙ (other-here s b top x.stack x.keeps none
            ∙ stops-so (OnLeading s v) (enter b d top) (on_stack (opens_other b x.stack) (plain_reader x.stack)) st.0 st.1
            (on-leading s v (enter b d top) _ x.stack (keeps-other s b d top x.stack v x.keeps x.valued none))),
      ),
    )

-- ---- the phases of keys that lead

abbrev pub lead_phase : Bool → ℕ → Phase
lead_phase true left = at_start left
lead_phase false left = in_lead left

-- a key that leads stays in the second run
pub leads-run : (s : Settings) (input : Expanded) (n : Text) → is_leading (key_of (initial s.base) n) ≡ true → follow (in_lead zero) (plain_inside s input) n ≡ in_run
leads-run s input n e = ap (λ x. run_until (not x || false)) e

context-none : (n : Text) (a : ℕ) (fs : List Fault) → is_context_name n ≡ false → fs ≡ [] → if_so (is_context_name n) (fault code.LateContext a ∷ []) ++ fs ≡ []
context-none n a fs e f = ap (λ x. if_so x (fault code.LateContext a ∷ []) ++ fs) e ∙ f

pub leads-fine : (first : Bool) (left : ℕ) (s : Settings) (input : Expanded) (n : Text) (a : ℕ) → is_leading (key_of (initial s.base) n) ≡ true → phase_faults (lead_phase first left) (plain_inside s input) n a ≡ []
leads-fine true zero s input n a e = ap (λ x. rest_at x (plain_inside s input) n a) (leads-run s input n e)
leads-fine true (suc left) s input n a e = refl
leads-fine false zero s input n a e =
    context-none n a (rest_at (follow (in_lead zero) (plain_inside s input) n) (plain_inside s input) n a) (leads-no-context s.base n e) (ap (λ x. rest_at x (plain_inside s input) n a) (leads-run s input n e))
leads-fine false (suc left) s input n a e = context-none n a [] (leads-no-context s.base n e) refl

pub leads-on : (first : Bool) (left : ℕ) (s : Settings) (input : Expanded) (n : Text) → follow (lead_phase first (suc left)) (plain_inside s input) n ≡ in_lead left
leads-on true left s input n = refl
leads-on false left s input n = refl

-- ---- values that stop

-- both stop at the same fault
both-stop : (R : List Frame → Reader → Type 0) (x : Step) (t : Read) (f : List Frame → Step) (g : Reader → Read) (e : Fault) → x ≡ Err e → t ≡ Err e → AgreesTo R (then_goes x f) (then_reads t g)
both-stop R x t f g e h k = subst (λ y. AgreesTo R (then_goes y f) (then_reads t g)) (sym h) (ap (λ y. then_reads y g) k)

-- ---- types

types-tell : (s : Settings) (p : Spot) (i : Inside) (k : List Frame) (ph : Phase) (v : Bool) (R : List Frame → Reader → Type 0) (xs : Trees) (own after : List Event) (g : List Frame → Step) (l : List Frame) (r : Reader) →
    Told xs own → OnTypes s p i k ph v l r → ((m : List Frame) (u : Reader) → OnTypes s p i k ph v m u → AgreesTo R (g m) (replay (initial s.base) after u)) →
    AgreesTo R (then_goes (feed_items s xs l) g) (replay (initial s.base) (own ++ after) r)
unfolding feed replay
types-tell s p i k ph v R no_item own after g l r h x next =
    subst (λ es. AgreesTo R (after_quads [] (g l)) (replay (initial s.base) (es ++ after) r)) (sym h)
    (subst (λ y. AgreesTo R y (replay (initial s.base) after r)) (sym (after-none (g l))) (next l r x))
types-tell s p i k ph v R (item (scalar b w) rest) own after g l r h x next =
    subst (λ es. AgreesTo R (then_goes (then_goes (take_scalar s b w l) (feed_items s rest)) g) (replay (initial s.base) (es ++ after) r)) (sym h.1.0)
    (subst (λ y. AgreesTo R y (replay (initial s.base) (events.Value b w ∷ (h.0 ++ after)) r)) (sym (then-assoc (take_scalar s b w l) (feed_items s rest) g))
    (agrees-then (OnTypes s p i k ph v) R (take_scalar s b w l) (at_step (initial s.base) true (events.Value b w) r) (λ m. then_goes (feed_items s rest m) g) (replay (initial s.base) (h.0 ++ after))
    (types-scalar s b w p i k ph v l r x)
    (λ m u y. types-tell s p i k ph v R rest h.0 after g m u h.1.1 y next)))
types-tell s p i k ph v R (item (array b ys) rest) own after g l r h x next =
    let st = types-array s b p i k ph v l r x in
    subst (λ es. AgreesTo R (then_goes (then_goes (feed s (array b ys) l) (feed_items s rest)) g) (replay (initial s.base) (es ++ after) r)) (sym h.1)
    (subst (λ y. AgreesTo R (then_goes (then_goes (then_goes y (λ m. then_goes (feed_items s ys m) close)) (feed_items s rest)) g) (replay (initial s.base) (events.OpensArray b ∷ (h.0 ++ after)) r)) (sym st.1.0)
    (ap (λ y. then_reads y (replay (initial s.base) (h.0 ++ after))) st.1.1))
types-tell s p i k ph v R (item (object b ms) rest) own after g l r h x next =
    let st = types-object s b (decided s b ms) p i k ph v l r x in
    subst (λ es. AgreesTo R (then_goes (then_goes (feed s (object b ms) l) (feed_items s rest)) g) (replay (initial s.base) (es ++ after) r)) (sym h.1)
    (subst (λ y. AgreesTo R (then_goes (then_goes (then_goes y (λ m. then_goes (feed_members s ms m) close)) (feed_items s rest)) g) (replay (initial s.base) (events.OpensObject b ∷ (h.0 ++ after)) r)) (sym st.1.0)
    (ap (λ y. then_reads y (replay (initial s.base) (h.0 ++ after))) st.1.1))

-- ---- members

-- after members that all lead
abbrev pub AfterMembers : Settings → Spot → Inside → List Frame → Phase → Bool → Bool → List Frame → Reader → Type 0
AfterMembers s p i k ph v all l r = OnObject s p i k ph no_value v l r × (all ≡ true)

-- a key for a value, and one after it
value-first : (x : Bool) (v : Tree) (o : Option Tree) (w : Bool) → (is_some (elim x [ true ↦ Some v | false ↦ o ]) ≡ true → w ≡ true) → x ≡ true → w ≡ true
value-first true v o w f e = f refl
value-first false v o w f e = absurd cc

value-rest : (x : Bool) (v : Tree) (o : Option Tree) (w : Bool) → (is_some (elim x [ true ↦ Some v | false ↦ o ]) ≡ true → w ≡ true) → is_some o ≡ true → w ≡ true
value-rest true v o w f e = f refl
value-rest false v o w f e = f e

-- the key, in a phase in which so many members lead
abbrev pub KeyTells : Settings → Expanded → Spot → List Frame → Bool → Bool → Members → Type 0
KeyTells s input p k v first ms =
    (es : List Event) (l : List Frame) (r : Reader) → Held (initial s.base) ms es → KeysLead (initial s.base) ms → (is_some (first_with is_value (initial s.base) ms) ≡ true → v ≡ true) →
    OnObject s p (plain_inside s input) k (lead_phase first (prelude_length (initial s.base ∷ []) ms)) no_value v l r →
    AgreesTo (AfterMembers s p (plain_inside s input) k (in_lead zero) v (all_lead (initial s.base) ms)) (feed_members s ms l) (replay (initial s.base) es r)

-- where it leads, the phase goes on
lead-phase : (s : Settings) (input : Expanded) (n : Text) (first x : Bool) (left : ℕ) → x ≡ true → follow (lead_phase first (elim x [ true ↦ suc left | false ↦ 0 ])) (plain_inside s input) n ≡ in_lead left
lead-phase s input n first x left e = ap (λ y. let m : ℕ = elim y [ true ↦ suc left | false ↦ 0 ] in follow (lead_phase first m) (plain_inside s input) n) e ∙ leads-on first left s input n

after-more : (s : Settings) (p : Spot) (i : Inside) (k : List Frame) (ph : Phase) (v x y : Bool) (r : Step) (t : Read) → x ≡ true → AgreesTo (AfterMembers s p i k ph v y) r t → AgreesTo (AfterMembers s p i k ph v (x && y)) r t
after-more s p i k ph v x y r t e h = subst (λ z. AgreesTo (AfterMembers s p i k ph v (z && y)) r t) (sym e) h

scalar-tells : (s : Settings) (input : Expanded) (p : Spot) (k : List Frame) (v : Bool) (first : Bool) (a : ℕ) (n : Text) (b : ℕ) (w : Scalar) (rest : Members) → KeyTells s input p k v false rest →
    KeyTells s input p k v first (member a n (scalar b w) rest)
unfolding feed replay
scalar-tells s input p k v first a n b w rest next es l r h ks val x =
    let c = initial s.base in
    let i = plain_inside s input in
    let q = key_of c n in
    let left = prelude_length (c ∷ []) rest in
    let ph = lead_phase first (prelude_length (c ∷ []) (member a n (scalar b w) rest)) in
    let leads : is_in_prelude (c ∷ []) n (scalar b w) ≡ true = ap (λ z. z || false) ks.0 in
    let done = AfterMembers s p i k (in_lead zero) v (all_lead c rest) in
    subst (λ fs. AgreesTo (AfterMembers s p i k (in_lead zero) v (all_lead c (member a n (scalar b w) rest))) (feed_members s (member a n (scalar b w) rest) l) (replay c fs r)) (sym h.1.0)
    (after-more s p i k (in_lead zero) v (is_in_prelude (c ∷ []) n (scalar b w)) (all_lead c rest) (feed_members s (member a n (scalar b w) rest) l) (replay c (events.Key a n ∷ (events.Value b w ∷ h.0)) r) leads
    (agrees-then (OnObject s p i k (in_lead left) (keyword_value q a) v) done (take_key a n l) (at_step c true (events.Key a n) r) (λ m. then_goes (take_scalar s b w m) (feed_members s rest)) (replay c (events.Value b w ∷ h.0))
    (leading-key s input a n p k ph (in_lead left) v l r ks.0 (value-first (is_value q) (scalar b w) (first_with is_value c rest) v val)
    (leads-fine first (prelude_length (c ∷ []) (member a n (scalar b w) rest)) s input n a ks.0) (lead-phase s input n first (is_in_prelude (c ∷ []) n (scalar b w)) left leads) x)
    (λ m u y. agrees-then (OnObject s p i k (in_lead left) no_value v) done (take_scalar s b w m) (at_step c true (events.Value b w) u) (feed_members s rest) (replay c h.0)
    (leading-scalar s q a b w p i k (in_lead left) v m u y)
    (λ m2 u2 z. next h.0 m2 u2 h.1.1 ks.1 (value-rest (is_value q) (scalar b w) (first_with is_value c rest) v val) z))))

-- an array of types, and another array
array-group : (s : Settings) (b : ℕ) (xs : Trees) (g : List Frame → Step) (l : List Frame) →
    then_goes (feed s (array b xs) l) g ≡ then_goes (open_array b l) (λ m. then_goes (feed_items s xs m) (λ y. then_goes (close y) g))
unfolding feed
array-group s b xs g l =
    then-assoc (open_array b l) (λ m. then_goes (feed_items s xs m) close) g ∙ then-same (open_array b l) _ _ (λ m. then-assoc (feed_items s xs m) close g)

types-member : (s : Settings) (input : Expanded) (p : Spot) (k : List Frame) (v : Bool) (first : Bool) (a : ℕ) (n : Text) (b : ℕ) (xs : Trees) (rest : Members) → KeyTells s input p k v false rest →
    is_kind (key_of (initial s.base) n) ≡ true →
    (es own more : List Event) (l : List Frame) (r : Reader) → es ≡ events.Key a n ∷ (events.OpensArray b ∷ (own ++ events.Closes ∷ more)) → Told xs own → Held (initial s.base) rest more →
    KeysLead (initial s.base) (member a n (array b xs) rest) → (is_some (first_with is_value (initial s.base) (member a n (array b xs) rest)) ≡ true → v ≡ true) →
    OnObject s p (plain_inside s input) k (lead_phase first (prelude_length (initial s.base ∷ []) (member a n (array b xs) rest))) no_value v l r →
    AgreesTo (AfterMembers s p (plain_inside s input) k (in_lead zero) v (all_lead (initial s.base) (member a n (array b xs) rest))) (feed_members s (member a n (array b xs) rest) l) (replay (initial s.base) es r)
unfolding feed replay
types-member s input p k v first a n b xs rest next kd es own more l r e told held ks val x =
    let c = initial s.base in
    let i = plain_inside s input in
    let q = key_of c n in
    let left = prelude_length (c ∷ []) rest in
    let len = prelude_length (c ∷ []) (member a n (array b xs) rest) in
    let leads : is_in_prelude (c ∷ []) n (array b xs) ≡ true = ap (λ z. z || false) kd in
    let done = AfterMembers s p i k (in_lead zero) v (all_lead c rest) in
    let own2 = own ++ events.Closes ∷ more in
    subst (λ fs. AgreesTo (AfterMembers s p i k (in_lead zero) v (all_lead c (member a n (array b xs) rest))) (feed_members s (member a n (array b xs) rest) l) (replay c fs r)) (sym e)
    (after-more s p i k (in_lead zero) v (is_in_prelude (c ∷ []) n (array b xs)) (all_lead c rest) (feed_members s (member a n (array b xs) rest) l) (replay c (events.Key a n ∷ (events.OpensArray b ∷ own2)) r) leads
    (agrees-then (OnObject s p i k (in_lead left) (keyword_value q a) v) done (take_key a n l) (at_step c true (events.Key a n) r) (λ m. then_goes (feed s (array b xs) m) (feed_members s rest)) (replay c (events.OpensArray b ∷ own2))
    (leading-key s input a n p k (lead_phase first len) (in_lead left) v l r ks.0 (value-first (is_value q) (array b xs) (first_with is_value c rest) v val)
    (leads-fine first len s input n a ks.0) (lead-phase s input n first (is_in_prelude (c ∷ []) n (array b xs)) left leads) x)
    (λ m u y. subst (λ z. AgreesTo done z (replay c (events.OpensArray b ∷ own2) u)) (sym (array-group s b xs (feed_members s rest) m))
    (agrees-then (OnTypes s p i k (in_lead left) v) done (open_array b m) (at_step c true (events.OpensArray b) u) (λ m2. then_goes (feed_items s xs m2) (λ m3. then_goes (close m3) (feed_members s rest))) (replay c own2)
    (leading-types s q a b p i k (in_lead left) v m u kd y)
    (λ m2 u2 y2. types-tell s p i k (in_lead left) v done xs own (events.Closes ∷ more) (λ m3. then_goes (close m3) (feed_members s rest)) m2 u2 told y2
    (λ m3 u3 y3. agrees-then (OnObject s p i k (in_lead left) no_value v) done (close m3) (at_step c true events.Closes u3) (feed_members s rest) (replay c more)
    (leading-close s p i k (in_lead left) v m3 u3 y3)
    (λ m4 u4 y4. next more m4 u4 held ks.1 (value-rest (is_value q) (array b xs) (first_with is_value c rest) v val) y4)))))))

-- a member at which the object stops
stops-member : (s : Settings) (input : Expanded) (p : Spot) (k : List Frame) (v : Bool) (first : Bool) (a : ℕ) (n : Text) (w : Tree) (rest : Members) (e : Event) (R : List Frame → Reader → Type 0) →
    ((m : List Frame) (u : Reader) (ph : Phase) → OnObject s p (plain_inside s input) k ph (keyword_value (key_of (initial s.base) n) a) v m u →
    (f : Fault) × ((feed s w m ≡ Err f) × (at_step (initial s.base) true e u ≡ Err f))) →
    (es more : List Event) (l : List Frame) (r : Reader) → es ≡ events.Key a n ∷ (e ∷ more) →
    KeysLead (initial s.base) (member a n w rest) → (is_some (first_with is_value (initial s.base) (member a n w rest)) ≡ true → v ≡ true) →
    OnObject s p (plain_inside s input) k (lead_phase first (prelude_length (initial s.base ∷ []) (member a n w rest))) no_value v l r →
    AgreesTo R (feed_members s (member a n w rest) l) (replay (initial s.base) es r)
unfolding feed replay
stops-member s input p k v first a n w rest e R stop es more l r eq ks val x =
    let c = initial s.base in
    let i = plain_inside s input in
    let q = key_of c n in
    let len = prelude_length (c ∷ []) (member a n w rest) in
    let ph = follow (lead_phase first len) i n in
    subst (λ fs. AgreesTo R (feed_members s (member a n w rest) l) (replay c fs r)) (sym eq)
    (agrees-then (OnObject s p i k ph (keyword_value q a) v) R (take_key a n l) (at_step c true (events.Key a n) r) (λ m. then_goes (feed s w m) (feed_members s rest)) (replay c (e ∷ more))
    (leading-key s input a n p k (lead_phase first len) ph v l r ks.0 (value-first (is_value q) w (first_with is_value c rest) v val) (leads-fine first len s input n a ks.0) refl x)
    (λ m u y. let st = stop m u ph y in both-stop R (feed s w m) (at_step c true e u) (feed_members s rest) (replay c more) st.0 st.1.0 st.1.1))

array-tells : (s : Settings) (input : Expanded) (p : Spot) (k : List Frame) (v : Bool) (first : Bool) (a : ℕ) (n : Text) (b : ℕ) (xs : Trees) (rest : Members) → KeyTells s input p k v false rest →
    KeyTells s input p k v first (member a n (array b xs) rest)
unfolding feed
array-tells s input p k v first a n b xs rest next es l r h ks val x = by (is_kind (key_of (initial s.base) n)) refl h
  where
    R : List Frame → Reader → Type 0
    R = AfterMembers s p (plain_inside s input) k (in_lead zero) v (all_lead (initial s.base) (member a n (array b xs) rest))

    by : (y : Bool) → is_kind (key_of (initial s.base) n) ≡ y → HeldArray y a n b xs (Held (initial s.base) rest) es → AgreesTo R (feed_members s (member a n (array b xs) rest) l) (replay (initial s.base) es r)
    by true e g = types-member s input p k v first a n b xs rest next e es g.0 g.1.0 l r g.1.1.0 g.1.1.1.0 g.1.1.1.1 ks val x
    by false e g =
        stops-member s input p k v first a n (array b xs) rest (events.OpensArray b) R
        (λ m u ph y. let st = leading-array s (key_of (initial s.base) n) a b p (plain_inside s input) k ph v m u ks.0 e y in
        (st.0, (ap (λ z. then_goes z (λ m2. then_goes (feed_items s xs m2) close)) st.1.0, st.1.1)))
        es g.0 l r g.1 ks val x

object-tells : (s : Settings) (input : Expanded) (p : Spot) (k : List Frame) (v : Bool) (first : Bool) (a : ℕ) (n : Text) (b : ℕ) (ms rest : Members) →
    KeyTells s input p k v first (member a n (object b ms) rest)
unfolding feed
object-tells s input p k v first a n b ms rest es l r h ks val x =
    stops-member s input p k v first a n (object b ms) rest (events.OpensObject b) (AfterMembers s p (plain_inside s input) k (in_lead zero) v (all_lead (initial s.base) (member a n (object b ms) rest)))
    (λ m u ph y. let st = leading-object s (key_of (initial s.base) n) a b (decided s b ms) p (plain_inside s input) k ph v m u ks.0 y in
    (st.0, (ap (λ z. then_goes z (λ m2. then_goes (feed_members s ms m2) close)) st.1.0, st.1.1)))
    es h.0 l r h.1 ks val x

-- one member and those after it
member-tells : (s : Settings) (input : Expanded) (p : Spot) (k : List Frame) (v : Bool) (first : Bool) (a : ℕ) (n : Text) (w : Tree) (rest : Members) → KeyTells s input p k v false rest →
    KeyTells s input p k v first (member a n w rest)
member-tells s input p k v first a n (scalar b x) rest next = scalar-tells s input p k v first a n b x rest next
member-tells s input p k v first a n (array b xs) rest next = array-tells s input p k v first a n b xs rest next
member-tells s input p k v first a n (object b ms) rest next = object-tells s input p k v first a n b ms rest

no-member-tells : (s : Settings) (input : Expanded) (p : Spot) (k : List Frame) (v : Bool) → KeyTells s input p k v false no_member
unfolding feed replay
no-member-tells s input p k v es l r h ks val x =
    subst (λ fs. AgreesTo (AfterMembers s p (plain_inside s input) k (in_lead zero) v true) (feed_members s no_member l) (replay (initial s.base) fs r)) (sym h) (r, (refl, (x, refl)))

pub members-tell : (s : Settings) (input : Expanded) (p : Spot) (k : List Frame) (v : Bool) (ms : Members) → KeyTells s input p k v false ms
members-tell s input p k v no_member = no-member-tells s input p k v
members-tell s input p k v (member a n w rest) = member-tells s input p k v false a n w rest (members-tell s input p k v rest)

-- ---- all that was held

-- nothing was held, or the prelude is over
abbrev pub last_phase : Members → Phase
last_phase no_member = at_start zero
last_phase (member a n v rest) = in_lead zero

pub all-tell : (s : Settings) (input : Expanded) (p : Spot) (k : List Frame) (v : Bool) (ms : Members) (es : List Event) (l : List Frame) (r : Reader) →
    Held (initial s.base) ms es → KeysLead (initial s.base) ms → (is_some (first_with is_value (initial s.base) ms) ≡ true → v ≡ true) →
    OnObject s p (plain_inside s input) k (at_start (prelude_length (initial s.base ∷ []) ms)) no_value v l r →
    AgreesTo (AfterMembers s p (plain_inside s input) k (last_phase ms) v (all_lead (initial s.base) ms)) (feed_members s ms l) (replay (initial s.base) es r)
unfolding feed replay
all-tell s input p k v no_member es l r h ks val x =
    subst (λ fs. AgreesTo (AfterMembers s p (plain_inside s input) k (at_start zero) v true) (feed_members s no_member l) (replay (initial s.base) fs r)) (sym h) (r, (refl, (x, refl)))
all-tell s input p k v (member a n w rest) es l r h ks val x = member-tells s input p k v true a n w rest (members-tell s input p k v rest) es l r h ks val x
