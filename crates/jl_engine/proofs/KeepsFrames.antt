-- The stack does what the walk does, move by move.
use Rattle.std.proofs.Common.{ℕ, ◌≡◌, refl, sym, ◌∙◌, ap, subst, Bool, true, false, not, List, [], ◌∷◌, Option, Some, None, Ok, Err, ◌&&◌, Result, is_some}
use Rattle.std.specs.Prelude.{bytes_eq}
use Rattle.jl_model.specs.declared.scalars.Scalar.{Scalar}
use Rattle.jl_model.specs.declared.scalars.Scalar.TheVariants.{Null, Bool as boolean, Number, Str}
use Rattle.jl_model.specs.declared.faults.Fault.{Fault}
use Rattle.jl_model.specs.declared.expansions.Expanded.{Expanded}
use Rattle.jl_model.specs.declared.graph_scopes.GraphScope.{GraphScope}
use Rattle.jl_model.specs.declared.terms.Term.{Term}
use Rattle.jl_model.specs.declared.graph_scopes.GraphScope.TheVariants.{Main}
use Rattle.jl_model.specs.declared.codes.Code.TheVariants as code
use Rattle.jl_model.specs.declared.expansions.Expanded.TheVariants as expanded
use Rattle.jl_model.specs.JsonTree.{Tree, scalar}
use Rattle.jl_model.specs.Parts.{rdf_lang_string}
use Rattle.jl_model.specs.Tags.{is_language_tag}
use Rattle.jl_model.specs.declared.codes.Code.{Code}
use Rattle.jl_defs.specs.Texts.{Text}
use Rattle.jl_defs.specs.Context.{Context, initial}
use Rattle.jl_defs.specs.Settings.{Settings, Under, drops}
use Rattle.jl_defs.specs.Keys.{id, kind, value, language, direction, index, is_kind, is_value, Key, property, is_language, key_of}
use Rattle.jl_defs.specs.ObjectContexts.{fault, Inside}
use Rattle.jl_defs.specs.ValueObjects as objects
use Rattle.jl_defs.specs.ValueObjects.{ValueType, untyped, typed_by, not_one, expand_type, unless_refused, json_number_value, object_value, is_json}
use Rattle.jl_defs.specs.Kept.{any_key, is_only_language}
use Rattle.jl_defs.specs.LateKeys.{if_so}
use Rattle.jl_defs.specs.MemberFaults as faults
use Rattle.jl_defs.specs.MemberFaults.{is_direction_text, or_else, has_iri, closing_number}
use Rattle.jl_defs.specs.NodeMap.{term_of_text, rdf_type}
use Rattle.jl_defs.specs.Values as values
use Rattle.jl_defs.specs.Values.{literal_of, value_of, xsd_double, type_or, numbered}
use Rattle.jl_defs.specs.Faults.{valued_fault}
use Rattle.jl_defs.specs.Dataset.{link, term_of_literal, term_of_value}
use Rattle.jl_defs.specs.Numbers.{json_number, integer_number, double_number}
use Rattle.jl_value.specs.declared.valued.Valued.TheVariants as valued
use Rattle.jl_laws.specs.Spots.{Spot, Around, ordinary, linked, head, scalar_says, document, Said, nothing, value_says, hangs}
use Rattle.jl_laws.specs.Says.{type_says}
use Rattle.jl_walk.specs.Frames.{Expected, no_value, property_value, keyword_value, dropped_value, Object, Frame, values as values_frame, object as object_frame, types, dropped, property_spot, spot_under, spot_in, told, after_value}
use Rattle.jl_walk.specs.Scalars.{hang_scalar, another, scalar_under, type_item, take_scalar}
use Rattle.jl_walk.specs.Steps as walk
use Rattle.jl_walk.specs.Ending.{its_value, its_valued, keeps_value, types_closing, closing_of, is_kept, close, close_object, rest_in}
use Rattle.jl_walk.specs.Phases.{phase_faults}
use Rattle.jl_walk.specs.Opening.{open_array, Entering, enter_at, enter, linked_by}
use Rattle.jl_walk.specs.Keys.{take_key}
use Rattle.jl_walk.specs.Feeding.{start}
use Rattle.jl_walk.specs.Events.{closes}
use Rattle.jl_walk.specs.Fits.{FitsFrames}
use Rattle.jl_walk.specs.Running.{top_spot}
use Rattle.jl_frames.specs.Formed.{formed}
use Rattle.jl_frames.specs.Machine as frames
use Rattle.jl_frames.specs.Machine.{Step, state, some_taken, all_take, after_scalar, all_holding, all_rested, complete, scalar_in, on_scalar, in_dropped, in_object, hang_on, is_outside, subject_of, after_object}
use Rattle.jl_frames.specs.Nodes as nodes
use Rattle.jl_frames.specs.Nodes.{Taken, rested, hang, take_pending, with_kinds, another_kind, term_of_type, take_type, with_value, with_language, take_direction, holding, hang_under}
use Rattle.jl_frames.specs.declared.facts.Given.{Given}
use Rattle.jl_frames.specs.declared.nodes.Node.{Node}
use Rattle.jl_frames.specs.declared.opens.Open.{Open}
use Rattle.jl_frames.specs.declared.values.ValueParts.{ValueParts}
use Rattle.jl_frames.proofs.Hanging.{no-subject, hang_none}
use Rattle.jl_frames.specs.ReadAs.{read_under, read_in, read_as}
use Rattle.jl_frames.specs.declared.nodes.Pending.{Pending}
use Rattle.jl_frames.specs.declared.states.StackState.{StackState}
use Rattle.jl_frames.specs.declared.facts.Given.TheVariants as given
use Rattle.jl_frames.specs.declared.keywords.Keyword.TheVariants as keyword
use Rattle.jl_frames.specs.declared.nodes.Pending.TheVariants as pending
use Rattle.jl_frames.specs.declared.opens.Open.TheVariants as opens
use Rattle.jl_frames.specs.declared.values.Kinds.TheVariants as kinds
use Rattle.jl_frames.specs.declared.reads.ReadAs.TheVariants as reads
use Rattle.jl_frames.specs.declared.entries.Entries.{Entries}
use Rattle.jl_frames.specs.declared.values.Ended.{Ended}
use Rattle.jl_frames.specs.Closing as closing
use Rattle.jl_frames.specs.declared.values.Ended.TheVariants as ended
use Rattle.jl_engine.specs.Moves.{gives, scalar_by, takes_scalar, gives_value, under_property, opens_array, opens_other, takes_key}
use Rattle.jl_engine.specs.KeepsFrames.{kept_pending, kept_types, kept_parts, IsExpected, KeepsParts, KeepsAt, TypesIn, KeepsIn, AgreesLeading, node_valued, KeepsFrames, loose_spot, linked_spot, HasSpot, kept_value, AreEntries, KeepsMarks, IsPlainInside, AgreesFrames, InRest, items_spot, DroppedIn, IsPlainRound}
use Rattle.jl_engine.proofs.KeepsKeys.{its-pending, has-spot, not-dropped, nothing-added, kept-at, agrees-on, told-keeps, its-marks, leading-key, key-comes, agrees-frames, array-opens, other-opens, enters, property-added, after-entries}
use Rattle.jl_engine.proofs.KeepsMarks.{value-form, only-language, array-marked}
use Rattle.jl_engine.specs.Leads.{naming_shown, frame_by}
use Rattle.jl_engine.specs.Reading.{takes_value}

-- ==== A scalar comes in an object: a value of its property, a part of it, one of its types, or it is dropped.

-- a value has ended in an object, or elsewhere
abbrev completed : Bool → Option Node → List Open → StackState
completed b n k = elim b [ true ↦ state (all_rested n) k | false ↦ state n k ]

-- ---- what the stack is told of a scalar

-- where nothing is dropped, what is given is taken
given-here : (at : ℕ) (g : Given) (n : Option Node) (opened : List Open) → in_dropped opened ≡ false → gives at g (state n opened) ≡ after_scalar (all_take (record { at = at; given = g }) n) opened
unfolding frames.scalar
given-here at g n opened d = ap (λ b. scalar_in b (record { at = at; given = g }) n opened) d

read-here : (c : Context) (at : ℕ) (v : Scalar) (n : Option Node) (opened : List Open) → in_dropped opened ≡ false →
    takes_scalar c at v (state n opened) ≡ scalar_by (read_in false n) c at v (state n opened)
read-here c at v n opened d = ap (λ b. scalar_by (read_in b n) c at v (state n opened)) d

-- by what the innermost object waits for
pub read-waits : (c : Context) (at : ℕ) (v : Scalar) (n : Node) (opened : List Open) (w : Pending) → in_dropped opened ≡ false → n.pending ≡ w →
    takes_scalar c at v (state (Some n) opened) ≡ scalar_by (read_under w) c at v (state (Some n) opened)
read-waits c at v n opened w d e = read-here c at v (Some n) opened d ∙ ap (λ x. scalar_by (read_under x) c at v (state (Some n) opened)) e

pub given-waits : (at : ℕ) (g : Given) (n : Node) (opened : List Open) (w : Pending) → in_dropped opened ≡ false → n.pending ≡ w →
    gives at g (state (Some n) opened) ≡ after_scalar (some_taken (take_pending w (record { at = at; given = g }) n)) opened
unfolding nodes.take_scalar
given-waits at g n opened w d e = given-here at g (Some n) opened d ∙ ap (λ x. after_scalar (some_taken (take_pending x (record { at = at; given = g }) n)) opened) e

none-completes : (opened : List Open) → node_valued (complete None opened).node ≡ false
none-completes opened = elim (in_object opened) as (λ b. node_valued (completed b None opened).node ≡ false) [ true ↦ refl | false ↦ refl ]

pub some-completes : (n : Node) (opened : List Open) → node_valued (complete (Some n) opened).node ≡ n.valued
some-completes n opened = elim (in_object opened) as (λ b. node_valued (completed b (Some n) opened).node ≡ n.valued) [ true ↦ refl | false ↦ refl ]

-- ---- a value at its spot

-- no value is kept outside of all objects
outside-null : (s : Settings) (a : Around) (at : ℕ) (b : Bool) (v : Scalar) (f : Frame) (k : List Frame) (opened : List Open) → KeepsIn s false (f ∷ k) None opened →
    spot_in f ≡ Some (loose_spot s a) → false ≡ b → AgreesLeading s b (hang_scalar s (loose_spot s a) at v f k) (gives at (given.Written v) (state None opened))
outside-null s a at b v f k opened h e y = by v
  where
    d : in_dropped opened ≡ false
    d = not-dropped s false (f ∷ k) None opened (loose_spot s a) h e

    kept : KeepsFrames s (told false (loose_spot s a).head f ∷ k) (complete None opened)
    kept = told-keeps s false f k None opened (loose_spot s a) h e

    same : node_valued (complete None opened).node ≡ b
    same = none-completes opened ∙ y

    by : (v : Scalar) → AgreesLeading s b (hang_scalar s (loose_spot s a) at v f k) (gives at (given.Written v) (state None opened))
    by Null = (complete None opened, (given-here at (given.Written Null) None opened d, (kept, same)))
    by (boolean x) = (complete None opened, (given-here at (given.Written (boolean x)) None opened d, (kept, same)))
    by (Number x) = (complete None opened, (given-here at (given.Written (Number x)) None opened d, (kept, same)))
    by (Str x) = (complete None opened, (given-here at (given.Written (Str x)) None opened d, (kept, same)))

outside-scalar : (s : Settings) (at : ℕ) (b : Bool) (v : Scalar) (p : Spot) (f : Frame) (k : List Frame) (opened : List Open) → KeepsIn s false (f ∷ k) None opened →
    spot_in f ≡ Some p → HasSpot s p None → false ≡ b → AgreesLeading s b (hang_scalar s p at v f k) (takes_scalar (initial s.base) at v (state None opened))
outside-scalar s at b v p f k opened h e has y =
    subst (λ t. AgreesLeading s b (hang_scalar s p at v f k) t) (sym (read-here (initial s.base) at v None opened (not-dropped s false (f ∷ k) None opened p h e)))
    (subst (λ x. AgreesLeading s b (hang_scalar s x at v f k) (gives at (given.Written v) (state None opened))) (sym has.1.1)
    (outside-null s has.0 at b v f k opened h (e ∙ ap {A = Spot} (λ x. Some x) has.1.1) y))

-- the quads of a node that hang on its property
pub hung : (n : Node) (iri : Text) (x : Option Term) → n.scope ≡ Main → hang n iri x ≡ formed (link (head n.subject iri Main) x)
unfolding hang
hung n iri x m = ap (λ g. formed (link (head n.subject iri g) x)) m

-- a value of a property, kept
value-said : (s : Settings) (at : ℕ) (b : Bool) (w : values.Valued) (name iri : Text) (n : Node) (f : Frame) (k : List Frame) (opened : List Open) → KeepsIn s false (f ∷ k) (Some n) opened →
    spot_in f ≡ Some (linked_spot s name iri n.subject) → n.pending ≡ pending.Property iri → n.scope ≡ Main → n.valued ≡ b →
    AgreesLeading s b (walk.unless_fault (valued_fault at w)
    (λ _. Ok ((scalar_says ordinary linked at w (head n.subject iri Main)).0, told true (scalar_says ordinary linked at w (head n.subject iri Main)).1 f ∷ k)))
    (gives_value at w (state (Some n) opened))
value-said s at b w name iri n f k opened h e wait m v = by w
  where
    d : in_dropped opened ≡ false
    d = not-dropped s false (f ∷ k) (Some n) opened (linked_spot s name iri n.subject) h e

    kept : KeepsFrames s (told true (head n.subject iri Main) f ∷ k) (complete (Some (holding n)) opened)
    kept = told-keeps s true f k (Some n) opened (linked_spot s name iri n.subject) h e

    quads : (x : Option Term) → ◌≡◌ {A = Step} (Ok (hang_under n.pending n x, complete (Some (holding n)) opened)) (Ok (formed (link (head n.subject iri Main) x), complete (Some (holding n)) opened))
    quads x = ap {B = Step} (λ q. Ok (q, complete (Some (holding n)) opened)) (ap (λ y. hang_under y n x) wait ∙ hung n iri x m)

    same : node_valued (complete (Some (holding n)) opened).node ≡ b
    same = some-completes (holding n) opened ∙ v

    by : (w : values.Valued) → AgreesLeading s b (walk.unless_fault (valued_fault at w)
        (λ _. Ok ((scalar_says ordinary linked at w (head n.subject iri Main)).0, told true (scalar_says ordinary linked at w (head n.subject iri Main)).1 f ∷ k)))
        (gives_value at w (state (Some n) opened))
    by (values.reference x) =
        (complete (Some (holding n)) opened, (given-waits at (given.Valued (valued.Reference x)) n opened (pending.Property iri) d wait ∙ quads (term_of_text x), (kept, same)))
    by (values.literal x) =
        (complete (Some (holding n)) opened, (given-waits at (given.Valued (valued.Literal x)) n opened (pending.Property iri) d wait ∙ quads (term_of_literal x), (kept, same)))
    by values.left_out =
        (complete (Some (holding n)) opened, (given-waits at (given.Valued valued.LeftOut) n opened (pending.Property iri) d wait ∙ quads None, (kept, same)))
    by (values.refused c) = refl

-- a scalar in the initial context is the literal that it gives by itself
same-value : (b : Option Text) (name : Text) (v : Scalar) → value_of (initial b) name v ≡ literal_of v None None
unfolding value_of
same-value b name Null = refl
same-value b name x = refl

linked-scalar : (s : Settings) (at : ℕ) (b : Bool) (v : Scalar) (name iri : Text) (n : Node) (f : Frame) (k : List Frame) (opened : List Open) → KeepsIn s false (f ∷ k) (Some n) opened →
    spot_in f ≡ Some (linked_spot s name iri n.subject) → n.pending ≡ pending.Property iri → n.scope ≡ Main → n.valued ≡ b →
    AgreesLeading s b (hang_scalar s (linked_spot s name iri n.subject) at v f k) (under_property at v (state (Some n) opened))
linked-scalar s at b v name iri n f k opened h e wait m y = by v
  where
    said : (v : Scalar) → AgreesLeading s b (walk.unless_fault (valued_fault at (value_of (initial s.base) name v))
        (λ _. Ok (
          (scalar_says ordinary linked at (value_of (initial s.base) name v) (head n.subject iri Main)).0,
          told true (scalar_says ordinary linked at (value_of (initial s.base) name v) (head n.subject iri Main)).1 f ∷ k,
        )))
        (gives_value at (literal_of v None None) (state (Some n) opened))
    said v =
        subst (λ w. AgreesLeading s b (walk.unless_fault (valued_fault at (value_of (initial s.base) name v))
        (λ _. Ok (
          (scalar_says ordinary linked at (value_of (initial s.base) name v) (head n.subject iri Main)).0,
          told true (scalar_says ordinary linked at (value_of (initial s.base) name v) (head n.subject iri Main)).1 f ∷ k,
        )))
        (gives_value at w (state (Some n) opened)))
        (same-value s.base name v) (value-said s at b (value_of (initial s.base) name v) name iri n f k opened h e wait m y)

    by : (v : Scalar) → AgreesLeading s b (hang_scalar s (linked_spot s name iri n.subject) at v f k) (under_property at v (state (Some n) opened))
    by Null = (
      complete (Some n) opened,
      (
        given-waits at (given.Written Null) n opened (pending.Property iri) (not-dropped s false (f ∷ k) (Some n) opened (linked_spot s name iri n.subject) h e) wait,
        (told-keeps s false f k (Some n) opened (linked_spot s name iri n.subject) h e, some-completes n opened ∙ y),
      ),
    )
    by (boolean x) = said (boolean x)
    by (Number x) = said (Number x)
    by (Str x) = said (Str x)

-- a scalar at the spot of a frame
pub scalar-hangs : (s : Settings) (at : ℕ) (b : Bool) (v : Scalar) (p : Spot) (f : Frame) (k : List Frame) (n : Option Node) (opened : List Open) → KeepsIn s false (f ∷ k) n opened →
    spot_in f ≡ Some p → node_valued n ≡ b → AgreesLeading s b (hang_scalar s p at v f k) (takes_scalar (initial s.base) at v (state n opened))
scalar-hangs s at b v p f k n opened h e y = by n h y (has-spot s false (f ∷ k) n opened p h e)
  where
    by : (n : Option Node) → KeepsIn s false (f ∷ k) n opened → node_valued n ≡ b → HasSpot s p n → AgreesLeading s b (hang_scalar s p at v f k) (takes_scalar (initial s.base) at v (state n opened))
    by None h y has = outside-scalar s at b v p f k opened h e has y
    by (Some n) h y has =
        subst (λ t. AgreesLeading s b (hang_scalar s p at v f k) t)
        (sym (read-waits (initial s.base) at v n opened (pending.Property has.1.0) (not-dropped s false (f ∷ k) (Some n) opened p h e) has.1.1.1.0))
        (subst (λ x. AgreesLeading s b (hang_scalar s x at v f k) (under_property at v (state (Some n) opened))) (sym has.1.1.0)
        (linked-scalar s at b v has.0 has.1.0 n f k opened h (e ∙ ap {A = Spot} (λ x. Some x) has.1.1.0) has.1.1.1.0 has.1.1.1.1 y))

-- ---- types

-- a node says its types
node-type : (n : Node) (e : Expanded) → formed (type_says n.subject n.scope e) ≡ hang n rdf_type (term_of_type e)
unfolding hang
node-type n expanded.Null = hang_none n rdf_type None refl
node-type n (expanded.Keyword text) = refl
node-type n (expanded.Name text) = refl

-- what has no node says none
no-type : (g : GraphScope) (e : Expanded) → formed (type_says None g e) ≡ []
no-type g expanded.Null = refl
no-type g (expanded.Keyword text) = no-subject rdf_type g (term_of_text text)
no-type g (expanded.Name text) = no-subject rdf_type g (term_of_text text)

kept-another : (t : ValueType) (e : Expanded) → another_kind (kept_types t) e ≡ kept_types (another t (typed_by e))
kept-another untyped e = refl
kept-another x e = refl

-- ---- an object with a part more

-- nothing but its parts changes, and it expects nothing
with-parts : (s : Settings) (p : Spot) (i : Inside) (o : Object) (k : List Frame) (n : Node) (h : KeepsAt s false p i o k n) (t : ValueType) (v : Option (ℕ × Scalar)) (l : Option Text) (ps : ValueParts) →
    KeepsParts h.keeps.valued (record o { types = t; value = v; language = l; expects = no_value }) ps → (any_key is_kind o.entries ≡ false → t ≡ untyped) →
    KeepsAt s false p i (record o { types = t; value = v; language = l; expects = no_value }) k (rested (record n { parts = ps }))
with-parts s p i o k n h t v l ps m y =
    kept-at s false false p i o (record o { types = t; value = v; language = l; expects = no_value }) k n (rested (record n { parts = ps })) h.keeps.entries ps h (ap (λ x. rested (record x { parts = ps })) h.keeps.same) h.keeps.in_main tt h.keeps.marks
    h.keeps.are_entries m y

its-valued : (s : Settings) (p : Spot) (i : Inside) (o : Object) (k : List Frame) (n : Node) (h : KeepsAt s false p i o k n) → n.valued ≡ h.keeps.valued
its-valued s p i o k n h = ap (λ x. x.valued) h.keeps.same

its-parts : (s : Settings) (p : Spot) (i : Inside) (o : Object) (k : List Frame) (n : Node) (h : KeepsAt s false p i o k n) → KeepsParts h.keeps.valued o n.parts
its-parts s p i o k n h = subst (λ x. KeepsParts h.keeps.valued o x.parts) (sym h.keeps.same) h.keeps.its_parts

its-subject : (s : Settings) (p : Spot) (i : Inside) (o : Object) (k : List Frame) (n : Node) (h : KeepsAt s false p i o k n) → n.subject ≡ o.subject
its-subject s p i o k n h = ap (λ x. x.subject) h.keeps.same

its-scope : (s : Settings) (p : Spot) (i : Inside) (o : Object) (k : List Frame) (n : Node) (h : KeepsAt s false p i o k n) → n.scope ≡ o.scope
its-scope s p i o k n h = ap (λ x. x.scope) h.keeps.same

-- ---- types as they come

kind-came : (o : Object) (t : ValueType) → any_key is_kind o.entries ≡ true → any_key is_kind o.entries ≡ false → t ≡ untyped
kind-came o t e none = absurd (let both : true ≡ false = sym e ∙ none in cc)

plain-parts : (o : Object) (ps : ValueParts) → KeepsParts false o ps → any_key is_value o.entries ≡ false
plain-parts o ps h = h

-- the type of a node is said, that of a value object is kept
type-comes : (s : Settings) (b v : Bool) (e : Expanded) (p : Spot) (i : Inside) (o : Object) (k : List Frame) (n : Node) (outer : Option Node) (opened : List Open) (h : KeepsAt s false p i o k n) →
    KeepsIn s false k outer opened → n.valued ≡ b → any_key is_kind o.entries ≡ true → v ≡ h.keeps.valued →
    AgreesLeading s b (Ok (type_says o.subject o.scope e, object_frame p i (record o { types = another o.types (typed_by e); expects = no_value }) ∷ k))
    (after_scalar (some_taken (take_type v e n)) (opens.Object outer ∷ opened))
type-comes s b true e p i o k n outer opened h r y z x =
    let its : KeepsParts true o n.parts = subst (λ a. KeepsParts a o n.parts) (sym x) (its-parts s p i o k n h) in
    let ps : ValueParts = record n.parts { kinds = another_kind n.parts.kinds e } in
    let same : ps ≡ kept_parts (record o { types = another o.types (typed_by e); expects = no_value }) =
    ap {A = ValueParts} (λ a. record a { kinds = another_kind a.kinds e }) its.0 ∙ ap (λ a. record (kept_parts o) { kinds = a }) (kept-another o.types e) in
    agrees-on s b (type_says o.subject o.scope e) (object_frame p i (record o { types = another o.types (typed_by e); expects = no_value }) ∷ k) (Some (rested (record n { parts = ps }))) (opens.Object outer ∷ opened) _
    (ap {B = Step} (λ q. Ok (q, state (Some (rested (record n { parts = ps }))) (opens.Object outer ∷ opened))) (sym (ap (λ a. formed (type_says a o.scope e)) its.1 ∙ no-type o.scope e))) (
      with-parts s p i o k n h (another o.types (typed_by e)) o.value o.language ps
          (subst (λ a. KeepsParts a (record o { types = another o.types (typed_by e); expects = no_value }) ps) x (same, its.1)) (kind-came o (another o.types (typed_by e)) z),
      r,
    ) y
type-comes s b false e p i o k n outer opened h r y z x =
    agrees-on s b (type_says o.subject o.scope e) (object_frame p i (record o { types = another o.types (typed_by e); expects = no_value }) ∷ k) (Some (rested n)) (opens.Object outer ∷ opened) _
    (ap {B = Step} (λ q. Ok (q, state (Some (rested n)) (opens.Object outer ∷ opened)))
    (sym (node-type n e) ∙ (ap (λ a. formed (type_says a n.scope e)) (its-subject s p i o k n h) ∙ ap (λ a. formed (type_says o.subject a e)) (its-scope s p i o k n h)))) (
      with-parts s p i o k n h (another o.types (typed_by e)) o.value o.language n.parts
          (subst (λ a. KeepsParts a (record o { types = another o.types (typed_by e); expects = no_value }) n.parts) x
          (plain-parts o n.parts (subst (λ a. KeepsParts a o n.parts) (sym x) (its-parts s p i o k n h)))) (kind-came o (another o.types (typed_by e)) z),
      r,
    ) y

-- ---- the value and the language

value-parts : (v : Bool) (o : Object) (ps : ValueParts) (at : ℕ) (w : Scalar) → any_key is_value o.entries ≡ true → KeepsParts v o ps →
    KeepsParts v (record o { value = Some (at, w); expects = no_value }) (record ps { value = Some (record { at = at; scalar = w }) })
value-parts true o ps at w e h = (ap {A = ValueParts} (λ a. record a { value = Some (record { at = at; scalar = w }) }) h.0, h.1)
value-parts false o ps at w e h = absurd (let both : true ≡ false = sym e ∙ h in cc)

language-parts : (v : Bool) (o : Object) (ps : ValueParts) (text : Text) → KeepsParts v o ps →
    KeepsParts v (record o { language = Some text; expects = no_value }) (elim v [ true ↦ record ps { language = Some text } | false ↦ ps ])
language-parts true o ps text h = (ap {A = ValueParts} (λ a. record a { language = Some text }) h.0, h.1)
language-parts false o ps text h = h

language-node : (v : Bool) (n : Node) (text : Text) → n.valued ≡ v → with_language n text ≡ record n { parts = elim v [ true ↦ record n.parts { language = Some text } | false ↦ n.parts ] }
language-node v n text e = ap {A = Bool} {B = Node} (λ a. elim a [ true ↦ record n { parts = record n.parts { language = Some text } } | false ↦ n ]) e ∙ by v
  where
    by : (v : Bool) → ◌≡◌ {A = Node} (elim v [ true ↦ record n { parts = record n.parts { language = Some text } } | false ↦ n ])
        (record n { parts = elim v [ true ↦ record n.parts { language = Some text } | false ↦ n.parts ] })
    by true = refl
    by false = refl

-- ---- a scalar in an object

-- what the stack does by what its object waits for
waits-for : (s : Settings) (c : Context) (at : ℕ) (v : Scalar) (p : Spot) (i : Inside) (o : Object) (k : List Frame) (n : Node) (outer : Option Node) (opened : List Open) (x : Expected) →
    KeepsAt s false p i o k n → o.expects ≡ x → (g : Given) →
    scalar_by (read_under (kept_pending x)) c at v (state (Some n) (opens.Object outer ∷ opened)) ≡ gives at g (state (Some n) (opens.Object outer ∷ opened)) →
    takes_scalar c at v (state (Some n) (opens.Object outer ∷ opened))
    ≡ after_scalar (some_taken (take_pending (kept_pending x) (record { at = at; given = g }) n)) (opens.Object outer ∷ opened)
waits-for s c at v p i o k n outer opened x h e g r =
    read-waits c at v n (opens.Object outer ∷ opened) (kept_pending x) refl (its-pending s false p i o k n x h e)
    ∙ (r ∙ given-waits at g n (opens.Object outer ∷ opened) (kept_pending x) refl (its-pending s false p i o k n x h e))

-- `ltr` or `rtl`
direction-goes : (s : Settings) (b d : Bool) (key_at : ℕ) (p : Spot) (i : Inside) (o : Object) (k : List Frame) (n : Node) (outer : Option Node) (opened : List Open) → KeepsAt s false p i o k n →
    KeepsIn s false k outer opened → n.valued ≡ b →
    AgreesLeading s b (walk.unless_fault (if_so (not d) (fault code.InvalidBaseDirection key_at ∷ [])) (λ _. Ok ([], object_frame p i (record o { expects = no_value }) ∷ k)))
    (after_scalar (some_taken (take_direction d key_at n)) (opens.Object outer ∷ opened))
direction-goes s b true key_at p i o k n outer opened h r y = (state (Some (rested n)) (opens.Object outer ∷ opened), (refl, ((refl, (nothing-added s p i o k n h, r)), y)))
direction-goes s b false key_at p i o k n outer opened h r y = refl

scalar-in-object : (s : Settings) (c : Context) (at : ℕ) (b : Bool) (v : Scalar) (p : Spot) (i : Inside) (o : Object) (k : List Frame) (n : Node) (outer : Option Node) (opened : List Open) →
    i.base ≡ c → c ≡ initial s.base → KeepsIn s false (object_frame p i o ∷ k) (Some n) (opens.Object outer ∷ opened) → n.valued ≡ b →
    AgreesLeading s b (scalar_under s at v o.expects p i o k) (takes_scalar c at v (state (Some n) (opens.Object outer ∷ opened)))
scalar-in-object s c at b v p i o k n outer opened ic cs h y = by o.expects refl h.0.keeps.expected v
  where
    -- nothing but what it expects changes
    rests : (x : Expected) → o.expects ≡ x → (v : Scalar) → (g : Given) →
        scalar_by (read_under (kept_pending x)) c at v (state (Some n) (opens.Object outer ∷ opened)) ≡ gives at g (state (Some n) (opens.Object outer ∷ opened)) →
        take_pending (kept_pending x) (record { at = at; given = g }) n ≡ Ok ([], n) →
        AgreesLeading s b (walk.quiet (object_frame p i (record o { expects = no_value }) ∷ k)) (takes_scalar c at v (state (Some n) (opens.Object outer ∷ opened)))
    rests x e v g r t =
        agrees-on s b [] (object_frame p i (record o { expects = no_value }) ∷ k) (Some (rested n)) (opens.Object outer ∷ opened) _
        (waits-for s c at v p i o k n outer opened x h.0 e g r ∙ ap (λ z. after_scalar (some_taken z) (opens.Object outer ∷ opened)) t) (nothing-added s p i o k n h.0, h.1) y

    -- it is at fault
    stops : (x : Expected) → o.expects ≡ x → (v : Scalar) → (g : Given) → (f : Fault) →
        scalar_by (read_under (kept_pending x)) c at v (state (Some n) (opens.Object outer ∷ opened)) ≡ gives at g (state (Some n) (opens.Object outer ∷ opened)) →
        take_pending (kept_pending x) (record { at = at; given = g }) n ≡ Err f → takes_scalar c at v (state (Some n) (opens.Object outer ∷ opened)) ≡ Err f
    stops x e v g f r t = waits-for s c at v p i o k n outer opened x h.0 e g r ∙ ap (λ z. after_scalar (some_taken z) (opens.Object outer ∷ opened)) t

    typed : (key_at : ℕ) → o.expects ≡ keyword_value kind key_at → any_key is_kind o.entries ≡ true → (text : Text) →
        AgreesLeading s b (Ok (type_says o.subject o.scope (expand_type i.base text), object_frame p i (record o { types = another o.types (typed_by (expand_type i.base text)); expects = no_value }) ∷ k))
        (takes_scalar c at (Str text) (state (Some n) (opens.Object outer ∷ opened)))
    typed key_at e z text =
        subst (λ t. AgreesLeading s b (Ok (type_says o.subject o.scope (expand_type i.base text), object_frame p i (record o { types = another o.types (typed_by (expand_type i.base text)); expects = no_value }) ∷ k)) t)
        (sym (waits-for s c at (Str text) p i o k n outer opened (keyword_value kind key_at) h.0 e (given.Type (expand_type c text)) refl
        ∙ ap (λ a. after_scalar (some_taken (take_type n.valued (expand_type a text) n)) (opens.Object outer ∷ opened)) (sym ic)))
        (type-comes s b n.valued (expand_type i.base text) p i o k n outer opened h.0 h.1 y z (its-valued s p i o k n h.0))

    has-value-at : (key_at : ℕ) → o.expects ≡ keyword_value value key_at → any_key is_value o.entries ≡ true → (v : Scalar) →
        AgreesLeading s b (walk.quiet (object_frame p i (record o { value = Some (at, v); expects = no_value }) ∷ k)) (takes_scalar c at v (state (Some n) (opens.Object outer ∷ opened)))
    has-value-at key_at e z v =
        agrees-on s b [] (object_frame p i (record o { value = Some (at, v); expects = no_value }) ∷ k) (Some (rested (with_value n at v))) (opens.Object outer ∷ opened) _ (waits-for s c at v p i o k n outer opened (keyword_value value key_at) h.0 e (given.Written v) refl) (
          with-parts s p i o k n h.0 o.types (Some (at, v)) o.language (record n.parts { value = Some (record { at = at; scalar = v }) })
              (value-parts h.0.keeps.valued o n.parts at v z (its-parts s p i o k n h.0)) h.0.keeps.typed,
          h.1,
        ) y

    spoken : (key_at : ℕ) → o.expects ≡ keyword_value language key_at → (text : Text) →
        AgreesLeading s b (walk.quiet (object_frame p i (record o { language = Some text; expects = no_value }) ∷ k)) (takes_scalar c at (Str text) (state (Some n) (opens.Object outer ∷ opened)))
    spoken key_at e text =
        let ps : ValueParts = elim h.0.keeps.valued [ true ↦ record n.parts { language = Some text } | false ↦ n.parts ] in
        agrees-on s b [] (object_frame p i (record o { language = Some text; expects = no_value }) ∷ k) (Some (rested (record n { parts = ps }))) (opens.Object outer ∷ opened) _
        (waits-for s c at (Str text) p i o k n outer opened (keyword_value language key_at) h.0 e (given.Written (Str text)) refl
        ∙ ap {B = Step} (λ m. Ok ([], state (Some (rested m)) (opens.Object outer ∷ opened))) (language-node h.0.keeps.valued n text (its-valued s p i o k n h.0)))
        (with-parts s p i o k n h.0 o.types o.value (Some text) ps (language-parts h.0.keeps.valued o n.parts text (its-parts s p i o k n h.0)) h.0.keeps.typed, h.1) y

    by : (x : Expected) → o.expects ≡ x → IsExpected x o.entries → (v : Scalar) → AgreesLeading s b (scalar_under s at v x p i o k) (takes_scalar c at v (state (Some n) (opens.Object outer ∷ opened)))
    by no_value e z v = rests no_value e v (given.Written v) refl refl
    by dropped_value e z v = rests dropped_value e v (given.Written v) refl refl
    by (property_value name iri) e z v =
        subst (λ a. AgreesLeading s b (hang_scalar s (property_spot i o name iri) at v (object_frame p i o) k) (takes_scalar a at v (state (Some n) (opens.Object outer ∷ opened)))) (sym cs)
        (scalar-hangs s at b v (property_spot i o name iri) (object_frame p i o) k (Some n) (opens.Object outer ∷ opened) h (ap (spot_under i o) e) y)
    by (keyword_value kind key_at) e z (Str text) = typed key_at e z text
    by (keyword_value kind key_at) e z v = stops (keyword_value kind key_at) e v (given.Written v) (fault code.InvalidTypeValue key_at) refl refl
    by (keyword_value value key_at) e z v = has-value-at key_at e z v
    by (keyword_value id key_at) e z (Str text) = rests (keyword_value id key_at) e (Str text) (given.Written (Str text)) refl refl
    by (keyword_value id key_at) e z v = stops (keyword_value id key_at) e v (given.Written v) (fault code.InvalidIdValue key_at) refl refl
    by (keyword_value language key_at) e z (Str text) = spoken key_at e text
    by (keyword_value language key_at) e z v = stops (keyword_value language key_at) e v (given.Written v) (fault code.InvalidLanguageTaggedString key_at) refl refl
    by (keyword_value direction key_at) e z (Str text) =
        subst (λ t. AgreesLeading s b (walk.unless_fault (if_so (not (is_direction_text text)) (fault code.InvalidBaseDirection key_at ∷ [])) (λ _. Ok ([], object_frame p i (record o { expects = no_value }) ∷ k))) t)
        (sym (waits-for s c at (Str text) p i o k n outer opened (keyword_value direction key_at) h.0 e (given.Written (Str text)) refl))
        (direction-goes s b (is_direction_text text) key_at p i o k n outer opened h.0 h.1 y)
    by (keyword_value direction key_at) e z v = stops (keyword_value direction key_at) e v (given.Written v) (fault code.InvalidBaseDirection key_at) refl refl
    by (keyword_value index key_at) e z (Str text) = rests (keyword_value index key_at) e (Str text) (given.Written (Str text)) refl refl
    by (keyword_value index key_at) e z v = stops (keyword_value index key_at) e v (given.Written v) (fault code.InvalidIndexValue key_at) refl refl
    by (keyword_value q key_at) e z v = absurd z

-- ---- a scalar in an array of types

-- the node that has many types already stays as it is
item-taken : (v : Bool) (n : Node) (o : Object) (ps : ValueParts) (e : Expanded) → n.parts ≡ ps → KeepsParts v o ps → o.types ≡ not_one → n.subject ≡ o.subject → n.scope ≡ o.scope →
    take_type v e n ≡ Ok (formed (type_says o.subject o.scope e), n)
item-taken true n o ps e x h t u g =
    let many : n.parts.kinds ≡ kinds.Several = ap (λ a. a.kinds) x ∙ (ap (λ a. a.kinds) h.0 ∙ ap kept_types t) in
    ap {B = Taken} (λ a. Ok ([], with_kinds n (another_kind a e))) many
    ∙ (ap {B = Taken} (λ a. Ok ([], with_kinds n a)) (sym many)
    ∙ ap {B = Taken} (λ a. Ok (a, n)) (sym (ap (λ a. formed (type_says a o.scope e)) h.1 ∙ no-type o.scope e)))
item-taken false n o ps e x h t u g =
    ap {B = Taken} (λ a. Ok (a, n)) (sym (node-type n e) ∙ (ap (λ a. formed (type_says a n.scope e)) u ∙ ap (λ a. formed (type_says o.subject a e)) g))

scalar-in-types : (s : Settings) (c : Context) (at : ℕ) (b : Bool) (v : Scalar) (base : Context) (m : Option Term) (g : GraphScope) (key_at : ℕ) (k : List Frame) (n : Option Node) (opened : List Open) →
    c ≡ initial s.base → TypesIn base m g key_at k → KeepsIn s false k n opened → node_valued n ≡ b →
    AgreesLeading s b (type_item v key_at (types base m g key_at) k) (takes_scalar c at v (state n (opens.Array ∷ opened)))
scalar-in-types s c at b v base m g key_at (object_frame p i o ∷ k) (Some n) (opens.Object outer ∷ opened) cs t h y = by v
  where
    stack : List Open
    stack = opens.Array ∷ (opens.Object outer ∷ opened)

    waits : n.pending ≡ pending.Keyword key_at keyword.Kind
    waits = its-pending s false p i o k n (keyword_value kind key_at) h.0 t.expects

    in-base : base ≡ c
    in-base = t.base ∙ (ap (λ j. j.base) h.0.plain ∙ sym cs)

    taken : (v : Scalar) (x : Given) → scalar_by reads.Types c at v (state (Some n) stack) ≡ gives at x (state (Some n) stack) →
        takes_scalar c at v (state (Some n) stack) ≡ after_scalar (some_taken (take_pending (pending.Keyword key_at keyword.Kind) (record { at = at; given = x }) n)) stack
    taken v x r = read-waits c at v n stack (pending.Keyword key_at keyword.Kind) refl waits ∙ (r ∙ given-waits at x n stack (pending.Keyword key_at keyword.Kind) refl waits)

    says : (text : Text) → type_says o.subject o.scope (expand_type c text) ≡ type_says m g (expand_type base text)
    says text = sym (ap (λ a. type_says a g (expand_type base text)) t.subject ∙ (ap (λ a. type_says o.subject a (expand_type base text)) t.scope ∙ ap (λ a. type_says o.subject o.scope (expand_type a text)) in-base))

    by : (v : Scalar) → AgreesLeading s b (type_item v key_at (types base m g key_at) (object_frame p i o ∷ k)) (takes_scalar c at v (state (Some n) stack))
    by (Str text) =
        agrees-on s b _ (types base m g key_at ∷ (object_frame p i o ∷ k)) (Some n) stack _
        (taken (Str text) (given.Type (expand_type c text)) refl
        ∙ (ap (λ a. after_scalar (some_taken (take_type a (expand_type c text) n)) stack) (its-valued s p i o k n h.0)
        ∙ (ap (λ a. after_scalar (some_taken a) stack) (item-taken h.0.keeps.valued n o n.parts (expand_type c text) refl (its-parts s p i o k n h.0) t.types (its-subject s p i o k n h.0) (its-scope s p i o k n h.0))
        ∙ ap {B = Step} (λ q. Ok (formed q, state (Some n) stack)) (says text)))) (t, h) y
    by v = taken v (given.Written v) refl
scalar-in-types s c at b v base m g key_at (object_frame p i o ∷ k) n opened cs t h y = absurd h
scalar-in-types s c at b v base m g key_at k n opened cs t h y = absurd t

-- ---- a scalar

dropped-scalar : (s : Settings) (c : Context) (at : ℕ) (v : Scalar) (n : Option Node) (opened : List Open) → takes_scalar c at v (state n (opens.Dropped ∷ opened)) ≡ Ok ([], state n (opens.Dropped ∷ opened))
unfolding frames.scalar
dropped-scalar s c at v n opened = refl

pub scalar-comes : (s : Settings) (at : ℕ) (b : Bool) (v : Scalar) (k : List Frame) (n : Option Node) (opened : List Open) → KeepsIn s false k n opened → node_valued n ≡ b →
    AgreesLeading s b (take_scalar s at v k) (takes_scalar (initial s.base) at v (state n opened))
unfolding take_scalar
scalar-comes s at b v [] n opened h y = absurd h
scalar-comes s at b v (values_frame p ∷ []) None [] h y = scalar-hangs s at b v p (values_frame p) [] None [] h refl y
scalar-comes s at b v (values_frame p ∷ (f ∷ k)) n (opens.Array ∷ opened) h y = scalar-hangs s at b v p (values_frame p) (f ∷ k) n (opens.Array ∷ opened) h refl y
scalar-comes s at b v (object_frame p i o ∷ k) (Some n) (opens.Object outer ∷ opened) h y =
    scalar-in-object s (initial s.base) at b v p i o k n outer opened (ap (λ j. j.base) h.0.plain) refl h y
scalar-comes s at b v (types c m g key_at ∷ k) n (opens.Array ∷ opened) h y = scalar-in-types s (initial s.base) at b v c m g key_at k n opened refl h.0 h.1 y
scalar-comes s at b v (dropped ∷ k) n (opens.Dropped ∷ opened) h y = (state n (opens.Dropped ∷ opened), (dropped-scalar s (initial s.base) at v n opened, ((refl, h), y)))
scalar-comes s at b v k n opened h y = absurd h

-- ==== What an object gives as it closes: the walk by its entries, the stack by its marks.

-- ---- the term of a value

-- whatever it is, but for a reference, its term is that of its literal
abbrev SameTerm : values.Valued → Type 0
SameTerm v = term_of_value (unless_refused v) ≡ closing.term_of_lit (closing.lit_of v)

same-numbered : (d : Text) (r : Result Text Code) → SameTerm (numbered d r)
same-numbered d (Ok text) = refl
same-numbered d (Err c) = refl

same-number : (b : Bool) (d token : Text) → SameTerm (elim b [ true ↦ numbered d (double_number token) | false ↦ numbered d (integer_number token) ])
same-number true d token = same-numbered d (double_number token)
same-number false d token = same-numbered d (integer_number token)

same-tagged : (b : Bool) (text tag : Text) → b ≡ is_language_tag tag → SameTerm (values.tagged text tag)
same-tagged true text tag e = subst (λ x. SameTerm (elim x [ true ↦ values.literal (record { text = text; datatype = rdf_lang_string; language = Some tag }) | false ↦ values.left_out ])) e refl
same-tagged false text tag e = subst (λ x. SameTerm (elim x [ true ↦ values.literal (record { text = text; datatype = rdf_lang_string; language = Some tag }) | false ↦ values.left_out ])) e refl

same-literal : (v : Scalar) (d l : Option Text) → SameTerm (literal_of v d l)
unfolding literal_of
same-literal Null d l = refl
same-literal (boolean true) d l = refl
same-literal (boolean false) d l = refl
same-literal (Number token) d l = same-number (bytes_eq (type_or d values.xsd_integer) xsd_double) (type_or d values.xsd_integer) token
same-literal (Str text) d None = refl
same-literal (Str text) d (Some tag) = same-tagged (is_language_tag tag) text tag refl

same-json-number : (t : Tree) (r : Result Text Code) → SameTerm (json_number_value t r)
same-json-number t (Ok text) = refl
same-json-number t (Err c) = refl

same-json : (a : ℕ) (v : Scalar) → SameTerm (objects.json_value (scalar a v))
same-json a (Number token) = same-json-number (scalar a (Number token)) (json_number token)
same-json a x = refl

same-object : (b : Bool) (t : ValueType) (l : Option Text) (a : ℕ) (v : Scalar) → SameTerm (elim b [ true ↦ objects.json_value (scalar a v) | false ↦ objects.typed_literal t l (scalar a v) ])
same-object true t l a v = same-json a v
same-object false t l a v = same-literal v (objects.type_iri t) l

pub same-term : (o : Object) → term_of_value (unless_refused (its_valued o)) ≡ closing.term_of_lit (closing.lit_of (its_valued o))
same-term o = by o.value
  where
    by : (v : Option (ℕ × Scalar)) → SameTerm (its_valued (record o { value = v }))
    by None = refl
    by (Some (a, v)) = same-object (objects.is_json_type o.types) o.types o.language a v

-- ---- what is kept at its end, or the first fault

abbrev pub first_or : List Fault → Ended → Result Ended Fault
first_or [] e = Ok e
first_or (f ∷ fs) e = Err f

abbrev pub ended_by : Bool → Bool → Object → Ended
ended_by kept valued o = elim kept [ true ↦ elim valued [ true ↦ ended.Value (closing.lit_of (its_valued o)) | false ↦ ended.Node ] | false ↦ ended.Nothing ]

-- a value that isn't a JSON literal, by its number
number-ends : (under : Under) (i : Inside) (d : Bool) (w : values.Valued) (a : ℕ) (v : Scalar) → drops under ≡ d → objects.is_json i.input ≡ false →
    closing.end_literal w a d ≡ first_or (closing_number under i w (Some (scalar a v))) (elim (not d && true) [ true ↦ ended.Value (closing.lit_of w) | false ↦ ended.Nothing ])
number-ends under i true (values.refused c) a v e j =
    sym (ap (λ z. first_or (if_so (not z && not (objects.is_json i.input)) (fault c a ∷ [])) ended.Nothing) e)
number-ends under i true w a v e j = refl
number-ends under i false (values.refused c) a v e j =
    sym (ap (λ z. first_or (if_so (not z && not (objects.is_json i.input)) (fault c a ∷ [])) (ended.Value None)) e ∙ ap (λ z. first_or (if_so (not z) (fault c a ∷ [])) (ended.Value None)) j)
number-ends under i false w a v e j = refl

same-iri : (t : ValueType) → closing.type_iri (kept_types t) ≡ objects.type_iri t
same-iri (typed_by expanded.Null) = refl
same-iri x = refl

-- a type that is one IRI, or none at all, makes no JSON literal
no-json-type : (k : Bool) (t : ValueType) → (k ≡ false → t ≡ untyped) → (k && not (has_iri (objects.type_iri t))) ≡ false → objects.is_json_type t ≡ false
no-json-type true (typed_by (expanded.Keyword text)) f e = absurd cc
no-json-type false (typed_by (expanded.Keyword text)) f e = absurd (let no : typed_by (expanded.Keyword text) ≡ untyped = f refl in cc)
no-json-type k x f e = refl

-- by its type
typed-ends : (under : Under) (i : Inside) (k y d : Bool) (t : ValueType) (l : Option Text) (at a : ℕ) (ps : ValueParts) (v : Scalar) → (k ≡ false → t ≡ untyped) → (k && not (has_iri (objects.type_iri t))) ≡ y →
    drops under ≡ d → objects.is_json i.input ≡ false → closing.type_iri ps.kinds ≡ objects.type_iri t → ps.language ≡ l →
    closing.end_typed y at ps (record { at = a; scalar = v }) d
    ≡ first_or (or_else (if_so y (fault code.InvalidTypedValue at ∷ [])) (closing_number under i (object_value t l (scalar a v)) (Some (scalar a v))))
    (elim (not d && true) [ true ↦ ended.Value (closing.lit_of (object_value t l (scalar a v))) | false ↦ ended.Nothing ])
typed-ends under i k true d t l at a ps v f y e j x z = refl
typed-ends under i k false d t l at a ps v f y e j x z =
    ap (λ w. closing.end_literal (literal_of v w ps.language) a d) x
    ∙ (ap (λ w. closing.end_literal (literal_of v (objects.type_iri t) w) a d) z
    ∙ (number-ends under i d (literal_of v (objects.type_iri t) l) a v e j
    ∙ ap (λ b. first_or (closing_number under i (elim b [ true ↦ objects.json_value (scalar a v) | false ↦ literal_of v (objects.type_iri t) l ]) (Some (scalar a v)))
    (elim (not d && true) [ true ↦ ended.Value (closing.lit_of (elim b [ true ↦ objects.json_value (scalar a v) | false ↦ literal_of v (objects.type_iri t) l ])) | false ↦ ended.Nothing ]))
    (sym (no-json-type k t f y))))

-- by its language
tagged-ends : (under : Under) (i : Inside) (k x d : Bool) (t : ValueType) (l : Option Text) (es : Entries) (at a : ℕ) (ps : ValueParts) (v : Scalar) → (k ≡ false → t ≡ untyped) → es.kind ≡ k →
    drops under ≡ d → objects.is_json i.input ≡ false → closing.type_iri ps.kinds ≡ objects.type_iri t → ps.language ≡ l →
    closing.end_tagged x es at ps (record { at = a; scalar = v }) d
    ≡ first_or (or_else (if_so x (fault code.InvalidLanguageTaggedValue at ∷ []))
    (or_else (if_so (k && not (has_iri (objects.type_iri t))) (fault code.InvalidTypedValue at ∷ [])) (closing_number under i (object_value t l (scalar a v)) (Some (scalar a v)))))
    (elim (not d && true) [ true ↦ ended.Value (closing.lit_of (object_value t l (scalar a v))) | false ↦ ended.Nothing ])
tagged-ends under i k true d t l es at a ps v f m e j x z = refl
tagged-ends under i k false d t l es at a ps v f m e j x z =
    ap (λ b. closing.end_typed (b && not (has_iri (closing.type_iri ps.kinds))) at ps (record { at = a; scalar = v }) d) m
    ∙ (ap (λ w. closing.end_typed (k && not (has_iri w)) at ps (record { at = a; scalar = v }) d) x
    ∙ typed-ends under i k (k && not (has_iri (objects.type_iri t))) d t l at a ps v f refl e j x z)

-- ---- a value object

-- its value, by its kind
value-ends : (under : Under) (i : Inside) (d : Bool) (o : Object) (es : Entries) (at : ℕ) → (any_key is_kind o.entries ≡ false → o.types ≡ untyped) → es.kind ≡ any_key is_kind o.entries →
    es.language ≡ any_key is_language o.entries → at ≡ o.at → drops under ≡ d → objects.is_json i.input ≡ false →
    closing.end_parts (kept_value o.value) es at (kept_parts o) d
    ≡ first_or (if_so (not (objects.is_null (its_value o)))
    (or_else (faults.language_closing o.at o.entries (its_value o)) (or_else (types_closing o) (closing_number under i (its_valued o) (its_value o)))))
    (elim (not d && not (objects.is_null (its_value o))) [ true ↦ ended.Value (closing.lit_of (its_valued o)) | false ↦ ended.Nothing ])
value-ends under i d o es at f mk ml m e j = by o.value
  where
    none : (d : Bool) (w : values.Valued) → ◌≡◌ {A = Result Ended Fault} (Ok ended.Nothing) (Ok (elim (not d && false) [ true ↦ ended.Value (closing.lit_of w) | false ↦ ended.Nothing ]))
    none true w = refl
    none false w = refl

    some : (a : ℕ) (v : Scalar) (x : Bool) → (es.language && not (closing.is_string v)) ≡ x → (any_key is_language o.entries && not (faults.is_string (Some (scalar a v)))) ≡ x →
        closing.end_tagged (es.language && not (closing.is_string v)) es at (kept_parts o) (record { at = a; scalar = v }) d
        ≡ first_or (or_else (faults.language_closing o.at o.entries (Some (scalar a v))) (or_else (types_closing o) (closing_number under i (object_value o.types o.language (scalar a v)) (Some (scalar a v)))))
        (elim (not d && true) [ true ↦ ended.Value (closing.lit_of (object_value o.types o.language (scalar a v))) | false ↦ ended.Nothing ])
    some a v x p q =
        ap (λ b. closing.end_tagged b es at (kept_parts o) (record { at = a; scalar = v }) d) p
        ∙ (ap (λ z. closing.end_tagged x es z (kept_parts o) (record { at = a; scalar = v }) d) m
        ∙ (tagged-ends under i (any_key is_kind o.entries) x d o.types o.language es o.at a (kept_parts o) v f mk e j (same-iri o.types) refl
        ∙ ap (λ b. first_or (or_else (if_so b (fault code.InvalidLanguageTaggedValue o.at ∷ []))
        (or_else (types_closing o) (closing_number under i (object_value o.types o.language (scalar a v)) (Some (scalar a v)))))
        (elim (not d && true) [ true ↦ ended.Value (closing.lit_of (object_value o.types o.language (scalar a v))) | false ↦ ended.Nothing ])) (sym q)))

    by : (v : Option (ℕ × Scalar)) →
        closing.end_parts (kept_value v) es at (kept_parts o) d
        ≡ first_or (if_so (not (objects.is_null (its_value (record o { value = v }))))
        (or_else (faults.language_closing o.at o.entries (its_value (record o { value = v }))) (or_else (types_closing o) (closing_number under i (its_valued (record o { value = v })) (its_value (record o { value = v }))))))
        (elim (not d && not (objects.is_null (its_value (record o { value = v })))) [ true ↦ ended.Value (closing.lit_of (its_valued (record o { value = v }))) | false ↦ ended.Nothing ])
    by None = none d values.left_out
    by (Some (a, Null)) = none d (object_value o.types o.language (scalar a Null))
    by (Some (a, boolean b)) = some a (boolean b) (any_key is_language o.entries && true) (ap (λ z. z && true) ml) refl
    by (Some (a, Number t)) = some a (Number t) (any_key is_language o.entries && true) (ap (λ z. z && true) ml) refl
    by (Some (a, Str t)) = some a (Str t) (any_key is_language o.entries && false) (ap (λ z. z && false) ml) refl

-- ---- an object

node-ends : (b : Bool) → ◌≡◌ {A = Ended} (closing.end_node b) (elim (not b) [ true ↦ ended.Node | false ↦ ended.Nothing ])
node-ends true = refl
node-ends false = refl

value-object : (v : Bool) (o : Object) (ps : ValueParts) → KeepsParts v o ps → any_key is_value o.entries ≡ true → (v ≡ true) × (ps ≡ kept_parts o)
value-object true o ps h e = (refl, h.0)
value-object false o ps h e = absurd (let both : true ≡ false = sym e ∙ h in cc)

pub object-ends : (s : Settings) (under : Under) (p : Spot) (i : Inside) (o : Object) (k : List Frame) (n : Node) → KeepsAt s false p i o k n →
    closing.end_of n (drops under) ≡ first_or (closing_of under i o) (ended_by (is_kept under o) (any_key is_value o.entries) o)
unfolding closing.end_of
object-ends s under p i o k n h = ap (λ b. closing.end_by b n (drops under)) m.value ∙ by (any_key is_value o.entries) refl
  where
    m : KeepsMarks n.entries o.entries
    m = its-marks s false p i o k n h

    same-at : n.at ≡ o.at
    same-at = ap (λ z. z.at) h.keeps.same

    node : closing.is_only_language n.entries ≡ is_only_language o.entries
    node = only-language n.entries o.entries m h.keeps.are_entries

    form : closing.is_value_form n.entries ≡ faults.is_value_form o.entries
    form = value-form n.entries o.entries m h.keeps.are_entries

    value-by : (w : Bool) → n.parts ≡ kept_parts o → objects.is_json i.input ≡ false →
        closing.end_value w n.entries n.at n.parts (drops under)
        ≡ first_or (or_else (if_so (not w) (fault code.InvalidValueObject o.at ∷ []))
        (if_so (not (objects.is_null (its_value o)))
        (or_else (faults.language_closing o.at o.entries (its_value o)) (or_else (types_closing o) (closing_number under i (its_valued o) (its_value o))))))
        (elim (keeps_value under o) [ true ↦ ended.Value (closing.lit_of (its_valued o)) | false ↦ ended.Nothing ])
    value-by true ps j =
        ap (λ z. closing.end_parts z.value n.entries n.at z (drops under)) ps
        ∙ value-ends under i (drops under) o n.entries n.at h.keeps.typed m.kind m.language same-at refl j
    value-by false ps j = ap (λ z. Err (fault code.InvalidValueObject z)) same-at

    by : (c : Bool) → any_key is_value o.entries ≡ c →
        closing.end_by c n (drops under)
        ≡ first_or (if_so c
        (or_else (if_so (not (faults.is_value_form o.entries)) (fault code.InvalidValueObject o.at ∷ []))
        (if_so (not (objects.is_null (its_value o)))
        (or_else (faults.language_closing o.at o.entries (its_value o)) (or_else (types_closing o) (closing_number under i (its_valued o) (its_value o)))))))
        (ended_by (elim c [ true ↦ keeps_value under o | false ↦ not (is_only_language o.entries) ]) c o)
    by true e =
        let v = value-object h.keeps.valued o h.keeps.parts h.keeps.its_parts e in
        ap (λ w. closing.end_value w n.entries n.at n.parts (drops under)) form ∙ value-by (faults.is_value_form o.entries) (ap (λ z. z.parts) h.keeps.same ∙ v.1) (h.no_json v.0)
    by false e = ap (λ b. Ok (closing.end_node b)) node ∙ ap (λ z. Ok z) (node-ends (is_only_language o.entries))

-- ==== The stack does what the walk does, move by move.

-- ---- an object

-- what an object says as it ends
abbrev ended_said : Bool → Bool → Spot → Object → Said
ended_said kept valued p o =
    elim kept [
      | true ↦ elim valued [
        | true ↦ value_says p.role.around p.role.hanging o.at (term_of_value (unless_refused (its_valued o))) p.head
        | false ↦ hangs p.role.hanging o.at (linked_by p.role.around o.at o.subject) p.head
      ]
      | false ↦ nothing p.head
    ]

-- outside of all objects a value is dropped
outside : (s : Settings) (p : Spot) (n : Option Node) → HasSpot s p n → drops p.under ≡ is_outside n
outside s p None h = ap (λ x. drops x.under) h.1.1
outside s p (Some n) h = ap (λ x. drops x.under) h.1.1.0

-- what hangs at the spot of an object
said-loose : (s : Settings) (a : Around) (at : ℕ) (t : Option Term) → IsPlainRound a →
    (value_says (loose_spot s a).role.around (loose_spot s a).role.hanging at t (loose_spot s a).head ≡ nothing (loose_spot s a).head)
    × (linked_by (loose_spot s a).role.around at t ≡ t)
said-loose s document at t r = (refl, refl)
said-loose s ordinary at t r = (refl, refl)
said-loose s a at t r = absurd r

-- an object that has ended, kept or not, as a value or as a node
ends-loose : (s : Settings) (kept valued : Bool) (a : Around) (i : Inside) (o : Object) (f : Frame) (k : List Frame) (n : Node) (opened : List Open) → IsPlainRound a →
    KeepsIn s false (f ∷ k) None opened → spot_in f ≡ Some (loose_spot s a) →
    AgreesFrames s (Ok ((ended_said kept valued (loose_spot s a) o).0, told kept (ended_said kept valued (loose_spot s a) o).1 f ∷ k)) (after_object (Ok (ended_by kept valued o)) (Some n) None opened)
ends-loose s false v a i o f k n opened r h e = (complete None opened, (refl, told-keeps s false f k None opened (loose_spot s a) h e))
ends-loose s true true a i o f k n opened r h e =
    subst (λ x. AgreesFrames s (Ok (x.0, told true x.1 f ∷ k)) (after_object (Ok (ended_by true true o)) (Some n) None opened))
    (sym (said-loose s a o.at (term_of_value (unless_refused (its_valued o))) r).0)
    (complete None opened, (refl, told-keeps s true f k None opened (loose_spot s a) h e))
ends-loose s true false a i o f k n opened r h e = (complete None opened, (refl, told-keeps s true f k None opened (loose_spot s a) h e))

ends-linked : (s : Settings) (kept valued : Bool) (name iri : Text) (i : Inside) (o : Object) (f : Frame) (k : List Frame) (n outer : Node) (opened : List Open) → n.subject ≡ o.subject →
    outer.pending ≡ pending.Property iri → outer.scope ≡ Main → KeepsIn s false (f ∷ k) (Some outer) opened → spot_in f ≡ Some (linked_spot s name iri outer.subject) →
    AgreesFrames s (Ok ((ended_said kept valued (linked_spot s name iri outer.subject) o).0, told kept (ended_said kept valued (linked_spot s name iri outer.subject) o).1 f ∷ k))
    (after_object (Ok (ended_by kept valued o)) (Some n) (Some outer) opened)
ends-linked s false v name iri i o f k n outer opened u w m h e = (complete (Some outer) opened, (refl, told-keeps s false f k (Some outer) opened (linked_spot s name iri outer.subject) h e))
ends-linked s true true name iri i o f k n outer opened u w m h e = (
  complete (all_holding (Some outer)) opened,
  (
    ap {B = Step} (λ q. Ok (q, complete (all_holding (Some outer)) opened))
        (ap (λ t. hang_on (Some outer) t) (sym (same-term o)) ∙ (ap (λ y. hang_under y outer (term_of_value (unless_refused (its_valued o)))) w ∙ hung outer iri (term_of_value (unless_refused (its_valued o))) m)),
    told-keeps s true f k (Some outer) opened (linked_spot s name iri outer.subject) h e,
  ),
)
ends-linked s true false name iri i o f k n outer opened u w m h e = (
  complete (all_holding (Some outer)) opened,
  (
    ap {B = Step} (λ q. Ok (q, complete (all_holding (Some outer)) opened))
        (ap (λ t. hang_on (Some outer) t) u ∙ (ap (λ y. hang_under y outer o.subject) w ∙ hung outer iri o.subject m)),
    told-keeps s true f k (Some outer) opened (linked_spot s name iri outer.subject) h e,
  ),
)

-- at its spot
ends-here : (s : Settings) (kept valued : Bool) (p : Spot) (i : Inside) (o : Object) (f : Frame) (k : List Frame) (n : Node) (outer : Option Node) (opened : List Open) → n.subject ≡ o.subject →
    KeepsIn s false (f ∷ k) outer opened → spot_in f ≡ Some p → HasSpot s p outer →
    AgreesFrames s (Ok ((ended_said kept valued p o).0, told kept (ended_said kept valued p o).1 f ∷ k)) (after_object (Ok (ended_by kept valued o)) (Some n) outer opened)
ends-here s kept v p i o f k n None opened u h e has =
    subst (λ x. AgreesFrames s (Ok ((ended_said kept v x o).0, told kept (ended_said kept v x o).1 f ∷ k)) (after_object (Ok (ended_by kept v o)) (Some n) None opened)) (sym has.1.1)
    (ends-loose s kept v has.0 i o f k n opened has.1.0 h (e ∙ ap {A = Spot} (λ x. Some x) has.1.1))
ends-here s kept v p i o f k n (Some outer) opened u h e has =
    subst (λ x. AgreesFrames s (Ok ((ended_said kept v x o).0, told kept (ended_said kept v x o).1 f ∷ k)) (after_object (Ok (ended_by kept v o)) (Some n) (Some outer) opened)) (sym has.1.1.0)
    (ends-linked s kept v has.0 has.1.0 i o f k n outer opened u has.1.1.1.0 has.1.1.1.1 h (e ∙ ap {A = Spot} (λ x. Some x) has.1.1.0))

-- it has a fault, or it ends
judged : (s : Settings) (fs : List Fault) (kept valued : Bool) (p : Spot) (i : Inside) (o : Object) (f : Frame) (k : List Frame) (n : Node) (outer : Option Node) (opened : List Open) → n.subject ≡ o.subject →
    KeepsIn s false (f ∷ k) outer opened → spot_in f ≡ Some p → HasSpot s p outer →
    AgreesFrames s (walk.unless_fault fs (λ _. Ok ((ended_said kept valued p o).0, told kept (ended_said kept valued p o).1 f ∷ k))) (after_object (first_or fs (ended_by kept valued o)) (Some n) outer opened)
judged s [] kept v p i o f k n outer opened u h e has = ends-here s kept v p i o f k n outer opened u h e has
judged s (x ∷ xs) kept v p i o f k n outer opened u h e has = refl

object-closes : (s : Settings) (p : Spot) (i : Inside) (o : Object) (k : List Frame) (n : Node) (outer : Option Node) (opened : List Open) → KeepsAt s false p i o k n → KeepsIn s false k outer opened →
    AgreesFrames s (close_object p i o k) (frames.close (state (Some n) (opens.Object outer ∷ opened)))
unfolding frames.close
object-closes s p i o [] n outer opened h r = absurd r
object-closes s p i o (f ∷ k) n outer opened h r =
    let has = has-spot s false (f ∷ k) outer opened p r h.round in
    subst (λ t. AgreesFrames s (close_object p i o (f ∷ k)) (after_object t (Some n) outer opened))
    (sym (ap (λ d. closing.end_of n d) (sym (outside s p outer has)) ∙ object-ends s p.under p i o (f ∷ k) n h))
    (judged s (closing_of p.under i o) (is_kept p.under o) (any_key is_value o.entries) p i o f k n outer opened (ap (λ z. z.subject) h.keeps.same) r h.round has)

-- ---- an array

-- the mark of the property has come as the array opened
held-told : (s : Settings) (p : Spot) (i : Inside) (o : Object) (k : List Frame) (n : Node) (q : Spot) → KeepsAt s true p i o k n → spot_under i o o.expects ≡ Some q → KeepsAt s false p i (after_value true o) k (rested n)
held-told s p i o k n q h e = by o.expects refl e
  where
    by : (x : Expected) → o.expects ≡ x → spot_under i o x ≡ Some q → KeepsAt s false p i (after_value true o) k (rested n)
    by (property_value name iri) y e =
        subst (λ z. KeepsAt s false p i z k (rested n)) (sym (after-entries o (property_value name iri) true y))
        (property-added s true p i o k n iri n.entries h (array-marked iri n.entries o.entries (its-marks s true p i o k n h)))
    by no_value y e = absurd cc
    by (keyword_value key at) y e = absurd cc
    by dropped_value y e = absurd cc

array-told : (s : Settings) (f : Frame) (k : List Frame) (n : Option Node) (opened : List Open) (p q : Spot) → KeepsIn s true (f ∷ k) n opened → spot_in f ≡ Some q → p ≡ items_spot q →
    KeepsFrames s (told true p.head f ∷ k) (complete n opened)
array-told s (values_frame x) [] None [] p q h e y = told-keeps s false (values_frame x) [] None [] (record q { head = p.head }) h (e ∙ ap {B = Option Spot} (λ z. Some (record q { head = z })) (sym (ap (λ z. z.head) y)))
array-told s (values_frame x) (f ∷ k) n (opens.Array ∷ opened) p q h e y =
    told-keeps s false (values_frame x) (f ∷ k) n (opens.Array ∷ opened) (record q { head = p.head }) h (e ∙ ap {B = Option Spot} (λ z. Some (record q { head = z })) (sym (ap (λ z. z.head) y)))
array-told s (object_frame x i o) k (Some n) (opens.Object outer ∷ opened) p q h e y = (refl, (held-told s x i o k n q h.0 e, h.1))
array-told s (types c m g at) k n opened p q h e y = absurd cc
array-told s dropped k n opened p q h e y = absurd cc
array-told s f k n opened p q h e y = absurd h

-- ---- types, and what was dropped

pub types-closes : (s : Settings) (v : Bool) (c : Context) (m : Option Term) (g : GraphScope) (at : ℕ) (k : List Frame) (n : Option Node) (opened : List Open) → TypesIn c m g at k → KeepsIn s false k n opened → node_valued n ≡ v →
    AgreesLeading s v (walk.quiet (rest_in k)) (frames.close (state n (opens.Array ∷ opened)))
unfolding frames.close
types-closes s v c m g at (object_frame p i o ∷ k) (Some n) (opens.Object outer ∷ opened) t h y =
    (state (Some (rested n)) (opens.Object outer ∷ opened), (refl, ((refl, (nothing-added s p i o k n h.0, h.1)), y)))
types-closes s v c m g at (object_frame p i o ∷ k) n opened t h y = absurd h
types-closes s v c m g at k n opened t h y = absurd t

dropped-closes : (s : Settings) (k : List Frame) (n : Option Node) (opened : List Open) → DroppedIn k → KeepsIn s false k n opened →
    AgreesFrames s (walk.quiet (rest_in k)) (frames.close (state n (opens.Dropped ∷ opened)))
unfolding frames.close
dropped-closes s (object_frame p i o ∷ k) (Some n) (opens.Object outer ∷ opened) t h = (state (Some (rested n)) (opens.Object outer ∷ opened), (refl, (refl, (nothing-added s p i o k n h.0, h.1))))
dropped-closes s (object_frame p i o ∷ k) n opened t h = absurd h
dropped-closes s (dropped ∷ k) n (opens.Dropped ∷ opened) t h = (state n (opens.Dropped ∷ opened), (refl, (refl, h)))
dropped-closes s (dropped ∷ k) n opened t h = absurd h
dropped-closes s k n opened t h = absurd t

pub container-closes : (s : Settings) (k : List Frame) (n : Option Node) (opened : List Open) → KeepsIn s false k n opened → FitsFrames k closes → AgreesFrames s (close k) (frames.close (state n opened))
unfolding close frames.close
container-closes s [] n opened h fits = absurd h
container-closes s (values_frame p ∷ []) n opened h fits = absurd fits
container-closes s (values_frame p ∷ (f ∷ k)) n (opens.Array ∷ opened) h fits = (complete n opened, (refl, array-told s f k n opened p h.0.0 h.1 h.0.1.0 h.0.1.1))
container-closes s (object_frame p i o ∷ k) (Some n) (opens.Object outer ∷ opened) h fits = object-closes s p i o k n outer opened h.0 h.1
container-closes s (types c m g at ∷ k) n (opens.Array ∷ opened) h fits = agrees-frames s (node_valued n) (walk.quiet (rest_in k)) (frames.close (state n (opens.Array ∷ opened))) (types-closes s (node_valued n) c m g at k n opened h.0 h.1 refl)
container-closes s (dropped ∷ k) n (opens.Dropped ∷ opened) h fits = dropped-closes s k n opened h.0 h.1
container-closes s k n opened h fits = absurd h

pub start-keeps : (s : Settings) → KeepsFrames s (start s) frames.start
start-keeps s = (refl, refl)

-- ---- where a value may stand

value-expected : (i : Inside) (o : Object) (x : Expected) → IsExpected x o.entries → takes_value (read_under (kept_pending x)) ≡ is_some (spot_under i o x)
value-expected i o no_value h = refl
value-expected i o (property_value name iri) h = refl
value-expected i o (keyword_value id at) h = refl
value-expected i o (keyword_value kind at) h = refl
value-expected i o (keyword_value value at) h = refl
value-expected i o (keyword_value language at) h = refl
value-expected i o (keyword_value direction at) h = refl
value-expected i o (keyword_value index at) h = refl
value-expected i o (keyword_value q at) h = absurd h
value-expected i o dropped_value h = refl

value-in-types : (s : Settings) (c : Context) (m : Option Term) (g : GraphScope) (at : ℕ) (k : List Frame) (n : Option Node) (opened : List Open) → TypesIn c m g at k → KeepsIn s false k n opened →
    takes_value (read_as (state n (opens.Array ∷ opened))) ≡ false
value-in-types s c m g at (object_frame p i o ∷ k) (Some n) (opens.Object outer ∷ opened) t h = ap (λ w. takes_value (read_under w)) (its-pending s false p i o k n (keyword_value kind at) h.0 t.expects)
value-in-types s c m g at (object_frame p i o ∷ k) n opened t h = absurd h
value-in-types s c m g at k n opened t h = absurd t

-- in an array of values
value-in-array : (s : Settings) (k : List Frame) (n : Option Node) (opened : List Open) (p : Spot) → KeepsIn s true k n opened → top_spot k ≡ Some p → takes_value (read_as (state n (opens.Array ∷ opened))) ≡ true
value-in-array s k None opened p h e = refl
value-in-array s k (Some n) opened p h e = ap (λ w. takes_value (read_under w)) (has-spot s true k (Some n) opened p h e).1.1.1.0

value-in : (s : Settings) (k : List Frame) (n : Option Node) (opened : List Open) → KeepsIn s false k n opened → takes_value (read_as (state n opened)) ≡ is_some (top_spot k)
value-in s [] n opened h = absurd h
value-in s (values_frame p ∷ []) None [] h = refl
value-in s (values_frame p ∷ (f ∷ k)) n (opens.Array ∷ opened) h = value-in-array s (f ∷ k) n opened h.0.0 h.1 h.0.1.0
value-in s (object_frame p i o ∷ k) (Some n) (opens.Object outer ∷ opened) h =
    ap (λ w. takes_value (read_under w)) (its-pending s false p i o k n o.expects h.0 refl) ∙ value-expected i o o.expects h.0.keeps.expected
value-in s (types c m g at ∷ k) n (opens.Array ∷ opened) h = value-in-types s c m g at k n opened h.0 h.1
value-in s (dropped ∷ k) n (opens.Dropped ∷ opened) h = refl
value-in s k n opened h = absurd h

pub value-here : (s : Settings) (k : List Frame) (st : StackState) → KeepsFrames s k st → takes_value (read_as st) ≡ is_some (top_spot k)
value-here s k st h = value-in s k st.node st.opens h.1

-- ---- the moves

-- what holds of the stack by its parts
of-parts : (s : Settings) (k : List Frame) (st : StackState) (P : StackState → Type 0) → KeepsFrames s k st → P (state st.node st.opens) → P st
of-parts s k st P h x = subst P (sym h.0) x

pub keeps-array : (s : Settings) (at : ℕ) (k : List Frame) (st : StackState) (b : Bool) → KeepsFrames s k st → node_valued st.node ≡ b → AgreesLeading s b (open_array at k) (opens_array at st)
keeps-array s at k st b h v = of-parts s k st (λ x. AgreesLeading s b (open_array at k) (opens_array at x)) h (array-opens s at b k st.node st.opens h.1 v)

pub keeps-other : (s : Settings) (at : ℕ) (d : Spot → Result Entering Fault) (k : List Frame) (st : StackState) (b : Bool) → KeepsFrames s k st → node_valued st.node ≡ b → top_spot k ≡ None →
    AgreesLeading s b (enter at d k) (opens_other at st)
keeps-other s at d k st b h v e = of-parts s k st (λ x. AgreesLeading s b (enter at d k) (opens_other at x)) h (other-opens s at b d k st.node st.opens h.1 v e)

pub keeps-enter : (s : Settings) (at : ℕ) (e : Entering) (name : Option Expanded) (p : Spot) (k : List Frame) (st : StackState) → KeepsFrames s k st → top_spot k ≡ Some p →
    IsPlainInside s e.inside → naming_shown name ≡ e.naming → (e.valued && e.json) ≡ false → (e.valued ≡ true → is_json e.inside.input ≡ false) →
    AgreesLeading s e.valued (enter_at p at (Ok e) k) (frames.enter (frame_by at name e.valued) st)
keeps-enter s at e name p k st h r i n built j =
    of-parts s k st (λ x. AgreesLeading s e.valued (enter_at p at (Ok e) k) (frames.enter (frame_by at name e.valued) x)) h (enters s at e name p k st.node st.opens h.1 r i n built j)

pub keeps-scalar : (s : Settings) (at : ℕ) (v : Scalar) (k : List Frame) (st : StackState) (b : Bool) → KeepsFrames s k st → node_valued st.node ≡ b →
    AgreesLeading s b (take_scalar s at v k) (takes_scalar (initial s.base) at v st)
keeps-scalar s at v k st b h y = of-parts s k st (λ x. AgreesLeading s b (take_scalar s at v k) (takes_scalar (initial s.base) at v x)) h (scalar-comes s at b v k st.node st.opens h.1 y)

pub keeps-key : (s : Settings) (at : ℕ) (name : Text) (k : List Frame) (st : StackState) → KeepsFrames s k st → InRest k → AgreesFrames s (take_key at name k) (takes_key (initial s.base) false at name st)
keeps-key s at name k st h r = of-parts s k st (λ x. AgreesFrames s (take_key at name k) (takes_key (initial s.base) false at name x)) h (key-comes s at name k st.node st.opens h.1 r)

pub keeps-leading-key : (s : Settings) (at : ℕ) (name : Text) (p : Spot) (i : Inside) (o : Object) (k : List Frame) (st : StackState) (b : Bool) → KeepsFrames s (object_frame p i o ∷ k) st → node_valued st.node ≡ b →
    phase_faults o.phase i name at ≡ [] → (is_value (key_of (initial s.base) name) ≡ true → b ≡ true) →
    AgreesLeading s b (take_key at name (object_frame p i o ∷ k)) (takes_key (initial s.base) true at name st)
keeps-leading-key s at name p i o k st b h y ph v =
    of-parts s (object_frame p i o ∷ k) st (λ x. AgreesLeading s b (take_key at name (object_frame p i o ∷ k)) (takes_key (initial s.base) true at name x)) h
    (leading-key s b at name p i o k st.node st.opens h.1 y ph v)

pub keeps-close : (s : Settings) (k : List Frame) (st : StackState) → KeepsFrames s k st → FitsFrames k closes → AgreesFrames s (close k) (frames.close st)
keeps-close s k st h fits = of-parts s k st (λ x. AgreesFrames s (close k) (frames.close x)) h (container-closes s k st.node st.opens h.1 fits)

types-close : (s : Settings) (c : Context) (m : Option Term) (g : GraphScope) (at : ℕ) (k : List Frame) (n : Option Node) (opened : List Open) (v : Bool) → KeepsIn s false (types c m g at ∷ k) n opened → node_valued n ≡ v →
    AgreesLeading s v (close (types c m g at ∷ k)) (frames.close (state n opened))
unfolding close
types-close s c m g at k n (opens.Array ∷ opened) v h y = types-closes s v c m g at k n opened h.0 h.1 y
types-close s c m g at k n opened v h y = absurd h

pub keeps-close-types : (s : Settings) (c : Context) (m : Option Term) (g : GraphScope) (at : ℕ) (k : List Frame) (st : StackState) (v : Bool) → KeepsFrames s (types c m g at ∷ k) st → node_valued st.node ≡ v →
    AgreesLeading s v (close (types c m g at ∷ k)) (frames.close st)
keeps-close-types s c m g at k st v h y =
    of-parts s (types c m g at ∷ k) st (λ x. AgreesLeading s v (close (types c m g at ∷ k)) (frames.close x)) h (types-close s c m g at k st.node st.opens v h.1 y)
