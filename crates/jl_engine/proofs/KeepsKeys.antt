-- Where values stand, what a frame learns as one ends, and a key or a container that comes.
use Rattle.std.proofs.Common.{ℕ, ◌≡◌, refl, sym, ◌∙◌, ap, subst, Bool, true, false, List, [], ◌∷◌, Option, Some, None, ◌||◌, ◌++◌, Ok, ◌&&◌, if◌then◌else◌, not, codes, bytes_eq, Err, Result}
use Rattle.std.specs.List.{list_any}
use Rattle.std.proofs.lemmas.Slice.Eq.{bytes_eq-Decides}
use Rattle.std.proofs.lemmas.Bool.{or_parts}
use Rattle.jl_model.specs.declared.graph_scopes.GraphScope.TheVariants.{Main}
use Rattle.jl_model.specs.Parts.{Parts}
use Rattle.jl_model.specs.declared.expansions.Expanded.{Expanded}
use Rattle.jl_model.specs.declared.expansions.Expanded.TheVariants as expanded
use Rattle.jl_model.specs.declared.faults.Fault.{Fault}
use Rattle.jl_model.specs.declared.graph_scopes.GraphScope.{GraphScope}
use Rattle.jl_model.specs.declared.terms.Term.{Term}
use Rattle.jl_model.specs.declared.codes.Code.TheVariants as code
use Rattle.jl_defs.specs.Texts.{Text, is_colon, is_among, is_keyword}
use Rattle.jl_defs.specs.Context.{initial, Context, term}
use Rattle.jl_defs.specs.Settings.{Settings, property_of}
use Rattle.jl_defs.specs.ObjectContexts.{Inside, is_context_name, fault}
use Rattle.jl_defs.specs.Keys.{Key, property, is_id, is_kind, is_value, is_language, is_direction, is_index, language, its_context, id, kind, value, direction, index, graph, included, list, set, reverse, nest, other, dropped, keyword_key, key_by, key_of}
use Rattle.jl_defs.specs.Kept.{any_key}
use Rattle.jl_defs.specs.ValueObjects.{untyped, not_one, is_json}
use Rattle.jl_defs.specs.IriExpansion.{expand_iri}
use Rattle.jl_defs.specs.LateKeys.{if_so}
use Rattle.jl_defs.specs.Items.{Naming}
use Rattle.jl_defs.specs.NodeMap.{term_of_node}
use Rattle.jl_laws.specs.Spots.{Around, document, ordinary, linked, Spot, spot, head, moved}
use Rattle.jl_walk.specs.Frames.{Expected, no_value, property_value, keyword_value, dropped_value, Object, Frame, values, object as object_frame, types, dropped as dropped_frame, property_spot, spot_under, spot_in, its_entry, after_value, told}
use Rattle.jl_walk.specs.Opening.{scope_of, items_of, array_under, open_array, Entering, fresh, enter_at, object_under, enter}
use Rattle.jl_walk.specs.Running.{top_spot}
use Rattle.jl_walk.specs.Stage as stage
use Rattle.jl_walk.specs.Phases.{Phase, in_rest, follow, phase_faults}
use Rattle.jl_walk.specs.Keys.{with_keyword, key_of_object, with_phase, take_key}
use Rattle.jl_walk.specs.Steps as walk
use Rattle.jl_frames.specs.Machine as frames
use Rattle.jl_frames.specs.Machine.{on_enter, on_frame, on_pending, enter_in, in_dropped, all_holding, complete, Step, state, after_key, in_object, opens_types, on_types}
use Rattle.jl_frames.specs.declared.nodes.Node.{Node}
use Rattle.jl_frames.specs.declared.opens.Open.{Open}
use Rattle.jl_frames.specs.declared.facts.Frame as fact
use Rattle.jl_frames.specs.declared.opens.Open.TheVariants as opens
use Rattle.jl_frames.specs.Nodes as nodes
use Rattle.jl_frames.specs.Nodes.{no_entries, holding, with_entry, rested, has_come, meaning_of, take_once, take_meaning, no_parts, opened as opened_node, with_many_kinds}
use Rattle.jl_frames.specs.declared.entries.Entries.{Entries}
use Rattle.jl_frames.specs.declared.keywords.Keyword.{Keyword}
use Rattle.jl_frames.specs.declared.values.ValueParts.{ValueParts}
use Rattle.jl_frames.specs.Formed.{formed}
use Rattle.jl_frames.specs.Answers.{later_keywords, is_built_key}
use Rattle.jl_frames.specs.declared.keywords.Keyword.TheVariants as keyword
use Rattle.jl_frames.specs.declared.nodes.Pending.TheVariants as pending
use Rattle.jl_frames.specs.declared.roles.Role.TheVariants as role
use Rattle.jl_frames.specs.declared.values.Kinds.TheVariants as kinds
use Rattle.jl_engine.specs.KeepsFrames.{kept_pending, items_spot, KeepsAt, KeepsIn, loose_spot, linked_spot, IsPlainRound, HasSpot, with_open, KeepsMarks, node_valued, IsPlainEntry, IsFirstLanguage, AreEntries, KeepsParts, KeepsFrames, kept_node, IsExpected, AgreesLeading, plain_inside, AgreesFrames, InRest, IsPlainInside, KeepsTypes, TypesIn}
use Rattle.jl_engine.proofs.KeepsMarks.{open-marked, any-append, property-marked, entry_of, keyword-marked, none-marked}
use Rattle.jl_engine.specs.Moves as moves
use Rattle.jl_engine.specs.Moves.{late_faults, takes_key, plain_frame, opens_array, opens_other}
use Rattle.jl_engine.specs.Leads.{naming_shown, frame_by}

-- ==== What the frames of the walk tell of the stack that keeps them: the spot of the next value, and where a value may stand.

-- ---- spots

some-or : Spot → Option Spot → Spot
some-or p None = p
some-or p (Some q) = q

pub same-spot : (p q : Spot) → Some p ≡ Some q → p ≡ q
unfolding some-or
same-spot p q e = ap (some-or p) e

items-loose : (s : Settings) (a : Around) → IsPlainRound a → HasSpot s (items_spot (loose_spot s a)) None
items-loose s document t = (ordinary, (tt, refl))
items-loose s ordinary t = (ordinary, (tt, refl))
items-loose s a t = absurd t

-- the spot of the items of an array
pub items-spot : (s : Settings) (q : Spot) (n : Option Node) → HasSpot s q n → HasSpot s (items_spot q) n
items-spot s q None h = subst (λ x. HasSpot s (items_spot x) None) (sym h.1.1) (items-loose s h.0 h.1.0)
items-spot s q (Some n) h = (h.0, (h.1.0, (ap items_spot h.1.1.0, h.1.1.1)))

property-spot : (s : Settings) (held : Bool) (p : Spot) (i : Inside) (o : Object) (k : List Frame) (n : Node) (name iri : Text) → KeepsAt s held p i o k n →
    property_spot i o name iri ≡ linked_spot s name iri n.subject
property-spot s held p i o k n name iri h =
    ap (λ j. property_spot j o name iri) h.plain
    ∙ (ap (λ g. spot (initial s.base) (property_of name) ordinary linked (head o.subject iri g)) h.keeps.in_main
    ∙ ap (λ m. linked_spot s name iri m.subject) (sym h.keeps.same))

-- what an object expects is what its node waits for
pub its-pending : (s : Settings) (held : Bool) (p : Spot) (i : Inside) (o : Object) (k : List Frame) (n : Node) (x : Expected) → KeepsAt s held p i o k n → o.expects ≡ x →
    n.pending ≡ kept_pending x
its-pending s held p i o k n x h e = ap (λ m. m.pending) h.keeps.same ∙ ap kept_pending e

object-spot : (s : Settings) (held : Bool) (q : Spot) (i : Inside) (o : Object) (k : List Frame) (n : Node) (p : Spot) → KeepsAt s held q i o k n →
    spot_under i o o.expects ≡ Some p → HasSpot s p (Some n)
object-spot s held q i o k n p h e = by o.expects refl e
  where
    by : (x : Expected) → o.expects ≡ x → spot_under i o x ≡ Some p → HasSpot s p (Some n)
    by no_value y e = absurd cc
    by (property_value name iri) y e = (
      name,
      (
        iri,
        (
          sym (same-spot (property_spot i o name iri) p e) ∙ property-spot s held q i o k n name iri h,
          (its-pending s held q i o k n (property_value name iri) h y, ap (λ m. m.scope) h.keeps.same ∙ h.keeps.in_main),
        ),
      ),
    )
    by (keyword_value key at) y e = absurd cc
    by dropped_value y e = absurd cc

-- the spot of the next value
pub has-spot : (s : Settings) (held : Bool) (k : List Frame) (n : Option Node) (opened : List Open) (p : Spot) → KeepsIn s held k n opened → top_spot k ≡ Some p → HasSpot s p n
has-spot s held [] n opened p h e = absurd h
has-spot s held (values q ∷ []) None [] p h e = (document, (tt, sym (same-spot q p e) ∙ h))
has-spot s held (values q ∷ (f ∷ k)) n (opens.Array ∷ opened) p h e =
    subst (λ x. HasSpot s x n) (sym h.0.1.1 ∙ same-spot q p e) (items-spot s h.0.0 n (has-spot s true (f ∷ k) n opened h.0.0 h.1 h.0.1.0))
has-spot s held (object_frame q i o ∷ k) (Some n) (opens.Object outer ∷ opened) p h e = object-spot s held q i o k n p h.0 e
has-spot s held (types b m g at ∷ k) n opened p h e = absurd cc
has-spot s held (dropped_frame ∷ k) n opened p h e = absurd cc
has-spot s held k n opened p h e = absurd h

pub not-dropped : (s : Settings) (held : Bool) (k : List Frame) (n : Option Node) (opened : List Open) (p : Spot) → KeepsIn s held k n opened → top_spot k ≡ Some p → in_dropped opened ≡ false
not-dropped s held [] n opened p h e = absurd h
not-dropped s held (values q ∷ []) None [] p h e = refl
not-dropped s held (values q ∷ (f ∷ k)) n (opens.Array ∷ opened) p h e = refl
not-dropped s held (object_frame q i o ∷ k) (Some n) (opens.Object outer ∷ opened) p h e = refl
not-dropped s held (types b m g at ∷ k) n opened p h e = absurd cc
not-dropped s held (dropped_frame ∷ k) n opened p h e = absurd cc
not-dropped s held k n opened p h e = absurd h

-- a container opens where a value may stand
pub enters-here : (s : Settings) (p : Spot) (f : fact.Frame) (n : Option Node) (opened : List Open) → in_dropped opened ≡ false → HasSpot s p n →
    on_enter f n opened ≡ on_frame f.role f n opened
enters-here s p f None opened d h = ap (λ b. enter_in b f None opened) d
enters-here s p f (Some n) opened d h = ap (λ b. enter_in b f (Some n) opened) d ∙ ap (λ w. on_pending w f n opened) h.1.1.1.0

-- an object there stands in the graph of the document
pub scope-main : (s : Settings) (p : Spot) (n : Option Node) (at : ℕ) → HasSpot s p n → scope_of p.role.around at p.head.scope ≡ Main
scope-main s p None at h = by h.0 h.1.0 h.1.1
  where
    by : (a : Around) → IsPlainRound a → p ≡ loose_spot s a → scope_of p.role.around at p.head.scope ≡ Main
    by document t e = ap (λ x. scope_of x.role.around at x.head.scope) e
    by ordinary t e = ap (λ x. scope_of x.role.around at x.head.scope) e
    by a t e = absurd t
scope-main s p (Some n) at h = ap (λ x. scope_of x.role.around at x.head.scope) h.1.1.0

-- ==== The frames where a value has come, or an array has opened.

-- an object with other parts, at its spot
pub kept-at : (s : Settings) (held now : Bool) (p : Spot) (i : Inside) (o x : Object) (k : List Frame) (n m : Node) (es : Entries) (ps : ValueParts) (h : KeepsAt s held p i o k n) → m ≡ kept_node x h.keeps.valued es ps →
    x.scope ≡ Main → IsExpected x.expects x.entries → KeepsMarks es (with_open now x.entries) → AreEntries x.entries → KeepsParts h.keeps.valued x ps → (any_key is_kind x.entries ≡ false → x.types ≡ untyped) →
    KeepsAt s now p i x k m
kept-at s held now p i o x k n m es ps h same main e marks are parts typed = record {
  plain = h.plain;
  round = h.round;
  keeps = record { valued = h.keeps.valued; entries = es; parts = ps; same = same; in_main = main; expected = e; marks = marks; are_entries = are; its_parts = parts; typed = typed };
  no_json = h.no_json;
}

holding-at : (s : Settings) (held : Bool) (p : Spot) (i : Inside) (o : Object) (k : List Frame) (n : Node) → KeepsAt s held p i o k n → KeepsAt s true p i o k (holding n)
holding-at s held p i o k n h =
    kept-at s held true p i o o k n (holding n) (record h.keeps.entries { property = true }) h.keeps.parts h (ap holding h.keeps.same) h.keeps.in_main h.keeps.expected
    (open-marked held h.keeps.entries o.entries h.keeps.marks) h.keeps.are_entries h.keeps.its_parts h.keeps.typed

-- the frames where a value has come, or an array has opened
pub holds : (s : Settings) (held : Bool) (k : List Frame) (n : Option Node) (opened : List Open) (p : Spot) → KeepsIn s held k n opened → top_spot k ≡ Some p →
    KeepsIn s true k (all_holding n) opened
holds s held [] n opened p h e = absurd h
holds s held (values q ∷ []) None [] p h e = h
holds s held (values q ∷ (f ∷ k)) n (opens.Array ∷ opened) p h e = (h.0, holds s true (f ∷ k) n opened h.0.0 h.1 h.0.1.0)
holds s held (object_frame q i o ∷ k) (Some n) (opens.Object outer ∷ opened) p h e = (holding-at s held q i o k n h.0, h.1)
holds s held (types b m g at ∷ k) n opened p h e = absurd cc
holds s held (dropped_frame ∷ k) n opened p h e = absurd cc
holds s held k n opened p h e = absurd h

pub holding-valued : (n : Option Node) → node_valued (all_holding n) ≡ node_valued n
holding-valued None = refl
holding-valued (Some n) = refl

-- ==== A value has ended: the frame round it learns of it.

-- ---- one more entry

-- a test that the new entry doesn't pass
pub other-entry : (t : Key → Bool) (ks : List Key) (q : Key) → t q ≡ false → any_key t (ks ++ q ∷ []) ≡ any_key t ks
other-entry t ks q e = any-append t ks q ∙ ap (λ b. b || any_key t ks) e

first-alone : (q : Key) → IsFirstLanguage q []
first-alone language = refl
first-alone q = tt

later : (a b c : Bool) → (a && (b || c)) ≡ false → (a && c) ≡ false
later true true c e = absurd cc
later true false c e = e
later false b c e = refl

one-language : (a b : Bool) → (a && true) ≡ false → b ≡ false → (a || b) ≡ false
one-language true b e h = absurd cc
one-language false b e h = h

first-still : (k : Key) (ks : List Key) (q : Key) → IsFirstLanguage k ks → (is_language q && any_key is_language (k ∷ ks)) ≡ false → IsFirstLanguage k (ks ++ q ∷ [])
first-still language ks q h e = any-append is_language ks q ∙ one-language (is_language q) (any_key is_language ks) e h
first-still k ks q h e = tt

pub entry-added : (ks : List Key) (q : Key) → AreEntries ks → IsPlainEntry q → (is_language q && any_key is_language ks) ≡ false → AreEntries (ks ++ q ∷ [])
entry-added [] q h p e = (p, (first-alone q, tt))
entry-added (k ∷ ks) q h p e = (h.0, (first-still k ks q h.1.0 e, entry-added ks q h.1.1 p (later (is_language q) (is_language k) (any_key is_language ks) e)))

-- ---- an object after the value of its key

same-parts : (v : Bool) (o : Object) (ps : ValueParts) (ks : List Key) → any_key is_value ks ≡ any_key is_value o.entries → KeepsParts v o ps → KeepsParts v (record o { entries = ks; expects = no_value }) ps
same-parts true o ps ks e h = h
same-parts false o ps ks e h = e ∙ h

-- a move that goes, and the stack after it
pub agrees-on : (s : Settings) (b : Bool) (quads : List Parts) (k : List Frame) (n : Option Node) (opened : List Open) (t : Step) → t ≡ Ok (formed quads, state n opened) → KeepsIn s false k n opened → node_valued n ≡ b →
    AgreesLeading s b (Ok (quads, k)) t
agrees-on s b quads k n opened t e h v = (state n opened, (e, ((refl, h), v)))

-- with these entries, and these marks
pub rested-at : (s : Settings) (held : Bool) (p : Spot) (i : Inside) (o : Object) (k : List Frame) (n : Node) (ks : List Key) (es : Entries) → KeepsAt s held p i o k n →
    KeepsMarks es ks → AreEntries ks → any_key is_value ks ≡ any_key is_value o.entries → any_key is_kind ks ≡ any_key is_kind o.entries →
    KeepsAt s false p i (record o { entries = ks; expects = no_value }) k (rested (record n { entries = es }))
rested-at s held p i o k n ks es h m a v t =
    kept-at s held false p i o (record o { entries = ks; expects = no_value }) k n (rested (record n { entries = es })) es h.keeps.parts h (ap (λ x. rested (record x { entries = es })) h.keeps.same) h.keeps.in_main tt m a
    (same-parts h.keeps.valued o h.keeps.parts ks v h.keeps.its_parts) (λ e. h.keeps.typed (sym t ∙ e))

-- its marks, where no array of values is open
pub its-marks : (s : Settings) (held : Bool) (p : Spot) (i : Inside) (o : Object) (k : List Frame) (n : Node) → KeepsAt s held p i o k n → KeepsMarks n.entries (with_open held o.entries)
its-marks s held p i o k n h = subst (λ x. KeepsMarks x.entries (with_open held o.entries)) (sym h.keeps.same) h.keeps.marks

-- with the entries that it has
pub nothing-added : (s : Settings) (p : Spot) (i : Inside) (o : Object) (k : List Frame) (n : Node) → KeepsAt s false p i o k n →
    KeepsAt s false p i (record o { expects = no_value }) k (rested n)
nothing-added s p i o k n h = rested-at s false p i o k n o.entries n.entries h (its-marks s false p i o k n h) h.keeps.are_entries refl refl

-- ---- the frame round a value

-- the innermost object, after a value that is kept or not
abbrev pub if_held : Bool → Option Node → Option Node
if_held true n = all_holding n
if_held false n = n

-- the entries after a value
pub after-entries : (o : Object) (x : Expected) (kept : Bool) → o.expects ≡ x → after_value kept o ≡ record o { entries = o.entries ++ its_entry x kept; expects = no_value }
after-entries o x kept e = ap (λ y. record o { entries = o.entries ++ its_entry y kept; expects = no_value }) e

append-nothing : (ks : List Key) → ks ++ [] ≡ ks
append-nothing [] = refl
append-nothing (k ∷ ks) = ap (λ x. k ∷ x) (append-nothing ks)

-- a property with its entry
pub property-added : (s : Settings) (held : Bool) (p : Spot) (i : Inside) (o : Object) (k : List Frame) (n : Node) (iri : Text) (es : Entries) → KeepsAt s held p i o k n →
    KeepsMarks es (o.entries ++ property iri ∷ []) →
    KeepsAt s false p i (record o { entries = o.entries ++ property iri ∷ []; expects = no_value }) k (rested (record n { entries = es }))
property-added s held p i o k n iri es h m =
    rested-at s held p i o k n (o.entries ++ property iri ∷ []) es h m (entry-added o.entries (property iri) h.keeps.are_entries tt refl)
    (other-entry is_value o.entries (property iri) refl) (other-entry is_kind o.entries (property iri) refl)

object-told : (s : Settings) (p : Spot) (i : Inside) (o : Object) (k : List Frame) (n : Node) (q : Spot) → KeepsAt s false p i o k n → spot_under i o o.expects ≡ Some q →
    KeepsAt s false p i (after_value true o) k (rested (holding n)) × KeepsAt s false p i (after_value false o) k (rested n)
object-told s p i o k n q h e = by o.expects refl e
  where
    by : (x : Expected) → o.expects ≡ x → spot_under i o x ≡ Some q → KeepsAt s false p i (after_value true o) k (rested (holding n)) × KeepsAt s false p i (after_value false o) k (rested n)
    by (property_value name iri) y e = (
      subst (λ z. KeepsAt s false p i z k (rested (holding n))) (sym (after-entries o (property_value name iri) true y))
          (property-added s false p i o k n iri (record n.entries { property = true }) h (property-marked iri n.entries o.entries (its-marks s false p i o k n h))),
      subst (λ z. KeepsAt s false p i z k (rested n))
          (sym (after-entries o (property_value name iri) false y ∙ ap (λ ks. record o { entries = ks; expects = no_value }) (append-nothing o.entries)))
          (nothing-added s p i o k n h),
    )
    by no_value y e = absurd cc
    by (keyword_value key at) y e = absurd cc
    by dropped_value y e = absurd cc

same-frame : (q p : Spot) → Some q ≡ Some p → moved q q.role.around p.head ≡ q
same-frame q p e = ap (λ x. moved q q.role.around x.head) (sym (same-spot q p e))

pub told-keeps : (s : Settings) (kept : Bool) (f : Frame) (k : List Frame) (n : Option Node) (opened : List Open) (p : Spot) → KeepsIn s false (f ∷ k) n opened → spot_in f ≡ Some p →
    KeepsFrames s (told kept p.head f ∷ k) (complete (if_held kept n) opened)
told-keeps s true (values q) [] None [] p h e = (refl, same-frame q p e ∙ h)
told-keeps s false (values q) [] None [] p h e = (refl, same-frame q p e ∙ h)
told-keeps s true (values q) (f ∷ k) n (opens.Array ∷ opened) p h e =
    (refl, ((h.0.0, (h.0.1.0, same-frame q p e ∙ h.0.1.1)), holds s true (f ∷ k) n opened h.0.0 h.1 h.0.1.0))
told-keeps s false (values q) (f ∷ k) n (opens.Array ∷ opened) p h e = (refl, ((h.0.0, (h.0.1.0, same-frame q p e ∙ h.0.1.1)), h.1))
told-keeps s true (object_frame q i o) k (Some n) (opens.Object outer ∷ opened) p h e = (refl, ((object-told s q i o k n p h.0 e).0, h.1))
told-keeps s false (object_frame q i o) k (Some n) (opens.Object outer ∷ opened) p h e = (refl, ((object-told s q i o k n p h.0 e).1, h.1))
told-keeps s kept (types c m g at) k n opened p h e = absurd cc
told-keeps s kept dropped_frame k n opened p h e = absurd cc
told-keeps s kept f k n opened p h e = absurd h

-- ==== What keys mean in a context without terms: which of them belong to forms that aren't built, and which come too late.

-- the keys of the forms that aren't built
abbrev pub is_later : Key → Bool
is_later its_context = true
is_later graph = true
is_later included = true
is_later list = true
is_later set = true
is_later reverse = true
is_later nest = true
is_later k = false

-- a key is told as the keyword's text says
abbrev Same : Text → Key → Type 0
Same text k = is_among later_keywords text ≡ is_later k

by-test : (P : Key → Type 0) (b : Bool) (k final : Key) → (b ≡ true → P k) → (b ≡ false → P final) → P (if b then k else final)
by-test P true k final f g = f refl
by-test P false k final f g = g refl

hit : (text x : Text) (k : Key) → is_among later_keywords x ≡ is_later k → bytes_eq text x ≡ true → is_among later_keywords text ≡ is_later k
hit text x k h e = subst (λ t. is_among later_keywords t ≡ is_later k) (sym ((bytes_eq-Decides text x).0 e)) h

turned : (text x : Text) → bytes_eq text x ≡ false → bytes_eq x text ≡ false
turned text x e = by (bytes_eq x text) refl
  where
    by : (b : Bool) → bytes_eq x text ≡ b → b ≡ false
    by true h = absurd (let no : true ≡ false = sym ((bytes_eq-Decides text x).1 (sym ((bytes_eq-Decides x text).0 h))) ∙ e in cc)
    by false h = refl

miss : (text x : Text) (rest : Bool) → bytes_eq text x ≡ false → rest ≡ false → (bytes_eq x text || rest) ≡ false
miss text x rest e h = ap (λ b. b || rest) (turned text x e) ∙ h

same-later : (text : Text) → is_among later_keywords text ≡ is_later (keyword_key text)
same-later text =
    by-test (Same text) (bytes_eq text (codes "@context")) its_context _ (hit text (codes "@context") its_context refl) (λ e1.
    by-test (Same text) (bytes_eq text (codes "@id")) id _ (hit text (codes "@id") id refl) (λ e2.
    by-test (Same text) (bytes_eq text (codes "@type")) kind _ (hit text (codes "@type") kind refl) (λ e3.
    by-test (Same text) (bytes_eq text (codes "@value")) value _ (hit text (codes "@value") value refl) (λ e4.
    by-test (Same text) (bytes_eq text (codes "@language")) language _ (hit text (codes "@language") language refl) (λ e5.
    by-test (Same text) (bytes_eq text (codes "@direction")) direction _ (hit text (codes "@direction") direction refl) (λ e6.
    by-test (Same text) (bytes_eq text (codes "@index")) index _ (hit text (codes "@index") index refl) (λ e7.
    by-test (Same text) (bytes_eq text (codes "@graph")) graph _ (hit text (codes "@graph") graph refl) (λ e8.
    by-test (Same text) (bytes_eq text (codes "@included")) included _ (hit text (codes "@included") included refl) (λ e9.
    by-test (Same text) (bytes_eq text (codes "@list")) list _ (hit text (codes "@list") list refl) (λ e10.
    by-test (Same text) (bytes_eq text (codes "@set")) set _ (hit text (codes "@set") set refl) (λ e11.
    by-test (Same text) (bytes_eq text (codes "@reverse")) reverse _ (hit text (codes "@reverse") reverse refl) (λ e12.
    by-test (Same text) (bytes_eq text (codes "@nest")) nest other (hit text (codes "@nest") nest refl) (λ e13.
    miss text (codes "@context") _ e1 (miss text (codes "@graph") _ e8 (miss text (codes "@included") _ e9 (miss text (codes "@list") _ e10 (miss text (codes "@nest") _ e13
    (miss text (codes "@reverse") _ e12 (miss text (codes "@set") _ e11 refl)))))))))))))))))))

named-later : (b : Bool) (text : Text) → is_later (elim b [ true ↦ property text | false ↦ dropped ]) ≡ false
named-later true text = refl
named-later false text = refl

pub built-key : (e : Expanded) → is_built_key e ≡ not (is_later (key_by e))
built-key expanded.Null = refl
built-key (expanded.Keyword text) = ap not (same-later text)
built-key (expanded.Name text) = sym (ap not (named-later (list_any is_colon text) text))

not-later : (q : Key) → not (is_later q) ≡ stage.is_built_key q None
not-later its_context = refl
not-later q = refl

-- the walk and the stack know the same keys as those that are built
pub same-built : (e : Expanded) → is_built_key e ≡ stage.is_built_key (key_by e) None
same-built e = built-key e ∙ not-later (key_by e)

-- `@context` isn't among them
pub built-no-context : (b : Option Text) (n : Text) → stage.is_built_key (key_of (initial b) n) None ≡ true → is_context_name n ≡ false
unfolding key_of expand_iri is_keyword
built-no-context b n e = by (is_context_name n) refl
  where
    by : (x : Bool) → is_context_name n ≡ x → x ≡ false
    by false f = refl
    by true f = absurd (let z : true ≡ false = sym e ∙ ap (λ t. stage.is_built_key (key_of (initial b) t) None) ((bytes_eq-Decides n (codes "@context")).0 f) in cc)

-- what isn't built isn't late
pub unbuilt-not-late : (q : Key) (at : ℕ) → stage.is_built_key q None ≡ false → late_faults q at ≡ []
unbuilt-not-late id at e = absurd cc
unbuilt-not-late kind at e = absurd cc
unbuilt-not-late value at e = absurd cc
unbuilt-not-late q at e = refl

-- nor is what isn't late a value
pub not-late : (q : Key) (at : ℕ) → late_faults q at ≡ [] → is_value q ≡ false
not-late value at e = absurd cc
not-late q at e = refl

-- ==== A key comes: it is of a form that isn't built, or late, or it collides, or its value is expected.

-- ---- an array

array-put : (s : Settings) (at : ℕ) (b : Bool) (p : Spot) (f : Frame) (k : List Frame) (n : Option Node) (opened : List Open) → KeepsIn s false (f ∷ k) n opened → spot_in f ≡ Some p →
    node_valued n ≡ b → AgreesLeading s b (walk.quiet (items_of p ∷ (f ∷ k))) (opens_array at (state n opened))
unfolding frames.enter
array-put s at b p f k n opened h e v =
    agrees-on s b [] (items_of p ∷ (f ∷ k)) (all_holding n) (opens.Array ∷ opened) _
    (enters-here s p (plain_frame role.Set at) n opened (not-dropped s false (f ∷ k) n opened p h e) (has-spot s false (f ∷ k) n opened p h e))
    ((p, (e, refl)), holds s false (f ∷ k) n opened p h e) (holding-valued n ∙ v)

-- an array of types: a value object has more than one
many-parts : (v : Bool) (o : Object) (ps : ValueParts) → KeepsParts v o ps → KeepsParts v (record o { types = not_one }) (elim v [ true ↦ record ps { kinds = kinds.Several } | false ↦ ps ])
many-parts true o ps h = (ap {A = ValueParts} (λ x. record x { kinds = kinds.Several }) h.0, h.1)
many-parts false o ps h = h

many-node : (v : Bool) (o : Object) (es : Entries) (ps : ValueParts) →
    with_many_kinds (kept_node o v es ps) ≡ kept_node (record o { types = not_one }) v es (elim v [ true ↦ record ps { kinds = kinds.Several } | false ↦ ps ])
many-node true o es ps = refl
many-node false o es ps = refl

many-at : (s : Settings) (p : Spot) (i : Inside) (o : Object) (k : List Frame) (n : Node) → any_key is_kind o.entries ≡ true → KeepsAt s false p i o k n →
    KeepsAt s false p i (record o { types = not_one }) k (with_many_kinds n)
many-at s p i o k n e h =
    kept-at s false false p i o (record o { types = not_one }) k n (with_many_kinds n) h.keeps.entries (elim h.keeps.valued [ true ↦ record h.keeps.parts { kinds = kinds.Several } | false ↦ h.keeps.parts ]) h
    (ap with_many_kinds h.keeps.same ∙ many-node h.keeps.valued o h.keeps.entries h.keeps.parts) h.keeps.in_main h.keeps.expected h.keeps.marks h.keeps.are_entries
    (many-parts h.keeps.valued o h.keeps.parts h.keeps.its_parts) (λ none. absurd (let both : true ≡ false = sym e ∙ none in cc))

many-valued : (n : Node) → (with_many_kinds n).valued ≡ n.valued
many-valued n = elim n.valued as (λ v. node_valued (Some (elim v [ true ↦ record n { parts = record n.parts { kinds = kinds.Several } } | false ↦ n ])) ≡ n.valued) [ true ↦ refl | false ↦ refl ]

array-in-object : (s : Settings) (at : ℕ) (b : Bool) (p : Spot) (i : Inside) (o : Object) (k : List Frame) (n : Node) (outer : Option Node) (opened : List Open) →
    KeepsIn s false (object_frame p i o ∷ k) (Some n) (opens.Object outer ∷ opened) → n.valued ≡ b →
    AgreesLeading s b (array_under at o.expects p i o k) (opens_array at (state (Some n) (opens.Object outer ∷ opened)))
unfolding frames.enter
array-in-object s at b p i o k n outer opened h v = by o.expects refl h.0.keeps.expected
  where
    waits : (x : Expected) → o.expects ≡ x → n.pending ≡ kept_pending x
    waits x e = its-pending s false p i o k n x h.0 e

    goes : (x : Expected) → o.expects ≡ x → opens_array at (state (Some n) (opens.Object outer ∷ opened)) ≡ on_pending (kept_pending x) (plain_frame role.Set at) n (opens.Object outer ∷ opened)
    goes x e = ap (λ w. on_pending w (plain_frame role.Set at) n (opens.Object outer ∷ opened)) (waits x e)

    by : (x : Expected) → o.expects ≡ x → IsExpected x o.entries → AgreesLeading s b (array_under at x p i o k) (opens_array at (state (Some n) (opens.Object outer ∷ opened)))
    by no_value e y = (state (Some n) (opens.Dropped ∷ (opens.Object outer ∷ opened)), (goes no_value e, ((refl, (tt, h)), v)))
    by dropped_value e y = (state (Some n) (opens.Dropped ∷ (opens.Object outer ∷ opened)), (goes dropped_value e, ((refl, (tt, h)), v)))
    by (property_value name iri) e y = array-put s at b (property_spot i o name iri) (object_frame p i o) k (Some n) (opens.Object outer ∷ opened) h (ap (spot_under i o) e) v
    by (keyword_value kind key_at) e y =
        agrees-on s b [] (types i.base o.subject o.scope key_at ∷ (object_frame p i (record o { types = not_one }) ∷ k)) (Some (with_many_kinds n)) (opens.Array ∷ (opens.Object outer ∷ opened)) _ (goes (keyword_value kind key_at) e)
        (record { base = refl; subject = refl; scope = refl; expects = e; types = refl }, (many-at s p i o k n y h.0, h.1)) (many-valued n ∙ v)
    by (keyword_value id key_at) e y = goes (keyword_value id key_at) e
    by (keyword_value value key_at) e y = goes (keyword_value value key_at) e
    by (keyword_value language key_at) e y = goes (keyword_value language key_at) e
    by (keyword_value direction key_at) e y = goes (keyword_value direction key_at) e
    by (keyword_value index key_at) e y = goes (keyword_value index key_at) e
    by (keyword_value q key_at) e y = absurd y

-- the object round an array of types waits for types
types-wait : (s : Settings) (c : Context) (m : Option Term) (g : GraphScope) (key_at : ℕ) (p : Spot) (i : Inside) (o : Object) (k : List Frame) (n : Node) →
    KeepsTypes c m g key_at i o → KeepsAt s false p i o k n → n.pending ≡ pending.Keyword key_at keyword.Kind
types-wait s c m g key_at p i o k n t h = its-pending s false p i o k n (keyword_value kind key_at) h t.expects

-- no container opens in an array of types
refused-in-types : (s : Settings) (f : fact.Frame) (c : Context) (m : Option Term) (g : GraphScope) (key_at : ℕ) (k : List Frame) (n : Option Node) (opened : List Open) →
    (on_types (opens_types keyword.Kind f.role false) key_at keyword.Kind ≡ (λ n k. Err (fault code.InvalidTypeValue key_at))) →
    TypesIn c m g key_at k → KeepsIn s false k n opened → frames.enter f (state n (opens.Array ∷ opened)) ≡ Err (fault code.InvalidTypeValue key_at)
unfolding frames.enter
refused-in-types s f c m g key_at (object_frame p i o ∷ k) (Some n) (opens.Object outer ∷ opened) r t h =
    ap (λ w. on_pending w f n (opens.Array ∷ (opens.Object outer ∷ opened))) (types-wait s c m g key_at p i o k n t h.0)
    ∙ ap (λ x. x n (opens.Array ∷ (opens.Object outer ∷ opened))) r
refused-in-types s f c m g key_at (object_frame p i o ∷ k) n opened r t h = absurd h
refused-in-types s f c m g key_at k n opened r t h = absurd t

-- an array opens
pub array-opens : (s : Settings) (at : ℕ) (b : Bool) (k : List Frame) (n : Option Node) (opened : List Open) → KeepsIn s false k n opened → node_valued n ≡ b →
    AgreesLeading s b (open_array at k) (opens_array at (state n opened))
unfolding open_array frames.enter
array-opens s at b [] n opened h v = absurd h
array-opens s at b (values p ∷ []) None [] h v = array-put s at b p (values p) [] None [] h refl v
array-opens s at b (values p ∷ (f ∷ k)) n (opens.Array ∷ opened) h v = array-put s at b p (values p) (f ∷ k) n (opens.Array ∷ opened) h refl v
array-opens s at b (object_frame p i o ∷ k) (Some n) (opens.Object outer ∷ opened) h v = array-in-object s at b p i o k n outer opened h v
array-opens s at b (types c m g key_at ∷ k) n (opens.Array ∷ opened) h v = refused-in-types s (plain_frame role.Set at) c m g key_at k n opened refl h.0 h.1
array-opens s at b (dropped_frame ∷ k) n (opens.Dropped ∷ opened) h v = (state n (opens.Dropped ∷ (opens.Dropped ∷ opened)), (refl, ((refl, (tt, h)), v)))
array-opens s at b k n opened h v = absurd h

-- ---- an object where no value stands

other-in-object : (s : Settings) (at : ℕ) (b : Bool) (d : Spot → Result Entering Fault) (p : Spot) (i : Inside) (o : Object) (k : List Frame) (n : Node) (outer : Option Node) (opened : List Open) →
    KeepsIn s false (object_frame p i o ∷ k) (Some n) (opens.Object outer ∷ opened) → n.valued ≡ b → spot_under i o o.expects ≡ None →
    AgreesLeading s b (object_under at o.expects d p i o k) (opens_other at (state (Some n) (opens.Object outer ∷ opened)))
unfolding frames.enter
other-in-object s at b d p i o k n outer opened h v z = by o.expects refl h.0.keeps.expected z
  where
    goes : (x : Expected) → o.expects ≡ x → opens_other at (state (Some n) (opens.Object outer ∷ opened)) ≡ on_pending (kept_pending x) (plain_frame role.Object at) n (opens.Object outer ∷ opened)
    goes x e = ap (λ w. on_pending w (plain_frame role.Object at) n (opens.Object outer ∷ opened)) (its-pending s false p i o k n x h.0 e)

    by : (x : Expected) → o.expects ≡ x → IsExpected x o.entries → spot_under i o x ≡ None → AgreesLeading s b (object_under at x d p i o k) (opens_other at (state (Some n) (opens.Object outer ∷ opened)))
    by no_value e y z = (state (Some n) (opens.Dropped ∷ (opens.Object outer ∷ opened)), (goes no_value e, ((refl, (tt, h)), v)))
    by dropped_value e y z = (state (Some n) (opens.Dropped ∷ (opens.Object outer ∷ opened)), (goes dropped_value e, ((refl, (tt, h)), v)))
    by (property_value name iri) e y z = absurd cc
    by (keyword_value kind key_at) e y z = goes (keyword_value kind key_at) e
    by (keyword_value id key_at) e y z = goes (keyword_value id key_at) e
    by (keyword_value value key_at) e y z = goes (keyword_value value key_at) e
    by (keyword_value language key_at) e y z = goes (keyword_value language key_at) e
    by (keyword_value direction key_at) e y z = goes (keyword_value direction key_at) e
    by (keyword_value index key_at) e y z = goes (keyword_value index key_at) e
    by (keyword_value q key_at) e y z = absurd y

pub other-opens : (s : Settings) (at : ℕ) (b : Bool) (d : Spot → Result Entering Fault) (k : List Frame) (n : Option Node) (opened : List Open) → KeepsIn s false k n opened → node_valued n ≡ b →
    top_spot k ≡ None → AgreesLeading s b (enter at d k) (opens_other at (state n opened))
unfolding enter frames.enter
other-opens s at b d [] n opened h v e = absurd h
other-opens s at b d (values p ∷ k) n opened h v e = absurd cc
other-opens s at b d (object_frame p i o ∷ k) (Some n) (opens.Object outer ∷ opened) h v e = other-in-object s at b d p i o k n outer opened h v e
other-opens s at b d (types c m g key_at ∷ k) n (opens.Array ∷ opened) h v e = refused-in-types s (plain_frame role.Object at) c m g key_at k n opened refl h.0 h.1
other-opens s at b d (dropped_frame ∷ k) n (opens.Dropped ∷ opened) h v e = (state n (opens.Dropped ∷ (opens.Dropped ∷ opened)), (refl, ((refl, (tt, h)), v)))
other-opens s at b d k n opened h v e = absurd h

-- ---- an object enters

abbrev frame_node : ℕ → Bool → Naming → GraphScope → Node
frame_node at v x g = record {
  at = at;
  subject = elim v [ true ↦ None | false ↦ term_of_node at x ];
  scope = g;
  valued = v;
  entries = no_entries;
  pending = pending.Nothing;
  parts = no_parts;
}

fresh-parts : (v : Bool) (at : ℕ) (n : Option Term) (g : GraphScope) (ph : Phase) →
    KeepsParts v (record { at = at; subject = elim v [ true ↦ None | false ↦ n ]; scope = g; entries = []; expects = no_value; phase = ph; value = None; types = untyped; language = None }) no_parts
fresh-parts true at n g ph = (refl, refl)
fresh-parts false at n g ph = refl

fresh-at : (s : Settings) (at : ℕ) (e : Entering) (name : Option Expanded) (p : Spot) (k : List Frame) → IsPlainInside s e.inside → naming_shown name ≡ e.naming → top_spot k ≡ Some p →
    scope_of p.role.around at p.head.scope ≡ Main → (e.valued ≡ true → is_json e.inside.input ≡ false) → KeepsAt s false p e.inside (fresh p at e) k (opened_node (frame_by at name e.valued))
fresh-at s at e name p k i x r m j = record {
  plain = i;
  round = r;
  keeps = record {
    valued = e.valued;
    entries = no_entries;
    parts = no_parts;
    same = ap (λ y. frame_node at e.valued y Main) x ∙ ap (λ g. frame_node at e.valued e.naming g) (sym m);
    in_main = m;
    expected = tt;
    marks = none-marked;
    are_entries = tt;
    its_parts = fresh-parts e.valued at (term_of_node at e.naming) (scope_of p.role.around at p.head.scope) e.phase;
    typed = λ none. refl;
  };
  no_json = j;
}

entered : (s : Settings) (at : ℕ) (e : Entering) (name : Option Expanded) (p : Spot) (k : List Frame) (n : Option Node) (opened : List Open) → KeepsIn s false k n opened → top_spot k ≡ Some p →
    IsPlainInside s e.inside → naming_shown name ≡ e.naming → (e.valued ≡ true → is_json e.inside.input ≡ false) →
    AgreesLeading s e.valued (walk.quiet (object_frame p e.inside (fresh p at e) ∷ k)) (frames.enter (frame_by at name e.valued) (state n opened))
unfolding frames.enter
entered s at e name p k n opened h r i x j =
    agrees-on s e.valued [] (object_frame p e.inside (fresh p at e) ∷ k) (Some (opened_node (frame_by at name e.valued))) (opens.Object n ∷ opened) _
    (enters-here s p (frame_by at name e.valued) n opened (not-dropped s false k n opened p h r) (has-spot s false k n opened p h r))
    (fresh-at s at e name p k i x r (scope-main s p n at (has-spot s false k n opened p h r)) j, h) refl

pub enters : (s : Settings) (at : ℕ) (e : Entering) (name : Option Expanded) (p : Spot) (k : List Frame) (n : Option Node) (opened : List Open) → KeepsIn s false k n opened → top_spot k ≡ Some p →
    IsPlainInside s e.inside → naming_shown name ≡ e.naming → (e.valued && e.json) ≡ false → (e.valued ≡ true → is_json e.inside.input ≡ false) →
    AgreesLeading s e.valued (enter_at p at (Ok e) k) (frames.enter (frame_by at name e.valued) (state n opened))
enters s at e name p k n opened h r i x built j =
    subst (λ b. AgreesLeading s e.valued (walk.if_built (not b) at (λ _. walk.quiet (object_frame p e.inside (fresh p at e) ∷ k))) (frames.enter (frame_by at name e.valued) (state n opened)))
    (sym built) (entered s at e name p k n opened h r i x j)

-- ---- an object that expects a value

expecting-parts : (v : Bool) (o : Object) (ps : ValueParts) (ks : List Key) (x : Expected) → (v ≡ false → any_key is_value ks ≡ false) → KeepsParts v o ps →
    KeepsParts v (record o { entries = ks; expects = x }) ps
expecting-parts true o ps ks x e h = h
expecting-parts false o ps ks x e h = e refl

expects-at : (s : Settings) (p : Spot) (i : Inside) (o : Object) (k : List Frame) (n : Node) (ks : List Key) (es : Entries) (x : Expected) (h : KeepsAt s false p i o k n) → KeepsMarks es ks → AreEntries ks →
    IsExpected x ks → (h.keeps.valued ≡ false → any_key is_value ks ≡ false) → (any_key is_kind ks ≡ false → any_key is_kind o.entries ≡ false) →
    KeepsAt s false p i (record o { entries = ks; expects = x }) k (record n { entries = es; pending = kept_pending x })
expects-at s p i o k n ks es x h m a e v t =
    kept-at s false false p i o (record o { entries = ks; expects = x }) k n (record n { entries = es; pending = kept_pending x }) es h.keeps.parts h (ap {B = Node} (λ z. record z { entries = es; pending = kept_pending x }) h.keeps.same) h.keeps.in_main e m a
    (expecting-parts h.keeps.valued o h.keeps.parts ks x v h.keeps.its_parts) (λ none. h.keeps.typed (t none))

-- a value object, where it has an entry for its value
has-value : (v : Bool) (o : Object) (ps : ValueParts) → KeepsParts v o ps → v ≡ false → any_key is_value o.entries ≡ false
has-value true o ps h e = absurd cc
has-value false o ps h e = h

no-entry : (s : Settings) (p : Spot) (i : Inside) (o : Object) (k : List Frame) (n : Node) (x : Expected) (h : KeepsAt s false p i o k n) → IsExpected x o.entries →
    KeepsAt s false p i (record o { expects = x }) k (record n { pending = kept_pending x })
no-entry s p i o k n x h e =
    expects-at s p i o k n o.entries n.entries x h (its-marks s false p i o k n h) h.keeps.are_entries e (has-value h.keeps.valued o h.keeps.parts h.keeps.its_parts) (λ none. none)

entry-at : (s : Settings) (p : Spot) (i : Inside) (o : Object) (k : List Frame) (n : Node) (q : Keyword) (at : ℕ) (h : KeepsAt s false p i o k n) → IsPlainEntry (entry_of q) →
    (is_language (entry_of q) && any_key is_language o.entries) ≡ false → IsExpected (keyword_value (entry_of q) at) (o.entries ++ entry_of q ∷ []) →
    (h.keeps.valued ≡ false → any_key is_value (o.entries ++ entry_of q ∷ []) ≡ false) →
    KeepsAt s false p i (with_keyword (entry_of q) at o) k (record n { entries = with_entry q n.entries; pending = kept_pending (keyword_value (entry_of q) at) })
entry-at s p i o k n q at h plain one e v =
    expects-at s p i o k n (o.entries ++ entry_of q ∷ []) (with_entry q n.entries) (keyword_value (entry_of q) at) h (keyword-marked q n.entries o.entries (its-marks s false p i o k n h))
    (entry-added o.entries (entry_of q) h.keeps.are_entries plain one) e v
    (λ none. (or_parts (is_kind (entry_of q)) (any_key is_kind o.entries) (sym (any-append is_kind o.entries (entry_of q)) ∙ none)).1)

-- the entry of another keyword than `@value`
no-value : (s : Settings) (p : Spot) (i : Inside) (o : Object) (k : List Frame) (n : Node) (q : Key) (h : KeepsAt s false p i o k n) → is_value q ≡ false →
    h.keeps.valued ≡ false → any_key is_value (o.entries ++ q ∷ []) ≡ false
no-value s p i o k n q h e v = other-entry is_value o.entries q e ∙ has-value h.keeps.valued o h.keeps.parts h.keeps.its_parts v

comes : (t : Key → Bool) (ks : List Key) (q : Key) → t q ≡ true → any_key t (ks ++ q ∷ []) ≡ true
comes t ks q e = any-append t ks q ∙ ap (λ b. b || any_key t ks) e

-- ---- a key of an object

-- a keyword that may come once
once : (s : Settings) (b c : Bool) (at : ℕ) (p : Spot) (i : Inside) (o : Object) (k : List Frame) (n : Node) (outer : Option Node) (opened : List Open) (q : Keyword) → KeepsIn s false k outer opened → n.valued ≡ b →
    pending.Keyword at q ≡ kept_pending (keyword_value (entry_of q) at) →
    (c ≡ false → KeepsAt s false p i (with_keyword (entry_of q) at o) k (record n { entries = with_entry q n.entries; pending = kept_pending (keyword_value (entry_of q) at) })) →
    AgreesLeading s b (walk.unless_fault (if_so c (fault code.CollidingKeywords at ∷ [])) (λ _. walk.quiet (object_frame p i (with_keyword (entry_of q) at o) ∷ k)))
    (after_key (take_once c at q n) (opens.Object outer ∷ opened))
once s b true at p i o k n outer opened q r y w f = refl
once s b false at p i o k n outer opened q r y w f =
    agrees-on s b [] (object_frame p i (with_keyword (entry_of q) at o) ∷ k) (Some (record n { entries = with_entry q n.entries; pending = kept_pending (keyword_value (entry_of q) at) })) (opens.Object outer ∷ opened) _
    (ap {B = Step} (λ z. Ok ([], state (Some (record n { entries = with_entry q n.entries; pending = z })) (opens.Object outer ∷ opened))) w) (f refl, r) y

pub key-agrees : (s : Settings) (b : Bool) (q : Key) (at : ℕ) (name : Text) (p : Spot) (i : Inside) (o : Object) (k : List Frame) (n : Node) (outer : Option Node) (opened : List Open) → KeepsAt s false p i o k n →
    KeepsIn s false k outer opened → n.valued ≡ b → stage.is_built_key q None ≡ true → (is_value q ≡ true → b ≡ true) →
    AgreesLeading s b (key_of_object q at name p i o k) (after_key (take_meaning (meaning_of q) at n) (opens.Object outer ∷ opened))
key-agrees s b q at name p i o k n outer opened h r y built v = by q built v
  where
    m : KeepsMarks n.entries o.entries
    m = its-marks s false p i o k n h

    dropped-goes : AgreesLeading s b (walk.quiet (object_frame p i (record o { expects = dropped_value }) ∷ k)) (after_key (Ok (record n { pending = pending.Ignored })) (opens.Object outer ∷ opened))
    dropped-goes = (state (Some (record n { pending = pending.Ignored })) (opens.Object outer ∷ opened), (refl, ((refl, (no-entry s p i o k n dropped_value h tt, r)), y)))

    -- whether it has come, by its mark
    collides-as : (q : Keyword) (c : Bool) → has_come q n.entries ≡ c →
        AgreesLeading s b (walk.unless_fault (if_so c (fault code.CollidingKeywords at ∷ [])) (λ _. walk.quiet (object_frame p i (with_keyword (entry_of q) at o) ∷ k)))
        (after_key (take_once c at q n) (opens.Object outer ∷ opened)) →
        AgreesLeading s b (walk.unless_fault (if_so c (fault code.CollidingKeywords at ∷ [])) (λ _. walk.quiet (object_frame p i (with_keyword (entry_of q) at o) ∷ k)))
        (after_key (take_once (has_come q n.entries) at q n) (opens.Object outer ∷ opened))
    collides-as q c e a =
        subst (λ d. AgreesLeading s b (walk.unless_fault (if_so c (fault code.CollidingKeywords at ∷ [])) (λ _. walk.quiet (object_frame p i (with_keyword (entry_of q) at o) ∷ k)))
        (after_key (take_once d at q n) (opens.Object outer ∷ opened))) (sym e) a

    by : (q : Key) → stage.is_built_key q None ≡ true → (is_value q ≡ true → b ≡ true) →
        AgreesLeading s b (key_of_object q at name p i o k) (after_key (take_meaning (meaning_of q) at n) (opens.Object outer ∷ opened))
    by id e v = collides-as keyword.Id (any_key is_id o.entries) m.id
        (once s b (any_key is_id o.entries) at p i o k n outer opened keyword.Id r y refl (λ e. entry-at s p i o k n keyword.Id at h tt refl tt (no-value s p i o k n id h refl)))
    by kind e v =
        once s b false at p i o k n outer opened keyword.Kind r y refl
        (λ e. entry-at s p i o k n keyword.Kind at h tt refl (comes is_kind o.entries kind refl) (no-value s p i o k n kind h refl))
    by value e v = collides-as keyword.Value (any_key is_value o.entries) m.value
        (once s b (any_key is_value o.entries) at p i o k n outer opened keyword.Value r y refl
        (λ e. entry-at s p i o k n keyword.Value at h tt refl (comes is_value o.entries value refl)
        (λ no-value-here. absurd (let both : true ≡ false = sym (v refl) ∙ (sym y ∙ (ap (λ z. z.valued) h.keeps.same ∙ no-value-here)) in cc))))
    by language e v = collides-as keyword.Language (any_key is_language o.entries) m.language
        (once s b (any_key is_language o.entries) at p i o k n outer opened keyword.Language r y refl (λ e. entry-at s p i o k n keyword.Language at h tt e tt (no-value s p i o k n language h refl)))
    by direction e v = collides-as keyword.Direction (any_key is_direction o.entries) m.direction
        (once s b (any_key is_direction o.entries) at p i o k n outer opened keyword.Direction r y refl (λ e. entry-at s p i o k n keyword.Direction at h tt refl tt (no-value s p i o k n direction h refl)))
    by index e v = collides-as keyword.Index (any_key is_index o.entries) m.index
        (once s b (any_key is_index o.entries) at p i o k n outer opened keyword.Index r y refl (λ e. entry-at s p i o k n keyword.Index at h tt refl tt (no-value s p i o k n index h refl)))
    by other e v = dropped-goes
    by dropped e v = dropped-goes
    by (property iri) e v = (state (Some (record n { pending = pending.Property iri })) (opens.Object outer ∷ opened), (refl, ((refl, (no-entry s p i o k n (property_value name iri) h tt, r)), y)))
    by q e v = absurd cc

-- ---- a key as it is told

phase-parts : (v : Bool) (o : Object) (ps : ValueParts) (ph : Phase) → KeepsParts v o ps → KeepsParts v (with_phase ph o) ps
phase-parts true o ps ph h = h
phase-parts false o ps ph h = h

-- another phase is not kept
pub phase-at : (s : Settings) (held : Bool) (p : Spot) (i : Inside) (o : Object) (k : List Frame) (n : Node) (ph : Phase) → KeepsAt s held p i o k n → KeepsAt s held p i (with_phase ph o) k n
phase-at s held p i o k n ph h =
    kept-at s held held p i o (with_phase ph o) k n n h.keeps.entries h.keeps.parts h h.keeps.same h.keeps.in_main h.keeps.expected h.keeps.marks h.keeps.are_entries
    (phase-parts h.keeps.valued o h.keeps.parts ph h.keeps.its_parts) h.keeps.typed

-- a key of a form that is built, in the context of its object
decided-key : (s : Settings) (b : Bool) (e : Expanded) (at : ℕ) (name : Text) (p : Spot) (i : Inside) (o : Object) (k : List Frame) (n : Node) (outer : Option Node) (opened : List Open) → KeepsAt s false p i o k n →
    KeepsIn s false k outer opened → n.valued ≡ b → stage.is_built_key (key_by e) None ≡ true → (is_value (key_by e) ≡ true → b ≡ true) →
    AgreesLeading s b (key_of_object (key_by e) at name p i o k) (frames.key (record { at = at; expanded = e }) (state (Some n) (opens.Object outer ∷ opened)))
unfolding frames.key nodes.take_key
decided-key s b e at name p i o k n outer opened h r y built v = key-agrees s b (key_by e) at name p i o k n outer opened h r y built v

-- both are of a form that is built, or neither is; then both are late, or neither is
told-so : (s : Settings) (b c : Bool) (at : ℕ) (fs gs : List Fault) (next : Unit {0} → walk.Step) (goes : Unit {0} → Step) → (c ≡ false → gs ≡ []) → (c ≡ true → fs ≡ gs) →
    (c ≡ true → gs ≡ [] → AgreesLeading s b (next tt) (goes tt)) → AgreesLeading s b (walk.if_built c at (λ _. walk.unless_fault fs next)) (moves.unless gs (λ _. moves.if_built c at goes))
told-so s b false at fs gs next goes e f g = ap (λ x. moves.unless x (λ _. moves.if_built false at goes)) (e refl)
told-so s b true at fs gs next goes e f g = subst (λ x. AgreesLeading s b (walk.unless_fault x next) (moves.unless gs (λ _. goes tt))) (sym (f refl)) (by gs (g refl))
  where
    by : (fs : List Fault) → (fs ≡ [] → AgreesLeading s b (next tt) (goes tt)) → AgreesLeading s b (walk.unless_fault fs next) (moves.unless fs (λ _. goes tt))
    by [] h = h refl
    by (x ∷ fs) h = refl

-- a key comes to an object
key-told : (s : Settings) (b leading : Bool) (at : ℕ) (name : Text) (p : Spot) (i : Inside) (o : Object) (k : List Frame) (n : Node) (outer : Option Node) (opened : List Open) → KeepsAt s false p i o k n →
    KeepsIn s false k outer opened → n.valued ≡ b →
    (let q = key_of (initial s.base) name in
    let late = moves.unless_leading leading (late_faults q at) in
    (stage.is_built_key q None ≡ false → late ≡ []) → (stage.is_built_key q None ≡ true → phase_faults o.phase i name at ≡ late) → (late ≡ [] → is_value q ≡ true → b ≡ true) →
    AgreesLeading s b (take_key at name (object_frame p i o ∷ k)) (takes_key (initial s.base) leading at name (state (Some n) (opens.Object outer ∷ opened))))
unfolding take_key key_of
key-told s b leading at name p i o k n outer opened h r y unbuilt same v =
    let c = initial s.base in
    let e = expand_iri c name true false in
    let late = moves.unless_leading leading (late_faults (key_of c name) at) in
    let ph = follow o.phase i name in
    let next : Context → Unit {0} → walk.Step = λ d _. key_of_object (key_of d name) at name p i (with_phase ph o) k in
    let goes : Unit {0} → Step = λ _. frames.key (record { at = at; expanded = e }) (state (Some n) (opens.Object outer ∷ opened)) in
    subst (λ d. AgreesLeading s b (walk.if_built (stage.is_built_key (key_of d name) (term d name)) at (λ _. walk.unless_fault (phase_faults o.phase i name at) (next d)))
    (moves.unless late (λ _. moves.if_built (is_built_key e) at goes))) (sym (ap (λ j. j.final) h.plain))
    (subst (λ z. AgreesLeading s b (walk.if_built (stage.is_built_key (key_of c name) None) at (λ _. walk.unless_fault (phase_faults o.phase i name at) (next c)))
    (moves.unless late (λ _. moves.if_built z at goes))) (sym (same-built e))
    (told-so s b (stage.is_built_key (key_of c name) None) at (phase_faults o.phase i name at) late (next c) goes unbuilt same
    (λ built none. decided-key s b e at name p i (with_phase ph o) k n outer opened (phase-at s false p i o k n ph h) r y built (v none))))

-- a leading key is told again as it was held
pub leading-key : (s : Settings) (b : Bool) (at : ℕ) (name : Text) (p : Spot) (i : Inside) (o : Object) (k : List Frame) (n : Option Node) (opened : List Open) →
    KeepsIn s false (object_frame p i o ∷ k) n opened → node_valued n ≡ b → phase_faults o.phase i name at ≡ [] → (is_value (key_of (initial s.base) name) ≡ true → b ≡ true) →
    AgreesLeading s b (take_key at name (object_frame p i o ∷ k)) (takes_key (initial s.base) true at name (state n opened))
leading-key s b at name p i o k (Some n) (opens.Object outer ∷ opened) h y ph v = key-told s b true at name p i o k n outer opened h.0 h.1 y (λ _. refl) (λ _. ph) (λ _. v)
leading-key s b at name p i o k n opened h y ph v = absurd h

-- ---- a key of the rest

pub agrees-frames : (s : Settings) (b : Bool) (r : walk.Step) (t : Step) → AgreesLeading s b r t → AgreesFrames s r t
agrees-frames s b (Ok r) t h = (h.0, (h.1.0, h.1.1.0))
agrees-frames s b (Err f) t h = h

-- what makes a key of the rest late by the walk
abbrev late_list : Key → ℕ → List Fault
late_list q at =
    if_so (is_kind q || is_kind q) (fault code.LateType at ∷ [])
    ++ (if_so (is_id q) (fault code.LateIdentifier at ∷ []) ++ if_so (is_value q || (false && is_value q)) (fault code.LateValue at ∷ []))

late-same : (q : Key) (at : ℕ) → late_list q at ≡ late_faults q at
late-same its_context at = refl
late-same q at = refl

rest-faults : (s : Settings) (i : Inside) (o : Object) (name : Text) (at : ℕ) → i ≡ plain_inside s i.input → o.phase ≡ in_rest → stage.is_built_key (key_of (initial s.base) name) None ≡ true →
    phase_faults o.phase i name at ≡ late_faults (key_of (initial s.base) name) at
rest-faults s i o name at e ph built =
    ap (λ x. phase_faults x i name at) ph
    ∙ (ap (λ j. phase_faults in_rest j name at) e
    ∙ (ap (λ b. if_so b (fault code.LateContext at ∷ []) ++ late_list (key_of (initial s.base) name) at) (built-no-context s.base name built)
    ∙ late-same (key_of (initial s.base) name) at))

rest-key : (s : Settings) (at : ℕ) (name : Text) (p : Spot) (i : Inside) (o : Object) (k : List Frame) (n : Node) (outer : Option Node) (opened : List Open) → KeepsAt s false p i o k n →
    KeepsIn s false k outer opened → o.phase ≡ in_rest →
    AgreesFrames s (take_key at name (object_frame p i o ∷ k)) (takes_key (initial s.base) false at name (state (Some n) (opens.Object outer ∷ opened)))
rest-key s at name p i o k n outer opened h r ph =
    let q = key_of (initial s.base) name in
    agrees-frames s n.valued (take_key at name (object_frame p i o ∷ k)) (takes_key (initial s.base) false at name (state (Some n) (opens.Object outer ∷ opened)))
    (key-told s n.valued false at name p i o k n outer opened h r refl (unbuilt-not-late q at) (rest-faults s i o name at h.plain ph)
    (λ e yes. absurd (let both : true ≡ false = sym yes ∙ not-late q at e in cc)))

pub key-comes : (s : Settings) (at : ℕ) (name : Text) (k : List Frame) (n : Option Node) (opened : List Open) → KeepsIn s false k n opened → InRest k →
    AgreesFrames s (take_key at name k) (takes_key (initial s.base) false at name (state n opened))
unfolding take_key
key-comes s at name [] n opened h r = absurd h
key-comes s at name (values p ∷ []) None [] h r = (state None [], (refl, (refl, h)))
key-comes s at name (values p ∷ (f ∷ k)) n (opens.Array ∷ opened) h r = (state n (opens.Array ∷ opened), (refl, (refl, h)))
key-comes s at name (object_frame p i o ∷ k) (Some n) (opens.Object outer ∷ opened) h r = rest-key s at name p i o k n outer opened h.0 h.1 r
key-comes s at name (types b m g key_at ∷ k) n (opens.Array ∷ opened) h r = (state n (opens.Array ∷ opened), (refl, (refl, h)))
key-comes s at name (dropped_frame ∷ k) n (opens.Dropped ∷ opened) h r = (state n (opens.Dropped ∷ opened), (refl, (refl, h)))
key-comes s at name k n opened h r = absurd h
