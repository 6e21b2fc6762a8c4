-- How the stack stands for the frames of the walk. It keeps less: no spots, but for what the containers round them tell; of an
-- object's entries marks; of what is expected its kind.
use Rattle.std.specs.Prelude.{◌≡◌, ℕ, Bool, true, false, List, [], ◌∷◌, ◌++◌, Option, Some, None, Ok, Err}
use Rattle.jl_model.specs.declared.scalars.Scalar.{Scalar}
use Rattle.jl_model.specs.declared.terms.Term.{Term}
use Rattle.jl_model.specs.declared.graph_scopes.GraphScope.{GraphScope}
use Rattle.jl_model.specs.declared.graph_scopes.GraphScope.TheVariants.{Main}
use Rattle.jl_model.specs.declared.expansions.Expanded.{Expanded}
use Rattle.jl_defs.specs.Texts.{Text}
use Rattle.jl_defs.specs.Context.{Context, initial}
use Rattle.jl_defs.specs.Settings.{Settings, no_property, property_of}
use Rattle.jl_defs.specs.Keys.{Key, id, kind, value, language, direction, index, property, is_id, is_kind, is_value, is_language, is_direction, is_index}
use Rattle.jl_defs.specs.ObjectContexts.{Inside}
use Rattle.jl_defs.specs.ValueObjects.{ValueType, untyped, typed_by, not_one, is_json}
use Rattle.jl_defs.specs.Kept.{any_key}
use Rattle.jl_laws.specs.Spots.{Around, document, ordinary, linked, loose, Spot, spot, head, inside, moved}
use Rattle.jl_laws.specs.Says.{root_spot, graph_head}
use Rattle.jl_walk.specs.Phases.{in_rest}
use Rattle.jl_walk.specs.Frames.{Expected, no_value, property_value, keyword_value, dropped_value, Object, Frame, values, object as object_frame, types, dropped, spot_in}
use Rattle.jl_walk.specs.Running.{top_spot}
use Rattle.jl_walk.specs.Steps.{Step}
use Rattle.jl_frames.specs.Formed.{formed}
use Rattle.jl_frames.specs.Machine as frames
use Rattle.jl_frames.specs.declared.entries.Entries.{Entries}
use Rattle.jl_frames.specs.declared.keywords.Keyword.{Keyword}
use Rattle.jl_frames.specs.declared.keywords.Keyword.TheVariants as keyword
use Rattle.jl_frames.specs.declared.nodes.Node.{Node}
use Rattle.jl_frames.specs.declared.nodes.Pending.{Pending}
use Rattle.jl_frames.specs.declared.nodes.Pending.TheVariants as pending
use Rattle.jl_frames.specs.declared.opens.Open.{Open}
use Rattle.jl_frames.specs.declared.opens.Open.TheVariants as opens
use Rattle.jl_frames.specs.declared.states.StackState.{StackState}
use Rattle.jl_frames.specs.declared.values.ValueParts.{ValueParts}
use Rattle.jl_frames.specs.declared.values.RawValue.{RawValue}
use Rattle.jl_frames.specs.declared.values.Kinds.{Kinds}
use Rattle.jl_frames.specs.declared.values.Kinds.TheVariants as kinds

-- ---- what is kept of an object

-- the six keywords that take a value; no other is expected
abbrev pub kept_keyword : Key → Keyword
kept_keyword kind = keyword.Kind
kept_keyword value = keyword.Value
kept_keyword language = keyword.Language
kept_keyword direction = keyword.Direction
kept_keyword index = keyword.Index
kept_keyword q = keyword.Id

abbrev pub kept_pending : Expected → Pending
kept_pending no_value = pending.Nothing
kept_pending (property_value name iri) = pending.Property iri
kept_pending (keyword_value q at) = pending.Keyword at (kept_keyword q)
kept_pending dropped_value = pending.Ignored

abbrev pub kept_types : ValueType → Kinds
kept_types untyped = kinds.Untyped
kept_types (typed_by e) = kinds.One e
kept_types not_one = kinds.Several

abbrev pub kept_value : Option (ℕ × Scalar) → Option RawValue
kept_value None = None
kept_value (Some (at, v)) = Some (record { at = at; scalar = v })

-- of a value object
abbrev pub kept_parts : Object → ValueParts
kept_parts o = record { kinds = kept_types o.types; value = kept_value o.value; language = o.language }

abbrev pub kept_node : Object → Bool → Entries → ValueParts → Node
kept_node o valued es ps = record {
  at = o.at;
  subject = o.subject;
  scope = o.scope;
  valued = valued;
  entries = es;
  pending = kept_pending o.expects;
  parts = ps;
}

-- the mark of a property comes as an array of its values opens, its entry as the array closes
abbrev pub with_open : Bool → List Key → List Key
with_open true ks = ks ++ property [] ∷ []
with_open false ks = ks

abbrev pub is_property : Key → Bool
is_property (property name) = true
is_property k = false

-- each mark is whether such an entry is among them
pub record KeepsMarks (es : Entries) (ks : List Key) : Type 0 where
  pub id : es.id ≡ any_key is_id ks
  pub kind : es.kind ≡ any_key is_kind ks
  pub value : es.value ≡ any_key is_value ks
  pub language : es.language ≡ any_key is_language ks
  pub direction : es.direction ≡ any_key is_direction ks
  pub index : es.index ≡ any_key is_index ks
  pub property : es.property ≡ any_key is_property ks

-- the entries of the forms that are built
abbrev pub IsPlainEntry : Key → Type 0
IsPlainEntry id = Unit {0}
IsPlainEntry kind = Unit {0}
IsPlainEntry value = Unit {0}
IsPlainEntry language = Unit {0}
IsPlainEntry direction = Unit {0}
IsPlainEntry index = Unit {0}
IsPlainEntry (property name) = Unit {0}
IsPlainEntry k = ⊥

-- no two of them are for `@language`
abbrev pub IsFirstLanguage : Key → List Key → Type 0
IsFirstLanguage language ks = any_key is_language ks ≡ false
IsFirstLanguage k ks = Unit {0}

abbrev pub AreEntries : List Key → Type 0
AreEntries [] = Unit {0}
AreEntries (k ∷ ks) = IsPlainEntry k × (IsFirstLanguage k ks × AreEntries ks)

-- a keyword that is expected has put its entry
abbrev pub IsExpected : Expected → List Key → Type 0
IsExpected no_value ks = Unit {0}
IsExpected (property_value name iri) ks = Unit {0}
IsExpected (keyword_value kind at) ks = any_key is_kind ks ≡ true
IsExpected (keyword_value value at) ks = any_key is_value ks ≡ true
IsExpected (keyword_value id at) ks = Unit {0}
IsExpected (keyword_value language at) ks = Unit {0}
IsExpected (keyword_value direction at) ks = Unit {0}
IsExpected (keyword_value index at) ks = Unit {0}
IsExpected (keyword_value q at) ks = ⊥
IsExpected dropped_value ks = Unit {0}

-- a value object has no node; any other object has no `@value`
abbrev pub KeepsParts : Bool → Object → ValueParts → Type 0
KeepsParts true o ps = (ps ≡ kept_parts o) × (o.subject ≡ None)
KeepsParts false o ps = any_key is_value o.entries ≡ false

pub record KeepsObject (held : Bool) (o : Object) (n : Node) : Type 0 where
  pub valued : Bool
  pub entries : Entries
  pub parts : ValueParts
  pub same : n ≡ kept_node o valued entries parts
  pub in_main : o.scope ≡ Main
  pub expected : IsExpected o.expects o.entries
  pub marks : KeepsMarks entries (with_open held o.entries)
  pub are_entries : AreEntries o.entries
  pub its_parts : KeepsParts valued o parts
  -- types come with their entry
  pub typed : any_key is_kind o.entries ≡ false → o.types ≡ untyped

-- ---- what is kept of frames

-- each context is the initial one
abbrev pub plain_inside : Settings → Expanded → Inside
plain_inside s input = record {
  outside = initial s.base;
  could_go_back = false;
  base = initial s.base;
  final = initial s.base;
  input = input;
}

abbrev pub IsPlainInside : Settings → Inside → Type 0
IsPlainInside s i = i ≡ plain_inside s i.input

-- the spot of the items of an array
abbrev pub items_spot : Spot → Spot
items_spot q = moved q (inside q.role.around) q.head

-- an object at its spot, with what is open round it
pub record KeepsAt (s : Settings) (held : Bool) (p : Spot) (i : Inside) (o : Object) (k : List Frame) (n : Node) : Type 0 where
  pub plain : IsPlainInside s i
  pub round : top_spot k ≡ Some p
  pub keeps : KeepsObject held o n
  pub no_json : keeps.valued ≡ true → is_json i.input ≡ false

-- the object round an array of its types
pub record KeepsTypes (b : Context) (m : Option Term) (g : GraphScope) (at : ℕ) (i : Inside) (o : Object) : Type 0 where
  pub base : b ≡ i.base
  pub subject : m ≡ o.subject
  pub scope : g ≡ o.scope
  pub expects : o.expects ≡ keyword_value kind at
  pub types : o.types ≡ not_one

abbrev pub TypesIn : Context → Option Term → GraphScope → ℕ → List Frame → Type 0
TypesIn b m g at (object_frame p i o ∷ k) = KeepsTypes b m g at i o
TypesIn b m g at k = ⊥

-- what is dropped stands in an object, or in what is dropped
abbrev pub DroppedIn : List Frame → Type 0
DroppedIn (object_frame p i o ∷ k) = Unit {0}
DroppedIn (dropped ∷ k) = Unit {0}
DroppedIn k = ⊥

-- the frames, the innermost object and the open containers; `held` says that an array of values is open in the top frame
abbrev pub KeepsIn : Settings → Bool → List Frame → Option Node → List Open → Type 0
KeepsIn s held [] n opened = ⊥
KeepsIn s held (values p ∷ []) None [] = p ≡ root_spot s
KeepsIn s held (values p ∷ []) n opened = ⊥
KeepsIn s held (values p ∷ (f ∷ k)) n (opens.Array ∷ opened) =
    ((q : Spot) × ((spot_in f ≡ Some q) × (p ≡ items_spot q))) × KeepsIn s true (f ∷ k) n opened
KeepsIn s held (values p ∷ (f ∷ k)) n opened = ⊥
KeepsIn s held (object_frame p i o ∷ k) (Some n) (opens.Object outer ∷ opened) = KeepsAt s held p i o k n × KeepsIn s false k outer opened
KeepsIn s held (object_frame p i o ∷ k) n opened = ⊥
KeepsIn s held (types b m g at ∷ k) n (opens.Array ∷ opened) = TypesIn b m g at k × KeepsIn s false k n opened
KeepsIn s held (types b m g at ∷ k) n opened = ⊥
KeepsIn s held (dropped ∷ k) n (opens.Dropped ∷ opened) = DroppedIn k × KeepsIn s false k n opened
KeepsIn s held (dropped ∷ k) n opened = ⊥

-- the stack has not stopped, and keeps the frames
abbrev pub KeepsFrames : Settings → List Frame → StackState → Type 0
KeepsFrames s k st = (st ≡ frames.state st.node st.opens) × KeepsIn s false k st.node st.opens

-- the stack does what the walk does: it brings the quads that are well-formed, and keeps the frames; or it stops at the same fault
abbrev pub AgreesFrames : Settings → Step → frames.Step → Type 0
AgreesFrames s (Ok (quads, k)) t = (st : StackState) × ((t ≡ Ok (formed quads, st)) × KeepsFrames s k st)
AgreesFrames s (Err f) t = t ≡ Err f

-- whether the innermost object is a value object
abbrev pub node_valued : Option Node → Bool
node_valued None = false
node_valued (Some n) = n.valued

-- the same, and the innermost object stays one that is a value object, or that isn't
abbrev pub AgreesLeading : Settings → Bool → Step → frames.Step → Type 0
AgreesLeading s valued (Ok (quads, k)) t =
    (st : StackState) × ((t ≡ Ok (formed quads, st)) × (KeepsFrames s k st × (node_valued st.node ≡ valued)))
AgreesLeading s valued (Err f) t = t ≡ Err f

-- ---- what the spots are by what is kept

abbrev pub loose_spot : Settings → Around → Spot
loose_spot s around = spot (initial s.base) no_property around loose (graph_head Main)

abbrev pub linked_spot : Settings → Text → Text → Option Term → Spot
linked_spot s name iri n = spot (initial s.base) (property_of name) ordinary linked (head n iri Main)

abbrev pub IsPlainRound : Around → Type 0
IsPlainRound document = Unit {0}
IsPlainRound ordinary = Unit {0}
IsPlainRound a = ⊥

-- the spot of the next value, outside of all objects or in the innermost one
abbrev pub HasSpot : Settings → Spot → Option Node → Type 0
HasSpot s p None = (a : Around) × (IsPlainRound a × (p ≡ loose_spot s a))
HasSpot s p (Some n) =
    (name : Text) × ((iri : Text) × ((p ≡ linked_spot s name iri n.subject) × ((n.pending ≡ pending.Property iri) × (n.scope ≡ Main))))

-- the rest of the innermost object has begun
abbrev pub InRest : List Frame → Type 0
InRest (object_frame p i o ∷ k) = o.phase ≡ in_rest
InRest k = Unit {0}
