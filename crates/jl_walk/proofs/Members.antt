-- The members of an object, one after another.
use Rattle.std.proofs.Common.{ℕ, ◌≡◌, refl, sym, ◌∙◌, ap, subst, Bool, true, false, not, ◌&&◌, List, [], ◌∷◌, ◌++◌, Option, Some, Ok, Err, append_assoc}
use Rattle.std.proofs.lemmas.List.{append-nil}
use Rattle.jl_model.specs.JsonTree.{Tree, scalar, array, object, Members, no_member, member}
use Rattle.jl_model.specs.Parts.{Parts}
use Rattle.jl_model.specs.declared.faults.Fault.{Fault}
use Rattle.jl_model.specs.declared.scalars.Scalar.{Scalar}
use Rattle.jl_model.specs.declared.scalars.Scalar.TheVariants.{Str}
use Rattle.jl_defs.specs.Texts.{Text}
use Rattle.jl_defs.specs.LateKeys.{if_so}
use Rattle.jl_defs.specs.Rest.{is_scalar, ends_with}
use Rattle.jl_defs.specs.Context.{TermDef, term}
use Rattle.jl_defs.specs.Settings.{Settings, Under, drops, lists, Stand, elsewhere, inside_of, property_of}
use Rattle.jl_defs.specs.Keys.{Key, its_context, id, kind, value, language, direction, index, graph, included, list, set, reverse, nest, other, dropped as dropped_key, property, key_of, is_value, is_kind}
use Rattle.jl_defs.specs.ObjectContexts.{Inside}
use Rattle.jl_defs.specs.ValueObjects.{is_json}
use Rattle.jl_defs.specs.Kept.{own_member, form_of, form_keeps, if_key, keeps, entries, entries_by, is_list_object}
use Rattle.jl_defs.specs.MemberFaults.{Seen, shape_faults, takes_json}
use Rattle.jl_defs.specs.Faults.{value_faults, members_faults, place, see, see_kind, see_nest, json_numbers, judged, property_faults, map_faults, nested_faults, reversed_faults, inside_by}
use Rattle.jl_defs.specs.Expansion.{is_plain_graph}
use Rattle.jl_laws.specs.Spots.{Spot, spot, ordinary, linked}
use Rattle.jl_laws.specs.Says.{members_say, walk, is_given, property_head}
use Rattle.jl_walk.specs.Frames.{Expected, no_value, property_value, keyword_value, dropped_value, Object, Frame, object as object_frame, around_by, property_spot, spot_in, after_value}
use Rattle.jl_walk.specs.Steps.{Step, after_quads, then_goes, unless_fault}
use Rattle.jl_walk.specs.Stage.{is_built_key, is_built_term, forms, members_forms}
use Rattle.jl_walk.specs.Scalars.{with_part}
use Rattle.jl_walk.specs.Keys.{with_key, with_phase, key_of_object, take_key}
use Rattle.jl_walk.specs.Feeding.{feed, feed_members}
use Rattle.jl_walk.specs.Phases.{phased, lone_at, Phase, any_time, at_start, in_lead, in_run, in_rest, run_until, follow, past, is_rest, context_at, rest_at, phase_faults}
use Rattle.jl_walk.specs.Laws.{Runs, ValueRuns}
use Rattle.jl_walk.proofs.Runs.{right-nil, then-runs-if, runs-by, runs-quiet, built-first-runs}
use Rattle.jl_walk.proofs.SameFaults.{regroup, runs-same, first-runs}
use Rattle.jl_walk.proofs.Naming.{not-late}
use Rattle.jl_walk.proofs.Forms.{built-form, built-lists, built-faults, built-said}
use Rattle.jl_walk.proofs.Keys.{after_under, after_key, own_faults, key-runs, PropertyRuns}

-- ---- steps in another grouping

after_quads-twice : (a b : List Parts) (r : Step) → after_quads a (after_quads b r) ≡ after_quads (a ++ b) r
after_quads-twice a b (Ok (q, k)) = ap (λ x. Ok (x, k)) (sym (append_assoc a b q))
after_quads-twice a b (Err f) = refl

after_quads-then : (a : List Parts) (r : Step) (next : List Frame → Step) → then_goes (after_quads a r) next ≡ after_quads a (then_goes r next)
after_quads-then a (Ok (q, k)) next = sym (after_quads-twice a q (next k))
after_quads-then a (Err f) next = refl

pub then-assoc : (r : Step) (f g : List Frame → Step) → then_goes (then_goes r f) g ≡ then_goes r (λ l. then_goes (f l) g)
then-assoc (Ok (q, k)) f g = after_quads-then q (f k) g
then-assoc (Err e) f g = refl

-- ---- an object after its members

abbrev pub keeps_so : Settings → Inside → Text → Tree → Bool
keeps_so s i n v = keeps s i.final (property_of n) elsewhere v

-- the phase is that of its key
abbrev pub after_member : Settings → Inside → ℕ → Text → Tree → Object → Object
after_member s i a n v o = with_phase (follow o.phase i n) (after_key (keeps_so s i n v) (key_of i.final n) i a n v o)

abbrev pub after_members : Settings → Inside → Members → Object → Object
after_members s i no_member o = o
after_members s i (member a n v rest) o = after_members s i rest (after_member s i a n v o)

-- what its entries are then: the same as by the definitions
with-part-entries : (q : Key) (i : Inside) (at : ℕ) (v : Scalar) (o : Object) → (with_part q i at v o).entries ≡ o.entries
with-part-entries kind i at v o = refl
with-part-entries value i at v o = refl
with-part-entries language i at (Str text) o = refl
with-part-entries language i at v o = refl
with-part-entries q i at v o = refl

pub keyword-entries : (g : Bool) (q : Key) (at : ℕ) (i : Inside) (v : Tree) (o : Object) → (after_under g (keyword_value q at) i v o).entries ≡ o.entries
keyword-entries g q at i (scalar a v) o = with-part-entries q i a v o
keyword-entries g kind at i (array a xs) o = refl
keyword-entries g q at i (array a xs) o = refl
keyword-entries g q at i (object a ms) o = refl

-- ---- the members

-- no value object of the type `@json` stands here; what comes too late isn't asked
abbrev pub NoJson : Inside → Phase → Members → Type 0
NoJson i ph no_member = Unit {0}
NoJson i ph (member a n v rest) =
    (is_value (key_of i.final n) ≡ true → is_rest (follow ph i n) ≡ false → is_json i.input ≡ false) × NoJson i (past (follow ph i n) i n v) rest

-- the same of all members
abbrev pub NeverJson : Inside → Members → Type 0
NeverJson i no_member = Unit {0}
NeverJson i (member a n v rest) = (is_value (key_of i.final n) ≡ true → is_json i.input ≡ false) × NeverJson i rest

abbrev pub MembersRun : Settings → Members → Type 0
MembersRun s ms =
    (p : Spot) (i : Inside) (o : Object) (k : List Frame) (stand : Stand) (all seen : List Tree) → NoJson i o.phase ms →
    Runs (members_faults s i (place own_member p.under stand all) (record { entries = o.entries; kinds = seen }) ms ++ phased i o.phase ms) (members_forms s i ms)
    (feed_members s ms (object_frame p i o ∷ k)) (members_say s i own_member o.subject o.scope ms) (object_frame p i (after_members s i ms o) ∷ k)

pub members-none : (s : Settings) → MembersRun s no_member
unfolding feed members_faults members_forms members_say
members-none s p i o k stand all seen j = runs-quiet (object_frame p i o ∷ k)

-- ---- the phase

expects-phase : (q : Key) (a : ℕ) (n : Text) (ph : Phase) (o : Object) → (with_key q a n (with_phase ph o)).expects ≡ (with_key q a n o).expects
expects-phase (property iri) a n ph o = refl
expects-phase id a n ph o = refl
expects-phase kind a n ph o = refl
expects-phase value a n ph o = refl
expects-phase language a n ph o = refl
expects-phase direction a n ph o = refl
expects-phase index a n ph o = refl
expects-phase q a n ph o = refl

key-phase : (q : Key) (a : ℕ) (n : Text) (ph : Phase) (o : Object) → with_key q a n (with_phase ph o) ≡ with_phase ph (with_key q a n o)
key-phase (property iri) a n ph o = refl
key-phase id a n ph o = refl
key-phase kind a n ph o = refl
key-phase value a n ph o = refl
key-phase language a n ph o = refl
key-phase direction a n ph o = refl
key-phase index a n ph o = refl
key-phase q a n ph o = refl

under-phase : (g : Bool) (e : Expected) (i : Inside) (v : Tree) (ph : Phase) (o : Object) → o.expects ≡ e → after_under g e i v (with_phase ph o) ≡ with_phase ph (after_under g e i v o)
under-phase g (property_value name iri) i v ph o h = refl
under-phase g (keyword_value kind at) i (scalar a v) ph o h = refl
under-phase g (keyword_value value at) i (scalar a v) ph o h = refl
under-phase g (keyword_value language at) i (scalar a (Str text)) ph o h = refl
under-phase g (keyword_value q at) i (scalar a v) ph o h = refl
under-phase g (keyword_value kind at) i (array a xs) ph o h = refl
under-phase g (keyword_value q at) i (array a xs) ph o h = refl
under-phase g (keyword_value q at) i (object a ms) ph o h = refl
under-phase g no_value i v ph o h = refl
under-phase g dropped_value i v ph o h = refl

pub after-phase : (g : Bool) (q : Key) (i : Inside) (a : ℕ) (n : Text) (v : Tree) (ph : Phase) (o : Object) → after_key g q i a n v (with_phase ph o) ≡ with_phase ph (after_key g q i a n v o)
after-phase g q i a n v ph o =
    ap (λ x. after_under g x i v (with_key q a n (with_phase ph o))) (expects-phase q a n ph o)
    ∙ (ap (λ x. after_under g (with_key q a n o).expects i v x) (key-phase q a n ph o)
    ∙ under-phase g (with_key q a n o).expects i v ph (with_key q a n o) refl)

-- where a member has no fault, its value doesn't end the run
no-end : (q : Key) (under : Under) (o : Object) (a : ℕ) (json : Bool) (v : Tree) (inner : List Fault) → (is_value q ≡ true → json ≡ false) → own_faults q under o a json v inner ≡ [] → (is_value q && not (is_scalar v)) ≡ false
no-end value under o a json v inner j e = by v (right-nil _ _ e) (j refl)
  where
    by : (v : Tree) → shape_faults value json a v ++ inner ≡ [] → json ≡ false → not (is_scalar v) ≡ false
    by (scalar b x) e d = refl
    by (array b xs) e d = absurd (let x = ap (λ z. shape_faults value z a (array b xs) ++ inner) (sym d) ∙ e in cc)
    by (object b ms) e d = absurd (let x = ap (λ z. shape_faults value z a (object b ms) ++ inner) (sym d) ∙ e in cc)
no-end q under o a json v inner j e = refl

past-same : (ph : Phase) (i : Inside) (n : Text) (v : Tree) → ends_with i n v ≡ false → past ph i n v ≡ ph
past-same in_run i n v e = ap run_until e
past-same any_time i n v e = refl
past-same (at_start left) i n v e = refl
past-same (in_lead left) i n v e = refl
past-same in_rest i n v e = refl

-- a value that isn't late
not-rest : (ph : Phase) (i : Inside) (n : Text) (a : ℕ) → phase_faults ph i n a ≡ [] → is_value (key_of i.final n) ≡ true → is_rest (follow ph i n) ≡ false
not-rest ph i n a e h = by (follow ph i n) (right-nil (lone_at ph i n a) _ (right-nil (context_at ph n a) _ e))
  where
    by : (x : Phase) → rest_at x i n a ≡ [] → is_rest x ≡ false
    by in_rest e = absurd (let x : true ≡ false = sym h ∙ (not-late i n a e).no_value in cc)
    by any_time e = refl
    by (at_start left) e = refl
    by (in_lead left) e = refl
    by in_run e = refl

-- neither the node nor its graph changes
same-under : (g : Bool) (e : Expected) (i : Inside) (v : Tree) (o : Object) → ((after_under g e i v o).subject ≡ o.subject) × ((after_under g e i v o).scope ≡ o.scope)
same-under g (property_value name iri) i v o = (refl, refl)
same-under g (keyword_value kind at) i (scalar a v) o = (refl, refl)
same-under g (keyword_value value at) i (scalar a v) o = (refl, refl)
same-under g (keyword_value language at) i (scalar a (Str text)) o = (refl, refl)
same-under g (keyword_value q at) i (scalar a v) o = (refl, refl)
same-under g (keyword_value kind at) i (array a xs) o = (refl, refl)
same-under g (keyword_value q at) i (array a xs) o = (refl, refl)
same-under g (keyword_value q at) i (object a ms) o = (refl, refl)
same-under g no_value i v o = (refl, refl)
same-under g dropped_value i v o = (refl, refl)

same-key : (q : Key) (a : ℕ) (n : Text) (o : Object) → ((with_key q a n o).subject ≡ o.subject) × ((with_key q a n o).scope ≡ o.scope)
same-key (property iri) a n o = (refl, refl)
same-key id a n o = (refl, refl)
same-key kind a n o = (refl, refl)
same-key value a n o = (refl, refl)
same-key language a n o = (refl, refl)
same-key direction a n o = (refl, refl)
same-key index a n o = (refl, refl)
same-key q a n o = (refl, refl)

pub same-node : (s : Settings) (i : Inside) (a : ℕ) (n : Text) (v : Tree) (o : Object) →
    ((after_member s i a n v o).subject ≡ o.subject) × ((after_member s i a n v o).scope ≡ o.scope)
same-node s i a n v o =
    let m = with_key (key_of i.final n) a n o in
    let x = same-under (keeps_so s i n v) m.expects i v m in
    let y = same-key (key_of i.final n) a n o in
    (x.0 ∙ y.0, x.1 ∙ y.1)

-- the entries after a member whose form is built
pub entries-by : (q : Key) (t : Option TermDef) (g : Bool) (i : Inside) (a : ℕ) (n : Text) (v : Tree) (o : Object) (under : Under) (nested : Unit {0} → List Key) (reverses : Unit {0} → Bool) →
    is_built_key q t ≡ true → o.entries ++ (entries_by q under (λ _. form_keeps (form_of t v) (λ _. g)) nested reverses ++ []) ≡ (after_key g q i a n v o).entries
entries-by (property iri) t g i a n v o under nested reverses e =
    ap (λ x. o.entries ++ (if_key (form_keeps x (λ _. g)) (property iri ∷ []) ++ [])) (built-form t v e) ∙ ap (λ x. o.entries ++ x) (append-nil (if_key g (property iri ∷ [])))
entries-by id t g i a n v o under nested reverses e = sym (keyword-entries g id a i v (with_key id a n o))
entries-by kind t g i a n v o under nested reverses e = sym (keyword-entries g kind a i v (with_key kind a n o))
entries-by value t g i a n v o under nested reverses e = sym (keyword-entries g value a i v (with_key value a n o))
entries-by language t g i a n v o under nested reverses e = sym (keyword-entries g language a i v (with_key language a n o))
entries-by direction t g i a n v o under nested reverses e = sym (keyword-entries g direction a i v (with_key direction a n o))
entries-by index t g i a n v o under nested reverses e = sym (keyword-entries g index a i v (with_key index a n o))
entries-by other t g i a n v o under nested reverses e = append-nil o.entries
entries-by dropped_key t g i a n v o under nested reverses e = append-nil o.entries
entries-by q t g i a n v o under nested reverses e = absurd cc

-- a run whose places are none where it goes
pub both : (b : Bool) (a : ℕ) (ps : List ℕ) → ◌≡◌ {A = List ℕ} (elim b [ true ↦ ps | false ↦ a ∷ [] ]) [] → b ≡ true
both true a ps e = refl
both false a ps e = absurd cc

-- the value of a property, where its form is built
property-runs : (s : Settings) (q : Key) (t : Option TermDef) (iri : Text) (a : ℕ) (n : Text) (v : Tree) (p : Spot) (i : Inside) (o : Object) (k : List Frame) (fp : List Fault) (qp : List Parts) →
    q ≡ property iri → t ≡ term i.final n → ValueRuns s v →
    (is_built_term t ≡ true → fp ≡ value_faults s i.final (property_of n) elsewhere v) →
    (is_built_term t ≡ true → qp ≡ (walk s (property_spot i o n iri) v).0) →
    PropertyRuns s q t a n v p i o k fp (forms s i.final (property_of n) elsewhere v) qp (keeps_so s i n v)
property-runs s (property x) t iri a n v p i o k fp qp e d vr f g = λ b.
    let m = with_key (property x) a n o in
    let same : property_spot i m n x ≡ property_spot i o n iri = ap (λ z. property_spot i o n (name_of z)) e in
    runs-by _ _ _ _ _ _ _ _ _ _ (sym (f b)) refl refl (ap (λ z. (walk s z v).0) same ∙ sym (g b)) refl
    (at-spot (is_plain_graph (term i.final n)) refl b)
  where
    -- the stand is the same in a graph and outside of one
    at-spot : (g : Bool) → is_plain_graph (term i.final n) ≡ g → is_built_term t ≡ true →
        Runs (value_faults s i.final (property_of n) elsewhere v) (forms s i.final (property_of n) elsewhere v) (feed s v (object_frame p i (with_key (property x) a n o) ∷ k))
        (walk s (property_spot i (with_key (property x) a n o) n x) v).0 (object_frame p i (after_value (keeps_so s i n v) (with_key (property x) a n o)) ∷ k)
    at-spot g h b =
        let m = with_key (property x) a n o in
        let q = spot i.final (property_of n) (around_by g) linked (property_head own_member (term i.final n) x m.subject m.scope) in
        let e : property_spot i m n x ≡ q = ap (λ z. spot i.final (property_of n) (around_by z) linked (property_head own_member (term i.final n) x m.subject m.scope)) h in
        let plain = ap lists (sym d) ∙ built-lists t b in
        runs-by _ _ _ _ _ _ _ _ _ _ refl refl refl (ap (λ z. (walk s z v).0) (sym e)) refl (by g m q refl (ap Some e) plain)
      where
        by : (g : Bool) (m : Object) (q : Spot) → q ≡ spot i.final (property_of n) (around_by g) linked (property_head own_member (term i.final n) x m.subject m.scope) → spot_in (object_frame p i m) ≡ Some q → lists (term i.final n) ≡ false →
            Runs (value_faults s i.final (property_of n) elsewhere v) (forms s i.final (property_of n) elsewhere v) (feed s v (object_frame p i m ∷ k)) (walk s q v).0 (object_frame p i (after_value (keeps_so s i n v) m) ∷ k)
        by true m q e h l = runs-by _ _ _ _ _ _ _ _ _ _ refl refl refl (ap (λ z. (walk s z v).0) (sym e)) refl (vr (object_frame p i m) k _ (h ∙ ap Some e) (l, tt))
        by false m q e h l = runs-by _ _ _ _ _ _ _ _ _ _ refl refl refl (ap (λ z. (walk s z v).0) (sym e)) refl (vr (object_frame p i m) k _ (h ∙ ap Some e) (l, tt))

    name_of : Key → Text
    name_of (property y) = y
    name_of q = []
property-runs s its_context t iri a n v p i o k fp qp e d vr f g = tt
property-runs s id t iri a n v p i o k fp qp e d vr f g = tt
property-runs s kind t iri a n v p i o k fp qp e d vr f g = tt
property-runs s value t iri a n v p i o k fp qp e d vr f g = tt
property-runs s language t iri a n v p i o k fp qp e d vr f g = tt
property-runs s direction t iri a n v p i o k fp qp e d vr f g = tt
property-runs s index t iri a n v p i o k fp qp e d vr f g = tt
property-runs s graph t iri a n v p i o k fp qp e d vr f g = tt
property-runs s included t iri a n v p i o k fp qp e d vr f g = tt
property-runs s list t iri a n v p i o k fp qp e d vr f g = tt
property-runs s set t iri a n v p i o k fp qp e d vr f g = tt
property-runs s reverse t iri a n v p i o k fp qp e d vr f g = tt
property-runs s nest t iri a n v p i o k fp qp e d vr f g = tt
property-runs s other t iri a n v p i o k fp qp e d vr f g = tt
property-runs s dropped_key t iri a n v p i o k fp qp e d vr f g = tt

pub and-false : (x y : Bool) → x ≡ false → (x && y) ≡ false
and-false false y e = refl
and-false true y e = absurd cc

pub if-none : (b : Bool) (fs : List Fault) → b ≡ false → if_so b fs ≡ []
if-none false fs e = refl
if-none true fs e = absurd cc

pub members-step : (s : Settings) (a : ℕ) (n : Text) (v : Tree) (rest : Members) → ValueRuns s v → MembersRun s rest → MembersRun s (member a n v rest)
unfolding feed take_key members_faults members_forms members_say entries keeps
members-step s a n v rest vr mr p i o k stand all seen j =
    let q = key_of i.final n in
    let t = term i.final n in
    let g = keeps_so s i n v in
    let ph = follow o.phase i n in
    let late = phase_faults o.phase i n a in
    let x = with_phase ph o in
    let m = after_member s i a n v o in
    let pl = place own_member p.under stand all in
    let sn : Seen = record { entries = o.entries; kinds = seen } in
    let json = takes_json s.order i sn all in
    let numbers : Unit {0} → List Fault = λ _. json_numbers i v in
    let under : Under → List Fault = λ u. value_faults s i.final u elsewhere v in
    let fi : Unit {0} → List Fault = λ _. judged s i.final v in
    let fp : Unit {0} → List Fault = λ _. property_faults s i.final own_member n v (λ t. map_faults s i.final t n v) (λ _. value_faults s i.final (property_of n) elsewhere v) in
    let fn : Unit {0} → List Fault = λ _. nested_faults s i n pl (see_nest sn) v in
    let fr : Unit {0} → List Fault = λ _. reversed_faults s i.final v in
    let fl : Unit {0} → List Fault = λ _. value_faults s i.final p.under elsewhere v in
    let ft : Unit {0} → List Fault = λ _. value_faults s i.final p.under (inside_of stand) v in
    let own = own_faults q p.under x a json v (inside_by q (drops p.under) numbers under fi fp fn fr fl ft) in
    let mf = members_faults s i pl (see s i own_member p.under sn a n v) rest in
    let pr = phased i (past ph i n v) rest in
    let built_next : Unit {0} → Step = λ _. unless_fault late (λ _. key_of_object q a n p i x k) in
    runs-by ((own ++ mf) ++ (late ++ pr)) _ _ _ _ _ _ _ _ _ refl refl refl refl refl
    (built-first-runs (is_built_key q t) a _ _ (members_forms s i rest) built_next _ _ _ (λ built.
    (runs-same (late ++ (own ++ (mf ++ pr))) _ _ _ _ _ (regroup late own mf pr)
    (first-runs late (own ++ (mf ++ pr)) _ (λ _. key_of_object q a n p i x k) (λ l. then_goes (feed s v l) (feed_members s rest)) _ _ (λ none.
    runs-by (own ++ (mf ++ pr)) _ _ _ _ _ _ _ _ _ refl refl (sym (then-assoc (key_of_object q a n p i x k) (feed s v) (feed_members s rest))) refl refl
    (then-runs-if own (mf ++ pr) _ _ _ (feed_members s rest) _ _ (object_frame p i m ∷ k) _
    (runs-by own own _ _ _ _ _ _ _ _ refl refl refl refl (ap (λ z. object_frame p i z ∷ k) (after-phase g q i a n v ph o))
    (key-runs s q t a n v p i x k json (drops p.under) numbers under fi fp fn fr fl ft _ _ _ _ _ _ g built
    (λ h. let b = j.0 h (not-rest o.phase i n a none h) in (and-false (is_json i.input) _ b, if-none (is_json i.input) _ b))
    (λ iri e. property-runs s q t iri a n v p i x k _ _ e refl vr (λ b. built-faults t v _ _ _ _ _ b) (λ b. built-said t v _ _ _ (is_list_object s i.final (property_of n) elsewhere v) (is_given s i.final (property_of n) v)
    (property_head own_member t iri o.subject o.scope) (λ hanging h. walk s (spot i.final (property_of n) ordinary hanging h) v)
    (λ around. (walk s (spot i.final (property_of n) around linked (property_head own_member t iri o.subject o.scope)) v).0) b))))
    (λ fine none_inside.
    let same = past-same ph i n v (no-end q p.under x a json v _ (λ h. and-false (is_json i.input) _ (j.0 h (not-rest o.phase i n a none h))) fine) in
    runs-by _ (mf ++ pr) _ _ _ _ _ _ _ _
    (ap (λ z. members_faults s i pl (record { entries = z; kinds = see_kind (is_kind q) v seen }) rest ++ phased i ph rest)
    (sym (entries-by q t g i a n v o p.under _ _ built))
    ∙ ap (λ z. mf ++ phased i z rest) (sym same))
    refl refl (ap (λ x. members_say s i own_member x m.scope rest) (same-node s i a n v o).0 ∙ ap (λ x. members_say s i own_member o.subject x rest) (same-node s i a n v o).1) refl
    (mr p i m k stand all (see_kind (is_kind q) v seen) (subst (λ z. NoJson i z rest) same j.1)))))))))
