-- What an object knows after its members, where these have no fault: its entries, and the parts of a value object, are
-- those that the definitions see in the members.
use Rattle.std.proofs.Common.{ℕ, ◌≡◌, refl, sym, ◌∙◌, ap, subst, Bool, true, false, ◌||◌, List, [], ◌∷◌, ◌++◌, Option, Some, None, append_assoc}
use Rattle.std.proofs.lemmas.List.{append-nil}
use Rattle.std.proofs.lemmas.List.Folds.{list_any-append}
use Rattle.jl_model.specs.JsonTree.{Tree, scalar, array, object, Members, no_member, member}
use Rattle.jl_model.specs.declared.faults.Fault.{Fault}
use Rattle.jl_model.specs.declared.scalars.Scalar.TheVariants.{Null, Str, Number, Bool as boolean}
use Rattle.jl_defs.specs.Texts.{Text}
use Rattle.jl_defs.specs.Trees.{string_of}
use Rattle.jl_defs.specs.LateKeys.{if_so}
use Rattle.jl_defs.specs.Context.{term}
use Rattle.jl_defs.specs.Settings.{Settings, Under, Stand}
use Rattle.jl_defs.specs.Keys.{Key, id, kind, value, language, direction, index, property, key_of, is_value, is_kind, is_language}
use Rattle.jl_defs.specs.ObjectContexts.{Inside}
use Rattle.jl_defs.specs.ValueObjects.{ValueType, untyped, typed_by, not_one, first_with, all_with, value_type, type_of_string, type_of_values, is_json}
use Rattle.jl_defs.specs.Kept.{own_member, any_key, if_key, entries}
use Rattle.jl_defs.specs.MemberFaults.{key_faults, shape_faults}
use Rattle.jl_defs.specs.Faults.{members_faults, place, see_kind}
use Rattle.jl_walk.specs.Frames.{Object}
use Rattle.jl_walk.specs.Stage.{is_built_key, members_forms}
use Rattle.jl_walk.specs.Keys.{with_key, with_phase, seen_by}
use Rattle.jl_walk.specs.Scalars.{another}
use Rattle.jl_walk.specs.Ending.{its_value}
use Rattle.jl_walk.specs.Phases.{Phase, follow}
use Rattle.jl_walk.proofs.Runs.{left-nil, right-nil}
use Rattle.jl_walk.proofs.Keys.{after_key}
use Rattle.jl_walk.proofs.Members.{NeverJson, keeps_so, after_member, after_members, keyword-entries, entries-by, both, and-false}

-- members without faults, each after those before it
abbrev pub AllFine : Settings → Inside → Under → Members → Object → Type 0
AllFine s i under no_member o = Unit {0}
AllFine s i under (member a n v rest) o =
    (is_built_key (key_of i.final n) (term i.final n) ≡ true)
    × (key_faults (key_of i.final n) under (seen_by o) a ≡ [])
    × (shape_faults (key_of i.final n) false a v ≡ [])
    × AllFine s i under rest (after_member s i a n v o)

shape-so : (q : Key) (json : Bool) (a : ℕ) (v : Tree) → (is_value q ≡ true → json ≡ false) → shape_faults q json a v ≡ shape_faults q false a v
shape-so value json a v h = ap (λ b. shape_faults value b a v) (h refl)
shape-so q json a v h = refl

pub all-fine : (s : Settings) (i : Inside) (under : Under) (stand : Stand) (all seen : List Tree) (ms : Members) (o : Object) → NeverJson i ms → members_forms s i ms ≡ [] →
    members_faults s i (place own_member under stand all) (record { entries = o.entries; kinds = seen }) ms ≡ [] → AllFine s i under ms o
unfolding members_forms members_faults entries
all-fine s i under stand all seen no_member o j b e = tt
all-fine s i under stand all seen (member a n v rest) o j b e =
    let q = key_of i.final n in
    let built = both (is_built_key q (term i.final n)) a _ (left-nil _ _ b) in
    let own = left-nil _ _ e in (
      built,
      left-nil _ _ own,
      sym (shape-so q _ a v (λ h. and-false (is_json i.input) _ (j.0 h))) ∙ left-nil _ _ (right-nil (key_faults q under (seen_by o) a) _ own),
      all-fine s i under stand all (see_kind (is_kind q) v seen) rest (after_member s i a n v o) j.1 (right-nil _ _ b)
          (subst (λ x. members_faults s i (place own_member under stand all) (record { entries = x; kinds = see_kind (is_kind q) v seen }) rest ≡ [])
          (entries-by q (term i.final n) (keeps_so s i n v) i a n v o under _ _ built) (right-nil _ _ e)),
    )

-- ---- entries

abbrev pub own_entry : Bool → Key → List Key
own_entry g (property iri) = if_key g (property iri ∷ [])
own_entry g id = id ∷ []
own_entry g kind = kind ∷ []
own_entry g value = value ∷ []
own_entry g language = language ∷ []
own_entry g direction = direction ∷ []
own_entry g index = index ∷ []
own_entry g q = []

pub own-entries : (g : Bool) (q : Key) (i : Inside) (a : ℕ) (n : Text) (v : Tree) (o : Object) → (after_key g q i a n v o).entries ≡ o.entries ++ own_entry g q
own-entries g (property iri) i a n v o = refl
own-entries g id i a n v o = keyword-entries g id a i v (with_key id a n o)
own-entries g kind i a n v o = keyword-entries g kind a i v (with_key kind a n o)
own-entries g value i a n v o = keyword-entries g value a i v (with_key value a n o)
own-entries g language i a n v o = keyword-entries g language a i v (with_key language a n o)
own-entries g direction i a n v o = keyword-entries g direction a i v (with_key direction a n o)
own-entries g index i a n v o = keyword-entries g index a i v (with_key index a n o)
own-entries g q i a n v o = sym (append-nil o.entries)

pub entries-end : (s : Settings) (i : Inside) (under : Under) (ms : Members) (o : Object) → AllFine s i under ms o → (after_members s i ms o).entries ≡ o.entries ++ entries s i own_member under ms
unfolding entries
entries-end s i under no_member o h = sym (append-nil o.entries)
entries-end s i under (member a n v rest) o h =
    let q = key_of i.final n in
    entries-end s i under rest (after_member s i a n v o) h.3
    ∙ (ap (λ x. x ++ entries s i own_member under rest) (sym (entries-by q (term i.final n) (keeps_so s i n v) i a n v o under _ _ h.0))
    ∙ (append_assoc o.entries _ (entries s i own_member under rest) ∙ ap (λ x. o.entries ++ x) (append_assoc _ [] (entries s i own_member under rest))))

or-true : (b : Bool) → (b || true) ≡ true
or-true true = refl
or-true false = refl

grows : (t : Key → Bool) (ks js : List Key) → any_key t ks ≡ true → any_key t (ks ++ js) ≡ true
grows t ks js e = list_any-append t ks js ∙ ap (λ b. b || any_key t js) e

comes : (t : Key → Bool) (ks js : List Key) → any_key t js ≡ true → any_key t (ks ++ js) ≡ true
comes t ks js e = list_any-append t ks js ∙ (ap (λ b. any_key t ks || b) e ∙ or-true (any_key t ks))

-- ---- a part that comes once: the value, and the language

pub record Slot (i : Inside) (under : Under) (A : Type 0) (get : Object → Option A) (test : Key → Bool) (val : Tree → Option A) : Type 0 where
  pub step : (g : Bool) (q : Key) (a : ℕ) (n : Text) (v : Tree) (o : Object) → shape_faults q false a v ≡ [] → get (after_key g q i a n v o) ≡ elim (test q) [ true ↦ val v | false ↦ get o ]
  pub once : (q : Key) (a : ℕ) (o : Object) → test q ≡ true → key_faults q under (seen_by o) a ≡ [] → any_key test o.entries ≡ false
  pub entry : (g : Bool) (q : Key) → test q ≡ true → any_key test (own_entry g q) ≡ true
  pub free : (ph : Phase) (o : Object) → get (with_phase ph o) ≡ get o

abbrev pub of_first : {A : Type 0} → (Tree → Option A) → Option Tree → Option A
of_first val None = None
of_first val (Some v) = val v

slot-stays : (s : Settings) (i : Inside) (under : Under) (A : Type 0) (get : Object → Option A) (test : Key → Bool) (val : Tree → Option A) → Slot i under A get test val →
    (ms : Members) (o : Object) → AllFine s i under ms o → any_key test o.entries ≡ true → get (after_members s i ms o) ≡ get o
slot-stays s i under A get test val slot no_member o h e = refl
slot-stays s i under A get test val slot (member a n v rest) o h e =
    slot-stays s i under A get test val slot rest (after_member s i a n v o) h.3 (ap (any_key test) (own-entries (keeps_so s i n v) (key_of i.final n) i a n v o) ∙ grows test o.entries _ e)
    ∙ (slot.free (follow o.phase i n) _ ∙ (slot.step (keeps_so s i n v) (key_of i.final n) a n v o h.2 ∙ by (test (key_of i.final n)) refl))
  where
    by : (b : Bool) → test (key_of i.final n) ≡ b → elim b [ true ↦ val v | false ↦ get o ] ≡ get o
    by false t = refl
    by true t = absurd (let x : false ≡ true = sym (slot.once (key_of i.final n) a o t h.1) ∙ e in cc)

pub slot-end : (s : Settings) (i : Inside) (under : Under) (A : Type 0) (get : Object → Option A) (test : Key → Bool) (val : Tree → Option A) → Slot i under A get test val →
    (ms : Members) (o : Object) → AllFine s i under ms o → get o ≡ None → get (after_members s i ms o) ≡ of_first val (first_with test i.final ms)
slot-end s i under A get test val slot no_member o h e = e
slot-end s i under A get test val slot (member a n v rest) o h e = by (λ m x y. slot-end s i under A get test val slot rest m x y) (test (key_of i.final n)) refl
  where
    m : Object
    m = after_member s i a n v o

    by : ((m : Object) → AllFine s i under rest m → get m ≡ None → get (after_members s i rest m) ≡ of_first val (first_with test i.final rest)) → (b : Bool) → test (key_of i.final n) ≡ b →
        get (after_members s i rest m) ≡ of_first val (elim b [ true ↦ Some v | false ↦ first_with test i.final rest ])
    by next true t =
        slot-stays s i under A get test val slot rest m h.3
        (ap (any_key test) (own-entries (keeps_so s i n v) (key_of i.final n) i a n v o) ∙ comes test o.entries _ (slot.entry (keeps_so s i n v) (key_of i.final n) t))
        ∙ (slot.free (follow o.phase i n) _ ∙ (slot.step (keeps_so s i n v) (key_of i.final n) a n v o h.2 ∙ ap (λ b. elim b [ true ↦ val v | false ↦ get o ]) t))
    by next false t = next m h.3 (slot.free (follow o.phase i n) _ ∙ slot.step (keeps_so s i n v) (key_of i.final n) a n v o h.2 ∙ (ap (λ b. elim b [ true ↦ val v | false ↦ get o ]) t ∙ e))

if-left : (x : Bool) (f : Fault) → if_so x (f ∷ []) ≡ [] → x ≡ false
if-left false f e = refl
if-left true f e = absurd cc

part-value : (i : Inside) (g : Bool) (q : Key) (a : ℕ) (n : Text) (v : Tree) (o : Object) → shape_faults q false a v ≡ [] → its_value (after_key g q i a n v o) ≡ elim (is_value q) [ true ↦ Some v | false ↦ its_value o ]
part-value i g value a n (scalar b v) o e = refl
part-value i g value a n (array b xs) o e = absurd cc
part-value i g value a n (object b ms) o e = absurd cc
part-value i g kind a n (scalar b v) o e = refl
part-value i g kind a n (array b v) o e = refl
part-value i g kind a n (object b v) o e = refl
part-value i g language a n (scalar b (Str v)) o e = refl
part-value i g language a n (scalar b v) o e = refl
part-value i g language a n (array b v) o e = refl
part-value i g language a n (object b v) o e = refl
part-value i g id a n (scalar b v) o e = refl
part-value i g id a n v o e = refl
part-value i g direction a n (scalar b v) o e = refl
part-value i g direction a n v o e = refl
part-value i g index a n (scalar b v) o e = refl
part-value i g index a n v o e = refl
part-value i g q a n v o e = refl

once-value : (under : Under) (q : Key) (a : ℕ) (o : Object) → is_value q ≡ true → key_faults q under (seen_by o) a ≡ [] → any_key is_value o.entries ≡ false
once-value under value a o t e = if-left (any_key is_value o.entries) _ e
once-value under q a o t e = absurd cc

entry-value : (g : Bool) (q : Key) → is_value q ≡ true → any_key is_value (own_entry g q) ≡ true
entry-value g value t = refl
entry-value g q t = absurd cc

value-slot : (i : Inside) (under : Under) → Slot i under Tree its_value is_value (λ v. Some v)
value-slot i under = record { step = part-value i; once = once-value under; entry = entry-value; free = λ ph o. refl }

part-language : (i : Inside) (g : Bool) (q : Key) (a : ℕ) (n : Text) (v : Tree) (o : Object) → shape_faults q false a v ≡ [] → (after_key g q i a n v o).language ≡ elim (is_language q) [ true ↦ string_of v | false ↦ o.language ]
part-language i g language a n (scalar b (Str v)) o e = refl
part-language i g language a n (scalar b v) o e = absurd cc
part-language i g language a n (array b v) o e = absurd cc
part-language i g language a n (object b v) o e = absurd cc
part-language i g value a n (scalar b v) o e = refl
part-language i g value a n v o e = refl
part-language i g kind a n (scalar b v) o e = refl
part-language i g kind a n (array b v) o e = refl
part-language i g kind a n (object b v) o e = refl
part-language i g id a n (scalar b v) o e = refl
part-language i g id a n v o e = refl
part-language i g direction a n (scalar b v) o e = refl
part-language i g direction a n v o e = refl
part-language i g index a n (scalar b v) o e = refl
part-language i g index a n v o e = refl
part-language i g q a n v o e = refl

once-language : (under : Under) (q : Key) (a : ℕ) (o : Object) → is_language q ≡ true → key_faults q under (seen_by o) a ≡ [] → any_key is_language o.entries ≡ false
once-language under language a o t e = if-left (any_key is_language o.entries) _ e
once-language under q a o t e = absurd cc

entry-language : (g : Bool) (q : Key) → is_language q ≡ true → any_key is_language (own_entry g q) ≡ true
entry-language g language t = refl
entry-language g q t = absurd cc

language-slot : (i : Inside) (under : Under) → Slot i under Text (λ o. o.language) is_language string_of
language-slot i under = record { step = part-language i; once = once-language under; entry = entry-language; free = λ ph o. refl }

the-first : (t : Option Tree) → of_first (λ v. Some v) t ≡ t
the-first None = refl
the-first (Some t) = refl

pub value-end : (s : Settings) (i : Inside) (under : Under) (ms : Members) (o : Object) → AllFine s i under ms o → its_value o ≡ None → its_value (after_members s i ms o) ≡ first_with is_value i.final ms
value-end s i under ms o h e = slot-end s i under Tree its_value is_value (λ v. Some v) (value-slot i under) ms o h e ∙ the-first (first_with is_value i.final ms)

pub language-end : (s : Settings) (i : Inside) (under : Under) (ms : Members) (o : Object) → AllFine s i under ms o → o.language ≡ None → (after_members s i ms o).language ≡ of_first string_of (first_with is_language i.final ms)
language-end s i under ms o h e = slot-end s i under Text (λ o. o.language) is_language string_of (language-slot i under) ms o h e

-- ---- types

abbrev types_fold : Inside → ValueType → List Tree → ValueType
types_fold i t [] = t
types_fold i t (v ∷ vs) = types_fold i (another t (type_of_string i.base (string_of v))) vs

another-many : (t : ValueType) → another t not_one ≡ not_one
another-many untyped = refl
another-many (typed_by e) = refl
another-many not_one = refl

part-types : (i : Inside) (g : Bool) (q : Key) (a : ℕ) (n : Text) (v : Tree) (o : Object) → shape_faults q false a v ≡ [] →
    (after_key g q i a n v o).types ≡ elim (is_kind q) [ true ↦ another o.types (type_of_string i.base (string_of v)) | false ↦ o.types ]
part-types i g kind a n (scalar b (Str v)) o e = refl
part-types i g kind a n (scalar b Null) o e = absurd cc
part-types i g kind a n (scalar b (boolean x)) o e = absurd cc
part-types i g kind a n (scalar b (Number x)) o e = absurd cc
part-types i g kind a n (array b v) o e = sym (another-many o.types)
part-types i g kind a n (object b v) o e = absurd cc
part-types i g value a n (scalar b v) o e = refl
part-types i g value a n v o e = refl
part-types i g language a n (scalar b (Str v)) o e = refl
part-types i g language a n (scalar b v) o e = refl
part-types i g language a n v o e = refl
part-types i g id a n (scalar b v) o e = refl
part-types i g id a n v o e = refl
part-types i g direction a n (scalar b v) o e = refl
part-types i g direction a n v o e = refl
part-types i g index a n (scalar b v) o e = refl
part-types i g index a n v o e = refl
part-types i g q a n v o e = refl

fold-by : (i : Inside) (b : Bool) (t : ValueType) (v : Tree) (vs : List Tree) →
    types_fold i (elim b [ true ↦ another t (type_of_string i.base (string_of v)) | false ↦ t ]) vs ≡ types_fold i t (elim b [ true ↦ v ∷ vs | false ↦ vs ])
fold-by i true t v vs = refl
fold-by i false t v vs = refl

types-run-so : (s : Settings) (i : Inside) (under : Under) (ms : Members) (o : Object) → AllFine s i under ms o → (after_members s i ms o).types ≡ types_fold i o.types (all_with is_kind i.final ms)
types-run-so s i under no_member o h = refl
types-run-so s i under (member a n v rest) o h =
    types-run-so s i under rest (after_member s i a n v o) h.3
    ∙ (ap (λ t. types_fold i t (all_with is_kind i.final rest)) (part-types i (keeps_so s i n v) (key_of i.final n) a n v o h.2)
    ∙ fold-by i (is_kind (key_of i.final n)) o.types v (all_with is_kind i.final rest))

many-stay : (i : Inside) (vs : List Tree) → types_fold i not_one vs ≡ not_one
many-stay i [] = refl
many-stay i (v ∷ vs) = many-stay i vs

two-types : (i : Inside) (x : Option Text) (t : ValueType) → another (type_of_string i.base x) t ≡ not_one
two-types i None t = refl
two-types i (Some x) t = refl

fold-is : (i : Inside) (vs : List Tree) → types_fold i untyped vs ≡ type_of_values i.base vs
fold-is i [] = refl
fold-is i (v ∷ []) = refl
fold-is i (v ∷ w ∷ vs) = ap (λ t. types_fold i t vs) (two-types i (string_of v) _) ∙ many-stay i vs

pub types-end : (s : Settings) (i : Inside) (under : Under) (ms : Members) (o : Object) → AllFine s i under ms o → o.types ≡ untyped → (after_members s i ms o).types ≡ value_type i ms
types-end s i under ms o h e = types-run-so s i under ms o h ∙ (ap (λ t. types_fold i t (all_with is_kind i.final ms)) e ∙ fold-is i (all_with is_kind i.final ms))
