-- A key with its value: one lemma for each kind of key.
use Rattle.std.proofs.Common.{ℕ, ◌≡◌, inl, refl, sym, ◌∙◌, ap, Bool, true, false, List, [], ◌∷◌, ◌++◌, Option}
use Rattle.std.proofs.lemmas.List.{append-nil}
use Rattle.jl_model.specs.JsonTree.{Tree, scalar, array, object}
use Rattle.jl_model.specs.Parts.{Parts}
use Rattle.jl_model.specs.declared.scalars.Scalar.TheVariants.{Null, Str, Number, Bool as boolean}
use Rattle.jl_model.specs.declared.faults.Fault.{Fault}
use Rattle.jl_defs.specs.Texts.{Text}
use Rattle.jl_defs.specs.Context.{TermDef}
use Rattle.jl_defs.specs.Settings.{Settings, Under}
use Rattle.jl_defs.specs.Keys.{Key, id, kind, value, language, direction, index, other, dropped as dropped_key, property, is_value}
use Rattle.jl_defs.specs.ObjectContexts.{Inside}
use Rattle.jl_defs.specs.ValueObjects.{not_one}
use Rattle.jl_defs.specs.MemberFaults.{key_faults, shape_faults}
use Rattle.jl_defs.specs.Expansion.{type_strings}
use Rattle.jl_defs.specs.Faults.{inside_by}
use Rattle.jl_laws.specs.Spots.{Spot}
use Rattle.jl_laws.specs.Says.{by_key, types_say}
use Rattle.jl_walk.specs.Frames.{Expected, no_value, property_value, keyword_value, dropped_value, Object, Frame, object as object_frame, types, after_value}
use Rattle.jl_walk.specs.Steps.{Step, quiet, after_quads, then_goes, unless_fault}
use Rattle.jl_walk.specs.Scalars.{with_part, take_scalar}
use Rattle.jl_walk.specs.Keys.{with_key, key_of_object, seen_by}
use Rattle.jl_walk.specs.Stage.{is_built_key, values_of}
use Rattle.jl_walk.specs.Opening.{open_array, enter}
use Rattle.jl_walk.specs.Ending.{close}
use Rattle.jl_walk.specs.Feeding.{feed, feed_items}
use Rattle.jl_walk.specs.Laws.{Runs, goes, stops}
use Rattle.jl_walk.proofs.Runs.{then-runs, runs-by, runs-quiet, only-fault-runs}
use Rattle.jl_walk.proofs.Dropped.{dropped-value, types-run}

-- the object after the value of its key
abbrev pub after_under : Bool → Expected → Inside → Tree → Object → Object
after_under g (property_value name iri) i v o = after_value g o
after_under g (keyword_value q at) i (scalar a v) o = with_part q i a v o
after_under g (keyword_value kind at) i (array a xs) o = record o { types = not_one; expects = no_value }
after_under g e i v o = record o { expects = no_value }

abbrev pub after_key : Bool → Key → Inside → ℕ → Text → Tree → Object → Object
after_key g q i a n v o = after_under g (with_key q a n o).expects i v (with_key q a n o)

-- the value of a keyword
abbrev pub ValueOf : Key → Settings → ℕ → Tree → List Fault → Spot → Inside → Object → List Frame → Type 0
ValueOf q s a v more p i o k =
    Runs (shape_faults q false a v ++ more) [] (feed s v (object_frame p i (record o { expects = keyword_value q a }) ∷ k))
    (by_key q (λ iri. []) (λ _. types_say o.subject o.scope i.base (type_strings v)) (λ _. []) (λ _. []) (λ _. []) (λ _. []))
    (object_frame p i (after_under false (keyword_value q a) i v (record o { expects = keyword_value q a })) ∷ k)

-- a keyword that takes a scalar of some form, where the others are at fault
id-value : (s : Settings) (a : ℕ) (v : Tree) (p : Spot) (i : Inside) (o : Object) (k : List Frame) → ValueOf id s a v [] p i o k
unfolding feed take_scalar open_array enter close
id-value s a (scalar b (Str text)) p i o k = goes refl refl refl
id-value s a (scalar b Null) p i o k = stops _ (inl (inl refl)) refl
id-value s a (scalar b (boolean x)) p i o k = stops _ (inl (inl refl)) refl
id-value s a (scalar b (Number x)) p i o k = stops _ (inl (inl refl)) refl
id-value s a (array b xs) p i o k = stops _ (inl (inl refl)) refl
id-value s a (object b ms) p i o k = stops _ (inl (inl refl)) refl

language-value : (s : Settings) (a : ℕ) (v : Tree) (p : Spot) (i : Inside) (o : Object) (k : List Frame) → ValueOf language s a v [] p i o k
unfolding feed take_scalar open_array enter close
language-value s a (scalar b (Str text)) p i o k = goes refl refl refl
language-value s a (scalar b Null) p i o k = stops _ (inl (inl refl)) refl
language-value s a (scalar b (boolean x)) p i o k = stops _ (inl (inl refl)) refl
language-value s a (scalar b (Number x)) p i o k = stops _ (inl (inl refl)) refl
language-value s a (array b xs) p i o k = stops _ (inl (inl refl)) refl
language-value s a (object b ms) p i o k = stops _ (inl (inl refl)) refl

index-value : (s : Settings) (a : ℕ) (v : Tree) (p : Spot) (i : Inside) (o : Object) (k : List Frame) → ValueOf index s a v [] p i o k
unfolding feed take_scalar open_array enter close
index-value s a (scalar b (Str text)) p i o k = goes refl refl refl
index-value s a (scalar b Null) p i o k = stops _ (inl (inl refl)) refl
index-value s a (scalar b (boolean x)) p i o k = stops _ (inl (inl refl)) refl
index-value s a (scalar b (Number x)) p i o k = stops _ (inl (inl refl)) refl
index-value s a (array b xs) p i o k = stops _ (inl (inl refl)) refl
index-value s a (object b ms) p i o k = stops _ (inl (inl refl)) refl

direction-value : (s : Settings) (a : ℕ) (v : Tree) (p : Spot) (i : Inside) (o : Object) (k : List Frame) → ValueOf direction s a v [] p i o k
unfolding feed take_scalar open_array enter close
direction-value s a (scalar b (Str text)) p i o k = runs-by _ _ [] [] _ _ _ _ _ _ (sym (append-nil _)) refl refl refl refl (only-fault-runs (shape_faults direction false a (scalar b (Str text))) _ _ _ (goes refl refl refl))
direction-value s a (scalar b Null) p i o k = stops _ (inl (inl refl)) refl
direction-value s a (scalar b (boolean x)) p i o k = stops _ (inl (inl refl)) refl
direction-value s a (scalar b (Number x)) p i o k = stops _ (inl (inl refl)) refl
direction-value s a (array b xs) p i o k = stops _ (inl (inl refl)) refl
direction-value s a (object b ms) p i o k = stops _ (inl (inl refl)) refl

value-value : (s : Settings) (a : ℕ) (v : Tree) (p : Spot) (i : Inside) (o : Object) (k : List Frame) → ValueOf value s a v [] p i o k
unfolding feed take_scalar open_array enter close
value-value s a (scalar b v) p i o k = goes refl refl refl
value-value s a (array b xs) p i o k = stops _ (inl (inl refl)) refl
value-value s a (object b ms) p i o k = stops _ (inl (inl refl)) refl

kind-value : (s : Settings) (a : ℕ) (v : Tree) (p : Spot) (i : Inside) (o : Object) (k : List Frame) → ValueOf kind s a v [] p i o k
unfolding feed take_scalar open_array enter close
kind-value s a (scalar b (Str text)) p i o k = runs-by [] [] [] [] _ _ _ _ _ _ refl refl refl (sym (append-nil _)) refl (goes refl refl refl)
kind-value s a (scalar b Null) p i o k = stops _ (inl (inl refl)) refl
kind-value s a (scalar b (boolean x)) p i o k = stops _ (inl (inl refl)) refl
kind-value s a (scalar b (Number x)) p i o k = stops _ (inl (inl refl)) refl
kind-value s a (array b xs) p i o k =
    let under = object_frame p i (record o { types = not_one; expects = keyword_value kind a }) in
    runs-by _ _ [] [] _ _ _ _ _ _ refl refl refl (append-nil _) refl
    (then-runs [] _ [] [] (quiet (types i.base o.subject o.scope a ∷ (under ∷ k))) (λ l. then_goes (feed_items s xs l) close) [] _ _ _ (runs-quiet _)
    (then-runs _ [] [] [] (feed_items s xs (types i.base o.subject o.scope a ∷ (under ∷ k))) close _ [] _ _ (types-run s i.base o.subject o.scope a xs (under ∷ k)) (goes refl refl refl)))
kind-value s a (object b ms) p i o k = stops _ (inl (inl refl)) refl

-- ---- a key and its value

abbrev pub InsideOf : Type 0
InsideOf = Key → List Fault

-- what a member has at fault by its key, before the members after it
abbrev pub own_faults : Key → Under → Object → ℕ → Bool → Tree → List Fault → List Fault
own_faults q under o a json v inner = key_faults q under (seen_by o) a ++ (shape_faults q json a v ++ inner)

-- a key that is decided, and its value
abbrev pub decided_key : Settings → Key → ℕ → Text → Tree → Spot → Inside → Object → List Frame → Step
decided_key s q a n v p i o k = then_goes (key_of_object q a n p i o k) (feed s v)

-- a keyword: its key may collide, and then its value is judged
keyword-runs : (s : Settings) (q : Key) (a : ℕ) (n : Text) (v : Tree) (p : Spot) (i : Inside) (o m : Object) (k : List Frame) (fs : List Fault) (quads : List Parts) (to : Object) →
    Runs fs [] (feed s v (object_frame p i m ∷ k)) quads (object_frame p i to ∷ k) →
    Runs (key_faults q p.under (seen_by o) a ++ fs) []
    (then_goes (unless_fault (key_faults q p.under (seen_by o) a) (λ _. quiet (object_frame p i m ∷ k))) (feed s v)) quads (object_frame p i to ∷ k)
keyword-runs s q a n v p i o m k fs quads to h =
    then-runs _ fs [] [] (unless_fault (key_faults q p.under (seen_by o) a) (λ _. quiet (object_frame p i m ∷ k))) (feed s v) [] quads (object_frame p i m ∷ k) _
    (only-fault-runs (key_faults q p.under (seen_by o) a) _ _ _ (runs-quiet _)) h

dropped-runs : (s : Settings) (v : Tree) (p : Spot) (i : Inside) (o : Object) (k : List Frame) →
    Runs [] [] (after_quads [] (feed s v (object_frame p i (record o { expects = dropped_value }) ∷ k))) [] (object_frame p i (record o { expects = no_value }) ∷ k)
dropped-runs s v p i o k = goes refl refl (ap (after_quads []) (dropped-value s v p i o k))

-- what is asked of a property's value, and of the value of `@value`
abbrev pub PropertyRuns : Settings → Key → Option TermDef → ℕ → Text → Tree → Spot → Inside → Object → List Frame → List Fault → List ℕ → List Parts → Bool → Type 0
PropertyRuns s (property iri) t a n v p i o k fs ps quads g =
    is_built_key (property iri) t ≡ true →
    Runs fs ps (feed s v (object_frame p i (with_key (property iri) a n o) ∷ k)) quads (object_frame p i (after_value g (with_key (property iri) a n o)) ∷ k)
PropertyRuns s q t a n v p i o k fs ps quads g = Unit {0}

-- a key of a form that is built
pub key-runs : (s : Settings) (q : Key) (t : Option TermDef) (a : ℕ) (n : Text) (v : Tree) (p : Spot) (i : Inside) (o : Object) (k : List Frame)
    (json ignored : Bool) (numbers : Unit {0} → List Fault) (under : Under → List Fault) (fi : Unit {0} → List Fault) (fp : Unit {0} → List Fault) (fn fr fl ft : Unit {0} → List Fault)
    (ps : Unit {0} → List ℕ) (qp : Text → List Parts) (qh qi qn qr : Unit {0} → List Parts) (g : Bool) → is_built_key q t ≡ true →
    (is_value q ≡ true → (json ≡ false) × (numbers tt ≡ [])) →
    ((iri : Text) → q ≡ property iri → PropertyRuns s q t a n v p i o k (fp tt) (ps tt) (qp iri) g) →
    Runs (own_faults q p.under o a json v (inside_by q ignored numbers under fi fp fn fr fl ft)) (values_of q ps) (decided_key s q a n v p i o k)
    (by_key q qp (λ _. types_say o.subject o.scope i.base (type_strings v)) qh qi qn qr) (object_frame p i (after_key g q i a n v o) ∷ k)
key-runs s (property iri) t a n v p i o k json ignored numbers under fi fp fn fr fl ft ps qp qh qi qn qr g b j h =
    then-runs [] _ [] _ (quiet (object_frame p i (with_key (property iri) a n o) ∷ k)) (feed s v) [] _ _ _ (runs-quiet _) (h iri refl b)
key-runs s id t a n v p i o k json ignored numbers under fi fp fn fr fl ft ps qp qh qi qn qr g b j h = keyword-runs s id a n v p i o _ k _ _ _ (id-value s a v p i (with_key id a n o) k)
key-runs s kind t a n v p i o k json ignored numbers under fi fp fn fr fl ft ps qp qh qi qn qr g b j h = keyword-runs s kind a n v p i o _ k _ _ _ (kind-value s a v p i (with_key kind a n o) k)
key-runs s language t a n v p i o k json ignored numbers under fi fp fn fr fl ft ps qp qh qi qn qr g b j h = keyword-runs s language a n v p i o _ k _ _ _ (language-value s a v p i (with_key language a n o) k)
key-runs s direction t a n v p i o k json ignored numbers under fi fp fn fr fl ft ps qp qh qi qn qr g b j h = keyword-runs s direction a n v p i o _ k _ _ _ (direction-value s a v p i (with_key direction a n o) k)
key-runs s index t a n v p i o k json ignored numbers under fi fp fn fr fl ft ps qp qh qi qn qr g b j h = keyword-runs s index a n v p i o _ k _ _ _ (index-value s a v p i (with_key index a n o) k)
key-runs s value t a n v p i o k json ignored numbers under fi fp fn fr fl ft ps qp qh qi qn qr g b j h =
    let m = with_key value a n o in
    runs-by _ _ [] [] _ _ _ _ _ _
    (ap (λ x. key_faults value p.under (seen_by o) a ++ (shape_faults value x a v ++ [])) (sym (j refl).0) ∙ ap (λ x. key_faults value p.under (seen_by o) a ++ (shape_faults value json a v ++ x)) (sym (j refl).1))
    refl refl refl refl (keyword-runs s value a n v p i o m k _ _ _ (value-value s a v p i m k))
key-runs s other t a n v p i o k json ignored numbers under fi fp fn fr fl ft ps qp qh qi qn qr g b j h = dropped-runs s v p i o k
key-runs s dropped_key t a n v p i o k json ignored numbers under fi fp fn fr fl ft ps qp qh qi qn qr g b j h = dropped-runs s v p i o k
key-runs s q t a n v p i o k json ignored numbers under fi fp fn fr fl ft ps qp qh qi qn qr g b j h = absurd cc
