-- Scalars and arrays at their spots, for every frame in which a value may stand.
use Rattle.std.proofs.Common.{ℕ, ◌≡◌, refl, sym, ◌∙◌, ap, true, false, List, [], ◌∷◌, ◌++◌, Option, Some, None}
use Rattle.std.proofs.lemmas.List.{append-nil}
use Rattle.jl_model.specs.JsonTree.{Tree, scalar, array, object, Trees, no_item, item}
use Rattle.jl_model.specs.declared.scalars.Scalar.{Scalar}
use Rattle.jl_defs.specs.Settings.{Settings, inside_of, term_under, lists}
use Rattle.jl_defs.specs.Faults.{scalar_faults, value_faults, items_faults}
use Rattle.jl_defs.specs.Kept.{keeps}
use Rattle.jl_defs.specs.ObjectContexts.{Inside}
use Rattle.jl_laws.specs.Spots.{Around, document, ordinary, graphs, map_entry, graph_map_entry, Spot, spot, stand_of, inside, inside_list, moved, then_says}
use Rattle.jl_laws.specs.Says.{walk, walk_all, inner_says}
use Rattle.jl_walk.specs.Frames.{Expected, no_value, property_value, keyword_value, dropped_value, Object, Frame, values, object as object_frame, types, dropped, spot_under, spot_in, told}
use Rattle.jl_walk.specs.Steps.{quiet, then_goes}
use Rattle.jl_walk.specs.Scalars.{hang_scalar, scalar_under, take_scalar}
use Rattle.jl_walk.specs.Opening.{items_of, array_under, open_array}
use Rattle.jl_walk.specs.Ending.{close}
use Rattle.jl_walk.specs.Feeding.{feed, feed_items}
use Rattle.jl_walk.specs.Stage.{forms, items_forms}
use Rattle.jl_walk.specs.Laws.{Runs, goes, IsPlain, IsPlainAround, ValueRuns}
use Rattle.jl_walk.proofs.Runs.{then-runs, runs-by, runs-quiet, only-fault-runs}

pub the-some : {A : Type 0} (x y : A) → Some x ≡ Some y → x ≡ y
the-some x y e = ap (λ o. of o x) e
  where
    of : {A : Type 0} → Option A → A → A
    of None x = x
    of (Some y) x = y

-- ---- scalars

scalar-by : (s : Settings) (at : ℕ) (v : Scalar) (e : Expected) (p : Spot) (i : Inside) (o : Object) (k : List Frame) (q : Spot) →
    spot_under i o e ≡ Some q → scalar_under s at v e p i o k ≡ hang_scalar s q at v (object_frame p i o) k
scalar-by s at v (property_value name iri) p i o k q e = ap (λ x. hang_scalar s x at v (object_frame p i o) k) (the-some _ q e)
scalar-by s at v no_value p i o k q e = absurd cc
scalar-by s at v (keyword_value x y) p i o k q e = absurd cc
scalar-by s at v dropped_value p i o k q e = absurd cc

pub scalar-at-spot : (s : Settings) (at : ℕ) (v : Scalar) (f : Frame) (k : List Frame) (q : Spot) → spot_in f ≡ Some q →
    take_scalar s at v (f ∷ k) ≡ hang_scalar s q at v f k
unfolding take_scalar
scalar-at-spot s at v (values p) k q e = ap (λ x. hang_scalar s x at v (values p) k) (the-some p q e)
scalar-at-spot s at v (object_frame p i o) k q e = scalar-by s at v o.expects p i o k q e
scalar-at-spot s at v (types b n g a) k q e = absurd cc
scalar-at-spot s at v dropped k q e = absurd cc

pub scalar-runs : (s : Settings) (at : ℕ) (v : Scalar) → ValueRuns s (scalar at v)
unfolding walk feed value_faults forms keeps
scalar-runs s at v f k p e plain =
    runs-by _ _ [] [] _ _ _ _ _ _ refl refl (scalar-at-spot s at v f k p e) refl refl
    (only-fault-runs (scalar_faults s p.context p.under at v) _ _ _ (goes refl refl refl))

-- ---- arrays

array-by : (at : ℕ) (e : Expected) (p : Spot) (i : Inside) (o : Object) (k : List Frame) (q : Spot) → spot_under i o e ≡ Some q →
    array_under at e p i o k ≡ quiet (items_of q ∷ (object_frame p i o ∷ k))
array-by at (property_value name iri) p i o k q e = ap (λ x. quiet (items_of x ∷ (object_frame p i o ∷ k))) (the-some _ q e)
array-by at no_value p i o k q e = absurd cc
array-by at (keyword_value x y) p i o k q e = absurd cc
array-by at dropped_value p i o k q e = absurd cc

pub array-at-spot : (at : ℕ) (f : Frame) (k : List Frame) (q : Spot) → spot_in f ≡ Some q → open_array at (f ∷ k) ≡ quiet (items_of q ∷ (f ∷ k))
unfolding open_array
array-at-spot at (values p) k q e = ap (λ x. quiet (items_of x ∷ (values p ∷ k))) (the-some p q e)
array-at-spot at (object_frame p i o) k q e = array-by at o.expects p i o k q e
array-at-spot at (types b n g a) k q e = absurd cc
array-at-spot at dropped k q e = absurd cc

-- the items of an array that is open
abbrev pub ItemsRun : Settings → Trees → Type 0
ItemsRun s xs =
    (p : Spot) (k : List Frame) → IsPlain p → inside p.role.around ≡ p.role.around →
    Runs (items_faults s p.context p.under (stand_of p.role.around) xs) (items_forms s p.context p.under (stand_of p.role.around) xs)
    (feed_items s xs (values p ∷ k)) (walk_all s p xs).0 (values (moved p p.role.around (walk_all s p xs).1) ∷ k)

pub items-none : (s : Settings) → ItemsRun s no_item
unfolding walk feed value_faults forms
items-none s p k plain here = runs-quiet (values p ∷ k)

array-item : (s : Settings) (p : Spot) (at : ℕ) (xs rest : Trees) → lists (term_under p.context p.under) ≡ false → inside p.role.around ≡ p.role.around →
    walk_all s p (item (array at xs) rest) ≡ then_says (walk s p (array at xs)) (λ h. walk_all s (moved p p.role.around h) rest)
unfolding walk
array-item s p at xs rest l here =
    ap (λ b. then_says (inner_says b p at (λ hanging h. walk_all s (spot p.context p.under (inside_list p.role.around) hanging h) xs) (λ _. walk_all s p xs)) (λ h. walk_all s (moved p p.role.around h) rest)) l
    ∙ ap (λ a. then_says (walk_all s (moved p a p.head) xs) (λ h. walk_all s (moved p p.role.around h) rest)) (sym here)

an-item : (s : Settings) (p : Spot) (x : Tree) (rest : Trees) → lists (term_under p.context p.under) ≡ false → inside p.role.around ≡ p.role.around →
    walk_all s p (item x rest) ≡ then_says (walk s p x) (λ h. walk_all s (moved p p.role.around h) rest)
unfolding walk
an-item s p (scalar at v) rest l here = refl
an-item s p (array at xs) rest l here = array-item s p at xs rest l here
an-item s p (object at ms) rest l here = refl

pub items-step : (s : Settings) (x : Tree) (rest : Trees) → ValueRuns s x → ItemsRun s rest → ItemsRun s (item x rest)
unfolding feed value_faults forms
items-step s x rest vr ir p k plain here =
    let n = moved p p.role.around (walk s p x).1 in
    runs-by _ _ _ _ _ _ _ _ _ _ refl refl refl (sym (ap (λ z. z.0) (an-item s p x rest plain.0 here)))
    (sym (ap (λ z. values (moved p p.role.around z.1) ∷ k) (an-item s p x rest plain.0 here)))
    (then-runs _ _ _ _ _ (feed_items s rest) _ _ (values n ∷ k) _ (vr (values p) k p refl plain) (ir n k plain here))

pub inside-plain : (a : Around) → IsPlainAround a → IsPlainAround (inside a)
inside-plain document h = tt
inside-plain ordinary h = tt
inside-plain graphs h = tt
inside-plain (map_entry adds) h = absurd h
inside-plain (graph_map_entry adds) h = absurd h

pub inside-twice : (a : Around) → inside (inside a) ≡ inside a
inside-twice document = refl
inside-twice ordinary = refl
inside-twice graphs = refl
inside-twice (map_entry adds) = refl
inside-twice (graph_map_entry adds) = refl

inside-stands : (a : Around) → stand_of (inside a) ≡ inside_of (stand_of a)
inside-stands document = refl
inside-stands ordinary = refl
inside-stands graphs = refl
inside-stands (map_entry adds) = refl
inside-stands (graph_map_entry adds) = refl

pub array-runs : (s : Settings) (at : ℕ) (xs : Trees) → ItemsRun s xs → ValueRuns s (array at xs)
unfolding walk feed value_faults forms keeps close
array-runs s at xs ir f k p e plain =
    let q = moved p (inside p.role.around) p.head in
    let last = values (moved q q.role.around (walk_all s q xs).1) in
    let inner = ir q (f ∷ k) (plain.0, inside-plain p.role.around plain.1) (inside-twice p.role.around) in
    let ended : Runs _ _ (then_goes (feed_items s xs (items_of p ∷ (f ∷ k))) close) ((walk_all s q xs).0 ++ []) (told true (walk_all s q xs).1 f ∷ k) =
    then-runs _ [] _ [] _ close _ [] (last ∷ (f ∷ k)) _ inner (goes refl refl refl) in
    runs-by _ _ _ _ _ _ _ _ _ _
    (append-nil _ ∙ ap (λ z. items_faults s p.context p.under z xs) (inside-stands p.role.around))
    (append-nil _ ∙ ap (λ z. items_forms s p.context p.under z xs) (inside-stands p.role.around))
    (ap (λ x. then_goes x (λ l. then_goes (feed_items s xs l) close)) (array-at-spot at f k p e))
    (append-nil _) refl
    (then-runs [] _ [] _ (quiet (items_of p ∷ (f ∷ k))) (λ l. then_goes (feed_items s xs l) close) [] _ _ _ (runs-quiet _) ended)
