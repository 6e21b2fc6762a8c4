-- How containers stand in one another as events come: each is an array, or an object between members or after a key. The frames
-- of the machine keep this shape.
use Rattle.std.proofs.Common.{ℕ, ◌≡◌, refl, sym, subst, Bool, true, false, not, ◌&&◌, List, [], ◌∷◌, Result, Ok, Err}
use Rattle.jl_model.specs.JsonTree.{Tree, scalar, array, object, Trees, no_item, item, Members, no_member, member}
use Rattle.jl_model.specs.Parts.{Parts}
use Rattle.jl_model.specs.declared.faults.Fault.{Fault}
use Rattle.jl_model.specs.declared.scalars.Scalar.{Scalar}
use Rattle.jl_model.specs.declared.scalars.Scalar.TheVariants.{Str}
use Rattle.jl_defs.specs.Texts.{Text}
use Rattle.jl_defs.specs.Context.{term}
use Rattle.jl_defs.specs.Settings.{Settings}
use Rattle.jl_defs.specs.Keys.{Key, id, kind, value, language, direction, index, property, key_of}
use Rattle.jl_defs.specs.ObjectContexts.{Inside}
use Rattle.jl_defs.specs.ValueObjects.{not_one}
use Rattle.jl_defs.specs.Kept.{scalar_gives}
use Rattle.jl_defs.specs.MemberFaults.{shape_faults, key_faults}
use Rattle.jl_defs.specs.Faults.{scalar_faults}
use Rattle.jl_defs.specs.Dataset.{Head}
use Rattle.jl_laws.specs.Spots.{Spot, moved}
use Rattle.jl_laws.specs.Says.{scalar_at}
use Rattle.jl_walk.specs.Phases.{follow, phase_faults}
use Rattle.jl_walk.specs.Stage.{is_built_key}
use Rattle.jl_walk.specs.Frames.{Expected, no_value, property_value, keyword_value, dropped_value, Object, Frame, values, object as object_frame, types, dropped, property_spot, after_value, told}
use Rattle.jl_walk.specs.Steps.{Step, quiet, after_quads, then_goes, unless_fault, if_built}
use Rattle.jl_walk.specs.Scalars.{hang_scalar, with_part, types_of, scalar_under, take_scalar}
use Rattle.jl_walk.specs.Opening.{array_under, open_array, Entering, fresh, enter_at, object_under, enter}
use Rattle.jl_walk.specs.Keys.{with_key, with_phase, seen_by, take_key}
use Rattle.jl_walk.specs.Ending.{closing_of, is_kept, said_at_end, close_object, rest_in, close_values, close}
use Rattle.jl_walk.specs.Feeding.{decided, feed, feed_items, feed_members}

-- ---- shapes

-- where something stands in an open container
pub data Place : Type 0 where
  in_array : Place
  between : Place
  after_key : Place

-- a value has ended
abbrev pub ended : List Place → List Place
ended [] = []
ended (in_array ∷ w) = in_array ∷ w
ended (x ∷ w) = between ∷ w

-- a value may begin
abbrev pub TakesValue : List Place → Type 0
TakesValue (between ∷ w) = ⊥
TakesValue w = Unit {0}

-- ---- the shape of frames

-- an object by what it expects
abbrev pub ExpectsAt : Expected → Place → Type 0
ExpectsAt e in_array = ⊥
ExpectsAt no_value between = Unit {0}
ExpectsAt e between = ⊥
ExpectsAt no_value after_key = ⊥
ExpectsAt e after_key = Unit {0}

-- what is dropped may be any container
abbrev pub StandsAt : Frame → Place → Type 0
StandsAt (object_frame p i o) x = ExpectsAt o.expects x
StandsAt dropped x = Unit {0}
StandsAt (values p) in_array = Unit {0}
StandsAt (values p) x = ⊥
StandsAt (types b n g at) in_array = Unit {0}
StandsAt (types b n g at) x = ⊥

-- the frame of the document is in no container
abbrev pub IsRoot : Frame → List Frame → Type 0
IsRoot (values p) [] = Unit {0}
IsRoot f k = ⊥

abbrev pub Stand : List Frame → List Place → Type 0
Stand [] w = ⊥
Stand (f ∷ k) [] = IsRoot f k
Stand (f ∷ k) (x ∷ w) = StandsAt f x × Stand k w

-- where a move goes, its frames have this shape
abbrev pub Shapes : List Place → Step → Type 0
Shapes w (Ok (q, k)) = Stand k w
Shapes w (Err f) = Unit {0}

pub shapes-after : (w : List Place) (q : List Parts) (r : Step) → Shapes w r → Shapes w (after_quads q r)
shapes-after w q (Ok (more, k)) h = h
shapes-after w q (Err f) h = tt

pub shapes-then : (w v : List Place) (r : Step) (next : List Frame → Step) → Shapes w r → ((k : List Frame) → Stand k w → Shapes v (next k)) → Shapes v (then_goes r next)
shapes-then w v (Ok (q, k)) next h g = shapes-after v q (next k) (g k h)
shapes-then w v (Err f) next h g = tt

shapes-unless : (w : List Place) (fs : List Fault) (q : List Parts) (k : List Frame) → Stand k w → Shapes w (unless_fault fs (λ _. Ok (q, k)))
shapes-unless w [] q k h = h
shapes-unless w (f ∷ fs) q k h = tt

-- ---- a value ends

-- an object that expects nothing is between members
expects-none : (e : Expected) (x : Place) (w : List Place) (p : Spot) (i : Inside) (o : Object) (k : List Frame) → ExpectsAt e x → o.expects ≡ no_value → Stand k w →
    Stand (object_frame p i o ∷ k) (ended (x ∷ w))
expects-none e in_array w p i o k h n s = absurd h
expects-none e between w p i o k h n s = (subst (λ y. ExpectsAt y between) (sym n) tt, s)
expects-none e after_key w p i o k h n s = (subst (λ y. ExpectsAt y between) (sym n) tt, s)

object-ends : (w : List Place) (p : Spot) (i : Inside) (o last : Object) (k : List Frame) → Stand (object_frame p i o ∷ k) w → last.expects ≡ no_value → Stand (object_frame p i last ∷ k) (ended w)
object-ends [] p i o last k h n = absurd h
object-ends (x ∷ w) p i o last k h n = expects-none o.expects x w p i last k h.0 n h.1

dropped-ends : (w : List Place) (k : List Frame) → Stand (dropped ∷ k) w → Stand (dropped ∷ k) (ended w)
dropped-ends [] k h = absurd h
dropped-ends (in_array ∷ w) k h = h
dropped-ends (between ∷ w) k h = h
dropped-ends (after_key ∷ w) k h = h

values-end : (w : List Place) (p q : Spot) (k : List Frame) → Stand (values p ∷ k) w → Stand (values q ∷ k) (ended w)
values-end [] p q [] h = tt
values-end [] p q (f ∷ k) h = absurd h
values-end (in_array ∷ w) p q k h = h
values-end (between ∷ w) p q k h = absurd h.0
values-end (after_key ∷ w) p q k h = absurd h.0

told-ends : (w : List Place) (kept : Bool) (h : Head) (f : Frame) (k : List Frame) → Stand (f ∷ k) w → Stand (told kept h f ∷ k) (ended w)
told-ends w kept h (values p) k s = values-end w p (moved p p.role.around h) k s
told-ends w kept h (object_frame p i o) k s = object-ends w p i o (after_value kept o) k s refl
told-ends w kept h dropped k s = dropped-ends w k s
told-ends [] kept h (types b n g at) k s = absurd s
told-ends (in_array ∷ w) kept h (types b n g at) k s = s
told-ends (between ∷ w) kept h (types b n g at) k s = absurd s.0
told-ends (after_key ∷ w) kept h (types b n g at) k s = absurd s.0

rest-ends : (w : List Place) (k : List Frame) → Stand k w → Stand (rest_in k) (ended w)
rest-ends w [] s = absurd s
rest-ends w (values p ∷ k) s = values-end w p p k s
rest-ends w (object_frame p i o ∷ k) s = object-ends w p i o (record o { expects = no_value }) k s refl
rest-ends w (dropped ∷ k) s = dropped-ends w k s
rest-ends [] (types b n g at ∷ k) s = absurd s
rest-ends (in_array ∷ w) (types b n g at ∷ k) s = s
rest-ends (between ∷ w) (types b n g at ∷ k) s = absurd s.0
rest-ends (after_key ∷ w) (types b n g at ∷ k) s = absurd s.0

-- ---- the moves

hang-shapes : (s : Settings) (w : List Place) (q : Spot) (at : ℕ) (v : Scalar) (f : Frame) (k : List Frame) → Stand (f ∷ k) w → Shapes (ended w) (hang_scalar s q at v f k)
hang-shapes s w q at v f k h =
    let x = scalar_at s q q.under at v in
    let kept = scalar_gives q.under v in
    shapes-unless (ended w) (scalar_faults s q.context q.under at v) x.0 (told kept x.1 f ∷ k) (told-ends w kept x.1 f k h)

part-ends : (q : Key) (i : Inside) (at : ℕ) (v : Scalar) (o : Object) → (with_part q i at v o).expects ≡ no_value
part-ends kind i at v o = refl
part-ends value i at v o = refl
part-ends language i at (Str text) o = refl
part-ends language i at v o = refl
part-ends q i at v o = refl

scalar-under : (s : Settings) (w : List Place) (at : ℕ) (v : Scalar) (e : Expected) (p : Spot) (i : Inside) (o : Object) (k : List Frame) → Stand (object_frame p i o ∷ k) w →
    Shapes (ended w) (scalar_under s at v e p i o k)
scalar-under s w at v (property_value name iri) p i o k h = hang-shapes s w (property_spot i o name iri) at v (object_frame p i o) k h
scalar-under s w at v (keyword_value q a) p i o k h = shapes-unless (ended w) (shape_faults q false a (scalar at v)) (types_of q i v o) (object_frame p i (with_part q i at v o) ∷ k) (object-ends w p i o (with_part q i at v o) k h (part-ends q i at v o))
scalar-under s w at v no_value p i o k h = object-ends w p i o (record o { expects = no_value }) k h refl
scalar-under s w at v dropped_value p i o k h = object-ends w p i o (record o { expects = no_value }) k h refl

pub scalar-shapes : (s : Settings) (w : List Place) (at : ℕ) (v : Scalar) (k : List Frame) → Stand k w → Shapes (ended w) (take_scalar s at v k)
unfolding take_scalar
scalar-shapes s w at v [] h = absurd h
scalar-shapes s w at v (values p ∷ k) h = hang-shapes s w p at v (values p) k h
scalar-shapes s w at v (object_frame p i o ∷ k) h = scalar-under s w at v o.expects p i o k h
scalar-shapes s w at (Str text) (types b n g place ∷ k) h = rest-ends w (types b n g place ∷ k) h
scalar-shapes s w at v (types b n g place ∷ k) h = tt
scalar-shapes s w at v (dropped ∷ k) h = dropped-ends w k h

same-place : (w : List Place) (p q : Spot) (i j : Inside) (o m : Object) (k : List Frame) → m.expects ≡ o.expects → Stand (object_frame p i o ∷ k) w → Stand (object_frame q j m ∷ k) w
same-place [] p q i j o m k e h = absurd h
same-place (x ∷ w) p q i j o m k e h = (subst (λ y. ExpectsAt y x) (sym e) h.0, h.1)

array-under : (w : List Place) (at : ℕ) (e : Expected) (p : Spot) (i : Inside) (o : Object) (k : List Frame) → Stand (object_frame p i o ∷ k) w → Shapes (in_array ∷ w) (array_under at e p i o k)
array-under w at (property_value name iri) p i o k h = (tt, h)
array-under w at (keyword_value kind a) p i o k h = (tt, same-place w p p i i o (record o { types = not_one }) k refl h)
array-under w at (keyword_value q a) p i o k h = shapes-unless (in_array ∷ w) (shape_faults q false a (array at no_item)) [] (dropped ∷ (object_frame p i o ∷ k)) (tt, h)
array-under w at no_value p i o k h = (tt, h)
array-under w at dropped_value p i o k h = (tt, h)

pub array-shapes : (w : List Place) (at : ℕ) (k : List Frame) → Stand k w → Shapes (in_array ∷ w) (open_array at k)
unfolding open_array
array-shapes w at [] h = absurd h
array-shapes w at (values p ∷ k) h = (tt, h)
array-shapes w at (object_frame p i o ∷ k) h = array-under w at o.expects p i o k h
array-shapes w at (types b n g place ∷ k) h = tt
array-shapes w at (dropped ∷ k) h = (tt, h)

pub enter-at-shapes : (w : List Place) (p : Spot) (at : ℕ) (r : Result Entering Fault) (k : List Frame) → Stand k w → Shapes (between ∷ w) (enter_at p at r k)
enter-at-shapes w p at (Ok e) k h = by (not (e.valued && e.json))
  where
    by : (x : Bool) → Shapes (between ∷ w) (if_built x at (λ _. quiet (object_frame p e.inside (fresh p at e) ∷ k)))
    by true = (tt, h)
    by false = tt
enter-at-shapes w p at (Err f) k h = tt

object-under : (w : List Place) (at : ℕ) (e : Expected) (d : Spot → Result Entering Fault) (p : Spot) (i : Inside) (o : Object) (k : List Frame) → Stand (object_frame p i o ∷ k) w →
    Shapes (between ∷ w) (object_under at e d p i o k)
object-under w at (property_value name iri) d p i o k h = enter-at-shapes w (property_spot i o name iri) at (d (property_spot i o name iri)) (object_frame p i o ∷ k) h
object-under w at (keyword_value q a) d p i o k h = shapes-unless (between ∷ w) (shape_faults q false a (object at no_member)) [] (dropped ∷ (object_frame p i o ∷ k)) (tt, h)
object-under w at no_value d p i o k h = (tt, h)
object-under w at dropped_value d p i o k h = (tt, h)

pub enter-shapes : (w : List Place) (at : ℕ) (d : Spot → Result Entering Fault) (k : List Frame) → Stand k w → Shapes (between ∷ w) (enter at d k)
unfolding enter
enter-shapes w at d [] h = absurd h
enter-shapes w at d (values p ∷ k) h = enter-at-shapes w p at (d p) (values p ∷ k) h
enter-shapes w at d (object_frame p i o ∷ k) h = object-under w at o.expects d p i o k h
enter-shapes w at d (types b n g place ∷ k) h = tt
enter-shapes w at d (dropped ∷ k) h = (tt, h)

key-expects : (q : Key) (a : ℕ) (n : Text) (o : Object) → ExpectsAt (with_key q a n o).expects after_key
key-expects (property iri) a n o = tt
key-expects id a n o = tt
key-expects kind a n o = tt
key-expects value a n o = tt
key-expects language a n o = tt
key-expects direction a n o = tt
key-expects index a n o = tt
key-expects q a n o = tt

pub key-shapes : (w : List Place) (a : ℕ) (n : Text) (k : List Frame) → Stand k (between ∷ w) → Shapes (after_key ∷ w) (take_key a n k)
unfolding take_key
key-shapes w a n [] h = absurd h
key-shapes w a n (values p ∷ k) h = absurd h.0
key-shapes w a n (object_frame p i o ∷ k) h = by (is_built_key q (term i.final n)) (phase_faults o.phase i n a)
  where
    q : Key
    q = key_of i.final n

    m : Object
    m = with_phase (follow o.phase i n) o

    next : List Frame
    next = object_frame p i (with_key q a n m) ∷ k

    by : (x : Bool) (fs : List Fault) → Shapes (after_key ∷ w) (if_built x a (λ _. unless_fault fs (λ _. unless_fault (key_faults q p.under (seen_by m) a) (λ _. quiet next))))
    by false fs = tt
    by true (f ∷ fs) = tt
    by true [] = shapes-unless (after_key ∷ w) (key_faults q p.under (seen_by m) a) [] next (key-expects q a n m, h.1)
key-shapes w a n (types b m g place ∷ k) h = absurd h.0
key-shapes w a n (dropped ∷ k) h = (tt, h.1)

values-shape : (w : List Place) (p : Spot) (k : List Frame) → Stand k w → Shapes (ended w) (close_values p k)
values-shape w p [] h = absurd h
values-shape w p (f ∷ k) h = told-ends w true p.head f k h

object-shape : (w : List Place) (p : Spot) (i : Inside) (o : Object) (k : List Frame) → Stand k w → Shapes (ended w) (close_object p i o k)
object-shape w p i o [] h = absurd h
object-shape w p i o (f ∷ k) h =
    let x = said_at_end p o in
    shapes-unless (ended w) (closing_of p.under i o) x.0 (told (is_kept p.under o) x.1 f ∷ k) (told-ends w (is_kept p.under o) x.1 f k h)

pub close-shapes : (x : Place) (w : List Place) (k : List Frame) → Stand k (x ∷ w) → Shapes (ended w) (close k)
unfolding close
close-shapes x w [] h = absurd h
close-shapes x w (values p ∷ k) h = values-shape w p k h.1
close-shapes x w (object_frame p i o ∷ k) h = object-shape w p i o k h.1
close-shapes x w (types b n g place ∷ k) h = rest-ends w k h.1
close-shapes x w (dropped ∷ k) h = rest-ends w k h.1

-- ---- whole trees

mutual
  unfolding feed

  tree-shapes : (s : Settings) (t : Tree) (w : List Place) (k : List Frame) → Stand k w → Shapes (ended w) (feed s t k)
  tree-shapes s (scalar b v) w k h = scalar-shapes s w b v k h
  tree-shapes s (array b xs) w k h =
      shapes-then (in_array ∷ w) (ended w) (open_array b k) (λ l. then_goes (feed_items s xs l) close) (array-shapes w b k h)
      (λ l g. shapes-then (in_array ∷ w) (ended w) (feed_items s xs l) close (items-shape s xs w l g) (λ m e. close-shapes in_array w m e))
  tree-shapes s (object b ms) w k h =
      shapes-then (between ∷ w) (ended w) (enter b (decided s b ms) k) (λ l. then_goes (feed_members s ms l) close) (enter-shapes w b (decided s b ms) k h)
      (λ l g. shapes-then (between ∷ w) (ended w) (feed_members s ms l) close (members-shape s ms w l g) (λ m e. close-shapes between w m e))

  items-shape : (s : Settings) (xs : Trees) (w : List Place) (k : List Frame) → Stand k (in_array ∷ w) → Shapes (in_array ∷ w) (feed_items s xs k)
  items-shape s no_item w k h = h
  items-shape s (item x rest) w k h = shapes-then (in_array ∷ w) (in_array ∷ w) (feed s x k) (feed_items s rest) (tree-shapes s x (in_array ∷ w) k h) (λ l g. items-shape s rest w l g)

  pub members-shape : (s : Settings) (ms : Members) (w : List Place) (k : List Frame) → Stand k (between ∷ w) → Shapes (between ∷ w) (feed_members s ms k)
  members-shape s no_member w k h = h
  members-shape s (member a n v rest) w k h =
      shapes-then (after_key ∷ w) (between ∷ w) (take_key a n k) (λ l. then_goes (feed s v l) (feed_members s rest)) (key-shapes w a n k h)
      (λ l g. shapes-then (between ∷ w) (between ∷ w) (feed s v l) (feed_members s rest) (tree-shapes s v (after_key ∷ w) l g) (λ m e. members-shape s rest w m e))
