-- What is dropped says nothing, and the array of an object's types says them.
use Rattle.std.proofs.Common.{ℕ, ◌≡◌, inl, refl, ◌∙◌, ap, List, [], ◌∷◌, ◌++◌, Option}
use Rattle.jl_model.specs.JsonTree.{Tree, scalar, array, object, Trees, no_item, item, Members, no_member, member}
use Rattle.jl_model.specs.Parts.{Parts}
use Rattle.jl_model.specs.declared.scalars.Scalar.TheVariants.{Null, Str, Number, Bool as boolean}
use Rattle.jl_model.specs.declared.codes.Code.TheVariants as code
use Rattle.jl_model.specs.declared.terms.Term.{Term}
use Rattle.jl_model.specs.declared.graph_scopes.GraphScope.{GraphScope}
use Rattle.jl_defs.specs.Context.{Context}
use Rattle.jl_defs.specs.Settings.{Settings}
use Rattle.jl_defs.specs.LateKeys.{if_so}
use Rattle.std.specs.Prelude.{not}
use Rattle.jl_model.specs.declared.faults.Fault.{Fault}
use Rattle.jl_defs.specs.Trees.{strings_of}
use Rattle.jl_defs.specs.ObjectContexts.{fault, Inside}
use Rattle.jl_defs.specs.MemberFaults.{all_strings}
use Rattle.jl_laws.specs.Spots.{Spot}
use Rattle.jl_laws.specs.Says.{types_say}
use Rattle.jl_walk.specs.Frames.{Expected, no_value, dropped_value, Object, Frame, object as object_frame, types, dropped}
use Rattle.jl_walk.specs.Steps.{Step, quiet, after_quads, then_goes}
use Rattle.jl_walk.specs.Scalars.{take_scalar}
use Rattle.jl_walk.specs.Opening.{open_array, enter}
use Rattle.jl_walk.specs.Keys.{take_key}
use Rattle.jl_walk.specs.Ending.{close}
use Rattle.jl_walk.specs.Feeding.{feed, feed_items, feed_members}
use Rattle.jl_walk.specs.Laws.{Runs, goes, stops}

mutual
  unfolding feed take_scalar open_array enter take_key close

  pub dropped-inside : (s : Settings) (v : Tree) (k : List Frame) → feed s v (dropped ∷ k) ≡ quiet (dropped ∷ k)
  dropped-inside s (scalar at v) k = refl
  dropped-inside s (array at xs) k = ap (λ x. after_quads [] (then_goes x close)) (dropped-items s xs (dropped ∷ k))
  dropped-inside s (object at ms) k = ap (λ x. after_quads [] (then_goes x close)) (dropped-members s ms (dropped ∷ k))

  pub dropped-items : (s : Settings) (xs : Trees) (k : List Frame) → feed_items s xs (dropped ∷ k) ≡ quiet (dropped ∷ k)
  dropped-items s no_item k = refl
  dropped-items s (item x rest) k = ap (λ y. then_goes y (feed_items s rest)) (dropped-inside s x k) ∙ ap (after_quads []) (dropped-items s rest k)

  pub dropped-members : (s : Settings) (ms : Members) (k : List Frame) → feed_members s ms (dropped ∷ k) ≡ quiet (dropped ∷ k)
  dropped-members s no_member k = refl
  dropped-members s (member a n v rest) k =
      ap (λ y. after_quads [] (then_goes y (feed_members s rest))) (dropped-inside s v k) ∙ ap (λ y. after_quads [] (after_quads [] y)) (dropped-members s rest k)

abbrev pub awaiting : Object → Expected → Object
awaiting o e = record o { expects = e }

-- the value of a key that is dropped
pub dropped-value : (s : Settings) (v : Tree) (p : Spot) (i : Inside) (o : Object) (k : List Frame) →
    feed s v (object_frame p i (awaiting o dropped_value) ∷ k) ≡ quiet (object_frame p i (awaiting o no_value) ∷ k)
unfolding feed take_scalar open_array enter close
dropped-value s (scalar at v) p i o k = refl
dropped-value s (array at xs) p i o k = ap (λ x. after_quads [] (then_goes x close)) (dropped-items s xs (object_frame p i (awaiting o dropped_value) ∷ k))
dropped-value s (object at ms) p i o k = ap (λ x. after_quads [] (then_goes x close)) (dropped-members s ms (object_frame p i (awaiting o dropped_value) ∷ k))

-- the items of an array of types
abbrev pub TypesRun : Settings → Context → Option Term → GraphScope → ℕ → Trees → List Frame → Type 0
TypesRun s b n g at xs k =
    Runs (if_so (not (all_strings xs)) (fault code.InvalidTypeValue at ∷ [])) []
    (feed_items s xs (types b n g at ∷ k)) (types_say n g b (strings_of xs)) (types b n g at ∷ k)

next-type : (fs : List Fault) (r : Step) (now more : List Parts) (k : List Frame) → Runs fs [] r more k → Runs fs [] (after_quads now r) (now ++ more) k
next-type fs r now more k (goes a b e) = goes a b (ap (after_quads now) e)
next-type fs r now more k (stops f b e) = stops f b (ap (after_quads now) e)

pub types-run : (s : Settings) (b : Context) (n : Option Term) (g : GraphScope) (at : ℕ) (xs : Trees) (k : List Frame) → TypesRun s b n g at xs k
unfolding feed take_scalar open_array enter
types-run s b n g at no_item k = goes refl refl refl
types-run s b n g at (item (scalar a (Str text)) rest) k = next-type _ _ _ _ _ (types-run s b n g at rest k)
types-run s b n g at (item (scalar a Null) rest) k = stops _ (inl (inl refl)) refl
types-run s b n g at (item (scalar a (boolean x)) rest) k = stops _ (inl (inl refl)) refl
types-run s b n g at (item (scalar a (Number x)) rest) k = stops _ (inl (inl refl)) refl
types-run s b n g at (item (array a xs) rest) k = stops _ (inl (inl refl)) refl
types-run s b n g at (item (object a ms) rest) k = stops _ (inl (inl refl)) refl
