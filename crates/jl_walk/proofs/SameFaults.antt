-- The same faults in another order: the machine meets them in another order than the definitions list them.
use Rattle.std.proofs.Common.{ℕ, ◌≡◌, ◌⊎◌, inl, inr, refl, sym, ◌∙◌, subst, List, [], ◌∷◌, ◌++◌, append_assoc}
use Rattle.jl_model.specs.Parts.{Parts}
use Rattle.jl_model.specs.declared.faults.Fault.{Fault}
use Rattle.jl_defs.specs.Sets.{Has}
use Rattle.jl_walk.specs.Frames.{Frame}
use Rattle.jl_walk.specs.Steps.{Step, then_goes, unless_fault}
use Rattle.jl_walk.specs.Laws.{Runs, goes, stops}
use Rattle.jl_walk.proofs.Runs.{has-left, has-right, left-nil, right-nil, both-nil}

pub record Same (xs ys : List Fault) : Type 0 where
  pub none : xs ≡ [] → ys ≡ []
  pub some : (f : Fault) → Has xs f → Has ys f

pub same-refl : (xs : List Fault) → Same xs xs
same-refl xs = record { none = λ e. e; some = λ f h. h }

pub same-by : (xs ys : List Fault) → xs ≡ ys → Same xs ys
same-by xs ys e = record { none = λ x. sym e ∙ x; some = λ f h. of e f h }
  where
    of : xs ≡ ys → (f : Fault) → Has xs f → Has ys f
    of e f h = subst (λ z. Has z f) e h

pub same-then : (xs ys zs : List Fault) → Same xs ys → Same ys zs → Same xs zs
same-then xs ys zs a b = record { none = λ e. b.none (a.none e); some = λ f h. b.some f (a.some f h) }

pub has-split : (xs ys : List Fault) (f : Fault) → Has (xs ++ ys) f → Has xs f ⊎ Has ys f
has-split [] ys f h = inr h
has-split (x ∷ xs) ys f (inl e) = inl (inl e)
has-split (x ∷ xs) ys f (inr h) = by (has-split xs ys f h)
  where
    by : Has xs f ⊎ Has ys f → Has (x ∷ xs) f ⊎ Has ys f
    by (inl a) = inl (inr a)
    by (inr b) = inr b

pub same-both : (a b c d : List Fault) → Same a b → Same c d → Same (a ++ c) (b ++ d)
same-both a b c d x y =
    record {
      none = λ e. both-nil b d (x.none (left-nil a c e)) (y.none (right-nil a c e));
      some = λ f h. by f (has-split a c f h);
    }
  where
    by : (f : Fault) → Has a f ⊎ Has c f → Has (b ++ d) f
    by f (inl h) = has-left b d f (x.some f h)
    by f (inr h) = has-right b d f (y.some f h)

-- the two in the middle change places
pub same-cross : (a b c d : List Fault) → Same ((a ++ b) ++ (c ++ d)) ((a ++ c) ++ (b ++ d))
same-cross a b c d =
    record {
      none = λ e.
          let l = left-nil (a ++ b) (c ++ d) e in
          let r = right-nil (a ++ b) (c ++ d) e in
          both-nil (a ++ c) (b ++ d) (both-nil a c (left-nil a b l) (left-nil c d r)) (both-nil b d (right-nil a b l) (right-nil c d r));
      some = λ f h. by f (has-split (a ++ b) (c ++ d) f h);
    }
  where
    left : (f : Fault) → Has a f ⊎ Has b f → Has ((a ++ c) ++ (b ++ d)) f
    left f (inl h) = has-left (a ++ c) (b ++ d) f (has-left a c f h)
    left f (inr h) = has-right (a ++ c) (b ++ d) f (has-left b d f h)

    right : (f : Fault) → Has c f ⊎ Has d f → Has ((a ++ c) ++ (b ++ d)) f
    right f (inl h) = has-left (a ++ c) (b ++ d) f (has-right a c f h)
    right f (inr h) = has-right (a ++ c) (b ++ d) f (has-right b d f h)

    by : (f : Fault) → Has (a ++ b) f ⊎ Has (c ++ d) f → Has ((a ++ c) ++ (b ++ d)) f
    by f (inl h) = left f (has-split a b f h)
    by f (inr h) = right f (has-split c d f h)

-- the first comes after
pub same-swap : (a b : List Fault) → Same (a ++ b) (b ++ a)
same-swap a b =
    record { none = λ e. both-nil b a (right-nil a b e) (left-nil a b e); some = λ f h. by f (has-split a b f h) }
  where
    by : (f : Fault) → Has a f ⊎ Has b f → Has (b ++ a) f
    by f (inl h) = has-right b a f h
    by f (inr h) = has-left b a f h

pub regroup : (a b c d : List Fault) → Same (a ++ (b ++ (c ++ d))) ((b ++ c) ++ (a ++ d))
regroup a b c d =
    same-then _ ((a ++ b) ++ (c ++ d)) _ (same-by _ _ (sym (append_assoc a b (c ++ d))))
    (same-then _ ((b ++ a) ++ (c ++ d)) _ (same-both (a ++ b) (b ++ a) (c ++ d) (c ++ d) (same-swap a b) (same-refl (c ++ d))) (same-cross b a c d))

-- a run, its faults in another order
pub runs-same : (fs gs : List Fault) (ps : List ℕ) (r : Step) (q : List Parts) (k : List Frame) → Same fs gs → Runs fs ps r q k → Runs gs ps r q k
runs-same fs gs ps r q k x (goes a b e) = goes (x.none a) b e
runs-same fs gs ps r q k x (stops f (inl h) e) = stops f (inl (x.some f h)) e
runs-same fs gs ps r q k x (stops f (inr h) e) = stops f (inr h) e

-- faults that are looked at before a step
pub first-runs : (late gs : List Fault) (ps : List ℕ) (next : Unit {0} → Step) (g : List Frame → Step) (q : List Parts) (k : List Frame) →
    (late ≡ [] → Runs gs ps (then_goes (next tt) g) q k) → Runs (late ++ gs) ps (then_goes (unless_fault late next) g) q k
first-runs [] gs ps next g q k h = h refl
first-runs (f ∷ fs) gs ps next g q k h = stops f (inl (inl refl)) refl
