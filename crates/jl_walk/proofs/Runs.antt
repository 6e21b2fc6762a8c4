-- Runs, one after another.
use Rattle.std.proofs.Common.{ℕ, ◌≡◌, inl, inr, refl, sym, ◌∙◌, ap, subst, Bool, true, false, List, [], ◌∷◌, ◌++◌, Ok}
use Rattle.std.proofs.lemmas.List.{append-nil}
use Rattle.jl_model.specs.Parts.{Parts}
use Rattle.jl_model.specs.declared.codes.Code.TheVariants as code
use Rattle.jl_model.specs.declared.faults.Fault.{Fault}
use Rattle.jl_defs.specs.Sets.{Has}
use Rattle.jl_defs.specs.ObjectContexts.{fault}
use Rattle.jl_walk.specs.Frames.{Frame}
use Rattle.jl_walk.specs.Steps.{Step, quiet, after_quads, then_goes, unless_fault, if_built}
use Rattle.jl_walk.specs.Laws.{IsCause, Runs, goes, stops}

pub has-left : {A : Type 0} (xs ys : List A) (x : A) → Has xs x → Has (xs ++ ys) x
has-left [] ys x h = absurd h
has-left (y ∷ xs) ys x (inl e) = inl e
has-left (y ∷ xs) ys x (inr h) = inr (has-left xs ys x h)

pub has-right : {A : Type 0} (xs ys : List A) (x : A) → Has ys x → Has (xs ++ ys) x
has-right [] ys x h = h
has-right (y ∷ xs) ys x h = inr (has-right xs ys x h)

pub left-nil : {A : Type 0} (xs ys : List A) → xs ++ ys ≡ [] → xs ≡ []
left-nil [] ys e = refl
left-nil (x ∷ xs) ys e = absurd cc

pub right-nil : {A : Type 0} (xs ys : List A) → xs ++ ys ≡ [] → ys ≡ []
right-nil [] ys e = e
right-nil (x ∷ xs) ys e = absurd cc

pub both-nil : {A : Type 0} (xs ys : List A) → xs ≡ [] → ys ≡ [] → xs ++ ys ≡ []
both-nil xs ys d e = ap (λ r. r ++ ys) d ∙ e

bad-left : (fs gs : List Fault) (ps qs : List ℕ) (f : Fault) → IsCause fs ps f → IsCause (fs ++ gs) (ps ++ qs) f
bad-left fs gs ps qs f (inl h) = inl (has-left fs gs f h)
bad-left fs gs ps qs f (inr h) = inr (h.0, has-left ps qs f.at h.1)

bad-right : (fs gs : List Fault) (ps qs : List ℕ) (f : Fault) → IsCause gs qs f → IsCause (fs ++ gs) (ps ++ qs) f
bad-right fs gs ps qs f (inl h) = inl (has-right fs gs f h)
bad-right fs gs ps qs f (inr h) = inr (h.0, has-right ps qs f.at h.1)

-- a run and, where it goes, another
pub then-runs : (fs gs : List Fault) (ps qs : List ℕ) (r : Step) (next : List Frame → Step) (q more : List Parts) (k l : List Frame) →
    Runs fs ps r q k → Runs gs qs (next k) more l → Runs (fs ++ gs) (ps ++ qs) (then_goes r next) (q ++ more) l
then-runs fs gs ps qs r next q more k l (stops f b e) n = stops f (bad-left fs gs ps qs f b) (ap (λ x. then_goes x next) e)
then-runs fs gs ps qs r next q more k l (goes a b e) (goes c d g) =
    goes (both-nil fs gs a c) (both-nil ps qs b d) (ap (λ x. then_goes x next) e ∙ ap (after_quads q) g)
then-runs fs gs ps qs r next q more k l (goes a b e) (stops f h g) =
    stops f (bad-right fs gs ps qs f h) (ap (λ x. then_goes x next) e ∙ ap (after_quads q) g)

-- the same run, seen otherwise
pub runs-by : (fs gs : List Fault) (ps qs : List ℕ) (r t : Step) (q m : List Parts) (k l : List Frame) →
    fs ≡ gs → ps ≡ qs → t ≡ r → q ≡ m → k ≡ l → Runs fs ps r q k → Runs gs qs t m l
runs-by fs gs ps qs r t q m k l a b c d e (goes x y z) =
    goes (sym a ∙ x) (sym b ∙ y) (c ∙ (z ∙ (ap (λ u. Ok (u, k)) d ∙ ap (λ u. Ok (m, u)) e)))
runs-by fs gs ps qs r t q m k l a b c d e (stops f x z) = stops f (subst (λ u. IsCause u qs f) a (subst (λ u. IsCause fs u f) b x)) (c ∙ z)

pub runs-quiet : (k : List Frame) → Runs [] [] (quiet k) [] k
runs-quiet k = goes refl refl refl

-- faults that are looked at first
pub fault-runs : (fs gs : List Fault) (ps : List ℕ) (next : Unit {0} → Step) (q : List Parts) (k : List Frame) →
    Runs gs ps (next tt) q k → Runs (fs ++ gs) ps (unless_fault fs next) q k
fault-runs [] gs ps next q k n = n
fault-runs (f ∷ fs) gs ps next q k n = stops f (inl (inl refl)) refl

pub only-fault-runs : (fs : List Fault) (next : Unit {0} → Step) (q : List Parts) (k : List Frame) → Runs [] [] (next tt) q k → Runs fs [] (unless_fault fs next) q k
only-fault-runs fs next q k n = runs-by (fs ++ []) fs [] [] _ _ q q k k (append-nil fs) refl refl refl refl (fault-runs fs [] [] next q k n)

-- a form that isn't built is refused at its place, before what follows
pub built-first-runs : (b : Bool) (at : ℕ) (fs : List Fault) (ps qs : List ℕ) (next : Unit {0} → Step) (g : List Frame → Step) (q : List Parts) (k : List Frame) →
    (b ≡ true → Runs fs (ps ++ qs) (then_goes (next tt) g) q k) → Runs fs (elim b [ true ↦ ps | false ↦ at ∷ [] ] ++ qs) (then_goes (if_built b at next) g) q k
built-first-runs true at fs ps qs next g q k n = n refl
built-first-runs false at fs ps qs next g q k n = stops (fault code.NotYet at) (inr (refl, inl refl)) refl

-- a run, and another that is asked for only where the first one goes
pub then-runs-if : (fs gs : List Fault) (ps qs : List ℕ) (r : Step) (next : List Frame → Step) (q more : List Parts) (k l : List Frame) →
    Runs fs ps r q k → (fs ≡ [] → ps ≡ [] → Runs gs qs (next k) more l) → Runs (fs ++ gs) (ps ++ qs) (then_goes r next) (q ++ more) l
then-runs-if fs gs ps qs r next q more k l (goes a b e) h = then-runs fs gs ps qs r next q more k l (goes a b e) (h a b)
then-runs-if fs gs ps qs r next q more k l (stops f b e) h = stops f (bad-left fs gs ps qs f b) (ap (λ x. then_goes x next) e)
