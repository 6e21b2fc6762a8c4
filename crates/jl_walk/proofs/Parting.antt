-- What a part of the events brings is sure.
use Rattle.std.proofs.Common.{ℕ, ◌≡◌, inl, inr, sym, ◌∙◌, ap, subst, refl, List, [], ◌∷◌, ◌++◌, Ok, Err}
use Rattle.jl_model.specs.Parts.{Parts}
use Rattle.jl_model.specs.declared.faults.Fault.{Fault}
use Rattle.jl_defs.specs.Settings.{Settings}
use Rattle.jl_walk.specs.Frames.{Frame}
use Rattle.jl_walk.specs.Feeding.{start}
use Rattle.jl_walk.specs.Events.{Event, tree_events}
use Rattle.jl_walk.specs.States.{State, at, Go, before, then_go}
use Rattle.jl_walk.specs.Running.{step, run}
use Rattle.jl_walk.specs.Laws.{finished, IsCause, Reads, reads, refuses, Begins, brings, stopped, PartSays}
use Rattle.jl_walk.proofs.Goes.{before-none, then-before}
use Rattle.jl_walk.proofs.Reading.{read-says}

-- events, one part after another
go-assoc : (g : Go) (f h : State → Go) → then_go (then_go g f) h ≡ then_go g (λ z. then_go (f z) h)
go-assoc (Ok (q, z)) f h = then-before q (f z) h
go-assoc (Err e) f h = refl

go-same : (g : Go) (f h : State → Go) → ((z : State) → f z ≡ h z) → then_go g f ≡ then_go g h
go-same (Ok (q, z)) f h e = ap (before q) (e z)
go-same (Err x) f h e = refl

pub run-parts : (s : Settings) (xs ys : List Event) (z : State) → run s (xs ++ ys) z ≡ then_go (run s xs z) (run s ys)
unfolding run
run-parts s [] ys z = sym (before-none (run s ys z))
run-parts s (x ∷ xs) ys z = go-same (step s x z) _ _ (λ y. run-parts s xs ys y) ∙ sym (go-assoc (step s x z) (run s xs) (run s ys))

abbrev pub quads_of : Go → List Parts
quads_of (Ok (q, z)) = q
quads_of (Err f) = []

abbrev pub fault_of : Fault → Go → Fault
fault_of f (Ok x) = f
fault_of f (Err g) = g

pub longer : (q : List Parts) (g : Go) (quads : List Parts) (z : State) → before q g ≡ Ok (quads, z) → quads ≡ q ++ quads_of g
longer q (Ok (more, y)) quads z e = sym (ap quads_of e)
longer q (Err f) quads z e = absurd cc

-- without faults and forms that aren't built nothing has a cause
pub no-cause : (fs : List Fault) (ps : List ℕ) (f : Fault) → IsCause fs ps f → fs ≡ [] → ps ≡ [] → ⊥
no-cause fs ps f b e d = of (subst (λ y. IsCause [] y f) d (subst (λ x. IsCause x ps f) e b))
  where
    of : IsCause [] [] f → ⊥
    of (inl h) = h
    of (inr h) = h.1

begins-by : (fs : List Fault) (ps : List ℕ) (part whole : Go) (rest : State → Go) (quads : List Parts) (k : List Frame) → whole ≡ then_go part rest →
    Reads fs ps whole quads k → Begins fs ps part quads
begins-by fs ps (Ok (q, z)) whole rest quads k e (reads a b h) = brings q z refl (λ x y. (quads_of (rest z), longer q (rest z) quads (at k) (sym e ∙ h)))
begins-by fs ps (Ok (q, z)) whole rest quads k e (refuses f b h) = brings q z refl (λ x y. absurd (no-cause fs ps f b x y))
begins-by fs ps (Err f) whole rest quads k e (reads a b h) = absurd (let x : Err f ≡ Ok (quads, at k) = sym e ∙ h in cc)
begins-by fs ps (Err f) whole rest quads k e (refuses g b h) = stopped f (subst (λ x. IsCause fs ps x) (sym (ap (fault_of f) (sym e ∙ h))) b) refl

pub part-says : PartSays
part-says s t es more e same =
    begins-by _ _ (run s es (at (start s))) (run s (tree_events t []) (at (start s))) (run s more) _ (finished s t)
    (ap (λ x. run s x (at (start s))) same ∙ run-parts s es more (at (start s))) (read-says s t e)
