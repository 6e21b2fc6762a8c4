-- Events, one after another, and moves on the frames among them.
use Rattle.std.proofs.Common.{◌≡◌, refl, sym, ◌∙◌, ap, List, [], ◌++◌, Ok, Err, append_assoc}
use Rattle.jl_model.specs.Parts.{Parts}
use Rattle.jl_walk.specs.Frames.{Frame}
use Rattle.jl_walk.specs.Steps.{Step, after_quads, then_goes}
use Rattle.jl_walk.specs.States.{State, at, Go, before, then_go, from, settle}

pub before-none : (g : Go) → before [] g ≡ g
before-none (Ok (q, z)) = refl
before-none (Err f) = refl

pub before-twice : (a b : List Parts) (g : Go) → before a (before b g) ≡ before (a ++ b) g
before-twice a b (Ok (q, z)) = ap (λ x. Ok (x, z)) (sym (append_assoc a b q))
before-twice a b (Err f) = refl

pub then-before : (a : List Parts) (g : Go) (next : State → Go) → then_go (before a g) next ≡ before a (then_go g next)
then-before a (Ok (q, z)) next = sym (before-twice a q (next z))
then-before a (Err f) next = refl

pub from-after : (a : List Parts) (r : Step) (next : List Frame → Go) → from (after_quads a r) next ≡ before a (from r next)
from-after a (Ok (q, k)) next = sym (before-twice a q (next k))
from-after a (Err f) next = refl

pub from-then : (r : Step) (f : List Frame → Step) (g : List Frame → Go) → from (then_goes r f) g ≡ from r (λ l. from (f l) g)
from-then (Ok (q, k)) f g = from-after q (f k) g
from-then (Err e) f g = refl

pub then-from : (r : Step) (f : List Frame → Go) (g : State → Go) → then_go (from r f) g ≡ from r (λ l. then_go (f l) g)
then-from (Ok (q, k)) f g = then-before q (f k) g
then-from (Err e) f g = refl

pub from-same : (r : Step) (f g : List Frame → Go) → ((l : List Frame) → f l ≡ g l) → from r f ≡ from r g
from-same (Ok (q, k)) f g h = ap (before q) (h k)
from-same (Err e) f g h = refl

pub then-settle : (r : Step) (g : State → Go) → then_go (settle r) g ≡ from r (λ l. g (at l))
then-settle r g = then-from r (λ k. Ok ([], at k)) g ∙ from-same r (λ l. before [] (g (at l))) (λ l. g (at l)) (λ l. before-none (g (at l)))
