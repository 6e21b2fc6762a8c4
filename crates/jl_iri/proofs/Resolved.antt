-- The steps of resolution, joined.
use Rattle.std.proofs.Common.{◌≡◌, ℕ, List, ap, ◌∙◌, Result, IfOk, subst}
use Rattle.jl_model.specs.Resolve.{Components, components, target, recompose, resolve}

-- an answer that is one text is the other, where they are equal
pub if_ok-is : {E : Type 0} (r : Result (List ℕ) E) (a b : List ℕ) → a ≡ b → IfOk r (λ text. text ≡ a) → IfOk r (λ text. text ≡ b)
if_ok-is r a b e h = subst (λ x. IfOk r (λ text. text ≡ x)) e h

-- the text of the target's components is the resolved reference
pub recompose-target : (b r t : Components) (base reference path : List ℕ)
    → b ≡ components base → r ≡ components reference
    → path ≡ (target b r).path → t ≡ record (target b r) { path = path }
    → recompose t ≡ resolve base reference
unfolding resolve
recompose-target b r t base reference path eb er ep et =
    ap recompose et
    ∙ ap (λ p. recompose (record (target b r) { path = p })) ep
    ∙ ap (λ x. recompose (target x r)) eb
    ∙ ap (λ x. recompose (target (components base) x)) er
