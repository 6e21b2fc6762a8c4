-- Quads that are sure.
use Rattle.std.proofs.Common.{◌≡◌, inl, inr, ℕ, List, [], ◌∷◌, ◌++◌, ap, ◌∙◌, subst, append_assoc}
use Rattle.jl_model.specs.Parts.{Parts}
use Rattle.jl_defs.specs.Settings.{Settings}
use Rattle.jl_defs.specs.Sets.{Has}
use Rattle.jl_defs.specs.OpenText.{ReadsAs}
use Rattle.jl_engine.specs.Standing.{AreSure}
use Rattle.jl_top.proofs.LineFronts.{IsClosed}

has_front : (front back : List Parts) (x : Parts) → Has front x → Has (front ++ back) x
has_front [] back x h = absurd h
has_front (q ∷ front) back x (inl e) = inl e
has_front (q ∷ front) back x (inr h) = inr (has_front front back x h)

-- what is sure of some quads is sure of the first of them
pub sure_front : (s : Settings) (bytes : List ℕ) → IsClosed (AreSure s bytes)
sure_front s bytes front back h rest t reads accepts built x has = h rest t reads accepts built x (has_front front back x has)

-- what is sure of a front of the bytes is sure of all of them
pub sure_longer : (s : Settings) (bytes front back : List ℕ) (quads : List Parts) → bytes ≡ front ++ back → AreSure s front quads → AreSure s bytes quads
sure_longer s bytes front back quads e h rest t reads = h (back ++ rest) t (subst (λ b. ReadsAs b t) (ap (λ b. b ++ rest) e ∙ append_assoc front back rest) reads)
