-- The last byte of a text, as std gives it.
use Rattle.std.proofs.Common.{◌≡◌, ℕ, suc, ◌-◌, List, [], ◌∷◌, length, Some, refl, sym, ap, ◌∙◌, arith}
use Rattle.std.specs.Option.{unwrap_or}
use Rattle.std.specs.List.{slice_get}
use Rattle.jl_model.specs.Labels.{last_byte}

slice_get-last : (first : ℕ) (text : List ℕ) → slice_get (first ∷ text) (length text) ≡ Some (last_byte first text)
slice_get-last first [] = refl
slice_get-last first (c ∷ text) = slice_get-last c text

pub last_byte_at : (first : ℕ) (text : List ℕ) → last_byte first text ≡ unwrap_or (slice_get text (length text - 1)) first
last_byte_at first [] = refl
last_byte_at first (c ∷ text) =
    let place : length text ≡ suc (length text) - 1 = omega arith in
    ap (λ o. unwrap_or o first) (sym (slice_get-last c text)) ∙ ap (λ n. unwrap_or (slice_get (c ∷ text) n) first) place
