-- Digits read from their end.
use Rattle.std.proofs.Common.{◌≡◌, ℕ, true, false, List, [], ◌∷◌, ◌++◌, ap, ◌∙◌, sym, reverse}
use Rattle.std.proofs.lemmas.List.{reverse-append, reverse-reverse}
use Rattle.jl_defs.specs.Numbers.{is_zero_digit, without_zeros}
use Rattle.jl_value.specs.Fronts.{front_of}

reverse-last : (digits : List ℕ) (c : ℕ) → reverse (digits ++ c ∷ []) ≡ c ∷ reverse digits
reverse-last digits c = reverse-append digits (c ∷ [])

-- a last zero is left out
pub front_of-zero : (digits : List ℕ) (c : ℕ) → is_zero_digit c ≡ true → front_of (digits ++ c ∷ []) ≡ front_of digits
front_of-zero digits c e =
    ap (λ r. reverse (without_zeros r)) (reverse-last digits c)
    ∙ ap (λ b. reverse (elim b [ true ↦ without_zeros (reverse digits) | false ↦ c ∷ reverse digits ])) e

-- another last digit stays, and what stands before it
pub front_of-digit : (digits : List ℕ) (c : ℕ) → is_zero_digit c ≡ false → front_of (digits ++ c ∷ []) ≡ digits ++ c ∷ []
front_of-digit digits c e =
    ap (λ r. reverse (without_zeros r)) (reverse-last digits c)
    ∙ ap (λ b. reverse (elim b [ true ↦ without_zeros (reverse digits) | false ↦ c ∷ reverse digits ])) e
    ∙ ap reverse (sym (reverse-last digits c))
    ∙ reverse-reverse (digits ++ c ∷ [])
