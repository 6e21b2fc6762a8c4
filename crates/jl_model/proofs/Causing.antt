-- Counts of faults over several calls.
use Rattle.std.proofs.Common.{ℕ, ◌≡◌, ◌∙◌, subst, arith}
use Rattle.jl_model.specs.Causes.{HasCause}

-- nothing was counted, and nothing failed
pub cause_none : (a b : ℕ) (F : Type 0) → b ≡ a → (F → ⊥) → HasCause a b F
cause_none a b F e never = record { later = omega (arith, e); failed = λ f. absurd (never f); others = λ f. e }

-- nothing was counted before
pub cause_after : (a b c : ℕ) (F : Type 0) → b ≡ a → HasCause b c F → HasCause a c F
cause_after a b c F e h = subst (λ x. HasCause x c F) e h

-- nothing was counted before, and the call didn't fail
pub cause_kept : (a b c : ℕ) (F : Type 0) → b ≡ a → HasCause b c F → (F → ⊥) → c ≡ a
cause_kept a b c F e h never = h.others never ∙ e

-- the same failure, told of another call
pub cause_as : (a b : ℕ) (F G : Type 0) → (F → G) → (G → F) → HasCause a b F → HasCause a b G
cause_as a b F G there back h = record { later = h.later; failed = λ e. h.failed (back e); others = λ never. h.others (λ e. never (there e)) }
