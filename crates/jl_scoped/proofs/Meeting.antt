-- Answers with a property, one after another.
use Rattle.std.proofs.Common.{◌≡◌, refl, Bool, true, false, Result, Ok, Err}
use Rattle.jl_model.specs.declared.codes.Code.{Code}
use Rattle.jl_defs.specs.Answers.{◌>>=◌}
use Rattle.jl_scoped.specs.Faithful.{Meets}

pub meets-then : {A B : Type 0} (P : A → Type 0) (Q : B → Type 0) (r : Result A Code) (f : A → Result B Code) → Meets P r → ((x : A) → P x → Meets Q (f x)) → Meets Q (r >>= f)
meets-then P Q (Ok x) f h g = g x h
meets-then P Q (Err c) f h g = tt

-- the first answer may be any
pub any-then : {A B : Type 0} (Q : B → Type 0) (r : Result A Code) (f : A → Result B Code) → ((x : A) → Meets Q (f x)) → Meets Q (r >>= f)
any-then Q (Ok x) f g = g x
any-then Q (Err c) f g = tt

pub meets-more : {A : Type 0} (P Q : A → Type 0) (r : Result A Code) → Meets P r → ((x : A) → P x → Q x) → Meets Q r
meets-more P Q (Ok x) h g = g x h
meets-more P Q (Err c) h g = tt

pub meets-either : {A : Type 0} (P : A → Type 0) (b : Bool) (r s : Result A Code) → (b ≡ true → Meets P r) → (b ≡ false → Meets P s) → Meets P (elim b [ true ↦ r | false ↦ s ])
meets-either P true r s h k = h refl
meets-either P false r s h k = k refl

pub at-true : {A : Type 0} (b : Bool) (x y : A) → b ≡ true → elim b [ true ↦ x | false ↦ y ] ≡ x
at-true true x y e = refl
at-true false x y e = absurd cc

pub at-false : {A : Type 0} (b : Bool) (x y : A) → b ≡ false → elim b [ true ↦ x | false ↦ y ] ≡ y
at-false true x y e = absurd cc
at-false false x y e = refl
