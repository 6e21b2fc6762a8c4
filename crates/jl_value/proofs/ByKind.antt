-- The literal of a scalar, by its kind.
use Rattle.std.proofs.Common.{◌≡◌, ℕ, Bool, true, false, List, Option, Some, None, Result, IfOk, IfErr, refl, subst, codes, if◌then◌else◌}
use Rattle.jl_model.specs.declared.scalars.Scalar.TheVariants as scalar
use Rattle.jl_model.specs.declared.terms.Lit.{Lit}
use Rattle.jl_defs.specs.Values as spec
use Rattle.jl_value.specs.declared.literals.ValueStop.{ValueStop}
use Rattle.jl_value.specs.Answers.{valued, Refuses, string_literal}

pub made-same : (r : Result (Option Lit) ValueStop) (a b : spec.Valued) → a ≡ b → IfOk r (λ made. valued made ≡ a) → IfOk r (λ made. valued made ≡ b)
made-same r a b e h = subst (λ v. IfOk r (λ made. valued made ≡ v)) e h

pub refused-same : (r : Result (Option Lit) ValueStop) (a b : spec.Valued) → a ≡ b → IfErr r (λ stop. Refuses stop a) → IfErr r (λ stop. Refuses stop b)
refused-same r a b e h = subst (λ v. IfErr r (λ stop. Refuses stop v)) e h

pub literal_of-null : (datatype language : Option (List ℕ)) → spec.left_out ≡ spec.literal_of scalar.Null datatype language
unfolding spec.literal_of
literal_of-null datatype language = refl

pub literal_of-boolean : (b : Bool) (datatype language : Option (List ℕ))
    → spec.plain (if b then codes "true" else codes "false") (spec.type_or datatype spec.xsd_boolean) ≡ spec.literal_of (scalar.Bool b) datatype language
unfolding spec.literal_of
literal_of-boolean true datatype language = refl
literal_of-boolean false datatype language = refl

pub literal_of-number : (token : List ℕ) (datatype language : Option (List ℕ))
    → spec.number_literal token (spec.type_or datatype spec.xsd_integer) ≡ spec.literal_of (scalar.Number token) datatype language
unfolding spec.literal_of
literal_of-number token datatype language = refl

pub literal_of-string : (text : List ℕ) (datatype language : Option (List ℕ))
    → string_literal text datatype language ≡ spec.literal_of (scalar.Str text) datatype language
unfolding spec.literal_of
literal_of-string text datatype None = refl
literal_of-string text datatype (Some tag) = refl
