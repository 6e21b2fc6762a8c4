-- Answers that are a value or a code, one after another.
use Rattle.std.specs.Prelude.{Bool, true, false, Result, Ok, Err}
use Rattle.jl_model.specs.declared.codes.Code.{Code}

infixl 10 ◌>>=◌
abbrev pub ◌>>=◌ : {A B : Type 0} → Result A Code → (A → Result B Code) → Result B Code
(Ok x) >>= f = f x
(Err e) >>= f = Err e

-- nothing, where the test holds, and else the code
abbrev pub require : Bool → Code → Result (Unit {0}) Code
require true code = Ok tt
require false code = Err code

-- any fault is this one
abbrev pub or_code : {A : Type 0} → Code → Result A Code → Result A Code
or_code code (Ok x) = Ok x
or_code code (Err e) = Err code
