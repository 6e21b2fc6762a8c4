-- What follows from what holds where a call answered Ok, and where it failed.
use Rattle.std.proofs.Common.{Result, Ok, Err, OnErr, OnOk, IfErr}

-- a fact holds in particular where the call failed
pub on_err : {A E P : Type 0} (r : Result A E) → P → OnErr r P
on_err (Ok x) p = tt
on_err (Err e) p = p

-- what follows on Ok
pub on_ok : {A E : Type 0} {P Q : Type 0} (r : Result A E) → (P → Q) → OnOk r P → OnOk r Q
on_ok (Ok x) f p = f p
on_ok (Err e) f p = p

-- what follows on Err
pub on_err_too : {A E : Type 0} {P Q : Type 0} (r : Result A E) → (P → Q) → OnErr r P → OnErr r Q
on_err_too (Ok x) f p = p
on_err_too (Err e) f p = f p

-- what follows from two facts on Err
pub if_err : {A E P : Type 0} {Q R : E → Type 0} (r : Result A E) → ((e : E) → P → Q e → R e) → OnErr r P → IfErr r Q → IfErr r R
if_err (Ok x) f p q = q
if_err (Err e) f p q = f e p q

-- what follows from what holds on Ok and what holds on Err
pub either : {A E P X : Type 0} {Q : E → Type 0} (r : Result A E) → (P → X) → ((e : E) → Q e → X) → OnOk r P → IfErr r Q → X
either (Ok x) f k p q = f p
either (Err e) f k p q = k e q

-- what follows on Err from what holds of the error
pub if_err_too : {A E : Type 0} {Q R : E → Type 0} (r : Result A E) → ((e : E) → Q e → R e) → IfErr r Q → IfErr r R
if_err_too (Ok x) f q = q
if_err_too (Err e) f q = f e q
