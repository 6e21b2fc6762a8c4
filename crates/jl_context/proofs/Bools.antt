-- Truth values, taken apart.
use Rattle.std.proofs.Common.{OnOk, Result, Ok, Err, ◌≡◌, ◌⊎◌, inl, inr, refl, sym, Bool, true, false, not, ◌&&◌, ◌||◌}

pub true-false : true ≡ false → ⊥
true-false e = cc

pub negated : {b : Bool} → not b ≡ true → b ≡ false
negated {b = true} e = absurd cc
negated {b = false} e = refl

pub or-true : {a b : Bool} → (a || b) ≡ true → (a ≡ true) ⊎ (b ≡ true)
or-true {a = true} e = inl refl
or-true {a = false} e = inr e

pub or-left : (a b : Bool) → a ≡ true → (a || b) ≡ true
or-left true b e = refl
or-left false b e = absurd cc

pub or-right : (a b : Bool) → b ≡ true → (a || b) ≡ true
or-right true b e = refl
or-right false b e = e

pub and-left : (a b : Bool) → (a && b) ≡ true → a ≡ true
and-left true b e = refl
and-left false b e = absurd cc

pub and-right : (a b : Bool) → (a && b) ≡ true → b ≡ true
and-right true b e = e
and-right false b e = absurd cc

pub picked-false : {A : Type 0} (b : Bool) (x y : A) → b ≡ false → elim b [ true ↦ x | false ↦ y ] ≡ y
picked-false true x y e = absurd (true-false e)
picked-false false x y e = refl

pub picked-true : {A : Type 0} (b : Bool) (x y : A) → b ≡ true → elim b [ true ↦ x | false ↦ y ] ≡ x
picked-true true x y e = refl
picked-true false x y e = absurd cc

pub choice : (b : Bool) → (b ≡ true) ⊎ (b ≡ false)
choice true = inl refl
choice false = inr refl

pub both-ways : {b d : Bool} → (b ≡ true → d ≡ true) → (d ≡ true → b ≡ true) → b ≡ d
both-ways {b = true} {d = true} f g = refl
both-ways {b = true} {d = false} f g = absurd (true-false (sym (f refl)))
both-ways {b = false} {d = true} f g = absurd (true-false (sym (g refl)))
both-ways {b = false} {d = false} f g = refl

pub on-ok : {T E : Type 0} {P Q : Type 0} (r : Result T E) → OnOk r P → (P → Q) → OnOk r Q
on-ok (Ok x) p f = f p
on-ok (Err e) p f = tt
