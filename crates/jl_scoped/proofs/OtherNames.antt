-- Putting a definition in, or taking one out, leaves every other name.
use Rattle.std.proofs.Common.{◌≡◌, refl, sym, ap, subst, ◌∙◌, Bool, true, false, ◌||◌, List, [], ◌∷◌, Option, Some, None, bytes_eq}
use Rattle.std.proofs.lemmas.Slice.Eq.{bytes_eq-Decides}
use Rattle.jl_defs.specs.Texts.{Text, is_before}
use Rattle.jl_defs.specs.Context.{Named, TermDef, lookup, put, without}

pub same-name : (n m : Text) → n ≡ m → bytes_eq n m ≡ true
same-name n m e = (bytes_eq-Decides n m).1 e

pub equal-name : (n m : Text) → bytes_eq n m ≡ true → n ≡ m
equal-name n m e = (bytes_eq-Decides n m).0 e

pub other-name : (n m : Text) → (n ≡ m → ⊥) → bytes_eq n m ≡ false
other-name n m h = by (bytes_eq n m) refl
  where
    by : (b : Bool) → bytes_eq n m ≡ b → b ≡ false
    by true e = absurd (h (equal-name n m e))
    by false e = refl

past : (e : Named) (es : List Named) (q : Text) → bytes_eq e.name q ≡ false → lookup (e ∷ es) q ≡ lookup es q
past e es q k = ap (λ (b : Bool). elim b [ true ↦ Some e.term | false ↦ lookup es q ]) k

behind : (e : Named) (es fs : List Named) (q : Text) → lookup es q ≡ lookup fs q → lookup (e ∷ es) q ≡ lookup (e ∷ fs) q
behind e es fs q next = ap (λ x. elim (bytes_eq e.name q) [ true ↦ Some e.term | false ↦ x ]) next

-- a name that isn't one isn't another that is the same
not-either : (a n q : Text) → bytes_eq a n ≡ true → bytes_eq n q ≡ false → bytes_eq a q ≡ false
not-either a n q h k = ap (λ x. bytes_eq x q) (equal-name a n h) ∙ k

pub put-other : (es : List Named) (n : Text) (t : TermDef) (q : Text) → bytes_eq n q ≡ false → lookup (put es n t) q ≡ lookup es q
put-other [] n t q k = past (record { name = n; term = t }) [] q k
put-other (e ∷ es) n t q k = by (bytes_eq e.name n) (is_before n e.name) refl (put-other es n t q k)
  where
    new : Named
    new = record { name = n; term = t }

    by : (a b : Bool) → bytes_eq e.name n ≡ a → lookup (put es n t) q ≡ lookup es q
        → lookup (elim a [ true ↦ new ∷ es | false ↦ elim b [ true ↦ new ∷ (e ∷ es) | false ↦ e ∷ put es n t ] ]) q ≡ lookup (e ∷ es) q
    by true b h next = past new es q k ∙ sym (past e es q (not-either e.name n q h k))
    by false true h next = past new (e ∷ es) q k
    by false false h next = behind e (put es n t) es q next

pub without-other : (es : List Named) (n q : Text) → bytes_eq n q ≡ false → lookup (without es n) q ≡ lookup es q
without-other [] n q k = refl
without-other (e ∷ es) n q k = by (bytes_eq e.name n) refl (without-other es n q k)
  where
    by : (a : Bool) → bytes_eq e.name n ≡ a → lookup (without es n) q ≡ lookup es q → lookup (elim a [ true ↦ es | false ↦ e ∷ without es n ]) q ≡ lookup (e ∷ es) q
    by true h next = sym (past e es q (not-either e.name n q h k))
    by false h next = behind e (without es n) es q next
