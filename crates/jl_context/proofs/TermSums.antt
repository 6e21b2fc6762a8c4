-- Sums over terms, where a definition is put in or taken out.
use Rattle.std.proofs.lemmas.List.Sums.{sum_by-cons}
use Rattle.std.specs.List.{list_any}
use Rattle.std.proofs.lemmas.Bool.{lt-ltb}
use Rattle.std.proofs.Common.{is_some, option_map, nat_lt, ◌<◌, ◌||◌, ◌≡◌, ◌⊎◌, ◌≤◌, ◌+◌, ℕ, inl, inr, refl, sym, ap, subst, ◌∙◌, Bool, true, false, List, [], ◌∷◌, Option, Some, None, bytes_eq, sum_by, arith}
use Rattle.jl_defs.specs.Texts.{Text, is_before}
use Rattle.jl_defs.specs.Context.{Named, TermDef, lookup, put, without, named_size}
use Rattle.jl_context.specs.declared.sums.Sums.{Sums}
use Rattle.jl_context.specs.Layers.{change}
use Rattle.jl_context.specs.Counted.{one_if, part, parts, protected_one, scoped_one, AreSums, AreWithin, Move}
use Rattle.jl_context.proofs.Bools.{or-left, picked-true, picked-false, choice}
use Rattle.jl_context.proofs.NameOrder.{before-true}
use Rattle.jl_context.proofs.SortedTerms.{Sorted, above-below, above-none, equal}

abbrev named : Text → TermDef → Named
named n t = record { name = n; term = t }

-- the head is the term of this name
part-here : (f : Named → ℕ) (e : Named) (es : List Named) (n : Text) → bytes_eq e.name n ≡ true → part f n (lookup (e ∷ es) n) ≡ f e
part-here f e es n h = ap (part f n) (picked-true (bytes_eq e.name n) _ _ h) ∙ ap (λ m. f (record { name = m; term = e.term })) (sym (equal e.name n h))

part-there : (f : Named → ℕ) (e : Named) (es : List Named) (n : Text) → bytes_eq e.name n ≡ false → part f n (lookup (e ∷ es) n) ≡ part f n (lookup es n)
part-there f e es n h = ap (part f n) (picked-false (bytes_eq e.name n) _ _ h)

-- what a term counts for is within the sum
pub part-within : (f : Named → ℕ) (es : List Named) (n : Text) → part f n (lookup es n) ≤ sum_by f es
part-within f [] n = omega arith
part-within f (e ∷ es) n = by (choice (bytes_eq e.name n)) (part-within f es n)
  where
    by : (bytes_eq e.name n ≡ true) ⊎ (bytes_eq e.name n ≡ false) → part f n (lookup es n) ≤ sum_by f es → part f n (lookup (e ∷ es) n) ≤ sum_by f (e ∷ es)
    by (inl h) next = let q = part-here f e es n h in let c = sum_by-cons f e es in omega (arith, q, c)
    by (inr h) next = let q = part-there f e es n h in let c = sum_by-cons f e es in omega (arith, q, next, c)

pub sum-without : (f : Named → ℕ) (es : List Named) (n : Text) → sum_by f (without es n) + part f n (lookup es n) ≡ sum_by f es
sum-without f [] n = refl
sum-without f (e ∷ es) n = by (choice (bytes_eq e.name n)) (sum-without f es n)
  where
    by : (bytes_eq e.name n ≡ true) ⊎ (bytes_eq e.name n ≡ false) → sum_by f (without es n) + part f n (lookup es n) ≡ sum_by f es → sum_by f (without (e ∷ es) n) + part f n (lookup (e ∷ es) n) ≡ sum_by f (e ∷ es)
    by (inl h) next =
        let q = part-here f e es n h in
        let w : sum_by f (without (e ∷ es) n) ≡ sum_by f es = ap (sum_by f) (picked-true (bytes_eq e.name n) _ _ h) in
        let c = sum_by-cons f e es in
        omega (arith, q, w, c)
    by (inr h) next =
        let q = part-there f e es n h in
        let w : sum_by f (without (e ∷ es) n) ≡ sum_by f (e ∷ without es n) = ap (sum_by f) (picked-false (bytes_eq e.name n) _ _ h) in
        let c = sum_by-cons f e es in
        let d = sum_by-cons f e (without es n) in
        omega (arith, q, w, next, c, d)

pub sum-put : (f : Named → ℕ) (es : List Named) (n : Text) (t : TermDef) → Sorted es → sum_by f (put es n t) + part f n (lookup es n) ≡ sum_by f es + f (named n t)
sum-put f [] n t s = let c = sum_by-cons f (named n t) [] in omega (arith, c)
sum-put f (e ∷ es) n t (a, s) = by (choice (bytes_eq e.name n)) (choice (is_before n e.name)) (sum-put f es n t s)
  where
    by : (bytes_eq e.name n ≡ true) ⊎ (bytes_eq e.name n ≡ false) → (is_before n e.name ≡ true) ⊎ (is_before n e.name ≡ false)
        → sum_by f (put es n t) + part f n (lookup es n) ≡ sum_by f es + f (named n t)
        → sum_by f (put (e ∷ es) n t) + part f n (lookup (e ∷ es) n) ≡ sum_by f (e ∷ es) + f (named n t)
    by (inl h) o next =
        let q = part-here f e es n h in
        let w : sum_by f (put (e ∷ es) n t) ≡ sum_by f (named n t ∷ es) = ap (sum_by f) (picked-true (bytes_eq e.name n) _ _ h) in
        let c = sum_by-cons f e es in
        let d = sum_by-cons f (named n t) es in
        omega (arith, q, w, c, d)
    by (inr h) (inl o) next =
        let q = part-there f e es n h in
        let none : part f n (lookup es n) ≡ 0 = ap (part f n) (above-none n es (above-below n e.name es (before-true n e.name o) a)) in
        let w : sum_by f (put (e ∷ es) n t) ≡ sum_by f (named n t ∷ (e ∷ es)) = ap (sum_by f) (picked-false (bytes_eq e.name n) _ _ h ∙ picked-true (is_before n e.name) _ _ o) in
        let d = sum_by-cons f (named n t) (e ∷ es) in
        omega (arith, q, none, w, d)
    by (inr h) (inr o) next =
        let q = part-there f e es n h in
        let w : sum_by f (put (e ∷ es) n t) ≡ sum_by f (e ∷ put es n t) = ap (sum_by f) (picked-false (bytes_eq e.name n) _ _ h ∙ picked-false (is_before n e.name) _ _ o) in
        let c = sum_by-cons f e es in
        let d = sum_by-cons f e (put es n t) in
        omega (arith, q, w, next, c, d)

pub sum-change : (f : Named → ℕ) (es : List Named) (n : Text) (t : Option TermDef) → Sorted es → sum_by f (change n t es) + part f n (lookup es n) ≡ sum_by f es + part f n t
sum-change f es n (Some t) s = sum-put f es n t s
sum-change f es n None s = let q = sum-without f es n in omega (arith, q)

pub parts-within : (s old : Sums) (es : List Named) (n : Text) → AreSums s es → old ≡ parts n (lookup es n) → AreWithin old s
parts-within s old es n a e = subst (λ o. AreWithin o s) (sym e) (record {
  size = (let w = part-within named_size es n in omega (arith, w, a.size));
  protected = (let w = part-within protected_one es n in omega (arith, w, a.protected));
  scoped = (let w = part-within scoped_one es n in omega (arith, w, a.scoped));
})

-- the sums move as the terms change
pub sums-changed : (s old new moved : Sums) (es : List Named) (n : Text) (t : Option TermDef) → Sorted es → AreSums s es
    → old ≡ parts n (lookup es n) → new ≡ parts n t → Move s old new moved → AreSums moved (change n t es)
sums-changed s old new moved es n t sorted a e f m = record {
  size = (let w = sum-change named_size es n t sorted in let p = ap (λ x. x.size) e in let q = ap (λ x. x.size) f in omega (arith, w, p, q, m.size, a.size));
  protected = (let w = sum-change protected_one es n t sorted in let p = ap (λ x. x.protected) e in let q = ap (λ x. x.protected) f in omega (arith, w, p, q, m.protected, a.protected));
  scoped = (let w = sum-change scoped_one es n t sorted in let p = ap (λ x. x.scoped) e in let q = ap (λ x. x.scoped) f in omega (arith, w, p, q, m.scoped, a.scoped));
}

-- a name without a definition can't be taken out
pub without-none : (es : List Named) (n : Text) → lookup es n ≡ None → without es n ≡ es
without-none [] n e = refl
without-none (x ∷ xs) n e = by (choice (bytes_eq x.name n)) (without-none xs n)
  where
    some-none : {A : Type 0} {x : A} → Some x ≡ None → ⊥
    some-none q = cc

    by : (bytes_eq x.name n ≡ true) ⊎ (bytes_eq x.name n ≡ false) → (lookup xs n ≡ None → without xs n ≡ xs) → without (x ∷ xs) n ≡ (x ∷ xs)
    by (inl h) next = absurd (some-none (sym (picked-true (bytes_eq x.name n) _ _ h) ∙ e))
    by (inr h) next = picked-false (bytes_eq x.name n) _ _ h ∙ ap (λ l. x ∷ l) (next (sym (picked-false (bytes_eq x.name n) _ _ h) ∙ e))

-- some term is of a kind where one or more are counted
pub count-any : (p : Named → Bool) (es : List Named) → nat_lt 0 (sum_by (λ e. one_if (p e)) es) ≡ list_any p es
count-any p [] = refl
count-any p (e ∷ es) = by (choice (p e)) (count-any p es)
  where
    by : (p e ≡ true) ⊎ (p e ≡ false) → nat_lt 0 (sum_by (λ x. one_if (p x)) es) ≡ list_any p es → nat_lt 0 (sum_by (λ x. one_if (p x)) (e ∷ es)) ≡ (p e || list_any p es)
    by (inl h) next =
        let c = sum_by-cons (λ x. one_if (p x)) e es in
        let one : one_if (p e) ≡ 1 = ap one_if h in
        let some : 0 < sum_by (λ x. one_if (p x)) (e ∷ es) = omega (arith, c, one) in
        lt-ltb 0 (sum_by (λ x. one_if (p x)) (e ∷ es)) some ∙ sym (or-left (p e) (list_any p es) h)
    by (inr h) next =
        let c = sum_by-cons (λ x. one_if (p x)) e es in
        let none : one_if (p e) ≡ 0 = ap one_if h in
        let same : sum_by (λ x. one_if (p x)) (e ∷ es) ≡ sum_by (λ x. one_if (p x)) es = omega (arith, c, none) in
        ap (nat_lt 0) same ∙ (next ∙ sym (ap (λ b. b || list_any p es) h))

pub mapped-none : {A B : Type 0} (f : A → B) (o : Option A) → is_some o ≡ false → option_map f o ≡ None
mapped-none f None e = refl
mapped-none f (Some x) e = cc
