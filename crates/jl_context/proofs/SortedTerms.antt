-- Lists of terms in the order of their names: they are the same where each name is looked up to the same.
use Rattle.std.proofs.Common.{◌≡◌, ◌⊎◌, inl, inr, refl, sym, ap, subst, ◌∙◌, Bool, true, false, List, [], ◌∷◌, Option, Some, None, bytes_eq}
use Rattle.std.proofs.lemmas.Slice.Eq.{bytes_eq-Decides}
use Rattle.jl_defs.specs.Texts.{Text, is_before}
use Rattle.jl_defs.specs.Context.{Named, TermDef, lookup, put, without}
use Rattle.jl_context.proofs.Bools.{true-false, picked-true, picked-false, choice}
use Rattle.jl_context.proofs.NameOrder.{Before, before-true, true-before, sorted-out, passed-on, not-before}

-- every name in the list stands after this one
abbrev pub Above : Text → List Named → Type 0
Above n [] = Unit {0}
Above n (e ∷ es) = Before n e.name × Above n es

abbrev pub Sorted : List Named → Type 0
Sorted [] = Unit {0}
Sorted (e ∷ es) = Above e.name es × Sorted es

pub same : (n m : Text) → n ≡ m → bytes_eq n m ≡ true
same n m e = (bytes_eq-Decides n m).1 e

pub equal : (n m : Text) → bytes_eq n m ≡ true → n ≡ m
equal n m e = (bytes_eq-Decides n m).0 e

pub differ : (n m : Text) → (n ≡ m → ⊥) → bytes_eq n m ≡ false
differ n m h = by (bytes_eq n m) refl
  where
    by : (b : Bool) → bytes_eq n m ≡ b → b ≡ false
    by true e = absurd (h (equal n m e))
    by false e = refl

pub apart : (n m : Text) → bytes_eq n m ≡ false → n ≡ m → ⊥
apart n m e q = true-false (sym (same n m q) ∙ e)

pub turned : (n m : Text) → bytes_eq n m ≡ false → bytes_eq m n ≡ false
turned n m e = differ m n (λ q. apart n m e (sym q))

before-differ : (n m : Text) → Before n m → bytes_eq m n ≡ false
before-differ n m h = differ m n (λ q. not-before n (subst (λ x. Before n x) q h))

pub above-below : (n m : Text) (es : List Named) → Before n m → Above m es → Above n es
above-below n m [] h a = tt
above-below n m (e ∷ es) h (b, a) = (passed-on n m e.name h b, above-below n m es h a)

pub above-none : (n : Text) (es : List Named) → Above n es → lookup es n ≡ None
above-none n [] a = refl
above-none n (e ∷ es) (b, a) = picked-false (bytes_eq e.name n) _ _ (before-differ n e.name b) ∙ above-none n es a

lookup-here : (e : Named) (es : List Named) (n : Text) → e.name ≡ n → lookup (e ∷ es) n ≡ Some e.term
lookup-here e es n q = picked-true (bytes_eq e.name n) _ _ (same e.name n q)

lookup-there : (e : Named) (es : List Named) (n : Text) → bytes_eq e.name n ≡ false → lookup (e ∷ es) n ≡ lookup es n
lookup-there e es n q = picked-false (bytes_eq e.name n) _ _ q

some-none : {A : Type 0} {x : A} → Some x ≡ None → ⊥
some-none e = cc

abbrev unwrap : {A : Type 0} → A → Option A → A
unwrap x None = x
unwrap x (Some y) = y

some-same : {A : Type 0} {x y : A} → Some x ≡ Some y → x ≡ y
some-same {x = x} e = ap (unwrap x) e

head-same : (e f : Named) → e.name ≡ f.name → e.term ≡ f.term → e ≡ f
head-same e f n t = λ i. record { name = n i; term = t i }

-- what the tail is looked up to, where the heads have one name
tails : (e f : Named) (es fs : List Named) → e.name ≡ f.name → Above e.name es → Above f.name fs → ((q : Text) → lookup (e ∷ es) q ≡ lookup (f ∷ fs) q) → (q : Text) → lookup es q ≡ lookup fs q
tails e f es fs n a b all q = by (choice (bytes_eq e.name q))
  where
    by : (bytes_eq e.name q ≡ true) ⊎ (bytes_eq e.name q ≡ false) → lookup es q ≡ lookup fs q
    by (inl h) =
        let here : e.name ≡ q = equal e.name q h in
        let front : lookup es q ≡ None = above-none q es (subst (λ x. Above x es) here a) in
        let back : lookup fs q ≡ None = above-none q fs (subst (λ x. Above x fs) (sym n ∙ here) b) in
        front ∙ sym back
    by (inr h) =
        let g : bytes_eq f.name q ≡ false = subst (λ x. bytes_eq x q ≡ false) n h in
        sym (lookup-there e es q h) ∙ (all q ∙ lookup-there f fs q g)

-- two sorted lists that look up each name to the same are the same
pub same-terms : (es fs : List Named) → Sorted es → Sorted fs → ((q : Text) → lookup es q ≡ lookup fs q) → es ≡ fs
same-terms [] [] s t all = refl
same-terms [] (f ∷ fs) s t all = absurd (some-none (sym (all f.name ∙ lookup-here f fs f.name refl)))
same-terms (e ∷ es) [] s t all = absurd (some-none (sym (lookup-here e es e.name refl) ∙ all e.name))
same-terms (e ∷ es) (f ∷ fs) (a, s) (b, t) all = by (sorted-out e.name f.name) (same-terms es fs s t)
  where
    by : Before e.name f.name ⊎ ((e.name ≡ f.name) ⊎ Before f.name e.name) → (((q : Text) → lookup es q ≡ lookup fs q) → es ≡ fs) → (e ∷ es) ≡ (f ∷ fs)
    by (inl h) next =
        absurd (some-none (sym (lookup-here e es e.name refl) ∙ (all e.name ∙ above-none e.name (f ∷ fs) (h, above-below e.name f.name fs h b))))
    by (inr (inr h)) next =
        absurd (some-none (sym (lookup-here f fs f.name refl) ∙ (sym (all f.name) ∙ above-none f.name (e ∷ es) (h, above-below f.name e.name es h a))))
    by (inr (inl n)) next =
        let t' : e.term ≡ f.term = some-same (sym (lookup-here e es f.name n) ∙ (all f.name ∙ lookup-here f fs f.name refl)) in
        let rest : es ≡ fs = next (tails e f es fs n a b all) in
        λ i. head-same e f n t' i ∷ rest i

-- ---- a definition that is put in

pub put-here : (es : List Named) (n : Text) (t : TermDef) → lookup (put es n t) n ≡ Some t
put-here [] n t = lookup-here (record { name = n; term = t }) [] n refl
put-here (e ∷ es) n t = by (choice (bytes_eq e.name n)) (choice (is_before n e.name)) (put-here es n t)
  where
    by : (bytes_eq e.name n ≡ true) ⊎ (bytes_eq e.name n ≡ false) → (is_before n e.name ≡ true) ⊎ (is_before n e.name ≡ false) → lookup (put es n t) n ≡ Some t → lookup (put (e ∷ es) n t) n ≡ Some t
    by (inl h) o next = ap (λ l. lookup l n) (picked-true (bytes_eq e.name n) _ _ h) ∙ lookup-here (record { name = n; term = t }) es n refl
    by (inr h) (inl o) next =
        ap (λ l. lookup l n) (picked-false (bytes_eq e.name n) _ _ h ∙ picked-true (is_before n e.name) _ _ o) ∙ lookup-here (record { name = n; term = t }) (e ∷ es) n refl
    by (inr h) (inr o) next =
        ap (λ l. lookup l n) (picked-false (bytes_eq e.name n) _ _ h ∙ picked-false (is_before n e.name) _ _ o) ∙ (lookup-there e (put es n t) n h ∙ next)

pub put-there : (es : List Named) (n : Text) (t : TermDef) (q : Text) → bytes_eq n q ≡ false → lookup (put es n t) q ≡ lookup es q
put-there [] n t q k = lookup-there (record { name = n; term = t }) [] q k
put-there (e ∷ es) n t q k = by (choice (bytes_eq e.name n)) (choice (is_before n e.name)) (put-there es n t q k)
  where
    -- behind the head the two agree
    on : (l : List Named) → lookup l q ≡ lookup es q → lookup (e ∷ l) q ≡ lookup (e ∷ es) q
    on l next = ap (λ x. elim (bytes_eq e.name q) [ true ↦ Some e.term | false ↦ x ]) next

    by : (bytes_eq e.name n ≡ true) ⊎ (bytes_eq e.name n ≡ false) → (is_before n e.name ≡ true) ⊎ (is_before n e.name ≡ false) → lookup (put es n t) q ≡ lookup es q → lookup (put (e ∷ es) n t) q ≡ lookup (e ∷ es) q
    by (inl h) o next =
        let other : bytes_eq e.name q ≡ false = subst (λ x. bytes_eq x q ≡ false) (sym (equal e.name n h)) k in
        ap (λ l. lookup l q) (picked-true (bytes_eq e.name n) _ _ h) ∙ (lookup-there (record { name = n; term = t }) es q k ∙ sym (lookup-there e es q other))
    by (inr h) (inl o) next =
        ap (λ l. lookup l q) (picked-false (bytes_eq e.name n) _ _ h ∙ picked-true (is_before n e.name) _ _ o) ∙ lookup-there (record { name = n; term = t }) (e ∷ es) q k
    by (inr h) (inr o) next =
        ap (λ l. lookup l q) (picked-false (bytes_eq e.name n) _ _ h ∙ picked-false (is_before n e.name) _ _ o) ∙ on (put es n t) next

put-above : (m : Text) (es : List Named) (n : Text) (t : TermDef) → Above m es → Before m n → Above m (put es n t)
put-above m [] n t a b = (b, tt)
put-above m (e ∷ es) n t (c, a) b = by (choice (bytes_eq e.name n)) (choice (is_before n e.name)) (put-above m es n t a b)
  where
    by : (bytes_eq e.name n ≡ true) ⊎ (bytes_eq e.name n ≡ false) → (is_before n e.name ≡ true) ⊎ (is_before n e.name ≡ false) → Above m (put es n t) → Above m (put (e ∷ es) n t)
    by (inl h) o next = subst (λ l. Above m l) (sym (picked-true (bytes_eq e.name n) _ _ h)) (b, a)
    by (inr h) (inl o) next = subst (λ l. Above m l) (sym (picked-false (bytes_eq e.name n) _ _ h ∙ picked-true (is_before n e.name) _ _ o)) (b, (c, a))
    by (inr h) (inr o) next = subst (λ l. Above m l) (sym (picked-false (bytes_eq e.name n) _ _ h ∙ picked-false (is_before n e.name) _ _ o)) (c, next)

pub put-sorted : (es : List Named) (n : Text) (t : TermDef) → Sorted es → Sorted (put es n t)
put-sorted [] n t s = (tt, tt)
put-sorted (e ∷ es) n t (a, s) = by (choice (bytes_eq e.name n)) (choice (is_before n e.name)) (put-sorted es n t s)
  where
    after : bytes_eq e.name n ≡ false → is_before n e.name ≡ false → Before e.name n
    after h o = from (sorted-out e.name n)
      where
        from : Before e.name n ⊎ ((e.name ≡ n) ⊎ Before n e.name) → Before e.name n
        from (inl b) = b
        from (inr (inl q)) = absurd (apart e.name n h q)
        from (inr (inr b)) = absurd (true-false (sym (true-before n e.name b) ∙ o))

    by : (bytes_eq e.name n ≡ true) ⊎ (bytes_eq e.name n ≡ false) → (is_before n e.name ≡ true) ⊎ (is_before n e.name ≡ false) → Sorted (put es n t) → Sorted (put (e ∷ es) n t)
    by (inl h) o next = subst (λ l. Sorted l) (sym (picked-true (bytes_eq e.name n) _ _ h)) (subst (λ x. Above x es) (equal e.name n h) a, s)
    by (inr h) (inl o) next =
        subst (λ l. Sorted l) (sym (picked-false (bytes_eq e.name n) _ _ h ∙ picked-true (is_before n e.name) _ _ o))
        ((before-true n e.name o, above-below n e.name es (before-true n e.name o) a), (a, s))
    by (inr h) (inr o) next =
        subst (λ l. Sorted l) (sym (picked-false (bytes_eq e.name n) _ _ h ∙ picked-false (is_before n e.name) _ _ o)) (put-above e.name es n t a (after h o), next)

-- ---- a definition that is taken out

without-above : (m : Text) (es : List Named) (n : Text) → Above m es → Above m (without es n)
without-above m [] n a = tt
without-above m (e ∷ es) n (b, a) = by (choice (bytes_eq e.name n)) (without-above m es n a)
  where
    by : (bytes_eq e.name n ≡ true) ⊎ (bytes_eq e.name n ≡ false) → Above m (without es n) → Above m (without (e ∷ es) n)
    by (inl h) next = subst (λ l. Above m l) (sym (picked-true (bytes_eq e.name n) _ _ h)) a
    by (inr h) next = subst (λ l. Above m l) (sym (picked-false (bytes_eq e.name n) _ _ h)) (b, next)

pub without-sorted : (es : List Named) (n : Text) → Sorted es → Sorted (without es n)
without-sorted [] n s = tt
without-sorted (e ∷ es) n (a, s) = by (choice (bytes_eq e.name n)) (without-sorted es n s)
  where
    by : (bytes_eq e.name n ≡ true) ⊎ (bytes_eq e.name n ≡ false) → Sorted (without es n) → Sorted (without (e ∷ es) n)
    by (inl h) next = subst (λ l. Sorted l) (sym (picked-true (bytes_eq e.name n) _ _ h)) s
    by (inr h) next = subst (λ l. Sorted l) (sym (picked-false (bytes_eq e.name n) _ _ h)) (without-above e.name es n a, next)

pub without-here : (es : List Named) (n : Text) → Sorted es → lookup (without es n) n ≡ None
without-here [] n s = refl
without-here (e ∷ es) n (a, s) = by (choice (bytes_eq e.name n)) (without-here es n s)
  where
    by : (bytes_eq e.name n ≡ true) ⊎ (bytes_eq e.name n ≡ false) → lookup (without es n) n ≡ None → lookup (without (e ∷ es) n) n ≡ None
    by (inl h) next = ap (λ l. lookup l n) (picked-true (bytes_eq e.name n) _ _ h) ∙ above-none n es (subst (λ x. Above x es) (equal e.name n h) a)
    by (inr h) next = ap (λ l. lookup l n) (picked-false (bytes_eq e.name n) _ _ h) ∙ (lookup-there e (without es n) n h ∙ next)

pub without-there : (es : List Named) (n q : Text) → bytes_eq n q ≡ false → lookup (without es n) q ≡ lookup es q
without-there [] n q k = refl
without-there (e ∷ es) n q k = by (choice (bytes_eq e.name n)) (without-there es n q k)
  where
    by : (bytes_eq e.name n ≡ true) ⊎ (bytes_eq e.name n ≡ false) → lookup (without es n) q ≡ lookup es q → lookup (without (e ∷ es) n) q ≡ lookup (e ∷ es) q
    by (inl h) next =
        let other : bytes_eq e.name q ≡ false = subst (λ x. bytes_eq x q ≡ false) (sym (equal e.name n h)) k in
        ap (λ l. lookup l q) (picked-true (bytes_eq e.name n) _ _ h) ∙ sym (lookup-there e es q other)
    by (inr h) next =
        ap (λ l. lookup l q) (picked-false (bytes_eq e.name n) _ _ h) ∙ ap (λ x. elim (bytes_eq e.name q) [ true ↦ Some e.term | false ↦ x ]) next
