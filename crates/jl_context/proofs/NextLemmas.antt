-- The least name above another is that of the next term.
use Rattle.std.proofs.Common.{cond, zero, ◌≡◌, ◌⊎◌, ℕ, suc, ◌<◌, inl, inr, refl, sym, ap, subst, ◌∙◌, Bool, true, false, ◌&&◌, ◌||◌, List, [], ◌∷◌, ◌++◌, take, length, get_or, Option, Some, None, is_some, option_map, bytes_eq, Vec, Global, arith}
use Rattle.std.specs.declared.rc.Rc.{Rc}
use Rattle.std.proofs.lemmas.Bool.{and_from, and_parts}
use Rattle.jl_defs.specs.Texts.{Text, is_before, is_among}
use Rattle.jl_defs.specs.Context.{Named, lookup}
use Rattle.jl_context.specs.declared.layers.Layer.{Layer}
use Rattle.jl_context.specs.Layers.{Slots, Shared, slots_of, raw_slot, layered, layers_in, seen}
use Rattle.jl_context.specs.NextTerms.{named, is_above, next_named, is_first, lesser, least, names_in, all_names}
use Rattle.jl_context.proofs.Bools.{true-false, picked-true, picked-false, choice}
use Rattle.jl_context.proofs.NameOrder.{Before, before-true, true-before, passed-on, not-before}
use Rattle.jl_context.proofs.SortedTerms.{Sorted, Above, same, equal, differ, turned}
use Rattle.jl_context.proofs.LayerLemmas.{decided, over-lookup, layers-sorted}

-- ---- folds

pub least-end : (es : List Named) (after found : Option Text) (ns : List Text) (n : Text) → least es after found (ns ++ n ∷ []) ≡ lesser es after (least es after found ns) n
least-end es after found [] n = refl
least-end es after found (m ∷ ms) n = least-end es after (lesser es after found m) ms n

pub least-both : (es : List Named) (after found : Option Text) (ns ms : List Text) → least es after found (ns ++ ms) ≡ least es after (least es after found ns) ms
least-both es after found [] ms = refl
least-both es after found (n ∷ ns) ms = least-both es after (lesser es after found n) ns ms

pub names-end : (xs : Slots) (e : Vec ℕ Global × Option Shared) → names_in (xs ++ e ∷ []) ≡ names_in xs ++ e.0.items ∷ []
names-end [] e = refl
names-end (x ∷ xs) e = ap (λ l. x.0.items ∷ l) (names-end xs e)

-- one more layer
pub least-more : (es : List Named) (after : Option Text) (rs : List (Rc Layer Global)) (i : ℕ) (r : Rc Layer Global) (found : Option Text) → i < length rs → r ≡ get_or rs i r
    → least es after found (all_names (layers_in (take (suc i) rs))) ≡ least es after (least es after found (all_names (layers_in (take i rs)))) (names_in (slots_of r.value))
least-more es after [] i r found within e = let no : ⊥ = omega (arith, within) in absurd no
least-more es after (x ∷ xs) zero r found within e =
    least-both es after found (names_in (slots_of x.value)) [] ∙ ap (λ y. least es after found (names_in (slots_of y.value))) (sym e)
least-more es after (x ∷ xs) (suc i) r found within e =
    let next : i < length xs = omega (arith, within) in
    least-both es after found (names_in (slots_of x.value)) (all_names (layers_in (take (suc i) xs)))
    ∙ (least-more es after xs i r (least es after found (names_in (slots_of x.value))) next e
    ∙ ap (λ f. least es after f (names_in (slots_of r.value))) (sym (least-both es after found (names_in (slots_of x.value)) (all_names (layers_in (take i xs))))))

-- ---- what is found

-- a term above a name
abbrev Comes : List Named → Option Text → Text → Type 0
Comes es after q = (is_above after q ≡ true) × (is_some (lookup es q) ≡ true)

abbrev AllCome : List Named → Option Text → Option Text → Type 0
AllCome es after None = Unit {0}
AllCome es after (Some n) = Comes es after n

-- no more than a name
abbrev AtMost : Option Text → Text → Type 0
AtMost None q = ⊥
AtMost (Some n) q = is_before q n ≡ false

not-self : (n : Text) → is_before n n ≡ false
not-self n = by (is_before n n) refl
  where
    by : (b : Bool) → is_before n n ≡ b → b ≡ false
    by true e = absurd (not-before n (before-true n n e))
    by false e = refl

-- what isn't before a name isn't before an earlier one
not-earlier : (q n m : Text) → is_before n m ≡ true → is_before q m ≡ false → is_before q n ≡ false
not-earlier q n m e f = by (is_before q n) refl
  where
    by : (b : Bool) → is_before q n ≡ b → b ≡ false
    by true g = absurd (true-false (sym (true-before q m (passed-on q n m (before-true q n g) (before-true n m e))) ∙ f))
    by false g = refl

taken : (es : List Named) (after found : Option Text) (n : Text) → (is_above after n && (is_first found n && is_some (lookup es n))) ≡ true → lesser es after found n ≡ Some n
taken es after found n e = picked-true (is_above after n && (is_first found n && is_some (lookup es n))) _ _ e

left : (es : List Named) (after found : Option Text) (n : Text) → (is_above after n && (is_first found n && is_some (lookup es n))) ≡ false → lesser es after found n ≡ found
left es after found n e = picked-false (is_above after n && (is_first found n && is_some (lookup es n))) _ _ e

lesser-comes : (es : List Named) (after found : Option Text) (n : Text) → AllCome es after found → AllCome es after (lesser es after found n)
lesser-comes es after found n h = by (choice (is_above after n && (is_first found n && is_some (lookup es n))))
  where
    by : ((is_above after n && (is_first found n && is_some (lookup es n))) ≡ true) ⊎ ((is_above after n && (is_first found n && is_some (lookup es n))) ≡ false) → AllCome es after (lesser es after found n)
    by (inl e) =
        let p = and_parts (is_above after n) (is_first found n && is_some (lookup es n)) e in
        let q = and_parts (is_first found n) (is_some (lookup es n)) p.1 in
        subst (AllCome es after) (sym (taken es after found n e)) (p.0, q.1)
    by (inr e) = subst (AllCome es after) (sym (left es after found n e)) h

lesser-keeps : (es : List Named) (after found : Option Text) (n q : Text) → AtMost found q → AtMost (lesser es after found n) q
lesser-keeps es after None n q h = absurd h
lesser-keeps es after (Some m) n q h = by (choice (is_above after n && (is_before n m && is_some (lookup es n))))
  where
    by : ((is_above after n && (is_before n m && is_some (lookup es n))) ≡ true) ⊎ ((is_above after n && (is_before n m && is_some (lookup es n))) ≡ false) → AtMost (lesser es after (Some m) n) q
    by (inl e) =
        let p = and_parts (is_above after n) (is_before n m && is_some (lookup es n)) e in
        let b = and_parts (is_before n m) (is_some (lookup es n)) p.1 in
        subst (λ o. AtMost o q) (sym (taken es after (Some m) n e)) (not-earlier q n m b.0 h)
    by (inr e) = subst (λ o. AtMost o q) (sym (left es after (Some m) n e)) h

lesser-takes : (es : List Named) (after found : Option Text) (n : Text) → Comes es after n → AtMost (lesser es after found n) n
lesser-takes es after found n (a, s) = by found (choice (is_first found n)) refl
  where
    by : (f : Option Text) → (is_first f n ≡ true) ⊎ (is_first f n ≡ false) → f ≡ found → AtMost (lesser es after found n) n
    by f (inl e) g =
        let first : is_first found n ≡ true = subst (λ x. is_first x n ≡ true) g e in
        subst (λ o. AtMost o n) (sym (taken es after found n (and_from (is_above after n) (is_first found n && is_some (lookup es n)) a (and_from (is_first found n) (is_some (lookup es n)) first s)))) (not-self n)
    by None (inr e) g = absurd (true-false e)
    by (Some m) (inr e) g =
        let no : (is_above after n && (is_before n m && is_some (lookup es n))) ≡ false = ap (λ b. is_above after n && (b && is_some (lookup es n))) e ∙ and-false (is_above after n) in
        subst (λ o. AtMost (lesser es after o n) n) g (subst (λ o. AtMost o n) (sym (left es after (Some m) n no)) e)
      where
        and-false : (b : Bool) → (b && false) ≡ false
        and-false true = refl
        and-false false = refl

least-keeps : (es : List Named) (after found : Option Text) (ns : List Text) (q : Text) → AtMost found q → AtMost (least es after found ns) q
least-keeps es after found [] q h = h
least-keeps es after found (n ∷ ns) q h = least-keeps es after (lesser es after found n) ns q (lesser-keeps es after found n q h)

least-comes : (es : List Named) (after found : Option Text) (ns : List Text) → AllCome es after found → AllCome es after (least es after found ns)
least-comes es after found [] h = h
least-comes es after found (n ∷ ns) h = least-comes es after (lesser es after found n) ns (lesser-comes es after found n h)

least-all : (es : List Named) (after found : Option Text) (ns : List Text) (q : Text) → is_among ns q ≡ true → Comes es after q → AtMost (least es after found ns) q
least-all es after found [] q e h = absurd (true-false (sym e))
least-all es after found (n ∷ ns) q e h = by (choice (bytes_eq n q)) (least-all es after (lesser es after found n) ns q)
  where
    by : (bytes_eq n q ≡ true) ⊎ (bytes_eq n q ≡ false) → (is_among ns q ≡ true → Comes es after q → AtMost (least es after (lesser es after found n) ns) q) → AtMost (least es after (lesser es after found n) ns) q
    by (inl f) next = least-keeps es after (lesser es after found n) ns q (subst (λ m. AtMost (lesser es after found m) q) (sym (equal n q f)) (lesser-takes es after found q h))
    by (inr f) next = next (sym (ap (λ b. b || is_among ns q) f) ∙ e) h

-- ---- each term is a name of some layer

unsaid : (es : Slots) (q : Text) → is_among (names_in es) q ≡ false → raw_slot es q ≡ None
unsaid [] q e = refl
unsaid (x ∷ xs) q e = by (choice (bytes_eq x.0.items q)) (unsaid xs q)
  where
    by : (bytes_eq x.0.items q ≡ true) ⊎ (bytes_eq x.0.items q ≡ false) → (is_among (names_in xs) q ≡ false → raw_slot xs q ≡ None) → raw_slot (x ∷ xs) q ≡ None
    by (inl f) next = absurd (true-false (sym (ap (λ b. b || is_among (names_in xs) q) f) ∙ e))
    by (inr f) next = cond-skip (bytes_eq q x.0.items) (Some x.1) (raw_slot xs q) (turned x.0.items q f) ∙ next (sym (ap (λ b. b || is_among (names_in xs) q) f) ∙ e)
      where
        cond-skip : {A : Type 0} (b : Bool) (y z : A) → b ≡ false → cond b y z ≡ z
        cond-skip true y z g = absurd (true-false g)
        cond-skip false y z g = refl

among-both : (ns ms : List Text) (q : Text) → is_among (ns ++ ms) q ≡ (is_among ns q || is_among ms q)
among-both [] ms q = refl
among-both (n ∷ ns) ms q = by (bytes_eq n q) (among-both ns ms q)
  where
    by : (b : Bool) → is_among (ns ++ ms) q ≡ (is_among ns q || is_among ms q) → (b || is_among (ns ++ ms) q) ≡ ((b || is_among ns q) || is_among ms q)
    by true next = refl
    by false next = next

or-false : (a b : Bool) → (a || b) ≡ false → (a ≡ false) × (b ≡ false)
or-false true b e = absurd (true-false e)
or-false false b e = (refl, e)

no-term : (ls : List Layer) (q : Text) → is_among (all_names ls) q ≡ false → lookup (layered ls) q ≡ None
no-term [] q e = refl
no-term (l ∷ ls) q e =
    let p = or-false (is_among (names_in (slots_of l)) q) (is_among (all_names ls) q) (sym (among-both (names_in (slots_of l)) (all_names ls) q) ∙ e) in
    over-lookup (slots_of l) (layered ls) q (layers-sorted ls)
    ∙ (ap (λ o. decided (option_map seen o) (lookup (layered ls) q)) (unsaid (slots_of l) q p.0) ∙ no-term ls q p.1)

term-among : (ls : List Layer) (q : Text) → is_some (lookup (layered ls) q) ≡ true → is_among (all_names ls) q ≡ true
term-among ls q e = by (is_among (all_names ls) q) refl
  where
    by : (b : Bool) → is_among (all_names ls) q ≡ b → b ≡ true
    by true f = refl
    by false f = absurd (true-false (sym e ∙ ap is_some (no-term ls q f)))

-- ---- the sorted list

abbrev or_that : {A : Type 0} → A → Option A → A
or_that d None = d
or_that d (Some y) = y

some-same : {A : Type 0} {x y : A} → Some x ≡ Some y → x ≡ y
some-same {x = x} e = ap (or_that x) e

none-some : {A : Type 0} {x : A} → None ≡ Some x → ⊥
none-some e = cc

looked-above : (n x : Text) (es : List Named) → Above n es → is_some (lookup es x) ≡ true → Before n x
looked-above n x [] a e = absurd (true-false (sym e))
looked-above n x (f ∷ fs) (b, a) e = by (choice (bytes_eq f.name x)) (looked-above n x fs a)
  where
    by : (bytes_eq f.name x ≡ true) ⊎ (bytes_eq f.name x ≡ false) → (is_some (lookup fs x) ≡ true → Before n x) → Before n x
    by (inl h) next = subst (Before n) (equal f.name x h) b
    by (inr h) next = next (ap is_some (sym (picked-false (bytes_eq f.name x) _ _ h)) ∙ e)

-- the first term above a name is there
next-here : (es : List Named) (after : Option Text) (e : Named) → Sorted es → next_named es after ≡ Some e → (is_above after e.name ≡ true) × (lookup es e.name ≡ Some e.term)
next-here [] after e s h = absurd (none-some h)
next-here (f ∷ fs) after e (a, s) h = by (choice (is_above after f.name)) (next-here fs after e s)
  where
    by : (is_above after f.name ≡ true) ⊎ (is_above after f.name ≡ false) → (next_named fs after ≡ Some e → (is_above after e.name ≡ true) × (lookup fs e.name ≡ Some e.term)) → (is_above after e.name ≡ true) × (lookup (f ∷ fs) e.name ≡ Some e.term)
    by (inl g) next =
        let here : f ≡ e = some-same (sym (picked-true (is_above after f.name) _ _ g) ∙ h) in
        subst (λ x. (is_above after x.name ≡ true) × (lookup (f ∷ fs) x.name ≡ Some x.term)) here (g, picked-true (bytes_eq f.name f.name) _ _ (same f.name f.name refl))
    by (inr g) next =
        let p = next (sym (picked-false (is_above after f.name) _ _ g) ∙ h) in
        let later : Before f.name e.name = looked-above f.name e.name fs a (ap is_some p.1) in
        let other : bytes_eq f.name e.name ≡ false = differ f.name e.name (λ q. not-before e.name (subst (λ x. Before x e.name) q later)) in
        (p.0, picked-false (bytes_eq f.name e.name) _ _ other ∙ p.1)

-- and none comes before it
next-first : (es : List Named) (after : Option Text) (e : Named) (x : Text) → Sorted es → next_named es after ≡ Some e → Comes es after x → (e.name ≡ x) ⊎ Before e.name x
next-first [] after e x s h c = absurd (none-some h)
next-first (f ∷ fs) after e x (a, s) h (u, l) = by (choice (is_above after f.name)) (choice (bytes_eq f.name x)) (next-first fs after e x s)
  where
    by : (is_above after f.name ≡ true) ⊎ (is_above after f.name ≡ false) → (bytes_eq f.name x ≡ true) ⊎ (bytes_eq f.name x ≡ false) → (next_named fs after ≡ Some e → Comes fs after x → (e.name ≡ x) ⊎ Before e.name x) → (e.name ≡ x) ⊎ Before e.name x
    by (inl g) (inl k) next = inl (ap (λ y. y.name) (sym (some-same (sym (picked-true (is_above after f.name) _ _ g) ∙ h))) ∙ equal f.name x k)
    by (inl g) (inr k) next =
        let here : f ≡ e = some-same (sym (picked-true (is_above after f.name) _ _ g) ∙ h) in
        inr (subst (λ y. Before y.name x) here (looked-above f.name x fs a (ap is_some (sym (picked-false (bytes_eq f.name x) _ _ k)) ∙ l)))
    by (inr g) (inl k) next = absurd (true-false (sym u ∙ subst (λ y. is_above after y ≡ false) (equal f.name x k) g))
    by (inr g) (inr k) next = next (sym (picked-false (is_above after f.name) _ _ g) ∙ h) (u, ap is_some (sym (picked-false (bytes_eq f.name x) _ _ k)) ∙ l)

next-none : (es : List Named) (after : Option Text) (x : Text) → next_named es after ≡ None → Comes es after x → ⊥
next-none [] after x h c = true-false (sym c.1)
next-none (f ∷ fs) after x h (u, l) = by (choice (is_above after f.name)) (choice (bytes_eq f.name x)) (next-none fs after x)
  where
    by : (is_above after f.name ≡ true) ⊎ (is_above after f.name ≡ false) → (bytes_eq f.name x ≡ true) ⊎ (bytes_eq f.name x ≡ false) → (next_named fs after ≡ None → Comes fs after x → ⊥) → ⊥
    by (inl g) k next = none-some (sym h ∙ picked-true (is_above after f.name) _ _ g)
    by (inr g) (inl k) next = true-false (sym u ∙ subst (λ y. is_above after y ≡ false) (equal f.name x k) g)
    by (inr g) (inr k) next = next (sym (picked-false (is_above after f.name) _ _ g) ∙ h) (u, ap is_some (sym (picked-false (bytes_eq f.name x) _ _ k)) ∙ l)

-- the least name is the next term's
least-next : (ls : List Layer) (after : Option Text) (r : Option Text) → least (layered ls) after None (all_names ls) ≡ r → option_map (λ e. e.name) (next_named (layered ls) after) ≡ r
least-next ls after r is = by (next_named (layered ls) after) refl r is
  where
    comes : (o : Option Text) → least (layered ls) after None (all_names ls) ≡ o → AllCome (layered ls) after o
    comes o e = subst (AllCome (layered ls) after) e (least-comes (layered ls) after None (all_names ls) tt)

    by : (n : Option Named) → next_named (layered ls) after ≡ n → (o : Option Text) → least (layered ls) after None (all_names ls) ≡ o → option_map (λ e. e.name) n ≡ o
    by None h None e = refl
    by None h (Some x) e = absurd (next-none (layered ls) after x h (comes (Some x) e))
    by (Some f) h o e = found o e (subst (λ x. AtMost x f.name) e (least-all (layered ls) after None (all_names ls) f.name (term-among ls f.name there) (here.0, there)))
      where
        here : (is_above after f.name ≡ true) × (lookup (layered ls) f.name ≡ Some f.term)
        here = next-here (layered ls) after f (layers-sorted ls) h

        there : is_some (lookup (layered ls) f.name) ≡ true
        there = ap is_some here.1

        found : (p : Option Text) → least (layered ls) after None (all_names ls) ≡ p → AtMost p f.name → Some f.name ≡ p
        found None g m = absurd m
        found (Some x) g m = join (next-first (layered ls) after f x (layers-sorted ls) h (comes (Some x) g))
          where
            join : (f.name ≡ x) ⊎ Before f.name x → Some f.name ≡ Some x
            join (inl q) = ap Some q
            join (inr q) = absurd (true-false (sym (true-before f.name x q) ∙ m))

-- and so is its definition
pub next-term : (ls : List Layer) (after : Option Text) (x : Text) → least (layered ls) after None (all_names ls) ≡ Some x → option_map (named x) (lookup (layered ls) x) ≡ next_named (layered ls) after
next-term ls after x is = by (next_named (layered ls) after) refl (least-next ls after (Some x) is)
  where
    by : (n : Option Named) → next_named (layered ls) after ≡ n → option_map (λ e. e.name) n ≡ Some x → option_map (named x) (lookup (layered ls) x) ≡ n
    by None h e = absurd (none-some e)
    by (Some f) h e =
        let name : f.name ≡ x = some-same e in
        subst (λ y. option_map (named y) (lookup (layered ls) y) ≡ Some f) name (ap (option_map (named f.name)) (next-here (layered ls) after f (layers-sorted ls) h).1)

pub next-nothing : (ls : List Layer) (after : Option Text) → least (layered ls) after None (all_names ls) ≡ None → next_named (layered ls) after ≡ None
next-nothing ls after is = by (next_named (layered ls) after) refl (least-next ls after None is)
  where
    by : (n : Option Named) → next_named (layered ls) after ≡ n → option_map (λ e. e.name) n ≡ None → n ≡ None
    by None h e = refl
    by (Some f) h e = absurd (none-some (sym e))
