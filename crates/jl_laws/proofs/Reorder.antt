-- What doesn't hang on the order of members: sums, and what one member alone tells.
use Rattle.std.proofs.Common.{ℕ, zero, suc, ◌+◌, ◌≤◌, ◌<◌, ◌≡◌, ◌⊎◌, inl, inr, refl, sym, ◌∙◌, ap, subst, Bool, true, false, ◌||◌, List, [], ◌∷◌, length, Option, Some, None, filter, bytes_eq, codes, cond, arith}
use Rattle.std.specs.List.{list_any}
use Rattle.std.proofs.lemmas.Slice.Eq.{bytes_eq-Decides}
use Rattle.jl_model.specs.JsonTree.{Tree, scalar, array, object, Members, no_member, member}
use Rattle.jl_model.specs.declared.scalars.Scalar.TheVariants.{Str}
use Rattle.jl_defs.specs.Texts.{Text, is_before}
use Rattle.jl_defs.specs.Trees.{member_named, then_members}
use Rattle.jl_defs.specs.Context.{Context}
use Rattle.jl_defs.specs.Keys
use Rattle.jl_defs.specs.Keys.{Key, key_of, is_graph, is_language, is_id, is_index}
use Rattle.jl_defs.specs.ObjectContexts.{Own, is_context_name, any_context, Look, look_at, all_looks, put_look, sorted_looks, means_kind, type_keys}
use Rattle.jl_defs.specs.ValueObjects.{first_with, all_with, not_one, type_of_values}
use Rattle.jl_defs.specs.Kept.{is_only_language}
use Rattle.jl_defs.specs.Graphs.{is_graph_alone, without_names}
use Rattle.jl_defs.specs.Sets.{tally}
use Rattle.jl_laws.specs.Reordering.{Reordered, HasNamesOnce}
use Rattle.jl_laws.proofs.Bools.{true-false, picked-true, picked-false, choice, both-ways}
use Rattle.jl_laws.proofs.NameOrder.{before-other, not-both, before-between}

-- a sum over members
abbrev pub sum : (ℕ → Text → Tree → ℕ) → Members → ℕ
sum g no_member = 0
sum g (member a n v rest) = g a n v + sum g rest

sum-moved : (g : ℕ → Text → Tree → ℕ) (front : Members) (a : ℕ) (n : Text) (v : Tree) (back : Members) →
    sum g (then_members front (member a n v back)) ≡ g a n v + sum g (then_members front back)
sum-moved g no_member a n v back = refl
sum-moved g (member b m w front) a n v back = omega (arith, sum-moved g front a n v back)

pub sum-same : (g : ℕ → Text → Tree → ℕ) (ms ns : Members) → Reordered ms ns → sum g ms ≡ sum g ns
sum-same g no_member ns e = ap (sum g) (sym e)
sum-same g (member a n v rest) ns (front, back, e, r) =
    omega (arith, ap (sum g) e, sum-moved g front a n v back, sum-same g rest (then_members front back) r)

abbrev pub one_if : Bool → ℕ
one_if true = 1
one_if false = 0

-- how many members have such a key
abbrev pub count : (Key → Bool) → Context → Members → ℕ
count test d ms = sum (λ a n v. one_if (test (key_of d n))) ms

pub one-true : (b : Bool) → b ≡ true → one_if b ≡ 1
one-true true e = refl
one-true false e = absurd cc

pub one-false : (b : Bool) → b ≡ false → one_if b ≡ 0
one-false true e = absurd (true-false e)
one-false false e = refl

-- the first member with such a key, where there is at most one
first-none : (test : Key → Bool) (d : Context) (ms : Members) → count test d ms ≡ 0 → first_with test d ms ≡ None
first-none test d no_member e = refl
first-none test d (member a n v rest) e = by (test (key_of d n)) refl (λ e'. first-none test d rest e')
  where
    by : (b : Bool) → test (key_of d n) ≡ b → (count test d rest ≡ 0 → first_with test d rest ≡ None) → ◌≡◌ {A = Option Tree} (elim b [ true ↦ Some v | false ↦ first_with test d rest ]) None
    by true h next = absurd (omega (arith, e, one-true (test (key_of d n)) h))
    by false h next = next (omega (arith, e, one-false (test (key_of d n)) h))

first-moved : (test : Key → Bool) (d : Context) (front : Members) (a : ℕ) (n : Text) (v : Tree) (back : Members) → count test d (then_members front (member a n v back)) ≤ 1 →
    first_with test d (then_members front (member a n v back)) ≡ first_with test d (member a n v (then_members front back))
first-moved test d no_member a n v back l = refl
first-moved test d (member b m w front) a n v back l =
    by (test (key_of d m)) (test (key_of d n)) refl refl (λ l'. first-moved test d front a n v back l')
  where
    here : Members
    here = then_members front (member a n v back)

    left : Members
    left = then_members front back

    by : (x y : Bool) → test (key_of d m) ≡ x → test (key_of d n) ≡ y →
        (count test d here ≤ 1 → first_with test d here ≡ (elim (test (key_of d n)) [ true ↦ Some v | false ↦ first_with test d left ])) →
        ◌≡◌ {A = Option Tree} (elim x [ true ↦ Some w | false ↦ first_with test d here ]) (elim y [ true ↦ Some v | false ↦ elim x [ true ↦ Some w | false ↦ first_with test d left ] ])
    by true true e f next = absurd (omega (arith, l, one-true (test (key_of d m)) e, one-true (test (key_of d n)) f, sum-moved (λ a n v. one_if (test (key_of d n))) front a n v back))
    by true false e f next = refl
    by false true e f next = next (omega (arith, l)) ∙ picked-true (test (key_of d n)) _ _ f
    by false false e f next = next (omega (arith, l)) ∙ picked-false (test (key_of d n)) _ _ f

pub first-same : (test : Key → Bool) (d : Context) (ms ns : Members) → Reordered ms ns → count test d ns ≤ 1 → first_with test d ms ≡ first_with test d ns
first-same test d no_member ns e l = ap (first_with test d) (sym e)
first-same test d (member a n v rest) ns (front, back, e, r) l =
    let moved = then_members front (member a n v back) in
    let l' : count test d moved ≤ 1 = subst (λ ns. count test d ns ≤ 1) e l in
    let g = λ (a : ℕ) (n : Text) (v : Tree). one_if (test (key_of d n)) in
    ap (λ x. elim (test (key_of d n)) [ true ↦ Some v | false ↦ x ])
    (first-same test d rest (then_members front back) r (omega (arith, l', sum-moved g front a n v back)))
    ∙ (sym (first-moved test d front a n v back l') ∙ ap (first_with test d) (sym e))

-- all values of such keys: at most one, or several
abbrev listed : Option Tree → List Tree
listed None = []
listed (Some v) = v ∷ []

all-none : (test : Key → Bool) (d : Context) (ms : Members) → count test d ms ≡ 0 → all_with test d ms ≡ []
all-none test d no_member e = refl
all-none test d (member a n v rest) e = by (test (key_of d n)) refl (λ e'. all-none test d rest e')
  where
    by : (b : Bool) → test (key_of d n) ≡ b → (count test d rest ≡ 0 → all_with test d rest ≡ []) → ◌≡◌ {A = List Tree} (elim b [ true ↦ v ∷ all_with test d rest | false ↦ all_with test d rest ]) []
    by true h next = absurd (omega (arith, e, one-true (test (key_of d n)) h))
    by false h next = next (omega (arith, e, one-false (test (key_of d n)) h))

all-listed : (test : Key → Bool) (d : Context) (ms : Members) → count test d ms ≤ 1 → all_with test d ms ≡ listed (first_with test d ms)
all-listed test d no_member l = refl
all-listed test d (member a n v rest) l = by (test (key_of d n)) refl (λ l'. all-listed test d rest l')
  where
    by : (b : Bool) → test (key_of d n) ≡ b → (count test d rest ≤ 1 → all_with test d rest ≡ listed (first_with test d rest)) →
        (elim b [ true ↦ v ∷ all_with test d rest | false ↦ all_with test d rest ]) ≡ listed (elim b [ true ↦ Some v | false ↦ first_with test d rest ])
    by true h next = ap (λ l. v ∷ l) (all-none test d rest (omega (arith, l, one-true (test (key_of d n)) h)))
    by false h next = next (omega (arith, l))

all-length : (test : Key → Bool) (d : Context) (ms : Members) → length (all_with test d ms) ≡ count test d ms
all-length test d no_member = refl
all-length test d (member a n v rest) = by (test (key_of d n)) (all-length test d rest)
  where
    by : (b : Bool) → length (all_with test d rest) ≡ count test d rest → length {A = Tree} (elim b [ true ↦ v ∷ all_with test d rest | false ↦ all_with test d rest ]) ≡ one_if b + count test d rest
    by true h = omega (arith, h)
    by false h = omega (arith, h)

several : (b : Context) (vs : List Tree) → 2 ≤ length vs → type_of_values b vs ≡ not_one
several b [] l = absurd (omega (arith, l))
several b (v ∷ []) l = absurd (omega (arith, l))
several b (v ∷ w ∷ ws) l = refl

at-most : (n : ℕ) → (n ≤ 1) ⊎ (2 ≤ n)
at-most zero = inl (omega arith)
at-most (suc zero) = inl (omega arith)
at-most (suc (suc n)) = inr (omega arith)

pub type-same : (test : Key → Bool) (b d : Context) (ms ns : Members) → Reordered ms ns → type_of_values b (all_with test d ms) ≡ type_of_values b (all_with test d ns)
type-same test b d ms ns r = by (at-most (count test d ns))
  where
    same : count test d ms ≡ count test d ns
    same = sum-same (λ a n v. one_if (test (key_of d n))) ms ns r

    by : (count test d ns ≤ 1) ⊎ (2 ≤ count test d ns) → type_of_values b (all_with test d ms) ≡ type_of_values b (all_with test d ns)
    by (inl l) =
        ap (type_of_values b)
        (all-listed test d ms (omega (arith, l, same)) ∙ (ap listed (first-same test d ms ns r l) ∙ sym (all-listed test d ns l)))
    by (inr l) =
        several b (all_with test d ms) (omega (arith, l, same, all-length test d ms))
        ∙ sym (several b (all_with test d ns) (omega (arith, l, all-length test d ns)))

-- lists with the same counts
abbrev pub SameCounts : {A : Type 0} → List A → List A → Type 0
SameCounts {A = A} xs ys = (g : A → ℕ) → tally g xs ≡ tally g ys

any-some : {A : Type 0} (test : A → Bool) (xs : List A) → list_any test xs ≡ true → 0 < tally (λ x. one_if (test x)) xs
any-some test [] e = absurd cc
any-some test (x ∷ xs) e = by (choice (test x)) (λ e'. any-some test xs e')
  where
    by : (test x ≡ true) ⊎ (test x ≡ false) → (list_any test xs ≡ true → 0 < tally (λ x. one_if (test x)) xs) → 0 < one_if (test x) + tally (λ x. one_if (test x)) xs
    by (inl h) next = omega (arith, one-true (test x) h)
    by (inr h) next = omega (arith, next (subst (λ b. (b || list_any test xs) ≡ true) h e))

some-any : {A : Type 0} (test : A → Bool) (xs : List A) → 0 < tally (λ x. one_if (test x)) xs → list_any test xs ≡ true
some-any test [] l = absurd (omega (arith, l))
some-any test (x ∷ xs) l = by (test x) refl (λ l'. some-any test xs l')
  where
    by : (b : Bool) → test x ≡ b → (0 < tally (λ x. one_if (test x)) xs → list_any test xs ≡ true) → (b || list_any test xs) ≡ true
    by true e next = refl
    by false e next = next (omega (arith, l, one-false (test x) e))

pub any-same : {A : Type 0} (test : A → Bool) (xs ys : List A) → SameCounts xs ys → list_any test xs ≡ list_any test ys
any-same test xs ys h =
    both-ways (λ e. some-any test ys (omega (arith, any-some test xs e, h (λ x. one_if (test x)))))
    (λ e. some-any test xs (omega (arith, any-some test ys e, h (λ x. one_if (test x)))))

-- the one item of a list, and no other
abbrev pub is_single : {A : Type 0} → (A → Bool) → List A → Bool
is_single test (x ∷ []) = test x
is_single test [] = false
is_single test (x ∷ y ∷ xs) = false

one-same : (b d : Bool) → one_if b ≡ one_if d → b ≡ d
one-same true true e = refl
one-same true false e = absurd (omega (arith, e))
one-same false true e = absurd (omega (arith, e))
one-same false false e = refl

pub single-same : {A : Type 0} (test : A → Bool) (xs ys : List A) → SameCounts xs ys → is_single test xs ≡ is_single test ys
single-same test [] [] h = refl
single-same test [] (y ∷ []) h = absurd (omega (arith, h (λ x. 1)))
single-same test [] (y ∷ z ∷ ys) h = refl
single-same test (x ∷ []) [] h = absurd (omega (arith, h (λ x. 1)))
single-same test (x ∷ []) (y ∷ []) h = one-same (test x) (test y) (omega (arith, h (λ x. one_if (test x))))
single-same test (x ∷ []) (y ∷ z ∷ ys) h = absurd (omega (arith, h (λ x. 1)))
single-same test (x ∷ w ∷ xs) [] h = refl
single-same test (x ∷ w ∷ xs) (y ∷ []) h = absurd (omega (arith, h (λ x. 1)))
single-same test (x ∷ w ∷ xs) (y ∷ z ∷ ys) h = refl

language-single : (ks : List Key) → is_only_language ks ≡ is_single is_language ks
language-single [] = refl
language-single (k ∷ []) = by k
  where
    by : (k : Key) → is_only_language (k ∷ []) ≡ is_language k
    by Keys.language = refl
    by k = refl
language-single (k ∷ l ∷ ks) = by k
  where
    by : (k : Key) → is_only_language (k ∷ l ∷ ks) ≡ false
    by Keys.language = refl
    by k = refl

pub language-same : (ks ls : List Key) → SameCounts ks ls → is_only_language ks ≡ is_only_language ls
language-same ks ls h = language-single ks ∙ (single-same is_language ks ls h ∙ sym (language-single ls))

graph-single : (ks : List Key) → is_graph_alone ks ≡ is_single is_graph ks
graph-single [] = refl
graph-single (k ∷ []) = by k
  where
    by : (k : Key) → is_graph_alone (k ∷ []) ≡ is_graph k
    by Keys.graph = refl
    by k = refl
graph-single (k ∷ l ∷ ks) = by k
  where
    by : (k : Key) → is_graph_alone (k ∷ l ∷ ks) ≡ false
    by Keys.graph = refl
    by k = refl

pub alone-same : (ks ls : List Key) → SameCounts ks ls → is_graph_alone ks ≡ is_graph_alone ls
alone-same ks ls h = graph-single ks ∙ (single-same is_graph ks ls h ∙ sym (graph-single ls))

names-tally : (g : Key → ℕ) (ks : List Key) → tally g (without_names ks) ≡ tally (λ k. elim (is_id k || is_index k) [ true ↦ 0 | false ↦ g k ]) ks
names-tally g [] = refl
names-tally g (k ∷ ks) = by (is_id k || is_index k) (names-tally g ks)
  where
    rest : ℕ
    rest = tally (λ k. elim (is_id k || is_index k) [ true ↦ 0 | false ↦ g k ]) ks

    by : (b : Bool) → tally g (without_names ks) ≡ rest → tally g (elim b [ true ↦ without_names ks | false ↦ k ∷ without_names ks ]) ≡ (elim b [ true ↦ 0 | false ↦ g k ]) + rest
    by true h = omega (arith, h)
    by false h = omega (arith, h)

pub names-same : (ks ls : List Key) → SameCounts ks ls → SameCounts (without_names ks) (without_names ls)
names-same ks ls h g = names-tally g ks ∙ (h (λ k. elim (is_id k || is_index k) [ true ↦ 0 | false ↦ g k ]) ∙ sym (names-tally g ls))

-- `@context`, where no name comes twice
same-name : (n m : Text) → n ≡ m → bytes_eq n m ≡ true
same-name n m e = (bytes_eq-Decides n m).1 e

names-apart : (m : Text) (front : Members) (a : ℕ) (n : Text) (v : Tree) (back : Members) → member_named m (then_members front (member a n v back)) ≡ None → n ≡ m → ⊥
names-apart m no_member a n v back e q = none-some (sym (picked-true (bytes_eq n m) _ _ (same-name n m q)) ∙ e)
  where
    none-some : {A : Type 0} {x : A} → Some x ≡ None → ⊥
    none-some e = cc
names-apart m (member b k w front) a n v back e q = by (bytes_eq k m) e (λ e'. names-apart m front a n v back e' q)
  where
    here : Members
    here = then_members front (member a n v back)

    by : (x : Bool) → ◌≡◌ {A = Option Tree} (elim x [ true ↦ Some w | false ↦ member_named m here ]) None → (member_named m here ≡ None → ⊥) → ⊥
    by true e next = cc
    by false e next = next e

named-left : (m : Text) (front : Members) (a : ℕ) (n : Text) (v : Tree) (back : Members) → member_named m (then_members front (member a n v back)) ≡ None → member_named m (then_members front back) ≡ None
named-left m no_member a n v back e = by (bytes_eq n m) e
  where
    by : (x : Bool) → ◌≡◌ {A = Option Tree} (elim x [ true ↦ Some v | false ↦ member_named m back ]) None → member_named m back ≡ None
    by true e = absurd cc
    by false e = e
named-left m (member b k w front) a n v back e = by (bytes_eq k m) e (λ e'. named-left m front a n v back e')
  where
    here : Members
    here = then_members front (member a n v back)

    left : Members
    left = then_members front back

    by : (x : Bool) → ◌≡◌ {A = Option Tree} (elim x [ true ↦ Some w | false ↦ member_named m here ]) None → (member_named m here ≡ None → member_named m left ≡ None) →
        ◌≡◌ {A = Option Tree} (elim x [ true ↦ Some w | false ↦ member_named m left ]) None
    by true e next = absurd cc
    by false e next = next e

once-left : (front : Members) (a : ℕ) (n : Text) (v : Tree) (back : Members) → HasNamesOnce (then_members front (member a n v back)) → HasNamesOnce (then_members front back)
once-left no_member a n v back h = h.1
once-left (member b m w front) a n v back h = (named-left m front a n v back h.0, once-left front a n v back h.1)

is-context : (n : Text) → is_context_name n ≡ true → n ≡ codes "@context"
is-context n e = (bytes_eq-Decides n (codes "@context")).0 e

context-moved : (front : Members) (a : ℕ) (n : Text) (v : Tree) (back : Members) → HasNamesOnce (then_members front (member a n v back)) →
    any_context (then_members front (member a n v back)) ≡ any_context (member a n v (then_members front back))
context-moved no_member a n v back h = refl
context-moved (member b m w front) a n v back h =
    by (is_context_name m) (is_context_name n) refl refl (context-moved front a n v back h.1)
  where
    here : Members
    here = then_members front (member a n v back)

    left : Members
    left = then_members front back

    o : ℕ → Tree → Own
    o a v = record { at = a; local = v }

    by : (x y : Bool) → is_context_name m ≡ x → is_context_name n ≡ y →
        any_context here ≡ (elim (is_context_name n) [ true ↦ Some (o a v) | false ↦ any_context left ]) →
        ◌≡◌ {A = Option Own} (elim x [ true ↦ Some (o b w) | false ↦ any_context here ]) (elim y [ true ↦ Some (o a v) | false ↦ elim x [ true ↦ Some (o b w) | false ↦ any_context left ] ])
    by true true e f next = absurd (names-apart m front a n v back h.0 (is-context n f ∙ sym (is-context m e)))
    by true false e f next = refl
    by false true e f next = next ∙ picked-true (is_context_name n) _ _ f
    by false false e f next = next ∙ picked-false (is_context_name n) _ _ f

pub context-same : (ms ns : Members) → Reordered ms ns → HasNamesOnce ns → any_context ms ≡ any_context ns
context-same no_member ns e h = ap any_context (sym e)
context-same (member a n v rest) ns (front, back, e, r) h =
    let h' = subst HasNamesOnce e h in
    ap (λ x. elim (is_context_name n) [ true ↦ Some (record { at = a; local = v }) | false ↦ x ]) (context-same rest (then_members front back) r (once-left front a n v back h'))
    ∙ (sym (context-moved front a n v back h') ∙ ap any_context (sym e))

-- what deciding the contexts sees
looks-sum : (g : Look → ℕ) (ms : Members) → tally g (all_looks ms) ≡ sum (λ a n v. elim (is_context_name n) [ true ↦ 0 | false ↦ g (look_at n v) ]) ms
looks-sum g no_member = refl
looks-sum g (member a n v rest) = by (is_context_name n) (looks-sum g rest)
  where
    others : ℕ
    others = sum (λ a n v. elim (is_context_name n) [ true ↦ 0 | false ↦ g (look_at n v) ]) rest

    by : (b : Bool) → tally g (all_looks rest) ≡ others → tally g (elim b [ true ↦ all_looks rest | false ↦ look_at n v ∷ all_looks rest ]) ≡ (elim b [ true ↦ 0 | false ↦ g (look_at n v) ]) + others
    by true h = omega (arith, h)
    by false h = omega (arith, h)

pub looks-same : (ms ns : Members) → Reordered ms ns → SameCounts (all_looks ms) (all_looks ns)
looks-same ms ns r g = looks-sum g ms ∙ (sum-same (λ a n v. elim (is_context_name n) [ true ↦ 0 | false ↦ g (look_at n v) ]) ms ns r ∙ sym (looks-sum g ns))

put-after : (x y : Look) (ys : List Look) → is_before y.name x.name ≡ true → put_look x (y ∷ ys) ≡ y ∷ put_look x ys
put-after x y ys e = picked-true (is_before y.name x.name) _ _ e

put-here : (x y : Look) (ys : List Look) → is_before y.name x.name ≡ false → put_look x (y ∷ ys) ≡ x ∷ (y ∷ ys)
put-here x y ys e = picked-false (is_before y.name x.name) _ _ e

put-swap : (x y : Look) (l : List Look) → (x.name ≡ y.name → ⊥) → put_look x (put_look y l) ≡ put_look y (put_look x l)
put-swap x y [] apart = by (choice (is_before y.name x.name))
  where
    by : (is_before y.name x.name ≡ true) ⊎ (is_before y.name x.name ≡ false) → put_look x (y ∷ []) ≡ put_look y (x ∷ [])
    by (inl e) = put-after x y [] e ∙ sym (put-here y x [] (not-both y.name x.name e))
    by (inr e) = put-here x y [] e ∙ sym (put-after y x [] (before-other y.name x.name (λ q. apart (sym q)) e))
put-swap x y (z ∷ zs) apart = by (choice (is_before z.name y.name)) (choice (is_before z.name x.name)) (put-swap x y zs apart)
  where
    in-front : (is_before y.name x.name ≡ true) ⊎ (is_before y.name x.name ≡ false) → is_before z.name y.name ≡ false → is_before z.name x.name ≡ false →
        put_look x (y ∷ (z ∷ zs)) ≡ put_look y (x ∷ (z ∷ zs))
    in-front (inl e) f g = put-after x y (z ∷ zs) e ∙ (ap (λ l. y ∷ l) (put-here x z zs g) ∙ sym (put-here y x (z ∷ zs) (not-both y.name x.name e)))
    in-front (inr e) f g =
        put-here x y (z ∷ zs) e
        ∙ sym (put-after y x (z ∷ zs) (before-other y.name x.name (λ q. apart (sym q)) e) ∙ ap (λ l. x ∷ l) (put-here y z zs f))

    by : (is_before z.name y.name ≡ true) ⊎ (is_before z.name y.name ≡ false) → (is_before z.name x.name ≡ true) ⊎ (is_before z.name x.name ≡ false) →
        put_look x (put_look y zs) ≡ put_look y (put_look x zs) → put_look x (put_look y (z ∷ zs)) ≡ put_look y (put_look x (z ∷ zs))
    by (inl e) (inl f) next =
        ap (put_look x) (put-after y z zs e)
        ∙ (put-after x z (put_look y zs) f
        ∙ (ap (λ l. z ∷ l) next
        ∙ (sym (put-after y z (put_look x zs) e) ∙ sym (ap (put_look y) (put-after x z zs f)))))
    by (inl e) (inr f) next =
        ap (put_look x) (put-after y z zs e)
        ∙ (put-here x z (put_look y zs) f
        ∙ sym (ap (put_look y) (put-here x z zs f) ∙ (put-after y x (z ∷ zs) (before-between x.name y.name z.name e f) ∙ ap (λ l. x ∷ l) (put-after y z zs e))))
    by (inr e) (inl f) next =
        ap (put_look x) (put-here y z zs e)
        ∙ (put-after x y (z ∷ zs) (before-between y.name x.name z.name f e)
        ∙ (ap (λ l. y ∷ l) (put-after x z zs f)
        ∙ sym (ap (put_look y) (put-after x z zs f) ∙ put-here y z (put_look x zs) e)))
    by (inr e) (inr f) next =
        ap (put_look x) (put-here y z zs e) ∙ (in-front (choice (is_before y.name x.name)) e f ∙ sym (ap (put_look y) (put-here x z zs f)))

pub look-name : (n : Text) (v : Tree) → (look_at n v).name ≡ n
look-name n (scalar at (Str text)) = refl
look-name n (scalar at v) = refl
look-name n (array at xs) = refl
look-name n (object at ms) = refl

-- a member's look, among the keys for `@type`
abbrev pub put_if : Bool → Bool → Look → List Look → List Look
put_if c k x l = elim c [ true ↦ l | false ↦ elim k [ true ↦ put_look x l | false ↦ l ] ]

abbrev kinds : Context → Members → List Look
kinds b ms = type_keys b (all_looks ms)

pub kinds-filter : (b : Context) (x : Look) (xs : List Look) → type_keys b (x ∷ xs) ≡ (elim (means_kind b x) [ true ↦ put_look x (type_keys b xs) | false ↦ type_keys b xs ])
kinds-filter b x xs = by (means_kind b x) refl
  where
    by : (k : Bool) → means_kind b x ≡ k → type_keys b (x ∷ xs) ≡ (elim k [ true ↦ put_look x (type_keys b xs) | false ↦ type_keys b xs ])
    by true e = ap (λ k. sorted_looks (cond k (x ∷ filter (means_kind b) xs) (filter (means_kind b) xs))) e
    by false e = ap (λ k. sorted_looks (cond k (x ∷ filter (means_kind b) xs) (filter (means_kind b) xs))) e

pub kinds-first : (b : Context) (a : ℕ) (n : Text) (v : Tree) (rest : Members) → kinds b (member a n v rest) ≡ put_if (is_context_name n) (means_kind b (look_at n v)) (look_at n v) (kinds b rest)
kinds-first b a n v rest = by (is_context_name n)
  where
    by : (c : Bool) → type_keys b (elim c [ true ↦ all_looks rest | false ↦ look_at n v ∷ all_looks rest ]) ≡ put_if c (means_kind b (look_at n v)) (look_at n v) (kinds b rest)
    by true = refl
    by false = kinds-filter b (look_at n v) (all_looks rest)

put-if-swap : (c k c' k' : Bool) (x y : Look) (l : List Look) → (x.name ≡ y.name → ⊥) → put_if c k x (put_if c' k' y l) ≡ put_if c' k' y (put_if c k x l)
put-if-swap true k c' k' x y l apart = refl
put-if-swap false false c' k' x y l apart = refl
put-if-swap false true true k' x y l apart = refl
put-if-swap false true false false x y l apart = refl
put-if-swap false true false true x y l apart = put-swap x y l apart

kinds-moved : (b : Context) (front : Members) (a : ℕ) (n : Text) (v : Tree) (back : Members) → HasNamesOnce (then_members front (member a n v back)) →
    kinds b (then_members front (member a n v back)) ≡ kinds b (member a n v (then_members front back))
kinds-moved b no_member a n v back h = refl
kinds-moved b (member e m w front) a n v back h =
    let here = then_members front (member a n v back) in
    let left = then_members front back in
    let cm = is_context_name m in
    let km = means_kind b (look_at m w) in
    let cn = is_context_name n in
    let kn = means_kind b (look_at n v) in
    kinds-first b e m w here
    ∙ (ap (put_if cm km (look_at m w)) (kinds-moved b front a n v back h.1 ∙ kinds-first b a n v left)
    ∙ (put-if-swap cm km cn kn (look_at m w) (look_at n v) (kinds b left)
    (λ q. names-apart m front a n v back h.0 (sym (look-name n v) ∙ (sym q ∙ look-name m w)))
    ∙ sym (kinds-first b a n v (member e m w left) ∙ ap (put_if cn kn (look_at n v)) (kinds-first b e m w left))))

pub kinds-same : (b : Context) (ms ns : Members) → Reordered ms ns → HasNamesOnce ns → type_keys b (all_looks ms) ≡ type_keys b (all_looks ns)
kinds-same b no_member ns e h = ap (kinds b) (sym e)
kinds-same b (member a n v rest) ns (front, back, e, r) h =
    let h' = subst HasNamesOnce e h in
    let left = then_members front back in
    kinds-first b a n v rest
    ∙ (ap (put_if (is_context_name n) (means_kind b (look_at n v)) (look_at n v)) (kinds-same b rest left r (once-left front a n v back h'))
    ∙ (sym (kinds-first b a n v left) ∙ (sym (kinds-moved b front a n v back h') ∙ ap (kinds b) (sym e))))
