-- Where an object has no faults, a keyword that may come once comes once.
use Rattle.std.proofs.Common.{ℕ, ◌≤◌, ◌≡◌, ◌⊎◌, inl, inr, refl, sym, ◌∙◌, ap, Bool, true, false, not, ◌&&◌, ◌||◌, List, [], ◌∷◌, ◌++◌, Ok, arith}
use Rattle.std.specs.List.{list_any}
use Rattle.jl_model.specs.JsonTree.{Tree, object, Members, no_member, member}
use Rattle.jl_model.specs.declared.faults.Fault.{Fault}
use Rattle.jl_defs.specs.Texts.{Text}
use Rattle.jl_defs.specs.Context.{Context, term}
use Rattle.jl_defs.specs.Settings.{Settings, Under, property_of, Stand, elsewhere, drops}
use Rattle.jl_defs.specs.Keys.{Key, id, value, language, graph, list, set, key_of, is_id, is_value, is_language, is_graph, is_list, is_set, is_kind}
use Rattle.jl_defs.specs.ObjectContexts.{Inside, decide}
use Rattle.jl_defs.specs.ValueObjects.{all_with}
use Rattle.jl_defs.specs.Kept.{own_member, if_key, entries_by, form_of, form_keeps, nested_keys, nest_inside, has_any, keeps, entries, nested_entries, reversed_entries}
use Rattle.jl_defs.specs.LateKeys.{if_so, late_contexts, late_members}
use Rattle.jl_defs.specs.MemberFaults.{Seen, nothing_seen, collides, key_faults, closing_faults}
use Rattle.jl_defs.specs.Faults.{decided_faults, place, see, value_faults, members_faults}
use Rattle.jl_laws.proofs.Bools.{true-false, choice}
use Rattle.jl_laws.proofs.MemberStays.{member_faults}
use Rattle.jl_laws.proofs.Reorder.{count, one-true, one-false}

-- a keyword of which each key puts an entry, and a second one collides
pub record ComesOnce (test : Key → Bool) (under : Under) : Type 0 where
  pub the_key : Key
  pub only : (k : Key) → test k ≡ true → k ≡ the_key
  pub is_the_key : test the_key ≡ true
  pub entry : (gives : Unit {0} → Bool) (nested : Unit {0} → List Key) (reverses : Unit {0} → Bool) → entries_by the_key under gives nested reverses ≡ the_key ∷ []
  pub collision : (ks : List Key) → collides the_key under ks ≡ list_any test ks

id-only : (k : Key) → is_id k ≡ true → k ≡ id
id-only id e = refl
id-only k e = absurd (true-false (sym e))

pub id-once : (under : Under) → ComesOnce is_id under
id-once under = record { the_key = id; only = id-only; is_the_key = refl; entry = λ gives nested reverses. refl; collision = λ ks. refl }

value-only : (k : Key) → is_value k ≡ true → k ≡ value
value-only value e = refl
value-only k e = absurd (true-false (sym e))

pub value-once : (under : Under) → ComesOnce is_value under
value-once under = record { the_key = value; only = value-only; is_the_key = refl; entry = λ gives nested reverses. refl; collision = λ ks. refl }

language-only : (k : Key) → is_language k ≡ true → k ≡ language
language-only language e = refl
language-only k e = absurd (true-false (sym e))

pub language-once : (under : Under) → ComesOnce is_language under
language-once under = record { the_key = language; only = language-only; is_the_key = refl; entry = λ gives nested reverses. refl; collision = λ ks. refl }

graph-only : (k : Key) → is_graph k ≡ true → k ≡ graph
graph-only graph e = refl
graph-only k e = absurd (true-false (sym e))

pub graph-once : (under : Under) → ComesOnce is_graph under
graph-once under = record { the_key = graph; only = graph-only; is_the_key = refl; entry = λ gives nested reverses. refl; collision = λ ks. refl }

set-only : (k : Key) → is_set k ≡ true → k ≡ set
set-only set e = refl
set-only k e = absurd (true-false (sym e))

pub set-once : (under : Under) → ComesOnce is_set under
set-once under = record { the_key = set; only = set-only; is_the_key = refl; entry = λ gives nested reverses. refl; collision = λ ks. refl }

list-only : (k : Key) → is_list k ≡ true → k ≡ list
list-only list e = refl
list-only k e = absurd (true-false (sym e))

-- a list, where it isn't ignored
pub list-once : (under : Under) → drops under ≡ false → ComesOnce is_list under
list-once under d = record {
  the_key = list;
  only = list-only;
  is_the_key = refl;
  entry = λ gives nested reverses. ap (λ b. if_key (not b) (list ∷ [])) d;
  collision = λ ks. ap (λ b. not b && list_any is_list ks) d;
}

pub append-empty : {A : Type 0} (xs ys : List A) → xs ++ ys ≡ [] → (xs ≡ []) × (ys ≡ [])
append-empty [] ys e = (refl, e)
append-empty (x ∷ xs) ys e = absurd (cons-empty e)
  where
    cons-empty : {A : Type 0} {x : A} {xs : List A} → x ∷ xs ≡ [] → ⊥
    cons-empty e = cc

any-left : (test : Key → Bool) (xs ys : List Key) → list_any test xs ≡ true → list_any test (xs ++ ys) ≡ true
any-left test [] ys e = absurd cc
any-left test (x ∷ xs) ys e = by (test x) e (λ e'. any-left test xs ys e')
  where
    by : (b : Bool) → (b || list_any test xs) ≡ true → (list_any test xs ≡ true → list_any test (xs ++ ys) ≡ true) → (b || list_any test (xs ++ ys)) ≡ true
    by true e next = refl
    by false e next = next e

any-right : (test : Key → Bool) (xs ys : List Key) → list_any test ys ≡ true → list_any test (xs ++ ys) ≡ true
any-right test [] ys e = e
any-right test (x ∷ xs) ys e = by (test x) (any-right test xs ys e)
  where
    by : (b : Bool) → list_any test (xs ++ ys) ≡ true → (b || list_any test (xs ++ ys)) ≡ true
    by true h = refl
    by false h = h

pub clear : (b : Bool) (f : Fault) → if_so b (f ∷ []) ≡ [] → b ≡ false
clear true f e = absurd (cons-empty e)
  where
    cons-empty : f ∷ [] ≡ [] → ⊥
    cons-empty e = cc
clear false f e = refl

-- the entries of a member with such a key
entry-there : (test : Key → Bool) (under : Under) (t : ComesOnce test under) (s : Settings) (i : Inside) (a : ℕ) (n : Text) (v : Tree) →
    test (key_of i.final n) ≡ true → list_any test (entries s i own_member under (member a n v no_member)) ≡ true
unfolding entries
entry-there test under t s i a n v e =
    any-left test _ []
    (ap (λ k. list_any test (entries_by k under
    (λ _. form_keeps (form_of (term i.final n) v) (λ _. keeps s i.final (property_of n) elsewhere v))
    (λ _. nested_keys (nest_inside s i n) (λ j. nested_entries s j under v))
    (λ _. has_any (reversed_entries s i.final v)))) (t.only (key_of i.final n) e)
    ∙ (ap (list_any test) (t.entry _ _ _) ∙ ap (λ b. b || false) t.is_the_key))

-- none behind members that have one, and at most one
abbrev OnceBehind : (Key → Bool) → Context → Seen → Members → Type 0
OnceBehind test d seen ms = (list_any test seen.entries ≡ true → count test d ms ≡ 0) × (count test d ms ≤ 1)

once-step : (test : Key → Bool) (under : Under) (t : ComesOnce test under) (s : Settings) (i : Inside) (seen : Seen) (a : ℕ) (n : Text) (v : Tree) (rest : Members) →
    key_faults (key_of i.final n) under seen a ≡ [] → OnceBehind test i.final (see s i own_member under seen a n v) rest → OnceBehind test i.final seen (member a n v rest)
once-step test under t s i seen a n v rest e r = by (choice (test (key_of i.final n)))
  where
    by : (test (key_of i.final n) ≡ true) ⊎ (test (key_of i.final n) ≡ false) → OnceBehind test i.final seen (member a n v rest)
    by (inl h) =
        let k = key_of i.final n in
        let one = one-true (test k) h in
        let unseen : list_any test seen.entries ≡ false = sym (t.collision seen.entries) ∙ (ap (λ k. collides k under seen.entries) (sym (t.only k h)) ∙ clear (collides k under seen.entries) _ e) in
        let none = r.0 (any-right test seen.entries (entries s i own_member under (member a n v no_member)) (entry-there test under t s i a n v h)) in
        ((λ q. absurd (true-false (sym q ∙ unseen))), omega (arith, one, none))
    by (inr h) =
        let zero = one-false (test (key_of i.final n)) h in
        ((λ q. omega (arith, zero, r.0 (any-left test seen.entries (entries s i own_member under (member a n v no_member)) q))), omega (arith, zero, r.1))

members-once : (test : Key → Bool) (under : Under) (t : ComesOnce test under) (s : Settings) (i : Inside) (stand : Stand) (kinds : List Tree) (seen : Seen) (ms : Members) →
    members_faults s i (place own_member under stand kinds) seen ms ≡ [] → OnceBehind test i.final seen ms
unfolding value_faults
members-once test under t s i stand kinds seen no_member e = ((λ h. refl), omega arith)
members-once test under t s i stand kinds seen (member a n v rest) e =
    let p = place own_member under stand kinds in
    let next = see s i own_member under seen a n v in
    let parts = append-empty (member_faults s i p seen a n v) (members_faults s i p next rest) e in
    once-step test under t s i seen a n v rest (append-empty (key_faults (key_of i.final n) under seen a) _ parts.0).0
    (members-once test under t s i stand kinds next rest parts.1)

-- at most one such key in an object without faults
pub faultless-once : (test : Key → Bool) (under : Under) (t : ComesOnce test under) (s : Settings) (c : Context) (stand : Stand) (at : ℕ) (ms : Members) (i : Inside) →
    decide s c under stand at ms ≡ Ok i → value_faults s c under stand (object at ms) ≡ [] → count test i.final ms ≤ 1
unfolding value_faults
faultless-once test under t s c stand at ms i d e =
    let answer = λ (i : Inside).
    members_faults s i (place own_member under stand (all_with is_kind i.final ms)) nothing_seen ms
    ++ (late_members s c under stand at i ms ++ closing_faults under i at ms (entries s i own_member under ms)) in
    let all = append-empty (decided_faults (decide s c under stand at ms) answer) (late_contexts s.order ms) e in
    let mine : answer i ≡ [] = ap (λ r. decided_faults r answer) (sym d) ∙ all.0 in
    (members-once test under t s i stand (all_with is_kind i.final ms) nothing_seen ms
    (append-empty (members_faults s i (place own_member under stand (all_with is_kind i.final ms)) nothing_seen ms) _ mine).0).1
