-- Where no key is late, the members before the rest name an object as all of them do.
use Rattle.std.proofs.Common.{ℕ, ◌≡◌, refl, sym, ◌∙◌, ap, Bool, true, false, ◌||◌, List, [], ◌∷◌, ◌++◌, Option, Some, None, append_assoc}
use Rattle.jl_model.specs.JsonTree.{Tree, Members, no_member, member}
use Rattle.jl_model.specs.declared.faults.Fault.{Fault}
use Rattle.jl_defs.specs.Texts.{Text}
use Rattle.jl_defs.specs.Context.{Context}
use Rattle.jl_defs.specs.Keys.{Key, key_of, is_id, is_kind, is_value}
use Rattle.jl_defs.specs.ObjectContexts.{Inside}
use Rattle.jl_defs.specs.ValueObjects.{first_with, all_with}
use Rattle.jl_defs.specs.LateKeys.{if_so, late_key, is_late_type, is_late_value}
use Rattle.jl_walk.specs.Phases.{Phase, any_time, at_start, in_lead, in_run, in_rest, follow, past, is_rest, lone_at, rest_at, late_at, known}
use Rattle.jl_walk.proofs.Runs.{left-nil, right-nil}
use Rattle.jl_walk.proofs.Phases.{late_of}

or-left : (a b : Bool) → (a || b) ≡ false → a ≡ false
or-left false b e = refl
or-left true b e = absurd cc

or-right : (a b : Bool) → (a || b) ≡ false → b ≡ false
or-right false b e = e
or-right true b e = absurd cc

if-left : (x : Bool) (f : Fault) → if_so x (f ∷ []) ≡ [] → x ≡ false
if-left false f e = refl
if-left true f e = absurd cc

pub record NotLate (i : Inside) (n : Text) : Type 0 where
  pub no_kind : is_kind (key_of i.final n) ≡ false
  pub no_id : is_id (key_of i.final n) ≡ false
  pub no_value : is_value (key_of i.final n) ≡ false

pub not-late : (i : Inside) (n : Text) (a : ℕ) → late_key i n a ≡ [] → NotLate i n
not-late i n a e =
    let r = right-nil (if_so (is_late_type i n) _) _ e in
    record {
      no_kind = or-right (is_kind (key_of i.base n)) _ (if-left (is_late_type i n) _ (left-nil _ _ e));
      no_id = if-left (is_id (key_of i.final n)) _ (left-nil _ _ r);
      no_value = or-left (is_value (key_of i.final n)) _ (if-left (is_late_value i n) _ (right-nil (if_so (is_id (key_of i.final n)) _) _ r));
    }

-- a test of keys that are late in the rest
abbrev pub IsLate : Inside → (Key → Bool) → Type 0
IsLate i test = (n : Text) → NotLate i n → test (key_of i.final n) ≡ false

rest-none : (i : Inside) (test : Key → Bool) → IsLate i test → (ms : Members) → late_of i in_rest ms ≡ [] → all_with test i.final ms ≡ []
rest-none i test t no_member e = refl
rest-none i test t (member a n v rest) e =
    ap (λ b. elim b [ true ↦ v ∷ all_with test i.final rest | false ↦ all_with test i.final rest ]) (t n (not-late i n a (left-nil _ _ e)))
    ∙ rest-none i test t rest (right-nil (late_key i n a) _ e)

-- a key that isn't late by its phase
not-at : (ph : Phase) (i : Inside) (n : Text) (a : ℕ) (more : List Fault) → late_at ph i n a ++ more ≡ [] → rest_at (follow ph i n) i n a ++ more ≡ []
not-at ph i n a more e = right-nil (lone_at ph i n a) _ (sym (append_assoc (lone_at ph i n a) _ more) ∙ e)

pub known-all : (i : Inside) (test : Key → Bool) → IsLate i test → (ph : Phase) (ms : Members) → late_of i ph ms ≡ [] → all_with test i.final (known i ph ms) ≡ all_with test i.final ms
known-all i test t ph no_member e = refl
known-all i test t ph (member a n v rest) e =
    by (follow ph i n) (known-all i test t (past (follow ph i n) i n v) rest) (not-at ph i n a (late_of i (past (follow ph i n) i n v) rest) e)
  where
    by : (x : Phase) → (late_of i (past x i n v) rest ≡ [] → all_with test i.final (known i (past x i n v) rest) ≡ all_with test i.final rest) →
        rest_at x i n a ++ late_of i (past x i n v) rest ≡ [] →
        all_with test i.final (elim (is_rest x) [ true ↦ no_member | false ↦ member a n v (known i (past x i n v) rest) ]) ≡ all_with test i.final (member a n v rest)
    by in_rest h e = sym (rest-none i test t (member a n v rest) e)
    by any_time h e = ap (λ z. elim (test (key_of i.final n)) [ true ↦ v ∷ z | false ↦ z ]) (h e)
    by (at_start left) h e = ap (λ z. elim (test (key_of i.final n)) [ true ↦ v ∷ z | false ↦ z ]) (h e)
    by (in_lead left) h e = ap (λ z. elim (test (key_of i.final n)) [ true ↦ v ∷ z | false ↦ z ]) (h e)
    by in_run h e = ap (λ z. elim (test (key_of i.final n)) [ true ↦ v ∷ z | false ↦ z ]) (h e)

-- the first is the first of all
abbrev pub head_of : List Tree → Option Tree
head_of [] = None
head_of (v ∷ vs) = Some v

first-head : (test : Key → Bool) (c : Context) (ms : Members) → first_with test c ms ≡ head_of (all_with test c ms)
first-head test c no_member = refl
first-head test c (member a n v rest) = by (first-head test c rest) (test (key_of c n))
  where
    by : first_with test c rest ≡ head_of (all_with test c rest) → (b : Bool) → elim b [ true ↦ Some v | false ↦ first_with test c rest ] ≡ head_of (elim b [ true ↦ v ∷ all_with test c rest | false ↦ all_with test c rest ])
    by h true = refl
    by h false = h

pub known-first : (i : Inside) (test : Key → Bool) → IsLate i test → (ph : Phase) (ms : Members) → late_of i ph ms ≡ [] → first_with test i.final (known i ph ms) ≡ first_with test i.final ms
known-first i test t ph ms e =
    first-head test i.final (known i ph ms) ∙ (ap head_of (known-all i test t ph ms e) ∙ sym (first-head test i.final ms))
