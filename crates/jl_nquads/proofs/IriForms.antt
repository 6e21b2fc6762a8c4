-- The form of IRIs, byte by byte, and the beginnings of IRIs.
use Rattle.std.proofs.Common.{◌≡◌, ℕ, suc, ◌+◌, ◌<◌, ◌≤◌, inl, inr, Bool, true, false, not, ◌&&◌, cond, nat_lt, List, [], ◌∷◌, ◌++◌, length, take, drop, Option, Some, None, codes, IsTrue, refl, sym, ap, ◌∙◌, arith}
use Rattle.std.proofs.lemmas.Bool.{cases_Bool, and_parts, and_from, cond-true, cond-false, eqb-true, ltb-true, ltb-false, lt-ltb, le-ltb}
use Rattle.std.proofs.lemmas.List.Folds.{list_all-append}
use Rattle.std.specs.Char.{is_ascii_alphabetic}
use Rattle.std.specs.List.{list_all, position, position_or_len}
use Rattle.jl_model.specs.Iris.{is_scheme_byte, is_iri_byte, is_colon, has_form_at, has_iri_form}
use Rattle.jl_nquads.specs.IriFronts.{goes_on_scheme, begins_iri}

-- what stands behind the first letter of an IRI
abbrev pub ends_scheme : List ℕ → Bool
ends_scheme [] = false
ends_scheme (c ∷ cs) = cond (is_colon c) (list_all is_iri_byte cs) (is_scheme_byte c && ends_scheme cs)

later_at : List ℕ → Option ℕ → Bool
later_at cs None = false
later_at cs (Some k) = list_all is_scheme_byte (take k cs) && list_all is_iri_byte (drop (k + 1) cs)

-- the place of the colon is one further
place_on : (c : ℕ) (cs : List ℕ) → is_colon c ≡ false → (f : Option ℕ → Bool) (g : Option ℕ → Bool) → f None ≡ g None → ((k : ℕ) → f (Some (suc k)) ≡ g (Some k)) → f (position is_colon (c ∷ cs)) ≡ g (position is_colon cs)
place_on c cs e f g none some = elim (cases_Bool (nat_lt (position_or_len is_colon cs) (length cs))) [
  | inl h ↦
      let k = position_or_len is_colon cs in
      let l : k < length cs = ltb-true k (length cs) h in
      let i : position_or_len is_colon (c ∷ cs) ≡ suc k = ap (λ b. cond (not b) (1 + k) 0) e ∙ (let z : 1 + k ≡ suc k = omega arith in z) in
      ap (λ n. f (cond (nat_lt n (suc (length cs))) (Some n) None)) i ∙ ap (λ b. f (cond b (Some (suc k)) None)) (lt-ltb (suc k) (suc (length cs)) (omega arith)) ∙ some k ∙ ap (λ b. g (cond b (Some k) None)) (sym h)
  | inr h ↦
      let k = position_or_len is_colon cs in
      let l : length cs ≤ k = ltb-false k (length cs) h in
      let i : position_or_len is_colon (c ∷ cs) ≡ suc k = ap (λ b. cond (not b) (1 + k) 0) e ∙ (let z : 1 + k ≡ suc k = omega arith in z) in
      ap (λ n. f (cond (nat_lt n (suc (length cs))) (Some n) None)) i ∙ ap (λ b. f (cond b (Some (suc k)) None)) (le-ltb (suc k) (suc (length cs)) (omega arith)) ∙ none ∙ ap (λ b. g (cond b (Some k) None)) (sym h)
]

grouped : (a b c : Bool) → ((a && b) && c) ≡ (a && (b && c))
grouped true b c = refl
grouped false b c = refl

never : (a : Bool) → (a && false) ≡ false
never true = refl
never false = refl

one_on : (c : ℕ) (cs : List ℕ) (k : ℕ) → later_at (c ∷ cs) (Some (suc k)) ≡ (is_scheme_byte c && later_at cs (Some k))
unfolding later_at
one_on c cs k =
    ap (λ n. (is_scheme_byte c && list_all is_scheme_byte (take k cs)) && list_all is_iri_byte (drop n (c ∷ cs))) (let z : suc k + 1 ≡ suc (k + 1) = omega arith in z)
    ∙ grouped (is_scheme_byte c) (list_all is_scheme_byte (take k cs)) (list_all is_iri_byte (drop (k + 1) cs))

later : (cs : List ℕ) → later_at cs (position is_colon cs) ≡ ends_scheme cs
unfolding later_at
later [] = refl
later (c ∷ cs) = elim (cases_Bool (is_colon c)) [
  | inl e ↦
      let i : position is_colon (c ∷ cs) ≡ Some 0 = ap (λ b. cond (nat_lt (cond (not b) (1 + position_or_len is_colon cs) 0) (suc (length cs))) (Some (cond (not b) (1 + position_or_len is_colon cs) 0)) None) e ∙ ap (λ b. cond b (Some 0) None) (lt-ltb 0 (suc (length cs)) (omega arith)) in
      ap (later_at (c ∷ cs)) i ∙ sym (cond-true (is_colon c) (list_all is_iri_byte cs) (is_scheme_byte c && ends_scheme cs) e)
  | inr e ↦
      place_on c cs e (later_at (c ∷ cs)) (λ o. is_scheme_byte c && later_at cs o) (sym (never (is_scheme_byte c))) (one_on c cs)
      ∙ ap (λ b. is_scheme_byte c && b) (later cs) ∙ sym (cond-false (is_colon c) (list_all is_iri_byte cs) (is_scheme_byte c && ends_scheme cs) e)
]

-- an IRI is a letter and what may stand behind it
pub iri_form : (c : ℕ) (cs : List ℕ) → has_iri_form (c ∷ cs) ≡ (is_ascii_alphabetic c && ends_scheme cs)
unfolding later_at
iri_form c cs = elim (cases_Bool (is_colon c)) [
  | inl e ↦
      let i : position is_colon (c ∷ cs) ≡ Some 0 = ap (λ b. cond (nat_lt (cond (not b) (1 + position_or_len is_colon cs) 0) (suc (length cs))) (Some (cond (not b) (1 + position_or_len is_colon cs) 0)) None) e ∙ ap (λ b. cond b (Some 0) None) (lt-ltb 0 (suc (length cs)) (omega arith)) in
      ap (has_form_at (c ∷ cs)) i ∙ ap (λ x. is_ascii_alphabetic x && ends_scheme cs) (sym (eqb-true c 58 e))
  | inr e ↦ place_on c cs e (has_form_at (c ∷ cs)) (λ o. is_ascii_alphabetic c && later_at cs o) (sym (never (is_ascii_alphabetic c))) first ∙ ap (λ b. is_ascii_alphabetic c && b) (later cs)
]
  where
    first : (k : ℕ) → has_form_at (c ∷ cs) (Some (suc k)) ≡ (is_ascii_alphabetic c && later_at cs (Some k))
    first k =
        ap (λ n. (is_ascii_alphabetic c && list_all is_scheme_byte (take k cs)) && list_all is_iri_byte (drop n (c ∷ cs))) (let z : suc k + 1 ≡ suc (k + 1) = omega arith in z)
        ∙ grouped (is_ascii_alphabetic c) (list_all is_scheme_byte (take k cs)) (list_all is_iri_byte (drop (k + 1) cs))

-- ---- beginnings of IRIs

-- what begins a list whose bytes all pass passes
all_front : (test : ℕ → Bool) (xs ys : List ℕ) → IsTrue (list_all test (xs ++ ys)) → IsTrue (list_all test xs)
all_front test xs ys h = (and_parts (list_all test xs) (list_all test ys) (sym (list_all-append test xs ys) ∙ h)).0

scheme_front : (m x : List ℕ) → IsTrue (ends_scheme (m ++ x)) → IsTrue (goes_on_scheme m)
scheme_front [] x h = refl
scheme_front (c ∷ m) x h = elim (cases_Bool (is_colon c)) [
  | inl e ↦ cond-true (is_colon c) (list_all is_iri_byte m) (is_scheme_byte c && goes_on_scheme m) e ∙ all_front is_iri_byte m x (sym (cond-true (is_colon c) (list_all is_iri_byte (m ++ x)) (is_scheme_byte c && ends_scheme (m ++ x)) e) ∙ h)
  | inr e ↦
      let p = and_parts (is_scheme_byte c) (ends_scheme (m ++ x)) (sym (cond-false (is_colon c) (list_all is_iri_byte (m ++ x)) (is_scheme_byte c && ends_scheme (m ++ x)) e) ∙ h) in
      cond-false (is_colon c) (list_all is_iri_byte m) (is_scheme_byte c && goes_on_scheme m) e ∙ and_from (is_scheme_byte c) (goes_on_scheme m) p.0 (scheme_front m x p.1)
]

-- the beginning of an IRI begins one
pub iri_front : (m x : List ℕ) → IsTrue (has_iri_form (m ++ x)) → IsTrue (begins_iri m)
iri_front [] x h = refl
iri_front (c ∷ m) x h =
    let p = and_parts (is_ascii_alphabetic c) (ends_scheme (m ++ x)) (sym (iri_form c (m ++ x)) ∙ h) in
    and_from (is_ascii_alphabetic c) (goes_on_scheme m) p.0 (scheme_front m x p.1)

-- with a colon more it is what may stand behind a letter
scheme_colon : (m : List ℕ) → ends_scheme (m ++ codes ":") ≡ goes_on_scheme m
scheme_colon [] = refl
scheme_colon (c ∷ m) = elim (cases_Bool (is_colon c)) [
  | inl e ↦
      cond-true (is_colon c) (list_all is_iri_byte (m ++ codes ":")) (is_scheme_byte c && ends_scheme (m ++ codes ":")) e ∙ list_all-append is_iri_byte m (codes ":") ∙ always (list_all is_iri_byte m)
      ∙ sym (cond-true (is_colon c) (list_all is_iri_byte m) (is_scheme_byte c && goes_on_scheme m) e)
  | inr e ↦
      cond-false (is_colon c) (list_all is_iri_byte (m ++ codes ":")) (is_scheme_byte c && ends_scheme (m ++ codes ":")) e ∙ ap (λ b. is_scheme_byte c && b) (scheme_colon m)
      ∙ sym (cond-false (is_colon c) (list_all is_iri_byte m) (is_scheme_byte c && goes_on_scheme m) e)
]
  where
    always : (a : Bool) → (a && true) ≡ a
    always true = refl
    always false = refl

-- an IRI begins with a text that isn't empty where it is one with a colon more
pub iri_colon : (c : ℕ) (m : List ℕ) → has_iri_form ((c ∷ m) ++ codes ":") ≡ begins_iri (c ∷ m)
iri_colon c m = iri_form c (m ++ codes ":") ∙ ap (λ b. is_ascii_alphabetic c && b) (scheme_colon m)
