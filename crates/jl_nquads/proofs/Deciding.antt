-- What can be decided by trying.
use Rattle.std.proofs.Common.{◌≡◌, ℕ, zero, suc, ◌<◌, ◌≤◌, ◌⊎◌, inl, inr, Bool, true, false, ◌&&◌, leb, List, [], ◌∷◌, ◌++◌, length, IsTrue, refl, sym, ap, ◌∙◌, subst, arith}
use Rattle.std.proofs.lemmas.Bool.{cases_lt, cases_eq, and_parts, and_from, false≢true, le-leb, lt-leb}
use Rattle.std.specs.List.{list_all}
use Rattle.jl_model.specs.JsonStrings.{hex_value}
use Rattle.jl_model.specs.LineTokens.{Written, itself, letter, four, eight, spelling, is_hex_digit}
use Rattle.jl_nquads.proofs.Texts.{head_is, tail_is}

pub decide_true : (b : Bool) → Dec (IsTrue b)
decide_true true = yes refl
decide_true false = no (λ h. false≢true h)

-- a number below n
pub decide_below : (n : ℕ) (P : ℕ → Type 0) → ((i : ℕ) → Dec (P i)) → Dec ((i : ℕ) × (i < n) × P i)
decide_below zero P decide = no (λ h. let z : ⊥ = omega (arith, h.1) in z)
decide_below (suc n) P decide = go (decide n) (decide_below n P decide)
  where
    go : Dec (P n) → Dec ((i : ℕ) × (i < n) × P i) → Dec ((i : ℕ) × (i < suc n) × P i)
    go (yes h) later = yes (n, omega arith, h)
    go (no m) (yes h) = yes (h.0, omega (arith, h.1), h.2)
    go (no m) (no k) = no (λ h. elim (cases_eq h.0 n) [ inl e ↦ m (subst P e h.2) | inr e ↦ k (h.0, omega (arith, h.1, e), h.2) ])

-- a text begins so
pub decide_begins : (t text : List ℕ) → Dec ((back : List ℕ) × (text ≡ t ++ back))
decide_begins [] text = yes (text, refl)
decide_begins (c ∷ t) [] = no (λ h. let e = h.1 in let z : ⊥ = cc in z)
decide_begins (c ∷ t) (d ∷ text) = go (cases_eq c d) (decide_begins t text)
  where
    go : (c ≡ d) ⊎ (c ≡ d → ⊥) → Dec ((back : List ℕ) × (text ≡ t ++ back)) → Dec ((back : List ℕ) × (d ∷ text ≡ (c ∷ t) ++ back))
    go (inl e) (yes h) = yes (h.0, ap (λ x. d ∷ x) h.1 ∙ ap (λ x. x ∷ (t ++ h.0)) (sym e))
    go (inl e) (no m) = no (λ h. m (h.0, tail_is d c text (t ++ h.0) h.1))
    go (inr n) later = no (λ h. n (sym (head_is d c text (t ++ h.0) h.1)))

over : (a b v : ℕ) → a ≤ v → b < v → (leb a v && leb v b) ≡ false
over a b v l h = rw (le-leb a v l, lt-leb v b h) refl

no_hex : (d : ℕ) → 128 ≤ d → is_hex_digit d ≡ false
unfolding hex_value
no_hex d l = rw (over 48 57 d (omega arith) (omega arith), over 65 70 d (omega arith) (omega arith), over 97 102 d (omega arith) (omega arith)) refl

pub hex_below : (d : ℕ) → IsTrue (is_hex_digit d) → d < 128
hex_below d h = elim (cases_lt d 128) [ inl l ↦ l | inr l ↦ absurd (false≢true (sym (no_hex d l) ∙ h)) ]

-- k hexadecimal digits
abbrev pub Digits : ℕ → (List ℕ → Type 0) → Type 0
Digits k P = (ds : List ℕ) × (length ds ≡ k) × IsTrue (list_all is_hex_digit ds) × P ds

pub decide_digits : (k : ℕ) (P : List ℕ → Type 0) → ((ds : List ℕ) → Dec (P ds)) → Dec (Digits k P)
decide_digits zero P decide = go (decide [])
  where
    none : (ds : List ℕ) → length ds ≡ 0 → P ds → P []
    none [] l h = h
    none (d ∷ ds) l h = absurd (let z : ⊥ = omega (arith, l) in z)

    go : Dec (P []) → Dec (Digits 0 P)
    go (yes h) = yes ([], refl, refl, h)
    go (no m) = no (λ h. m (none h.0 h.1 h.3))
decide_digits (suc k) P decide = go (decide_below 128 (λ d. IsTrue (is_hex_digit d) × Digits k (λ ds. P (d ∷ ds))) (λ d. and_dec (is_hex_digit d) (decide_digits k (λ ds. P (d ∷ ds)) (λ ds. decide (d ∷ ds)))))
  where
    and_dec : {B : Type 0} (b : Bool) → Dec B → Dec (IsTrue b × B)
    and_dec true (yes h) = yes (refl, h)
    and_dec true (no m) = no (λ h. m h.1)
    and_dec false later = no (λ h. false≢true h.0)

    some : (ds : List ℕ) → length ds ≡ suc k → IsTrue (list_all is_hex_digit ds) → P ds → (d : ℕ) × (d < 128) × (IsTrue (is_hex_digit d) × Digits k (λ es. P (d ∷ es)))
    some [] l h p = absurd (let z : ⊥ = omega (arith, l) in z)
    some (d ∷ ds) l h p =
        let q = and_parts (is_hex_digit d) (list_all is_hex_digit ds) h in
        (d, hex_below d q.0, (q.0, (ds, omega (arith, l), q.1, p)))

    go : Dec ((d : ℕ) × (d < 128) × (IsTrue (is_hex_digit d) × Digits k (λ ds. P (d ∷ ds)))) → Dec (Digits (suc k) P)
    go (yes (d, l, (h, (ds, m, all, p)))) = yes (d ∷ ds, ap suc m, and_from (is_hex_digit d) (list_all is_hex_digit ds) h all, p)
    go (no m) = no (λ h. m (some h.0 h.1 h.2 h.3))

-- which characters a test may let through, so that all can be tried
pub record CanBeTried (test : Written → Bool) : Type 0 where
  pub itself_below : (c : ℕ) → IsTrue (test (itself c)) → c < 1114112
  pub letter_below : (c : ℕ) → IsTrue (test (letter c)) → c < 128
  pub four_digits : (ds : List ℕ) → IsTrue (test (four ds)) → (length ds ≡ 4) × IsTrue (list_all is_hex_digit ds)
  pub eight_digits : (ds : List ℕ) → IsTrue (test (eight ds)) → (length ds ≡ 8) × IsTrue (list_all is_hex_digit ds)

module _ (test : Written → Bool) (Q : Written → Type 0) (decide : (w : Written) → Dec (Q w)) where
  abbrev Here : Written → Type 0
  Here w = IsTrue (test w) × Q w

  here : (w : Written) → Dec (Here w)
  here w = go (decide_true (test w)) (decide w)
    where
      go : Dec (IsTrue (test w)) → Dec (Q w) → Dec (IsTrue (test w) × Q w)
      go (yes a) (yes b) = yes (a, b)
      go (no m) b = no (λ h. m h.0)
      go (yes a) (no m) = no (λ h. m h.1)

  found : (w : Written) → Here w → (v : Written) × IsTrue (test v) × Q v
  found w h = (w, h.0, h.1)

  -- some character that passes the test has the property
  pub decide_some : CanBeTried test → Dec ((w : Written) × IsTrue (test w) × Q w)
  decide_some can =
      go (decide_below 1114112 (λ c. Here (itself c)) (λ c. here (itself c)))
      (decide_below 128 (λ c. Here (letter c)) (λ c. here (letter c)))
      (decide_digits 4 (λ ds. Here (four ds)) (λ ds. here (four ds)))
      (decide_digits 8 (λ ds. Here (eight ds)) (λ ds. here (eight ds)))
    where
      go : Dec ((c : ℕ) × (c < 1114112) × Here (itself c)) → Dec ((c : ℕ) × (c < 128) × Here (letter c)) → Dec (Digits 4 (λ ds. Here (four ds))) → Dec (Digits 8 (λ ds. Here (eight ds))) → Dec ((w : Written) × IsTrue (test w) × Q w)
      go (yes h) b c d = yes (found (itself h.0) h.2)
      go (no m) (yes h) c d = yes (found (letter h.0) h.2)
      go (no m) (no n) (yes h) d = yes (found (four h.0) h.3)
      go (no m) (no n) (no o) (yes h) = yes (found (eight h.0) h.3)
      go (no m) (no n) (no o) (no p) = no (λ h. none h.0 (h.1, h.2))
        where
          none : (w : Written) → Here w → ⊥
          none (itself c) h = m (c, can.itself_below c h.0, h)
          none (letter c) h = n (c, can.letter_below c h.0, h)
          none (four ds) h = let k = can.four_digits ds h.0 in o (ds, k.0, k.1, h)
          none (eight ds) h = let k = can.eight_digits ds h.0 in p (ds, k.0, k.1, h)

pub both_decide : {A B : Type 0} → Dec A → Dec B → Dec (A × B)
both_decide (yes a) (yes b) = yes (a, b)
both_decide (no m) b = no (λ h. m h.0)
both_decide (yes a) (no m) = no (λ h. m h.1)

-- the bytes begin a character that passes the test, and has a further property
abbrev pub BeginsChar : (Written → Bool) → (Written → Type 0) → List ℕ → Type 0
BeginsChar test P t = (w : Written) × IsTrue (test w) × (P w × ((back : List ℕ) × (spelling w ≡ t ++ back)))

pub decide_begins_char : (test : Written → Bool) (P : Written → Type 0) (t : List ℕ) → ((w : Written) → Dec (P w)) → CanBeTried test → Dec (BeginsChar test P t)
decide_begins_char test P t decide can = decide_some test (λ w. P w × ((back : List ℕ) × (spelling w ≡ t ++ back))) (λ w. both_decide (decide w) (decide_begins t (spelling w))) can

-- a character that passes the test stands at the front of the bytes
abbrev pub HasChar : (Written → Bool) → List ℕ → Type 0
HasChar test t = (w : Written) × IsTrue (test w) × ((back : List ℕ) × (t ≡ spelling w ++ back))

pub decide_has_char : (test : Written → Bool) (t : List ℕ) → CanBeTried test → Dec (HasChar test t)
decide_has_char test t can = decide_some test (λ w. (back : List ℕ) × (t ≡ spelling w ++ back)) (λ w. decide_begins (spelling w) t) can
