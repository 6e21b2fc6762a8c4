-- Characters of a class in a row, and the byte with which bytes begin none of them any more.
use Rattle.std.proofs.Common.{◌≡◌, ℕ, ◌<◌, ◌⊎◌, inl, inr, Bool, not, ◌&&◌, ◌||◌, ◌==◌, nat_lt, nat_le, List, [], ◌∷◌, ◌++◌, length, IsTrue, append-nil, append_assoc, refl, sym, ap, ◌∙◌, subst, arith}
use Rattle.std.proofs.lemmas.Bool.{and_parts, or_cases, cases_lt, false≢true, eqb-true, ltb-true, leb-true}
use Rattle.std.proofs.lemmas.List.Folds.{list_all-append}
use Rattle.std.proofs.lemmas.Str.{encode_same, length-encode, len_utf8_bounds}
use Rattle.std.specs.Char.{is_ascii_alphanumeric}
use Rattle.std.specs.List.{list_all}
use lib.Utf8.{encode, encodes, scalar}
use Rattle.jl_model.specs.LineTokens.{is_in, base_ranges, further_ranges, begins_label, goes_on_label, is_comment_character, is_line_end}
use Rattle.jl_nquads.specs.CodePoints.{HasCode, BeginsCode}
use Rattle.jl_nquads.specs.Spots.{not_end}
use Rattle.jl_nquads.proofs.Deciding.{decide_below, decide_true, decide_begins, both_decide}
use Rattle.jl_nquads.proofs.NoLineEnds.{char_no_end, within}
use Rattle.jl_nquads.proofs.Texts.{head_is, fronts_of, turns, TurnsIn}
use Rattle.jl_nquads.proofs.TokenBodies.{high_alphanumeric, scalar_below}

-- a class of characters, none of which is a line end
pub record Class (test : ℕ → Bool) : Type 0 where
  pub below : (c : ℕ) → IsTrue (test c) → c < 1114112
  pub no_end : (c : ℕ) → IsTrue (test c) → IsTrue (list_all not_end (encode c))

-- of two rows of characters in front of one text one goes on with the other
pub rows_of : (cs ds x y : List ℕ) → encodes cs ++ x ≡ encodes ds ++ y → ((es : List ℕ) × (ds ≡ cs ++ es) × (x ≡ encodes es ++ y)) ⊎ ((e : ℕ) × (es : List ℕ) × (cs ≡ ds ++ e ∷ es) × (y ≡ encodes (e ∷ es) ++ x))
rows_of [] ds x y e = inl (ds, refl, e)
rows_of (c ∷ cs) [] x y e = inr (c, cs, refl, sym e)
rows_of (c ∷ cs) (d ∷ ds) x y e =
    let i = encode_same c d (encodes cs ++ x) (encodes ds ++ y) (sym (append_assoc (encode c) (encodes cs) x) ∙ e ∙ append_assoc (encode d) (encodes ds) y) in
    elim (rows_of cs ds x y i.1) [
      | inl (es, j, k) ↦ inl (es, ap (λ z. z ∷ ds) (sym i.0) ∙ ap (λ z. c ∷ z) j, k)
      | inr (f, es, j, k) ↦ inr (f, es, ap (λ z. c ∷ z) j ∙ ap (λ z. z ∷ (ds ++ f ∷ es)) i.0, k)
    ]

pub encode_some : (c : ℕ) → 0 < length (encode c)
encode_some c = subst (λ n. 0 < n) (sym (length-encode c)) (let z = (len_utf8_bounds c).0 in omega (arith, z))

module _ (test : ℕ → Bool) (k : Class test) where
  pub decide_code : (t : List ℕ) → Dec (BeginsCode test t)
  decide_code t = go (decide_below 1114112 (λ c. IsTrue (test c) × ((back : List ℕ) × (encode c ≡ t ++ back))) (λ c. both_decide (decide_true (test c)) (decide_begins t (encode c))))
    where
      go : Dec ((c : ℕ) × (c < 1114112) × (IsTrue (test c) × ((back : List ℕ) × (encode c ≡ t ++ back)))) → Dec (BeginsCode test t)
      go (yes h) = yes (h.0, h.2.0, h.2.1)
      go (no n) = no (λ h. n (h.0, k.below h.0 h.1, (h.1, h.2)))

  has_end : (e : ℕ) (x y : List ℕ) → IsTrue (is_line_end e) → IsTrue (list_all not_end (x ++ e ∷ y)) → ⊥
  has_end e x y l h =
      let m = and_parts (list_all not_end x) (list_all not_end (e ∷ y)) (sym (list_all-append not_end x (e ∷ y)) ∙ h) in
      false≢true (sym (ap (λ z. not z) l) ∙ (and_parts (not_end e) (list_all not_end y) m.1).0)

  -- no character has a line end
  pub none_at_end : (t : List ℕ) (e : ℕ) → IsTrue (is_line_end e) → BeginsCode test (t ++ e ∷ []) → ⊥
  none_at_end t e l (c, h, (back, i)) = has_end e t back l (subst (λ z. IsTrue (list_all not_end z)) (i ∙ append_assoc t (e ∷ []) back) (k.no_end c h))

  pub none_before_end : (t : List ℕ) (e : ℕ) → IsTrue (is_line_end e) → (HasCode test t → ⊥) → HasCode test (t ++ e ∷ []) → ⊥
  none_before_end t e l n (c, h, (back, i)) = elim (fronts_of t (encode c) (e ∷ []) back i) [
    | inl (z, j, g) ↦ go z j g
    | inr (d, z, j, g) ↦ n (c, h, (d ∷ z, j))
  ]
    where
      go : (z : List ℕ) → encode c ≡ t ++ z → e ∷ [] ≡ z ++ back → ⊥
      go [] j g = n (c, h, ([], sym (append-nil t) ∙ sym j ∙ sym (append-nil (encode c))))
      go (d ∷ z) j g = has_end e t z l (subst (λ y. IsTrue (list_all not_end y)) (j ∙ ap (λ y. t ++ y ∷ z) (sym (head_is e d [] (z ++ back) g))) (k.no_end c h))

  -- bytes that begin no character, of which some begin one, turn at a byte
  pub code_turns : (c0 : ℕ) → IsTrue (test c0) → (t : List ℕ) → (BeginsCode test t → ⊥) → TurnsIn (BeginsCode test) [] t
  code_turns c0 h t n = turns (BeginsCode test) decide_code [] t (c0, h, (encode c0, refl)) n

  -- with which bytes behind it a row of characters can't go on
  pub record Ends (t : List ℕ) : Type 0 where
    pub not_begun : BeginsCode test t → ⊥
    pub not_had : HasCode test t → ⊥

  pub no_further : (t behind : List ℕ) (e : ℕ) (es y : List ℕ) → Ends t → IsTrue (test e) → t ++ behind ≡ encodes (e ∷ es) ++ y → ⊥
  no_further t behind e es y n h i = elim (fronts_of t (encode e) behind (encodes es ++ y) (i ∙ append_assoc (encode e) (encodes es) y)) [
    | inl (z, j, g) ↦ n.not_begun (e, h, (z, j))
    | inr (d, z, j, g) ↦ n.not_had (e, h, (d ∷ z, j))
  ]

-- ---- the classes

in_below : (n : ℕ) (rs : List (ℕ × ℕ)) (c : ℕ) → IsTrue (list_all (λ (r : ℕ × ℕ). nat_lt r.1 n) rs) → IsTrue (is_in rs c) → c < n
in_below n [] c h k = absurd (false≢true k)
in_below n (r ∷ rs) c h k =
    let p = and_parts (nat_lt r.1 n) (list_all (λ (x : ℕ × ℕ). nat_lt x.1 n) rs) h in
    elim (or_cases (nat_le r.0 c && nat_le c r.1) (is_in rs c) k) [
      | inl m ↦ let q = and_parts (nat_le r.0 c) (nat_le c r.1) m in omega (arith, leb-true c r.1 q.1, ltb-true r.1 n p.0)
      | inr m ↦ in_below n rs c p.1 m
    ]

word_below : (c : ℕ) → IsTrue (is_ascii_alphanumeric c) → c < 1114112
word_below c h = elim (cases_lt c 128) [ inl l ↦ omega (arith, l) | inr l ↦ absurd (false≢true (sym (high_alphanumeric c l) ∙ h)) ]

begins_below : (c : ℕ) → IsTrue (begins_label c) → c < 1114112
begins_below c h = elim (or_cases (is_ascii_alphanumeric c) (c == 95 || (c == 58 || is_in base_ranges c)) h) [
  | inl m ↦ word_below c m
  | inr m ↦ elim (or_cases (c == 95) (c == 58 || is_in base_ranges c) m) [
    | inl o ↦ omega (arith, eqb-true c 95 o)
    | inr o ↦ elim (or_cases (c == 58) (is_in base_ranges c) o) [ inl p ↦ omega (arith, eqb-true c 58 p) | inr p ↦ in_below 1114112 base_ranges c refl p ]
  ]
]

goes_below : (c : ℕ) → IsTrue (goes_on_label c) → c < 1114112
goes_below c h = elim (or_cases (begins_label c) (c == 45 || (c == 46 || is_in further_ranges c)) h) [
  | inl m ↦ begins_below c m
  | inr m ↦ elim (or_cases (c == 45) (c == 46 || is_in further_ranges c) m) [
    | inl o ↦ omega (arith, eqb-true c 45 o)
    | inr o ↦ elim (or_cases (c == 46) (is_in further_ranges c) o) [ inl p ↦ omega (arith, eqb-true c 46 p) | inr p ↦ in_below 1114112 further_ranges c refl p ]
  ]
]

pub first_of_label : Class begins_label
first_of_label = record { below = begins_below; no_end = λ c h. char_no_end c (λ l. within begins_label refl c h l) }

pub in_label : Class goes_on_label
in_label = record { below = goes_below; no_end = λ c h. char_no_end c (λ l. within goes_on_label refl c h l) }

pub in_comment : Class is_comment_character
in_comment = record { below = λ c h. scalar_below c (and_parts (scalar c) (not_end c) h).0; no_end = λ c h. char_no_end c (λ l. (and_parts (scalar c) (not_end c) h).1) }
