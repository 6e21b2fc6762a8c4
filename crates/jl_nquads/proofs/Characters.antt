-- Written characters in a row: in which way bytes are cut into them, and which bytes begin such a row.
use Rattle.std.proofs.Common.{◌≡◌, ℕ, zero, suc, ◌<◌, ◌≤◌, ◌⊎◌, inl, inr, Bool, true, not, ◌&&◌, ◌==◌, List, [], ◌∷◌, ◌++◌, length, flat_map, Option, None, is_some, IsTrue, IsFalse, append-nil, append_assoc, refl, sym, ap, ◌∙◌, subst, arith, length-append}
use Rattle.std.proofs.lemmas.Bool.{and_parts, and_from, false≢true, eqb-true, eq-eqb, cases_eq}
use Rattle.std.proofs.lemmas.List.Folds.{list_all-append}
use Rattle.std.proofs.lemmas.List.Concat.{flat_map-append}
use Rattle.std.proofs.lemmas.Str.{encode_same, encode_ascii, length-encode, len_utf8_bounds}
use Rattle.std.specs.List.{list_all}
use lib.Utf8.{encode, scalar}
use Rattle.jl_model.specs.LineTokens.{Written, itself, letter, four, eight, spelling, meaning, meant_byte, letter_value, is_uchar}
use Rattle.jl_model.proofs.LineCuts.{ascii_cut}
use Rattle.jl_nquads.proofs.Texts.{head_is, tail_is, fronts_of, same_length}
use Rattle.jl_nquads.proofs.Deciding.{BeginsChar, CanBeTried, decide_begins_char, HasChar, decide_has_char, decide_true}

-- a character as it may be written somewhere: no backslash as itself
abbrev pub is_spelled : Written → Bool
is_spelled (itself c) = scalar c && not (c == 92)
is_spelled (letter c) = is_some (letter_value c)
is_spelled (four ds) = is_uchar 4 ds
is_spelled (eight ds) = is_uchar 8 ds

not_same : (b k : ℕ) → IsTrue (not (b == k)) → b ≡ k → ⊥
not_same b k h e = false≢true (sym (ap (λ x. not x) (eq-eqb b k e)) ∙ h)

no_backslash : (c : ℕ) (r s : List ℕ) → IsTrue (is_spelled (itself c)) → encode c ++ r ≡ 92 ∷ s → ⊥
no_backslash c r s h e = not_same c 92 (and_parts (scalar c) (not (c == 92)) h).1 (ascii_cut c 92 r s (let z : 92 < 128 = omega arith in z) e).0

no_letter : (c : ℕ) → letter_value c ≡ None → IsTrue (is_spelled (letter c)) → ⊥
no_letter c e h = false≢true (sym (ap (λ (o : Option ℕ). is_some o) e) ∙ h)

digits_long : (n : ℕ) (ds : List ℕ) → IsTrue (is_uchar n ds) → length ds ≡ n
digits_long n ds h = eqb-true (length ds) n (and_parts (length ds == n) _ h).0

-- spellings are cut apart in one way
pub same_spelling : (w v : Written) (x y : List ℕ) → IsTrue (is_spelled w) → IsTrue (is_spelled v) → spelling w ++ x ≡ spelling v ++ y → (w ≡ v) × (x ≡ y)
same_spelling (itself c) (itself d) x y h k e = let i = encode_same c d x y e in (ap itself i.0, i.1)
same_spelling (itself c) (letter d) x y h k e = absurd (no_backslash c x (d ∷ y) h e)
same_spelling (itself c) (four ds) x y h k e = absurd (no_backslash c x (117 ∷ (ds ++ y)) h e)
same_spelling (itself c) (eight ds) x y h k e = absurd (no_backslash c x (85 ∷ (ds ++ y)) h e)
same_spelling (letter c) (itself d) x y h k e = absurd (no_backslash d y (c ∷ x) k (sym e))
same_spelling (letter c) (letter d) x y h k e = let f = tail_is 92 92 (c ∷ x) (d ∷ y) e in (ap letter (head_is c d x y f), tail_is c d x y f)
same_spelling (letter c) (four ds) x y h k e = let f = head_is c 117 x (ds ++ y) (tail_is 92 92 (c ∷ x) (117 ∷ (ds ++ y)) e) in absurd (no_letter 117 refl (subst (λ z. IsTrue (is_spelled (letter z))) f h))
same_spelling (letter c) (eight ds) x y h k e = let f = head_is c 85 x (ds ++ y) (tail_is 92 92 (c ∷ x) (85 ∷ (ds ++ y)) e) in absurd (no_letter 85 refl (subst (λ z. IsTrue (is_spelled (letter z))) f h))
same_spelling (four ds) (itself d) x y h k e = absurd (no_backslash d y (117 ∷ (ds ++ x)) k (sym e))
same_spelling (four ds) (letter d) x y h k e = let f = head_is 117 d (ds ++ x) y (tail_is 92 92 (117 ∷ (ds ++ x)) (d ∷ y) e) in absurd (no_letter 117 refl (subst (λ z. IsTrue (is_spelled (letter z))) (sym f) k))
same_spelling (four ds) (four es) x y h k e =
    let i = same_length ds es x y (digits_long 4 ds h ∙ sym (digits_long 4 es k)) (tail_is 117 117 (ds ++ x) (es ++ y) (tail_is 92 92 (117 ∷ (ds ++ x)) (117 ∷ (es ++ y)) e)) in (ap four i.0, i.1)
same_spelling (four ds) (eight es) x y h k e = absurd (let f = head_is 117 85 (ds ++ x) (es ++ y) (tail_is 92 92 (117 ∷ (ds ++ x)) (85 ∷ (es ++ y)) e) in let z : ⊥ = omega (arith, f) in z)
same_spelling (eight ds) (itself d) x y h k e = absurd (no_backslash d y (85 ∷ (ds ++ x)) k (sym e))
same_spelling (eight ds) (letter d) x y h k e = let f = head_is 85 d (ds ++ x) y (tail_is 92 92 (85 ∷ (ds ++ x)) (d ∷ y) e) in absurd (no_letter 85 refl (subst (λ z. IsTrue (is_spelled (letter z))) (sym f) k))
same_spelling (eight ds) (four es) x y h k e = absurd (let f = head_is 85 117 (ds ++ x) (es ++ y) (tail_is 92 92 (85 ∷ (ds ++ x)) (117 ∷ (es ++ y)) e) in let z : ⊥ = omega (arith, f) in z)
same_spelling (eight ds) (eight es) x y h k e =
    let i = same_length ds es x y (digits_long 8 ds h ∙ sym (digits_long 8 es k)) (tail_is 85 85 (ds ++ x) (es ++ y) (tail_is 92 92 (85 ∷ (ds ++ x)) (85 ∷ (es ++ y)) e)) in (ap eight i.0, i.1)

pub has_first : (w : Written) → 0 < length (spelling w)
has_first (itself c) = subst (λ n. 0 < n) (sym (length-encode c)) (let z = (len_utf8_bounds c).0 in omega (arith, z))
has_first (letter c) = omega arith
has_first (four ds) = omega arith
has_first (eight ds) = omega arith

-- what stands between an opening and a closing byte: characters that pass a test, the closing byte, which meaning is good,
-- and which meaning may be the beginning of a good one
pub record Body (test : Written → Bool) (close : ℕ) (good fine : List ℕ → Bool) : Type 0 where
  pub spelled : (w : Written) → IsTrue (test w) → IsTrue (is_spelled w)
  pub can_be_tried : CanBeTried test
  pub close_low : close < 128
  pub close_spelled : IsTrue (is_spelled (itself close))
  pub closes : IsFalse (test (itself close))
  pub fine_front : (m x : List ℕ) → IsTrue (good (m ++ x)) → IsTrue (fine m)
  pub fine_goes_on : (m : List ℕ) → IsTrue (fine m) → (ws : List Written) × IsTrue (list_all test ws) × IsTrue (good (m ++ meaning ws))

module _ (test : Written → Bool) (close : ℕ) (good fine : List ℕ → Bool) (b : Body test close good fine) where
  -- characters, up to the closing byte, whose meaning behind m is good
  pub record Closes (m text : List ℕ) (ws : List Written) : Type 0 where
    pub each : IsTrue (list_all test ws)
    pub good_meaning : IsTrue (good (m ++ meaning ws))
    pub text_is : text ≡ flat_map spelling ws ++ close ∷ []

  -- the text begins such characters
  pub record FrontsBody (m t : List ℕ) : Type 0 where
    pub characters : List Written
    pub back : List ℕ
    pub whole : Closes m (t ++ back) characters

  -- no character begins with the closing byte
  pub no_close : (w : Written) (x y : List ℕ) → IsTrue (test w) → spelling w ++ x ≡ close ∷ y → ⊥
  no_close w x y h e =
      let k = (same_spelling w (itself close) x y (b.spelled w h) b.close_spelled (e ∙ ap (λ z. z ++ y) (sym (encode_ascii close b.close_low)))).0 in
      false≢true (sym b.closes ∙ ap test (sym k) ∙ h)

  -- where such characters go on, up to the closing byte, each row of them does
  pub characters_behind : (ws vs : List Written) (x y : List ℕ) → IsTrue (list_all test ws) → IsTrue (list_all test vs) → flat_map spelling ws ++ x ≡ flat_map spelling vs ++ close ∷ y
      → (us : List Written) × (vs ≡ ws ++ us) × IsTrue (list_all test us) × (x ≡ flat_map spelling us ++ close ∷ y)
  characters_behind [] vs x y h k e = (vs, refl, k, e)
  characters_behind (w ∷ ws) [] x y h k e = absurd (no_close w (flat_map spelling ws ++ x) y (and_parts (test w) (list_all test ws) h).0 (sym (append_assoc (spelling w) (flat_map spelling ws) x) ∙ e))
  characters_behind (w ∷ ws) (v ∷ vs) x y h k e =
      let p = and_parts (test w) (list_all test ws) h in
      let q = and_parts (test v) (list_all test vs) k in
      let i = same_spelling w v (flat_map spelling ws ++ x) (flat_map spelling vs ++ close ∷ y) (b.spelled w p.0) (b.spelled v q.0) (sym (append_assoc (spelling w) (flat_map spelling ws) x) ∙ e ∙ append_assoc (spelling v) (flat_map spelling vs) (close ∷ y)) in
      let (us, f, g, l) = characters_behind ws vs x y p.1 q.1 i.1 in
      (us, ap (λ z. z ∷ vs) (sym i.0) ∙ ap (λ z. w ∷ z) f, g, l)

  -- rows of characters up to the closing byte are the same
  pub same_characters : (ws vs : List Written) (x y : List ℕ) → IsTrue (list_all test ws) → IsTrue (list_all test vs) → flat_map spelling ws ++ close ∷ x ≡ flat_map spelling vs ++ close ∷ y → (ws ≡ vs) × (x ≡ y)
  same_characters ws vs x y h k e = let (us, f, g, l) = characters_behind ws vs (close ∷ x) y h k e in go us f g l
    where
      go : (us : List Written) → vs ≡ ws ++ us → IsTrue (list_all test us) → close ∷ x ≡ flat_map spelling us ++ close ∷ y → (ws ≡ vs) × (x ≡ y)
      go [] f g l = (sym (f ∙ append-nil ws), tail_is close close x y l)
      go (u ∷ us) f g l = absurd (no_close u (flat_map spelling us ++ close ∷ y) x (and_parts (test u) (list_all test us) g).0 (sym (append_assoc (spelling u) (flat_map spelling us) (close ∷ y)) ∙ sym l))

  -- ---- which texts begin such characters

  -- what stands behind characters decides
  pub fronts_behind : (m t : List ℕ) (ws : List Written) → IsTrue (list_all test ws) → FrontsBody (m ++ meaning ws) t → FrontsBody m (flat_map spelling ws ++ t)
  fronts_behind m t ws h f = record {
    characters = ws ++ f.characters;
    back = f.back;
    whole = record {
      each = list_all-append test ws f.characters ∙ both_true h f.whole.each;
      good_meaning = subst (λ z. IsTrue (good z)) (append_assoc m (meaning ws) (meaning f.characters) ∙ ap (λ z. m ++ z) (sym (flat_map-append meant_byte ws f.characters))) f.whole.good_meaning;
      text_is = append_assoc (flat_map spelling ws) t f.back ∙ ap (λ z. flat_map spelling ws ++ z) f.whole.text_is ∙ sym (append_assoc (flat_map spelling ws) (flat_map spelling f.characters) (close ∷ [])) ∙ ap (λ z. z ++ close ∷ []) (sym (flat_map-append spelling ws f.characters));
    };
  }
    where
      both_true : {x y : Bool} → x ≡ true → y ≡ true → (x && y) ≡ true
      both_true {x} {y} e g = and_from x y e g

  pub fronts_only_behind : (m t : List ℕ) (ws : List Written) → IsTrue (list_all test ws) → FrontsBody m (flat_map spelling ws ++ t) → FrontsBody (m ++ meaning ws) t
  fronts_only_behind m t ws h f =
      let (us, i, g, l) = characters_behind ws f.characters (t ++ f.back) [] h f.whole.each (sym (append_assoc (flat_map spelling ws) t f.back) ∙ f.whole.text_is) in
      record {
        characters = us;
        back = f.back;
        whole = record {
          each = g;
          good_meaning = subst (λ z. IsTrue (good z)) (ap (λ z. m ++ z) (ap meaning i ∙ flat_map-append meant_byte ws us) ∙ sym (append_assoc m (meaning ws) (meaning us))) f.whole.good_meaning;
          text_is = l;
        };
      }

  -- at the end of the text
  pub fronts_at_end : (m : List ℕ) → IsTrue (fine m) → FrontsBody m []
  fronts_at_end m h = let (ws, each, ok) = b.fine_goes_on m h in record { characters = ws; back = flat_map spelling ws ++ close ∷ []; whole = record { each = each; good_meaning = ok; text_is = refl } }

  pub fine_of_front : (m t : List ℕ) → FrontsBody m t → IsTrue (fine m)
  fine_of_front m t f = b.fine_front m (meaning f.characters) f.whole.good_meaning

  -- at the closing byte
  pub fronts_at_close : (m x : List ℕ) → FrontsBody m (close ∷ x) → (x ≡ []) × IsTrue (good m)
  fronts_at_close m x f = go f.characters f.whole
    where
      none : (x back : List ℕ) → close ∷ (x ++ back) ≡ close ∷ [] → x ≡ []
      none [] back e = refl
      none (c ∷ x) back e = absurd (let z : ⊥ = cc in z)

      go : (ws : List Written) → Closes m (close ∷ (x ++ f.back)) ws → (x ≡ []) × IsTrue (good m)
      go [] w = (none x f.back w.text_is, subst (λ z. IsTrue (good z)) (append-nil m) w.good_meaning)
      go (w ∷ ws) c = absurd (no_close w (flat_map spelling ws ++ close ∷ []) (x ++ f.back) (and_parts (test w) (list_all test ws) c.each).0 (sym (append_assoc (spelling w) (flat_map spelling ws) (close ∷ [])) ∙ sym c.text_is))

  pub closed : (m : List ℕ) → IsTrue (good m) → FrontsBody m (close ∷ [])
  closed m h = record { characters = []; back = []; whole = record { each = refl; good_meaning = subst (λ z. IsTrue (good z)) (sym (append-nil m)) h; text_is = refl } }

  -- the meaning with a character more may be the beginning of a good one
  abbrev pub Fits : List ℕ → Written → Type 0
  Fits m w = IsTrue (fine (m ++ meant_byte w))

  -- no character stands at the front
  abbrev pub NoChar : List ℕ → Type 0
  NoChar t = (w : Written) (x : List ℕ) → IsTrue (test w) → t ≡ spelling w ++ x → ⊥

  -- within a character
  pub fronts_within : (m t : List ℕ) → BeginsChar test (Fits m) t → FrontsBody m t
  fronts_within m t (w, h, (f, (back, e))) =
      let (ws, each, ok) = b.fine_goes_on (m ++ meant_byte w) f in
      record {
        characters = w ∷ ws;
        back = back ++ (flat_map spelling ws ++ close ∷ []);
        whole = record {
          each = and_from (test w) (list_all test ws) h each;
          good_meaning = subst (λ z. IsTrue (good z)) (append_assoc m (meant_byte w) (meaning ws)) ok;
          text_is = sym (append_assoc t back (flat_map spelling ws ++ close ∷ [])) ∙ ap (λ z. z ++ (flat_map spelling ws ++ close ∷ [])) (sym e) ∙ sym (append_assoc (spelling w) (flat_map spelling ws) (close ∷ []));
        };
      }

  pub only_within : (m : List ℕ) (c : ℕ) (t : List ℕ) → (c ≡ close → ⊥) → NoChar (c ∷ t) → FrontsBody m (c ∷ t) → BeginsChar test (Fits m) (c ∷ t)
  only_within m c t other n f = go f.characters f.whole
    where
      go : (ws : List Written) → Closes m (c ∷ (t ++ f.back)) ws → BeginsChar test (Fits m) (c ∷ t)
      go [] w = absurd (other (head_is c close (t ++ f.back) [] w.text_is))
      go (w ∷ ws) k =
          let p = and_parts (test w) (list_all test ws) k.each in
          elim (fronts_of (c ∷ t) (spelling w) f.back (flat_map spelling ws ++ close ∷ []) (k.text_is ∙ append_assoc (spelling w) (flat_map spelling ws) (close ∷ []))) [
            | inl (z, i, j) ↦ (w, p.0, (b.fine_front (m ++ meant_byte w) (meaning ws) (subst (λ z. IsTrue (good z)) (sym (append_assoc m (meant_byte w) (meaning ws))) k.good_meaning), (z, i)))
            | inr (d, z, i, j) ↦ absurd (n w (d ∷ z) p.0 i)
          ]

  -- whether a text begins such characters can be decided
  one : (w : Written) (x : List ℕ) → flat_map spelling (w ∷ []) ++ x ≡ spelling w ++ x
  one w x = ap (λ z. z ++ x) (append-nil (spelling w))

  at_end : (m : List ℕ) → Dec (IsTrue (fine m)) → Dec (FrontsBody m [])
  at_end m (yes h) = yes (fronts_at_end m h)
  at_end m (no k) = no (λ f. k (fine_of_front m [] f))

  ended : (m t : List ℕ) → Dec (IsTrue (good m)) → Dec (FrontsBody m (close ∷ t))
  ended m [] (yes h) = yes (closed m h)
  ended m [] (no k) = no (λ f. k (fronts_at_close m [] f).1)
  ended m (d ∷ t) h = no (λ f. let e = (fronts_at_close m (d ∷ t) f).0 in let z : ⊥ = cc in z)

  within : (m : List ℕ) (c : ℕ) (t : List ℕ) → (c ≡ close → ⊥) → Dec (BeginsChar test (Fits m) (c ∷ t)) → (HasChar test (c ∷ t) → ⊥) → Dec (FrontsBody m (c ∷ t))
  within m c t other (yes h) k = yes (fronts_within m (c ∷ t) h)
  within m c t other (no j) k = no (λ f. j (only_within m c t other (λ w x h e. k (w, h, (x, e))) f))

  behind : (m text : List ℕ) (w : Written) (x : List ℕ) → IsTrue (test w) → text ≡ spelling w ++ x → Dec (FrontsBody (m ++ meant_byte w) x) → Dec (FrontsBody m text)
  behind m text w x h e (yes f) = yes (subst (λ z. FrontsBody m z) (one w x ∙ sym e) (fronts_behind m x (w ∷ []) (and_from (test w) true h refl) (subst (λ z. FrontsBody (m ++ z) x) (sym (append-nil (meant_byte w))) f)))
  behind m text w x h e (no k) =
      no (λ f. k (subst (λ z. FrontsBody (m ++ z) x) (append-nil (meant_byte w)) (fronts_only_behind m x (w ∷ []) (and_from (test w) true h refl) (subst (λ z. FrontsBody m z) (e ∙ sym (one w x)) f))))

  shorter : (text : List ℕ) (w : Written) (x : List ℕ) (n : ℕ) → length text ≤ suc n → text ≡ spelling w ++ x → length x ≤ n
  shorter text w x n l e = omega (arith, l, ap length e, length-append (spelling w) x, has_first w)

  at_char : (m : List ℕ) (c : ℕ) (t : List ℕ) → ((w : Written) (x : List ℕ) → c ∷ t ≡ spelling w ++ x → Dec (FrontsBody (m ++ meant_byte w) x)) → (c ≡ close → ⊥) → Dec (HasChar test (c ∷ t)) → Dec (FrontsBody m (c ∷ t))
  at_char m c t later other (yes (w, h, (x, e))) = behind m (c ∷ t) w x h e (later w x e)
  at_char m c t later other (no k) = within m c t other (decide_begins_char test (Fits m) (c ∷ t) (λ w. decide_true (fine (m ++ meant_byte w))) b.can_be_tried) k

  at_byte : (m : List ℕ) (c : ℕ) (t : List ℕ) → ((w : Written) (x : List ℕ) → c ∷ t ≡ spelling w ++ x → Dec (FrontsBody (m ++ meant_byte w) x)) → (c ≡ close) ⊎ (c ≡ close → ⊥) → Dec (FrontsBody m (c ∷ t))
  at_byte m c t later (inl e) = subst (λ z. Dec (FrontsBody m (z ∷ t))) (sym e) (ended m t (decide_true (good m)))
  at_byte m c t later (inr other) = at_char m c t later other (decide_has_char test (c ∷ t) b.can_be_tried)

  pub decide_fronts : (n : ℕ) (m t : List ℕ) → length t ≤ n → Dec (FrontsBody m t)
  decide_fronts n m [] l = at_end m (decide_true (fine m))
  decide_fronts zero m (c ∷ t) l = absurd (let z : ⊥ = omega (arith, l) in z)
  decide_fronts (suc n) m (c ∷ t) l = at_byte m c t (λ w x e. decide_fronts n (m ++ meant_byte w) x (shorter (c ∷ t) w x n l e)) (cases_eq c close)
