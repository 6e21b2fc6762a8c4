-- Which escape stands at the front of a text.
use Rattle.std.proofs.Common.{◌≡◌, ℕ, suc, ◌≤◌, Bool, true, false, ◌&&◌, ◌==◌, nat_lt, nat_le, cond, List, [], ◌∷◌, ◌++◌, length, take, drop, Option, Some, None, is_some, unwrap_or, IsTrue, refl, sym, ap, ◌∙◌, subst, arith, length-append}
use Rattle.std.proofs.lemmas.Bool.{and_parts, and_from, cond_both, false≢true, eqb-true, eq-eqb, eqb-false, ltb-true, ltb-false, le-leb}
use Rattle.std.proofs.lemmas.List.{length-take-le, take-append-drop, take_at}
use Rattle.std.specs.List.{list_all}
use lib.Utf8.{scalar}
use Rattle.jl_model.specs.LineTokens.{Written, itself, letter, four, eight, spelling, letter_value, is_uchar, is_hex_digit, hex_number}
use Rattle.jl_nquads.specs.EscapesRead.{code_value, is_escape, EscapeAt, scalar_or_none, digits_value, with_len, escape_by, escape_first}
use Rattle.jl_nquads.proofs.Texts.{head_is, tail_is}
use Rattle.jl_nquads.proofs.TokenBodies.{scalar_below}

-- what the digits at the front make
DigitsAre : ℕ → List ℕ → Option ℕ → Type 0
DigitsAre n t None = (ds back : List ℕ) → IsTrue (is_uchar n ds) → t ≡ ds ++ back → ⊥
DigitsAre n t (Some v) = IsTrue (is_uchar n (take n t)) × (n ≤ length t) × (v ≡ hex_number 0 (take n t))

pub uchar_parts : (n : ℕ) (ds : List ℕ) → IsTrue (is_uchar n ds) → (length ds ≡ n) × IsTrue (list_all is_hex_digit ds) × IsTrue (scalar (hex_number 0 ds))
uchar_parts n ds h =
    let p = and_parts (length ds == n) (list_all is_hex_digit ds && scalar (hex_number 0 ds)) h in
    let q = and_parts (list_all is_hex_digit ds) (scalar (hex_number 0 ds)) p.1 in
    (eqb-true (length ds) n p.0, q.0, q.1)

-- the digits make a number, or aren't all digits, or make no code point
numbered : (ds : List ℕ) → IsTrue (list_all is_hex_digit ds) → IsTrue (scalar (hex_number 0 ds)) → code_value 0 ds ≡ Some (hex_number 0 ds)
numbered ds h k = ap (λ b. cond (b && nat_le (hex_number 0 ds) 1114111) (Some (hex_number 0 ds)) None) h ∙ ap (λ b. cond b (Some (hex_number 0 ds)) None) (le-leb (hex_number 0 ds) 1114111 (let l = scalar_below (hex_number 0 ds) k in omega (arith, l)))

digits_are : (n : ℕ) (t : List ℕ) → DigitsAre n t (digits_value n t)
unfolding DigitsAre
digits_are n t = cond_both (nat_lt (length t) n) None (scalar_or_none (code_value 0 (take n t))) (DigitsAre n t) short (λ e. long (ltb-false (length t) n e))
  where
    short : nat_lt (length t) n ≡ true → DigitsAre n t None
    short e ds back h i = let z : ⊥ = omega (arith, ltb-true (length t) n e, ap length i, length-append ds back, (uchar_parts n ds h).0) in z

    made : (v : ℕ) → n ≤ length t → IsTrue (list_all is_hex_digit (take n t)) → v ≡ hex_number 0 (take n t) → DigitsAre n t (cond (scalar v) (Some v) None)
    made v l all e = cond_both (scalar v) (Some v) None (DigitsAre n t) yes_scalar no_scalar
      where
        yes_scalar : scalar v ≡ true → DigitsAre n t (Some v)
        yes_scalar k =
            (and_from (length (take n t) == n) (list_all is_hex_digit (take n t) && scalar (hex_number 0 (take n t))) (eq-eqb (length (take n t)) n (length-take-le n t l)) (and_from (list_all is_hex_digit (take n t)) (scalar (hex_number 0 (take n t))) all (ap scalar (sym e) ∙ k)), l, e)

        no_scalar : scalar v ≡ false → DigitsAre n t None
        no_scalar k ds back h i =
            let u = uchar_parts n ds h in
            let same : take n t ≡ ds = ap (take n) i ∙ take_at ds back n u.0 in
            false≢true (sym k ∙ ap scalar (e ∙ ap (hex_number 0) same) ∙ u.2)

    none : code_value 0 (take n t) ≡ None → DigitsAre n t None
    none e ds back h i =
        let u = uchar_parts n ds h in
        let same : take n t ≡ ds = ap (take n) i ∙ take_at ds back n u.0 in
        let f : ◌≡◌ {A = Option ℕ} None (Some (hex_number 0 ds)) = sym e ∙ ap (code_value 0) same ∙ numbered ds u.1 u.2 in
        let z : ⊥ = cc in z

    long : n ≤ length t → DigitsAre n t (scalar_or_none (code_value 0 (take n t)))
    long l = cond_both (list_all is_hex_digit (take n t) && nat_le (hex_number 0 (take n t)) 1114111) (Some (hex_number 0 (take n t))) None (λ o. code_value 0 (take n t) ≡ o → DigitsAre n t (scalar_or_none o))
        (λ k _. made (hex_number 0 (take n t)) l (and_parts (list_all is_hex_digit (take n t)) (nat_le (hex_number 0 (take n t)) 1114111) k).0 refl)
        (λ k e. none e) refl

-- an escape begins with a backslash and a byte that tells its kind
begins_escape : (letters : Bool) (w : Written) (back text : List ℕ) → IsTrue (is_escape letters w) → text ≡ spelling w ++ back → (c : ℕ) × (t : List ℕ) × (text ≡ 92 ∷ c ∷ t)
begins_escape letters (itself c) back text h e = absurd (false≢true h)
begins_escape letters (letter c) back text h e = (c, back, e)
begins_escape letters (four ds) back text h e = (117, ds ++ back, e)
begins_escape letters (eight ds) back text h e = (85, ds ++ back, e)

no_escape : (letters : Bool) (text : List ℕ) → ((c : ℕ) (t : List ℕ) → text ≡ 92 ∷ c ∷ t → ⊥) → EscapeAt letters text None
no_escape letters text n w back h e = let (c, t, i) = begins_escape letters w back text h e in n c t i

not_letter : (c : ℕ) → letter_value c ≡ None → IsTrue (is_some (letter_value c)) → ⊥
not_letter c e h = false≢true (sym (ap (λ (o : Option ℕ). is_some o) e) ∙ h)

-- by the byte behind the backslash
by_byte : (letters : Bool) (c : ℕ) (t : List ℕ) → EscapeAt letters (92 ∷ c ∷ t) (escape_by letters c t)
unfolding DigitsAre
by_byte letters c t =
    cond_both (c == 117) (with_len 6 (digits_value 4 t)) _ (EscapeAt letters (92 ∷ c ∷ t)) (λ e. of_four (eqb-true c 117 e) (digits_value 4 t) (digits_are 4 t)) (λ n.
    cond_both (c == 85) (with_len 10 (digits_value 8 t)) _ (EscapeAt letters (92 ∷ c ∷ t)) (λ e. of_eight (eqb-true c 85 e) (digits_value 8 t) (digits_are 8 t)) (λ m.
    cond_both letters (with_len 2 (letter_value c)) None (EscapeAt letters (92 ∷ c ∷ t)) (λ e. of_letter (eqb-false c 117 n) (eqb-false c 85 m) e (letter_value c) refl) (λ e. of_none (eqb-false c 117 n) (eqb-false c 85 m) e)))
  where
    no_four : c ≡ 117 → DigitsAre 4 t None → EscapeAt letters (92 ∷ c ∷ t) None
    no_four e k (itself d) back h i = false≢true h
    no_four e k (letter d) back h i =
        let f : d ≡ 117 = sym (head_is c d t back (tail_is 92 92 (c ∷ t) (d ∷ back) i)) ∙ e in
        let p = and_parts letters (is_some (letter_value d)) h in
        not_letter 117 refl (subst (λ z. IsTrue (is_some (letter_value z))) f p.1)
    no_four e k (four ds) back h i = k ds back h (tail_is c 117 t (ds ++ back) (tail_is 92 92 (c ∷ t) (117 ∷ (ds ++ back)) i))
    no_four e k (eight ds) back h i = let f = head_is c 85 t (ds ++ back) (tail_is 92 92 (c ∷ t) (85 ∷ (ds ++ back)) i) in let z : ⊥ = omega (arith, e, f) in z

    of_four : c ≡ 117 → (o : Option ℕ) → DigitsAre 4 t o → EscapeAt letters (92 ∷ c ∷ t) (with_len 6 o)
    of_four e (Some v) k = record {
      written = four (take 4 t);
      back = drop 4 t;
      text_is = ap (λ z. 92 ∷ z ∷ t) e ∙ ap (λ z. 92 ∷ 117 ∷ z) (sym (take-append-drop 4 t));
      fits = k.0;
      len_is = ap (λ n. suc (suc n)) (sym (length-take-le 4 t k.1));
      code_is = k.2;
    }
    of_four e None k = no_four e k

    no_eight : c ≡ 85 → DigitsAre 8 t None → EscapeAt letters (92 ∷ c ∷ t) None
    no_eight e k (itself d) back h i = false≢true h
    no_eight e k (letter d) back h i =
        let f : d ≡ 85 = sym (head_is c d t back (tail_is 92 92 (c ∷ t) (d ∷ back) i)) ∙ e in
        let p = and_parts letters (is_some (letter_value d)) h in
        not_letter 85 refl (subst (λ z. IsTrue (is_some (letter_value z))) f p.1)
    no_eight e k (four ds) back h i = let f = head_is c 117 t (ds ++ back) (tail_is 92 92 (c ∷ t) (117 ∷ (ds ++ back)) i) in let z : ⊥ = omega (arith, e, f) in z
    no_eight e k (eight ds) back h i = k ds back h (tail_is c 85 t (ds ++ back) (tail_is 92 92 (c ∷ t) (85 ∷ (ds ++ back)) i))

    of_eight : c ≡ 85 → (o : Option ℕ) → DigitsAre 8 t o → EscapeAt letters (92 ∷ c ∷ t) (with_len 10 o)
    of_eight e (Some v) k = record {
      written = eight (take 8 t);
      back = drop 8 t;
      text_is = ap (λ z. 92 ∷ z ∷ t) e ∙ ap (λ z. 92 ∷ 85 ∷ z) (sym (take-append-drop 8 t));
      fits = k.0;
      len_is = ap (λ n. suc (suc n)) (sym (length-take-le 8 t k.1));
      code_is = k.2;
    }
    of_eight e None k = no_eight e k

    no_letter : (c ≡ 117 → ⊥) → (c ≡ 85 → ⊥) → letter_value c ≡ None → EscapeAt letters (92 ∷ c ∷ t) None
    no_letter n m e (itself d) back h i = false≢true h
    no_letter n m e (letter d) back h i =
        let f : c ≡ d = head_is c d t back (tail_is 92 92 (c ∷ t) (d ∷ back) i) in
        not_letter c e (subst (λ z. IsTrue (is_some (letter_value z))) (sym f) (and_parts letters (is_some (letter_value d)) h).1)
    no_letter n m e (four ds) back h i = n (head_is c 117 t (ds ++ back) (tail_is 92 92 (c ∷ t) (117 ∷ (ds ++ back)) i))
    no_letter n m e (eight ds) back h i = m (head_is c 85 t (ds ++ back) (tail_is 92 92 (c ∷ t) (85 ∷ (ds ++ back)) i))

    of_letter : (c ≡ 117 → ⊥) → (c ≡ 85 → ⊥) → letters ≡ true → (o : Option ℕ) → letter_value c ≡ o → EscapeAt letters (92 ∷ c ∷ t) (with_len 2 o)
    of_letter n m l (Some v) e = record { written = letter c; back = t; text_is = refl; fits = and_from letters (is_some (letter_value c)) l (ap (λ (o : Option ℕ). is_some o) e); len_is = refl; code_is = sym (ap (λ (o : Option ℕ). unwrap_or o 0) e) }
    of_letter n m l None e = no_letter n m e

    of_none : (c ≡ 117 → ⊥) → (c ≡ 85 → ⊥) → letters ≡ false → EscapeAt letters (92 ∷ c ∷ t) None
    of_none n m l (itself d) back h i = false≢true h
    of_none n m l (letter d) back h i = false≢true (sym l ∙ (and_parts letters (is_some (letter_value d)) h).0)
    of_none n m l (four ds) back h i = n (head_is c 117 t (ds ++ back) (tail_is 92 92 (c ∷ t) (117 ∷ (ds ++ back)) i))
    of_none n m l (eight ds) back h i = m (head_is c 85 t (ds ++ back) (tail_is 92 92 (c ∷ t) (85 ∷ (ds ++ back)) i))

pub escape_is : (letters : Bool) (text : List ℕ) → EscapeAt letters text (escape_first letters text)
escape_is letters [] = no_escape letters [] (λ c t e. let z : ⊥ = cc in z)
escape_is letters (b ∷ []) = no_escape letters (b ∷ []) (λ c t e. let z : ⊥ = cc in z)
escape_is letters (b ∷ c ∷ t) = cond_both (b == 92) (escape_by letters c t) None (EscapeAt letters (b ∷ c ∷ t))
    (λ e. subst (λ z. EscapeAt letters (z ∷ c ∷ t) (escape_by letters c t)) (sym (eqb-true b 92 e)) (by_byte letters c t))
    (λ n. no_escape letters (b ∷ c ∷ t) (λ d u e. eqb-false b 92 n (head_is b 92 (c ∷ t) (d ∷ u) e)))
