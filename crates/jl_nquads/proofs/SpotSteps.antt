-- What holds behind a token holds before it.
use Rattle.std.proofs.Common.{◌≡◌, ℕ, ◌+◌, ◌<◌, ◌⊎◌, inl, inr, List, [], ◌∷◌, ◌++◌, length, Some, IsTrue, append-nil, append_assoc, refl, sym, ap, ◌∙◌, subst, arith, length-append}
use Rattle.std.proofs.lemmas.List.{append_cancel_left}
use Rattle.jl_model.specs.Parts.{Parts}
use Rattle.jl_model.specs.LineTokens.{LineToken, token_bytes, is_token, ends_before, is_row, bytes_of, is_line_end}
use Rattle.jl_nquads.specs.Spots.{Spot, leads_to, goes, said, Left, Begins, StandsAt, Reaches, Breaks, BreaksInside, BreaksAtEnd}
use Rattle.jl_nquads.proofs.NoLineEnds.{ends_at_line_end}
use Rattle.jl_nquads.proofs.SpotRows.{goes_on, said_on, row_from, head_is_token, head_ends, tail_is_row, ends_same, ends_at_end, said_goes, ends_before_next}

-- rows that may follow here reach no further than the token, or begin with it, in a text that begins with it and then x
abbrev pub Alone : Spot → Spot → LineToken → List ℕ → Type 0
Alone s r t x = (behind rest : List ℕ) (row : List LineToken) → IsTrue (is_row row rest) → IsTrue (goes s row) → (token_bytes t ++ x) ++ behind ≡ bytes_of row ++ rest
    → (length (bytes_of row) < length (token_bytes t)) ⊎ ((ts : List LineToken) × (row ≡ t ∷ ts) × (x ++ behind ≡ bytes_of ts ++ rest))

-- the token leads on from s to r in a text where x stands behind it
pub record Joins (s r : Spot) (t : LineToken) (x : List ℕ) : Type 0 where
  pub leads : leads_to s t ≡ Some r
  pub token : IsTrue (is_token t)
  pub apart : IsTrue (ends_before t x)
  pub alone : Alone s r t x

module _ (s r : Spot) (t : LineToken) where
  pub left_before : (rest : List ℕ) (q : List Parts) → leads_to s t ≡ Some r → IsTrue (is_token t) → IsTrue (ends_before t rest) → Left r rest q → Left s (token_bytes t ++ rest) q
  left_before rest q leads token apart l = record {
    row = t ∷ l.row;
    text_is = ap (λ x. token_bytes t ++ x) l.text_is;
    whole = row_from t l.row [] token (subst (λ x. IsTrue (ends_before t x)) (l.text_is ∙ sym (append-nil (bytes_of l.row))) apart) l.whole;
    says = said_on s r t l.row leads ∙ l.says;
  }

  -- a front of a row that follows the token
  begins_before : (p : List ℕ) (c : ℕ) → leads_to s t ≡ Some r → IsTrue (is_token t) → IsTrue (ends_before t (p ++ c ∷ [])) → Begins r p → Begins s (token_bytes t ++ p)
  begins_before [] c leads token apart b = record { more = []; row = t ∷ []; text_is = append-nil (token_bytes t ++ []); whole = row_from t [] [] token (ends_at_end t) refl; fits = goes_on s r t [] leads }
  begins_before (d ∷ p) c leads token apart b = record {
    more = b.more;
    row = t ∷ b.row;
    text_is = append_assoc (token_bytes t) (d ∷ p) b.more ∙ ap (λ x. token_bytes t ++ x) b.text_is;
    whole = row_from t b.row [] token (subst (λ x. IsTrue (ends_before t x)) (b.text_is ∙ sym (append-nil (bytes_of b.row))) (sym (ends_same t d (p ++ c ∷ []) (p ++ b.more)) ∙ apart)) b.whole;
    fits = goes_on s r t b.row leads ∙ b.fits;
  }

  stands_before : (x : List ℕ) (place : ℕ) → Joins s r t x → StandsAt r x place → StandsAt s (token_bytes t ++ x) (length (token_bytes t) + place)
  stands_before x place j k = record {
    row = t ∷ k.row;
    rest = k.rest;
    text_is = ap (λ y. token_bytes t ++ y) k.text_is ∙ sym (append_assoc (token_bytes t) (bytes_of k.row) k.rest);
    whole = row_from t k.row k.rest j.token (subst (λ y. IsTrue (ends_before t y)) k.text_is j.apart) k.whole;
    fits = goes_on s r t k.row j.leads ∙ k.fits;
    place_is = ap (λ n. length (token_bytes t) + n) k.place_is ∙ sym (length-append (token_bytes t) (bytes_of k.row));
  }

  reaches_before : (x : List ℕ) (place : ℕ) → Joins s r t x → Reaches r x place → Reaches s (token_bytes t ++ x) (length (token_bytes t) + place)
  reaches_before x place j k behind rest row w g e = elim (j.alone behind rest row w g e) [
    | inl h ↦ omega (arith, h)
    | inr (ts, i, f) ↦
        let w2 : IsTrue (is_row (t ∷ ts) rest) = subst (λ z. IsTrue (is_row z rest)) i w in
        let g2 : IsTrue (goes s (t ∷ ts)) = subst (λ z. IsTrue (goes s z)) i g in
        let m = k behind rest ts (tail_is_row t ts rest w2) (sym (goes_on s r t ts j.leads) ∙ g2) f in
        omega (arith, m, ap (λ z. length (bytes_of z)) i, length-append (token_bytes t) (bytes_of ts))
  ]

  pub breaks_before : (p : List ℕ) (c place : ℕ) → Joins s r t (p ++ c ∷ []) → Breaks r p c place → Breaks s (token_bytes t ++ p) c (length (token_bytes t) + place)
  breaks_before p c place j b =
      let e : (token_bytes t ++ p) ++ c ∷ [] ≡ token_bytes t ++ (p ++ c ∷ []) = append_assoc (token_bytes t) p (c ∷ []) in
      record {
        begins = begins_before p c j.leads j.token j.apart b.begins;
        stands = subst (λ x. StandsAt s x (length (token_bytes t) + place)) (sym e) (stands_before (p ++ c ∷ []) place j b.stands);
        reaches = subst (λ x. Reaches s x (length (token_bytes t) + place)) (sym e) (reaches_before (p ++ c ∷ []) place j b.reaches);
        within = omega (arith, b.within, length-append (token_bytes t) p);
      }

  -- the text behind the token breaks inside
  pub inside_before : (rest : List ℕ) (place : ℕ) → ((p : List ℕ) (c : ℕ) (y : List ℕ) → rest ≡ p ++ c ∷ y → Breaks r p c place → Joins s r t (p ++ c ∷ [])) → BreaksInside r rest place → BreaksInside s (token_bytes t ++ rest) (length (token_bytes t) + place)
  inside_before rest place j b = record {
    front = token_bytes t ++ b.front;
    byte = b.byte;
    back = b.back;
    text_is = ap (λ x. token_bytes t ++ x) b.text_is ∙ sym (append_assoc (token_bytes t) b.front (b.byte ∷ b.back));
    breaks = breaks_before b.front b.byte place (j b.front b.byte b.back b.text_is b.breaks) b.breaks;
  }

-- a row that is whole at the end of a text is whole before a line end
pub whole_at_line_end : (row : List LineToken) (e : ℕ) → IsTrue (is_line_end e) → IsTrue (is_row row []) → IsTrue (is_row row (e ∷ []))
whole_at_line_end [] e l w = refl
whole_at_line_end (t ∷ []) e l w = row_from t [] (e ∷ []) (head_is_token t [] [] w) (ends_at_line_end t e [] l) refl
whole_at_line_end (t ∷ u ∷ ts) e l w =
    row_from t (u ∷ ts) (e ∷ []) (head_is_token t (u ∷ ts) [] w) (ends_before_next t u ts [] (e ∷ []) (head_ends t (u ∷ ts) [] w)) (whole_at_line_end (u ∷ ts) e l (tail_is_row t (u ∷ ts) [] w))

module _ (s r : Spot) (t : LineToken) (rest : List ℕ) (joins : (e : ℕ) → IsTrue (is_line_end e) → Joins s r t (rest ++ e ∷ [])) where
  -- the rest of a line that begins with the token
  pub left_behind : (q : List Parts) → Left s (token_bytes t ++ rest) q → Left r rest q
  left_behind q l = elim ((joins 10 refl).alone [] (10 ∷ []) l.row (whole_at_line_end l.row 10 refl l.whole) (said_goes s l.row q l.says) spelled) [
    | inl h ↦ absurd (let z : ⊥ = omega (arith, h, ap length l.text_is, length-append (token_bytes t) rest) in z)
    | inr (ts, i, f) ↦
        let says : said s (t ∷ ts) ≡ Some q = ap (λ z. said s z) (sym i) ∙ l.says in
        record {
          row = ts;
          text_is = append_cancel_left (token_bytes t) rest (bytes_of ts) (l.text_is ∙ ap bytes_of i);
          whole = tail_is_row t ts [] (subst (λ z. IsTrue (is_row z [])) i l.whole);
          says = sym (said_on s r t ts (joins 10 refl).leads) ∙ says;
        }
  ]
    where
      spelled : (token_bytes t ++ (rest ++ 10 ∷ [])) ++ [] ≡ bytes_of l.row ++ 10 ∷ []
      spelled = append-nil (token_bytes t ++ (rest ++ 10 ∷ [])) ∙ sym (append_assoc (token_bytes t) rest (10 ∷ [])) ∙ ap (λ x. x ++ 10 ∷ []) l.text_is

  -- the text behind the token breaks where the line ends
  pub at_end_before : (place : ℕ) → BreaksAtEnd r rest place → BreaksAtEnd s (token_bytes t ++ rest) (length (token_bytes t) + place)
  at_end_before place b = record { breaks = λ e l. breaks_before s r t rest e place (joins e l) (b.breaks e l); unfinished = λ q l. b.unfinished q (left_behind q l) }
