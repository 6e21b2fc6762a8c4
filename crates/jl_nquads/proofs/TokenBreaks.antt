-- Where a text breaks within a token.
use Rattle.std.proofs.Common.{◌≡◌, ℕ, inl, inr, not, List, [], ◌∷◌, ◌++◌, Some, IsTrue, append-nil, append_assoc, refl, sym, ap, ◌∙◌, subst, arith}
use Rattle.std.proofs.lemmas.Bool.{and_parts, false≢true}
use Rattle.std.proofs.lemmas.List.Folds.{list_all-append}
use Rattle.std.specs.List.{list_all}
use Rattle.jl_model.specs.Parts.{Parts}
use Rattle.jl_model.specs.LineTokens.{LineToken, token_bytes, is_token, ends_before, is_row, bytes_of, is_line_end}
use Rattle.jl_nquads.specs.Spots.{Spot, leads_to, said, Left, Reaches, Breaks, BreaksInside, BreaksAtEnd, not_end}
use Rattle.jl_nquads.proofs.NoLineEnds.{is_inside, token_no_end}
use Rattle.jl_nquads.proofs.SpotRows.{goes_on, row_from, ends_at_end, head_is_token, head_ends, goes_where, said_where}
use Rattle.jl_nquads.proofs.Texts.{head_is, fronts_of, turns}

-- at this spot the tokens that may follow and begin with this byte are those of a kind
pub record Opens (s : Spot) (b : ℕ) (K : LineToken → Type 0) : Type 0 where
  pub kind_of : (t : LineToken) (r : Spot) (x y : List ℕ) → IsTrue (is_token t) → leads_to s t ≡ Some r → b ∷ x ≡ token_bytes t ++ y → K t
  pub leads : (t : LineToken) → K t → (r : Spot) × (leads_to s t ≡ Some r)

-- the text begins a token of the kind
abbrev pub Fronts : (LineToken → Type 0) → List ℕ → Type 0
Fronts K text = (t : LineToken) × (back : List ℕ) × K t × IsTrue (is_token t) × (token_bytes t ≡ text ++ back)

-- no token of the kind stands at the front of the text, however that goes on
abbrev pub NoneIn : (LineToken → Type 0) → List ℕ → Type 0
NoneIn K text = (behind : List ℕ) (t : LineToken) (x : List ℕ) → K t → IsTrue (is_token t) → IsTrue (ends_before t x) → text ++ behind ≡ token_bytes t ++ x → ⊥

-- no token of the kind stands at the front of the text as it is
abbrev pub NoToken : (LineToken → Type 0) → List ℕ → Type 0
NoToken K text = (t : LineToken) (x : List ℕ) → K t → IsTrue (is_token t) → text ≡ token_bytes t ++ x → ⊥

pub none_in : (K : LineToken → Type 0) (text : List ℕ) → NoToken K text → (Fronts K text → ⊥) → NoneIn K text
none_in K text n f behind t x k h e i = elim (fronts_of text (token_bytes t) behind x i) [
  | inl (z, j, g) ↦ f (t, z, k, h, j)
  | inr (d, z, j, g) ↦ n t (d ∷ z) k h j
]

module _ (s : Spot) (b : ℕ) (K : LineToken → Type 0) (o : Opens s b K) where
  -- a text breaks at a byte with which it doesn't begin a token any more
  pub breaks_within : (p : List ℕ) (c : ℕ) → Fronts K (b ∷ p) → NoneIn K (b ∷ (p ++ c ∷ [])) → Breaks s (b ∷ p) c 0
  breaks_within p c (t, back, k, h, e) n = record {
    begins = record { more = back; row = t ∷ []; text_is = sym e ∙ sym (append-nil (token_bytes t)); whole = row_from t [] [] h (ends_at_end t) refl; fits = let l = o.leads t k in goes_on s l.0 t [] l.1 };
    stands = record { row = []; rest = b ∷ (p ++ c ∷ []); text_is = refl; whole = refl; fits = refl; place_is = refl };
    reaches = reach;
    within = omega arith;
  }
    where
      reach : Reaches s (b ∷ (p ++ c ∷ [])) 0
      reach behind rest [] w g e = omega arith
      reach behind rest (u ∷ us) w g e =
          let l = goes_where s u us g in
          let split : b ∷ ((p ++ c ∷ []) ++ behind) ≡ token_bytes u ++ (bytes_of us ++ rest) = e ∙ append_assoc (token_bytes u) (bytes_of us) rest in
          absurd (n behind u (bytes_of us ++ rest) (o.kind_of u l.0 ((p ++ c ∷ []) ++ behind) (bytes_of us ++ rest) (head_is_token u us rest w) l.1 split) (head_is_token u us rest w) (head_ends u us rest w) split)

  -- no line goes on with a text in which no token stands at the front
  pub none_left : (p : List ℕ) (q : List Parts) → NoToken K (b ∷ p) → Left s (b ∷ p) q → ⊥
  none_left p q n l = go l.row l.text_is l.whole l.says
    where
      go : (row : List LineToken) → b ∷ p ≡ bytes_of row → IsTrue (is_row row []) → said s row ≡ Some q → ⊥
      go [] e w y = let z : ⊥ = cc in z
      go (u ∷ us) e w y = let k = said_where s u us q y in n u (bytes_of us) (o.kind_of u k.0 p (bytes_of us) (head_is_token u us [] w) k.1 e) (head_is_token u us [] w) e

  module _ (inside : (t : LineToken) → K t → IsTrue (is_inside t)) (p : List ℕ) (n : NoToken K (b ∷ p)) where
    -- the text ends within a token
    pub token_unfinished : Fronts K (b ∷ p) → BreaksAtEnd s (b ∷ p) 0
    token_unfinished f = record { breaks = λ e l. breaks_within p e f (none_in K (b ∷ (p ++ e ∷ [])) (no_token e l) (no_front e l)); unfinished = λ q. none_left p q n }
      where
        has_end : (e : ℕ) (x y : List ℕ) → IsTrue (is_line_end e) → IsTrue (list_all not_end (x ++ e ∷ y)) → ⊥
        has_end e x y l h =
            let k = and_parts (list_all not_end x) (list_all not_end (e ∷ y)) (sym (list_all-append not_end x (e ∷ y)) ∙ h) in
            let m = (and_parts (not_end e) (list_all not_end y) k.1).0 in
            false≢true (sym (ap (λ z. not z) l) ∙ m)

        no_front : (e : ℕ) → IsTrue (is_line_end e) → Fronts K (b ∷ (p ++ e ∷ [])) → ⊥
        no_front e l (t, back, k, h, i) = has_end e (b ∷ p) back l (subst (λ z. IsTrue (list_all not_end z)) (i ∙ append_assoc (b ∷ p) (e ∷ []) back) (token_no_end t (inside t k) h))

        no_token : (e : ℕ) → IsTrue (is_line_end e) → NoToken K (b ∷ (p ++ e ∷ []))
        no_token e l t x k h i = elim (fronts_of (b ∷ p) (token_bytes t) (e ∷ []) x i) [
          | inl (z, j, g) ↦ go z j g
          | inr (d, z, j, g) ↦ n t (d ∷ z) k h j
        ]
          where
            go : (z : List ℕ) → token_bytes t ≡ (b ∷ p) ++ z → e ∷ [] ≡ z ++ x → ⊥
            go [] j g = n t [] k h (sym (append-nil (b ∷ p)) ∙ sym j ∙ sym (append-nil (token_bytes t)))
            go (d ∷ z) j g = has_end e (b ∷ p) z l (subst (λ y. IsTrue (list_all not_end y)) (j ∙ ap (λ y. (b ∷ p) ++ y ∷ z) (sym (head_is e d [] (z ++ x) g))) (token_no_end t (inside t k) h))

    -- the text doesn't begin a token, and so it breaks
    pub token_broken : ((t : List ℕ) → Dec (Fronts K t)) → Fronts K (b ∷ []) → (Fronts K (b ∷ p) → ⊥) → BreaksInside s (b ∷ p) 0
    token_broken decide first none =
        let (front, c, back, e, f, g) = turns (Fronts K) decide (b ∷ []) p first none in
        record { front = b ∷ front; byte = c; back = back; text_is = ap (λ z. b ∷ z) e; breaks = breaks_within front c f (none_in K (b ∷ (front ++ c ∷ [])) (no_token front c back e) g) }
      where
        no_token : (front : List ℕ) (c : ℕ) (back : List ℕ) → p ≡ front ++ c ∷ back → NoToken K (b ∷ (front ++ c ∷ []))
        no_token front c back e t x k h i =
            n t (x ++ back) k h (ap (λ z. b ∷ z) (e ∙ sym (append_assoc front (c ∷ []) back)) ∙ ap (λ z. z ++ back) i ∙ append_assoc (token_bytes t) x back)
