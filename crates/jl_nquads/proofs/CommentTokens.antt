-- Comments: how far they go, and where they break.
use Rattle.std.proofs.Common.{◌≡◌, ℕ, suc, ◌<◌, ◌≤◌, ◌⊎◌, inl, inr, true, ◌&&◌, nat_eq, List, [], ◌∷◌, ◌++◌, length, Option, Some, IsTrue, IsFalse, append-nil, append_assoc, refl, sym, ap, ◌∙◌, subst, arith, lit<, length-append}
use Rattle.std.proofs.lemmas.Bool.{and_parts, and_from, eq-eqb, false≢true}
use Rattle.std.proofs.lemmas.List.Folds.{list_all-append}
use Rattle.std.proofs.lemmas.Str.{encodes-append}
use Rattle.std.specs.List.{list_all}
use lib.Utf8.{encode, encodes}
use Rattle.jl_model.specs.Parts.{Parts}
use Rattle.jl_model.specs.LineTokens.{LineToken, token_bytes, is_token, ends_before, is_row, bytes_of, is_line_end, is_comment_character}
use Rattle.jl_model.specs.LineTokens as tokens
use Rattle.jl_model.proofs.LineCuts.{opens, opening}
use Rattle.jl_nquads.specs.CodePoints.{HasCode, BeginsCode}
use Rattle.jl_nquads.specs.Spots.{Spot, has_comment, leads_to, goes, Breaks, BreaksInside, BreaksAtEnd, Reaches}
use Rattle.jl_nquads.proofs.Codes.{rows_of, Ends, no_further, none_at_end, none_before_end, code_turns, in_comment}
use Rattle.jl_nquads.proofs.SpotRows.{goes_on, goes_where, said_goes, row_from, head_is_token}
use Rattle.jl_nquads.proofs.Texts.{tail_is}

other : (a b : ℕ) → IsFalse (nat_eq a b) → a ≡ b → ⊥
other a b n e = false≢true (sym n ∙ eq-eqb a b e)

only_comment : (t : LineToken) → opening t ≡ 35 → (cs : List ℕ) × (t ≡ tokens.comment cs)
only_comment (tokens.iri x) e = absurd (other 60 35 refl e)
only_comment (tokens.label x) e = absurd (other 95 35 refl e)
only_comment (tokens.string x) e = absurd (other 34 35 refl e)
only_comment tokens.carets e = absurd (other 94 35 refl e)
only_comment (tokens.tag x) e = absurd (other 64 35 refl e)
only_comment tokens.dot e = absurd (other 46 35 refl e)
only_comment (tokens.comment x) e = (x, refl)
only_comment (tokens.line_end x) e = absurd (other 10 35 refl e)
only_comment (tokens.blank x) e = absurd (other 32 35 refl e)

-- behind a comment nothing follows
nothing_behind : (q : List Parts) (row : List LineToken) → IsTrue (goes (has_comment q) row) → row ≡ []
nothing_behind q [] g = refl
nothing_behind q (t ∷ ts) g = absurd (none t (goes_where (has_comment q) t ts g))
  where
    none : (t : LineToken) → (r : Spot) × (leads_to (has_comment q) t ≡ Some r) × IsTrue (goes r ts) → ⊥
    none (tokens.iri x) h = let e = h.1 in let z : ⊥ = cc in z
    none (tokens.label x) h = let e = h.1 in let z : ⊥ = cc in z
    none (tokens.string x) h = let e = h.1 in let z : ⊥ = cc in z
    none tokens.carets h = let e = h.1 in let z : ⊥ = cc in z
    none (tokens.tag x) h = let e = h.1 in let z : ⊥ = cc in z
    none tokens.dot h = let e = h.1 in let z : ⊥ = cc in z
    none (tokens.comment x) h = let e = h.1 in let z : ⊥ = cc in z
    none (tokens.line_end x) h = let e = h.1 in let z : ⊥ = cc in z
    none (tokens.blank x) h = let e = h.1 in let z : ⊥ = cc in z

module _ (s : Spot) (q : List Parts) (lead : (cs : List ℕ) → leads_to s (tokens.comment cs) ≡ Some (has_comment q)) where
  -- a row in a text that a comment begins is one comment
  one_comment : (x rest : List ℕ) (row : List LineToken) → IsTrue (is_row row rest) → IsTrue (goes s row) → 35 ∷ x ≡ bytes_of row ++ rest → (row ≡ []) ⊎ ((ds : List ℕ) × (row ≡ tokens.comment ds ∷ []) × IsTrue (list_all is_comment_character ds) × (x ≡ encodes ds ++ rest))
  one_comment x rest [] w g e = inl refl
  one_comment x rest (u ∷ us) w g e =
      let split : 35 ∷ x ≡ token_bytes u ++ (bytes_of us ++ rest) = e ∙ append_assoc (token_bytes u) (bytes_of us) rest in
      let (ds, i) = only_comment u (opens u 35 (bytes_of us ++ rest) x (lit< tt) (head_is_token u us rest w) split) in
      let (r, l, k) = goes_where s u us g in
      let m : ◌≡◌ {A = Option Spot} (Some (has_comment q)) (Some r) = sym (lead ds) ∙ ap (leads_to s) (sym i) ∙ l in
      let n : has_comment q ≡ r = cc in
      let f = nothing_behind q us (subst (λ z. IsTrue (goes z us)) (sym n) k) in
      inr (ds, ap (λ z. z ∷ us) i ∙ ap (λ z. tokens.comment ds ∷ z) f, subst (λ z. IsTrue (is_token z)) i (head_is_token u us rest w), tail_is 35 35 x (encodes ds ++ rest) (split ∙ ap (λ z. token_bytes z ++ (bytes_of us ++ rest)) i ∙ ap (λ z. token_bytes (tokens.comment ds) ++ (bytes_of z ++ rest)) f))

  -- ---- a comment that goes on with bytes that are no characters
  module _ (cs : List ℕ) (each : IsTrue (list_all is_comment_character cs)) where
    comment_breaks : (p : List ℕ) (c : ℕ) → BeginsCode is_comment_character p → Ends is_comment_character in_comment (p ++ c ∷ []) → Breaks s (35 ∷ (encodes cs ++ p)) c (suc (length (encodes cs)))
    comment_breaks p c (d, h, (back, e)) ends = record {
      begins = record {
        more = back;
        row = tokens.comment (cs ++ d ∷ []) ∷ [];
        text_is = ap (λ z. 35 ∷ z) (append_assoc (encodes cs) p back ∙ ap (λ z. encodes cs ++ z) (sym e ∙ sym (append-nil (encode d))) ∙ sym (encodes-append cs (d ∷ []))) ∙ sym (append-nil (35 ∷ encodes (cs ++ d ∷ [])));
        whole = row_from (tokens.comment (cs ++ d ∷ [])) [] [] (list_all-append is_comment_character cs (d ∷ []) ∙ and_from (list_all is_comment_character cs) (is_comment_character d && true) each (and_from (is_comment_character d) true h refl)) refl refl;
        fits = goes_on s (has_comment q) (tokens.comment (cs ++ d ∷ [])) [] (lead (cs ++ d ∷ []));
      };
      stands = record {
        row = tokens.comment cs ∷ [];
        rest = p ++ c ∷ [];
        text_is = ap (λ z. 35 ∷ z) (append_assoc (encodes cs) p (c ∷ []) ∙ ap (λ z. z ++ (p ++ c ∷ [])) (sym (append-nil (encodes cs))));
        whole = row_from (tokens.comment cs) [] (p ++ c ∷ []) each refl refl;
        fits = goes_on s (has_comment q) (tokens.comment cs) [] (lead cs);
        place_is = ap (λ z. length (35 ∷ z)) (sym (append-nil (encodes cs)));
      };
      reaches = reach;
      within = omega (arith, length-append (encodes cs) p);
    }
      where
        far : (ds rest behind : List ℕ) → IsTrue (list_all is_comment_character ds) → encodes cs ++ ((p ++ c ∷ []) ++ behind) ≡ encodes ds ++ rest → length (encodes ds) ≤ length (encodes cs)
        far ds rest behind k f = elim (rows_of cs ds ((p ++ c ∷ []) ++ behind) rest f) [
          | inl (es, i, j) ↦ longer es i j
          | inr (d, es, i, j) ↦ omega (arith, ap (λ z. length (encodes z)) i, ap length (encodes-append ds (d ∷ es)), length-append (encodes ds) (encodes (d ∷ es)))
        ]
          where
            longer : (es : List ℕ) → ds ≡ cs ++ es → (p ++ c ∷ []) ++ behind ≡ encodes es ++ rest → length (encodes ds) ≤ length (encodes cs)
            longer [] i j = omega (arith, ap (λ z. length (encodes z)) (i ∙ append-nil cs))
            longer (d ∷ es) i j =
                let m = and_parts (list_all is_comment_character cs) (list_all is_comment_character (d ∷ es)) (sym (list_all-append is_comment_character cs (d ∷ es)) ∙ ap (list_all is_comment_character) (sym i) ∙ k) in
                absurd (no_further is_comment_character in_comment (p ++ c ∷ []) behind d es rest ends (and_parts (is_comment_character d) (list_all is_comment_character es) m.1).0 j)

        reach : Reaches s ((35 ∷ (encodes cs ++ p)) ++ c ∷ []) (suc (length (encodes cs)))
        reach behind rest row w g e =
            let f : 35 ∷ (encodes cs ++ ((p ++ c ∷ []) ++ behind)) ≡ bytes_of row ++ rest = ap (λ z. 35 ∷ z) (sym (append_assoc (encodes cs) (p ++ c ∷ []) behind) ∙ ap (λ z. z ++ behind) (sym (append_assoc (encodes cs) p (c ∷ [])))) ∙ e in
            elim (one_comment (encodes cs ++ ((p ++ c ∷ []) ++ behind)) rest row w g f) [
              | inl i ↦ omega (arith, ap (λ z. length (bytes_of z)) i)
              | inr (ds, i, k, j) ↦ omega (arith, ap (λ z. length (bytes_of z)) i, length-append (encodes ds) [], far ds rest behind k j)
            ]

    module _ (rest : List ℕ) (none : HasCode is_comment_character rest → ⊥) where
      pub comment_unfinished : BeginsCode is_comment_character rest → 0 < length rest → BreaksAtEnd s (35 ∷ (encodes cs ++ rest)) (suc (length (encodes cs)))
      comment_unfinished h some = record {
        breaks = λ e l. comment_breaks rest e h (record { not_begun = none_at_end is_comment_character in_comment rest e l; not_had = none_before_end is_comment_character in_comment rest e l none });
        unfinished = λ q l. elim (one_comment (encodes cs ++ rest) [] l.row l.whole (said_goes s l.row q l.says) (l.text_is ∙ sym (append-nil (bytes_of l.row)))) [
          | inl i ↦ let z : ⊥ = omega (arith, ap length (l.text_is ∙ ap bytes_of i)) in z
          | inr (ds, i, k, j) ↦ longer ds k (rows_of cs ds rest [] j)
        ];
      }
        where
          longer : (ds : List ℕ) → IsTrue (list_all is_comment_character ds) → ((es : List ℕ) × (ds ≡ cs ++ es) × (rest ≡ encodes es ++ [])) ⊎ ((e : ℕ) × (es : List ℕ) × (cs ≡ ds ++ e ∷ es) × ([] ≡ encodes (e ∷ es) ++ rest)) → ⊥
          longer ds k (inl ([], i, j)) = let z : ⊥ = omega (arith, ap length j, some) in z
          longer ds k (inl (d ∷ es, i, j)) =
              let m = and_parts (list_all is_comment_character cs) (list_all is_comment_character (d ∷ es)) (sym (list_all-append is_comment_character cs (d ∷ es)) ∙ ap (list_all is_comment_character) (sym i) ∙ k) in
              none (d, (and_parts (is_comment_character d) (list_all is_comment_character es) m.1).0, (encodes es ++ [], j ∙ append_assoc (encode d) (encodes es) []))
          longer ds k (inr (d, es, i, j)) = let z : ⊥ = omega (arith, ap length j, length-append (encode d ++ encodes es) rest, some) in z

      pub comment_broken : (BeginsCode is_comment_character rest → ⊥) → BreaksInside s (35 ∷ (encodes cs ++ rest)) (suc (length (encodes cs)))
      comment_broken n =
          let (front, c, back, e, f, g) = code_turns is_comment_character in_comment 97 refl rest n in
          record {
            front = 35 ∷ (encodes cs ++ front);
            byte = c;
            back = back;
            text_is = ap (λ z. 35 ∷ z) (ap (λ z. encodes cs ++ z) e ∙ sym (append_assoc (encodes cs) front (c ∷ back)));
            breaks = comment_breaks front c f (record { not_begun = g; not_had = λ (d, h, (x, i)). none (d, h, (x ++ back, e ∙ sym (append_assoc front (c ∷ []) back) ∙ ap (λ z. z ++ back) i ∙ append_assoc (encode d) x back)) });
          }
