-- Where a line breaks, the document does.
use Rattle.std.proofs.Common.{◌≡◌, ℕ, suc, ◌+◌, ◌≤◌, inl, inr, List, [], ◌∷◌, ◌++◌, length, IsTrue, append-nil, append_assoc, refl, sym, ap, ◌∙◌, subst, arith, length-append}
use Rattle.std.proofs.lemmas.Bool.{and_parts}
use Rattle.std.proofs.lemmas.List.Concat.{flat_map-append}
use Rattle.std.proofs.lemmas.List.Folds.{list_all-append}
use Rattle.std.specs.List.{list_all}
use Rattle.jl_model.specs.Parts.{Parts}
use Rattle.jl_model.specs.LineTokens.{LineToken, token_bytes, is_token, is_row, bytes_of, is_line_end}
use Rattle.jl_model.specs.LineTokens as tokens
use Rattle.jl_model.specs.LineGrammar.{Line, Document, last, ended, line_tokens, document_tokens, document_quads, statement_quads, QuadsOf, BeginsLines}
use Rattle.jl_model.specs.LineFaults.{GoesOn, BreaksLine, BadLine}
use Rattle.jl_nquads.specs.EndedLines.{EndedLine, ended_tokens, HasEnded}
use Rattle.jl_nquads.specs.Spots.{begins, goes, Left, Begins, Breaks, BreaksInside, BreaksAtEnd, not_end}
use Rattle.jl_nquads.proofs.Documents.{rows_part, row_alone, goes_front, line_goes, line_no_end, no_end_in, end_inside, first_ends, completes, before, joined_row, joined_bytes, joined_document}
use Rattle.jl_nquads.proofs.SaidLines.{line_of, said_line}
use Rattle.jl_nquads.proofs.SpotRows.{head_is_token, tail_is_row}
use Rattle.jl_nquads.proofs.Texts.{head_is, fronts_of, lists_of}

-- what begins a line begins a document behind lines that have ended
begins_behind : (done p : List ℕ) (given : List Parts) → HasEnded done given → Begins begins p → BeginsLines (done ++ p)
begins_behind done p given h b =
    let k = completes begins b.row [] b.whole b.fits in
    let l = line_of (b.row ++ k.more) k.quads k.says in
    let row = ended_tokens h.lines ++ (b.row ++ k.more) in
    let d = before h.lines (last l.line) in
    let spelled : (done ++ p) ++ (b.more ++ bytes_of k.more) ≡ bytes_of row = append_assoc done p (b.more ++ bytes_of k.more) ∙ ap (λ z. done ++ z) (sym (append_assoc p b.more (bytes_of k.more)) ∙ ap (λ z. z ++ bytes_of k.more) b.text_is ∙ sym (flat_map-append token_bytes b.row k.more)) ∙ ap (λ z. z ++ bytes_of (b.row ++ k.more)) h.spelled ∙ sym (joined_bytes h.lines (b.row ++ k.more)) in (
      b.more ++ bytes_of k.more,
      document_quads d,
      record { row = row; document = d; spelled = spelled; of_grammar = record { whole = joined_row h.lines (b.row ++ k.more) [] h.whole k.whole; derived = joined_document h.lines (b.row ++ k.more) l.line l.row_is }; quads_are = refl },
    )

-- a line of a row
left_of : (line : Line) (x : List ℕ) → IsTrue (is_row (line_tokens line) x) → Left begins (bytes_of (line_tokens line)) (statement_quads line.statement)
left_of line x w = record { row = line_tokens line; text_is = refl; whole = row_alone (line_tokens line) x w; says = said_line line }

-- a document up to its first line end, and behind it
record Peeled (a x : List ℕ) : Type 0 where
  said_first : List Parts
  first : Left begins a said_first
  said_rest : List Parts
  rest : QuadsOf x said_rest

peel : (a x : List ℕ) (e : ℕ) (d : Document) (row : List LineToken) → IsTrue (list_all not_end a) → IsTrue (is_line_end e) → row ≡ document_tokens d → IsTrue (is_row row []) → a ++ e ∷ x ≡ bytes_of row → Peeled a x
peel a x e (last line) row n l i w s =
    let v = subst (λ z. IsTrue (is_row z [])) i w in
    absurd (end_inside a e x (subst (λ z. IsTrue (list_all not_end z)) (sym (s ∙ ap bytes_of i)) (line_no_end line [] v)) l)
peel a x e (ended line f d) row n l i w s =
    let t = tokens.line_end f in
    let v = rows_part (line_tokens line) (t ∷ document_tokens d) [] (subst (λ z. IsTrue (is_row z [])) i w) in
    let k = first_ends a (bytes_of (line_tokens line)) x (bytes_of (document_tokens d)) e f n (line_no_end line (bytes_of (t ∷ document_tokens d) ++ []) v.0) l (head_is_token t (document_tokens d) [] v.1) (s ∙ ap bytes_of i ∙ flat_map-append token_bytes (line_tokens line) (t ∷ document_tokens d)) in
    record {
      said_first = statement_quads line.statement;
      first = subst (λ z. Left begins z (statement_quads line.statement)) (sym k.0) (left_of line (bytes_of (t ∷ document_tokens d) ++ []) v.0);
      said_rest = document_quads d;
      rest = record { row = document_tokens d; document = d; spelled = k.2; of_grammar = record { whole = tail_is_row t (document_tokens d) [] v.1; derived = refl }; quads_are = refl };
    }

-- the parts of a line that has ended
record EndsAt (l : EndedLine) (ls : List EndedLine) (x : List ℕ) : Type 0 where
  is_end : IsTrue (is_line_end l.end_byte)
  no_end : IsTrue (list_all not_end (bytes_of (line_tokens l.line)))
  others : IsTrue (is_row (ended_tokens ls) [])
  spread : bytes_of (ended_tokens (l ∷ ls)) ++ x ≡ bytes_of (line_tokens l.line) ++ l.end_byte ∷ (bytes_of (ended_tokens ls) ++ x)

ends_at : (l : EndedLine) (ls : List EndedLine) (x : List ℕ) → IsTrue (is_row (ended_tokens (l ∷ ls)) []) → EndsAt l ls x
ends_at l ls x w =
    let e = tokens.line_end l.end_byte in
    let v = rows_part (line_tokens l.line) (e ∷ ended_tokens ls) [] w in
    record {
      is_end = head_is_token e (ended_tokens ls) [] v.1;
      no_end = line_no_end l.line (bytes_of (e ∷ ended_tokens ls) ++ []) v.0;
      others = tail_is_row e (ended_tokens ls) [] v.1;
      spread = ap (λ z. z ++ x) (flat_map-append token_bytes (line_tokens l.line) (e ∷ ended_tokens ls)) ∙ append_assoc (bytes_of (line_tokens l.line)) (l.end_byte ∷ bytes_of (ended_tokens ls)) x;
    }

-- a document that begins with lines that have ended: what stands behind these is a document
quads_behind : (ls : List EndedLine) (x : List ℕ) (quads : List Parts) → IsTrue (is_row (ended_tokens ls) []) → QuadsOf (bytes_of (ended_tokens ls) ++ x) quads → (rest : List Parts) × QuadsOf x rest
quads_behind [] x quads w q = (quads, q)
quads_behind (l ∷ ls) x quads w q =
    let k = ends_at l ls x w in
    let p = peel (bytes_of (line_tokens l.line)) (bytes_of (ended_tokens ls) ++ x) l.end_byte q.document q.row k.no_end k.is_end q.of_grammar.derived q.of_grammar.whole (sym k.spread ∙ q.spelled) in
    quads_behind ls x p.said_rest k.others p.rest

-- ---- a line that breaks

module _ (p : List ℕ) (c place : ℕ) (no_end : IsTrue (list_all not_end p)) (b : Breaks begins p c place) (bad : IsTrue (is_line_end c) → (q : List Parts) → Left begins p q → ⊥) where
  -- no row of a line that a line end follows begins so
  not_ended : (line : Line) (e : ℕ) (x more : List ℕ) → IsTrue (is_line_end e) → IsTrue (is_row (line_tokens line) (e ∷ x)) → (p ++ c ∷ []) ++ more ≡ bytes_of (line_tokens line) ++ e ∷ x → ⊥
  not_ended line e x more l w s =
      let far = b.reaches more (e ∷ x) (line_tokens line) w (line_goes line) s in
      elim (fronts_of p (bytes_of (line_tokens line)) (c ∷ more) (e ∷ x) (sym (append_assoc p (c ∷ []) more) ∙ s)) [
        | inl (z, i, j) ↦ go z i j (omega (arith, far, b.within, ap length i, length-append p z))
        | inr (d, z, i, j) ↦ end_inside (bytes_of (line_tokens line)) d z (subst (λ t. IsTrue (list_all not_end t)) i no_end) (subst (λ t. IsTrue (is_line_end t)) (head_is e d x (z ++ c ∷ more) j) l)
      ]
    where
      go : (z : List ℕ) → bytes_of (line_tokens line) ≡ p ++ z → c ∷ more ≡ z ++ e ∷ x → length z ≤ 0 → ⊥
      go [] i j k = bad (subst (λ t. IsTrue (is_line_end t)) (sym (head_is c e more x j)) l) (statement_quads line.statement) (subst (λ t. Left begins t (statement_quads line.statement)) (i ∙ append-nil p) (left_of line (e ∷ x) w))
      go (y ∷ z) i j k = let n : ⊥ = omega (arith, k) in n

  no_document : (more : List ℕ) (quads : List Parts) → QuadsOf ((p ++ c ∷ []) ++ more) quads → ⊥
  no_document more quads q = by q.document q.of_grammar.derived q.of_grammar.whole
    where
      by : (d : Document) → q.row ≡ document_tokens d → IsTrue (is_row q.row []) → ⊥
      by (last line) i w =
          let far = b.reaches more [] (line_tokens line) (subst (λ z. IsTrue (is_row z [])) i w) (line_goes line) (q.spelled ∙ ap bytes_of i ∙ sym (append-nil (bytes_of (line_tokens line)))) in
          let n : ⊥ = omega (arith, far, b.within, ap length (q.spelled ∙ ap bytes_of i), length-append (p ++ c ∷ []) more, length-append p (c ∷ [])) in
          n
      by (ended line e d) i w =
          let t = tokens.line_end e in
          let v = rows_part (line_tokens line) (t ∷ document_tokens d) [] (subst (λ z. IsTrue (is_row z [])) i w) in
          not_ended line e (bytes_of (document_tokens d) ++ []) more (head_is_token t (document_tokens d) [] v.1) v.0
          (q.spelled ∙ ap bytes_of i ∙ flat_map-append token_bytes (line_tokens line) (t ∷ document_tokens d) ∙ ap (λ z. bytes_of (line_tokens line) ++ e ∷ z) (sym (append-nil (bytes_of (document_tokens d)))))

  -- rows with which a document goes on reach no further
  reaches_line : (other more : List LineToken) (rest : List ℕ) (d : Document) → p ++ c ∷ [] ≡ bytes_of other ++ rest → IsTrue (is_row other rest) → other ++ more ≡ document_tokens d → length (bytes_of other) ≤ place
  reaches_line other more rest (last line) s w i = b.reaches [] rest other w (goes_front begins other more (subst (λ z. IsTrue (goes begins z)) (sym i) (line_goes line))) (append-nil (p ++ c ∷ []) ∙ s)
  reaches_line other more rest (ended line e d) s w i = elim (lists_of other (line_tokens line) more (tokens.line_end e ∷ document_tokens d) i) [
    | inl (z, j, k) ↦ b.reaches [] rest other w (goes_front begins other z (subst (λ y. IsTrue (goes begins y)) j (line_goes line))) (append-nil (p ++ c ∷ []) ∙ s)
    | inr (t, z, j, k) ↦ absurd (beyond t z j (first_of t z k))
  ]
    where
      first_of : (t : LineToken) (z : List LineToken) → tokens.line_end e ∷ document_tokens d ≡ (t ∷ z) ++ more → t ≡ tokens.line_end e
      first_of t z k = cc

      beyond : (t : LineToken) (z : List LineToken) → other ≡ line_tokens line ++ t ∷ z → t ≡ tokens.line_end e → ⊥
      beyond t z j m =
          let o : other ≡ line_tokens line ++ tokens.line_end e ∷ z = j ∙ ap (λ y. line_tokens line ++ y ∷ z) m in
          let v = rows_part (line_tokens line) (tokens.line_end e ∷ z) rest (subst (λ y. IsTrue (is_row y rest)) o w) in
          not_ended line e (bytes_of z ++ rest) [] (head_is_token (tokens.line_end e) z rest v.1) v.0
          (append-nil (p ++ c ∷ []) ∙ s ∙ ap (λ y. bytes_of y ++ rest) o ∙ ap (λ y. y ++ rest) (flat_map-append token_bytes (line_tokens line) (tokens.line_end e ∷ z)) ∙ append_assoc (bytes_of (line_tokens line)) (e ∷ bytes_of z) rest)

  -- the same behind lines that have ended
  reaches_behind : (ls : List EndedLine) (other more : List LineToken) (rest : List ℕ) (d : Document) → IsTrue (is_row (ended_tokens ls) []) → bytes_of (ended_tokens ls) ++ (p ++ c ∷ []) ≡ bytes_of other ++ rest → IsTrue (is_row other rest) → other ++ more ≡ document_tokens d
      → length (bytes_of other) ≤ length (bytes_of (ended_tokens ls)) + place
  reaches_behind [] other more rest d h s w i = let k = reaches_line other more rest d s w i in omega (arith, k)
  reaches_behind (l ∷ ls) other more rest d h s w i = by d i (λ other2 d2 s2 w2 i2. reaches_behind ls other2 more rest d2 (ends_at l ls (p ++ c ∷ []) h).others s2 w2 i2)
    where
      k : EndsAt l ls (p ++ c ∷ [])
      k = ends_at l ls (p ++ c ∷ []) h

      a : List ℕ
      a = bytes_of (line_tokens l.line)

      size : length (bytes_of (ended_tokens (l ∷ ls))) ≡ length a + suc (length (bytes_of (ended_tokens ls)))
      size = ap length (flat_map-append token_bytes (line_tokens l.line) (tokens.line_end l.end_byte ∷ ended_tokens ls)) ∙ length-append a (l.end_byte ∷ bytes_of (ended_tokens ls))

      -- a row without a line end is within the first line
      near : IsTrue (goes begins other) → length (bytes_of other) ≤ length (bytes_of (ended_tokens (l ∷ ls))) + place
      near g = elim (fronts_of a (bytes_of other) (l.end_byte ∷ (bytes_of (ended_tokens ls) ++ (p ++ c ∷ []))) rest (sym k.spread ∙ s)) [
        | inl (z, m, n) ↦ go z m n
        | inr (y, z, m, n) ↦ omega (arith, ap length m, length-append (bytes_of other) (y ∷ z), size)
      ]
        where
          go : (z : List ℕ) → bytes_of other ≡ a ++ z → l.end_byte ∷ (bytes_of (ended_tokens ls) ++ (p ++ c ∷ [])) ≡ z ++ rest → length (bytes_of other) ≤ length (bytes_of (ended_tokens (l ∷ ls))) + place
          go [] m n = omega (arith, ap length m, length-append a [], size)
          go (y ∷ z) m n = absurd (end_inside a y z (subst (λ t. IsTrue (list_all not_end t)) m (no_end_in begins other rest w g)) (subst (λ t. IsTrue (is_line_end t)) (head_is l.end_byte y (bytes_of (ended_tokens ls) ++ (p ++ c ∷ [])) (z ++ rest) n) k.is_end))

      by : (d : Document) → other ++ more ≡ document_tokens d → ((other2 : List LineToken) (d2 : Document) → bytes_of (ended_tokens ls) ++ (p ++ c ∷ []) ≡ bytes_of other2 ++ rest → IsTrue (is_row other2 rest) → other2 ++ more ≡ document_tokens d2 → length (bytes_of other2) ≤ length (bytes_of (ended_tokens ls)) + place)
          → length (bytes_of other) ≤ length (bytes_of (ended_tokens (l ∷ ls))) + place
      by (last line) i later = near (goes_front begins other more (subst (λ z. IsTrue (goes begins z)) (sym i) (line_goes line)))
      by (ended line e d) i later = elim (lists_of other (line_tokens line) more (tokens.line_end e ∷ document_tokens d) i) [
        | inl (z, m, n) ↦ near (goes_front begins other z (subst (λ y. IsTrue (goes begins y)) m (line_goes line)))
        | inr (t, z, m, n) ↦ further t z m (first_of t z n) (behind_of t z n)
      ]
        where
          first_of : (t : LineToken) (z : List LineToken) → tokens.line_end e ∷ document_tokens d ≡ (t ∷ z) ++ more → t ≡ tokens.line_end e
          first_of t z n = cc

          behind_of : (t : LineToken) (z : List LineToken) → tokens.line_end e ∷ document_tokens d ≡ (t ∷ z) ++ more → z ++ more ≡ document_tokens d
          behind_of t z n = cc

          further : (t : LineToken) (z : List LineToken) → other ≡ line_tokens line ++ t ∷ z → t ≡ tokens.line_end e → z ++ more ≡ document_tokens d → length (bytes_of other) ≤ length (bytes_of (ended_tokens (l ∷ ls))) + place
          further t z m n o =
              let f : other ≡ line_tokens line ++ tokens.line_end e ∷ z = m ∙ ap (λ y. line_tokens line ++ y ∷ z) n in
              let v = rows_part (line_tokens line) (tokens.line_end e ∷ z) rest (subst (λ y. IsTrue (is_row y rest)) f w) in
              let bytes : bytes_of other ≡ bytes_of (line_tokens line) ++ e ∷ bytes_of z = ap bytes_of f ∙ flat_map-append token_bytes (line_tokens line) (tokens.line_end e ∷ z) in
              let same = first_ends a (bytes_of (line_tokens line)) (bytes_of (ended_tokens ls) ++ (p ++ c ∷ [])) (bytes_of z ++ rest) l.end_byte e k.no_end (line_no_end line (bytes_of (tokens.line_end e ∷ z) ++ rest) v.0) k.is_end (head_is_token (tokens.line_end e) z rest v.1) (sym k.spread ∙ s ∙ ap (λ y. y ++ rest) bytes ∙ append_assoc (bytes_of (line_tokens line)) (e ∷ bytes_of z) rest) in
              let far = later z d same.2 (tail_is_row (tokens.line_end e) z rest v.1) o in
              omega (arith, far, size, ap length bytes, length-append (bytes_of (line_tokens line)) (e ∷ bytes_of z), ap length same.0)

  -- behind lines that have ended the document breaks
  pub breaks_behind : (done : List ℕ) (given : List Parts) → HasEnded done given → BreaksLine (done ++ p) c (length done + place)
  breaks_behind done given h = record {
    begins = begins_behind done p given h b.begins;
    breaks = λ (more, quads, q). let k = quads_behind h.lines ((p ++ c ∷ []) ++ more) quads h.whole (subst (λ z. QuadsOf z quads) (regrouped more) q) in no_document more k.0 k.1;
    stops = record {
      row = ended_tokens h.lines ++ b.stands.row;
      goes_on = on;
      place_is = omega (arith, ap length h.spelled, b.stands.place_is, ap length (joined_bytes h.lines b.stands.row), length-append (bytes_of (ended_tokens h.lines)) (bytes_of b.stands.row));
      longest = λ other g. let k = reaches_behind h.lines other g.more g.rest g.document h.whole (sym whole ∙ g.text_is) g.whole g.begins.derived in omega (arith, k, ap length h.spelled);
    };
  }
    where
      whole : (done ++ p) ++ c ∷ [] ≡ bytes_of (ended_tokens h.lines) ++ (p ++ c ∷ [])
      whole = append_assoc done p (c ∷ []) ∙ ap (λ z. z ++ (p ++ c ∷ [])) h.spelled

      regrouped : (more : List ℕ) → ((done ++ p) ++ c ∷ []) ++ more ≡ bytes_of (ended_tokens h.lines) ++ ((p ++ c ∷ []) ++ more)
      regrouped more = ap (λ z. z ++ more) whole ∙ append_assoc (bytes_of (ended_tokens h.lines)) (p ++ c ∷ []) more

      on : GoesOn ((done ++ p) ++ c ∷ []) (ended_tokens h.lines ++ b.stands.row)
      on =
          let k = completes begins b.stands.row b.stands.rest b.stands.whole b.stands.fits in
          let l = line_of (b.stands.row ++ k.more) k.quads k.says in
          record {
            rest = b.stands.rest;
            text_is = whole ∙ ap (λ z. bytes_of (ended_tokens h.lines) ++ z) b.stands.text_is ∙ sym (append_assoc (bytes_of (ended_tokens h.lines)) (bytes_of b.stands.row) b.stands.rest) ∙ ap (λ z. z ++ b.stands.rest) (sym (joined_bytes h.lines b.stands.row));
            whole = joined_row h.lines b.stands.row b.stands.rest h.whole b.stands.whole;
            more = k.more;
            document = before h.lines (last l.line);
            begins = record {
              whole = subst (λ z. IsTrue (is_row z [])) (sym (append_assoc (ended_tokens h.lines) b.stands.row k.more)) (joined_row h.lines (b.stands.row ++ k.more) [] h.whole k.whole);
              derived = append_assoc (ended_tokens h.lines) b.stands.row k.more ∙ joined_document h.lines (b.stands.row ++ k.more) l.line l.row_is;
            };
          }

-- ---- what a reader answers

-- the bytes have this bad line, and begin no lines of quads
pub record IsBad (bytes : List ℕ) (place : ℕ) : Type 0 where
  pub bad : BadLine bytes place
  pub begins_none : BeginsLines bytes → ⊥

bad_from : (done p r : List ℕ) (c place : ℕ) → BreaksLine (done ++ p) c place → IsBad (done ++ (p ++ c ∷ r)) place
bad_from done p r c place b = record {
  bad = inl (done ++ p, c, r, sym (append_assoc done p (c ∷ r)), b);
  begins_none = λ (more, quads, q). b.breaks (r ++ more, quads, subst (λ z. QuadsOf z quads) (regrouped more) q);
}
  where
    regrouped : (more : List ℕ) → (done ++ (p ++ c ∷ r)) ++ more ≡ ((done ++ p) ++ c ∷ []) ++ (r ++ more)
    regrouped more = ap (λ z. z ++ more) (sym (append_assoc done p (c ∷ r)) ∙ sym (append_assoc (done ++ p) (c ∷ []) r)) ∙ append_assoc ((done ++ p) ++ c ∷ []) r more

-- a line breaks inside
pub bad_inside : (done part r : List ℕ) (given : List Parts) (place : ℕ) → HasEnded done given → IsTrue (list_all not_end part) → BreaksInside begins part place → IsBad (done ++ (part ++ r)) (length done + place)
bad_inside done part r given place h n b =
    let whole : IsTrue (list_all not_end (b.front ++ b.byte ∷ b.back)) = subst (λ z. IsTrue (list_all not_end z)) b.text_is n in
    let front = (and_parts (list_all not_end b.front) (list_all not_end (b.byte ∷ b.back)) (sym (list_all-append not_end b.front (b.byte ∷ b.back)) ∙ whole)).0 in
    let e : part ++ r ≡ b.front ++ b.byte ∷ (b.back ++ r) = ap (λ z. z ++ r) b.text_is ∙ append_assoc b.front (b.byte ∷ b.back) r in
    subst (λ z. IsBad (done ++ z) (length done + place)) (sym e)
    (bad_from done b.front (b.back ++ r) b.byte (length done + place) (breaks_behind b.front b.byte place front b.breaks (λ l. absurd (end_inside b.front b.byte b.back whole l)) done given h))

-- a line breaks where it ends
pub bad_at_end : (done part r : List ℕ) (e : ℕ) (given : List Parts) (place : ℕ) → HasEnded done given → IsTrue (list_all not_end part) → IsTrue (is_line_end e) → BreaksAtEnd begins part place → IsBad (done ++ (part ++ e ∷ r)) (length done + place)
bad_at_end done part r e given place h n l b = bad_from done part r e (length done + place) (breaks_behind part e place n (b.breaks e l) (λ m q. b.unfinished q) done given h)

-- a line is unfinished where all ends
pub bad_unfinished : (done part : List ℕ) (given : List Parts) (place : ℕ) → HasEnded done given → IsTrue (list_all not_end part) → BreaksAtEnd begins part place → BadLine (done ++ part) (length (done ++ part)) × ((quads : List Parts) → QuadsOf (done ++ part) quads → ⊥)
bad_unfinished done part given place h n b = (inr (record { begins = begins_behind done part given h (b.breaks 10 refl).begins; unfinished = none; place_is = refl }), none)
  where
    last_line : (d : Document) (row : List LineToken) → row ≡ document_tokens d → IsTrue (is_row row []) → part ≡ bytes_of row → ⊥
    last_line (last line) row i w s = b.unfinished (statement_quads line.statement) (subst (λ z. Left begins z (statement_quads line.statement)) (sym (s ∙ ap bytes_of i)) (left_of line [] (subst (λ z. IsTrue (is_row z [])) i w)))
    last_line (ended line e d) row i w s =
        let t = tokens.line_end e in
        let v = rows_part (line_tokens line) (t ∷ document_tokens d) [] (subst (λ z. IsTrue (is_row z [])) i w) in
        end_inside (bytes_of (line_tokens line)) e (bytes_of (document_tokens d)) (subst (λ z. IsTrue (list_all not_end z)) (s ∙ ap bytes_of i ∙ flat_map-append token_bytes (line_tokens line) (t ∷ document_tokens d)) n) (head_is_token t (document_tokens d) [] v.1)

    none : (quads : List Parts) → QuadsOf (done ++ part) quads → ⊥
    none quads q = let k = quads_behind h.lines part quads h.whole (subst (λ z. QuadsOf z quads) (ap (λ z. z ++ part) h.spelled) q) in last_line k.1.document k.1.row k.1.of_grammar.derived k.1.of_grammar.whole k.1.spelled

-- bytes that have a bad line that goes on have no quads
pub bad_has_none : (bytes : List ℕ) (place : ℕ) (quads : List Parts) → IsBad bytes place → QuadsOf bytes quads → ⊥
bad_has_none bytes place quads b q = b.begins_none ([], quads, subst (λ z. QuadsOf z quads) (sym (append-nil bytes)) q)
