-- Rows of bad lines: texts with the place of each.
use Rattle.std.proofs.Common.{Some, None, nat_lt, ◌≡◌, ℕ, suc, ◌<◌, ◌≤◌, ◌⊎◌, inl, inr, List, [], ◌∷◌, ◌++◌, length, length-append, IsTrue, IsFalse, codes, append-nil, append_assoc, refl, sym, ap, ◌∙◌, subst, arith}
use Rattle.std.proofs.lemmas.Bool.{false≢true, cond-true, lt-ltb}
use Rattle.std.specs.List.{position}
use lib.Utf8.{encode, encodes}
use Rattle.jl_model.specs.Parts.{Parts}
use Rattle.jl_model.specs.LineTokens.{LineToken, iri, label, string, carets, tag, dot, comment, line_end, blank, token_bytes, is_token, is_label, ends_before, is_row, bytes_of}
use Rattle.jl_model.specs.LineGrammar.{Document, document_tokens, plain, QuadsOf, BeginsLines}
use Rattle.jl_model.specs.LineFaults.{BadLine}
use Rattle.jl_model.specs.Tags.{is_dash, is_language_tag}
use Rattle.jl_model.proofs.LineCuts.{head_is, tail_is, ascii_cut, head_token, head_ends, row_behind, split, opens, only_carets, only_tag, only_label, iri_first, string_first, blank_first, dot_first, carets_first}
use Rattle.jl_model.proofs.LineDots.{is_iri, is_dot, has, document_dot}
use Rattle.jl_model.proofs.LineFollows.{at_start, document_well}
use Rattle.jl_model.proofs.LineRows.{Stands, begun, x_line, s, p, x, gap, up_to_object, row_33, row_34, row_35, row_36, row_37}
use Rattle.jl_model.proofs.Subtags.{subtags_go_on, tag_with_dash}
use Rattle.jl_model.proofs.LineStarts.{bad_start}

-- rows that a document may go on with reach no further than this in texts that begin so
abbrev Reach : List ℕ → ℕ → Type 0
Reach text n = (behind rest : List ℕ) (row more : List LineToken) → IsTrue (is_row row rest) → IsTrue (at_start (row ++ more)) → text ++ behind ≡ bytes_of row ++ rest → length (bytes_of row) ≤ n

well : (row : List LineToken) (d : Document) → row ≡ document_tokens d → IsTrue (at_start row)
well row d e = subst (λ z. IsTrue (at_start z)) (sym e) (document_well d)

no_begin : (text : List ℕ) (n : ℕ) → n < length text → Reach text n → BeginsLines text → ⊥
no_begin text n l reach b =
    let q = b.2 in
    let w : IsTrue (at_start (q.row ++ [])) = subst (λ z. IsTrue (at_start z)) (sym (append-nil q.row)) (well q.row q.document q.of_grammar.derived) in
    let h : length (bytes_of q.row) ≤ n = reach b.0 [] q.row [] q.of_grammar.whole w (q.spelled ∙ sym (append-nil (bytes_of q.row))) in
    omega (arith, h, l, length-append text b.0, ap length q.spelled)

-- a line is bad where rows reach no further than the place
bad : (front : List ℕ) (c : ℕ) (r : List ℕ) (place : ℕ) → Stands front c place → place < length (front ++ c ∷ []) → Reach (front ++ c ∷ []) place → BadLine (front ++ c ∷ r) place
bad front c r place k l reach =
    inl (
      front,
      c,
      r,
      refl,
      record {
        begins = k.begins;
        breaks = no_begin (front ++ c ∷ []) place l reach;
        stops = record {
          row = k.row;
          goes_on = k.goes_on;
          place_is = k.place_is;
          longest = λ row g. reach [] g.rest row g.more g.whole (well (row ++ g.more) g.document g.begins.derived) (append-nil (front ++ c ∷ []) ∙ g.text_is);
        };
      },
    )

near : (n : ℕ) (known row : List LineToken) → row ≡ known → length (bytes_of known) ≤ n → length (bytes_of row) ≤ n
near n known row e h = subst (λ z. length (bytes_of z) ≤ n) (sym e) h

-- behind `<a:s> <a:p>` and a space
Object : List ℕ → List LineToken → List ℕ → Type 0
Object text row rest = (length (bytes_of row) ≤ 12) ⊎ ((ts : List LineToken) × (row ≡ up_to_object ++ ts) × IsTrue (is_row ts rest) × (text ≡ bytes_of ts ++ rest))

object_at : (text rest : List ℕ) (row : List LineToken) → IsTrue (is_row row rest) → codes "<a:s> <a:p> " ++ text ≡ bytes_of row ++ rest → Object text row rest
unfolding encode Object
object_at text rest row w e = elim (iri_first (codes "a:s") (32 ∷ (codes "<a:p> " ++ text)) row rest refl w e) [
  | inl k ↦ inl (near 12 [] row k (let z : 0 ≤ 12 = omega arith in z))
  | inr (t1, k1, _, w1, e1) ↦ elim (blank_first (codes "<a:p> " ++ text) t1 rest w1 e1) [
    | inl k ↦ inl (near 12 (s ∷ []) row (k1 ∙ ap (λ z. s ∷ z) k) (let z : 5 ≤ 12 = omega arith in z))
    | inr (t2, k2, _, w2, e2) ↦ elim (iri_first (codes "a:p") (32 ∷ text) t2 rest refl w2 e2) [
      | inl k ↦ inl (near 12 (s ∷ gap ∷ []) row (k1 ∙ ap (λ z. s ∷ z) (k2 ∙ ap (λ z. gap ∷ z) k)) (let z : 6 ≤ 12 = omega arith in z))
      | inr (t3, k3, _, w3, e3) ↦ elim (blank_first text t3 rest w3 e3) [
        | inl k ↦ inl (near 12 (s ∷ gap ∷ iri p ∷ []) row (k1 ∙ ap (λ z. s ∷ z) (k2 ∙ ap (λ z. gap ∷ z) (k3 ∙ ap (λ z. iri p ∷ z) k))) (let z : 11 ≤ 12 = omega arith in z))
        | inr (t4, k4, _, w4, e4) ↦ inr (t4, k1 ∙ ap (λ z. s ∷ z) (k2 ∙ ap (λ z. gap ∷ z) (k3 ∙ ap (λ z. iri p ∷ z) k4)), w4, e4)
      ]
    ]
  ]
]

-- behind `<a:s> <a:p> "x"`
Behind : List ℕ → List LineToken → List ℕ → Type 0
Behind text row rest = (length (bytes_of row) ≤ 12) ⊎ ((ts : List LineToken) × (row ≡ up_to_object ++ (x ∷ ts)) × IsTrue (is_row ts rest) × (text ≡ bytes_of ts ++ rest))

behind_x : (text rest : List ℕ) (row : List LineToken) → IsTrue (is_row row rest) → codes "<a:s> <a:p> \"x\"" ++ text ≡ bytes_of row ++ rest → Behind text row rest
unfolding encode Object Behind
behind_x text rest row w e = elim (object_at (codes "\"x\"" ++ text) rest row w e) [
  | inl h ↦ inl h
  | inr (ts, k, w1, e1) ↦ elim (string_first (codes "x") text ts rest refl w1 e1) [
    | inl m ↦ inl (near 12 up_to_object row (k ∙ ap (λ z. up_to_object ++ z) m) (let z : 12 ≤ 12 = omega arith in z))
    | inr (us, m, _, w2, e2) ↦ inr (us, k ∙ ap (λ z. up_to_object ++ z) m, w2, e2)
  ]
]

-- a row that no document goes on with
stuck : (row known more : List LineToken) → row ≡ known → IsFalse (at_start (known ++ more)) → IsTrue (at_start (row ++ more)) → ⊥
stuck row known more k n h = false≢true (sym n ∙ ap (λ z. at_start (z ++ more)) (sym k) ∙ h)

-- no object
reach_dot : Reach (codes "<a:s> <a:p> .") 12
unfolding encode Object
reach_dot behind rest row more w h e = elim (object_at (46 ∷ behind) rest row w e) [
  | inl l ↦ l
  | inr (ts, k, w1, e1) ↦ elim (dot_first behind ts rest w1 e1) [
    | inl m ↦ near 12 up_to_object row (k ∙ ap (λ z. up_to_object ++ z) m) (let z : 12 ≤ 12 = omega arith in z)
    | inr (us, m, _, w2, e2) ↦ absurd (stuck row (up_to_object ++ (dot ∷ us)) more (k ∙ ap (λ z. up_to_object ++ z) m) refl h)
  ]
]

row_1 : BadLine (codes "<a:s> <a:p> .") 12
row_1 = bad (codes "<a:s> <a:p> ") 46 [] 12 row_37 (let z : 12 < 13 = omega arith in z) reach_dot

-- white space before `^^`
reach_caret : Reach (codes "<a:s> <a:p> \"x\" ^") 16
unfolding encode Behind
reach_caret behind rest row more w h e = elim (behind_x (32 ∷ 94 ∷ behind) rest row w e) [
  | inl l ↦ let z : length (bytes_of row) ≤ 16 = omega (arith, l) in z
  | inr (ts, k, w1, e1) ↦ elim (blank_first (94 ∷ behind) ts rest w1 e1) [
    | inl m ↦ near 16 (up_to_object ++ (x ∷ [])) row (k ∙ ap (λ z. up_to_object ++ (x ∷ z)) m) (let z : 15 ≤ 16 = omega arith in z)
    | inr (us, m, _, w2, e2) ↦ go us (k ∙ ap (λ z. up_to_object ++ (x ∷ z)) m) w2 e2
  ]
]
  where
    go : (us : List LineToken) → row ≡ up_to_object ++ (x ∷ gap ∷ us) → IsTrue (is_row us rest) → 94 ∷ behind ≡ bytes_of us ++ rest → length (bytes_of row) ≤ 16
    go [] k w2 e2 = near 16 (up_to_object ++ (x ∷ gap ∷ [])) row k (let z : 16 ≤ 16 = omega arith in z)
    go (t ∷ us) k w2 e2 =
        let o = only_carets t (opens t 94 (bytes_of us ++ rest) behind (let z : 32 < 94 = omega arith in z) (head_token t us rest _ w2 e2) (split t us rest _ w2 e2)) in
        absurd (stuck row (up_to_object ++ (x ∷ gap ∷ carets ∷ us)) more (k ∙ ap (λ z. up_to_object ++ (x ∷ gap ∷ z ∷ us)) o) refl h)

row_2 : BadLine (codes "<a:s> <a:p> \"x\" ^^<a:d> .\n") 16
row_2 = bad (codes "<a:s> <a:p> \"x\" ") 94 (codes "^<a:d> .\n") 16 row_33 (let z : 16 < 17 = omega arith in z) reach_caret

-- white space behind `^^`
reach_space : Reach (codes "<a:s> <a:p> \"x\"^^ ") 17
unfolding encode Behind
reach_space behind rest row more w h e = elim (behind_x (94 ∷ 94 ∷ 32 ∷ behind) rest row w e) [
  | inl l ↦ let z : length (bytes_of row) ≤ 17 = omega (arith, l) in z
  | inr (ts, k, w1, e1) ↦ elim (carets_first (32 ∷ behind) ts rest w1 e1) [
    | inl m ↦ near 17 (up_to_object ++ (x ∷ [])) row (k ∙ ap (λ z. up_to_object ++ (x ∷ z)) m) (let z : 15 ≤ 17 = omega arith in z)
    | inr (us, m, _, w2, e2) ↦
        let j : row ≡ up_to_object ++ (x ∷ carets ∷ us) = k ∙ ap (λ z. up_to_object ++ (x ∷ z)) m in
        elim (blank_first behind us rest w2 e2) [
          | inl n ↦ near 17 (up_to_object ++ (x ∷ carets ∷ [])) row (j ∙ ap (λ z. up_to_object ++ (x ∷ carets ∷ z)) n) (let z : 17 ≤ 17 = omega arith in z)
          | inr (vs, n, _, w3, e3) ↦ absurd (stuck row (up_to_object ++ (x ∷ carets ∷ gap ∷ vs)) more (j ∙ ap (λ z. up_to_object ++ (x ∷ carets ∷ z)) n) refl h)
        ]
  ]
]

row_3 : BadLine (codes "<a:s> <a:p> \"x\"^^ <a:d> .\n") 17
row_3 = bad (codes "<a:s> <a:p> \"x\"^^") 32 (codes "<a:d> .\n") 17 row_34 (let z : 17 < 18 = omega arith in z) reach_space

-- other first bytes than those of a line
row_4 : BadLine (codes ".\n") 0
row_4 = bad_start 46 (codes "\n") refl

row_5 : BadLine (codes "x") 0
row_5 = bad_start 120 [] refl

-- a tag that spells `en` or less, or `en-` and more, isn't whole here
tag_whole : (text r behind : List ℕ) → IsTrue (is_language_tag text) → IsTrue (ends_before (tag text) r) → codes "en- " ++ behind ≡ text ++ r → ⊥
tag_whole [] r behind h b e = false≢true h
tag_whole (c ∷ []) r behind h b e = false≢true (subst (λ z. IsTrue (ends_before (tag z) (codes "n- " ++ behind))) (sym (ap (λ z. z ∷ []) (head_is 101 c _ _ e))) (subst (λ z. IsTrue (ends_before (tag (c ∷ [])) z)) (sym (tail_is 101 c _ _ e)) b))
tag_whole (c ∷ d ∷ text) r behind h b e = go text h b (tail_is 110 d _ _ (tail_is 101 c _ _ e))
  where
    start : (z : List ℕ) → c ∷ d ∷ z ≡ 101 ∷ 110 ∷ z
    start z = ap (λ u. u ∷ d ∷ z) (sym (head_is 101 c _ _ e)) ∙ ap (λ u. 101 ∷ u ∷ z) (sym (head_is 110 d _ _ (tail_is 101 c _ _ e)))

    go : (more : List ℕ) → IsTrue (is_language_tag (c ∷ d ∷ more)) → IsTrue (ends_before (tag (c ∷ d ∷ more)) r) → 45 ∷ 32 ∷ behind ≡ more ++ r → ⊥
    go [] h b e = false≢true (subst (λ z. IsTrue (ends_before (tag z) (45 ∷ 32 ∷ behind))) (start []) (subst (λ z. IsTrue (ends_before (tag (c ∷ d ∷ [])) z)) (sym e) b))
    go (f ∷ []) h b e = false≢true (subst (λ z. IsTrue (is_language_tag z)) (start (f ∷ []) ∙ ap (λ u. 101 ∷ 110 ∷ u ∷ []) (sym (head_is 45 f _ _ e))) h)
    go (f ∷ g ∷ more) h b e =
        let k : c ∷ d ∷ f ∷ g ∷ more ≡ 101 ∷ 110 ∷ 45 ∷ 32 ∷ more = start (f ∷ g ∷ more) ∙ ap (λ u. 101 ∷ 110 ∷ u ∷ g ∷ more) (sym (head_is 45 f _ _ e)) ∙ ap (λ u. 101 ∷ 110 ∷ 45 ∷ u ∷ more) (sym (head_is 32 g _ _ (tail_is 45 f _ _ e))) in
        let l : position is_dash (101 ∷ 110 ∷ 45 ∷ 32 ∷ more) ≡ Some 2 = cond-true (nat_lt 2 (length (101 ∷ 110 ∷ 45 ∷ 32 ∷ more))) (Some 2) None (lt-ltb 2 (length (101 ∷ 110 ∷ 45 ∷ 32 ∷ more)) (let z : 2 < suc (suc (suc (suc (length more)))) = omega arith in z)) in
        false≢true (sym (tag_with_dash (101 ∷ 110 ∷ 45 ∷ 32 ∷ more) 2 l ∙ subtags_go_on (32 ∷ more)) ∙ subst (λ z. IsTrue (is_language_tag z)) k h)

-- a tag that isn't whole
reach_tag : Reach (codes "<a:s> <a:p> \"x\"@en- ") 15
unfolding encode Behind
reach_tag behind rest row more w h e = elim (behind_x (64 ∷ (codes "en- " ++ behind)) rest row w e) [
  | inl l ↦ let z : length (bytes_of row) ≤ 15 = omega (arith, l) in z
  | inr (ts, k, w1, e1) ↦ go ts k w1 e1
]
  where
    go : (ts : List LineToken) → row ≡ up_to_object ++ (x ∷ ts) → IsTrue (is_row ts rest) → 64 ∷ (codes "en- " ++ behind) ≡ bytes_of ts ++ rest → length (bytes_of row) ≤ 15
    go [] k w1 e1 = near 15 (up_to_object ++ (x ∷ [])) row k (let z : 15 ≤ 15 = omega arith in z)
    go (t ∷ us) k w1 e1 =
        let o = only_tag t (opens t 64 (bytes_of us ++ rest) (codes "en- " ++ behind) (let z : 32 < 64 = omega arith in z) (head_token t us rest _ w1 e1) (split t us rest _ w1 e1)) in
        let m : IsTrue (is_token (tag o.0)) = subst (λ z. IsTrue (is_token z)) o.1 (head_token t us rest _ w1 e1) in
        let b : IsTrue (ends_before (tag o.0) (bytes_of us ++ rest)) = subst (λ z. IsTrue (ends_before z (bytes_of us ++ rest))) o.1 (head_ends t us rest _ w1 e1) in
        let f : 64 ∷ (codes "en- " ++ behind) ≡ 64 ∷ (o.0 ++ (bytes_of us ++ rest)) = split t us rest _ w1 e1 ∙ ap (λ z. token_bytes z ++ (bytes_of us ++ rest)) o.1 in
        absurd (tag_whole o.0 (bytes_of us ++ rest) behind m b (tail_is 64 64 _ _ f))

row_6 : BadLine (codes "<a:s> <a:p> \"x\"@en- .\n") 15
row_6 = bad (codes "<a:s> <a:p> \"x\"@en-") 32 (codes ".\n") 15 row_35 (let z : 15 < 20 = omega arith in z) reach_tag

-- the label of `a.. ` is `a`
label_whole : (cs r behind : List ℕ) → IsTrue (is_label cs) → codes "a.. " ++ behind ≡ encodes cs ++ r → (cs ≡ codes "a") × (codes ".. " ++ behind ≡ r)
label_whole [] r behind h e = absurd (false≢true h)
label_whole (c ∷ cs) r behind h e = go cs h a.1
  where
    a : (c ≡ 97) × (encodes cs ++ r ≡ codes ".. " ++ behind)
    a = ascii_cut c 97 (encodes cs ++ r) (codes ".. " ++ behind) (let z : 97 < 128 = omega arith in z) (sym (append_assoc (encode c) (encodes cs) r) ∙ sym e)

    cut : (d b : ℕ) (ds s : List ℕ) → b < 128 → encodes (d ∷ ds) ++ r ≡ b ∷ s → (d ≡ b) × (encodes ds ++ r ≡ s)
    cut d b ds s l f = ascii_cut d b (encodes ds ++ r) s l (sym (append_assoc (encode d) (encodes ds) r) ∙ f)

    go : (ds : List ℕ) → IsTrue (is_label (c ∷ ds)) → encodes ds ++ r ≡ codes ".. " ++ behind → (c ∷ ds ≡ codes "a") × (codes ".. " ++ behind ≡ r)
    go [] h f = (ap (λ z. z ∷ []) a.0, sym f)
    go (d ∷ []) h f = absurd (false≢true (subst (λ z. IsTrue (is_label z)) (ap (λ z. z ∷ d ∷ []) a.0 ∙ ap (λ z. 97 ∷ z ∷ []) (cut d 46 [] (codes ". " ++ behind) (let z : 46 < 128 = omega arith in z) f).0) h))
    go (d ∷ b ∷ []) h f =
        let k = cut d 46 (b ∷ []) (codes ". " ++ behind) (let z : 46 < 128 = omega arith in z) f in
        let l = cut b 46 [] (codes " " ++ behind) (let z : 46 < 128 = omega arith in z) k.1 in
        absurd (false≢true (subst (λ z. IsTrue (is_label z)) (ap (λ z. z ∷ d ∷ b ∷ []) a.0 ∙ ap (λ z. 97 ∷ z ∷ b ∷ []) k.0 ∙ ap (λ z. 97 ∷ 46 ∷ z ∷ []) l.0) h))
    go (d ∷ b ∷ g ∷ ds) h f =
        let k = cut d 46 (b ∷ g ∷ ds) (codes ". " ++ behind) (let z : 46 < 128 = omega arith in z) f in
        let l = cut b 46 (g ∷ ds) (codes " " ++ behind) (let z : 46 < 128 = omega arith in z) k.1 in
        let m = cut g 32 ds behind (let z : 32 < 128 = omega arith in z) l.1 in
        absurd (false≢true (subst (λ z. IsTrue (is_label z)) (ap (λ z. z ∷ d ∷ b ∷ g ∷ ds) a.0 ∙ ap (λ z. 97 ∷ z ∷ b ∷ g ∷ ds) k.0 ∙ ap (λ z. 97 ∷ 46 ∷ z ∷ g ∷ ds) l.0 ∙ ap (λ z. 97 ∷ 46 ∷ 46 ∷ z ∷ ds) m.0) h))

a : LineToken
a = label (codes "a")

-- a label doesn't end with a dot
reach_dots : Reach (codes "<a:s> <a:p> _:a.. ") 16
unfolding encode Object a
reach_dots behind rest row more w h e = elim (object_at (codes "_:a.. " ++ behind) rest row w e) [
  | inl l ↦ let z : length (bytes_of row) ≤ 16 = omega (arith, l) in z
  | inr (ts, k, w1, e1) ↦ go ts k w1 e1
]
  where
    dots : (us : List LineToken) → row ≡ up_to_object ++ (a ∷ us) → IsTrue (is_row us rest) → codes ".. " ++ behind ≡ bytes_of us ++ rest → length (bytes_of row) ≤ 16
    dots us k w2 e2 = elim (dot_first (codes ". " ++ behind) us rest w2 e2) [
      | inl n ↦ near 16 (up_to_object ++ (a ∷ [])) row (k ∙ ap (λ z. up_to_object ++ (a ∷ z)) n) (let z : 15 ≤ 16 = omega arith in z)
      | inr (vs, n, _, w3, e3) ↦
          let j : row ≡ up_to_object ++ (a ∷ dot ∷ vs) = k ∙ ap (λ z. up_to_object ++ (a ∷ z)) n in
          elim (dot_first (codes " " ++ behind) vs rest w3 e3) [
            | inl q ↦ near 16 (up_to_object ++ (a ∷ dot ∷ [])) row (j ∙ ap (λ z. up_to_object ++ (a ∷ dot ∷ z)) q) (let z : 16 ≤ 16 = omega arith in z)
            | inr (us, q, _, w4, e4) ↦ absurd (stuck row (up_to_object ++ (a ∷ dot ∷ dot ∷ us)) more (j ∙ ap (λ z. up_to_object ++ (a ∷ dot ∷ z)) q) refl h)
          ]
    ]

    go : (ts : List LineToken) → row ≡ up_to_object ++ ts → IsTrue (is_row ts rest) → codes "_:a.. " ++ behind ≡ bytes_of ts ++ rest → length (bytes_of row) ≤ 16
    go [] k w1 e1 = near 16 up_to_object row k (let z : 12 ≤ 16 = omega arith in z)
    go (t ∷ us) k w1 e1 =
        let o = only_label t (opens t 95 (bytes_of us ++ rest) (codes ":a.. " ++ behind) (let z : 32 < 95 = omega arith in z) (head_token t us rest _ w1 e1) (split t us rest _ w1 e1)) in
        let m : IsTrue (is_token (label o.0)) = subst (λ z. IsTrue (is_token z)) o.1 (head_token t us rest _ w1 e1) in
        let f : codes "_:a.. " ++ behind ≡ 95 ∷ 58 ∷ (encodes o.0 ++ (bytes_of us ++ rest)) = split t us rest _ w1 e1 ∙ ap (λ z. token_bytes z ++ (bytes_of us ++ rest)) o.1 in
        let c = label_whole o.0 (bytes_of us ++ rest) behind m (tail_is 58 58 _ _ (tail_is 95 95 _ _ f)) in
        dots us (k ∙ ap (λ z. up_to_object ++ (z ∷ us)) (o.1 ∙ ap label c.0)) (row_behind t us rest _ w1 e1) c.1

row_7 : BadLine (codes "<a:s> <a:p> _:a.. .\n") 16
row_7 = bad (codes "<a:s> <a:p> _:a..") 32 (codes ".\n") 16 row_36 (let z : 16 < 18 = omega arith in z) reach_dots

-- the input ends inside a line
no_quads : (quads : List Parts) → QuadsOf (codes "<a:s> <a:p> \"x\"") quads → ⊥
unfolding encode Behind
no_quads quads q = elim (behind_x [] [] q.row q.of_grammar.whole (q.spelled ∙ sym (append-nil (bytes_of q.row)))) [
  | inl l ↦ let z : ⊥ = omega (arith, l, ap length q.spelled) in z
  | inr (ts, k, w, e) ↦ go ts k e
]
  where
    go : (ts : List LineToken) → q.row ≡ up_to_object ++ (x ∷ ts) → [] ≡ bytes_of ts ++ [] → ⊥
    go [] k e =
        let j : up_to_object ++ (x ∷ []) ≡ document_tokens q.document = sym k ∙ q.of_grammar.derived in
        let h : IsTrue (has is_iri (document_tokens q.document)) = subst (λ z. IsTrue (has is_iri z)) j refl in
        let m : IsTrue (has is_dot (up_to_object ++ (x ∷ []))) = subst (λ z. IsTrue (has is_dot z)) (sym j) (document_dot q.document h) in
        false≢true m
    go (t ∷ ts) k e = some t (e ∙ append_assoc (token_bytes t) (bytes_of ts) [])
      where
        some : (t : LineToken) → [] ≡ token_bytes t ++ (bytes_of ts ++ []) → ⊥
        some (iri c) f = cc
        some (label c) f = cc
        some (string c) f = cc
        some carets f = cc
        some (tag c) f = cc
        some dot f = cc
        some (comment c) f = cc
        some (line_end c) f = cc
        some (blank c) f = cc

row_8 : BadLine (codes "<a:s> <a:p> \"x\"") 15
unfolding encode
row_8 = inr (record { begins = begun (codes "<a:s> <a:p> \"x\"") (codes ".") (x_line plain) refl refl; unfinished = no_quads; place_is = refl })
