-- The first token of a row, where the text that it spells is known.
use Rattle.std.proofs.Common.{◌≡◌, ℕ, suc, ◌<◌, ◌⊎◌, inl, inr, Bool, not, ◌&&◌, ◌==◌, nat_lt, List, [], ◌∷◌, ◌++◌, length, map, flat_map, IsTrue, IsFalse, codes, append_assoc, refl, sym, ap, ◌∙◌, subst, arith}
use Rattle.std.proofs.lemmas.Bool.{and_parts, false≢true, ltb-true, eq-eqb, eqb-true, or_cases}
use Rattle.std.proofs.lemmas.Str.{char_from_byte, encode_ascii}
use Rattle.std.specs.List.{list_all}
use lib.Utf8.{encode, encodes}
use Rattle.jl_model.specs.Iris.{has_iri_form}
use Rattle.jl_model.specs.LineTokens.{meaning, Written, itself, letter, four, eight, spelling, is_iri_character, is_string_character, LineToken, iri, label, string, carets, tag, dot, comment, line_end, blank, token_bytes, is_token, ends_before, is_row, bytes_of, is_line_end}

pub head_is : (c d : ℕ) (cs ds : List ℕ) → c ∷ cs ≡ d ∷ ds → c ≡ d
head_is c d cs ds e = cc

pub tail_is : (c d : ℕ) (cs ds : List ℕ) → c ∷ cs ≡ d ∷ ds → cs ≡ ds
tail_is c d cs ds e = cc

-- within ASCII a character is its byte
pub ascii_cut : (c b : ℕ) (r s : List ℕ) → b < 128 → encode c ++ r ≡ b ∷ s → (c ≡ b) × (r ≡ s)
ascii_cut c b r s h e =
    let k : c ≡ b = char_from_byte (b ∷ s) r c (sym e) h (let z : 0 < suc (length s) = omega arith in z) in
    (k, tail_is b b r s (sym (ap (λ x. x ++ r) (encode_ascii b h)) ∙ ap (λ x. encode x ++ r) (sym k) ∙ e))

-- so is a written one, where the byte is no backslash
written_cut : (w : Written) (b : ℕ) (r s : List ℕ) → b < 128 → (b ≡ 92 → ⊥) → spelling w ++ r ≡ b ∷ s → (w ≡ itself b) × (r ≡ s)
written_cut (itself c) b r s h n e = let k = ascii_cut c b r s h e in (ap itself k.0, k.1)
written_cut (letter c) b r s h n e = absurd (n (sym (head_is 92 b (c ∷ r) s e)))
written_cut (four ds) b r s h n e = absurd (n (sym (head_is 92 b (117 ∷ (ds ++ r)) s e)))
written_cut (eight ds) b r s h n e = absurd (n (sym (head_is 92 b (85 ∷ (ds ++ r)) s e)))

abbrev pub is_plain : ℕ → ℕ → Bool
is_plain k b = nat_lt b 128 && (not (b == 92) && not (b == k))

not_same : (b k : ℕ) → IsTrue (not (b == k)) → b ≡ k → ⊥
not_same b k h e = false≢true (sym (ap (λ x. not x) (eq-eqb b k e)) ∙ h)

-- characters up to a closing byte k, which is none of them, are those of a plain text
module _ (test : Written → Bool) (k : ℕ) (low : k < 128) (other : k ≡ 92 → ⊥) (closes : IsFalse (test (itself k))) where
  plain_cut : (ws : List Written) (v r s : List ℕ) → IsTrue (list_all test ws) → IsTrue (list_all (is_plain k) v) → flat_map spelling ws ++ (k ∷ r) ≡ v ++ (k ∷ s) → (ws ≡ map itself v) × (r ≡ s)
  plain_cut [] [] r s h p e = (refl, tail_is k k r s e)
  plain_cut [] (b ∷ v) r s h p e =
      let q = and_parts (is_plain k b) (list_all (is_plain k) v) p in
      let q2 = and_parts (nat_lt b 128) (not (b == 92) && not (b == k)) q.0 in
      absurd (not_same b k (and_parts (not (b == 92)) (not (b == k)) q2.1).1 (sym (head_is k b r (v ++ (k ∷ s)) e)))
  plain_cut (w ∷ ws) [] r s h p e =
      let g = and_parts (test w) (list_all test ws) h in
      let c = written_cut w k (flat_map spelling ws ++ (k ∷ r)) s low other (sym (append_assoc (spelling w) (flat_map spelling ws) (k ∷ r)) ∙ e) in
      absurd (false≢true (sym closes ∙ ap test (sym c.0) ∙ g.0))
  plain_cut (w ∷ ws) (b ∷ v) r s h p e =
      let q = and_parts (is_plain k b) (list_all (is_plain k) v) p in
      let q2 = and_parts (nat_lt b 128) (not (b == 92) && not (b == k)) q.0 in
      let g = and_parts (test w) (list_all test ws) h in
      let c = written_cut w b (flat_map spelling ws ++ (k ∷ r)) (v ++ (k ∷ s)) (ltb-true b 128 q2.0) (not_same b 92 (and_parts (not (b == 92)) (not (b == k)) q2.1).0) (sym (append_assoc (spelling w) (flat_map spelling ws) (k ∷ r)) ∙ e) in
      let i = plain_cut ws v r s g.1 q.1 c.1 in
      (ap (λ x. x ∷ ws) c.0 ∙ ap (λ x. itself b ∷ x) i.0, i.1)

-- the byte with which a token begins, one for spaces and tabs, and one for line ends
abbrev pub opening : LineToken → ℕ
opening (iri ws) = 60
opening (label cs) = 95
opening (string ws) = 34
opening carets = 94
opening (tag text) = 64
opening dot = 46
opening (comment cs) = 35
opening (line_end b) = 10
opening (blank b) = 32

-- a byte above the space is the first one of this token alone
pub opens : (t : LineToken) (b : ℕ) (r s : List ℕ) → 32 < b → IsTrue (is_token t) → b ∷ s ≡ token_bytes t ++ r → opening t ≡ b
opens (iri ws) b r s l h e = sym (head_is b 60 s ((flat_map spelling ws ++ codes ">") ++ r) e)
opens (label cs) b r s l h e = sym (head_is b 95 s (58 ∷ (encodes cs ++ r)) e)
opens (string ws) b r s l h e = sym (head_is b 34 s ((flat_map spelling ws ++ codes "\"") ++ r) e)
opens carets b r s l h e = sym (head_is b 94 s (94 ∷ r) e)
opens (tag text) b r s l h e = sym (head_is b 64 s (text ++ r) e)
opens dot b r s l h e = sym (head_is b 46 s r e)
opens (comment cs) b r s l h e = sym (head_is b 35 s (encodes cs ++ r) e)
opens (line_end c) b r s l h e =
    let k : c ≡ b = sym (head_is b c s r e) in
    elim (or_cases (c == 10) (c == 13) h) [ inl f ↦ absurd (let z : ⊥ = omega (arith, l, k, eqb-true c 10 f) in z) | inr f ↦ absurd (let z : ⊥ = omega (arith, l, k, eqb-true c 13 f) in z) ]
opens (blank c) b r s l h e =
    let k : c ≡ b = sym (head_is b c s r e) in
    elim (or_cases (c == 32) (c == 9) h) [ inl f ↦ absurd (let z : ⊥ = omega (arith, l, k, eqb-true c 32 f) in z) | inr f ↦ absurd (let z : ⊥ = omega (arith, l, k, eqb-true c 9 f) in z) ]

unequal : (a b : ℕ) → IsFalse (a == b) → a ≡ b → ⊥
unequal a b n e = false≢true (sym n ∙ eq-eqb a b e)

differ : (a b : ℕ) {cs ds : List ℕ} → IsFalse (a == b) → a ∷ cs ≡ b ∷ ds → ⊥
differ a b {cs} {ds} n e = unequal a b n (head_is a b cs ds e)

-- a space is no other token
pub opens_blank : (t : LineToken) (r s : List ℕ) → IsTrue (is_token t) → 32 ∷ s ≡ token_bytes t ++ r → t ≡ blank 32
opens_blank (iri x) r s h e = absurd (differ 32 60 refl e)
opens_blank (label x) r s h e = absurd (differ 32 95 refl e)
opens_blank (string x) r s h e = absurd (differ 32 34 refl e)
opens_blank carets r s h e = absurd (differ 32 94 refl e)
opens_blank (tag x) r s h e = absurd (differ 32 64 refl e)
opens_blank dot r s h e = absurd (differ 32 46 refl e)
opens_blank (comment x) r s h e = absurd (differ 32 35 refl e)
opens_blank (line_end x) r s h e = absurd (false≢true (ap is_line_end (head_is 32 x s r e) ∙ h))
opens_blank (blank x) r s h e = ap blank (sym (head_is 32 x s r e))

-- which token has this opening byte
pub only_iri : (t : LineToken) → opening t ≡ 60 → (x : List Written) × (t ≡ iri x)
only_iri (iri x) e = (x, refl)
only_iri (label x) e = absurd (unequal 95 60 refl e)
only_iri (string x) e = absurd (unequal 34 60 refl e)
only_iri carets e = absurd (unequal 94 60 refl e)
only_iri (tag x) e = absurd (unequal 64 60 refl e)
only_iri dot e = absurd (unequal 46 60 refl e)
only_iri (comment x) e = absurd (unequal 35 60 refl e)
only_iri (line_end x) e = absurd (unequal 10 60 refl e)
only_iri (blank x) e = absurd (unequal 32 60 refl e)

pub only_label : (t : LineToken) → opening t ≡ 95 → (x : List ℕ) × (t ≡ label x)
only_label (iri x) e = absurd (unequal 60 95 refl e)
only_label (label x) e = (x, refl)
only_label (string x) e = absurd (unequal 34 95 refl e)
only_label carets e = absurd (unequal 94 95 refl e)
only_label (tag x) e = absurd (unequal 64 95 refl e)
only_label dot e = absurd (unequal 46 95 refl e)
only_label (comment x) e = absurd (unequal 35 95 refl e)
only_label (line_end x) e = absurd (unequal 10 95 refl e)
only_label (blank x) e = absurd (unequal 32 95 refl e)

pub only_string : (t : LineToken) → opening t ≡ 34 → (x : List Written) × (t ≡ string x)
only_string (iri x) e = absurd (unequal 60 34 refl e)
only_string (label x) e = absurd (unequal 95 34 refl e)
only_string (string x) e = (x, refl)
only_string carets e = absurd (unequal 94 34 refl e)
only_string (tag x) e = absurd (unequal 64 34 refl e)
only_string dot e = absurd (unequal 46 34 refl e)
only_string (comment x) e = absurd (unequal 35 34 refl e)
only_string (line_end x) e = absurd (unequal 10 34 refl e)
only_string (blank x) e = absurd (unequal 32 34 refl e)

pub only_carets : (t : LineToken) → opening t ≡ 94 → t ≡ carets
only_carets (iri x) e = absurd (unequal 60 94 refl e)
only_carets (label x) e = absurd (unequal 95 94 refl e)
only_carets (string x) e = absurd (unequal 34 94 refl e)
only_carets carets e = refl
only_carets (tag x) e = absurd (unequal 64 94 refl e)
only_carets dot e = absurd (unequal 46 94 refl e)
only_carets (comment x) e = absurd (unequal 35 94 refl e)
only_carets (line_end x) e = absurd (unequal 10 94 refl e)
only_carets (blank x) e = absurd (unequal 32 94 refl e)

pub only_tag : (t : LineToken) → opening t ≡ 64 → (x : List ℕ) × (t ≡ tag x)
only_tag (iri x) e = absurd (unequal 60 64 refl e)
only_tag (label x) e = absurd (unequal 95 64 refl e)
only_tag (string x) e = absurd (unequal 34 64 refl e)
only_tag carets e = absurd (unequal 94 64 refl e)
only_tag (tag x) e = (x, refl)
only_tag dot e = absurd (unequal 46 64 refl e)
only_tag (comment x) e = absurd (unequal 35 64 refl e)
only_tag (line_end x) e = absurd (unequal 10 64 refl e)
only_tag (blank x) e = absurd (unequal 32 64 refl e)

pub only_dot : (t : LineToken) → opening t ≡ 46 → t ≡ dot
only_dot (iri x) e = absurd (unequal 60 46 refl e)
only_dot (label x) e = absurd (unequal 95 46 refl e)
only_dot (string x) e = absurd (unequal 34 46 refl e)
only_dot carets e = absurd (unequal 94 46 refl e)
only_dot (tag x) e = absurd (unequal 64 46 refl e)
only_dot dot e = refl
only_dot (comment x) e = absurd (unequal 35 46 refl e)
only_dot (line_end x) e = absurd (unequal 10 46 refl e)
only_dot (blank x) e = absurd (unequal 32 46 refl e)

-- a row is empty, or begins with this token, and what stands behind that is a row
abbrev pub FirstIs : LineToken → List ℕ → List LineToken → List ℕ → Type 0
FirstIs u s row rest = (row ≡ []) ⊎ ((ts : List LineToken) × (row ≡ u ∷ ts) × IsTrue (ends_before u s) × IsTrue (is_row ts rest) × (s ≡ bytes_of ts ++ rest))

-- such a row, from what its first token is
module _ (t : LineToken) (ts : List LineToken) (rest text : List ℕ) (w : IsTrue (is_row (t ∷ ts) rest)) (e : text ≡ bytes_of (t ∷ ts) ++ rest) where
  pub head_token : IsTrue (is_token t)
  head_token = (and_parts (is_token t) (ends_before t (bytes_of ts ++ rest) && is_row ts rest) w).0

  behind_head : IsTrue (ends_before t (bytes_of ts ++ rest)) × IsTrue (is_row ts rest)
  behind_head = and_parts (ends_before t (bytes_of ts ++ rest)) (is_row ts rest) (and_parts (is_token t) (ends_before t (bytes_of ts ++ rest) && is_row ts rest) w).1

  pub head_ends : IsTrue (ends_before t (bytes_of ts ++ rest))
  head_ends = behind_head.0

  pub row_behind : IsTrue (is_row ts rest)
  row_behind = behind_head.1

  pub split : text ≡ token_bytes t ++ (bytes_of ts ++ rest)
  split = e ∙ append_assoc (token_bytes t) (bytes_of ts) rest

  pub first_is : (u : LineToken) (s : List ℕ) → t ≡ u → s ≡ bytes_of ts ++ rest → FirstIs u s (t ∷ ts) rest
  first_is u s k f = inr (ts, ap (λ x. x ∷ ts) k, subst (λ x. IsTrue (ends_before x s)) k (subst (λ x. IsTrue (ends_before t x)) (sym f) head_ends), row_behind, f)

-- an IRI without escapes
pub iri_first : (v s : List ℕ) (row : List LineToken) (rest : List ℕ) → IsTrue (list_all (is_plain 62) v) → IsTrue (is_row row rest) → 60 ∷ (v ++ (62 ∷ s)) ≡ bytes_of row ++ rest → FirstIs (iri (map itself v)) s row rest
iri_first v s [] rest p w e = inl refl
iri_first v s (t ∷ ts) rest p w e =
    let o = only_iri t (opens t 60 (bytes_of ts ++ rest) (v ++ (62 ∷ s)) (let z : 32 < 60 = omega arith in z) (head_token t ts rest _ w e) (split t ts rest _ w e)) in
    let k : 60 ∷ (v ++ (62 ∷ s)) ≡ 60 ∷ ((flat_map spelling o.0 ++ codes ">") ++ (bytes_of ts ++ rest)) = split t ts rest _ w e ∙ ap (λ x. token_bytes x ++ (bytes_of ts ++ rest)) o.1 in
    let h : IsTrue (is_token (iri o.0)) = subst (λ x. IsTrue (is_token x)) o.1 (head_token t ts rest _ w e) in
    let c = plain_cut is_iri_character 62 (let z : 62 < 128 = omega arith in z) (unequal 62 92 refl) refl o.0 v (bytes_of ts ++ rest) s (and_parts (list_all is_iri_character o.0) (has_iri_form (meaning o.0)) h).0 p (sym (tail_is 60 60 _ _ k ∙ append_assoc (flat_map spelling o.0) (codes ">") (bytes_of ts ++ rest))) in
    first_is t ts rest _ w e (iri (map itself v)) s (o.1 ∙ ap iri c.0) (sym c.1)

-- a string without escapes
pub string_first : (v s : List ℕ) (row : List LineToken) (rest : List ℕ) → IsTrue (list_all (is_plain 34) v) → IsTrue (is_row row rest) → 34 ∷ (v ++ (34 ∷ s)) ≡ bytes_of row ++ rest → FirstIs (string (map itself v)) s row rest
string_first v s [] rest p w e = inl refl
string_first v s (t ∷ ts) rest p w e =
    let o = only_string t (opens t 34 (bytes_of ts ++ rest) (v ++ (34 ∷ s)) (let z : 32 < 34 = omega arith in z) (head_token t ts rest _ w e) (split t ts rest _ w e)) in
    let k : 34 ∷ (v ++ (34 ∷ s)) ≡ 34 ∷ ((flat_map spelling o.0 ++ codes "\"") ++ (bytes_of ts ++ rest)) = split t ts rest _ w e ∙ ap (λ x. token_bytes x ++ (bytes_of ts ++ rest)) o.1 in
    let h : IsTrue (is_token (string o.0)) = subst (λ x. IsTrue (is_token x)) o.1 (head_token t ts rest _ w e) in
    let c = plain_cut is_string_character 34 (let z : 34 < 128 = omega arith in z) (unequal 34 92 refl) refl o.0 v (bytes_of ts ++ rest) s h p (sym (tail_is 34 34 _ _ k ∙ append_assoc (flat_map spelling o.0) (codes "\"") (bytes_of ts ++ rest))) in
    first_is t ts rest _ w e (string (map itself v)) s (o.1 ∙ ap string c.0) (sym c.1)

-- a space
pub blank_first : (s : List ℕ) (row : List LineToken) (rest : List ℕ) → IsTrue (is_row row rest) → 32 ∷ s ≡ bytes_of row ++ rest → FirstIs (blank 32) s row rest
blank_first s [] rest w e = inl refl
blank_first s (t ∷ ts) rest w e =
    let k = opens_blank t (bytes_of ts ++ rest) s (head_token t ts rest _ w e) (split t ts rest _ w e) in
    first_is t ts rest _ w e (blank 32) s k (tail_is 32 32 _ _ (split t ts rest _ w e ∙ ap (λ x. token_bytes x ++ (bytes_of ts ++ rest)) k))

-- a dot
pub dot_first : (s : List ℕ) (row : List LineToken) (rest : List ℕ) → IsTrue (is_row row rest) → 46 ∷ s ≡ bytes_of row ++ rest → FirstIs dot s row rest
dot_first s [] rest w e = inl refl
dot_first s (t ∷ ts) rest w e =
    let k = only_dot t (opens t 46 (bytes_of ts ++ rest) s (let z : 32 < 46 = omega arith in z) (head_token t ts rest _ w e) (split t ts rest _ w e)) in
    first_is t ts rest _ w e dot s k (tail_is 46 46 _ _ (split t ts rest _ w e ∙ ap (λ x. token_bytes x ++ (bytes_of ts ++ rest)) k))

-- `^^`
pub carets_first : (s : List ℕ) (row : List LineToken) (rest : List ℕ) → IsTrue (is_row row rest) → 94 ∷ 94 ∷ s ≡ bytes_of row ++ rest → FirstIs carets s row rest
carets_first s [] rest w e = inl refl
carets_first s (t ∷ ts) rest w e =
    let k = only_carets t (opens t 94 (bytes_of ts ++ rest) (94 ∷ s) (let z : 32 < 94 = omega arith in z) (head_token t ts rest _ w e) (split t ts rest _ w e)) in
    first_is t ts rest _ w e carets s k (tail_is 94 94 _ _ (tail_is 94 94 _ _ (split t ts rest _ w e ∙ ap (λ x. token_bytes x ++ (bytes_of ts ++ rest)) k)))
