-- From a line to the document that it stands in.
use Rattle.std.proofs.Common.{◌≡◌, ℕ, inl, inr, not, List, [], ◌∷◌, ◌++◌, Option, Some, IsTrue, append-nil, append_assoc, refl, sym, ap, ◌∙◌, subst}
use Rattle.std.proofs.lemmas.Bool.{and_parts, and_from, false≢true}
use Rattle.std.proofs.lemmas.List.Concat.{flat_map-append}
use Rattle.std.proofs.lemmas.List.Folds.{list_all-append}
use Rattle.std.specs.List.{list_all}
use Rattle.jl_model.specs.Parts.{Parts}
use lib.Utf8.{encode}
use Rattle.jl_model.specs.LineTokens.{itself, LineToken, token_bytes, is_token, ends_before, is_row, bytes_of, is_line_end}
use Rattle.jl_model.specs.LineTokens as tokens
use Rattle.jl_model.specs.LineGrammar.{Line, Document, last, ended, line_tokens, document_tokens, document_quads, statement_quads, QuadsOf}
use Rattle.jl_nquads.specs.EndedLines.{EndedLine, ended_tokens, ended_quads, HasEnded}
use Rattle.jl_nquads.specs.Spots.{Spot, begins, has_subject, has_predicate, has_string, has_carets, has_object, has_graph, has_dot, has_comment, leads_to, goes, said, Left, not_end}
use Rattle.jl_nquads.proofs.NoLineEnds.{is_inside, token_no_end, ends_at_line_end}
use Rattle.jl_nquads.proofs.SaidLines.{said_line, line_of}
use Rattle.jl_nquads.proofs.SpotRows.{goes_on, goes_where, said_on, said_goes, row_from, head_is_token, head_ends, tail_is_row, ends_before_next, ends_at_end, ends_same}
use Rattle.jl_nquads.proofs.TagBytes.{other_ends}
use Rattle.jl_nquads.proofs.Texts.{head_is, tail_is, fronts_of}

-- ---- rows one behind the other

-- a row, and another behind it
pub rows_join : (xs ys : List LineToken) (rest : List ℕ) → IsTrue (is_row xs (bytes_of ys ++ rest)) → IsTrue (is_row ys rest) → IsTrue (is_row (xs ++ ys) rest)
rows_join [] ys rest h k = k
rows_join (t ∷ xs) ys rest h k =
    row_from t (xs ++ ys) rest (head_is_token t xs (bytes_of ys ++ rest) h) (subst (λ z. IsTrue (ends_before t z)) (sym (append_assoc (bytes_of xs) (bytes_of ys) rest) ∙ ap (λ z. z ++ rest) (sym (flat_map-append token_bytes xs ys))) (head_ends t xs (bytes_of ys ++ rest) h))
    (rows_join xs ys rest (tail_is_row t xs (bytes_of ys ++ rest) h) k)

pub rows_part : (xs ys : List LineToken) (rest : List ℕ) → IsTrue (is_row (xs ++ ys) rest) → IsTrue (is_row xs (bytes_of ys ++ rest)) × IsTrue (is_row ys rest)
rows_part [] ys rest h = (refl, h)
rows_part (t ∷ xs) ys rest h =
    let k = rows_part xs ys rest (tail_is_row t (xs ++ ys) rest h) in
    (row_from t xs (bytes_of ys ++ rest) (head_is_token t (xs ++ ys) rest h) (subst (λ z. IsTrue (ends_before t z)) (ap (λ z. z ++ rest) (flat_map-append token_bytes xs ys) ∙ append_assoc (bytes_of xs) (bytes_of ys) rest) (head_ends t (xs ++ ys) rest h)) k.0, k.1)

-- what stands behind a row that a line end follows doesn't matter, nor whether it follows
row_then : (xs : List LineToken) (e : ℕ) (x y : List ℕ) → IsTrue (is_row xs (e ∷ x)) → IsTrue (is_row xs (e ∷ y))
row_then [] e x y h = refl
row_then (t ∷ []) e x y h = row_from t [] (e ∷ y) (head_is_token t [] (e ∷ x) h) (sym (ends_same t e x y) ∙ head_ends t [] (e ∷ x) h) refl
row_then (t ∷ u ∷ xs) e x y h =
    row_from t (u ∷ xs) (e ∷ y) (head_is_token t (u ∷ xs) (e ∷ x) h) (ends_before_next t u xs (e ∷ x) (e ∷ y) (head_ends t (u ∷ xs) (e ∷ x) h)) (row_then (u ∷ xs) e x y (tail_is_row t (u ∷ xs) (e ∷ x) h))

pub row_alone : (xs : List LineToken) (x : List ℕ) → IsTrue (is_row xs x) → IsTrue (is_row xs [])
row_alone [] x h = refl
row_alone (t ∷ []) x h = row_from t [] [] (head_is_token t [] x h) (ends_at_end t) refl
row_alone (t ∷ u ∷ xs) x h = row_from t (u ∷ xs) [] (head_is_token t (u ∷ xs) x h) (ends_before_next t u xs x [] (head_ends t (u ∷ xs) x h)) (row_alone (u ∷ xs) x (tail_is_row t (u ∷ xs) x h))

pub row_at_end : (xs : List LineToken) (e : ℕ) (x : List ℕ) → IsTrue (is_line_end e) → IsTrue (is_row xs []) → IsTrue (is_row xs (e ∷ x))
row_at_end [] e x l h = refl
row_at_end (t ∷ []) e x l h = row_from t [] (e ∷ x) (head_is_token t [] [] h) (ends_at_line_end t e x l) refl
row_at_end (t ∷ u ∷ xs) e x l h = row_from t (u ∷ xs) (e ∷ x) (head_is_token t (u ∷ xs) [] h) (ends_before_next t u xs [] (e ∷ x) (head_ends t (u ∷ xs) [] h)) (row_at_end (u ∷ xs) e x l (tail_is_row t (u ∷ xs) [] h))

-- ---- lines have no line end

inside_token : (s : Spot) (t : LineToken) (r : Spot) → leads_to s t ≡ Some r → IsTrue (is_inside t)
inside_token s (tokens.iri w) r h = refl
inside_token s (tokens.label w) r h = refl
inside_token s (tokens.string w) r h = refl
inside_token s tokens.carets r h = refl
inside_token s (tokens.tag w) r h = refl
inside_token s tokens.dot r h = refl
inside_token s (tokens.comment w) r h = refl
inside_token s (tokens.blank w) r h = refl
inside_token s (tokens.line_end e) r h = absurd (none s h)
  where
    none : (s : Spot) → leads_to s (tokens.line_end e) ≡ Some r → ⊥
    none begins h = let z : ⊥ = cc in z
    none (has_subject a) h = let z : ⊥ = cc in z
    none (has_predicate a b) h = let z : ⊥ = cc in z
    none (has_string a b c) h = let z : ⊥ = cc in z
    none (has_carets a b c) h = let z : ⊥ = cc in z
    none (has_object a b c) h = let z : ⊥ = cc in z
    none (has_graph a b c d) h = let z : ⊥ = cc in z
    none (has_dot q) h = let z : ⊥ = cc in z
    none (has_comment q) h = let z : ⊥ = cc in z

pub no_end_in : (s : Spot) (row : List LineToken) (rest : List ℕ) → IsTrue (is_row row rest) → IsTrue (goes s row) → IsTrue (list_all not_end (bytes_of row))
no_end_in s [] rest w g = refl
no_end_in s (t ∷ ts) rest w g =
    let (r, l, k) = goes_where s t ts g in
    list_all-append not_end (token_bytes t) (bytes_of ts)
    ∙ and_from (list_all not_end (token_bytes t)) (list_all not_end (bytes_of ts)) (token_no_end t (inside_token s t r l) (head_is_token t ts rest w)) (no_end_in r ts rest (tail_is_row t ts rest w) k)

-- a front of a row that goes goes
pub goes_front : (s : Spot) (xs ys : List LineToken) → IsTrue (goes s (xs ++ ys)) → IsTrue (goes s xs)
goes_front s [] ys h = refl
goes_front s (t ∷ xs) ys h = let (r, l, k) = goes_where s t (xs ++ ys) h in goes_on s r t xs l ∙ goes_front r xs ys k

pub line_goes : (line : Line) → IsTrue (goes begins (line_tokens line))
line_goes line = said_goes begins (line_tokens line) (statement_quads line.statement) (said_line line)

pub line_no_end : (line : Line) (rest : List ℕ) → IsTrue (is_row (line_tokens line) rest) → IsTrue (list_all not_end (bytes_of (line_tokens line)))
line_no_end line rest w = no_end_in begins (line_tokens line) rest w (line_goes line)

pub end_inside : (x : List ℕ) (e : ℕ) (y : List ℕ) → IsTrue (list_all not_end (x ++ e ∷ y)) → IsTrue (is_line_end e) → ⊥
end_inside x e y h l =
    let k = and_parts (list_all not_end x) (list_all not_end (e ∷ y)) (sym (list_all-append not_end x (e ∷ y)) ∙ h) in
    false≢true (sym (ap (λ z. not z) l) ∙ (and_parts (not_end e) (list_all not_end y) k.1).0)

-- two texts up to their first line ends
pub first_ends : (a b x y : List ℕ) (e f : ℕ) → IsTrue (list_all not_end a) → IsTrue (list_all not_end b) → IsTrue (is_line_end e) → IsTrue (is_line_end f) → a ++ e ∷ x ≡ b ++ f ∷ y → (a ≡ b) × (e ≡ f) × (x ≡ y)
first_ends a b x y e f ha hb he hf i = elim (fronts_of a b (e ∷ x) (f ∷ y) i) [
  | inl (z, j, k) ↦ go z j k
  | inr (d, z, j, k) ↦ absurd (end_inside b d z (subst (λ t. IsTrue (list_all not_end t)) j ha) (subst (λ t. IsTrue (is_line_end t)) (head_is f d y (z ++ e ∷ x) k) hf))
]
  where
    go : (z : List ℕ) → b ≡ a ++ z → e ∷ x ≡ z ++ f ∷ y → (a ≡ b) × (e ≡ f) × (x ≡ y)
    go [] j k = (sym (j ∙ append-nil a), head_is e f x y k, tail_is e f x y k)
    go (d ∷ z) j k = absurd (end_inside a d z (subst (λ t. IsTrue (list_all not_end t)) j hb) (subst (λ t. IsTrue (is_line_end t)) (head_is e d x (z ++ f ∷ y) k) he))

-- ---- a row that goes on to one that says something

a_name : LineToken
a_name = tokens.iri (itself 97 ∷ itself 58 ∷ [])

complete : Spot → List LineToken
complete begins = []
complete (has_subject s) = tokens.blank 32 ∷ a_name ∷ a_name ∷ tokens.dot ∷ []
complete (has_predicate s p) = a_name ∷ tokens.dot ∷ []
complete (has_string s p t) = tokens.dot ∷ []
complete (has_carets s p t) = a_name ∷ tokens.dot ∷ []
complete (has_object s p o) = tokens.blank 32 ∷ tokens.dot ∷ []
complete (has_graph s p o g) = tokens.blank 32 ∷ tokens.dot ∷ []
complete (has_dot q) = []
complete (has_comment q) = []

complete_row : (s : Spot) → IsTrue (is_row (complete s) [])
unfolding complete a_name encode
complete_row begins = refl
complete_row (has_subject s) = refl
complete_row (has_predicate s p) = refl
complete_row (has_string s p t) = refl
complete_row (has_carets s p t) = refl
complete_row (has_object s p o) = refl
complete_row (has_graph s p o g) = refl
complete_row (has_dot q) = refl
complete_row (has_comment q) = refl

complete_said : (s : Spot) → (quads : List Parts) × (said s (complete s) ≡ Some quads)
unfolding complete a_name
complete_said begins = (_, refl)
complete_said (has_subject s) = (_, refl)
complete_said (has_predicate s p) = (_, refl)
complete_said (has_string s p t) = (_, refl)
complete_said (has_carets s p t) = (_, refl)
complete_said (has_object s p o) = (_, refl)
complete_said (has_graph s p o g) = (_, refl)
complete_said (has_dot q) = (_, refl)
complete_said (has_comment q) = (_, refl)

some_same : (a b : Spot) → ◌≡◌ {A = Option Spot} (Some a) (Some b) → a ≡ b
some_same a b e = cc

label_ends : (s : Spot) (c : List ℕ) (r : Spot) → leads_to s (tokens.label c) ≡ Some r → IsTrue (ends_before (tokens.label c) (bytes_of (complete r) ++ []))
unfolding complete
label_ends begins c r h = subst (λ z. IsTrue (ends_before (tokens.label c) (bytes_of (complete z) ++ []))) (some_same _ r h) refl
label_ends (has_subject s) c r h = absurd (let z : ⊥ = cc in z)
label_ends (has_predicate s p) c r h = subst (λ z. IsTrue (ends_before (tokens.label c) (bytes_of (complete z) ++ []))) (some_same _ r h) refl
label_ends (has_string s p t) c r h = subst (λ z. IsTrue (ends_before (tokens.label c) (bytes_of (complete z) ++ []))) (some_same _ r h) refl
label_ends (has_carets s p t) c r h = absurd (let z : ⊥ = cc in z)
label_ends (has_object s p o) c r h = subst (λ z. IsTrue (ends_before (tokens.label c) (bytes_of (complete z) ++ []))) (some_same _ r h) refl
label_ends (has_graph s p o g) c r h = absurd (let z : ⊥ = cc in z)
label_ends (has_dot q) c r h = absurd (let z : ⊥ = cc in z)
label_ends (has_comment q) c r h = absurd (let z : ⊥ = cc in z)

tag_ends_there : (s : Spot) (t : List ℕ) (r : Spot) → leads_to s (tokens.tag t) ≡ Some r → IsTrue (ends_before (tokens.tag t) (bytes_of (complete r) ++ []))
unfolding complete
tag_ends_there begins t r h = absurd (let z : ⊥ = cc in z)
tag_ends_there (has_subject s) t r h = absurd (let z : ⊥ = cc in z)
tag_ends_there (has_predicate s p) t r h = absurd (let z : ⊥ = cc in z)
tag_ends_there (has_string s p x) t r h = subst (λ z. IsTrue (ends_before (tokens.tag t) (bytes_of (complete z) ++ []))) (some_same _ r h) (ap (λ b. not b) (other_ends t 32 [] refl))
tag_ends_there (has_carets s p x) t r h = absurd (let z : ⊥ = cc in z)
tag_ends_there (has_object s p o) t r h = absurd (let z : ⊥ = cc in z)
tag_ends_there (has_graph s p o g) t r h = absurd (let z : ⊥ = cc in z)
tag_ends_there (has_dot q) t r h = absurd (let z : ⊥ = cc in z)
tag_ends_there (has_comment q) t r h = absurd (let z : ⊥ = cc in z)

complete_ends : (s : Spot) (t : LineToken) (r : Spot) → leads_to s t ≡ Some r → IsTrue (ends_before t (bytes_of (complete r) ++ []))
complete_ends s (tokens.iri w) r h = refl
complete_ends s (tokens.label c) r h = label_ends s c r h
complete_ends s (tokens.string w) r h = refl
complete_ends s tokens.carets r h = refl
complete_ends s (tokens.tag t) r h = tag_ends_there s t r h
complete_ends s tokens.dot r h = refl
complete_ends s (tokens.comment c) r h = refl
complete_ends s (tokens.line_end e) r h = refl
complete_ends s (tokens.blank b) r h = refl

-- a row that may follow goes on to one that says something
pub record Completes (s : Spot) (row : List LineToken) : Type 0 where
  pub more : List LineToken
  pub quads : List Parts
  pub whole : IsTrue (is_row (row ++ more) [])
  pub says : said s (row ++ more) ≡ Some quads

pub completes : (s : Spot) (row : List LineToken) (rest : List ℕ) → IsTrue (is_row row rest) → IsTrue (goes s row) → Completes s row
completes s [] rest w g = let k = complete_said s in record { more = complete s; quads = k.0; whole = complete_row s; says = k.1 }
completes s (t ∷ []) rest w g =
    let (r, l, m) = goes_where s t [] g in
    let k = complete_said r in
    record { more = complete r; quads = k.0; whole = row_from t (complete r) [] (head_is_token t [] rest w) (complete_ends s t r l) (complete_row r); says = said_on s r t (complete r) l ∙ k.1 }
completes s (t ∷ u ∷ ts) rest w g =
    let (r, l, m) = goes_where s t (u ∷ ts) g in
    let k = completes r (u ∷ ts) rest (tail_is_row t (u ∷ ts) rest w) m in
    record {
      more = k.more;
      quads = k.quads;
      whole = row_from t ((u ∷ ts) ++ k.more) [] (head_is_token t (u ∷ ts) rest w) (subst (λ z. IsTrue (ends_before t z)) (spread u ts k.more) (ends_before_next t u ts rest (bytes_of k.more ++ []) (head_ends t (u ∷ ts) rest w))) k.whole;
      says = said_on s r t ((u ∷ ts) ++ k.more) l ∙ k.says;
    }
  where
    spread : (u : LineToken) (ts more : List LineToken) → bytes_of (u ∷ ts) ++ (bytes_of more ++ []) ≡ bytes_of ((u ∷ ts) ++ more) ++ []
    spread u ts more = sym (append_assoc (bytes_of (u ∷ ts)) (bytes_of more) []) ∙ ap (λ z. z ++ []) (sym (flat_map-append token_bytes (u ∷ ts) more))

-- ---- documents of lines that have ended, and one more

pub before : List EndedLine → Document → Document
before [] d = d
before (l ∷ ls) d = ended l.line l.end_byte (before ls d)

pub before_tokens : (ls : List EndedLine) (d : Document) → document_tokens (before ls d) ≡ ended_tokens ls ++ document_tokens d
unfolding before
before_tokens [] d = refl
before_tokens (l ∷ ls) d =
    ap (λ z. line_tokens l.line ++ (tokens.line_end l.end_byte ∷ z)) (before_tokens ls d) ∙ sym (append_assoc (line_tokens l.line) (tokens.line_end l.end_byte ∷ ended_tokens ls) (document_tokens d))

pub before_quads : (ls : List EndedLine) (d : Document) → document_quads (before ls d) ≡ ended_quads ls ++ document_quads d
unfolding before
before_quads [] d = refl
before_quads (l ∷ ls) d = ap (λ z. statement_quads l.line.statement ++ z) (before_quads ls d) ∙ sym (append_assoc (statement_quads l.line.statement) (ended_quads ls) (document_quads d))

-- lines that have ended are whole before anything
pub ended_row : (ls : List EndedLine) (x : List ℕ) → IsTrue (is_row (ended_tokens ls) []) → IsTrue (is_row (ended_tokens ls) x)
ended_row [] x h = refl
ended_row (l ∷ ls) x h =
    let e = tokens.line_end l.end_byte in
    let k = rows_part (line_tokens l.line) (e ∷ ended_tokens ls) [] h in
    rows_join (line_tokens l.line) (e ∷ ended_tokens ls) x (row_then (line_tokens l.line) l.end_byte (bytes_of (ended_tokens ls) ++ []) (bytes_of (ended_tokens ls) ++ x) k.0)
    (row_from e (ended_tokens ls) x (head_is_token e (ended_tokens ls) [] k.1) refl (ended_row ls x (tail_is_row e (ended_tokens ls) [] k.1)))

-- a row behind lines that have ended
pub joined_row : (ls : List EndedLine) (row : List LineToken) (x : List ℕ) → IsTrue (is_row (ended_tokens ls) []) → IsTrue (is_row row x) → IsTrue (is_row (ended_tokens ls ++ row) x)
joined_row ls row x h k = rows_join (ended_tokens ls) row x (ended_row ls (bytes_of row ++ x) h) k

pub joined_bytes : (ls : List EndedLine) (row : List LineToken) → bytes_of (ended_tokens ls ++ row) ≡ bytes_of (ended_tokens ls) ++ bytes_of row
joined_bytes ls row = flat_map-append token_bytes (ended_tokens ls) row

pub joined_document : (ls : List EndedLine) (row : List LineToken) (line : Line) → row ≡ line_tokens line → ended_tokens ls ++ row ≡ document_tokens (before ls (last line))
joined_document ls row line e = ap (λ z. ended_tokens ls ++ z) e ∙ sym (before_tokens ls (last line))

-- the quads of lines that have ended and of one that is the last
pub quads_of_last : (done x : List ℕ) (given q : List Parts) → HasEnded done given → Left begins x q → QuadsOf (done ++ x) (given ++ q)
quads_of_last done x given q h l =
    let k = line_of l.row q l.says in
    record {
      row = ended_tokens h.lines ++ l.row;
      document = before h.lines (last k.line);
      spelled = ap (λ z. z ++ x) h.spelled ∙ ap (λ z. bytes_of (ended_tokens h.lines) ++ z) l.text_is ∙ sym (joined_bytes h.lines l.row);
      of_grammar = record { whole = joined_row h.lines l.row [] h.whole l.whole; derived = joined_document h.lines l.row k.line k.row_is };
      quads_are = ap (λ z. z ++ q) h.quads_are ∙ ap (λ z. ended_quads h.lines ++ z) k.quads_are ∙ sym (before_quads h.lines (last k.line));
    }

-- with a line end more it has ended
pub ends_more : (done x : List ℕ) (e : ℕ) (given q : List Parts) → IsTrue (is_line_end e) → HasEnded done given → Left begins x q → HasEnded (done ++ (x ++ e ∷ [])) (given ++ q)
ends_more done x e given q le h l =
    let k = line_of l.row q l.says in
    let one : EndedLine = record { line = k.line; end_byte = e } in
    record {
      lines = h.lines ++ one ∷ [];
      spelled = ap (λ z. z ++ (x ++ e ∷ [])) h.spelled ∙ ap (λ z. bytes_of (ended_tokens h.lines) ++ (z ++ e ∷ [])) (l.text_is ∙ ap bytes_of k.row_is) ∙ ap (λ z. bytes_of (ended_tokens h.lines) ++ z) (sym (flat_map-append token_bytes (line_tokens k.line) (tokens.line_end e ∷ []))) ∙ sym (joined_bytes h.lines (line_tokens k.line ++ tokens.line_end e ∷ [])) ∙ ap bytes_of (sym (lines_more h.lines one));
      whole = subst (λ z. IsTrue (is_row z [])) (sym (lines_more h.lines one)) (joined_row h.lines (line_tokens k.line ++ tokens.line_end e ∷ []) [] h.whole (rows_join (line_tokens k.line) (tokens.line_end e ∷ []) [] (row_at_end (line_tokens k.line) e [] le (subst (λ z. IsTrue (is_row z [])) k.row_is l.whole)) (row_from (tokens.line_end e) [] [] le refl refl)));
      quads_are = ap (λ z. z ++ q) h.quads_are ∙ ap (λ z. ended_quads h.lines ++ z) k.quads_are ∙ sym (quads_more h.lines one);
    }
  where
    lines_more : (ls : List EndedLine) (one : EndedLine) → ended_tokens (ls ++ one ∷ []) ≡ ended_tokens ls ++ (line_tokens one.line ++ tokens.line_end one.end_byte ∷ [])
    lines_more [] one = refl
    lines_more (l ∷ ls) one = ap (λ z. line_tokens l.line ++ (tokens.line_end l.end_byte ∷ z)) (lines_more ls one) ∙ sym (append_assoc (line_tokens l.line) (tokens.line_end l.end_byte ∷ ended_tokens ls) (line_tokens one.line ++ tokens.line_end one.end_byte ∷ []))

    quads_more : (ls : List EndedLine) (one : EndedLine) → ended_quads (ls ++ one ∷ []) ≡ ended_quads ls ++ statement_quads one.line.statement
    quads_more [] one = append-nil (statement_quads one.line.statement)
    quads_more (l ∷ ls) one = ap (λ z. statement_quads l.line.statement ++ z) (quads_more ls one) ∙ sym (append_assoc (statement_quads l.line.statement) (ended_quads ls) (statement_quads one.line.statement))
