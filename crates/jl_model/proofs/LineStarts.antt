-- How lines of quads begin: no byte but some begins one.
use Rattle.std.proofs.Common.{append-nil, ◌≡◌, ℕ, ◌≤◌, Bool, true, false, ◌&&◌, ◌||◌, ◌==◌, inl, List, [], ◌∷◌, ◌++◌, length, Option, Some, None, IsTrue, IsFalse, append_assoc, refl, sym, ◌∙◌, subst, arith}
use Rattle.std.proofs.lemmas.Bool.{and_parts, false≢true, or_left, or_right}
use Rattle.jl_model.specs.Parts.{Parts}
use Rattle.jl_model.specs.LineTokens.{LineToken, iri, label, string, carets, tag, dot, comment, line_end, blank, token_bytes, is_token, ends_before, is_row, bytes_of, is_line_end}
use Rattle.jl_model.specs.LineGrammar.{Name, Statement, Line, Document, last, ended, blank_tokens, name_token, line_tokens, statement_tokens, comment_tokens, document_tokens, QuadsOf, BeginsLines}
use Rattle.jl_model.specs.LineGrammar as grammar
use Rattle.jl_model.specs.LineFaults.{GoesOn, BadLine}

-- the bytes with which a text may begin: white space, `<`, `_`, `#`, a line end
abbrev pub may_begin : ℕ → Bool
may_begin c = (c == 32 || c == 9) || (c == 60 || (c == 95 || (c == 35 || is_line_end c)))

-- the tokens with which a document may begin
abbrev is_first : LineToken → Bool
is_first (string characters) = false
is_first carets = false
is_first (tag text) = false
is_first dot = false
is_first t = true

abbrev BeginWell : List LineToken → Type 0
BeginWell [] = Unit {0}
BeginWell (t ∷ ts) = IsTrue (is_first t)

name_first : (name : Name) → IsTrue (is_first (name_token name))
name_first (grammar.iri characters) = refl
name_first (grammar.label characters) = refl

line_first : (blanks : List ℕ) (statement : Option Statement) (said : Option (List ℕ)) (after : List LineToken) → BeginWell after
    → BeginWell ((blank_tokens blanks ++ statement_tokens statement ++ comment_tokens said) ++ after)
line_first [] None None after h = h
line_first [] None (Some characters) after h = refl
line_first [] (Some s) said after h = name_first s.subject
line_first (b ∷ blanks) statement said after h = refl

document_first : (d : Document) → BeginWell (document_tokens d)
document_first (last line) = subst BeginWell (append-nil (line_tokens line)) (line_first line.blanks line.statement line.comment [] tt)
document_first (ended line end_byte rest) = line_first line.blanks line.statement line.comment (line_end end_byte ∷ document_tokens rest) refl

-- the first byte of such a token
first_byte : (t : LineToken) (c : ℕ) (r s : List ℕ) → IsTrue (is_token t) → IsTrue (is_first t) → c ∷ r ≡ token_bytes t ++ s → IsTrue (may_begin c)
first_byte (iri characters) c r s h f e = let k : c ≡ 60 = cc in subst (λ x. IsTrue (may_begin x)) (sym k) refl
first_byte (label characters) c r s h f e = let k : c ≡ 95 = cc in subst (λ x. IsTrue (may_begin x)) (sym k) refl
first_byte (comment characters) c r s h f e = let k : c ≡ 35 = cc in subst (λ x. IsTrue (may_begin x)) (sym k) refl
first_byte (line_end b) c r s h f e = let k : c ≡ b = cc in subst (λ x. IsTrue (may_begin x)) (sym k) (or_right (b == 32 || b == 9) (b == 60 || (b == 95 || (b == 35 || is_line_end b))) (or_right (b == 60) (b == 95 || (b == 35 || is_line_end b)) (or_right (b == 95) (b == 35 || is_line_end b) (or_right (b == 35) (is_line_end b) h))))
first_byte (blank b) c r s h f e = let k : c ≡ b = cc in subst (λ x. IsTrue (may_begin x)) (sym k) (or_left (b == 32 || b == 9) (b == 60 || (b == 95 || (b == 35 || is_line_end b))) h)
first_byte _ c r s h f e = absurd (false≢true f)

-- a row of tokens with which a document begins has no other first byte
row_first : (t : LineToken) (ts more : List LineToken) (d : Document) (c : ℕ) (r rest : List ℕ) → IsTrue (is_row (t ∷ ts) rest) → (t ∷ ts) ++ more ≡ document_tokens d → c ∷ r ≡ bytes_of (t ∷ ts) ++ rest → IsTrue (may_begin c)
row_first t ts more d c r rest w e b =
    let f : IsTrue (is_first t) = subst BeginWell (sym e) (document_first d) in
    let h : IsTrue (is_token t) = (and_parts (is_token t) (ends_before t (bytes_of ts ++ rest) && is_row ts rest) w).0 in
    first_byte t c r (bytes_of ts ++ rest) h f (b ∙ append_assoc (token_bytes t) (bytes_of ts) rest)

-- nothing begins with another byte
no_start : (c : ℕ) (r : List ℕ) (quads : List Parts) → IsFalse (may_begin c) → QuadsOf (c ∷ r) quads → ⊥
no_start c r quads n q = go q.row q.spelled q.of_grammar.whole q.of_grammar.derived
  where
    go : (row : List LineToken) → c ∷ r ≡ bytes_of row → IsTrue (is_row row []) → row ≡ document_tokens q.document → ⊥
    go [] s w e = cc
    go (t ∷ ts) s w e = false≢true (sym n ∙ row_first t ts [] q.document c r [] w (append-nil (t ∷ ts) ∙ e) (s ∙ sym (append-nil (bytes_of (t ∷ ts)))))

no_row : (c : ℕ) (row : List LineToken) → IsFalse (may_begin c) → GoesOn (c ∷ []) row → length (bytes_of row) ≤ 0
no_row c [] n g = omega arith
no_row c (t ∷ ts) n g = absurd (false≢true (sym n ∙ row_first t ts g.more g.document c [] g.rest g.whole g.begins.derived g.text_is))

no_line : Line
no_line = record { blanks = []; statement = None; comment = None }

nothing : QuadsOf [] []
unfolding no_line
nothing = record { row = []; document = last no_line; spelled = refl; of_grammar = record { whole = refl; derived = refl }; quads_are = refl }

-- A text with another first byte has its bad line there.
pub bad_start : (c : ℕ) (r : List ℕ) → IsFalse (may_begin c) → BadLine (c ∷ r) 0
unfolding no_line
bad_start c r n =
    inl (
      [],
      c,
      r,
      refl,
      record {
        begins = ([], [], nothing);
        breaks = λ b. no_start c b.0 b.1 n b.2;
        stops = record {
          row = [];
          goes_on = record { rest = c ∷ []; text_is = refl; whole = refl; more = []; document = last no_line; begins = record { whole = refl; derived = refl } };
          place_is = refl;
          longest = λ row g. no_row c row n g;
        };
      },
    )
