-- A document that names anything has a dot.
use Rattle.std.proofs.Common.{ℕ, ◌⊎◌, inl, inr, Bool, true, false, ◌||◌, List, [], ◌∷◌, ◌++◌, Option, Some, None, IsTrue, refl}
use Rattle.std.proofs.lemmas.Bool.{false≢true, or_left, or_right, or_cases}
use Rattle.jl_model.specs.LineTokens.{LineToken, iri, dot, line_end}
use Rattle.jl_model.specs.LineGrammar.{Statement, Line, Document, last, ended, blank_tokens, name_token, object_tokens, graph_tokens, statement_tokens, comment_tokens, line_tokens, document_tokens}

abbrev pub is_iri : LineToken → Bool
is_iri (iri characters) = true
is_iri t = false

abbrev pub is_dot : LineToken → Bool
is_dot dot = true
is_dot t = false

-- a token of the row passes the test
abbrev pub has : (LineToken → Bool) → List LineToken → Bool
has test [] = false
has test (t ∷ ts) = test t || has test ts

has_left : (test : LineToken → Bool) (ts us : List LineToken) → IsTrue (has test ts) → IsTrue (has test (ts ++ us))
has_left test [] us h = absurd (false≢true h)
has_left test (t ∷ ts) us h = elim (or_cases (test t) (has test ts) h) [ inl k ↦ or_left (test t) (has test (ts ++ us)) k | inr k ↦ or_right (test t) (has test (ts ++ us)) (has_left test ts us k) ]

has_right : (test : LineToken → Bool) (ts us : List LineToken) → IsTrue (has test us) → IsTrue (has test (ts ++ us))
has_right test [] us h = h
has_right test (t ∷ ts) us h = or_right (test t) (has test (ts ++ us)) (has_right test ts us h)

has_either : (test : LineToken → Bool) (ts us : List LineToken) → IsTrue (has test (ts ++ us)) → IsTrue (has test ts) ⊎ IsTrue (has test us)
has_either test [] us h = inr h
has_either test (t ∷ ts) us h = elim (or_cases (test t) (has test (ts ++ us)) h) [
  | inl k ↦ inl (or_left (test t) (has test ts) k)
  | inr k ↦ elim (has_either test ts us k) [ inl m ↦ inl (or_right (test t) (has test ts) m) | inr m ↦ inr m ]
]

no_iri : (bs : List ℕ) → IsTrue (has is_iri (blank_tokens bs)) → ⊥
no_iri [] h = false≢true h
no_iri (b ∷ bs) h = no_iri bs h

statement_dot : (s : Statement) → IsTrue (has is_dot (statement_tokens (Some s)))
statement_dot s = has_right is_dot ((name_token s.subject ∷ blank_tokens s.after_subject) ++ (iri s.predicate ∷ blank_tokens s.after_predicate) ++ object_tokens s.object ++ blank_tokens s.after_object ++ graph_tokens s.graph) (dot ∷ blank_tokens s.after_dot) refl

line_dot : (line : Line) → IsTrue (has is_iri (line_tokens line)) → IsTrue (has is_dot (line_tokens line))
line_dot line h = elim (has_either is_iri (blank_tokens line.blanks ++ statement_tokens line.statement) (comment_tokens line.comment) h) [
  | inl k ↦ has_left is_dot (blank_tokens line.blanks ++ statement_tokens line.statement) (comment_tokens line.comment) (elim (has_either is_iri (blank_tokens line.blanks) (statement_tokens line.statement) k) [
    | inl m ↦ absurd (no_iri line.blanks m)
    | inr m ↦ has_right is_dot (blank_tokens line.blanks) (statement_tokens line.statement) (of line.statement m)
  ])
  | inr k ↦ absurd (none line.comment k)
]
  where
    of : (statement : Option Statement) → IsTrue (has is_iri (statement_tokens statement)) → IsTrue (has is_dot (statement_tokens statement))
    of None m = absurd (false≢true m)
    of (Some s) m = statement_dot s

    none : (said : Option (List ℕ)) → IsTrue (has is_iri (comment_tokens said)) → ⊥
    none None k = false≢true k
    none (Some c) k = false≢true k

pub document_dot : (d : Document) → IsTrue (has is_iri (document_tokens d)) → IsTrue (has is_dot (document_tokens d))
document_dot (last line) h = line_dot line h
document_dot (ended line b rest) h = elim (has_either is_iri (line_tokens line) (line_end b ∷ document_tokens rest) h) [
  | inl k ↦ has_left is_dot (line_tokens line) (line_end b ∷ document_tokens rest) (line_dot line k)
  | inr k ↦ has_right is_dot (line_tokens line) (line_end b ∷ document_tokens rest) (document_dot rest k)
]
