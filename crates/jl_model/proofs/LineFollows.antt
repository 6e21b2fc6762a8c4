-- Which tokens may follow which in the lines of a document.
use Rattle.std.proofs.Common.{◌≡◌, ℕ, Bool, true, false, List, [], ◌∷◌, ◌++◌, Option, Some, None, IsTrue, append-nil, append_assoc, refl, sym, ap, ◌∙◌, subst}
use Rattle.std.proofs.lemmas.Bool.{false≢true}
use Rattle.jl_model.specs.LineTokens.{LineToken, iri, label, string, carets, tag, dot, comment, line_end, blank}
use Rattle.jl_model.specs.LineGrammar.{Name, named, literal, Object, Suffix, plain, typed, tagged, Graph, Statement, Line, Document, last, ended, blank_tokens, name_token, suffix_tokens, object_tokens, graph_tokens, statement_tokens, comment_tokens, line_tokens, document_tokens}
use Rattle.jl_model.specs.LineGrammar as grammar

abbrev mutual
  -- at the beginning of a line
  pub at_start : List LineToken → Bool
  at_start [] = true
  at_start (blank b ∷ ts) = at_start ts
  at_start (iri w ∷ ts) = after_subject ts
  at_start (label c ∷ ts) = after_subject ts
  at_start (comment c ∷ ts) = after_comment ts
  at_start (line_end b ∷ ts) = at_start ts
  at_start (t ∷ ts) = false

  pub after_subject : List LineToken → Bool
  after_subject [] = true
  after_subject (blank b ∷ ts) = after_subject ts
  after_subject (iri w ∷ ts) = after_predicate ts
  after_subject (t ∷ ts) = false

  pub after_predicate : List LineToken → Bool
  after_predicate [] = true
  after_predicate (blank b ∷ ts) = after_predicate ts
  after_predicate (iri w ∷ ts) = after_object ts
  after_predicate (label c ∷ ts) = after_object ts
  after_predicate (string w ∷ ts) = after_string ts
  after_predicate (t ∷ ts) = false

  pub after_string : List LineToken → Bool
  after_string [] = true
  after_string (carets ∷ ts) = after_carets ts
  after_string (tag text ∷ ts) = after_object ts
  after_string (blank b ∷ ts) = after_object ts
  after_string (iri w ∷ ts) = after_graph ts
  after_string (label c ∷ ts) = after_graph ts
  after_string (dot ∷ ts) = after_dot ts
  after_string (t ∷ ts) = false

  pub after_carets : List LineToken → Bool
  after_carets [] = true
  after_carets (iri w ∷ ts) = after_object ts
  after_carets (t ∷ ts) = false

  pub after_object : List LineToken → Bool
  after_object [] = true
  after_object (blank b ∷ ts) = after_object ts
  after_object (iri w ∷ ts) = after_graph ts
  after_object (label c ∷ ts) = after_graph ts
  after_object (dot ∷ ts) = after_dot ts
  after_object (t ∷ ts) = false

  pub after_graph : List LineToken → Bool
  after_graph [] = true
  after_graph (blank b ∷ ts) = after_graph ts
  after_graph (dot ∷ ts) = after_dot ts
  after_graph (t ∷ ts) = false

  pub after_dot : List LineToken → Bool
  after_dot [] = true
  after_dot (blank b ∷ ts) = after_dot ts
  after_dot (comment c ∷ ts) = after_comment ts
  after_dot (line_end b ∷ ts) = at_start ts
  after_dot (t ∷ ts) = false

  pub after_comment : List LineToken → Bool
  after_comment [] = true
  after_comment (line_end b ∷ ts) = at_start ts
  after_comment (t ∷ ts) = false

-- white space leads nowhere else
blanks_stay : (state : List LineToken → Bool) → ((b : ℕ) (ts : List LineToken) → state (blank b ∷ ts) ≡ state ts) → (bs : List ℕ) (ts : List LineToken) → state (blank_tokens bs ++ ts) ≡ state ts
blanks_stay state h [] ts = refl
blanks_stay state h (b ∷ bs) ts = h b (blank_tokens bs ++ ts) ∙ blanks_stay state h bs ts

-- an end, or a line end and what stands behind it
abbrev EndsLine : List LineToken → Type 0
EndsLine [] = Unit {0}
EndsLine (line_end b ∷ ts) = IsTrue (at_start ts)
EndsLine (t ∷ ts) = ⊥

said_well : (said : Option (List ℕ)) (ts : List LineToken) → EndsLine ts → IsTrue (after_dot (comment_tokens said ++ ts))
said_well None [] h = refl
said_well None (line_end b ∷ ts) h = h
said_well None (_ ∷ ts) h = absurd h
said_well (Some c) [] h = refl
said_well (Some c) (line_end b ∷ ts) h = h
said_well (Some c) (_ ∷ ts) h = absurd h

empty_well : (said : Option (List ℕ)) (ts : List LineToken) → EndsLine ts → IsTrue (at_start (comment_tokens said ++ ts))
empty_well None [] h = refl
empty_well None (line_end b ∷ ts) h = h
empty_well None (_ ∷ ts) h = absurd h
empty_well (Some c) [] h = refl
empty_well (Some c) (line_end b ∷ ts) h = h
empty_well (Some c) (_ ∷ ts) h = absurd h

graph_well : (graph : Option Graph) (ts : List LineToken) → IsTrue (after_dot ts) → IsTrue (after_object (graph_tokens graph ++ dot ∷ ts))
graph_well None ts h = h
graph_well (Some g) ts h = by g.name
  where
    by : (name : Name) → IsTrue (after_object (name_token name ∷ blank_tokens g.then_blanks ++ dot ∷ ts))
    by (grammar.iri w) = blanks_stay after_graph (λ b us. refl) g.then_blanks (dot ∷ ts) ∙ h
    by (grammar.label c) = blanks_stay after_graph (λ b us. refl) g.then_blanks (dot ∷ ts) ∙ h

string_well : (ts : List LineToken) → IsTrue (after_object ts) → IsTrue (after_string ts)
string_well [] h = refl
string_well (blank b ∷ ts) h = h
string_well (iri w ∷ ts) h = h
string_well (label c ∷ ts) h = h
string_well (dot ∷ ts) h = h
string_well (string w ∷ ts) h = h
string_well (carets ∷ ts) h = absurd (false≢true h)
string_well (tag text ∷ ts) h = absurd (false≢true h)
string_well (comment c ∷ ts) h = h
string_well (line_end b ∷ ts) h = h

object_well : (object : Object) (ts : List LineToken) → IsTrue (after_object ts) → IsTrue (after_predicate (object_tokens object ++ ts))
object_well (named (grammar.iri w)) ts h = h
object_well (named (grammar.label c)) ts h = h
object_well (literal w plain) ts h = string_well ts h
object_well (literal w (typed d)) ts h = h
object_well (literal w (tagged t)) ts h = h

subject_well : (name : Name) (ts : List LineToken) → IsTrue (after_subject ts) → IsTrue (at_start (name_token name ∷ ts))
subject_well (grammar.iri w) ts h = h
subject_well (grammar.label c) ts h = h

statement_well : (s : Statement) (said : Option (List ℕ)) (ts : List LineToken) → EndsLine ts → IsTrue (at_start ((statement_tokens (Some s) ++ comment_tokens said) ++ ts))
statement_well s said ts h = subst (λ x. IsTrue (at_start x)) (sym grouped) (subject_well s.subject (b1 ++ (iri s.predicate ∷ (b2 ++ behind_predicate))) (blanks_stay after_subject (λ b us. refl) s.after_subject (iri s.predicate ∷ (b2 ++ behind_predicate)) ∙ (blanks_stay after_predicate (λ b us. refl) s.after_predicate behind_predicate ∙ predicate_well)))
  where
    b1 : List LineToken
    b1 = blank_tokens s.after_subject

    b2 : List LineToken
    b2 = blank_tokens s.after_predicate

    o : List LineToken
    o = object_tokens s.object

    b3 : List LineToken
    b3 = blank_tokens s.after_object

    g : List LineToken
    g = graph_tokens s.graph

    b4 : List LineToken
    b4 = blank_tokens s.after_dot

    c : List LineToken
    c = comment_tokens said

    behind_predicate : List LineToken
    behind_predicate = o ++ (b3 ++ (g ++ (dot ∷ (b4 ++ (c ++ ts)))))

    dot_well : IsTrue (after_dot (b4 ++ (c ++ ts)))
    dot_well = blanks_stay after_dot (λ b us. refl) s.after_dot (c ++ ts) ∙ said_well said ts h

    predicate_well : IsTrue (after_predicate behind_predicate)
    predicate_well = object_well s.object (b3 ++ (g ++ (dot ∷ (b4 ++ (c ++ ts))))) (blanks_stay after_object (λ b us. refl) s.after_object (g ++ (dot ∷ (b4 ++ (c ++ ts)))) ∙ graph_well s.graph (b4 ++ (c ++ ts)) dot_well)

    a : List LineToken
    a = name_token s.subject ∷ b1

    p : List LineToken
    p = iri s.predicate ∷ b2

    d : List LineToken
    d = dot ∷ b4

    grouped : (statement_tokens (Some s) ++ c) ++ ts ≡ a ++ (p ++ (o ++ (b3 ++ (g ++ (d ++ (c ++ ts))))))
    grouped =
        append_assoc (((((a ++ p) ++ o) ++ b3) ++ g) ++ d) c ts
        ∙ append_assoc ((((a ++ p) ++ o) ++ b3) ++ g) d (c ++ ts)
        ∙ append_assoc (((a ++ p) ++ o) ++ b3) g (d ++ (c ++ ts))
        ∙ append_assoc ((a ++ p) ++ o) b3 (g ++ (d ++ (c ++ ts)))
        ∙ append_assoc (a ++ p) o (b3 ++ (g ++ (d ++ (c ++ ts))))
        ∙ append_assoc a p (o ++ (b3 ++ (g ++ (d ++ (c ++ ts)))))

line_well : (line : Line) (ts : List LineToken) → EndsLine ts → IsTrue (at_start (line_tokens line ++ ts))
line_well line ts h = subst (λ x. IsTrue (at_start x)) (sym grouped) (blanks_stay at_start (λ b us. refl) line.blanks ((statement_tokens line.statement ++ comment_tokens line.comment) ++ ts) ∙ go line.statement)
  where
    go : (statement : Option Statement) → IsTrue (at_start ((statement_tokens statement ++ comment_tokens line.comment) ++ ts))
    go None = empty_well line.comment ts h
    go (Some s) = statement_well s line.comment ts h

    grouped : line_tokens line ++ ts ≡ blank_tokens line.blanks ++ ((statement_tokens line.statement ++ comment_tokens line.comment) ++ ts)
    grouped =
        ap (λ x. x ++ ts) (append_assoc (blank_tokens line.blanks) (statement_tokens line.statement) (comment_tokens line.comment))
        ∙ append_assoc (blank_tokens line.blanks) (statement_tokens line.statement ++ comment_tokens line.comment) ts

pub document_well : (d : Document) → IsTrue (at_start (document_tokens d))
document_well (last line) = subst (λ x. IsTrue (at_start x)) (append-nil (line_tokens line)) (line_well line [] tt)
document_well (ended line end_byte rest) = line_well line (line_end end_byte ∷ document_tokens rest) (document_well rest)
