-- The grammar of documents of quads, and the quads that a document has (RDF 1.1 N-Quads, sections 3 and 4).
-- A value of these types is a derivation; `document_tokens` gives its tokens, with the white space between them.
--   nquadsDoc  ::= statement? (EOL statement)* EOL?
--   statement  ::= subject predicate object graphLabel? '.'
--   subject    ::= IRIREF | BLANK_NODE_LABEL
--   predicate  ::= IRIREF
--   object     ::= IRIREF | BLANK_NODE_LABEL | literal
--   graphLabel ::= IRIREF | BLANK_NODE_LABEL
--   literal    ::= STRING_LITERAL_QUOTE ('^^' IRIREF | LANGTAG)?
-- A comment goes from `#`, outside IRIs and strings, to the end of its line, and counts as white space; so a line may
-- have no statement. Between the tokens of a literal no white space stands.
use Rattle.std.specs.Prelude.{◌≡◌, ℕ, List, [], ◌∷◌, ◌++◌, map, Option, Some, None, IsTrue}
use lib.Utf8.{encodes}
use Rattle.jl_model.specs.Parts.{Parts, parts_of, rdf_lang_string, xsd_string}
use Rattle.jl_model.specs.Ren.{ren}
use Rattle.jl_model.specs.LineTokens.{Written, meaning, LineToken, bytes_of, is_row}
use Rattle.jl_model.specs.LineTokens as tokens
use Rattle.jl_model.specs.declared.terms.Lit.{Lit}
use Rattle.jl_model.specs.declared.terms.Term.{Term}
use Rattle.jl_model.specs.declared.terms.Term.TheVariants.{Iri, Blank, Literal}

-- subject and graphLabel
pub data Name : Type 0 where
  iri : (characters : List Written) → Name
  label : (characters : List ℕ) → Name

-- what stands behind a literal's string
pub data Suffix : Type 0 where
  plain : Suffix
  typed : (datatype : List Written) → Suffix
  tagged : (language : List ℕ) → Suffix

-- object
pub data Object : Type 0 where
  named : (name : Name) → Object
  literal : (characters : List Written) → (suffix : Suffix) → Object

-- a graphLabel, and the white space behind it
pub record Graph : Type 0 where
  pub name : Name
  pub then_blanks : List ℕ

-- statement, with the white space behind each of its parts
pub record Statement : Type 0 where
  pub subject : Name
  pub after_subject : List ℕ
  pub predicate : List Written
  pub after_predicate : List ℕ
  pub object : Object
  pub after_object : List ℕ
  pub graph : Option Graph
  pub after_dot : List ℕ

-- a line: white space, perhaps a statement, perhaps a comment
pub record Line : Type 0 where
  pub blanks : List ℕ
  pub statement : Option Statement
  pub comment : Option (List ℕ)

-- nquadsDoc: lines, each with the byte that ends it, and the last one, which nothing ends
pub data Document : Type 0 where
  last : (line : Line) → Document
  ended : (line : Line) → (end_byte : ℕ) → (rest : Document) → Document

-- the tokens of white space
abbrev pub blank_tokens : List ℕ → List LineToken
blank_tokens = map tokens.blank

-- the tokens of each production
abbrev pub name_token : Name → LineToken
name_token (iri characters) = tokens.iri characters
name_token (label characters) = tokens.label characters

abbrev pub suffix_tokens : Suffix → List LineToken
suffix_tokens plain = []
suffix_tokens (typed datatype) = tokens.carets ∷ tokens.iri datatype ∷ []
suffix_tokens (tagged language) = tokens.tag language ∷ []

abbrev pub object_tokens : Object → List LineToken
object_tokens (named name) = name_token name ∷ []
object_tokens (literal characters suffix) = tokens.string characters ∷ suffix_tokens suffix

abbrev pub graph_tokens : Option Graph → List LineToken
graph_tokens None = []
graph_tokens (Some graph) = name_token graph.name ∷ blank_tokens graph.then_blanks

abbrev pub statement_tokens : Option Statement → List LineToken
statement_tokens None = []
statement_tokens (Some s) =
    (name_token s.subject ∷ blank_tokens s.after_subject)
    ++ (tokens.iri s.predicate ∷ blank_tokens s.after_predicate)
    ++ object_tokens s.object ++ blank_tokens s.after_object
    ++ graph_tokens s.graph
    ++ (tokens.dot ∷ blank_tokens s.after_dot)

abbrev pub comment_tokens : Option (List ℕ) → List LineToken
comment_tokens None = []
comment_tokens (Some characters) = tokens.comment characters ∷ []

abbrev pub line_tokens : Line → List LineToken
line_tokens line = blank_tokens line.blanks ++ statement_tokens line.statement ++ comment_tokens line.comment

abbrev pub document_tokens : Document → List LineToken
document_tokens (last line) = line_tokens line
document_tokens (ended line end_byte rest) = line_tokens line ++ tokens.line_end end_byte ∷ document_tokens rest

-- the term of a name; labels are renamed
abbrev pub name_term : Name → Term
name_term (iri characters) = Iri (meaning characters)
name_term (label characters) = Blank (ren (encodes characters))

-- the literal of a string and what stands behind it
abbrev pub literal_of : List ℕ → Suffix → Lit
literal_of text plain = record { text = text; datatype = xsd_string; language = None }
literal_of text (typed datatype) = record { text = text; datatype = meaning datatype; language = None }
literal_of text (tagged language) = record { text = text; datatype = rdf_lang_string; language = Some language }

abbrev pub object_term : Object → Term
object_term (named name) = name_term name
object_term (literal characters suffix) = Literal (literal_of (meaning characters) suffix)

abbrev pub graph_term : Option Graph → Option Term
graph_term None = None
graph_term (Some graph) = Some (name_term graph.name)

-- the quad of a statement
abbrev pub statement_quads : Option Statement → List Parts
statement_quads None = []
statement_quads (Some s) = parts_of (name_term s.subject) (meaning s.predicate) (object_term s.object) (graph_term s.graph) ∷ []

-- the quads of a document, in the order of its lines
abbrev pub document_quads : Document → List Parts
document_quads (last line) = statement_quads line.statement
document_quads (ended line end_byte rest) = statement_quads line.statement ++ document_quads rest

-- these tokens, whole and apart, are those of a document
pub record IsDocument (row : List LineToken) (document : Document) : Type 0 where
  pub whole : IsTrue (is_row row [])
  pub derived : row ≡ document_tokens document

-- the bytes are of the grammar, and these are their quads, in order
pub record QuadsOf (bytes : List ℕ) (quads : List Parts) : Type 0 where
  pub row : List LineToken
  pub document : Document
  pub spelled : bytes ≡ bytes_of row
  pub of_grammar : IsDocument row document
  pub quads_are : quads ≡ document_quads document

-- some text of the grammar begins so
abbrev pub BeginsLines : List ℕ → Type 0
BeginsLines bytes = (more : List ℕ) × (quads : List Parts) × QuadsOf (bytes ++ more) quads
