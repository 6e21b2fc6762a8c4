-- Where in a line tokens stand, and what the line says in the end. Only private clauses cite this.
use Rattle.std.specs.Prelude.{◌≡◌, ℕ, ◌≤◌, Bool, true, false, not, List, [], ◌∷◌, ◌++◌, length, Option, Some, None, IsTrue}
use lib.Utf8.{encodes}
use Rattle.jl_model.specs.Parts.{Parts, parts_of, rdf_lang_string, xsd_string}
use Rattle.jl_model.specs.Ren.{ren}
use Rattle.jl_model.specs.LineTokens.{meaning, LineToken, bytes_of, is_row, is_line_end}
use Rattle.jl_model.specs.LineTokens as tokens
use Rattle.jl_model.specs.declared.terms.Term.{Term}
use Rattle.jl_model.specs.declared.terms.Term.TheVariants.{Iri, Blank, Literal}

-- what has been read of a line's statement: nothing, its subject, and so on up to its dot; or a comment has
pub data Spot : Type 0 where
  begins : Spot
  has_subject : (subject : Term) → Spot
  has_predicate : (subject : Term) → (predicate : List ℕ) → Spot
  has_string : (subject : Term) → (predicate text : List ℕ) → Spot
  has_carets : (subject : Term) → (predicate text : List ℕ) → Spot
  has_object : (subject : Term) → (predicate : List ℕ) → (object : Term) → Spot
  has_graph : (subject : Term) → (predicate : List ℕ) → (object graph : Term) → Spot
  has_dot : (quad : Parts) → Spot
  has_comment : (quads : List Parts) → Spot

abbrev pub literal_of : List ℕ → List ℕ → Option (List ℕ) → Term
literal_of text datatype language = Literal (record { text = text; datatype = datatype; language = language })

-- a byte that ends no line
abbrev pub not_end : ℕ → Bool
not_end c = not (is_line_end c)

-- where a token leads
abbrev pub leads_to : Spot → LineToken → Option Spot
leads_to begins (tokens.blank b) = Some begins
leads_to begins (tokens.iri w) = Some (has_subject (Iri (meaning w)))
leads_to begins (tokens.label c) = Some (has_subject (Blank (ren (encodes c))))
leads_to begins (tokens.comment c) = Some (has_comment [])
leads_to (has_subject s) (tokens.blank b) = Some (has_subject s)
leads_to (has_subject s) (tokens.iri w) = Some (has_predicate s (meaning w))
leads_to (has_predicate s p) (tokens.blank b) = Some (has_predicate s p)
leads_to (has_predicate s p) (tokens.iri w) = Some (has_object s p (Iri (meaning w)))
leads_to (has_predicate s p) (tokens.label c) = Some (has_object s p (Blank (ren (encodes c))))
leads_to (has_predicate s p) (tokens.string w) = Some (has_string s p (meaning w))
leads_to (has_string s p t) tokens.carets = Some (has_carets s p t)
leads_to (has_string s p t) (tokens.tag l) = Some (has_object s p (literal_of t rdf_lang_string (Some l)))
leads_to (has_string s p t) (tokens.blank b) = Some (has_object s p (literal_of t xsd_string None))
leads_to (has_string s p t) (tokens.iri w) = Some (has_graph s p (literal_of t xsd_string None) (Iri (meaning w)))
leads_to (has_string s p t) (tokens.label c) = Some (has_graph s p (literal_of t xsd_string None) (Blank (ren (encodes c))))
leads_to (has_string s p t) tokens.dot = Some (has_dot (parts_of s p (literal_of t xsd_string None) None))
leads_to (has_carets s p t) (tokens.iri w) = Some (has_object s p (literal_of t (meaning w) None))
leads_to (has_object s p o) (tokens.blank b) = Some (has_object s p o)
leads_to (has_object s p o) (tokens.iri w) = Some (has_graph s p o (Iri (meaning w)))
leads_to (has_object s p o) (tokens.label c) = Some (has_graph s p o (Blank (ren (encodes c))))
leads_to (has_object s p o) tokens.dot = Some (has_dot (parts_of s p o None))
leads_to (has_graph s p o g) (tokens.blank b) = Some (has_graph s p o g)
leads_to (has_graph s p o g) tokens.dot = Some (has_dot (parts_of s p o (Some g)))
leads_to (has_dot q) (tokens.blank b) = Some (has_dot q)
leads_to (has_dot q) (tokens.comment c) = Some (has_comment (q ∷ []))
leads_to s t = None

-- what the line says that ends here, where it may end
abbrev pub says_at : Spot → Option (List Parts)
says_at begins = Some []
says_at (has_dot q) = Some (q ∷ [])
says_at (has_comment quads) = Some quads
says_at s = None

-- these tokens may follow, and further ones may too
abbrev pub goes : Spot → List LineToken → Bool
goes s [] = true
goes s (t ∷ ts) = elim (leads_to s t) [ None ↦ false | Some r ↦ goes r ts ]

-- what the line says that ends with these tokens
abbrev pub said : Spot → List LineToken → Option (List Parts)
said s [] = says_at s
said s (t ∷ ts) = elim (leads_to s t) [ None ↦ None | Some r ↦ said r ts ]

-- from here on the text is the rest of a line, which says these quads
pub record Left (s : Spot) (text : List ℕ) (quads : List Parts) : Type 0 where
  pub row : List LineToken
  pub text_is : text ≡ bytes_of row
  pub whole : IsTrue (is_row row [])
  pub says : said s row ≡ Some quads

-- some row of tokens that may follow here begins so
pub record Begins (s : Spot) (text : List ℕ) : Type 0 where
  pub more : List ℕ
  pub row : List LineToken
  pub text_is : text ++ more ≡ bytes_of row
  pub whole : IsTrue (is_row row [])
  pub fits : IsTrue (goes s row)

-- the text begins with tokens that may follow here, behind which the place is
pub record StandsAt (s : Spot) (text : List ℕ) (place : ℕ) : Type 0 where
  pub row : List LineToken
  pub rest : List ℕ
  pub text_is : text ≡ bytes_of row ++ rest
  pub whole : IsTrue (is_row row rest)
  pub fits : IsTrue (goes s row)
  pub place_is : place ≡ length (bytes_of row)

-- however the text goes on, tokens that may follow here reach no further
abbrev pub Reaches : Spot → List ℕ → ℕ → Type 0
Reaches s text place = (behind rest : List ℕ) (row : List LineToken) → IsTrue (is_row row rest) → IsTrue (goes s row) → text ++ behind ≡ bytes_of row ++ rest → length (bytes_of row) ≤ place

-- the text begins so, with the byte c it doesn't any more, and the place is that of the token where it can't go on
pub record Breaks (s : Spot) (text : List ℕ) (c place : ℕ) : Type 0 where
  pub begins : Begins s text
  pub stands : StandsAt s (text ++ c ∷ []) place
  pub reaches : Reaches s (text ++ c ∷ []) place
  pub within : place ≤ length text

-- the text breaks inside
pub record BreaksInside (s : Spot) (text : List ℕ) (place : ℕ) : Type 0 where
  pub front : List ℕ
  pub byte : ℕ
  pub back : List ℕ
  pub text_is : text ≡ front ++ byte ∷ back
  pub breaks : Breaks s front byte place

-- the text breaks where the line ends
pub record BreaksAtEnd (s : Spot) (text : List ℕ) (place : ℕ) : Type 0 where
  pub breaks : (byte : ℕ) → IsTrue (is_line_end byte) → Breaks s text byte place
  pub unfinished : (quads : List Parts) → Left s text quads → ⊥
