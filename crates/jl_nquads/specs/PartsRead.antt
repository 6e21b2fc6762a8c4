-- The parts of a statement as they are read, and what stands behind its dot. Only private clauses cite this.
use Rattle.std.specs.Prelude.{◌≡◌, ℕ, ◌≤◌, Bool, true, false, List, [], length, drop, Option, Some, None, Result, Ok, Err, IsFalse}
use Rattle.jl_model.specs.Iris.{IsIri}
use Rattle.jl_model.specs.Parts.{Parts, IsObject, IsGraph, IsLanguage, parts_of, xsd_string}
use Rattle.jl_model.specs.declared.terms.Term.{Term}
use Rattle.jl_nquads.specs.LinesRead.{ReadsFrom, Continues, IsFramed, LeadsName, IsName}
use Rattle.jl_nquads.specs.Nexts.{next_of, allows}
use Rattle.jl_nquads.specs.Spots.{Spot, begins, has_subject, has_predicate, has_string, has_object, has_dot, literal_of, says_at}
use Rattle.jl_nquads.specs.declared.framed.Frame.TheVariants.{Angles}
use Rattle.jl_nquads.specs.declared.framed_tokens.FramedToken.{FramedToken}
use Rattle.jl_nquads.specs.declared.halts.LineHalt.{LineHalt}
use Rattle.jl_nquads.specs.declared.names.TermToken.{TermToken}
use Rattle.jl_nquads.specs.declared.nexts.Next.TheVariants.{Blank, Iri, Label}
use Rattle.jl_nquads.specs.declared.objects.Suffix.{Suffix}
use Rattle.jl_nquads.specs.declared.read_lines.Close.{Close}

-- no white space stands at the front
abbrev pub IsApart : List ℕ → Type 0
IsApart text = next_of text ≡ Blank → ⊥

-- a text that begins with no name can't stand here
pub record WantsName (s : Spot) (text : List ℕ) : Type 0 where
  pub others : (next_of text ≡ Iri → ⊥) → (next_of text ≡ Label → ⊥) → IsFalse (allows s (next_of text))
  pub goes_on : text ≡ [] → says_at s ≡ None

-- whether a line has no statement
abbrev pub EmptyRead : List ℕ → Result Bool LineHalt → Type 0
EmptyRead text (Ok true) = ReadsFrom begins text (Ok None)
EmptyRead text (Ok false) = WantsName begins text
EmptyRead text (Err halt) = ReadsFrom begins text (Err halt)

-- a name, where one has to stand
abbrev pub WantedRead : Bool → List ℕ → Result TermToken LineHalt → Type 0
WantedRead dotted text (Ok name) = IsName dotted text name.term name.len
WantedRead dotted text (Err halt) = (s : Spot) (to : Term → Spot) → LeadsName dotted s to → WantsName s text → ReadsFrom s text (Err halt)

abbrev pub PredicateRead : List ℕ → Result FramedToken LineHalt → Type 0
PredicateRead text (Ok iri) = IsFramed Angles text iri.meaning iri.len
PredicateRead text (Err halt) = (s : Term) → ReadsFrom (has_subject s) text (Err halt)

pub record IsObjectRead (text : List ℕ) (term : Term) (len : ℕ) : Type 0 where
  pub within : len ≤ length text
  pub object : IsObject term
  pub continues : (s : Term) (p : List ℕ) → Continues (has_predicate s p) text (has_object s p term) (drop len text)

abbrev pub ObjectRead : List ℕ → Result TermToken LineHalt → Type 0
ObjectRead text (Ok object) = IsObjectRead text object.term object.len
ObjectRead text (Err halt) = (s : Term) (p : List ℕ) → ReadsFrom (has_predicate s p) text (Err halt)

-- what stands behind a literal's string
pub record IsSuffix (text datatype : List ℕ) (language : Option (List ℕ)) (len : ℕ) : Type 0 where
  pub within : len ≤ length text
  pub iri : IsIri datatype
  pub tag : IsLanguage datatype language
  pub continues : (s : Term) (p t : List ℕ) → Continues (has_string s p t) text (has_object s p (literal_of t datatype language)) (drop len text)

abbrev pub SuffixRead : List ℕ → Result Suffix LineHalt → Type 0
SuffixRead text (Ok suffix) = IsSuffix text suffix.datatype suffix.language suffix.len
SuffixRead text (Err halt) = (s : Term) (p t : List ℕ) → ReadsFrom (has_string s p t) text (Err halt)

-- no datatype and no language tag is written
pub record IsPlain (suffix : Suffix) : Type 0 where
  pub datatype_is : suffix.datatype ≡ xsd_string
  pub language_is : suffix.language ≡ None
  pub len_is : suffix.len ≡ 0

-- a graph has to stand here, behind any object
abbrev pub WantsGraph : List ℕ → Type 0
WantsGraph text = (s : Term) (p : List ℕ) (o : Term) → WantsName (has_object s p o) text

-- what stands behind the object, up to and with the dot
pub record IsClose (text : List ℕ) (graph : Option Term) (len : ℕ) : Type 0 where
  pub within : len ≤ length text
  pub named : IsGraph graph
  pub continues : (s : Term) (p : List ℕ) (o : Term) → Continues (has_object s p o) text (has_dot (parts_of s p o graph)) (drop len text)

abbrev pub CloseRead : List ℕ → Result Close LineHalt → Type 0
CloseRead text (Ok close) = IsClose text close.graph close.len
CloseRead text (Err halt) = (s : Term) (p : List ℕ) (o : Term) → ReadsFrom (has_object s p o) text (Err halt)

-- nothing but white space and a comment stands behind the dot
abbrev pub EndRead : List ℕ → Result (Unit {0}) LineHalt → Type 0
EndRead text (Ok u) = (q : Parts) → ReadsFrom (has_dot q) text (Ok (Some q))
EndRead text (Err halt) = (q : Parts) → ReadsFrom (has_dot q) text (Err halt)
