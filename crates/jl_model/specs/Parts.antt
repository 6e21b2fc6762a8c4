-- The parts of a quad (RDF 1.1 N-Quads, section 2), and when they are well-formed.
use Rattle.std.specs.Prelude.{◌≡◌, ℕ, Bool, true, false, List, Option, Some, None, Result, Ok, Err, IsTrue, IsUtf8, codes}
use Rattle.jl_model.specs.declared.texts.NoMemory.{NoMemory}
use Rattle.jl_model.specs.Iris.{IsIri}
use Rattle.jl_model.specs.Labels.{is_kept_label}
use Rattle.jl_model.specs.Tags.{is_language_tag}
use Rattle.jl_model.specs.declared.terms.Lit.{Lit}
use Rattle.jl_model.specs.declared.terms.Term.{Term}
use Rattle.jl_model.specs.declared.terms.Term.TheVariants.{Iri, Blank, Literal}

-- what a quad says; without a graph it belongs to the default graph
pub record Parts : Type 0 where
  pub subject : Term
  pub predicate : List ℕ
  pub object : Term
  pub graph : Option Term

abbrev pub parts_of : Term → List ℕ → Term → Option Term → Parts
parts_of subject predicate object graph = record { subject = subject; predicate = predicate; object = object; graph = graph }

-- rdf:langString
abbrev pub rdf_lang_string : List ℕ
rdf_lang_string = codes "http://www.w3.org/1999/02/22-rdf-syntax-ns#langString"

-- xsd:string
abbrev pub xsd_string : List ℕ
xsd_string = codes "http://www.w3.org/2001/XMLSchema#string"

-- the literal of a string
abbrev pub plain : List ℕ → Lit
plain text = record { text = text; datatype = xsd_string; language = None }

-- the name of a node: an IRI, or a label of the kept form
abbrev pub IsNode : Term → Type 0
IsNode (Iri iri) = IsIri iri
IsNode (Blank label) = IsTrue (is_kept_label label)
IsNode (Literal lit) = ⊥

-- a language, where there is one, is a language tag, and the datatype is that of such literals
abbrev pub IsLanguage : List ℕ → Option (List ℕ) → Type 0
IsLanguage datatype None = Unit {0}
IsLanguage datatype (Some tag) = IsTrue (is_language_tag tag) × (datatype ≡ rdf_lang_string)

-- a literal whose parts are well-formed
pub record IsLit (lit : Lit) : Type 0 where
  pub text : IsUtf8 lit.text
  pub datatype : IsIri lit.datatype
  pub language : IsLanguage lit.datatype lit.language

-- the name of a node, or a literal
abbrev pub IsObject : Term → Type 0
IsObject (Iri iri) = IsIri iri
IsObject (Blank label) = IsTrue (is_kept_label label)
IsObject (Literal lit) = IsLit lit

-- the default graph, or the name of a node
abbrev pub IsGraph : Option Term → Type 0
IsGraph None = Unit {0}
IsGraph (Some term) = IsNode term

-- each part is well-formed
pub record AreWellFormed (parts : Parts) : Type 0 where
  pub subject : IsNode parts.subject
  pub predicate : IsIri parts.predicate
  pub object : IsObject parts.object
  pub graph : IsGraph parts.graph

-- the same quad, but for one part
abbrev pub with_subject : Parts → Term → Parts
with_subject q subject = record q { subject = subject }

abbrev pub with_predicate : Parts → List ℕ → Parts
with_predicate q predicate = record q { predicate = predicate }

abbrev pub with_object : Parts → Term → Parts
with_object q object = record q { object = object }

abbrev pub with_graph : Parts → Option Term → Parts
with_graph q graph = record q { graph = graph }

-- a part is set where it is well-formed, as the quad then is; else the quad stays as it was
abbrev pub Sets : Bool → Type 0 → Parts → Parts → Parts → Type 0
Sets true IsFormed set old new = AreWellFormed set × (new ≡ set)
Sets false IsFormed set old new = (IsFormed → ⊥) × (new ≡ old)

-- the same of a call that may take memory
abbrev pub MaySet : Result Bool NoMemory → Type 0 → Parts → Parts → Parts → Type 0
MaySet (Ok is_set) IsFormed set old new = Sets is_set IsFormed set old new
MaySet (Err stop) IsFormed set old new = new ≡ old
