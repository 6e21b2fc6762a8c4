-- Value expansion (JSON-LD 1.1 API, section 5.3.2) and the literals that scalars give (section 8.2.2).
use Rattle.std.specs.Prelude.{Bool, true, false, ◌||◌, [], Option, Some, None, Result, Ok, Err, codes, bytes_eq}
use Rattle.jl_model.specs.Parts.{rdf_lang_string, xsd_string}
use Rattle.jl_model.specs.Tags.{is_language_tag}
use Rattle.jl_model.specs.declared.scalars.Scalar.{Scalar}
use Rattle.jl_model.specs.declared.scalars.Scalar.TheVariants.{Null, Bool as boolean, Number, Str}
use Rattle.jl_model.specs.declared.codes.Code.{Code}
use Rattle.jl_model.specs.declared.terms.Lit.{Lit}
use Rattle.jl_model.specs.declared.expansions.Expanded.{Expanded}
use Rattle.jl_model.specs.declared.expansions.Expanded.TheVariants as expanded
use Rattle.jl_model.specs.declared.term_parts.LangEntry.{LangEntry}
use Rattle.jl_model.specs.declared.term_parts.LangEntry.TheVariants as lang
use Rattle.jl_defs.specs.Texts.{Text}
use Rattle.jl_defs.specs.Context.{TermDef, Context, term}
use Rattle.jl_defs.specs.IriExpansion.{expand_iri}
use Rattle.jl_defs.specs.Numbers.{integer_number, double_number}

abbrev pub xsd_integer : Text
xsd_integer = codes "http://www.w3.org/2001/XMLSchema#integer"

abbrev pub xsd_double : Text
xsd_double = codes "http://www.w3.org/2001/XMLSchema#double"

abbrev pub xsd_boolean : Text
xsd_boolean = codes "http://www.w3.org/2001/XMLSchema#boolean"

abbrev pub rdf_json : Text
rdf_json = codes "http://www.w3.org/1999/02/22-rdf-syntax-ns#JSON"

-- what a scalar gives
pub data Valued : Type 0 where
  -- the name of a node
  reference : (name : Text) → Valued
  literal : (lit : Lit) → Valued
  -- a value that is left out: its language tag is ill-formed, or it is no literal at all
  left_out : Valued
  -- a number that is at fault
  refused : (code : Code) → Valued

abbrev pub plain : Text → Text → Valued
plain text datatype = literal (record { text = text; datatype = datatype; language = None })

-- a string with a language tag
abbrev pub tagged : Text → Text → Valued
tagged text tag =
    elim (is_language_tag tag) [
      | true ↦ literal (record { text = text; datatype = rdf_lang_string; language = Some tag })
      | false ↦ left_out
    ]

-- a datatype, or the one that a scalar has by itself
abbrev pub type_or : Option Text → Text → Text
type_or (Some datatype) native = datatype
type_or None native = native

abbrev pub numbered : Text → Result Text Code → Valued
numbered datatype (Ok text) = plain text datatype
numbered datatype (Err code) = refused code

-- a number: under xsd:double in the form of a double, else as an integer
abbrev pub number_literal : Text → Text → Valued
number_literal token datatype =
    elim (bytes_eq datatype xsd_double) [ true ↦ numbered datatype (double_number token) | false ↦ numbered datatype (integer_number token) ]

-- the literal of a scalar, with the datatype or the language that is given
unfoldable pub literal_of : Scalar → Option Text → Option Text → Valued
literal_of Null datatype language = left_out
literal_of (boolean true) datatype language = plain (codes "true") (type_or datatype xsd_boolean)
literal_of (boolean false) datatype language = plain (codes "false") (type_or datatype xsd_boolean)
literal_of (Number token) datatype language = number_literal token (type_or datatype xsd_integer)
literal_of (Str text) datatype None = plain text (type_or datatype xsd_string)
literal_of (Str text) datatype (Some tag) = tagged text tag

-- the type mapping of the property
abbrev pub kind_under : Option TermDef → Option Text
kind_under None = None
kind_under (Some t) = t.kind

-- the language of a plain string: the term's, or the default where the term says nothing
abbrev pub language_by : LangEntry → Option Text → Option Text
language_by lang.Absent default = default
language_by lang.Null default = None
language_by (lang.Tag tag) default = Some tag

abbrev pub language_under : Option TermDef → Option Text → Option Text
language_under None default = default
language_under (Some t) default = language_by t.language default

-- the datatype that a type mapping gives: `@id`, `@vocab` and `@none` give none
abbrev pub datatype_by : Option Text → Option Text
datatype_by None = None
datatype_by (Some kind) =
    elim (bytes_eq kind (codes "@id") || (bytes_eq kind (codes "@vocab") || bytes_eq kind (codes "@none"))) [ true ↦ None | false ↦ Some kind ]

-- a text as a reference; null is the reference of the empty text (this project's own choice)
abbrev pub reference_to : Expanded → Valued
reference_to expanded.Null = reference []
reference_to (expanded.Keyword text) = reference text
reference_to (expanded.Name text) = reference text

-- a string without a reference's type mapping: a datatype, or the language
abbrev pub string_by : Context → Option TermDef → Text → Option Text → Valued
string_by c t text (Some datatype) = literal_of (Str text) (Some datatype) None
string_by c t text None = literal_of (Str text) None (language_under t c.level.language)

abbrev pub has_kind : Text → Option Text → Bool
has_kind text None = false
has_kind text (Some kind) = bytes_eq kind text

-- a string
abbrev pub string_value : Context → Option TermDef → Text → Valued
string_value c t text =
    elim (has_kind (codes "@id") (kind_under t)) [
      | true ↦ reference_to (expand_iri c text false true)
      | false ↦ elim (has_kind (codes "@vocab") (kind_under t)) [
        | true ↦ reference_to (expand_iri c text true true)
        | false ↦ string_by c t text (datatype_by (kind_under t))
      ]
    ]

-- the value expansion of a scalar under a property
unfoldable pub value_of : Context → Text → Scalar → Valued
value_of c property (Str text) = string_value c (term c property) text
value_of c property v = literal_of v (datatype_by (kind_under (term c property))) None
