-- What the definition of a term says of a scalar, read once, for private clauses.
use Rattle.std.specs.Prelude.{true, false, Option, Some, None, codes, bytes_eq}
use Rattle.jl_model.specs.declared.scalars.Scalar.TheVariants.{Str}
use Rattle.jl_defs.specs.Texts.{Text}
use Rattle.jl_defs.specs.Context.{TermDef, Context}
use Rattle.jl_defs.specs.IriExpansion.{expand_iri}
use Rattle.jl_defs.specs.Values as spec
use Rattle.jl_value.specs.declared.term_kinds.TermKind.{TermKind}
use Rattle.jl_value.specs.declared.term_kinds.TermKind.TheVariants as term_kind

-- a type mapping, as value expansion tells them apart
pub data Kind : Type 0 where
  native : Kind
  identifier : Kind
  vocabulary : Kind
  typed : (datatype : Text) → Kind

abbrev pub kind_in : TermKind → Kind
kind_in term_kind.Native = native
kind_in term_kind.Id = identifier
kind_in term_kind.Vocab = vocabulary
kind_in (term_kind.Datatype datatype) = typed datatype.now

-- a keyword, or else a datatype
abbrev pub kind_named : Text → Kind
kind_named text =
    elim (bytes_eq text (codes "@id")) [
      | true ↦ identifier
      | false ↦ elim (bytes_eq text (codes "@vocab")) [
        | true ↦ vocabulary
        | false ↦ elim (bytes_eq text (codes "@none")) [ true ↦ native | false ↦ typed text ]
      ]
    ]

abbrev pub kind_of : Option Text → Kind
kind_of None = native
kind_of (Some text) = kind_named text

abbrev pub datatype_in : Kind → Option Text
datatype_in native = None
datatype_in identifier = None
datatype_in vocabulary = None
datatype_in (typed datatype) = Some datatype

-- a string under a type mapping
abbrev pub string_as : Context → Option TermDef → Text → Kind → spec.Valued
string_as c t text native = spec.literal_of (Str text) None (spec.language_under t c.level.language)
string_as c t text identifier = spec.reference_to (expand_iri c text false true)
string_as c t text vocabulary = spec.reference_to (expand_iri c text true true)
string_as c t text (typed datatype) = spec.literal_of (Str text) (Some datatype) None
