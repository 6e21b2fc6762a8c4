-- Value expansion by the definition of the property, and by its type mapping.
use Rattle.std.proofs.Common.{◌≡◌, ℕ, Bool, true, false, ◌||◌, List, Option, Some, None, Result, IfOk, IfErr, refl, sym, subst, ap, ◌∙◌, codes, bytes_eq}
use Rattle.jl_model.specs.declared.scalars.Scalar.{Scalar}
use Rattle.jl_model.specs.declared.scalars.Scalar.TheVariants as scalar
use Rattle.jl_defs.specs.Context.{TermDef, Context, term}
use Rattle.jl_defs.specs.IriExpansion.{expand_iri}
use Rattle.jl_defs.specs.Values as spec
use Rattle.jl_value.specs.declared.literals.ValueStop.{ValueStop}
use Rattle.jl_value.specs.declared.valued.Valued.{Valued}
use Rattle.jl_value.specs.Answers.{given, value_under, Refuses, string_literal}
use Rattle.jl_value.specs.TermKinds.{Kind, native, identifier, vocabulary, typed, kind_of, datatype_in, string_as}
use Rattle.jl_value.proofs.ByKind.{literal_of-string}

pub value_of-under : (c : Context) (property : List ℕ) (v : Scalar) → value_under c (term c property) v ≡ spec.value_of c property v
unfolding spec.value_of
value_of-under c property scalar.Null = refl
value_of-under c property (scalar.Bool b) = refl
value_of-under c property (scalar.Number token) = refl
value_of-under c property (scalar.Str text) = refl

-- the kind of a text, by what it is equal to
abbrev kind_by : Bool → Bool → Bool → List ℕ → Kind
kind_by i v n text = elim i [ true ↦ identifier | false ↦ elim v [ true ↦ vocabulary | false ↦ elim n [ true ↦ native | false ↦ typed text ] ] ]

-- a string, by whether its type mapping is `@id` or `@vocab`, and else by the datatype
abbrev string_by_kind : Context → Option TermDef → List ℕ → Bool → Bool → Option (List ℕ) → spec.Valued
string_by_kind c t text i v datatype =
    elim i [
      | true ↦ spec.reference_to (expand_iri c text false true)
      | false ↦ elim v [
        | true ↦ spec.reference_to (expand_iri c text true true)
        | false ↦ spec.string_by c t text datatype
      ]
    ]

datatype-named : (text : List ℕ) (i v n : Bool)
    → elim (i || (v || n)) [ true ↦ None | false ↦ Some text ]
    ≡ datatype_in (kind_by i v n text)
datatype-named text true v n = refl
datatype-named text false true n = refl
datatype-named text false false true = refl
datatype-named text false false false = refl

-- the datatype of a type mapping, by its kind
pub datatype_by-kind : (kind : Option (List ℕ)) → spec.datatype_by kind ≡ datatype_in (kind_of kind)
datatype_by-kind None = refl
datatype_by-kind (Some text) = datatype-named text (bytes_eq text (codes "@id")) (bytes_eq text (codes "@vocab")) (bytes_eq text (codes "@none"))

string-named : (c : Context) (t : Option TermDef) (text kind : List ℕ) (i v n : Bool)
    → string_by_kind c t text i v (datatype_in (kind_by i v n kind)) ≡ string_as c t text (kind_by i v n kind)
string-named c t text kind true v n = refl
string-named c t text kind false true n = refl
string-named c t text kind false false true = refl
string-named c t text kind false false false = refl

string-kind : (c : Context) (t : Option TermDef) (text : List ℕ) (kind : Option (List ℕ))
    → string_by_kind c t text (spec.has_kind (codes "@id") kind) (spec.has_kind (codes "@vocab") kind) (spec.datatype_by kind)
    ≡ string_as c t text (kind_of kind)
string-kind c t text None = refl
string-kind c t text (Some kind) =
    ap (string_by_kind c t text (bytes_eq kind (codes "@id")) (bytes_eq kind (codes "@vocab"))) (datatype_by-kind (Some kind))
    ∙ string-named c t text kind (bytes_eq kind (codes "@id")) (bytes_eq kind (codes "@vocab")) (bytes_eq kind (codes "@none"))

-- a string, by the kind of its type mapping
pub string_value-kind : (c : Context) (t : Option TermDef) (text : List ℕ) → string_as c t text (kind_of (spec.kind_under t)) ≡ spec.string_value c t text
string_value-kind c t text = sym (string-kind c t text (spec.kind_under t))

-- a string without a type mapping has a language
pub string_value-native : (c : Context) (t : Option TermDef) (text : List ℕ) (language : Option (List ℕ))
    → language ≡ spec.language_under t c.level.language → native ≡ kind_of (spec.kind_under t)
    → string_literal text None language ≡ spec.string_value c t text
string_value-native c t text language same is =
    literal_of-string text None language
    ∙ ap (λ l. spec.literal_of (scalar.Str text) None l) same
    ∙ ap (string_as c t text) is
    ∙ string_value-kind c t text

-- a string with a datatype
pub string_value-typed : (c : Context) (t : Option TermDef) (text datatype : List ℕ) → typed datatype ≡ kind_of (spec.kind_under t)
    → string_literal text (Some datatype) None ≡ spec.string_value c t text
string_value-typed c t text datatype is =
    literal_of-string text (Some datatype) None
    ∙ ap (string_as c t text) is
    ∙ string_value-kind c t text

pub given-same : (r : Result Valued ValueStop) (a b : spec.Valued) → a ≡ b → IfOk r (λ made. given made ≡ a) → IfOk r (λ made. given made ≡ b)
given-same r a b e h = subst (λ v. IfOk r (λ made. given made ≡ v)) e h

pub stops-same : (r : Result Valued ValueStop) (a b : spec.Valued) → a ≡ b → IfErr r (λ stop. Refuses stop a) → IfErr r (λ stop. Refuses stop b)
stops-same r a b e h = subst (λ v. IfErr r (λ stop. Refuses stop v)) e h
