-- What the members of a value object say (JSON-LD 1.1 API, section 5.1.2, steps 13.4.7 and 15).
use Rattle.std.specs.Prelude.{Bool, true, false, List, [], ◌∷◌, Option, Some, None, Result, Ok, Err, codes, bytes_eq}
use Rattle.jl_model.specs.JsonTree.{Tree, scalar, array, object, Members, no_member, member}
use Rattle.jl_model.specs.declared.scalars.Scalar.TheVariants.{Null, Number}
use Rattle.jl_model.specs.declared.codes.Code.{Code}
use Rattle.jl_model.specs.declared.expansions.Expanded.{Expanded}
use Rattle.jl_model.specs.declared.expansions.Expanded.TheVariants as expanded
use Rattle.jl_defs.specs.Texts.{Text, is_iri}
use Rattle.jl_defs.specs.Trees.{string_of}
use Rattle.jl_defs.specs.Context.{Context}
use Rattle.jl_defs.specs.IriExpansion.{expand_iri}
use Rattle.jl_defs.specs.Keys.{Key, key_of, is_kind, is_value, is_language}
use Rattle.jl_defs.specs.ObjectContexts.{Inside}
use Rattle.jl_defs.specs.Values.{Valued, left_out, refused, literal_of, plain, rdf_json}
use Rattle.jl_defs.specs.Numbers.{json_number}
use Rattle.jl_defs.specs.Canon.{canon}

-- the value of the first member whose key passes the test
abbrev pub first_with : (Key → Bool) → Context → Members → Option Tree
first_with test c no_member = None
first_with test c (member a n v rest) = elim (test (key_of c n)) [ true ↦ Some v | false ↦ first_with test c rest ]

-- the values of all such members
abbrev pub all_with : (Key → Bool) → Context → Members → List Tree
all_with test c no_member = []
all_with test c (member a n v rest) = elim (test (key_of c n)) [ true ↦ v ∷ all_with test c rest | false ↦ all_with test c rest ]

-- the type of a value object: none, one string, or something else
pub data ValueType : Type 0 where
  untyped : ValueType
  typed_by : (given : Expanded) → ValueType
  not_one : ValueType

-- types are read in the base, before their own scoped contexts
abbrev pub expand_type : Context → Text → Expanded
expand_type b text = expand_iri b text true true

abbrev pub type_of_string : Context → Option Text → ValueType
type_of_string b None = not_one
type_of_string b (Some text) = typed_by (expand_type b text)

abbrev pub type_of_values : Context → List Tree → ValueType
type_of_values b [] = untyped
type_of_values b (v ∷ []) = type_of_string b (string_of v)
type_of_values b (v ∷ w ∷ ws) = not_one

-- the type of a value object: the keys for it as the final context tells, its text as the base does
abbrev pub value_type : Inside → Members → ValueType
value_type i ms = type_of_values i.base (all_with is_kind i.final ms)

abbrev pub is_json : Expanded → Bool
is_json expanded.Null = false
is_json (expanded.Name text) = false
is_json (expanded.Keyword text) = bytes_eq text (codes "@json")

abbrev pub is_json_type : ValueType → Bool
is_json_type untyped = false
is_json_type (typed_by given) = is_json given
is_json_type not_one = false

-- one IRI
abbrev pub type_iri : ValueType → Option Text
type_iri untyped = None
type_iri (typed_by expanded.Null) = None
type_iri (typed_by (expanded.Keyword text)) = None
type_iri (typed_by (expanded.Name text)) = elim (is_iri text) [ true ↦ Some text | false ↦ None ]
type_iri not_one = None

abbrev pub is_null : Option Tree → Bool
is_null (Some (scalar at Null)) = true
is_null (Some t) = false
is_null None = true

abbrev pub string_or_none : Option Tree → Option Text
string_or_none None = None
string_or_none (Some t) = string_of t

-- the literal of a JSON value
abbrev pub json_literal : Tree → Valued
json_literal t = plain (canon t) rdf_json

-- a number that has no canonical text is at fault
abbrev pub json_number_value : Tree → Result Text Code → Valued
json_number_value t (Ok text) = json_literal t
json_number_value t (Err code) = refused code

-- the JSON literal of any value
abbrev pub json_value : Tree → Valued
json_value (scalar at (Number token)) = json_number_value (scalar at (Number token)) (json_number token)
json_value (scalar at v) = json_literal (scalar at v)
json_value (array at xs) = json_literal (array at xs)
json_value (object at ms) = json_literal (object at ms)

-- the literal of a value that is no JSON literal: an array or an object gives none
abbrev pub typed_literal : ValueType → Option Text → Tree → Valued
typed_literal t language (scalar at v) = literal_of v (type_iri t) language
typed_literal t language (array at xs) = left_out
typed_literal t language (object at ms) = left_out

-- what a value object gives that has this type, language and value
abbrev pub object_value : ValueType → Option Text → Tree → Valued
object_value t language v = elim (is_json_type t) [ true ↦ json_value v | false ↦ typed_literal t language v ]

-- the value of an object with `@value`
abbrev pub value_in : Inside → Members → Option Tree → Valued
value_in i ms None = left_out
value_in i ms (Some v) = object_value (value_type i ms) (string_or_none (first_with is_language i.final ms)) v

abbrev pub value_object : Inside → Members → Valued
value_object i ms = value_in i ms (first_with is_value i.final ms)

-- a value object whose number is at fault is a value that is left out
abbrev pub unless_refused : Valued → Valued
unless_refused (refused code) = left_out
unless_refused v = v
