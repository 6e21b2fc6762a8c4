-- What an object gives to the property round it as it closes (JSON-LD 1.1 API, section 5.1.2, steps 15 to 18).
use Rattle.std.specs.Prelude.{ℕ, Bool, true, false, not, ◌&&◌, ◌||◌, Option, Some, None, Result, Ok, Err}
use Rattle.jl_model.specs.declared.scalars.Scalar.{Scalar}
use Rattle.jl_model.specs.declared.scalars.Scalar.TheVariants.{Null, Str}
use Rattle.jl_model.specs.declared.codes.Code.TheVariants as code
use Rattle.jl_model.specs.declared.faults.Fault.{Fault}
use Rattle.jl_model.specs.declared.terms.Lit.{Lit}
use Rattle.jl_model.specs.declared.terms.Term.{Term}
use Rattle.jl_model.specs.declared.expansions.Expanded.{Expanded}
use Rattle.jl_model.specs.declared.expansions.Expanded.TheVariants as expanded
use Rattle.jl_defs.specs.Texts.{Text, is_iri}
use Rattle.jl_defs.specs.ObjectContexts.{fault}
use Rattle.jl_defs.specs.Values as values
use Rattle.jl_defs.specs.Dataset.{term_of_literal}
use Rattle.jl_defs.specs.MemberFaults.{has_iri}
use Rattle.jl_frames.specs.declared.entries.Entries.{Entries}
use Rattle.jl_frames.specs.declared.nodes.Node.{Node}
use Rattle.jl_frames.specs.declared.values.ValueParts.{ValueParts}
use Rattle.jl_frames.specs.declared.values.Kinds.{Kinds}
use Rattle.jl_frames.specs.declared.values.Kinds.TheVariants as kinds
use Rattle.jl_frames.specs.declared.values.RawValue.{RawValue}
use Rattle.jl_frames.specs.declared.values.Ended.{Ended}
use Rattle.jl_frames.specs.declared.values.Ended.TheVariants as ended

-- `@language` alone
abbrev pub is_only_language : Entries → Bool
is_only_language es = es.language && not (es.id || (es.kind || (es.value || (es.direction || (es.index || es.property)))))

-- a node is given by its name; with `@language` alone an object gives nothing
abbrev pub end_node : Bool → Ended
end_node true = ended.Nothing
end_node false = ended.Node

-- the entries of a value object are those of one
abbrev pub is_value_form : Entries → Bool
is_value_form es = not (es.id || es.property) && not (es.kind && (es.language || es.direction))

abbrev pub is_string : Scalar → Bool
is_string (Str text) = true
is_string v = false

-- the type, where it is one IRI
abbrev pub iri_of : Expanded → Option Text
iri_of (expanded.Name text) = elim (is_iri text) [ true ↦ Some text | false ↦ None ]
iri_of e = None

abbrev pub type_iri : Kinds → Option Text
type_iri kinds.Untyped = None
type_iri (kinds.One e) = iri_of e
type_iri kinds.Several = None

-- a literal, or none where its language tag is ill-formed
abbrev pub lit_of : values.Valued → Option Lit
lit_of (values.literal lit) = Some lit
lit_of v = None

abbrev pub term_of_lit : Option Lit → Option Term
term_of_lit None = None
term_of_lit (Some lit) = term_of_literal lit

-- outside of all properties a value is dropped, and its number isn't looked at
abbrev pub end_literal : values.Valued → ℕ → Bool → Result Ended Fault
end_literal v at true = Ok ended.Nothing
end_literal (values.refused c) at false = Err (fault c at)
end_literal v at false = Ok (ended.Value (lit_of v))

abbrev pub end_typed : Bool → ℕ → ValueParts → RawValue → Bool → Result Ended Fault
end_typed true at p v drops = Err (fault code.InvalidTypedValue at)
end_typed false at p v drops = end_literal (values.literal_of v.scalar (type_iri p.kinds) p.language) v.at drops

abbrev pub end_tagged : Bool → Entries → ℕ → ValueParts → RawValue → Bool → Result Ended Fault
end_tagged true es at p v drops = Err (fault code.InvalidLanguageTaggedValue at)
end_tagged false es at p v drops = end_typed (es.kind && not (has_iri (type_iri p.kinds))) at p v drops

-- null gives nothing
abbrev pub is_null : Scalar → Bool
is_null Null = true
is_null v = false

abbrev pub end_scalar : Bool → Entries → ℕ → ValueParts → RawValue → Bool → Result Ended Fault
end_scalar true es at p v drops = Ok ended.Nothing
end_scalar false es at p v drops = end_tagged (es.language && not (is_string v.scalar)) es at p v drops

abbrev pub end_parts : Option RawValue → Entries → ℕ → ValueParts → Bool → Result Ended Fault
end_parts None es at p drops = Ok ended.Nothing
end_parts (Some v) es at p drops = end_scalar (is_null v.scalar) es at p v drops

abbrev pub end_value : Bool → Entries → ℕ → ValueParts → Bool → Result Ended Fault
end_value true es at p drops = end_parts p.value es at p drops
end_value false es at p drops = Err (fault code.InvalidValueObject at)

abbrev pub end_by : Bool → Node → Bool → Result Ended Fault
end_by true n drops = end_value (is_value_form n.entries) n.entries n.at n.parts drops
end_by false n drops = Ok (end_node (is_only_language n.entries))

-- an object closes, outside of all properties or under one
unfoldable pub end_of : Node → Bool → Result Ended Fault
end_of n drops = end_by n.entries.value n drops
