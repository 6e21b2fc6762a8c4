-- An open object: what its keys mean, and what the scalars that it takes bring. No context is known here: the texts
-- have been expanded.
use Rattle.std.specs.Prelude.{ℕ, Bool, true, false, List, [], ◌∷◌, Option, Some, None, Result, Ok, Err}
use Rattle.jl_model.specs.Parts.{Parts, parts_of, plain}
use Rattle.jl_model.specs.declared.scalars.Scalar.{Scalar}
use Rattle.jl_model.specs.declared.scalars.Scalar.TheVariants.{Str}
use Rattle.jl_model.specs.declared.codes.Code.{Code}
use Rattle.jl_model.specs.declared.codes.Code.TheVariants as code
use Rattle.jl_model.specs.declared.faults.Fault.{Fault}
use Rattle.jl_model.specs.declared.terms.Term.{Term}
use Rattle.jl_model.specs.declared.expansions.Expanded.{Expanded}
use Rattle.jl_model.specs.declared.expansions.Expanded.TheVariants as expanded
use Rattle.jl_value.specs.declared.valued.Valued.{Valued}
use Rattle.jl_value.specs.declared.valued.Valued.TheVariants as valued
use Rattle.jl_defs.specs.Texts.{Text}
use Rattle.jl_defs.specs.Keys.{Key, id, kind, value, language, direction, index, property, key_by}
use Rattle.jl_defs.specs.ObjectContexts.{fault}
use Rattle.jl_defs.specs.Values as values
use Rattle.jl_defs.specs.NodeMap.{term_of_text, rdf_type}
use Rattle.jl_defs.specs.Dataset.{Head, link, term_of_value}
use Rattle.jl_defs.specs.MemberFaults.{is_direction_text}
use Rattle.jl_frames.specs.Formed.{formed}
use Rattle.jl_frames.specs.declared.facts.Frame.{Frame}
use Rattle.jl_frames.specs.declared.facts.KeyFact.{KeyFact}
use Rattle.jl_frames.specs.declared.facts.ValueFact.{ValueFact}
use Rattle.jl_frames.specs.declared.facts.Given.{Given}
use Rattle.jl_frames.specs.declared.facts.Given.TheVariants as given
use Rattle.jl_frames.specs.declared.entries.Entries.{Entries}
use Rattle.jl_frames.specs.declared.keywords.Keyword.{Keyword}
use Rattle.jl_frames.specs.declared.keywords.Keyword.TheVariants as keyword
use Rattle.jl_frames.specs.declared.keywords.Meaning.{Meaning}
use Rattle.jl_frames.specs.declared.keywords.Meaning.TheVariants as meaning
use Rattle.jl_frames.specs.declared.nodes.Node.{Node}
use Rattle.jl_frames.specs.declared.nodes.Pending.{Pending}
use Rattle.jl_frames.specs.declared.nodes.Pending.TheVariants as pending
use Rattle.jl_frames.specs.declared.values.ValueParts.{ValueParts}
use Rattle.jl_frames.specs.declared.values.Kinds.{Kinds}
use Rattle.jl_frames.specs.declared.values.Kinds.TheVariants as kinds

-- an object that has just opened
abbrev pub no_entries : Entries
no_entries = record { id = false; kind = false; value = false; language = false; direction = false; index = false; property = false }

abbrev pub no_parts : ValueParts
no_parts = record { kinds = kinds.Untyped; value = None; language = None }

abbrev pub opened : Frame → Node
opened f = record {
  at = f.at;
  subject = f.subject;
  scope = f.scope;
  valued = f.valued;
  entries = no_entries;
  pending = pending.Nothing;
  parts = no_parts;
}

-- the value of the key read last has ended
abbrev pub rested : Node → Node
rested n = record n { pending = pending.Nothing }

-- a property gave something
abbrev pub holding : Node → Node
holding n = record n { entries = record n.entries { property = true } }

-- a quad of the node; it is left out where a part isn't well-formed
abbrev pub head_of : Node → Text → Head
head_of n predicate = record { subject = n.subject; predicate = predicate; scope = n.scope; forward = true }

unfoldable pub hang : Node → Text → Option Term → List Parts
hang n predicate o = formed (link (head_of n predicate) o)

-- the quad of these parts, where there is an object and each part is well-formed
abbrev pub quad_with : Term → Text → Option Term → Option Term → List Parts
quad_with s p None g = []
quad_with s p (Some o) g = formed (parts_of s p o g ∷ [])

-- what a key means for the object itself
abbrev pub meaning_of : Key → Meaning
meaning_of (property p) = meaning.Property p
meaning_of id = meaning.Keyword keyword.Id
meaning_of kind = meaning.Keyword keyword.Kind
meaning_of value = meaning.Keyword keyword.Value
meaning_of language = meaning.Keyword keyword.Language
meaning_of direction = meaning.Keyword keyword.Direction
meaning_of index = meaning.Keyword keyword.Index
meaning_of k = meaning.Ignored

-- whether a keyword that may come once has come, and the entries with it
abbrev pub has_come : Keyword → Entries → Bool
has_come keyword.Id es = es.id
has_come keyword.Kind es = false
has_come keyword.Value es = es.value
has_come keyword.Language es = es.language
has_come keyword.Direction es = es.direction
has_come keyword.Index es = es.index

abbrev pub with_entry : Keyword → Entries → Entries
with_entry keyword.Id es = record es { id = true }
with_entry keyword.Kind es = record es { kind = true }
with_entry keyword.Value es = record es { value = true }
with_entry keyword.Language es = record es { language = true }
with_entry keyword.Direction es = record es { direction = true }
with_entry keyword.Index es = record es { index = true }

abbrev pub take_once : Bool → ℕ → Keyword → Node → Result Node Fault
take_once true at q n = Err (fault code.CollidingKeywords at)
take_once false at q n = Ok (record n { entries = with_entry q n.entries; pending = pending.Keyword at q })

-- the object takes a key: a second one for a keyword is at fault (JSON-LD 1.1 API, section 5.1.2, step 13.4.2)
abbrev pub take_meaning : Meaning → ℕ → Node → Result Node Fault
take_meaning (meaning.Property p) at n = Ok (record n { pending = pending.Property p })
take_meaning (meaning.Keyword q) at n = take_once (has_come q n.entries) at q n
take_meaning meaning.Ignored at n = Ok (record n { pending = pending.Ignored })

unfoldable pub take_key : KeyFact → Node → Result Node Fault
take_key f n = take_meaning (meaning_of (key_by f.expanded)) f.at n

-- the fault of a keyword's value that has another form
abbrev pub wrong_form : Keyword → Code
wrong_form keyword.Id = code.InvalidIdValue
wrong_form keyword.Kind = code.InvalidTypeValue
wrong_form keyword.Value = code.InvalidValueObjectValue
wrong_form keyword.Language = code.InvalidLanguageTaggedString
wrong_form keyword.Direction = code.InvalidBaseDirection
wrong_form keyword.Index = code.InvalidIndexValue

-- quads, and the object behind them, or a fault
abbrev pub Taken : Type 0
Taken = Result (List Parts × Node) Fault

-- a scalar under a property
abbrev pub as_value : Valued → values.Valued
as_value (valued.Reference name) = values.reference name
as_value (valued.Literal lit) = values.literal lit
as_value valued.LeftOut = values.left_out

-- what hangs on the property whose value is open
abbrev pub hang_under : Pending → Node → Option Term → List Parts
hang_under (pending.Property p) n o = hang n p o
hang_under waits n o = []

abbrev pub hang_pending : Node → Option Term → List Parts
hang_pending n o = hang_under n.pending n o

abbrev pub take_value : Given → Node → Taken
take_value (given.Valued v) n = Ok (hang_pending n (term_of_value (as_value v)), holding n)
take_value g n = Ok ([], n)

-- types: those of a node are said at once, a value object keeps one
abbrev pub another_kind : Kinds → Expanded → Kinds
another_kind kinds.Untyped e = kinds.One e
another_kind ks e = kinds.Several

abbrev pub with_kinds : Node → Kinds → Node
with_kinds n ks = record n { parts = record n.parts { kinds = ks } }

abbrev pub with_many_kinds : Node → Node
with_many_kinds n = elim n.valued [ true ↦ with_kinds n kinds.Several | false ↦ n ]

abbrev pub term_of_type : Expanded → Option Term
term_of_type expanded.Null = None
term_of_type (expanded.Keyword text) = term_of_text text
term_of_type (expanded.Name text) = term_of_text text

abbrev pub take_type : Bool → Expanded → Node → Taken
take_type true e n = Ok ([], with_kinds n (another_kind n.parts.kinds e))
take_type false e n = Ok (hang n rdf_type (term_of_type e), n)

-- what a value object keeps
abbrev pub with_value : Node → ℕ → Scalar → Node
with_value n at v = record n { parts = record n.parts { value = Some (record { at = at; scalar = v }) } }

abbrev pub with_language : Node → Text → Node
with_language n text = elim n.valued [ true ↦ record n { parts = record n.parts { language = Some text } } | false ↦ n ]

-- `ltr` or `rtl`
abbrev pub take_direction : Bool → ℕ → Node → Taken
take_direction true at n = Ok ([], n)
take_direction false at n = Err (fault code.InvalidBaseDirection at)

-- a scalar at its place under a keyword, whose key stands at its own place
abbrev pub take_under : Keyword → Given → ℕ → ℕ → Node → Taken
take_under keyword.Id (given.Written (Str text)) key_at at n = Ok ([], n)
take_under keyword.Kind (given.Type e) key_at at n = take_type n.valued e n
take_under keyword.Value (given.Written v) key_at at n = Ok ([], with_value n at v)
take_under keyword.Language (given.Written (Str text)) key_at at n = Ok ([], with_language n text)
take_under keyword.Direction (given.Written (Str text)) key_at at n = take_direction (is_direction_text text) key_at n
take_under keyword.Index (given.Written (Str text)) key_at at n = Ok ([], n)
take_under q g key_at at n = Err (fault (wrong_form q) key_at)

abbrev pub take_pending : Pending → ValueFact → Node → Taken
take_pending (pending.Property p) f n = take_value f.given n
take_pending (pending.Keyword key_at q) f n = take_under q f.given key_at f.at n
take_pending pending.Ignored f n = Ok ([], n)
take_pending pending.Nothing f n = Ok ([], n)

-- the object takes a scalar as the value of the key read last, or in an array there
unfoldable pub take_scalar : ValueFact → Node → Taken
take_scalar f n = take_pending n.pending f n

-- a string under a property
abbrev pub given_text : Text → Given
given_text text = given.Valued (valued.Literal (plain text))

abbrev pub text_fact : ℕ → Text → ValueFact
text_fact at text = record { at = at; given = given_text text }
