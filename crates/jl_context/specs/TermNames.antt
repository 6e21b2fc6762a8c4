-- Parts of IRI expansion over terms that serve private clauses alone.
use Rattle.std.specs.Prelude.{Bool, true, false, ◌++◌, Option, Some, None}
use Rattle.jl_model.specs.declared.expansions.Expanded.{Expanded}
use Rattle.jl_model.specs.declared.expansions.Expanded.TheVariants.{Null, Keyword, Name}
use Rattle.jl_defs.specs.Texts.{Text, is_keyword}
use Rattle.jl_defs.specs.Context.{Context, term}
use Rattle.jl_defs.specs.IriExpansion.{Compact, compact, has_no_prefix, by_term, prefix_mapping, by_vocab}
use Rattle.jl_context.specs.Names.{whole}

-- a term that maps to null decides where any term does
abbrev pub null_where : Bool → Option Expanded
null_where true = Some Null
null_where false = None

-- a mapping that is a keyword decides, and any other where any term does
abbrev pub by_mapping : Bool → Text → Option Expanded
by_mapping vocab mapping =
    elim (is_keyword mapping) [
      | true ↦ Some (Keyword mapping)
      | false ↦ elim vocab [ true ↦ Some (Name mapping) | false ↦ None ]
    ]

-- the mapping of a prefix, and what follows the colon
abbrev pub joined : Option Text → Text → Option Expanded
joined None rest = None
joined (Some iri) rest = Some (Name (iri ++ rest))

abbrev pub by_compact : Context → Option Compact → Option Expanded
by_compact c None = None
by_compact c (Some k) = elim (has_no_prefix k) [ true ↦ None | false ↦ joined (prefix_mapping (term c k.prefix)) k.rest ]

-- what the term decides, or else what the prefix does
abbrev pub or_else : Option Expanded → Option Expanded → Option Expanded
or_else (Some e) other = Some e
or_else None other = other

abbrev pub from_terms : Context → Text → Bool → Option Expanded
from_terms c text vocab = or_else (by_term vocab (term c text)) (by_compact c (compact text))

-- what a text is where no term says anything of it
abbrev pub without_terms : Context → Text → Bool → Bool → Expanded
without_terms c text vocab relative =
    elim (whole text (compact text)) [ true ↦ Name text | false ↦ by_vocab c text vocab relative ]
