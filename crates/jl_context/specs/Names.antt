-- Parts of IRI expansion that serve private clauses alone.
use Rattle.std.specs.Prelude.{ℕ, Bool, true, false, ◌||◌, List, Option, Some, None}
use Rattle.jl_model.specs.Resolve.{resolve}
use Rattle.jl_defs.specs.Texts.{is_iri}
use Rattle.jl_defs.specs.IriExpansion.{Compact, has_no_prefix}

-- a text with a colon that is an answer as it stands, where no term is a prefix
abbrev pub whole : List ℕ → Option Compact → Bool
whole text None = false
whole text (Some k) = has_no_prefix k || is_iri text

-- a text resolved against the base, or as it is
abbrev pub named : Bool → Option (List ℕ) → List ℕ → List ℕ
named true (Some base) text = resolve base text
named true None text = text
named false base text = text
