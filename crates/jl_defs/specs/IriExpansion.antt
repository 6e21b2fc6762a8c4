-- IRI expansion (JSON-LD 1.1 API, section 5.2.2) without a local context.
use Rattle.std.specs.Prelude.{ℕ, Bool, true, false, ◌&&◌, ◌||◌, ◌==◌, [], ◌∷◌, ◌++◌, Option, Some, None, codes, bytes_eq}
use Rattle.jl_model.specs.Resolve.{resolve}
use Rattle.jl_model.specs.declared.expansions.Expanded.{Expanded}
use Rattle.jl_model.specs.declared.expansions.Expanded.TheVariants.{Null, Keyword, Name}
use Rattle.jl_defs.specs.Texts.{Text, is_iri, is_colon, has_keyword_form, is_keyword}
use Rattle.jl_defs.specs.Context.{Context, TermDef, term}

-- a prefix and what follows its colon
pub record Compact : Type 0 where
  pub prefix : Text
  pub rest : Text

-- a text split at its first colon
abbrev pub split_colon : Text → Option Compact
split_colon [] = None
split_colon (c ∷ cs) = elim (is_colon c) [ true ↦ Some (record { prefix = []; rest = cs }) | false ↦ longer c (split_colon cs) ]
  where
    longer : ℕ → Option Compact → Option Compact
    longer c None = None
    longer c (Some k) = Some (record { prefix = c ∷ k.prefix; rest = k.rest })

-- a text with a colon after its first character, split at its first colon
abbrev pub compact : Text → Option Compact
compact [] = None
compact (c ∷ cs) = elim (is_some_of (split_colon cs)) [ true ↦ split_colon (c ∷ cs) | false ↦ None ]
  where
    is_some_of : Option Compact → Bool
    is_some_of None = false
    is_some_of (Some k) = true

-- the text begins with `//`
abbrev pub begins_slashes : Text → Bool
begins_slashes [] = false
begins_slashes (c ∷ []) = false
begins_slashes (c ∷ d ∷ ds) = c == 47 && d == 47

-- a blank node, or an IRI with an authority: neither has a prefix
abbrev pub has_no_prefix : Compact → Bool
has_no_prefix k = bytes_eq k.prefix (codes "_") || begins_slashes k.rest

-- a mapping as an answer
abbrev pub mapped : Option Text → Expanded
mapped None = Null
mapped (Some text) = elim (is_keyword text) [ true ↦ Keyword text | false ↦ Name text ]

-- steps 4 and 5: a term that maps to a keyword, and, with vocab, any term
abbrev pub by_term : Bool → Option TermDef → Option Expanded
by_term vocab None = None
by_term vocab (Some t) = by_mapping vocab t.mapping
  where
    by_mapping : Bool → Option Text → Option Expanded
    by_mapping true mapping = Some (mapped mapping)
    by_mapping false None = None
    by_mapping false (Some text) = elim (is_keyword text) [ true ↦ Some (Keyword text) | false ↦ None ]

-- the mapping of a term with the prefix flag
abbrev pub prefix_mapping : Option TermDef → Option Text
prefix_mapping None = None
prefix_mapping (Some t) = elim t.prefix [ true ↦ t.mapping | false ↦ None ]

-- steps 7 to 9: the vocabulary, the base, or the text as it is
abbrev pub by_vocab : Context → Text → Bool → Bool → Expanded
by_vocab c text vocab relative = joined vocab c.level.vocab
  where
    resolved : Bool → Option Text → Expanded
    resolved true (Some base) = Name (resolve base text)
    resolved true None = Name text
    resolved false base = Name text

    joined : Bool → Option Text → Expanded
    joined true (Some v) = Name (v ++ text)
    joined true None = resolved relative c.level.base
    joined false v = resolved relative c.level.base

-- an IRI is itself
abbrev pub by_iri : Context → Text → Bool → Bool → Expanded
by_iri c text vocab relative = elim (is_iri text) [ true ↦ Name text | false ↦ by_vocab c text vocab relative ]

-- step 6: a text with a colon
abbrev pub by_prefix : Context → Text → Bool → Bool → Option Compact → Expanded
by_prefix c text vocab relative None = by_vocab c text vocab relative
by_prefix c text vocab relative (Some k) =
    elim (has_no_prefix k) [
      | true ↦ Name text
      | false ↦ with_mapping (prefix_mapping (term c k.prefix))
    ]
  where
    with_mapping : Option Text → Expanded
    with_mapping (Some iri) = Name (iri ++ k.rest)
    with_mapping None = by_iri c text vocab relative

-- a text that is no keyword and has no keyword form
abbrev pub by_name : Context → Text → Bool → Bool → Expanded
by_name c text vocab relative = first (by_term vocab (term c text))
  where
    first : Option Expanded → Expanded
    first (Some e) = e
    first None = by_prefix c text vocab relative (compact text)

-- IRI expansion with the flags vocab and relative: keywords first, then what looks like one
unfoldable pub expand_iri : Context → Text → Bool → Bool → Expanded
expand_iri c text vocab relative =
    elim (is_keyword text) [
      | true ↦ Keyword text
      | false ↦ elim (has_keyword_form text) [ true ↦ Null | false ↦ by_name c text vocab relative ]
    ]
