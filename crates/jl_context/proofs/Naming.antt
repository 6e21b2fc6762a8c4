-- IRI expansion over terms, taken apart into what the terms say and what is left.
use Rattle.std.proofs.Common.{◌≡◌, Bool, true, false, ◌||◌, [], ap, refl, sym, ◌∙◌, inl, inr, Option, Some, None}
use Rattle.std.proofs.lemmas.Bool.{cases_Bool}
use Rattle.jl_model.specs.declared.expansions.Expanded.{Expanded}
use Rattle.jl_model.specs.declared.expansions.Expanded.TheVariants.{Null, Keyword, Name}
use Rattle.jl_defs.specs.Texts.{Text, is_keyword, has_keyword_form, is_iri}
use Rattle.jl_defs.specs.Context.{Context, lookup, term}
use Rattle.jl_defs.specs.IriExpansion.{Compact, compact, has_no_prefix, by_term, prefix_mapping, by_vocab, by_iri, by_prefix, by_name, expand_iri}
use Rattle.jl_context.specs.Names.{whole}
use Rattle.jl_context.specs.TermNames.{joined, by_compact, or_else, from_terms, without_terms}

abbrev pub first_or : Option Expanded → Expanded → Expanded
first_or (Some e) other = e
first_or None other = other

abbrev plain : Context → Text → Bool → Bool → Option Compact → Expanded
plain c text vocab relative k = elim (whole text k) [ true ↦ Name text | false ↦ by_vocab c text vocab relative ]

by_iri-plain : (c : Context) (text : Text) (vocab relative : Bool) (k : Compact) → has_no_prefix k ≡ false → by_iri c text vocab relative ≡ plain c text vocab relative (Some k)
by_iri-plain c text vocab relative k f = sym (ap (λ b. elim (b || is_iri text) as (λ _. Expanded) [ true ↦ Name text | false ↦ by_vocab c text vocab relative ]) f)

-- a text with a colon
prefix-apart : (c : Context) (text : Text) (vocab relative : Bool) (k : Option Compact) → by_prefix c text vocab relative k ≡ first_or (by_compact c k) (plain c text vocab relative k)
prefix-apart c text vocab relative None = refl
prefix-apart c text vocab relative (Some k) =
    elim (cases_Bool (has_no_prefix k)) [
      | inl t ↦ rw (by_prefix, by_compact, plain, whole, t) refl
      | inr f ↦ by f (prefix_mapping (term c k.prefix)) refl
    ]
  where
    by : has_no_prefix k ≡ false → (m : Option Text) → prefix_mapping (term c k.prefix) ≡ m → by_prefix c text vocab relative (Some k) ≡ first_or (by_compact c (Some k)) (plain c text vocab relative (Some k))
    by f (Some iri) e = rw (by_prefix, by_compact, f) (rw e refl)
    by f None e = rw (by_prefix, by_compact, f) (rw e (by_iri-plain c text vocab relative k f))

name-apart : (c : Context) (text : Text) (vocab relative : Bool) → by_name c text vocab relative ≡ first_or (from_terms c text vocab) (without_terms c text vocab relative)
name-apart c text vocab relative = by (by_term vocab (term c text)) refl
  where
    by : (o : Option Expanded) → by_term vocab (term c text) ≡ o → by_name c text vocab relative ≡ first_or (from_terms c text vocab) (without_terms c text vocab relative)
    by (Some e) h = rw (by_name, from_terms, h) refl
    by None h = rw (by_name, from_terms, h) (prefix-apart c text vocab relative (compact text))

-- a keyword, and a text that looks like one
pub expand-keyword : (c : Context) (text : Text) (vocab relative : Bool) → is_keyword text ≡ true → expand_iri c text vocab relative ≡ Keyword text
unfolding expand_iri
expand-keyword c text vocab relative e = rw (expand_iri, e) refl

pub expand-form : (c : Context) (text : Text) (vocab relative : Bool) → is_keyword text ≡ false → has_keyword_form text ≡ true → expand_iri c text vocab relative ≡ Null
unfolding expand_iri
expand-form c text vocab relative e f = rw (expand_iri, e) (rw f refl)

-- any other text
expand-name : (c : Context) (text : Text) (vocab relative : Bool) → is_keyword text ≡ false → has_keyword_form text ≡ false → expand_iri c text vocab relative ≡ by_name c text vocab relative
unfolding expand_iri
expand-name c text vocab relative e f = rw (expand_iri, e) (rw f refl)

pub expand-found : (c : Context) (text : Text) (vocab relative : Bool) (x : Expanded) → is_keyword text ≡ false → has_keyword_form text ≡ false → from_terms c text vocab ≡ Some x → expand_iri c text vocab relative ≡ x
expand-found c text vocab relative x e f h = expand-name c text vocab relative e f ∙ (name-apart c text vocab relative ∙ ap (λ o. first_or o (without_terms c text vocab relative)) h)

pub expand-left : (c : Context) (text : Text) (vocab relative : Bool) → is_keyword text ≡ false → has_keyword_form text ≡ false → from_terms c text vocab ≡ None → expand_iri c text vocab relative ≡ without_terms c text vocab relative
expand-left c text vocab relative e f h = expand-name c text vocab relative e f ∙ (name-apart c text vocab relative ∙ ap (λ o. first_or o (without_terms c text vocab relative)) h)

-- without terms nothing is said
by_compact-none : (c : Context) (k : Option Compact) → c.level.terms ≡ [] → by_compact c k ≡ None
by_compact-none c None e = refl
by_compact-none c (Some k) e =
    elim (cases_Bool (has_no_prefix k)) [
      | inl t ↦ rw (by_compact, t) refl
      | inr f ↦ rw (by_compact, f) (ap (λ es. joined (prefix_mapping (lookup es k.prefix)) k.rest) e)
    ]

pub no-terms : (c : Context) (text : Text) (vocab : Bool) → c.level.terms ≡ [] → from_terms c text vocab ≡ None
no-terms c text vocab e =
    ap (λ es. or_else (by_term vocab (lookup es text)) (by_compact c (compact text))) e ∙ by_compact-none c (compact text) e
