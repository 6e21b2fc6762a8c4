-- The steps of IRI expansion, one after another.
use Rattle.std.proofs.Common.{◌≡◌, ℕ, Bool, true, false, ◌&&◌, ◌||◌, List, ap, refl, sym, ◌∙◌, inl, inr, Option, Some, None, IsTrue, ◌↔◌}
use Rattle.std.proofs.lemmas.Bool.{cases_Bool, and_from, and_parts}
use Rattle.std.proofs.lemmas.Str.{IsUtf8-from_is_utf8, is_utf8-from_IsUtf8}
use Rattle.std.specs.Str.{is_utf8}
use Rattle.jl_model.specs.Iris.{IsIri, has_iri_form}
use Rattle.jl_model.specs.declared.expansions.Expanded.TheVariants.{Null, Keyword, Name}
use Rattle.jl_defs.specs.Texts.{has_keyword_form, is_keyword, is_among, keywords, is_iri}
use Rattle.jl_defs.specs.IriExpansion.{Compact, has_no_prefix, compact, expand_iri, by_vocab, by_prefix, by_iri}
use Rattle.jl_context.specs.Contexts.{context_of}
use Rattle.jl_context.specs.declared.contexts.Context.{Context}
use Rattle.jl_context.specs.Names.{whole}

-- a text of keyword form is a keyword where it stands in the list
pub listed-keyword : (text : List ℕ) (listed : Bool) → has_keyword_form text ≡ true → listed ≡ is_among keywords text → listed ≡ is_keyword text
unfolding is_keyword
listed-keyword text listed form among = among ∙ sym (ap (λ b. b && is_among keywords text) form)

-- another text is none
pub formless-keyword : (text : List ℕ) (form : Bool) → form ≡ has_keyword_form text → form ≡ false → form ≡ is_keyword text
unfolding is_keyword
formless-keyword text form e none = none ∙ sym (ap (λ b. b && is_among keywords text) (sym e ∙ none))

-- the two ways to say that a text is an IRI
pub test-is_iri : (test : Bool) (text : List ℕ) → (IsTrue test ↔ IsIri text) → test ≡ is_iri text
test-is_iri true text same =
    let iri : IsIri text = same.0 refl in
    sym (and_from (has_iri_form text) (is_utf8 text) iri.form (is_utf8-from_IsUtf8 text iri.utf8))
test-is_iri false text same =
    elim (cases_Bool (is_iri text)) [
      | inl e ↦
          let parts = and_parts (has_iri_form text) (is_utf8 text) e in
          same.1 (record { utf8 = IsUtf8-from_is_utf8 text parts.1; form = parts.0 }) ∙ sym e
      | inr e ↦ sym e
    ]

pub expand_iri-keyword : (c : Context) (text : List ℕ) (vocab relative : Bool) → is_keyword text ≡ true → expand_iri (context_of c) text vocab relative ≡ Keyword text
unfolding expand_iri
expand_iri-keyword c text vocab relative e = rw (expand_iri, e) refl

pub expand_iri-form : (c : Context) (text : List ℕ) (vocab relative : Bool) → is_keyword text ≡ false → has_keyword_form text ≡ true → expand_iri (context_of c) text vocab relative ≡ Null
unfolding expand_iri
expand_iri-form c text vocab relative e f = rw (expand_iri, e) (rw f refl)

by_prefix-whole : (c : Context) (text : List ℕ) (vocab relative : Bool) (k : Option Compact) → whole text k ≡ true → by_prefix (context_of c) text vocab relative k ≡ Name text
by_prefix-whole c text vocab relative None h = cc
by_prefix-whole c text vocab relative (Some k) h =
    elim (cases_Bool (has_no_prefix k)) [
      | inl e ↦ rw (by_prefix, e) refl
      | inr e ↦ let iri : is_iri text ≡ true = sym (ap (λ b. b || is_iri text) e) ∙ h in rw (by_prefix, e) (rw (by_iri, iri) refl)
    ]

by_prefix-other : (c : Context) (text : List ℕ) (vocab relative : Bool) (k : Option Compact) → whole text k ≡ false → by_prefix (context_of c) text vocab relative k ≡ by_vocab (context_of c) text vocab relative
by_prefix-other c text vocab relative None h = refl
by_prefix-other c text vocab relative (Some k) h =
    elim (cases_Bool (has_no_prefix k)) [
      | inl e ↦ let no : true ≡ false = sym (ap (λ b. b || is_iri text) e) ∙ h in cc
      | inr e ↦ let iri : is_iri text ≡ false = sym (ap (λ b. b || is_iri text) e) ∙ h in rw (by_prefix, e) (rw (by_iri, iri) refl)
    ]

-- a text that stays as it stands
pub expand_iri-whole : (c : Context) (text : List ℕ) (vocab relative : Bool) → is_keyword text ≡ false → has_keyword_form text ≡ false → whole text (compact text) ≡ true → expand_iri (context_of c) text vocab relative ≡ Name text
unfolding expand_iri
expand_iri-whole c text vocab relative e f h = rw (expand_iri, e) (rw f (by_prefix-whole c text vocab relative (compact text) h))

-- a text that takes the vocabulary or the base
pub expand_iri-other : (c : Context) (text : List ℕ) (vocab relative : Bool) → is_keyword text ≡ false → has_keyword_form text ≡ false → whole text (compact text) ≡ false → expand_iri (context_of c) text vocab relative ≡ by_vocab (context_of c) text vocab relative
unfolding expand_iri
expand_iri-other c text vocab relative e f h = rw (expand_iri, e) (rw f (by_prefix-other c text vocab relative (compact text) h))
