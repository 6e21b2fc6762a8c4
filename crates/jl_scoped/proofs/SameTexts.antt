-- What a text expands to hangs on the vocabulary, the base, the text's own term and its prefix alone.
use Rattle.std.proofs.Common.{◌≡◌, refl, sym, ap, ◌∙◌, Bool, true, false, ◌||◌, ◌++◌, Option, Some, None}
use Rattle.jl_model.specs.Resolve.{resolve}
use Rattle.jl_model.specs.declared.expansions.Expanded.{Expanded}
use Rattle.jl_model.specs.declared.expansions.Expanded.TheVariants.{Null, Keyword, Name}
use Rattle.jl_defs.specs.Texts.{Text, is_iri, has_keyword_form, is_keyword}
use Rattle.jl_defs.specs.Context.{Context, term}
use Rattle.jl_defs.specs.IriExpansion.{Compact, compact, has_no_prefix, prefix_mapping, by_term, by_vocab, by_iri, by_prefix, by_name, expand_iri}

-- the prefix of a text, where no term decides and it has one
unfoldable pub PrefixSame : Context → Context → Option Expanded → Option Compact → Type 0
PrefixSame c d (Some x) k = Unit {0}
PrefixSame c d None None = Unit {0}
PrefixSame c d None (Some k) = has_no_prefix k ≡ false → term c k.prefix ≡ term d k.prefix

-- two contexts are the same for a text
pub record SameFor (c d : Context) (text : Text) (vocab : Bool) : Type 0 where
  pub vocabulary : c.level.vocab ≡ d.level.vocab
  pub base : c.level.base ≡ d.level.base
  pub own : term c text ≡ term d text
  pub prefix : PrefixSame c d (by_term vocab (term d text)) (compact text)

-- by the vocabulary and the base
abbrev vocab_parts : Text → Bool → Bool → Option Text → Option Text → Expanded
vocab_parts text true r (Some v) base = Name (v ++ text)
vocab_parts text true true None (Some base) = Name (resolve base text)
vocab_parts text true true None None = Name text
vocab_parts text true false None base = Name text
vocab_parts text false true v (Some base) = Name (resolve base text)
vocab_parts text false true v None = Name text
vocab_parts text false false v base = Name text

vocab-is : (c : Context) (text : Text) (v r : Bool) (a b : Option Text) → c.level.vocab ≡ a → c.level.base ≡ b → by_vocab c text v r ≡ vocab_parts text v r a b
vocab-is c text true r (Some w) b e f = rw (by_vocab, e) refl
vocab-is c text true true None (Some u) e f = rw (by_vocab, e) (rw f refl)
vocab-is c text true true None None e f = rw (by_vocab, e) (rw f refl)
vocab-is c text true false None b e f = rw (by_vocab, e) refl
vocab-is c text false true a (Some u) e f = rw (by_vocab, f) refl
vocab-is c text false true a None e f = rw (by_vocab, f) refl
vocab-is c text false false a b e f = refl

vocab-same : (c d : Context) (text : Text) (v r : Bool) → c.level.vocab ≡ d.level.vocab → c.level.base ≡ d.level.base → by_vocab c text v r ≡ by_vocab d text v r
vocab-same c d text v r e f = vocab-is c text v r d.level.vocab d.level.base e f ∙ sym (vocab-is d text v r d.level.vocab d.level.base refl refl)

iri-same : (c d : Context) (text : Text) (v r : Bool) → by_vocab c text v r ≡ by_vocab d text v r → by_iri c text v r ≡ by_iri d text v r
iri-same c d text v r e = ap (λ x. elim (is_iri text) [ true ↦ Name text | false ↦ x ]) e

abbrev with_mapping : Compact → Option Text → Expanded → Expanded
with_mapping k (Some iri) other = Name (iri ++ k.rest)
with_mapping k None other = other

prefix-whole : (c : Context) (text : Text) (v r : Bool) (k : Compact) → has_no_prefix k ≡ true → by_prefix c text v r (Some k) ≡ Name text
prefix-whole c text v r k e = rw (by_prefix, e) refl

prefix-mapped : (c : Context) (text : Text) (v r : Bool) (k : Compact) (o : Option Text) → has_no_prefix k ≡ false → prefix_mapping (term c k.prefix) ≡ o
    → by_prefix c text v r (Some k) ≡ with_mapping k o (by_iri c text v r)
prefix-mapped c text v r k (Some iri) e f = rw (by_prefix, e) (rw f refl)
prefix-mapped c text v r k None e f = rw (by_prefix, e) (rw f refl)

prefix-same : (c d : Context) (text : Text) (v r : Bool) (k : Option Compact) → by_vocab c text v r ≡ by_vocab d text v r → PrefixSame c d None k
    → by_prefix c text v r k ≡ by_prefix d text v r k
unfolding PrefixSame
prefix-same c d text v r None s h = s
prefix-same c d text v r (Some k) s h = by (has_no_prefix k) refl
  where
    o : Option Text
    o = prefix_mapping (term d k.prefix)

    by : (b : Bool) → has_no_prefix k ≡ b → by_prefix c text v r (Some k) ≡ by_prefix d text v r (Some k)
    by true e = prefix-whole c text v r k e ∙ sym (prefix-whole d text v r k e)
    by false e =
        prefix-mapped c text v r k o e (ap prefix_mapping (h e))
        ∙ (ap (with_mapping k o) (iri-same c d text v r s) ∙ sym (prefix-mapped d text v r k o e refl))

name-decided : (c : Context) (text : Text) (v r : Bool) (x : Expanded) → by_term v (term c text) ≡ Some x → by_name c text v r ≡ x
name-decided c text v r x e = rw (by_name, e) refl

name-open : (c : Context) (text : Text) (v r : Bool) → by_term v (term c text) ≡ None → by_name c text v r ≡ by_prefix c text v r (compact text)
name-open c text v r e = rw (by_name, e) refl

name-same : (c d : Context) (text : Text) (v r : Bool) → SameFor c d text v → by_name c text v r ≡ by_name d text v r
unfolding PrefixSame
name-same c d text v r s = by (by_term v (term d text)) refl s.prefix
  where
    by : (o : Option Expanded) → by_term v (term d text) ≡ o → PrefixSame c d o (compact text) → by_name c text v r ≡ by_name d text v r
    by (Some x) e k = name-decided c text v r x (ap (by_term v) s.own ∙ e) ∙ sym (name-decided d text v r x e)
    by None e k =
        name-open c text v r (ap (by_term v) s.own ∙ e)
        ∙ (prefix-same c d text v r (compact text) (vocab-same c d text v r s.vocabulary s.base) k ∙ sym (name-open d text v r e))

pub expand-same : (c d : Context) (text : Text) (v r : Bool) → SameFor c d text v → expand_iri c text v r ≡ expand_iri d text v r
unfolding expand_iri
expand-same c d text v r s =
    ap (λ x. elim (is_keyword text) [ true ↦ Keyword text | false ↦ elim (has_keyword_form text) [ true ↦ Null | false ↦ x ] ]) (name-same c d text v r s)

-- a keyword, and what looks like one, expands alike in each context
pub expand-keyword : (c d : Context) (text : Text) (v r : Bool) → (is_keyword text || has_keyword_form text) ≡ true → expand_iri c text v r ≡ expand_iri d text v r
unfolding expand_iri
expand-keyword c d text v r e = by (is_keyword text) (has_keyword_form text) e
  where
    by : (a b : Bool) → (a || b) ≡ true
        → ◌≡◌ {A = Expanded} (elim a [ true ↦ Keyword text | false ↦ elim b [ true ↦ Null | false ↦ by_name c text v r ] ]) (elim a [ true ↦ Keyword text | false ↦ elim b [ true ↦ Null | false ↦ by_name d text v r ] ])
    by true b h = refl
    by false true h = refl
    by false false h = absurd cc
