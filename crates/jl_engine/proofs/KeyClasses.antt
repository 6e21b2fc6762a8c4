-- What a key is for, by its name alone.
use Rattle.std.proofs.Common.{◌≡◌, ℕ, Bool, true, false, Option, Some, None, refl, sym, ap, ◌∙◌, inl, inr}
use Rattle.std.proofs.lemmas.Bool.{cases_Bool, false≢true}
use Rattle.std.proofs.lemmas.Slice.Eq.{bytes_eq-Decides}
use Rattle.std.specs.List.{list_any}
use Rattle.std.specs.Prelude.{◌++◌, codes, bytes_eq, if◌then◌else◌, ◌||◌}
use Rattle.jl_model.specs.declared.expansions.Expanded.TheVariants.{Name}
use Rattle.jl_defs.specs.Context as spec
use Rattle.jl_defs.specs.IriExpansion.{compact, expand_iri, by_vocab}
use Rattle.jl_defs.specs.Keys.{Key, id, dropped, property, keyword_key, key_by, key_of}
use Rattle.jl_defs.specs.Texts.{Text, is_colon, is_keyword, has_keyword_form}
use Rattle.jl_context.specs.Contexts.{context_of}
use Rattle.jl_context.specs.Names.{whole}
use Rattle.jl_context.specs.declared.contexts.Context.{Context}
use Rattle.jl_context.proofs.Expanding.{expand_iri-keyword, expand_iri-form, expand_iri-whole, expand_iri-other}
use Rattle.jl_prelude.specs.Classes.{class_of}
use Rattle.jl_prelude.specs.declared.classes.Class.{Class}
use Rattle.jl_prelude.specs.declared.classes.Class.TheVariants.{Kind, Identifier, Aside, Value, Other}
use Rattle.jl_prelude.proofs.ClassLemmas.{keyword_class}
use Rattle.jl_engine.specs.Moves.{late_faults, late_by}

named_other : (b : Bool) (text : Text) → class_of (elim b [ true ↦ property text | false ↦ dropped ]) ≡ Other
named_other true text = refl
named_other false text = refl

-- a text that isn't a keyword's
name_other : (text : Text) → class_of (key_by (Name text)) ≡ Other
name_other text = named_other (list_any is_colon text) text

abbrev with_vocab : spec.Context → Option Text → spec.Context
with_vocab c v = record c { level = record c.level { vocab = v } }

vocab_other : (c : spec.Context) (v : Option Text) (text : Text) → class_of (key_by (by_vocab (with_vocab c v) text true false)) ≡ Other
vocab_other c None text = name_other text
vocab_other c (Some v) text = name_other (v ++ text)

-- a text that is no keyword isn't this one
pub not_this : (text k : Text) → is_keyword k ≡ true → is_keyword text ≡ false → bytes_eq text k ≡ false
not_this text k is none = elim (cases_Bool (bytes_eq text k)) [
  | inl e ↦ absurd (false≢true (sym none ∙ ap is_keyword ((bytes_eq-Decides text k).0 e) ∙ is))
  | inr e ↦ e
]

abbrev chosen : Bool → Bool → Bool → Bool → Class
chosen b c d e = if b then Identifier else (if c then Kind else (if d then Value else (if e then Aside else Other)))

chosen_none : (b c d e f g : Bool) → b ≡ false → c ≡ false → d ≡ false → e ≡ false → f ≡ false → g ≡ false → chosen b c d (e || (f || g)) ≡ Other
chosen_none false false false false false false p q r s t u = refl
chosen_none true c d e f g p q r s t u = absurd (false≢true (sym p))
chosen_none false true d e f g p q r s t u = absurd (false≢true (sym q))
chosen_none false false true e f g p q r s t u = absurd (false≢true (sym r))
chosen_none false false false true f g p q r s t u = absurd (false≢true (sym s))
chosen_none false false false false true g p q r s t u = absurd (false≢true (sym t))
chosen_none false false false false false true p q r s t u = absurd (false≢true (sym u))

no_class : (text : Text) → is_keyword text ≡ false → class_of (keyword_key text) ≡ Other
unfolding is_keyword
no_class text none =
    keyword_class text
    ∙ chosen_none (bytes_eq text (codes "@id")) (bytes_eq text (codes "@type")) (bytes_eq text (codes "@value")) (bytes_eq text (codes "@language")) (bytes_eq text (codes "@direction")) (bytes_eq text (codes "@index"))
    (not_this text (codes "@id") refl none) (not_this text (codes "@type") refl none) (not_this text (codes "@value") refl none)
    (not_this text (codes "@language") refl none) (not_this text (codes "@direction") refl none) (not_this text (codes "@index") refl none)

other_class : (c : Context) (text : Text) → is_keyword text ≡ false → class_of (key_by (expand_iri (context_of c) text true false)) ≡ Other
other_class c text none = elim (cases_Bool (has_keyword_form text)) [
  | inl form ↦ ap (λ e. class_of (key_by e)) (expand_iri-form c text true false none form)
  | inr form ↦ elim (cases_Bool (whole text (compact text))) [
    | inl w ↦ ap (λ e. class_of (key_by e)) (expand_iri-whole c text true false none form w) ∙ name_other text
    | inr w ↦ ap (λ e. class_of (key_by e)) (expand_iri-other c text true false none form w) ∙ vocab_other (context_of c) (context_of c).level.vocab text
  ]
]

-- late keys, by their classes
pub late_class : (q : Key) (at : ℕ) → late_by (class_of q) at ≡ late_faults q at
late_class id at = refl
late_class q at = refl

pub key_class : (c : Context) (text : Text) → class_of (key_of (context_of c) text) ≡ class_of (keyword_key text)
unfolding key_of
key_class c text = elim (cases_Bool (is_keyword text)) [
  | inl e ↦ ap (λ x. class_of (key_by x)) (expand_iri-keyword c text true false e)
  | inr e ↦ other_class c text e ∙ sym (no_class text e)
]
