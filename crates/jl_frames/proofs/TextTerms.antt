-- The terms of texts, by the tests of texts.
use Rattle.std.proofs.Common.{◌≡◌, refl, sym, ◌∙◌, ap, true, false, ◌&&◌, Some, None, drop}
use Rattle.std.specs.Str.{is_utf8}
use Rattle.jl_model.specs.Ren.{ren}
use Rattle.jl_model.specs.declared.terms.Term.TheVariants.{Iri, Blank}
use Rattle.jl_defs.specs.Texts.{Text, is_iri, is_blank}
use Rattle.jl_defs.specs.NodeMap.{term_of_text}

pub iri_term : (text : Text) → is_iri text ≡ true → Some (Iri text) ≡ term_of_text text
unfolding term_of_text
iri_term text e = sym (rw (term_of_text, e) refl)

pub no_term : (text : Text) → is_iri text ≡ false → (is_blank text && is_utf8 text) ≡ false → None ≡ term_of_text text
unfolding term_of_text
no_term text e b = sym (rw (term_of_text, e) (rw b refl))

pub blank_term : (text label : Text) → is_iri text ≡ false → (is_blank text && is_utf8 text) ≡ true → label ≡ ren (drop 2 text) → Some (Blank label) ≡ term_of_text text
unfolding term_of_text
blank_term text label e b l = ap (λ x. Some (Blank x)) l ∙ sym (rw (term_of_text, e) (rw b refl))
