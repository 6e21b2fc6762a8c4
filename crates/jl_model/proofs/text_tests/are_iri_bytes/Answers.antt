use Rattle.std.proofs.Common.{rules, refl, sym, ap, subst, ◌∙◌, ◌≡◌, ◌&&◌, Bool, true, false, ℕ, List, [], ◌∷◌, ◌++◌}
use Rattle.std.specs.List.{list_all}
use Rattle.std.proofs.lemmas.Fn.{fold_over, slice_gives, fronts}
use Rattle.std.proofs.lemmas.List.Folds.{list_all-append}
use Rattle.jl_model.specs.Iris as iris
use Rattle.jl_model.proofs.text_tests.are_iri_bytes.Goals as goal

and_true : (a : Bool) → a ≡ (a && true)
and_true true = refl
and_true false = refl

one-last : (bytes : List ℕ) (b : Bool) → (list_all iris.is_iri_byte bytes && b) ≡ (list_all iris.is_iri_byte bytes && (b && true))
one-last bytes b = ap (λ x. list_all iris.is_iri_byte bytes && x) (and_true b)

-- a test of one byte more
one-more : (bytes : List ℕ) (all : Bool) (byte : ℕ) (more : Bool) → all ≡ list_all iris.is_iri_byte bytes → more ≡ (all && iris.is_iri_byte byte)
    → more ≡ list_all iris.is_iri_byte (bytes ++ byte ∷ [])
one-more bytes all byte more e f = f ∙ ap (λ b. b && iris.is_iri_byte byte) e ∙ one-last bytes (iris.is_iri_byte byte) ∙ sym (list_all-append iris.is_iri_byte bytes (byte ∷ []))

-- src/text_tests.rt:43:1
pub returns : goal.returns
returns c = subst (λ bytes. c.fold.result ≡ list_all iris.is_iri_byte bytes) c.iter.ensures.rest
    (fold_over fronts (λ byte. byte.now) _ (λ bytes all. all ≡ list_all iris.is_iri_byte bytes) _
    (λ bytes all byte more f' e k. (one-more bytes all byte.now more e (search rules), search rules)) _ _ _ _ (slice_gives c.iter.result) refl c.fold.ensures.ran)
