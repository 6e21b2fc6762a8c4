-- The innermost container where it comes last.
use Rattle.std.proofs.Common.{◌≡◌, ℕ, zero, suc, Bool, List, [], ◌∷◌, ◌++◌, length, reverse, slice_index_or, refl, sym, ap, subst, ◌∙◌, arith}
use Rattle.std.proofs.Math.ListN.{set}
use Rattle.std.proofs.lemmas.List.{reverse-append}
use Rattle.jl_token.specs.declared.within.Within.{Within}
use Rattle.jl_token.specs.OpenLists.{AddsName}
use Rattle.jl_token.specs.NameStacks.{opens_of, Adds, StaysCounted, AreCounted}

-- a list, and the same with another last one, are these two before the same rest, seen from behind
abbrev Ends : List Within → List Within → Within → Within → List Within → Type 0
Ends list other old new below = (reverse list ≡ old ∷ below) × (reverse other ≡ new ∷ below)

ends : (list : List Within) (n : ℕ) (old new : Within) → suc n ≡ length list → old ≡ slice_index_or list n old → (below : List Within) × Ends list (set list n new) old new below
ends [] n old new long is = absurd (omega (arith, long))
ends (x ∷ []) zero old new long is = ([], (ap (λ o. o ∷ []) (sym is), refl))
ends (x ∷ []) (suc n) old new long is = absurd (omega (arith, long))
ends (x ∷ y ∷ ys) zero old new long is = absurd (omega (arith, long))
ends (x ∷ y ∷ ys) (suc n) old new long is =
    let rest = y ∷ ys in
    let inner = ends rest n old new (omega (arith, long)) is in
    (inner.0 ++ (x ∷ []), (reverse-append (x ∷ []) rest ∙ ap (λ l. l ++ (x ∷ [])) inner.1.0, reverse-append (x ∷ []) (set rest n new) ∙ ap (λ l. l ++ (x ∷ [])) inner.1.1))

-- a name that is added to the last container is added to the innermost one
pub adds_last : (list : List Within) (n : ℕ) (old new : Within) (names more : List (List ℕ)) (name : List ℕ) (added : Bool) → suc n ≡ length list → old ≡ slice_index_or list n old → Adds old new names more name added → AddsName (opens_of (reverse list) names) (opens_of (reverse (set list n new)) more) name added
adds_last list n old new names more name added long is h =
    let e = ends list n old new long is in
    subst (λ l. AddsName (opens_of l names) (opens_of (reverse (set list n new)) more) name added) (sym e.1.0)
    (subst (λ l. AddsName (opens_of (old ∷ e.0) names) (opens_of l more) name added) (sym e.1.1) (h e.0))

pub counts_last : (list : List Within) (n : ℕ) (old new : Within) (names more : List (List ℕ)) → suc n ≡ length list → old ≡ slice_index_or list n old → StaysCounted old new names more → AreCounted (reverse list) names → AreCounted (reverse (set list n new)) more
counts_last list n old new names more long is h counted =
    let e = ends list n old new long is in
    subst (λ l. AreCounted l more) (sym e.1.1) (h e.0 (subst (λ l. AreCounted l names) e.1.0 counted))
