-- A set of names stands in the order of their bytes, so that a name which it has changes nothing.
use Rattle.std.proofs.Common.{◌≡◌, ℕ, true, false, ◌||◌, List, [], ◌∷◌, refl, sym, ap, ◌∙◌}
use Rattle.std.specs.List.{AllByRecursion, list_any}
use Rattle.std.specs.Str.{bytes_eq}
use Rattle.std.specs.Cmp.Lexicographic.{slice_cmp}
use Rattle.std.specs.Ordering.{nat_cmp, is_eq, match_ordering, ordering_reverse}
use Rattle.std.specs.declared.cmp.Ordering.TheVariants.{Less, Equal, Greater}
use Rattle.std.proofs.lemmas.Bool.{false≢true}
use Rattle.std.proofs.lemmas.Cmp.{nat_list_cmp_total}
use Rattle.std.proofs.lemmas.Map.Text.{is_eq-slice_cmp}
use Rattle.jl_token.specs.Names.{with_name}
use Rattle.jl_token.specs.NameStacks.{set_of}

-- this name comes before each of these
abbrev Before : List ℕ → List (List ℕ) → Type 0
Before name = AllByRecursion (λ other. slice_cmp nat_cmp name other ≡ Less)

-- each name comes before those behind it
abbrev Rises : List (List ℕ) → Type 0
Rises [] = Unit {0}
Rises (first ∷ names) = Before first names × Rises names

turned : (name other : List ℕ) → slice_cmp nat_cmp name other ≡ Greater → slice_cmp nat_cmp other name ≡ Less
turned name other e = nat_list_cmp_total.antisymm other name ∙ ap ordering_reverse e

before_more : (name first : List ℕ) (names : List (List ℕ)) → slice_cmp nat_cmp name first ≡ Less → Before first names → Before name names
before_more name first [] e b = tt
before_more name first (other ∷ names) e b = (nat_list_cmp_total.trans name first other e b.0, before_more name first names e b.1)

before_with_name : (first : List ℕ) (names : List (List ℕ)) (name : List ℕ) → slice_cmp nat_cmp first name ≡ Less → Before first names → Before first (with_name names name)
before_with_name first [] name l b = (l, tt)
before_with_name first (other ∷ names) name l b =
    elim (slice_cmp nat_cmp name other) as (λ o. Before first (match_ordering o (name ∷ other ∷ names) (other ∷ names) (other ∷ with_name names name))) [
      | Less ↦ (l, b)
      | Equal ↦ b
      | Greater ↦ (b.0, before_with_name first names name l b.1)
    ]

rises-with_name : (names : List (List ℕ)) (name : List ℕ) → Rises names → Rises (with_name names name)
rises-with_name [] name r = (tt, tt)
rises-with_name (first ∷ names) name r =
    elim (slice_cmp nat_cmp name first) as (λ o. slice_cmp nat_cmp name first ≡ o → Rises (match_ordering o (name ∷ first ∷ names) (first ∷ names) (first ∷ with_name names name))) [
      | Less ↦ λ e. ((e, before_more name first names e r.0), r)
      | Equal ↦ λ e. r
      | Greater ↦ λ e. (before_with_name first names name (turned name first e) r.0, rises-with_name names name r.1)
    ] refl

set_rises : (names : List (List ℕ)) → Rises (set_of names)
set_rises [] = tt
set_rises (name ∷ names) = rises-with_name (set_of names) name (set_rises names)

-- a name that comes before all others is none of them
not_behind : (name : List ℕ) (names : List (List ℕ)) → Before name names → list_any (bytes_eq name) names ≡ false
not_behind name [] b = refl
not_behind name (first ∷ names) b = ap (λ is. is || list_any (bytes_eq name) names) (sym (is_eq-slice_cmp name first) ∙ ap is_eq b.0) ∙ not_behind name names b.1

known_among : (names : List (List ℕ)) (name : List ℕ) → Rises names → list_any (bytes_eq name) names ≡ true → with_name names name ≡ names
known_among [] name r is = absurd (false≢true is)
known_among (first ∷ names) name r is =
    elim (slice_cmp nat_cmp name first) as (λ o. slice_cmp nat_cmp name first ≡ o → match_ordering o (name ∷ first ∷ names) (first ∷ names) (first ∷ with_name names name) ≡ first ∷ names) [
      | Less ↦ λ e. absurd (false≢true (sym (not_behind name (first ∷ names) (e, before_more name first names e r.0)) ∙ is))
      | Equal ↦ λ e. refl
      | Greater ↦ λ e.
          let other : bytes_eq name first ≡ false = sym (is_eq-slice_cmp name first) ∙ ap is_eq e in
          ap (λ all. first ∷ all) (known_among names name r.1 (sym (ap (λ b. b || list_any (bytes_eq name) names) other) ∙ is))
    ] refl

-- a name that a set has changes nothing when it is put in again
pub known_name : (names : List (List ℕ)) (name : List ℕ) → list_any (bytes_eq name) (set_of names) ≡ true → with_name (set_of names) name ≡ set_of names
known_name names name is = known_among (set_of names) name (set_rises names) is
