-- What the test on names says, and that only the members of a list of names count.
use Rattle.std.proofs.Common.{◌≡◌, ℕ, Bool, true, false, ◌&&◌, ◌||◌, List, [], ◌∷◌, refl, sym, ap, ◌∙◌}
use Rattle.std.proofs.lemmas.Bool.{true≢false}
use Rattle.std.specs.List.{AllByRecursion, list_any}
use Rattle.std.specs.Str.{bytes_eq}
use Rattle.std.proofs.lemmas.Slice.Eq.{bytes_eq-Decides}
use Rattle.jl_model.specs.declared.tokens.Token.{Token}
use Rattle.jl_model.specs.JsonTree.{Members}
use Rattle.jl_model.specs.JsonTree.Members.{no_member, member}
use Rattle.jl_model.specs.JsonText.{IsNew, MoreMembers}
use Rattle.jl_token.specs.declared.opens.Open.{Open}
use Rattle.jl_token.specs.declared.opens.Open.TheVariants as opens
use Rattle.jl_token.specs.Names.{with_name}
use Rattle.jl_token.specs.Left.{Rest, ColonRest}
use Rattle.jl_token.proofs.Languages.{map_first, map_second}
use Rattle.jl_token.proofs.NamesAmong.{among-with_name}

first_false : (a b : Bool) → (a || b) ≡ false → a ≡ false
first_false true b e = absurd (true≢false e)
first_false false b e = refl

second_false : (a b : Bool) → (a || b) ≡ false → b ≡ false
second_false true b e = absurd (true≢false e)
second_false false b e = e

both_false : (a b : Bool) → a ≡ false → b ≡ false → (a || b) ≡ false
both_false true b e f = absurd (true≢false e)
both_false false b e f = f

is_false : (a : Bool) → (a ≡ true → ⊥) → a ≡ false
is_false true n = absurd (n refl)
is_false false n = refl

not_among : (had : List (List ℕ)) (name : List ℕ) → AllByRecursion (λ old. old ≡ name → ⊥) had → list_any (bytes_eq name) had ≡ false
not_among [] name n = refl
not_among (old ∷ had) name n = both_false _ _ (is_false _ (λ e. n.0 (sym ((bytes_eq-Decides name old).0 e)))) (not_among had name n.1)

among_none : (had : List (List ℕ)) (name : List ℕ) → list_any (bytes_eq name) had ≡ false → AllByRecursion (λ old. old ≡ name → ⊥) had
among_none [] name e = tt
among_none (old ∷ had) name e = ((λ q. true≢false (sym ((bytes_eq-Decides name old).1 (sym q)) ∙ first_false _ _ e)), among_none had name (second_false _ _ e))

-- the test is passed just by new names
pub new_passes : (once : Bool) (had : List (List ℕ)) (name : List ℕ) → IsNew once had name → (once && list_any (bytes_eq name) had) ≡ false
new_passes false had name n = refl
new_passes true had name n = not_among had name n

pub passed_is_new : (once : Bool) (had : List (List ℕ)) (name : List ℕ) → (once && list_any (bytes_eq name) had) ≡ false → IsNew once had name
passed_is_new false had name e = tt
passed_is_new true had name e = among_none had name e

-- two lists with the same members
abbrev pub SameNames : List (List ℕ) → List (List ℕ) → Type 0
SameNames had other = (name : List ℕ) → list_any (bytes_eq name) had ≡ list_any (bytes_eq name) other

pub put_same : (had : List (List ℕ)) (name : List ℕ) → SameNames (name ∷ had) (with_name had name)
put_same had name text = sym (among-with_name text had name)

pub same_put : (had : List (List ℕ)) (name : List ℕ) → SameNames (with_name had name) (name ∷ had)
same_put had name text = among-with_name text had name

new_same : (once : Bool) (had other : List (List ℕ)) (name : List ℕ) → SameNames had other → IsNew once had name → IsNew once other name
new_same false had other name s n = tt
new_same true had other name s n = among_none other name (sym (s name) ∙ not_among had name n)

module _ (once : Bool) (room : ℕ) where
  more_same : (ms : Members) (had other : List (List ℕ)) → SameNames had other → (at : ℕ) (us : List Token) (t : List ℕ) → MoreMembers once room had ms at us t → MoreMembers once room other ms at us t
  more_same no_member had other s at us t h = h
  more_same (member place name v ms) had other s at us t h =
      map_second (λ _ _ _ a. map_second (λ _ _ _ b. map_second (λ _ _ _ c. map_first (λ _ _ _ k. record { place_is = k.place_is; tokens_are = k.tokens_are; spelled = k.spelled; is_new = new_same once had other name s k.is_new }) (map_second (λ _ _ _ d. map_second (λ _ _ _ e. map_second (λ _ _ _ f. map_second (λ _ _ _ g. map_second (more_same ms (name ∷ had) (name ∷ other) (λ x. ap (λ b. bytes_eq x name || b) (s x))) g) f) e) d) c)) b) a) h

  rest_same : (had other : List (List ℕ)) (below : List Open) → SameNames had other → (at : ℕ) (us : List Token) (t : List ℕ) → Rest once room (opens.Object had ∷ below) at us t → Rest once room (opens.Object other ∷ below) at us t
  rest_same had other below s at us t h = map_first (λ a b c x. (x.0, more_same x.0 had other s a b c x.1)) h

  -- behind a key only the members of the list of names count
  pub colon_same : (had other : List (List ℕ)) (below : List Open) → SameNames had other → (at : ℕ) (us : List Token) (t : List ℕ) → ColonRest once room (opens.Object had ∷ below) at us t → ColonRest once room (opens.Object other ∷ below) at us t
  colon_same had other below s at us t h = map_second (λ _ _ _ a. map_second (λ _ _ _ b. map_second (λ _ _ _ c. map_second (rest_same had other below s) c) b) a) h
