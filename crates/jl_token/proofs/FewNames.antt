-- A name that comes to an object whose names stand in the buffer.
use Rattle.std.proofs.Common.{◌≡◌, ℕ, suc, ◌+◌, ◌-◌, ◌^◌, min, true, false, not, ◌||◌, List, [], ◌∷◌, length, take, drop, refl, sym, ap, subst, ◌∙◌, arith}
use Rattle.std.specs.List.{list_any}
use Rattle.std.specs.Str.{bytes_eq}
use Rattle.jl_token.specs.declared.opens.Open.TheVariants as opens
use Rattle.jl_token.specs.declared.within.Within.TheVariants as withins
use Rattle.jl_token.specs.Names.{names_len}
use Rattle.jl_token.specs.NameStacks.{set_of, opens_of, Adds, StaysCounted}
use Rattle.jl_token.proofs.RisingNames.{known_name}
use Rattle.jl_token.proofs.NamesAmong.{among-with_name, names_len-with_name}

-- a set of names has those that are in the list
pub has_few : (name : List ℕ) (names : List (List ℕ)) → list_any (bytes_eq name) (set_of names) ≡ list_any (bytes_eq name) names
has_few name [] = refl
has_few name (first ∷ names) = among-with_name name (set_of names) first ∙ ap (λ b. bytes_eq name first || b) (has_few name names)

-- the bytes of one name more
longer : (len more : ℕ) (names : List (List ℕ)) (name : List ℕ) → list_any (bytes_eq name) names ≡ false → len ≡ min (names_len (set_of names)) (2 ^ 64 - 1) → more ≡ min (len + length name) (2 ^ 64 - 1) → more ≡ min (names_len (set_of (name ∷ names))) (2 ^ 64 - 1)
longer len more names name new len_is more_is =
    let sum = names_len-with_name (set_of names) name (has_few name names ∙ new) in
    omega (arith, sum, len_is, more_is)

one_more : (count len more : ℕ) (names : List (List ℕ)) (name : List ℕ) → list_any (bytes_eq name) (take count names) ≡ false → Adds (withins.Few count len) (withins.Few (suc count) more) names (name ∷ names) name true
one_more count len more names name new below = (sym (ap not (has_few name (take count names) ∙ new)), refl)

one_counted : (count len more : ℕ) (names : List (List ℕ)) (name : List ℕ) → list_any (bytes_eq name) (take count names) ≡ false → more ≡ min (len + length name) (2 ^ 64 - 1) → StaysCounted (withins.Few count len) (withins.Few (suc count) more) names (name ∷ names)
one_counted count len more names name new more_is below counted = (longer len more (take count names) name new counted.0 more_is, counted.1)

-- a name that isn't there comes to the others
pub adds_few : (count to len more : ℕ) (names all : List (List ℕ)) (name : List ℕ) → list_any (bytes_eq name) (take count names) ≡ false → to ≡ count + 1 → all ≡ name ∷ names → Adds (withins.Few count len) (withins.Few to more) names all name true
adds_few count to len more names all name new to_is all_is =
    let e : suc count ≡ to = omega (arith, to_is) in
    subst (λ l. Adds (withins.Few count len) (withins.Few to more) names l name true) (sym all_is)
    (subst (λ n. Adds (withins.Few count len) (withins.Few n more) names (name ∷ names) name true) e (one_more count len more names name new))

pub counts_few : (count to len more : ℕ) (names all : List (List ℕ)) (name : List ℕ) → list_any (bytes_eq name) (take count names) ≡ false → to ≡ count + 1 → all ≡ name ∷ names → more ≡ min (len + length name) (2 ^ 64 - 1) → StaysCounted (withins.Few count len) (withins.Few to more) names all
counts_few count to len more names all name new to_is all_is more_is =
    let e : suc count ≡ to = omega (arith, to_is) in
    subst (λ l. StaysCounted (withins.Few count len) (withins.Few to more) names l) (sym all_is)
    (subst (λ n. StaysCounted (withins.Few count len) (withins.Few n more) names (name ∷ names)) e (one_counted count len more names name new more_is))

-- one that is there changes nothing
pub keeps_few : (count len : ℕ) (names : List (List ℕ)) (name : List ℕ) → list_any (bytes_eq name) (take count names) ≡ true → Adds (withins.Few count len) (withins.Few count len) names names name false
keeps_few count len names name is below =
    let has = has_few name (take count names) ∙ is in
    (sym (ap not has), ap (λ set. opens.Object set ∷ opens_of below (drop count names)) (sym (known_name (take count names) name has)))
