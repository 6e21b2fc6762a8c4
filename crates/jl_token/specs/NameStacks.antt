-- Names that stand one after another in one buffer, and the open containers that they belong to.
use Rattle.std.specs.Prelude.{◌≡◌, ℕ, Bool, ◌-◌, ◌^◌, min, List, [], ◌∷◌, length, take, drop}
use Rattle.jl_token.specs.declared.opens.Open.{Open}
use Rattle.jl_token.specs.declared.opens.Open.TheVariants as opens
use Rattle.jl_token.specs.declared.within.Within.{Within}
use Rattle.jl_token.specs.declared.within.Within.TheVariants as withins
use Rattle.jl_token.specs.Names.{with_name, names_len}
use Rattle.jl_token.specs.OpenLists.{AddsName}

-- the names of a buffer, the last one first, where these are their lengths, the last one first
abbrev pub cut : List ℕ → List ℕ → List (List ℕ)
cut [] bytes = []
cut (len ∷ lens) bytes = drop (length bytes - len) bytes ∷ cut lens (take (length bytes - len) bytes)

-- the set of these names, of which the first one came last
abbrev pub set_of : List (List ℕ) → List (List ℕ)
set_of [] = []
set_of (name ∷ names) = with_name (set_of names) name

-- the open containers, the innermost first, where the names that stand in the buffer are these, the last one first
abbrev pub opens_of : List Within → List (List ℕ) → List Open
opens_of [] names = []
opens_of (withins.Array ∷ below) names = opens.Array ∷ opens_of below names
opens_of (withins.Few count len ∷ below) names = opens.Object (set_of (take count names)) ∷ opens_of below (drop count names)
opens_of (withins.Many had ∷ below) names = opens.Object had ∷ opens_of below names

-- the bytes of the names in the buffer are counted for each object
abbrev pub AreCounted : List Within → List (List ℕ) → Type 0
AreCounted [] names = Unit {0}
AreCounted (withins.Array ∷ below) names = AreCounted below names
AreCounted (withins.Few count len ∷ below) names = (len ≡ min (names_len (set_of (take count names))) (2 ^ 64 - 1)) × AreCounted below (drop count names)
AreCounted (withins.Many had ∷ below) names = AreCounted below names

-- how many bytes the names of a container have, as far as its own count goes
abbrev pub within_len : Within → ℕ
within_len withins.Array = 0
within_len (withins.Few count len) = len
within_len (withins.Many had) = min (names_len had) (2 ^ 64 - 1)

-- it is an object
abbrev pub IsObject : Within → Type 0
IsObject withins.Array = ⊥
IsObject _ = Unit {0}

-- an object takes this name, inside whatever containers, or says that it has it
abbrev pub Adds : Within → Within → List (List ℕ) → List (List ℕ) → List ℕ → Bool → Type 0
Adds old new names more name added = (below : List Within) → AddsName (opens_of (old ∷ below) names) (opens_of (new ∷ below) more) name added

-- the bytes of the names are counted as before
abbrev pub StaysCounted : Within → Within → List (List ℕ) → List (List ℕ) → Type 0
StaysCounted old new names more = (below : List Within) → AreCounted (old ∷ below) names → AreCounted (new ∷ below) more
