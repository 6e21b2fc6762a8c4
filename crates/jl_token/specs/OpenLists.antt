-- The open containers, the innermost first.
use Rattle.std.specs.Prelude.{◌≡◌, ℕ, Bool, not, List, [], ◌∷◌}
use Rattle.std.specs.List.{list_any}
use Rattle.std.specs.Str.{bytes_eq}
use Rattle.jl_token.specs.declared.opens.Open.{Open}
use Rattle.jl_token.specs.declared.opens.Open.TheVariants as opens
use Rattle.jl_token.specs.declared.shapes.Shape.{Shape}
use Rattle.jl_token.specs.declared.shapes.Shape.TheVariants as shapes
use Rattle.jl_token.specs.Names.{with_name, names_len}

-- the innermost one is an array, or an object
abbrev pub IsInArray : List Open → Type 0
IsInArray (opens.Array ∷ below) = Unit {0}
IsInArray _ = ⊥

abbrev pub IsInObject : List Open → Type 0
IsInObject (opens.Object had ∷ below) = Unit {0}
IsInObject _ = ⊥

-- the innermost one is an object, which has this name from then on; this says whether that was new to it
abbrev pub AddsName : List Open → List Open → List ℕ → Bool → Type 0
AddsName (opens.Object had ∷ below) new name added = (added ≡ not (list_any (bytes_eq name) had)) × (new ≡ opens.Object (with_name had name) ∷ below)
AddsName _ new name added = ⊥

-- a container of this shape that has nothing yet
abbrev pub empty_of : Shape → Open
empty_of shapes.Array = opens.Array
empty_of shapes.Object = opens.Object []

-- the innermost one has this shape
abbrev pub HasShape : List Open → Shape → List Open → Type 0
HasShape list shapes.Array below = list ≡ opens.Array ∷ below
HasShape list shapes.Object below = (had : List (List ℕ)) × (list ≡ opens.Object had ∷ below)

-- how many bytes its names have in all
abbrev pub open_names_len : Open → ℕ
open_names_len opens.Array = 0
open_names_len (opens.Object names) = names_len names
