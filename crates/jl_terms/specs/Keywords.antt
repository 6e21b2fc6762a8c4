-- The ends of the lists of keywords and of the names of entries.
use Rattle.std.specs.Prelude.{ℕ, List, [], ◌∷◌, codes}

abbrev pub from_set : List (List ℕ)
from_set = codes "@set" ∷ codes "@type" ∷ codes "@value" ∷ codes "@version" ∷ codes "@vocab" ∷ []

abbrev pub from_nest : List (List ℕ)
from_nest = codes "@nest" ∷ codes "@none" ∷ codes "@prefix" ∷ codes "@propagate" ∷ codes "@protected" ∷ codes "@reverse" ∷ from_set

abbrev pub from_import : List (List ℕ)
from_import = codes "@import" ∷ codes "@included" ∷ codes "@index" ∷ codes "@json" ∷ codes "@language" ∷ codes "@list" ∷ from_nest

abbrev pub entries_from_index : List (List ℕ)
entries_from_index = codes "@index" ∷ codes "@language" ∷ codes "@nest" ∷ codes "@prefix" ∷ codes "@protected" ∷ codes "@type" ∷ []
