-- What a call of `fetch` does to what a shelf tells.
use Rattle.std.specs.Prelude.{◌≡◌, ℕ, List, [], ◌∷◌, ◌++◌, Option, Some, Result, Ok, Err, IfSome, option_map}
use Rattle.jl_io.specs.declared.shelves.FetchStop.{FetchStop}
use Rattle.jl_io.specs.declared.shelves.FetchStop.TheVariants.{Failed, NoMemory}

-- where the content is told, the name is there, and its bytes were appended
abbrev pub Fetches : Option (List ℕ → Option (List ℕ)) → List ℕ → List ℕ → List ℕ → Type 0
Fetches content name old new = IfSome content (λ at. (bytes : List ℕ) × (at name ≡ Some bytes) × (new ≡ old ++ bytes))

-- each call asks its name, but for one that lacked memory
abbrev pub Asks : Option (List (List ℕ)) → List ℕ → Option (List (List ℕ)) → Result (Unit {0}) FetchStop → Type 0
Asks old name new (Ok u) = new ≡ option_map (λ names. names ++ name ∷ []) old
Asks old name new (Err Failed) = new ≡ option_map (λ names. names ++ name ∷ []) old
Asks old name new (Err NoMemory) = new ≡ old
