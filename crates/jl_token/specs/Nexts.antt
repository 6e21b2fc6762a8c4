-- Bytes up to and with the one that completes a token, or at which the lexer stops.
use Rattle.std.specs.Prelude.{◌≡◌, ℕ, ◌+◌, ◌-◌, ◌≤◌, Bool, true, false, List, [], ◌∷◌, ◌++◌, take, Some}
use Rattle.jl_model.specs.declared.tokens.Token.{Token}
use Rattle.jl_token.specs.declared.states.LexState.{LexState}
use Rattle.jl_token.specs.declared.steps.LexStop.{LexStop}
use Rattle.jl_token.specs.declared.steps.Next.{Next}
use Rattle.jl_token.specs.declared.steps.Next.TheVariants.{Nothing, Completes, Stopped}
use Rattle.jl_token.specs.Lexed.{Takes, AreWhole, Stops, told, end_of_places}
use Rattle.jl_token.specs.Runs.{Runs}

-- the lexer takes these bytes: those before the last one complete no token, and the last one these
pub record TakesUpTo (old new : LexState) (bytes : List ℕ) (tokens : List Token) : Type 0 where
  pub front : List ℕ
  pub last : ℕ
  pub bytes_are : bytes ≡ front ++ last ∷ []
  pub before : LexState
  pub live : before.ended ≡ old.ended
  pub runs : Runs old before front
  pub takes : Takes before new last tokens
  pub whole : AreWhole before last tokens
  pub some : tokens ≡ [] → ⊥

-- the lexer stops at the last of these bytes, and those before it complete no token
pub record StopsUpTo (old : LexState) (bytes : List ℕ) (stop : LexStop) : Type 0 where
  pub front : List ℕ
  pub last : ℕ
  pub bytes_are : bytes ≡ front ++ last ∷ []
  pub before : LexState
  pub live : before.ended ≡ old.ended
  pub runs : Runs old before front
  pub stops : Stops before last stop

-- how many of so many bytes were read, with the one at which the lexer stopped
abbrev pub read_len : Next → ℕ → ℕ
read_len Nothing all = all
read_len (Completes count signs) all = count
read_len (Stopped count) all = count

-- of the bytes read only the last one may stand beyond the last place
abbrev pub HavePlaces : LexState → Next → ℕ → Type 0
HavePlaces old next all = old.reading.at + read_len next all ≤ end_of_places + 1

-- at least one byte completes a token, and no more were read than there were
abbrev pub CountsWithin : Next → ℕ → Type 0
CountsWithin Nothing all = Unit {0}
CountsWithin (Completes count signs) all = (1 ≤ count) × (count ≤ all)
CountsWithin (Stopped count) all = count ≤ all

-- what was read of these bytes
abbrev pub Reached : Next → LexState → LexState → List ℕ → Type 0
Reached Nothing old new bytes = Runs old new bytes
Reached (Completes count signs) old new bytes = TakesUpTo old new (take count bytes) (told signs (new.reading.at - 1) new.reading)
Reached (Stopped count) old new bytes = (stop : LexStop) × (new.stopped ≡ Some stop) × StopsUpTo old (take count bytes) stop

-- the lexer hasn't stopped
abbrev pub goes_on : Next → Bool
goes_on (Stopped count) = false
goes_on _ = true
