-- Runs of bytes that are taken at once, in words of the crate's own.
use Rattle.std.specs.Prelude.{ℕ, ◌+◌, ◌-◌, Bool, true, false, ◌&&◌, ◌||◌, not, leb, eqb, List, ◌++◌, length, take, Option, Some, None}
use Rattle.std.specs.List.{take_while}
use Rattle.std.specs.Str.Lossy.{utf8_valid_len}
use Rattle.jl_model.specs.declared.tokens.Token.{Token}
use Rattle.jl_token.specs.declared.readings.Reading.{Reading}
use Rattle.jl_token.specs.declared.readings.Spot.{Spot}
use Rattle.jl_token.specs.declared.readings.Spot.TheVariants as spots
use Rattle.jl_token.specs.declared.strings.InString.{InString}
use Rattle.jl_token.specs.declared.strings.InString.TheVariants as at
use Rattle.jl_token.specs.declared.states.LexState.{LexState}
use Rattle.jl_token.specs.declared.steps.LexStop.{LexStop}
use Rattle.jl_token.specs.Lexed.{Stands, end_of_places}
use Rattle.jl_token.specs.Stands.{IsAt}

-- ---- bytes that mean themselves in a string

-- no quote, no backslash and no control: it means itself in a string, as a character or as a part of one
abbrev pub is_text : ℕ → Bool
is_text c = not (eqb c 34) && (not (eqb c 92) && leb 32 c)

-- the same, and no higher than this
abbrev pub is_text_to : ℕ → ℕ → Bool
is_text_to last c = is_text c && leb c last

-- it is ASCII that means itself
abbrev pub is_ascii_text : ℕ → Bool
is_ascii_text c = is_text c && leb c 127

-- how many of the first bytes are whole characters that mean themselves
abbrev pub plain_len : List ℕ → ℕ
plain_len bytes = utf8_valid_len (take_while is_text bytes)

-- whether the next byte may begin a character of a string
abbrev pub is_plain_place : InString → Bool
is_plain_place at.Plain = true
is_plain_place _ = false

abbrev pub is_plain_spot : Spot → Bool
is_plain_spot (spots.InKey place) = is_plain_place place
is_plain_spot (spots.InText place) = is_plain_place place
is_plain_spot _ = false

-- how many bytes a run takes: none where the lexer has stopped or stands elsewhere, and none at place 2^40
abbrev pub run_at : Bool → Reading → List ℕ → ℕ
run_at true s bytes = plain_len (take (end_of_places - s.at) bytes)
run_at false s bytes = 0

abbrev pub run_by : Option LexStop → Reading → List ℕ → ℕ
run_by None s bytes = run_at (is_plain_spot s.spot) s bytes
run_by (Some stop) s bytes = 0

abbrev pub run_len : LexState → List ℕ → ℕ
run_len s bytes = run_by s.stopped s.reading bytes

-- where a text stands after such bytes
abbrev pub ran : Reading → List ℕ → Reading
ran s bytes = record { at = s.at + length bytes; start = s.start; spot = s.spot; part = s.part ++ bytes; within = s.within }

-- the lexer takes these bytes, and they complete no token
abbrev pub Runs : LexState → LexState → List ℕ → Type 0
Runs old new bytes = (start : ℕ) (p : List ℕ) (given : List Token) → Stands start p given old → Stands start (p ++ bytes) given new

-- ---- blanks between tokens

abbrev pub is_blank : ℕ → Bool
is_blank c = eqb c 32 || (eqb c 10 || (eqb c 13 || eqb c 9))

-- whether no token is being read
abbrev pub is_between : Spot → Bool
is_between (spots.InKey place) = false
is_between (spots.InText place) = false
is_between (spots.InNumber place) = false
is_between (spots.InWord place) = false
is_between _ = true

-- where a text stands after so many blanks
abbrev pub behind_blanks : Reading → ℕ → Reading
behind_blanks s n = record { at = s.at + n; start = s.start; spot = s.spot; part = s.part; within = s.within }

-- the text moves on over these bytes, and they complete no token
abbrev pub Passes : Reading → Reading → List ℕ → Type 0
Passes old new bytes = (start : ℕ) (p : List ℕ) (given : List Token) → IsAt start p given old → IsAt start (p ++ bytes) given new
