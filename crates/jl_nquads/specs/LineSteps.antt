-- How a reader of lines goes from line to line. Only private clauses cite this.
use Rattle.std.specs.Prelude.{◌≡◌, ℕ, ◌+◌, ◌-◌, ◌<◌, ◌≤◌, Bool, true, false, List, [], ◌++◌, length, take, Option, Result, Ok, Err}
use Rattle.std.specs.Option.{option_to_list}
use Rattle.jl_model.specs.Parts.{Parts}
use Rattle.jl_model.specs.declared.codes.Code.TheVariants as codes
use Rattle.jl_nquads.specs.LineReading.{HasRead, RefusesIn}
use Rattle.jl_nquads.specs.LinesRead.{ReadsFrom}
use Rattle.jl_nquads.specs.Spots.{begins}
use Rattle.jl_nquads.specs.declared.halts.LineHalt.{LineHalt}
use Rattle.jl_nquads.specs.declared.halts.LineHalt.TheVariants as halts
use Rattle.jl_nquads.specs.LineStates.{LineState}
use Rattle.jl_nquads.specs.declared.readers.LineStep.{LineStep}
use Rattle.jl_nquads.specs.declared.line_stops.LineStop.{LineStop}
use Rattle.jl_nquads.specs.declared.line_stops.LineStop.TheVariants.{Refused, NoMemory}

-- the bad place stands in a line of this many bytes
abbrev pub IsWithin : LineHalt → ℕ → Type 0
IsWithin (halts.Bad place) len = place.left ≤ len
IsWithin halts.NoMemory len = Unit {0}

-- why a line of this many bytes, which begins at this place, isn't read
abbrev pub stop_for : ℕ → ℕ → LineHalt → LineStop
stop_for start len (halts.Bad place) = Refused (record { code = codes.BadLine; at = start + (len - place.left) })
stop_for start len halts.NoMemory = NoMemory

-- why the last line isn't read: where it is bad only because it ends, at its end
abbrev pub end_place : ℕ → ℕ → ℕ → Bool → ℕ
end_place start len left true = start + len
end_place start len left false = start + (len - left)

abbrev pub end_stop_for : ℕ → ℕ → LineHalt → LineStop
end_stop_for start len (halts.Bad place) = Refused (record { code = codes.BadLine; at = end_place start len place.left place.open })
end_stop_for start len halts.NoMemory = NoMemory

-- the line that ends behind these bytes was read, and the next one begins behind the byte that ends it
pub record EndsWith (quad : Option Parts) (bytes : List ℕ) (old new : LineState) : Type 0 where
  pub reads : ReadsFrom begins (old.part ++ bytes) (Ok quad)
  pub start : new.start ≡ old.start + length (old.part ++ bytes) + 1
  pub part : new.part ≡ []

-- it wasn't
pub record StopsWith (stop : LineStop) (bytes : List ℕ) (old : LineState) : Type 0 where
  pub halt : LineHalt
  pub reads : ReadsFrom begins (old.part ++ bytes) (Err halt)
  pub stop_is : stop ≡ stop_for old.start (length (old.part ++ bytes)) halt

abbrev pub EndsLine : Result (Option Parts) LineStop → List ℕ → LineState → LineState → Type 0
EndsLine (Ok quad) bytes old new = EndsWith quad bytes old new
EndsLine (Err stop) bytes old new = StopsWith stop bytes old

-- the first bytes were read: up to and with the first that ends a line, or all
pub record Takes (step : LineStep) (bytes : List ℕ) (old new : LineState) : Type 0 where
  pub within : step.count ≤ length bytes
  pub some : 0 < length bytes → 0 < step.count
  pub place : new.start + length new.part ≡ old.start + length old.part + step.count
  pub reads : (read : List ℕ) (given : List Parts) → HasRead read given old
      → HasRead (read ++ take step.count bytes) (given ++ option_to_list step.quad) new

abbrev pub TakesLine : Result LineStep LineStop → List ℕ → LineState → LineState → Type 0
TakesLine (Ok step) bytes old new = Takes step bytes old new
TakesLine (Err (Refused fault)) bytes old new =
    (read : List ℕ) (given : List Parts) → HasRead read given old → RefusesIn read given bytes fault
TakesLine (Err NoMemory) bytes old new = Unit {0}
