-- How a conversion goes from quad to quad. Only private clauses cite this.
use Rattle.std.specs.Prelude.{◌≡◌, ℕ, ◌+◌, ◌-◌, ◌^◌, List, [], ◌∷◌, ◌++◌, min, Option, Some, None, Result, Ok, Err}
use Rattle.jl_model.specs.Parts.{Parts}
use Rattle.jl_defs.specs.WriterText.{writer_text}
use Rattle.jl_engine.specs.declared.stops.Stop.{Stop}
use Rattle.jl_engine.specs.declared.stops.Stop.TheVariants as stops
use Rattle.jl_io.specs.Outside.{appended}
use Rattle.jl_nquads.specs.LineReading.{Steps, AnswersBytes}
use Rattle.jl_nquads.specs.LineStates.{LineState}
use Rattle.jl_nquads.specs.declared.line_stops.LineStop.{LineStop}
use Rattle.jl_nquads.specs.declared.line_stops.LineStop.TheVariants as lines
use Rattle.jl_nquads.specs.declared.readers.LineStep.{LineStep}
use Rattle.jl_writer.specs.Writing.{IsOpen}
use Rattle.jl_writer.specs.declared.writer.WriteStop.{WriteStop}
use Rattle.jl_writer.specs.declared.writer.WriteStop.TheVariants as writes
use Rattle.jl_top.specs.Conversions.{PutsTextFront}
use Rattle.jl_top.specs.declared.conversions.Conversion.{Conversion}

-- a stop as it ends a piece
abbrev pub line_stop_for : LineStop → Stop
line_stop_for (lines.Refused fault) = stops.Refused fault
line_stop_for lines.NoMemory = stops.NoMemory

abbrev pub write_stop_for : WriteStop → Stop
write_stop_for writes.OutFault = stops.OutFault
write_stop_for writes.NoMemory = stops.NoMemory

-- no line is refused where quads are put
abbrev pub IsWriteStop : Stop → Type 0
IsWriteStop (stops.Refused fault) = ⊥
IsWriteStop stops.OutFault = Unit {0}
IsWriteStop stops.NoMemory = Unit {0}

-- one more quad was counted
abbrev pub CountsOne : Conversion → Conversion → Type 0
CountsOne old new = new.quads ≡ min (old.quads + 1) (2 ^ 64 - 1)

-- the quad was put behind those before
pub record PutsQuad (quad : Parts) (old new : Conversion) (put_old put_new : Option (List ℕ)) : Type 0 where
  pub count : CountsOne old new
  pub reader : new.reader ≡ old.reader
  pub writes : (before : Option (List ℕ)) (quads : List Parts) → IsOpen before old.writer quads put_old → IsOpen before new.writer (quads ++ quad ∷ []) put_new

-- it wasn't, or not whole
pub record CutsQuad (quad : Parts) (stop : Stop) (old new : Conversion) (put_old put_new : Option (List ℕ)) : Type 0 where
  pub count : CountsOne old new
  pub write_stop : IsWriteStop stop
  pub writes : (before : Option (List ℕ)) (quads : List Parts) → IsOpen before old.writer quads put_old → PutsTextFront before (quads ++ quad ∷ []) put_new

abbrev pub AnswersQuad : Result (Unit {0}) Stop → Parts → Conversion → Conversion → Option (List ℕ) → Option (List ℕ) → Type 0
AnswersQuad (Ok u) quad old new put_old put_new = PutsQuad quad old new put_old put_new
AnswersQuad (Err stop) quad old new put_old put_new = CutsQuad quad stop old new put_old put_new

-- the quad of a step, if it has one
abbrev pub AnswersStep : Result (Unit {0}) Stop → Option Parts → Conversion → Conversion → Option (List ℕ) → Option (List ℕ) → Type 0
AnswersStep result (Some quad) old new put_old put_new = AnswersQuad result quad old new put_old put_new
AnswersStep (Ok u) None old new put_old put_new = (new ≡ old) × (put_new ≡ put_old)
AnswersStep (Err stop) None old new put_old put_new = ⊥

-- bytes were read, and the quad of the line that ended with them was put
pub record TakesSome (taken : ℕ) (bytes : List ℕ) (old new : Conversion) (put_old put_new : Option (List ℕ)) : Type 0 where
  pub step : LineStep
  pub reader : LineState
  pub reads : Steps step bytes old.reader reader
  pub puts : AnswersStep (Ok tt) step.quad (record old { reader = reader }) new put_old put_new
  pub count : taken ≡ step.count

-- the reading stopped, or the putting did
pub data StopsBytes (stop : Stop) (bytes : List ℕ) (old new : Conversion) (put_old put_new : Option (List ℕ)) : Type 0 where
  by_line : (line_stop : LineStop) (reader : LineState) → stop ≡ line_stop_for line_stop → AnswersBytes (Err line_stop) bytes old.reader reader → new ≡ record old { reader = reader } → put_new ≡ put_old
      → StopsBytes stop bytes old new put_old put_new
  by_put : (step : LineStep) (reader : LineState) → Steps step bytes old.reader reader → AnswersStep (Err stop) step.quad (record old { reader = reader }) new put_old put_new → StopsBytes stop bytes old new put_old put_new

abbrev pub TakesBytes : Result ℕ Stop → List ℕ → Conversion → Conversion → Option (List ℕ) → Option (List ℕ) → Type 0
TakesBytes (Ok count) bytes old new put_old put_new = TakesSome count bytes old new put_old put_new
TakesBytes (Err stop) bytes old new put_old put_new = StopsBytes stop bytes old new put_old put_new

-- the last quad was put, and the text closed
pub record ClosesLast (quad : Parts) (old new : Conversion) (put_old put_new : Option (List ℕ)) : Type 0 where
  pub count : CountsOne old new
  pub writes : (before : Option (List ℕ)) (quads : List Parts) → IsOpen before old.writer quads put_old → put_new ≡ appended before (writer_text (quads ++ quad ∷ []))

abbrev pub AnswersLast : Result (Unit {0}) Stop → Parts → Conversion → Conversion → Option (List ℕ) → Option (List ℕ) → Type 0
AnswersLast (Ok u) quad old new put_old put_new = ClosesLast quad old new put_old put_new
AnswersLast (Err stop) quad old new put_old put_new = CutsQuad quad stop old new put_old put_new

-- the text was closed, or a front of it was put
pub record ClosesWhole (old new : Conversion) (put_old put_new : Option (List ℕ)) : Type 0 where
  pub count : new.quads ≡ old.quads
  pub writes : (before : Option (List ℕ)) (quads : List Parts) → IsOpen before old.writer quads put_old → put_new ≡ appended before (writer_text quads)

pub record ClosesCut (stop : Stop) (old new : Conversion) (put_old put_new : Option (List ℕ)) : Type 0 where
  pub count : new.quads ≡ old.quads
  pub write_stop : IsWriteStop stop
  pub writes : (before : Option (List ℕ)) (quads : List Parts) → IsOpen before old.writer quads put_old → PutsTextFront before quads put_new

abbrev pub ClosesText : Result (Unit {0}) Stop → Conversion → Conversion → Option (List ℕ) → Option (List ℕ) → Type 0
ClosesText (Ok u) old new put_old put_new = ClosesWhole old new put_old put_new
ClosesText (Err stop) old new put_old put_new = ClosesCut stop old new put_old put_new
