-- What a reader of lines has read, and what each of its calls answers.
use Rattle.std.specs.Prelude.{◌≡◌, ℕ, ◌+◌, ◌<◌, ◌≤◌, List, [], ◌∷◌, ◌++◌, length, take, Option, Some, None, IsSome, Result, Ok, Err}
use Rattle.std.specs.Option.{option_to_list}
use Rattle.jl_model.specs.LineFaults.{BadLine}
use Rattle.jl_model.specs.LineGrammar.{QuadsOf, BeginsLines}
use Rattle.jl_model.specs.Parts.{Parts}
use Rattle.jl_model.specs.declared.codes.Code.TheVariants as codes
use Rattle.jl_model.specs.declared.faults.Fault.{Fault}
use Rattle.jl_nquads.specs.EndedLines.{LinesEnded}
use Rattle.jl_nquads.specs.LineStates.{LineState}
use Rattle.jl_nquads.specs.declared.readers.LineStep.{LineStep}
use Rattle.jl_nquads.specs.declared.line_stops.LineStop.{LineStop}
use Rattle.jl_nquads.specs.declared.line_stops.LineStop.TheVariants.{Refused, NoMemory}

-- the reader goes on behind these bytes, of whose ended lines it has given the quads
pub record HasRead (read : List ℕ) (given : List Parts) (reader : LineState) : Type 0 where
  pub goes_on : reader.stopped ≡ None
  pub lines : LinesEnded read given reader.part
  pub place : reader.start + length reader.part ≡ length read

-- with the last byte a line ends that is bad: no lines of quads begin with the bytes. Those before it have these quads
pub record RefusesLine (read : List ℕ) (given : List Parts) (fault : Fault) : Type 0 where
  pub before : List ℕ
  pub end_byte : ℕ
  pub read_is : read ≡ before ++ end_byte ∷ []
  pub line : List ℕ
  pub lines : LinesEnded before given line
  pub code : fault.code ≡ codes.BadLine
  pub bad : BadLine read fault.at
  pub begins_none : BeginsLines read → ⊥

-- the last line, which nothing ends, is bad
pub record RefusesEnd (read : List ℕ) (fault : Fault) : Type 0 where
  pub code : fault.code ≡ codes.BadLine
  pub bad : BadLine read fault.at
  pub has_none : (quads : List Parts) → QuadsOf read quads → ⊥

-- one of the bytes behind those read ends a bad line
pub record RefusesIn (read : List ℕ) (given : List Parts) (bytes : List ℕ) (fault : Fault) : Type 0 where
  pub front : List ℕ
  pub back : List ℕ
  pub bytes_are : bytes ≡ front ++ back
  pub some : 0 < length front
  pub refuses : RefusesLine (read ++ front) given fault

-- the first bytes were read: up to and with the one that ends a line with a quad, or all
pub record Steps (step : LineStep) (bytes : List ℕ) (old new : LineState) : Type 0 where
  pub within : step.count ≤ length bytes
  pub some : IsSome step.quad → 0 < step.count
  pub all : step.quad ≡ None → step.count ≡ length bytes
  pub place : new.start + length new.part ≡ old.start + length old.part + step.count
  pub reads : (read : List ℕ) (given : List Parts) → HasRead read given old
      → HasRead (read ++ take step.count bytes) (given ++ option_to_list step.quad) new

-- what is answered to bytes, whatever was read before
abbrev pub AnswersBytes : Result LineStep LineStop → List ℕ → LineState → LineState → Type 0
AnswersBytes (Ok step) bytes old new = Steps step bytes old new
AnswersBytes (Err (Refused fault)) bytes old new =
    (read : List ℕ) (given : List Parts) → HasRead read given old → RefusesIn read given bytes fault
AnswersBytes (Err NoMemory) bytes old new = Unit {0}

-- what is answered to one byte
abbrev pub AnswersByte : Result (Option Parts) LineStop → ℕ → LineState → LineState → Type 0
AnswersByte (Ok quad) byte old new =
    (read : List ℕ) (given : List Parts) → HasRead read given old → HasRead (read ++ byte ∷ []) (given ++ option_to_list quad) new
AnswersByte (Err (Refused fault)) byte old new =
    (read : List ℕ) (given : List Parts) → HasRead read given old → RefusesLine (read ++ byte ∷ []) given fault
AnswersByte (Err NoMemory) byte old new = Unit {0}

-- what is answered at the end
abbrev pub AnswersEnd : Result (Option Parts) LineStop → LineState → Type 0
AnswersEnd (Ok quad) old =
    (read : List ℕ) (given : List Parts) → HasRead read given old → QuadsOf read (given ++ option_to_list quad)
AnswersEnd (Err (Refused fault)) old =
    (read : List ℕ) (given : List Parts) → HasRead read given old → RefusesEnd read fault
AnswersEnd (Err NoMemory) old = Unit {0}

-- the error that a call answers stops the reader
abbrev pub stop_of : {A : Type 0} → Result A LineStop → Option LineStop
stop_of (Ok a) = None
stop_of (Err stop) = Some stop

-- a reader that has stopped answers the same error again, and stays as it is
abbrev pub StaysStopped : {A : Type 0} → Option LineStop → Result A LineStop → LineState → LineState → Type 0
StaysStopped None result old new = Unit {0}
StaysStopped (Some stop) result old new = (result ≡ Err stop) × (new ≡ old)
