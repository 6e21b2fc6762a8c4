-- What a run of `write` says of the port.
use Rattle.std.specs.Prelude.{◌≡◌, ◌≢◌, ◌⊎◌, ℕ, ◌^◌, ◌<◌, ◌≤◌, Bool, true, List, [], ◌++◌, length, Option, Some, IfSome, Result, Ok, Err, OnOk}
use Rattle.jl_model.specs.Causes.{HasCause, Rose}
use Rattle.jl_model.specs.LineGrammar.{QuadsOf}
use Rattle.jl_model.specs.Parts.{Parts}
use Rattle.jl_model.specs.declared.faults.Fault.{Fault}
use Rattle.jl_defs.specs.WriterText.{open_text, writer_text}
use Rattle.jl_engine.specs.declared.stops.Stop.{Stop}
use Rattle.jl_io.specs.Outside.{NoneLeft}
use Rattle.jl_nquads.specs.EndedLines.{LinesEnded}
use Rattle.jl_nquads.specs.LineReading.{RefusesLine, RefusesEnd}
use Rattle.jl_top.specs.Blocks.{held_of}
use Rattle.jl_top.specs.Conversions.{counted, Converts, AreQuadsOf, AnswersEnd}
use Rattle.jl_top.specs.Reports.{IsReport}
use Rattle.jl_top.specs.Runs.{Took, piece_size, read_stop_for}
use Rattle.jl_top.specs.declared.blocks.Block.{Block}
use Rattle.jl_top.specs.declared.conversions.Conversion.{Conversion}
use Rattle.jl_top.specs.declared.reports.Report.{Report}
use Rattle.jl_top.specs.declared.stops.ReadStop.{ReadStop}
use Rattle.jl_top.specs.declared.stops.ReadStop.TheVariants.{Refused, TooLong, TakeFault, OutFault, NoMemory}

-- more may be taken wherever the open text of the quads of the lines that have ended was put, as long as at most 2^40 bytes
-- have been taken
abbrev pub GrantsLines : (List ℕ → List ℕ → Type 0) → Type 0
GrantsLines may_take =
    (taken put begun : List ℕ) (quads : List Parts) → length taken ≤ 2 ^ 40 → LinesEnded taken quads begun → put ≡ open_text quads → may_take taken put

-- this text was put, where that is told
abbrev pub PutsText : Option (List ℕ) → List ℕ → Type 0
PutsText put text = IfSome put (λ told. told ≡ text)

-- the whole input was taken, it is lines of these quads, and their text was put
pub record ConvertsWhole (number : ℕ) (taken left_old left_new put : Option (List ℕ)) : Type 0 where
  pub bytes : List ℕ
  pub took : Took bytes taken left_old left_new
  pub none_left : NoneLeft left_new
  pub quads : List Parts
  pub all : QuadsOf bytes quads
  pub text : PutsText put (writer_text quads)
  pub count : number ≡ counted quads

-- a line is bad: one that ended in the last piece, or the last one where the end was told
pub data IsBadLine (bytes : List ℕ) (quads : List Parts) (fault : Fault) (told_end : Bool) (left : Option (List ℕ)) : Type 0 where
  ended : (front back : List ℕ) → bytes ≡ front ++ back → length back ≤ piece_size → RefusesLine front quads fault → IsBadLine bytes quads fault told_end left
  last : told_end ≡ true → NoneLeft left → RefusesEnd bytes fault → AreQuadsOf bytes quads → IsBadLine bytes quads fault told_end left

-- the bytes taken have a bad line at this place, and the open text of the quads of the lines before it was put
pub record HasBadLine (fault : Fault) (number : ℕ) (taken left_old left_new put : Option (List ℕ)) (told_end : Bool) : Type 0 where
  pub bytes : List ℕ
  pub took : Took bytes taken left_old left_new
  pub quads : List Parts
  pub bad : IsBadLine bytes quads fault told_end left_new
  pub text : PutsText put (open_text quads)
  pub count : number ≡ counted quads

-- the open text of the quads of all lines that have ended in the bytes taken was put
pub record ConvertsTaken (number : ℕ) (taken left_old left_new put : Option (List ℕ)) : Type 0 where
  pub bytes : List ℕ
  pub took : Took bytes taken left_old left_new
  pub quads : List Parts
  pub begun : List ℕ
  pub lines : LinesEnded bytes quads begun
  pub text : PutsText put (open_text quads)
  pub count : number ≡ counted quads

-- and more bytes than may be were taken
pub record ConvertsTooMany (number : ℕ) (taken left_old left_new put : Option (List ℕ)) : Type 0 where
  pub so_far : ConvertsTaken number taken left_old left_new put
  pub too_many : 2 ^ 40 < length so_far.bytes

-- a front of the text of quads was put that a front of the bytes taken has
pub record ConvertsFront (number : ℕ) (taken left_old left_new put : Option (List ℕ)) : Type 0 where
  pub front : List ℕ
  pub back : List ℕ
  pub took : Took (front ++ back) taken left_old left_new
  pub few : length back ≤ piece_size
  pub quads : List Parts
  pub are_quads : AreQuadsOf front quads
  pub text : IfSome put (λ told. (rest : List ℕ) × (writer_text quads ≡ told ++ rest))
  pub count : number ≡ counted quads

-- where the run stopped
abbrev pub StopsConversion : ReadStop → ℕ → Option (List ℕ) → Option (List ℕ) → Option (List ℕ) → Option (List ℕ) → Bool → Type 0
StopsConversion (Refused fault) count taken left_old left_new put told_end = HasBadLine fault count taken left_old left_new put told_end
StopsConversion TooLong count taken left_old left_new put told_end = ConvertsTooMany count taken left_old left_new put
StopsConversion TakeFault count taken left_old left_new put told_end = ConvertsTaken count taken left_old left_new put
StopsConversion OutFault count taken left_old left_new put told_end = Unit {0}
StopsConversion NoMemory count taken left_old left_new put told_end = Unit {0}

abbrev pub EndsConversion : Result (Unit {0}) ReadStop → ℕ → Option (List ℕ) → Option (List ℕ) → Option (List ℕ) → Option (List ℕ) → Bool → Type 0
EndsConversion (Ok u) count taken left_old left_new put told_end = ConvertsWhole count taken left_old left_new put × (told_end ≡ true)
EndsConversion (Err stop) count taken left_old left_new put told_end = StopsConversion stop count taken left_old left_new put told_end

-- what a run of `write` answers, and what it has put
pub record AnswersLines (result : Result (Unit {0}) ReadStop) (number : ℕ) (taken left_old left_new put : Option (List ℕ)) (told_end : Bool) : Type 0 where
  pub ends : EndsConversion result number taken left_old left_new put told_end
  pub front : ConvertsFront number taken left_old left_new put

-- how the end of the input ends the run
abbrev pub EndsLines : Result (Unit {0}) ReadStop → Conversion → Conversion → Option (List ℕ) → Option (List ℕ) → Type 0
EndsLines (Ok u) old new put_old put_new = AnswersEnd (Ok u) old new put_old put_new
EndsLines (Err stop) old new put_old put_new = (x : Stop) × (stop ≡ read_stop_for x) × AnswersEnd (Err x) old new put_old put_new

-- what the loop has done
pub record Converting (c : Conversion) (block : Block) (taken left_old left_new put_old put : Option (List ℕ)) (count : ℕ) : Type 0 where
  pub bytes : List ℕ
  pub took : Took bytes taken left_old left_new
  pub quads : List Parts
  pub converts : Converts put_old bytes quads c put
  pub none_held : held_of block ≡ []
  pub many : count ≡ length bytes

-- lines that aren't too many are converted, and a bad line is refused, unless a call of the port fails or memory runs out
abbrev pub IsCompleteConversion : Report → Option (List ℕ) → ℕ → ℕ → ℕ → ℕ → Type 0
IsCompleteConversion report left takes_old takes_new puts_old puts_new =
    (bytes : List ℕ) → left ≡ Some bytes → length bytes ≤ 2 ^ 40 → (Rose takes_old takes_new → ⊥) → (Rose puts_old puts_new → ⊥)
    → ((quads : List Parts) → QuadsOf bytes quads → (report.status ≡ 0) ⊎ (report.status ≡ 5)) × (((quads : List Parts) → QuadsOf bytes quads → ⊥) → (report.status ≡ 1) ⊎ (report.status ≡ 5))

-- what each answer of a run of `write` says
pub record ConversionAnswers (report : Report) (taken left_old left_new put : Option (List ℕ)) (told_end : Bool) (takes_old takes_new puts_old puts_new : ℕ) : Type 0 where
  pub whole : report.status ≡ 0 → ConvertsWhole report.quads taken left_old left_new put
  pub bad_line : report.status ≡ 1 → IfSome report.code (λ code. HasBadLine (record { code = code; at = report.at }) report.quads taken left_old left_new put told_end)
  pub so_far : report.status ≡ 3 → ConvertsTaken report.quads taken left_old left_new put
  pub too_long : report.status ≡ 8 → ConvertsTooMany report.quads taken left_old left_new put
  pub front : ConvertsFront report.quads taken left_old left_new put
  pub complete : IsCompleteConversion report left_old takes_old takes_new puts_old puts_new

-- all that is said of a run of `write`
pub record WriteAnswers (answer : Report) (taken left_old left_new put : Option (List ℕ)) (told_end : Bool) (takes_old takes_new puts_old puts_new : ℕ) : Type 0 where
  pub conversion : ConversionAnswers answer taken left_old left_new put told_end takes_old takes_new puts_old puts_new
  pub command : answer.status ≢ 2
  pub ended : answer.status ≡ 0 → told_end ≡ true
  pub taking : HasCause takes_old takes_new (answer.status ≡ 3)
  pub writing : HasCause puts_old puts_new (answer.status ≡ 4)
  pub report : IsReport answer
