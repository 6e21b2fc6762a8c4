-- From lines of quads to the text of the writer.
use Rattle.std.specs.Prelude.{◌≡◌, ℕ, ◌-◌, ◌^◌, List, [], ◌++◌, length, min, Option, IfSome, Result, Ok, Err}
use Rattle.jl_model.specs.LineGrammar.{QuadsOf}
use Rattle.jl_model.specs.Parts.{Parts}
use Rattle.jl_model.specs.declared.faults.Fault.{Fault}
use Rattle.jl_defs.specs.WriterText.{open_text, writer_text}
use Rattle.jl_engine.specs.declared.stops.Stop.{Stop}
use Rattle.jl_engine.specs.declared.stops.Stop.TheVariants.{Refused, OutFault, NoMemory}
use Rattle.jl_io.specs.Outside.{appended}
use Rattle.jl_nquads.specs.EndedLines.{LinesEnded}
use Rattle.jl_nquads.specs.LineReading.{HasRead, RefusesLine, RefusesEnd}
use Rattle.jl_writer.specs.Writing.{IsOpen}
use Rattle.jl_top.specs.declared.conversions.Conversion.{Conversion}

-- the number of quads, up to 2^64 - 1
abbrev pub counted : List Parts → ℕ
counted quads = min (length quads) (2 ^ 64 - 1)

-- these bytes were read, and the open text of the quads of their ended lines was put; nothing had been put before
pub record Converts (before : Option (List ℕ)) (bytes : List ℕ) (quads : List Parts) (c : Conversion) (put : Option (List ℕ)) : Type 0 where
  pub fresh : IfSome before (λ told. told ≡ [])
  pub reads : HasRead bytes quads c.reader
  pub writes : IsOpen before c.writer quads put
  pub count : c.quads ≡ counted quads

-- the bytes are lines of these quads and the beginning of one more, or such lines and a bad one, or all lines of them
pub data AreQuadsOf (bytes : List ℕ) (quads : List Parts) : Type 0 where
  of_bad : (fault : Fault) → RefusesLine bytes quads fault → AreQuadsOf bytes quads
  of_lines : (begun : List ℕ) → LinesEnded bytes quads begun → AreQuadsOf bytes quads
  of_all : QuadsOf bytes quads → AreQuadsOf bytes quads

-- a front of the writer's text of these quads was put
pub record PutsTextFront (before : Option (List ℕ)) (quads : List Parts) (put : Option (List ℕ)) : Type 0 where
  pub front : List ℕ
  pub back : List ℕ
  pub text_is : writer_text quads ≡ front ++ back
  pub put_is : put ≡ appended before front

-- what stands put where the reading of these bytes stopped: where a line is refused, the open text of the quads before it
abbrev pub StopsFor : Option (List ℕ) → List ℕ → List Parts → Stop → Option (List ℕ) → Type 0
StopsFor before bytes quads (Refused fault) put = RefusesLine bytes quads fault × (put ≡ appended before (open_text quads))
StopsFor before bytes quads OutFault put = AreQuadsOf bytes quads × PutsTextFront before quads put
StopsFor before bytes quads NoMemory put = AreQuadsOf bytes quads × PutsTextFront before quads put

-- a front of the piece stopped the reading
pub record StopsIn (before : Option (List ℕ)) (bytes : List ℕ) (quads : List Parts) (piece : List ℕ) (stop : Stop) (c : Conversion) (put : Option (List ℕ)) : Type 0 where
  pub front : List ℕ
  pub back : List ℕ
  pub piece_is : piece ≡ front ++ back
  pub more : List Parts
  pub stops : StopsFor before (bytes ++ front) (quads ++ more) stop put
  pub count : c.quads ≡ counted (quads ++ more)

-- the piece was read
pub record ConvertsMore (before : Option (List ℕ)) (bytes : List ℕ) (quads : List Parts) (piece : List ℕ) (c : Conversion) (put : Option (List ℕ)) : Type 0 where
  pub more : List Parts
  pub converts : Converts before (bytes ++ piece) (quads ++ more) c put

-- what is answered to a piece, whatever was read before
abbrev pub AnswersPiece : Result (Unit {0}) Stop → List ℕ → Conversion → Conversion → Option (List ℕ) → Option (List ℕ) → Type 0
AnswersPiece (Ok u) piece old new put_old put_new =
    (before : Option (List ℕ)) (bytes : List ℕ) (quads : List Parts) → Converts before bytes quads old put_old → ConvertsMore before bytes quads piece new put_new
AnswersPiece (Err stop) piece old new put_old put_new =
    (before : Option (List ℕ)) (bytes : List ℕ) (quads : List Parts) → Converts before bytes quads old put_old → StopsIn before bytes quads piece stop new put_new

-- the bytes are lines of the quads, and the text of these was put
pub record ConvertsAll (before : Option (List ℕ)) (bytes : List ℕ) (quads : List Parts) (c : Conversion) (put : Option (List ℕ)) : Type 0 where
  pub more : List Parts
  pub all : QuadsOf bytes (quads ++ more)
  pub text : put ≡ appended before (writer_text (quads ++ more))
  pub count : c.quads ≡ counted (quads ++ more)

-- what stands put where the end stopped the reading
abbrev pub EndsFor : Option (List ℕ) → List ℕ → List Parts → Stop → Option (List ℕ) → Type 0
EndsFor before bytes quads (Refused fault) put = RefusesEnd bytes fault × AreQuadsOf bytes quads × (put ≡ appended before (open_text quads))
EndsFor before bytes quads OutFault put = AreQuadsOf bytes quads × PutsTextFront before quads put
EndsFor before bytes quads NoMemory put = AreQuadsOf bytes quads × PutsTextFront before quads put

pub record StopsAtEnd (before : Option (List ℕ)) (bytes : List ℕ) (quads : List Parts) (stop : Stop) (c : Conversion) (put : Option (List ℕ)) : Type 0 where
  pub more : List Parts
  pub stops : EndsFor before bytes (quads ++ more) stop put
  pub count : c.quads ≡ counted (quads ++ more)

-- what is answered at the end
abbrev pub AnswersEnd : Result (Unit {0}) Stop → Conversion → Conversion → Option (List ℕ) → Option (List ℕ) → Type 0
AnswersEnd (Ok u) old new put_old put_new =
    (before : Option (List ℕ)) (bytes : List ℕ) (quads : List Parts) → Converts before bytes quads old put_old → ConvertsAll before bytes quads new put_new
AnswersEnd (Err stop) old new put_old put_new =
    (before : Option (List ℕ)) (bytes : List ℕ) (quads : List Parts) → Converts before bytes quads old put_old → StopsAtEnd before bytes quads stop new put_new
