-- What a piece of the input, or its end, puts as lines.
use Rattle.std.specs.Prelude.{◌≡◌, ◌≢◌, ℕ, Bool, true, false, List, ◌++◌, length, Option, IfSome, Result, IfErr}
use Rattle.jl_model.specs.JsonTree.{Tree}
use Rattle.jl_model.specs.Parts.{Parts}
use Rattle.jl_defs.specs.Settings.{Settings}
use Rattle.jl_defs.specs.Sets.{SameSet}
use Rattle.jl_defs.specs.Dataset.{dataset}
use Rattle.jl_defs.specs.Faults.{AcceptsTree}
use Rattle.jl_defs.specs.OpenText.{ReadsAs}
use Rattle.jl_engine.specs.Standing.{Stands, AreSure, AreSaid, AreLeft, IsWithinStage, Cause, EndCause}
use Rattle.jl_engine.specs.declared.engines.EngineState.{EngineState}
use Rattle.jl_engine.specs.declared.stops.Stop.{Stop}
use Rattle.jl_engine.specs.declared.stops.Stop.TheVariants.{Refused, OutFault, NoMemory}
use Rattle.jl_nquads.specs.LineOuts.{TellsLines}

-- the out failed
abbrev pub is_out_fault : Stop → Bool
is_out_fault OutFault = true
is_out_fault _ = false

-- the engine was fed something, and goes on
abbrev pub HasBegun : EngineState → Type 0
HasBegun e = (s : Settings) × (bytes : List ℕ) × (quads : List Parts) × Stands s bytes quads e

-- the bytes are an accepted document, and the quads are its dataset, and sure
pub record IsRead (s : Settings) (bytes : List ℕ) (quads : List Parts) : Type 0 where
  pub tree : Tree
  pub reads : ReadsAs bytes tree
  pub accepted : AcceptsTree s tree
  pub built : IsWithinStage s tree
  pub quads_are : SameSet quads (dataset s tree)
  pub sure : AreSure s bytes quads

-- the bytes put, where they are told, are the lines of quads of which this holds, and a front of one more only after a failure
pub record PutsLines (Holds : List Parts → Type 0) (failed : Bool) (put : Option (List ℕ)) : Type 0 where
  pub quads : List Parts
  pub holds : Holds quads
  pub lines : IfSome put (TellsLines failed quads)

-- with some more quads this holds, and their lines were put behind those of the quads before
pub record AddsLines (Holds : List Parts → Type 0) (quads : List Parts) (put_old put_new : Option (List ℕ)) : Type 0 where
  pub more : List Parts
  pub holds : Holds (quads ++ more)
  pub lines : IfSome put_old (TellsLines false quads) → IfSome put_new (TellsLines false (quads ++ more))

-- the piece was read, and the lines of its quads were put
abbrev pub FedLines : Settings → List ℕ → List Parts → List ℕ → EngineState → Option (List ℕ) → Option (List ℕ) → Type 0
FedLines s bytes quads piece e put_old put_new = AddsLines (λ all. Stands s (bytes ++ piece) all e) quads put_old put_new

-- a front of the piece stopped the reading, and the lines of what is left for that were put
pub record StoppedLines (s : Settings) (bytes : List ℕ) (quads : List Parts) (piece : List ℕ) (stop : Stop) (e : EngineState) (put_old put_new : Option (List ℕ)) : Type 0 where
  pub front : List ℕ
  pub back : List ℕ
  pub piece_is : piece ≡ front ++ back
  pub cause : Cause s (bytes ++ front) stop
  pub count : e.bytes ≡ length (bytes ++ front)
  pub puts : IfSome put_old (TellsLines false quads) → PutsLines (λ all. AreLeft s (bytes ++ front) all stop) (is_out_fault stop) put_new

-- the document was read to its end, and the lines of all its quads were put
abbrev pub FinishedLines : Settings → List ℕ → List Parts → Option (List ℕ) → Option (List ℕ) → Type 0
FinishedLines s bytes quads put_old put_new = AddsLines (IsRead s bytes) quads put_old put_new

-- what is put where the end stops the reading: all that the bytes say, unless the out fails
abbrev pub AreLeftAtEnd : Settings → List ℕ → List Parts → Stop → Type 0
AreLeftAtEnd s bytes quads (Refused fault) = AreSaid s bytes quads
AreLeftAtEnd s bytes quads OutFault = AreSure s bytes quads
AreLeftAtEnd s bytes quads NoMemory = AreSaid s bytes quads

-- the end stopped the reading, and the lines of what is left were put
pub record EndedLines (s : Settings) (bytes : List ℕ) (quads : List Parts) (stop : Stop) (put_old put_new : Option (List ℕ)) : Type 0 where
  pub cause : EndCause s bytes stop
  pub puts : IfSome put_old (TellsLines false quads) → PutsLines (λ all. AreLeftAtEnd s bytes all stop) (is_out_fault stop) put_new

-- the out fails with this answer, and hadn't with the stop before
abbrev pub FailedNow : Stop → Stop → Type 0
FailedNow before now = (before ≢ OutFault) × (now ≡ OutFault)

-- where the piece stopped the reading, the lines of some quads were put, whatever was read before
pub record StopsWithLines (result : Result (Unit {0}) Stop) (old new : EngineState) (piece : List ℕ) (put_old put_new : Option (List ℕ)) : Type 0 where
  pub stopped : IfErr result (λ stop. (s : Settings) (bytes : List ℕ) (quads : List Parts) → Stands s bytes quads old → StoppedLines s bytes quads piece stop new put_old put_new)

-- where the end stopped it, too
pub record EndsWithLines (result : Result (Unit {0}) Stop) (old : EngineState) (put_old put_new : Option (List ℕ)) : Type 0 where
  pub stopped : IfErr result (λ stop. (s : Settings) (bytes : List ℕ) (quads : List Parts) → Stands s bytes quads old → EndedLines s bytes quads stop put_old put_new)
