-- What a run of `read` says of the port.
use Rattle.std.specs.Prelude.{◌≡◌, ℕ, ◌^◌, ◌<◌, ◌≤◌, Bool, true, false, nat_lt, List, [], ◌∷◌, ◌++◌, length, flat_map, Option, IfSome, Result, Ok, Err, OnOk}
use Rattle.jl_io.specs.Outside.{Leaves, NoneLeft}
use Rattle.jl_model.specs.Lines.{line}
use Rattle.jl_model.specs.Parts.{Parts}
use Rattle.jl_model.specs.declared.faults.Fault.{Fault}
use Rattle.jl_defs.specs.Settings.{Settings}
use Rattle.jl_engine.specs.Standing.{Stands, AreSure, AreSaid, BreaksText, IsFaulty, IsNotBuilt, EndRefusal}
use Rattle.jl_engine.specs.declared.engines.EngineState.{EngineState}
use Rattle.jl_engine.specs.declared.stops.Stop.{Stop}
use Rattle.jl_engine.specs.declared.stops.Stop.TheVariants as stops
use Rattle.jl_nquads.specs.LineOuts.{TellsLines}
use Rattle.jl_top.specs.Blocks.{held_of, CountsLines}
use Rattle.jl_top.specs.Pieces.{IsRead, PutsLines, FinishedLines, EndedLines}
use Rattle.jl_top.specs.declared.blocks.Block.{Block}
use Rattle.jl_top.specs.declared.stops.ReadStop.{ReadStop}
use Rattle.jl_top.specs.declared.stops.ReadStop.TheVariants.{Refused, TooLong, TakeFault, OutFault, NoMemory}

-- nothing was taken from the port or put to it, where it tells that
pub record IsFresh (taken put : Option (List ℕ)) : Type 0 where
  pub none_taken : IfSome taken (λ bytes. bytes ≡ [])
  pub none_put : IfSome put (λ bytes. bytes ≡ [])

-- these are the bytes taken, where the port tells them
pub record Took (bytes : List ℕ) (taken left_old left_new : Option (List ℕ)) : Type 0 where
  pub taken_is : IfSome taken (λ told. told ≡ bytes)
  pub left_is : Leaves left_old bytes left_new

-- the whole input was taken, it is an accepted document, and the lines put are those of its dataset
pub record ReadsWhole (s : Settings) (taken left_old left_new put : Option (List ℕ)) : Type 0 where
  pub bytes : List ℕ
  pub took : Took bytes taken left_old left_new
  pub none_left : NoneLeft left_new
  pub quads : List Parts
  pub document : IsRead s bytes quads
  pub lines : IfSome put (λ told. told ≡ flat_map line quads)

-- with the last byte the bytes have a fault: that byte breaks the text; or each readable text that begins so has the
-- fault, or has a form there that isn't built
pub data IsAtFault (s : Settings) (bytes : List ℕ) (fault : Fault) : Type 0 where
  by_text : BreaksText bytes fault → IsAtFault s bytes fault
  by_fault : IsFaulty s bytes fault → IsAtFault s bytes fault
  by_form : IsNotBuilt s bytes fault → IsAtFault s bytes fault

-- how many bytes are taken at once, at most
abbrev pub piece_size : ℕ
piece_size = 65536

-- a byte is at fault: at most the rest of its piece was taken after it, and the lines put are those of all that the bytes
-- before it say
pub record IsRefused (s : Settings) (bytes : List ℕ) (fault : Fault) (put : Option (List ℕ)) : Type 0 where
  pub front : List ℕ
  pub byte : ℕ
  pub back : List ℕ
  pub bytes_are : bytes ≡ front ++ byte ∷ back
  pub is_fault : IsAtFault s (front ++ byte ∷ []) fault
  pub few : length back ≤ piece_size
  pub lines : PutsLines (AreSaid s front) false put

-- the end was told, and is refused: the lines put are those of all that the bytes say
pub record EndIsRefused (s : Settings) (bytes : List ℕ) (fault : Fault) (put : Option (List ℕ)) (told_end : Bool) (left : Option (List ℕ)) : Type 0 where
  pub refusal : EndRefusal s bytes fault
  pub ended : told_end ≡ true
  pub none_left : NoneLeft left
  pub lines : PutsLines (AreSaid s bytes) false put

-- the bytes have this fault, in one of them or at their end
pub data IsFault (s : Settings) (bytes : List ℕ) (fault : Fault) (put : Option (List ℕ)) (told_end : Bool) (left : Option (List ℕ)) : Type 0 where
  in_bytes : IsRefused s bytes fault put → IsFault s bytes fault put told_end left
  at_end : EndIsRefused s bytes fault put told_end left → IsFault s bytes fault put told_end left

-- the bytes taken have this fault
pub record HasFault (s : Settings) (fault : Fault) (taken left_old left_new put : Option (List ℕ)) (told_end : Bool) : Type 0 where
  pub bytes : List ℕ
  pub took : Took bytes taken left_old left_new
  pub is_fault : IsFault s bytes fault put told_end left_new

-- the lines put are those of all that the bytes taken say
pub record SaysAllTaken (s : Settings) (taken left_old left_new put : Option (List ℕ)) : Type 0 where
  pub bytes : List ℕ
  pub took : Took bytes taken left_old left_new
  pub lines : PutsLines (AreSaid s bytes) false put

-- more bytes than may be were taken, and the lines put are those of all that a front of them says, of so many bytes at
-- least as may be
pub record TakesTooMany (s : Settings) (taken left_old left_new put : Option (List ℕ)) : Type 0 where
  pub front : List ℕ
  pub back : List ℕ
  pub took : Took (front ++ back) taken left_old left_new
  pub too_many : 2 ^ 40 < length (front ++ back)
  pub long : 2 ^ 40 ≤ length front
  pub lines : PutsLines (AreSaid s front) false put

-- the lines put are those of quads that a front of the bytes taken makes sure, behind which at most one piece was taken
pub record SureBeforePiece (s : Settings) (taken left_old left_new put : Option (List ℕ)) : Type 0 where
  pub front : List ℕ
  pub back : List ℕ
  pub took : Took (front ++ back) taken left_old left_new
  pub few : length back ≤ piece_size
  pub lines : PutsLines (AreSure s front) false put

-- what was taken and put where the reading stopped; for an out that failed only what is said of every end holds
abbrev pub StopsFor : Settings → ReadStop → Option (List ℕ) → Option (List ℕ) → Option (List ℕ) → Option (List ℕ) → Bool → Type 0
StopsFor s (Refused fault) taken left_old left_new put told_end = HasFault s fault taken left_old left_new put told_end
StopsFor s TooLong taken left_old left_new put told_end = TakesTooMany s taken left_old left_new put
StopsFor s TakeFault taken left_old left_new put told_end = SaysAllTaken s taken left_old left_new put
StopsFor s NoMemory taken left_old left_new put told_end = SureBeforePiece s taken left_old left_new put
StopsFor s OutFault taken left_old left_new put told_end = Unit {0}

abbrev pub StopsRun : Settings → Result (Unit {0}) ReadStop → Option (List ℕ) → Option (List ℕ) → Option (List ℕ) → Option (List ℕ) → Bool → Type 0
StopsRun s (Ok u) taken left_old left_new put told_end = Unit {0}
StopsRun s (Err stop) taken left_old left_new put told_end = StopsFor s stop taken left_old left_new put told_end

-- the lines put are those of quads that are sure for the bytes taken
pub record LinesAreSure (s : Settings) (cut : Bool) (taken left_old left_new put : Option (List ℕ)) : Type 0 where
  pub bytes : List ℕ
  pub took : Took bytes taken left_old left_new
  pub puts : PutsLines (AreSure s bytes) cut put

abbrev pub is_cut : Result (Unit {0}) ReadStop → Bool
is_cut (Err OutFault) = true
is_cut _ = false

-- what a run of `read` answers, and what it has put; a line is cut only where the out failed
pub record AnswersRun (s : Settings) (result : Result (Unit {0}) ReadStop) (taken left_old left_new put : Option (List ℕ)) (told_end : Bool) : Type 0 where
  pub whole : OnOk result (ReadsWhole s taken left_old left_new put)
  pub ended : OnOk result (told_end ≡ true)
  pub stops : StopsRun s result taken left_old left_new put told_end
  pub lines : LinesAreSure s (is_cut result) taken left_old left_new put

-- the bytes taken so far were read, and the lines of their quads put
pub record HasPut (s : Settings) (bytes : List ℕ) (engine : EngineState) (put : Option (List ℕ)) : Type 0 where
  pub quads : List Parts
  pub stands : Stands s bytes quads engine
  pub lines : IfSome put (TellsLines false quads)

-- what the loop has done since the engine stood at the start
pub record Going (start engine : EngineState) (block : Block) (taken left_old left_new put : Option (List ℕ)) (count : ℕ) : Type 0 where
  pub bytes : List ℕ
  pub took : Took bytes taken left_old left_new
  pub puts : (s : Settings) → Stands s [] [] start → HasPut s bytes engine put
  pub none_held : held_of block ≡ []
  pub counts : CountsLines put block.lines
  pub many : count ≡ length bytes

-- a stop as it ends the run
abbrev pub read_stop_for : Stop → ReadStop
read_stop_for (stops.Refused fault) = Refused fault
read_stop_for stops.OutFault = OutFault
read_stop_for stops.NoMemory = NoMemory

-- how the end of the input ends the run
abbrev pub EndsRun : Result (Unit {0}) ReadStop → EngineState → Option (List ℕ) → Option (List ℕ) → Type 0
EndsRun (Ok u) engine put_old put_new = (s : Settings) (bytes : List ℕ) (quads : List Parts) → Stands s bytes quads engine → FinishedLines s bytes quads put_old put_new
EndsRun (Err stop) engine put_old put_new =
    (x : Stop) × (stop ≡ read_stop_for x) × ((s : Settings) (bytes : List ℕ) (quads : List Parts) → Stands s bytes quads engine → EndedLines s bytes quads x put_old put_new)

-- a stop within a piece, where the engine was fed this many bytes: beyond the last place the document is too long
abbrev pub piece_stop_for : Stop → ℕ → ReadStop
piece_stop_for (stops.Refused fault) bytes = elim (nat_lt (2 ^ 40) bytes) [ true ↦ TooLong | false ↦ Refused fault ]
piece_stop_for stops.OutFault bytes = OutFault
piece_stop_for stops.NoMemory bytes = NoMemory
