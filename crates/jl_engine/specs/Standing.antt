-- What an engine has read, what it has put for that, and why it stops.
use Rattle.std.specs.Prelude.{◌≡◌, ℕ, Bool, false, List, [], ◌∷◌, ◌++◌, length, filter, None, Ok}
use Rattle.jl_model.specs.Parts.{Parts}
use Rattle.jl_model.specs.JsonTree.{Tree}
use Rattle.jl_model.specs.JsonText.{Begins}
use Rattle.jl_model.specs.TextFaults.{Breaks, IsTruncated}
use Rattle.jl_model.specs.declared.codes.Code.TheVariants.{NotYet, TooLong}
use Rattle.jl_model.specs.declared.faults.Fault.{Fault}
use Rattle.jl_model.specs.declared.orders.Order.TheVariants.{Streaming}
use Rattle.jl_model.specs.declared.tokens.Token.{Token}
use Rattle.jl_token.specs.Lexed as lexed
use Rattle.jl_defs.specs.Context.{initial}
use Rattle.jl_defs.specs.Settings.{Settings}
use Rattle.jl_defs.specs.Sets.{Has, IsWithin, SameSet}
use Rattle.jl_defs.specs.Dataset.{dataset}
use Rattle.jl_defs.specs.Faults.{faults, AcceptsTree}
use Rattle.jl_defs.specs.OpenText.{ReadsAs}
use Rattle.jl_context.specs.Contexts.{context_of}
use Rattle.jl_frames.specs.Formed.{formed}
use Rattle.jl_walk.specs.Feeding.{start}
use Rattle.jl_walk.specs.Running.{run}
use Rattle.jl_walk.specs.Stage.{document_forms}
use Rattle.jl_walk.specs.States.{State, at}
use Rattle.jl_engine.specs.Keeping.{Keeps}
use Rattle.jl_engine.specs.TreeEvents.{events_of, all_walked}
use Rattle.jl_engine.specs.declared.engines.EngineState.{EngineState}
use Rattle.jl_engine.specs.declared.stops.Stop.{Stop}
use Rattle.jl_engine.specs.declared.stops.Stop.TheVariants as stops

-- the engine was fed these bytes with these settings, and they say these quads so far
pub record Stands (s : Settings) (bytes : List ℕ) (quads : List Parts) (e : EngineState) : Type 0 where
  pub streaming : s.order ≡ Streaming
  pub context : context_of e.context ≡ initial s.base
  pub tokens : List Token
  pub lexer : lexed.Stands 0 bytes tokens e.lexer
  pub live : e.lexer.ended ≡ false
  -- the walk goes over the events, and the engine keeps the state to which it leads
  pub said : List Parts
  pub state : State
  pub walked : run s (all_walked (events_of tokens)) (at (start s)) ≡ Ok (said, state)
  pub keeps : Keeps s state e.reader
  -- the quads are those that are well-formed
  pub quads_are : quads ≡ formed said
  pub count : e.bytes ≡ length bytes
  pub goes_on : e.stopped ≡ None
  pub going : e.ended ≡ false

-- the document is of the forms that are built
abbrev pub IsWithinStage : Settings → Tree → Type 0
IsWithinStage s t = document_forms s t ≡ []

-- the quads are of the dataset of each accepted document that begins with the bytes
abbrev pub AreSure : Settings → List ℕ → List Parts → Type 0
AreSure s bytes quads = (rest : List ℕ) (t : Tree) → ReadsAs (bytes ++ rest) t → AcceptsTree s t → IsWithinStage s t → IsWithin quads (dataset s t)

-- the bytes say these quads so far: an engine that was fed just them has told these
abbrev pub AreSaid : Settings → List ℕ → List Parts → Type 0
AreSaid s bytes quads = (e : EngineState) × Stands s bytes quads e

-- the bytes before the last one say these quads
pub record AreSaidBefore (s : Settings) (bytes : List ℕ) (quads : List Parts) : Type 0 where
  pub front : List ℕ
  pub byte : ℕ
  pub bytes_are : bytes ≡ front ++ byte ∷ []
  pub said : AreSaid s front quads

-- these quads were put: an out that told some tells those of them too that pass its test
abbrev pub WerePut : (List Parts → Type 0) → (List Parts → Type 0) → (Parts → Bool) → List Parts → Type 0
WerePut told tells selects quads = (all : List Parts) → told all → tells (all ++ filter selects quads)

-- a piece was read, and the quads that it makes sure were put
pub record Fed (s : Settings) (bytes : List ℕ) (quads : List Parts) (piece : List ℕ) (e : EngineState) (told tells : List Parts → Type 0) (selects : Parts → Bool) : Type 0 where
  pub more : List Parts
  pub stands : Stands s (bytes ++ piece) (quads ++ more) e
  pub put : WerePut told tells selects more

-- ---- why the bytes are refused

-- with the last byte the text stops being readable
pub record BreaksText (bytes : List ℕ) (f : Fault) : Type 0 where
  pub front : List ℕ
  pub byte : ℕ
  pub bytes_are : bytes ≡ front ++ byte ∷ []
  pub breaks : Breaks 0 front byte f

-- the last byte stands at the last place
pub record IsTooLong (bytes : List ℕ) (f : Fault) : Type 0 where
  pub front : List ℕ
  pub byte : ℕ
  pub bytes_are : bytes ≡ front ++ byte ∷ []
  pub full : length front ≡ lexed.end_of_places
  pub fault_is : f ≡ record { code = TooLong; at = lexed.end_of_places }

-- the bytes begin a readable text, and each readable text that begins so has this fault
pub record IsFaulty (s : Settings) (bytes : List ℕ) (f : Fault) : Type 0 where
  pub begins : Begins 0 bytes
  pub faulty : (rest : List ℕ) (t : Tree) → ReadsAs (bytes ++ rest) t → Has (faults s t) f

-- the bytes begin a readable text, and in each readable text that begins so a form that isn't built stands at this place
pub record IsNotBuilt (s : Settings) (bytes : List ℕ) (f : Fault) : Type 0 where
  pub begins : Begins 0 bytes
  pub code_is : f.code ≡ NotYet
  pub stands : (rest : List ℕ) (t : Tree) → ReadsAs (bytes ++ rest) t → Has (document_forms s t) f.at

pub data Refusal (s : Settings) (bytes : List ℕ) (f : Fault) : Type 0 where
  by_text : BreaksText bytes f → Refusal s bytes f
  by_length : IsTooLong bytes f → Refusal s bytes f
  by_fault : IsFaulty s bytes f → Refusal s bytes f
  by_form : IsNotBuilt s bytes f → Refusal s bytes f

-- why the bytes stop the engine; the out and running out of memory have their causes elsewhere
abbrev pub Cause : Settings → List ℕ → Stop → Type 0
Cause s bytes (stops.Refused f) = Refusal s bytes f
Cause s bytes stops.OutFault = Unit {0}
Cause s bytes stops.NoMemory = Unit {0}

-- what was put for bytes that stopped the engine: where their last byte is refused, all that those before it say;
-- where the out failed or memory was short, quads that are sure
abbrev pub AreLeft : Settings → List ℕ → List Parts → Stop → Type 0
AreLeft s bytes quads (stops.Refused f) = AreSaidBefore s bytes quads
AreLeft s bytes quads stops.OutFault = AreSure s bytes quads
AreLeft s bytes quads stops.NoMemory = AreSure s bytes quads

-- a byte of a piece stopped the engine
pub record Stopped (s : Settings) (bytes : List ℕ) (quads : List Parts) (piece : List ℕ) (stop : Stop) (e : EngineState) (told tells : List Parts → Type 0) (selects : Parts → Bool) : Type 0 where
  pub front : List ℕ
  pub back : List ℕ
  pub piece_is : piece ≡ front ++ back
  pub count : e.bytes ≡ length (bytes ++ front)
  pub more : List Parts
  pub left : AreLeft s (bytes ++ front) (quads ++ more) stop
  pub put : WerePut told tells selects more
  pub cause : Cause s (bytes ++ front) stop

-- the document was read to its end: it is accepted, and the quads are its dataset
pub record Finished (s : Settings) (bytes : List ℕ) (quads : List Parts) (told tells : List Parts → Type 0) (selects : Parts → Bool) : Type 0 where
  pub more : List Parts
  pub tree : Tree
  pub reads : ReadsAs bytes tree
  pub accepted : AcceptsTree s tree
  pub built : IsWithinStage s tree
  pub quads_are : SameSet (quads ++ more) (dataset s tree)
  pub sure : AreSure s bytes (quads ++ more)
  pub put : WerePut told tells selects more

-- the bytes are a readable text, and as whichever tree they are read, it has this fault
pub record IsFaultyWhole (s : Settings) (bytes : List ℕ) (f : Fault) : Type 0 where
  pub tree : Tree
  pub reads : ReadsAs bytes tree
  pub faulty : (t : Tree) → ReadsAs bytes t → Has (faults s t) f

-- the same of a form there that isn't built
pub record IsNotBuiltWhole (s : Settings) (bytes : List ℕ) (f : Fault) : Type 0 where
  pub tree : Tree
  pub reads : ReadsAs bytes tree
  pub code_is : f.code ≡ NotYet
  pub stands : (t : Tree) → ReadsAs bytes t → Has (document_forms s t) f.at

-- why the end stops the engine: the bytes are no readable text, or one with this fault, or with a form that isn't built
pub data EndRefusal (s : Settings) (bytes : List ℕ) (f : Fault) : Type 0 where
  by_end : IsTruncated 0 bytes f → EndRefusal s bytes f
  by_fault : IsFaultyWhole s bytes f → EndRefusal s bytes f
  by_form : IsNotBuiltWhole s bytes f → EndRefusal s bytes f

abbrev pub EndCause : Settings → List ℕ → Stop → Type 0
EndCause s bytes (stops.Refused f) = EndRefusal s bytes f
EndCause s bytes stops.OutFault = Unit {0}
EndCause s bytes stops.NoMemory = Unit {0}

-- the end stopped the engine, and all that the bytes say was put
pub record StoppedAtEnd (s : Settings) (bytes : List ℕ) (quads : List Parts) (stop : Stop) (told tells : List Parts → Type 0) (selects : Parts → Bool) : Type 0 where
  pub more : List Parts
  pub said : AreSaid s bytes (quads ++ more)
  pub put : WerePut told tells selects more
  pub cause : EndCause s bytes stop
