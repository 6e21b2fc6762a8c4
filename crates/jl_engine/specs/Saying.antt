-- What events bring to an engine, and what of it was put.
use Rattle.std.specs.Prelude.{◌≡◌, ◌⊎◌, ℕ, Bool, false, List, [], ◌++◌, Result, Ok, Err}
use Rattle.jl_model.specs.Parts.{Parts}
use Rattle.jl_model.specs.declared.scalars.Scalar.{Scalar}
use Rattle.jl_model.specs.declared.tokens.Token.{Token}
use Rattle.jl_token.specs.declared.states.LexState.{LexState}
use Rattle.jl_defs.specs.Settings.{Settings}
use Rattle.jl_context.specs.Contexts.{context_of}
use Rattle.jl_frames.specs.declared.states.FrameStop.{FrameStop}
use Rattle.jl_engine.specs.Reading.{Read, steps, Reads}
use Rattle.jl_engine.specs.Standing.{Stands, WerePut, Fed, Stopped, Finished, StoppedAtEnd}
use Rattle.jl_engine.specs.TreeEvents.{events_of}
use Rattle.jl_engine.specs.declared.engines.EngineState.{EngineState}
use Rattle.jl_engine.specs.declared.events.Event.{Event}
use Rattle.jl_engine.specs.declared.events.Event.TheVariants as events
use Rattle.jl_engine.specs.declared.readers.Reader.{Reader}
use Rattle.jl_engine.specs.declared.stops.Stop.{Stop}
use Rattle.jl_engine.specs.declared.stops.Stop.TheVariants.{Refused, OutFault, NoMemory}

-- the key that a lexer has read last, and a scalar there
abbrev pub key_read : LexState → Event
key_read l = events.Key l.reading.start l.reading.part

abbrev pub scalar_read : Scalar → LexState → Event
scalar_read v l = events.Value l.reading.start v

-- what events bring to an engine, and what tokens bring
abbrev pub brings : EngineState → List Event → Read
brings e events = steps (context_of e.context) events e.reader

abbrev pub brought : EngineState → List Token → Read
brought e tokens = brings e (events_of tokens)

-- events are told to an engine: their quads come behind those before, or they stop its reader; nothing else of it changes
pub record Tells (result : Result (Unit {0}) FrameStop) (events : List Event) (before now : List Parts) (old new : EngineState) : Type 0 where
  pub reads : Reads result before (brings old events) now new.reader
  pub kept : new ≡ record old { reader = new.reader }

-- ---- what of it was put

-- the events went, and their quads were put
pub record Says (read : Read) (new : Reader) (told tells : List Parts → Type 0) (selects : Parts → Bool) : Type 0 where
  pub more : List Parts
  pub read_is : read ≡ Ok (more, new)
  pub put : WerePut told tells selects more

-- quads that the events bring first
abbrev pub AreFirst : Read → List Parts → Type 0
AreFirst read front = (front ≡ []) ⊎ ((back : List Parts) × (new : Reader) × (read ≡ Ok (front ++ back, new)))

pub record SaysSome (read : Read) (told tells : List Parts → Type 0) (selects : Parts → Bool) : Type 0 where
  pub front : List Parts
  pub first : AreFirst read front
  pub put : WerePut told tells selects front

-- a refusal is a fault of the events
abbrev pub StopsSaying : Read → Stop → Type 0
StopsSaying read (Refused f) = read ≡ Err f
StopsSaying read OutFault = Unit {0}
StopsSaying read NoMemory = Unit {0}

abbrev pub SaysBy : Result (Unit {0}) Stop → Read → Reader → (List Parts → Type 0) → (List Parts → Type 0) → (Parts → Bool) → Type 0
SaysBy (Ok x) read new told tells selects = Says read new told tells selects
SaysBy (Err stop) read new told tells selects = SaysSome read told tells selects × StopsSaying read stop

-- what tokens bring to an engine is said to an out; nothing but the reader of the engine changes
pub record SaysTo {Out : Type 0} (result : Result (Unit {0}) Stop) (tokens : List Token) (old new : EngineState) (tells : Out → List Parts → Type 0) (selects : Out → Parts → Bool) (before now : Out) : Type 0 where
  pub says : SaysBy result (brought old tokens) new.reader (tells before) (tells now) (selects before)
  pub kept : new ≡ record old { reader = new.reader }

-- ---- calls

-- the engine goes on, or its caller notes that it doesn't
pub record GoesOn (old new : EngineState) : Type 0 where
  pub live : new.lexer.ended ≡ false
  pub stopped : new.stopped ≡ old.stopped
  pub ended : new.ended ≡ old.ended

-- a piece was read, whatever was read before
abbrev pub IsFed : {Out : Type 0} → List ℕ → EngineState → EngineState → (Out → List Parts → Type 0) → (Out → Parts → Bool) → Out → Out → Type 0
IsFed piece old new tells selects before now =
    (s : Settings) (bytes : List ℕ) (quads : List Parts) → Stands s bytes quads old → Fed s bytes quads piece new (tells before) (tells now) (selects before)

-- a byte of it stopped the engine
abbrev pub IsStopped : {Out : Type 0} → List ℕ → Stop → EngineState → EngineState → (Out → List Parts → Type 0) → (Out → Parts → Bool) → Out → Out → Type 0
IsStopped piece stop old new tells selects before now =
    (s : Settings) (bytes : List ℕ) (quads : List Parts) → Stands s bytes quads old → Stopped s bytes quads piece stop new (tells before) (tells now) (selects before)

-- the document was read to its end
abbrev pub IsFinished : {Out : Type 0} → EngineState → (Out → List Parts → Type 0) → (Out → Parts → Bool) → Out → Out → Type 0
IsFinished old tells selects before now =
    (s : Settings) (bytes : List ℕ) (quads : List Parts) → Stands s bytes quads old → Finished s bytes quads (tells before) (tells now) (selects before)

-- the end stopped the engine
abbrev pub IsStoppedAtEnd : {Out : Type 0} → Stop → EngineState → (Out → List Parts → Type 0) → (Out → Parts → Bool) → Out → Out → Type 0
IsStoppedAtEnd stop old tells selects before now =
    (s : Settings) (bytes : List ℕ) (quads : List Parts) → Stands s bytes quads old → StoppedAtEnd s bytes quads stop (tells before) (tells now) (selects before)
