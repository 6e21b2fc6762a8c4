-- Stops, as they are handed on.
use Rattle.std.specs.Prelude.{◌≡◌, None}
use Rattle.jl_model.specs.declared.outs.OutStop.{OutStop}
use Rattle.jl_model.specs.declared.outs.OutStop.TheVariants as out
use Rattle.jl_token.specs.declared.steps.LexStop.{LexStop}
use Rattle.jl_token.specs.declared.steps.LexStop.TheVariants as lexing
use Rattle.jl_frames.specs.declared.states.FrameStop.{FrameStop}
use Rattle.jl_frames.specs.declared.states.FrameStop.TheVariants as framing
use Rattle.jl_engine.specs.declared.engines.EngineState.{EngineState}
use Rattle.jl_engine.specs.declared.stops.Stop.{Stop}
use Rattle.jl_engine.specs.declared.stops.Stop.TheVariants.{Refused, OutFault, NoMemory}

abbrev pub of_lexer : LexStop → Stop
of_lexer (lexing.Refused f) = Refused f
of_lexer lexing.NoMemory = NoMemory

abbrev pub of_reader : FrameStop → Stop
of_reader (framing.Refused f) = Refused f
of_reader framing.NoMemory = NoMemory

abbrev pub of_out : OutStop → Stop
of_out out.Failed = OutFault
of_out out.NoMemory = NoMemory

-- no fault of a document
abbrev pub IsOutside : Stop → Type 0
IsOutside (Refused f) = ⊥
IsOutside OutFault = Unit {0}
IsOutside NoMemory = Unit {0}

-- the rule of form of an engine: as long as it goes on, it has ended where its lexer has
abbrev pub IsFormed : EngineState → Type 0
IsFormed e = e.stopped ≡ None → e.lexer.ended ≡ e.ended
