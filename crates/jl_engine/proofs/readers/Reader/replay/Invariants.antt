use Rattle.std.proofs.Common.{◌≡◌, drop}
use Rattle.jl_context.specs.Contexts.{context_of}
use Rattle.jl_engine.specs.Marks.{marked}
use Rattle.jl_engine.specs.Reading.{before, replay}
use Rattle.jl_engine.proofs.readers.Reader.replay.Given as goal

abbrev pub invariant-loop-mark : goal.invariant-loop-mark
invariant-loop-mark l =
    before l.fn.quads (replay (context_of l.context) (marked l.marks l.bytes) l.fn.self) ≡ before l.quads (replay (context_of l.context) (marked (drop l.mark-index l.marks) l.rest) l.self)
