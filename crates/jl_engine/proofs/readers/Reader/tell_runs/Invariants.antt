use Rattle.std.proofs.Common.{◌≡◌, ◌++◌, length}
use Rattle.std.specs.Vec.Iter.{into_iter_items, into_iter_len}
use Rattle.jl_context.specs.Contexts.{context_of}
use Rattle.jl_engine.specs.Marks.{all_of}
use Rattle.jl_engine.specs.Reading.{before, replay}
use Rattle.jl_engine.proofs.readers.Reader.tell_runs.Given as goal

abbrev pub invariant-loop-run : goal.invariant-loop-run
invariant-loop-run l =
    (before l.fn.quads (replay (context_of l.context) (all_of l.fn.full.items ++ l.last) l.fn.self) ≡ before l.quads (replay (context_of l.context) (all_of (into_iter_items l.run-iterator) ++ l.last) l.self))
    × (into_iter_len l.run-iterator ≡ length (into_iter_items l.run-iterator))
