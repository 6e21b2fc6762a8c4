use Rattle.std.proofs.Common.{map}
use Rattle.std.specs.Map.Iter.{deref_pair}
use Rattle.jl_context.specs.Layers.{slots_of, TakesOver}
use Rattle.jl_context.proofs.layers.Layer.take_over.Given as goal

abbrev pub invariant-loop-name : goal.invariant-loop-name
invariant-loop-name l = TakesOver (slots_of l.initial.self) (map deref_pair l.yielded) (slots_of l.self)
