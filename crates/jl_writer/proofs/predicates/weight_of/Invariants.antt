use Rattle.std.proofs.Common.{◌≡◌, min, ◌-◌, ◌^◌, take}
use Rattle.jl_writer.specs.Weights.{texts_weight}
use Rattle.jl_writer.proofs.predicates.weight_of.Given as goal

abbrev pub invariant-loop-text : goal.invariant-loop-text
invariant-loop-text l = l.weight ≡ min (texts_weight (take l.text-index l.texts)) (2 ^ 64 - 1)
