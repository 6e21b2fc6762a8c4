use Rattle.std.proofs.Common.{◌≡◌, take}
use Rattle.jl_context.specs.Chains.{values}
use Rattle.jl_context.proofs.chains.copied.Given as goal

abbrev pub invariant-loop-index : goal.invariant-loop-index
invariant-loop-index l = values l.copy.items ≡ take l.index (values l.levels)
