use Rattle.std.proofs.Common.{◌≡◌, length}
use Rattle.jl_model.specs.Resolve as spec
use Rattle.jl_iri.proofs.paths.up_to_slash.Given as goal

abbrev pub invariant-loop-front : goal.invariant-loop-front
invariant-loop-front l = spec.up_to_slash l.front ≡ spec.up_to_slash l.path

abbrev pub decreases-loop-front : goal.decreases-loop-front
decreases-loop-front l = length l.front
