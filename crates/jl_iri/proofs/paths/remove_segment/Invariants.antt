use Rattle.std.proofs.Common.{◌≡◌}
use Rattle.jl_iri.specs.Segments.{without_segment}
use Rattle.jl_iri.proofs.paths.remove_segment.Given as goal

abbrev pub invariant-loop-byte : goal.invariant-loop-byte
invariant-loop-byte l = without_segment l.kept.items ≡ without_segment l.initial.kept.items

abbrev pub decreases-loop-byte : goal.decreases-loop-byte
decreases-loop-byte l = goal.left-loop-byte l
