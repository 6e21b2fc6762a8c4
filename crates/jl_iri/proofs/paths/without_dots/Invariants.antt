use Rattle.std.proofs.Common.{◌≡◌}
use Rattle.std.specs.Option.{option_copied}
use Rattle.jl_model.specs.Resolve.{remove_dot_segments}
use Rattle.jl_iri.specs.Segments.{after_segments, segments_of}
use Rattle.jl_iri.proofs.SegmentLemmas.{room}
use Rattle.jl_iri.proofs.paths.without_dots.Given as goal

abbrev pub invariant-loop-rest : goal.invariant-loop-rest
invariant-loop-rest l = after_segments l.begun l.dots l.kept.items (segments_of (option_copied l.rest)) ≡ remove_dot_segments l.path

abbrev pub decreases-loop-rest : goal.decreases-loop-rest
decreases-loop-rest l = room (segments_of (option_copied l.rest))
