use Rattle.std.proofs.Common.{ap, ◌∙◌, false}
use Rattle.std.specs.List.{slice_split}
use Rattle.jl_model.specs.Resolve.{is_slash}
use Rattle.jl_iri.specs.Segments.{after_segments}
use Rattle.jl_iri.proofs.SegmentLemmas.{all_segments_written}
use Rattle.jl_iri.proofs.paths.without_dots.Goals as goal

pub loop-rest-init : goal.loop-rest-init
loop-rest-init c =
    ap (λ kept. after_segments false false kept (slice_split is_slash c.args.path.now)) c.in_ok-kept.ensures.items
    ∙ all_segments_written c.args.path.now
