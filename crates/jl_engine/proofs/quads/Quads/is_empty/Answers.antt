use Rattle.std.proofs.Common.{sym, ◌∙◌}
use Rattle.jl_engine.specs.Marks.{all_of}
use Rattle.jl_walk.proofs.Runs.{left-nil}
use Rattle.jl_engine.proofs.HeldMarks.{none_first}
use Rattle.jl_engine.proofs.quads.Quads.is_empty.Goals as goal

pub returns : goal.returns
returns c =
    let q = c.self.inside in
    (λ t. sym c.self.view_is ∙ none_first q.first q.others.items c.self.invariant (c.is_empty.ensures.0 t), λ e. c.is_empty.ensures.1 (left-nil q.first (all_of q.others.items) (c.self.view_is ∙ e)))
