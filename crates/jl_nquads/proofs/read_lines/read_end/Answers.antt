use Rattle.std.proofs.Common.{◌∙◌, Some, refl}
use Rattle.jl_nquads.specs.Nexts.{next_of}
use Rattle.jl_nquads.specs.Spots.{has_dot}
use Rattle.jl_nquads.proofs.NextBytes.{ends_here, stops_here, no_end}
use Rattle.jl_nquads.proofs.PartReads.{comment_end}
use Rattle.jl_nquads.proofs.read_lines.read_end.Goals as goal

pub returns-in-End : goal.returns-in-End
returns-in-End c = λ q. ends_here (has_dot q) (Some q) c.args.text.now c.skip_blanks-text.result.now c.skip_blanks-text.ensures (λ b. refl) refl c.in-End.ensures

pub returns-in-Comment : goal.returns-in-Comment
returns-in-Comment c = comment_end c.args.text.now c.skip_blanks-text.result.now c.read_comment.result c.skip_blanks-text.ensures c.read_comment.ensures

pub returns-in_default : goal.returns-in_default
returns-in_default c = λ q.
    stops_here (has_dot q) c.args.text.now c.skip_blanks-text.result.now c.stop.result c.skip_blanks-text.ensures (λ b. refl)
    (no_end q (next_of c.skip_blanks-text.result.now) c.skip_blanks-text.ensures.apart (λ i. c.in_default.not-Comment (c.next_of.ensures ∙ i)))
    (λ i. absurd (c.in_default.not-End (c.next_of.ensures ∙ i))) c.stop.ensures
