use Rattle.std.proofs.Common.{◌∙◌, ap, [], refl}
use Rattle.std.proofs.lemmas.Result.{err_from_is_err_and}
use Rattle.jl_nquads.specs.Nexts.{next_of}
use Rattle.jl_nquads.specs.Spots.{begins}
use Rattle.jl_nquads.proofs.NextBytes.{next_end, no_begins}
use Rattle.jl_nquads.proofs.read_lines.read_empty.Goals as goal

pub returns-in-End : goal.returns-in-End
returns-in-End c = record { row = []; text_is = next_end c.args.text.now c.in-End.ensures; whole = refl; says = refl }

pub returns-in_ok-read_comment-in-Comment : goal.returns-in_ok-read_comment-in-Comment
returns-in_ok-read_comment-in-Comment c = c.in_ok-read_comment-in-Comment.ensures begins [] (λ cs. refl)

pub returns-in_err-read_comment-in-Comment : goal.returns-in_err-read_comment-in-Comment
returns-in_err-read_comment-in-Comment c =
    let p = err_from_is_err_and c.from_residual.result c.from_residual.ensures.1 in
    rw (p.1, p.2)
    (c.in_err-read_comment-in-Comment.ensures begins [] (λ cs. refl))

pub returns-in_default : goal.returns-in_default
returns-in_default c = record {
  others = λ i l. no_begins (next_of c.args.text.now) c.requires.apart i l (λ n. c.in_default.not-Comment (c.next_of.ensures ∙ n));
  goes_on = λ e. absurd (c.in_default.not-End (c.next_of.ensures ∙ ap next_of e));
}
