use Rattle.std.proofs.Common.{ap, subst, ◌∙◌, ◌++◌}
use Rattle.jl_io.proofs.Outcomes.{on_err}
use Rattle.jl_io.proofs.Fronts.{cut_then}
use Rattle.jl_io.specs.Puts.{PutsFront}
use Rattle.jl_writer.specs.Steps.{begun}
use Rattle.jl_writer.specs.Writing.{opened_if}
use Rattle.jl_writer.proofs.OpenTexts.{nothing_put, added_some, step_text}
use Rattle.jl_writer.proofs.Putting.{cut_in_front}
use Rattle.jl_writer.proofs.writer.Writer.add.Goals as goal

pub returns-in_err-made-clause-cut : goal.returns-in_err-made-clause-cut
returns-in_err-made-clause-cut g c =
    on_err c.from_residual.result (nothing_put _ _ (added_some (opened_if c.args.self.now.node) c.args.quad.now))

pub returns-in_err-put_all-clause-cut : goal.returns-in_err-put_all-clause-cut
returns-in_err-put_all-clause-cut g c =
    let q = c.args.quad.now in
    let step = c.step-step.result in
    let text = ap (λ t. t ++ begun q step) c.end_before-end.ensures ∙ step_text (opened_if c.args.self.now.node) q step c.step-step.ensures in
    cut_in_front c.from_residual-in_err-put_all.result _ _ _ _ _ text c.in_err-put_all.ensures.cut

pub returns-in_err-put_step-clause-cut : goal.returns-in_err-put_step-clause-cut
returns-in_err-put_step-clause-cut g c =
    let q = c.args.quad.now in
    let step = c.step-step.result in
    let text = ap (λ t. t ++ begun q step) c.end_before-end.ensures ∙ step_text (opened_if c.args.self.now.node) q step c.step-step.ensures in
    on_err c.from_residual-in_err-put_step.result
    (subst (λ t. PutsFront (g.B.ByteOut.written c.args.out.now) t (g.B.ByteOut.written c.put_step.new.out)) text
    (cut_then (g.B.ByteOut.written c.args.out.now) (g.B.ByteOut.written c.put_all.new.out) (g.B.ByteOut.written c.put_step.new.out) c.end_before-end.result.now (begun q step) c.in_ok-put_all.ensures.put c.in_err-put_step.ensures.cut))
