use Rattle.std.proofs.Common.{rules}
use Rattle.std.proofs.Common.{arith}
use Rattle.std.proofs.lemmas.Grind.{common_steps}
use Rattle.jl_model.proofs.Causing.{cause_none}
use Rattle.jl_io.proofs.Outcomes.{on_err}
use Rattle.jl_nquads.proofs.EscapeRuns.{escaped_piece, escaped_cut}
use Rattle.jl_nquads.proofs.lines.put_escaped.Goals as goal

pub loop-at-preserved : goal.loop-at-preserved
loop-at-preserved g c =
    let b = g.met.B.ByteOut.joins c.args.out.now c.loop-at.out c.put_run.new.out c.loop-at.invariant.beside c.put_run.ensures.beside in
    let piece = escaped_piece (g.B.ByteOut.written c.args.out.now) (g.B.ByteOut.written c.loop-at.out) (g.B.ByteOut.written c.put_run.new.out) c.args.text.now c.loop-at.at c.in_ok-at.field-0 c.loop-at.invariant.put in
    record {
      within = grind (arith, common_steps);
      put = grind (arith, common_steps, piece, c.in_ok-at.ensures.put);
      counted = search rules;
      beside = b;
    }

pub returns-in_err-at-clause-cut : goal.returns-in_err-at-clause-cut
returns-in_err-at-clause-cut g c =
    on_err c.from_residual.result (escaped_cut (g.B.ByteOut.written c.args.out.now) (g.B.ByteOut.written c.loop-at.out) (g.B.ByteOut.written c.put_run.new.out) c.args.text.now c.loop-at.at c.loop-at.invariant.put (grind (arith, common_steps, c.in_err-at.ensures.cut)))

pub returns-clause-cause : goal.returns-clause-cause
returns-clause-cause g c = cause_none (g.B.ByteOut.put_faults c.args.out.now) (g.B.ByteOut.put_faults c.loop-at.out) _ c.loop-at.invariant.counted (λ e. cc)
