use Rattle.std.proofs.Common.{rules}
use Rattle.std.proofs.Common.{arith}
use Rattle.jl_model.proofs.Causing.{cause_none}
use Rattle.jl_io.proofs.Outcomes.{on_err}
use Rattle.jl_io.proofs.Joins.{part_put, part_cut}
use Rattle.jl_io.proofs.puts.put_parts.Goals as goal

pub returns-in_err-put_all-clause-cut : goal.returns-in_err-put_all-clause-cut
returns-in_err-put_all-clause-cut g c =
    on_err c.from_residual.result (part_cut (g.B.ByteOut.written c.args.out.now) (g.B.ByteOut.written c.loop-part.out) (g.B.ByteOut.written c.put_all.new.out) c.args.parts.now c.loop-part.part-index _ c.loop-part-test.true c.loop-part.invariant.put c.in_err-put_all.ensures.cut)

pub loop-part-preserved : goal.loop-part-preserved
loop-part-preserved g c =
    record {
      put = part_put (g.B.ByteOut.written c.args.out.now) (g.B.ByteOut.written c.loop-part.out) (g.B.ByteOut.written c.put_all.new.out) c.args.parts.now c.loop-part.part-index _ c.loop-part-test.true c.loop-part.invariant.put c.in_ok-put_all.ensures.put;
      counted = search rules;
      beside = g.met.B.ByteOut.joins c.args.out.now c.loop-part.out c.put_all.new.out c.loop-part.invariant.beside c.put_all.ensures.beside;
    }

pub returns-clause-cause : goal.returns-clause-cause
returns-clause-cause g c = cause_none (g.B.ByteOut.put_faults c.args.out.now) (g.B.ByteOut.put_faults c.loop-part.out) _ c.loop-part.invariant.counted (λ e. cc)
