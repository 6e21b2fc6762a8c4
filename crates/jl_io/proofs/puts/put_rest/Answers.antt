use Rattle.std.proofs.Common.{rules}
use Rattle.std.proofs.Common.{arith}
use Rattle.std.proofs.lemmas.Grind.{common_steps}
use Rattle.jl_model.proofs.Causing.{cause_none}
use Rattle.jl_io.proofs.Fronts.{appended_piece}
use Rattle.jl_io.proofs.puts.put_rest.Goals as goal

pub loop-at-preserved : goal.loop-at-preserved
loop-at-preserved g c =
    let e = appended_piece (g.B.ByteOut.written c.args.out.now) c.args.bytes.now c.loop-at.at c.in_ok-at.field-0 in
    let b = g.met.B.ByteOut.joins c.args.out.now c.loop-at.out c.put.new.self c.loop-at.invariant.beside c.put.ensures.beside in
    record {
      within = grind (arith, common_steps);
      put = grind (arith, common_steps, c.in_ok-at.ensures.put);
      counted = search rules;
      beside = b;
    }

pub returns-clause-cause : goal.returns-clause-cause
returns-clause-cause g c = cause_none (g.B.ByteOut.put_faults c.args.out.now) (g.B.ByteOut.put_faults c.loop-at.out) _ c.loop-at.invariant.counted (λ e. cc)
