use Rattle.std.proofs.Common.{rules, refl}
use Rattle.jl_model.proofs.Causing.{cause_none}
use Rattle.jl_top.proofs.Handing.{hands_none, hands_more}
use Rattle.jl_top.proofs.block_outs.hand_on.Goals as goal

pub loop-block-init : goal.loop-block-init
loop-block-init g c =
    record {
      hands_on = hands_none (g.B.ByteOut.written c.args.out.now) c.args.block.now c.args.block.now refl refl c.args.block.now.in_range;
      counted = refl;
      beside = g.met.B.ByteOut.itself c.args.out.now;
    }

pub loop-block-preserved : goal.loop-block-preserved
loop-block-preserved g c =
    record {
      hands_on = hands_more (g.B.ByteOut.written c.args.out.now) (g.B.ByteOut.written c.loop-block.out) (g.B.ByteOut.written c.hand_on_some.new.out) c.args.block.now c.loop-block.block c.hand_on_some.new.block c.loop-block.invariant.hands_on c.hand_on_some.ensures.hands_on;
      counted = search rules;
      beside = g.met.B.ByteOut.joins c.args.out.now c.loop-block.out c.hand_on_some.new.out c.loop-block.invariant.beside c.hand_on_some.ensures.beside;
    }

pub returns-in_err-hand_on_some-clause-hands_on : goal.returns-in_err-hand_on_some-clause-hands_on
returns-in_err-hand_on_some-clause-hands_on g c =
    hands_more (g.B.ByteOut.written c.args.out.now) (g.B.ByteOut.written c.loop-block.out) (g.B.ByteOut.written c.hand_on_some.new.out) c.args.block.now c.loop-block.block c.hand_on_some.new.block c.loop-block.invariant.hands_on c.hand_on_some.ensures.hands_on

pub returns-clause-cause : goal.returns-clause-cause
returns-clause-cause g c = cause_none (g.B.ByteOut.put_faults c.args.out.now) (g.B.ByteOut.put_faults c.loop-block.out) _ c.loop-block.invariant.counted (λ e. cc)
