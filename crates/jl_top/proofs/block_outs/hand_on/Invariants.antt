use Rattle.std.proofs.Common.{◌≡◌, ◌-◌}
use Rattle.jl_top.specs.Blocks.{HandsOn}
use Rattle.jl_top.proofs.block_outs.hand_on.Given as goal

abbrev pub invariant-loop-block : goal.invariant-loop-block
invariant-loop-block g l = record {
  hands_on : HandsOn (g.B.ByteOut.written l.initial.out) (g.B.ByteOut.written l.out) l.initial.block l.block;
  counted : g.B.ByteOut.put_faults l.out ≡ g.B.ByteOut.put_faults l.initial.out;
  beside : g.B.ByteOut.beside l.initial.out l.out;
}

abbrev pub decreases-loop-block : goal.decreases-loop-block
decreases-loop-block g l = l.block.len - l.block.handed
