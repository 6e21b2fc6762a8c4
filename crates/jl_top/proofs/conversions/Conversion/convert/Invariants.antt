use Rattle.std.proofs.Common.{◌-◌, ◌≡◌, length}
use Rattle.jl_top.proofs.Converting.{HaveConverted}
use Rattle.jl_top.proofs.conversions.Conversion.convert.Given as goal

abbrev pub invariant-loop-at : goal.invariant-loop-at
invariant-loop-at g l = record {
  converted : HaveConverted l.piece l.at l.initial.self l.self (g.B.ByteOut.written l.initial.out) (g.B.ByteOut.written l.out);
  faults : g.B.ByteOut.put_faults l.out ≡ g.B.ByteOut.put_faults l.initial.out;
  beside : g.B.ByteOut.beside l.initial.out l.out;
}

abbrev pub decreases-loop-at : goal.decreases-loop-at
decreases-loop-at g l = length l.piece - l.at
