use Rattle.std.proofs.Common.{◌≡◌, ◌≤◌, ◌-◌, length, take, flat_map}
use Rattle.jl_model.specs.Lines.{escaped}
use Rattle.jl_io.specs.Outside.{appended}
use Rattle.jl_nquads.proofs.lines.put_escaped.Given as goal

abbrev pub invariant-loop-at : goal.invariant-loop-at
invariant-loop-at g l = record {
  within : l.at ≤ length l.text;
  put : g.B.ByteOut.written l.out ≡ appended (g.B.ByteOut.written l.initial.out) (flat_map escaped (take l.at l.text));
  counted : g.B.ByteOut.put_faults l.out ≡ g.B.ByteOut.put_faults l.initial.out;
  beside : g.B.ByteOut.beside l.initial.out l.out;
}

abbrev pub decreases-loop-at : goal.decreases-loop-at
decreases-loop-at g l = length l.text - l.at
