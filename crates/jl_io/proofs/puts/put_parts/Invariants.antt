use Rattle.std.proofs.Common.{◌≡◌, ◌≤◌, take}
use Rattle.jl_io.specs.Outside.{appended}
use Rattle.jl_io.specs.Puts.{joined}
use Rattle.jl_io.proofs.puts.put_parts.Given as goal

abbrev pub invariant-loop-part : goal.invariant-loop-part
invariant-loop-part g l = record {
  put : g.B.ByteOut.written l.out ≡ appended (g.B.ByteOut.written l.initial.out) (joined (take l.part-index l.parts));
  counted : g.B.ByteOut.put_faults l.out ≡ g.B.ByteOut.put_faults l.initial.out;
  beside : g.B.ByteOut.beside l.initial.out l.out;
}
