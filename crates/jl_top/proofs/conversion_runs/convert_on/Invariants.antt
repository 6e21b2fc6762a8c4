use Rattle.std.proofs.Common.{◌≡◌, ◌+◌, ◌-◌, ◌^◌, false, IfSome, [], None}
use Rattle.jl_top.specs.ConversionRuns.{GrantsLines, Converting}
use Rattle.jl_top.proofs.conversion_runs.convert_on.Given as goal

abbrev pub invariant-loop-taken : goal.invariant-loop-taken
invariant-loop-taken g l = record {
  going : Converting l.conversion l.block (g.P.Port.taken l.port) (g.P.Port.left l.initial.port) (g.P.Port.left l.port) (g.P.ByteOut.written l.initial.port) (g.P.ByteOut.written l.port) l.taken;
  goes_on : l.conversion.writer.stopped ≡ None;
  ended : g.P.Port.ended l.port ≡ false;
  may : GrantsLines (g.P.Port.may_take l.port);
  said : g.P.Port.said l.port ≡ g.P.Port.said l.initial.port;
  takes : g.P.Port.take_faults l.port ≡ g.P.Port.take_faults l.initial.port;
  puts : g.P.ByteOut.put_faults l.port ≡ g.P.ByteOut.put_faults l.initial.port;
}

abbrev pub decreases-loop-taken : goal.decreases-loop-taken
decreases-loop-taken g l = 2 ^ 40 + 1 - l.taken
