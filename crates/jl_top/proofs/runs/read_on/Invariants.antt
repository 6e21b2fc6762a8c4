use Rattle.std.proofs.Common.{◌≡◌, ◌+◌, ◌-◌, ◌^◌, false}
use Rattle.jl_top.specs.Pieces.{HasBegun}
use Rattle.jl_top.specs.Promptness.{GrantsTo}
use Rattle.jl_top.specs.Runs.{Going}
use Rattle.jl_top.proofs.runs.read_on.Given as goal

abbrev pub invariant-loop-taken : goal.invariant-loop-taken
invariant-loop-taken g l = record {
  going : Going l.initial.engine l.engine l.block (g.P.Port.taken l.port) (g.P.Port.left l.initial.port) (g.P.Port.left l.port) (g.P.ByteOut.written l.port) l.taken;
  begun : HasBegun l.engine;
  ended : g.P.Port.ended l.port ≡ false;
  may : GrantsTo l.initial.engine (g.P.Port.may_take l.port);
  said : g.P.Port.said l.port ≡ g.P.Port.said l.initial.port;
  takes : g.P.Port.take_faults l.port ≡ g.P.Port.take_faults l.initial.port;
  puts : g.P.ByteOut.put_faults l.port ≡ g.P.ByteOut.put_faults l.initial.port;
}

abbrev pub decreases-loop-taken : goal.decreases-loop-taken
decreases-loop-taken g l = 2 ^ 40 + 1 - l.taken
