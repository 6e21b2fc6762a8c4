use Rattle.std.proofs.Common.{drop}
use Rattle.jl_engine.specs.Marks.{all_of}
use Rattle.jl_engine.proofs.Feeding.{Going}
use Rattle.jl_engine.proofs.outs.put_groups.Given as goal

abbrev pub invariant-loop-group : goal.invariant-loop-group
invariant-loop-group g l = Going g.O.QuadOut.tells g.O.QuadOut.selects g.O.QuadOut.faults g.O.QuadOut.beside l.initial.out l.out (all_of l.groups) (all_of (drop l.group-index l.groups))
