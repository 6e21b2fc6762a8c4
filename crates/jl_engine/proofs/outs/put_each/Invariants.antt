use Rattle.std.proofs.Common.{drop}
use Rattle.jl_engine.proofs.Feeding.{Going}
use Rattle.jl_engine.proofs.outs.put_each.Given as goal

abbrev pub invariant-loop-quad : goal.invariant-loop-quad
invariant-loop-quad g l = Going g.O.QuadOut.tells g.O.QuadOut.selects g.O.QuadOut.faults g.O.QuadOut.beside l.initial.out l.out (l.quads) (drop l.quad-index l.quads)
