use Rattle.jl_top.proofs.ConvertingRuns.{memory_stops}
use Rattle.jl_top.proofs.conversion_runs.convert_all.Goals as goal

pub returns-in_default-clause-answers : goal.returns-in_default-clause-answers
returns-in_default-clause-answers g c =
    memory_stops c.args.conversion.now c.args.block.now (g.P.Port.taken c.args.port.now) (g.P.Port.left c.args.port.now) (g.P.ByteOut.written c.args.port.now) (g.P.Port.ended c.args.port.now) c.requires.fresh c.requires.block c.requires.begun
