use Rattle.std.proofs.Common.{sym, arith}
use Rattle.std.proofs.lemmas.Grind.{common_steps}
use Rattle.jl_io.proofs.LineCuts.{lines_first, lines_none}
use Rattle.jl_io.proofs.pairs.split_line.Goals as goal

pub returns-in-Some-clause-lines : goal.returns-in-Some-clause-lines
returns-in-Some-clause-lines c =
    let e = lines_first c.args.bytes.now c.in-Some.end (sym c.in-Some.ensures.place) in
    grind (arith, common_steps)

pub returns-in-None-clause-lines : goal.returns-in-None-clause-lines
returns-in-None-clause-lines c = lines_none c.args.bytes.now (sym c.in-None.ensures.place)
