use Rattle.jl_nquads.proofs.EscapeRuns.{run_more}
use Rattle.jl_nquads.proofs.escapes.plain_len.Goals as goal

pub returns-clause-plain : goal.returns-clause-plain
returns-clause-plain c = run_more c.args.text.now c.plain_blocks-at.result c.plain_front.result c.plain_blocks-at.ensures.plain c.plain_front.ensures
