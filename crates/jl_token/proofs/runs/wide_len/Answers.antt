use Rattle.std.proofs.Common.{◌∙◌, ap, length}
use Rattle.jl_token.proofs.PlainRuns.{front_len}
use Rattle.jl_token.proofs.runs.wide_len.Goals as goal

pub returns-in-Ok-clause-count : goal.returns-in-Ok-clause-count
returns-in-Ok-clause-count c =
    let e = c.in-Ok.ensures.cases in
    ap length e.0 ∙ front_len c.text_len-count.result c.args.bytes.now c.text_len-count.ensures e.1
