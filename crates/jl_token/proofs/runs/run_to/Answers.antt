use Rattle.std.proofs.Common.{arith}
use Rattle.jl_token.specs.Runs.{is_text_to}
use Rattle.jl_token.proofs.TextLanes.{ends_within, goes_on}
use Rattle.jl_token.proofs.runs.run_to.Goals as goal

pub returns-then-more-lt-LANES-clause-count : goal.returns-then-more-lt-LANES-clause-count
returns-then-more-lt-LANES-clause-count c =
    let rest = ends_within (is_text_to c.args.last) c.args.bytes.now c.loop-count.count (omega arith) c.lanes_to-more.result c.lanes_to-more.ensures c.if-more-lt-LANES.true in
    omega (arith, rest, c.loop-count.invariant.0)

pub loop-count-preserved : goal.loop-count-preserved
loop-count-preserved c =
    let rest = goes_on (is_text_to c.args.last) c.args.bytes.now c.loop-count.count (omega arith) c.lanes_to-more.result c.lanes_to-more.ensures (omega arith) in
    (omega (arith, rest, c.loop-count.invariant.0), omega arith)
