use Rattle.jl_token.proofs.BlankRuns.{plain_passes}
use Rattle.jl_token.proofs.readings.Reading.skip_plain.Goals as goal

pub returns-in_ok-run-clause-passes : goal.returns-in_ok-run-clause-passes
returns-in_ok-run-clause-passes c = plain_passes c.args.self.now c.run.new.self c.plain_len-count.result c.args.bytes.now c.requires.plain c.plain_len-count.ensures.count c.in_ok-run.ensures.ok
