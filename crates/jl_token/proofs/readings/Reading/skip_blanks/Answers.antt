use Rattle.std.proofs.Common.{refl}
use Rattle.jl_token.proofs.BlankRuns.{blanks_pass}
use Rattle.jl_token.proofs.readings.Reading.skip_blanks.Goals as goal

pub returns-clause-passes : goal.returns-clause-passes
returns-clause-passes c = blanks_pass c.args.self.now _ c.blank_len-count.result c.args.bytes.now c.requires.between c.blank_len-count.ensures.count refl
