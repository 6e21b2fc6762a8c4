use Rattle.std.proofs.Common.{refl}
use Rattle.jl_top.specs.ConversionSteps.{by_line, by_put}
use Rattle.jl_top.proofs.conversions.Conversion.take.Goals as goal

pub returns-in-Ok-clause-answer : goal.returns-in-Ok-clause-answer
returns-in-Ok-clause-answer g c = by_put c.in-Ok.step c.read.new.self c.in-Ok.ensures.answer c.in-Err-put_step.ensures.answer

pub returns-clause-answer : goal.returns-clause-answer
returns-clause-answer g c = by_line c.in-Err.stop c.read.new.self c.stop_of_line.ensures c.in-Err.ensures.answer refl refl
