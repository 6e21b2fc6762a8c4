use Rattle.jl_nquads.proofs.LineReaders.{one_byte, one_stops}
use Rattle.jl_nquads.proofs.readers.LineReader.step.Goals as goal

pub returns-in-Ok-clause-answer : goal.returns-in-Ok-clause-answer
returns-in-Ok-clause-answer c = one_byte c.args.byte c.in-Ok.step c.args.self.now c.read.new.self c.in-Ok.ensures.answer

pub returns-in-Err-clause-answer : goal.returns-in-Err-clause-answer
returns-in-Err-clause-answer c = one_stops c.args.byte c.in-Err.stop c.args.self.now c.read.new.self c.in-Err.ensures.answer
