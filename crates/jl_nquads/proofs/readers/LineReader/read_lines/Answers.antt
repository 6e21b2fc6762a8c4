use Rattle.std.proofs.Common.{Err, subst, sym, ◌∙◌}
use Rattle.jl_nquads.specs.LineSteps.{Takes, TakesLine}
use Rattle.jl_nquads.proofs.LineReaders.{taken_more, steps_to, stops_in, no_quad}
use Rattle.jl_nquads.proofs.readers.LineReader.read_lines.Goals as goal

pub returns-in-Err-clause-answer : goal.returns-in-Err-clause-answer
returns-in-Err-clause-answer c = stops_in c.args.bytes.now c.loop-count.count c.args.self.now c.loop-count.self c.loop-count.invariant c.in-Err.stop c.read_on.new.self (subst (λ t. TakesLine (Err c.in-Err.stop) t c.loop-count.self c.read_on.new.self) c.rest_of.ensures c.in-Err.ensures.answer)

pub returns-then-is_some-clause-answer : goal.returns-then-is_some-clause-answer
returns-then-is_some-clause-answer c = steps_to c.args.bytes.now c.loop-count.count c.args.self.now c.loop-count.self c.loop-count.invariant c.in-Ok.step c.read_on.new.self (subst (λ t. Takes c.in-Ok.step t c.loop-count.self c.read_on.new.self) c.rest_of.ensures c.in-Ok.ensures.answer) c.loop-count-test.true (sym c.is_some.ensures ∙ c.if-is_some.true)

pub loop-count-preserved : goal.loop-count-preserved
loop-count-preserved c = taken_more c.args.bytes.now c.loop-count.count c.args.self.now c.loop-count.self c.loop-count.invariant c.in-Ok.step c.read_on.new.self (subst (λ t. Takes c.in-Ok.step t c.loop-count.self c.read_on.new.self) c.rest_of.ensures c.in-Ok.ensures.answer) (no_quad c.in-Ok.step.quad (sym c.is_some.ensures ∙ c.if-is_some.false)) c.read_on.ensures.goes_on
