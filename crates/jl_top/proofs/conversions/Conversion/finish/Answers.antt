use Rattle.std.proofs.Common.{Ok, Err, refl, sym, subst}
use Rattle.jl_nquads.specs.LineReading as reading
use Rattle.jl_top.specs.Conversions.{AnswersEnd}
use Rattle.jl_top.proofs.Converting.{last_answers, close_answers, end_refused}
use Rattle.jl_top.proofs.conversions.Conversion.finish.Goals as goal

pub returns-in-Ok-Some-clause-answer : goal.returns-in-Ok-Some-clause-answer
returns-in-Ok-Some-clause-answer g c = last_answers c.in-Ok-Some.quad c.args.self.now (record c.args.self.now { reader = c.finish.new.self }) (g.B.ByteOut.written c.args.out.now) (subst (λ o. reading.AnswersEnd (Ok o) c.args.self.now.reader) c.in-Ok-Some.field-0-is c.in-Ok-Some.ensures.answer) refl refl c.put_last.result c.put_last.new.self (g.B.ByteOut.written c.put_last.new.out) c.put_last.ensures.answer

pub returns-in-Ok-None-clause-answer : goal.returns-in-Ok-None-clause-answer
returns-in-Ok-None-clause-answer g c = close_answers c.args.self.now (record c.args.self.now { reader = c.finish.new.self }) c.close.new.self (g.B.ByteOut.written c.args.out.now) (g.B.ByteOut.written c.close.new.out) (subst (λ o. reading.AnswersEnd (Ok o) c.args.self.now.reader) c.in-Ok-None.field-0-is c.in-Ok-None.ensures.answer) refl refl c.close.result c.close.ensures.answer

pub returns-in-Err-clause-answer : goal.returns-in-Err-clause-answer
returns-in-Err-clause-answer g c =
    let w = g.B.ByteOut.written c.args.out.now in
    let new = record c.args.self.now { reader = c.finish.new.self } in
    subst (λ s. AnswersEnd (Err s) c.args.self.now new w w) (sym c.stop_of_line.ensures) (end_refused c.in-Err.stop c.args.self.now new w w c.in-Err.ensures.answer refl refl)
