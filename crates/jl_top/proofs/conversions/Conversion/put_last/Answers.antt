use Rattle.jl_top.proofs.Converting.{then_close}
use Rattle.jl_top.proofs.conversions.Conversion.put_last.Goals as goal

pub returns-in-Ok-clause-answer : goal.returns-in-Ok-clause-answer
returns-in-Ok-clause-answer g c = then_close c.args.quad.now c.args.self.now c.put.new.self c.close.new.self (g.B.ByteOut.written c.args.out.now) (g.B.ByteOut.written c.put.new.out) (g.B.ByteOut.written c.close.new.out) c.in-Ok.ensures.answer c.close.result c.close.ensures.answer
