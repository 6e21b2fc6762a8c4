use Rattle.std.proofs.Common.{refl, inl, inr, arith}
use Rattle.jl_nquads.proofs.Telling.{counts_line, counts_cut}
use Rattle.jl_nquads.proofs.line_outs.LineOutQuadOut.put.Goals as goal

pub returns-in-Ok-clause-beside : goal.returns-in-Ok-clause-beside
returns-in-Ok-clause-beside g c = (
  refl,
  c.in-Ok.ensures.beside,
  record { stays = λ e. e; later = c.in-Ok.ensures.cause.later; rose = λ e. inl e; unrefused = λ e. refl },
  counts_line c.args.self.now.failed c.args.self.now.lines _ (g.B.ByteOut.written c.args.self.now.out.now) (g.B.ByteOut.written c.write_line.new.out) c.args.quad.now c.if-self.false c.saturating_add-self-in-Ok.ensures c.in-Ok.ensures.put,
)

pub returns-in-Err-clause-beside : goal.returns-in-Err-clause-beside
returns-in-Err-clause-beside g c = (
  refl,
  c.in-Err.ensures.beside,
  record { stays = λ e. refl; later = c.in-Err.ensures.cause.later; rose = λ e. inr (c.in-Err.ensures.cause.failed refl); unrefused = λ e. grind arith },
  counts_cut c.args.self.now.failed c.args.self.now.lines (g.B.ByteOut.written c.args.self.now.out.now) (g.B.ByteOut.written c.write_line.new.out) c.args.quad.now c.if-self.false c.in-Err.ensures.cut,
)
