use Rattle.std.proofs.Common.{sym, subst, refl}
use Rattle.jl_top.specs.ConversionRuns.{WriteAnswers}
use Rattle.jl_top.proofs.WriteReports.{write_answers, nothing_written}
use Rattle.jl_top.proofs.top.answer_write.Goals as goal

pub returns-in-Err-clause-answers : goal.returns-in-Err-clause-answers
returns-in-Err-clause-answers g c = let old = c.args.port.now in
    subst (λ r. WriteAnswers r (g.P.Port.taken old) (g.P.Port.left old) (g.P.Port.left old) (g.P.ByteOut.written old) (g.P.Port.ended old) (g.P.Port.take_faults old) (g.P.Port.take_faults old) (g.P.ByteOut.put_faults old) (g.P.ByteOut.put_faults old))
    (sym c.plain.ensures)
    (nothing_written (g.P.Port.taken old) (g.P.Port.left old) (g.P.ByteOut.written old) (g.P.Port.ended old) (g.P.Port.take_faults old) (g.P.ByteOut.put_faults old) c.requires.fresh)

pub convert_all-outcome-requires-clause-begun : goal.convert_all-outcome-requires-clause-begun
convert_all-outcome-requires-clause-begun g c = c.new-conversion.ensures (g.P.ByteOut.written c.args.port.now) c.requires.fresh.none_put

pub returns-clause-answers : goal.returns-clause-answers
returns-clause-answers g c = let old = c.args.port.now in let new = c.convert_all-outcome.new.port in let h = c.convert_all-outcome.ensures in
    subst (λ r. WriteAnswers r (g.P.Port.taken new) (g.P.Port.left old) (g.P.Port.left new) (g.P.ByteOut.written new) (g.P.Port.ended new) (g.P.Port.take_faults old) (g.P.Port.take_faults new) (g.P.ByteOut.put_faults old) (g.P.ByteOut.put_faults new))
    (sym c.make_report.ensures)
    (write_answers c.convert_all-outcome.result c.convert_all-outcome.new.conversion.quads (g.P.Port.taken new) (g.P.Port.left old) (g.P.Port.left new) (g.P.ByteOut.written new) (g.P.Port.ended new) (g.P.Port.take_faults old) (g.P.Port.take_faults new) (g.P.ByteOut.put_faults old) (g.P.ByteOut.put_faults new)
    h.answers h.takes h.puts)
