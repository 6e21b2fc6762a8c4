use Rattle.std.proofs.Common.{sym, subst, ◌∙◌}
use Rattle.std.specs.Option.{option_copied}
use Rattle.jl_top.specs.Headline.{RunAnswers}
use Rattle.jl_top.specs.Words.{settings_of, settings_with}
use Rattle.jl_top.proofs.DueLines.{granted}
use Rattle.jl_top.proofs.Going.{no_lines}
use Rattle.jl_top.proofs.Reporting.{reading_answers, memory_reported, words_answers, writing_answers}
use Rattle.jl_top.proofs.top.answer.Goals as goal

pub returns-in-Err-clause-answers : goal.returns-in-Err-clause-answers
returns-in-Err-clause-answers g c = let old = c.args.port.now in
    subst (λ r. RunAnswers c.args.words.now r (g.P.Port.taken old) (g.P.Port.taken old) (g.P.Port.left old) (g.P.Port.left old) (g.P.ByteOut.written old) (g.P.ByteOut.written old)
    (g.P.Port.ended old) (g.P.Port.ended old) (g.P.Port.take_faults old) (g.P.Port.take_faults old) (g.P.ByteOut.put_faults old) (g.P.ByteOut.put_faults old))
    (sym c.plain-in-Err.ensures)
    (memory_reported c.args.words.now (settings_with (option_copied c.in-Some.options.base)) (g.P.Port.taken old) (g.P.Port.left old) (g.P.ByteOut.written old) (g.P.Port.ended old) (g.P.Port.take_faults old) (g.P.ByteOut.put_faults old)
    c.in-Some.ensures.settings (sym c.are_write.ensures ∙ c.if-are_write.false) c.requires.fresh)

pub returns-clause-answers : goal.returns-clause-answers
returns-clause-answers g c = let old = c.args.port.now in let new = c.read_all-outcome.new.port in let h = c.read_all-outcome.ensures in
    subst (λ r. RunAnswers c.args.words.now r (g.P.Port.taken old) (g.P.Port.taken new) (g.P.Port.left old) (g.P.Port.left new) (g.P.ByteOut.written old) (g.P.ByteOut.written new)
    (g.P.Port.ended old) (g.P.Port.ended new) (g.P.Port.take_faults old) (g.P.Port.take_faults new) (g.P.ByteOut.put_faults old) (g.P.ByteOut.put_faults new))
    (sym c.make_report.ensures)
    (reading_answers c.args.words.now (settings_with (option_copied c.in-Some.options.base)) c.read_all-outcome.result c.read_all-outcome.new.block.lines (g.P.Port.taken old) (g.P.Port.taken new) (g.P.Port.left old) (g.P.Port.left new)
    (g.P.ByteOut.written old) (g.P.ByteOut.written new) (g.P.Port.ended old) (g.P.Port.ended new) (g.P.Port.take_faults old) (g.P.Port.take_faults new) (g.P.ByteOut.put_faults old) (g.P.ByteOut.put_faults new)
    c.in-Some.ensures.settings (sym c.are_write.ensures ∙ c.if-are_write.false) h.answers h.counts h.takes h.puts)

pub read_all-outcome-requires-clause-may : goal.read_all-outcome-requires-clause-may
read_all-outcome-requires-clause-may g c = granted (settings_of c.args.words.now) (option_copied c.in-Some.options.base) (g.P.Port.may_take c.args.port.now) c.in-Some.ensures.settings c.requires.may

pub returns-then-are_write-clause-answers : goal.returns-then-are_write-clause-answers
returns-then-are_write-clause-answers g c = let old = c.args.port.now in let new = c.answer_write.new.port in
    writing_answers c.args.words.now c.answer_write.result (g.P.Port.taken old) (g.P.Port.taken new) (g.P.Port.left old) (g.P.Port.left new)
    (g.P.ByteOut.written old) (g.P.ByteOut.written new) (g.P.Port.ended old) (g.P.Port.ended new) (g.P.Port.take_faults old) (g.P.Port.take_faults new) (g.P.ByteOut.put_faults old) (g.P.ByteOut.put_faults new)
    (sym c.are_write.ensures ∙ c.if-are_write.true) c.answer_write.ensures.answers

pub answer_write-requires-clause-may : goal.answer_write-requires-clause-may
answer_write-requires-clause-may g c = c.requires.may_write (sym c.are_write.ensures ∙ c.if-are_write.true)
