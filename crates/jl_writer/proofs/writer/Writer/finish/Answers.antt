use Rattle.jl_writer.specs.Writing.{opened_if}
use Rattle.jl_writer.proofs.OpenTexts.{text_closed, closing_cut}
use Rattle.jl_writer.proofs.writer.Writer.finish.Goals as goal

pub returns-in-Ok-clause-text : goal.returns-in-Ok-clause-text
returns-in-Ok-clause-text g c = λ before quads h.
    text_closed before _ _ quads (opened_if c.args.self.now.node) c.closing.result.now h.text h.node c.closing.ensures c.in-Ok.ensures.put

pub returns-in-Err-clause-cut : goal.returns-in-Err-clause-cut
returns-in-Err-clause-cut g c = λ before quads h.
    closing_cut before _ _ quads (opened_if c.args.self.now.node) c.closing.result.now h.text h.node c.closing.ensures c.in-Err.ensures.cut
