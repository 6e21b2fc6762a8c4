use Rattle.jl_writer.proofs.TextReadsBack.{text_reads_back}
use Rattle.jl_writer.proofs.laws.law_text.Goals as goal

pub returns : goal.returns
returns c = text_reads_back
