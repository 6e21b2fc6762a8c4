use Rattle.jl_top.proofs.Options.{test-is_utf8}
use Rattle.jl_top.proofs.words.is_utf8_text.Goals as goal

pub returns : goal.returns
returns c = test-is_utf8 c.has_utf8.result c.args.text.now c.has_utf8.ensures
