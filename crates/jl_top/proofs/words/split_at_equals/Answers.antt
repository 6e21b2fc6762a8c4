use Rattle.std.proofs.Common.{◌∙◌, sym}
use Rattle.jl_top.proofs.Splitting.{split_at, split_none, with_rest}
use Rattle.jl_top.proofs.words.split_at_equals.Goals as goal

pub returns-in-Some : goal.returns-in-Some
returns-in-Some c = with_rest c.in-Some.at c.args.word.now ∙ sym (split_at c.args.word.now c.in-Some.at (sym c.in-Some.ensures))

pub returns-in-None : goal.returns-in-None
returns-in-None c = sym (split_none c.args.word.now (sym c.in-None.ensures))
