use Rattle.std.proofs.Common.{◌∙◌, sym}
use Rattle.jl_context.proofs.Colons.{split_at, split_none, with_rest}
use Rattle.jl_context.proofs.compacts.split_colon.Goals as goal

pub returns-in-Some : goal.returns-in-Some
returns-in-Some c =
    with_rest c.in-Some.colon c.args.text.now
    ∙ sym (split_at c.args.text.now c.in-Some.colon (sym c.in-Some.ensures))

pub returns-in-None : goal.returns-in-None
returns-in-None c = sym (split_none c.args.text.now (sym c.in-None.ensures))
