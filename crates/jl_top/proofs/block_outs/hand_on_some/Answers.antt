use Rattle.std.proofs.Common.{refl, arith}
use Rattle.std.proofs.lemmas.Grind.{common_steps}
use Rattle.jl_top.proofs.Handing.{hands_some}
use Rattle.jl_top.proofs.block_outs.hand_on_some.Goals as goal

pub returns-in-Ok-clause-hands_on : goal.returns-in-Ok-clause-hands_on
returns-in-Ok-clause-hands_on g c =
    hands_some (g.B.ByteOut.written c.args.out.now) (g.B.ByteOut.written c.put.new.self) c.args.block.now _ c.in-Ok.n refl refl
    (grind (arith, common_steps, c.in-Ok.ensures.put)) (grind (arith, common_steps, c.saturating_add-block.ensures, c.line_feeds-feeds.ensures))
