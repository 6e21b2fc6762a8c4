use Rattle.std.proofs.Common.{◌∙◌}
use Rattle.jl_token.proofs.TextLanes.{any_text}
use Rattle.jl_token.proofs.runs.text_len.Goals as goal

pub returns : goal.returns
returns c = c.run_to.ensures.count ∙ any_text c.args.bytes.now c.type_inv.bytes
