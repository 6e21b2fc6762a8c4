use Rattle.jl_walk.proofs.DueSure.{parts-prompt}
use Rattle.jl_walk.proofs.law_prompt.Goals as goal

pub returns : goal.returns
returns c = parts-prompt
