use Rattle.jl_engine.proofs.DuePut.{due-said}
use Rattle.jl_engine.proofs.promptness.law_due_is_said.Goals as goal

pub returns : goal.returns
returns c = due-said
