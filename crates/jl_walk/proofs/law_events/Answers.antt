use Rattle.jl_walk.proofs.Reading.{events-cut}
use Rattle.jl_walk.proofs.law_events.Goals as goal

pub returns : goal.returns
returns c = events-cut
