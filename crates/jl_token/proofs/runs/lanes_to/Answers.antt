use Rattle.std.proofs.Common.{refl, arith}
use Rattle.jl_token.proofs.TextLanes.{no_end, first_end}
use Rattle.jl_token.proofs.runs.lanes_to.Goals as goal

pub returns-then-others-eq0 : goal.returns-then-others-eq0
returns-then-others-eq0 c = no_end c.args.lanes c.args.last c.fits-lanes.0 c.if-others-eq0.true

pub returns : goal.returns
returns c = first_end c.args.lanes c.args.last _ c.fits-lanes.0 refl (omega (arith, c.if-others-eq0.false))
