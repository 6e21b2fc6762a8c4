use Rattle.jl_links.proofs.Cells as cells
use Rattle.jl_links.proofs.quads.linked.Goals as goal

pub returns : goal.returns
returns c = cells.linked c.in_ok-quad.quad c.args.scope.now c.args.subject c.args.predicate.now c.args.object c.requires c.in_ok-quad.ensures
