use Rattle.jl_nquads.proofs.UnframedGoes.{first_further}
use Rattle.jl_nquads.proofs.unframed.first_with.Goals as goal

pub loop-preserved : goal.loop-preserved
loop-preserved c =
    let h = first_further c.args.count c.loop.counter c.loop.first c.min-first.result c.args.number c.loop-test.true c.loop.invariant.same c.min-first.ensures in
    record { within = h.0; same = h.1 }
