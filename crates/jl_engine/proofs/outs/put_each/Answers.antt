use Rattle.std.proofs.Common.{◌∷◌, [], ◌+◌, drop}
use Rattle.jl_engine.proofs.HeldMarks.{item_more, none_after}
use Rattle.jl_engine.proofs.Feeding.{goes_on, stops_on, ends_on}
use Rattle.jl_engine.proofs.outs.put_each.Goals as goal

pub returns-in-Err-clause-put : goal.returns-in-Err-clause-put
returns-in-Err-clause-put g c =
    let l = c.loop-quad in
    stops_on g.O.QuadOut.tells g.O.QuadOut.selects c.args.out.now l.out c.put_quad.new.out c.args.quads.now (drop l.quad-index c.args.quads.now) (c.quad-item.result ∷ []) (drop (l.quad-index + 1) c.args.quads.now) c.in-Err.stop l.invariant.put
    (item_more c.args.quads.now l.quad-index c.quad-item.result c.loop-quad-test.true c.quad-item.is)
    c.in-Err.ensures.put

pub loop-quad-preserved : goal.loop-quad-preserved
loop-quad-preserved g c =
    let l = c.loop-quad in
    goes_on g.O.QuadOut.tells g.O.QuadOut.selects g.O.QuadOut.faults g.O.QuadOut.beside c.args.out.now l.out c.put_quad.new.out c.args.quads.now (drop l.quad-index c.args.quads.now) (c.quad-item.result ∷ []) (drop (l.quad-index + 1) c.args.quads.now) g.met.O.QuadOut.joins l.invariant (item_more c.args.quads.now l.quad-index c.quad-item.result c.loop-quad-test.true c.quad-item.is) c.in_default.ensures.put c.in_default.ensures.out

pub returns-clause-put : goal.returns-clause-put
returns-clause-put g c =
    let l = c.loop-quad in
    ends_on g.O.QuadOut.tells g.O.QuadOut.selects c.args.out.now l.out c.args.quads.now (drop l.quad-index c.args.quads.now) l.invariant.put (none_after c.args.quads.now l.quad-index c.loop-quad-test.false)
