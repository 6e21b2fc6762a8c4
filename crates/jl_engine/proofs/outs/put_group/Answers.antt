use Rattle.std.proofs.Common.{◌∷◌, []}
use Rattle.jl_engine.specs.Marks.{refilled}
use Rattle.jl_engine.proofs.Feeding.{put_then, stops_on}
use Rattle.jl_engine.proofs.outs.put_group.Goals as goal

pub returns-in-Err-clause-put : goal.returns-in-Err-clause-put
returns-in-Err-clause-put g c =
    let p = c.parts.result in
    stops_on g.O.QuadOut.tells g.O.QuadOut.selects c.args.out.now c.args.out.now c.put_quad.new.out c.args.group.now c.args.group.now (p.0.now ∷ []) (refilled p.0.now p.1.now p.2.now) c.in-Err.stop
    (λ r later put. put) c.parts.ensures.parts c.in-Err.ensures.put

pub returns-clause-put : goal.returns-clause-put
returns-clause-put g c =
    let p = c.parts.result in
    put_then c.put_like.result g.O.QuadOut.tells g.O.QuadOut.selects c.args.out.now c.put_quad.new.out c.put_like.new.out
    c.args.group.now (p.0.now ∷ []) (refilled p.0.now p.1.now p.2.now) c.parts.ensures.parts c.put_quad.ensures.out.test c.in_default.ensures.put c.put_like.ensures.put
