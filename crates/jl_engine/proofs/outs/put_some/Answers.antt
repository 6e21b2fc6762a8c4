use Rattle.jl_engine.specs.Marks.{all_of}
use Rattle.jl_engine.proofs.Feeding.{put_then}
use Rattle.jl_engine.proofs.outs.put_some.Goals as goal

pub returns-clause-put : goal.returns-clause-put
returns-clause-put g c =
    put_then c.put_others.result g.O.QuadOut.tells g.O.QuadOut.selects c.args.out.now c.put_each.new.out c.put_others.new.out
    c.args.quads.now c.parts.result.0.now (all_of c.parts.result.1.now) c.parts.ensures c.put_each.ensures.out.test c.in_default.ensures.put c.put_others.ensures.put
