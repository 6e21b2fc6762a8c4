use Rattle.std.proofs.Common.{refl, subst, sym}
use Rattle.jl_engine.specs.Standing.{Stands}
use Rattle.jl_engine.proofs.Feeding.{stopped-there}
use Rattle.jl_engine.proofs.engines.Engine.feed.Goals as goal

pub returns-in-Err-clause-stopped : goal.returns-in-Err-clause-stopped
returns-in-Err-clause-stopped g c = λ s bytes quads h.
    stopped-there s bytes quads c.args.piece.now c.in-Err.stop c.feed.new.self _ (g.O.QuadOut.tells c.args.out.now) (g.O.QuadOut.tells c.feed.new.out) (g.O.QuadOut.selects c.args.out.now) refl
    (c.in-Err.ensures.stopped s bytes quads (subst (Stands s bytes quads) (sym c.self.view_is) h))
