use Rattle.std.proofs.Common.{rules, refl, subst, ◌∙◌, ◌++◌, take, arith}
use Rattle.std.proofs.lemmas.Grind.{common_steps}
use Rattle.jl_engine.specs.Standing.{Fed, Stopped}
use Rattle.jl_engine.proofs.Feeding.{rest_is, fed-none, part-fed, part-stopped, whole-fed}
use Rattle.jl_engine.proofs.engines.EngineState.feed.Goals as goal

pub loop-at-init : goal.loop-at-init
loop-at-init g c =
    record {
      within = omega arith;
      live = c.requires.live;
      goes_on = refl;
      ended = refl;
      fed = λ s bytes quads h. fed-none s bytes quads c.args.self.now (g.O.QuadOut.tells c.args.out.now) (g.O.QuadOut.selects c.args.out.now) h;
      selects = λ q. refl;
      counted = refl;
      beside = g.met.O.QuadOut.itself c.args.out.now;
    }

pub loop-at-preserved : goal.loop-at-preserved
loop-at-preserved g c =
    let t0 = g.O.QuadOut.tells c.args.out.now in
    let t1 = g.O.QuadOut.tells c.loop-at.out in
    let t2 = g.O.QuadOut.tells c.feed_some.new.out in
    let s1 = g.O.QuadOut.selects c.loop-at.out in
    let piece = c.args.piece.now in
    let i = c.loop-at.invariant in
    record {
      within = grind (arith, common_steps);
      live = c.feed_some.ensures.goes_on.live;
      goes_on = c.feed_some.ensures.goes_on.stopped ∙ i.goes_on;
      ended = c.feed_some.ensures.goes_on.ended ∙ i.ended;
      fed = λ s bytes quads h.
          let a = i.fed s bytes quads h in
          part-fed s bytes quads piece c.loop-at.at c.in-Ok.n c.loop-at.self c.feed_some.new.self t0 t1 t2 (g.O.QuadOut.selects c.args.out.now) s1 i.selects a
          (subst (λ p. Fed s (bytes ++ take c.loop-at.at piece) (quads ++ a.more) (take c.in-Ok.n p) c.feed_some.new.self t1 t2 s1) (rest_is piece c.loop-at.at) (c.in-Ok.ensures.fed s (bytes ++ take c.loop-at.at piece) (quads ++ a.more) a.stands));
      selects = λ q. c.feed_some.ensures.out.test q ∙ i.selects q;
      counted = search rules;
      beside = g.met.O.QuadOut.joins c.args.out.now c.loop-at.out c.feed_some.new.out i.beside c.feed_some.ensures.out.kept;
    }

pub returns-in-Err-clause-stopped : goal.returns-in-Err-clause-stopped
returns-in-Err-clause-stopped g c = λ s bytes quads h.
    let t1 = g.O.QuadOut.tells c.loop-at.out in
    let t2 = g.O.QuadOut.tells c.feed_some.new.out in
    let s1 = g.O.QuadOut.selects c.loop-at.out in
    let piece = c.args.piece.now in
    let a = c.loop-at.invariant.fed s bytes quads h in
    part-stopped s bytes quads piece c.loop-at.at c.in-Err.stop c.loop-at.self c.feed_some.new.self (g.O.QuadOut.tells c.args.out.now) t1 t2 (g.O.QuadOut.selects c.args.out.now) s1 c.loop-at.invariant.selects a
    (subst (λ p. Stopped s (bytes ++ take c.loop-at.at piece) (quads ++ a.more) p c.in-Err.stop c.feed_some.new.self t1 t2 s1) (rest_is piece c.loop-at.at) (c.in-Err.ensures.stopped s (bytes ++ take c.loop-at.at piece) (quads ++ a.more) a.stands))

pub returns-clause-fed : goal.returns-clause-fed
returns-clause-fed g c = λ s bytes quads h.
    whole-fed s bytes quads c.args.piece.now c.loop-at.at c.loop-at.self (g.O.QuadOut.tells c.args.out.now) (g.O.QuadOut.tells c.loop-at.out) (g.O.QuadOut.selects c.args.out.now) c.loop-at-test.false (c.loop-at.invariant.fed s bytes quads h)
