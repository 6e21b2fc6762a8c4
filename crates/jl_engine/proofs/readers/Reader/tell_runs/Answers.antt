use Rattle.std.proofs.Common.{◌≡◌, ◌∷◌, ◌++◌, ◌∙◌, length, ap, sym, subst, append_assoc, arith}
use Rattle.std.specs.Vec.Iter.{into_iter_items}
use Rattle.jl_context.specs.Contexts.{context_of}
use Rattle.jl_frames.specs.Answers.{HasCause}
use Rattle.jl_engine.specs.Marks.{all_of}
use Rattle.jl_engine.specs.Reading.{before, replay}
use Rattle.jl_engine.proofs.Lists.{nothing_left}
use Rattle.jl_engine.proofs.Readings.{reads_on, run_stops, run_told, stops_after}
use Rattle.jl_engine.proofs.readers.Reader.tell_runs.Goals as goal

pub returns-in-Err : goal.returns-in-Err
returns-in-Err c =
    let d = context_of c.args.context.now in
    let last = c.args.last.now in
    let l = c.loop-run in
    let rest = all_of (into_iter_items c.next.new.self) in
    let more = ap (λ rs. all_of rs ++ last) c.in-Some.ensures.steps.0 ∙ append_assoc c.in-Some.run' rest last in
    stops_after c.in-Err.stop c.args.quads.now (replay d (all_of c.args.full.items ++ last) c.args.self.now) (replay d (all_of (into_iter_items l.run-iterator) ++ last) l.self) l.quads l.invariant.0
    (subst (λ es. HasCause c.in-Err.stop (replay d es l.self)) (sym more) (run_stops d c.in-Some.run' (rest ++ last) l.self c.in-Err.stop c.in-Err.ensures))

pub loop-run-preserved : goal.loop-run-preserved
loop-run-preserved c =
    let d = context_of c.args.context.now in
    let last = c.args.last.now in
    let l = c.loop-run in
    let rest = all_of (into_iter_items c.next.new.self) in
    let steps : into_iter_items l.run-iterator ≡ c.in-Some.run' ∷ into_iter_items c.next.new.self = c.in-Some.ensures.steps.0 in (
      l.invariant.0
          ∙ ap (λ es. before l.quads (replay d es l.self)) (ap (λ rs. all_of rs ++ last) steps ∙ append_assoc c.in-Some.run' rest last)
          ∙ run_told d c.in-Some.run' (rest ++ last) l.quads c.tell_run.new.quads l.self c.tell_run.new.self c.in_default.ensures,
      let was = l.invariant.1 in
          let gone = c.in-Some.ensures.steps.1 in
          let short = ap length steps in
          omega arith,
    )

pub returns : goal.returns
returns c =
    let d = context_of c.args.context.now in
    let l = c.loop-run in
    let none = nothing_left (into_iter_items l.run-iterator) (sym l.invariant.1 ∙ c.in-None.ensures.steps.0) in
    reads_on c.tell_run-2.result c.args.quads.now l.quads c.tell_run-2.new.quads (replay d (all_of c.args.full.items ++ c.args.last.now) c.args.self.now) (replay d c.args.last.now l.self) c.tell_run-2.new.self
    (l.invariant.0 ∙ ap (λ rs. before l.quads (replay d (all_of rs ++ c.args.last.now) l.self)) none) c.tell_run-2.ensures
