use Rattle.jl_context.specs.Contexts.{context_of}
use Rattle.std.proofs.Common.{◌∙◌, ap, drop, take}
use Rattle.jl_engine.specs.Marks.{event_at, event_lent, len_of, marked}
use Rattle.jl_engine.specs.Reading.{replay}
use Rattle.jl_engine.proofs.HeldMarks.{told_more, told_stops, none_cut}
use Rattle.jl_engine.proofs.Readings.{stops_after, replay_nothing}
use Rattle.jl_engine.proofs.readers.Reader.replay.Goals as goal

pub returns-in-Err : goal.returns-in-Err
returns-in-Err c =
    let d = context_of c.args.context.now in
    let l = c.loop-mark in
    stops_after c.in-Err.stop c.args.quads.now _ (replay d (marked (drop l.mark-index c.args.marks.now) l.rest.now) l.self) l.quads l.invariant
    (told_stops d c.args.marks.now l.mark-index _ l.rest.now c.text_and_rest.result.0.now c.text_and_rest.result.1.now (event_lent c.event.result) l.self c.in-Err.stop c.loop-mark-test.true (c.text_and_rest.ensures.text ∙ ap (λ n. take n l.rest.now) c.len.ensures) (c.text_and_rest.ensures.rest ∙ ap (λ n. drop n l.rest.now) c.len.ensures) c.event.ensures c.in-Err.ensures)

pub loop-mark-preserved : goal.loop-mark-preserved
loop-mark-preserved c =
    let l = c.loop-mark in
    l.invariant
    ∙ told_more (context_of c.args.context.now) c.args.marks.now l.mark-index _ l.rest.now c.text_and_rest.result.0.now c.text_and_rest.result.1.now (event_lent c.event.result) l.quads c.at_step.new.quads l.self c.at_step.new.self c.loop-mark-test.true (c.text_and_rest.ensures.text ∙ ap (λ n. take n l.rest.now) c.len.ensures) (c.text_and_rest.ensures.rest ∙ ap (λ n. drop n l.rest.now) c.len.ensures) c.event.ensures c.in_default.ensures

pub returns : goal.returns
returns c =
    let l = c.loop-mark in
    l.invariant ∙ replay_nothing (context_of c.args.context.now) (marked (drop l.mark-index c.args.marks.now) l.rest.now) l.quads l.self (none_cut len_of event_at c.args.marks.now l.mark-index l.rest.now c.loop-mark-test.false)
