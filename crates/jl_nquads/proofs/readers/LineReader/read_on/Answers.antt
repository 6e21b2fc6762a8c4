use Rattle.std.proofs.Common.{◌≡◌, None, length, arith, refl, sym, subst}
use Rattle.jl_nquads.specs.LineStates.{LineState}
use Rattle.jl_nquads.specs.LineSteps.{Takes}
use Rattle.jl_nquads.specs.LinesRead.{IsInLine}
use Rattle.jl_nquads.proofs.LineReaders.{all_in_line, in_line_more, no_end_before, takes_all, takes_line, stops_line}
use Rattle.jl_nquads.proofs.readers.LineReader.read_on.Goals as goal

pub returns-in_ok-extend-in-None-clause-answer : goal.returns-in_ok-extend-in-None-clause-answer
returns-in_ok-extend-in-None-clause-answer c =
    let r = c.self.inside in
    let old : LineState = record { start = r.start; part = r.part; stopped = r.stopped } in
    let new : LineState = record { start = r.start; part = c.extend.new.self; stopped = r.stopped } in
    subst (λ s. Takes (record { count = length c.args.bytes.now; quad = None }) c.args.bytes.now s new) c.self.view_is
    (takes_all c.args.bytes.now old new c.in-None.ensures (subst (λ s. s.stopped ≡ None) (sym c.self.view_is) c.requires.goes_on) c.in_ok-extend-in-None.ensures.ok refl)

pub returns-in-Ok-clause-answer : goal.returns-in-Ok-clause-answer
returns-in-Ok-clause-answer c = takes_line c.args.bytes.now c.in-Some.at c.args.self.now c.in-Some.ensures.0.high c.in-Some.ensures.0.before c.in-Some.ensures.1 c.in-Ok.quad c.end_line.new.self c.end_line.ensures.goes_on c.in-Ok.ensures.answer

pub returns-in-Err-clause-answer : goal.returns-in-Err-clause-answer
returns-in-Err-clause-answer c = stops_line c.args.bytes.now c.in-Some.at c.args.self.now c.in-Some.ensures.0.high c.in-Some.ensures.0.before c.in-Some.ensures.1 c.in-Err.stop c.end_line.new.self c.in-Err.ensures.answer

pub invariant_of-self-in-None : goal.invariant_of-self-in-None
invariant_of-self-in-None c = subst (λ t. IsInLine t) (sym c.in_ok-extend-in-None.ensures.ok) (in_line_more c.self.inside.part c.args.bytes.now c.self.invariant (all_in_line c.args.bytes.now c.in-None.ensures))

pub end_line-requires-clause-in_line : goal.end_line-requires-clause-in_line
end_line-requires-clause-in_line c = no_end_before c.args.bytes.now c.in-Some.at c.in-Some.ensures.0.before (let high = c.in-Some.ensures.0.high in omega (arith, high))
