use Rattle.std.proofs.Common.{◌≡◌, Ok, Err, length, subst, sym}
use Rattle.jl_nquads.specs.LineReading.{AnswersEnd}
use Rattle.jl_nquads.specs.LineStates.{LineState}
use Rattle.jl_nquads.specs.LinesRead.{ReadsFrom}
use Rattle.jl_nquads.specs.LineSteps.{end_stop_for}
use Rattle.jl_nquads.specs.Spots.{begins}
use Rattle.jl_nquads.proofs.LineReaders.{last_line, ends_with}
use Rattle.jl_nquads.proofs.readers.LineReader.finish.Goals as goal

pub returns-in-Ok-clause-answer : goal.returns-in-Ok-clause-answer
returns-in-Ok-clause-answer c =
    let r = c.self.inside in
    let old : LineState = record { start = r.start; part = r.part; stopped = r.stopped } in
    subst (λ s. AnswersEnd (Ok c.in-Ok.quad) s) c.self.view_is (λ read given h. last_line read given old h c.in-Ok.quad (subst (λ t. ReadsFrom begins t (Ok c.in-Ok.quad)) c.bytes.ensures c.in-Ok.ensures))

pub returns-in-Err-clause-answer : goal.returns-in-Err-clause-answer
returns-in-Err-clause-answer c =
    subst (λ s. AnswersEnd (Err c.end_stop-stop.result) s) c.self.view_is
    (ends_with c.end_stop-stop.result c.in-Err.halt (record { start = c.self.inside.start; part = c.self.inside.part; stopped = c.self.inside.stopped }) (subst (λ t. ReadsFrom begins t (Err c.in-Err.halt)) c.bytes.ensures c.in-Err.ensures) (subst (λ s. c.end_stop-stop.result ≡ end_stop_for s.start (length s.part) c.in-Err.halt) (sym c.self.view_is) c.end_stop-stop.ensures))
