use Rattle.std.proofs.Common.{rules, List, ℕ, subst, take}
use Rattle.jl_token.specs.declared.states.LexState.{LexState}
use Rattle.jl_token.specs.Runs.{Runs}
use Rattle.jl_token.proofs.PlainRuns.{runs, taken_text}
use Rattle.jl_token.proofs.lexers.Lexer.run.Goals as goal

pub returns-in-Ok-clause-runs : goal.returns-in-Ok-clause-runs
returns-in-Ok-clause-runs c =
    let new : LexState = record { reading = c.run.new.self; stopped = c.self.inside.state.stopped; ended = c.self.inside.state.ended } in
    let bytes : List ℕ = take c.plain_len-count.result c.args.bytes.now in
    let t = taken_text c.min-within.result c.plain_len-count.result c.args.bytes.now c.plain_len-count.ensures.count in
    subst (λ (s : LexState). Runs s new bytes) c.self.view_is (runs c.self.inside.state new bytes t.0 t.1 (search rules) (search rules) (search rules))
