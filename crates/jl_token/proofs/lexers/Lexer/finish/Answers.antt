use Rattle.std.proofs.Common.{rules, ◌≡◌, subst}
use Rattle.jl_token.specs.declared.states.LexState.{LexState}
use Rattle.jl_token.specs.declared.steps.LexStop.{LexStop}
use Rattle.jl_token.specs.Lexed.{Ends, StopsEnd}
use Rattle.jl_token.proofs.LexerCalls.{goes_on_formed, formed_on, same_formed, read_end, no_end}
use Rattle.jl_token.proofs.lexers.Lexer.finish.Goals as goal

pub invariant_of-self : goal.invariant_of-self
invariant_of-self c =
    goes_on_formed c.self.inside.state.stopped c.finish.new.self
    (same_formed c.self.inside.state.reading c.finish.new.self c.finish.ensures.rest (formed_on c.self.inside.state (search rules) c.self.invariant))

pub returns-in-Ok-clause-read : goal.returns-in-Ok-clause-read
returns-in-Ok-clause-read c = subst (λ (s : LexState). Ends s c.in-Ok.token) c.self.view_is (read_end c.self.inside.state c.in-Ok.token c.in-Ok.ensures.ends)

pub returns-in-Err-clause-stops : goal.returns-in-Err-clause-stops
returns-in-Err-clause-stops c =
    let all : StopsEnd c.self.inside.state c.in-Err.stop = no_end c.in-Err.stop c.self.inside.state c.in-Err.ensures.ends in
    let stop : c.in-Err.stop ≡ c.stop.result = search rules in
    (search rules, subst (λ (s : LexState). StopsEnd s c.stop.result) c.self.view_is (subst (λ (x : LexStop). StopsEnd c.self.inside.state x) stop all))
