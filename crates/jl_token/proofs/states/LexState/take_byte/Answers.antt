use Rattle.std.proofs.Common.{rules, ◌≡◌, subst}
use Rattle.jl_token.specs.declared.steps.LexStop.{LexStop}
use Rattle.jl_token.specs.Lexed.{Stops, told}
use Rattle.jl_token.specs.Moves.{stop_of}
use Rattle.jl_token.proofs.LexerCalls.{kept_formed, kept_place, halted}
use Rattle.jl_token.proofs.states.LexState.take_byte.Goals as goal

pub returns-in-Ok-clause-formed : goal.returns-in-Ok-clause-formed
returns-in-Ok-clause-formed c =
    kept_formed c.args.self.now.reading c.move_on.new.self c.args.byte (told c.in-Ok.signs c.args.self.now.reading.at c.move_on.new.self) c.in-Ok.ensures.moves c.requires.formed c.requires.room

pub returns-in-Ok-clause-place : goal.returns-in-Ok-clause-place
returns-in-Ok-clause-place c =
    kept_place c.args.self.now.reading c.move_on.new.self c.args.byte (told c.in-Ok.signs c.args.self.now.reading.at c.move_on.new.self) c.in-Ok.ensures.moves c.requires.formed

pub returns-in-Err-clause-stops : goal.returns-in-Err-clause-stops
returns-in-Err-clause-stops c =
    let all : Stops c.args.self.now c.args.byte (stop_of c.in-Err.halt c.args.self.now.reading.at c.args.self.now.reading.start) = halted c.in-Err.halt c.args.self.now c.args.byte c.in-Err.ensures.moves c.requires.room in
    let stop : stop_of c.in-Err.halt c.args.self.now.reading.at c.args.self.now.reading.start ≡ c.stop-in-Err.result = search rules in
    (search rules, subst (λ (x : LexStop). Stops c.args.self.now c.args.byte x) stop all)
