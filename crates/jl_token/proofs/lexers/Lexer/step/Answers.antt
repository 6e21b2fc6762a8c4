use Rattle.std.proofs.Common.{rules, ◌≡◌, ◌∙◌, ap, sym, subst, List, None, Ok, true}
use Rattle.jl_model.specs.declared.tokens.Token.{Token}
use Rattle.jl_token.specs.declared.states.LexState.{LexState}
use Rattle.jl_token.specs.Machine.{moved}
use Rattle.jl_token.specs.Lexed.{Takes, AreWhole, told, tokens_of}
use Rattle.jl_token.proofs.LexerCalls.{texts_taken, whole_tokens}
use Rattle.jl_token.proofs.lexers.Lexer.step.Goals as goal

pub returns-clause-taken : goal.returns-clause-taken
returns-clause-taken c =
    let old : LexState = c.args.self.now in
    let middle : LexState = c.self-2.inside.state in
    let new : LexState = record { reading = c.take_tokens.new.self; stopped = c.self-2.inside.state.stopped; ended = c.self-2.inside.state.ended } in
    let moves : moved true 256 old.reading c.args.byte ≡ Ok (told c.in_ok-signs.signs old.reading.at middle.reading, middle.reading) = subst (λ (s : LexState). moved true 256 old.reading c.args.byte ≡ Ok (told c.in_ok-signs.signs old.reading.at s.reading, s.reading)) (sym c.self-2.view_is) c.in_ok-signs.ensures.moves in
    let live : middle.stopped ≡ None = ap (λ (s : LexState). s.stopped) c.self-2.view_is ∙ c.in_ok-signs.ensures.goes_on in
    let tokens : told c.in_ok-signs.signs old.reading.at middle.reading ≡ tokens_of c.take_tokens.result = search rules in
    subst (λ (ts : List Token). Takes old new c.args.byte ts) tokens (texts_taken old middle new c.args.byte old.reading.at c.in_ok-signs.signs.number c.in_ok-signs.signs.sign moves live live c.take_tokens.ensures.rest)

pub returns-clause-whole : goal.returns-clause-whole
returns-clause-whole c =
    let old : LexState = c.args.self.now in
    let middle : LexState = c.self-2.inside.state in
    let moves : moved true 256 old.reading c.args.byte ≡ Ok (told c.in_ok-signs.signs old.reading.at middle.reading, middle.reading) = subst (λ (s : LexState). moved true 256 old.reading c.args.byte ≡ Ok (told c.in_ok-signs.signs old.reading.at s.reading, s.reading)) (sym c.self-2.view_is) c.in_ok-signs.ensures.moves in
    let tokens : told c.in_ok-signs.signs old.reading.at middle.reading ≡ tokens_of c.take_tokens.result = search rules in
    subst (λ (ts : List Token). AreWhole old c.args.byte ts) tokens (whole_tokens old middle.reading c.args.byte (told c.in_ok-signs.signs old.reading.at middle.reading) moves)
