use Rattle.std.proofs.Common.{rules, ◌≡◌, ◌+◌, ◌<◌, ◌≤◌, ◌^◌, ℕ, List, length, take, ap, ◌∙◌, subst, refl, arith}
use Rattle.std.proofs.lemmas.List.{take_all, length-take}
use Rattle.jl_model.specs.declared.codes.Code.TheVariants.{TooLong}
use Rattle.jl_token.specs.declared.states.LexState.{LexState}
use Rattle.jl_token.specs.declared.steps.LexStop.{LexStop}
use Rattle.jl_token.specs.declared.steps.LexStop.TheVariants.{Refused}
use Rattle.jl_token.specs.Lexed.{IsFormedReading, end_of_places}
use Rattle.jl_token.specs.Nexts.{Reached, read_len}
use Rattle.jl_token.specs.Runs.{Runs}
use Rattle.jl_token.proofs.LexerCalls.{formed_on}
use Rattle.jl_token.proofs.NextTokens.{more_reached, more_bound, more_places, stops_last, too_long}
use Rattle.jl_token.proofs.lexers.Lexer.next.Goals as goal

pub returns-then-within-bytes-clause-reached : goal.returns-then-within-bytes-clause-reached
returns-then-within-bytes-clause-reached c = λ _.
    let next = c.next-next.result in
    let new : LexState = c.next-next.new.self in
    subst (λ (s : LexState). Reached next s new c.args.bytes.now) c.self.view_is
    (subst (λ (xs : List ℕ). Reached next c.self.inside.state new xs) (take_all c.min-within.result c.args.bytes.now (omega (arith, c.if-within-bytes.true))) c.next-next.ensures.reached)

pub returns-else-within-bytes-clause-reached : goal.returns-else-within-bytes-clause-reached
returns-else-within-bytes-clause-reached c = λ e.
    let n : ℕ = c.min-within.result in
    let mid : LexState = c.next-next.new.self in
    let stop : LexStop = Refused (record { code = TooLong; at = end_of_places }) in
    let old : IsFormedReading c.self.inside.state.reading = formed_on c.self.inside.state (ap (λ (s : LexState). s.stopped) c.self.view_is ∙ e) c.self.invariant in
    let short : n < length c.args.bytes.now = omega (arith, c.min-within.ensures, c.if-within-bytes.false) in
    let full : mid.reading.at ≡ end_of_places = let p = c.in-Nothing.ensures.place refl in omega (arith, p, length-take n c.args.bytes.now, c.min-within.ensures, short, old.place) in
    let runs : Runs c.args.self.now mid (take n c.args.bytes.now) = subst (λ (s : LexState). Runs s mid (take n c.args.bytes.now)) c.self.view_is c.in-Nothing.ensures.reached in
    let live = c.next-next.ensures.ended ∙ ap (λ (s : LexState). s.ended) c.self.view_is in
    (stop, search rules, stops_last c.args.self.now mid c.args.bytes.now n stop short live runs (too_long mid _ full))

pub returns-in_default-clause-reached : goal.returns-in_default-clause-reached
returns-in_default-clause-reached c = λ _.
    let next = c.next-next.result in
    let new : LexState = c.next-next.new.self in
    subst (λ (s : LexState). Reached next s new c.args.bytes.now) c.self.view_is
    (more_reached next c.self.inside.state new c.min-within.result c.args.bytes.now c.in_default.not-Nothing c.next-next.ensures.bound c.next-next.ensures.reached)

pub returns-in_default-clause-bound : goal.returns-in_default-clause-bound
returns-in_default-clause-bound c = more_bound c.next-next.result c.min-within.result c.args.bytes.now c.in_default.not-Nothing c.next-next.ensures.bound

pub returns-in_default-clause-places : goal.returns-in_default-clause-places
returns-in_default-clause-places c = λ _.
    let l = more_places c.next-next.result c.min-within.result c.self.inside.state.reading.at (2 ^ 40) c.args.bytes.now c.in_default.not-Nothing c.next-next.ensures.places in
    subst (λ (s : LexState). s.reading.at + read_len c.next-next.result (length c.args.bytes.now) ≤ 2 ^ 40 + 1) c.self.view_is l
