use Rattle.std.proofs.Common.{rules, ◌≡◌, ◌+◌, ◌-◌, ◌≤◌, ◌<◌, ◌∙◌, ℕ, get_or, length, take, refl, subst, arith}
use Rattle.jl_token.specs.declared.states.LexState.{LexState}
use Rattle.jl_token.specs.declared.steps.LexStop.TheVariants.{NoMemory}
use Rattle.jl_token.specs.Lexed.{told}
use Rattle.jl_token.specs.Nexts.{TakesUpTo}
use Rattle.jl_token.specs.Runs.{Runs}
use Rattle.jl_token.proofs.NextTokens.{runs_on, runs_byte, takes_last, stops_last, no_memory, rest_within}
use Rattle.jl_token.proofs.states.LexState.next.Goals.{else-run-gt0-via-then-run-gt0+else-count-bytes, else-run-gt0-via-else-run-gt0}
use Rattle.jl_token.proofs.states.LexState.next.Goals as goal

pub returns-in_default-clause-reached : goal.returns-in_default-clause-reached
returns-in_default-clause-reached c =
    let i = c.loop-count.invariant in
    (NoMemory, search rules, stops_last c.args.self.now c.loop-count.self c.args.bytes.now c.loop-count.count NoMemory c.loop-count-test.true i.ended i.runs (no_memory c.loop-count.self (get_or c.args.bytes.now c.loop-count.count 0)))

pub returns-in-Err-clause-reached : goal.returns-in-Err-clause-reached
returns-in-Err-clause-reached c =
    let i = c.loop-count.invariant in
    let at : ℕ = c.loop-count.count + c.in-Ok.run' in
    let mid : LexState = record c.loop-count.self { reading = c.skip.new.self } in
    let within : at ≤ length c.args.bytes.now = rest_within c.args.bytes.now c.loop-count.count c.in-Ok.run' i.within c.in-Ok.ensures.bound in
    let short : at < length c.args.bytes.now = elim c.else-run-gt0.branch [
      | else-run-gt0-via-then-run-gt0+else-count-bytes w ↦ omega (arith, within, w.if-count-bytes.false)
      | else-run-gt0-via-else-run-gt0 w ↦ omega (arith, c.loop-count-test.true, w.if-run-gt0.false)
    ] in
    let runs : Runs c.args.self.now mid (take at c.args.bytes.now) = runs_on c.args.self.now c.loop-count.self mid c.args.bytes.now c.loop-count.count c.in-Ok.run' i.runs c.in-Ok.ensures.passes i.goes_on in
    (c.in-Err.field-0, c.in-Err.ensures.stops.0, stops_last c.args.self.now mid c.args.bytes.now at c.in-Err.field-0 short i.ended runs c.in-Err.ensures.stops.1)

pub returns-then-not-is_silent-clause-reached : goal.returns-then-not-is_silent-clause-reached
returns-then-not-is_silent-clause-reached c =
    let i = c.loop-count.invariant in
    let at : ℕ = c.loop-count.count + c.in-Ok.run' in
    let mid : LexState = record c.loop-count.self { reading = c.skip.new.self } in
    let new : LexState = c.take_byte.new.self in
    let within : at ≤ length c.args.bytes.now = rest_within c.args.bytes.now c.loop-count.count c.in-Ok.run' i.within c.in-Ok.ensures.bound in
    let short : at < length c.args.bytes.now = elim c.else-run-gt0.branch [
      | else-run-gt0-via-then-run-gt0+else-count-bytes w ↦ omega (arith, within, w.if-count-bytes.false)
      | else-run-gt0-via-else-run-gt0 w ↦ omega (arith, c.loop-count-test.true, w.if-run-gt0.false)
    ] in
    let runs : Runs c.args.self.now mid (take at c.args.bytes.now) = runs_on c.args.self.now c.loop-count.self mid c.args.bytes.now c.loop-count.count c.in-Ok.run' i.runs c.in-Ok.ensures.passes i.goes_on in
    let place : mid.reading.at ≡ new.reading.at - 1 = let p : new.reading.at ≡ mid.reading.at + 1 = c.in-Ok-take_byte.ensures.place in omega (arith, p) in
    subst (λ n. TakesUpTo c.args.self.now new (take (at + 1) c.args.bytes.now) (told c.in-Ok-take_byte.signs n new.reading)) place
    (takes_last c.args.self.now mid new c.args.bytes.now at (told c.in-Ok-take_byte.signs mid.reading.at new.reading) short i.ended runs c.in-Ok-take_byte.ensures.moves
    (c.if-not-is_silent.ensures.told refl mid.reading.at new.reading) c.in-Ok-take_byte.ensures.goes_on)

pub loop-count-preserved : goal.loop-count-preserved
loop-count-preserved c =
    let i = c.loop-count.invariant in
    let at : ℕ = c.loop-count.count + c.in-Ok.run' in
    let mid : LexState = record c.loop-count.self { reading = c.skip.new.self } in
    let new : LexState = c.take_byte.new.self in
    let within : at ≤ length c.args.bytes.now = rest_within c.args.bytes.now c.loop-count.count c.in-Ok.run' i.within c.in-Ok.ensures.bound in
    let short : at < length c.args.bytes.now = elim c.else-run-gt0.branch [
      | else-run-gt0-via-then-run-gt0+else-count-bytes w ↦ omega (arith, within, w.if-count-bytes.false)
      | else-run-gt0-via-else-run-gt0 w ↦ omega (arith, c.loop-count-test.true, w.if-run-gt0.false)
    ] in
    let runs : Runs c.args.self.now mid (take at c.args.bytes.now) = runs_on c.args.self.now c.loop-count.self mid c.args.bytes.now c.loop-count.count c.in-Ok.run' i.runs c.in-Ok.ensures.passes i.goes_on in
    record {
      within = omega (arith, short);
      runs =
          runs_byte c.args.self.now mid new c.args.bytes.now at (told c.in-Ok-take_byte.signs mid.reading.at new.reading) short runs c.in-Ok-take_byte.ensures.moves
          (c.if-not-is_silent.ensures.silent refl mid.reading.at new.reading) c.in-Ok-take_byte.ensures.goes_on;
      formed = c.in-Ok-take_byte.ensures.formed;
      place = let p : new.reading.at ≡ mid.reading.at + 1 = c.in-Ok-take_byte.ensures.place in let q : mid.reading.at ≡ c.loop-count.self.reading.at + c.in-Ok.run' = c.in-Ok.ensures.place in omega (arith, p, q, i.place);
      goes_on = c.in-Ok-take_byte.ensures.goes_on;
      ended = c.take_byte.ensures.ended ∙ i.ended;
    }
