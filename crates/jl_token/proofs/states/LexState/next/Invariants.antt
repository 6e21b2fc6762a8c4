use Rattle.std.proofs.Common.{◌≡◌, ◌+◌, ◌-◌, ◌≤◌, length, take, None}
use Rattle.jl_token.specs.Lexed.{IsFormedReading}
use Rattle.jl_token.specs.Runs.{Runs}
use Rattle.jl_token.proofs.states.LexState.next.Given as goal

abbrev pub invariant-loop-count : goal.invariant-loop-count
invariant-loop-count l = record {
  within : l.count ≤ length l.bytes;
  runs : Runs l.initial.self l.self (take l.count l.bytes);
  formed : IsFormedReading l.self.reading;
  place : l.self.reading.at ≡ l.initial.self.reading.at + l.count;
  goes_on : l.self.stopped ≡ None;
  ended : l.self.ended ≡ l.initial.self.ended;
}

abbrev pub decreases-loop-count : goal.decreases-loop-count
decreases-loop-count l = length l.bytes - l.count
