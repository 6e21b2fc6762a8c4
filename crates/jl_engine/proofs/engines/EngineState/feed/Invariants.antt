use Rattle.std.proofs.Common.{◌≡◌, ◌≤◌, ◌-◌, ℕ, false, List, length, take}
use Rattle.jl_model.specs.Parts.{Parts}
use Rattle.jl_defs.specs.Settings.{Settings}
use Rattle.jl_engine.specs.Standing.{Stands, Fed}
use Rattle.jl_engine.proofs.engines.EngineState.feed.Given as goal

abbrev pub invariant-loop-at : goal.invariant-loop-at
invariant-loop-at g l = record {
  within : l.at ≤ length l.piece;
  live : l.self.lexer.ended ≡ false;
  goes_on : l.self.stopped ≡ l.initial.self.stopped;
  ended : l.self.ended ≡ l.initial.self.ended;
  fed : (s : Settings) (bytes : List ℕ) (quads : List Parts) → Stands s bytes quads l.initial.self → Fed s bytes quads (take l.at l.piece) l.self (g.O.QuadOut.tells l.initial.out) (g.O.QuadOut.tells l.out) (g.O.QuadOut.selects l.initial.out);
  selects : (q : Parts) → g.O.QuadOut.selects l.out q ≡ g.O.QuadOut.selects l.initial.out q;
  counted : g.O.QuadOut.faults l.out ≡ g.O.QuadOut.faults l.initial.out;
  beside : g.O.QuadOut.beside l.initial.out l.out;
}

abbrev pub decreases-loop-at : goal.decreases-loop-at
decreases-loop-at g l = length l.piece - l.at
