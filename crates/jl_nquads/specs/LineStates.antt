-- The state of a reader of lines.
use Rattle.std.specs.Prelude.{ℕ, List, Option}
use Rattle.jl_nquads.specs.declared.line_stops.LineStop.{LineStop}

-- the place at which the line begins that hasn't ended, what has come of that line, and why the reader stopped, once it has
pub record LineState : Type 0 where
  pub start : ℕ
  pub part : List ℕ
  pub stopped : Option LineStop
