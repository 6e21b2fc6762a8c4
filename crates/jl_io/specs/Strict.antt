-- A port that gives more only where the lines that are due were put, as contracts see it.
use Rattle.std.specs.Prelude.{◌≡◌, ℕ, nat_le, Bool, not, ◌||◌, List}
use Rattle.std.specs.List.{list_all}
use Rattle.jl_io.specs.declared.pairs.Pair.{Pair}
use Rattle.jl_io.specs.Memory as memory
use Rattle.jl_io.specs.Memory.{Memory}
use Rattle.jl_io.specs.WholeLines.{is_whole_line}

-- the port over memory in it, its pairs, and how often `take` has failed
pub record Strict : Type 0 where
  pub memory : Memory
  pub pairs : List Pair
  pub take_faults : ℕ

-- once this many bytes were taken, the pair's text has to stand among the whole lines put
abbrev pub is_met : ℕ → List ℕ → Pair → Bool
is_met taken put pair = not (nat_le pair.taken taken) || is_whole_line pair.line put

-- every pair that is due by the bytes taken stands among the whole lines put
abbrev pub are_met : List Pair → ℕ → List ℕ → Bool
are_met pairs taken put = list_all (is_met taken put) pairs

-- all stays but what a `put` of the port in it changes
pub record PutsOnly (old new : Strict) : Type 0 where
  pub memory : memory.PutsOnly old.memory new.memory
  pub pairs : new.pairs ≡ old.pairs
  pub take_faults : new.take_faults ≡ old.take_faults
