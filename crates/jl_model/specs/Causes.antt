-- When an outside object may be said to have failed.
use Rattle.std.specs.Prelude.{◌≡◌, ℕ, ◌+◌, ◌-◌, ◌^◌, ◌≤◌, min}

-- a count of faults has risen, or stands at the end of its range
abbrev pub Rose : ℕ → ℕ → Type 0
Rose before now = min (before + 1) (2 ^ 64 - 1) ≤ now

-- the count hasn't fallen; it has risen where the call failed, and is the same where it didn't
pub record HasCause (before now : ℕ) (Failed : Type 0) : Type 0 where
  pub later : before ≤ now
  pub failed : Failed → Rose before now
  pub others : (Failed → ⊥) → now ≡ before
