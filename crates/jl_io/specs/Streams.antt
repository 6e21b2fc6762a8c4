-- A port over a reader and two writers, as contracts see it.
use Rattle.std.specs.Prelude.{◌≡◌, ℕ, Bool, true, false, List, Option, None, is_some}

-- what the reader has left and the writers hold, and how often a call has failed
pub record Streams : Type 0 where
  pub left : Option (List ℕ)
  pub ended : Bool
  pub take_faults : ℕ
  pub written : Option (List ℕ)
  pub put_faults : ℕ
  -- told as long as no call of `say` has failed
  pub said : Option (List ℕ)

-- before the first call
abbrev pub unused : Option (List ℕ) → Option (List ℕ) → Option (List ℕ) → Streams
unused left written said = record { left = left; ended = false; take_faults = 0; written = written; put_faults = 0; said = said }

-- all stays but the bytes put and the count of faults of the output
pub record PutsOnly (old new : Streams) : Type 0 where
  pub left : new.left ≡ old.left
  pub ended : new.ended ≡ old.ended
  pub take_faults : new.take_faults ≡ old.take_faults
  pub said : new.said ≡ old.said

-- the bytes, where they are still told
abbrev pub told_if : Bool → Option (List ℕ) → Option (List ℕ)
told_if true bytes = bytes
told_if false bytes = None

-- such readers, or writers, tell their bytes always or never: any two values are alike in that
abbrev pub TellsAlike : {A : Type 0} → (A → Option (List ℕ)) → Type 0
TellsAlike {A} told = (a b : A) → is_some (told a) ≡ is_some (told b)
