-- A port over memory, as contracts see it.
use Rattle.std.specs.Prelude.{◌≡◌, ℕ, ◌+◌, ◌-◌, ◌^◌, nat_le, Bool, List, ◌++◌, length, min, Option, Some, None, if◌then◌else◌}

-- what was taken from it, put to it and said, and what it does next
pub record Memory : Type 0 where
  pub taken : List ℕ
  pub left : List ℕ
  -- how many bytes a call of `take` gives at the most
  pub piece : ℕ
  pub ended : Bool
  pub written : List ℕ
  -- how many bytes it has room for yet
  pub room : ℕ
  pub put_faults : ℕ
  pub said : Option (List ℕ)

-- how many bytes `take` gives into a buffer of this length
abbrev pub given : Memory → ℕ → ℕ
given port buffer = min (min (length port.left) port.piece) buffer

-- a count of faults after one more, which stays at the end of its range
abbrev pub counted : ℕ → ℕ
counted faults = min (faults + 1) (2 ^ 64 - 1)

-- what it tells as said after these bytes: nothing any more, once there are more than 256
abbrev pub said_with : Option (List ℕ) → List ℕ → Option (List ℕ)
said_with None bytes = None
said_with (Some before) bytes = if nat_le (length before + length bytes) 256 then Some (before ++ bytes) else None

-- all stays but the bytes put, the room for more and the count of faults
pub record PutsOnly (old new : Memory) : Type 0 where
  pub taken : new.taken ≡ old.taken
  pub left : new.left ≡ old.left
  pub piece : new.piece ≡ old.piece
  pub ended : new.ended ≡ old.ended
  pub said : new.said ≡ old.said

-- all stays but the bytes taken, those left and whether the end was told
pub record GivesOnly (old new : Memory) : Type 0 where
  pub piece : new.piece ≡ old.piece
  pub written : new.written ≡ old.written
  pub room : new.room ≡ old.room
  pub put_faults : new.put_faults ≡ old.put_faults
  pub said : new.said ≡ old.said
