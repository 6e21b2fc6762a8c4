-- Characters between signs as they are read. Only private clauses cite this.
use Rattle.std.specs.Prelude.{◌≡◌, ℕ, ◌<◌, ◌≤◌, Bool, true, false, ◌||◌, ◌==◌, List, ◌++◌, length, flat_map, take, drop, slice_index, IsTrue, IsFalse, IsUtf8}
use Rattle.std.specs.List.{list_all}
use lib.Utf8.{encode, scalar}
use Rattle.jl_model.specs.LineTokens.{Written, spelling, meaning}
use Rattle.jl_nquads.specs.IriFronts.{may_stand}
use Rattle.jl_nquads.specs.declared.framed.Frame.{Frame}
use Rattle.jl_nquads.specs.declared.framed.Frame.TheVariants.{Angles, Quotes}
use Rattle.jl_nquads.specs.declared.framed.Characters.{Characters}

-- the sign that ends them, and whether there are escapes by a letter
abbrev pub close_of : Frame → ℕ
close_of Angles = 62
close_of Quotes = 34

abbrev pub letters_of : Frame → Bool
letters_of Angles = false
letters_of Quotes = true

abbrev pub stands_in : Frame → Written → Bool
stands_in frame w = may_stand (close_of frame) (letters_of frame) w

-- these are all characters at the front of the text that may stand in the frame
pub record AreCharacters (frame : Frame) (text : List ℕ) (read : Characters) : Type 0 where
  pub written : List Written
  pub text_is : text ≡ flat_map spelling written ++ drop read.len text
  pub len_is : read.len ≡ length (flat_map spelling written)
  pub each : IsTrue (list_all (stands_in frame) written)
  pub meaning_is : read.meaning ≡ meaning written
  pub no_more : (w : Written) (back : List ℕ) → IsTrue (stands_in frame w) → drop read.len text ≡ spelling w ++ back → ⊥

-- the sign or a backslash
abbrev pub is_stop : ℕ → ℕ → Bool
is_stop close c = c == close || c == 92

-- the bytes before the first sign or backslash
pub record IsRun (close : ℕ) (text : List ℕ) (n : ℕ) : Type 0 where
  pub within : n ≤ length text
  pub none : (k : ℕ) → k < n → IsFalse (is_stop close (slice_index text k))
  pub stop : n < length text → IsTrue (is_stop close (slice_index text n))

-- the first bytes are characters that mean themselves, and no further one does
pub record IsPlainFront (close : ℕ) (text : List ℕ) (n : ℕ) : Type 0 where
  pub within : n ≤ length text
  pub utf8 : IsUtf8 (take n text)
  pub none : (k : ℕ) → k < n → IsFalse (is_stop close (slice_index text k))
  pub no_more : (c : ℕ) (back : List ℕ) → IsTrue (scalar c) → IsFalse (is_stop close c) → drop n text ≡ encode c ++ back → ⊥
