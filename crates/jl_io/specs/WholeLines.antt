-- The whole lines of bytes: each ends with a line feed, as the line of a quad does.
use Rattle.std.specs.Prelude.{ℕ, ◌==◌, Bool, List, [], ◌∷◌, if◌then◌else◌}
use Rattle.std.specs.List.{list_any}
use Rattle.std.specs.Str.{bytes_eq}

abbrev pub is_line_feed : ℕ → Bool
is_line_feed byte = byte == 10

-- the lines, the first of which begins with this byte too; where there is none, the byte is of a cut line
abbrev pub begun_with : ℕ → List (List ℕ) → List (List ℕ)
begun_with byte [] = []
begun_with byte (line ∷ lines) = (byte ∷ line) ∷ lines

-- the whole lines, each with its line feed; what stands after the last line feed is none
abbrev pub whole_lines : List ℕ → List (List ℕ)
whole_lines [] = []
whole_lines (byte ∷ bytes) = if is_line_feed byte then (byte ∷ []) ∷ whole_lines bytes else begun_with byte (whole_lines bytes)

-- the text stands among the whole lines
abbrev pub is_whole_line : List ℕ → List ℕ → Bool
is_whole_line text bytes = list_any (bytes_eq text) (whole_lines bytes)
