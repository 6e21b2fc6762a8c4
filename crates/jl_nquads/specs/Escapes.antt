-- Runs of bytes that a literal's string writes as they are.
use Rattle.std.specs.Prelude.{ℕ, Bool, ◌||◌, ◌==◌, List}
use Rattle.std.specs.List.{position_or_len}

-- quote, backslash, line feed, carriage return
abbrev pub needs_escape : ℕ → Bool
needs_escape c = c == 34 || (c == 92 || (c == 10 || c == 13))

-- how many bytes stand before the first that needs an escape
abbrev pub plain_len_of : List ℕ → ℕ
plain_len_of text = position_or_len needs_escape text
