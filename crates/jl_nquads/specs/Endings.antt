-- How a literal ends in a line.
use Rattle.std.specs.Prelude.{ℕ, List, ◌++◌, Option, codes}
use Rattle.jl_model.specs.Lines.{spaced, suffix_text}

-- the closing quote, the language or datatype, and the space behind them
abbrev pub ending : List ℕ → Option (List ℕ) → List ℕ
ending datatype language = codes "\"" ++ spaced (suffix_text datatype language)
