-- Lines that have ended: bytes, and the quads that they say.
use Rattle.std.specs.Prelude.{◌≡◌, ℕ, List, [], ◌∷◌, ◌++◌, IsTrue}
use Rattle.std.specs.List.{list_all}
use Rattle.jl_model.specs.Parts.{Parts}
use Rattle.jl_model.specs.LineTokens.{LineToken, bytes_of, is_row}
use Rattle.jl_model.specs.LineTokens as tokens
use Rattle.jl_model.specs.LineGrammar.{Line, line_tokens, statement_quads}
use Rattle.jl_nquads.specs.Spots.{not_end}

-- a line and the byte that ends it
pub record EndedLine : Type 0 where
  pub line : Line
  pub end_byte : ℕ

abbrev pub ended_tokens : List EndedLine → List LineToken
ended_tokens [] = []
ended_tokens (l ∷ ls) = line_tokens l.line ++ tokens.line_end l.end_byte ∷ ended_tokens ls

abbrev pub ended_quads : List EndedLine → List Parts
ended_quads [] = []
ended_quads (l ∷ ls) = statement_quads l.line.statement ++ ended_quads ls

-- the bytes are lines, each with the byte that ends it, and these are their quads, in order
pub record HasEnded (bytes : List ℕ) (quads : List Parts) : Type 0 where
  pub lines : List EndedLine
  pub spelled : bytes ≡ bytes_of (ended_tokens lines)
  pub whole : IsTrue (is_row (ended_tokens lines) [])
  pub quads_are : quads ≡ ended_quads lines

-- the bytes are lines that have ended, whose quads these are, and then the beginning of one more
pub record LinesEnded (bytes : List ℕ) (quads : List Parts) (begun : List ℕ) : Type 0 where
  pub ended : List ℕ
  pub bytes_are : bytes ≡ ended ++ begun
  pub lines : HasEnded ended quads
  pub no_end : IsTrue (list_all not_end begun)
