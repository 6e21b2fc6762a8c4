-- Where bytes stop being lines of quads.
use Rattle.std.specs.Prelude.{◌≡◌, ℕ, ◌≤◌, ◌⊎◌, List, [], ◌∷◌, ◌++◌, length, IsTrue}
use Rattle.jl_model.specs.Parts.{Parts}
use Rattle.jl_model.specs.LineTokens.{LineToken, bytes_of, is_row}
use Rattle.jl_model.specs.LineGrammar.{Document, IsDocument, QuadsOf, BeginsLines}

-- the text begins with these tokens, whole and apart, and with them a document begins
pub record GoesOn (text : List ℕ) (row : List LineToken) : Type 0 where
  pub rest : List ℕ
  pub text_is : text ≡ bytes_of row ++ rest
  pub whole : IsTrue (is_row row rest)
  pub more : List LineToken
  pub document : Document
  pub begins : IsDocument (row ++ more) document

-- the place of the token where no line can go on: behind the longest row of tokens with which one can
pub record StopsAt (text : List ℕ) (place : ℕ) : Type 0 where
  pub row : List LineToken
  pub goes_on : GoesOn text row
  pub place_is : place ≡ length (bytes_of row)
  pub longest : (other : List LineToken) → GoesOn text other → length (bytes_of other) ≤ place

-- the bytes p begin a text of the grammar, and with the byte c they don't any more
pub record BreaksLine (p : List ℕ) (c : ℕ) (place : ℕ) : Type 0 where
  pub begins : BeginsLines p
  pub breaks : BeginsLines (p ++ c ∷ []) → ⊥
  pub stops : StopsAt (p ++ c ∷ []) place

-- the bytes begin a text of the grammar and aren't one: they end inside a line
pub record EndsInLine (bytes : List ℕ) (place : ℕ) : Type 0 where
  pub begins : BeginsLines bytes
  pub unfinished : (quads : List Parts) → QuadsOf bytes quads → ⊥
  pub place_is : place ≡ length bytes

-- the place of the first bad line: at the shortest front that begins no text of the grammar, or at the end
abbrev pub BadLine : List ℕ → ℕ → Type 0
BadLine bytes place = ((p : List ℕ) × (c : ℕ) × (r : List ℕ) × (bytes ≡ p ++ c ∷ r) × BreaksLine p c place) ⊎ EndsInLine bytes place
