-- When more input may be taken: once the line of every quad that is due has been put.
use Rattle.std.specs.Prelude.{◌≡◌, ◌⊎◌, ℕ, ◌^◌, ◌≤◌, List, [], ◌∷◌, ◌++◌, length}
use Rattle.jl_model.specs.Lines.{line}
use Rattle.jl_model.specs.Parts.{Parts}
use Rattle.jl_defs.specs.Settings.{Settings}
use Rattle.jl_engine.specs.Prompt.{MakeDue}
use Rattle.jl_engine.specs.Standing.{Stands}
use Rattle.jl_engine.specs.declared.engines.EngineState.{EngineState}

-- at the beginning, or behind a line feed
abbrev pub IsLineStart : List ℕ → Type 0
IsLineStart before = (before ≡ []) ⊎ ((front : List ℕ) × (before ≡ front ++ 10 ∷ []))

-- a line stands among the bytes put
pub record HasLine (put text : List ℕ) : Type 0 where
  pub before : List ℕ
  pub behind : List ℕ
  pub put_is : put ≡ before ++ (text ++ behind)
  pub starts : IsLineStart before

-- the line of each quad that is due for the bytes taken stands among the bytes put
abbrev pub DueStand : Settings → List ℕ → List ℕ → Type 0
DueStand s taken put = (q : Parts) → MakeDue s taken q → HasLine put (line q)

-- more may be taken wherever all that is due has been put, as long as at most 2^40 bytes have been taken
abbrev pub Grants : Settings → (List ℕ → List ℕ → Type 0) → Type 0
Grants s may_take = (taken put : List ℕ) → length taken ≤ 2 ^ 40 → DueStand s taken put → may_take taken put

-- the same for the settings of an engine that has read nothing
pub record GrantsTo (e : EngineState) (may_take : List ℕ → List ℕ → Type 0) : Type 0 where
  pub settings : Settings
  pub stands : Stands settings [] [] e
  pub grants : Grants settings may_take
