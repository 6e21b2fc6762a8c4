-- Promptness: what is due for what has been read has been said.
use Rattle.std.specs.Prelude.{ℕ, List, ◌++◌}
use Rattle.jl_model.specs.JsonTree.{Tree}
use Rattle.jl_model.specs.Parts.{Parts}
use Rattle.jl_defs.specs.Settings.{Settings}
use Rattle.jl_defs.specs.Sets.{Has}
use Rattle.jl_defs.specs.Faults.{AcceptsTree}
use Rattle.jl_defs.specs.OpenTree.{Open}
use Rattle.jl_defs.specs.OpenText.{Opens, ReadsAs}
use Rattle.jl_defs.specs.Due.{due}
use Rattle.jl_engine.specs.declared.engines.EngineState.{EngineState}
use Rattle.jl_engine.specs.Standing.{Stands, IsWithinStage}

-- the bytes make the quad due: an accepted document of the forms that are built begins with them, and the quad is due for
-- what has been read of it
pub record MakeDue (s : Settings) (bytes : List ℕ) (q : Parts) : Type 0 where
  pub rest : List ℕ
  pub tree : Tree
  pub reads : ReadsAs (bytes ++ rest) tree
  pub accepted : AcceptsTree s tree
  pub built : IsWithinStage s tree
  pub read : Open
  pub opens : Opens bytes read
  pub is_due : Has (due s read) q

-- all that is due is among the quads
abbrev pub HasDue : Settings → List ℕ → List Parts → Type 0
HasDue s bytes quads = (q : Parts) → MakeDue s bytes q → Has quads q

-- each quad that the bytes fed to an engine make due is among those that they say
abbrev pub DueIsSaid : Type 0
DueIsSaid = (s : Settings) (bytes : List ℕ) (quads : List Parts) (e : EngineState) → Stands s bytes quads e → HasDue s bytes quads
