-- The laws, as statements.
use Rattle.std.specs.Prelude.{List, map, flat_map}
use Rattle.std.specs.List.{All}
use Rattle.jl_model.specs.Parts.{Parts, AreWellFormed}
use Rattle.jl_model.specs.Lines.{line}
use Rattle.jl_model.specs.LineGrammar.{QuadsOf}
use Rattle.jl_nquads.specs.Renamed.{renamed}

-- the lines of well-formed quads, one after another, are of the grammar, and their quads are these, with labels renamed
abbrev pub LinesReadBack : Type 0
LinesReadBack = (quads : List Parts) → All AreWellFormed quads → QuadsOf (flat_map line quads) (map renamed quads)
