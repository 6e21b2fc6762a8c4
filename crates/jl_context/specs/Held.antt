-- What holds of the fields of terms.
use Rattle.std.specs.Prelude.{◌≤◌, List, length}
use Rattle.std.specs.declared.alloc.Global.{Global}
use Rattle.std.specs.declared.rc.Rc.{Rc}
use Rattle.jl_context.specs.declared.layers.Layer.{Layer}
use Rattle.jl_context.specs.declared.sums.Sums.{Sums}
use Rattle.jl_context.specs.Layers.{terms_of}
use Rattle.jl_context.specs.Counted.{AreSums}

-- there are at most 17 layers, and the sums are those of their terms
pub record Holds (layers : List (Rc Layer Global)) (s : Sums) : Type 0 where
  pub few : length layers ≤ 17
  pub sums : AreSums s (terms_of layers)
