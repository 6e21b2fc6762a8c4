-- Words for rows: what one walk over a document says, computed.
use Rattle.std.specs.Prelude.{Bool, ◌&&◌, ◌==◌, List, length, map, Option}
use Rattle.jl_model.specs.JsonTree.{Tree}
use Rattle.jl_model.specs.Lines.{line}
use Rattle.jl_model.specs.declared.orders.Order.TheVariants.{Any, Streaming}
use Rattle.jl_defs.specs.Texts.{Text}
use Rattle.jl_defs.specs.Process.{Library}
use Rattle.jl_defs.specs.Settings.{Settings}
use Rattle.jl_defs.specs.Dataset.{dataset}
use Rattle.jl_defs.proofs.RowWords.{settings, same_lines, says as defined}
use Rattle.jl_laws.specs.Says.{walk, says, root_spot}

-- one walk says these lines, and as many as the dataset has
unfoldable pub walked : Settings → Tree → List Text → Bool
unfolding defined walk
walked s t lines =
    same_lines (map line (says s (root_spot s) t)) lines
    && (defined s t lines && length (says s (root_spot s) t) == length (dataset s t))

-- the same in both orders
unfoldable pub walked_in_both : Option Text → Library → Tree → List Text → Bool
unfolding walked
walked_in_both base library t lines = walked (settings Any base library) t lines && walked (settings Streaming base library) t lines
