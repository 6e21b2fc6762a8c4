-- What the value that comes next is read as.
use Rattle.std.specs.Prelude.{Bool, true, false, Option, Some, None}
use Rattle.jl_frames.specs.declared.keywords.Keyword.TheVariants as keyword
use Rattle.jl_frames.specs.declared.nodes.Node.{Node}
use Rattle.jl_frames.specs.declared.nodes.Pending.{Pending}
use Rattle.jl_frames.specs.declared.nodes.Pending.TheVariants as pending
use Rattle.jl_frames.specs.declared.states.StackState.{StackState}
use Rattle.jl_frames.specs.declared.reads.ReadAs.{ReadAs}
use Rattle.jl_frames.specs.declared.reads.ReadAs.TheVariants as reads
use Rattle.jl_frames.specs.Machine.{in_dropped}

abbrev pub read_under : Pending → ReadAs
read_under (pending.Property p) = reads.Property
read_under (pending.Keyword at keyword.Kind) = reads.Types
read_under (pending.Keyword at q) = reads.Keyword
read_under pending.Ignored = reads.Nothing
read_under pending.Nothing = reads.Nothing

abbrev pub read_in : Bool → Option Node → ReadAs
read_in true n = reads.Nothing
read_in false None = reads.Item
read_in false (Some n) = read_under n.pending

abbrev pub read_as : StackState → ReadAs
read_as s = read_in (in_dropped s.opens) s.node
