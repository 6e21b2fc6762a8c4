-- What a writer has written.
use Rattle.std.specs.Prelude.{◌≡◌, ℕ, ◌≤◌, ◌⊎◌, List, [], ◌∷◌, Option, Some, None, Result, Ok, Err}
use Rattle.jl_model.specs.Causes.{Rose}
use Rattle.jl_model.specs.Parts.{Parts}
use Rattle.jl_io.specs.Outside.{appended}
use Rattle.jl_defs.specs.Texts.{Text}
use Rattle.jl_defs.specs.WriterText as text
use Rattle.jl_writer.specs.declared.open_nodes.OpenNode.{OpenNode}
use Rattle.jl_writer.specs.declared.writer.Writer.{Writer}
use Rattle.jl_writer.specs.declared.writer.WriteStop.{WriteStop}
use Rattle.jl_writer.specs.declared.writer.WriteStop.TheVariants.{OutFault}

-- the open node in the words of the definition
abbrev pub opened : OpenNode → text.OpenNode
opened n = record { graph = n.graph; subject = n.subject; used = n.used }

abbrev pub opened_if : Option OpenNode → Option text.OpenNode
opened_if None = None
opened_if (Some n) = Some (opened n)

-- the node that is open behind these quads
abbrev pub node_behind : List Parts → Option text.OpenNode
node_behind [] = None
node_behind (q ∷ qs) = Some (text.node_behind (text.begins_node q) qs)

-- the writer goes on behind these quads, and their open text stands behind what was put before
pub record IsOpen (before : Option Text) (writer : Writer) (quads : List Parts) (put : Option Text) : Type 0 where
  pub goes_on : writer.stopped ≡ None
  pub node : opened_if writer.node ≡ node_behind quads
  pub text : put ≡ appended before (text.open_text quads)

-- whatever quads it was open behind, and whatever had been put before, this holds of them
abbrev pub IfOpen : Writer → Option Text → (Option Text → List Parts → Type 0) → Type 0
IfOpen writer put Holds = (before : Option Text) (quads : List Parts) → IsOpen before writer quads put → Holds before quads

-- an error stops the writer, and each later call answers it again
abbrev pub stop_of : Result (Unit {0}) WriteStop → Option WriteStop
stop_of (Ok u) = None
stop_of (Err stop) = Some stop

-- a writer that has stopped answers the same error and changes nothing
abbrev pub StaysStopped : Option WriteStop → Result (Unit {0}) WriteStop → Type 0 → Type 0
StaysStopped None result Unchanged = Unit {0}
StaysStopped (Some stop) result Unchanged = (result ≡ Err stop) × Unchanged

-- the count of the out's faults hasn't fallen; a fault of the out is answered only where it rose or the writer had stopped so
-- before, and at every other answer it is the same
pub record FaultHasCause (before now : ℕ) (stopped : Option WriteStop) (result : Result (Unit {0}) WriteStop) : Type 0 where
  pub later : before ≤ now
  pub out_fault : result ≡ Err OutFault → Rose before now ⊎ (stopped ≡ Some OutFault)
  pub others : (result ≡ Err OutFault → ⊥) → now ≡ before
