-- What events do, one after another. An object is held, with its leading members, until another event comes; then it enters, what
-- was held is told, and then this event.
use Rattle.std.specs.Prelude.{◌≡◌, ℕ, Bool, true, false, ◌&&◌, List, [], ◌∷◌, ◌++◌, Option, Some, None, Result, Ok, Err}
use Rattle.jl_model.specs.Parts.{Parts}
use Rattle.jl_model.specs.declared.codes.Code.TheVariants as code
use Rattle.jl_model.specs.declared.faults.Fault.{Fault}
use Rattle.jl_defs.specs.Context.{Context}
use Rattle.jl_defs.specs.ObjectContexts.{fault}
use Rattle.jl_frames.specs.Answers.{HasCause}
use Rattle.jl_frames.specs.Machine as frames
use Rattle.jl_frames.specs.Machine.{Step}
use Rattle.jl_frames.specs.ReadAs.{read_as}
use Rattle.jl_frames.specs.declared.reads.ReadAs.{ReadAs}
use Rattle.jl_frames.specs.declared.reads.ReadAs.TheVariants as reads
use Rattle.jl_frames.specs.declared.states.FrameStop.{FrameStop}
use Rattle.jl_engine.specs.Moves.{opens_array, opens_other, takes_key, takes_scalar}
use Rattle.jl_engine.specs.Leads.{begun, Admits, holds, drops, decides, refuses, admits, frame_by}
use Rattle.jl_engine.specs.declared.events.Event.{Event}
use Rattle.jl_engine.specs.declared.events.Event.TheVariants as events
use Rattle.jl_engine.specs.declared.leads.Lead.{Lead}
use Rattle.jl_engine.specs.declared.readers.Reader.{Reader}

-- an event brings quads and leads to another reader, or it is a fault
abbrev pub Read : Type 0
Read = Result (List Parts × Reader) Fault

abbrev pub still : Reader → Read
still r = Ok ([], r)

-- these quads come first
abbrev pub before : List Parts → Read → Read
before quads (Ok (more, r)) = Ok (quads ++ more, r)
before quads (Err f) = Err f

-- one after another
abbrev pub then_reads : Read → (Reader → Read) → Read
then_reads (Ok (quads, r)) next = before quads (next r)
then_reads (Err f) next = Err f

-- a call of the code reads so, and adds the quads to those before; or it stops at the fault
abbrev pub Reads : Result (Unit {0}) FrameStop → List Parts → Read → List Parts → Reader → Type 0
Reads (Ok done) old read new r = before old read ≡ Ok (new, r)
Reads (Err stop) old read new r = HasCause stop read

-- a step of the stack
abbrev pub on_stack : Step → Reader → Read
on_stack (Ok (quads, k)) r = Ok (quads, record r { stack = k })
on_stack (Err f) r = Err f

-- before a document
abbrev pub at_start : Reader
at_start = record { stack = frames.start; lead = None }

-- ---- where no object is held

-- a value may stand here
abbrev pub takes_value : ReadAs → Bool
takes_value reads.Item = true
takes_value reads.Property = true
takes_value t = false

-- an object that opens as a value is held
abbrev pub opens_object : Bool → ℕ → Reader → Read
opens_object true at r = still (record r { lead = Some (begun at) })
opens_object false at r = on_stack (opens_other at r.stack) r

-- an event, of a leading member that is told again or of another
abbrev pub at_step : Context → Bool → Event → Reader → Read
at_step c leading (events.OpensObject at) r = opens_object (takes_value (read_as r.stack)) at r
at_step c leading (events.OpensArray at) r = on_stack (opens_array at r.stack) r
at_step c leading events.Closes r = on_stack (frames.close r.stack) r
at_step c leading (events.Key at n) r = on_stack (takes_key c leading at n r.stack) r
at_step c leading (events.Value at v) r = on_stack (takes_scalar c at v r.stack) r

-- ---- in an object that is held

-- what was held is told
unfoldable pub replay : Context → List Event → Reader → Read
replay c [] r = still r
replay c (e ∷ es) r = then_reads (at_step c true e r) (replay c es)

-- the object enters; a JSON literal isn't built
abbrev pub enters : Lead → Reader → Read
enters l r = elim (l.valued && l.json) [
  | true ↦ Err (fault code.NotYet l.at)
  | false ↦ on_stack (frames.enter (frame_by l.at l.name l.valued) r.stack) r
]

abbrev pub settles : Context → Lead → Reader → Read
settles c l r = then_reads (enters l r) (replay c l.held)

abbrev pub settles_then : Context → Event → Lead → Reader → Read
settles_then c e l r = then_reads (settles c l r) (at_step c false e)

-- one more event is held
abbrev pub held_with : Event → Lead → Lead
held_with e l = record l { held = l.held ++ e ∷ [] }

abbrev pub by_admits : Admits → Context → Event → Lead → Reader → Read
by_admits (holds noted) c e l r = still (record r { lead = Some (held_with e noted) })
by_admits (drops noted) c e l r = still (record r { lead = Some noted })
by_admits decides c e l r = settles_then c e l (record r { lead = None })
by_admits (refuses f) c e l r = Err f

abbrev pub lead_step : Context → Event → Lead → Reader → Read
lead_step c e l r = by_admits (admits c e l) c e l r

-- ---- one event, and all of them

abbrev pub step_by : Option Lead → Context → Event → Reader → Read
step_by None c e r = at_step c false e r
step_by (Some l) c e r = lead_step c e l r

unfoldable pub step : Context → Event → Reader → Read
step c e r = step_by r.lead c e r

unfoldable pub steps : Context → List Event → Reader → Read
steps c [] r = still r
steps c (e ∷ es) r = then_reads (step c e r) (steps c es)
