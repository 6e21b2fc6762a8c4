-- What a call may answer.
use Rattle.std.specs.Prelude.{◌≡◌, Bool, true, false, not, List, [], ◌∷◌, Option, Some, None, Result, Ok, Err, codes}
use Rattle.jl_model.specs.Parts.{Parts}
use Rattle.jl_model.specs.declared.faults.Fault.{Fault}
use Rattle.jl_model.specs.declared.expansions.Expanded.{Expanded}
use Rattle.jl_model.specs.declared.expansions.Expanded.TheVariants as expanded
use Rattle.jl_defs.specs.Texts.{Text, is_among}
use Rattle.jl_frames.specs.declared.roles.Role.{Role}
use Rattle.jl_frames.specs.declared.roles.Role.TheVariants as role
use Rattle.jl_frames.specs.declared.states.FrameStop.{FrameStop}
use Rattle.jl_frames.specs.declared.states.FrameStop.TheVariants as stop
use Rattle.jl_frames.specs.declared.states.StackState.{StackState}

-- a refusal is the fault of the step; memory may run out at any time
abbrev pub HasCause : {A : Type 0} → FrameStop → Result A Fault → Type 0
HasCause (stop.Refused f) step = step ≡ Err f
HasCause stop.NoMemory step = Unit {0}

-- a call makes this step, of the stack or of an open object; after an error all is as before
abbrev pub Goes : {S : Type 0} → Result (List Parts) FrameStop → Result (List Parts × S) Fault → S → S → Type 0
Goes (Ok quads) step old new = step ≡ Ok (quads, new)
Goes (Err why) step old new = HasCause why step × (new ≡ old)

-- the same of a call that nothing stops but too little memory
abbrev pub Opens : {S : Type 0} → Result (List Parts) FrameStop → Result (List Parts × S) Fault → S → S → Type 0
Opens (Ok quads) step old new = step ≡ Ok (quads, new)
Opens (Err why) step old new = (why ≡ stop.NoMemory) × (new ≡ old)

-- the same of a call that brings no quads and takes no memory
abbrev pub Takes : {A S : Type 0} → Result A Fault → Result S Fault → S → S → Type 0
Takes (Ok x) step old new = step ≡ Ok new
Takes (Err f) step old new = (step ≡ Err f) × (new ≡ old)

-- what a call finds
abbrev pub Finds : {A : Type 0} → Result A FrameStop → Result A Fault → Type 0
Finds (Ok x) found = found ≡ Ok x
Finds (Err why) found = HasCause why found

-- the stack hasn't stopped
abbrev pub IsLive : StackState → Type 0
IsLive s = (s.stopped ≡ None) × (s.short ≡ false)

-- at most the innermost object changes
abbrev pub KeepsOthers : StackState → StackState → Type 0
KeepsOthers old new = (new.opens ≡ old.opens) × ((new.stopped ≡ old.stopped) × (new.short ≡ old.short))

-- not out of memory
abbrev pub IsRefusal : FrameStop → Type 0
IsRefusal (stop.Refused f) = Unit {0}
IsRefusal stop.NoMemory = ⊥

-- after an error the stack is as before, but that it answers the error from then on
abbrev pub after_stop : FrameStop → StackState → StackState
after_stop (stop.Refused f) s = record s { stopped = Some f }
after_stop stop.NoMemory s = record s { short = true }

-- the error that each call answers
abbrev pub answers_again : StackState → Option FrameStop
answers_again s = by s.stopped s.short
  where
    by : Option Fault → Bool → Option FrameStop
    by (Some f) short = Some (stop.Refused f)
    by None true = Some stop.NoMemory
    by None false = None

-- a call on a stack that has stopped answers the same again, and changes nothing
abbrev pub AnswersAgain : {A : Type 0} → StackState → Result A FrameStop → StackState → Type 0
AnswersAgain old result new = (stop : FrameStop) → answers_again old ≡ Some stop → (result ≡ Err stop) × (new ≡ old)

-- the roles of the forms that are built
abbrev pub IsBuilt : Role → Type 0
IsBuilt role.Object = Unit {0}
IsBuilt role.Set = Unit {0}
IsBuilt role.Dropped = Unit {0}
IsBuilt r = ⊥

-- the keywords of the forms that aren't built
abbrev pub later_keywords : List Text
later_keywords =
    codes "@context" ∷ codes "@graph" ∷ codes "@included" ∷ codes "@list" ∷ codes "@nest" ∷ codes "@reverse" ∷ codes "@set" ∷ []

abbrev pub is_built_key : Expanded → Bool
is_built_key expanded.Null = true
is_built_key (expanded.Keyword text) = not (is_among later_keywords text)
is_built_key (expanded.Name text) = true
