-- What a move of the machine does, and moves one after another.
use Rattle.std.specs.Prelude.{ℕ, Bool, true, false, List, [], ◌∷◌, ◌++◌, Result, Ok, Err}
use Rattle.jl_model.specs.Parts.{Parts}
use Rattle.jl_model.specs.declared.codes.Code.TheVariants as code
use Rattle.jl_model.specs.declared.faults.Fault.{Fault}
use Rattle.jl_defs.specs.ObjectContexts.{fault}
use Rattle.jl_walk.specs.Frames.{Frame}

-- a move brings quads and leads to other frames, or it stops at a fault
abbrev pub Step : Type 0
Step = Result (List Parts × List Frame) Fault

-- it brings no quads
abbrev pub quiet : List Frame → Step
quiet k = Ok ([], k)

-- these quads come before those of the step
abbrev pub after_quads : List Parts → Step → Step
after_quads quads (Ok (more, k)) = Ok (quads ++ more, k)
after_quads quads (Err f) = Err f

-- one move after another
abbrev pub then_goes : Step → (List Frame → Step) → Step
then_goes (Ok (quads, k)) next = after_quads quads (next k)
then_goes (Err f) next = Err f

-- the first of these faults stops it
abbrev pub unless_fault : List Fault → (Unit {0} → Step) → Step
unless_fault [] next = next tt
unless_fault (f ∷ fs) next = Err f

-- a form that isn't built stops it at its place
abbrev pub if_built : Bool → ℕ → (Unit {0} → Step) → Step
if_built true at next = next tt
if_built false at next = Err (fault code.NotYet at)
