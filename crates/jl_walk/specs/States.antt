-- The states of the machine over events, in streaming order. An object is held, with its leading members, until a member of its
-- rest begins or it closes; then it enters.
use Rattle.std.specs.Prelude.{ℕ, suc, List, [], ◌++◌, Result, Ok, Err}
use Rattle.jl_model.specs.JsonTree.{Tree, Trees, no_item, item, Members, no_member, member}
use Rattle.jl_model.specs.Parts.{Parts}
use Rattle.jl_model.specs.declared.faults.Fault.{Fault}
use Rattle.jl_defs.specs.Texts.{Text}
use Rattle.jl_defs.specs.Trees.{then_members}
use Rattle.jl_defs.specs.ObjectContexts.{Inside}
use Rattle.jl_laws.specs.Spots.{Spot}
use Rattle.jl_walk.specs.Phases.{Phase}
use Rattle.jl_walk.specs.Frames.{Frame}
use Rattle.jl_walk.specs.Steps.{Step}

-- an object whose contexts aren't decided: its own `@context`, where it has one, and its prelude so far
pub record Lead : Type 0 where
  pub spot : Spot
  pub place : ℕ
  pub first : Members
  pub held : Members
  pub frames : List Frame

-- an object whose contexts are decided, in its second run: all its members so far, and the phase in which it enters
pub record Second : Type 0 where
  pub spot : Spot
  pub place : ℕ
  pub start : Phase
  pub inside : Inside
  pub phase : Phase
  pub held : Members
  pub frames : List Frame

-- at most one object is held; a value in it that isn't over is held whole, with the state that comes after it
pub data State : Type 0 where
  at : (frames : List Frame) → State
  leading : (lead : Lead) → State
  -- after a key; and after the key of its own context, which is never reached while this isn't built
  leading_key : (lead : Lead) → (a : ℕ) → (n : Text) → State
  context_key : (lead : Lead) → (a : ℕ) → (n : Text) → State
  running : (second : Second) → State
  running_key : (second : Second) → (a : ℕ) → (n : Text) → State
  -- the items or the members of a value so far, and an object whose member's value comes next
  in_items : (place : ℕ) → (xs : Trees) → (back : Tree → State) → State
  in_members : (place : ℕ) → (ms : Members) → (back : Tree → State) → State
  in_member : (place : ℕ) → (ms : Members) → (a : ℕ) → (n : Text) → (back : Tree → State) → State

-- an event brings quads and leads to another state, or it stops at a fault
abbrev pub Go : Type 0
Go = Result (List Parts × State) Fault

-- it brings no quads
abbrev pub go : State → Go
go z = Ok ([], z)

-- these quads come first
abbrev pub before : List Parts → Go → Go
before q (Ok (more, s)) = Ok (q ++ more, s)
before q (Err f) = Err f

-- one after another
abbrev pub then_go : Go → (State → Go) → Go
then_go (Ok (q, s)) next = before q (next s)
then_go (Err f) next = Err f

-- a move on the frames, and what follows it
abbrev pub from : Step → (List Frame → Go) → Go
from (Ok (q, k)) next = before q (next k)
from (Err f) next = Err f

-- a move after which no object is held
abbrev pub settle : Step → Go
settle r = from r (λ k. go (at k))

-- ---- what is held

-- how many members these are
abbrev pub members_length : Members → ℕ
members_length no_member = 0
members_length (member a n v rest) = suc (members_length rest)

-- one more member
abbrev pub held_with : Members → ℕ → Text → Tree → Members
held_with held a n v = then_members held (member a n v no_member)

-- one more item
abbrev pub add_item : Trees → Tree → Trees
add_item no_item t = item t no_item
add_item (item x rest) t = item x (add_item rest t)
