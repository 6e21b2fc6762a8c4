-- The events that may come in a state: a key or the end between the members of an object, a value after a key or in an array.
use Rattle.std.specs.Prelude.{List, [], ◌∷◌}
use Rattle.jl_walk.specs.Frames.{Expected, no_value, Frame, values, object as object_frame, types, dropped}
use Rattle.jl_walk.specs.Events.{Event, opens_object, opens_array, closes, a_key, a_scalar}
use Rattle.jl_walk.specs.States.{State, at, leading, leading_key, context_key, running, running_key, in_items, in_members, in_member}

-- a value begins
abbrev pub BeginsValue : Event → Type 0
BeginsValue (opens_object b) = Unit {0}
BeginsValue (opens_array b) = Unit {0}
BeginsValue (a_scalar b v) = Unit {0}
BeginsValue closes = ⊥
BeginsValue (a_key a n) = ⊥

-- in an array
abbrev pub FitsItems : Event → Type 0
FitsItems closes = Unit {0}
FitsItems e = BeginsValue e

-- between the members of an object
abbrev pub FitsMembers : Event → Type 0
FitsMembers closes = Unit {0}
FitsMembers (a_key a n) = Unit {0}
FitsMembers e = ⊥

-- in an object, by what is expected
abbrev pub FitsObject : Expected → Event → Type 0
FitsObject no_value e = FitsMembers e
FitsObject x e = BeginsValue e

-- the frame of the document doesn't close
abbrev pub FitsValues : List Frame → Event → Type 0
FitsValues [] e = BeginsValue e
FitsValues (f ∷ k) e = FitsItems e

abbrev pub FitsFrames : List Frame → Event → Type 0
FitsFrames [] e = ⊥
FitsFrames (values p ∷ k) e = FitsValues k e
FitsFrames (object_frame p i o ∷ k) e = FitsObject o.expects e
FitsFrames (types b n g place ∷ k) e = FitsItems e
FitsFrames (dropped ∷ k) e = Unit {0}

abbrev pub Fits : State → Event → Type 0
Fits (at k) e = FitsFrames k e
Fits (leading l) e = FitsMembers e
Fits (leading_key l a n) e = BeginsValue e
Fits (context_key l a n) e = BeginsValue e
Fits (running r) e = FitsMembers e
Fits (running_key r a n) e = BeginsValue e
Fits (in_items b xs back) e = FitsItems e
Fits (in_members b ms back) e = FitsMembers e
Fits (in_member b ms a n back) e = BeginsValue e
