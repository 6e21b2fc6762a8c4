-- The machine over whole trees. This is also how what was held is read, once its object is decided.
use Rattle.std.specs.Prelude.{ℕ, ◌||◌, is_some, List, [], ◌∷◌, Result, Ok, Err}
use Rattle.jl_model.specs.JsonTree.{Tree, scalar, array, object, Trees, no_item, item, Members, no_member, member}
use Rattle.jl_model.specs.declared.faults.Fault.{Fault}
use Rattle.jl_defs.specs.Settings.{Settings}
use Rattle.jl_defs.specs.Keys.{is_value}
use Rattle.jl_defs.specs.ObjectContexts.{Inside, own_context, decide}
use Rattle.jl_defs.specs.ValueObjects as objects
use Rattle.jl_defs.specs.ValueObjects.{first_with, is_json_type}
use Rattle.jl_defs.specs.Expansion.{naming}
use Rattle.jl_laws.specs.Spots.{Spot, stand_of}
use Rattle.jl_laws.specs.Says.{root_spot}
use Rattle.jl_walk.specs.Phases.{Phase, known, first_phase}
use Rattle.jl_walk.specs.Stage.{unless_own}
use Rattle.jl_walk.specs.Frames.{Frame, values}
use Rattle.jl_walk.specs.Steps.{Step, quiet, then_goes}
use Rattle.jl_walk.specs.Scalars.{take_scalar}
use Rattle.jl_walk.specs.Opening.{open_array, Entering, enter}
use Rattle.jl_walk.specs.Keys.{take_key}
use Rattle.jl_walk.specs.Ending.{close}

-- an object as these members name it
abbrev pub entering_as : Phase → Inside → Members → Entering
entering_as ph i ms = record {
  inside = i;
  naming = naming i.final ms;
  valued = is_some (first_with is_value i.final ms);
  json = objects.is_json i.input || is_json_type (objects.value_type i ms);
  phase = ph;
}

-- the members before the rest name it: in the order any all of them
abbrev pub entering : Phase → Result Inside Fault → Members → Result Entering Fault
entering ph (Err f) ms = Err f
entering ph (Ok i) ms = Ok (entering_as ph i (known i ph ms))

-- an object with these members, decided at a spot
abbrev pub decided : Settings → ℕ → Members → Spot → Result Entering Fault
decided s at ms p =
    unless_own (own_context s.order ms)
    (entering (first_phase s p.context p.under (stand_of p.role.around) at ms)
    (decide s p.context p.under (stand_of p.role.around) at ms) ms)

unfoldable mutual
  -- what a value brings on these frames
  pub feed : Settings → Tree → List Frame → Step
  feed s (scalar at v) k = take_scalar s at v k
  feed s (array at xs) k = then_goes (open_array at k) (λ l. then_goes (feed_items s xs l) close)
  feed s (object at ms) k = then_goes (enter at (decided s at ms) k) (λ l. then_goes (feed_members s ms l) close)

  -- items one after another
  pub feed_items : Settings → Trees → List Frame → Step
  feed_items s no_item k = quiet k
  feed_items s (item x rest) k = then_goes (feed s x k) (feed_items s rest)

  -- members one after another: a key, then its value
  pub feed_members : Settings → Members → List Frame → Step
  feed_members s no_member k = quiet k
  feed_members s (member a n v rest) k =
      then_goes (take_key a n k) (λ l. then_goes (feed s v l) (feed_members s rest))

-- the frames before a document
abbrev pub start : Settings → List Frame
start s = values (root_spot s) ∷ []
