-- One induction over trees: the run over a value says what `says` says there.
use Rattle.std.proofs.Common.{refl, []}
use Rattle.jl_model.specs.JsonTree.{Tree, scalar, array, object, Trees, no_item, item, Members, no_member, member}
use Rattle.jl_defs.specs.Settings.{Settings}
use Rattle.jl_walk.specs.Laws.{ValueRuns, ValuesRun, WalkSays}
use Rattle.jl_walk.proofs.Values.{ItemsRun, scalar-runs, array-runs, items-none, items-step}
use Rattle.jl_walk.proofs.Members.{MembersRun, members-none, members-step}
use Rattle.jl_walk.proofs.Objects.{ObjectCloses, object-runs}
use Rattle.jl_walk.proofs.Closing.{object-closes}
use Rattle.jl_defs.specs.Faults.{faults}
use Rattle.jl_laws.specs.Says.{root_spot}
use Rattle.jl_walk.specs.Frames.{values}

mutual
  pub tree-runs : (s : Settings) → ObjectCloses s → (t : Tree) → ValueRuns s t
  tree-runs s oc (scalar at v) = scalar-runs s at v
  tree-runs s oc (array at xs) = array-runs s at xs (trees-run s oc xs)
  tree-runs s oc (object at ms) = object-runs s at ms oc (members-run s oc ms)

  pub trees-run : (s : Settings) → ObjectCloses s → (xs : Trees) → ItemsRun s xs
  trees-run s oc no_item = items-none s
  trees-run s oc (item x rest) = items-step s x rest (tree-runs s oc x) (trees-run s oc rest)

  pub members-run : (s : Settings) → ObjectCloses s → (ms : Members) → MembersRun s ms
  members-run s oc no_member = members-none s
  members-run s oc (member a n v rest) = members-step s a n v rest (tree-runs s oc v) (members-run s oc rest)

pub values-run : ValuesRun
values-run s t = tree-runs s (object-closes s) t

pub walk-says : WalkSays
unfolding faults
walk-says s t = values-run s t (values (root_spot s)) [] (root_spot s) refl (refl, tt)
