use Rattle.std.proofs.Common.{◌≡◌, drop}
use Rattle.jl_model.specs.JsonView.{trees, members}
use Rattle.jl_defs.specs.Definitions.{same_items, same_members}
use Rattle.jl_terms.proofs.same_trees.+same.Given as goal

abbrev pub invariant-same_items-loop-index : goal.invariant-same_items-loop-index
invariant-same_items-loop-index l = same_items (trees (drop l.index l.a)) (trees (drop l.index l.b)) ≡ same_items (trees l.a) (trees l.b)

abbrev pub invariant-same_members-loop-index : goal.invariant-same_members-loop-index
invariant-same_members-loop-index l = same_members (members (drop l.index l.a)) (members (drop l.index l.b)) ≡ same_members (members l.a) (members l.b)
