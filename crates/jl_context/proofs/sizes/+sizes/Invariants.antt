use Rattle.std.proofs.Common.{◌≡◌, ◌+◌, drop}
use Rattle.jl_model.specs.JsonView.{trees, members}
use Rattle.jl_defs.specs.Trees.{items_size, members_size}
use Rattle.jl_context.proofs.sizes.+sizes.Given as goal

abbrev pub invariant-add_items-loop-item : goal.invariant-add_items-loop-item
invariant-add_items-loop-item l = l.sum + items_size (trees (drop l.item-index l.items)) ≡ l.total + items_size (trees l.items)

abbrev pub invariant-add_members-loop-member : goal.invariant-add_members-loop-member
invariant-add_members-loop-member l = l.sum + members_size (members (drop l.member-index l.members)) ≡ l.total + members_size (members l.members)
