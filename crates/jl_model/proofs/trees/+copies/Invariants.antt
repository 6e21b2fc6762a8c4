use Rattle.std.proofs.Common.{◌≡◌, take}
use Rattle.jl_model.specs.JsonView.{items_of, members_of}
use Rattle.jl_model.proofs.trees.+copies.Given as goal

abbrev pub invariant-copy_items-loop-item : goal.invariant-copy_items-loop-item
invariant-copy_items-loop-item l = items_of l.copies ≡ take l.item-index l.items

abbrev pub invariant-copy_members-loop-member : goal.invariant-copy_members-loop-member
invariant-copy_members-loop-member l = members_of l.copies ≡ take l.member-index l.members
