use Rattle.std.proofs.Common.{rules, ◌≡◌}
use Rattle.jl_model.proofs.JsonLists.{items_same, members_same}
use Rattle.jl_model.proofs.trees.+copies.Goals as goal

pub copy_node-returns-in_ok-copy-in-Array : goal.copy_node-returns-in_ok-copy-in-Array
copy_node-returns-in_ok-copy-in-Array t c =
    let e : c.in_ok-copy-in-Array.copy ≡ c.in-Array.items = items_same c.in_ok-copy-in-Array.copy c.in-Array.items (search rules) in
    search (rules, e)

pub copy_node-returns-in_ok-copy-in-Object : goal.copy_node-returns-in_ok-copy-in-Object
copy_node-returns-in_ok-copy-in-Object t c =
    let e : c.in_ok-copy-in-Object.copy ≡ c.in-Object.members = members_same c.in_ok-copy-in-Object.copy c.in-Object.members (search rules) in
    search (rules, e)
