use Rattle.std.proofs.Common.{◌≡◌, drop}
use Rattle.jl_model.specs.JsonView.{trees}
use Rattle.jl_defs.specs.TermEntry.{add_containers}
use Rattle.jl_terms.proofs.containers.add_containers.Given as goal

abbrev pub invariant-loop-item : goal.invariant-loop-item
invariant-loop-item l = add_containers (trees (drop l.item-index l.items)) l.found ≡ add_containers (trees l.items) l.fn.c
