-- Values that are lent, as the definitions have them.
use Rattle.std.specs.Prelude.{Option, Result, Ok, Err, option_map}
use Rattle.std.specs.Borrow.{Bor}
use Rattle.jl_model.specs.JsonTree.{Tree}
use Rattle.jl_model.specs.JsonView as view
use Rattle.jl_model.specs.declared.trees.Json.{Json}

-- a value that may be lent
abbrev pub seen : Option (Bor Json) → Option Tree
seen value = option_map (λ j. view.tree_of j.now) value

-- an answer, and what it stands for
abbrev pub answered : {A B C : Type 0} → (A → B) → Result A C → Result B C
answered view (Ok x) = Ok (view x)
answered view (Err code) = Err code
