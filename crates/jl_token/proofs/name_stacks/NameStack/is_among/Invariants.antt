use Rattle.std.proofs.Common.{◌≡◌, reverse, take}
use Rattle.std.specs.List.{list_any}
use Rattle.std.specs.Str.{bytes_eq}
use Rattle.jl_token.specs.NameStacks.{cut}
use Rattle.jl_token.proofs.name_stacks.NameStack.is_among.Given as goal

abbrev pub invariant-loop-left : goal.invariant-loop-left
invariant-loop-left l = list_any (bytes_eq l.name) (take l.count l.self) ≡ list_any (bytes_eq l.name) (take l.left (cut (reverse l.lens) l.bytes))

abbrev pub decreases-loop-left : goal.decreases-loop-left
decreases-loop-left l = l.left
