use Rattle.std.proofs.Common.{◌≡◌, ℕ, ◌+◌, List, ◌++◌, take, drop, sym, arith}
use Rattle.std.proofs.lemmas.Grind.{common_steps}
use Rattle.std.proofs.lemmas.List.{take-append-drop}
use Rattle.std.proofs.Math.Seq.{take-add, drop-drop}
use Rattle.jl_io.proofs.memory.MemPortPort.take.Goals as goal

-- what is left at a place is the next bytes and what is left behind them
drop_split : (place n : ℕ) (bytes : List ℕ) → drop place bytes ≡ take n (drop place bytes) ++ drop (place + n) bytes
drop_split place n bytes = rw (← drop-drop n place bytes) (sym (take-append-drop n (drop place bytes)))

pub returns-clause-taken : goal.returns-clause-taken
returns-clause-taken c = grind (arith, common_steps, take-add, c.self.view_is)

pub returns-clause-left : goal.returns-clause-left
returns-clause-left c =
    let e = drop_split c.self.inside.place c.min-n.result c.self.inside.input.items in
    grind (arith, common_steps, c.self.view_is)
