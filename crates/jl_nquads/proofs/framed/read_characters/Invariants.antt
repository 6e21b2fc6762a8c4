use Rattle.std.proofs.Common.{◌-◌, length}
use Rattle.jl_nquads.proofs.CharacterRuns.{HaveRead}
use Rattle.jl_nquads.proofs.framed.read_characters.Given as goal

abbrev pub invariant-characters : goal.invariant-characters
invariant-characters l = HaveRead l.frame l.text l.meaning l.len

abbrev pub decreases-characters : goal.decreases-characters
decreases-characters l = length l.text - l.len
