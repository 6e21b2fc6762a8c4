use Rattle.jl_nquads.proofs.TagReads.{TagSoFar}
use Rattle.jl_nquads.proofs.tags.tag_len.Given as goal

abbrev pub invariant-loop-at : goal.invariant-loop-at
invariant-loop-at l = TagSoFar l.text l.at l.part
