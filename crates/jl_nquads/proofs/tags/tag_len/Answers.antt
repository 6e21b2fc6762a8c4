use Rattle.std.proofs.Common.{◌≡◌, length, subst, arith}
use Rattle.jl_nquads.proofs.TagReads.{TagSoFar, tag_stops, tag_ends_there}
use Rattle.jl_nquads.proofs.tags.tag_len.Goals as goal

pub returns-in-None : goal.returns-in-None
returns-in-None c = tag_stops c.args.text.now c.loop-at.at c.loop-at.part c.loop-at-test.true c.loop-at.invariant c.in-None.ensures

pub returns : goal.returns
returns c =
    let all : c.loop-at.at ≡ length c.args.text.now = omega arith in
    tag_ends_there c.args.text.now c.loop-at.part (subst (λ n. TagSoFar c.args.text.now n c.loop-at.part) all c.loop-at.invariant)
