use Rattle.std.proofs.Common.{sym, ◌∙◌, arith, rules}
use Rattle.jl_terms.proofs.SameLengths.{members_go_on}
use Rattle.jl_terms.proofs.same_trees.+same.Goals as goal

pub same_members-loop-index-preserved : goal.same_members-loop-index-preserved
same_members-loop-index-preserved t c =
    members_go_on c.args.a.now c.args.b.now c.loop-index.index c.index-a-index.result c.index-b-index.result c.index-a-index.is c.loop-index-test.true
    c.index-b-index.is (omega (arith, c.loop-index-test.true, c.if-a-b.false)) (sym c.same_member.ensures ∙ c.if-not-same_member.false)
    ∙ c.loop-index.invariant
