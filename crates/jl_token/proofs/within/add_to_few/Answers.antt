use Rattle.std.proofs.Common.{◌+◌, refl, sym, ◌∙◌}
use Rattle.jl_token.proofs.FewNames.{adds_few, counts_few, keeps_few}
use Rattle.jl_token.proofs.within.add_to_few.Goals as goal

pub returns-then-is_among-clause-ok : goal.returns-then-is_among-clause-ok
returns-then-is_among-clause-ok c = keeps_few c.args.count.now c.args.len.now c.args.names.now c.args.name.now (sym c.is_among.ensures ∙ c.if-is_among.true)

pub returns-clause-ok : goal.returns-clause-ok
returns-clause-ok c = adds_few c.args.count.now (c.args.count.now + 1) c.args.len.now c.saturating_add.result c.args.names.now c.push.new.self c.args.name.now (sym c.is_among.ensures ∙ c.if-is_among.false) refl c.in_ok-push.ensures.ok

pub returns-clause-counted : goal.returns-clause-counted
returns-clause-counted c = counts_few c.args.count.now (c.args.count.now + 1) c.args.len.now c.saturating_add.result c.args.names.now c.push.new.self c.args.name.now (sym c.is_among.ensures ∙ c.if-is_among.false) refl c.in_ok-push.ensures.ok c.saturating_add.ensures
