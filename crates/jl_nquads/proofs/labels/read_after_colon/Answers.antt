use Rattle.std.proofs.Common.{arith, sym, ◌∙◌, ap, length, ◌-◌}
use Rattle.jl_nquads.proofs.LabelReads.{label_is_read, label_bad, dot_fits}
use Rattle.jl_nquads.proofs.labels.read_after_colon.Goals as goal

pub returns-then-ends : goal.returns-then-ends
returns-then-ends c = label_is_read c.args.inner.now c.rest_of-tail.result.now c.in_ok-renamed.renamed c.args.dotted c.run_of-run.result c.run_of-run.ensures c.requires c.rest_of-tail.ensures (sym c.ends.ensures ∙ c.if-ends.true) c.in_ok-renamed.ensures

pub overflow_sub-result-2 : goal.overflow_sub-result-2
overflow_sub-result-2 c = omega (arith, c.dot_len.ensures, dot_fits c.args.inner.now c.args.dotted c.run_of-run.result c.run_of-run.ensures)

pub returns : goal.returns
returns c = label_bad c.args.inner.now c.rest_of-tail.result.now c.args.dotted c.run_of-run.result _ c.run_of-run.ensures c.requires c.rest_of-tail.ensures (sym c.ends.ensures ∙ c.if-ends.false) (ap (λ n. length c.args.inner.now - c.run_of-run.result.kept - n) c.dot_len.ensures) c.begins_code.ensures
