use Rattle.std.proofs.Common.{arith, ◌≤◌, ◌+◌, length, sym, ◌∙◌}
use Rattle.jl_model.specs.LineTokens.{goes_on_label}
use Rattle.jl_nquads.specs.declared.code_points.Class.TheVariants.{LabelLater}
use Rattle.jl_nquads.proofs.CodeFronts.{has_scalar}
use Rattle.jl_nquads.proofs.LabelReads.{no_run, run_within, run_dot, run_more, run_ends, none_of_class, other_of_class, code_some}
use Rattle.jl_nquads.proofs.labels.run_of.Goals as goal

pub characters-init : goal.characters-init
characters-init c = no_run c.args.text.now

pub rest_of-requires : goal.rest_of-requires
rest_of-requires c = run_within c.args.text.now c.with_words-run.result.kept c.with_words-run.result.len c.with_words-run.ensures.run

pub characters-preserved-then-next-ne46 : goal.characters-preserved-then-next-ne46
characters-preserved-then-next-ne46 c = run_more c.args.text.now c.rest_of.result.now c.with_words-run.result.kept c.with_words-run.result.len c.in-Some.next.code c.in-Some.next.len c.with_words-run.ensures.run c.rest_of.ensures c.in-Some.ensures (sym c.goes_on_label.ensures ∙ c.if-not-goes_on_label.false) c.if-next-ne46.true

pub characters-preserved : goal.characters-preserved
characters-preserved c = run_dot c.args.text.now c.rest_of.result.now c.with_words-run.result.kept c.with_words-run.result.len c.in-Some.next.code c.in-Some.next.len c.with_words-run.ensures.run c.rest_of.ensures c.in-Some.ensures c.if-next-ne46.false

pub characters-smaller-then-next-ne46 : goal.characters-smaller-then-next-ne46
characters-smaller-then-next-ne46 c =
    let some = code_some c.rest_of.result.now c.in-Some.next.code c.in-Some.next.len c.in-Some.ensures in
    let within : c.with_words-run.result.len + c.in-Some.next.len ≤ length c.args.text.now = run_within c.args.text.now (c.with_words-run.result.len + c.in-Some.next.len) (c.with_words-run.result.len + c.in-Some.next.len) (run_more c.args.text.now c.rest_of.result.now c.with_words-run.result.kept c.with_words-run.result.len c.in-Some.next.code c.in-Some.next.len c.with_words-run.ensures.run c.rest_of.ensures c.in-Some.ensures (sym c.goes_on_label.ensures ∙ c.if-not-goes_on_label.false) c.if-next-ne46.true) in
    omega (arith, some.0, within, c.with_words-run.ensures.grows)

pub returns-then-not-goes_on_label : goal.returns-then-not-goes_on_label
returns-then-not-goes_on_label c = run_ends c.args.text.now c.rest_of.result.now c.with_words-run.result.kept c.with_words-run.result.len c.with_words-run.ensures.run c.rest_of.ensures (other_of_class c.rest_of.result.now goes_on_label c.in-Some.next.code c.in-Some.next.len c.in-Some.ensures (sym c.goes_on_label.ensures ∙ c.if-not-goes_on_label.true))

pub returns-in-None : goal.returns-in-None
returns-in-None c = run_ends c.args.text.now c.rest_of.result.now c.with_words-run.result.kept c.with_words-run.result.len c.with_words-run.ensures.run c.rest_of.ensures (none_of_class c.rest_of.result.now goes_on_label (has_scalar LabelLater) c.in-None.ensures)
