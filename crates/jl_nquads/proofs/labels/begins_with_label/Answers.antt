use Rattle.std.proofs.Common.{sym, ◌∙◌, inl, inr}
use Rattle.std.proofs.lemmas.Bool.{cases_Bool}
use Rattle.jl_model.specs.LineTokens.{begins_label}
use Rattle.jl_nquads.proofs.LabelReads.{some_of_class, other_of_class}
use Rattle.jl_nquads.proofs.labels.begins_with_label.Goals as goal

pub returns-in-Some : goal.returns-in-Some
returns-in-Some c = (
  (λ h. some_of_class c.args.text.now begins_label c.in-Some.first.code c.in-Some.first.len c.in-Some.ensures (sym c.begins_label.ensures ∙ h)),
  (λ k. elim (cases_Bool c.begins_label.result) [
    | inl e ↦ e
    | inr e ↦ absurd (other_of_class c.args.text.now begins_label c.in-Some.first.code c.in-Some.first.len c.in-Some.ensures (sym c.begins_label.ensures ∙ e) k)
  ]),
)
