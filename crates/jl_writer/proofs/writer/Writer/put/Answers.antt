use Rattle.std.proofs.Common.{◌≡◌, Option, Some, None, Result, Ok, Err, OnOk, ◌∙◌, sym, ap}
use Rattle.std.specs.Result.{result_err}
use Rattle.jl_io.proofs.Outcomes.{on_err_too}
use Rattle.jl_writer.specs.Steps.{node_after}
use Rattle.jl_writer.specs.Writing.{opened_if}
use Rattle.jl_writer.specs.declared.writer.WriteStop.{WriteStop}
use Rattle.jl_writer.proofs.OpenTexts.{quad_added, quad_cut, node_more}
use Rattle.jl_writer.proofs.writer.Writer.put.Goals as goal

-- what follows where no error was kept
goes_on : (r : Result (Unit {0}) WriteStop) (stopped : Option WriteStop) {P Q R : Type 0} → stopped ≡ result_err r → (stopped ≡ None → P → Q → R) → OnOk r P → OnOk r Q → OnOk r R
goes_on (Ok x) stopped e f p q = f e p q
goes_on (Err x) stopped e f p q = q

pub returns-clause-text : goal.returns-clause-text
returns-clause-text g c =
    let q = c.args.quad.now in
    let n = opened_if c.args.self.now.node in
    goes_on c.add-answer.result c.err-self.result c.err-self.ensures.value
    (λ stays text node before quads h. record {
      goes_on = stays;
      node = node ∙ ap (λ m. Some (node_after m q)) h.node ∙ sym (node_more quads q);
      text = quad_added before _ _ quads q n h.text h.node text;
    })
    c.add-answer.ensures.text c.add-answer.ensures.node

pub returns-clause-cut : goal.returns-clause-cut
returns-clause-cut g c =
    on_err_too c.add-answer.result
    (λ cut before quads h. quad_cut before _ _ quads c.args.quad.now (opened_if c.args.self.now.node) h.text h.node cut)
    c.add-answer.ensures.cut
