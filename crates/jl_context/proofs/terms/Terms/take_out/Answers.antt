use Rattle.std.proofs.Common.{sym, ap, ◌∙◌, not}
use Rattle.jl_context.proofs.TermSums.{without-none, mapped-none}
use Rattle.jl_context.proofs.terms.Terms.take_out.Goals as goal

pub returns-then-is_none-clause-ok : goal.returns-then-is_none-clause-ok
returns-then-is_none-clause-ok c =
    let none = sym c.get.ensures ∙ mapped-none (λ d. d.now.value) c.get.result (c.is_none.ensures ∙ ap not c.if-is_none.true) in
    sym (without-none c.args.self.now c.args.name.now none)
