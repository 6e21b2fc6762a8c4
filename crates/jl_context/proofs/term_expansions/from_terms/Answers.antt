use Rattle.std.proofs.Common.{sym}
use Rattle.jl_context.proofs.Naming.{no-terms}
use Rattle.jl_context.proofs.term_expansions.from_terms.Goals as goal

pub returns-then-has_no_terms : goal.returns-then-has_no_terms
returns-then-has_no_terms c = sym (no-terms c.args.context.now c.args.text.now c.args.vocab (c.has_no_terms.ensures c.if-has_no_terms.true))
