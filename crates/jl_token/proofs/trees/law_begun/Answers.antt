use Rattle.std.proofs.Common.{subst}
use Rattle.jl_token.specs.Trees.{IsFormedBy}
use Rattle.jl_token.proofs.TreeEndings.{begun}
use Rattle.jl_token.proofs.trees.law_begun.Goals as goal

pub returns-clause-begins : goal.returns-clause-begins
returns-clause-begins c = λ s read token f h t. begun s.growth s.around read token (subst (λ b. IsFormedBy b s) h.goes_on f) t h.read_is
