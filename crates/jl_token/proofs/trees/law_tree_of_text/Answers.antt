use Rattle.jl_token.proofs.TextTrees.{read_tokens}
use Rattle.jl_token.proofs.trees.law_tree_of_text.Goals as goal

pub returns : goal.returns
returns c = read_tokens
