use Rattle.std.proofs.Common.{◌≡◌, sym, subst, List, [], ◌∷◌, ◌++◌, true, Some}
use Rattle.jl_model.specs.declared.tokens.Token.{Token}
use Rattle.jl_model.specs.declared.tokens.Token.TheVariants as tokens
use Rattle.jl_token.specs.declared.open_trees.OpenTree.TheVariants as opened
use Rattle.jl_token.specs.Trees.{open_tokens, key_fits}
use Rattle.jl_token.proofs.GrowingTrees.{key_read}
use Rattle.jl_token.proofs.open_trees.OpenTree.set_key.Goals as goal

pub returns : goal.returns
returns c =
    subst (λ s. ◌≡◌ {A = List Token} (open_tokens (opened.Object c.in-Object.at c.in-Object.members (Some (record { at = c.args.at; name = c.args.name })))) (open_tokens s ++ tokens.Key c.args.at c.args.name ∷ [])) (sym c.in-Object.is)
    (key_read c.in-Object.at c.args.at c.args.name c.in-Object.members c.in-Object.key (subst (λ s. key_fits s ≡ true) c.in-Object.is c.requires))
