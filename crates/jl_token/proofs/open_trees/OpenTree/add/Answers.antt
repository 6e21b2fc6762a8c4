use Rattle.std.proofs.Common.{◌≡◌, sym, subst, ap, ◌∙◌, List, [], ◌++◌, Some, Option}
use Rattle.jl_model.specs.declared.tokens.Token.{Token}
use Rattle.jl_model.specs.JsonView.{tree_of}
use Rattle.jl_token.specs.declared.open_trees.OpenTree.TheVariants as opened
use Rattle.jl_token.specs.declared.open_trees.WaitingKey.{WaitingKey}
use Rattle.jl_token.specs.Trees.{open_tokens, tree_tokens}
use Rattle.jl_token.proofs.GrowingTrees.{array_added, object_added}
use Rattle.jl_token.proofs.open_trees.OpenTree.add.Goals as goal

pub returns-in_ok-push-in-Array : goal.returns-in_ok-push-in-Array
returns-in_ok-push-in-Array c =
    subst (λ s. ◌≡◌ {A = List Token} (open_tokens (opened.Array c.in-Array.at c.push.new.self)) (open_tokens s ++ tree_tokens (tree_of c.args.value) [])) (sym c.in-Array.is)
    (array_added c.in-Array.at c.in-Array.items c.push.new.self c.args.value c.in_ok-push-in-Array.ensures.ok)

pub returns-in_ok-push-in-Some : goal.returns-in_ok-push-in-Some
returns-in_ok-push-in-Some c =
    let k : ◌≡◌ {A = Option WaitingKey} c.in-Object.key (Some c.in-Some.field-0) = sym c.take.ensures.value ∙ c.in-Some.is in
    ap (λ (k : Option WaitingKey). open_tokens (opened.Object c.in-Object.at c.push-in-Some.new.self k)) c.take.ensures.after
    ∙ (object_added c.in-Object.at c.in-Some.field-0.at c.in-Some.field-0.name c.in-Object.members c.push-in-Some.new.self c.args.value c.in_ok-push-in-Some.ensures.ok
    ∙ (ap (λ k. open_tokens (opened.Object c.in-Object.at c.in-Object.members k) ++ tree_tokens (tree_of c.args.value) []) (sym k)
    ∙ ap (λ s. open_tokens s ++ tree_tokens (tree_of c.args.value) []) (sym c.in-Object.is)))
