-- A list of items or members is what it holds.
use Rattle.std.proofs.Common.{◌≡◌, ap, sym, ◌∙◌, List}
use Rattle.jl_model.specs.declared.trees.Json.{Json}
use Rattle.jl_model.specs.declared.trees.Member.{Member}
use Rattle.jl_model.specs.declared.trees.Items.{Items}
use Rattle.jl_model.specs.declared.trees.Members as rust
use Rattle.jl_model.specs.declared.trees.Members.{out-Members}
use Rattle.jl_model.specs.declared.trees.Node.TheViews.{roll-Items, roll-out-Items, roll-Members, roll-out-Members}
use Rattle.jl_model.specs.JsonView.{items_of, members_of}

pub items_same : (a b : Items) → items_of a ≡ items_of b → a ≡ b
items_same a b e = sym (roll-out-Items a) ∙ ap (λ (xs : List Json). roll-Items (record { list = xs })) e ∙ roll-out-Items b

pub members_same : (a b : rust.Members) → members_of a ≡ members_of b → a ≡ b
members_same a b e = sym (roll-out-Members a) ∙ ap (λ (xs : List Member). roll-Members (record { list = xs })) e ∙ roll-out-Members b
