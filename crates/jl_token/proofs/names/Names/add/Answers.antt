use Rattle.std.proofs.Common.{not, ap, ◌∙◌}
use Rattle.std.specs.List.{list_any}
use Rattle.std.specs.Str.{bytes_eq}
use Rattle.jl_token.specs.Names.{with_name}
use Rattle.jl_token.proofs.NamesAmong.{texts_of, added_len, put_in, found}
use Rattle.jl_token.proofs.names.Names.add.Goals as goal

pub invariant_of-self-then-added : goal.invariant_of-self-then-added
invariant_of-self-then-added c =
    c.saturating_add-self-inside.ensures
    ∙ added_len c.self.inside.texts.keys c.insert.new.self.keys c.args.name c.self.inside.len c.len-len.result c.in-Ok.added c.self.invariant (c.len-len.ensures ∙ c.args.name.ok.0) c.in-Ok.ensures.keys c.in-Ok.ensures.added c.if-added.true

pub returns-then-added-clause-names : goal.returns-then-added-clause-names
returns-then-added-clause-names c = ap texts_of c.in-Ok.ensures.keys ∙ put_in c.self.inside.texts.keys c.args.name ∙ ap (λ names. with_name names c.args.name.items) c.self.view_is

pub returns-else-added-clause-names : goal.returns-else-added-clause-names
returns-else-added-clause-names c = ap texts_of c.in-Ok.ensures.keys ∙ put_in c.self.inside.texts.keys c.args.name ∙ ap (λ names. with_name names c.args.name.items) c.self.view_is

pub returns-then-added-clause-added : goal.returns-then-added-clause-added
returns-then-added-clause-added c = c.in-Ok.ensures.added ∙ ap not (found c.args.name.items c.self.inside.texts.keys ∙ ap (λ names. list_any (bytes_eq c.args.name.items) names) c.self.view_is)

pub returns-else-added-clause-added : goal.returns-else-added-clause-added
returns-else-added-clause-added c = c.in-Ok.ensures.added ∙ ap not (found c.args.name.items c.self.inside.texts.keys ∙ ap (λ names. list_any (bytes_eq c.args.name.items) names) c.self.view_is)
