use Rattle.std.proofs.Common.{rules, ◌≡◌, [], ◌∷◌, ◌++◌, subst}
use Rattle.jl_prelude.specs.declared.members.PreludeMember.{PreludeMember}
use Rattle.jl_prelude.specs.Preludes.{IsPrelude}
use Rattle.jl_prelude.proofs.PreludeLemmas.{prelude_more}
use Rattle.jl_prelude.proofs.preludes.Prelude.add.Goals as goal

pub returns-clause-prelude : goal.returns-clause-prelude
returns-clause-prelude c candidates of value rest is leads =
    let x : PreludeMember = record { classes = c.args.classes; key = c.args.key.now; at = c.args.at; raw = c.args.raw.now } in
    let e : c.args.self.now.members ++ x ∷ [] ≡ c.push.new.self = search rules in
    subst (λ xs. IsPrelude candidates xs of rest) e (prelude_more candidates c.args.self.now.members x of value rest is leads)
