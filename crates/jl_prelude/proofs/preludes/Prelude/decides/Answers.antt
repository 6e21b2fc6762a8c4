use Rattle.std.proofs.Common.{rules, ◌≡◌}
use Rattle.jl_model.specs.declared.orders.Order.TheVariants.{Streaming}
use Rattle.jl_prelude.proofs.PreludeLemmas.{ends_at, ends_streaming}
use Rattle.jl_prelude.proofs.preludes.Prelude.decides.Goals as goal

pub returns-in-Streaming-clause-prelude : goal.returns-in-Streaming-clause-prelude
returns-in-Streaming-clause-prelude c decided candidates of at name value rest is told begins =
    let order : c.args.self.now.order ≡ Streaming = search rules in
    ends_at c.args.self.now.order candidates c.args.self.now.members of at name value rest c.args.classes c.args.first
    (ends_streaming c.args.self.now.order c.args.classes c.args.first c.lead.result order c.lead.ensures decided) is told begins
