use Rattle.jl_prelude.proofs.PreludeLemmas.{prelude_whole}
use Rattle.jl_prelude.proofs.preludes.Prelude.single_id.Goals as goal

pub returns-clause-whole : goal.returns-clause-whole
returns-clause-whole c candidates of is = prelude_whole candidates c.args.self.now.members of is
