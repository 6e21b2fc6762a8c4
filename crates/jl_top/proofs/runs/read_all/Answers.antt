use Rattle.std.proofs.Common.{refl}
use Rattle.std.specs.Option.{option_copied}
use Rattle.jl_top.specs.Words.{settings_with}
use Rattle.jl_top.proofs.Going.{memory_answers, begun_new}
use Rattle.jl_top.proofs.runs.read_all.Goals as goal

pub returns-in_default-clause-answers : goal.returns-in_default-clause-answers
returns-in_default-clause-answers g c =
    memory_answers (settings_with (option_copied c.args.base)) (g.P.Port.taken c.args.port.now) (g.P.Port.left c.args.port.now) (g.P.ByteOut.written c.args.port.now) (g.P.Port.ended c.args.port.now) c.requires.fresh

pub returns-in_default-vec-clause-answers : goal.returns-in_default-vec-clause-answers
returns-in_default-vec-clause-answers g c =
    memory_answers (settings_with (option_copied c.args.base)) (g.P.Port.taken c.args.port.now) (g.P.Port.left c.args.port.now) (g.P.ByteOut.written c.args.port.now) (g.P.Port.ended c.args.port.now) c.requires.fresh

pub read_on-requires-clause-begun : goal.read_on-requires-clause-begun
read_on-requires-clause-begun g c = begun_new c.in-Ok.engine (option_copied c.args.base) c.in-Ok.ensures.stands

pub returns-clause-answers : goal.returns-clause-answers
returns-clause-answers g c = c.read_on.ensures.answers (settings_with (option_copied c.args.base)) (c.in-Ok.ensures.stands (settings_with (option_copied c.args.base)) refl refl)

pub read_on-requires-clause-may : goal.read_on-requires-clause-may
read_on-requires-clause-may g c =
    record { settings = settings_with (option_copied c.args.base); stands = c.in-Ok.ensures.stands (settings_with (option_copied c.args.base)) refl refl; grants = c.requires.may }
