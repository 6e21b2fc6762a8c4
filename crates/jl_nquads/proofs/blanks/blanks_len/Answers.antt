use Rattle.jl_nquads.specs.LinesRead.{is_no_blank}
use Rattle.jl_nquads.proofs.NextBytes.{no_place, at_place, place_within}
use Rattle.jl_nquads.proofs.blanks.blanks_len.Goals as goal

pub returns-in-None : goal.returns-in-None
returns-in-None c = no_place is_no_blank c.args.text.now c.in-None.ensures (place_within is_no_blank c.args.text.now)

pub returns-in-Some : goal.returns-in-Some
returns-in-Some c = at_place is_no_blank c.args.text.now c.in-Some.at c.in-Some.ensures
