use Rattle.std.proofs.Common.{arith}
use Rattle.jl_nquads.specs.LinesRead.{is_no_blank}
use Rattle.jl_nquads.proofs.NextBytes.{blanks_skipped, place_within}
use Rattle.jl_nquads.proofs.blanks.skip_blanks.Goals as goal

pub rest_of-requires : goal.rest_of-requires
rest_of-requires c = omega (arith, c.blanks_len.ensures, place_within is_no_blank c.args.text.now)

pub returns : goal.returns
returns c = blanks_skipped c.args.text.now c.rest_of.result.now c.blanks_len.result c.requires c.blanks_len.ensures c.rest_of.ensures
