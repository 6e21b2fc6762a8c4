use Rattle.jl_nquads.proofs.PlainFronts.{plain_front}
use Rattle.jl_nquads.proofs.framed.plain_len.Goals as goal

pub returns : goal.returns
returns c = plain_front c.args.close c.args.text.now c.run_len-run.result c.utf8_len.result c.requires c.run_len-run.ensures c.utf8_len.ensures.len
