use Rattle.jl_io.proofs.Fronts.{rest_cut}
use Rattle.jl_io.proofs.Outcomes.{on_err_too}
use Rattle.jl_io.proofs.puts.put_all.Goals as goal

pub returns-else-taken-bytes-clause-cut : goal.returns-else-taken-bytes-clause-cut
returns-else-taken-bytes-clause-cut g c =
    on_err_too c.put_rest.result (rest_cut (g.B.ByteOut.written c.args.out.now) (g.B.ByteOut.written c.put.new.self) (g.B.ByteOut.written c.put_rest.new.out) c.args.bytes.now c.in_ok-taken.taken c.in_ok-taken.ensures.put) c.put_rest.ensures.cut
