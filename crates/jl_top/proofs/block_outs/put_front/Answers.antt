use Rattle.std.proofs.Common.{subst, sym, take}
use Rattle.jl_top.specs.Blocks.{CountsLines}
use Rattle.jl_io.proofs.Outcomes.{on_err}
use Rattle.jl_top.proofs.Handing.{hands_same, hands_count, hands_then}
use Rattle.jl_top.proofs.block_outs.put_front.Goals as goal

pub returns-in_err-make_room-clause-unput : goal.returns-in_err-make_room-clause-unput
returns-in_err-make_room-clause-unput g c =
    on_err c.from_residual.result (hands_same (g.B.ByteOut.written c.args.out.now) (g.B.ByteOut.written c.make_room.new.out) c.args.block.now c.make_room.new.block c.make_room.ensures.hands_on)

pub returns-in_err-make_room-clause-counts : goal.returns-in_err-make_room-clause-counts
returns-in_err-make_room-clause-counts g c =
    hands_count (g.B.ByteOut.written c.args.out.now) (g.B.ByteOut.written c.make_room.new.out) c.args.block.now c.make_room.new.block c.make_room.ensures.hands_on

pub returns-clause-counts : goal.returns-clause-counts
returns-clause-counts g c =
    λ counts. subst (λ n. CountsLines (g.B.ByteOut.written c.make_room.new.out) n) (sym c.gather.ensures.gathers.lines)
    (hands_count (g.B.ByteOut.written c.args.out.now) (g.B.ByteOut.written c.make_room.new.out) c.args.block.now c.make_room.new.block c.make_room.ensures.hands_on counts)

pub returns-clause-put : goal.returns-clause-put
returns-clause-put g c =
    hands_then (g.B.ByteOut.written c.args.out.now) (g.B.ByteOut.written c.make_room.new.out) c.args.block.now c.make_room.new.block c.gather.new.self (take c.gather.result c.args.bytes.now) c.make_room.ensures.hands_on c.gather.ensures.gathers.held
