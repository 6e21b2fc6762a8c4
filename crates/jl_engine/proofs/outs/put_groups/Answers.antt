use Rattle.std.proofs.Common.{◌+◌, ap, drop}
use Rattle.jl_engine.specs.Marks.{all_of}
use Rattle.jl_engine.proofs.HeldMarks.{item_more, none_after}
use Rattle.jl_engine.proofs.Feeding.{goes_on, stops_on, ends_on}
use Rattle.jl_engine.proofs.outs.put_groups.Goals as goal

pub returns-in-Err-clause-put : goal.returns-in-Err-clause-put
returns-in-Err-clause-put g c =
    let l = c.loop-group in
    stops_on g.O.QuadOut.tells g.O.QuadOut.selects c.args.out.now l.out c.put_group.new.out (all_of c.args.groups.now) (all_of (drop l.group-index c.args.groups.now)) c.group-item.result (all_of (drop (l.group-index + 1) c.args.groups.now)) c.in-Err.stop l.invariant.put
    (ap all_of (item_more c.args.groups.now l.group-index c.group-item.result c.loop-group-test.true c.group-item.is))
    c.in-Err.ensures.put

pub loop-group-preserved : goal.loop-group-preserved
loop-group-preserved g c =
    let l = c.loop-group in
    goes_on g.O.QuadOut.tells g.O.QuadOut.selects g.O.QuadOut.faults g.O.QuadOut.beside c.args.out.now l.out c.put_group.new.out (all_of c.args.groups.now) (all_of (drop l.group-index c.args.groups.now)) c.group-item.result (all_of (drop (l.group-index + 1) c.args.groups.now)) g.met.O.QuadOut.joins l.invariant (ap all_of (item_more c.args.groups.now l.group-index c.group-item.result c.loop-group-test.true c.group-item.is)) c.in_default.ensures.put c.in_default.ensures.out

pub returns-clause-put : goal.returns-clause-put
returns-clause-put g c =
    let l = c.loop-group in
    ends_on g.O.QuadOut.tells g.O.QuadOut.selects c.args.out.now l.out (all_of c.args.groups.now) (all_of (drop l.group-index c.args.groups.now)) l.invariant.put (ap all_of (none_after c.args.groups.now l.group-index c.loop-group-test.false))
