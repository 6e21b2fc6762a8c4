use Rattle.jl_nquads.proofs.UnframedGoes.{class_further}
use Rattle.jl_nquads.proofs.iri_fronts.class_after.Goals as goal

pub loop-byte-preserved : goal.loop-byte-preserved
loop-byte-preserved c =
    let h = class_further c.args.text.now c.loop-byte.byte-index c.loop-byte.class c.after.result c.in_ok-class.class c.loop-byte-test.true c.loop-byte.invariant.of_iri c.loop-byte.invariant.goes c.after.ensures c.in_ok-class.was in
    record { of_iri = h.0; goes = h.1 }
