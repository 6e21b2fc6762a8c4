use Rattle.std.proofs.Common.{◌≡◌, ◌∙◌, subst, arith, length, drop}
use Rattle.std.proofs.lemmas.List.{take_rest}
use Rattle.jl_top.specs.ConversionSteps.{TakesSome, StopsBytes}
use Rattle.jl_top.proofs.Converting.{all_converted, takes_more, takes_stops}
use Rattle.jl_top.proofs.conversions.Conversion.convert.Goals as goal

pub loop-at-preserved : goal.loop-at-preserved
loop-at-preserved g c =
    let w0 = g.B.ByteOut.written c.args.out.now in
    let w1 = g.B.ByteOut.written c.loop-at.out in
    let w2 = g.B.ByteOut.written c.take.new.out in
    let h = c.loop-at.invariant in
    record {
      converted = takes_more c.args.piece.now c.loop-at.at c.args.self.now c.loop-at.self w0 w1 h.converted c.take.new.self w2 c.in-Ok.count
          (subst (λ b. TakesSome c.in-Ok.count b c.loop-at.self c.take.new.self w1 w2) (take_rest c.args.piece.now c.loop-at.at) c.in-Ok.ensures.answer) c.in-Ok.ensures.goes_on;
      faults = c.in-Ok.ensures.cause.others (λ e. cc) ∙ h.faults;
      beside = g.met.B.ByteOut.joins c.args.out.now c.loop-at.out c.take.new.out h.beside c.take.ensures.beside;
    }

pub returns-in-Err-clause-answer : goal.returns-in-Err-clause-answer
returns-in-Err-clause-answer g c =
    let w0 = g.B.ByteOut.written c.args.out.now in
    let w1 = g.B.ByteOut.written c.loop-at.out in
    let w2 = g.B.ByteOut.written c.take.new.out in
    takes_stops c.args.piece.now c.loop-at.at c.args.self.now c.loop-at.self w0 w1 c.loop-at.invariant.converted c.take.new.self w2 c.in-Err.stop
    (subst (λ b. StopsBytes c.in-Err.stop b c.loop-at.self c.take.new.self w1 w2) (take_rest c.args.piece.now c.loop-at.at) c.in-Err.ensures.answer)

pub returns-clause-answer : goal.returns-clause-answer
returns-clause-answer g c =
    let h = c.loop-at.invariant.converted in
    let within = h.within in
    all_converted c.args.piece.now c.loop-at.at c.args.self.now c.loop-at.self (g.B.ByteOut.written c.args.out.now) (g.B.ByteOut.written c.loop-at.out) (let e : c.loop-at.at ≡ length c.args.piece.now = omega (arith, within, c.loop-at-test.false) in e) h
