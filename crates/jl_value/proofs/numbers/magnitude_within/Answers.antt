use Rattle.std.proofs.Common.{ap, ◌∙◌, ◌+◌, ◌*◌, arith}
use Rattle.jl_value.proofs.Magnitudes.{passed, whole}
use Rattle.jl_value.proofs.numbers.magnitude_within.Goals as goal

pub returns-then-magnitude-most : goal.returns-then-magnitude-most
returns-then-magnitude-most c =
    passed c.args.token.now c.unsigned-digits.result.now c.args.most c.loop-byte.magnitude c.loop-byte.byte-index (c.loop-byte.magnitude * 10 + c.from.result)
    c.unsigned-digits.ensures (omega (arith, c.loop-byte-test.true)) c.loop-byte.invariant.1
    (ap (λ d. c.loop-byte.magnitude * 10 + d) (c.from.ensures ∙ c.saturating_sub.ensures))
    (omega (arith, c.if-magnitude-most.true))

pub returns : goal.returns
returns c =
    whole c.args.token.now c.unsigned-digits.result.now c.args.most c.loop-byte.magnitude c.loop-byte.byte-index
    c.unsigned-digits.ensures (omega (arith, c.loop-byte-test.false, c.loop-byte.auto)) c.loop-byte.invariant.0 c.loop-byte.invariant.1
