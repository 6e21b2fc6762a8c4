use Rattle.std.proofs.Common.{sym}
use Rattle.jl_nquads.proofs.CodeNumbers.{code_too_high}
use Rattle.jl_nquads.proofs.escaped.code_number.Goals as goal

pub returns-then-number-gt-LAST_CODE : goal.returns-then-number-gt-LAST_CODE
returns-then-number-gt-LAST_CODE c =
    sym (code_too_high c.args.before c.args.digits.now c.loop-digit.digit-index c.loop-digit.number c.in-Some.value c.loop-digit-test.true (sym c.in-Some.ensures.value) c.if-number-gt-LAST_CODE.true c.loop-digit.invariant.same)
