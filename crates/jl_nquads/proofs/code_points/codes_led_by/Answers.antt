use Rattle.jl_nquads.proofs.CodeFronts.{led_low, led_none, led_two, led_three, led_four}
use Rattle.jl_nquads.proofs.code_points.codes_led_by.Goals as goal

pub returns-then-byte-lt128 : goal.returns-then-byte-lt128
returns-then-byte-lt128 c = λ code y e. led_low c.args.byte code y c.if-byte-lt128.true e

pub returns-then-byte-lt192 : goal.returns-then-byte-lt192
returns-then-byte-lt192 c = λ code y e. led_none c.args.byte code y c.if-byte-lt128.false c.if-byte-lt192.true e

pub returns-then-byte-lt224 : goal.returns-then-byte-lt224
returns-then-byte-lt224 c = λ code y e. led_two c.args.byte code y c.if-byte-lt192.false c.if-byte-lt224.true e

pub returns-then-byte-lt240 : goal.returns-then-byte-lt240
returns-then-byte-lt240 c = λ code y e. led_three c.args.byte code y c.if-byte-lt224.false c.if-byte-lt240.true e

pub returns-else-byte-lt240 : goal.returns-else-byte-lt240
returns-else-byte-lt240 c = λ code y e. led_four c.args.byte code y c.if-byte-lt240.false e
