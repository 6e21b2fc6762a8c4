use Rattle.std.proofs.Common.{◌≡◌, ◌+◌, ◌∙◌, sym, ap, refl, arith, drop, get_or}
use Rattle.std.proofs.lemmas.List.{take_rest}
use Rattle.jl_token.specs.Runs.{plain_len}
use Rattle.jl_token.proofs.AsciiFronts.{plain_behind, plain_all, plain_ascii}
use Rattle.jl_token.proofs.runs.plain_len.Goals.{then-ascii-bytes-via-then-ascii-bytes, then-ascii-bytes-via-else-ascii-bytes+then-bytes-ascii-lt128}
use Rattle.jl_token.proofs.runs.plain_len.Goals as goal

pub returns-then-ascii-bytes-clause-count : goal.returns-then-ascii-bytes-clause-count
returns-then-ascii-bytes-clause-count c =
    let e = c.ascii_len-ascii.ensures.count in
    elim c.then-ascii-bytes.branch [
      | then-ascii-bytes-via-then-ascii-bytes w ↦ e ∙ plain_all c.args.bytes.now (omega (arith, e, w.if-ascii-bytes.true))
      | then-ascii-bytes-via-else-ascii-bytes+then-bytes-ascii-lt128 w ↦ plain_ascii c.args.bytes.now c.ascii_len-ascii.result (get_or c.args.bytes.now c.ascii_len-ascii.result 0) e (omega (arith, c.ascii_len-ascii.ensures.bound, w.if-ascii-bytes.false)) refl w.if-bytes-ascii-lt128.true
    ]

pub returns-clause-count : goal.returns-clause-count
returns-clause-count c =
    let e = c.ascii_len-ascii.ensures.count in
    let w : c.wide_len.result ≡ plain_len (drop c.ascii_len-ascii.result c.args.bytes.now) = c.wide_len.ensures.count ∙ ap plain_len (take_rest c.args.bytes.now c.ascii_len-ascii.result) in
    ap (λ n. c.ascii_len-ascii.result + n) w ∙ ap (λ n. n + plain_len (drop n c.args.bytes.now)) e ∙ sym (plain_behind c.args.bytes.now)
