use Rattle.std.proofs.Common.{◌≡◌, ◌+◌, ◌-◌, arith, take, drop, subst}
use Rattle.std.specs.List.{count_by}
use Rattle.jl_top.specs.Blocks.{is_line_feed}
use Rattle.jl_top.proofs.LineCounts.{counted_then, counted_rest}
use Rattle.jl_top.proofs.block_outs.line_feeds.Goals as goal

pub loop-at-preserved : goal.loop-at-preserved
loop-at-preserved c =
    let at = c.loop-at.at in
    let rest = drop at c.args.bytes.now in
    let size : at + 128 - at ≡ 128 = omega arith in
    let few : c.few_line_feeds-feeds.result ≡ count_by is_line_feed (take 128 rest) = subst (λ k. c.few_line_feeds-feeds.result ≡ count_by is_line_feed (take k rest)) size c.few_line_feeds-feeds.ensures in
    record {
      within = omega (arith, c.loop-at-test.true);
      counted = omega (arith, c.loop-at.invariant.counted, few, counted_then c.args.bytes.now at 128);
    }

pub returns : goal.returns
returns c = omega (arith, c.loop-at.invariant.counted, c.few_line_feeds.ensures, counted_rest c.args.bytes.now c.loop-at.at)
