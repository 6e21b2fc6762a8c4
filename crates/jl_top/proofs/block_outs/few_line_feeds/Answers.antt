use Rattle.std.proofs.Common.{rules, refl, subst, ◌∙◌, ◌≡◌, ◌%◌, ◌^◌}
use Rattle.std.specs.List.{count_by}
use Rattle.std.proofs.lemmas.Fn.{fold_over, slice_gives, fronts}
use Rattle.jl_top.specs.Blocks.{is_line_feed}
use Rattle.jl_top.proofs.LineCounts.{one_more, all_counted}
use Rattle.jl_top.proofs.block_outs.few_line_feeds.Goals as goal

pub returns : goal.returns
returns c =
    let counted = subst (λ bytes. c.fold-feeds.result ≡ count_by is_line_feed bytes % 2 ^ 8) c.iter.ensures.rest
    (fold_over fronts (λ byte. byte.now) _ (λ bytes feeds. feeds ≡ count_by is_line_feed bytes % 2 ^ 8) _
    (λ bytes feeds byte more f' e k. (one_more bytes byte.now feeds more e (search rules), search rules)) _ _ _ _ (slice_gives c.iter.result) refl c.fold-feeds.ensures.ran) in
    c.from.ensures ∙ counted ∙ all_counted c.args.bytes.now c.requires
