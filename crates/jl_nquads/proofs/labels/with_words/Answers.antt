use Rattle.std.proofs.Common.{◌+◌, ◌<◌, ◌≤◌, length, arith, subst, sym}
use Rattle.std.specs.List.{position_or_len}
use Rattle.jl_nquads.specs.LinesRead.{HasRun, is_no_word}
use Rattle.jl_nquads.proofs.LabelReads.{run_within, run_words, words_within}
use Rattle.jl_nquads.proofs.labels.with_words.Goals as goal

pub rest_of-requires : goal.rest_of-requires
rest_of-requires c = run_within c.args.text.now c.args.run.kept c.args.run.len c.requires

pub returns-clause-run : goal.returns-clause-run
returns-clause-run c =
    let some : 0 < position_or_len is_no_word c.rest_of.result.now = omega (arith, c.words_len-words.ensures, c.if-words-eq0.false) in
    subst (λ n. HasRun c.args.text.now (c.args.run.len + n) (c.args.run.len + n)) (sym c.words_len-words.ensures) (run_words c.args.text.now c.rest_of.result.now c.args.run.kept c.args.run.len c.requires c.rest_of.ensures some)

pub overflow_add-len : goal.overflow_add-len
overflow_add-len c =
    let within : c.args.run.len + c.words_len-words.result ≤ length c.args.text.now = words_within c.args.text.now c.rest_of.result.now c.args.run.kept c.args.run.len c.words_len-words.result c.requires c.rest_of.ensures c.words_len-words.ensures in
    omega (arith, within)
