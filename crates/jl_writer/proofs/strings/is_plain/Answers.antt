use Rattle.std.proofs.Common.{rules, refl, subst, ◌≡◌, true}
use Rattle.std.proofs.lemmas.Fn.{fold_over, slice_gives, fronts}
use Rattle.jl_writer.specs.Escapes.{IsPlain}
use Rattle.jl_writer.proofs.PlainTexts.{plain_more}
use Rattle.jl_writer.proofs.strings.is_plain.Goals as goal

pub returns : goal.returns
returns c = subst (λ bytes. c.fold.result ≡ true → IsPlain bytes) c.iter.ensures.rest
    (fold_over fronts (λ byte. byte.now) _ (λ bytes none. none ≡ true → IsPlain bytes) _
    (λ bytes none byte more f' e k. (plain_more bytes none byte.now more e (search rules), search rules)) _ _ _ _ (slice_gives c.iter.result) (λ t. refl) c.fold.ensures.ran)
