use Rattle.std.proofs.Common.{rules, refl, subst, ◌≡◌, true, flat_map}
use Rattle.std.proofs.lemmas.Fn.{fold_over, slice_gives, fronts}
use Rattle.jl_model.specs.Lines.{escaped}
use Rattle.jl_nquads.proofs.EscapeRuns.{unescaped_more}
use Rattle.jl_nquads.proofs.escapes.has_no_escape.Goals as goal

pub returns : goal.returns
returns c = subst (λ bytes. c.fold.result ≡ true → flat_map escaped bytes ≡ bytes) c.iter.ensures.rest
    (fold_over fronts (λ byte. byte.now) _ (λ bytes none. none ≡ true → flat_map escaped bytes ≡ bytes) _
    (λ bytes none byte more f' e k. (unescaped_more bytes none byte.now more e (search rules), search rules)) _ _ _ _ (slice_gives c.iter.result) (λ t. refl) c.fold.ensures.ran)
