use Rattle.std.proofs.Common.{sym, ap, ◌∙◌, subst, length, take}
use Rattle.jl_nquads.proofs.CodeFronts.{code_first, no_code}
use Rattle.jl_nquads.proofs.PlainFronts.{valid_is_utf8}
use Rattle.std.specs.Str.{IsUtf8}
use Rattle.jl_nquads.proofs.code_points.longer_code_at.Goals as goal

pub returns-in_default : goal.returns-in_default
returns-in_default c = λ code back h e. c.in_default.ensures.cases.0 (subst (λ n. IsUtf8 (take n (take c.min.result c.args.text.now))) (sym c.utf8_len.ensures.len) (valid_is_utf8 (take c.min.result c.args.text.now)))

pub returns-in-None : goal.returns-in-None
returns-in-None c =
    no_code c.args.text.now c.in-Ok.valid.now c.min.result c.utf8_len.result c.min.ensures c.utf8_len.ensures.len c.utf8_len.ensures.within c.in-Ok.ensures.cases.0
    (sym (ap length c.chars.ensures.rest) ∙ c.in-None.ensures.steps.0.0)

pub returns-in-Some : goal.returns-in-Some
returns-in-Some c =
    let (cs, u) = c.in-Ok.ensures.cases.1 in
    code_first c.args.text.now c.in-Ok.valid.now c.next.new.self.rest.now cs c.min.result c.utf8_len.result c.in-Some.character c.len_utf8.result u.0 u.1 c.in-Ok.ensures.cases.0
    (sym c.chars.ensures.rest ∙ c.in-Some.ensures.steps.0) c.len_utf8.ensures.len
