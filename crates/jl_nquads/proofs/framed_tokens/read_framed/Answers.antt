use Rattle.std.proofs.Common.{sym, ◌∙◌, subst, IsTrue}
use Rattle.std.proofs.lemmas.Bool.{and_parts}
use Rattle.jl_nquads.specs.CharactersRead.{close_of}
use Rattle.jl_nquads.specs.LinesRead.{begins_with, good_in}
use Rattle.jl_nquads.proofs.FramedReads.{token_ends}
use Rattle.jl_nquads.proofs.framed_tokens.read_framed.Goals as goal

pub returns-then-ends : goal.returns-then-ends
returns-then-ends c =
    let p = and_parts (begins_with c.rest_of-rest.result.now (close_of c.args.frame)) (good_in c.args.frame c.bytes.result.now) (sym c.ends.ensures ∙ c.if-ends.true) in
    token_ends c.args.frame c.args.text.now c.rest_of-inner.result.now c.rest_of-rest.result.now c.in_ok-characters.characters c.requires c.rest_of-inner.ensures c.in_ok-characters.ensures c.rest_of-rest.ensures p.0
    (subst (λ z. IsTrue (good_in c.args.frame z)) c.bytes.ensures p.1)
