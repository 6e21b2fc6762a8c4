use Rattle.std.proofs.lemmas.Bool.{false≢true}
use Rattle.jl_nquads.proofs.UnframedGoes.{written_goes, goes_written, nothing_goes}
use Rattle.jl_nquads.proofs.unframed.may_go_on.Goals as goal

pub returns-in-None : goal.returns-in-None
returns-in-None c = ((λ h. absurd (false≢true h)), (λ h. absurd (nothing_goes c.args.frame c.args.meaning.now c.args.rest.now c.in-None.ensures h)))

pub returns-in-Some : goal.returns-in-Some
returns-in-Some c = (
  (λ h. written_goes c.args.frame c.args.meaning.now c.in-Some.class c.in-Some.ensures c.args.rest.now c.requires.none c.requires.not_closed (c.begins_written.ensures.0 h)),
  (λ h. c.begins_written.ensures.1 (goes_written c.args.frame c.args.meaning.now c.in-Some.class c.in-Some.ensures c.args.rest.now c.requires.none c.requires.not_closed h)),
)
