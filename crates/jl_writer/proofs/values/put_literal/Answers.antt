use Rattle.std.proofs.Common.{ap, ◌∙◌, ◌++◌}
use Rattle.jl_defs.specs.Canon.{string_text}
use Rattle.jl_writer.specs.Steps.{tagged_value}
use Rattle.jl_writer.proofs.Putting.{put_as, literal_tagged}
use Rattle.jl_writer.proofs.values.put_literal.Goals as goal

pub returns-in-Some-clause-put : goal.returns-in-Some-clause-put
returns-in-Some-clause-put g c =
    let s = c.string_parts in
    let string = s.result.0.now ++ s.result.1.now ++ s.result.0.now in
    let text = ap (λ tag. tagged_value tag string) c.bytes-in-Some.ensures ∙ literal_tagged c.args.lit.now c.in-Some.tag string c.in-Some.is (s.ensures ∙ ap string_text c.bytes.ensures) in
    put_as c.put_tagged.result _ _ _ _ text c.put_tagged.ensures.put
