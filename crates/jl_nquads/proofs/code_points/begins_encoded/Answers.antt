use Rattle.std.proofs.Common.{ap, ◌∙◌}
use lib.Utf8.{encode}
use Rattle.jl_nquads.proofs.CodeFronts.{front_told}
use Rattle.jl_nquads.proofs.code_points.begins_encoded.Goals as goal

pub returns-in-Some : goal.returns-in-Some
returns-in-Some c = front_told c.starts_with.result c.as_bytes.result.now (encode c.args.code) c.args.text.now (c.as_bytes.ensures.value ∙ c.encode_utf8.ensures.value ∙ ap encode c.in-Some.ensures.value.1) c.starts_with.ensures.value
