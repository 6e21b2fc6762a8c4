use Rattle.std.proofs.Common.{◌∙◌}
use Rattle.jl_model.specs.Resolve.{recompose, resolve}
use Rattle.jl_iri.specs.Components.{components_in}
use Rattle.jl_iri.proofs.Resolved.{if_ok-is, recompose-target}
use Rattle.jl_iri.proofs.resolutions.resolve.Goals as goal

pub returns : goal.returns
returns c =
    if_ok-is c.recompose.result (recompose (components_in c.target.result)) (resolve c.args.base.now c.args.reference.now)
    (recompose-target (components_in c.parts_of-base.result) (components_in c.parts_of-reference.result) (components_in c.target.result) c.args.base.now c.args.reference.now c.as_slice.result.now
    c.parts_of-base.ensures c.parts_of-reference.ensures (c.as_slice.ensures.value ∙ c.in_ok-path.ensures) c.target.ensures)
    c.recompose.ensures
