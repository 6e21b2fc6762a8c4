use Rattle.std.proofs.Common.{codes}
use Rattle.jl_defs.specs.Canon.{string_text}
use Rattle.jl_defs.specs.WriterText.{node_name}
use Rattle.jl_writer.specs.Steps.{node_of}
use Rattle.jl_writer.proofs.Putting.{cut_in_front, put_behind, cut_behind, named_joined}
use Rattle.jl_writer.proofs.nodes.put_graph.Goals as goal

pub returns-in_err-put_parts-clause-cut : goal.returns-in_err-put_parts-clause-cut
returns-in_err-put_parts-clause-cut g c =
    let n = c.name_parts in
    let text = named_joined (codes "{\"@id\":") n.result.0.now n.result.1.now (string_text (node_name c.args.graph.now)) (codes ",\"@graph\":[") (node_of c.args.subject.now c.args.predicate.now c.args.object.now) n.ensures in
    cut_in_front c.from_residual.result _ _ _ _ _ text c.in_err-put_parts.ensures.cut

pub returns-clause-put : goal.returns-clause-put
returns-clause-put g c =
    let n = c.name_parts in
    let text = named_joined (codes "{\"@id\":") n.result.0.now n.result.1.now (string_text (node_name c.args.graph.now)) (codes ",\"@graph\":[") (node_of c.args.subject.now c.args.predicate.now c.args.object.now) n.ensures in
    put_behind c.put_node.result _ _ _ _ _ _ text c.in_ok-put_parts.ensures.put c.put_node.ensures.put

pub returns-clause-cut : goal.returns-clause-cut
returns-clause-cut g c =
    let n = c.name_parts in
    let text = named_joined (codes "{\"@id\":") n.result.0.now n.result.1.now (string_text (node_name c.args.graph.now)) (codes ",\"@graph\":[") (node_of c.args.subject.now c.args.predicate.now c.args.object.now) n.ensures in
    cut_behind c.put_node.result _ _ _ _ _ _ text c.in_ok-put_parts.ensures.put c.put_node.ensures.cut
