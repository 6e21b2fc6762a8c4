use Rattle.jl_nquads.proofs.NameReads.{label_is_name}
use Rattle.jl_nquads.proofs.names.read_blank.Goals as goal

pub returns : goal.returns
returns c = label_is_name c.args.dotted c.args.text.now c.in_ok-label.label.renamed c.in_ok-label.label.len c.in_ok-label.ensures
