use Rattle.std.proofs.Common.{◌∙◌, refl}
use Rattle.jl_nquads.specs.Nexts.{next_of}
use Rattle.jl_nquads.proofs.NextBytes.{no_graph}
use Rattle.jl_nquads.proofs.PartReads.{dot_close}
use Rattle.jl_nquads.proofs.read_lines.read_close.Goals as goal

pub read_graph-requires-clause-wants : goal.read_graph-requires-clause-wants
read_graph-requires-clause-wants c = λ s p o. record {
  others = λ i l. no_graph s p o (next_of c.args.text.now) c.requires.apart i l (λ d. c.in_default.not-Dot (c.next_of.ensures ∙ d));
  goes_on = λ e. refl;
}

pub returns-in-Dot : goal.returns-in-Dot
returns-in-Dot c = dot_close c.args.text.now c.in-Dot.ensures
