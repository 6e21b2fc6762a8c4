use Rattle.std.proofs.Common.{◌≡◌, drop}
use Rattle.jl_model.specs.Parts.{with_object}
use Rattle.jl_model.specs.declared.terms.Term.{Term}
use Rattle.jl_engine.specs.Marks.{HaveObjects, refilled}
use Rattle.jl_engine.proofs.Feeding.{Going}
use Rattle.jl_engine.proofs.outs.put_objects.Given as goal

abbrev pub invariant-loop-size : goal.invariant-loop-size
invariant-loop-size g l = record {
  going : Going g.O.QuadOut.tells g.O.QuadOut.selects g.O.QuadOut.faults g.O.QuadOut.beside l.initial.out l.out (refilled l.initial.like l.sizes l.objects) (refilled l.initial.like (drop l.size-index l.sizes) l.rest);
  formed : HaveObjects (refilled l.initial.like (drop l.size-index l.sizes) l.rest);
  like : (o : Term) → with_object l.like o ≡ with_object l.initial.like o;
}
