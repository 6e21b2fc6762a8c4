use Rattle.std.proofs.Common.{sym, subst}
use Rattle.jl_model.specs.Parts.{IsObject, plain, parts_of}
use Rattle.jl_model.specs.declared.terms.Term.TheVariants.{Literal}
use Rattle.jl_model.proofs.Datatypes.{plain_is_object, object_set}
use Rattle.jl_model.proofs.quads.Quad.set_text.Goals as goal

pub invariant_of-self-2 : goal.invariant_of-self-2
invariant_of-self-2 c = record {
  subject = c.self.invariant.subject;
  predicate = c.self.invariant.predicate;
  object = subst IsObject (sym c.in_ok-set_plain.ensures.ok) (plain_is_object c.args.text.now (c.is_utf8.ensures.0 c.if-not-is_utf8.false));
  graph = c.self.invariant.graph;
}

pub returns : goal.returns
returns c =
    object_set c.args.self.now (parts_of c.self.inside.subject c.self.inside.predicate c.self.inside.object c.self.inside.graph) c.set_plain.new.self (Literal (plain c.args.text.now))
    (sym c.self.view_is) c.self.invariant (plain_is_object c.args.text.now (c.is_utf8.ensures.0 c.if-not-is_utf8.false)) c.in_ok-set_plain.ensures.ok
