use Rattle.std.proofs.Common.{◌∷◌, [], ◌+◌, ◌∙◌, Err, ap, drop, subst}
use Rattle.jl_model.specs.Parts.{with_object}
use Rattle.jl_model.specs.declared.terms.Term.TheVariants.{Iri}
use Rattle.jl_engine.specs.Marks.{HaveObjects, itself, refilled, with_iri}
use Rattle.jl_engine.specs.Putting.{Puts}
use Rattle.jl_engine.specs.Standing.{WerePut}
use Rattle.jl_engine.proofs.HeldMarks.{first_refilled, none_cut}
use Rattle.jl_engine.proofs.Feeding.{goes_on, stops_on, ends_on}
use Rattle.jl_engine.proofs.outs.put_objects.Goals as goal

pub returns-in-Err-clause-put : goal.returns-in-Err-clause-put
returns-in-Err-clause-put g c =
    let l = c.loop-size in
    let q = c.args.like.now in
    let text = c.text_and_rest.result.0.now in
    let first = (first_refilled c.args.like.now c.args.sizes.now l.size-index c.from.result l.rest.now c.text_and_rest.result.0.now c.text_and_rest.result.1.now c.loop-size-test.true c.from.ensures c.text_and_rest.ensures.text c.text_and_rest.ensures.rest) in
    stops_on g.O.QuadOut.tells g.O.QuadOut.selects c.args.out.now l.out c.put_object.new.out (refilled q c.args.sizes.now c.args.objects.now) (refilled q (drop l.size-index c.args.sizes.now) l.rest.now) (with_object q (Iri text) ∷ []) (refilled q (drop (l.size-index + 1) c.args.sizes.now) c.text_and_rest.result.1.now) c.in-Err.stop l.invariant.going.put
    first
    (subst (λ x. Puts (Err c.in-Err.stop) (x ∷ []) g.O.QuadOut.tells g.O.QuadOut.selects l.out c.put_object.new.out) (l.invariant.like (Iri text)) c.in-Err.ensures.put)

pub loop-size-preserved : goal.loop-size-preserved
loop-size-preserved g c =
    let l = c.loop-size in
    let q = c.args.like.now in
    let text = c.text_and_rest.result.0.now in
    let first = (first_refilled c.args.like.now c.args.sizes.now l.size-index c.from.result l.rest.now c.text_and_rest.result.0.now c.text_and_rest.result.1.now c.loop-size-test.true c.from.ensures c.text_and_rest.ensures.text c.text_and_rest.ensures.rest) in
    record {
      going = goes_on g.O.QuadOut.tells g.O.QuadOut.selects g.O.QuadOut.faults g.O.QuadOut.beside c.args.out.now l.out c.put_object.new.out (refilled q c.args.sizes.now c.args.objects.now) (refilled q (drop l.size-index c.args.sizes.now) l.rest.now) (with_object q (Iri text) ∷ []) (refilled q (drop (l.size-index + 1) c.args.sizes.now) c.text_and_rest.result.1.now) g.met.O.QuadOut.joins l.invariant.going first (subst (λ x. WerePut (g.O.QuadOut.tells l.out) (g.O.QuadOut.tells c.put_object.new.out) (g.O.QuadOut.selects l.out) (x ∷ [])) (l.invariant.like (Iri text)) c.in_default.ensures.put) c.in_default.ensures.out;
      formed = (subst HaveObjects first l.invariant.formed).1;
      like = λ o. ap (λ x. with_object x o) c.in_default.ensures.like ∙ l.invariant.like o;
    }

pub returns-clause-put : goal.returns-clause-put
returns-clause-put g c =
    let l = c.loop-size in
    let q = c.args.like.now in
    ends_on g.O.QuadOut.tells g.O.QuadOut.selects c.args.out.now l.out (refilled q c.args.sizes.now c.args.objects.now) (refilled q (drop l.size-index c.args.sizes.now) l.rest.now) l.invariant.going.put (none_cut itself (with_iri q) c.args.sizes.now l.size-index l.rest.now c.loop-size-test.false)
