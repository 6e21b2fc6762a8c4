use Rattle.std.proofs.Common.{None, Some, Ok, Err, refl, sym, subst}
use Rattle.std.proofs.lemmas.Result.{err_from_is_err_and}
use Rattle.jl_model.specs.Parts.{parts_of}
use Rattle.jl_nquads.specs.LinesRead.{ReadsFrom}
use Rattle.jl_nquads.specs.PartsRead.{EmptyRead}
use Rattle.jl_nquads.specs.Spots.{begins, has_subject}
use Rattle.jl_nquads.proofs.NameReads.{is_iri}
use Rattle.jl_nquads.proofs.PartReads.{subject_on, predicate_on, object_on, close_on, some_quad}
use Rattle.jl_nquads.proofs.SpotReads.{subject_leads, in_line_on}
use Rattle.jl_nquads.proofs.read_lines.read_line.Goals as goal

pub returns-in_err-read_empty : goal.returns-in_err-read_empty
returns-in_err-read_empty c =
    let p = err_from_is_err_and c.from_residual.result c.from_residual.ensures.1 in
    rw (p.1, p.2)
    (c.skip_blanks-text.ensures.continues begins (λ b. refl) (Err c.in_err-read_empty.field-0.0)
    (c.in_err-read_empty.ensures))

pub returns-then-branch : goal.returns-then-branch
returns-then-branch c = c.skip_blanks-text.ensures.continues begins (λ b. refl) (Ok None) (subst (λ z. EmptyRead c.skip_blanks-text.result.now (Ok z)) c.if-branch.true c.in_ok-read_empty.ensures)

pub returns-in_err-subject : goal.returns-in_err-subject
returns-in_err-subject c =
    let p = err_from_is_err_and c.from_residual-in_err-subject.result c.from_residual-in_err-subject.ensures.1 in
    rw (p.1, p.2)
    (c.skip_blanks-text.ensures.continues begins (λ b. refl) (Err c.in_err-subject.field-0.0)
    (c.in_err-subject.ensures begins has_subject subject_leads (subst (λ z. EmptyRead c.skip_blanks-text.result.now (Ok z)) c.if-branch.false c.in_ok-read_empty.ensures)))

pub returns-in_err-predicate : goal.returns-in_err-predicate
returns-in_err-predicate c =
    let p = err_from_is_err_and c.from_residual-in_err-predicate.result c.from_residual-in_err-predicate.ensures.1 in
    rw (p.1, p.2)
    (c.skip_blanks-text.ensures.continues begins (λ b. refl) (Err c.in_err-predicate.field-0.0)
    (subject_on c.skip_blanks-text.result.now c.rest_of.result.now c.skip_blanks-text-2.result.now c.in_ok-subject.subject.term c.in_ok-subject.subject.len (Err c.in_err-predicate.field-0.0) c.in_ok-subject.ensures c.rest_of.ensures c.skip_blanks-text-2.ensures
    (c.in_err-predicate.ensures c.in_ok-subject.subject.term)))

pub returns-in_err-object : goal.returns-in_err-object
returns-in_err-object c =
    let p = err_from_is_err_and c.from_residual-in_err-object.result c.from_residual-in_err-object.ensures.1 in
    rw (p.1, p.2)
    (c.skip_blanks-text.ensures.continues begins (λ b. refl) (Err c.in_err-object.field-0.0)
    (subject_on c.skip_blanks-text.result.now c.rest_of.result.now c.skip_blanks-text-2.result.now c.in_ok-subject.subject.term c.in_ok-subject.subject.len (Err c.in_err-object.field-0.0) c.in_ok-subject.ensures c.rest_of.ensures c.skip_blanks-text-2.ensures
    (predicate_on c.in_ok-subject.subject.term c.skip_blanks-text-2.result.now c.rest_of-2.result.now c.skip_blanks-text-3.result.now c.in_ok-predicate.predicate.meaning c.in_ok-predicate.predicate.len (Err c.in_err-object.field-0.0) c.in_ok-predicate.ensures c.rest_of-2.ensures c.skip_blanks-text-3.ensures
    (c.in_err-object.ensures c.in_ok-subject.subject.term c.in_ok-predicate.predicate.meaning))))

pub returns-in_err-close : goal.returns-in_err-close
returns-in_err-close c =
    let p = err_from_is_err_and c.from_residual-in_err-close.result c.from_residual-in_err-close.ensures.1 in
    rw (p.1, p.2)
    (c.skip_blanks-text.ensures.continues begins (λ b. refl) (Err c.in_err-close.field-0.0)
    (subject_on c.skip_blanks-text.result.now c.rest_of.result.now c.skip_blanks-text-2.result.now c.in_ok-subject.subject.term c.in_ok-subject.subject.len (Err c.in_err-close.field-0.0) c.in_ok-subject.ensures c.rest_of.ensures c.skip_blanks-text-2.ensures
    (predicate_on c.in_ok-subject.subject.term c.skip_blanks-text-2.result.now c.rest_of-2.result.now c.skip_blanks-text-3.result.now c.in_ok-predicate.predicate.meaning c.in_ok-predicate.predicate.len (Err c.in_err-close.field-0.0) c.in_ok-predicate.ensures c.rest_of-2.ensures c.skip_blanks-text-3.ensures
    (object_on c.in_ok-subject.subject.term c.in_ok-predicate.predicate.meaning c.skip_blanks-text-3.result.now c.rest_of-3.result.now c.skip_blanks-text-4.result.now c.in_ok-object.object.term c.in_ok-object.object.len (Err c.in_err-close.field-0.0) c.in_ok-object.ensures c.rest_of-3.ensures c.skip_blanks-text-4.ensures
    (c.in_err-close.ensures c.in_ok-subject.subject.term c.in_ok-predicate.predicate.meaning c.in_ok-object.object.term)))))

pub returns-in_err-read_end : goal.returns-in_err-read_end
returns-in_err-read_end c =
    let p = err_from_is_err_and c.from_residual-in_err-read_end.result c.from_residual-in_err-read_end.ensures.1 in
    rw (p.1, p.2)
    (c.skip_blanks-text.ensures.continues begins (λ b. refl) (Err c.in_err-read_end.field-0.0)
    (subject_on c.skip_blanks-text.result.now c.rest_of.result.now c.skip_blanks-text-2.result.now c.in_ok-subject.subject.term c.in_ok-subject.subject.len (Err c.in_err-read_end.field-0.0) c.in_ok-subject.ensures c.rest_of.ensures c.skip_blanks-text-2.ensures
    (predicate_on c.in_ok-subject.subject.term c.skip_blanks-text-2.result.now c.rest_of-2.result.now c.skip_blanks-text-3.result.now c.in_ok-predicate.predicate.meaning c.in_ok-predicate.predicate.len (Err c.in_err-read_end.field-0.0) c.in_ok-predicate.ensures c.rest_of-2.ensures c.skip_blanks-text-3.ensures
    (object_on c.in_ok-subject.subject.term c.in_ok-predicate.predicate.meaning c.skip_blanks-text-3.result.now c.rest_of-3.result.now c.skip_blanks-text-4.result.now c.in_ok-object.object.term c.in_ok-object.object.len (Err c.in_err-read_end.field-0.0) c.in_ok-object.ensures c.rest_of-3.ensures c.skip_blanks-text-4.ensures
    (close_on c.in_ok-subject.subject.term c.in_ok-predicate.predicate.meaning c.in_ok-object.object.term c.skip_blanks-text-4.result.now c.rest_of-4.result.now c.in_ok-close.close.graph c.in_ok-close.close.len (Err c.in_err-read_end.field-0.0) c.in_ok-close.ensures c.rest_of-4.ensures
    (c.in_err-read_end.ensures (parts_of c.in_ok-subject.subject.term c.in_ok-predicate.predicate.meaning c.in_ok-object.object.term c.in_ok-close.close.graph)))))))

pub skip_blanks-text-requires-2 : goal.skip_blanks-text-requires-2
skip_blanks-text-requires-2 c = in_line_on c.skip_blanks-text.result.now c.rest_of.result.now c.in_ok-subject.subject.len c.skip_blanks-text.ensures.in_line c.rest_of.ensures

pub skip_blanks-text-requires-4 : goal.skip_blanks-text-requires-4
skip_blanks-text-requires-4 c = in_line_on c.skip_blanks-text-3.result.now c.rest_of-3.result.now c.in_ok-object.object.len c.skip_blanks-text-3.ensures.in_line c.rest_of-3.ensures

pub read_end-requires : goal.read_end-requires
read_end-requires c = in_line_on c.skip_blanks-text-4.result.now c.rest_of-4.result.now c.in_ok-close.close.len c.skip_blanks-text-4.ensures.in_line c.rest_of-4.ensures

pub returns : goal.returns
returns c =
    subst (λ z. ReadsFrom begins c.args.text.now (Ok z))
    (sym (some_quad c.new.result (parts_of c.in_ok-subject.subject.term c.in_ok-predicate.predicate.meaning c.in_ok-object.object.term c.in_ok-close.close.graph) c.new.ensures.formed c.new.ensures.parts (record {
      subject = c.in_ok-subject.ensures.node;
      predicate = is_iri c.skip_blanks-text-2.result.now c.in_ok-predicate.predicate.meaning c.in_ok-predicate.predicate.len c.in_ok-predicate.ensures;
      object = c.in_ok-object.ensures.object;
      graph = c.in_ok-close.ensures.named;
    })))
    (c.skip_blanks-text.ensures.continues begins (λ b. refl) (Ok (Some (parts_of c.in_ok-subject.subject.term c.in_ok-predicate.predicate.meaning c.in_ok-object.object.term c.in_ok-close.close.graph)))
    (subject_on c.skip_blanks-text.result.now c.rest_of.result.now c.skip_blanks-text-2.result.now c.in_ok-subject.subject.term c.in_ok-subject.subject.len (Ok (Some (parts_of c.in_ok-subject.subject.term c.in_ok-predicate.predicate.meaning c.in_ok-object.object.term c.in_ok-close.close.graph))) c.in_ok-subject.ensures c.rest_of.ensures c.skip_blanks-text-2.ensures
    (predicate_on c.in_ok-subject.subject.term c.skip_blanks-text-2.result.now c.rest_of-2.result.now c.skip_blanks-text-3.result.now c.in_ok-predicate.predicate.meaning c.in_ok-predicate.predicate.len (Ok (Some (parts_of c.in_ok-subject.subject.term c.in_ok-predicate.predicate.meaning c.in_ok-object.object.term c.in_ok-close.close.graph))) c.in_ok-predicate.ensures c.rest_of-2.ensures c.skip_blanks-text-3.ensures
    (object_on c.in_ok-subject.subject.term c.in_ok-predicate.predicate.meaning c.skip_blanks-text-3.result.now c.rest_of-3.result.now c.skip_blanks-text-4.result.now c.in_ok-object.object.term c.in_ok-object.object.len (Ok (Some (parts_of c.in_ok-subject.subject.term c.in_ok-predicate.predicate.meaning c.in_ok-object.object.term c.in_ok-close.close.graph))) c.in_ok-object.ensures c.rest_of-3.ensures c.skip_blanks-text-4.ensures
    (close_on c.in_ok-subject.subject.term c.in_ok-predicate.predicate.meaning c.in_ok-object.object.term c.skip_blanks-text-4.result.now c.rest_of-4.result.now c.in_ok-close.close.graph c.in_ok-close.close.len (Ok (Some (parts_of c.in_ok-subject.subject.term c.in_ok-predicate.predicate.meaning c.in_ok-object.object.term c.in_ok-close.close.graph))) c.in_ok-close.ensures c.rest_of-4.ensures
    (c.in_ok-read_end.ensures (parts_of c.in_ok-subject.subject.term c.in_ok-predicate.predicate.meaning c.in_ok-object.object.term c.in_ok-close.close.graph)))))))
