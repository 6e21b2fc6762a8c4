use Rattle.std.proofs.Common.{sym, ap, ◌∙◌, bytes_eq, length, ◌-◌}
use Rattle.std.specs.Prelude.{slice_get}
use Rattle.jl_defs.specs.WriterText.{is_last}
use Rattle.jl_writer.proofs.Used.{last_reverse}
use Rattle.jl_writer.proofs.predicates.Predicates.ends_with.Goals as goal

pub returns-in-Some : goal.returns-in-Some
returns-in-Some c =
    let found = ap (λ xs. slice_get xs (length xs - 1)) (sym c.deref.ensures.value) ∙ sym c.in-Some.ensures.value in
    let front = last_reverse c.self.inside.list.items c.in-Some.last.now found in
    c.eq.ensures ∙ ap (bytes_eq c.args.predicate.now) c.bytes.ensures ∙ ap (is_last c.args.predicate.now) (sym front.1) ∙ ap (is_last c.args.predicate.now) c.self.view_is
