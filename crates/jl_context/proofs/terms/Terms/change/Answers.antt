use Rattle.std.proofs.Common.{◌≡◌, ap, sym, subst, ◌∙◌}
use Rattle.jl_defs.specs.Context.{lookup}
use Rattle.jl_context.specs.Layers.{layers_in, terms_of, seen}
use Rattle.jl_context.specs.Counted.{parts, AreSums}
use Rattle.jl_context.proofs.LayerLemmas.{layers-sorted}
use Rattle.jl_context.proofs.TermSums.{parts-within, sums-changed}
use Rattle.jl_context.proofs.terms.Terms.change.Goals as goal

pub moved_sums-requires : goal.moved_sums-requires
moved_sums-requires c =
    let before = terms_of c.self.inside.layers.items in
    let old : c.in_ok-old.old ≡ parts c.args.key.items (lookup before c.args.key.items) =
    c.in_ok-old.ensures ∙ (ap (λ l. parts c.as_slice-2.result.now (lookup (terms_of l) c.as_slice-2.result.now)) c.as_slice.ensures.value ∙ ap (λ k. parts k (lookup before k)) c.as_slice-2.ensures.value) in
    parts-within c.self.inside.sums c.in_ok-old.old before c.args.key.items c.self.invariant.sums old

pub invariant_of-self-2 : goal.invariant_of-self-2
invariant_of-self-2 c =
    let before = terms_of c.self.inside.layers.items in
    let old : c.in_ok-old.old ≡ parts c.args.key.items (lookup before c.args.key.items) =
    c.in_ok-old.ensures ∙ (ap (λ l. parts c.as_slice-2.result.now (lookup (terms_of l) c.as_slice-2.result.now)) c.as_slice.ensures.value ∙ ap (λ k. parts k (lookup before k)) c.as_slice-2.ensures.value) in
    let new : c.in_ok-new.new ≡ parts c.args.key.items (seen c.args.value) = c.in_ok-new.ensures ∙ ap (λ k. parts k (seen c.args.value)) c.as_slice-3.ensures.value in
    record {
      few = c.change_in.ensures.few;
      sums = (subst (λ es. AreSums c.in_ok-sums.sums es) (sym c.in_ok-change_in.ensures.ok)
          (sums-changed c.self.inside.sums c.in_ok-old.old c.in_ok-new.new c.in_ok-sums.sums before c.args.key.items (seen c.args.value)
          (layers-sorted (layers_in c.self.inside.layers.items)) c.self.invariant.sums old new c.in_ok-sums.ensures));
    }
