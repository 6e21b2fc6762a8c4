use Rattle.std.proofs.Common.{◌≡◌, ◌-◌, ◌≤◌, Some, option_map, ap, sym, subst, ◌∙◌}
use Rattle.jl_defs.specs.Context.{level_size}
use Rattle.jl_context.specs.Chains.{first_of, rest_of, levels_of, HoldsLevels}
use Rattle.jl_context.proofs.ChainLemmas.{first-within, rest-holds, levels-split}
use Rattle.jl_context.proofs.chains.Chain.rest.Goals as goal

pub less-requires : goal.less-requires
less-requires c =
    let items = c.self.inside.levels.value.items in
    let same : c.as_slice.result.now ≡ items = c.as_slice.ensures.value ∙ ap (λ v. v.items) c.deref.ensures in
    let first : first_of (levels_of c.self.inside.count items) ≡ Some c.in-Some.level.now.value =
    sym (sym (ap (option_map (λ l. l.now.value)) c.in-Some.is) ∙ (c.newest.ensures ∙ ap (λ l. first_of (levels_of c.self.inside.count l)) same)) in
    subst (λ v. level_size v ≤ c.self.inside.size) (sym c.as_ref.ensures) (first-within c.self.inside.count c.self.inside.size items c.in-Some.level.now.value c.self.invariant first)

pub invariant_of-result : goal.invariant_of-result
invariant_of-result c =
    let items = c.self.inside.levels.value.items in
    let same : c.as_slice.result.now ≡ items = c.as_slice.ensures.value ∙ ap (λ v. v.items) c.deref.ensures in
    let first : first_of (levels_of c.self.inside.count items) ≡ Some c.in-Some.level.now.value =
    sym (sym (ap (option_map (λ l. l.now.value)) c.in-Some.is) ∙ (c.newest.ensures ∙ ap (λ l. first_of (levels_of c.self.inside.count l)) same)) in
    subst (λ v. HoldsLevels (c.self.inside.count - 1) v.items c.less.result) (sym c.in_ok-clone-in-Some.ensures.cases)
    (rest-holds c.self.inside.count c.self.inside.size c.less.result items c.in-Some.level.now.value c.self.invariant first
    (c.less.ensures ∙ ap (λ v. c.self.inside.size - level_size v) c.as_ref.ensures))

pub returns-in_ok-clone-in-Some : goal.returns-in_ok-clone-in-Some
returns-in_ok-clone-in-Some c =
    let items = c.self.inside.levels.value.items in
    let same : c.as_slice.result.now ≡ items = c.as_slice.ensures.value ∙ ap (λ v. v.items) c.deref.ensures in
    let first : first_of (levels_of c.self.inside.count items) ≡ Some c.in-Some.level.now.value =
    sym (sym (ap (option_map (λ l. l.now.value)) c.in-Some.is) ∙ (c.newest.ensures ∙ ap (λ l. first_of (levels_of c.self.inside.count l)) same)) in
    ap (λ v. levels_of (c.self.inside.count - 1) v.items) c.in_ok-clone-in-Some.ensures.cases
    ∙ (sym (ap rest_of (levels-split c.self.inside.count items c.in-Some.level.now.value c.self.invariant.within first)) ∙ ap rest_of c.self.view_is)
