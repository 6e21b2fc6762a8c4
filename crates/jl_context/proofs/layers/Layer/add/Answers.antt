use Rattle.std.proofs.Common.{◌≡◌, Option, Some, None, sym, ap, ◌∙◌, is_some, subst, refl}
use Rattle.std.specs.Option.{option_copied}
use denote.Ref.{Bor}
use Rattle.jl_context.specs.Layers.{slots_of, seen, Changes}
use Rattle.jl_context.proofs.Bools.{on-ok}
use Rattle.jl_context.proofs.LayerLemmas.{adds-nothing, adds-change}
use Rattle.jl_context.proofs.layers.Layer.add.Goals as goal

copied-some : {T : Type 0} (r : Option (Bor T)) → is_some (option_copied r) ≡ is_some r
copied-some None = refl
copied-some (Some x) = refl

pub returns-then-known : goal.returns-then-known
returns-then-known c =
    adds-nothing (slots_of c.args.self.now) c.args.name.now (seen c.args.value.now)
    (ap is_some (sym c.slot.ensures) ∙ (copied-some c.slot.result ∙ (sym c.is_some-known.ensures ∙ c.if-known.true)))

pub returns : goal.returns
returns c =
    on-ok c.set.result c.set.ensures.ok (λ h.
    adds-change (slots_of c.args.self.now) (slots_of c.set.new.self) c.args.name.now (seen c.args.value.now)
    (ap is_some (sym c.slot.ensures) ∙ (copied-some c.slot.result ∙ (sym c.is_some-known.ensures ∙ c.if-known.false)))
    (subst (λ t. Changes (slots_of c.args.self.now) c.args.name.now t (slots_of c.set.new.self)) c.in_ok-value.ensures
    (subst (λ n. Changes (slots_of c.args.self.now) n (seen c.in_ok-value.value) (slots_of c.set.new.self)) c.in_ok-key.ensures.items h)))
