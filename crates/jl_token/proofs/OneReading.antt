-- A text has one reading.
use Rattle.std.proofs.Common.{◌≡◌, ℕ, true, List, [], ◌∷◌, ◌++◌, refl, sym, ap, ◌∙◌, subst, Result, Ok, Err, append_assoc, append-nil}
use Rattle.jl_model.specs.declared.faults.Fault.{Fault}
use Rattle.jl_model.specs.declared.tokens.Token.{Token}
use Rattle.jl_model.specs.JsonTree.{Tree}
use Rattle.jl_model.specs.JsonText.{Reads, Begins, depth_limit}
use Rattle.jl_token.specs.declared.readings.Reading.{Reading}
use Rattle.jl_token.specs.Machine.{Moved, moved, first}
use Rattle.jl_token.specs.Stands.{IsAt}
use Rattle.jl_token.proofs.OneTree.{one_tree}
use Rattle.jl_token.proofs.OneByte.{new_is_at, step_is_at, step_breaks, end_only}

module _ (start : ℕ) where
  -- a front of what begins a readable text begins one
  pub shorter : (p : List ℕ) (c : ℕ) (b : List ℕ) → Begins start (p ++ c ∷ b) → Begins start (p ++ c ∷ [])
  shorter p c b h = (b ++ h.0, h.1, h.2, subst (λ x. Reads start x h.1 h.2) (append_assoc p (c ∷ b) h.0 ∙ sym (append_assoc p (c ∷ []) (b ++ h.0))) h.3)

  -- behind each text that begins a readable one the automaton stands somewhere
  pub reached : (b p : List ℕ) (given : List Token) (s : Reading) → IsAt start p given s → Begins start (p ++ b) → (all : List Token) × (t : Reading) × IsAt start (p ++ b) all t
  reached [] p given s h g = (given, s, subst (λ x. IsAt start x given s) (sym (append-nil p)) h)
  reached (c ∷ b) p given s h g = go (moved true depth_limit s c) refl (λ (m : List Token × Reading) k. reached b (p ++ c ∷ []) (given ++ m.0) m.1 k (subst (Begins start) (sym (append_assoc p (c ∷ []) b)) g))
    where
      go : (x : Moved) → moved true depth_limit s c ≡ x → ((m : List Token × Reading) → IsAt start (p ++ c ∷ []) (given ++ m.0) m.1 → (all : List Token) × (t : Reading) × IsAt start ((p ++ c ∷ []) ++ b) all t) → (all : List Token) × (t : Reading) × IsAt start (p ++ c ∷ b) all t
      go (Ok m) e again = let r = again m (step_is_at start p given s c h m e) in (r.0, r.1, subst (λ x. IsAt start x r.0 r.1) (append_assoc p (c ∷ []) b) r.2)
      go (Err f) e again = absurd ((step_breaks start p given s c h f e).breaks (shorter p c b g))

  same_ok : (a b : List Token) → ◌≡◌ {A = Result (List Token) Fault} (Ok a) (Ok b) → a ≡ b
  same_ok a b e = cc

  -- two readings have the same tokens
  same_tokens : (b : List ℕ) (tree other : Tree) (us vs : List Token) → Reads start b tree us → Reads start b other vs → us ≡ vs
  same_tokens b tree other us vs g h =
      let r = reached b [] [] (first start) (new_is_at start) ([], tree, us, subst (λ x. Reads start x tree us) (sym (append-nil b)) g) in
      let x = end_only start b r.0 r.1 r.2 tree us g in
      let y = end_only start b r.0 r.1 r.2 other vs h in
      x.2 ∙ ap (λ z. r.0 ++ z) (same_ok x.0 y.0 (sym x.1 ∙ y.1)) ∙ sym y.2

  pub one_reading : (b : List ℕ) (tree other : Tree) (us vs : List Token) → Reads start b tree us → Reads start b other vs → (tree ≡ other) × (us ≡ vs)
  one_reading b tree other us vs g h =
      let e = same_tokens b tree other us vs g h in
      (one_tree true depth_limit start b b tree other vs (subst (λ x. Reads start b tree x) e g) h, e)
