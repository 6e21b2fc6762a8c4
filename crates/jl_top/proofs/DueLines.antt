-- The lines of the quads that are due stand among those put.
use Rattle.std.proofs.Common.{◌≡◌, ℕ, inl, inr, List, [], ◌∷◌, ◌++◌, flat_map, refl, sym, ap, ◌∙◌, subst, append_assoc, append-nil, false, Option, Some}
use Rattle.std.specs.Option.{IfSome}
use Rattle.std.specs.Prelude.{codes}
use Rattle.jl_model.specs.Lines.{term_text, iri_text, graph_text, spaced, line}
use Rattle.jl_model.specs.Parts.{Parts}
use Rattle.jl_defs.specs.Settings.{Settings}
use Rattle.jl_defs.specs.Sets.{Has}
use Rattle.jl_engine.specs.Prompt.{MakeDue, HasDue}
use Rattle.jl_engine.specs.Standing.{Stands}
use Rattle.jl_engine.specs.declared.engines.EngineState.{EngineState}
use Rattle.jl_nquads.specs.LineOuts.{TellsLines}
use Rattle.jl_top.specs.Promptness.{IsLineStart, HasLine, DueStand, Grants}
use Rattle.jl_top.specs.Runs.{Going}
use Rattle.jl_top.specs.Words.{settings_with}
use Rattle.jl_top.specs.declared.blocks.Block.{Block}

ends_so : (xs ys zs : List ℕ) → (front : List ℕ) × (ys ≡ front ++ zs) → (front : List ℕ) × (xs ++ ys ≡ front ++ zs)
ends_so xs ys zs (front, e) = (xs ++ front, ap (λ t. xs ++ t) e ∙ sym (append_assoc xs front zs))

-- a line ends with a line feed
line_ends : (q : Parts) → (front : List ℕ) × (line q ≡ front ++ 10 ∷ [])
line_ends q = ends_so (spaced (term_text q.subject) ++ spaced (iri_text q.predicate) ++ spaced (term_text q.object) ++ graph_text q.graph) (codes ".\n") (10 ∷ []) (codes ".", refl)

starts_behind : (q : Parts) (before : List ℕ) → IsLineStart before → IsLineStart (line q ++ before)
starts_behind q before (inl e) = let l = line_ends q in inr (l.0, ap (λ t. line q ++ t) e ∙ append-nil (line q) ∙ l.1)
starts_behind q before (inr (front, e)) = inr (line q ++ front, ap (λ t. line q ++ t) e ∙ sym (append_assoc (line q) front (10 ∷ [])))

-- among the lines of some quads stands that of each of them
pub lines_have : (qs : List Parts) (q : Parts) → Has qs q → HasLine (flat_map line qs) (line q)
lines_have [] q h = absurd h
lines_have (x ∷ xs) q (inl e) = record { before = []; behind = flat_map line xs; put_is = ap (λ t. line t ++ flat_map line xs) e; starts = inl refl }
lines_have (x ∷ xs) q (inr h) =
    let r = lines_have xs q h in
    record {
      before = line x ++ r.before;
      behind = r.behind;
      put_is = ap (λ t. line x ++ t) r.put_is ∙ sym (append_assoc (line x) r.before (line q ++ r.behind));
      starts = starts_behind x r.before r.starts;
    }

-- what the loop has put has all that is due for what it has taken
pub going_due : (e0 e1 : EngineState) (block : Block) (t l0 l1 w : Option (List ℕ)) (count : ℕ) (s : Settings) → ((bytes : List ℕ) (quads : List Parts) → Stands s bytes quads e1 → HasDue s bytes quads) →
    (g : Going e0 e1 block t l0 l1 w count) → Stands s [] [] e0 → (taken put : List ℕ) → t ≡ Some taken → w ≡ Some put → DueStand s taken put
going_due e0 e1 block t l0 l1 w count s law g start taken put e f = λ q d.
    let p = g.puts s start in
    let same : taken ≡ g.bytes = subst (λ x. IfSome x (λ told. told ≡ g.bytes)) e g.took.taken_is in
    let lines : put ≡ flat_map line p.quads = subst (λ x. IfSome x (TellsLines false p.quads)) f p.lines in
    subst (λ x. HasLine x (line q)) (sym lines) (lines_have p.quads q (law g.bytes p.quads p.stands q (subst (λ b. MakeDue s b q) same d)))

-- what is granted for the words is granted for their settings
pub granted : (settings : Option Settings) (base : Option (List ℕ)) (may_take : List ℕ → List ℕ → Type 0) → Some (settings_with base) ≡ settings → IfSome settings (λ s. Grants s may_take) → Grants (settings_with base) may_take
granted settings base may_take e h = subst (λ x. IfSome x (λ s. Grants s may_take)) (sym e) h
