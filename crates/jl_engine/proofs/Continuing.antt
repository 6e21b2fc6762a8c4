-- What the tokens read so far bring, and what those of each readable text bring that begins with them.
use Rattle.std.proofs.Common.{ℕ, ◌≡◌, sym, ◌∙◌, ap, List, [], ◌∷◌, ◌++◌, Ok, Err, append_assoc}
use Rattle.jl_model.specs.Parts.{Parts}
use Rattle.jl_model.specs.JsonTree.{Tree}
use Rattle.jl_model.specs.declared.faults.Fault.{Fault}
use Rattle.jl_model.specs.declared.orders.Order.TheVariants.{Streaming}
use Rattle.jl_model.specs.declared.tokens.Token.{Token}
use Rattle.jl_token.specs.Lexed.{IsFront}
use Rattle.jl_defs.specs.Settings.{Settings}
use Rattle.jl_defs.specs.OpenText.{ReadsAs}
use Rattle.jl_walk.specs.Events.{Event, tree_events}
use Rattle.jl_walk.specs.Feeding.{start}
use Rattle.jl_walk.specs.Fits.{Fits}
use Rattle.jl_walk.specs.Running.{step, run}
use Rattle.jl_walk.specs.States.{State, at, Go, before, then_go}
use Rattle.jl_walk.proofs.Parting.{run-parts}
use Rattle.jl_engine.proofs.TokensOfTrees.{walk_events, walk-append, read-events}

-- what the walk does over the events of tokens
abbrev pub walk_of : Settings → List Token → Go
walk_of s tokens = run s (walk_events tokens) (at (start s))

-- tokens, and then more of them
walk-grows : (s : Settings) (given more : List Token) (q : List Parts) (z : State) → walk_of s given ≡ Ok (q, z) → walk_of s (given ++ more) ≡ before q (run s (walk_events more) z)
walk-grows s given more q z e =
    ap (λ es. run s es (at (start s))) (walk-append given more)
    ∙ (run-parts s (walk_events given) (walk_events more) (at (start s)) ∙ ap (λ g. then_go g (run s (walk_events more))) e)

pub walk-more : (s : Settings) (given more : List Token) (q p : List Parts) (z y : State) → walk_of s given ≡ Ok (q, z) → run s (walk_events more) z ≡ Ok (p, y) → walk_of s (given ++ more) ≡ Ok (q ++ p, y)
walk-more s given more q p z y e h = walk-grows s given more q z e ∙ ap (before q) h

pub walk-stops : (s : Settings) (given more : List Token) (q : List Parts) (z : State) (f : Fault) → walk_of s given ≡ Ok (q, z) → run s (walk_events more) z ≡ Err f → walk_of s (given ++ more) ≡ Err f
walk-stops s given more q z f e h = walk-grows s given more q z e ∙ ap (before q) h

-- ---- whole texts

-- the events of each readable text that begins with the bytes begin with those of the tokens given for them
pub record GoesOn (given : List Token) (t : Tree) : Type 0 where
  pub more : List Event
  pub events_are : tree_events t [] ≡ walk_events given ++ more

pub goes-on : (p : List ℕ) (given : List Token) → IsFront 0 p given → (rest : List ℕ) (t : Tree) → ReadsAs (p ++ rest) t → GoesOn given t
goes-on p given front rest t r =
    let m = front.first rest t r.0 r.1 in
    record {
      more = walk_events m.0;
      events_are = sym (read-events 0 (p ++ rest) t r.0 r.1) ∙ (ap walk_events m.1 ∙ walk-append given m.0);
    }

-- ---- events that fit

-- an event fits where the events before it have gone
abbrev pub EventsFit : Type 0
EventsFit =
    (s : Settings) (t : Tree) (es more : List Event) (e : Event) (q : List Parts) (z : State) → s.order ≡ Streaming →
    tree_events t [] ≡ es ++ e ∷ more → run s es (at (start s)) ≡ Ok (q, z) → Fits z e

-- the events fit one after another, as long as they go
abbrev pub AllFit : Settings → List Event → State → Type 0
AllFit s [] z = Unit {0}
AllFit s (e ∷ es) z = Fits z e × ((q : List Parts) (y : State) → step s e z ≡ Ok (q, y) → AllFit s es y)

one-event : (s : Settings) (e : Event) (z y : State) (q : List Parts) → step s e z ≡ Ok (q, y) → run s (e ∷ []) z ≡ Ok (q ++ [], y)
unfolding run
one-event s e z y q h = ap (λ g. then_go g (run s [])) h

next-event : (s : Settings) (es : List Event) (e : Event) (q p : List Parts) (z y : State) → run s es (at (start s)) ≡ Ok (q, z) → step s e z ≡ Ok (p, y) → run s (es ++ e ∷ []) (at (start s)) ≡ Ok (q ++ (p ++ []), y)
next-event s es e q p z y r h =
    run-parts s es (e ∷ []) (at (start s)) ∙ (ap (λ g. then_go g (run s (e ∷ []))) r ∙ ap (before q) (one-event s e z y p h))

all-fit : EventsFit → (s : Settings) (t : Tree) (es fs more : List Event) (q : List Parts) (z : State) → s.order ≡ Streaming → tree_events t [] ≡ es ++ (fs ++ more) → run s es (at (start s)) ≡ Ok (q, z) → AllFit s fs z
all-fit fit s t es [] more q z o e r = tt
all-fit fit s t es (x ∷ fs) more q z o e r = (
  fit s t es (fs ++ more) x q z o e r,
  λ p y h. all-fit fit s t (es ++ x ∷ []) fs more (q ++ (p ++ [])) y o (e ∙ sym (append_assoc es (x ∷ []) (fs ++ more))) (next-event s es x q p z y r h),
)

-- the tokens of a byte, or of the end, where a readable text goes on behind them
pub tokens-fit : EventsFit → (s : Settings) (t : Tree) (given more : List Token) (q : List Parts) (z : State) → s.order ≡ Streaming → GoesOn (given ++ more) t → walk_of s given ≡ Ok (q, z) → AllFit s (walk_events more) z
tokens-fit fit s t given more q z o g r =
    all-fit fit s t (walk_events given) (walk_events more) g.more q z o
    (g.events_are ∙ (ap (λ es. es ++ g.more) (walk-append given more) ∙ append_assoc (walk_events given) (walk_events more) g.more)) r
