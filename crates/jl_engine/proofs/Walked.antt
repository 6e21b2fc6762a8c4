-- The reader goes over events as the walk does: it brings the well-formed ones of the walk's quads, or stops at the same fault.
use Rattle.std.proofs.Common.{◌≡◌, refl, sym, ◌∙◌, ap, subst, List, [], ◌∷◌, ◌++◌, Ok, Err}
use Rattle.std.proofs.lemmas.List.Elements.{filter-append}
use Rattle.jl_model.specs.Parts.{Parts}
use Rattle.jl_model.specs.declared.faults.Fault.{Fault}
use Rattle.jl_model.specs.declared.orders.Order.TheVariants.{Streaming}
use Rattle.jl_defs.specs.Context.{initial}
use Rattle.jl_defs.specs.Settings.{Settings}
use Rattle.jl_frames.specs.Formed.{is_formed, formed}
use Rattle.jl_walk.specs.Running as walk
use Rattle.jl_walk.specs.States as walk_states
use Rattle.jl_walk.specs.States.{State, Go, then_go}
use Rattle.jl_engine.specs.Keeping.{Keeps, Agrees, StepsKeep}
use Rattle.jl_engine.specs.Reading.{Read, before, then_reads, step, steps}
use Rattle.jl_engine.specs.TreeEvents.{walked, all_walked}
use Rattle.jl_engine.specs.declared.events.Event.{Event}
use Rattle.jl_engine.specs.declared.readers.Reader.{Reader}
use Rattle.jl_engine.proofs.Continuing.{AllFit}

pub formed-append : (xs ys : List Parts) → formed (xs ++ ys) ≡ formed xs ++ formed ys
formed-append xs ys = filter-append is_formed xs ys

-- what both bring comes after what both brought
agree-behind : (s : Settings) (q : List Parts) (g : Go) (t : Read) → Agrees s g t → Agrees s (walk_states.before q g) (before (formed q) t)
agree-behind s q (Ok (p, y)) t (r, (e, k)) = (r, (ap (before (formed q)) e ∙ ap (λ x. Ok (x, r)) (sym (formed-append q p)), k))
agree-behind s q (Err f) t e = ap (before (formed q)) e

-- one step of both, and then the others
agree-then : (s : Settings) (g : Go) (t : Read) (next : State → Go) (more : Reader → Read) → Agrees s g t →
    ((q : List Parts) (y : State) (n : Reader) → g ≡ Ok (q, y) → Keeps s y n → Agrees s (next y) (more n)) → Agrees s (then_go g next) (then_reads t more)
agree-then s (Ok (q, y)) t next more (n, (e, k)) h =
    subst (λ x. Agrees s (walk_states.before q (next y)) (then_reads x more)) (sym e) (agree-behind s q (next y) (more n) (h q y n refl k))
agree-then s (Err f) t next more e h = ap (λ x. then_reads x more) e

-- events that fit one after another
pub all-agree : StepsKeep → (s : Settings) (es : List Event) (z : State) (r : Reader) → s.order ≡ Streaming → Keeps s z r → AllFit s (all_walked es) z → Agrees s (walk.run s (all_walked es) z) (steps (initial s.base) es r)
unfolding walk.run steps
all-agree keep s [] z r o k f = (r, (refl, k))
all-agree keep s (e ∷ es) z r o k f =
    agree-then s (walk.step s (walked e) z) (step (initial s.base) e r) (walk.run s (all_walked es)) (steps (initial s.base) es) (keep s e z r o k f.0)
    (λ q y n h m. all-agree keep s es y n o m (f.1 q y h))

-- ---- what the reader tells of the walk

-- the walk goes to a state that the reader keeps
pub record Goes (s : Settings) (g : Go) (quads : List Parts) (r : Reader) : Type 0 where
  pub said : List Parts
  pub state : State
  pub goes : g ≡ Ok (said, state)
  pub quads_are : quads ≡ formed said
  pub keeps : Keeps s state r

pub reader-goes : (s : Settings) (g : Go) (t : Read) (quads : List Parts) (r : Reader) → Agrees s g t → t ≡ Ok (quads, r) → Goes s g quads r
reader-goes s (Ok (q, z)) t quads r (n, (e, k)) h =
    let same : ◌≡◌ {A = List Parts × Reader} (formed q, n) (quads, r) = pair (sym e ∙ h) in
    record { said = q; state = z; goes = refl; quads_are = sym (ap (λ x. x.0) same); keeps = subst (Keeps s z) (ap (λ x. x.1) same) k }
  where
    pair : ◌≡◌ {A = Read} (Ok (formed q, n)) (Ok (quads, r)) → ◌≡◌ {A = List Parts × Reader} (formed q, n) (quads, r)
    pair x = cc
reader-goes s (Err f) t quads r e h = absurd (let x : ◌≡◌ {A = Read} (Err f) (Ok (quads, r)) = sym e ∙ h in cc)

pub reader-stops : (s : Settings) (g : Go) (t : Read) (f : Fault) → Agrees s g t → t ≡ Err f → g ≡ Err f
reader-stops s (Ok (q, z)) t f (n, (e, k)) h = absurd (let x : ◌≡◌ {A = Read} (Ok (formed q, n)) (Err f) = sym e ∙ h in cc)
reader-stops s (Err g) t f e h = ap (λ x. Err x) (fault (sym e ∙ h))
  where
    fault : ◌≡◌ {A = Read} (Err g) (Err f) → g ≡ f
    fault x = cc
