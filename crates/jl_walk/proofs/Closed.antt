-- Closed items and closed members have put what `says` says of them.
use Rattle.std.proofs.Common.{ℕ, ◌≡◌, ◌∙◌, ap, false, List, [], ◌∷◌, Ok}
use Rattle.jl_model.specs.JsonTree.{Members, no_member, member}
use Rattle.jl_model.specs.Parts.{Parts}
use Rattle.jl_model.specs.declared.faults.Fault.{Fault}
use Rattle.jl_defs.specs.ObjectContexts.{Inside}
use Rattle.jl_defs.specs.ValueObjects.{is_json}
use Rattle.jl_walk.specs.Phases.{Phase, follow, past}
use Rattle.jl_walk.specs.Frames.{Frame, values, object as object_frame}
use Rattle.jl_walk.specs.Steps.{Step}
use Rattle.jl_walk.specs.States.{from, at}
use Rattle.jl_walk.specs.Running.{run}
use Rattle.jl_walk.specs.Laws.{Runs, goes, stops}
use Rattle.jl_walk.specs.Closed.{ItemsPut, MembersPut}
use Rattle.jl_walk.proofs.Members.{NoJson, NeverJson, after_members}
use Rattle.jl_walk.proofs.Closing.{object-closes, subject-end, scope-end}
use Rattle.jl_walk.proofs.Ends.{all-fine, entries-end}
use Rattle.jl_walk.proofs.Runs.{left-nil}
use Rattle.jl_walk.proofs.Cutting.{cut-items, cut-members}
use Rattle.jl_walk.proofs.Walking.{trees-run, members-run}
use Rattle.jl_walk.proofs.Parting.{no-cause}

-- a run without faults goes
pub it-goes : (fs : List Fault) (ps : List ℕ) (r : Step) (q : List Parts) (k : List Frame) → Runs fs ps r q k → fs ≡ [] → ps ≡ [] → r ≡ Ok (q, k)
it-goes fs ps r q k (goes a b e) x y = e
it-goes fs ps r q k (stops f b e) x y = absurd (no-cause fs ps f b x y)

quiet-json : (i : Inside) (ph : Phase) (ms : Members) → is_json i.input ≡ false → NoJson i ph ms
quiet-json i ph no_member e = tt
quiet-json i ph (member a n v rest) e = (λ t r. e, quiet-json i (past (follow ph i n) i n v) rest e)

pub items-put : ItemsPut
items-put s xs p k es e plain here a b =
    cut-items s e xs (values p ∷ k) es
    ∙ ap (λ r. from r (λ l. run s es (at l))) (it-goes _ _ _ _ _ (trees-run s (object-closes s) xs p k plain here) a b)

never-json : (i : Inside) (ms : Members) → is_json i.input ≡ false → NeverJson i ms
never-json i no_member e = tt
never-json i (member a n v rest) e = (λ t. e, never-json i rest e)

pub members-put : MembersPut
members-put s ms p i o k es stand all seen e json a b = (
  after_members s i ms o,
  record {
    same_subject = subject-end s i ms o;
    same_scope = scope-end s i ms o;
    more_entries = entries-end s i p.under ms o (all-fine s i p.under stand all seen ms o (never-json i ms json) b (left-nil _ _ a));
  },
  (cut-members s e ms).0 (object_frame p i o ∷ k) es
      ∙ ap (λ r. from r (λ l. run s es (at l))) (it-goes _ _ _ _ _ (members-run s (object-closes s) ms p i o k stand all seen (quiet-json i o.phase ms json)) a b),
)
