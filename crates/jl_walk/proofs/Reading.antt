-- Both laws together: what the events of a document bring.
use Rattle.std.proofs.Common.{ℕ, ◌≡◌, ◌∙◌, ap, List, [], Ok}
use Rattle.std.proofs.lemmas.List.{append-nil}
use Rattle.jl_model.specs.Parts.{Parts}
use Rattle.jl_model.specs.declared.faults.Fault.{Fault}
use Rattle.jl_defs.specs.Settings.{Settings}
use Rattle.jl_walk.specs.Frames.{Frame}
use Rattle.jl_walk.specs.Steps.{Step}
use Rattle.jl_walk.specs.Feeding.{feed, start}
use Rattle.jl_walk.specs.States.{at, Go, from}
use Rattle.jl_walk.specs.Running.{run}
use Rattle.jl_walk.specs.Laws.{finished, Runs, goes, stops, EventsCut, Reads, reads, refuses, ReadSays}
use Rattle.jl_walk.proofs.Cutting.{cut-tree}
use Rattle.jl_walk.proofs.Walking.{walk-says}

pub events-cut : EventsCut
events-cut s t k more e = cut-tree s e t k more

-- a run over a tree is one over its events
reads-by : (s : Settings) (fs : List Fault) (ps : List ℕ) (r : Step) (q : List Parts) (k : List Frame) (g : Go) → g ≡ from r (λ l. run s [] (at l)) →
    Runs fs ps r q k → Reads fs ps g q k
unfolding run
reads-by s fs ps r q k g e (goes a b h) = reads a b (e ∙ (ap (λ x. from x (λ l. Ok ([], at l))) h ∙ ap (λ x. Ok (x, at k)) (append-nil q)))
reads-by s fs ps r q k g e (stops f b h) = refuses f b (e ∙ ap (λ x. from x (λ l. Ok ([], at l))) h)

pub read-says : ReadSays
read-says s t e = reads-by s _ _ (feed s t (start s)) _ (finished s t) _ (events-cut s t (start s) [] e) (walk-says s t)
