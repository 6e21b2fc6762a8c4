-- Where a run goes, its quads are the dataset.
use Rattle.std.proofs.Common.{◌≡◌, sym, ◌∙◌, ap, subst, List, [], Ok, Err}
use Rattle.jl_model.specs.JsonTree.{Tree}
use Rattle.jl_model.specs.Parts.{Parts}
use Rattle.jl_defs.specs.Sets.{SameSet}
use Rattle.jl_defs.specs.Dataset.{dataset}
use Rattle.jl_defs.specs.Faults.{faults}
use Rattle.jl_defs.specs.Settings.{Settings}
use Rattle.jl_laws.specs.Says.{says, root_spot}
use Rattle.jl_laws.proofs.Counting.{same-set}
use Rattle.jl_laws.proofs.Equality.{parts_eq}
use Rattle.jl_laws.proofs.Frames.{says-dataset}
use Rattle.jl_walk.specs.Stage.{document_forms}
use Rattle.jl_walk.specs.Frames.{Frame}
use Rattle.jl_walk.specs.Steps.{Step}
use Rattle.jl_walk.specs.Feeding.{feed, start}
use Rattle.jl_walk.specs.Events.{tree_events}
use Rattle.jl_walk.specs.States.{State, at, Go}
use Rattle.jl_walk.specs.Running.{run}
use Rattle.jl_walk.specs.Laws.{finished, Runs, goes, stops, Reads, reads, refuses, IsRead, FeedsDataset, ReadsDataset}
use Rattle.jl_walk.proofs.Walking.{walk-says}
use Rattle.jl_walk.proofs.Reading.{read-says}
use Rattle.jl_walk.proofs.Parting.{quads_of}

says-set : (s : Settings) (t : Tree) → SameSet (says s (root_spot s) t) (dataset s t)
says-set s t = same-set parts_eq (says s (root_spot s) t) (dataset s t) (λ f. says-dataset f s t)

abbrev pub step_quads : Step → List Parts
step_quads (Ok (q, k)) = q
step_quads (Err f) = []

fed-is : (s : Settings) (t : Tree) (q : List Parts) (k : List Frame) (r : Step) → Runs (faults s t) (document_forms s t) r (says s (root_spot s) t) (finished s t) → r ≡ Ok (q, k) → IsRead s t q
fed-is s t q k r (goes a b e) h =
    record { accepted = a; built = b; quads_are = subst (λ x. SameSet x (dataset s t)) (ap step_quads (sym e ∙ h)) (says-set s t) }
fed-is s t q k r (stops f c e) h = absurd (let z : Err f ≡ Ok (q, k) = sym e ∙ h in cc)

read-is : (s : Settings) (t : Tree) (q : List Parts) (z : State) (r : Go) → Reads (faults s t) (document_forms s t) r (says s (root_spot s) t) (finished s t) → r ≡ Ok (q, z) → IsRead s t q
read-is s t q z r (reads a b e) h =
    record { accepted = a; built = b; quads_are = subst (λ x. SameSet x (dataset s t)) (ap quads_of (sym e ∙ h)) (says-set s t) }
read-is s t q z r (refuses f c e) h = absurd (let y : Err f ≡ Ok (q, z) = sym e ∙ h in cc)

pub feeds-dataset : FeedsDataset
feeds-dataset s t q k h = fed-is s t q k (feed s t (start s)) (walk-says s t) h

pub reads-dataset : ReadsDataset
reads-dataset s t q z e h = read-is s t q z (run s (tree_events t []) (at (start s))) (read-says s t e) h
