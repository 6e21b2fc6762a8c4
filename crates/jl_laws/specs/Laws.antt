-- The laws, as statements.
use Rattle.std.specs.Prelude.{ℕ, ◌≡◌, List, ◌++◌}
use Rattle.jl_model.specs.JsonTree.{Tree, object, Members}
use Rattle.jl_model.specs.Parts.{Parts}
use Rattle.jl_model.specs.declared.codes.Code.TheVariants.{NotYet}
use Rattle.jl_model.specs.declared.faults.Fault.{Fault}
use Rattle.jl_model.specs.declared.orders.Order.TheVariants.{Streaming}
use Rattle.jl_defs.specs.Settings.{Settings}
use Rattle.jl_defs.specs.Sets.{Has, IsWithin, SameSet}
use Rattle.jl_defs.specs.Dataset.{dataset}
use Rattle.jl_defs.specs.Faults.{faults}
use Rattle.jl_defs.specs.OpenTree.{Open, Extends}
use Rattle.jl_defs.specs.OpenText.{ReadsAs}
use Rattle.jl_defs.specs.Reported.{reported}
use Rattle.jl_defs.specs.Documents.{IsReported}
use Rattle.jl_laws.specs.Spots.{Spot}
use Rattle.jl_laws.specs.Says.{says, root_spot}
use Rattle.jl_laws.specs.Reordering.{Reordered, HasNamesOnce, IsFaultless, AreReadAlike}

-- in streaming order a fault that is reported for what has been read is a fault of every tree that goes on from it
abbrev pub FaultsStayBy : (Settings → Open → List Fault) → Type 0
FaultsStayBy reports = (s : Settings) (o : Open) (t : Tree) → s.order ≡ Streaming → Extends o t → IsWithin (reports s o) (faults s t)

abbrev pub FaultsStay : Type 0
FaultsStay = FaultsStayBy reported

-- the same of bytes: a fault that is reported for the first bytes of a readable text is a fault of that text
abbrev pub FaultsStayInBytesBy : (Settings → List ℕ → Fault → Type 0) → Type 0
FaultsStayInBytesBy reports =
    (s : Settings) (front rest : List ℕ) (f : Fault) (t : Tree) → s.order ≡ Streaming → reports s front f → ReadsAs (front ++ rest) t → Has (faults s t) f

abbrev pub FaultsStayInBytes : Type 0
FaultsStayInBytes = FaultsStayInBytesBy IsReported

-- what a walk over a document says is its dataset
abbrev pub SaysDatasetBy : (Settings → Spot → Tree → List Parts) → Type 0
SaysDatasetBy walk = (s : Settings) (t : Tree) → SameSet (walk s (root_spot s) t) (dataset s t)

abbrev pub SaysDataset : Type 0
SaysDataset = SaysDatasetBy says

-- the order of an object's members doesn't change what it says, where neither order has faults
abbrev pub MembersMoveBy : (Settings → Spot → Tree → List Parts) → Type 0
MembersMoveBy walk =
    (s : Settings) (p : Spot) (at : ℕ) (ms ns : Members) → Reordered ms ns → HasNamesOnce ns → AreReadAlike s p at ms ns →
    IsFaultless s p (object at ms) → IsFaultless s p (object at ns) → SameSet (walk s p (object at ms)) (walk s p (object at ns))

abbrev pub MembersMove : Type 0
MembersMove = MembersMoveBy says

-- no fault of a document is a form that isn't built
abbrev pub FaultsAreBuiltBy : (Settings → Tree → List Fault) → Type 0
FaultsAreBuiltBy tells = (s : Settings) (t : Tree) (f : Fault) → Has (tells s t) f → f.code ≡ NotYet → ⊥

abbrev pub FaultsAreBuilt : Type 0
FaultsAreBuilt = FaultsAreBuiltBy faults
