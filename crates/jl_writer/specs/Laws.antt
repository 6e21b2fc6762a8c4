-- What is said of the writer's text, as a statement: it reads back.
use Rattle.std.specs.Prelude.{List, [], map, None}
use Rattle.std.specs.List.{AllByRecursion}
use Rattle.jl_model.specs.JsonTree.{Tree}
use Rattle.jl_model.specs.Parts.{Parts, AreWellFormed}
use Rattle.jl_model.specs.declared.orders.Order.TheVariants.{Streaming}
use Rattle.jl_defs.specs.Texts.{Text}
use Rattle.jl_defs.specs.Settings.{Settings}
use Rattle.jl_defs.specs.OpenText.{ReadsAs}
use Rattle.jl_defs.specs.Documents.{Accepts, IsDataset, InForm}
use Rattle.jl_defs.specs.WriterText.{writer_text}
use Rattle.jl_nquads.specs.Renamed.{renamed}

-- streaming order, no base, and no contexts that are handed in
abbrev pub streaming : Settings
streaming = record { order = Streaming; base = None; library = [] }

-- the text can be read, and is in the streaming form
abbrev pub IsInForm : Settings → Text → Type 0
IsInForm s text = (t : Tree) × ReadsAs text t × InForm s t

-- the text can be read, is in the streaming form and accepted, and these quads are its dataset
pub record ReadsBack (text : Text) (quads : List Parts) : Type 0 where
  pub in_form : IsInForm streaming text
  pub accepted : Accepts streaming text
  pub dataset : IsDataset streaming text quads

-- what is written of well-formed quads reads back as these quads, with their labels renamed
abbrev pub TextReadsBackBy : (List Parts → Text) → Type 0
TextReadsBackBy write = (quads : List Parts) → AllByRecursion AreWellFormed quads → ReadsBack (write quads) (map renamed quads)

abbrev pub TextReadsBack : Type 0
TextReadsBack = TextReadsBackBy writer_text
