-- What each answer of `run` says.
use Rattle.std.specs.Prelude.{◌≡◌, ◌⊎◌, ◌↔◌, ℕ, ◌^◌, ◌≤◌, ◌==◌, Bool, true, false, List, length, Option, Some, None, IfSome}
use Rattle.jl_model.specs.JsonTree.{Tree}
use Rattle.jl_model.specs.Causes.{HasCause, Rose}
use Rattle.jl_defs.specs.Faults.{AcceptsTree}
use Rattle.jl_defs.specs.OpenText.{ReadsAs}
use Rattle.jl_defs.specs.Settings.{Settings}
use Rattle.jl_defs.specs.Texts.{Text}
use Rattle.jl_engine.specs.Standing.{IsWithinStage}
use Rattle.jl_top.specs.Blocks.{CountsLines}
use Rattle.jl_top.specs.ConversionRuns.{ConversionAnswers}
use Rattle.jl_top.specs.Reports.{IsReport}
use Rattle.jl_top.specs.Runs.{SaysAllTaken, SureBeforePiece, ReadsWhole, HasFault, TakesTooMany, LinesAreSure}
use Rattle.jl_top.specs.Words.{settings_of, are_write, IsNoCommand}
use Rattle.jl_top.specs.declared.reports.Report.{Report}

-- nothing was taken and nothing put
pub record IsUntouched (taken_old taken_new left_old left_new put_old put_new : Option (List ℕ)) (ended_old ended_new : Bool) : Type 0 where
  pub taken : taken_new ≡ taken_old
  pub left : left_new ≡ left_old
  pub put : put_new ≡ put_old
  pub ended : ended_new ≡ ended_old

-- 0: the whole input was taken, it is an accepted document, and the lines put are those of its dataset
abbrev pub AnswersRead : Settings → Report → Option (List ℕ) → Option (List ℕ) → Option (List ℕ) → Option (List ℕ) → Type 0
AnswersRead s report taken left_old left_new put = report.status ≡ 0 → ReadsWhole s taken left_old left_new put

-- 1: the bytes taken have the fault of this code and place, and the lines put are all those before it
abbrev pub AnswersFault : Settings → Report → Option (List ℕ) → Option (List ℕ) → Option (List ℕ) → Option (List ℕ) → Bool → Type 0
AnswersFault s report taken left_old left_new put told_end =
    report.status ≡ 1 → IfSome report.code (λ code. HasFault s (record { code = code; at = report.at }) taken left_old left_new put told_end)

-- 3: the lines put are all those of the bytes taken before the failure
abbrev pub AnswersTaken : Settings → Report → Option (List ℕ) → Option (List ℕ) → Option (List ℕ) → Option (List ℕ) → Type 0
AnswersTaken s report taken left_old left_new put = report.status ≡ 3 → SaysAllTaken s taken left_old left_new put

-- 5: the lines put are sure by what was taken before the last piece, at the least
abbrev pub AnswersMemory : Settings → Report → Option (List ℕ) → Option (List ℕ) → Option (List ℕ) → Option (List ℕ) → Type 0
AnswersMemory s report taken left_old left_new put = report.status ≡ 5 → SureBeforePiece s taken left_old left_new put

-- 3: taking failed; the count of its failures never falls
abbrev pub AnswersTaking : Report → ℕ → ℕ → Type 0
AnswersTaking report before now = HasCause before now (report.status ≡ 3)

-- 4: putting failed; the count of its failures never falls
abbrev pub AnswersWriting : Report → ℕ → ℕ → Type 0
AnswersWriting report before now = HasCause before now (report.status ≡ 4)

-- 8: more than 2^40 bytes were taken, and the lines put are all those of the first 2^40 or more
abbrev pub AnswersTooLong : Settings → Report → Option (List ℕ) → Option (List ℕ) → Option (List ℕ) → Option (List ℕ) → Type 0
AnswersTooLong s report taken left_old left_new put = report.status ≡ 8 → TakesTooMany s taken left_old left_new put

-- the bytes are an accepted document of the forms that are built
abbrev pub Accepts : Settings → List ℕ → Type 0
Accepts s bytes = (t : Tree) × ReadsAs bytes t × AcceptsTree s t × IsWithinStage s t

-- an accepted document that isn't too long is read, unless a call of the port fails or there is no more memory
abbrev pub IsComplete : Settings → Report → Option (List ℕ) → ℕ → ℕ → ℕ → ℕ → Type 0
IsComplete s report left takes_old takes_new puts_old puts_new =
    (bytes : List ℕ) → left ≡ Some bytes → Accepts s bytes → length bytes ≤ 2 ^ 40 → (Rose takes_old takes_new → ⊥) → (Rose puts_old puts_new → ⊥) → (report.status ≡ 0) ⊎ (report.status ≡ 5)

-- the bytes put are lines of quads that are of the dataset of each accepted document which begins with the bytes taken; the last one is cut only with status 4
abbrev pub PutsSureLines : Settings → Report → Option (List ℕ) → Option (List ℕ) → Option (List ℕ) → Option (List ℕ) → Type 0
PutsSureLines s report taken left_old left_new put = LinesAreSure s (report.status == 4) taken left_old left_new put

-- all of these, for the words, the report and the port before and after
pub record RunAnswers (given : List Text) (answer : Report) (taken_old taken_new left_old left_new put_old put_new : Option (List ℕ)) (ended_old ended_new : Bool) (takes_old takes_new puts_old puts_new : ℕ) : Type 0 where
  pub words : (answer.status ≡ 2) ↔ IsNoCommand given
  pub untouched : IsNoCommand given → IsUntouched taken_old taken_new left_old left_new put_old put_new ended_old ended_new
  pub read : IfSome (settings_of given) (λ s. AnswersRead s answer taken_new left_old left_new put_new)
  pub ended : answer.status ≡ 0 → ended_new ≡ true
  pub fault : IfSome (settings_of given) (λ s. AnswersFault s answer taken_new left_old left_new put_new ended_new)
  pub taking : AnswersTaking answer takes_old takes_new
  pub writing : AnswersWriting answer puts_old puts_new
  pub taken : IfSome (settings_of given) (λ s. AnswersTaken s answer taken_new left_old left_new put_new)
  pub too_long : IfSome (settings_of given) (λ s. AnswersTooLong s answer taken_new left_old left_new put_new)
  pub memory : IfSome (settings_of given) (λ s. AnswersMemory s answer taken_new left_old left_new put_new)
  pub complete : IfSome (settings_of given) (λ s. IsComplete s answer left_old takes_old takes_new puts_old puts_new)
  pub lines : IfSome (settings_of given) (λ s. PutsSureLines s answer taken_new left_old left_new put_new)
  pub write : are_write given ≡ true → ConversionAnswers answer taken_new left_old left_new put_new ended_new takes_old takes_new puts_old puts_new
  pub quads : are_write given ≡ false → CountsLines put_new answer.quads
  pub report : IsReport answer
