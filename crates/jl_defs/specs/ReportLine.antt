-- The line that the program says at its end (this project's own rules).
use Rattle.std.specs.Prelude.{if◌then◌else◌, ℕ, ◌==◌, Bool, true, false, [], ◌++◌, Option, Some, None, codes, decimal}
use Rattle.jl_model.specs.Codes.{code_name}
use Rattle.jl_model.specs.declared.codes.Code.{Code}
use Rattle.jl_defs.specs.Texts.{Text}
use Rattle.jl_defs.specs.Words.{Command, reads, writes, generates, tries_itself}

-- what a run answers
pub record Outcome : Type 0 where
  pub status : ℕ
  pub code : Option Code
  pub at : ℕ
  pub quads : ℕ
  pub peak : ℕ
  pub weight : ℕ
  pub limit : ℕ

abbrev pub said : Text → Text
said text = codes "jl: " ++ text ++ codes "\n"

abbrev pub wants_stats : Command → Bool
wants_stats (reads w) = w.stats
wants_stats writes = false
wants_stats (generates n) = false
wants_stats (tries_itself n) = false

abbrev pub stats_line : Outcome → Text
stats_line r = said (codes "quads " ++ decimal r.quads ++ codes " peak " ++ decimal r.peak)

abbrev pub fault_line : Option Code → ℕ → Text
fault_line None at = []
fault_line (Some code) at = said (code_name code ++ codes " at " ++ decimal at)

-- the line of a command's status; nothing for 0, but where its words ask for numbers
abbrev pub status_line : Command → Outcome → Text
status_line c r =
    if r.status == 0 then (if wants_stats c then stats_line r else [])
    else (if r.status == 1 then fault_line r.code r.at
    else (if r.status == 2 then said (codes "bad contexts list at " ++ decimal r.at)
    else (if r.status == 3 then said (codes "reading failed")
    else (if r.status == 4 then said (codes "writing failed")
    else (if r.status == 5 then said (codes "no memory")
    else (if r.status == 6 then said (codes "over limit, " ++ decimal r.weight ++ codes " of " ++ decimal r.limit)
    else (if r.status == 7 then said (codes "contexts failed")
    else (if r.status == 8 then said (codes "too long") else []))))))))

-- without a command the status is 2, or 5
abbrev pub no_command_line : Outcome → Text
no_command_line r = elim (r.status == 5) [ true ↦ said (codes "no memory") | false ↦ said (codes "bad words") ]

-- the line that is said for the words and the answer, perhaps none
unfoldable pub report : Option Command → Outcome → Text
report None r = no_command_line r
report (Some c) r = status_line c r
