-- What a run answers, and the line that it says.
use Rattle.std.specs.Prelude.{◌≡◌, ◌≢◌, ◌↔◌, ◌⊎◌, ℕ, ◌==◌, List, [], ◌++◌, Option, Some, None, IsSome, Result, Ok, Err, codes, decimal, if◌then◌else◌}
use Rattle.jl_model.specs.Codes.{code_name}
use Rattle.jl_model.specs.declared.codes.Code.{Code}
use Rattle.jl_top.specs.declared.reports.Report.{Report}
use Rattle.jl_top.specs.declared.stops.ReadStop.{ReadStop}
use Rattle.jl_top.specs.declared.stops.ReadStop.TheVariants.{Refused, TooLong, TakeFault, OutFault, NoMemory}

abbrev pub plain_report : ℕ → ℕ → Report
plain_report status quads = record { status = status; code = None; at = 0; quads = quads; peak = 0; weight = 0; limit = 0 }

abbrev pub fault_report : Code → ℕ → ℕ → Report
fault_report code at quads = record { status = 1; code = Some code; at = at; quads = quads; peak = 0; weight = 0; limit = 0 }

abbrev pub stop_report : ReadStop → ℕ → Report
stop_report (Refused fault) quads = fault_report fault.code fault.at quads
stop_report TooLong quads = plain_report 8 quads
stop_report TakeFault quads = plain_report 3 quads
stop_report OutFault quads = plain_report 4 quads
stop_report NoMemory quads = plain_report 5 quads

-- the report of a reading that put this number of lines
abbrev pub report_of : Result (Unit {0}) ReadStop → ℕ → Report
report_of (Ok u) quads = plain_report 0 quads
report_of (Err stop) quads = stop_report stop quads

-- the line of a fault: its code's name and its place
abbrev pub fault_line : Code → ℕ → List ℕ
fault_line code at = codes "jl: " ++ code_name code ++ codes " at " ++ decimal at ++ codes "\n"

-- the line of another status
abbrev pub status_line : ℕ → List ℕ
status_line status =
    if status == 0 then []
    else (if status == 2 then codes "jl: bad words\n"
    else (if status == 3 then codes "jl: reading failed\n"
    else (if status == 4 then codes "jl: writing failed\n"
    else (if status == 8 then codes "jl: too long\n"
    else codes "jl: no memory\n"))))

abbrev pub line_for : Option Code → ℕ → ℕ → List ℕ
line_for (Some code) status at = fault_line code at
line_for None status at = status_line status

-- what is said for a report
abbrev pub report_line : Report → List ℕ
report_line report = line_for report.code report.status report.at

-- the status is one of those of `read`
abbrev pub IsStatus : ℕ → Type 0
IsStatus status = (status ≡ 0) ⊎ ((status ≡ 1) ⊎ ((status ≡ 2) ⊎ ((status ≡ 3) ⊎ ((status ≡ 4) ⊎ ((status ≡ 5) ⊎ (status ≡ 8))))))

-- the fields of a report beside its status: a code and a place for a fault alone, and no weights
pub record IsReport (report : Report) : Type 0 where
  pub status : IsStatus report.status
  pub code : IsSome report.code ↔ (report.status ≡ 1)
  pub place : report.status ≢ 1 → report.at ≡ 0
  pub peak : report.peak ≡ 0
  pub weight : report.weight ≡ 0
  pub limit : report.limit ≡ 0
