-- Entries as the definitions have them.
use Rattle.std.specs.Prelude.{◌≡◌, Result, Err, option_map}
use Rattle.std.specs.Option.{option_copied}
use Rattle.jl_model.specs.JsonView.{tree_of}
use Rattle.jl_model.specs.declared.codes.Code.{Code}
use Rattle.jl_model.specs.declared.term_parts.LangEntry.{LangEntry}
use Rattle.jl_model.specs.declared.term_parts.LangEntry.TheVariants as lang
use Rattle.jl_defs.specs.TermEntry as spec
use Rattle.jl_terms.specs.Seen.{seen}
use Rattle.jl_terms.specs.declared.values.Nullable.{Nullable}
use Rattle.jl_terms.specs.declared.values.Nullable.TheVariants as lent
use Rattle.jl_terms.specs.declared.checks.EntryView.{EntryView}
use Rattle.jl_terms.specs.declared.entries.RawEntry.{RawEntry}
use Rattle.jl_terms.specs.declared.entries.TermStop.{TermStop}
use Rattle.jl_terms.specs.declared.entries.TermStop.TheVariants as stop

-- an entry that may be absent, null or a text
abbrev pub lang_of : Nullable → LangEntry
lang_of lent.Absent = lang.Absent
lang_of lent.Null = lang.Null
lang_of (lent.Tag text) = lang.Tag text.now

-- an entry whose texts are lent
abbrev pub entry_of : EntryView → spec.RawEntry
entry_of e = record {
  ignored = e.ignored;
  simple = e.simple;
  id = lang_of e.id;
  reverse = option_copied e.reverse;
  kind = option_copied e.kind;
  containers = e.containers;
  index = option_copied e.index;
  local = seen e.local;
  language = lang_of e.language;
  direction = e.direction;
  nest = option_copied e.nest;
  prefix = e.prefix;
  protected = e.protected;
}

-- an entry with texts of its own
abbrev pub raw_of : RawEntry → spec.RawEntry
raw_of e = record {
  ignored = e.ignored;
  simple = e.simple;
  id = e.id;
  reverse = e.reverse;
  kind = e.kind;
  containers = e.containers;
  index = e.index;
  local = option_map tree_of e.local;
  language = e.language;
  direction = e.direction;
  nest = e.nest;
  prefix = e.prefix;
  protected = e.protected;
}

-- a code comes where the definition has it
abbrev pub Refuses : TermStop → Result spec.RawEntry Code → Type 0
Refuses (stop.Code code) answer = answer ≡ Err code
Refuses stop.NoMemory answer = Unit {0}
