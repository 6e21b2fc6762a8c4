-- The value of the type `TermDef` as a term definition.
use Rattle.std.specs.Prelude.{option_map}
use Rattle.jl_model.specs.JsonView.{tree_of}
use Rattle.jl_model.specs.declared.term_defs.Scoped as rust_scoped
use Rattle.jl_model.specs.declared.term_defs.TermDef as rust
use Rattle.jl_defs.specs.Context.{Scoped, TermDef}

abbrev pub scoped_of : rust_scoped.Scoped → Scoped
scoped_of s = record { local = tree_of s.local; base = s.base }

abbrev pub term_of : rust.TermDef → TermDef
term_of d = record {
  mapping = d.mapping;
  prefix = d.prefix;
  protected = d.protected;
  reverse = d.reverse;
  kind = d.kind;
  containers = d.containers;
  index = d.index;
  language = d.language;
  direction = d.direction;
  nest = d.nest;
  scoped = option_map scoped_of d.scoped;
}
