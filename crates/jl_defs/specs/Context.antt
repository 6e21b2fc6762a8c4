-- The active context (JSON-LD 1.1 API, section 4.1): base, vocabulary, defaults, terms, and perhaps a previous context.
use Rattle.std.specs.Prelude.{ℕ, ◌+◌, Bool, true, false, List, [], ◌∷◌, length, Option, Some, None, bytes_eq, sum_by}
use Rattle.jl_model.specs.JsonTree.{Tree}
use Rattle.jl_model.specs.declared.term_parts.Containers.{Containers}
use Rattle.jl_model.specs.declared.term_parts.LangEntry.{LangEntry}
use Rattle.jl_model.specs.declared.term_parts.LangEntry.TheVariants as lang
use Rattle.jl_model.specs.declared.term_parts.DirEntry.{DirEntry}
use Rattle.jl_model.specs.declared.term_parts.DirEntry.TheVariants as direction
use Rattle.jl_defs.specs.Texts.{Text, is_before}
use Rattle.jl_defs.specs.Trees.{texts_size}

-- a scoped context as it was written, and the base URL to process it with
pub record Scoped : Type 0 where
  pub local : Tree
  pub base : Option Text

-- a term definition (section 4.2)
pub record TermDef : Type 0 where
  pub mapping : Option Text
  pub prefix : Bool
  pub protected : Bool
  pub reverse : Bool
  -- the type mapping
  pub kind : Option Text
  pub containers : Containers
  -- the key of the index property, as it was written
  pub index : Option Text
  pub language : LangEntry
  pub direction : DirEntry
  pub nest : Option Text
  pub scoped : Option Scoped

-- a term and its definition
pub record Named : Type 0 where
  pub name : Text
  pub term : TermDef

-- a context without its previous one; the terms stand in the order of their names, each once
pub record Level : Type 0 where
  pub base : Option Text
  pub vocab : Option Text
  pub language : Option Text
  pub direction : DirEntry
  pub terms : List Named

-- a context, and the contexts before it: its previous one, the previous one of that, and so on
pub record Context : Type 0 where
  pub level : Level
  pub previous : List Level

-- the initial context: a base, and nothing else
abbrev pub initial_level : Option Text → Level
initial_level base = record { base = base; vocab = None; language = None; direction = direction.Absent; terms = [] }

abbrev pub initial : Option Text → Context
initial base = record { level = initial_level base; previous = [] }

-- the definition of a name
abbrev pub lookup : List Named → Text → Option TermDef
lookup [] name = None
lookup (e ∷ es) name = elim (bytes_eq e.name name) [ true ↦ Some e.term | false ↦ lookup es name ]

abbrev pub term : Context → Text → Option TermDef
term c name = lookup c.level.terms name

-- the definitions without that of a name
abbrev pub without : List Named → Text → List Named
without [] name = []
without (e ∷ es) name = elim (bytes_eq e.name name) [ true ↦ es | false ↦ e ∷ without es name ]

-- a definition at the place of its name, in place of an older one
abbrev pub put : List Named → Text → TermDef → List Named
put [] name t = record { name = name; term = t } ∷ []
put (e ∷ es) name t =
    elim (bytes_eq e.name name) [
      | true ↦ record { name = name; term = t } ∷ es
      | false ↦ elim (is_before name e.name) [ true ↦ record { name = name; term = t } ∷ (e ∷ es) | false ↦ e ∷ put es name t ]
    ]

abbrev pub with_terms : Context → List Named → Context
with_terms c terms = record c { level = record c.level { terms = terms } }

abbrev pub put_term : Context → Text → TermDef → Context
put_term c name t = with_terms c (put c.level.terms name t)

abbrev pub take_out : Context → Text → Context
take_out c name = with_terms c (without c.level.terms name)

abbrev pub with_base : Context → Option Text → Context
with_base c base = record c { level = record c.level { base = base } }

abbrev pub with_vocab : Context → Option Text → Context
with_vocab c vocab = record c { level = record c.level { vocab = vocab } }

abbrev pub with_language : Context → Option Text → Context
with_language c language = record c { level = record c.level { language = language } }

abbrev pub with_direction : Context → DirEntry → Context
with_direction c direction = record c { level = record c.level { direction = direction } }

-- the previous context, if there is one
abbrev pub previous : Context → Option Context
previous c = of_levels c.previous
  where
    of_levels : List Level → Option Context
    of_levels [] = None
    of_levels (l ∷ ls) = Some (record { level = l; previous = ls })

-- the context with another one as its previous context
abbrev pub with_previous : Context → Context → Context
with_previous c p = record c { previous = p.level ∷ p.previous }

-- What a context weighs (this project's own rules): first the bytes of a text that may be absent.
abbrev pub text_size : Option Text → ℕ
text_size None = 0
text_size (Some text) = length text

abbrev pub language_size : LangEntry → ℕ
language_size lang.Absent = 0
language_size lang.Null = 0
language_size (lang.Tag tag) = length tag

abbrev pub scoped_size : Option Scoped → ℕ
scoped_size None = 0
scoped_size (Some s) = texts_size s.local + text_size s.base

-- the bytes of a definition's texts, those of its raw scoped context with them
abbrev pub term_size : TermDef → ℕ
term_size t = text_size t.mapping + text_size t.kind + text_size t.index + language_size t.language + text_size t.nest + scoped_size t.scoped

-- 16 for a term, its name and its definition
abbrev pub named_size : Named → ℕ
named_size e = 16 + length e.name + term_size e.term

abbrev pub level_size : Level → ℕ
level_size l = text_size l.base + text_size l.vocab + text_size l.language + sum_by named_size l.terms

-- the bytes of a context's texts and 16 for each term, those of its previous contexts with them
abbrev pub size : Context → ℕ
size c = level_size c.level + sum_by level_size c.previous
