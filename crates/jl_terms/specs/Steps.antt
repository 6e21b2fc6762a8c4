-- Parts of the checks of an entry that serve private clauses alone.
use Rattle.std.specs.Prelude.{Bool, true, false, ◌&&◌, List, [], ◌∷◌, Option, Some, None, Result, Ok, Err, codes, bytes_eq}
use Rattle.jl_model.specs.JsonTree.{Tree, Members}
use Rattle.jl_model.specs.declared.codes.Code.{Code}
use Rattle.jl_model.specs.declared.codes.Code.TheVariants as code
use Rattle.jl_model.specs.declared.term_parts.LangEntry.{LangEntry}
use Rattle.jl_model.specs.declared.term_parts.LangEntry.TheVariants as lang
use Rattle.jl_defs.specs.Texts.{Text, has_keyword_form}
use Rattle.jl_defs.specs.Trees.{member_named}
use Rattle.jl_defs.specs.Answers.{◌>>=◌, require}
use Rattle.jl_defs.specs.TermEntry.{RawEntry, blank_entry, ignored_entry, reverse_container, is_strange_id, container_entry, index_entry, language_entry, own_direction, nest_entry, prefix_entry, entry_names, names_are_among, is_set_container}

-- the text of `@reverse`
abbrev pub reversed : Members → Option Bool → Option Text → Text → Result RawEntry Code
reversed ms protected kind text =
    elim (has_keyword_form text) [
      | true ↦ Ok ignored_entry
      | false ↦ reverse_container (member_named (codes "@container") ms) >>=
          (λ c. Ok (record blank_entry { reverse = Some text; kind = kind; containers = c; protected = protected }))
    ]

-- the entries behind `@id`
abbrev pub behind_id : Text → Bool → Members → Option Bool → Option Text → LangEntry → Result RawEntry Code
behind_id term simple ms protected kind id = do
  containers ← container_entry (member_named (codes "@container") ms)
  index ← index_entry containers (member_named (codes "@index") ms)
  language ← language_entry kind (member_named (codes "@language") ms)
  direction ← own_direction kind (member_named (codes "@direction") ms)
  nest ← nest_entry (member_named (codes "@nest") ms)
  prefix ← prefix_entry term (member_named (codes "@prefix") ms)
  _ ← require (names_are_among entry_names ms) code.InvalidTermDefinition
  Ok (record {
    ignored = false;
    simple = simple;
    id = id;
    reverse = None;
    kind = kind;
    containers = containers;
    index = index;
    local = member_named (codes "@context") ms;
    language = language;
    direction = direction;
    nest = nest;
    prefix = prefix;
    protected = protected;
  })

-- a term that is given by its `@id` alone
abbrev pub by_id_alone : Text → Bool → LangEntry → Result RawEntry Code
by_id_alone term simple id =
    elim (is_strange_id term id) [ true ↦ Ok ignored_entry | false ↦ Ok (record blank_entry { simple = simple; id = id }) ]

-- the names in the definition of the term `@type`
abbrev pub type_names : List Text
type_names = codes "@container" ∷ codes "@protected" ∷ []
