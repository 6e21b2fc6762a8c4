-- Definitions on demand: a definition is tried where it stands. It is done, it fails, or it needs a name that has to be
-- defined before it; then that name is defined, and the try is begun anew. A try reads no name that isn't fixed.
use Rattle.std.specs.Prelude.{◌≡◌, Bool, true, false, ◌||◌, List, ◌++◌, Option, Some, None, Result, Ok, Err, bytes_eq, codes}
use Rattle.std.specs.List.{list_any}
use Rattle.jl_model.specs.declared.codes.Code.{Code}
use Rattle.jl_model.specs.declared.codes.Code.TheVariants as code
use Rattle.jl_model.specs.declared.expansions.Expanded.{Expanded}
use Rattle.jl_model.specs.declared.term_parts.LangEntry.{LangEntry}
use Rattle.jl_model.specs.declared.term_parts.LangEntry.TheVariants as lang
use Rattle.jl_defs.specs.Texts.{Text, is_among, is_keyword, has_keyword_form, is_slash}
use Rattle.jl_defs.specs.Answers.{◌>>=◌, require}
use Rattle.jl_defs.specs.Context.{TermDef, term}
use Rattle.jl_defs.specs.IriExpansion.{Compact, compact, has_no_prefix, by_term, expand_iri}
use Rattle.jl_defs.specs.TermEntry.{RawEntry}
use Rattle.jl_defs.specs.Define.{Entry, LocalMap, Progress, Define, find_entry, type_of, reverse_of, mapping_of, has_inner_colon, gives_text, iri_of, mapping_by_prefix, prefix_of, kind_in, try_scoped, reverse_definition, forward_definition, finish}
use Rattle.jl_scoped.specs.Faithful.{Extends, Faithful}

-- what a try comes to
pub data Ask (A : Type 0) : Type 0 where
  done : (value : A) → Ask A
  needs : (name : Text) → Ask A
  fails : (fault : Code) → Ask A

abbrev pub then : {A B : Type 0} → Ask A → (A → Ask B) → Ask B
then (done x) next = next x
then (needs n) next = needs n
then (fails c) next = fails c

-- an answer that needs no name
abbrev pub asked : {A : Type 0} → Result A Code → Ask A
asked (Ok x) = done x
asked (Err c) = fails c

-- A try and a part of a definition are the same, for every faithful way to define names: where the try is done, the part gives
-- its value, at each progress of a kind; where it needs a name, that may be defined first; where it fails, the part fails.
abbrev pub AgreesAt : {A B : Type 0} → LocalMap → (Progress → Type 0) → Progress → (Progress → A → B) → Ask A → (Define → Progress → Result B Code) → Type 0
AgreesAt m At p mk (done x) F = (D : Define) (q : Progress) → Faithful m D → At q → F D q ≡ Ok (mk q x)
AgreesAt m At p mk (needs n) F = (D : Define) → Faithful m D → F D p ≡ (D p n >>= (λ q. F D q))
AgreesAt m At p mk (fails c) F = (D : Define) → Faithful m D → F D p ≡ Err c

-- at each progress that goes on from this one
abbrev pub Agrees : {A B : Type 0} → LocalMap → Progress → (Progress → A → B) → Ask A → (Define → Progress → Result B Code) → Type 0
Agrees m p mk a F = AgreesAt m (Extends m p) p mk a F

-- at this progress alone: what stands last may read the whole context
abbrev pub Ends : {B : Type 0} → LocalMap → Progress → Ask B → (Define → Progress → Result B Code) → Type 0
Ends m p a F = AgreesAt m (λ q. q ≡ p) p (λ q x. x) a F

abbrev pub ask_entry : Option Entry → Text → Ask (Unit {0})
ask_entry None n = done tt
ask_entry (Some e) n = needs n

-- a name
abbrev pub ask : LocalMap → Progress → Text → Ask (Unit {0})
ask m p n =
    elim (is_among p.defined n) [
      | true ↦ done tt
      | false ↦ elim (is_among p.pending n) [ true ↦ fails code.CyclicIriMapping | false ↦ ask_entry (find_entry m.entries n) n ]
    ]

-- the prefix of a text
abbrev pub ask_prefix : LocalMap → Progress → Option Compact → Ask (Unit {0})
ask_prefix m p None = done tt
ask_prefix m p (Some k) = elim (has_no_prefix k) [ true ↦ done tt | false ↦ ask m p k.prefix ]

abbrev pub ask_unless : LocalMap → Progress → Text → Option Expanded → Ask (Unit {0})
ask_unless m p text (Some e) = done tt
ask_unless m p text None = ask_prefix m p (compact text)

abbrev pub ask_parts : LocalMap → Progress → Text → Bool → Ask (Unit {0})
ask_parts m p text vocab = then (ask m p text) (λ _. ask_unless m p text (by_term vocab (term p.built text)))

-- IRI expansion with a local context
abbrev pub ask_expand : LocalMap → Progress → Text → Bool → Bool → Ask Expanded
ask_expand m p text vocab relative =
    elim (is_keyword text || has_keyword_form text) [
      | true ↦ done (expand_iri p.built text vocab relative)
      | false ↦ then (ask_parts m p text vocab) (λ _. done (expand_iri p.built text vocab relative))
    ]

-- the type mapping (step 12)
abbrev pub ask_type : LocalMap → Progress → Option Text → Ask (Option Text)
ask_type m p None = done None
ask_type m p (Some text) = then (ask_expand m p text true false) (λ x. then (asked (type_of x)) (λ kind. done (Some kind)))

-- the prefix of the term itself, which counts as defined
abbrev pub ask_own_prefix : LocalMap → Progress → Text → Option Compact → Ask (Unit {0})
ask_own_prefix m p name None = done tt
ask_own_prefix m p name (Some k) =
    elim (has_no_prefix k) [ true ↦ done tt | false ↦ elim (bytes_eq k.prefix name) [ true ↦ done tt | false ↦ ask m p k.prefix ] ]

abbrev pub ask_own_unless : LocalMap → Progress → Text → Option Expanded → Ask (Unit {0})
ask_own_unless m p name (Some e) = done tt
ask_own_unless m p name None = ask_own_prefix m p name (compact name)

-- the expansion of the term itself
abbrev pub ask_own : LocalMap → Progress → Text → Ask Expanded
ask_own m p name =
    elim (is_keyword name || has_keyword_form name) [
      | true ↦ done (expand_iri p.built name true false)
      | false ↦ then (ask_own_unless m p name (by_term true (term p.built name))) (λ _. done (expand_iri p.built name true false))
    ]

-- a term that looks like an IRI (step 14.2.4)
abbrev pub ask_same : LocalMap → Progress → Text → Text → Ask (Unit {0})
ask_same m p name iri =
    elim (list_any is_slash name || has_inner_colon name) [
      | true ↦ then (ask_own m p name) (λ x. asked (require (gives_text x iri) code.InvalidIriMapping))
      | false ↦ done tt
    ]

-- the mapping from `@id` (step 14)
abbrev pub ask_by_id : LocalMap → Progress → Text → Text → Ask (Option Text)
ask_by_id m p name id =
    then (ask_expand m p id true false) (λ x. then (asked (mapping_of x)) (λ iri. then (ask_same m p name iri) (λ _. done (Some iri))))

abbrev pub ask_vocab : Text → Option Text → Ask (Option Text)
ask_vocab name None = fails code.InvalidIriMapping
ask_vocab name (Some vocab) = done (Some (vocab ++ name))

-- the mapping of a term without prefix (steps 16 to 18)
abbrev pub ask_by_name : LocalMap → Progress → Text → Ask (Option Text)
ask_by_name m p name =
    elim (list_any is_slash name) [
      | true ↦ then (ask_own m p name) (λ x. then (asked (iri_of code.InvalidIriMapping x)) (λ iri. done (Some iri)))
      | false ↦ elim (bytes_eq name (codes "@type")) [ true ↦ done (Some (codes "@type")) | false ↦ ask_vocab name p.built.level.vocab ]
    ]

-- the mapping of a term without `@id` of its own (steps 15 to 18)
abbrev pub ask_by_term : LocalMap → Progress → Text → Option Compact → Ask (Option Text)
ask_by_term m p name None = ask_by_name m p name
ask_by_term m p name (Some k) = then (ask m p k.prefix) (λ _. done (Some (mapping_by_prefix name k (term p.built k.prefix))))

-- the mapping (steps 14 to 18)
abbrev pub ask_mapping : LocalMap → Progress → Text → LangEntry → Ask (Option Text)
ask_mapping m p name lang.Absent = ask_by_term m p name (compact name)
ask_mapping m p name lang.Null = done None
ask_mapping m p name (lang.Tag id) = elim (bytes_eq id name) [ true ↦ ask_by_term m p name (compact name) | false ↦ ask_by_id m p name id ]

-- the index property (step 20)
abbrev pub ask_index : LocalMap → Progress → Option Text → Ask (Unit {0})
ask_index m p None = done tt
ask_index m p (Some index) = then (ask_expand m p index true false) (λ x. then (asked (iri_of code.InvalidTermDefinition x)) (λ _. done tt))

-- the steps after the type mapping; the scoped context, which stands last, reads the whole context
abbrev pub ask_rest : LocalMap → Entry → RawEntry → Progress → Option Text → Option Text → Ask (Progress × TermDef)
ask_rest m e raw p kind (Some text) =
    then (ask_expand m p text true false) (λ x. asked (reverse_of x >>= (λ iri. Ok (p, reverse_definition m raw kind iri))))
ask_rest m e raw p kind None =
    then (ask_mapping m p e.name raw.id)
    (λ mapped. then (asked (prefix_of e.name raw mapped))
    (λ prefix. then (asked (kind_in raw.containers.kind kind))
    (λ kind'. then (ask_index m p raw.index)
    (λ _. asked (try_scoped m p.built raw.local e.scoped >>= (λ scoped. Ok (p, forward_definition m raw mapped prefix kind' scoped)))))))

-- an entry in the middle of its definition, with the terms round it, and its older definition
abbrev pub ask_body : LocalMap → Entry → RawEntry → List Text → Option TermDef → Progress → Ask Progress
ask_body m e raw outer old p =
    then (ask_type m p raw.kind) (λ kind. then (ask_rest m e raw p kind raw.reverse) (λ r. asked (finish m e.name outer old r.0 r.1)))
