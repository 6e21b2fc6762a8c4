-- Defining a term (JSON-LD 1.1 API, section 4.2.2, Create Term Definition), and IRI expansion with a local context.
use Rattle.std.specs.Prelude.{ℕ, zero, suc, Bool, true, false, not, ◌&&◌, ◌||◌, List, [], ◌∷◌, ◌++◌, Option, Some, None, Result, Ok, Err, codes, bytes_eq, reverse, unwrap_or}
use Rattle.std.specs.List.{list_any}
use Rattle.jl_model.specs.JsonTree.{Tree}
use Rattle.jl_model.specs.declared.codes.Code.{Code}
use Rattle.jl_model.specs.declared.codes.Code.TheVariants as code
use Rattle.jl_model.specs.declared.expansions.Expanded.{Expanded}
use Rattle.jl_model.specs.declared.expansions.Expanded.TheVariants.{Null, Keyword, Name}
use Rattle.jl_model.specs.declared.term_parts.LangEntry.{LangEntry}
use Rattle.jl_model.specs.declared.term_parts.LangEntry.TheVariants as lang
use Rattle.jl_defs.specs.Texts.{Text, is_among, is_iri, is_blank, is_colon, is_slash, has_keyword_form, is_keyword}
use Rattle.jl_defs.specs.Answers.{◌>>=◌, require, or_code}
use Rattle.jl_defs.specs.Context.{Scoped, TermDef, Context, term, put_term, take_out}
use Rattle.jl_defs.specs.IriExpansion.{Compact, compact, has_no_prefix, by_term, expand_iri}
use Rattle.jl_defs.specs.TermEntry.{RawEntry, read_entry}
use Rattle.jl_defs.specs.Definitions.{same_definition, prefix_flag}

-- what context processing starts from: the context, the base URL, the chain of remote contexts, and its flags
pub record Task : Type 0 where
  pub active : Context
  pub url : Option Text
  pub chain : List Text
  pub may_override : Bool
  pub propagate : Bool
  pub validate : Bool

-- what a local context makes of it
abbrev pub Change : Type 0
Change = Task → Result Context Code

-- an entry of a local context, and what the `@context` in its value makes of a context
pub record Entry : Type 0 where
  pub name : Text
  pub value : Tree
  pub scoped : Option Change

-- a map that is being processed: its entries, its base URL, the chain that its terms hand on, and its flags
pub record LocalMap : Type 0 where
  pub entries : List Entry
  pub url : Option Text
  pub chain : List Text
  pub may_override : Bool
  -- the terms are protected where they don't say
  pub protects : Bool

-- how far a map has come: its context, the terms in the middle of their definition, and those that are done
pub record Progress : Type 0 where
  pub built : Context
  pub pending : List Text
  pub defined : List Text

abbrev pub Define : Type 0
Define = Progress → Text → Result Progress Code

abbrev pub find_entry : List Entry → Text → Option Entry
find_entry [] name = None
find_entry (e ∷ es) name = elim (bytes_eq e.name name) [ true ↦ Some e | false ↦ find_entry es name ]

-- a text as it expands, and the progress that was made for it
pub record Found : Type 0 where
  pub progress : Progress
  pub expanded : Expanded

-- step 6 of IRI expansion with a local context: a prefix is first defined
abbrev pub define_prefix : Define → Progress → Option Compact → Result Progress Code
define_prefix define p None = Ok p
define_prefix define p (Some k) = elim (has_no_prefix k) [ true ↦ Ok p | false ↦ define p k.prefix ]

-- a text that a term decides has no prefix to define
abbrev pub define_unless : Define → Progress → Text → Option Expanded → Result Progress Code
define_unless define p text (Some e) = Ok p
define_unless define p text None = define_prefix define p (compact text)

-- step 3: the text is first defined, where it is an entry
abbrev pub define_parts : Define → Progress → Text → Bool → Result Progress Code
define_parts define p text vocab = define p text >>= (λ q. define_unless define q text (by_term vocab (term q.built text)))

-- IRI expansion with a local context: what the text needs is defined, and then it is expanded
abbrev pub expand_local : Define → Progress → Text → Bool → Bool → Result Found Code
expand_local define p text vocab relative =
    elim (is_keyword text || has_keyword_form text) [
      | true ↦ Ok (record { progress = p; expanded = expand_iri p.built text vocab relative })
      | false ↦ define_parts define p text vocab >>= (λ q. Ok (record { progress = q; expanded = expand_iri q.built text vocab relative }))
    ]

-- a term's own name counts as defined (step 14.2.4, and this project's own choice for step 16)
abbrev pub but_for : Text → Define → Define
but_for name define p text = elim (bytes_eq text name) [ true ↦ Ok p | false ↦ define p text ]

-- the type mapping (step 12): one of four keywords, or an IRI
abbrev pub type_of : Expanded → Result Text Code
type_of Null = Err code.InvalidTypeMapping
type_of (Keyword text) = require (is_among (codes "@id" ∷ codes "@json" ∷ codes "@none" ∷ codes "@vocab" ∷ []) text) code.InvalidTypeMapping >>= (λ _. Ok text)
type_of (Name text) = require (is_iri text) code.InvalidTypeMapping >>= (λ _. Ok text)

-- a text, perhaps none, and the progress that was made for it
pub record Made : Type 0 where
  pub progress : Progress
  pub text : Option Text

abbrev pub made : Progress → Option Text → Made
made p text = record { progress = p; text = text }

abbrev pub type_mapping : Define → Progress → Option Text → Result Made Code
type_mapping define p None = Ok (made p None)
type_mapping define p (Some text) = do
  f ← expand_local define p text true false
  kind ← type_of f.expanded
  Ok (made f.progress (Some kind))

-- a reverse property (step 13.4): an IRI or a blank node
abbrev pub reverse_of : Expanded → Result Text Code
reverse_of (Name text) = require (is_iri text || is_blank text) code.InvalidIriMapping >>= (λ _. Ok text)
reverse_of Null = Err code.InvalidIriMapping
reverse_of (Keyword text) = Err code.InvalidIriMapping

-- what `@id` may give (step 14.2.3): a keyword but `@context`, an IRI or a blank node
abbrev pub mapping_of : Expanded → Result Text Code
mapping_of Null = Err code.InvalidIriMapping
mapping_of (Keyword text) = require (not (bytes_eq text (codes "@context"))) code.InvalidKeywordAlias >>= (λ _. Ok text)
mapping_of (Name text) = require (is_iri text || is_blank text) code.InvalidIriMapping >>= (λ _. Ok text)

-- a colon that is neither first nor last
abbrev pub has_inner_colon : Text → Bool
has_inner_colon [] = false
has_inner_colon (c ∷ cs) = list_any is_colon (without_last cs)
  where
    without_last : Text → Text
    without_last [] = []
    without_last (d ∷ []) = []
    without_last (d ∷ e ∷ es) = d ∷ without_last (e ∷ es)

abbrev pub gives_text : Expanded → Text → Bool
gives_text Null text = false
gives_text (Keyword t) text = bytes_eq t text
gives_text (Name t) text = bytes_eq t text

-- a term that looks like an IRI expands to what its `@id` gives (step 14.2.4)
abbrev pub agrees : Define → Progress → Text → Text → Result Progress Code
agrees define p name mapping =
    elim (list_any is_slash name || has_inner_colon name) [
      | true ↦ expand_local (but_for name define) p name true false >>= (λ f. require (gives_text f.expanded mapping) code.InvalidIriMapping >>= (λ _. Ok f.progress))
      | false ↦ Ok p
    ]

-- the mapping from `@id` (step 14)
abbrev pub mapping_by_id : Define → Progress → Text → Text → Result Made Code
mapping_by_id define p name id = do
  f ← expand_local define p id true false
  mapping ← mapping_of f.expanded
  q ← agrees define f.progress name mapping
  Ok (made q (Some mapping))

-- the mapping of a term with a prefix (step 15): that of the prefix and the rest, or the term
abbrev pub mapping_by_prefix : Text → Compact → Option TermDef → Text
mapping_by_prefix name k None = name
mapping_by_prefix name k (Some t) = by t.mapping
  where
    by : Option Text → Text
    by None = name
    by (Some iri) = iri ++ k.rest

-- the mapping from the vocabulary (step 18)
abbrev pub mapping_by_vocab : Progress → Text → Option Text → Result Made Code
mapping_by_vocab p name None = Err code.InvalidIriMapping
mapping_by_vocab p name (Some vocab) = Ok (made p (Some (vocab ++ name)))

-- an IRI (steps 16 and 20)
abbrev pub iri_of : Code → Expanded → Result Text Code
iri_of c Null = Err c
iri_of c (Keyword text) = Err c
iri_of c (Name text) = require (is_iri text) c >>= (λ _. Ok text)

-- the mapping of a term without prefix (steps 16 to 18)
abbrev pub mapping_by_name : Define → Progress → Text → Result Made Code
mapping_by_name define p name =
    elim (list_any is_slash name) [
      | true ↦ (do
        f ← expand_local (but_for name define) p name true false
        iri ← iri_of code.InvalidIriMapping f.expanded
        Ok (made f.progress (Some iri)))
      | false ↦
          elim (bytes_eq name (codes "@type")) [
            | true ↦ Ok (made p (Some (codes "@type")))
            | false ↦ mapping_by_vocab p name p.built.level.vocab
          ]
    ]

-- the mapping of a term without `@id` of its own (steps 15 to 18)
abbrev pub mapping_by_term : Define → Progress → Text → Option Compact → Result Made Code
mapping_by_term define p name None = mapping_by_name define p name
mapping_by_term define p name (Some k) = define p k.prefix >>= (λ q. Ok (made q (Some (mapping_by_prefix name k (term q.built k.prefix)))))

-- the mapping (steps 14 to 18)
abbrev pub mapping : Define → Progress → Text → LangEntry → Result Made Code
mapping define p name lang.Absent = mapping_by_term define p name (compact name)
mapping define p name lang.Null = Ok (made p None)
mapping define p name (lang.Tag id) =
    elim (bytes_eq id name) [ true ↦ mapping_by_term define p name (compact name) | false ↦ mapping_by_id define p name id ]

-- the mapping was given by `@id`
abbrev pub is_given : Text → LangEntry → Bool
is_given name lang.Absent = false
is_given name lang.Null = true
is_given name (lang.Tag id) = not (bytes_eq id name)

-- a term is a prefix by itself only where its mapping was given by `@id`
abbrev pub own_prefix : Text → RawEntry → Option Text → Bool
own_prefix name raw None = false
own_prefix name raw (Some mapping) = is_given name raw.id && prefix_flag name raw.simple mapping

abbrev pub is_keyword_mapping : Option Text → Bool
is_keyword_mapping None = false
is_keyword_mapping (Some text) = is_keyword text

-- the prefix flag (steps 14.2.5 and 25)
abbrev pub prefix_of : Text → RawEntry → Option Text → Result Bool Code
prefix_of name raw mapping = by raw.prefix
  where
    by : Option Bool → Result Bool Code
    by None = Ok (own_prefix name raw mapping)
    by (Some b) = require (not (b && is_keyword_mapping mapping)) code.InvalidTermDefinition >>= (λ _. Ok b)

-- the type mapping beside a container with `@type` (step 19.4)
abbrev pub kind_in : Bool → Option Text → Result (Option Text) Code
kind_in false kind = Ok kind
kind_in true None = Ok (Some (codes "@id"))
kind_in true (Some kind) = require (is_among (codes "@id" ∷ codes "@vocab" ∷ []) kind) code.InvalidTypeMapping >>= (λ _. Ok (Some kind))

-- the index property expands to an IRI (step 20)
abbrev pub check_index : Define → Progress → Option Text → Result Progress Code
check_index define p None = Ok p
check_index define p (Some index) = do
  f ← expand_local define p index true false
  _ ← iri_of code.InvalidTermDefinition f.expanded
  Ok f.progress

-- the scoped context is processed once, to find its faults (step 21), over the context built so far: the term itself and those
-- that wait for it are out, their older definitions too (this project's own choice)
abbrev pub try_scoped : LocalMap → Context → Option Tree → Option Change → Result (Option Scoped) Code
try_scoped m c None change = Ok None
try_scoped m c (Some t) None = Ok (Some (record { local = t; base = m.url }))
try_scoped m c (Some t) (Some change) =
    or_code code.InvalidScopedContext (change (record { active = c; url = m.url; chain = m.chain; may_override = true; propagate = true; validate = false }))
    >>= (λ _. Ok (Some (record { local = t; base = m.url })))

-- a protected definition may be given again, and stays, but not changed (step 27)
abbrev pub settle : LocalMap → Option TermDef → TermDef → Result TermDef Code
settle m None new = Ok new
settle m (Some old) new =
    elim (old.protected && not m.may_override) [
      | true ↦ require (same_definition old new) code.ProtectedTermRedefinition >>= (λ _. Ok old)
      | false ↦ Ok new
    ]

-- the term stands in the context, and is no more being defined
abbrev pub finish : LocalMap → Text → List Text → Option TermDef → Progress → TermDef → Result Progress Code
finish m name pending old p new =
    settle m old new >>= (λ t. Ok (record { built = put_term p.built name t; pending = pending; defined = name ∷ p.defined }))

-- the definition of a reverse term (step 13)
abbrev pub reverse_definition : LocalMap → RawEntry → Option Text → Text → TermDef
reverse_definition m raw kind mapping = record {
  mapping = Some mapping;
  prefix = false;
  protected = unwrap_or raw.protected m.protects;
  reverse = true;
  kind = kind;
  containers = raw.containers;
  index = raw.index;
  language = raw.language;
  direction = raw.direction;
  nest = raw.nest;
  scoped = None;
}

-- the definition of any other term
abbrev pub forward_definition : LocalMap → RawEntry → Option Text → Bool → Option Text → Option Scoped → TermDef
forward_definition m raw mapping prefix kind scoped = record {
  mapping = mapping;
  prefix = prefix;
  protected = unwrap_or raw.protected m.protects;
  reverse = false;
  kind = kind;
  containers = raw.containers;
  index = raw.index;
  language = raw.language;
  direction = raw.direction;
  nest = raw.nest;
  scoped = scoped;
}

-- the steps after the type mapping
abbrev pub define_rest : LocalMap → Define → Entry → RawEntry → Progress → Option Text → Option Text → Result (Progress × TermDef) Code
define_rest m define e raw p kind (Some reverse) = do
  f ← expand_local define p reverse true false
  iri ← reverse_of f.expanded
  Ok (f.progress, reverse_definition m raw kind iri)
define_rest m define e raw p kind None = do
  mapped ← mapping define p e.name raw.id
  prefix ← prefix_of e.name raw mapped.text
  kind' ← kind_in raw.containers.kind kind
  q ← check_index define mapped.progress raw.index
  scoped ← try_scoped m q.built raw.local e.scoped
  Ok (q, forward_definition m raw mapped.text prefix kind' scoped)

-- an entry is defined without its older definition (step 6); one that is ignored changes nothing, and the older one stays (this
-- project's own choice)
abbrev pub define_raw : LocalMap → Define → Progress → Entry → RawEntry → Result Progress Code
define_raw m define p e raw =
    elim raw.ignored [
      | true ↦ Ok (record p { defined = e.name ∷ p.defined })
      | false ↦ (do
        typed ← type_mapping define (record { built = take_out p.built e.name; pending = e.name ∷ p.pending; defined = p.defined }) raw.kind
        r ← define_rest m define e raw typed.progress typed.text raw.reverse
        finish m e.name p.pending (term p.built e.name) r.0 r.1)
    ]

-- an entry that is no term, as `@vocab` beside a prefix of that spelling, is refused as a keyword (this project's own choice)
abbrev pub define_entry : LocalMap → Define → Progress → Option Entry → Result Progress Code
define_entry m define p None = Ok p
define_entry m define p (Some e) = read_entry e.name e.value >>= (λ raw. define_raw m define p e raw)

-- A name is defined once, where the map has it (step 1). The number bounds how deep definitions may lead to one another; each step
-- adds an entry to those in the middle, so one more than the entries is never used up.
unfoldable pub define : ℕ → LocalMap → Define
define zero m p name = Err code.CyclicIriMapping
define (suc n) m p name =
    elim (is_among p.defined name) [
      | true ↦ Ok p
      | false ↦ elim (is_among p.pending name) [
        | true ↦ Err code.CyclicIriMapping
        | false ↦ define_entry m (define n m) p (find_entry m.entries name)
      ]
    ]

-- all terms, in the order of the document
unfoldable pub define_all : Define → List Entry → Progress → Result Progress Code
define_all define [] p = Ok p
define_all define (e ∷ es) p = define p e.name >>= define_all define es
