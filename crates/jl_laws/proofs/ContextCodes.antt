-- No context is refused as a form that isn't built: that code is no code of context processing.
use Rattle.std.specs.Prelude.{codes, bytes_eq}
use Rattle.std.proofs.Common.{ℕ, zero, suc, ◌+◌, ◌≡◌, refl, Bool, true, false, not, ◌&&◌, ◌||◌, List, [], ◌∷◌, length, filter, Option, Some, None, Result, Ok, Err}
use Rattle.std.specs.List.{list_any}
use Rattle.jl_model.specs.JsonTree.{Tree, scalar, array, object, Trees, no_item, item, Members, no_member, member}
use Rattle.jl_model.specs.Resolve.{resolve}
use Rattle.jl_model.specs.declared.scalars.Scalar.{Scalar}
use Rattle.jl_model.specs.declared.scalars.Scalar.TheVariants.{Null, Bool as boolean, Number, Str}
use Rattle.jl_model.specs.declared.codes.Code.{Code}
use Rattle.jl_model.specs.declared.codes.Code.TheVariants as code
use Rattle.jl_model.specs.declared.codes.Code.TheVariants.{NotYet}
use Rattle.jl_model.specs.declared.faults.Fault.{Fault}
use Rattle.jl_model.specs.declared.expansions.Expanded.{Expanded}
use Rattle.jl_model.specs.declared.expansions.Expanded.TheVariants as expanded
use Rattle.jl_model.specs.declared.term_parts.Containers.{Containers}
use Rattle.jl_model.specs.declared.term_parts.LangEntry.{LangEntry}
use Rattle.jl_model.specs.declared.term_parts.LangEntry.TheVariants as lang
use Rattle.jl_defs.specs.Answers.{◌>>=◌, require, or_code}
use Rattle.jl_defs.specs.Texts.{Text, is_among, is_iri, is_blank, is_slash, has_keyword_form, is_keyword}
use Rattle.jl_defs.specs.Trees.{member_named}
use Rattle.jl_defs.specs.Context.{Scoped, TermDef, Context, term}
use Rattle.jl_defs.specs.IriExpansion.{Compact, compact, has_no_prefix, by_term, expand_iri}
use Rattle.jl_defs.specs.TermEntry as entries
use Rattle.jl_defs.specs.TermEntry.{RawEntry, read_entry}
use Rattle.jl_defs.specs.Definitions.{same_definition}
use Rattle.jl_defs.specs.Define as definitions
use Rattle.jl_defs.specs.Define.{Task, Change, Entry, LocalMap, Progress, Define, Found, Made, find_entry, define, define_all}
use Rattle.jl_defs.specs.Process as contexts
use Rattle.jl_defs.specs.Process.{Library, find_handed, Remote, process}
use Rattle.jl_defs.specs.ObjectContexts as inside
use Rattle.jl_defs.specs.ObjectContexts.{fault, Own, Look, Inside, decide}
use Rattle.jl_defs.specs.Settings.{Settings, Under, Stand, scoped_in}

abbrev pub is_not_yet : Code → Bool
is_not_yet NotYet = true
is_not_yet c = false

pub not-yet-is : (c : Code) → is_not_yet c ≡ true → c ≡ NotYet
not-yet-is NotYet e = refl
not-yet-is c e = absurd cc

-- where there is no answer, the code isn't that of a form that isn't built
abbrev pub Fine : {A : Type 0} → Result A Code → Type 0
Fine (Ok x) = Unit {0}
Fine (Err c) = is_not_yet c ≡ false

pub then-fine : {A B : Type 0} (r : Result A Code) (f : A → Result B Code) → Fine r → ((x : A) → Fine (f x)) → Fine (r >>= f)
then-fine (Ok x) f a b = b x
then-fine (Err c) f a b = a

pub require-fine : (b : Bool) (c : Code) → is_not_yet c ≡ false → Fine (require b c)
require-fine true c h = tt
require-fine false c h = h

pub either-fine : {A : Type 0} (b : Bool) (x y : Result A Code) → Fine x → Fine y → Fine (elim b as (λ z. Result A Code) [ true ↦ x | false ↦ y ])
either-fine true x y g h = g
either-fine false x y g h = h

require-then : {B : Type 0} (b : Bool) (c : Code) (f : Unit {0} → Result B Code) → is_not_yet c ≡ false → Fine (f tt) → Fine (require b c >>= f)
require-then true c f h g = g
require-then false c f h g = h

or-fine : {A : Type 0} (c : Code) (r : Result A Code) → is_not_yet c ≡ false → Fine (or_code c r)
or-fine c (Ok x) h = tt
or-fine c (Err e) h = h

-- ---- one entry of a local context

string-entry : (c : Code) (t : Option Tree) → is_not_yet c ≡ false → Fine (entries.string_entry c t)
string-entry c None h = tt
string-entry c (Some (scalar at (Str text))) h = tt
string-entry c (Some (scalar at Null)) h = h
string-entry c (Some (scalar at (boolean b))) h = h
string-entry c (Some (scalar at (Number n))) h = h
string-entry c (Some (array at xs)) h = h
string-entry c (Some (object at ms)) h = h

boolean-entry : (c : Code) (t : Option Tree) → is_not_yet c ≡ false → Fine (entries.boolean_entry c t)
boolean-entry c None h = tt
boolean-entry c (Some (scalar at (boolean b))) h = tt
boolean-entry c (Some (scalar at Null)) h = h
boolean-entry c (Some (scalar at (Str text))) h = h
boolean-entry c (Some (scalar at (Number n))) h = h
boolean-entry c (Some (array at xs)) h = h
boolean-entry c (Some (object at ms)) h = h

nullable-entry : (c : Code) (t : Option Tree) → is_not_yet c ≡ false → Fine (entries.nullable_entry c t)
nullable-entry c None h = tt
nullable-entry c (Some (scalar at Null)) h = tt
nullable-entry c (Some (scalar at (Str text))) h = tt
nullable-entry c (Some (scalar at (boolean b))) h = h
nullable-entry c (Some (scalar at (Number n))) h = h
nullable-entry c (Some (array at xs)) h = h
nullable-entry c (Some (object at ms)) h = h

direction-text : (text : Text) → Fine (entries.direction_text text)
direction-text text = either-fine (bytes_eq text (codes "ltr")) _ _ tt (either-fine (bytes_eq text (codes "rtl")) _ _ tt refl)

direction-entry : (t : Option Tree) → Fine (entries.direction_entry t)
direction-entry None = tt
direction-entry (Some (scalar at Null)) = tt
direction-entry (Some (scalar at (Str text))) = direction-text text
direction-entry (Some (scalar at (boolean b))) = refl
direction-entry (Some (scalar at (Number n))) = refl
direction-entry (Some (array at xs)) = refl
direction-entry (Some (object at ms)) = refl

admit-fine : (c : Option Containers) → Fine (entries.admit c)
admit-fine None = refl
admit-fine (Some c) = either-fine (entries.is_admitted c) _ _ tt refl

containers-fine : (t : Tree) → Fine (entries.containers_of t)
unfolding entries.containers_of
containers-fine (scalar at (Str text)) = admit-fine (entries.add_container text entries.no_containers)
containers-fine (scalar at Null) = refl
containers-fine (scalar at (boolean b)) = refl
containers-fine (scalar at (Number n)) = refl
containers-fine (array at xs) = admit-fine (entries.add_containers xs entries.no_containers)
containers-fine (object at ms) = refl

container-entry : (t : Option Tree) → Fine (entries.container_entry t)
container-entry None = tt
container-entry (Some t) = containers-fine t

reverse-container : (t : Option Tree) → Fine (entries.reverse_container t)
reverse-container None = tt
reverse-container (Some (scalar at Null)) = tt
reverse-container (Some (scalar at (Str text))) = either-fine (bytes_eq text (codes "@set")) _ _ tt (either-fine (bytes_eq text (codes "@index")) _ _ tt refl)
reverse-container (Some (scalar at (boolean b))) = refl
reverse-container (Some (scalar at (Number n))) = refl
reverse-container (Some (array at xs)) = refl
reverse-container (Some (object at ms)) = refl

reverse-entry : (ms : Members) (protected : Option Bool) (kind : Option Text) (t : Tree) → Fine (entries.reverse_entry ms protected kind t)
reverse-entry ms protected kind (scalar at (Str text)) =
    either-fine (has_keyword_form text) _ _ tt (then-fine (entries.reverse_container (member_named (codes "@container") ms)) _ (reverse-container (member_named (codes "@container") ms)) (λ c. tt))
reverse-entry ms protected kind (scalar at Null) = refl
reverse-entry ms protected kind (scalar at (boolean b)) = refl
reverse-entry ms protected kind (scalar at (Number n)) = refl
reverse-entry ms protected kind (array at xs) = refl
reverse-entry ms protected kind (object at others) = refl

index-entry : (c : Containers) (t : Option Tree) → Fine (entries.index_entry c t)
index-entry c None = tt
index-entry c (Some t) = require-then c.index code.InvalidTermDefinition _ refl (string-entry code.InvalidTermDefinition (Some t) refl)

language-entry : (kind : Option Text) (t : Option Tree) → Fine (entries.language_entry kind t)
language-entry None t = nullable-entry code.InvalidLanguageMapping t refl
language-entry (Some kind) t = tt

own-direction : (kind : Option Text) (t : Option Tree) → Fine (entries.own_direction kind t)
own-direction None t = direction-entry t
own-direction (Some kind) t = tt

nest-entry : (t : Option Tree) → Fine (entries.nest_entry t)
nest-entry t =
    then-fine (entries.string_entry code.InvalidNestValue t) _ (string-entry code.InvalidNestValue t refl)
    (λ text. require-then (entries.is_nest_text text) code.InvalidNestValue _ refl tt)

prefix-entry : (name : Text) (t : Option Tree) → Fine (entries.prefix_entry name t)
prefix-entry name None = tt
prefix-entry name (Some t) = require-then (not (entries.has_colon_or_slash name)) code.InvalidTermDefinition _ refl (boolean-entry code.InvalidPrefixValue (Some t) refl)

forward-entry : (name : Text) (simple : Bool) (ms : Members) (protected : Option Bool) (kind : Option Text) → Fine (entries.forward_entry name simple ms protected kind)
forward-entry name simple ms protected kind =
    then-fine (entries.nullable_entry code.InvalidIriMapping (member_named (codes "@id") ms)) _ (nullable-entry code.InvalidIriMapping (member_named (codes "@id") ms) refl)
    (λ id. either-fine (entries.is_strange_id name id) _ _ tt
    (then-fine (entries.container_entry (member_named (codes "@container") ms)) _ (container-entry (member_named (codes "@container") ms))
    (λ containers. then-fine (entries.index_entry containers (member_named (codes "@index") ms)) _ (index-entry containers (member_named (codes "@index") ms))
    (λ index. then-fine (entries.language_entry kind (member_named (codes "@language") ms)) _ (language-entry kind (member_named (codes "@language") ms))
    (λ language. then-fine (entries.own_direction kind (member_named (codes "@direction") ms)) _ (own-direction kind (member_named (codes "@direction") ms))
    (λ direction. then-fine (entries.nest_entry (member_named (codes "@nest") ms)) _ (nest-entry (member_named (codes "@nest") ms))
    (λ nest. then-fine (entries.prefix_entry name (member_named (codes "@prefix") ms)) _ (prefix-entry name (member_named (codes "@prefix") ms))
    (λ prefix. require-then (entries.names_are_among entries.entry_names ms) code.InvalidTermDefinition _ refl tt))))))))

by-reverse : (name : Text) (simple : Bool) (ms : Members) (protected : Option Bool) (kind : Option Text) (t : Option Tree) → Fine (entries.by_reverse name simple ms protected kind t)
by-reverse name simple ms protected kind None = forward-entry name simple ms protected kind
by-reverse name simple ms protected kind (Some t) =
    require-then (not (entries.has_member (codes "@id") ms || entries.has_member (codes "@nest") ms)) code.InvalidReverseProperty _ refl (reverse-entry ms protected kind t)

map-entry : (name : Text) (simple : Bool) (ms : Members) → Fine (entries.map_entry name simple ms)
map-entry name simple ms =
    then-fine (entries.boolean_entry code.InvalidProtectedValue (member_named (codes "@protected") ms)) _ (boolean-entry code.InvalidProtectedValue (member_named (codes "@protected") ms) refl)
    (λ protected. then-fine (entries.string_entry code.InvalidTypeMapping (member_named (codes "@type") ms)) _ (string-entry code.InvalidTypeMapping (member_named (codes "@type") ms) refl)
    (λ kind. by-reverse name simple ms protected kind (member_named (codes "@reverse") ms)))

value-entry : (name : Text) (t : Tree) → Fine (entries.value_entry name t)
value-entry name (scalar at Null) = map-entry name false (member at (codes "@id") (scalar at Null) no_member)
value-entry name (scalar at (Str text)) = map-entry name true (member at (codes "@id") (scalar at (Str text)) no_member)
value-entry name (scalar at (boolean b)) = refl
value-entry name (scalar at (Number n)) = refl
value-entry name (array at xs) = refl
value-entry name (object at ms) = map-entry name false ms

entry-fine : (name : Text) (t : Tree) → Fine (read_entry name t)
unfolding read_entry
entry-fine [] t = refl
entry-fine (c ∷ cs) t =
    either-fine (is_keyword (c ∷ cs)) _ _
    (either-fine (bytes_eq (c ∷ cs) (codes "@type") && entries.is_type_entry t) _ _ (value-entry (c ∷ cs) t) refl)
    (either-fine (has_keyword_form (c ∷ cs)) _ _ tt (value-entry (c ∷ cs) t))

-- ---- the definition of a term

abbrev DefineFine : Define → Type 0
DefineFine d = (p : Progress) (name : Text) → Fine (d p name)

prefix-defined : (d : Define) (p : Progress) (k : Option Compact) → DefineFine d → Fine (definitions.define_prefix d p k)
prefix-defined d p None h = tt
prefix-defined d p (Some k) h = either-fine (has_no_prefix k) _ _ tt (h p k.prefix)

unless-defined : (d : Define) (p : Progress) (text : Text) (e : Option Expanded) → DefineFine d → Fine (definitions.define_unless d p text e)
unless-defined d p text (Some e) h = tt
unless-defined d p text None h = prefix-defined d p (compact text) h

parts-defined : (d : Define) (p : Progress) (text : Text) (vocab : Bool) → DefineFine d → Fine (definitions.define_parts d p text vocab)
parts-defined d p text vocab h = then-fine (d p text) _ (h p text) (λ q. unless-defined d q text (by_term vocab (term q.built text)) h)

local-fine : (d : Define) (p : Progress) (text : Text) (vocab relative : Bool) → DefineFine d → Fine (definitions.expand_local d p text vocab relative)
local-fine d p text vocab relative h =
    either-fine (is_keyword text || has_keyword_form text) _ _ tt (then-fine (definitions.define_parts d p text vocab) _ (parts-defined d p text vocab h) (λ q. tt))

but-for-fine : (name : Text) (d : Define) → DefineFine d → DefineFine (definitions.but_for name d)
but-for-fine name d h p text = either-fine (bytes_eq text name) _ _ tt (h p text)

type-fine : (e : Expanded) → Fine (definitions.type_of e)
type-fine expanded.Null = refl
type-fine (expanded.Keyword text) = require-then (is_among (codes "@id" ∷ codes "@json" ∷ codes "@none" ∷ codes "@vocab" ∷ []) text) code.InvalidTypeMapping _ refl tt
type-fine (expanded.Name text) = require-then (is_iri text) code.InvalidTypeMapping _ refl tt

type-mapping-fine : (d : Define) (p : Progress) (text : Option Text) → DefineFine d → Fine (definitions.type_mapping d p text)
type-mapping-fine d p None h = tt
type-mapping-fine d p (Some text) h =
    then-fine (definitions.expand_local d p text true false) _ (local-fine d p text true false h) (λ f. then-fine (definitions.type_of f.expanded) _ (type-fine f.expanded) (λ kind. tt))

reverse-fine : (e : Expanded) → Fine (definitions.reverse_of e)
reverse-fine (expanded.Name text) = require-then (is_iri text || is_blank text) code.InvalidIriMapping _ refl tt
reverse-fine expanded.Null = refl
reverse-fine (expanded.Keyword text) = refl

mapping-of-fine : (e : Expanded) → Fine (definitions.mapping_of e)
mapping-of-fine expanded.Null = refl
mapping-of-fine (expanded.Keyword text) = require-then (not (bytes_eq text (codes "@context"))) code.InvalidKeywordAlias _ refl tt
mapping-of-fine (expanded.Name text) = require-then (is_iri text || is_blank text) code.InvalidIriMapping _ refl tt

agrees-fine : (d : Define) (p : Progress) (name mapping : Text) → DefineFine d → Fine (definitions.agrees d p name mapping)
agrees-fine d p name mapping h =
    either-fine (list_any is_slash name || definitions.has_inner_colon name) _ _
    (then-fine (definitions.expand_local (definitions.but_for name d) p name true false) _ (local-fine (definitions.but_for name d) p name true false (but-for-fine name d h))
    (λ f. require-then (definitions.gives_text f.expanded mapping) code.InvalidIriMapping _ refl tt))
    tt

by-id-fine : (d : Define) (p : Progress) (name id : Text) → DefineFine d → Fine (definitions.mapping_by_id d p name id)
by-id-fine d p name id h =
    then-fine (definitions.expand_local d p id true false) _ (local-fine d p id true false h)
    (λ f. then-fine (definitions.mapping_of f.expanded) _ (mapping-of-fine f.expanded)
    (λ mapping. then-fine (definitions.agrees d f.progress name mapping) _ (agrees-fine d f.progress name mapping h) (λ q. tt)))

by-vocab-fine : (p : Progress) (name : Text) (vocab : Option Text) → Fine (definitions.mapping_by_vocab p name vocab)
by-vocab-fine p name None = refl
by-vocab-fine p name (Some vocab) = tt

iri-fine : (c : Code) (e : Expanded) → is_not_yet c ≡ false → Fine (definitions.iri_of c e)
iri-fine c expanded.Null h = h
iri-fine c (expanded.Keyword text) h = h
iri-fine c (expanded.Name text) h = require-then (is_iri text) c _ h tt

by-name-fine : (d : Define) (p : Progress) (name : Text) → DefineFine d → Fine (definitions.mapping_by_name d p name)
by-name-fine d p name h =
    either-fine (list_any is_slash name) _ _
    (then-fine (definitions.expand_local (definitions.but_for name d) p name true false) _ (local-fine (definitions.but_for name d) p name true false (but-for-fine name d h))
    (λ f. then-fine (definitions.iri_of code.InvalidIriMapping f.expanded) _ (iri-fine code.InvalidIriMapping f.expanded refl) (λ iri. tt)))
    (either-fine (bytes_eq name (codes "@type")) _ _ tt (by-vocab-fine p name p.built.level.vocab))

by-term-fine : (d : Define) (p : Progress) (name : Text) (k : Option Compact) → DefineFine d → Fine (definitions.mapping_by_term d p name k)
by-term-fine d p name None h = by-name-fine d p name h
by-term-fine d p name (Some k) h = then-fine (d p k.prefix) _ (h p k.prefix) (λ q. tt)

mapping-fine : (d : Define) (p : Progress) (name : Text) (id : LangEntry) → DefineFine d → Fine (definitions.mapping d p name id)
mapping-fine d p name lang.Absent h = by-term-fine d p name (compact name) h
mapping-fine d p name lang.Null h = tt
mapping-fine d p name (lang.Tag id) h = either-fine (bytes_eq id name) _ _ (by-term-fine d p name (compact name) h) (by-id-fine d p name id h)

prefix-fine : (name : Text) (raw : RawEntry) (mapping : Option Text) → Fine (definitions.prefix_of name raw mapping)
prefix-fine name raw mapping = by raw.prefix refl
  where
    by : (o : Option Bool) → raw.prefix ≡ o → Fine (definitions.prefix_of name raw mapping)
    by None e = rw (e) tt
    by (Some b) e = rw (e) (require-then (not (b && definitions.is_keyword_mapping mapping)) code.InvalidTermDefinition _ refl tt)

kind-fine : (b : Bool) (kind : Option Text) → Fine (definitions.kind_in b kind)
kind-fine false kind = tt
kind-fine true None = tt
kind-fine true (Some kind) = require-then (is_among (codes "@id" ∷ codes "@vocab" ∷ []) kind) code.InvalidTypeMapping _ refl tt

index-fine : (d : Define) (p : Progress) (index : Option Text) → DefineFine d → Fine (definitions.check_index d p index)
index-fine d p None h = tt
index-fine d p (Some index) h =
    then-fine (definitions.expand_local d p index true false) _ (local-fine d p index true false h)
    (λ f. then-fine (definitions.iri_of code.InvalidTermDefinition f.expanded) _ (iri-fine code.InvalidTermDefinition f.expanded refl) (λ iri. tt))

scoped-fine : (m : LocalMap) (c : Context) (t : Option Tree) (change : Option Change) → Fine (definitions.try_scoped m c t change)
scoped-fine m c None change = tt
scoped-fine m c (Some t) None = tt
scoped-fine m c (Some t) (Some change) =
    then-fine (or_code code.InvalidScopedContext (change _)) _ (or-fine code.InvalidScopedContext (change _) refl) (λ x. tt)

settle-fine : (m : LocalMap) (old : Option TermDef) (new : TermDef) → Fine (definitions.settle m old new)
settle-fine m None new = tt
settle-fine m (Some old) new =
    either-fine (old.protected && not m.may_override) _ _ (require-then (same_definition old new) code.ProtectedTermRedefinition _ refl tt) tt

finish-fine : (m : LocalMap) (name : Text) (pending : List Text) (old : Option TermDef) (p : Progress) (t : TermDef) → Fine (definitions.finish m name pending old p t)
finish-fine m name pending old p t = then-fine (definitions.settle m old t) _ (settle-fine m old t) (λ x. tt)

rest-fine : (m : LocalMap) (d : Define) (e : Entry) (raw : RawEntry) (p : Progress) (kind reverse : Option Text) → DefineFine d → Fine (definitions.define_rest m d e raw p kind reverse)
rest-fine m d e raw p kind (Some reverse) h =
    then-fine (definitions.expand_local d p reverse true false) _ (local-fine d p reverse true false h) (λ f. then-fine (definitions.reverse_of f.expanded) _ (reverse-fine f.expanded) (λ iri. tt))
rest-fine m d e raw p kind None h =
    then-fine (definitions.mapping d p e.name raw.id) _ (mapping-fine d p e.name raw.id h)
    (λ mapped. then-fine (definitions.prefix_of e.name raw mapped.text) _ (prefix-fine e.name raw mapped.text)
    (λ prefix. then-fine (definitions.kind_in raw.containers.kind kind) _ (kind-fine raw.containers.kind kind)
    (λ own. then-fine (definitions.check_index d mapped.progress raw.index) _ (index-fine d mapped.progress raw.index h)
    (λ q. then-fine (definitions.try_scoped m q.built raw.local e.scoped) _ (scoped-fine m q.built raw.local e.scoped) (λ scoped. tt)))))

raw-fine : (m : LocalMap) (d : Define) (p : Progress) (e : Entry) (raw : RawEntry) → DefineFine d → Fine (definitions.define_raw m d p e raw)
raw-fine m d p e raw h =
    either-fine raw.ignored _ _ tt
    (then-fine (definitions.type_mapping d _ raw.kind) _ (type-mapping-fine d _ raw.kind h)
    (λ typed. then-fine (definitions.define_rest m d e raw typed.progress typed.text raw.reverse) _ (rest-fine m d e raw typed.progress typed.text raw.reverse h)
    (λ r. finish-fine m e.name p.pending (term p.built e.name) r.0 r.1)))

found-fine : (m : LocalMap) (d : Define) (p : Progress) (e : Option Entry) → DefineFine d → Fine (definitions.define_entry m d p e)
found-fine m d p None h = tt
found-fine m d p (Some e) h = then-fine (read_entry e.name e.value) _ (entry-fine e.name e.value) (λ raw. raw-fine m d p e raw h)

define-fine : (n : ℕ) (m : LocalMap) → DefineFine (define n m)
unfolding define
define-fine zero m p name = refl
define-fine (suc n) m p name =
    either-fine (is_among p.defined name) _ _ tt (either-fine (is_among p.pending name) _ _ refl (found-fine m (define n m) p (find_entry m.entries name) (define-fine n m)))

all-defined : (d : Define) (es : List Entry) (p : Progress) → DefineFine d → Fine (define_all d es p)
unfolding define_all
all-defined d [] p h = tt
all-defined d (e ∷ es) p h = then-fine (d p e.name) _ (h p e.name) (λ q. all-defined d es q h)

-- ---- a local context

version-fine : (t : Option Tree) → Fine (contexts.check_version t)
version-fine None = tt
version-fine (Some (scalar at (Number text))) = require-fine (bytes_eq text (codes "1.1")) code.InvalidVersionValue refl
version-fine (Some (scalar at Null)) = refl
version-fine (Some (scalar at (boolean b))) = refl
version-fine (Some (scalar at (Str text))) = refl
version-fine (Some (array at xs)) = refl
version-fine (Some (object at ms)) = refl

address-fine : (url : Option Text) (name : Text) → Fine (contexts.address url name)
address-fine (Some url) name = tt
address-fine None name = either-fine (is_iri name) _ _ tt refl

context-in-fine : (t : Tree) → Fine (contexts.context_in t)
context-in-fine (object at ms) = by (member_named (codes "@context") ms) refl
  where
    by : (o : Option Tree) → member_named (codes "@context") ms ≡ o → Fine (contexts.context_in (object at ms))
    by None e = rw (e) refl
    by (Some t) e = rw (e) tt
context-in-fine (scalar at v) = refl
context-in-fine (array at xs) = refl

loaded-fine : (t : Option Tree) → Fine (contexts.loaded t)
loaded-fine None = refl
loaded-fine (Some t) = context-in-fine t

abbrev EntriesFine : Remote → Type 0
EntriesFine remote = (name : Text) → Fine (remote.entries name)

imported-fine : (remote : Remote) (es : List Entry) (k : Task) (t : Option Tree) → EntriesFine remote → Fine (contexts.imported remote es k t)
imported-fine remote es k None h = tt
imported-fine remote es k (Some (scalar at (Str text))) h =
    then-fine (contexts.address k.url text) _ (address-fine k.url text)
    (λ name. require-then (not (contexts.is_full k.chain)) code.ContextOverflow _ refl
    (then-fine (remote.entries name) _ (h name)
    (λ theirs. require-then (not (contexts.has_entry theirs (codes "@import"))) code.InvalidContextEntry _ refl tt)))
imported-fine remote es k (Some (scalar at Null)) h = refl
imported-fine remote es k (Some (scalar at (boolean b))) h = refl
imported-fine remote es k (Some (scalar at (Number n))) h = refl
imported-fine remote es k (Some (array at xs)) h = refl
imported-fine remote es k (Some (object at ms)) h = refl

base-text-fine : (c : Context) (text : Text) → Fine (contexts.base_text c text)
base-text-fine c text = by c.level.base
  where
    by : (o : Option Text) → Fine (contexts.base_text (record c { level = record c.level { base = o } }) text)
    by None = either-fine (is_iri text) _ _ tt refl
    by (Some base) = either-fine (is_iri text) _ _ tt (require-then (is_iri (resolve base text)) code.InvalidBaseIri _ refl tt)

base-entry-fine : (c : Context) (chain : List Text) (t : Option Tree) → Fine (contexts.base_entry c chain t)
base-entry-fine c (x ∷ xs) t = tt
base-entry-fine c [] None = tt
base-entry-fine c [] (Some (scalar at Null)) = tt
base-entry-fine c [] (Some (scalar at (Str text))) = base-text-fine c text
base-entry-fine c [] (Some (scalar at (boolean b))) = refl
base-entry-fine c [] (Some (scalar at (Number n))) = refl
base-entry-fine c [] (Some (array at xs)) = refl
base-entry-fine c [] (Some (object at ms)) = refl

vocab-of-fine : (c : Context) (e : Expanded) → Fine (contexts.vocab_of c e)
vocab-of-fine c expanded.Null = refl
vocab-of-fine c (expanded.Keyword text) = refl
vocab-of-fine c (expanded.Name text) = require-then (is_iri text || is_blank text) code.InvalidVocabMapping _ refl tt

vocab-entry-fine : (c : Context) (t : Option Tree) → Fine (contexts.vocab_entry c t)
vocab-entry-fine c None = tt
vocab-entry-fine c (Some (scalar at Null)) = tt
vocab-entry-fine c (Some (scalar at (Str text))) = vocab-of-fine c (expand_iri c text true true)
vocab-entry-fine c (Some (scalar at (boolean b))) = refl
vocab-entry-fine c (Some (scalar at (Number n))) = refl
vocab-entry-fine c (Some (array at xs)) = refl
vocab-entry-fine c (Some (object at ms)) = refl

terms-fine : (m : LocalMap) (c : Context) → Fine (contexts.define_terms m c)
terms-fine m c =
    then-fine (define_all (define (length m.entries + 1) m) (filter contexts.is_term_entry m.entries) _) _
    (all-defined (define (length m.entries + 1) m) (filter contexts.is_term_entry m.entries) _ (define-fine (length m.entries + 1) m)) (λ p. tt)

abbrev ChangeFine : Change → Type 0
ChangeFine change = (k : Task) → Fine (change k)

map-fine : (remote : Remote) (es : List Entry) → EntriesFine remote → ChangeFine (contexts.map_change remote es)
map-fine remote es h k =
    then-fine (contexts.check_version (contexts.entry_value es (codes "@version"))) _ (version-fine (contexts.entry_value es (codes "@version")))
    (λ _. then-fine (contexts.imported remote es k (contexts.entry_value es (codes "@import"))) _ (imported-fine remote es k (contexts.entry_value es (codes "@import")) h)
    (λ i. then-fine (contexts.base_entry k.active k.chain (contexts.entry_value i.entries (codes "@base"))) _ (base-entry-fine k.active k.chain (contexts.entry_value i.entries (codes "@base")))
    (λ based. then-fine (contexts.vocab_entry based (contexts.entry_value i.entries (codes "@vocab"))) _ (vocab-entry-fine based (contexts.entry_value i.entries (codes "@vocab")))
    (λ worded. then-fine (entries.nullable_entry code.InvalidDefaultLanguage (contexts.entry_value i.entries (codes "@language"))) _ (nullable-entry code.InvalidDefaultLanguage (contexts.entry_value i.entries (codes "@language")) refl)
    (λ language. then-fine (entries.direction_entry (contexts.entry_value i.entries (codes "@direction"))) _ (direction-entry (contexts.entry_value i.entries (codes "@direction")))
    (λ direction. then-fine (entries.boolean_entry code.InvalidPropagateValue (contexts.entry_value i.entries (codes "@propagate"))) _ (boolean-entry code.InvalidPropagateValue (contexts.entry_value i.entries (codes "@propagate")) refl)
    (λ _. then-fine (entries.boolean_entry code.InvalidProtectedValue (contexts.entry_value i.entries (codes "@protected"))) _ (boolean-entry code.InvalidProtectedValue (contexts.entry_value i.entries (codes "@protected")) refl)
    (λ protects. terms-fine (contexts.local_map i k protects) (contexts.direction_set (contexts.language_set worded language) direction)))))))))

null-fine : (origin : Option Text) → ChangeFine (contexts.null_change origin)
null-fine origin k = require-then (k.may_override || not (list_any contexts.is_protected k.active.level.terms)) code.InvalidContextNullification _ refl tt

abbrev RemoteFine : Remote → Type 0
RemoteFine remote = ((name : Text) → ChangeFine (remote.change name)) × EntriesFine remote

scalar-fine : (origin : Option Text) (remote : Remote) (v : Scalar) → RemoteFine remote → ChangeFine (contexts.scalar_change origin remote v)
scalar-fine origin remote Null h k = null-fine origin k
scalar-fine origin remote (Str name) h k = h.0 name k
scalar-fine origin remote (boolean b) h k = refl
scalar-fine origin remote (Number text) h k = refl

item-fine : (origin : Option Text) (remote : Remote) (t : Tree) → RemoteFine remote → ChangeFine (contexts.item_change origin remote t)
unfolding contexts.item_change
item-fine origin remote (scalar at v) h k = scalar-fine origin remote v h k
item-fine origin remote (array at xs) h k = refl
item-fine origin remote (object at ms) h k = map-fine remote (contexts.entries_of origin remote ms) h.1 k

items-fine : (origin : Option Text) (remote : Remote) (xs : Trees) → RemoteFine remote → ChangeFine (contexts.items_change origin remote xs)
unfolding contexts.items_change
items-fine origin remote no_item h k = tt
items-fine origin remote (item x rest) h k = then-fine (contexts.item_change origin remote x k) _ (item-fine origin remote x h k) (λ c. items-fine origin remote rest h _)

whole-fine : (origin : Option Text) (remote : Remote) (t : Tree) → RemoteFine remote → ChangeFine (contexts.whole_change origin remote t)
unfolding contexts.whole_change
whole-fine origin remote (scalar at v) h k = scalar-fine origin remote v h (contexts.begin (scalar at v) k)
whole-fine origin remote (array at xs) h k = items-fine origin remote xs h (contexts.begin (array at xs) k)
whole-fine origin remote (object at ms) h k = map-fine remote (contexts.entries_of origin remote ms) h.1 (contexts.begin (object at ms) k)

map-entries-fine : (origin : Option Text) (remote : Remote) (t : Tree) → Fine (contexts.map_entries origin remote t)
map-entries-fine origin remote (object at ms) = tt
map-entries-fine origin remote (scalar at v) = refl
map-entries-fine origin remote (array at xs) = refl

named-fine : (library : Library) (origin : Option Text) (remote : Remote) (text : Text) → RemoteFine remote → ChangeFine (contexts.named_change library origin remote text)
named-fine library origin remote text h k =
    then-fine (contexts.address k.url text) _ (address-fine k.url text)
    (λ name. either-fine (not k.validate && is_among k.chain name) _ _ tt
    (require-then (not (contexts.is_full k.chain)) code.ContextOverflow _ refl
    (then-fine (contexts.loaded (find_handed library name)) _ (loaded-fine (find_handed library name)) (λ t. whole-fine origin remote t h (contexts.file_task name k)))))

remotes-fine : (library : Library) (origin : Option Text) (n : ℕ) → RemoteFine (contexts.remotes library origin n)
unfolding contexts.remotes
remotes-fine library origin zero = (λ name k. refl, λ name. refl)
remotes-fine library origin (suc n) = (
  λ name k. named-fine library origin (contexts.remotes library origin n) name (remotes-fine library origin n) k,
  λ name. then-fine (contexts.loaded (find_handed library name)) _ (loaded-fine (find_handed library name)) (λ t. map-entries-fine origin (contexts.remotes library origin n) t),
)

process-fine : (library : Library) (origin : Option Text) (t : Tree) → ChangeFine (process library origin t)
unfolding process
process-fine library origin t k = whole-fine origin (contexts.remotes library origin 33) t (remotes-fine library origin 33) k

-- ---- the contexts of an object

pub applied-fine : (s : Settings) (may_override propagate : Bool) (x : Option Scoped) (c : Context) → Fine (inside.apply_scoped s may_override propagate x c)
applied-fine s may_override propagate None c = tt
applied-fine s may_override propagate (Some x) c = process-fine s.library s.base x.local _

-- the same of faults
abbrev pub FaultFine : {A : Type 0} → Result A Fault → Type 0
FaultFine (Ok x) = Unit {0}
FaultFine (Err f) = is_not_yet f.code ≡ false

at-place-fine : {A : Type 0} (at : ℕ) (r : Result A Code) → Fine r → FaultFine (inside.at_place at r)
at-place-fine at (Ok x) h = tt
at-place-fine at (Err c) h = h

and-then-fine : {A B : Type 0} (r : Result A Fault) (f : A → Result B Fault) → FaultFine r → ((x : A) → FaultFine (f x)) → FaultFine (inside.and_then r f)
and-then-fine (Ok x) f a b = b x
and-then-fine (Err e) f a b = a

own-fine : (s : Settings) (own : Option Own) (c : Context) → FaultFine (inside.apply_own s own c)
own-fine s None c = tt
own-fine s (Some own) c = at-place-fine own.at (process s.library s.base own.local _) (process-fine s.library s.base own.local _)

types-fine : (s : Settings) (b : Context) (texts : List Text) (c : Context) → Fine (inside.final_context s b texts c)
unfolding inside.final_context
types-fine s b [] c = tt
types-fine s b (text ∷ texts) c = by (inside.apply_scoped s false false (scoped_in (term b text)) c) refl (applied-fine s false false (scoped_in (term b text)) c) (λ d. types-fine s b texts d)
  where
    by : (r : Result Context Code) → inside.apply_scoped s false false (scoped_in (term b text)) c ≡ r → Fine r → ((d : Context) → Fine (inside.final_context s b texts d)) → Fine (inside.final_context s b (text ∷ texts) c)
    by (Ok d) e h next = rw (e) (next d)
    by (Err x) e h next = rw (e) h

pub decided-fine : (s : Settings) (c : Context) (under : Under) (stand : Stand) (at : ℕ) (ms : Members) → FaultFine (decide s c under stand at ms)
unfolding decide
decided-fine s c under stand at ms =
    and-then-fine (inside.type_base s c under at _ _) _ (and-then-fine (inside.at_place at (inside.property_context s c under _)) _ (at-place-fine at _ (applied-fine s true true _ _)) (λ x. own-fine s _ x))
    (λ b. and-then-fine (inside.at_place at (inside.final_context s b _ b)) _ (at-place-fine at _ (types-fine s b _ b)) (λ d. tt))
