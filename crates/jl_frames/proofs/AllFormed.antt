-- No quad of what a document says is ill-formed: whatever its form, its contexts and the order.
use Rattle.std.proofs.Common.{if◌then◌else◌, ℕ, zero, suc, ◌+◌, ◌<◌, ◌%◌, ◌/◌, ◌≡◌, refl, sym, ◌∙◌, ap, subst, Bool, true, false, not, ◌&&◌, ◌||◌, ◌==◌, cond, inl, inr, List, [], ◌∷◌, ◌++◌, Option, Some, None, Result, Ok, Err, arith, codes, flat_map, drop, bytes_eq}
use Rattle.std.proofs.lemmas.Bool.{cases_Bool, and_from, and_parts, eqb-true, ltb-true, agree_below_at}
use Rattle.std.proofs.lemmas.Slice.Eq.{bytes_eq-Decides}
use Rattle.std.specs.List.{list_all}
use Rattle.std.specs.Str.{is_utf8, chars}
use Rattle.std.specs.Fmt.{digit_glyph, digits_onto, digits, decimal}
use lib.Utf8.{scalar as is_code_point, scalars, next, encode, encodes, scalar_cases}
use lib.Dec.{ltb}
use Rattle.jl_model.specs.JsonTree.{Tree, scalar, array, object, Members, Trees, no_item, item, no_member, member}
use Rattle.jl_model.specs.Labels.{is_word_byte, is_label_byte, last_byte, is_kept_label}
use Rattle.jl_model.specs.Ren.{hex_digit, hex_byte, begins_jl, ren}
use Rattle.jl_model.specs.Tags.{is_language_tag}
use Rattle.jl_model.specs.Parts.{rdf_lang_string, Parts, parts_of}
use Rattle.jl_model.specs.declared.scalars.Scalar.{Scalar}
use Rattle.jl_model.specs.declared.scalars.Scalar.TheVariants.{Null, Bool as boolean, Number, Str}
use Rattle.jl_model.specs.declared.codes.Code.{Code}
use Rattle.jl_model.specs.declared.terms.Term.{Term}
use Rattle.jl_model.specs.declared.terms.Term.TheVariants.{Iri, Blank, Literal}
use Rattle.jl_model.specs.declared.expansions.Expanded.{Expanded}
use Rattle.jl_model.specs.declared.graph_scopes.GraphScope.{GraphScope}
use Rattle.jl_model.specs.declared.graph_scopes.GraphScope.TheVariants.{LeftOut, Main, Named}
use Rattle.jl_model.specs.declared.map_kinds.MapKind.{MapKind}
use Rattle.jl_model.specs.declared.expansions.Expanded.TheVariants as expanded
use Rattle.jl_model.specs.declared.map_kinds.MapKind.TheVariants as map_kind
use Rattle.jl_model.specs.declared.faults.Fault.{Fault}
use Rattle.jl_defs.specs.Texts.{Text, is_iri, is_blank}
use Rattle.jl_defs.specs.Context.{TermDef, Context, term}
use Rattle.jl_defs.specs.IriExpansion.{expand_iri}
use Rattle.jl_defs.specs.ObjectContexts.{Inside, decide, property_context}
use Rattle.jl_defs.specs.Items.{Naming, named, by_object, by_graph}
use Rattle.jl_defs.specs.Keys.{is_language, is_value, Key, kind, graph, included, reverse, nest, property, key_of, is_list, is_set, is_graph}
use Rattle.jl_defs.specs.Values.{Valued, reference, literal, left_out, refused, tagged, numbered, number_literal, type_or, xsd_integer, xsd_double, literal_of, kind_under, language_under, datatype_by, reference_to, string_by, has_kind, string_value, value_of}
use Rattle.jl_defs.specs.ValueObjects as objects
use Rattle.jl_defs.specs.ValueObjects.{ValueType, first_with, value_type, is_json_type, type_iri, string_or_none, json_number_value, json_value, typed_literal, object_value, value_in, unless_refused, expand_type, value_object as value_of_object}
use Rattle.jl_defs.specs.Numbers.{integer_number, double_number, json_number}
use Rattle.jl_defs.specs.Maps.{Addition, adds_nothing, adds_property, name_added, type_added, property_added, index_added, addition_by, is_none_key, map_kind_of, addition, language_string, adds_name, adds_type, entry_context, language_key}
use Rattle.jl_defs.specs.NodeMap.{term_of_text, term_of_node, graph_of, rdf_type}
use Rattle.jl_defs.specs.Dataset.{Head, cell_at, term_of_value, link, turned, with_terms, quad_in, cell_head, is_whole, rdf_first, rdf_nil}
use Rattle.jl_defs.specs.Settings.{Settings, Under, no_property, graph_property, reverse_property, property_of, elsewhere, term_under, lists}
use Rattle.jl_defs.specs.Kept.{Role, own_member, nested_member, reversed_member, is_admitted, Form, json_form, language_form, map_form, plain_form, form_of, nest_inside, value_gives, entries, is_list_object}
use Rattle.jl_defs.specs.Graphs.{Shape, value_object, list_object, set_object, language_alone, graph_alone, node_object, reads_as_graph, shape_of}
use Rattle.jl_defs.specs.Expansion.{naming, type_strings, is_plain_graph}
use Rattle.jl_laws.specs.Spots.{Hanging, linked, listed, loose, Around, document, ordinary, graphs, map_entry, graph_map_entry, Said, hangs, head, in_scope, added, named_by, Own, says_nothing, plain_node, graph_node, node_says, graph_object_says, no_content, value_says, scalar_says, Content, loose_content, ended, list_hangs, plain_list, list_says, Spot, spot, inside, inside_list, stand_of, moved, then_says}
use Rattle.jl_laws.specs.Says.{scalar_in, scalar_at, decided_says, decided_quads, nested_quads, value_at_spot, graph_at_spot, object_says, inner_says, if_key_is, type_says, types_say, language_items_say, language_entry_says, language_entries_say, language_map_says, entry_around, in_entry, is_given, if_given, contained_says, by_form, by_key, property_head, in_graph, walk, walk_all, walk_key, members_say, nested_says, all_nested_say, reversed_says, map_says, map_entries_say, says, root_spot}
use Rattle.jl_frames.specs.Formed.{is_node, is_language as is_fine_language, is_object, is_graph as is_fine_graph, is_formed, formed}

-- ==== The terms of texts, of nodes and of values are well-formed.

-- a term where there is one is a node, or an object
abbrev pub NodeOrNone : Option Term → Type 0
NodeOrNone None = Unit {0}
NodeOrNone (Some t) = is_node t ≡ true

abbrev pub ObjectOrNone : Option Term → Type 0
ObjectOrNone None = Unit {0}
ObjectOrNone (Some t) = is_object t ≡ true

-- a graph that is named is named by a node
abbrev pub FineScope : GraphScope → Type 0
FineScope LeftOut = Unit {0}
FineScope Main = Unit {0}
FineScope (Named g) = is_node g ≡ true

-- where quads hang is well-formed
abbrev pub FineHead : Head → Type 0
FineHead h = NodeOrNone h.subject × FineScope h.scope

-- a language stands with its own datatype and is well-formed
abbrev pub FineValued : Valued → Type 0
FineValued (literal lit) = is_fine_language lit.datatype lit.language ≡ true
FineValued v = Unit {0}

-- so does what a map's key adds
abbrev pub FineAddition : Addition → Type 0
FineAddition (adds_property p v) = FineValued v
FineAddition a = Unit {0}

pub node-object : (t : Term) → is_node t ≡ true → is_object t ≡ true
node-object (Iri iri) e = e
node-object (Blank label) e = e
node-object (Literal lit) e = absurd cc

pub node-or : (o : Option Term) → NodeOrNone o → ObjectOrNone o
node-or None f = tt
node-or (Some t) f = node-object t f

pub graph-fine : (n : Option Term) → NodeOrNone n → FineScope (graph_of n)
graph-fine None f = tt
graph-fine (Some t) f = f

-- ---- labels

abbrev AllWords : List ℕ → Type 0
AllWords [] = Unit {0}
AllWords (c ∷ cs) = (is_word_byte c ≡ true) × AllWords cs

words-labels : (cs : List ℕ) → AllWords cs → list_all is_label_byte cs ≡ true
words-labels [] a = refl
words-labels (c ∷ cs) a = and_from (is_label_byte c) (list_all is_label_byte cs) (ap (λ b. b || (c == 45 || c == 46)) a.0) (words-labels cs a.1)

not-dot : (c : ℕ) → is_word_byte c ≡ true → (c == 46) ≡ false
not-dot c w =
    elim (cases_Bool (c == 46)) [
      | inl e ↦ let dot : c ≡ 46 = eqb-true c 46 e in let none : false ≡ true = ap is_word_byte (sym dot) ∙ w in absurd cc
      | inr e ↦ e
    ]

words-end : (c : ℕ) (cs : List ℕ) → is_word_byte c ≡ true → AllWords cs → (last_byte c cs == 46) ≡ false
words-end c [] w a = not-dot c w
words-end c (d ∷ ds) w a = words-end d ds a.0 a.1

words-kept : (c : ℕ) (cs : List ℕ) → is_word_byte c ≡ true → AllWords cs → is_kept_label (c ∷ cs) ≡ true
words-kept c cs w a =
    and_from (is_word_byte c) (list_all is_label_byte cs && not (last_byte c cs == 46)) w
    (and_from (list_all is_label_byte cs) (not (last_byte c cs == 46)) (words-labels cs a) (ap not (words-end c cs w a)))

digit-word : (d : ℕ) → d < 16 → is_word_byte (hex_digit d) ≡ true
digit-word d h = agree_below_at (λ x. is_word_byte (hex_digit x)) (λ x. true) 16 d refl h

glyph-word : (d : ℕ) → d < 10 → is_word_byte (digit_glyph false d) ≡ true
glyph-word d h = agree_below_at (λ x. is_word_byte (digit_glyph false x)) (λ x. true) 10 d refl h

digits-words : (k n : ℕ) (rest : List ℕ) → AllWords rest → AllWords (digits_onto k 10 false n rest)
digits-words zero n rest a = a
digits-words (suc k) n rest a = by (n / 10 == 0) (glyph-word (n % 10) (omega arith)) (λ ds b. digits-words k (n / 10) ds b)
  where
    by : (b : Bool) → is_word_byte (digit_glyph false (n % 10)) ≡ true → ((ds : List ℕ) → AllWords ds → AllWords (digits_onto k 10 false (n / 10) ds)) →
        AllWords (if b then digit_glyph false (n % 10) ∷ rest else digits_onto k 10 false (n / 10) (digit_glyph false (n % 10) ∷ rest))
    by true w more = (w, a)
    by false w more = more (digit_glyph false (n % 10) ∷ rest) (w, a)

decimal-words : (n : ℕ) → AllWords (decimal n)
unfolding digits
decimal-words n = digits-words 64 n [] tt

-- ---- bytes of UTF-8

abbrev AllBytes : List ℕ → Type 0
AllBytes [] = Unit {0}
AllBytes (c ∷ cs) = (c < 256) × AllBytes cs

bytes-both : (xs ys : List ℕ) → AllBytes xs → AllBytes ys → AllBytes (xs ++ ys)
bytes-both [] ys a b = b
bytes-both (x ∷ xs) ys a b = (a.0, bytes-both xs ys a.1 b)

scalar-below : (c : ℕ) → is_code_point c ≡ true → c < 1114112
scalar-below c e = elim (scalar_cases c e) [ inl h ↦ omega (arith, h) | inr h ↦ h.1 ]

encode-bytes : (c : ℕ) → c < 1114112 → AllBytes (encode c)
unfolding encode
encode-bytes c h = by (ltb c 128) (ltb c 2048) (ltb c 65536) (λ e. ltb-true c 128 e) (λ e. ltb-true c 2048 e) (λ e. ltb-true c 65536 e)
  where
    by : (x y z : Bool) → (x ≡ true → c < 128) → (y ≡ true → c < 2048) → (z ≡ true → c < 65536) →
        AllBytes (cond x (c ∷ []) (cond y ((192 + c / 64) ∷ next c ∷ []) (cond z ((224 + c / 4096) ∷ next (c / 64) ∷ next c ∷ []) ((240 + c / 262144) ∷ next (c / 4096) ∷ next (c / 64) ∷ next c ∷ []))))
    by true y z a b d = let l : c < 128 = a refl in (omega (arith, l), tt)
    by false true z a b d = let l : c < 2048 = b refl in (omega (arith, l), (omega arith, tt))
    by false false true a b d = let l : c < 65536 = d refl in (omega (arith, l), (omega arith, (omega arith, tt)))
    by false false false a b d = (omega (arith, h), (omega arith, (omega arith, (omega arith, tt))))

all-bytes : (cs : List ℕ) → scalars cs ≡ true → AllBytes (encodes cs)
all-bytes [] e = tt
all-bytes (c ∷ cs) e = let p = and_parts (is_code_point c) (scalars cs) e in bytes-both (encode c) (encodes cs) (encode-bytes c (scalar-below c p.0)) (all-bytes cs p.1)

utf8-bytes : (text : Text) → is_utf8 text ≡ true → AllBytes text
unfolding is_utf8
utf8-bytes text e =
    let p = and_parts (scalars (chars text)) (bytes_eq (encodes (chars text)) text) e in
    subst AllBytes ((bytes_eq-Decides (encodes (chars text)) text).0 p.1) (all-bytes (chars text) p.0)

behind-two : (text : Text) → AllBytes text → AllBytes (drop 2 text)
behind-two [] a = tt
behind-two (c ∷ []) a = tt
behind-two (c ∷ d ∷ ds) a = a.1.1

hex-words : (label : List ℕ) → AllBytes label → AllWords (flat_map hex_byte label)
hex-words [] a = tt
hex-words (c ∷ cs) a = (digit-word (c / 16) (omega (arith, a.0)), (digit-word (c % 16) (omega arith), hex-words cs a.1))

-- a renamed label is of the kept form
pub ren-label : (label : List ℕ) → AllBytes label → is_kept_label (ren label) ≡ true
unfolding ren
ren-label label a = by (is_kept_label label && not (begins_jl label)) refl
  where
    by : (b : Bool) → (is_kept_label label && not (begins_jl label)) ≡ b → is_kept_label (elim b [ true ↦ label | false ↦ codes "jlx" ++ flat_map hex_byte label ]) ≡ true
    by true e = (and_parts (is_kept_label label) (not (begins_jl label)) e).0
    by false e = words-kept 106 (108 ∷ 120 ∷ flat_map hex_byte label) refl (refl, (refl, hex-words label a))

pub cell-node : (at : ℕ) → is_node (cell_at at) ≡ true
cell-node at = words-kept 106 (108 ∷ 108 ∷ decimal at) refl (refl, (refl, decimal-words at))

-- ---- texts

pub text-node : (text : Text) → NodeOrNone (term_of_text text)
unfolding term_of_text
text-node text = by (is_iri text) (is_blank text && is_utf8 text) refl refl
  where
    by : (b c : Bool) → is_iri text ≡ b → (is_blank text && is_utf8 text) ≡ c → NodeOrNone (elim b [ true ↦ Some (Iri text) | false ↦ elim c [ true ↦ Some (Blank (ren (drop 2 text))) | false ↦ None ] ])
    by true c e f = e
    by false true e f = ren-label (drop 2 text) (behind-two text (utf8-bytes text (and_parts (is_blank text) (is_utf8 text) f).1))
    by false false e f = tt

pub node-term : (at : ℕ) (naming : Naming) → NodeOrNone (term_of_node at naming)
node-term at (named text) = text-node text
node-term at by_object = words-kept 106 (108 ∷ 98 ∷ decimal at) refl (refl, (refl, decimal-words at))
node-term at by_graph = words-kept 106 (108 ∷ 103 ∷ decimal at) refl (refl, (refl, decimal-words at))

-- ---- values

pub value-term : (v : Valued) → FineValued v → ObjectOrNone (term_of_value v)
value-term (reference name) f = node-or (term_of_text name) (text-node name)
value-term (literal lit) f = by (is_iri lit.datatype && is_utf8 lit.text) refl
  where
    by : (b : Bool) → (is_iri lit.datatype && is_utf8 lit.text) ≡ b → ObjectOrNone (elim b [ true ↦ Some (Literal lit) | false ↦ None ])
    by true e =
        let p = and_parts (is_iri lit.datatype) (is_utf8 lit.text) e in
        and_from (is_utf8 lit.text) (is_iri lit.datatype && is_fine_language lit.datatype lit.language) p.1 (and_from (is_iri lit.datatype) (is_fine_language lit.datatype lit.language) p.0 f)
    by false e = tt
value-term left_out f = tt
value-term (refused code) f = tt

tagged-fine : (text tag : Text) → FineValued (tagged text tag)
tagged-fine text tag = by (is_language_tag tag) refl
  where
    by : (b : Bool) → is_language_tag tag ≡ b → FineValued (elim b [ true ↦ literal (record { text = text; datatype = rdf_lang_string; language = Some tag }) | false ↦ left_out ])
    by true e = and_from (is_language_tag tag) (bytes_eq rdf_lang_string rdf_lang_string) e ((bytes_eq-Decides rdf_lang_string rdf_lang_string).1 refl)
    by false e = tt

numbered-fine : (datatype : Text) (r : Result Text Code) → FineValued (numbered datatype r)
numbered-fine datatype (Ok text) = refl
numbered-fine datatype (Err code) = tt

number-fine : (token datatype : Text) → FineValued (number_literal token datatype)
number-fine token datatype = by (bytes_eq datatype xsd_double)
  where
    by : (b : Bool) → FineValued (elim b [ true ↦ numbered datatype (double_number token) | false ↦ numbered datatype (integer_number token) ])
    by true = numbered-fine datatype (double_number token)
    by false = numbered-fine datatype (integer_number token)

literal-fine : (v : Scalar) (datatype language : Option Text) → FineValued (literal_of v datatype language)
unfolding literal_of
literal-fine Null datatype language = tt
literal-fine (boolean true) datatype language = refl
literal-fine (boolean false) datatype language = refl
literal-fine (Number token) datatype language = number-fine token (type_or datatype xsd_integer)
literal-fine (Str text) datatype None = refl
literal-fine (Str text) datatype (Some tag) = tagged-fine text tag

reference-fine : (e : Expanded) → FineValued (reference_to e)
reference-fine expanded.Null = tt
reference-fine x = tt

string-by-fine : (c : Context) (t : Option TermDef) (text : Text) (datatype : Option Text) → FineValued (string_by c t text datatype)
string-by-fine c t text (Some datatype) = literal-fine (Str text) (Some datatype) None
string-by-fine c t text None = literal-fine (Str text) None (language_under t c.level.language)

string-fine : (c : Context) (t : Option TermDef) (text : Text) → FineValued (string_value c t text)
string-fine c t text = by (has_kind (codes "@id") (kind_under t)) (has_kind (codes "@vocab") (kind_under t))
  where
    by : (a b : Bool) → FineValued (elim a [ true ↦ reference_to (expand_iri c text false true) | false ↦ elim b [ true ↦ reference_to (expand_iri c text true true) | false ↦ string_by c t text (datatype_by (kind_under t)) ] ])
    by true b = reference-fine (expand_iri c text false true)
    by false true = reference-fine (expand_iri c text true true)
    by false false = string-by-fine c t text (datatype_by (kind_under t))

pub value-fine : (c : Context) (name : Text) (v : Scalar) → FineValued (value_of c name v)
unfolding value_of
value-fine c name (Str text) = string-fine c (term c name) text
value-fine c name Null = literal-fine Null (datatype_by (kind_under (term c name))) None
value-fine c name (boolean b) = literal-fine (boolean b) (datatype_by (kind_under (term c name))) None
value-fine c name (Number token) = literal-fine (Number token) (datatype_by (kind_under (term c name))) None

json-number-fine : (t : Tree) (r : Result Text Code) → FineValued (json_number_value t r)
json-number-fine t (Ok text) = refl
json-number-fine t (Err code) = tt

pub json-fine : (t : Tree) → FineValued (json_value t)
json-fine (scalar at (Number token)) = json-number-fine (scalar at (Number token)) (json_number token)
json-fine x = refl

typed-fine : (t : ValueType) (language : Option Text) (v : Tree) → FineValued (typed_literal t language v)
typed-fine t language (scalar at v) = literal-fine v (type_iri t) language
typed-fine t language (array at xs) = tt
typed-fine t language (object at ms) = tt

object-value-fine : (t : ValueType) (language : Option Text) (v : Tree) → FineValued (object_value t language v)
object-value-fine t language v =
    elim (is_json_type t) as (λ b. FineValued (elim b [ true ↦ json_value v | false ↦ typed_literal t language v ])) [ true ↦ json-fine v | false ↦ typed-fine t language v ]

unless-fine : (v : Valued) → FineValued v → FineValued (unless_refused v)
unless-fine (literal lit) f = f
unless-fine x f = tt

value-in-fine : (i : Inside) (ms : Members) (v : Option Tree) → FineValued (value_in i ms v)
value-in-fine i ms None = tt
value-in-fine i ms (Some v) = object-value-fine (value_type i ms) (string_or_none (first_with is_language i.final ms)) v

pub value-object-fine : (i : Inside) (ms : Members) → FineValued (unless_refused (objects.value_object i ms))
value-object-fine i ms = unless-fine (objects.value_object i ms) (value-in-fine i ms (first_with is_value i.final ms))

pub language-fine : (tag : Option Text) (text : Text) → FineValued (language_string tag text)
language-fine None text = refl
language-fine (Some tag) text = tagged-fine text tag

-- ---- what a map's key adds

name-added-fine : (e : Expanded) → FineAddition (name_added e)
name-added-fine expanded.Null = tt
name-added-fine x = tt

type-added-fine : (e : Expanded) → FineAddition (type_added e)
type-added-fine expanded.Null = tt
type-added-fine x = tt

property-added-fine : (d : Context) (index name : Text) (e : Expanded) → FineAddition (property_added d index name e)
property-added-fine d index name expanded.Null = tt
property-added-fine d index name (expanded.Keyword text) = tt
property-added-fine d index name (expanded.Name text) = value-fine d index (Str name)

index-added-fine : (d : Context) (index : Option Text) (name : Text) → FineAddition (index_added d index name)
index-added-fine d None name = tt
index-added-fine d (Some index) name = property-added-fine d index name (expand_iri d index true false)

addition-by-fine : (d : Context) (t : TermDef) (name : Text) (k : Option MapKind) → FineAddition (addition_by d t name k)
addition-by-fine d t name (Some map_kind.PropertyIndex) = index-added-fine d t.index name
addition-by-fine d t name (Some map_kind.GraphPropertyIndex) = index-added-fine d t.index name
addition-by-fine d t name (Some map_kind.Id) = name-added-fine (expand_iri d name false true)
addition-by-fine d t name (Some map_kind.GraphId) = name-added-fine (expand_iri d name false true)
addition-by-fine d t name (Some map_kind.Kind) = type-added-fine (expand_iri d name true false)
addition-by-fine d t name x = tt

pub addition-fine : (d : Context) (t : TermDef) (name : Text) → FineAddition (addition d t name)
addition-fine d t name =
    elim (is_none_key d name) as (λ b. FineAddition (elim b [ true ↦ adds_nothing | false ↦ addition_by d t name (map_kind_of t) ])) [ true ↦ tt | false ↦ addition-by-fine d t name (map_kind_of t) ]

-- ==== What hangs where quads are well-formed is well-formed.

-- each of the quads is well-formed
abbrev pub AllFormed : List Parts → Type 0
AllFormed [] = Unit {0}
AllFormed (q ∷ qs) = (is_formed q ≡ true) × AllFormed qs

pub both-formed : (xs ys : List Parts) → AllFormed xs → AllFormed ys → AllFormed (xs ++ ys)
both-formed [] ys a b = b
both-formed (x ∷ xs) ys a b = (a.0, both-formed xs ys a.1 b)

pub all-kept : (qs : List Parts) → AllFormed qs → formed qs ≡ qs
all-kept [] a = refl
all-kept (q ∷ qs) a = by (is_formed q) a.0 (all-kept qs a.1)
  where
    by : (b : Bool) → b ≡ true → formed qs ≡ qs → (if b then q ∷ formed qs else formed qs) ≡ q ∷ qs
    by true e r = ap (λ zs. q ∷ zs) r
    by false e r = absurd cc

-- the quads, and where the next item hangs
abbrev pub FineSaid : Said → Type 0
FineSaid x = AllFormed x.0 × FineHead x.1

abbrev pub FineOwn : Own → Type 0
FineOwn own = (n : Option Term) (scope : GraphScope) → NodeOrNone n → FineScope scope → AllFormed (own n scope)

abbrev pub FineContent : Content → Type 0
FineContent content = (hanging : Hanging) (h : Head) → FineHead h → FineSaid (content hanging h)

abbrev pub FineAround : Around → Type 0
FineAround (map_entry adds) = FineAddition adds
FineAround (graph_map_entry adds) = FineAddition adds
FineAround x = Unit {0}

-- ---- one quad

a-quad : (s : Term) (p : Text) (o : Term) (g : Option Term) → is_node s ≡ true → is_iri p ≡ true → is_object o ≡ true → is_fine_graph g ≡ true → is_formed (parts_of s p o g) ≡ true
unfolding is_formed
a-quad s p o g a b c d = and_from (is_node s) (is_iri p && (is_object o && is_fine_graph g)) a (and_from (is_iri p) (is_object o && is_fine_graph g) b (and_from (is_object o) (is_fine_graph g) c d))

quad-formed : (scope : GraphScope) (s : Term) (p : Text) (o : Term) → is_node s ≡ true → is_iri p ≡ true → is_object o ≡ true → FineScope scope → AllFormed (quad_in scope s p o)
quad-formed LeftOut s p o a b c d = tt
quad-formed Main s p o a b c d = (a-quad s p o None a b c refl, tt)
quad-formed (Named g) s p o a b c d = (a-quad s p o (Some g) a b c d, tt)

turned-formed : (forward : Bool) (scope : GraphScope) (s : Term) (p : Text) (o : Term) → is_node s ≡ true → is_iri p ≡ true → is_object o ≡ true → FineScope scope → AllFormed (turned forward scope s p o)
turned-formed true scope (Iri iri) p o a b c d = quad-formed scope (Iri iri) p o a b c d
turned-formed true scope (Blank label) p o a b c d = quad-formed scope (Blank label) p o a b c d
turned-formed true scope (Literal lit) p o a b c d = tt
turned-formed false scope s p (Iri iri) a b c d = quad-formed scope (Iri iri) p s c b (node-object s a) d
turned-formed false scope s p (Blank label) a b c d = quad-formed scope (Blank label) p s c b (node-object s a) d
turned-formed false scope s p (Literal lit) a b c d = tt

terms-formed : (forward : Bool) (scope : GraphScope) (n : Option Term) (p : Text) (o : Option Term) → NodeOrNone n → is_iri p ≡ true → ObjectOrNone o → FineScope scope →
    AllFormed (with_terms n o (λ s t. turned forward scope s p t))
terms-formed forward scope (Some s) p (Some o) a b c d = turned-formed forward scope s p o a b c d
terms-formed forward scope (Some s) p None a b c d = tt
terms-formed forward scope None p o a b c d = tt

pub link-formed : (h : Head) (o : Option Term) → FineHead h → ObjectOrNone o → AllFormed (link h o)
unfolding link
link-formed h o f g = by (is_iri h.predicate) refl
  where
    by : (b : Bool) → is_iri h.predicate ≡ b → AllFormed (elim b [ true ↦ with_terms h.subject o (λ s t. turned h.forward h.scope s h.predicate t) | false ↦ [] ])
    by true e = terms-formed h.forward h.scope h.subject h.predicate o f.0 e g f.1
    by false e = tt

cell-object : (at : ℕ) → is_object (cell_at at) ≡ true
cell-object at = node-object (cell_at at) (cell-node at)

pub hangs-fine : (hanging : Hanging) (at : ℕ) (o : Option Term) (h : Head) → FineHead h → ObjectOrNone o → FineSaid (hangs hanging at o h)
hangs-fine linked at o h f g = (link-formed h o f g, f)
hangs-fine listed at o h f g =
    (both-formed (link h (Some (cell_at at))) (link (cell_head h.scope at rdf_first) o) (link-formed h (Some (cell_at at)) f (cell-object at)) (link-formed (cell_head h.scope at rdf_first) o (cell-node at, f.1) g), (cell-node at, f.1))
hangs-fine loose at o h f g = (tt, f)

-- ---- nodes

added-formed : (adds : Addition) (n : Option Term) (scope : GraphScope) → FineAddition adds → NodeOrNone n → FineScope scope → AllFormed (added adds n scope)
added-formed adds_nothing n scope a f g = tt
added-formed (adds_name text) n scope a f g = tt
added-formed (adds_type text) n scope a f g = link-formed (head n rdf_type scope) (term_of_text text) (f, g) (node-or (term_of_text text) (text-node text))
added-formed (adds_property p v) n scope a f g = link-formed (head n p scope) (term_of_value v) (f, g) (value-term v a)

plain-node-fine : (hanging : Hanging) (adds : Addition) (at : ℕ) (naming : Naming) (own : Own) (h : Head) → FineAddition adds → FineOwn own → FineHead h → FineSaid (plain_node hanging adds at naming own h)
plain-node-fine hanging adds at naming own h a o f =
    let n = term_of_node at (named_by adds naming) in
    let t : NodeOrNone n = node-term at (named_by adds naming) in
    let x = hangs-fine hanging at n h f (node-or n t) in (
      both-formed (own n h.scope) (added adds n h.scope ++ (hangs hanging at n h).0) (o n h.scope t f.1)
          (both-formed (added adds n h.scope) (hangs hanging at n h).0 (added-formed adds n h.scope a t f.1) x.0),
      x.1,
    )

graph-node-fine : (hanging : Hanging) (adds : Addition) (at : ℕ) (content : GraphScope → List Parts) (h : Head) → FineAddition adds → ((scope : GraphScope) → FineScope scope → AllFormed (content scope)) → FineHead h →
    FineSaid (graph_node hanging adds at content h)
graph-node-fine hanging adds at content h a c f = plain-node-fine hanging adds at by_graph (λ n scope. content (graph_of n)) h a (λ n scope t g. c (graph_of n) (graph-fine n t)) f

pub node-fine : (around : Around) (hanging : Hanging) (at : ℕ) (naming : Naming) (own : Own) (h : Head) → FineAround around → FineOwn own → FineHead h → FineSaid (node_says around hanging at naming own h)
node-fine document hanging at naming own h a o f = plain-node-fine hanging adds_nothing at naming own h tt o f
node-fine ordinary hanging at naming own h a o f = plain-node-fine hanging adds_nothing at naming own h tt o f
node-fine graphs hanging at naming own h a o f = graph-node-fine hanging adds_nothing at (own (term_of_node at naming)) h tt (λ scope g. o (term_of_node at naming) scope (node-term at naming) g) f
node-fine (map_entry adds) hanging at naming own h a o f = plain-node-fine hanging adds at naming own h a o f
node-fine (graph_map_entry adds) hanging at naming own h a o f = graph-node-fine hanging adds at (own (term_of_node at naming)) h a (λ scope g. o (term_of_node at naming) scope (node-term at naming) g) f

pub graph-object-fine : (around : Around) (hanging : Hanging) (at : ℕ) (naming : Naming) (own : Own) (h : Head) → FineAround around → FineOwn own → FineHead h → FineSaid (graph_object_says around hanging at naming own h)
graph-object-fine (graph_map_entry adds) hanging at naming own h a o f = plain-node-fine hanging adds at naming own h a o f
graph-object-fine x hanging at naming own h a o f = (tt, f)

-- ---- values and lists

pub value-said : (around : Around) (hanging : Hanging) (at : ℕ) (o : Option Term) (h : Head) → FineAround around → ObjectOrNone o → FineHead h → FineSaid (value_says around hanging at o h)
value-said graphs hanging at o h a t f = graph-node-fine hanging adds_nothing at no_content h tt (λ scope g. tt) f
value-said (graph_map_entry adds) hanging at o h a t f = graph-node-fine hanging adds at no_content h a (λ scope g. tt) f
value-said x hanging at o h a t f = hangs-fine hanging at o h f t

pub scalar-fine : (around : Around) (hanging : Hanging) (at : ℕ) (v : Valued) (h : Head) → FineAround around → FineValued v → FineHead h → FineSaid (scalar_says around hanging at v h)
scalar-fine around hanging at (reference name) h a v f = node-fine around hanging at (named name) says_nothing h a (λ n scope t g. tt) f
scalar-fine around hanging at (literal lit) h a v f = value-said around hanging at (term_of_value (literal lit)) h a (value-term (literal lit) v) f
scalar-fine around hanging at left_out h a v f = value-said around hanging at None h a tt f
scalar-fine around hanging at (refused code) h a v f = value-said around hanging at None h a tt f

nil-object : is_object rdf_nil ≡ true
unfolding is_utf8 chars encode
nil-object = refl

pub list-formed : (content : Content) (h : Head) → FineContent content → FineHead h → AllFormed (list_hangs content h)
list-formed content h c f = by (is_whole h)
  where
    by : (b : Bool) → AllFormed (elim b [ true ↦ ended (content listed h) | false ↦ loose_content content h ])
    by true = let x = c listed h f in both-formed (content listed h).0 (link (content listed h).1 (Some rdf_nil)) x.0 (link-formed (content listed h).1 (Some rdf_nil) x.1 nil-object)
    by false = (c loose h f).0

plain-list-fine : (hanging : Hanging) (at : ℕ) (content : Content) (h : Head) → FineContent content → FineHead h → FineSaid (plain_list hanging at content h)
plain-list-fine linked at content h c f = (list-formed content h c f, f)
plain-list-fine listed at content h c f =
    (both-formed (link h (Some (cell_at at))) (list_hangs content (cell_head h.scope at rdf_first)) (link-formed h (Some (cell_at at)) f (cell-object at)) (list-formed content (cell_head h.scope at rdf_first) c (cell-node at, f.1)), (cell-node at, f.1))
plain-list-fine loose at content h c f = ((c loose h f).0, f)

pub list-fine : (around : Around) (hanging : Hanging) (at : ℕ) (content : Content) (h : Head) → FineAround around → FineContent content → FineHead h → FineSaid (list_says around hanging at content h)
list-fine graphs hanging at content h a c f = graph-node-fine hanging adds_nothing at (λ scope. loose_content content (in_scope h scope)) h tt (λ scope g. (c loose (in_scope h scope) (f.0, g)).0) f
list-fine (graph_map_entry adds) hanging at content h a c f = graph-node-fine hanging adds at (λ scope. loose_content content (in_scope h scope)) h a (λ scope g. (c loose (in_scope h scope) (f.0, g)).0) f
list-fine x hanging at content h a c f = plain-list-fine hanging at content h c f

-- ==== No quad of what a document says is ill-formed: whatever its form, its contexts and the order.

then-fine : (first : Said) (next : Head → Said) → FineSaid first → ((h : Head) → FineHead h → FineSaid (next h)) → FineSaid (then_says first next)
then-fine first next a b = let c = b first.1 a.1 in (both-formed first.0 (next first.1).0 a.0 c.0, c.1)

inside-fine : (around : Around) → FineAround around → FineAround (inside around)
inside-fine (map_entry adds) a = a
inside-fine (graph_map_entry adds) a = a
inside-fine x a = tt

inside-list-fine : (around : Around) → FineAround (inside_list around)
inside-list-fine document = tt
inside-list-fine x = tt

scalar-in-fine : (p : Spot) (name : Text) (at : ℕ) (v : Scalar) (r : Result Context Code) → FineHead p.head → FineAround p.role.around → FineSaid (scalar_in p name at v r)
scalar-in-fine p name at v (Ok c) h a = scalar-fine p.role.around p.role.hanging at (value_of c name v) p.head a (value-fine c name v) h
scalar-in-fine p name at v (Err e) h a = (tt, h)

scalar-at-fine : (s : Settings) (p : Spot) (under : Under) (at : ℕ) (v : Scalar) → FineHead p.head → FineAround p.role.around → FineSaid (scalar_at s p under at v)
scalar-at-fine s p under at Null h a = (tt, h)
scalar-at-fine s p (property_of name) at v h a = scalar-in-fine p name at v (property_context s p.context (property_of name) p.context) h a
scalar-at-fine s p under at v h a = (tt, h)

value-at-fine : (b : Bool) (p : Spot) (i : Inside) (at : ℕ) (ms : Members) → FineHead p.head → FineAround p.role.around → FineSaid (value_at_spot b p i at ms)
value-at-fine true p i at ms h a =
    value-said p.role.around p.role.hanging at (term_of_value (unless_refused (value_of_object i ms))) p.head a (value-term (unless_refused (value_of_object i ms)) (value-object-fine i ms)) h
value-at-fine false p i at ms h a = (tt, h)

graph-at-fine : (around : Around) (p : Spot) (i : Inside) (at : ℕ) (ms : Members) (content : Unit {0} → Said) (own : Own) → FineHead p.head → FineAround around → FineSaid (content tt) → FineOwn own →
    FineSaid (graph_at_spot around p i at ms content own)
graph-at-fine document p i at ms content own h a c o = c
graph-at-fine (graph_map_entry adds) p i at ms content own h a c o = graph-object-fine (graph_map_entry adds) p.role.hanging at (naming i.final ms) own p.head a o h
graph-at-fine x p i at ms content own h a c o = (tt, h)

object-fine : (shape : Shape) (p : Spot) (i : Inside) (at : ℕ) (ms : Members) (its_list : Content) (its_set content : Unit {0} → Said) (own : Own) → FineHead p.head → FineAround p.role.around →
    FineContent its_list → FineSaid (its_set tt) → FineSaid (content tt) → FineOwn own → FineSaid (object_says shape p i at ms its_list its_set content own)
object-fine value_object p i at ms its_list its_set content own h a l m c o = value-at-fine (value_gives p.under i ms) p i at ms h a
object-fine list_object p i at ms its_list its_set content own h a l m c o = list-fine p.role.around p.role.hanging at its_list p.head a l h
object-fine set_object p i at ms its_list its_set content own h a l m c o = m
object-fine language_alone p i at ms its_list its_set content own h a l m c o = (tt, h)
object-fine graph_alone p i at ms its_list its_set content own h a l m c o = graph-at-fine p.role.around p i at ms content own h a c o
object-fine node_object p i at ms its_list its_set content own h a l m c o = node-fine p.role.around p.role.hanging at (naming i.final ms) own p.head a o h

decided-fine : (h : Head) (r : Result Inside Fault) (mine : Inside → Said) → FineHead h → ((i : Inside) → FineSaid (mine i)) → FineSaid (decided_says h r mine)
decided-fine h (Ok i) mine f m = m i
decided-fine h (Err e) mine f m = (tt, f)

decided-formed : (r : Result Inside Fault) (mine : Inside → List Parts) → ((i : Inside) → AllFormed (mine i)) → AllFormed (decided_quads r mine)
decided-formed (Ok i) mine m = m i
decided-formed (Err e) mine m = tt

nested-formed : (r : Result Inside Code) (mine : Inside → List Parts) → ((i : Inside) → AllFormed (mine i)) → AllFormed (nested_quads r mine)
nested-formed (Ok i) mine m = m i
nested-formed (Err e) mine m = tt

entry-formed : (r : Result Context Code) (mine : Context → List Parts) → ((c : Context) → AllFormed (mine c)) → AllFormed (in_entry r mine)
entry-formed (Ok c) mine m = m c
entry-formed (Err e) mine m = tt

inner-fine : (b : Bool) (p : Spot) (at : ℕ) (content : Content) (joined : Unit {0} → Said) → FineHead p.head → FineAround p.role.around → FineContent content → FineSaid (joined tt) → FineSaid (inner_says b p at content joined)
inner-fine true p at content joined h a c j = list-fine p.role.around p.role.hanging at content p.head a c h
inner-fine false p at content joined h a c j = j

key-is-fine : (b : Bool) (said : Unit {0} → Said) (h : Head) → FineHead h → FineSaid (said tt) → FineSaid (if_key_is b said h)
key-is-fine true said h f m = m
key-is-fine false said h f m = (tt, f)

given-formed : (b : Bool) (quads : Unit {0} → List Parts) → AllFormed (quads tt) → AllFormed (if_given b quads)
given-formed true quads m = m
given-formed false quads m = tt

-- types
type-formed : (n : Option Term) (scope : GraphScope) (e : Expanded) → NodeOrNone n → FineScope scope → AllFormed (type_says n scope e)
type-formed n scope expanded.Null a b = tt
type-formed n scope (expanded.Keyword text) a b = link-formed (head n rdf_type scope) (term_of_text text) (a, b) (node-or (term_of_text text) (text-node text))
type-formed n scope (expanded.Name text) a b = link-formed (head n rdf_type scope) (term_of_text text) (a, b) (node-or (term_of_text text) (text-node text))

types-formed : (n : Option Term) (scope : GraphScope) (b : Context) (texts : List Text) → NodeOrNone n → FineScope scope → AllFormed (types_say n scope b texts)
types-formed n scope b [] f g = tt
types-formed n scope b (text ∷ texts) f g = both-formed (type_says n scope (expand_type b text)) (types_say n scope b texts) (type-formed n scope (expand_type b text) f g) (types-formed n scope b texts f g)

-- the strings of language maps
language-string : (h : Head) (tag : Option Text) (text : Text) → FineHead h → AllFormed (link h (term_of_value (language_string tag text)))
language-string h tag text f = link-formed h (term_of_value (language_string tag text)) f (value-term (language_string tag text) (language-fine tag text))

language-items : (h : Head) (tag : Option Text) (xs : Trees) → FineHead h → AllFormed (language_items_say h tag xs)
language-items h tag no_item f = tt
language-items h tag (item (scalar at (Str text)) rest) f =
    both-formed (link h (term_of_value (language_string tag text))) (language_items_say h tag rest) (language-string h tag text f) (language-items h tag rest f)
language-items h tag (item x rest) f = language-items h tag rest f

language-entry : (h : Head) (tag : Option Text) (v : Tree) → FineHead h → AllFormed (language_entry_says h tag v)
language-entry h tag (scalar at (Str text)) f = language-string h tag text f
language-entry h tag (scalar at v) f = tt
language-entry h tag (array at xs) f = language-items h tag xs f
language-entry h tag (object at ms) f = tt

language-entries : (h : Head) (d : Context) (ms : Members) → FineHead h → AllFormed (language_entries_say h d ms)
language-entries h d no_member f = tt
language-entries h d (member a n v rest) f =
    both-formed (language_entry_says h (language_key d n) v) (language_entries_say h d rest) (language-entry h (language_key d n) v f) (language-entries h d rest f)

language-map : (h : Head) (d : Context) (v : Tree) → FineHead h → AllFormed (language_map_says h d v)
language-map h d (scalar at v) f = tt
language-map h d (array at xs) f = tt
language-map h d (object at ms) f = language-entries h d ms f

entry-around-fine : (s : Settings) (d : Context) (t : TermDef) (name : Text) → FineAround (entry_around s d t name)
entry-around-fine s d t name = by t.containers.graph (addition-fine d t name)
  where
    by : (b : Bool) → FineAddition (addition d t name) → FineAround (elim b [ true ↦ graph_map_entry (addition d t name) | false ↦ map_entry (addition d t name) ])
    by true f = f
    by false f = f

contained-formed : (t : Option TermDef) (is_a_list is_it_given : Bool) (h : Head) (content : Content) (around_says : Around → List Parts) → FineHead h → FineContent content →
    AllFormed (around_says graphs) → AllFormed (around_says ordinary) → AllFormed (contained_says t is_a_list is_it_given h content around_says)
contained-formed t is_a_list is_it_given h content around_says f c g o = by (lists t && not is_a_list) (is_plain_graph t)
  where
    by : (l p : Bool) → AllFormed (elim l [ true ↦ if_given is_it_given (λ _. list_hangs content h) | false ↦ elim p [ true ↦ around_says graphs | false ↦ around_says ordinary ] ])
    by true p = given-formed is_it_given (λ _. list_hangs content h) (list-formed content h c f)
    by false true = g
    by false false = o

form-formed : (k : Form) (t : Option TermDef) (json languages : Unit {0} → List Parts) (mapped : TermDef → List Parts) (plain : Unit {0} → List Parts) →
    AllFormed (json tt) → AllFormed (languages tt) → ((d : TermDef) → AllFormed (mapped d)) → AllFormed (plain tt) → AllFormed (by_form k t json languages mapped plain)
form-formed json_form t json languages mapped plain j l m p = j
form-formed language_form t json languages mapped plain j l m p = l
form-formed map_form None json languages mapped plain j l m p = tt
form-formed map_form (Some d) json languages mapped plain j l m p = m d
form-formed plain_form t json languages mapped plain j l m p = p

key-formed : (k : Key) (properties : Text → List Parts) (types held included_says nested reversed : Unit {0} → List Parts) → ((iri : Text) → AllFormed (properties iri)) →
    AllFormed (types tt) → AllFormed (held tt) → AllFormed (included_says tt) → AllFormed (nested tt) → AllFormed (reversed tt) → AllFormed (by_key k properties types held included_says nested reversed)
key-formed (property name) ps ts gs is ns rs p t g i n r = p name
key-formed kind ps ts gs is ns rs p t g i n r = t
key-formed graph ps ts gs is ns rs p t g i n r = g
key-formed included ps ts gs is ns rs p t g i n r = i
key-formed nest ps ts gs is ns rs p t g i n r = n
key-formed reverse ps ts gs is ns rs p t g i n r = r
key-formed k ps ts gs is ns rs p t g i n r = tt

mutual
  unfolding walk

  pub walk-fine : (s : Settings) (p : Spot) (t : Tree) → FineHead p.head → FineAround p.role.around → FineSaid (walk s p t)
  walk-fine s p (scalar at v) h a = scalar-at-fine s p p.under at v h a
  walk-fine s p (array at xs) h a = all-fine s (moved p (inside p.role.around) p.head) xs h (inside-fine p.role.around a)
  walk-fine s p (object at ms) h a =
      decided-fine p.head (decide s p.context p.under (stand_of p.role.around) at ms) _ h
      (λ i. object-fine (shape_of (reads_as_graph s p.context p.under (stand_of p.role.around) at i ms) (entries s i own_member p.under ms)) p i at ms _ _ _ _ h a
      (λ hanging k f. key-fine s i is_list (spot i.final p.under ordinary hanging k) ms f tt)
      (key-fine s i is_set (spot i.final p.under (inside p.role.around) p.role.hanging p.head) ms h (inside-fine p.role.around a))
      (key-fine s i is_graph (spot i.final graph_property ordinary p.role.hanging p.head) ms h tt)
      (λ n scope f g. members-formed s i own_member n scope ms f g))

  pub all-fine : (s : Settings) (p : Spot) (xs : Trees) → FineHead p.head → FineAround p.role.around → FineSaid (walk_all s p xs)
  all-fine s p no_item h a = (tt, h)
  all-fine s p (item (array at xs) rest) h a =
      then-fine (inner_says (lists (term_under p.context p.under)) p at _ _) (λ k. walk_all s (moved p p.role.around k) rest)
      (inner-fine (lists (term_under p.context p.under)) p at _ _ h a
      (λ hanging k f. all-fine s (spot p.context p.under (inside_list p.role.around) hanging k) xs f (inside-list-fine p.role.around))
      (all-fine s p xs h a))
      (λ k f. all-fine s (moved p p.role.around k) rest f a)
  all-fine s p (item (scalar at v) rest) h a =
      then-fine (walk s p (scalar at v)) (λ k. walk_all s (moved p p.role.around k) rest) (walk-fine s p (scalar at v) h a) (λ k f. all-fine s (moved p p.role.around k) rest f a)
  all-fine s p (item (object at ms) rest) h a =
      then-fine (walk s p (object at ms)) (λ k. walk_all s (moved p p.role.around k) rest) (walk-fine s p (object at ms) h a) (λ k f. all-fine s (moved p p.role.around k) rest f a)

  key-fine : (s : Settings) (i : Inside) (test : Key → Bool) (p : Spot) (ms : Members) → FineHead p.head → FineAround p.role.around → FineSaid (walk_key s i test p ms)
  key-fine s i test p no_member h a = (tt, h)
  key-fine s i test p (member b n v rest) h a =
      then-fine (if_key_is (test (key_of i.final n)) (λ _. walk s p v) p.head) (λ k. walk_key s i test (moved p p.role.around k) rest)
      (key-is-fine (test (key_of i.final n)) (λ _. walk s p v) p.head h (walk-fine s p v h a))
      (λ k f. key-fine s i test (moved p p.role.around k) rest f a)

  pub members-formed : (s : Settings) (i : Inside) (role : Role) (n : Option Term) (scope : GraphScope) (ms : Members) → NodeOrNone n → FineScope scope → AllFormed (members_say s i role n scope ms)
  members-formed s i role n scope no_member f g = tt
  members-formed s i role n scope (member a name v rest) f g =
      both-formed (if_given (is_admitted role (key_of i.final name)) _) (members_say s i role n scope rest)
      (given-formed (is_admitted role (key_of i.final name)) _
      (key-formed (key_of i.final name) _ _ _ _ _ _
      (λ iri. form-formed (form_of (term i.final name) v) (term i.final name) _ _ _ _
      (link-formed (property_head role (term i.final name) iri n scope) (term_of_value (json_value v)) (f, g) (value-term (json_value v) (json-fine v)))
      (language-map (property_head role (term i.final name) iri n scope) i.final v (f, g))
      (λ t. map-formed s i.final t name (property_head role (term i.final name) iri n scope) v (f, g))
      (contained-formed (term i.final name) (is_list_object s i.final (property_of name) elsewhere v) (is_given s i.final (property_of name) v) (property_head role (term i.final name) iri n scope)
      (λ hanging h. walk s (spot i.final (property_of name) ordinary hanging h) v)
      (λ around. (walk s (spot i.final (property_of name) around linked (property_head role (term i.final name) iri n scope)) v).0) (f, g)
      (λ hanging k e. walk-fine s (spot i.final (property_of name) ordinary hanging k) v e tt)
      (walk-fine s (spot i.final (property_of name) graphs linked (property_head role (term i.final name) iri n scope)) v (f, g) tt).0
      (walk-fine s (spot i.final (property_of name) ordinary linked (property_head role (term i.final name) iri n scope)) v (f, g) tt).0))
      (types-formed n scope i.base (type_strings v) f g)
      (walk-fine s (in_graph i.final graph_property (graph_of n)) v (tt, graph-fine n f) tt).0
      (walk-fine s (in_graph i.final no_property scope) v (tt, g) tt).0
      (nested-formed (nest_inside s i name) _ (λ j. nest-formed s j n scope v f g))
      (reversed-formed s i.final n scope v f g)))
      (members-formed s i role n scope rest f g)

  nest-formed : (s : Settings) (i : Inside) (n : Option Term) (scope : GraphScope) (v : Tree) → NodeOrNone n → FineScope scope → AllFormed (nested_says s i n scope v)
  nest-formed s i n scope (scalar at v) f g = tt
  nest-formed s i n scope (array at xs) f g = all-nested-formed s i n scope xs f g
  nest-formed s i n scope (object at ms) f g = members-formed s i nested_member n scope ms f g

  all-nested-formed : (s : Settings) (i : Inside) (n : Option Term) (scope : GraphScope) (xs : Trees) → NodeOrNone n → FineScope scope → AllFormed (all_nested_say s i n scope xs)
  all-nested-formed s i n scope no_item f g = tt
  all-nested-formed s i n scope (item (object at ms) rest) f g =
      both-formed (members_say s i nested_member n scope ms) (all_nested_say s i n scope rest) (members-formed s i nested_member n scope ms f g) (all-nested-formed s i n scope rest f g)
  all-nested-formed s i n scope (item (scalar at v) rest) f g = all-nested-formed s i n scope rest f g
  all-nested-formed s i n scope (item (array at xs) rest) f g = all-nested-formed s i n scope rest f g

  reversed-formed : (s : Settings) (c : Context) (n : Option Term) (scope : GraphScope) (v : Tree) → NodeOrNone n → FineScope scope → AllFormed (reversed_says s c n scope v)
  reversed-formed s c n scope (scalar at v) f g = tt
  reversed-formed s c n scope (array at xs) f g = tt
  reversed-formed s c n scope (object at ms) f g =
      decided-formed (decide s c reverse_property elsewhere at ms) _ (λ i. members-formed s i reversed_member n scope ms f g)

  map-formed : (s : Settings) (d : Context) (t : TermDef) (name : Text) (h : Head) (v : Tree) → FineHead h → AllFormed (map_says s d t name h v)
  map-formed s d t name h (scalar at v) f = tt
  map-formed s d t name h (array at xs) f = tt
  map-formed s d t name h (object at ms) f = map-entries-formed s d t name h ms f

  map-entries-formed : (s : Settings) (d : Context) (t : TermDef) (name : Text) (h : Head) (ms : Members) → FineHead h → AllFormed (map_entries_say s d t name h ms)
  map-entries-formed s d t name h no_member f = tt
  map-entries-formed s d t name h (member a n v rest) f =
      both-formed (in_entry (entry_context s d t n) _) (map_entries_say s d t name h rest)
      (entry-formed (entry_context s d t n) _ (λ c. (walk-fine s (spot c (property_of name) (entry_around s d t n) linked h) v f (entry-around-fine s d t n)).0))
      (map-entries-formed s d t name h rest f)

pub all-formed : (s : Settings) (t : Tree) → formed (says s (root_spot s) t) ≡ says s (root_spot s) t
all-formed s t = all-kept (says s (root_spot s) t) (walk-fine s (root_spot s) t (tt, tt) tt).0
