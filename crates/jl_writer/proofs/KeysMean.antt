-- What the keys and the names of the writer's text mean in the initial context without a base.
use Rattle.std.proofs.Common.{◌≡◌, ℕ, zero, suc, ◌+◌, ◌<◌, ◌==◌, Bool, true, false, ◌&&◌, ◌||◌, [], ◌∷◌, ◌++◌, length, take, drop, get_or, position, Option, Some, None, codes, bytes_eq, inl, inr, refl, sym, ap, ap₂, ◌∙◌, subst, arith}
use Rattle.std.proofs.lemmas.Bool.{cases_Bool, eqb-true}
use Rattle.std.proofs.lemmas.Str.{is_utf8-from_IsUtf8}
use Rattle.std.proofs.lemmas.List.Quantifiers.{position-Some}
use Rattle.std.proofs.lemmas.Slice.Eq.{bytes_eq-Decides}
use Rattle.std.specs.Char.{is_ascii_alphabetic}
use Rattle.std.specs.List.{list_any, list_all}
use Rattle.std.specs.Str.{is_utf8}
use Rattle.jl_model.specs.Iris.{IsIri, has_iri_form, has_form_at, is_scheme, is_scheme_byte, is_iri_byte}
use Rattle.jl_model.specs.Iris as iris
use Rattle.jl_model.specs.Labels.{is_kept_label}
use Rattle.jl_model.specs.Ren.{ren}
use Rattle.jl_model.specs.Parts.{IsNode}
use Rattle.jl_model.specs.declared.terms.Term.{Term}
use Rattle.jl_model.specs.declared.terms.Term.TheVariants.{Iri, Blank, Literal}
use Rattle.jl_model.specs.declared.expansions.Expanded.TheVariants.{Null, Keyword, Name}
use Rattle.jl_defs.specs.Texts.{Text, is_iri, is_blank, is_colon, has_keyword_form, is_keyword, is_among, keywords}
use Rattle.jl_defs.specs.Context.{Context, initial}
use Rattle.jl_defs.specs.IriExpansion.{Compact, has_no_prefix, compact, expand_iri, by_vocab, by_prefix, by_name}
use Rattle.jl_defs.specs.Keys.{id, kind, value, language, graph, property, key_of, key_by}
use Rattle.jl_defs.specs.NodeMap.{term_of_text}
use Rattle.jl_defs.specs.WriterText.{node_name}
use Rattle.jl_nquads.specs.Renamed.{renamed_term}
use Rattle.jl_writer.proofs.Grouped.{id_key, graph_key}
use Rattle.jl_writer.proofs.GroupedTrees.{type_key, value_key, language_key}
use Rattle.jl_writer.proofs.GoodGroups.{name_utf8}

-- the context of every part of the text
abbrev pub outset : Context
outset = initial None

-- ---- the keywords that are written

pub id_means : key_of outset id_key ≡ id
unfolding key_of expand_iri is_keyword
id_means = refl

pub graph_means : key_of outset graph_key ≡ graph
unfolding key_of expand_iri is_keyword
graph_means = refl

pub type_means : key_of outset type_key ≡ kind
unfolding key_of expand_iri is_keyword
type_means = refl

pub value_means : key_of outset value_key ≡ value
unfolding key_of expand_iri is_keyword
value_means = refl

pub language_means : key_of outset language_key ≡ language
unfolding key_of expand_iri is_keyword
language_means = refl

-- ---- names that are no keywords

-- what doesn't begin with a letter is no IRI
no_scheme : (c : ℕ) (cs : Text) (colon : Option ℕ) → is_ascii_alphabetic c ≡ false → has_form_at (c ∷ cs) colon ≡ false
no_scheme c cs None h = refl
no_scheme c cs (Some zero) h = refl
no_scheme c cs (Some (suc k)) h = ap (λ b. (b && list_all is_scheme_byte (take k cs)) && list_all is_iri_byte (drop (suc k + 1) (c ∷ cs))) h

no_iri : (c : ℕ) (cs : Text) → is_ascii_alphabetic c ≡ false → has_iri_form (c ∷ cs) ≡ false
no_iri c cs h = no_scheme c cs (position iris.is_colon (c ∷ cs)) h

iri_no_keyword : (iri : Text) → has_iri_form iri ≡ true → has_keyword_form iri ≡ false
iri_no_keyword [] h = refl
iri_no_keyword (c ∷ []) h = refl
iri_no_keyword (c ∷ d ∷ ds) h = elim (cases_Bool (c == 64)) [
  | inl e ↦
      let at : c ≡ 64 = eqb-true c 64 e in
      let none : has_iri_form (c ∷ d ∷ ds) ≡ false = subst (λ x. has_iri_form (x ∷ d ∷ ds) ≡ false) (sym at) (no_iri 64 (d ∷ ds) refl) in
      let no : true ≡ false = sym h ∙ none in
      absurd cc
  | inr e ↦ ap (λ b. b && (is_ascii_alphabetic d && list_all is_ascii_alphabetic ds)) e
]

label_no_keyword : (label : Text) → has_keyword_form (codes "_:" ++ label) ≡ false
label_no_keyword label = refl

name_no_keyword : (t : Term) → IsNode t → has_keyword_form (node_name t) ≡ false
name_no_keyword (Iri iri) h = iri_no_keyword iri h.form
name_no_keyword (Blank label) h = label_no_keyword label
name_no_keyword (Literal lit) h = absurd h

-- ---- their expansion: without terms, vocabulary and base such a text stays as it is

vocab_stays : (text : Text) (vocab relative : Bool) → by_vocab outset text vocab relative ≡ Name text
vocab_stays text true true = refl
vocab_stays text true false = refl
vocab_stays text false true = refl
vocab_stays text false false = refl

prefix_stays : (text : Text) (vocab relative : Bool) (k : Option Compact) → by_prefix outset text vocab relative k ≡ Name text
prefix_stays text vocab relative None = vocab_stays text vocab relative
prefix_stays text vocab relative (Some k) = by (has_no_prefix k) (is_iri text)
  where
    by : (b i : Bool) → elim b [ true ↦ Name text | false ↦ elim i [ true ↦ Name text | false ↦ by_vocab outset text vocab relative ] ] ≡ Name text
    by true i = refl
    by false true = refl
    by false false = vocab_stays text vocab relative

name_stays : (text : Text) (vocab relative : Bool) → by_name outset text vocab relative ≡ Name text
name_stays text true relative = prefix_stays text true relative (compact text)
name_stays text false relative = prefix_stays text false relative (compact text)

pub expands_to_itself : (text : Text) (vocab relative : Bool) → has_keyword_form text ≡ false → expand_iri outset text vocab relative ≡ Name text
unfolding expand_iri is_keyword
expands_to_itself text vocab relative h = ap (λ b. elim (b && is_among keywords text) [ true ↦ Keyword text | false ↦ elim b [ true ↦ Null | false ↦ by_name outset text vocab relative ] ]) h ∙ name_stays text vocab relative

pub iri_expands : (iri : Text) (vocab relative : Bool) → IsIri iri → expand_iri outset iri vocab relative ≡ Name iri
iri_expands iri vocab relative h = expands_to_itself iri vocab relative (iri_no_keyword iri h.form)

pub name_expands : (t : Term) (vocab relative : Bool) → IsNode t → expand_iri outset (node_name t) vocab relative ≡ Name (node_name t)
name_expands t vocab relative h = expands_to_itself (node_name t) vocab relative (name_no_keyword t h)

-- ---- a predicate is a property

has_at : (text : Text) (k : ℕ) → k < length text → is_colon (get_or text k 0) ≡ true → list_any is_colon text ≡ true
has_at [] k l h = absurd (omega arith)
has_at (c ∷ cs) zero l h = ap (λ b. b || list_any is_colon cs) h
has_at (c ∷ cs) (suc k) l h = or_true (is_colon c) (list_any is_colon cs) (has_at cs k (omega arith) h)
  where
    or_true : (a b : Bool) → b ≡ true → (a || b) ≡ true
    or_true true b e = refl
    or_true false b e = e

colon_in : (text : Text) (colon : Option ℕ) → position iris.is_colon text ≡ colon → has_form_at text colon ≡ true → list_any is_colon text ≡ true
colon_in text None e h = absurd cc
colon_in text (Some k) e h = let here = position-Some iris.is_colon text k 0 e in has_at text k here.0 here.1

pub predicate_means : (iri : Text) → IsIri iri → key_of outset iri ≡ property iri
unfolding key_of
predicate_means iri h =
    ap key_by (iri_expands iri true false h)
    ∙ ap (λ b. elim b [ true ↦ property iri | false ↦ key_by Null ]) (colon_in iri (position iris.is_colon iri) refl h.form)

-- and no context
pub predicate_no_context : (iri : Text) → IsIri iri → bytes_eq iri (codes "@context") ≡ false
predicate_no_context iri h = elim (cases_Bool (bytes_eq iri (codes "@context"))) [
  | inl e ↦
      let is = (bytes_eq-Decides iri (codes "@context")).0 e in
      let no : true ≡ false = sym h.form ∙ subst (λ t. has_iri_form t ≡ false) (sym is) refl in
      absurd cc
  | inr e ↦ e
]

-- ---- terms

pub iri_is : (iri : Text) → IsIri iri → is_iri iri ≡ true
iri_is iri h = ap₂ (λ a b. a && b) h.form (is_utf8-from_IsUtf8 iri h.utf8)

longer_label : (label : Text) → is_kept_label label ≡ true → is_blank (codes "_:" ++ label) ≡ true
longer_label [] h = absurd cc
longer_label (c ∷ cs) h = refl

pub name_is_term : (t : Term) → IsNode t → term_of_text (node_name t) ≡ Some (renamed_term t)
unfolding term_of_text
name_is_term (Iri iri) h = ap (λ b. elim b [ true ↦ Some (Iri iri) | false ↦ elim (is_blank iri && is_utf8 iri) [ true ↦ Some (Blank (ren (drop 2 iri))) | false ↦ None ] ]) (iri_is iri h)
name_is_term (Blank label) h =
    let text = codes "_:" ++ label in
    let none : is_iri text ≡ false = ap (λ b. b && is_utf8 text) (no_iri 95 (58 ∷ label) refl) in
    ap (λ b. elim b [ true ↦ Some (Iri text) | false ↦ elim (is_blank text && is_utf8 text) [ true ↦ Some (Blank (ren (drop 2 text))) | false ↦ None ] ]) none
    ∙ ap (λ b. elim b [ true ↦ Some (Blank (ren (drop 2 text))) | false ↦ None ]) (ap₂ (λ a b. a && b) (longer_label label h) (is_utf8-from_IsUtf8 text (name_utf8 (Blank label) h)))
name_is_term (Literal lit) h = absurd h
