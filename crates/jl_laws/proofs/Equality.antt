-- Faults and the parts of quads can be told apart.
use mathlib.Core.List.{List-discrete}
use Rattle.std.proofs.Common.{ℕ, ◌==◌, ◌∙◌, ◌≡◌, refl, sym, ap, true, false, List, [], ◌∷◌, Option, Some, None}
use Rattle.std.proofs.Math.Decide.{ℕ_discrete}
use Rattle.jl_model.specs.Codes.{code_number}
use Rattle.jl_model.specs.Parts.{Parts}
use Rattle.jl_model.specs.declared.codes.Code.{Code}
use Rattle.jl_model.specs.declared.codes.Code.TheVariants as code
use Rattle.jl_model.specs.declared.faults.Fault.{Fault}
use Rattle.jl_model.specs.declared.terms.Lit.{Lit}
use Rattle.jl_model.specs.declared.terms.Term.{Term}
use Rattle.jl_model.specs.declared.terms.Term.TheVariants.{Iri, Blank, Literal}

abbrev all_codes : List Code
all_codes =
    code.Syntax ∷ code.Utf8 ∷ code.Truncated ∷ code.DuplicateKey ∷ code.TooDeep ∷ code.TooLong ∷ code.BadLine ∷ code.NotYet
    ∷ code.LateContext ∷ code.LateType ∷ code.LateIdentifier ∷ code.LateValue ∷ code.LateGraph ∷ code.NumberNotWhole
    ∷ code.NumberOutOfRange ∷ code.MapItem ∷ code.NestedKeyword ∷ code.InvalidLocalContext ∷ code.InvalidContextNullification
    ∷ code.LoadingDocumentFailed ∷ code.LoadingRemoteContextFailed ∷ code.InvalidRemoteContext ∷ code.ContextOverflow
    ∷ code.InvalidVersionValue ∷ code.InvalidImportValue ∷ code.InvalidContextEntry ∷ code.InvalidBaseIri
    ∷ code.InvalidVocabMapping ∷ code.InvalidDefaultLanguage ∷ code.InvalidBaseDirection ∷ code.InvalidPropagateValue
    ∷ code.InvalidProtectedValue ∷ code.CyclicIriMapping ∷ code.InvalidTermDefinition ∷ code.KeywordRedefinition
    ∷ code.InvalidTypeMapping ∷ code.InvalidReverseProperty ∷ code.InvalidIriMapping ∷ code.InvalidKeywordAlias
    ∷ code.InvalidContainerMapping ∷ code.InvalidScopedContext ∷ code.InvalidLanguageMapping ∷ code.InvalidNestValue
    ∷ code.InvalidPrefixValue ∷ code.ProtectedTermRedefinition ∷ code.InvalidIdValue ∷ code.InvalidTypeValue
    ∷ code.InvalidIndexValue ∷ code.InvalidIncludedValue ∷ code.InvalidReverseValue ∷ code.InvalidReversePropertyMap
    ∷ code.InvalidReversePropertyValue ∷ code.InvalidValueObjectValue ∷ code.InvalidValueObject ∷ code.InvalidTypedValue
    ∷ code.InvalidLanguageTaggedValue ∷ code.InvalidLanguageTaggedString ∷ code.InvalidLanguageMapValue
    ∷ code.InvalidSetOrListObject ∷ code.CollidingKeywords ∷ []

-- the code with a number
abbrev code_at : ℕ → List Code → Option Code
code_at n [] = None
code_at n (c ∷ cs) = elim (code_number c == n) [ true ↦ Some c | false ↦ code_at n cs ]

code-found : (c : Code) → code_at (code_number c) all_codes ≡ Some c
code-found code.Syntax = refl
code-found c = refl

abbrev known : Option Code → Code
known None = code.Syntax
known (Some c) = c

same-code : (c d : Code) → code_number c ≡ code_number d → c ≡ d
same-code c d e = ap known (sym (code-found c) ∙ (ap (λ n. code_at n all_codes) e ∙ code-found d))

pub code_eq : Discrete Code
code_eq c d = by (ℕ_discrete (code_number c) (code_number d))
  where
    by : Dec (code_number c ≡ code_number d) → Dec (c ≡ d)
    by (yes e) = yes (same-code c d e)
    by (no h) = no (λ e. h (ap code_number e))

pub fault_eq : Discrete Fault
fault_eq f g = by (code_eq f.code g.code) (ℕ_discrete f.at g.at)
  where
    by : Dec (f.code ≡ g.code) → Dec (f.at ≡ g.at) → Dec (f ≡ g)
    by (yes c) (yes e) = yes (λ i. record { code = c i; at = e i })
    by (no h) d = no (λ e. h (ap (λ x. x.code) e))
    by (yes c) (no h) = no (λ e. h (ap (λ x. x.at) e))

abbrev text_eq : Discrete (List ℕ)
text_eq = List-discrete ℕ_discrete

option_eq : {A : Type 0} → Discrete A → Discrete (Option A)
option_eq d None None = yes refl
option_eq d None (Some y) = no (λ e. cc)
option_eq d (Some x) None = no (λ e. cc)
option_eq {A = A} d (Some x) (Some y) = by (d x y)
  where
    or_x : Option A → A
    or_x None = x
    or_x (Some z) = z

    by : Dec (x ≡ y) → Dec (Some x ≡ Some y)
    by (yes e) = yes (ap Some e)
    by (no h) = no (λ e. h (ap or_x e))

lit_eq : Discrete Lit
lit_eq x y = by (text_eq x.text y.text) (text_eq x.datatype y.datatype) (option_eq text_eq x.language y.language)
  where
    by : Dec (x.text ≡ y.text) → Dec (x.datatype ≡ y.datatype) → Dec (x.language ≡ y.language) → Dec (x ≡ y)
    by (yes t) (yes d) (yes l) = yes (λ i. record { text = t i; datatype = d i; language = l i })
    by (no h) d l = no (λ e. h (ap (λ z. z.text) e))
    by (yes t) (no h) l = no (λ e. h (ap (λ z. z.datatype) e))
    by (yes t) (yes d) (no h) = no (λ e. h (ap (λ z. z.language) e))

text_in : Term → List ℕ
text_in (Iri t) = t
text_in (Blank t) = t
text_in (Literal l) = l.text

no_lit : Lit
no_lit = record { text = []; datatype = []; language = None }

lit_in : Term → Lit
lit_in (Iri t) = no_lit
lit_in (Blank t) = no_lit
lit_in (Literal l) = l

pub term_eq : Discrete Term
unfolding text_in lit_in
term_eq (Iri t) (Iri u) = by (text_eq t u)
  where
    by : Dec (t ≡ u) → Dec (Iri t ≡ Iri u)
    by (yes e) = yes (ap Iri e)
    by (no h) = no (λ e. h (ap text_in e))
term_eq (Blank t) (Blank u) = by (text_eq t u)
  where
    by : Dec (t ≡ u) → Dec (Blank t ≡ Blank u)
    by (yes e) = yes (ap Blank e)
    by (no h) = no (λ e. h (ap text_in e))
term_eq (Literal x) (Literal y) = by (lit_eq x y)
  where
    by : Dec (x ≡ y) → Dec (Literal x ≡ Literal y)
    by (yes e) = yes (ap Literal e)
    by (no h) = no (λ e. h (ap lit_in e))
term_eq (Iri t) (Blank u) = no (λ e. cc)
term_eq (Iri t) (Literal y) = no (λ e. cc)
term_eq (Blank t) (Iri u) = no (λ e. cc)
term_eq (Blank t) (Literal y) = no (λ e. cc)
term_eq (Literal x) (Iri u) = no (λ e. cc)
term_eq (Literal x) (Blank u) = no (λ e. cc)

pub parts_eq : Discrete Parts
parts_eq x y = by (term_eq x.subject y.subject) (text_eq x.predicate y.predicate) (term_eq x.object y.object) (option_eq term_eq x.graph y.graph)
  where
    by : Dec (x.subject ≡ y.subject) → Dec (x.predicate ≡ y.predicate) → Dec (x.object ≡ y.object) → Dec (x.graph ≡ y.graph) → Dec (x ≡ y)
    by (yes s) (yes p) (yes o) (yes g) = yes (λ i. record { subject = s i; predicate = p i; object = o i; graph = g i })
    by (no h) p o g = no (λ e. h (ap (λ z. z.subject) e))
    by (yes s) (no h) o g = no (λ e. h (ap (λ z. z.predicate) e))
    by (yes s) (yes p) (no h) g = no (λ e. h (ap (λ z. z.object) e))
    by (yes s) (yes p) (yes o) (no h) = no (λ e. h (ap (λ z. z.graph) e))
