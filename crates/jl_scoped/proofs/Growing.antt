-- Defining a name goes on from where it began, part by part of the definition.
use Rattle.std.proofs.Common.{◌≡◌, ◌⊎◌, ℕ, zero, suc, inl, inr, refl, sym, ap, subst, ◌∙◌, Bool, true, false, ◌||◌, List, [], ◌∷◌, ◌++◌, Option, Some, None, Result, Ok, Err, bytes_eq, codes}
use Rattle.std.specs.List.{list_any}
use Rattle.jl_model.specs.declared.codes.Code.{Code}
use Rattle.jl_model.specs.declared.codes.Code.TheVariants as code
use Rattle.jl_model.specs.declared.expansions.Expanded.{Expanded}
use Rattle.jl_model.specs.declared.term_parts.LangEntry.{LangEntry}
use Rattle.jl_model.specs.declared.term_parts.LangEntry.TheVariants as lang
use Rattle.jl_defs.specs.Texts.{Text, is_among, is_keyword, has_keyword_form, is_slash}
use Rattle.jl_defs.specs.Answers.{◌>>=◌, require}
use Rattle.jl_defs.specs.Context.{TermDef, Context, Scoped, term, put_term}
use Rattle.jl_defs.specs.IriExpansion.{Compact, compact, has_no_prefix, by_term, expand_iri}
use Rattle.jl_defs.specs.TermEntry.{RawEntry, read_entry}
use Rattle.jl_defs.specs.Define.{Entry, LocalMap, Progress, Define, Found, Made, made, find_entry, define_prefix, define_unless, define_parts, expand_local, but_for, type_of, type_mapping, reverse_of, mapping_of, has_inner_colon, gives_text, agrees, mapping_by_id, mapping_by_prefix, mapping_by_vocab, iri_of, mapping_by_name, mapping_by_term, mapping, prefix_of, kind_in, check_index, try_scoped, settle, finish, reverse_definition, forward_definition, define_rest, define_raw, define_entry, define}
use Rattle.jl_scoped.specs.Faithful.{Meets, Settled, Fixed, Extends, Faithful}
use Rattle.jl_scoped.proofs.Meeting.{meets-then, any-then, meets-more, meets-either, at-true, at-false}
use Rattle.jl_scoped.proofs.Extending.{itself, further, opened, Unknown, closed, passed, among-first, found-by-name}

-- a way to define names that goes on from where it began
abbrev pub Growing : LocalMap → Define → Type 0
Growing m D = (q : Progress) (n : Text) → Meets (Extends m q) (D q n)

-- found texts and mappings that go on from a progress
abbrev Finds : LocalMap → Progress → Found → Type 0
Finds m p f = Extends m p f.progress

abbrev Makes : LocalMap → Progress → Made → Type 0
Makes m p y = Extends m p y.progress

grow-but : (m : LocalMap) (name : Text) (D : Define) → Growing m D → Growing m (but_for name D)
grow-but m name D g = λ q n. meets-either (Extends m q) (bytes_eq n name) (Ok q) (D q n) (λ h. itself m q) (λ h. g q n)

-- a name that is defined on the way
on-the-way : (m : LocalMap) (D : Define) → Growing m D → (p q : Progress) → Extends m p q → (n : Text) → Meets (Extends m p) (D q n)
on-the-way m D g p q ex n = meets-more (Extends m q) (Extends m p) (D q n) (g q n) (λ r h. further m p q r ex h)

grow-prefix : (m : LocalMap) (D : Define) → Growing m D → (p q : Progress) → Extends m p q → (k : Option Compact) → Meets (Extends m p) (define_prefix D q k)
grow-prefix m D g p q ex None = ex
grow-prefix m D g p q ex (Some k) =
    meets-either (Extends m p) (has_no_prefix k) (Ok q) (D q k.prefix) (λ h. ex) (λ h. on-the-way m D g p q ex k.prefix)

grow-unless : (m : LocalMap) (D : Define) → Growing m D → (p q : Progress) → Extends m p q → (text : Text) (e : Option Expanded) → Meets (Extends m p) (define_unless D q text e)
grow-unless m D g p q ex text (Some e) = ex
grow-unless m D g p q ex text None = grow-prefix m D g p q ex (compact text)

grow-parts : (m : LocalMap) (D : Define) → Growing m D → (p q : Progress) → Extends m p q → (text : Text) (vocab : Bool) → Meets (Extends m p) (define_parts D q text vocab)
grow-parts m D g p q ex text vocab =
    meets-then (Extends m p) (Extends m p) (D q text) (λ r. define_unless D r text (by_term vocab (term r.built text))) (on-the-way m D g p q ex text)
    (λ r h. grow-unless m D g p r h text (by_term vocab (term r.built text)))

grow-expand : (m : LocalMap) (D : Define) → Growing m D → (p q : Progress) → Extends m p q → (text : Text) (vocab relative : Bool)
    → Meets (Finds m p) (expand_local D q text vocab relative)
grow-expand m D g p q ex text vocab relative =
    meets-either (Finds m p) (is_keyword text || has_keyword_form text) (Ok (found q)) (define_parts D q text vocab >>= (λ r. Ok (found r))) (λ h. ex)
    (λ h. meets-then (Extends m p) (Finds m p) (define_parts D q text vocab) (λ r. Ok (found r)) (grow-parts m D g p q ex text vocab) (λ r k. k))
  where
    found : Progress → Found
    found r = record { progress = r; expanded = expand_iri r.built text vocab relative }

grow-type : (m : LocalMap) (D : Define) → Growing m D → (p q : Progress) → Extends m p q → (kind : Option Text) → Meets (Makes m p) (type_mapping D q kind)
grow-type m D g p q ex None = ex
grow-type m D g p q ex (Some text) =
    meets-then (Finds m p) (Makes m p) (expand_local D q text true false) (λ f. type_of f.expanded >>= (λ kind. Ok (made f.progress (Some kind))))
    (grow-expand m D g p q ex text true false)
    (λ f h. any-then (Makes m p) (type_of f.expanded) (λ kind. Ok (made f.progress (Some kind))) (λ kind. h))

grow-agrees : (m : LocalMap) (D : Define) → Growing m D → (p q : Progress) → Extends m p q → (name iri : Text) → Meets (Extends m p) (agrees D q name iri)
grow-agrees m D g p q ex name iri =
    meets-either (Extends m p) (list_any is_slash name || has_inner_colon name)
    (expand_local (but_for name D) q name true false >>= (λ f. require (gives_text f.expanded iri) code.InvalidIriMapping >>= (λ _. Ok f.progress))) (Ok q)
    (λ h. meets-then (Finds m p) (Extends m p) (expand_local (but_for name D) q name true false)
    (λ f. require (gives_text f.expanded iri) code.InvalidIriMapping >>= (λ _. Ok f.progress))
    (grow-expand m (but_for name D) (grow-but m name D g) p q ex name true false)
    (λ f k. any-then (Extends m p) (require (gives_text f.expanded iri) code.InvalidIriMapping) (λ _. Ok f.progress) (λ _. k)))
    (λ h. ex)

grow-by-id : (m : LocalMap) (D : Define) → Growing m D → (p q : Progress) → Extends m p q → (name id : Text) → Meets (Makes m p) (mapping_by_id D q name id)
grow-by-id m D g p q ex name id =
    meets-then (Finds m p) (Makes m p) (expand_local D q id true false) (λ f. mapping_of f.expanded >>= (λ iri. agrees D f.progress name iri >>= (λ r. Ok (made r (Some iri)))))
    (grow-expand m D g p q ex id true false)
    (λ f h. any-then (Makes m p) (mapping_of f.expanded) (λ iri. agrees D f.progress name iri >>= (λ r. Ok (made r (Some iri))))
    (λ iri. meets-then (Extends m p) (Makes m p) (agrees D f.progress name iri) (λ r. Ok (made r (Some iri))) (grow-agrees m D g p f.progress h name iri) (λ r k. k)))

grow-by-vocab : (m : LocalMap) (p q : Progress) → Extends m p q → (name : Text) (vocab : Option Text) → Meets (Makes m p) (mapping_by_vocab q name vocab)
grow-by-vocab m p q ex name None = tt
grow-by-vocab m p q ex name (Some vocab) = ex

grow-by-name : (m : LocalMap) (D : Define) → Growing m D → (p q : Progress) → Extends m p q → (name : Text) → Meets (Makes m p) (mapping_by_name D q name)
grow-by-name m D g p q ex name =
    meets-either (Makes m p) (list_any is_slash name) slashed plain
    (λ h. meets-then (Finds m p) (Makes m p) (expand_local (but_for name D) q name true false)
    (λ f. iri_of code.InvalidIriMapping f.expanded >>= (λ iri. Ok (made f.progress (Some iri))))
    (grow-expand m (but_for name D) (grow-but m name D g) p q ex name true false)
    (λ f k. any-then (Makes m p) (iri_of code.InvalidIriMapping f.expanded) (λ iri. Ok (made f.progress (Some iri))) (λ iri. k)))
    (λ h. meets-either (Makes m p) (bytes_eq name (codes "@type")) (Ok (made q (Some (codes "@type")))) (mapping_by_vocab q name q.built.level.vocab)
    (λ k. ex) (λ k. grow-by-vocab m p q ex name q.built.level.vocab))
  where
    slashed : Result Made Code
    slashed = expand_local (but_for name D) q name true false >>= (λ f. iri_of code.InvalidIriMapping f.expanded >>= (λ iri. Ok (made f.progress (Some iri))))

    plain : Result Made Code
    plain = elim (bytes_eq name (codes "@type")) [ true ↦ Ok (made q (Some (codes "@type"))) | false ↦ mapping_by_vocab q name q.built.level.vocab ]

grow-by-term : (m : LocalMap) (D : Define) → Growing m D → (p q : Progress) → Extends m p q → (name : Text) (k : Option Compact) → Meets (Makes m p) (mapping_by_term D q name k)
grow-by-term m D g p q ex name None = grow-by-name m D g p q ex name
grow-by-term m D g p q ex name (Some k) =
    meets-then (Extends m p) (Makes m p) (D q k.prefix) (λ r. Ok (made r (Some (mapping_by_prefix name k (term r.built k.prefix))))) (on-the-way m D g p q ex k.prefix) (λ r h. h)

grow-mapping : (m : LocalMap) (D : Define) → Growing m D → (p q : Progress) → Extends m p q → (name : Text) (id : LangEntry) → Meets (Makes m p) (mapping D q name id)
grow-mapping m D g p q ex name lang.Absent = grow-by-term m D g p q ex name (compact name)
grow-mapping m D g p q ex name lang.Null = ex
grow-mapping m D g p q ex name (lang.Tag id) =
    meets-either (Makes m p) (bytes_eq id name) (mapping_by_term D q name (compact name)) (mapping_by_id D q name id)
    (λ h. grow-by-term m D g p q ex name (compact name)) (λ h. grow-by-id m D g p q ex name id)

grow-index : (m : LocalMap) (D : Define) → Growing m D → (p q : Progress) → Extends m p q → (index : Option Text) → Meets (Extends m p) (check_index D q index)
grow-index m D g p q ex None = ex
grow-index m D g p q ex (Some index) =
    meets-then (Finds m p) (Extends m p) (expand_local D q index true false) (λ f. iri_of code.InvalidTermDefinition f.expanded >>= (λ _. Ok f.progress))
    (grow-expand m D g p q ex index true false)
    (λ f h. any-then (Extends m p) (iri_of code.InvalidTermDefinition f.expanded) (λ _. Ok f.progress) (λ _. h))

-- a definition that goes on from a progress
abbrev Gives : LocalMap → Progress → Progress × TermDef → Type 0
Gives m p y = Extends m p y.0

grow-rest : (m : LocalMap) (D : Define) → Growing m D → (p q : Progress) → Extends m p q → (e : Entry) (raw : RawEntry) (kind reverse : Option Text)
    → Meets (Gives m p) (define_rest m D e raw q kind reverse)
grow-rest m D g p q ex e raw kind (Some text) =
    meets-then (Finds m p) (Gives m p) (expand_local D q text true false) (λ f. reverse_of f.expanded >>= (λ iri. Ok (f.progress, reverse_definition m raw kind iri)))
    (grow-expand m D g p q ex text true false)
    (λ f h. any-then (Gives m p) (reverse_of f.expanded) (λ iri. Ok (f.progress, reverse_definition m raw kind iri)) (λ iri. h))
grow-rest m D g p q ex e raw kind None =
    meets-then (Makes m p) (Gives m p) (mapping D q e.name raw.id) behind (grow-mapping m D g p q ex e.name raw.id)
    (λ y h. any-then (Gives m p) (prefix_of e.name raw y.text) (by_kind y)
    (λ prefix. any-then (Gives m p) (kind_in raw.containers.kind kind) (by_index y prefix)
    (λ kind'. meets-then (Extends m p) (Gives m p) (check_index D y.progress raw.index) (last y prefix kind') (grow-index m D g p y.progress h raw.index)
    (λ r k. any-then (Gives m p) (try_scoped m r.built raw.local e.scoped) (λ scoped. Ok (r, forward_definition m raw y.text prefix kind' scoped)) (λ scoped. k)))))
  where
    last : Made → Bool → Option Text → Progress → Result (Progress × TermDef) Code
    last y prefix kind' r = try_scoped m r.built raw.local e.scoped >>= (λ scoped. Ok (r, forward_definition m raw y.text prefix kind' scoped))

    by_index : Made → Bool → Option Text → Result (Progress × TermDef) Code
    by_index y prefix kind' = check_index D y.progress raw.index >>= last y prefix kind'

    by_kind : Made → Bool → Result (Progress × TermDef) Code
    by_kind y prefix = kind_in raw.containers.kind kind >>= by_index y prefix

    behind : Made → Result (Progress × TermDef) Code
    behind y = prefix_of e.name raw y.text >>= by_kind y

-- what defining a name leaves: it goes on, and the name is settled
abbrev Leaves : LocalMap → Progress → Text → Progress → Type 0
Leaves m p name y = Extends m p y × Settled m name y

grow-raw : (m : LocalMap) (D : Define) → Growing m D → (p : Progress) (e : Entry) (raw : RawEntry) → Unknown p e.name → find_entry m.entries e.name ≡ Some e
    → Meets (Leaves m p e.name) (define_raw m D p e raw)
grow-raw m D g p e raw u there =
    meets-either (Leaves m p e.name) raw.ignored (Ok (record p { defined = e.name ∷ p.defined })) inner
    (λ h. (passed m p e.name, inl (among-first e.name p.defined)))
    (λ h. meets-then (Makes m mid) (Leaves m p e.name) (type_mapping D mid raw.kind) typed (grow-type m D g mid mid (itself m mid) raw.kind)
    (λ y k. meets-then (Gives m mid) (Leaves m p e.name) (define_rest m D e raw y.progress y.text raw.reverse) ended
    (grow-rest m D g mid y.progress k e raw y.text raw.reverse)
    (λ r l. any-then (Leaves m p e.name) (settle m (term p.built e.name) r.1) (λ t. Ok (stands r.0 t))
    (λ t. (closed m p r.0 e t u there l, inl (among-first e.name r.0.defined))))))
  where
    mid : Progress
    mid = opened p e.name

    stands : Progress → TermDef → Progress
    stands q t = record { built = put_term q.built e.name t; pending = p.pending; defined = e.name ∷ q.defined }

    ended : Progress × TermDef → Result Progress Code
    ended r = finish m e.name p.pending (term p.built e.name) r.0 r.1

    typed : Made → Result Progress Code
    typed y = define_rest m D e raw y.progress y.text raw.reverse >>= ended

    inner : Result Progress Code
    inner = type_mapping D mid raw.kind >>= typed

grow-entry : (m : LocalMap) (D : Define) → Growing m D → (p : Progress) (name : Text) (o : Option Entry) → Unknown p name → find_entry m.entries name ≡ o
    → Meets (Leaves m p name) (define_entry m D p o)
grow-entry m D g p name None u f = (itself m p, inr f)
grow-entry m D g p name (Some e) u f =
    subst (λ n. Meets (Leaves m p n) (define_entry m D p (Some e))) named
    (any-then (Leaves m p e.name) (read_entry e.name e.value) (λ raw. define_raw m D p e raw)
    (λ raw. grow-raw m D g p e raw (subst (λ n. Unknown p n) (sym named) u) (ap (λ n. find_entry m.entries n) named ∙ f)))
  where
    named : e.name ≡ name
    named = found-by-name m.entries name e f

pub define-step : (n : ℕ) (m : LocalMap) (p : Progress) (name : Text)
    → define (suc n) m p name ≡ elim (is_among p.defined name) [ true ↦ Ok p | false ↦ elim (is_among p.pending name) [ true ↦ Err code.CyclicIriMapping | false ↦ define_entry m (define n m) p (find_entry m.entries name) ] ]
unfolding define
define-step n m p name = refl

grows : (n : ℕ) (m : LocalMap) (p : Progress) (name : Text) → Meets (Leaves m p name) (define n m p name)
unfolding define
grows zero m p name = tt
grows (suc n) m p name =
    meets-either (Leaves m p name) (is_among p.defined name) (Ok p) undefined (λ h. (itself m p, inl h))
    (λ h. meets-either (Leaves m p name) (is_among p.pending name) (Err code.CyclicIriMapping) entered (λ k. tt)
    (λ k. grow-entry m (define n m) (λ q t. meets-more (Leaves m q t) (Extends m q) (define n m q t) (grows n m q t) (λ r l. l.0)) p name (find_entry m.entries name) (h, k) refl))
  where
    entered : Result Progress Code
    entered = define_entry m (define n m) p (find_entry m.entries name)

    undefined : Result Progress Code
    undefined = elim (is_among p.pending name) [ true ↦ Err code.CyclicIriMapping | false ↦ entered ]

pub define-faithful : (n : ℕ) (m : LocalMap) → Faithful m (define (suc n) m)
define-faithful n m = record {
  knows = λ q t h. define-step n m q t ∙ at-true (is_among q.defined t) _ _ h;
  absent = λ q t d w none.
      define-step n m q t ∙ (at-false (is_among q.defined t) _ _ d ∙ (at-false (is_among q.pending t) _ _ w ∙ ap (define_entry m (define n m) q) none));
  cyclic = λ q t d w. define-step n m q t ∙ (at-false (is_among q.defined t) _ _ d ∙ at-true (is_among q.pending t) _ _ w);
  extends = λ q t. meets-more (Leaves m q t) (Extends m q) (define (suc n) m q t) (grows (suc n) m q t) (λ r l. l.0);
  settles = λ q t. meets-more (Leaves m q t) (Settled m t) (define (suc n) m q t) (grows (suc n) m q t) (λ r l. l.1);
}
