-- Each try agrees with its part of the definition.
use Rattle.std.proofs.Common.{◌≡◌, ◌⊎◌, inl, inr, refl, sym, ap, subst, ◌∙◌, Bool, true, false, ◌||◌, List, ◌++◌, Option, Some, None, Result, Ok, Err, bytes_eq, codes}
use Rattle.std.specs.List.{list_any}
use Rattle.jl_model.specs.declared.codes.Code.{Code}
use Rattle.jl_model.specs.declared.codes.Code.TheVariants as code
use Rattle.jl_model.specs.declared.expansions.Expanded.{Expanded}
use Rattle.jl_model.specs.declared.term_parts.LangEntry.{LangEntry}
use Rattle.jl_model.specs.declared.term_parts.LangEntry.TheVariants as lang
use Rattle.jl_defs.specs.Texts.{Text, is_among, is_keyword, has_keyword_form, is_slash}
use Rattle.jl_defs.specs.Answers.{◌>>=◌, require}
use Rattle.jl_defs.specs.Context.{TermDef, Context, term}
use Rattle.jl_defs.specs.IriExpansion.{Compact, compact, has_no_prefix, by_term, expand_iri}
use Rattle.jl_defs.specs.TermEntry.{RawEntry}
use Rattle.jl_defs.specs.Define.{Entry, LocalMap, Progress, Define, Found, Made, made, find_entry, type_of, type_mapping, define_parts, define_unless, define_prefix, expand_local, but_for, reverse_of, mapping_of, has_inner_colon, gives_text, agrees, iri_of, mapping_by_id, mapping_by_prefix, mapping_by_vocab, mapping_by_name, mapping_by_term, mapping, prefix_of, kind_in, check_index, try_scoped, reverse_definition, forward_definition, define_rest, finish}
use Rattle.jl_scoped.specs.Faithful.{Fixed, Extends, Faithful}
use Rattle.jl_scoped.specs.Asking.{Ask, done, needs, fails, then, asked, AgreesAt, Agrees, Ends, ask, ask_prefix, ask_unless, ask_parts, ask_expand, ask_type, ask_own_prefix, ask_own_unless, ask_own, ask_same, ask_by_id, ask_vocab, ask_by_name, ask_by_term, ask_mapping, ask_index, ask_rest, ask_body}
use Rattle.jl_scoped.specs.Waiting.{Waiting, body, ask_of}
use Rattle.jl_scoped.proofs.OtherNames.{same-name, equal-name}
use Rattle.jl_scoped.proofs.Tries.{later, here, agrees-too, then-agrees, test-agrees, test-alone, last-ends, ends-then, alone, ask-agrees, ask-fixed}
use Rattle.jl_scoped.proofs.SameTexts.{PrefixSame, SameFor, expand-same, expand-keyword}

-- a text as it expands, and the progress made
abbrev found : Progress → Expanded → Found
found q x = record { progress = q; expanded = x }

then-done : {A B : Type 0} (a : Ask A) (b : A → Ask B) (y : B) → then a b ≡ done y → (x : A) × (a ≡ done x) × (b x ≡ done y)
then-done (done x) b y e = (x, refl, e)
then-done (needs n) b y e = absurd cc
then-done (fails c) b y e = absurd cc

-- ---- IRI expansion

prefix-agrees : (m : LocalMap) (p : Progress) (k : Option Compact) → Agrees m p alone (ask_prefix m p k) (λ D q. define_prefix D q k)
prefix-agrees m p None = λ D q fa ex. refl
prefix-agrees m p (Some k) = by (has_no_prefix k)
  where
    by : (b : Bool) → Agrees m p alone (elim b [ true ↦ done tt | false ↦ ask m p k.prefix ]) (λ D q. elim b [ true ↦ Ok q | false ↦ D q k.prefix ])
    by true = λ D q fa ex. refl
    by false = ask-agrees m p k.prefix

unless-agrees : (m : LocalMap) (p : Progress) (text : Text) (o : Option Expanded) → Agrees m p alone (ask_unless m p text o) (λ D q. define_unless D q text o)
unless-agrees m p text (Some e) = λ D q fa ex. refl
unless-agrees m p text None = prefix-agrees m p (compact text)

parts-agree : (m : LocalMap) (p : Progress) (text : Text) (v : Bool) → Agrees m p alone (ask_parts m p text v) (λ D q. define_parts D q text v)
parts-agree m p text v =
    then-agrees m (Extends m p) p (later m p) alone alone (ask m p text) (λ _. ask_unless m p text o) (λ D q. D q text) (λ D q. define_unless D q text (by_term v (term q.built text)))
    (ask-agrees m p text)
    (λ x e. agrees-too m (Extends m p) p (later m p) alone (ask_unless m p text o) (λ D q. define_unless D q text o) (λ D q. define_unless D q text (by_term v (term q.built text)))
    (λ D q fa ex. ap (λ t. define_unless D q text (by_term v t)) (ex.same text (ask-fixed m p text e))) (unless-agrees m p text o))
  where
    o : Option Expanded
    o = by_term v (term p.built text)

-- where a try of the parts is done, they are fixed
prefix-done : (m : LocalMap) (p q : Progress) (k : Option Compact) → ask_prefix m p k ≡ done (tt {0}) → Extends m p q → PrefixSame q.built p.built None k
unfolding PrefixSame
prefix-done m p q None e ex = tt
prefix-done m p q (Some k) e ex = by (has_no_prefix k) e
  where
    by : (b : Bool) → elim b [ true ↦ done tt | false ↦ ask m p k.prefix ] ≡ done (tt {0}) → b ≡ false → term q.built k.prefix ≡ term p.built k.prefix
    by true h f = absurd cc
    by false h f = ex.same k.prefix (ask-fixed m p k.prefix h)

unless-done : (m : LocalMap) (p q : Progress) (text : Text) (o : Option Expanded) → ask_unless m p text o ≡ done (tt {0}) → Extends m p q → PrefixSame q.built p.built o (compact text)
unfolding PrefixSame
unless-done m p q text (Some x) e ex = tt
unless-done m p q text None e ex = prefix-done m p q (compact text) e ex

expand-stays : (m : LocalMap) (p q : Progress) (text : Text) (v r : Bool) → ask_parts m p text v ≡ done (tt {0}) → Extends m p q → expand_iri q.built text v r ≡ expand_iri p.built text v r
expand-stays m p q text v r e ex =
    let parts = then-done (ask m p text) (λ _. ask_unless m p text (by_term v (term p.built text))) (tt {0}) e in
    expand-same q.built p.built text v r (record {
      vocabulary = ex.vocab;
      base = ex.base;
      own = ex.same text (ask-fixed m p text parts.1);
      prefix = unless-done m p q text (by_term v (term p.built text)) parts.2 ex;
    })

expand-agrees : (m : LocalMap) (p : Progress) (text : Text) (v r : Bool) → Agrees m p found (ask_expand m p text v r) (λ D q. expand_local D q text v r)
expand-agrees m p text v r = by (is_keyword text || has_keyword_form text) refl
  where
    by : (b : Bool) → (is_keyword text || has_keyword_form text) ≡ b
        → Agrees m p found (elim b [ true ↦ done (expand_iri p.built text v r) | false ↦ then (ask_parts m p text v) (λ _. done (expand_iri p.built text v r)) ])
        (λ D q. elim b [ true ↦ Ok (found q (expand_iri q.built text v r)) | false ↦ define_parts D q text v >>= (λ q'. Ok (found q' (expand_iri q'.built text v r))) ])
    by true e = λ D q fa ex. ap (λ x. Ok (found q x)) (expand-keyword q.built p.built text v r e)
    by false e =
        then-agrees m (Extends m p) p (later m p) alone found (ask_parts m p text v) (λ _. done (expand_iri p.built text v r)) (λ D q. define_parts D q text v)
        (λ D q. Ok (found q (expand_iri q.built text v r))) (parts-agree m p text v)
        (λ x h. λ D q fa ex. ap (λ y. Ok (found q y)) (expand-stays m p q text v r h ex))

-- the type mapping
type-agrees : (m : LocalMap) (p : Progress) (kind : Option Text) → Agrees m p made (ask_type m p kind) (λ D q. type_mapping D q kind)
type-agrees m p None = λ D q fa ex. refl
type-agrees m p (Some text) =
    then-agrees m (Extends m p) p (later m p) found made (ask_expand m p text true false) (λ x. then (asked (type_of x)) (λ kind. done (Some kind))) (λ D q. expand_local D q text true false)
    (λ D f. type_of f.expanded >>= (λ kind. Ok (made f.progress (Some kind)))) (expand-agrees m p text true false)
    (λ x h. test-agrees m (Extends m p) p made (type_of x) (λ kind. done (Some kind)) (λ D q kind. Ok (made q (Some kind))) (λ kind. λ D q fa ex. refl))

-- ---- the term itself

own-prefix-agrees : (m : LocalMap) (p : Progress) (name : Text) (k : Option Compact) → Agrees m p alone (ask_own_prefix m p name k) (λ D q. define_prefix (but_for name D) q k)
own-prefix-agrees m p name None = λ D q fa ex. refl
own-prefix-agrees m p name (Some k) = by (has_no_prefix k) (bytes_eq k.prefix name)
  where
    by : (a b : Bool) → Agrees m p alone (elim a [ true ↦ done tt | false ↦ elim b [ true ↦ done tt | false ↦ ask m p k.prefix ] ])
        (λ D q. elim a [ true ↦ Ok q | false ↦ elim b [ true ↦ Ok q | false ↦ D q k.prefix ] ])
    by true b = λ D q fa ex. refl
    by false true = λ D q fa ex. refl
    by false false = ask-agrees m p k.prefix

own-unless-agrees : (m : LocalMap) (p : Progress) (name : Text) (o : Option Expanded) → Agrees m p alone (ask_own_unless m p name o) (λ D q. define_unless (but_for name D) q name o)
own-unless-agrees m p name (Some e) = λ D q fa ex. refl
own-unless-agrees m p name None = own-prefix-agrees m p name (compact name)

own-prefix-done : (m : LocalMap) (p q : Progress) (name : Text) (k : Option Compact) → Fixed m p name → ask_own_prefix m p name k ≡ done (tt {0}) → Extends m p q → PrefixSame q.built p.built None k
unfolding PrefixSame
own-prefix-done m p q name None fixed e ex = tt
own-prefix-done m p q name (Some k) fixed e ex = by (has_no_prefix k) (bytes_eq k.prefix name) refl e
  where
    by : (a b : Bool) → bytes_eq k.prefix name ≡ b → elim a [ true ↦ done tt | false ↦ elim b [ true ↦ done tt | false ↦ ask m p k.prefix ] ] ≡ done (tt {0}) → a ≡ false
        → term q.built k.prefix ≡ term p.built k.prefix
    by true b g h f = absurd cc
    by false true g h f = ex.same k.prefix (subst (λ x. Fixed m p x) (sym (equal-name k.prefix name g)) fixed)
    by false false g h f = ex.same k.prefix (ask-fixed m p k.prefix h)

own-unless-done : (m : LocalMap) (p q : Progress) (name : Text) (o : Option Expanded) → Fixed m p name → ask_own_unless m p name o ≡ done (tt {0}) → Extends m p q
    → PrefixSame q.built p.built o (compact name)
unfolding PrefixSame
own-unless-done m p q name (Some x) fixed e ex = tt
own-unless-done m p q name None fixed e ex = own-prefix-done m p q name (compact name) fixed e ex

own-parts : (name : Text) (D : Define) (q : Progress) → define_parts (but_for name D) q name true ≡ define_unless (but_for name D) q name (by_term true (term q.built name))
own-parts name D q =
    ap (λ (b : Bool). elim b [ true ↦ Ok q | false ↦ D q name ] >>= (λ q'. define_unless (but_for name D) q' name (by_term true (term q'.built name)))) (same-name name name refl)

own-agrees : (m : LocalMap) (p : Progress) (name : Text) → Fixed m p name → Agrees m p found (ask_own m p name) (λ D q. expand_local (but_for name D) q name true false)
own-agrees m p name fixed = by (is_keyword name || has_keyword_form name) refl
  where
    o : Option Expanded
    o = by_term true (term p.built name)

    stays : (q : Progress) → ask_own_unless m p name o ≡ done (tt {0}) → Extends m p q → expand_iri q.built name true false ≡ expand_iri p.built name true false
    stays q h ex = expand-same q.built p.built name true false (record { vocabulary = ex.vocab; base = ex.base; own = ex.same name fixed; prefix = own-unless-done m p q name o fixed h ex })

    parts : Agrees m p alone (ask_own_unless m p name o) (λ D q. define_parts (but_for name D) q name true)
    parts =
        agrees-too m (Extends m p) p (later m p) alone (ask_own_unless m p name o) (λ D q. define_unless (but_for name D) q name o) (λ D q. define_parts (but_for name D) q name true)
        (λ D q fa ex. own-parts name D q ∙ ap (λ t. define_unless (but_for name D) q name (by_term true t)) (ex.same name fixed)) (own-unless-agrees m p name o)

    by : (b : Bool) → (is_keyword name || has_keyword_form name) ≡ b
        → Agrees m p found (elim b [ true ↦ done (expand_iri p.built name true false) | false ↦ then (ask_own_unless m p name o) (λ _. done (expand_iri p.built name true false)) ])
        (λ D q. elim b [ true ↦ Ok (found q (expand_iri q.built name true false)) | false ↦ define_parts (but_for name D) q name true >>= (λ q'. Ok (found q' (expand_iri q'.built name true false))) ])
    by true e = λ D q fa ex. ap (λ x. Ok (found q x)) (expand-keyword q.built p.built name true false e)
    by false e =
        then-agrees m (Extends m p) p (later m p) alone found (ask_own_unless m p name o) (λ _. done (expand_iri p.built name true false)) (λ D q. define_parts (but_for name D) q name true)
        (λ D q. Ok (found q (expand_iri q.built name true false))) parts (λ x h. λ D q fa ex. ap (λ y. Ok (found q y)) (stays q h ex))

-- ---- the mapping

looks-agrees : (m : LocalMap) (p : Progress) (name iri : Text) → Fixed m p name → Agrees m p alone (ask_same m p name iri) (λ D q. agrees D q name iri)
looks-agrees m p name iri fixed = by (list_any is_slash name || has_inner_colon name)
  where
    by : (b : Bool) → Agrees m p alone
        (elim b [ true ↦ then (ask_own m p name) (λ x. asked (require (gives_text x iri) code.InvalidIriMapping)) | false ↦ done tt ])
        (λ D q. elim b [ true ↦ expand_local (but_for name D) q name true false >>= (λ f. require (gives_text f.expanded iri) code.InvalidIriMapping >>= (λ _. Ok f.progress)) | false ↦ Ok q ])
    by true =
        then-agrees m (Extends m p) p (later m p) found alone (ask_own m p name) (λ x. asked (require (gives_text x iri) code.InvalidIriMapping)) (λ D q. expand_local (but_for name D) q name true false)
        (λ D f. require (gives_text f.expanded iri) code.InvalidIriMapping >>= (λ _. Ok f.progress)) (own-agrees m p name fixed)
        (λ x h. test-alone m (Extends m p) p alone (require (gives_text x iri) code.InvalidIriMapping))
    by false = λ D q fa ex. refl

by-id-agrees : (m : LocalMap) (p : Progress) (name id : Text) → Fixed m p name → Agrees m p made (ask_by_id m p name id) (λ D q. mapping_by_id D q name id)
by-id-agrees m p name id fixed =
    then-agrees m (Extends m p) p (later m p) found made (ask_expand m p id true false) (λ x. then (asked (mapping_of x)) (λ iri. then (ask_same m p name iri) (λ _. done (Some iri))))
    (λ D q. expand_local D q id true false) (λ D f. mapping_of f.expanded >>= (λ iri. agrees D f.progress name iri >>= (λ q. Ok (made q (Some iri))))) (expand-agrees m p id true false)
    (λ x h. test-agrees m (Extends m p) p made (mapping_of x) (λ iri. then (ask_same m p name iri) (λ _. done (Some iri))) (λ D q iri. agrees D q name iri >>= (λ q'. Ok (made q' (Some iri))))
    (λ iri. then-agrees m (Extends m p) p (later m p) alone made (ask_same m p name iri) (λ _. done (Some iri)) (λ D q. agrees D q name iri) (λ D q. Ok (made q (Some iri)))
    (looks-agrees m p name iri fixed) (λ y k. λ D q fa ex. refl)))

vocab-agrees : (m : LocalMap) (p : Progress) (name : Text) (v : Option Text) → Agrees m p made (ask_vocab name v) (λ D q. mapping_by_vocab q name v)
vocab-agrees m p name None = λ D fa. refl
vocab-agrees m p name (Some v) = λ D q fa ex. refl

by-name-agrees : (m : LocalMap) (p : Progress) (name : Text) → Fixed m p name → Agrees m p made (ask_by_name m p name) (λ D q. mapping_by_name D q name)
by-name-agrees m p name fixed = by (list_any is_slash name) (bytes_eq name (codes "@type"))
  where
    v : Option Text
    v = p.built.level.vocab

    by : (a b : Bool) → Agrees m p made
        (elim a [
          | true ↦ then (ask_own m p name) (λ x. then (asked (iri_of code.InvalidIriMapping x)) (λ iri. done (Some iri)))
          | false ↦ elim b [ true ↦ done (Some (codes "@type")) | false ↦ ask_vocab name v ]
        ])
        (λ D q. elim a [
          | true ↦ expand_local (but_for name D) q name true false >>= (λ f. iri_of code.InvalidIriMapping f.expanded >>= (λ iri. Ok (made f.progress (Some iri))))
          | false ↦ elim b [ true ↦ Ok (made q (Some (codes "@type"))) | false ↦ mapping_by_vocab q name q.built.level.vocab ]
        ])
    by true b =
        then-agrees m (Extends m p) p (later m p) found made (ask_own m p name) (λ x. then (asked (iri_of code.InvalidIriMapping x)) (λ iri. done (Some iri)))
        (λ D q. expand_local (but_for name D) q name true false) (λ D f. iri_of code.InvalidIriMapping f.expanded >>= (λ iri. Ok (made f.progress (Some iri)))) (own-agrees m p name fixed)
        (λ x h. test-agrees m (Extends m p) p made (iri_of code.InvalidIriMapping x) (λ iri. done (Some iri)) (λ D q iri. Ok (made q (Some iri))) (λ iri. λ D q fa ex. refl))
    by false true = λ D q fa ex. refl
    by false false =
        agrees-too m (Extends m p) p (later m p) made (ask_vocab name v) (λ D q. mapping_by_vocab q name v) (λ D q. mapping_by_vocab q name q.built.level.vocab)
        (λ D q fa ex. ap (mapping_by_vocab q name) ex.vocab) (vocab-agrees m p name v)

by-term-agrees : (m : LocalMap) (p : Progress) (name : Text) (k : Option Compact) → Fixed m p name → Agrees m p made (ask_by_term m p name k) (λ D q. mapping_by_term D q name k)
by-term-agrees m p name None fixed = by-name-agrees m p name fixed
by-term-agrees m p name (Some k) fixed =
    then-agrees m (Extends m p) p (later m p) alone made (ask m p k.prefix) (λ _. done (Some (mapping_by_prefix name k (term p.built k.prefix)))) (λ D q. D q k.prefix)
    (λ D q. Ok (made q (Some (mapping_by_prefix name k (term q.built k.prefix))))) (ask-agrees m p k.prefix)
    (λ x h. λ D q fa ex. ap (λ t. Ok (made q (Some (mapping_by_prefix name k t)))) (ex.same k.prefix (ask-fixed m p k.prefix h)))

mapping-agrees : (m : LocalMap) (p : Progress) (name : Text) (id : LangEntry) → Fixed m p name → Agrees m p made (ask_mapping m p name id) (λ D q. mapping D q name id)
mapping-agrees m p name lang.Absent fixed = by-term-agrees m p name (compact name) fixed
mapping-agrees m p name lang.Null fixed = λ D q fa ex. refl
mapping-agrees m p name (lang.Tag id) fixed = by (bytes_eq id name)
  where
    by : (b : Bool) → Agrees m p made (elim b [ true ↦ ask_by_term m p name (compact name) | false ↦ ask_by_id m p name id ])
        (λ D q. elim b [ true ↦ mapping_by_term D q name (compact name) | false ↦ mapping_by_id D q name id ])
    by true = by-term-agrees m p name (compact name) fixed
    by false = by-id-agrees m p name id fixed

-- ---- the rest

index-agrees : (m : LocalMap) (p : Progress) (index : Option Text) → Agrees m p alone (ask_index m p index) (λ D q. check_index D q index)
index-agrees m p None = λ D q fa ex. refl
index-agrees m p (Some index) =
    then-agrees m (Extends m p) p (later m p) found alone (ask_expand m p index true false) (λ x. then (asked (iri_of code.InvalidTermDefinition x)) (λ _. done tt))
    (λ D q. expand_local D q index true false) (λ D f. iri_of code.InvalidTermDefinition f.expanded >>= (λ _. Ok f.progress)) (expand-agrees m p index true false)
    (λ x h. test-agrees m (Extends m p) p alone (iri_of code.InvalidTermDefinition x) (λ _. done tt) (λ D q iri. Ok q) (λ iri. λ D q fa ex. refl))

rest-ends : (m : LocalMap) (e : Entry) (raw : RawEntry) (p : Progress) (kind reverse : Option Text) → Fixed m p e.name
    → Ends m p (ask_rest m e raw p kind reverse) (λ D q. define_rest m D e raw q kind reverse)
rest-ends m e raw p kind (Some text) fixed =
    then-agrees m (λ q. q ≡ p) p (here m p) found (λ q x. x) (ask_expand m p text true false) (λ x. asked (ended x p)) (λ D q. expand_local D q text true false)
    (λ D f. ended f.expanded f.progress) (expand-agrees m p text true false) (λ x h. last-ends m p (ended x))
  where
    ended : Expanded → Progress → Result (Progress × TermDef) Code
    ended x q = reverse_of x >>= (λ iri. Ok (q, reverse_definition m raw kind iri))
rest-ends m e raw p kind None fixed =
    then-agrees m (λ q. q ≡ p) p (here m p) made (λ q x. x) (ask_mapping m p e.name raw.id) by_prefix_of (λ D q. mapping D q e.name raw.id)
    (λ D y. prefixed D y.text y.progress) (mapping-agrees m p e.name raw.id fixed)
    (λ mapped h. test-agrees m (λ q. q ≡ p) p (λ q x. x) (prefix_of e.name raw mapped) (by_kind mapped) (λ D q prefix. kinded D mapped prefix q)
    (λ prefix. test-agrees m (λ q. q ≡ p) p (λ q x. x) (kind_in raw.containers.kind kind) (by_index mapped prefix) (λ D q kind'. indexed D mapped prefix kind' q)
    (λ kind'. then-agrees m (λ q. q ≡ p) p (here m p) alone (λ q x. x) (ask_index m p raw.index) (λ _. asked (last mapped prefix kind' p)) (λ D q. check_index D q raw.index)
    (λ D q. last mapped prefix kind' q) (index-agrees m p raw.index) (λ x k. last-ends m p (last mapped prefix kind')))))
  where
    last : Option Text → Bool → Option Text → Progress → Result (Progress × TermDef) Code
    last mapped prefix kind' q = try_scoped m q.built raw.local e.scoped >>= (λ scoped. Ok (q, forward_definition m raw mapped prefix kind' scoped))

    indexed : Define → Option Text → Bool → Option Text → Progress → Result (Progress × TermDef) Code
    indexed D mapped prefix kind' q = check_index D q raw.index >>= last mapped prefix kind'

    kinded : Define → Option Text → Bool → Progress → Result (Progress × TermDef) Code
    kinded D mapped prefix q = kind_in raw.containers.kind kind >>= (λ kind'. indexed D mapped prefix kind' q)

    prefixed : Define → Option Text → Progress → Result (Progress × TermDef) Code
    prefixed D mapped q = prefix_of e.name raw mapped >>= (λ prefix. kinded D mapped prefix q)

    by_index : Option Text → Bool → Option Text → Ask (Progress × TermDef)
    by_index mapped prefix kind' = then (ask_index m p raw.index) (λ _. asked (last mapped prefix kind' p))

    by_kind : Option Text → Bool → Ask (Progress × TermDef)
    by_kind mapped prefix = then (asked (kind_in raw.containers.kind kind)) (by_index mapped prefix)

    by_prefix_of : Option Text → Ask (Progress × TermDef)
    by_prefix_of mapped = then (asked (prefix_of e.name raw mapped)) (by_kind mapped)

-- an entry that waits
pub body-ends : (m : LocalMap) (w : Waiting) (p : Progress) → Fixed m p w.entry.name → Ends m p (ask_of m w p) (λ D q. body D m w q)
body-ends m w p fixed =
    then-agrees m (λ q. q ≡ p) p (here m p) made (λ q x. x) (ask_type m p w.raw.kind) (λ kind. then (ask_rest m w.entry w.raw p kind w.raw.reverse) (λ r. asked (ended r)))
    (λ D q. type_mapping D q w.raw.kind) (λ D y. define_rest m D w.entry w.raw y.progress y.text w.raw.reverse >>= ended) (type-agrees m p w.raw.kind)
    (λ kind h. ends-then m p (ask_rest m w.entry w.raw p kind w.raw.reverse) (λ D q. define_rest m D w.entry w.raw q kind w.raw.reverse) ended
    (rest-ends m w.entry w.raw p kind w.raw.reverse fixed))
  where
    ended : Progress × TermDef → Result Progress Code
    ended r = finish m w.entry.name w.outer w.old r.0 r.1
