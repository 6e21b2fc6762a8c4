-- What is late by the phases of an object is what the definitions have as late.
use Rattle.std.proofs.Common.{ℕ, ◌≡◌, refl, sym, ◌∙◌, ap, subst, Bool, true, false, not, ◌&&◌, List, [], ◌∷◌, ◌++◌, Option, append_assoc}
use Rattle.std.specs.Prelude.{zero, suc, codes}
use Rattle.std.proofs.lemmas.Slice.Eq.{bytes_eq-Decides}
use Rattle.jl_model.specs.JsonTree.{Tree, Members, no_member, member}
use Rattle.jl_model.specs.declared.codes.Code.TheVariants as code
use Rattle.jl_model.specs.declared.faults.Fault.{Fault}
use Rattle.jl_model.specs.declared.orders.Order.{Order}
use Rattle.jl_model.specs.declared.orders.Order.TheVariants.{Any, Streaming}
use Rattle.jl_defs.specs.Texts.{Text, is_keyword}
use Rattle.jl_defs.specs.IriExpansion.{expand_iri}
use Rattle.jl_defs.specs.Context.{Context}
use Rattle.jl_defs.specs.Process.{Library}
use Rattle.jl_defs.specs.Settings.{Settings, Under, Stand}
use Rattle.jl_defs.specs.Keys.{key_of, its_context, is_id}
use Rattle.jl_defs.specs.ObjectContexts.{fault, Inside, is_context_name, is_in_prelude, after_context, after_prelude}
use Rattle.jl_defs.specs.LateKeys.{if_so, context_faults, late_contexts, context_fault, late_key, late_keys, lone_identifier, late_in}
use Rattle.jl_defs.specs.Rest.{own_candidates, ends_run, ends_with, after_run}
use Rattle.jl_walk.specs.Phases.{Phase, any_time, at_start, in_lead, in_run, in_rest, run_until, next_lead, follow, past, context_at, lone_at, rest_at, late_at, phased, prelude_length, leading_length, first_phase}
use Rattle.jl_walk.proofs.SameFaults.{Same, same-refl, same-by, same-then, same-both, same-cross, same-swap}

-- of the faults by phases the keys that are late by their meaning, and the late contexts
abbrev pub late_of : Inside → Phase → Members → List Fault
late_of i ph no_member = []
late_of i ph (member a n v rest) = late_at ph i n a ++ late_of i (past (follow ph i n) i n v) rest

abbrev pub context_of : Inside → Phase → Members → List Fault
context_of i ph no_member = []
context_of i ph (member a n v rest) = context_at ph n a ++ context_of i (past (follow ph i n) i n v) rest

pub phased-apart : (i : Inside) (ph : Phase) (ms : Members) → Same (phased i ph ms) (late_of i ph ms ++ context_of i ph ms)
phased-apart i ph no_member = same-refl []
phased-apart i ph (member a n v rest) =
    let next = past (follow ph i n) i n v in
    let l = late_at ph i n a in
    let c = context_at ph n a in
    same-then (phased i ph (member a n v rest)) ((l ++ c) ++ (late_of i next rest ++ context_of i next rest)) _
    (same-both (c ++ l) (l ++ c) (phased i next rest) (late_of i next rest ++ context_of i next rest) (same-swap c l) (phased-apart i next rest))
    (same-cross l c (late_of i next rest) (context_of i next rest))

-- ---- late keys

late-rest : (i : Inside) (ms : Members) → late_of i in_rest ms ≡ late_keys i ms
late-rest i no_member = refl
late-rest i (member a n v rest) = ap (λ x. late_key i n a ++ x) (late-rest i rest)

-- a member of the second run, or of the rest
late-run : (i : Inside) (first : Bool) (a : ℕ) (n : Text) (v : Tree) (rest : Members) → late_of i in_run rest ≡ late_keys i (after_run i false rest) →
    rest_at (run_until (ends_run i first n)) i n a ++ late_of i (past (run_until (ends_run i first n)) i n v) rest ≡ late_keys i (after_run i first (member a n v rest))
late-run i first a n v rest h = by (ends_run i first n)
  where
    at_end : (b : Bool) → late_of i (run_until b) rest ≡ late_keys i (elim b [ true ↦ rest | false ↦ after_run i false rest ])
    at_end true = late-rest i rest
    at_end false = h

    by : (b : Bool) → rest_at (run_until b) i n a ++ late_of i (past (run_until b) i n v) rest
        ≡ late_keys i (elim b [ true ↦ member a n v rest | false ↦ elim (ends_with i n v) [ true ↦ rest | false ↦ after_run i false rest ] ])
    by true = ap (λ x. late_key i n a ++ x) (late-rest i rest)
    by false = at_end (ends_with i n v)

late-runs : (i : Inside) (ms : Members) → late_of i in_run ms ≡ late_keys i (after_run i false ms)
late-runs i no_member = refl
late-runs i (member a n v rest) = late-run i false a n v rest (late-runs i rest)

-- after the context and some members of the prelude
late-lead : (i : Inside) (cs : List Context) (ms : Members) → late_of i (in_lead (prelude_length cs ms)) ms ≡ late_keys i (after_run i true (after_prelude cs ms))
late-lead i cs no_member = refl
late-lead i cs (member a n v rest) = by (late-lead i cs rest) (is_in_prelude cs n v)
  where
    by : late_of i (in_lead (prelude_length cs rest)) rest ≡ late_keys i (after_run i true (after_prelude cs rest)) → (b : Bool) →
        late_of i (in_lead (elim b [ true ↦ suc (prelude_length cs rest) | false ↦ 0 ])) (member a n v rest)
        ≡ late_keys i (after_run i true (elim b [ true ↦ after_prelude cs rest | false ↦ member a n v rest ]))
    by h true = h
    by h false = late-run i true a n v rest (late-runs i rest)

-- the name `@context` means the context in each context
context-key : (c : Context) (n : Text) → is_context_name n ≡ true → key_of c n ≡ its_context
unfolding key_of expand_iri is_keyword
context-key c n e = subst (λ t. key_of c t ≡ its_context) (sym ((bytes_eq-Decides n (codes "@context")).0 e)) refl

-- the first member is a lone identifier where the definitions say so
abbrev lone_by : Inside → Text → ℕ → Bool → List Fault
lone_by i n a x = if_so (i.could_go_back && (is_id (key_of i.outside n) && x)) (fault code.LateIdentifier a ∷ [])

and-never : (x y : Bool) (fs : List Fault) → if_so (x && (y && false)) fs ≡ []
and-never true true fs = refl
and-never true false fs = refl
and-never false y fs = refl

and-always : (x y : Bool) (fs : List Fault) → if_so (x && y) fs ≡ if_so (x && (y && true)) fs
and-always true true fs = refl
and-always true false fs = refl
and-always false y fs = refl

no-context : (x y z : Bool) (fs : List Fault) → y ≡ false → if_so (x && (y && z)) fs ≡ []
no-context true false z fs e = refl
no-context false y z fs e = refl
no-context true true z fs e = absurd cc

lone-lead : (i : Inside) (cs : List Context) (a : ℕ) (n : Text) (v : Tree) (rest : Members) →
    lone_at (at_start (prelude_length cs (member a n v rest))) i n a ≡ lone_by i n a (not (is_in_prelude cs n v))
lone-lead i cs a n v rest = by (is_in_prelude cs n v)
  where
    by : (b : Bool) → lone_at (at_start (elim b [ true ↦ suc (prelude_length cs rest) | false ↦ 0 ])) i n a ≡ lone_by i n a (not b)
    by true = sym (and-never i.could_go_back (is_id (key_of i.outside n)) _)
    by false = and-always i.could_go_back (is_id (key_of i.outside n)) _

-- of an object that opens, whose first member may be its context
late-start : (i : Inside) (cs : List Context) (ms : Members) →
    late_of i (at_start (leading_length cs ms)) ms ≡ lone_identifier cs i ms ++ late_keys i (after_run i true (after_prelude cs (after_context ms)))
late-start i cs no_member = refl
late-start i cs (member a n v rest) = by (is_context_name n) refl
  where
    tail : (left : ℕ) → List Fault
    tail left = rest_at (next_lead left i n) i n a ++ late_of i (past (next_lead left i n) i n v) rest

    by : (b : Bool) → is_context_name n ≡ b →
        late_of i (at_start (elim b [ true ↦ suc (prelude_length cs rest) | false ↦ prelude_length cs (member a n v rest) ])) (member a n v rest)
        ≡ lone_identifier cs i (member a n v rest) ++ late_keys i (after_run i true (after_prelude cs (elim b [ true ↦ rest | false ↦ member a n v rest ])))
    by true e =
        late-lead i cs rest
        ∙ ap (λ x. x ++ late_keys i (after_run i true (after_prelude cs rest)))
        (sym (no-context i.could_go_back (is_id (key_of i.outside n)) (not (is_in_prelude cs n v)) _ (ap is_id (context-key i.outside n e))))
    by false e =
        let left = prelude_length cs (member a n v rest) in
        append_assoc (lone_at (at_start left) i n a) (rest_at (next_lead left i n) i n a) (late_of i (past (next_lead left i n) i n v) rest)
        ∙ (ap (λ x. x ++ tail left) (lone-lead i cs a n v rest)
        ∙ ap (λ x. lone_by i n a (not (is_in_prelude cs n v)) ++ x) (late-lead i cs (member a n v rest)))

-- ---- late contexts

-- a phase after the first member
pub data Begun : Phase → Type 0 where
  leads : (left : ℕ) → Begun (in_lead left)
  runs : Begun in_run
  rests : Begun in_rest

until-begun : (b : Bool) → Begun (run_until b)
until-begun true = rests
until-begun false = runs

next-begun : (left : ℕ) (i : Inside) (n : Text) → Begun (next_lead left i n)
next-begun zero i n = until-begun (ends_run i true n)
next-begun (suc left) i n = leads left

follow-begun : (ph : Phase) (i : Inside) (n : Text) → Begun ph → Begun (follow ph i n)
follow-begun ph i n (leads left) = next-begun left i n
follow-begun ph i n runs = until-begun (ends_run i false n)
follow-begun ph i n rests = rests

past-begun : (ph : Phase) (i : Inside) (n : Text) (v : Tree) → Begun ph → Begun (past ph i n v)
past-begun ph i n v (leads left) = leads left
past-begun ph i n v runs = until-begun (ends_with i n v)
past-begun ph i n v rests = rests

begun-context : (ph : Phase) (n : Text) (a : ℕ) → Begun ph → context_at ph n a ≡ context_fault n a
begun-context ph n a (leads left) = refl
begun-context ph n a runs = refl
begun-context ph n a rests = refl

context-begun : (i : Inside) (ph : Phase) (ms : Members) → Begun ph → context_of i ph ms ≡ context_faults ms
context-begun i ph no_member b = refl
context-begun i ph (member a n v rest) b =
    ap (λ x. x ++ context_of i (past (follow ph i n) i n v) rest) (begun-context ph n a b)
    ∙ ap (λ x. context_fault n a ++ x) (context-begun i (past (follow ph i n) i n v) rest (past-begun (follow ph i n) i n v (follow-begun ph i n b)))

context-start : (i : Inside) (left : ℕ) (ms : Members) → context_of i (at_start left) ms ≡ late_contexts Streaming ms
context-start i left no_member = refl
context-start i left (member a n v rest) =
    context-begun i (past (next_lead left i n) i n v) rest (past-begun (next_lead left i n) i n v (next-begun left i n))

-- ---- both, in each order

phased-any : (i : Inside) (ms : Members) → phased i any_time ms ≡ []
phased-any i no_member = refl
phased-any i (member a n v rest) = phased-any i rest

-- what is late by the definitions: in the order any nothing
abbrev pub phase_lates : Order → Settings → Context → Under → Stand → ℕ → Inside → Members → List Fault
phase_lates Any s c under stand at i ms = []
phase_lates Streaming s c under stand at i ms = late_in s c under stand at i ms ++ late_contexts Streaming ms

-- settings by their parts
abbrev pub settings_of : Order → Option Text → Library → Settings
settings_of order base library = record { order = order; base = base; library = library }

phased-in : (order : Order) (base : Option Text) (library : Library) (c : Context) (under : Under) (stand : Stand) (at : ℕ) (i : Inside) (ms : Members) →
    Same (phased i (first_phase (settings_of order base library) c under stand at ms) ms) (phase_lates order (settings_of order base library) c under stand at i ms)
phased-in Any base library c under stand at i ms = same-by _ _ (phased-any i ms)
phased-in Streaming base library c under stand at i ms =
    let cs = own_candidates (settings_of Streaming base library) c under stand at ms in
    let left = leading_length cs ms in
    same-then (phased i (at_start left) ms) (late_of i (at_start left) ms ++ context_of i (at_start left) ms) _ (phased-apart i (at_start left) ms)
    (same-by _ _ (ap (λ x. x ++ context_of i (at_start left) ms) (late-start i cs ms)
    ∙ ap (λ x. late_in (settings_of Streaming base library) c under stand at i ms ++ x) (context-start i left ms)))

pub phased-same : (s : Settings) (c : Context) (under : Under) (stand : Stand) (at : ℕ) (i : Inside) (ms : Members) →
    Same (phased i (first_phase s c under stand at ms) ms) (phase_lates s.order s c under stand at i ms)
phased-same s c under stand at i ms = phased-in s.order s.base s.library c under stand at i ms
