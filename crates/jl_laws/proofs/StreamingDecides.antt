-- In streaming order, without faults, the contexts are those that all members decide.
use Rattle.std.proofs.Common.{ℕ, ◌≡◌, ◌⊎◌, inl, inr, refl, sym, ◌∙◌, ap, subst, Bool, true, false, not, ◌&&◌, ◌||◌, List, [], ◌∷◌, ◌++◌, Option, Some, None, Result, Ok, Err}
use Rattle.std.specs.List.{list_any}
use Rattle.jl_model.specs.JsonTree.{Tree, scalar, array, object, Members, no_member, member}
use Rattle.jl_model.specs.declared.faults.Fault.{Fault}
use Rattle.jl_model.specs.declared.orders.Order.TheVariants.{Streaming}
use Rattle.jl_defs.specs.Texts.{Text}
use Rattle.jl_defs.specs.Context.{Context}
use Rattle.jl_defs.specs.Process.{Library}
use Rattle.jl_defs.specs.Settings.{Settings, Under, Stand}
use Rattle.jl_defs.specs.Keys.{Key, kind, key_of, is_id, is_kind, is_value, is_leading}
use Rattle.jl_defs.specs.ObjectContexts.{starting, means_value, is_single_id, may_go_back, goes_back, type_base, type_texts, final_context, input_type, at_place, and_then, decide_by, decide, candidate, candidates, Own, is_context_name, first_context, any_context, Look, look_at, look_at_key, all_looks, Inside, means_kind, type_keys, is_in_prelude, prelude_looks, after_prelude, after_context, leads_in, types_in}
use Rattle.jl_defs.specs.LateKeys.{if_so, context_fault, context_faults, late_contexts, is_late_type, is_late_value, late_key, late_keys, lone_identifier, late_in, late_members}
use Rattle.jl_defs.specs.Rest.{own_candidates, would_decide, ends_with, after_run, rest_of}
use Rattle.jl_defs.specs.ValueObjects.{all_with}
use Rattle.jl_defs.specs.Kept.{own_member, entries}
use Rattle.jl_defs.specs.MemberFaults.{nothing_seen, closing_faults}
use Rattle.jl_defs.specs.Faults.{decided_faults, place, value_faults, members_faults}
use Rattle.jl_laws.proofs.Bools.{and-left, true-false, picked-false}
use Rattle.jl_laws.proofs.MembersOnce.{append-empty, clear}
use Rattle.jl_laws.proofs.Decided.{streaming}
use Rattle.jl_laws.proofs.Reorder.{put_if, look-name, kinds-filter, kinds-first}

-- no member's name is `@context`
abbrev NoContext : Members → Type 0
NoContext no_member = Unit {0}
NoContext (member a n v rest) = (is_context_name n ≡ false) × NoContext rest

no-context : (ms : Members) → context_faults ms ≡ [] → NoContext ms
no-context no_member e = tt
no-context (member a n v rest) e =
    let parts = append-empty (context_fault n a) (context_faults rest) e in
    (clear (is_context_name n) _ parts.0, no-context rest parts.1)

none-context : (ms : Members) → NoContext ms → any_context ms ≡ None
none-context no_member h = refl
none-context (member a n v rest) h = picked-false (is_context_name n) _ _ h.0 ∙ none-context rest h.1

-- the context is the first member, or there is none
pub first-any : (ms : Members) → late_contexts Streaming ms ≡ [] → first_context ms ≡ any_context ms
first-any no_member e = refl
first-any (member a n v rest) e =
    ap (λ x. elim (is_context_name n) [ true ↦ Some (record { at = a; local = v }) | false ↦ x ]) (sym (none-context rest (no-context rest e)))

looks-behind : (ms : Members) → late_contexts Streaming ms ≡ [] → all_looks ms ≡ all_looks (after_context ms)
looks-behind no_member e = refl
looks-behind (member a n v rest) e = by (is_context_name n) refl
  where
    by : (b : Bool) → is_context_name n ≡ b →
        ◌≡◌ {A = List Look} (elim b [ true ↦ all_looks rest | false ↦ look_at n v ∷ all_looks rest ]) (all_looks (elim b [ true ↦ rest | false ↦ member a n v rest ]))
    by true h = refl
    by false h = sym (picked-false (is_context_name n) _ _ h)

none-behind : (ms : Members) → late_contexts Streaming ms ≡ [] → NoContext (after_context ms)
none-behind no_member e = tt
none-behind (member a n v rest) e = by (is_context_name n) refl
  where
    by : (b : Bool) → is_context_name n ≡ b → NoContext (elim b [ true ↦ rest | false ↦ member a n v rest ])
    by true h = no-context rest e
    by false h = (h, no-context rest e)

-- no key would have decided the contexts
abbrev NoneDecides : Inside → Members → Type 0
NoneDecides i no_member = Unit {0}
NoneDecides i (member a n v rest) = (would_decide i n ≡ false) × NoneDecides i rest

or-false : (b d : Bool) → (b || d) ≡ false → b ≡ false
or-false true d e = absurd (true-false e)
or-false false d e = refl

or-false-right : (b d : Bool) → (b || d) ≡ false → d ≡ false
or-false-right true d e = absurd (true-false e)
or-false-right false d e = e

neither : {b d : Bool} → b ≡ false → d ≡ false → (b || d) ≡ false
neither {b} {d} e g = ap (λ x. x || d) e ∙ g

late-none : (i : Inside) (ms : Members) → late_keys i ms ≡ [] → NoneDecides i ms
late-none i no_member e = tt
late-none i (member a n v rest) e =
    let parts = append-empty (late_key i n a) (late_keys i rest) e in
    let types = append-empty (if_so (is_late_type i n) _) _ parts.0 in
    let values = append-empty (if_so (is_id (key_of i.final n)) _) (if_so (is_late_value i n) _) types.1 in (
      neither (or-false (is_kind (key_of i.base n)) (is_kind (key_of i.final n)) (clear (is_late_type i n) _ types.0))
          (or-false-right (is_value (key_of i.final n)) (i.could_go_back && is_value (key_of i.outside n)) (clear (is_late_value i n) _ values.1)),
      late-none i rest parts.1,
    )

run-none : (i : Inside) (ms : Members) → late_keys i (after_run i false ms) ≡ [] → NoneDecides i ms
run-none i no_member e = tt
run-none i (member a n v rest) e =
    by (is_leading (key_of i.final n)) (would_decide i n) refl (ends_with i n v) e (λ e'. run-none i rest e')
  where
    by : (l w : Bool) → would_decide i n ≡ w → (d : Bool) →
        late_keys i (elim (not l || w) [ true ↦ member a n v rest | false ↦ elim d [ true ↦ rest | false ↦ after_run i false rest ] ]) ≡ [] →
        (late_keys i (after_run i false rest) ≡ [] → NoneDecides i rest) → NoneDecides i (member a n v rest)
    by false w h d e next = late-none i (member a n v rest) e
    by true true h d e next = late-none i (member a n v rest) e
    by true false h true e next = (h, late-none i rest e)
    by true false h false e next = (h, next e)

run-first : (i : Inside) (a : ℕ) (n : Text) (v : Tree) (rest : Members) → late_keys i (after_run i true (member a n v rest)) ≡ [] → NoneDecides i rest
run-first i a n v rest e = by (is_leading (key_of i.final n)) (ends_with i n v) e
  where
    by : (l d : Bool) → late_keys i (elim (not l || (false && would_decide i n)) [ true ↦ member a n v rest | false ↦ elim d [ true ↦ rest | false ↦ after_run i false rest ] ]) ≡ [] → NoneDecides i rest
    by false d e = (late-none i (member a n v rest) e).1
    by true true e = late-none i rest e
    by true false e = run-none i rest e

-- a context is among the candidates
abbrev IsAmong : Context → List Context → Type 0
IsAmong b [] = ⊥
IsAmong b (c ∷ cs) = (c ≡ b) ⊎ IsAmong b cs

none-of : (test : Context → Bool) (b : Context) (cs : List Context) → IsAmong b cs → list_any test cs ≡ false → test b ≡ false
none-of test b [] h e = absurd h
none-of test b (c ∷ cs) (inl h) e = subst (λ x. test x ≡ false) h (or-false (test c) (list_any test cs) e)
none-of test b (c ∷ cs) (inr h) e = none-of test b cs h (or-false-right (test c) (list_any test cs) e)

kinds-none : (i : Inside) (ms : Members) → NoContext ms → NoneDecides i ms → type_keys i.base (all_looks ms) ≡ []
kinds-none i no_member c h = refl
kinds-none i (member a n v rest) c h =
    let b = i.base in
    let x = look_at n v in
    kinds-first b a n v rest
    ∙ (ap (λ y. put_if y (means_kind b x) x (type_keys b (all_looks rest))) c.0
    ∙ (ap (λ y. put_if false y x (type_keys b (all_looks rest)))
    (ap (λ m. is_kind (key_of b m)) (look-name n v) ∙ or-false (is_kind (key_of b n)) (i.could_go_back && is_value (key_of i.outside n)) h.0)
    ∙ kinds-none i rest c.1 h.1))

-- a key for `@type` that ends the prelude has an object as its value
kind-leads : (k : Key) → is_kind k ≡ true → is_leading k ≡ true
kind-leads kind e = refl
kind-leads k e = absurd (true-false (sym e))

look-ends : (b : Context) (cs : List Context) (n : Text) (v : Tree) → IsAmong b cs → is_in_prelude cs n v ≡ false → is_kind (key_of b n) ≡ true → look_at n v ≡ look_at_key n
look-ends b cs n (scalar at v) h e k = absurd (true-false (sym (kind-leads (key_of b n) k) ∙ none-of (leads_in n) b cs h e))
look-ends b cs n (array at xs) h e k = absurd (true-false (sym k ∙ none-of (types_in n) b cs h e))
look-ends b cs n (object at ms) h e k = refl

-- the keys for `@type` of the prelude are all there are
prelude-kinds : (i : Inside) (cs : List Context) (ms : Members) → IsAmong i.base cs → NoContext ms → late_keys i (after_run i true (after_prelude cs ms)) ≡ [] →
    type_keys i.base (prelude_looks cs ms) ≡ type_keys i.base (all_looks ms)
prelude-kinds i cs no_member m c e = refl
prelude-kinds i cs (member a n v rest) m c e = by (is_in_prelude cs n v) refl e (λ e'. prelude-kinds i cs rest m c.1 e')
  where
    b : Context
    b = i.base

    x : Look
    x = look_at n v

    all-kinds : type_keys b (all_looks (member a n v rest)) ≡ put_if false (means_kind b x) x (type_keys b (all_looks rest))
    all-kinds = kinds-first b a n v rest ∙ ap (λ y. put_if y (means_kind b x) x (type_keys b (all_looks rest))) c.0

    means : means_kind b x ≡ is_kind (key_of b n)
    means = ap (λ m. is_kind (key_of b m)) (look-name n v)

    ending : (k : Bool) → is_kind (key_of b n) ≡ k → is_in_prelude cs n v ≡ false →
        ◌≡◌ {A = List Look} (elim k [ true ↦ look_at_key n ∷ [] | false ↦ [] ]) (elim k [ true ↦ x ∷ [] | false ↦ [] ])
    ending true h p = ap (λ y. y ∷ []) (sym (look-ends b cs n v m p h))
    ending false h p = refl

    by : (p : Bool) → is_in_prelude cs n v ≡ p →
        late_keys i (after_run i true (elim p [ true ↦ after_prelude cs rest | false ↦ member a n v rest ])) ≡ [] →
        (late_keys i (after_run i true (after_prelude cs rest)) ≡ [] → type_keys b (prelude_looks cs rest) ≡ type_keys b (all_looks rest)) →
        type_keys b (elim p [ true ↦ x ∷ prelude_looks cs rest | false ↦ look_at_key n ∷ [] ]) ≡ type_keys b (all_looks (member a n v rest))
    by true h e next =
        kinds-filter b x (prelude_looks cs rest)
        ∙ (ap (put_if false (means_kind b x) x) (next e) ∙ sym all-kinds)
    by false h e next =
        kinds-filter b (look_at_key n) []
        ∙ (ending (is_kind (key_of b n)) refl h
        ∙ sym (all-kinds
        ∙ (ap (λ y. put_if false y x (type_keys b (all_looks rest))) means
        ∙ ap (put_if false (is_kind (key_of b n)) x) (kinds-none i rest c.1 (run-first i a n v rest e)))))

-- the keys that mean `@value` outside: the prelude shows one, or there is none
all-first : (a : ℕ) (n : Text) (v : Tree) (rest : Members) → is_context_name n ≡ false → all_looks (member a n v rest) ≡ look_at n v ∷ all_looks rest
all-first a n v rest h = picked-false (is_context_name n) _ _ h

values-none : (i : Inside) (ms : Members) → i.could_go_back ≡ true → NoContext ms → NoneDecides i ms → list_any (means_value i.outside) (all_looks ms) ≡ false
values-none i no_member g c h = refl
values-none i (member a n v rest) g c h =
    ap (list_any (means_value i.outside)) (all-first a n v rest c.0)
    ∙ neither
    (ap (λ m. is_value (key_of i.outside m)) (look-name n v)
    ∙ (sym (ap (λ b. b && is_value (key_of i.outside n)) g) ∙ or-false-right (is_kind (key_of i.base n)) (i.could_go_back && is_value (key_of i.outside n)) h.0))
    (values-none i rest g c.1 h.1)

prelude-values : (i : Inside) (cs : List Context) (ms : Members) → i.could_go_back ≡ true → NoContext ms → late_keys i (after_run i true (after_prelude cs ms)) ≡ [] →
    list_any (means_value i.outside) (prelude_looks cs ms) ≡ list_any (means_value i.outside) (all_looks ms)
prelude-values i cs no_member g c e = refl
prelude-values i cs (member a n v rest) g c e =
    by (is_in_prelude cs n v) e (λ e'. prelude-values i cs rest g c.1 e') ∙ sym (ap (list_any test) (all-first a n v rest c.0))
  where
    test : Look → Bool
    test = means_value i.outside

    by : (p : Bool) → late_keys i (after_run i true (elim p [ true ↦ after_prelude cs rest | false ↦ member a n v rest ])) ≡ [] →
        (late_keys i (after_run i true (after_prelude cs rest)) ≡ [] → list_any test (prelude_looks cs rest) ≡ list_any test (all_looks rest)) →
        list_any test (elim p [ true ↦ look_at n v ∷ prelude_looks cs rest | false ↦ look_at_key n ∷ [] ]) ≡ list_any test (look_at n v ∷ all_looks rest)
    by true e next = ap (λ b. test (look_at n v) || b) (next e)
    by false e next =
        ap (λ m. is_value (key_of i.outside m) || false) (sym (look-name n v))
        ∙ ap (λ b. test (look_at n v) || b) (sym (values-none i rest g c.1 (run-first i a n v rest e)))

-- a single member for `@id`: the prelude shows it, or it would be a lone identifier
two-looks : (c : Context) (x : Look) (a : ℕ) (n : Text) (v : Tree) (rest : Members) → is_context_name n ≡ false → is_single_id c None (x ∷ all_looks (member a n v rest)) ≡ false
two-looks c x a n v rest h = ap (λ l. is_single_id c None (x ∷ l)) (all-first a n v rest h)

two-shown : (c : Context) (cs : List Context) (x : Look) (a : ℕ) (n : Text) (v : Tree) (rest : Members) → is_single_id c None (x ∷ prelude_looks cs (member a n v rest)) ≡ false
two-shown c cs x a n v rest = by (is_in_prelude cs n v)
  where
    by : (p : Bool) → is_single_id c None (x ∷ elim p [ true ↦ look_at n v ∷ prelude_looks cs rest | false ↦ look_at_key n ∷ [] ]) ≡ false
    by true = refl
    by false = refl

single-shown : (c : Context) (cs : List Context) (a : ℕ) (n : Text) (v : Tree) (rest : Members) → NoContext rest → (is_in_prelude cs n v ≡ false → is_id (key_of c n) ≡ false) →
    is_single_id c None (prelude_looks cs (member a n v rest)) ≡ is_single_id c None (look_at n v ∷ all_looks rest)
single-shown c cs a n v no_member h lone = by (is_in_prelude cs n v)
  where
    by : (p : Bool) → is_single_id c None (elim p [ true ↦ look_at n v ∷ [] | false ↦ look_at_key n ∷ [] ]) ≡ is_single_id c None (look_at n v ∷ [])
    by true = refl
    by false = ap (λ m. is_id (key_of c m)) (sym (look-name n v))
single-shown c cs a n v (member b m w rest) h lone = by (is_in_prelude cs n v) lone ∙ sym (two-looks c (look_at n v) b m w rest h.0)
  where
    by : (p : Bool) → (p ≡ false → is_id (key_of c n) ≡ false) →
        is_single_id c None (elim p [ true ↦ look_at n v ∷ prelude_looks cs (member b m w rest) | false ↦ look_at_key n ∷ [] ]) ≡ false
    by true lone = two-shown c cs (look_at n v) b m w rest
    by false lone = lone refl

prelude-single : (i : Inside) (cs : List Context) (ms : Members) → i.could_go_back ≡ true → late_contexts Streaming ms ≡ [] → lone_identifier cs i ms ≡ [] →
    is_single_id i.outside (first_context ms) (prelude_looks cs (after_context ms)) ≡ is_single_id i.outside (first_context ms) (all_looks (after_context ms))
prelude-single i cs no_member g e l = refl
prelude-single i cs (member a n v rest) g e l = by (is_context_name n) refl
  where
    c : Context
    c = i.outside

    none : (is_id (key_of c n) && not (is_in_prelude cs n v)) ≡ false
    none = sym (ap (λ b. b && (is_id (key_of c n) && not (is_in_prelude cs n v))) g) ∙ clear (i.could_go_back && (is_id (key_of c n) && not (is_in_prelude cs n v))) _ l

    lone : (k p : Bool) → (k && not p) ≡ false → p ≡ false → k ≡ false
    lone false p h q = refl
    lone true true h q = absurd (true-false q)
    lone true false h q = absurd (true-false h)

    by : (b : Bool) → is_context_name n ≡ b →
        is_single_id c (elim b [ true ↦ Some (record { at = a; local = v }) | false ↦ None ]) (prelude_looks cs (elim b [ true ↦ rest | false ↦ member a n v rest ]))
        ≡ is_single_id c (elim b [ true ↦ Some (record { at = a; local = v }) | false ↦ None ]) (all_looks (elim b [ true ↦ rest | false ↦ member a n v rest ]))
    by true h = refl
    by false h =
        single-shown c cs a n v rest (no-context rest e) (lone (is_id (key_of c n)) (is_in_prelude cs n v) none)
        ∙ sym (ap (is_single_id c None) (all-first a n v rest h))

-- deciding, once the base is known
abbrev final_by : Settings → Context → Stand → ℕ → Context → List Look → Result Inside Fault
final_by s c stand at b ks =
    and_then (at_place at (final_context s b (type_texts ks) b))
    (λ d. Ok (record { outside = c; could_go_back = may_go_back c stand; base = b; final = d; input = input_type d ks }))

abbrev decide_from : Settings → Context → Under → Stand → ℕ → Option Own → Bool → List Look → Result Inside Fault
decide_from s c under stand at own goes looks =
    and_then (type_base s c under at own (starting c goes)) (λ b. final_by s c stand at b (type_keys b looks))

-- the base is a candidate
base-among : (s : Settings) (c : Context) (under : Under) (stand : Stand) (at : ℕ) (own : Option Own) (goes : Bool) (b : Context) →
    type_base s c under at own (starting c goes) ≡ Ok b → (goes ≡ true → may_go_back c stand ≡ true) → IsAmong b (candidates s c under stand at own)
base-among s c under stand at own false b h m =
    subst (λ r. IsAmong b (candidate r (elim (may_go_back c stand) [ true ↦ c ∷ candidate (type_base s c under at own (starting c true)) [] | false ↦ [] ]))) (sym h) (inl refl)
base-among s c under stand at own true b h m = by (type_base s c under at own c)
  where
    back : List Context
    back = elim (may_go_back c stand) [ true ↦ c ∷ candidate (type_base s c under at own (starting c true)) [] | false ↦ [] ]

    among : IsAmong b back
    among =
        subst (λ g. IsAmong b (elim g [ true ↦ c ∷ candidate (type_base s c under at own (starting c true)) [] | false ↦ [] ])) (sym (m refl))
        (subst (λ r. IsAmong b (c ∷ candidate r [])) (sym h) (inr (inl refl)))

    by : (r : Result Context Fault) → IsAmong b (candidate r back)
    by (Ok x) = inr among
    by (Err e) = among

-- the faults that are of interest here
abbrev whole : Settings → Context → Under → Stand → ℕ → Members → Inside → List Fault
whole s c under stand at ms i =
    members_faults s i (place own_member under stand (all_with is_kind i.final ms)) nothing_seen ms
    ++ (late_members s c under stand at i ms ++ closing_faults under i at ms (entries s i own_member under ms))

faultless-late : (base : Option Text) (library : Library) (c : Context) (under : Under) (stand : Stand) (at : ℕ) (ms : Members) (i : Inside) →
    decide (streaming base library) c under stand at ms ≡ Ok i → value_faults (streaming base library) c under stand (object at ms) ≡ [] →
    (lone_identifier (own_candidates (streaming base library) c under stand at ms) i ms ≡ []) × (late_keys i (rest_of (streaming base library) c under stand at i ms) ≡ [])
unfolding value_faults
faultless-late base library c under stand at ms i d e =
    let s = streaming base library in
    let all = append-empty (decided_faults (decide s c under stand at ms) (whole s c under stand at ms)) (late_contexts Streaming ms) e in
    let mine : whole s c under stand at ms i ≡ [] = ap (λ r. decided_faults r (whole s c under stand at ms)) (sym d) ∙ all.0 in
    let late = append-empty (members_faults s i (place own_member under stand (all_with is_kind i.final ms)) nothing_seen ms) _ mine in
    append-empty (lone_identifier (own_candidates s c under stand at ms) i ms) (late_keys i (rest_of s c under stand at i ms))
    (append-empty (late_in s c under stand at i ms) _ (append-empty (late_members s c under stand at i ms) _ late.1).0).0

faultless-contexts : (base : Option Text) (library : Library) (c : Context) (under : Under) (stand : Stand) (at : ℕ) (ms : Members) →
    value_faults (streaming base library) c under stand (object at ms) ≡ [] → late_contexts Streaming ms ≡ []
unfolding value_faults
faultless-contexts base library c under stand at ms e =
    let s = streaming base library in
    (append-empty (decided_faults (decide s c under stand at ms) (whole s c under stand at ms)) (late_contexts Streaming ms) e).1

faultless-decided : (base : Option Text) (library : Library) (c : Context) (under : Under) (stand : Stand) (at : ℕ) (ms : Members) (x : Fault) →
    value_faults (streaming base library) c under stand (object at ms) ≡ [] → decide (streaming base library) c under stand at ms ≡ Err x → ⊥
unfolding value_faults
faultless-decided base library c under stand at ms x e d =
    let s = streaming base library in
    let all = append-empty (decided_faults (decide s c under stand at ms) (whole s c under stand at ms)) (late_contexts Streaming ms) e in
    cons-empty (ap (λ r. decided_faults r (whole s c under stand at ms)) (sym d) ∙ all.0)
  where
    cons-empty : x ∷ [] ≡ [] → ⊥
    cons-empty e = cc

-- without faults, all members decide the contexts
pub all-decide : (base : Option Text) (library : Library) (c : Context) (under : Under) (stand : Stand) (at : ℕ) (ms : Members) →
    value_faults (streaming base library) c under stand (object at ms) ≡ [] →
    decide (streaming base library) c under stand at ms ≡ decide_by (streaming base library) c under stand at (any_context ms) (all_looks ms)
unfolding decide
all-decide base library c under stand at ms e =
    by-base (type_base s c under at own (starting c goes)) refl
    ∙ (ap (λ l. decide_by s c under stand at own l) (sym (looks-behind ms contexts))
    ∙ ap (λ o. decide_by s c under stand at o (all_looks ms)) (first-any ms contexts))
  where
    s : Settings
    s = streaming base library

    own : Option Own
    own = first_context ms

    cs : List Context
    cs = own_candidates s c under stand at ms

    shown : List Look
    shown = prelude_looks cs (after_context ms)

    all : List Look
    all = all_looks (after_context ms)

    goes : Bool
    goes = goes_back c stand own shown

    contexts : late_contexts Streaming ms ≡ []
    contexts = faultless-contexts base library c under stand at ms e

    no-others : NoContext (after_context ms)
    no-others = none-behind ms contexts

    goes-alike : (i : Inside) → i.outside ≡ c → i.could_go_back ≡ may_go_back c stand → lone_identifier cs i ms ≡ [] → late_keys i (rest_of s c under stand at i ms) ≡ [] →
        goes ≡ goes_back c stand own all
    goes-alike i o g lone late = by (may_go_back c stand) refl
      where
        by : (m : Bool) → may_go_back c stand ≡ m → goes ≡ goes_back c stand own all
        by false h = ap (λ b. b && (not (list_any (means_value c) shown) && not (is_single_id c own shown))) h ∙ sym (ap (λ b. b && (not (list_any (means_value c) all) && not (is_single_id c own all))) h)
        by true h =
            ap (λ b. may_go_back c stand && (not b && not (is_single_id c own shown)))
            (subst (λ x. list_any (means_value x) shown ≡ list_any (means_value x) all) o (prelude-values i cs (after_context ms) (g ∙ h) no-others late))
            ∙ ap (λ b. may_go_back c stand && (not (list_any (means_value c) all) && not b))
            (subst (λ x. is_single_id x own shown ≡ is_single_id x own all) o (prelude-single i cs ms (g ∙ h) contexts lone))

    by-base : (x : Result Context Fault) → type_base s c under at own (starting c goes) ≡ x → decide s c under stand at ms ≡ decide_by s c under stand at own all
    by-base (Err f) h = absurd (faultless-decided base library c under stand at ms f e (ap (λ r. and_then r (λ b. final_by s c stand at b (type_keys b shown))) h))
    by-base (Ok b) h = by-final (at_place at (final_context s b (type_texts (type_keys b shown)) b)) refl
      where
        finish : Context → Result Inside Fault
        finish d = Ok (record { outside = c; could_go_back = may_go_back c stand; base = b; final = d; input = input_type d (type_keys b shown) })

        decided : decide s c under stand at ms ≡ final_by s c stand at b (type_keys b shown)
        decided = ap (λ r. and_then r (λ b. final_by s c stand at b (type_keys b shown))) h

        by-final : (x : Result Context Fault) → at_place at (final_context s b (type_texts (type_keys b shown)) b) ≡ x → decide s c under stand at ms ≡ decide_by s c under stand at own all
        by-final (Err f) q = absurd (faultless-decided base library c under stand at ms f e (decided ∙ ap (λ r. and_then r finish) q))
        by-final (Ok d) q =
            let i : Inside = record { outside = c; could_go_back = may_go_back c stand; base = b; final = d; input = input_type d (type_keys b shown) } in
            let late = faultless-late base library c under stand at ms i (decided ∙ ap (λ r. and_then r finish) q) e in
            let among = base-among s c under stand at own goes b h (λ g. and-left (may_go_back c stand) (not (list_any (means_value c) shown) && not (is_single_id c own shown)) g) in
            decided
            ∙ (ap (final_by s c stand at b) (prelude-kinds i cs (after_context ms) among no-others late.1)
            ∙ (sym (ap (λ r. and_then r (λ b. final_by s c stand at b (type_keys b all))) h)
            ∙ ap (λ g. decide_from s c under stand at own g all) (goes-alike i refl refl late.0 late.1)))
