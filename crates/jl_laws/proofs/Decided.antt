-- In streaming order a decision on an object's contexts is final.
use Rattle.std.proofs.Common.{ℕ, ◌≡◌, ◌⊎◌, inl, inr, refl, sym, ◌∙◌, ap, subst, Bool, true, false, not, ◌&&◌, ◌||◌, List, [], ◌∷◌, Option, Some, None, Result}
use Rattle.std.specs.List.{list_any}
use Rattle.jl_model.specs.JsonTree.{Tree, scalar, array, object, Members, no_member, member}
use Rattle.jl_model.specs.declared.faults.Fault.{Fault}
use Rattle.jl_model.specs.declared.orders.Order.TheVariants.{Streaming}
use Rattle.jl_defs.specs.Texts.{Text}
use Rattle.jl_defs.specs.Trees.{then_members}
use Rattle.jl_defs.specs.Context.{Context}
use Rattle.jl_defs.specs.Process.{Library}
use Rattle.jl_defs.specs.Settings.{Settings, Under, Stand}
use Rattle.jl_defs.specs.Keys.{Key, kind, key_of, is_kind, is_leading}
use Rattle.jl_defs.specs.ObjectContexts.{Own, is_context_name, first_context, Look, look_at, look_at_key, Inside, decide, decide_by, candidates, leads_in, types_in, is_in_prelude, prelude_looks, after_prelude, after_context}
use Rattle.jl_defs.specs.Rest.{own_candidates}
use Rattle.jl_defs.specs.OpenTree.{First, quote, brace, bracket, sign, Open, unread, first_byte, stand_in, Extends}
use Rattle.jl_defs.specs.Settled.{is_some_member, has_ended, ends_by, is_first_context, decided, decided_by_key}
use Rattle.jl_defs.specs.Reported.{decide_read}
use Rattle.jl_laws.proofs.Begun.{Begins, extends-begins, Alike, IsRead, stand-alike}
use Rattle.jl_laws.proofs.Bools.{true-false, negated, or-true, and-left, and-right, picked-false}

-- the settings in streaming order
abbrev pub streaming : Option Text → Library → Settings
streaming base library = record { order = Streaming; base = base; library = library }

-- a key for `@type` is a leading one
kind-leads : (k : Key) → is_leading k ≡ false → is_kind k ≡ false
kind-leads kind e = absurd cc
kind-leads k e = refl

types-lead : (name : Text) (cs : List Context) → list_any (leads_in name) cs ≡ false → list_any (types_in name) cs ≡ false
types-lead name [] e = refl
types-lead name (c ∷ cs) e = by (is_leading (key_of c name)) (is_kind (key_of c name)) (kind-leads (key_of c name)) e (λ e'. types-lead name cs e')
  where
    by : (l k : Bool) → (l ≡ false → k ≡ false) → (l || list_any (leads_in name) cs) ≡ false → (list_any (leads_in name) cs ≡ false → list_any (types_in name) cs ≡ false) → (k || list_any (types_in name) cs) ≡ false
    by true k h e next = absurd cc
    by false true h e next = absurd (true-false (h refl))
    by false false h e next = next e

-- the key ends the prelude
not-in-prelude : (cs : List Context) (name : Text) (first : Option First) (v : Tree) → ends_by cs name first ≡ true → Begins first v → is_in_prelude cs name v ≡ false
not-in-prelude cs name None (scalar at v) e b = negated e
not-in-prelude cs name None (array at xs) e b = types-lead name cs (negated e)
not-in-prelude cs name (Some quote) (scalar at v) e b = negated e
not-in-prelude cs name (Some quote) (array at xs) e b = absurd b
not-in-prelude cs name (Some sign) (scalar at v) e b = negated e
not-in-prelude cs name (Some sign) (array at xs) e b = absurd b
not-in-prelude cs name (Some bracket) (array at xs) e b = negated e
not-in-prelude cs name (Some bracket) (scalar at v) e b = absurd b
not-in-prelude cs name (Some brace) (scalar at v) e b = absurd b
not-in-prelude cs name (Some brace) (array at xs) e b = absurd b
not-in-prelude cs name first (object at ms) e b = refl

alike-prelude : (cs : List Context) (name : Text) (t u : Tree) → Alike t u → is_in_prelude cs name t ≡ is_in_prelude cs name u
alike-prelude cs name (scalar at v) (scalar at' w) e = refl
alike-prelude cs name (scalar at v) (array at' ys) e = absurd e
alike-prelude cs name (scalar at v) (object at' ns) e = absurd e
alike-prelude cs name (array at xs) (scalar at' w) e = absurd e
alike-prelude cs name (array at xs) (array at' ys) e = refl
alike-prelude cs name (array at xs) (object at' ns) e = absurd e
alike-prelude cs name (object at ms) (scalar at' w) e = absurd e
alike-prelude cs name (object at ms) (array at' ys) e = absurd e
alike-prelude cs name (object at ms) (object at' ns) e = refl

stand-not-in-prelude : (cs : List Context) (name : Text) (o : Open) (v : Tree) → ends_by cs name (first_byte o) ≡ true → Extends o v → is_in_prelude cs name (stand_in o) ≡ false
stand-not-in-prelude cs name unread v e x = negated e
stand-not-in-prelude cs name o v e x = by (is_read o)
  where
    is_read : (o : Open) → (o ≡ unread) ⊎ IsRead o
    is_read unread = inl refl
    is_read o = inr tt

    by : (o ≡ unread) ⊎ IsRead o → is_in_prelude cs name (stand_in o) ≡ false
    by (inl f) = subst (λ o. ends_by cs name (first_byte o) ≡ true → is_in_prelude cs name (stand_in o) ≡ false) (sym f) (λ e. negated e) e
    by (inr r) = alike-prelude cs name (stand_in o) v (stand-alike o v r x) ∙ not-in-prelude cs name (first_byte o) v e (extends-begins o v x)

-- the prelude has ended among the first members, or the next one ends it, whichever of two values it has
abbrev pub Ended : List Context → Members → Text → Tree → Tree → Type 0
Ended cs ms n v w = (is_some_member (after_prelude cs ms) ≡ true) ⊎ ((is_in_prelude cs n v ≡ false) × (is_in_prelude cs n w ≡ false))

looks-then : (cs : List Context) (ms rest : Members) → is_some_member (after_prelude cs ms) ≡ true → prelude_looks cs (then_members ms rest) ≡ prelude_looks cs ms
looks-then cs no_member rest e = absurd cc
looks-then cs (member a n v ms) rest e = by (is_in_prelude cs n v) e (λ e'. looks-then cs ms rest e')
  where
    by : (b : Bool) → is_some_member (elim b [ true ↦ after_prelude cs ms | false ↦ member a n v ms ]) ≡ true →
        (is_some_member (after_prelude cs ms) ≡ true → prelude_looks cs (then_members ms rest) ≡ prelude_looks cs ms) →
        ◌≡◌ {A = List Look} (elim b [ true ↦ look_at n v ∷ prelude_looks cs (then_members ms rest) | false ↦ look_at_key n ∷ [] ]) (elim b [ true ↦ look_at n v ∷ prelude_looks cs ms | false ↦ look_at_key n ∷ [] ])
    by true e next = ap (λ l. look_at n v ∷ l) (next e)
    by false e next = refl

pub prelude-then : (cs : List Context) (ms rest : Members) → is_some_member (after_prelude cs ms) ≡ true → after_prelude cs (then_members ms rest) ≡ then_members (after_prelude cs ms) rest
prelude-then cs no_member rest e = absurd cc
prelude-then cs (member a n v ms) rest e = by (is_in_prelude cs n v) e (λ e'. prelude-then cs ms rest e')
  where
    by : (b : Bool) → is_some_member (elim b [ true ↦ after_prelude cs ms | false ↦ member a n v ms ]) ≡ true →
        (is_some_member (after_prelude cs ms) ≡ true → after_prelude cs (then_members ms rest) ≡ then_members (after_prelude cs ms) rest) →
        elim b [ true ↦ after_prelude cs (then_members ms rest) | false ↦ member a n v (then_members ms rest) ] ≡ then_members (elim b [ true ↦ after_prelude cs ms | false ↦ member a n v ms ]) rest
    by true e next = next e
    by false e next = refl

looks-end : (cs : List Context) (ms : Members) (a : ℕ) (n : Text) (v w : Tree) (r q : Members) → is_in_prelude cs n v ≡ false → is_in_prelude cs n w ≡ false →
    prelude_looks cs (then_members ms (member a n v r)) ≡ prelude_looks cs (then_members ms (member a n w q))
looks-end cs no_member a n v w r q e f = picked-false (is_in_prelude cs n v) _ _ e ∙ sym (picked-false (is_in_prelude cs n w) _ _ f)
looks-end cs (member b m x ms) a n v w r q e f =
    ap (λ l. elim (is_in_prelude cs m x) [ true ↦ look_at m x ∷ l | false ↦ look_at_key m ∷ [] ]) (looks-end cs ms a n v w r q e f)

prelude-end : (cs : List Context) (ms : Members) (a : ℕ) (n : Text) (v : Tree) (r : Members) → is_in_prelude cs n v ≡ false →
    after_prelude cs (then_members ms (member a n v r)) ≡ then_members (after_prelude cs ms) (member a n v r)
prelude-end cs no_member a n v r e = picked-false (is_in_prelude cs n v) _ _ e
prelude-end cs (member b m x ms) a n v r e = by (is_in_prelude cs m x) (prelude-end cs ms a n v r e)
  where
    by : (b' : Bool) → after_prelude cs (then_members ms (member a n v r)) ≡ then_members (after_prelude cs ms) (member a n v r) →
        elim b' [ true ↦ after_prelude cs (then_members ms (member a n v r)) | false ↦ member b m x (then_members ms (member a n v r)) ]
        ≡ then_members (elim b' [ true ↦ after_prelude cs ms | false ↦ member b m x ms ]) (member a n v r)
    by true h = h
    by false h = refl

-- whichever of the two values the next member has, the same is seen, and the same members are behind the prelude
looks-ended : (cs : List Context) (ms : Members) (a : ℕ) (n : Text) (v w : Tree) (r q : Members) → Ended cs ms n v w →
    prelude_looks cs (then_members ms (member a n v r)) ≡ prelude_looks cs (then_members ms (member a n w q))
looks-ended cs ms a n v w r q (inl e) = looks-then cs ms (member a n v r) e ∙ sym (looks-then cs ms (member a n w q) e)
looks-ended cs ms a n v w r q (inr (e, f)) = looks-end cs ms a n v w r q e f

pub prelude-ended : (cs : List Context) (ms : Members) (a : ℕ) (n : Text) (v w : Tree) (r : Members) → Ended cs ms n v w →
    after_prelude cs (then_members ms (member a n v r)) ≡ then_members (after_prelude cs ms) (member a n v r)
prelude-ended cs ms a n v w r (inl e) = prelude-then cs ms (member a n v r) e
prelude-ended cs ms a n v w r (inr (e, f)) = prelude-end cs ms a n v r e

pub ended-turned : (cs : List Context) (ms : Members) (n : Text) (v w : Tree) → Ended cs ms n v w → Ended cs ms n w v
ended-turned cs ms n v w (inl e) = inl e
ended-turned cs ms n v w (inr (e, f)) = inr (f, e)

-- the first member is there, or this one isn't `@context`
pub first-then : (ms rest : Members) → is_some_member ms ≡ true → first_context (then_members ms rest) ≡ first_context ms
first-then no_member rest e = absurd cc
first-then (member a n v ms) rest e = refl

pub after-then : (ms rest : Members) → is_some_member ms ≡ true → after_context (then_members ms rest) ≡ then_members (after_context ms) rest
after-then no_member rest e = absurd cc
after-then (member a n v ms) rest e = by (is_context_name n)
  where
    by : (b : Bool) → elim b [ true ↦ then_members ms rest | false ↦ member a n v (then_members ms rest) ] ≡ then_members (elim b [ true ↦ ms | false ↦ member a n v ms ]) rest
    by true = refl
    by false = refl

pub first-member : (ms : Members) (a : ℕ) (n : Text) (v : Tree) (rest : Members) → is_first_context ms n ≡ false → first_context (then_members ms (member a n v rest)) ≡ first_context ms
first-member no_member a n v rest e = picked-false (is_context_name n) _ _ e
first-member (member b m w ms) a n v rest e = refl

pub after-member : (ms : Members) (a : ℕ) (n : Text) (v : Tree) (rest : Members) → is_first_context ms n ≡ false →
    after_context (then_members ms (member a n v rest)) ≡ then_members (after_context ms) (member a n v rest)
after-member no_member a n v rest e = picked-false (is_context_name n) _ _ e
after-member (member b m w ms) a n v rest e = after-then (member b m w ms) (member a n v rest) refl

pub ended-some : (cs : List Context) (ms : Members) → has_ended cs ms ≡ true → is_some_member ms ≡ true
ended-some cs no_member e = absurd cc
ended-some cs (member a n v ms) e = refl

some-first : (ms : Members) (n : Text) → is_some_member ms ≡ true → is_first_context ms n ≡ false
some-first no_member n e = absurd cc
some-first (member a m v ms) n e = refl

-- what tells the contexts of an object in streaming order
abbrev by_parts : Settings → Context → Under → Stand → ℕ → Option Own → Members → Result Inside Fault
by_parts s c under stand at own ms = decide_by s c under stand at own (prelude_looks (candidates s c under stand at own) ms)

pub decide-then : (base : Option Text) (library : Library) (c : Context) (under : Under) (stand : Stand) (at : ℕ) (ms rest : Members) →
    decided (streaming base library) c under stand at ms ≡ true →
    decide (streaming base library) c under stand at (then_members ms rest) ≡ decide (streaming base library) c under stand at ms
unfolding decide decided
decide-then base library c under stand at ms rest e =
    let s = streaming base library in
    let cs = own_candidates s c under stand at ms in
    let n = ended-some cs ms e in
    ap (λ x. by_parts s c under stand at x (after_context (then_members ms rest))) (first-then ms rest n)
    ∙ (ap (λ y. by_parts s c under stand at (first_context ms) y) (after-then ms rest n)
    ∙ ap (λ l. decide_by s c under stand at (first_context ms) l) (looks-then cs (after_context ms) rest e))

-- a member that decides the contexts by its key, or by the first byte of its value
pub record Decides (s : Settings) (c : Context) (under : Under) (stand : Stand) (at : ℕ) (ms : Members) (n : Text) (o : Open) (v : Tree) : Type 0 where
  pub isnt_first : is_first_context ms n ≡ false
  pub ended : Ended (own_candidates s c under stand at ms) (after_context ms) n (stand_in o) v

pub decides : (base : Option Text) (library : Library) (c : Context) (under : Under) (stand : Stand) (at : ℕ) (ms : Members) (a : ℕ) (n : Text) (o : Open) (v : Tree) →
    decided_by_key (streaming base library) c under stand at ms a n o ≡ true → Extends o v → Decides (streaming base library) c under stand at ms n o v
unfolding decided_by_key
decides base library c under stand at ms a n o v e x = by (or-true e)
  where
    s : Settings
    s = streaming base library

    cs : List Context
    cs = own_candidates s c under stand at ms

    by : (has_ended cs ms ≡ true) ⊎ ((not (is_first_context ms n) && ends_by cs n (first_byte o)) ≡ true) → Decides s c under stand at ms n o v
    by (inl h) = record { isnt_first = some-first ms n (ended-some cs ms h); ended = inl h }
    by (inr h) = record {
      isnt_first = negated (and-left (not (is_first_context ms n)) (ends_by cs n (first_byte o)) h);
      ended = inr (stand-not-in-prelude cs n o v (and-right (not (is_first_context ms n)) (ends_by cs n (first_byte o)) h) x, not-in-prelude cs n (first_byte o) v (and-right (not (is_first_context ms n)) (ends_by cs n (first_byte o)) h) (extends-begins o v x));
    }

pub decide-member : (base : Option Text) (library : Library) (c : Context) (under : Under) (stand : Stand) (at : ℕ) (ms : Members) (a : ℕ) (n : Text) (o : Open) (v : Tree) (rest : Members) →
    Decides (streaming base library) c under stand at ms n o v →
    decide_read (streaming base library) c under stand at ms a n o ≡ decide (streaming base library) c under stand at (then_members ms (member a n v rest))
unfolding decide
decide-member base library c under stand at ms a n o v rest d =
    let s = streaming base library in
    let f = first_context ms in
    let w = stand_in o in
    ap (λ x. by_parts s c under stand at x (after_context (then_members ms (member a n w no_member)))) (first-member ms a n w no_member d.isnt_first)
    ∙ (ap (λ y. by_parts s c under stand at f y) (after-member ms a n w no_member d.isnt_first)
    ∙ (ap (λ l. decide_by s c under stand at f l) (looks-ended (own_candidates s c under stand at ms) (after_context ms) a n w v no_member rest d.ended)
    ∙ (ap (λ y. by_parts s c under stand at f y) (sym (after-member ms a n v rest d.isnt_first))
    ∙ ap (λ x. by_parts s c under stand at x (after_context (then_members ms (member a n v rest)))) (sym (first-member ms a n v rest d.isnt_first)))))
