-- In streaming order a key that has come too late stays so.
use Rattle.std.proofs.Common.{ℕ, ◌+◌, ◌≤◌, ◌≡◌, inl, inr, refl, sym, ◌∙◌, ap, subst, Bool, true, false, not, ◌&&◌, ◌||◌, List, [], ◌∷◌, ◌++◌, Option, arith}
use Rattle.std.proofs.lemmas.List.{append-nil, append_assoc}
use Rattle.jl_model.specs.JsonTree.{Tree, Members, no_member, member}
use Rattle.jl_model.specs.declared.codes.Code.TheVariants as code
use Rattle.jl_model.specs.declared.faults.Fault.{Fault}
use Rattle.jl_model.specs.declared.orders.Order.TheVariants.{Streaming}
use Rattle.jl_defs.specs.Texts.{Text}
use Rattle.jl_defs.specs.Trees.{then_members}
use Rattle.jl_defs.specs.Context.{Context, term}
use Rattle.jl_defs.specs.Process.{Library}
use Rattle.jl_defs.specs.Settings.{Settings, Under, property_of, Stand, root, entry, graph_entry, elsewhere}
use Rattle.jl_defs.specs.Keys.{Key, key_of, is_graph, is_id, is_index}
use Rattle.jl_defs.specs.ObjectContexts.{fault, Inside, candidates, is_in_prelude, after_prelude, after_context}
use Rattle.jl_defs.specs.Kept.{Role, own_member, is_admitted, form_of, nest_inside, if_key, entries_by, form_keeps, nested_keys, has_any, keeps, entries, nested_entries, reversed_entries}
use Rattle.jl_defs.specs.Graphs.{begins_graph, after_indexes, without_names, is_graph_by_rest, reads_as_graph}
use Rattle.jl_defs.specs.LateKeys.{if_so, context_fault, context_faults, late_contexts, late_key, late_keys, late_graph, all_late_graph, after_graph, late_graphs, lone_identifier, late_in}
use Rattle.jl_defs.specs.Rest.{own_candidates, prelude_of, past_prelude, ends_run, ends_with, run_of, after_run, before_rest, rest_of}
use Rattle.jl_defs.specs.OpenTree.{Open, stand_in, read_members}
use Rattle.jl_defs.specs.Settled.{is_some_member, has_ended, decided}
use Rattle.jl_defs.specs.Sets.{tally}
use Rattle.jl_laws.proofs.Bools.{true-false, and-left, and-right}
use Rattle.jl_laws.proofs.Counting.{tally-append}
use Rattle.jl_laws.proofs.Decided.{Ended, streaming, prelude-then, prelude-ended, ended-turned, first-then, after-then, first-member, after-member, ended-some, Decides}

pub if-so-le : (f : Fault → ℕ) (b : Bool) (fs : List Fault) (n : ℕ) → (b ≡ true → tally f fs ≤ n) → tally f (if_so b fs) ≤ n
if-so-le f true fs n h = h refl
if-so-le f false fs n h = omega arith

-- contexts
contexts-then : (f : Fault → ℕ) (ms rest : Members) → tally f (context_faults (then_members ms rest)) ≡ tally f (context_faults ms) + tally f (context_faults rest)
contexts-then f no_member rest = omega arith
contexts-then f (member a n v ms) rest =
    omega (arith, contexts-then f ms rest, tally-append f (context_fault n a) (context_faults ms), tally-append f (context_fault n a) (context_faults (then_members ms rest)))

pub late-contexts-then : (f : Fault → ℕ) (ms rest : Members) → tally f (late_contexts Streaming ms) ≤ tally f (late_contexts Streaming (then_members ms rest))
late-contexts-then f no_member rest = omega arith
late-contexts-then f (member a n v ms) rest = omega (arith, contexts-then f ms rest)

pub late-contexts-member : (f : Fault → ℕ) (ms : Members) (a : ℕ) (n : Text) (v w : Tree) (rest : Members) →
    tally f (late_contexts Streaming (then_members ms (member a n w no_member))) ≤ tally f (late_contexts Streaming (then_members ms (member a n v rest)))
late-contexts-member f no_member a n v w rest = omega arith
late-contexts-member f (member b m x ms) a n v w rest =
    omega (arith, contexts-then f ms (member a n w no_member), contexts-then f ms (member a n v rest), tally-append f (context_fault n a) (context_faults rest), tally-append f (context_fault n a) [])

-- keys after the second run
keys-then : (f : Fault → ℕ) (i : Inside) (ms rest : Members) → tally f (late_keys i (then_members ms rest)) ≡ tally f (late_keys i ms) + tally f (late_keys i rest)
keys-then f i no_member rest = omega arith
keys-then f i (member a n v ms) rest =
    omega (arith, keys-then f i ms rest, tally-append f (late_key i n a) (late_keys i ms), tally-append f (late_key i n a) (late_keys i (then_members ms rest)))

run-then : (f : Fault → ℕ) (i : Inside) (first : Bool) (ms rest : Members) → tally f (late_keys i (after_run i first ms)) ≤ tally f (late_keys i (after_run i first (then_members ms rest)))
run-then f i first no_member rest = omega arith
run-then f i first (member a n v ms) rest = by (ends_run i first n) (ends_with i n v) (run-then f i false ms rest)
  where
    by : (b d : Bool) → tally f (late_keys i (after_run i false ms)) ≤ tally f (late_keys i (after_run i false (then_members ms rest))) →
        tally f (late_keys i (elim b [ true ↦ member a n v ms | false ↦ elim d [ true ↦ ms | false ↦ after_run i false ms ] ]))
        ≤ tally f (late_keys i (elim b [ true ↦ member a n v (then_members ms rest) | false ↦ elim d [ true ↦ then_members ms rest | false ↦ after_run i false (then_members ms rest) ] ]))
    by true d h = omega (arith, keys-then f i (member a n v ms) rest)
    by false true h = omega (arith, keys-then f i ms rest)
    by false false h = h

keys-member : (f : Fault → ℕ) (i : Inside) (ms : Members) (a : ℕ) (n : Text) (v w : Tree) (rest : Members) →
    tally f (late_keys i (then_members ms (member a n w no_member))) ≤ tally f (late_keys i (then_members ms (member a n v rest)))
keys-member f i ms a n v w rest =
    omega (arith, keys-then f i ms (member a n w no_member), keys-then f i ms (member a n v rest), tally-append f (late_key i n a) [], tally-append f (late_key i n a) (late_keys i rest))

run-member : (f : Fault → ℕ) (i : Inside) (first : Bool) (ms : Members) (a : ℕ) (n : Text) (v w : Tree) (rest : Members) →
    tally f (late_keys i (after_run i first (then_members ms (member a n w no_member)))) ≤ tally f (late_keys i (after_run i first (then_members ms (member a n v rest))))
run-member f i first no_member a n v w rest = by (ends_run i first n) (ends_with i n w) (ends_with i n v)
  where
    by : (b d e : Bool) →
        tally f (late_keys i (elim b [ true ↦ member a n w no_member | false ↦ elim d [ true ↦ no_member | false ↦ no_member ] ]))
        ≤ tally f (late_keys i (elim b [ true ↦ member a n v rest | false ↦ elim e [ true ↦ rest | false ↦ after_run i false rest ] ]))
    by true d e = keys-member f i no_member a n v w rest
    by false true e = omega arith
    by false false e = omega arith
run-member f i first (member b m x ms) a n v w rest = by (ends_run i first m) (ends_with i m x) (run-member f i false ms a n v w rest)
  where
    here : Members
    here = then_members ms (member a n w no_member)

    all : Members
    all = then_members ms (member a n v rest)

    by : (b' d : Bool) → tally f (late_keys i (after_run i false here)) ≤ tally f (late_keys i (after_run i false all)) →
        tally f (late_keys i (elim b' [ true ↦ member b m x here | false ↦ elim d [ true ↦ here | false ↦ after_run i false here ] ]))
        ≤ tally f (late_keys i (elim b' [ true ↦ member b m x all | false ↦ elim d [ true ↦ all | false ↦ after_run i false all ] ]))
    by true d h = keys-member f i (member b m x ms) a n v w rest
    by false true h = keys-member f i ms a n v w rest
    by false false h = h

-- the rest of an object, by what stands before it
abbrev rest_by : Inside → List Context → Members → Members
rest_by i cs ms = after_run i true (after_prelude cs ms)

rest-then : (base : Option Text) (library : Library) (c : Context) (under : Under) (stand : Stand) (at : ℕ) (i : Inside) (ms rest : Members) →
    decided (streaming base library) c under stand at ms ≡ true →
    rest_of (streaming base library) c under stand at i (then_members ms rest)
    ≡ after_run i true (then_members (after_prelude (own_candidates (streaming base library) c under stand at ms) (after_context ms)) rest)
unfolding decided
rest-then base library c under stand at i ms rest e =
    let s = streaming base library in
    let cs = own_candidates s c under stand at ms in
    let n = ended-some cs ms e in
    ap (λ x. rest_by i (candidates s c under stand at x) (after_context (then_members ms rest))) (first-then ms rest n)
    ∙ (ap (λ y. rest_by i cs y) (after-then ms rest n)
    ∙ ap (λ l. after_run i true l) (prelude-then cs (after_context ms) rest e))

-- a lone first key
lone-then : (cs : List Context) (i : Inside) (ms rest : Members) → is_some_member ms ≡ true → lone_identifier cs i (then_members ms rest) ≡ lone_identifier cs i ms
lone-then cs i no_member rest e = absurd cc
lone-then cs i (member a n v ms) rest e = refl

lone-member : (cs : List Context) (i : Inside) (ms : Members) (a : ℕ) (n : Text) (v w : Tree) (rest : Members) → Ended cs (after_context ms) n w v →
    lone_identifier cs i (then_members ms (member a n w no_member)) ≡ lone_identifier cs i (then_members ms (member a n v rest))
lone-member cs i no_member a n v w rest (inl e) = absurd cc
lone-member cs i no_member a n v w rest (inr (e, g)) =
    ap (λ b. if_so (i.could_go_back && (is_id (key_of i.outside n) && not b)) (fault code.LateIdentifier a ∷ [])) (e ∙ sym g)
lone-member cs i (member b m x ms) a n v w rest e = refl

pub late-then : (f : Fault → ℕ) (base : Option Text) (library : Library) (c : Context) (under : Under) (stand : Stand) (at : ℕ) (i : Inside) (ms rest : Members) →
    decided (streaming base library) c under stand at ms ≡ true →
    tally f (late_in (streaming base library) c under stand at i ms) ≤ tally f (late_in (streaming base library) c under stand at i (then_members ms rest))
unfolding decided
late-then f base library c under stand at i ms rest e =
    let s = streaming base library in
    let cs = own_candidates s c under stand at ms in
    let all = then_members ms rest in
    let n = ended-some cs ms e in
    let keys : tally f (late_keys i (rest_of s c under stand at i ms)) ≤ tally f (late_keys i (rest_of s c under stand at i all))
    = subst (λ l. tally f (late_keys i (rest_of s c under stand at i ms)) ≤ tally f (late_keys i l)) (sym (rest-then base library c under stand at i ms rest e))
    (run-then f i true (past_prelude cs ms) rest) in
    let lone : lone_identifier (own_candidates s c under stand at all) i all ≡ lone_identifier cs i ms
    = ap (λ x. lone_identifier (candidates s c under stand at x) i all) (first-then ms rest n) ∙ lone-then cs i ms rest n in
    omega (
      arith,
      keys,
      ap (tally f) lone,
      tally-append f (lone_identifier cs i ms) (late_keys i (rest_of s c under stand at i ms)),
      tally-append f (lone_identifier (own_candidates s c under stand at all) i all) (late_keys i (rest_of s c under stand at i all)),
    )

rest-member : (base : Option Text) (library : Library) (c : Context) (under : Under) (stand : Stand) (at : ℕ) (i : Inside) (ms : Members) (a : ℕ) (n : Text) (o : Open) (v : Tree) (rest : Members) →
    Decides (streaming base library) c under stand at ms n o v →
    rest_of (streaming base library) c under stand at i (then_members ms (member a n v rest))
    ≡ after_run i true (then_members (after_prelude (own_candidates (streaming base library) c under stand at ms) (after_context ms)) (member a n v rest))
rest-member base library c under stand at i ms a n o v rest d =
    let s = streaming base library in
    let cs = own_candidates s c under stand at ms in
    ap (λ x. rest_by i (candidates s c under stand at x) (after_context (then_members ms (member a n v rest)))) (first-member ms a n v rest d.isnt_first)
    ∙ (ap (λ y. rest_by i cs y) (after-member ms a n v rest d.isnt_first)
    ∙ ap (λ l. after_run i true l) (prelude-ended cs (after_context ms) a n v (stand_in o) rest (ended-turned cs (after_context ms) n (stand_in o) v d.ended)))

rest-read : (base : Option Text) (library : Library) (c : Context) (under : Under) (stand : Stand) (at : ℕ) (i : Inside) (ms : Members) (a : ℕ) (n : Text) (o : Open) (v : Tree) →
    Decides (streaming base library) c under stand at ms n o v →
    rest_of (streaming base library) c under stand at i (read_members ms a n o)
    ≡ after_run i true (then_members (after_prelude (own_candidates (streaming base library) c under stand at ms) (after_context ms)) (member a n (stand_in o) no_member))
rest-read base library c under stand at i ms a n o v d =
    let s = streaming base library in
    let cs = own_candidates s c under stand at ms in
    let w = stand_in o in
    ap (λ x. rest_by i (candidates s c under stand at x) (after_context (then_members ms (member a n w no_member)))) (first-member ms a n w no_member d.isnt_first)
    ∙ (ap (λ y. rest_by i cs y) (after-member ms a n w no_member d.isnt_first)
    ∙ ap (λ l. after_run i true l) (prelude-ended cs (after_context ms) a n w v no_member d.ended))

pub late-member : (f : Fault → ℕ) (base : Option Text) (library : Library) (c : Context) (under : Under) (stand : Stand) (at : ℕ) (i : Inside) (ms : Members) (a : ℕ) (n : Text) (o : Open) (v : Tree) (rest : Members) →
    Decides (streaming base library) c under stand at ms n o v →
    tally f (late_in (streaming base library) c under stand at i (read_members ms a n o))
    ≤ tally f (late_in (streaming base library) c under stand at i (then_members ms (member a n v rest)))
late-member f base library c under stand at i ms a n o v rest d =
    let s = streaming base library in
    let cs = own_candidates s c under stand at ms in
    let w = stand_in o in
    let part = read_members ms a n o in
    let all = then_members ms (member a n v rest) in
    let keys : tally f (late_keys i (rest_of s c under stand at i part)) ≤ tally f (late_keys i (rest_of s c under stand at i all))
    = subst (λ l. tally f (late_keys i (rest_of s c under stand at i part)) ≤ tally f (late_keys i l)) (sym (rest-member base library c under stand at i ms a n o v rest d))
    (subst (λ l. tally f (late_keys i l) ≤ tally f (late_keys i (after_run i true (then_members (past_prelude cs ms) (member a n v rest)))))
    (sym (rest-read base library c under stand at i ms a n o v d))
    (run-member f i true (past_prelude cs ms) a n v w rest)) in
    let here = ap (λ x. lone_identifier (candidates s c under stand at x) i part) (first-member ms a n w no_member d.isnt_first) in
    let there = ap (λ x. lone_identifier (candidates s c under stand at x) i all) (first-member ms a n v rest d.isnt_first) in
    let lone : lone_identifier (own_candidates s c under stand at part) i part ≡ lone_identifier (own_candidates s c under stand at all) i all
    = here ∙ (lone-member cs i ms a n v w rest d.ended ∙ sym there) in
    omega (
      arith,
      keys,
      ap (tally f) lone,
      tally-append f (lone_identifier (own_candidates s c under stand at part) i part) (late_keys i (rest_of s c under stand at i part)),
      tally-append f (lone_identifier (own_candidates s c under stand at all) i all) (late_keys i (rest_of s c under stand at i all)),
    )

-- the entries of one member
abbrev pub member_entries : Settings → Inside → Role → Under → Text → Tree → List Key
member_entries s i role under n v =
    if_key (is_admitted role (key_of i.final n))
    (entries_by (key_of i.final n) under
    (λ _. form_keeps (form_of (term i.final n) v) (λ _. keeps s i.final (property_of n) elsewhere v))
    (λ _. nested_keys (nest_inside s i n) (λ j. nested_entries s j under v))
    (λ _. has_any (reversed_entries s i.final v)))

pub entries-then : (s : Settings) (i : Inside) (role : Role) (under : Under) (ms rest : Members) →
    entries s i role under (then_members ms rest) ≡ entries s i role under ms ++ entries s i role under rest
unfolding entries
entries-then s i role under no_member rest = refl
entries-then s i role under (member a n v ms) rest =
    ap (λ l. member_entries s i role under n v ++ l) (entries-then s i role under ms rest)
    ∙ sym (append_assoc (member_entries s i role under n v) (entries s i role under ms) (entries s i role under rest))

-- the rest has begun: what follows belongs to it
run-some : (i : Inside) (ms : Members) → is_some_member (after_run i true ms) ≡ true → is_some_member ms ≡ true
run-some i no_member e = absurd cc
run-some i (member a n v ms) e = refl

run-ended : (i : Inside) (first : Bool) (ms rest : Members) → is_some_member (after_run i first ms) ≡ true →
    (after_run i first (then_members ms rest) ≡ then_members (after_run i first ms) rest) × (run_of i first (then_members ms rest) ≡ run_of i first ms)
run-ended i first no_member rest e = absurd cc
run-ended i first (member a n v ms) rest e = by (ends_run i first n) (ends_with i n v) e (λ e'. run-ended i false ms rest e')
  where
    by : (b d : Bool) → is_some_member (elim b [ true ↦ member a n v ms | false ↦ elim d [ true ↦ ms | false ↦ after_run i false ms ] ]) ≡ true →
        (is_some_member (after_run i false ms) ≡ true →
        (after_run i false (then_members ms rest) ≡ then_members (after_run i false ms) rest) × (run_of i false (then_members ms rest) ≡ run_of i false ms)) →
        ◌≡◌ {A = Members} (elim b [ true ↦ member a n v (then_members ms rest) | false ↦ elim d [ true ↦ then_members ms rest | false ↦ after_run i false (then_members ms rest) ] ])
        (then_members (elim b [ true ↦ member a n v ms | false ↦ elim d [ true ↦ ms | false ↦ after_run i false ms ] ]) rest)
        × ◌≡◌ {A = Members} (elim b [ true ↦ no_member | false ↦ member a n v (elim d [ true ↦ no_member | false ↦ run_of i false (then_members ms rest) ]) ])
        (elim b [ true ↦ no_member | false ↦ member a n v (elim d [ true ↦ no_member | false ↦ run_of i false ms ]) ])
    by true d e next = (refl, refl)
    by false true e next = (refl, refl)
    by false false e next = let here = next e in (here.0, ap (λ l. member a n v l) here.1)

prelude-before : (cs : List Context) (ms rest : Members) → is_some_member (after_prelude cs ms) ≡ true → prelude_of cs (then_members ms rest) ≡ prelude_of cs ms
prelude-before cs no_member rest e = absurd cc
prelude-before cs (member a n v ms) rest e = by (is_in_prelude cs n v) e (λ e'. prelude-before cs ms rest e')
  where
    by : (b : Bool) → is_some_member (elim b [ true ↦ after_prelude cs ms | false ↦ member a n v ms ]) ≡ true →
        (is_some_member (after_prelude cs ms) ≡ true → prelude_of cs (then_members ms rest) ≡ prelude_of cs ms) →
        ◌≡◌ {A = Members} (elim b [ true ↦ member a n v (prelude_of cs (then_members ms rest)) | false ↦ no_member ]) (elim b [ true ↦ member a n v (prelude_of cs ms) | false ↦ no_member ])
    by true e next = ap (λ l. member a n v l) (next e)
    by false e next = refl

-- what stands before the rest, by the parts of the object
abbrev before_by : Inside → List Context → Members → Members
before_by i cs ms = then_members (prelude_of cs ms) (run_of i true (after_prelude cs ms))

before-then : (base : Option Text) (library : Library) (c : Context) (under : Under) (stand : Stand) (at : ℕ) (i : Inside) (ms rest : Members) →
    (let s = streaming base library in
    is_some_member (rest_of s c under stand at i ms) ≡ true → before_rest s c under stand at i (then_members ms rest) ≡ before_rest s c under stand at i ms)
before-then base library c under stand at i ms rest e =
    let s = streaming base library in
    let cs = own_candidates s c under stand at ms in
    let past = past_prelude cs ms in
    let more = run-some i past e in
    let n = ended-some cs ms more in
    ap (λ x. before_by i (candidates s c under stand at x) (after_context (then_members ms rest))) (first-then ms rest n)
    ∙ (ap (λ y. before_by i cs y) (after-then ms rest n)
    ∙ (ap (λ l. then_members l (run_of i true (after_prelude cs (then_members (after_context ms) rest)))) (prelude-before cs (after_context ms) rest more)
    ∙ (ap (λ l. then_members (prelude_of cs (after_context ms)) (run_of i true l)) (prelude-then cs (after_context ms) rest more)
    ∙ ap (λ l. then_members (prelude_of cs (after_context ms)) l) (run-ended i true past rest e).1)))

rest-ended : (base : Option Text) (library : Library) (c : Context) (under : Under) (stand : Stand) (at : ℕ) (i : Inside) (ms rest : Members) →
    (let s = streaming base library in
    is_some_member (rest_of s c under stand at i ms) ≡ true → rest_of s c under stand at i (then_members ms rest) ≡ then_members (rest_of s c under stand at i ms) rest)
unfolding decided
rest-ended base library c under stand at i ms rest e =
    let s = streaming base library in
    let past = past_prelude (own_candidates s c under stand at ms) ms in
    rest-then base library c under stand at i ms rest (run-some i past e) ∙ (run-ended i true past rest e).0

-- an object that is read as a graph stays one
both-true : {a b : Bool} → a ≡ true → b ≡ true → (a && b) ≡ true
both-true {a} {b} e g = ap (λ x. x && b) e ∙ g

indexes-then : (ks ls : List Key) → begins_graph (after_indexes ks) ≡ true → begins_graph (after_indexes (ks ++ ls)) ≡ true
indexes-then [] ls e = absurd cc
indexes-then (k ∷ ks) ls e = by (is_index k) e (λ e'. indexes-then ks ls e')
  where
    by : (b : Bool) → begins_graph (elim b [ true ↦ after_indexes ks | false ↦ k ∷ ks ]) ≡ true →
        (begins_graph (after_indexes ks) ≡ true → begins_graph (after_indexes (ks ++ ls)) ≡ true) →
        begins_graph (elim b [ true ↦ after_indexes (ks ++ ls) | false ↦ k ∷ (ks ++ ls) ]) ≡ true
    by true e next = next e
    by false e next = e

begins-then : (ks ls : List Key) → begins_graph ks ≡ true → begins_graph (ks ++ ls) ≡ true
begins-then [] ls e = absurd cc
begins-then (k ∷ ks) ls e = e

role-then : (stand : Stand) (before ks ls : List Key) → is_graph_by_rest stand before ks ≡ true → is_graph_by_rest stand before (ks ++ ls) ≡ true
role-then root before ks ls e = both-true (and-left (not (has_any before)) (begins_graph ks) e) (begins-then ks ls (and-right (not (has_any before)) (begins_graph ks) e))
role-then graph_entry before ks ls e =
    let alone = not (has_any (without_names before)) in
    both-true (and-left alone (begins_graph (after_indexes ks)) e) (indexes-then ks ls (and-right alone (begins_graph (after_indexes ks)) e))
role-then entry before ks ls e = absurd cc
role-then elsewhere before ks ls e = absurd cc

role-some : (stand : Stand) (before ks : List Key) → is_graph_by_rest stand before ks ≡ true → has_any ks ≡ true
role-some stand before (k ∷ ks) e = refl
role-some root before [] e = absurd (true-false (sym (and-right (not (has_any before)) false e)))
role-some graph_entry before [] e = absurd (true-false (sym (and-right (not (has_any (without_names before))) false e)))
role-some entry before [] e = absurd cc
role-some elsewhere before [] e = absurd cc

entries-some : (s : Settings) (i : Inside) (under : Under) (ms : Members) → has_any (entries s i own_member under ms ++ []) ≡ true → is_some_member ms ≡ true
unfolding entries
entries-some s i under no_member e = absurd cc
entries-some s i under (member a n v ms) e = refl

pub graph-some : (base : Option Text) (library : Library) (c : Context) (under : Under) (stand : Stand) (at : ℕ) (i : Inside) (ms : Members) →
    (let s = streaming base library in reads_as_graph s c under stand at i ms ≡ true → is_some_member (rest_of s c under stand at i ms) ≡ true)
graph-some base library c under stand at i ms e =
    let s = streaming base library in
    let before = entries s i own_member under (before_rest s c under stand at i ms) in
    entries-some s i under (rest_of s c under stand at i ms) (role-some stand before (entries s i own_member under (rest_of s c under stand at i ms) ++ []) e)

pub reads-then : (base : Option Text) (library : Library) (c : Context) (under : Under) (stand : Stand) (at : ℕ) (i : Inside) (ms rest : Members) →
    (let s = streaming base library in reads_as_graph s c under stand at i ms ≡ true → reads_as_graph s c under stand at i (then_members ms rest) ≡ true)
reads-then base library c under stand at i ms rest e =
    let s = streaming base library in
    let some = graph-some base library c under stand at i ms e in
    let own = λ (xs : Members). entries s i own_member under xs in
    let before = own (before_rest s c under stand at i ms) in
    let its_rest = rest_of s c under stand at i ms in
    let more : own (rest_of s c under stand at i (then_members ms rest)) ++ [] ≡ (own its_rest ++ []) ++ own rest
    = append-nil (own (rest_of s c under stand at i (then_members ms rest)))
    ∙ (ap own (rest-ended base library c under stand at i ms rest some)
    ∙ (entries-then s i own_member under its_rest rest
    ∙ ap (λ l. l ++ own rest) (sym (append-nil (own its_rest))))) in
    ap (λ b. is_graph_by_rest stand (own b) (own (rest_of s c under stand at i (then_members ms rest)) ++ [])) (before-then base library c under stand at i ms rest some)
    ∙ (ap (is_graph_by_rest stand before) more ∙ role-then stand before (own its_rest ++ []) (own rest) e)

graphs-then : (f : Fault → ℕ) (s : Settings) (i : Inside) (under : Under) (ms rest : Members) →
    tally f (all_late_graph s i under ms) ≤ tally f (all_late_graph s i under (then_members ms rest))
graphs-then f s i under no_member rest = omega arith
graphs-then f s i under (member a n v ms) rest =
    omega (arith, graphs-then f s i under ms rest, tally-append f (late_graph s i under a n v) (all_late_graph s i under ms), tally-append f (late_graph s i under a n v) (all_late_graph s i under (then_members ms rest)))

after-graph-then : (f : Fault → ℕ) (s : Settings) (i : Inside) (under : Under) (ms rest : Members) →
    tally f (all_late_graph s i under (after_graph i ms)) ≤ tally f (all_late_graph s i under (after_graph i (then_members ms rest)))
after-graph-then f s i under no_member rest = omega arith
after-graph-then f s i under (member a n v ms) rest = by (is_graph (key_of i.final n)) (after-graph-then f s i under ms rest)
  where
    by : (b : Bool) → tally f (all_late_graph s i under (after_graph i ms)) ≤ tally f (all_late_graph s i under (after_graph i (then_members ms rest))) →
        tally f (all_late_graph s i under (elim b [ true ↦ ms | false ↦ after_graph i ms ]))
        ≤ tally f (all_late_graph s i under (elim b [ true ↦ then_members ms rest | false ↦ after_graph i (then_members ms rest) ]))
    by true h = graphs-then f s i under ms rest
    by false h = h

if-so-more : (f : Fault → ℕ) (b d : Bool) (xs ys : List Fault) → (b ≡ true → (d ≡ true) × (tally f xs ≤ tally f ys)) → tally f (if_so b xs) ≤ tally f (if_so d ys)
if-so-more f true true xs ys h = (h refl).1
if-so-more f true false xs ys h = absurd (true-false (sym (h refl).0))
if-so-more f false d xs ys h = omega arith

pub late-graphs-then : (f : Fault → ℕ) (base : Option Text) (library : Library) (c : Context) (under : Under) (stand : Stand) (at : ℕ) (i : Inside) (ms rest : Members) →
    tally f (late_graphs (streaming base library) c under stand at i ms) ≤ tally f (late_graphs (streaming base library) c under stand at i (then_members ms rest))
late-graphs-then f base library c under stand at i ms rest =
    let s = streaming base library in
    let its_rest = rest_of s c under stand at i ms in
    if-so-more f (reads_as_graph s c under stand at i ms) (reads_as_graph s c under stand at i (then_members ms rest)) _ _
    (λ e. (
      reads-then base library c under stand at i ms rest e,
      subst (λ l. tally f (all_late_graph s i under (after_graph i its_rest)) ≤ tally f (all_late_graph s i under (after_graph i l)))
          (sym (rest-ended base library c under stand at i ms rest (graph-some base library c under stand at i ms e)))
          (after-graph-then f s i under its_rest rest),
    ))
