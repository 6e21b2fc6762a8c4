-- A fault that is reported stays, in streaming order.
use Rattle.std.proofs.Common.{true, false, Some, ◌∷◌, ℕ, ◌+◌, ◌≤◌, ◌≡◌, refl, sym, ap, subst, List, ◌++◌, Option, Result, Ok, Err, arith, [], None, ◌∙◌, not, false, Bool}
use Rattle.std.proofs.lemmas.List.{append-nil, append_assoc}
use Rattle.jl_model.specs.JsonTree.{Tree, object, Trees, no_item, item, Members, no_member, member, scalar, array}
use Rattle.jl_model.specs.declared.faults.Fault.{Fault}
use Rattle.jl_model.specs.declared.orders.Order.{Order}
use Rattle.jl_model.specs.declared.orders.Order.TheVariants.{Any, Streaming}
use Rattle.jl_defs.specs.Texts.{Text}
use Rattle.jl_defs.specs.Trees.{then_items, then_members, place_of}
use Rattle.jl_defs.specs.Context.{Context, initial, TermDef}
use Rattle.jl_defs.specs.Process.{Library}
use Rattle.jl_defs.specs.Settings.{Settings, Under, no_property, Stand, root, inside_of, reverse_property, elsewhere, term_under, lists, property_of}
use Rattle.jl_defs.specs.Keys.{is_kind, Key, nest, reverse}
use Rattle.jl_defs.specs.ObjectContexts.{Inside, decide, fault}
use Rattle.jl_defs.specs.ValueObjects.{all_with}
use Rattle.jl_defs.specs.Kept.{own_member, entries, all_nested_entries, refusal, reversed_member, nest_inside, nested_member}
use Rattle.jl_defs.specs.LateKeys.{late_contexts, late_in, late_graphs, late_members, if_so}
use Rattle.jl_defs.specs.MemberFaults.{nothing_seen, closing_faults, Seen, turned_faults, entry_item_faults, item_fault, is_refused, map_item_faults, checked_kind}
use Rattle.jl_defs.specs.Faults.{decided_faults, place, value_faults, items_faults, members_faults, faults, judged, all_judged, entries_faults, reversed_faults, applied_faults, map_faults, nested_faults, nested_place, Place, all_nested_faults, see_nested, see_nested_in}
use Rattle.jl_defs.specs.OpenTree.{quote, sign, brace, bracket, Open, unread, in_scalar, in_array, in_object, in_key, in_member, whole, stand_in, read_members, IsUnread, NextItem, Extends, First, first_byte}
use Rattle.jl_defs.specs.Settled.{decided, decided_by_key}
use Rattle.jl_defs.specs.Reported.{as_they_are, late_read, own_place, closed_reported, object_reported, member_reported, seen_behind, map_reported, value_reported, nested_reported, reversed_reported, reported, Judging, reverse_place, judged_items, reverse_reported, open_by, as_turned, as_entries, as_included, applied_reported, begun_at, if_begun, nested_in, judging_inside, see_maps, unless_array}
use Rattle.jl_defs.specs.Sets.{IsWithin, tally}
use Rattle.jl_defs.specs.Items.{Items, no_more, more, both, given, item_place, kind_of_item}
use Rattle.jl_defs.specs.Expansion.{expand, expand_all}
use Rattle.jl_model.specs.declared.map_kinds.MapKind.{MapKind}
use Rattle.jl_defs.specs.Maps.{entry_context, entry_stand, check_item, is_none_key, map_kind_of}
use Rattle.jl_model.specs.declared.codes.Code.{Code}
use Rattle.jl_laws.proofs.Begun.{IsPlaced, begun-placed}
use Rattle.jl_laws.specs.Laws.{FaultsStay}
use Rattle.jl_laws.proofs.Counting.{tally-append, le-within}
use Rattle.jl_laws.proofs.Equality.{fault_eq}
use Rattle.jl_laws.proofs.Decided.{streaming, decide-then, decides, decide-member}
use Rattle.jl_laws.proofs.LateStays.{if-so-le, late-contexts-then, late-contexts-member, late-then, late-member, late-graphs-then}
use Rattle.jl_laws.proofs.ItemsStay.{expand-then, turned-both, first-items}
use Rattle.jl_laws.proofs.MemberStays.{mapped_read, Stays, MapStays, ReverseStays, member-le, members-then, kinds-same, NestStays}

items-then : (f : Fault → ℕ) (s : Settings) (c : Context) (under : Under) (stand : Stand) (xs ys : Trees) →
    tally f (items_faults s c under stand (then_items xs ys)) ≡ tally f (items_faults s c under stand xs) + tally f (items_faults s c under stand ys)
unfolding value_faults
items-then f s c under stand no_item ys = omega arith
items-then f s c under stand (item x xs) ys =
    omega (arith, items-then f s c under stand xs ys, tally-append f (value_faults s c under stand x) (items_faults s c under stand xs), tally-append f (value_faults s c under stand x) (items_faults s c under stand (then_items xs ys)))

-- where the contexts are decided alike
decided-le : (f : Fault → ℕ) (r : Result Inside Fault) (A B : Inside → List Fault) → ((i : Inside) → tally f (A i) ≤ tally f (B i)) →
    tally f (decided_faults r A) ≤ tally f (decided_faults r B)
decided-le f (Ok i) A B h = h i
decided-le f (Err e) A B h = omega arith

-- the closed members of an object, and what its next member gives
closed-le : (f : Fault → ℕ) (base : Option Text) (library : Library) (c : Context) (under : Under) (stand : Stand) (at : ℕ) (i : Inside) (ms rest : Members) (extra : ℕ) →
    (let s = streaming base library in
    let p = place own_member under stand (all_with is_kind i.final ms) in
    extra ≤ tally f (members_faults s i p (seen_behind s i p nothing_seen ms) rest)) →
    (let s = streaming base library in
    tally f (closed_reported s c at i (own_place i under stand ms) ms) + extra
    ≤ tally f (members_faults s i (own_place i under stand (then_members ms rest)) nothing_seen (then_members ms rest)) + tally f (late_graphs s c under stand at i (then_members ms rest)))
closed-le f base library c under stand at i ms rest extra h =
    let s = streaming base library in
    let kinds = all_with is_kind i.final ms in
    let p = place own_member under stand kinds in
    omega (
      arith,
      h,
      tally-append f (members_faults s i p nothing_seen ms) (late_graphs s c under stand at i ms),
      late-graphs-then f base library c under stand at i ms rest,
      members-then f s i p nothing_seen ms rest,
      ap (tally f) (kinds-same base library i own_member under stand kinds (all_with is_kind i.final (then_members ms rest)) nothing_seen (then_members ms rest)),
    )

-- what a whole object gives
abbrev whole_faults : Settings → Context → Under → Stand → ℕ → Members → Inside → List Fault
whole_faults s c under stand at ms i =
    members_faults s i (own_place i under stand ms) nothing_seen ms
    ++ (late_members s c under stand at i ms ++ closing_faults under i at ms (entries s i own_member under ms))

whole-split : (f : Fault → ℕ) (base : Option Text) (library : Library) (c : Context) (under : Under) (stand : Stand) (at : ℕ) (ms : Members) (i : Inside) →
    (let s = streaming base library in
    tally f (whole_faults s c under stand at ms i)
    ≡ tally f (members_faults s i (own_place i under stand ms) nothing_seen ms)
    + ((tally f (late_in s c under stand at i ms) + tally f (late_graphs s c under stand at i ms)) + tally f (closing_faults under i at ms (entries s i own_member under ms))))
whole-split f base library c under stand at ms i =
    let s = streaming base library in
    let own = members_faults s i (own_place i under stand ms) nothing_seen ms in
    let late = late_in s c under stand at i ms in
    let graphs = late_graphs s c under stand at i ms in
    let closing = closing_faults under i at ms (entries s i own_member under ms) in
    omega (arith, tally-append f own ((late ++ graphs) ++ closing), tally-append f (late ++ graphs) closing, tally-append f late graphs)

object-stays : (f : Fault → ℕ) (base : Option Text) (library : Library) (c : Context) (under : Under) (stand : Stand) (at : ℕ) (ms rest : Members) →
    tally f (object_reported (streaming base library) c under stand at ms) ≤ tally f (value_faults (streaming base library) c under stand (object at (then_members ms rest)))
unfolding value_faults
object-stays f base library c under stand at ms rest =
    let s = streaming base library in
    let all = then_members ms rest in
    let read = λ (i : Inside). closed_reported s c at i (own_place i under stand ms) ms ++ late_read s c under stand at i ms in
    let late = late_contexts Streaming in
    let theirs = decided_faults (decide s c under stand at all) (whole_faults s c under stand at all) in
    if-so-le f (decided s c under stand at ms) _ _
    (λ e. subst (λ r. tally f (decided_faults r read ++ late ms) ≤ tally f (theirs ++ late all)) (decide-then base library c under stand at ms rest e)
    (omega (
      arith,
      decided-le f (decide s c under stand at all) read (whole_faults s c under stand at all)
          (λ i. omega (
            arith,
            closed-le f base library c under stand at i ms rest 0 (omega arith),
            late-then f base library c under stand at i ms rest e,
            tally-append f (closed_reported s c at i (own_place i under stand ms) ms) (late_in s c under stand at i ms),
            whole-split f base library c under stand at all i,
          )),
      late-contexts-then f ms rest,
      tally-append f (decided_faults (decide s c under stand at all) read) (late ms),
      tally-append f theirs (late all),
    )))

-- what the open member of an object gives
abbrev open_faults : Settings → Inside → Under → Stand → Members → ℕ → Text → Open → List Fault
open_faults s i under stand ms a n o =
    member_reported i (own_place i under stand ms) (seen_behind s i (own_place i under stand ms) nothing_seen ms) a n o
    (λ d u w j. value_reported s d u w j o)
    (mapped_read s own_member i.final n o)
    (λ seen. nested_reported s i n (own_place i under stand ms) seen o)
    (λ _. reversed_reported s i.final o)

open-stays : (f : Fault → ℕ) (base : Option Text) (library : Library) (c : Context) (under : Under) (stand : Stand) (j : Judging) (at : ℕ) (ms : Members) (ends : List ℕ) (a : ℕ) (n : Text) (o : Open) (v : Tree) (rest : Members) →
    Extends o v → Stays f (streaming base library) o v → MapStays f (streaming base library) o v → NestStays f (streaming base library) o v → ReverseStays f (streaming base library) o v →
    tally f (value_reported (streaming base library) c under stand j (in_member at ms ends a n o)) ≤ tally f (value_faults (streaming base library) c under stand (object at (then_members ms (member a n v rest))))
unfolding value_reported value_faults
open-stays f base library c under stand j at ms ends a n o v rest x h m q r =
    let s = streaming base library in
    let all = then_members ms (member a n v rest) in
    let part = read_members ms a n o in
    let read = λ (i : Inside). closed_reported s c at i (own_place i under stand ms) ms ++ (late_read s c under stand at i part ++ open_faults s i under stand ms a n o) in
    let late = late_contexts Streaming in
    let theirs = decided_faults (decide s c under stand at all) (whole_faults s c under stand at all) in
    if-so-le f (decided_by_key s c under stand at ms a n o) _ _
    (λ e.
    let d = decides base library c under stand at ms a n o v e x in
    subst (λ r. tally f (decided_faults r read ++ late part) ≤ tally f (theirs ++ late all)) (sym (decide-member base library c under stand at ms a n o v rest d))
    (omega (
      arith,
      decided-le f (decide s c under stand at all) read (whole_faults s c under stand at all)
          (λ i. omega (
            arith,
            closed-le f base library c under stand at i ms (member a n v rest) (tally f (open_faults s i under stand ms a n o))
                (member-le f base library i own_member under stand (all_with is_kind i.final ms) (seen_behind s i (own_place i under stand ms) nothing_seen ms) a n o v rest x h m q r
                (λ seen. nested_reported s i n (own_place i under stand ms) seen o) (λ _. reversed_reported s i.final o) (λ k e. omega arith)),
            late-member f base library c under stand at i ms a n o v rest d,
            tally-append f (closed_reported s c at i (own_place i under stand ms) ms) (late_in s c under stand at i part ++ open_faults s i under stand ms a n o),
            tally-append f (late_in s c under stand at i part) (open_faults s i under stand ms a n o),
            whole-split f base library c under stand at all i,
          )),
      late-contexts-member f ms a n v (stand_in o) rest,
      tally-append f (decided_faults (decide s c under stand at all) read) (late part),
      tally-append f theirs (late all),
    )))

entries-both : (f : Fault → ℕ) (m : MapKind) (xs ys : Items) → tally f (entry_item_faults m (both xs ys)) ≡ tally f (entry_item_faults m xs) + tally f (entry_item_faults m ys)
entries-both f m no_more ys = omega arith
entries-both f m (more x xs) ys =
    let own = if_so (not (is_refused x)) (item_fault (item_place x) (check_item m (kind_of_item x))) in
    omega (arith, entries-both f m xs ys, tally-append f own (entry_item_faults m xs), tally-append f own (entry_item_faults m (both xs ys)))

map-both : (f : Fault → ℕ) (m : Option MapKind) (xs ys : Items) → tally f (map_item_faults m (both xs ys)) ≡ tally f (map_item_faults m xs) + tally f (map_item_faults m ys)
map-both f None xs ys = omega arith
map-both f (Some m) xs ys = entries-both f m xs ys

judged-then : (f : Fault → ℕ) (s : Settings) (c : Context) (xs ys : Trees) → tally f (all_judged s c (then_items xs ys)) ≡ tally f (all_judged s c xs) + tally f (all_judged s c ys)
unfolding judged
judged-then f s c no_item ys = omega arith
judged-then f s c (item x xs) ys =
    omega (arith, judged-then f s c xs ys, tally-append f (judged s c x) (all_judged s c xs), tally-append f (judged s c x) (all_judged s c (then_items xs ys)))

-- what items give beside their own faults
abbrev judging : (Fault → ℕ) → Settings → Context → Under → Stand → Judging → Trees → ℕ
judging f s c under stand j xs = tally f (judged_items j (expand_all s c under stand xs) (all_judged s c xs))

judging-then : (f : Fault → ℕ) (s : Settings) (c : Context) (under : Under) (stand : Stand) (j : Judging) (xs ys : Trees) →
    judging f s c under stand j (then_items xs ys) ≡ judging f s c under stand j xs + judging f s c under stand j ys
judging-then f s c under stand as_they_are xs ys = refl
judging-then f s c under stand as_included xs ys = judged-then f s c xs ys
judging-then f s c under stand as_turned xs ys =
    ap (λ zs. tally f (turned_faults zs)) (expand-then s c under stand xs ys) ∙ turned-both f (expand_all s c under stand xs) (expand_all s c under stand ys)
judging-then f s c under stand (as_entries m) xs ys =
    ap (λ zs. tally f (map_item_faults m zs)) (expand-then s c under stand xs ys) ∙ map-both f m (expand_all s c under stand xs) (expand_all s c under stand ys)

-- an array inside an array under a container with `@list` is one item, and what is in it isn't judged
judging-first : (f : Fault → ℕ) (s : Settings) (c : Context) (under : Under) (stand : Stand) (j : Judging) (l : Bool) (x : Tree) (rest : Trees) → lists (term_under c under) ≡ l →
    tally f (judged_items (judging_inside l j) (given (expand s c under (inside_of stand) x)) (judged s c x)) ≤ judging f s c under (inside_of stand) j (item x rest)
unfolding judged
judging-first f s c under stand j true x rest e = omega arith
judging-first f s c under stand as_they_are false x rest e = omega arith
judging-first f s c under stand as_included false x rest e = omega (arith, tally-append f (judged s c x) (all_judged s c rest))
judging-first f s c under stand as_turned false x rest e =
    let first = given (expand s c under (inside_of stand) x) in
    let others = expand_all s c under (inside_of stand) rest in
    omega (arith, ap (λ zs. tally f (turned_faults zs)) (first-items s c under stand x rest e), turned-both f first others)
judging-first f s c under stand (as_entries m) false x rest e =
    let first = given (expand s c under (inside_of stand) x) in
    let others = expand_all s c under (inside_of stand) rest in
    omega (arith, ap (λ zs. tally f (map_item_faults m zs)) (first-items s c under stand x rest e), map-both f m first others)

next-stays : (f : Fault → ℕ) (s : Settings) (c : Context) (under : Under) (stand : Stand) (j : Judging) (o : Open) (rest : Trees) →
    (let k = judging_inside (lists (term_under c under)) j in
    NextItem o (Extends o) rest → (IsUnread o → tally f (value_reported s c under (inside_of stand) k o) ≡ 0) →
    ((t : Tree) → Extends o t →
    tally f (value_reported s c under (inside_of stand) k o)
    ≤ tally f (value_faults s c under (inside_of stand) t) + tally f (judged_items k (given (expand s c under (inside_of stand) t)) (judged s c t))) →
    tally f (value_reported s c under (inside_of stand) k o) ≤ tally f (items_faults s c under (inside_of stand) rest) + judging f s c under (inside_of stand) j rest)
unfolding value_faults
next-stays f s c under stand j o no_item e zero h = omega (arith, zero e)
next-stays f s c under stand j o (item x xs) e zero h =
    omega (
      arith,
      h x e,
      judging-first f s c under stand j (lists (term_under c under)) x xs refl,
      tally-append f (value_faults s c under (inside_of stand) x) (items_faults s c under (inside_of stand) xs),
    )

value-unread : (f : Fault → ℕ) (s : Settings) (c : Context) (under : Under) (stand : Stand) (j : Judging) (o : Open) → IsUnread o → tally f (value_reported s c under stand j o) ≡ 0
unfolding value_reported
value-unread f s c under stand j unread e = refl
value-unread f s c under stand j o e = absurd e

-- maps of containers
map-then : (f : Fault → ℕ) (s : Settings) (d : Context) (t : TermDef) (name : Text) (ms rest : Members) →
    tally f (entries_faults s d t name (then_members ms rest)) ≡ tally f (entries_faults s d t name ms) + tally f (entries_faults s d t name rest)
unfolding value_faults
map-then f s d t name no_member rest = omega arith
map-then f s d t name (member a n v ms) rest =
    let own = applied_faults (place_of v) (entry_context s d t n) (λ c.
    value_faults s c (property_of name) (entry_stand t) v
    ++ map_item_faults (checked_kind (is_none_key d n) (map_kind_of t)) (given (expand s c (property_of name) (entry_stand t) v))) in
    omega (arith, map-then f s d t name ms rest, tally-append f own (entries_faults s d t name ms), tally-append f own (entries_faults s d t name (then_members ms rest)))

-- a value that has begun, at its place
begun-le : (f : Fault → ℕ) (e : Code) (first : Option First) (at : ℕ) (v : Tree) → IsPlaced first at v → tally f (if_begun first (fault e at ∷ [])) ≤ tally f (fault e (place_of v) ∷ [])
begun-le f e None at v p = omega arith
begun-le f e (Some first) at v p = omega (arith, ap (λ k. tally f (fault e k ∷ [])) p)

entry-le : (f : Fault → ℕ) (s : Settings) (name : Text) (stand : Stand) (m : Option MapKind) (o : Open) (v : Tree) (r : Result Context Code) → Extends o v → Stays f s o v →
    tally f (applied_reported (first_byte o) (begun_at o) r (λ c. value_reported s c (property_of name) stand (as_entries m) o))
    ≤ tally f (applied_faults (place_of v) r (λ c. value_faults s c (property_of name) stand v ++ map_item_faults m (given (expand s c (property_of name) stand v))))
entry-le f s name stand m o v (Ok c) x h =
    omega (
      arith,
      h c (property_of name) stand (as_entries m),
      tally-append f (value_faults s c (property_of name) stand v) (map_item_faults m (given (expand s c (property_of name) stand v))),
    )
entry-le f s name stand m o v (Err e) x h = begun-le f e (first_byte o) (begun_at o) v (begun-placed o v x)

-- the map of `@reverse`
reverse-split : (f : Fault → ℕ) (base : Option Text) (library : Library) (c : Context) (at : ℕ) (ms : Members) (i : Inside) →
    (let s = streaming base library in
    tally f (members_faults s i reverse_place nothing_seen ms) + tally f (late_in s c reverse_property elsewhere at i ms)
    ≤ tally f (members_faults s i reverse_place nothing_seen ms ++ late_members s c reverse_property elsewhere at i ms))
reverse-split f base library c at ms i =
    let s = streaming base library in
    let own = members_faults s i reverse_place nothing_seen ms in
    let late = late_in s c reverse_property elsewhere at i ms in
    let graphs = late_graphs s c reverse_property elsewhere at i ms in
    omega (arith, tally-append f own (late ++ graphs), tally-append f late graphs)

abbrev reverse_faults : Settings → Context → ℕ → Members → Inside → List Fault
reverse_faults s c at ms i = members_faults s i reverse_place nothing_seen ms ++ late_members s c reverse_property elsewhere at i ms

reverse-object : (f : Fault → ℕ) (base : Option Text) (library : Library) (c : Context) (at : ℕ) (ms rest : Members) →
    tally f (reverse_reported (streaming base library) c at ms) ≤ tally f (reversed_faults (streaming base library) c (object at (then_members ms rest)))
unfolding value_faults
reverse-object f base library c at ms rest =
    let s = streaming base library in
    let all = then_members ms rest in
    let read = λ (i : Inside). members_faults s i reverse_place nothing_seen ms ++ late_read s c reverse_property elsewhere at i ms in
    let late = late_contexts Streaming in
    let theirs = decided_faults (decide s c reverse_property elsewhere at all) (reverse_faults s c at all) in
    if-so-le f (decided s c reverse_property elsewhere at ms) _ _
    (λ e. subst (λ r. tally f (decided_faults r read ++ late ms) ≤ tally f (theirs ++ late all)) (decide-then base library c reverse_property elsewhere at ms rest e)
    (omega (
      arith,
      decided-le f (decide s c reverse_property elsewhere at all) read (reverse_faults s c at all)
          (λ i. omega (
            arith,
            members-then f s i reverse_place nothing_seen ms rest,
            late-then f base library c reverse_property elsewhere at i ms rest e,
            tally-append f (members_faults s i reverse_place nothing_seen ms) (late_in s c reverse_property elsewhere at i ms),
            reverse-split f base library c at all i,
          )),
      late-contexts-then f ms rest,
      tally-append f (decided_faults (decide s c reverse_property elsewhere at all) read) (late ms),
      tally-append f theirs (late all),
    )))

-- the keywords that would lead further aren't admitted
reverse-reads : (f : Fault → ℕ) (s : Settings) (i : Inside) (n : Text) (o : Open) (seen : Seen) (k : Key) → refusal reversed_member k ≡ None →
    tally f (open_by k i reverse_place seen n o (λ d u w j. value_reported s d u w j o) (mapped_read s reversed_member i.final n o) (λ seen. []) (λ _. []))
    ≤ tally f (open_by k i reverse_place seen n o (λ d u w j. value_reported s d u w j o) (mapped_read s reversed_member i.final n o) (λ seen. nested_reported s i n reverse_place seen o) (λ _. reversed_reported s i.final o))
reverse-reads f s i n o seen nest e = omega arith
reverse-reads f s i n o seen reverse e = omega arith
reverse-reads f s i n o seen k e = omega arith

reverse-open : (f : Fault → ℕ) (base : Option Text) (library : Library) (c : Context) (at : ℕ) (ms : Members) (ends : List ℕ) (a : ℕ) (n : Text) (o : Open) (v : Tree) (rest : Members) →
    Extends o v → Stays f (streaming base library) o v → MapStays f (streaming base library) o v → NestStays f (streaming base library) o v → ReverseStays f (streaming base library) o v →
    tally f (reversed_reported (streaming base library) c (in_member at ms ends a n o)) ≤ tally f (reversed_faults (streaming base library) c (object at (then_members ms (member a n v rest))))
unfolding value_reported value_faults
reverse-open f base library c at ms ends a n o v rest x h m q r =
    let s = streaming base library in
    let all = then_members ms (member a n v rest) in
    let part = read_members ms a n o in
    let open_part = λ (i : Inside).
    member_reported i reverse_place (seen_behind s i reverse_place nothing_seen ms) a n o (λ d u w j. value_reported s d u w j o) (mapped_read s reversed_member i.final n o) (λ seen. []) (λ _. []) in
    let read = λ (i : Inside). members_faults s i reverse_place nothing_seen ms ++ (late_read s c reverse_property elsewhere at i part ++ open_part i) in
    let late = late_contexts Streaming in
    let theirs = decided_faults (decide s c reverse_property elsewhere at all) (reverse_faults s c at all) in
    if-so-le f (decided_by_key s c reverse_property elsewhere at ms a n o) _ _
    (λ e.
    let d = decides base library c reverse_property elsewhere at ms a n o v e x in
    subst (λ r. tally f (decided_faults r read ++ late part) ≤ tally f (theirs ++ late all)) (sym (decide-member base library c reverse_property elsewhere at ms a n o v rest d))
    (omega (
      arith,
      decided-le f (decide s c reverse_property elsewhere at all) read (reverse_faults s c at all)
          (λ i. omega (
            arith,
            members-then f s i reverse_place nothing_seen ms (member a n v rest),
            member-le f base library i reversed_member reverse_property elsewhere [] (seen_behind s i reverse_place nothing_seen ms) a n o v rest x h m q r
                (λ seen. []) (λ _. []) (λ k e. reverse-reads f s i n o (seen_behind s i reverse_place nothing_seen ms) k e),
            late-member f base library c reverse_property elsewhere at i ms a n o v rest d,
            tally-append f (members_faults s i reverse_place nothing_seen ms) (late_in s c reverse_property elsewhere at i part ++ open_part i),
            tally-append f (late_in s c reverse_property elsewhere at i part) (open_part i),
            reverse-split f base library c at all i,
          )),
      late-contexts-member f ms a n v (stand_in o) rest,
      tally-append f (decided_faults (decide s c reverse_property elsewhere at all) read) (late part),
      tally-append f theirs (late all),
    )))

-- the map of a nest term
nested-le : (f : Fault → ℕ) (at : ℕ) (r : Result Inside Code) (A B : Inside → List Fault) → ((j : Inside) → tally f (A j) ≤ tally f (B j)) →
    tally f (nested_in r A) ≤ tally f (applied_faults at r B)
nested-le f at (Ok j) A B h = h j
nested-le f at (Err e) A B h = omega arith

nest-object : (f : Fault → ℕ) (base : Option Text) (library : Library) (i : Inside) (name : Text) (p : Place) (seen : Seen) (at : ℕ) (ms rest : Members) →
    tally f (nested_in (nest_inside (streaming base library) i name) (λ j. members_faults (streaming base library) j (nested_place p) seen ms))
    ≤ tally f (nested_faults (streaming base library) i name p seen (object at (then_members ms rest)))
unfolding value_faults
nest-object f base library i name p seen at ms rest =
    let s = streaming base library in
    nested-le f at (nest_inside s i name) _ _ (λ j. omega (arith, members-then f s j (nested_place p) seen ms rest))

nest-open : (f : Fault → ℕ) (base : Option Text) (library : Library) (i : Inside) (name : Text) (p : Place) (seen : Seen) (at : ℕ) (ms : Members) (ends : List ℕ) (a : ℕ) (n : Text) (o : Open) (v : Tree) (rest : Members) →
    Extends o v → Stays f (streaming base library) o v → MapStays f (streaming base library) o v → NestStays f (streaming base library) o v → ReverseStays f (streaming base library) o v →
    tally f (nested_reported (streaming base library) i name p seen (in_member at ms ends a n o))
    ≤ tally f (nested_faults (streaming base library) i name p seen (object at (then_members ms (member a n v rest))))
unfolding value_reported value_faults
nest-open f base library i name p seen at ms ends a n o v rest x h m q r =
    let s = streaming base library in
    nested-le f at (nest_inside s i name) _ _
    (λ j.
    let behind = seen_behind s j (nested_place p) seen ms in
    let own = member_reported j (nested_place p) behind a n o (λ d u w k. value_reported s d u w k o) (mapped_read s nested_member j.final n o)
    (λ seen. nested_reported s j n (nested_place p) seen o) (λ _. reversed_reported s j.final o) in
    omega (
      arith,
      members-then f s j (nested_place p) seen ms (member a n v rest),
      tally-append f (members_faults s j (nested_place p) seen ms) own,
      member-le f base library j nested_member p.under p.stand p.kinds behind a n o v rest x h m q r
          (λ seen. nested_reported s j n (nested_place p) seen o) (λ _. reversed_reported s j.final o) (λ k e. omega arith),
    ))

-- arrays of maps under `@nest`
abbrev nests_behind : Settings → Inside → Text → Place → Seen → Trees → Seen
nests_behind s i name p seen no_item = seen
nests_behind s i name p seen (item (object at ms) rest) =
    nests_behind s i name p (see_nested_in (nest_inside s i name) (λ j. see_nested s j p.under seen ms) seen) rest
nests_behind s i name p seen (item x rest) = nests_behind s i name p seen rest

-- what has been seen behind closed maps is one list, in the nest term's context
abbrev maps_seen : Result Inside Code → Settings → Under → Seen → Trees → Seen
maps_seen r s under seen xs = see_nested_in r (λ j. record seen { entries = seen.entries ++ all_nested_entries s j under xs }) seen

no-maps : (r : Result Inside Code) (s : Settings) (under : Under) (seen : Seen) → maps_seen r s under seen no_item ≡ seen
unfolding entries
no-maps (Ok j) s under seen = ap (λ es. record seen { entries = es }) (append-nil seen.entries)
no-maps (Err e) s under seen = refl

first-map : (r : Result Inside Code) (s : Settings) (under : Under) (seen : Seen) (at : ℕ) (ms : Members) (xs : Trees) →
    maps_seen r s under seen (item (object at ms) xs) ≡ maps_seen r s under (see_nested_in r (λ j. see_nested s j under seen ms) seen) xs
unfolding entries
first-map (Ok j) s under seen at ms xs =
    ap (λ es. record seen { entries = es }) (sym (append_assoc seen.entries (entries s j nested_member under ms) (all_nested_entries s j under xs)))
first-map (Err e) s under seen at ms xs = refl

nests-same : (s : Settings) (i : Inside) (name : Text) (p : Place) (seen : Seen) (xs : Trees) → see_maps s i name p seen xs ≡ nests_behind s i name p seen xs
unfolding entries
nests-same s i name p seen no_item = no-maps (nest_inside s i name) s p.under seen
nests-same s i name p seen (item (object at ms) xs) =
    first-map (nest_inside s i name) s p.under seen at ms xs
    ∙ nests-same s i name p (see_nested_in (nest_inside s i name) (λ j. see_nested s j p.under seen ms) seen) xs
nests-same s i name p seen (item (scalar at v) xs) = nests-same s i name p seen xs
nests-same s i name p seen (item (array at zs) xs) = nests-same s i name p seen xs

nests-then : (f : Fault → ℕ) (s : Settings) (i : Inside) (name : Text) (p : Place) (seen : Seen) (xs ys : Trees) →
    tally f (all_nested_faults s i name p seen (then_items xs ys)) ≡ tally f (all_nested_faults s i name p seen xs) + tally f (all_nested_faults s i name p (nests_behind s i name p seen xs) ys)
unfolding value_faults
nests-then f s i name p seen no_item ys = omega arith
nests-then f s i name p seen (item (object at ms) xs) ys =
    let next = see_nested_in (nest_inside s i name) (λ j. see_nested s j p.under seen ms) seen in
    let own = applied_faults at (nest_inside s i name) (λ j. members_faults s j (nested_place p) seen ms) in
    omega (arith, nests-then f s i name p next xs ys, tally-append f own (all_nested_faults s i name p next xs), tally-append f own (all_nested_faults s i name p next (then_items xs ys)))
nests-then f s i name p seen (item (scalar at v) xs) ys = omega (arith, nests-then f s i name p seen xs ys)
nests-then f s i name p seen (item (array at zs) xs) ys = omega (arith, nests-then f s i name p seen xs ys)

unless-le : (f : Fault → ℕ) (o : Open) (fs : List Fault) → tally f (unless_array o (λ _. fs)) ≤ tally f fs
unless-le f (in_array at xs next) fs = omega arith
unless-le f o fs = omega arith

nest-item : (f : Fault → ℕ) (s : Settings) (i : Inside) (name : Text) (p : Place) (seen : Seen) (o : Open) (x : Tree) (rest : Trees) → Extends o x →
    tally f (nested_reported s i name p seen o) ≤ tally f (nested_faults s i name p seen x) →
    tally f (unless_array o (λ _. nested_reported s i name p seen o)) ≤ tally f (all_nested_faults s i name p seen (item x rest))
unfolding value_faults value_reported Extends
nest-item f s i name p seen o (scalar at v) rest e h = omega (arith, h, unless-le f o (nested_reported s i name p seen o))
nest-item f s i name p seen o (object at ms) rest e h =
    let next = see_nested_in (nest_inside s i name) (λ j. see_nested s j p.under seen ms) seen in
    omega (
      arith,
      h,
      unless-le f o (nested_reported s i name p seen o),
      tally-append f (applied_faults at (nest_inside s i name) (λ j. members_faults s j (nested_place p) seen ms)) (all_nested_faults s i name p next rest),
    )
nest-item f s i name p seen unread (array at xs) rest e h = omega arith
nest-item f s i name p seen (in_scalar b quote) (array at xs) rest e h = absurd e
nest-item f s i name p seen (in_scalar b sign) (array at xs) rest e h = absurd e
nest-item f s i name p seen (in_scalar b brace) (array at xs) rest e h = absurd e
nest-item f s i name p seen (in_scalar b bracket) (array at xs) rest e h = absurd e
nest-item f s i name p seen (in_array b ys next) (array at xs) rest e h = omega arith
nest-item f s i name p seen (in_object b ms ends) (array at xs) rest (others, e) h = absurd cc
nest-item f s i name p seen (in_key b ms ends a) (array at xs) rest (others, e, n) h = absurd cc
nest-item f s i name p seen (in_member b ms ends a n next) (array at xs) rest (v, others, e, y) h = absurd cc
nest-item f s i name p seen (whole t) (array at xs) rest e h = omega arith

nest-next : (f : Fault → ℕ) (s : Settings) (i : Inside) (name : Text) (p : Place) (seen : Seen) (o : Open) (rest : Trees) → NextItem o (Extends o) rest →
    ((t : Tree) → Extends o t → tally f (nested_reported s i name p seen o) ≤ tally f (nested_faults s i name p seen t)) →
    tally f (unless_array o (λ _. nested_reported s i name p seen o)) ≤ tally f (all_nested_faults s i name p seen rest)
unfolding value_reported
nest-next f s i name p seen unread no_item e h = omega arith
nest-next f s i name p seen (in_scalar at first) no_item e h = absurd e
nest-next f s i name p seen (in_array at xs next) no_item e h = absurd e
nest-next f s i name p seen (in_object at ms ends) no_item e h = absurd e
nest-next f s i name p seen (in_key at ms ends a) no_item e h = absurd e
nest-next f s i name p seen (in_member at ms ends a n next) no_item e h = absurd e
nest-next f s i name p seen (whole t) no_item e h = absurd e
nest-next f s i name p seen o (item x rest) e h = nest-item f s i name p seen o x rest e (h x e)

mutual
  unfolding value_reported value_faults Extends expand judged

  value-stays : (f : Fault → ℕ) (base : Option Text) (library : Library) (c : Context) (under : Under) (stand : Stand) (j : Judging) (o : Open) (t : Tree) → Extends o t →
      tally f (value_reported (streaming base library) c under stand j o)
      ≤ tally f (value_faults (streaming base library) c under stand t) + tally f (judged_items j (given (expand (streaming base library) c under stand t)) (judged (streaming base library) c t))
  value-stays f base library c under stand j unread t x = omega arith
  value-stays f base library c under stand j (in_scalar at first) t x = omega arith
  value-stays f base library c under stand j (in_array at xs next) t (rest, e, x) =
      let s = streaming base library in
      let place = inside_of stand in
      let mine = judged_items j (expand_all s c under place xs) (all_judged s c xs) in
      let k = judging_inside (lists (term_under c under)) j in
      subst (λ t. tally f (items_faults s c under place xs ++ (mine ++ value_reported s c under place k next)) ≤ tally f (value_faults s c under stand t) + tally f (judged_items j (given (expand s c under stand t)) (judged s c t))) (sym e)
      (omega (
        arith,
        tally-append f (items_faults s c under place xs) (mine ++ value_reported s c under place k next),
        tally-append f mine (value_reported s c under place k next),
        items-then f s c under place xs rest,
        judging-then f s c under place j xs rest,
        next-stays f s c under stand j next rest x (λ u. value-unread f s c under place k next u) (λ y e'. value-stays f base library c under place k next y e'),
      ))
  value-stays f base library c under stand j (in_object at ms ends) t (rest, e) =
      let s = streaming base library in
      subst (λ t. tally f (object_reported s c under stand at ms) ≤ tally f (value_faults s c under stand t) + tally f (judged_items j (given (expand s c under stand t)) (judged s c t))) (sym e)
      (omega (arith, object-stays f base library c under stand at ms rest))
  value-stays f base library c under stand j (in_key at ms ends a) t (rest, e, n) =
      let s = streaming base library in
      subst (λ t. tally f (object_reported s c under stand at ms) ≤ tally f (value_faults s c under stand t) + tally f (judged_items j (given (expand s c under stand t)) (judged s c t))) (sym e)
      (omega (arith, object-stays f base library c under stand at ms rest))
  value-stays f base library c under stand j (in_member at ms ends a n next) t (v, rest, e, x) =
      let s = streaming base library in
      subst (λ t. tally f (value_reported s c under stand j (in_member at ms ends a n next)) ≤ tally f (value_faults s c under stand t) + tally f (judged_items j (given (expand s c under stand t)) (judged s c t))) (sym e)
      (omega (
        arith,
        open-stays f base library c under stand j at ms ends a n next v rest x
            (λ d u p k. value-stays f base library d u p k next v x)
            (λ d t name. map-stays f base library d t name next v x)
            (λ i name p seen. nested-stays f base library i name p seen next v x)
            (λ d. reversed-stays f base library d next v x),
      ))
  value-stays f base library c under stand j (whole t) u e =
      let s = streaming base library in
      subst (λ u. tally f (value_faults s c under stand t) ≤ tally f (value_faults s c under stand u) + tally f (judged_items j (given (expand s c under stand u)) (judged s c u))) e (omega arith)

  map-stays : (f : Fault → ℕ) (base : Option Text) (library : Library) (d : Context) (t : TermDef) (name : Text) (o : Open) (v : Tree) →
      Extends o v → tally f (map_reported (streaming base library) d t name o) ≤ tally f (map_faults (streaming base library) d t name v)
  map-stays f base library d t name unread v x = omega arith
  map-stays f base library d t name (in_scalar at first) v x = omega arith
  map-stays f base library d t name (in_array at xs next) v x = omega arith
  map-stays f base library d t name (whole u) v x = omega arith
  map-stays f base library d t name (in_object at ms ends) v (rest, e) =
      let s = streaming base library in
      subst (λ v. tally f (entries_faults s d t name ms) ≤ tally f (map_faults s d t name v)) (sym e) (omega (arith, map-then f s d t name ms rest))
  map-stays f base library d t name (in_key at ms ends a) v (rest, e, n) =
      let s = streaming base library in
      subst (λ v. tally f (entries_faults s d t name ms) ≤ tally f (map_faults s d t name v)) (sym e) (omega (arith, map-then f s d t name ms rest))
  map-stays f base library d t name (in_member at ms ends a n next) v (u, rest, e, x) =
      let s = streaming base library in
      let m = checked_kind (is_none_key d n) (map_kind_of t) in
      let r = entry_context s d t n in
      let mine = applied_reported (first_byte next) (begun_at next) r (λ c. value_reported s c (property_of name) (entry_stand t) (as_entries m) next) in
      let theirs = applied_faults (place_of u) r (λ c. value_faults s c (property_of name) (entry_stand t) u ++ map_item_faults m (given (expand s c (property_of name) (entry_stand t) u))) in
      subst (λ v. tally f (entries_faults s d t name ms ++ mine) ≤ tally f (map_faults s d t name v)) (sym e)
      (omega (
        arith,
        tally-append f (entries_faults s d t name ms) mine,
        map-then f s d t name ms (member a n u rest),
        tally-append f theirs (entries_faults s d t name rest),
        entry-le f s name (entry_stand t) m next u r x (λ c k p j. value-stays f base library c k p j next u x),
      ))

  reversed-stays : (f : Fault → ℕ) (base : Option Text) (library : Library) (c : Context) (o : Open) (v : Tree) →
      Extends o v → tally f (reversed_reported (streaming base library) c o) ≤ tally f (reversed_faults (streaming base library) c v)
  reversed-stays f base library c unread v x = omega arith
  reversed-stays f base library c (in_scalar at first) v x = omega arith
  reversed-stays f base library c (in_array at xs next) v x = omega arith
  reversed-stays f base library c (whole u) v x = omega arith
  reversed-stays f base library c (in_object at ms ends) v (rest, e) =
      let s = streaming base library in
      subst (λ v. tally f (reverse_reported s c at ms) ≤ tally f (reversed_faults s c v)) (sym e)
      (reverse-object f base library c at ms rest)
  reversed-stays f base library c (in_key at ms ends a) v (rest, e, n) =
      let s = streaming base library in
      subst (λ v. tally f (reverse_reported s c at ms) ≤ tally f (reversed_faults s c v)) (sym e)
      (reverse-object f base library c at ms rest)
  reversed-stays f base library c (in_member at ms ends a n next) v (u, rest, e, x) =
      let s = streaming base library in
      subst (λ v. tally f (reversed_reported s c (in_member at ms ends a n next)) ≤ tally f (reversed_faults s c v)) (sym e)
      (reverse-open f base library c at ms ends a n next u rest x
      (λ d k p j. value-stays f base library d k p j next u x)
      (λ d t name. map-stays f base library d t name next u x)
      (λ i name p seen. nested-stays f base library i name p seen next u x)
      (λ d. reversed-stays f base library d next u x))

  nested-stays : (f : Fault → ℕ) (base : Option Text) (library : Library) (i : Inside) (name : Text) (p : Place) (seen : Seen) (o : Open) (v : Tree) →
      Extends o v → tally f (nested_reported (streaming base library) i name p seen o) ≤ tally f (nested_faults (streaming base library) i name p seen v)
  nested-stays f base library i name p seen unread v x = omega arith
  nested-stays f base library i name p seen (in_scalar at first) v x = omega arith
  nested-stays f base library i name p seen (whole u) v x = omega arith
  nested-stays f base library i name p seen (in_array at xs next) v (rest, e, x) =
      let s = streaming base library in
      let behind = see_maps s i name p seen xs in
      subst (λ v. tally f (all_nested_faults s i name p seen xs ++ unless_array next (λ _. nested_reported s i name p behind next)) ≤ tally f (nested_faults s i name p seen v)) (sym e)
      (omega (
        arith,
        tally-append f (all_nested_faults s i name p seen xs) (unless_array next (λ _. nested_reported s i name p behind next)),
        nests-then f s i name p seen xs rest,
        ap (λ b. tally f (all_nested_faults s i name p b rest)) (nests-same s i name p seen xs),
        nest-next f s i name p behind next rest x (λ y e'. nested-stays f base library i name p behind next y e'),
      ))
  nested-stays f base library i name p seen (in_object at ms ends) v (rest, e) =
      let s = streaming base library in
      subst (λ v. tally f (nested_in (nest_inside s i name) (λ j. members_faults s j (nested_place p) seen ms)) ≤ tally f (nested_faults s i name p seen v)) (sym e)
      (nest-object f base library i name p seen at ms rest)
  nested-stays f base library i name p seen (in_key at ms ends a) v (rest, e, n) =
      let s = streaming base library in
      subst (λ v. tally f (nested_in (nest_inside s i name) (λ j. members_faults s j (nested_place p) seen ms)) ≤ tally f (nested_faults s i name p seen v)) (sym e)
      (nest-object f base library i name p seen at ms rest)
  nested-stays f base library i name p seen (in_member at ms ends a n next) v (u, rest, e, x) =
      let s = streaming base library in
      subst (λ v. tally f (nested_reported s i name p seen (in_member at ms ends a n next)) ≤ tally f (nested_faults s i name p seen v)) (sym e)
      (nest-open f base library i name p seen at ms ends a n next u rest x
      (λ d k w j. value-stays f base library d k w j next u x)
      (λ d t name. map-stays f base library d t name next u x)
      (λ i name p seen. nested-stays f base library i name p seen next u x)
      (λ d. reversed-stays f base library d next u x))

by-order : (order : Order) (base : Option Text) (library : Library) (o : Open) (t : Tree) → order ≡ Streaming →
    (let s : Settings = record { order = order; base = base; library = library } in Extends o t → IsWithin (reported s o) (faults s t))
unfolding reported faults
by-order Streaming base library o t e x =
    let s = streaming base library in
    le-within fault_eq (value_reported s (initial base) no_property root as_they_are o) (value_faults s (initial base) no_property root t)
    (λ f. omega (arith, value-stays f base library (initial base) no_property root as_they_are o t x))
by-order Any base library o t e x = absurd cc

pub faults-stay : FaultsStay
faults-stay s o t e x = by-order s.order s.base s.library o t e x
