-- The items read of an open array or map are a part of those of each tree that goes on from it, so that what they give where
-- they are turned stays.
use Rattle.std.proofs.Common.{ℕ, ◌+◌, ◌≤◌, ◌≡◌, refl, sym, ◌∙◌, ap, subst, Bool, true, false, Option, Some, Result, Ok, Err, arith}
use Rattle.jl_model.specs.JsonTree.{Tree, scalar, array, object, Trees, no_item, item, Members, no_member, member}
use Rattle.jl_model.specs.declared.scalars.Scalar.TheVariants.{Str}
use Rattle.jl_model.specs.declared.faults.Fault.{Fault}
use Rattle.jl_model.specs.declared.codes.Code.{Code}
use Rattle.jl_defs.specs.Texts.{Text}
use Rattle.jl_defs.specs.Trees.{then_items, then_members}
use Rattle.jl_defs.specs.Context.{TermDef, Context}
use Rattle.jl_defs.specs.Settings.{Settings, Under, property_of, Stand, root, entry, graph_entry, elsewhere, inside_of, lists, term_under}
use Rattle.jl_defs.specs.Items.{Item, node_at, Items, no_more, more, both, given}
use Rattle.jl_defs.specs.Maps.{Addition, adds_nothing, adds_name, adds_type, adds_property, with_addition, all_with_addition, addition, entry_context, entry_stand, language_key, language_items, language_values}
use Rattle.jl_defs.specs.Expansion.{expand, expand_all, inner_array, in_entry, map_items, map_entries, language_map, language_entries}
use Rattle.jl_defs.specs.MemberFaults.{turned_faults}
use Rattle.jl_defs.specs.OpenTree.{Open, unread, in_scalar, in_array, in_object, in_key, in_member, whole, IsUnread, NextItem, Extends}
use Rattle.jl_defs.specs.Reported.{unless_list, items_read, map_items_read, language_entry_read, language_items_read}
use Rattle.jl_defs.specs.Sets.{tally}

-- items one behind the other
both-assoc : (xs ys zs : Items) → both (both xs ys) zs ≡ both xs (both ys zs)
both-assoc no_more ys zs = refl
both-assoc (more x xs) ys zs = ap (more x) (both-assoc xs ys zs)

pub expand-then : (s : Settings) (c : Context) (under : Under) (stand : Stand) (xs ys : Trees) →
    expand_all s c under stand (then_items xs ys) ≡ both (expand_all s c under stand xs) (expand_all s c under stand ys)
unfolding expand
expand-then s c under stand no_item ys = refl
expand-then s c under stand (item (array at zs) xs) ys =
    let first = inner_array (lists (term_under c under)) stand at (expand_all s c under stand zs) in
    ap (both first) (expand-then s c under stand xs ys) ∙ sym (both-assoc first (expand_all s c under stand xs) (expand_all s c under stand ys))
expand-then s c under stand (item x xs) ys =
    let first = given (expand s c under stand x) in
    ap (both first) (expand-then s c under stand xs ys) ∙ sym (both-assoc first (expand_all s c under stand xs) (expand_all s c under stand ys))

pub turned-both : (f : Fault → ℕ) (xs ys : Items) → tally f (turned_faults (both xs ys)) ≡ tally f (turned_faults xs) + tally f (turned_faults ys)
turned-both f no_more ys = omega arith
turned-both f (more (node_at at naming entries) xs) ys = turned-both f xs ys
turned-both f (more x xs) ys = omega (arith, turned-both f xs ys)

inside-twice : (stand : Stand) → inside_of (inside_of stand) ≡ inside_of stand
inside-twice root = refl
inside-twice entry = refl
inside-twice graph_entry = refl
inside-twice elsewhere = refl

-- the items of the first value, where an inner array is no list
pub first-items : (s : Settings) (c : Context) (under : Under) (stand : Stand) (x : Tree) (rest : Trees) → lists (term_under c under) ≡ false →
    expand_all s c under (inside_of stand) (item x rest) ≡ both (given (expand s c under (inside_of stand) x)) (expand_all s c under (inside_of stand) rest)
unfolding expand
first-items s c under stand (array at zs) rest e =
    let place = inside_of stand in
    ap (λ b. both (inner_array b place at (expand_all s c under place zs)) (expand_all s c under place rest)) e
    ∙ ap (λ w. both (expand_all s c under w zs) (expand_all s c under place rest)) (sym (inside-twice stand))
first-items s c under stand (scalar at v) rest e = refl
first-items s c under stand (object at ms) rest e = refl

-- what items give where they are turned
abbrev turned : (Fault → ℕ) → Items → ℕ
turned f xs = tally f (turned_faults xs)

-- the open item of an array
read-none : (f : Fault → ℕ) (s : Settings) (c : Context) (under : Under) (stand : Stand) (o : Open) → IsUnread o → turned f (items_read s c under stand o) ≡ 0
unfolding items_read
read-none f s c under stand unread e = refl
read-none f s c under stand o e = absurd e

next-read : (f : Fault → ℕ) (s : Settings) (c : Context) (under : Under) (stand : Stand) (l : Bool) (next : Open) (rest : Trees) → lists (term_under c under) ≡ l →
    NextItem next (Extends next) rest →
    ((t : Tree) → Extends next t → turned f (items_read s c under (inside_of stand) next) ≤ turned f (given (expand s c under (inside_of stand) t))) →
    turned f (unless_list l (λ _. items_read s c under (inside_of stand) next)) ≤ turned f (expand_all s c under (inside_of stand) rest)
next-read f s c under stand true next rest e x h = omega arith
next-read f s c under stand false next no_item e x h = omega (arith, read-none f s c under (inside_of stand) next x)
next-read f s c under stand false next (item y ys) e x h =
    let first = given (expand s c under (inside_of stand) y) in
    let others = expand_all s c under (inside_of stand) ys in
    omega (arith, h y x, ap (turned f) (first-items s c under stand y ys e), turned-both f first others)

items-stay : (f : Fault → ℕ) (s : Settings) (c : Context) (under : Under) (stand : Stand) (o : Open) (t : Tree) → Extends o t →
    turned f (items_read s c under stand o) ≤ turned f (given (expand s c under stand t))
unfolding items_read expand Extends
items-stay f s c under stand unread t x = omega arith
items-stay f s c under stand (in_scalar at first) t x = omega arith
items-stay f s c under stand (whole u) t x = omega arith
items-stay f s c under stand (in_array at xs next) t (rest, e, x) =
    let place = inside_of stand in
    let closed = expand_all s c under place xs in
    let open_item = unless_list (lists (term_under c under)) (λ _. items_read s c under place next) in
    subst (λ t. turned f (both closed open_item) ≤ turned f (given (expand s c under stand t))) (sym e)
    (omega (
      arith,
      turned-both f closed open_item,
      ap (turned f) (expand-then s c under place xs rest),
      turned-both f closed (expand_all s c under place rest),
      next-read f s c under stand (lists (term_under c under)) next rest refl x (λ u e'. items-stay f s c under place next u e'),
    ))
items-stay f s c under stand (in_object at ms ends) t x = omega arith
items-stay f s c under stand (in_key at ms ends a) t x = omega arith
items-stay f s c under stand (in_member at ms ends a n next) t x = omega arith

-- what a map's key adds doesn't count
added-first : (f : Fault → ℕ) (a : Addition) (x : Item) (rest : Items) → turned f (more (with_addition a x) rest) ≡ turned f (more x rest)
added-first f adds_nothing x rest = refl
added-first f (adds_name text) (node_at at naming entries) rest = refl
added-first f (adds_name text) x rest = refl
added-first f (adds_type text) (node_at at naming entries) rest = refl
added-first f (adds_type text) x rest = refl
added-first f (adds_property name value) (node_at at naming entries) rest = refl
added-first f (adds_property name value) x rest = refl

turned-first : (f : Fault → ℕ) (x : Item) (xs : Items) → turned f (more x xs) ≡ turned f (more x no_more) + turned f xs
turned-first f x xs = turned-both f (more x no_more) xs

turned-added : (f : Fault → ℕ) (a : Addition) (xs : Items) → turned f (all_with_addition a xs) ≡ turned f xs
turned-added f a no_more = refl
turned-added f a (more x xs) =
    omega (arith, added-first f a x (all_with_addition a xs), turned-first f x (all_with_addition a xs), turned-first f x xs, turned-added f a xs)

map-entries-then : (f : Fault → ℕ) (s : Settings) (d : Context) (t : TermDef) (name : Text) (ms rest : Members) →
    turned f (map_entries s d t name (then_members ms rest)) ≡ turned f (map_entries s d t name ms) + turned f (map_entries s d t name rest)
unfolding expand
map-entries-then f s d t name no_member rest = omega arith
map-entries-then f s d t name (member a n v ms) rest =
    let own = all_with_addition (addition d t n) (in_entry (entry_context s d t n) (λ c. expand s c (property_of name) (entry_stand t) v)) in
    omega (arith, map-entries-then f s d t name ms rest, turned-both f own (map_entries s d t name ms), turned-both f own (map_entries s d t name (then_members ms rest)))

in-entry-le : (f : Fault → ℕ) (r : Result Context Code) (A : Context → Items) (B : Context → Option Items) → ((c : Context) → turned f (A c) ≤ turned f (given (B c))) →
    turned f (in_entry r (λ c. Some (A c))) ≤ turned f (in_entry r B)
in-entry-le f (Ok c) A B h = h c
in-entry-le f (Err e) A B h = omega arith

pub map-items-stay : (f : Fault → ℕ) (s : Settings) (d : Context) (t : TermDef) (name : Text) (o : Open) (v : Tree) → Extends o v →
    turned f (map_items_read s d t name o) ≤ turned f (map_items s d t name v)
unfolding expand Extends
map-items-stay f s d t name (in_object at ms ends) v (rest, e) =
    subst (λ v. turned f (map_entries s d t name ms) ≤ turned f (map_items s d t name v)) (sym e) (omega (arith, map-entries-then f s d t name ms rest))
map-items-stay f s d t name (in_key at ms ends a) v (rest, e, k) =
    subst (λ v. turned f (map_entries s d t name ms) ≤ turned f (map_items s d t name v)) (sym e) (omega (arith, map-entries-then f s d t name ms rest))
map-items-stay f s d t name (in_member at ms ends a n next) v (u, rest, e, x) =
    let r = entry_context s d t n in
    let closed = map_entries s d t name ms in
    let mine = in_entry r (λ c. Some (items_read s c (property_of name) (entry_stand t) next)) in
    let theirs = in_entry r (λ c. expand s c (property_of name) (entry_stand t) u) in
    let added = all_with_addition (addition d t n) theirs in
    subst (λ v. turned f (both closed mine) ≤ turned f (map_items s d t name v)) (sym e)
    (omega (
      arith,
      turned-both f closed mine,
      map-entries-then f s d t name ms (member a n u rest),
      turned-both f added (map_entries s d t name rest),
      turned-added f (addition d t n) theirs,
      in-entry-le f r (λ c. items_read s c (property_of name) (entry_stand t) next) (λ c. expand s c (property_of name) (entry_stand t) u)
          (λ c. items-stay f s c (property_of name) (entry_stand t) next u x),
    ))
map-items-stay f s d t name o v x = omega arith

-- language maps
language-items-then : (f : Fault → ℕ) (tag : Option Text) (xs ys : Trees) → turned f (language_items tag xs) ≤ turned f (language_items tag (then_items xs ys))
language-items-then f tag no_item ys = omega arith
language-items-then f tag (item (scalar at (Str text)) xs) ys = omega (arith, language-items-then f tag xs ys)
language-items-then f tag (item x xs) ys = omega (arith, language-items-then f tag xs ys)

language-entry-stay : (f : Fault → ℕ) (tag : Option Text) (o : Open) (t : Tree) → Extends o t → turned f (language_entry_read tag o) ≤ turned f (language_values tag t)
unfolding Extends
language-entry-stay f tag (in_array at xs next) t (rest, e, x) =
    subst (λ t. turned f (language_items tag xs) ≤ turned f (language_values tag t)) (sym e) (language-items-then f tag xs rest)
language-entry-stay f tag o t e = omega arith

language-entries-then : (f : Fault → ℕ) (d : Context) (ms rest : Members) →
    turned f (language_entries d (then_members ms rest)) ≡ turned f (language_entries d ms) + turned f (language_entries d rest)
unfolding expand
language-entries-then f d no_member rest = omega arith
language-entries-then f d (member a n v ms) rest =
    let own = language_values (language_key d n) v in
    omega (arith, language-entries-then f d ms rest, turned-both f own (language_entries d ms), turned-both f own (language_entries d (then_members ms rest)))

pub language-items-stay : (f : Fault → ℕ) (d : Context) (o : Open) (v : Tree) → Extends o v → turned f (language_items_read d o) ≤ turned f (language_map d v)
unfolding expand Extends
language-items-stay f d (in_object at ms ends) v (rest, e) =
    subst (λ v. turned f (language_entries d ms) ≤ turned f (language_map d v)) (sym e) (omega (arith, language-entries-then f d ms rest))
language-items-stay f d (in_key at ms ends a) v (rest, e, k) =
    subst (λ v. turned f (language_entries d ms) ≤ turned f (language_map d v)) (sym e) (omega (arith, language-entries-then f d ms rest))
language-items-stay f d (in_member at ms ends a n next) v (u, rest, e, x) =
    let closed = language_entries d ms in
    let mine = language_entry_read (language_key d n) next in
    let theirs = language_values (language_key d n) u in
    subst (λ v. turned f (both closed mine) ≤ turned f (language_map d v)) (sym e)
    (omega (
      arith,
      turned-both f closed mine,
      language-entries-then f d ms (member a n u rest),
      turned-both f theirs (language_entries d rest),
      language-entry-stay f (language_key d n) next u x,
    ))
language-items-stay f d o v x = omega arith
