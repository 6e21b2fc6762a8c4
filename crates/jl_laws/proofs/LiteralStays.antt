-- Faults of an open JSON literal and of an open language map stay.
use Rattle.std.proofs.Common.{ℕ, ◌+◌, ◌≤◌, ◌≡◌, refl, sym, subst, ◌++◌, arith}
use Rattle.jl_model.specs.JsonTree.{Tree, Trees, no_item, item, Members, no_member, member}
use Rattle.jl_model.specs.declared.faults.Fault.{Fault}
use Rattle.jl_defs.specs.Trees.{then_items, then_members}
use Rattle.jl_defs.specs.Canon.{json_faults, items_json_faults, members_json_faults}
use Rattle.jl_defs.specs.MemberFaults.{language_value_faults, language_items_faults, language_entry_faults, language_map_faults}
use Rattle.jl_defs.specs.Faults.{language_faults}
use Rattle.jl_defs.specs.OpenTree.{Open, unread, in_scalar, in_array, in_object, in_key, in_member, whole, IsUnread, NextItem, Extends}
use Rattle.jl_defs.specs.Reported.{json_reported, language_entry_reported, language_reported}
use Rattle.jl_defs.specs.Sets.{tally}
use Rattle.jl_laws.proofs.Counting.{tally-append}

-- what an open item gives is among what the items give
pub next-item : (next : Open) (rest : Trees) (n : ℕ) (one : Tree → ℕ) (all : Trees → ℕ) →
    ((x : Tree) (xs : Trees) → one x ≤ all (item x xs)) → (IsUnread next → n ≡ 0) → ((t : Tree) → Extends next t → n ≤ one t) → NextItem next (Extends next) rest → n ≤ all rest
next-item next no_item n one all first zero h e = omega (arith, zero e)
next-item next (item x xs) n one all first zero h e = omega (arith, first x xs, h x e)

json-items-then : (f : Fault → ℕ) (xs ys : Trees) → tally f (items_json_faults (then_items xs ys)) ≡ tally f (items_json_faults xs) + tally f (items_json_faults ys)
unfolding json_faults
json-items-then f no_item ys = omega arith
json-items-then f (item x xs) ys =
    omega (arith, json-items-then f xs ys, tally-append f (json_faults x) (items_json_faults xs), tally-append f (json_faults x) (items_json_faults (then_items xs ys)))

json-members-then : (f : Fault → ℕ) (ms rest : Members) → tally f (members_json_faults (then_members ms rest)) ≡ tally f (members_json_faults ms) + tally f (members_json_faults rest)
unfolding json_faults
json-members-then f no_member rest = omega arith
json-members-then f (member a n v ms) rest =
    omega (arith, json-members-then f ms rest, tally-append f (json_faults v) (members_json_faults ms), tally-append f (json_faults v) (members_json_faults (then_members ms rest)))

json-unread : (f : Fault → ℕ) (o : Open) → IsUnread o → tally f (json_reported o) ≡ 0
unfolding json_reported
json-unread f unread e = refl
json-unread f o e = absurd e

pub json-stays : (f : Fault → ℕ) (o : Open) (t : Tree) → Extends o t → tally f (json_reported o) ≤ tally f (json_faults t)
unfolding json_reported json_faults Extends
json-stays f unread t e = omega arith
json-stays f (in_scalar at first) t e = omega arith
json-stays f (in_array at xs next) t (rest, e, n) =
    subst (λ t. tally f (items_json_faults xs ++ json_reported next) ≤ tally f (json_faults t)) (sym e)
    (omega (
      arith,
      tally-append f (items_json_faults xs) (json_reported next),
      json-items-then f xs rest,
      next-item next rest (tally f (json_reported next)) (λ x. tally f (json_faults x)) (λ ys. tally f (items_json_faults ys))
          (λ x ys. omega (arith, tally-append f (json_faults x) (items_json_faults ys))) (λ u. json-unread f next u) (λ x e'. json-stays f next x e') n,
    ))
json-stays f (in_object at ms ends) t (rest, e) =
    subst (λ t. tally f (members_json_faults ms) ≤ tally f (json_faults t)) (sym e) (omega (arith, json-members-then f ms rest))
json-stays f (in_key at ms ends a) t (rest, e, n) =
    subst (λ t. tally f (members_json_faults ms) ≤ tally f (json_faults t)) (sym e) (omega (arith, json-members-then f ms rest))
json-stays f (in_member at ms ends a n next) t (v, rest, e, x) =
    subst (λ t. tally f (members_json_faults ms ++ json_reported next) ≤ tally f (json_faults t)) (sym e)
    (omega (
      arith,
      tally-append f (members_json_faults ms) (json_reported next),
      json-members-then f ms (member a n v rest),
      json-stays f next v x,
      tally-append f (json_faults v) (members_json_faults rest),
    ))
json-stays f (whole t) u e = subst (λ u. tally f (json_faults t) ≤ tally f (json_faults u)) e (omega arith)

language-items-then : (f : Fault → ℕ) (xs ys : Trees) → tally f (language_items_faults xs) ≤ tally f (language_items_faults (then_items xs ys))
language-items-then f no_item ys = omega arith
language-items-then f (item x xs) ys =
    omega (arith, language-items-then f xs ys, tally-append f (language_value_faults x) (language_items_faults xs), tally-append f (language_value_faults x) (language_items_faults (then_items xs ys)))

language-map-then : (f : Fault → ℕ) (ms rest : Members) → tally f (language_map_faults (then_members ms rest)) ≡ tally f (language_map_faults ms) + tally f (language_map_faults rest)
language-map-then f no_member rest = omega arith
language-map-then f (member a n v ms) rest =
    omega (arith, language-map-then f ms rest, tally-append f (language_entry_faults v) (language_map_faults ms), tally-append f (language_entry_faults v) (language_map_faults (then_members ms rest)))

language-entry-stays : (f : Fault → ℕ) (o : Open) (t : Tree) → Extends o t → tally f (language_entry_reported o) ≤ tally f (language_entry_faults t)
unfolding Extends
language-entry-stays f (in_array at xs next) t (rest, e, n) =
    subst (λ t. tally f (language_items_faults xs) ≤ tally f (language_entry_faults t)) (sym e) (language-items-then f xs rest)
language-entry-stays f o t e = omega arith

pub language-stays : (f : Fault → ℕ) (o : Open) (t : Tree) → Extends o t → tally f (language_reported o) ≤ tally f (language_faults t)
unfolding Extends
language-stays f (in_object at ms ends) t (rest, e) =
    subst (λ t. tally f (language_map_faults ms) ≤ tally f (language_faults t)) (sym e) (omega (arith, language-map-then f ms rest))
language-stays f (in_key at ms ends a) t (rest, e, n) =
    subst (λ t. tally f (language_map_faults ms) ≤ tally f (language_faults t)) (sym e) (omega (arith, language-map-then f ms rest))
language-stays f (in_member at ms ends a n next) t (v, rest, e, x) =
    subst (λ t. tally f (language_map_faults ms ++ language_entry_reported next) ≤ tally f (language_faults t)) (sym e)
    (omega (
      arith,
      tally-append f (language_map_faults ms) (language_entry_reported next),
      language-map-then f ms (member a n v rest),
      language-entry-stays f next v x,
      tally-append f (language_entry_faults v) (language_map_faults rest),
    ))
language-stays f o t e = omega arith
