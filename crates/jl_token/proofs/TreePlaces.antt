-- Where a value's tokens lead, by one automaton over what is open: so a token may come exactly where some tree goes on with it.
use Rattle.std.proofs.Common.{◌≡◌, ℕ, Bool, true, false, refl, sym, ap, ◌∙◌, List, [], ◌∷◌, ◌++◌, map, append_assoc, append-nil, Some, None}
use Rattle.std.specs.List.{list_all}
use Rattle.std.proofs.lemmas.Bool.{and_parts, true≢false}
use Rattle.std.proofs.lemmas.List.{map-append}
use Rattle.jl_model.specs.declared.tokens.Token.{Token}
use Rattle.jl_model.specs.declared.tokens.Token.TheVariants as tokens
use Rattle.jl_model.specs.JsonTree.{Tree, scalar, array, object, Trees, no_item, item, Members, no_member, member}
use Rattle.jl_model.specs.JsonView.{tree_of, trees, items_of, members_of}
use Rattle.jl_model.specs.JsonView.{members as member_trees}
use Rattle.jl_token.specs.declared.open_trees.OpenTree.{OpenTree}
use Rattle.jl_token.specs.declared.open_trees.OpenTree.TheVariants as opened
use Rattle.jl_token.specs.declared.tree_states.Growth.{Growth}
use Rattle.jl_token.specs.declared.tree_states.Growth.TheVariants as growth
use Rattle.jl_token.specs.Trees.{tree_tokens, items_tokens, members_tokens, shown, AreTokensOf, Begin, open_tokens, around_tokens, growth_tokens, waits, takes, IsFormedAt, IsWholeAt}
use Rattle.jl_token.proofs.GrowingTrees.{tree-more, items-more, members-more}

data Place : Type 0 where
  start : Place
  in_array : Place
  at_key : Place
  at_value : Place
  done : Place

-- behind a value
abbrev after : Place → Place
after start = done
after in_array = in_array
after at_key = at_key
after at_value = at_key
after done = done

abbrev is_waiting : Place → Bool
is_waiting start = true
is_waiting in_array = true
is_waiting at_key = false
is_waiting at_value = true
is_waiting done = false

abbrev if_waiting : Place → Bool → Bool
if_waiting start b = b
if_waiting in_array b = b
if_waiting at_key b = false
if_waiting at_value b = b
if_waiting done b = false

abbrev close_array : Place → List Place → (Place → List Place → Bool) → Bool
close_array in_array (p ∷ around) go = go (after p) around
close_array _ _ go = false

abbrev close_object : Place → List Place → (Place → List Place → Bool) → Bool
close_object at_key (p ∷ around) go = go (after p) around
close_object _ _ go = false

abbrev key : Place → List Place → (Place → List Place → Bool) → Bool
key at_key around go = go at_value around
key _ around go = false

abbrev step : Place → List Place → Token → (Place → List Place → Bool) → Bool
step p around (tokens.OpenObject at) go = if_waiting p (go at_key (p ∷ around))
step p around (tokens.CloseObject at) go = close_object p around go
step p around (tokens.OpenArray at) go = if_waiting p (go in_array (p ∷ around))
step p around (tokens.CloseArray at) go = close_array p around go
step p around (tokens.Key at name) go = key p around go
step p around (tokens.Value at v) go = if_waiting p (go (after p) around)

abbrev is_done : Place → Bool
is_done done = true
is_done _ = false

unfoldable run : List Token → Place → List Place → Bool
run [] p around = is_done p
run (t ∷ ts) p around = step p around t (λ p' around'. run ts p' around')

open-array : (at : ℕ) (ts : List Token) (p : Place) (around : List Place) → is_waiting p ≡ true → run (tokens.OpenArray at ∷ ts) p around ≡ run ts in_array (p ∷ around)
unfolding run
open-array at ts start around w = refl
open-array at ts in_array around w = refl
open-array at ts at_key around w = absurd (true≢false (sym w))
open-array at ts at_value around w = refl
open-array at ts done around w = absurd (true≢false (sym w))

open-object : (at : ℕ) (ts : List Token) (p : Place) (around : List Place) → is_waiting p ≡ true → run (tokens.OpenObject at ∷ ts) p around ≡ run ts at_key (p ∷ around)
unfolding run
open-object at ts start around w = refl
open-object at ts in_array around w = refl
open-object at ts at_key around w = absurd (true≢false (sym w))
open-object at ts at_value around w = refl
open-object at ts done around w = absurd (true≢false (sym w))

mutual
  unfolding run

  tree-runs : (t : Tree) (more : List Token) (p : Place) (around : List Place) → is_waiting p ≡ true → run (tree_tokens t more) p around ≡ run more (after p) around
  tree-runs (scalar at v) more start around w = refl
  tree-runs (scalar at v) more in_array around w = refl
  tree-runs (scalar at v) more at_key around w = absurd (true≢false (sym w))
  tree-runs (scalar at v) more at_value around w = refl
  tree-runs (scalar at v) more done around w = absurd (true≢false (sym w))
  tree-runs (array at xs) more p around w = open-array at (items_tokens xs (tokens.CloseArray 0 ∷ more)) p around w ∙ items-run xs (tokens.CloseArray 0 ∷ more) (p ∷ around)
  tree-runs (object at ms) more p around w = open-object at (members_tokens ms (tokens.CloseObject 0 ∷ more)) p around w ∙ members-run ms (tokens.CloseObject 0 ∷ more) (p ∷ around)

  items-run : (xs : Trees) (more : List Token) (around : List Place) → run (items_tokens xs more) in_array around ≡ run more in_array around
  items-run no_item more around = refl
  items-run (item x rest) more around = tree-runs x (items_tokens rest more) in_array around refl ∙ items-run rest more around

  members-run : (ms : Members) (more : List Token) (around : List Place) → run (members_tokens ms more) at_key around ≡ run more at_key around
  members-run no_member more around = refl
  members-run (member a n v rest) more around = tree-runs v (members_tokens rest more) at_value around refl ∙ members-run rest more around

abbrev place_in : OpenTree → Place
place_in (opened.Array at items) = in_array
place_in (opened.Object at ms None) = at_key
place_in (opened.Object at ms (Some k)) = at_value

abbrev places : List OpenTree → List Place
places [] = start ∷ []
places (x ∷ around) = place_in x ∷ places around

waits-is : (x : OpenTree) → waits x ≡ is_waiting (place_in x)
waits-is (opened.Array at items) = refl
waits-is (opened.Object at ms None) = refl
waits-is (opened.Object at ms (Some k)) = refl

open-runs : (x : OpenTree) (ts : List Token) (p : Place) (around : List Place) → is_waiting p ≡ true → run (open_tokens x ++ ts) p around ≡ run ts (place_in x) (p ∷ around)
unfolding run
open-runs (opened.Array at items) ts p around w =
    open-array at (items_tokens (trees (items_of items)) [] ++ ts) p around w
    ∙ (ap (λ l. run l in_array (p ∷ around)) (sym (items-more (trees (items_of items)) [] ts)) ∙ items-run (trees (items_of items)) ts (p ∷ around))
open-runs (opened.Object at ms None) ts p around w =
    open-object at (members_tokens (member_trees (members_of ms)) [] ++ ts) p around w
    ∙ (ap (λ l. run l at_key (p ∷ around)) (sym (members-more (member_trees (members_of ms)) [] ts)) ∙ members-run (member_trees (members_of ms)) ts (p ∷ around))
open-runs (opened.Object at ms (Some k)) ts p around w =
    open-object at (members_tokens (member_trees (members_of ms)) (tokens.Key k.at k.name ∷ []) ++ ts) p around w
    ∙ (ap (λ l. run l at_key (p ∷ around)) (sym (members-more (member_trees (members_of ms)) (tokens.Key k.at k.name ∷ []) ts))
    ∙ members-run (member_trees (members_of ms)) (tokens.Key k.at k.name ∷ ts) (p ∷ around))

inside-runs : (around : List OpenTree) (x : OpenTree) (ts : List Token) → list_all waits around ≡ true
    → run ((around_tokens around ++ open_tokens x) ++ ts) start [] ≡ run ts (place_in x) (places around)
inside-runs [] x ts w = open-runs x ts start [] refl
inside-runs (y ∷ around) x ts w =
    let parts = and_parts (waits y) (list_all waits around) w in
    ap (λ l. run l start []) (append_assoc (around_tokens around ++ open_tokens y) (open_tokens x) ts)
    ∙ (inside-runs around y (open_tokens x ++ ts) parts.1 ∙ open-runs x ts (place_in y) (places around) (sym (waits-is y) ∙ parts.0))

abbrev place_at : Growth → Place
place_at growth.Nothing = start
place_at (growth.Inside x) = place_in x
place_at (growth.Whole json) = done

abbrev places_at : Growth → List OpenTree → List Place
places_at growth.Nothing around = []
places_at (growth.Inside x) around = places around
places_at (growth.Whole json) around = []

growth-runs : (g : Growth) (around : List OpenTree) (ts : List Token) → IsFormedAt g around → run (growth_tokens g around ++ ts) start [] ≡ run ts (place_at g) (places_at g around)
growth-runs growth.Nothing around ts f = refl
growth-runs (growth.Inside x) around ts f = inside-runs around x ts f
growth-runs (growth.Whole json) around ts f = ap (λ l. run l start []) (sym (tree-more (tree_of json) [] ts)) ∙ tree-runs (tree_of json) ts start [] refl

one-takes : (x : OpenTree) (t : Token) (ts : List Token) (around : List Place) → run (shown t ∷ ts) (place_in x) around ≡ true → takes (growth.Inside x) t ≡ true
unfolding run
one-takes (opened.Array at items) (tokens.OpenObject p) ts around e = refl
one-takes (opened.Array at items) (tokens.CloseObject p) ts around e = absurd (true≢false (sym e))
one-takes (opened.Array at items) (tokens.OpenArray p) ts around e = refl
one-takes (opened.Array at items) (tokens.CloseArray p) ts around e = refl
one-takes (opened.Array at items) (tokens.Key p n) ts around e = absurd (true≢false (sym e))
one-takes (opened.Array at items) (tokens.Value p v) ts around e = refl
one-takes (opened.Object at ms None) (tokens.OpenObject p) ts around e = absurd (true≢false (sym e))
one-takes (opened.Object at ms None) (tokens.CloseObject p) ts around e = refl
one-takes (opened.Object at ms None) (tokens.OpenArray p) ts around e = absurd (true≢false (sym e))
one-takes (opened.Object at ms None) (tokens.CloseArray p) ts around e = absurd (true≢false (sym e))
one-takes (opened.Object at ms None) (tokens.Key p n) ts around e = refl
one-takes (opened.Object at ms None) (tokens.Value p v) ts around e = absurd (true≢false (sym e))
one-takes (opened.Object at ms (Some k)) (tokens.OpenObject p) ts around e = refl
one-takes (opened.Object at ms (Some k)) (tokens.CloseObject p) ts around e = absurd (true≢false (sym e))
one-takes (opened.Object at ms (Some k)) (tokens.OpenArray p) ts around e = refl
one-takes (opened.Object at ms (Some k)) (tokens.CloseArray p) ts around e = absurd (true≢false (sym e))
one-takes (opened.Object at ms (Some k)) (tokens.Key p n) ts around e = absurd (true≢false (sym e))
one-takes (opened.Object at ms (Some k)) (tokens.Value p v) ts around e = refl

takes-by : (g : Growth) (t : Token) (ts : List Token) (around : List OpenTree) → run (shown t ∷ ts) (place_at g) (places_at g around) ≡ true → takes g t ≡ true
unfolding run
takes-by growth.Nothing (tokens.OpenObject p) ts around e = refl
takes-by growth.Nothing (tokens.CloseObject p) ts around e = absurd (true≢false (sym e))
takes-by growth.Nothing (tokens.OpenArray p) ts around e = refl
takes-by growth.Nothing (tokens.CloseArray p) ts around e = absurd (true≢false (sym e))
takes-by growth.Nothing (tokens.Key p n) ts around e = absurd (true≢false (sym e))
takes-by growth.Nothing (tokens.Value p v) ts around e = refl
takes-by (growth.Inside x) t ts around e = one-takes x t ts (places around) e
takes-by (growth.Whole json) (tokens.OpenObject p) ts around e = absurd (true≢false (sym e))
takes-by (growth.Whole json) (tokens.CloseObject p) ts around e = absurd (true≢false (sym e))
takes-by (growth.Whole json) (tokens.OpenArray p) ts around e = absurd (true≢false (sym e))
takes-by (growth.Whole json) (tokens.CloseArray p) ts around e = absurd (true≢false (sym e))
takes-by (growth.Whole json) (tokens.Key p n) ts around e = absurd (true≢false (sym e))
takes-by (growth.Whole json) (tokens.Value p v) ts around e = absurd (true≢false (sym e))

tree-done : (t : Tree) → run (tree_tokens t []) start [] ≡ true
unfolding run
tree-done t = tree-runs t [] start [] refl

-- a token with which some tree goes on may come
pub may_come : (g : Growth) (around : List OpenTree) (read more : List Token) (token : Token) (t : Tree) → IsFormedAt g around
    → map shown read ≡ growth_tokens g around → AreTokensOf t (read ++ token ∷ more) → takes g token ≡ true
may_come g around read more token t f r a =
    takes-by g token (map shown more) around
    (sym (growth-runs g around (shown token ∷ map shown more) f)
    ∙ (ap (λ l. run (l ++ shown token ∷ map shown more) start []) (sym r)
    ∙ (ap (λ l. run l start []) (sym (map-append shown read (token ∷ more)) ∙ a) ∙ tree-done t)))

done-whole : (g : Growth) (around : List OpenTree) → run [] (place_at g) (places_at g around) ≡ true → IsWholeAt g
unfolding run
done-whole growth.Nothing around e = absurd (true≢false (sym e))
done-whole (growth.Inside (opened.Array at items)) around e = absurd (true≢false (sym e))
done-whole (growth.Inside (opened.Object at ms None)) around e = absurd (true≢false (sym e))
done-whole (growth.Inside (opened.Object at ms (Some k))) around e = absurd (true≢false (sym e))
done-whole (growth.Whole json) around e = tt

-- where the tokens are those of a tree, the tree is whole
pub is_whole : (g : Growth) (around : List OpenTree) (read : List Token) (t : Tree) → IsFormedAt g around
    → map shown read ≡ growth_tokens g around → AreTokensOf t read → IsWholeAt g
is_whole g around read t f r a =
    done-whole g around
    (sym (growth-runs g around [] f)
    ∙ (ap (λ l. run l start []) (append-nil (growth_tokens g around) ∙ (sym r ∙ a)) ∙ tree-done t))

pub may_begin : (g : Growth) (around : List OpenTree) (read : List Token) (token : Token) → IsFormedAt g around
    → map shown read ≡ growth_tokens g around → Begin (read ++ token ∷ []) → takes g token ≡ true
may_begin g around read token f r b = may_come g around read b.1 token b.0 f r (ap (map shown) (sym (append_assoc read (token ∷ []) b.1)) ∙ b.2)
