-- Grouped quads that are well-formed: no predicate comes twice in a node.
use Rattle.std.proofs.Common.{◌≡◌, ℕ, zero, suc, ◌<◌, Bool, true, false, not, ◌&&◌, ◌||◌, ◌==◌, cond, nat_lt, List, [], ◌∷◌, ◌++◌, Option, Some, None, IsTrue, IsUtf8, codes, bytes_eq, inl, inr, refl, sym, ◌∙◌, subst, arith}
use Rattle.std.proofs.lemmas.Bool.{and_parts, cases_Bool, eqb-true, ltb-true}
use Rattle.std.proofs.lemmas.Bool.Decides.{nat_tests}
use Rattle.std.proofs.lemmas.Slice.Eq.{bytes_eq-Decides}
use Rattle.std.proofs.lemmas.Str.{IsUtf8-from_ascii}
use Rattle.std.specs.Char.{is_ascii_alphanumeric}
use Rattle.std.specs.List.{AllByRecursion, list_all, slice_split, onto_first}
use Rattle.std.specs.Str.{IsAscii}
use Rattle.jl_model.specs.Iris.{IsIri, has_iri_form}
use Rattle.jl_model.specs.Labels.{is_kept_label, is_label_byte, is_word_byte, last_byte}
use Rattle.jl_model.specs.Tags.{is_language_tag, is_dash}
use Rattle.jl_model.specs.Parts.{Parts, AreWellFormed, IsNode, IsObject, IsGraph}
use Rattle.jl_model.specs.declared.terms.Term.{Term}
use Rattle.jl_model.specs.declared.terms.Term.TheVariants.{Iri, Blank, Literal}
use Rattle.jl_defs.specs.Texts.{Text, is_among}
use Rattle.jl_defs.specs.WriterText.{OpenNode, Next, same_predicate, new_predicate, new_node, new_item, next_of, opened, begins_node, node_name}
use Rattle.jl_writer.proofs.PlainTexts.{subtags_parts}
use Rattle.jl_writer.proofs.GoingOn.{GoesOn, goes_on}
use Rattle.jl_writer.proofs.Grouped.{Group, Node, Item, one_node, one_graph, Rest, group_of, node_of, item_in, with_node, with_quad, rest_behind, items_of, id_key}

-- a predicate that the node hasn't had, with its values
pub record IsGroup (had : List Text) (g : Group) : Type 0 where
  pub predicate : IsIri g.predicate
  pub new : AllByRecursion (λ old. old ≡ g.predicate → ⊥) had
  pub first : IsObject g.first
  pub more : AllByRecursion IsObject g.more

abbrev pub AreGroups : List Text → List Group → Type 0
AreGroups had [] = Unit {0}
AreGroups had (g ∷ gs) = IsGroup had g × AreGroups (g.predicate ∷ had) gs

pub record IsGoodNode (n : Node) : Type 0 where
  pub subject : IsNode n.subject
  pub groups : AreGroups (id_key ∷ []) n.groups

pub record IsGoodGraph (g : Term) (n : Node) (ns : List Node) : Type 0 where
  pub name : IsNode g
  pub first : IsGoodNode n
  pub more : AllByRecursion IsGoodNode ns

abbrev pub IsGoodItem : Item → Type 0
IsGoodItem (one_node n) = IsGoodNode n
IsGoodItem (one_graph g n ns) = IsGoodGraph g n ns

pub record IsGoodRest (used : List Text) (r : Rest) : Type 0 where
  pub values : AllByRecursion IsObject r.values
  pub groups : AreGroups (used ++ id_key ∷ []) r.groups
  pub nodes : AllByRecursion IsGoodNode r.nodes
  pub items : AllByRecursion IsGoodItem r.items

-- ---- names apart

pub apart : (a b : Text) → bytes_eq a b ≡ false → a ≡ b → ⊥
apart a b h e = let k : true ≡ false = sym ((bytes_eq-Decides a b).1 e) ∙ h in cc

-- the key of identifiers is no IRI
pub id_apart : (iri : Text) → IsIri iri → id_key ≡ iri → ⊥
id_apart iri h e = let k : false ≡ true = subst (λ t. has_iri_form t ≡ true) (sym e) h.form in cc

all_apart : (used : List Text) (p : Text) → IsIri p → is_among used p ≡ false → AllByRecursion (λ old. old ≡ p → ⊥) (used ++ id_key ∷ [])
all_apart [] p h e = (id_apart p h, tt)
all_apart (u ∷ us) p h e = let parts = neither (bytes_eq u p) (is_among us p) e in (apart u p parts.0, all_apart us p h parts.1)
  where
    neither : (a b : Bool) → (a || b) ≡ false → (a ≡ false) × (b ≡ false)
    neither true b e = absurd cc
    neither false b e = (refl, e)

-- ---- the groups of well-formed quads

group_good : (had : List Text) (q : Parts) (r : Rest) → AreWellFormed q → AllByRecursion (λ old. old ≡ q.predicate → ⊥) had → AllByRecursion IsObject r.values → IsGroup had (group_of q r)
group_good had q r h new values = record { predicate = h.predicate; new = new; first = h.object; more = values }

node_good : (q : Parts) (r : Rest) → AreWellFormed q → IsGoodRest (q.predicate ∷ []) r → IsGoodNode (node_of q r)
node_good q r h rest = record {
  subject = h.subject;
  groups = (group_good (id_key ∷ []) q r h (id_apart q.predicate h.predicate, tt) rest.values, rest.groups);
}

item_good : (g : Option Term) (q : Parts) (r : Rest) → IsGraph g → AreWellFormed q → IsGoodRest (q.predicate ∷ []) r → IsGoodItem (item_in g q r)
item_good None q r graph h rest = node_good q r h rest
item_good (Some g) q r graph h rest = record { name = graph; first = node_good q r h rest; more = rest.nodes }

with_node_good : (used : List Text) (g : Option Term) (q : Parts) (r : Rest) → AreWellFormed q → IsGoodRest (q.predicate ∷ []) r → IsGoodRest used (with_node g (node_of q r) r)
with_node_good used None q r h rest = record { values = tt; groups = tt; nodes = tt; items = (node_good q r h rest, rest.items) }
with_node_good used (Some g) q r h rest = record { values = tt; groups = tt; nodes = (node_good q r h rest, rest.nodes); items = rest.items }

with_quad_good : (n : OpenNode) (q : Parts) (next : Next) (r : Rest) → GoesOn n q next → AreWellFormed q → IsGoodRest (opened n q next).used r → IsGoodRest n.used (with_quad n.graph q next r)
with_quad_good n q same_predicate r goes h rest = record { values = (h.object, rest.values); groups = rest.groups; nodes = rest.nodes; items = rest.items }
with_quad_good n q new_predicate r goes h rest = record {
  values = tt;
  groups = (group_good (n.used ++ id_key ∷ []) q r h (all_apart n.used q.predicate h.predicate goes.2) rest.values, rest.groups);
  nodes = rest.nodes;
  items = rest.items;
}
with_quad_good n q new_node r goes h rest = with_node_good n.used n.graph q r h rest
with_quad_good n q new_item r goes h rest = record { values = tt; groups = tt; nodes = tt; items = (item_good q.graph q r h.graph h rest, rest.items) }

pub rest_good : (n : OpenNode) (qs : List Parts) → AllByRecursion AreWellFormed qs → IsGoodRest n.used (rest_behind n qs)
unfolding rest_behind
rest_good n [] h = record { values = tt; groups = tt; nodes = tt; items = tt }
rest_good n (q ∷ qs) h = with_quad_good n q (next_of n q) (rest_behind (opened n q (next_of n q)) qs) (goes_on n q) h.0 (rest_good (opened n q (next_of n q)) qs h.1)

pub items_good : (qs : List Parts) → AllByRecursion AreWellFormed qs → AllByRecursion IsGoodItem (items_of qs)
items_good [] h = tt
items_good (q ∷ qs) h =
    let rest = rest_good (begins_node q) qs h.1 in
    (item_good q.graph q (rest_behind (begins_node q) qs) h.0.graph h.0 rest, rest.items)

-- ---- their names are UTF-8

none_ascii : IsAscii []
none_ascii zero = omega arith
none_ascii (suc i) = none_ascii i

all_ascii : (test : ℕ → Bool) → ((c : ℕ) → test c ≡ true → c < 128) → (text : Text) → list_all test text ≡ true → IsAscii text
all_ascii test low [] h i = none_ascii i
all_ascii test low (c ∷ cs) h zero = low c (and_parts (test c) (list_all test cs) h).0
all_ascii test low (c ∷ cs) h (suc i) = all_ascii test low cs (and_parts (test c) (list_all test cs) h).1 i

-- texts of ASCII
pub low_utf8 : (text : Text) → list_all (λ c. nat_lt c 128) text ≡ true → IsUtf8 text
low_utf8 text h = IsUtf8-from_ascii text (all_ascii (λ c. nat_lt c 128) (λ c e. ltb-true c 128 e) text h)

more_ascii : (c : ℕ) (cs : Text) → c < 128 → IsAscii cs → IsAscii (c ∷ cs)
more_ascii c cs l h zero = l
more_ascii c cs l h (suc i) = h i

word_low : (c : ℕ) → is_word_byte c ≡ true → c < 128
word_low c h = grind (arith, nat_tests)

label_low : (c : ℕ) → is_label_byte c ≡ true → c < 128
label_low c h = grind (arith, nat_tests)

alphanumeric_low : (c : ℕ) → is_ascii_alphanumeric c ≡ true → c < 128
alphanumeric_low c h = grind (arith, nat_tests)

label_ascii : (label : Text) → is_kept_label label ≡ true → IsAscii label
label_ascii [] h = absurd cc
label_ascii (c ∷ cs) h =
    let first = and_parts (is_word_byte c) (list_all is_label_byte cs && not (last_byte c cs == 46)) h in
    let rest = and_parts (list_all is_label_byte cs) (not (last_byte c cs == 46)) first.1 in
    more_ascii c cs (word_low c first.0) (all_ascii is_label_byte label_low cs rest.0)

pub name_utf8 : (t : Term) → IsNode t → IsUtf8 (node_name t)
name_utf8 (Iri iri) h = h.utf8
name_utf8 (Blank label) h =
    IsUtf8-from_ascii (codes "_:" ++ label) (more_ascii 95 (58 ∷ label) (omega arith) (more_ascii 58 label (omega arith) (label_ascii label h)))
name_utf8 (Literal lit) h = absurd h

longer_part : (c : ℕ) (parts : List Text) → list_all (list_all is_ascii_alphanumeric) (onto_first c parts) ≡ true → (is_ascii_alphanumeric c ≡ true) × (list_all (list_all is_ascii_alphanumeric) parts ≡ true)
longer_part c [] h = ((and_parts (is_ascii_alphanumeric c) true (and_parts (is_ascii_alphanumeric c && true) true h).0).0, refl)
longer_part c (part ∷ parts) h =
    let both = and_parts (is_ascii_alphanumeric c && list_all is_ascii_alphanumeric part) (list_all (list_all is_ascii_alphanumeric) parts) h in
    let first = and_parts (is_ascii_alphanumeric c) (list_all is_ascii_alphanumeric part) both.0 in
    (first.0, and_of (list_all is_ascii_alphanumeric part) (list_all (list_all is_ascii_alphanumeric) parts) first.1 both.1)
  where
    and_of : (a b : Bool) → a ≡ true → b ≡ true → (a && b) ≡ true
    and_of true b e h = h
    and_of false b e h = absurd cc

parts_ascii : (text : Text) → list_all (list_all is_ascii_alphanumeric) (slice_split is_dash text) ≡ true → IsAscii text
parts_ascii [] h = none_ascii
parts_ascii (c ∷ cs) h = elim (cases_Bool (is_dash c)) [
  | inl e ↦
      more_ascii c cs (let dash : c ≡ 45 = eqb-true c 45 e in omega arith)
      (parts_ascii cs (subst (λ b. list_all (list_all is_ascii_alphanumeric) (cond b ([] ∷ slice_split is_dash cs) (onto_first c (slice_split is_dash cs))) ≡ true) e h))
  | inr e ↦
      let both = longer_part c (slice_split is_dash cs) (subst (λ b. list_all (list_all is_ascii_alphanumeric) (cond b ([] ∷ slice_split is_dash cs) (onto_first c (slice_split is_dash cs))) ≡ true) e h) in
      more_ascii c cs (alphanumeric_low c both.0) (parts_ascii cs both.1)
]

pub tag_utf8 : (tag : Text) → IsTrue (is_language_tag tag) → IsUtf8 tag
tag_utf8 tag h = IsUtf8-from_ascii tag (parts_ascii tag (subtags_parts (slice_split is_dash tag) h))
