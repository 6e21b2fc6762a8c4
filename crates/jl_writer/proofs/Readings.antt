-- JSON texts that are put together of their parts.
use Rattle.std.proofs.Common.{◌≡◌, inl, inr, ℕ, ◌+◌, suc, true, List, [], ◌∷◌, ◌++◌, length, IsUtf8, refl, sym, subst, add-zero}
use Rattle.std.specs.List.{AllByRecursion}
use Rattle.jl_model.specs.declared.tokens.Token.{Token}
use Rattle.jl_model.specs.declared.tokens.Token.TheVariants.{Key, Value}
use Rattle.jl_model.specs.declared.scalars.Scalar.TheVariants.{Str}
use Rattle.jl_model.specs.JsonTree.{Tree, scalar, array, object, Trees, no_item, item, Members, no_member, member}
use Rattle.jl_model.specs.JsonText.{Then, Sign, Blanks, IsBlank, Colon, IsNew, KeyText, ValueText, ItemsText, MoreItems, MembersText, MoreMembers}
use Rattle.jl_defs.specs.Texts.{Text}
use Rattle.jl_defs.specs.Canon.{string_text}
use Rattle.jl_writer.proofs.StringTexts.{string_means}
use Rattle.jl_writer.proofs.GroupedTrees.{after_key}

abbrev pub Language : Type 1
Language = ℕ → List Token → Text → Type 0

-- the text stands in the language at this place, with some tokens
abbrev pub Read : Language → ℕ → Text → Type 0
Read L at text = (tokens : List Token) × L at tokens text

pub and_then : (A B : Language) (at : ℕ) (t u : Text) → Read A at t → Read B (at + length t) u → Read (Then A B) at (t ++ u)
and_then A B at t u a b =
    (a.0 ++ b.0, record { front_tokens = a.0; back_tokens = b.0; front = t; back = u; tokens_are = refl; text_is = refl; in_first = a.1; in_second = b.1 })

-- no blank, or one
pub unblank : (K : Language) (at : ℕ) (t : Text) → Read K at t → Read (Then Blanks K) at t
unblank K at t k = (
  k.0,
  record {
    front_tokens = [];
    back_tokens = k.0;
    front = [];
    back = t;
    tokens_are = refl;
    text_is = refl;
    in_first = record { tokens_are = refl; blank = tt };
    in_second = subst (λ n. K n k.0 t) (sym (add-zero at)) k.1;
  },
)

pub one_blank : (K : Language) (c at : ℕ) (t : Text) → IsBlank c → Read K (at + 1) t → Read (Then Blanks K) at (c ∷ t)
one_blank K c at t b k = (
  k.0,
  record {
    front_tokens = [];
    back_tokens = k.0;
    front = c ∷ [];
    back = t;
    tokens_are = refl;
    text_is = refl;
    in_first = record { tokens_are = refl; blank = (b, tt) };
    in_second = k.1;
  },
)

pub sign : (byte : ℕ) (made : ℕ → List Token) (K : Language) (at : ℕ) (t : Text) → Read K (at + 1) t → Read (Then (Sign byte made) K) at (byte ∷ t)
sign byte made K at t k = (
  made at ++ k.0,
  record {
    front_tokens = made at;
    back_tokens = k.0;
    front = byte ∷ [];
    back = t;
    tokens_are = refl;
    text_is = refl;
    in_first = record { tokens_are = refl; text_is = refl };
    in_second = k.1;
  },
)

last_sign : (byte : ℕ) (made : ℕ → List Token) (at : ℕ) → Read (Sign byte made) at (byte ∷ [])
last_sign byte made at = (made at, record { tokens_are = refl; text_is = refl })

-- ---- values

pub string_read : (room at : ℕ) (text : Text) → IsUtf8 text → Read (ValueText true room (scalar at (Str text))) at (string_text text)
string_read room at text u = (Value at (Str text) ∷ [], record { place_is = refl; tokens_are = refl; spelled = string_means text u })

pub array_read : (room left at : ℕ) (xs : Trees) (t : Text) → room ≡ suc left → Read (ItemsText true left xs) (at + 1) t → Read (ValueText true room (array at xs)) at (91 ∷ t)
array_read room left at xs t e h =
    let whole = sign 91 _ (ItemsText true left xs) at t h in
    (whole.0, record { place_is = refl; left = left; room_is = e; spelled = whole.1 })

pub object_read : (room left at : ℕ) (ms : Members) (t : Text) → room ≡ suc left → Read (MembersText true left [] ms) (at + 1) t → Read (ValueText true room (object at ms)) at (123 ∷ t)
object_read room left at ms t e h =
    let whole = sign 123 _ (MembersText true left [] ms) at t h in
    (whole.0, record { place_is = refl; left = left; room_is = e; spelled = whole.1 })

-- ---- items

pub no_items : (room at : ℕ) → Read (ItemsText true room no_item) at (93 ∷ [])
no_items room at = unblank _ at _ (last_sign 93 _ at)

pub items_end : (room at : ℕ) → Read (MoreItems true room no_item) at (93 ∷ [])
items_end room at = unblank _ at _ (last_sign 93 _ at)

pub first_item : (room at : ℕ) (v : Tree) (vs : Trees) (t u : Text) → Read (ValueText true room v) at t → Read (MoreItems true room vs) (at + length t) u → Read (ItemsText true room (item v vs)) at (t ++ u)
first_item room at v vs t u a b = unblank _ at _ (and_then (ValueText true room v) (MoreItems true room vs) at t u a b)

pub next_item : (room at : ℕ) (v : Tree) (vs : Trees) (t u : Text) → Read (ValueText true room v) (at + 1) t → Read (MoreItems true room vs) (at + 1 + length t) u
    → Read (MoreItems true room (item v vs)) at (44 ∷ (t ++ u))
next_item room at v vs t u a b =
    unblank _ at _ (sign 44 _ _ at _ (unblank _ (at + 1) _ (and_then (ValueText true room v) (MoreItems true room vs) (at + 1) t u a b)))

-- an item on a line of its own
pub next_line : (room at : ℕ) (v : Tree) (vs : Trees) (t u : Text) → Read (ValueText true room v) (at + 1 + 1) t → Read (MoreItems true room vs) (at + 1 + 1 + length t) u
    → Read (MoreItems true room (item v vs)) at (44 ∷ 10 ∷ (t ++ u))
next_line room at v vs t u a b =
    unblank _ at _ (sign 44 _ _ at _ (one_blank _ 10 (at + 1) _ (inr (inr (inl refl))) (and_then (ValueText true room v) (MoreItems true room vs) (at + 1 + 1) t u a b)))

-- ---- members

pub members_end : (room at : ℕ) (had : List Text) → Read (MoreMembers true room had no_member) at (125 ∷ [])
members_end room at had = unblank _ at _ (last_sign 125 _ at)

key_then : (had : List Text) (at : ℕ) (name : Text) (K : Language) (t : Text) → IsUtf8 name → IsNew true had name → Read K (after_key at name) t
    → Read (Then (KeyText true had at name) (Then Blanks (Then Colon (Then Blanks K)))) at (string_text name ++ 58 ∷ t)
key_then had at name K t u new k =
    let colon = unblank _ (at + length (string_text name)) _ (sign 58 (λ _. []) (Then Blanks K) (at + length (string_text name)) t (unblank K (after_key at name) t k)) in (
      Key at name ∷ colon.0,
      record {
        front_tokens = Key at name ∷ [];
        back_tokens = colon.0;
        front = string_text name;
        back = 58 ∷ t;
        tokens_are = refl;
        text_is = refl;
        in_first = record { place_is = refl; tokens_are = refl; spelled = string_means name u; is_new = new };
        in_second = colon.1;
      },
    )

pub first_member : (room at : ℕ) (name : Text) (v : Tree) (ms : Members) (t u : Text) → IsUtf8 name → Read (ValueText true room v) (after_key at name) t
    → Read (MoreMembers true room (name ∷ []) ms) (after_key at name + length t) u → Read (MembersText true room [] (member at name v ms)) at (string_text name ++ 58 ∷ (t ++ u))
first_member room at name v ms t u utf8 a b =
    unblank _ at _ (key_then [] at name _ (t ++ u) utf8 tt (and_then (ValueText true room v) (MoreMembers true room (name ∷ []) ms) (after_key at name) t u a b))

pub next_member : (room at : ℕ) (had : List Text) (name : Text) (v : Tree) (ms : Members) (t u : Text) → IsUtf8 name → AllByRecursion (λ old. old ≡ name → ⊥) had
    → Read (ValueText true room v) (after_key (at + 1) name) t → Read (MoreMembers true room (name ∷ had) ms) (after_key (at + 1) name + length t) u
    → Read (MoreMembers true room had (member (at + 1) name v ms)) at (44 ∷ (string_text name ++ 58 ∷ (t ++ u)))
next_member room at had name v ms t u utf8 new a b =
    unblank _ at _ (sign 44 _ _ at _ (unblank _ (at + 1) _ (key_then had (at + 1) name _ (t ++ u) utf8 new
    (and_then (ValueText true room v) (MoreMembers true room (name ∷ had) ms) (after_key (at + 1) name) t u a b))))
