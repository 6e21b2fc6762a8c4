-- The marks of the stack against the entries of the walk, and what they tell as an object closes.
use Rattle.std.proofs.Common.{◌≡◌, refl, sym, ◌∙◌, ap, subst, Bool, true, false, not, ◌&&◌, ◌||◌, List, [], ◌∷◌, ◌++◌}
use Rattle.std.proofs.lemmas.Bool.{or_parts, or_right, and_right}
use Rattle.std.specs.List.{list_all}
use Rattle.jl_defs.specs.Texts.{Text}
use Rattle.jl_defs.specs.Keys.{Key, id, kind, value, language, direction, index, property, is_id, is_kind, is_value, is_language, is_direction, is_index}
use Rattle.jl_defs.specs.Kept.{any_key, is_only_language}
use Rattle.jl_defs.specs.MemberFaults.{is_value_entry, is_value_form}
use Rattle.jl_frames.specs.Closing as closing
use Rattle.jl_frames.specs.Nodes.{no_entries, with_entry}
use Rattle.jl_frames.specs.declared.entries.Entries.{Entries}
use Rattle.jl_frames.specs.declared.keywords.Keyword.{Keyword}
use Rattle.jl_frames.specs.declared.keywords.Keyword.TheVariants as keyword
use Rattle.jl_engine.specs.KeepsFrames.{with_open, is_property, KeepsMarks, IsPlainEntry, AreEntries}

-- ---- one more entry

or-swap : (a b c : Bool) → (a || (b || c)) ≡ (b || (a || c))
or-swap true true c = refl
or-swap true false c = refl
or-swap false b c = refl

pub any-append : (t : Key → Bool) (ks : List Key) (k : Key) → any_key t (ks ++ k ∷ []) ≡ (t k || any_key t ks)
any-append t [] k = refl
any-append t (j ∷ ks) k = ap (λ b. t j || b) (any-append t ks k) ∙ or-swap (t j) (t k) (any_key t ks)

one-more : (t : Key → Bool) (ks : List Key) (k : Key) (b : Bool) → b ≡ any_key t ks → (t k || b) ≡ any_key t (ks ++ k ∷ [])
one-more t ks k b e = ap (λ x. t k || x) e ∙ sym (any-append t ks k)

abbrev with_key : Key → Entries → Entries
with_key k es = record {
  id = is_id k || es.id;
  kind = is_kind k || es.kind;
  value = is_value k || es.value;
  language = is_language k || es.language;
  direction = is_direction k || es.direction;
  index = is_index k || es.index;
  property = is_property k || es.property;
}

marks-more : (k : Key) (es : Entries) (ks : List Key) → KeepsMarks es ks → KeepsMarks (with_key k es) (ks ++ k ∷ [])
marks-more k es ks m = record {
  id = one-more is_id ks k es.id m.id;
  kind = one-more is_kind ks k es.kind m.kind;
  value = one-more is_value ks k es.value m.value;
  language = one-more is_language ks k es.language m.language;
  direction = one-more is_direction ks k es.direction m.direction;
  index = one-more is_index ks k es.index m.index;
  property = one-more is_property ks k es.property m.property;
}

pub none-marked : KeepsMarks no_entries []
none-marked = record { id = refl; kind = refl; value = refl; language = refl; direction = refl; index = refl; property = refl }

-- one more property
pub property-marked : (name : Text) (es : Entries) (ks : List Key) → KeepsMarks es ks → KeepsMarks (record es { property = true }) (ks ++ property name ∷ [])
property-marked name es ks m = marks-more (property name) es ks m

-- the entry of a keyword
abbrev pub entry_of : Keyword → Key
entry_of keyword.Id = id
entry_of keyword.Kind = kind
entry_of keyword.Value = value
entry_of keyword.Language = language
entry_of keyword.Direction = direction
entry_of keyword.Index = index

-- one more keyword
pub keyword-marked : (q : Keyword) (es : Entries) (ks : List Key) → KeepsMarks es ks → KeepsMarks (with_entry q es) (ks ++ entry_of q ∷ [])
keyword-marked keyword.Id es ks m = marks-more id es ks m
keyword-marked q es ks m = marks-more (entry_of q) es ks m

renamed : (t : Key → Bool) (ks : List Key) (b : Bool) (name : Text) → t (property []) ≡ t (property name) → b ≡ any_key t (ks ++ property [] ∷ []) → b ≡ any_key t (ks ++ property name ∷ [])
renamed t ks b name e h = h ∙ (any-append t ks (property []) ∙ (ap (λ x. x || any_key t ks) e ∙ sym (any-append t ks (property name))))

-- an array of the values of a property closes
pub array-marked : (name : Text) (es : Entries) (ks : List Key) → KeepsMarks es (with_open true ks) → KeepsMarks es (ks ++ property name ∷ [])
array-marked name es ks m = record {
  id = renamed is_id ks es.id name refl m.id;
  kind = renamed is_kind ks es.kind name refl m.kind;
  value = renamed is_value ks es.value name refl m.value;
  language = renamed is_language ks es.language name refl m.language;
  direction = renamed is_direction ks es.direction name refl m.direction;
  index = renamed is_index ks es.index name refl m.index;
  property = renamed is_property ks es.property name refl m.property;
}

-- a value comes, or an array of them opens
pub open-marked : (held : Bool) (es : Entries) (ks : List Key) → KeepsMarks es (with_open held ks) → KeepsMarks (record es { property = true }) (with_open true ks)
open-marked true es ks m = subst (λ b. KeepsMarks (record es { property = b }) (with_open true ks)) (m.property ∙ any-append is_property ks (property [])) m
open-marked false es ks m = property-marked [] es ks m

-- ---- as the object closes

-- the entries of the forms that are built, one by one
plain-by : (P : Key → Type 0) → P id → P kind → P value → P language → P direction → P index → ((name : Text) → P (property name)) → (k : Key) → IsPlainEntry k → P k
plain-by P i k v l d x p id e = i
plain-by P i k v l d x p kind e = k
plain-by P i k v l d x p value e = v
plain-by P i k v l d x p language e = l
plain-by P i k v l d x p direction e = d
plain-by P i k v l d x p index e = x
plain-by P i k v l d x p (property name) e = p name
plain-by P i k v l d x p q e = absurd e

value-entries : (ks : List Key) → AreEntries ks → list_all is_value_entry ks ≡ not (any_key is_id ks || any_key is_property ks)
value-entries [] p = refl
value-entries (k ∷ ks) p =
    let rest = value-entries ks p.1.1 in
    plain-by (λ k. list_all is_value_entry (k ∷ ks) ≡ not (any_key is_id (k ∷ ks) || any_key is_property (k ∷ ks)))
    refl rest rest rest rest rest (λ name. ap not (sym (or_right (any_key is_id ks) true refl))) k p.0

pub value-form : (es : Entries) (ks : List Key) → KeepsMarks es ks → AreEntries ks → closing.is_value_form es ≡ is_value_form ks
value-form es ks m p = cc (m.id, m.property, m.kind, m.language, m.direction, value-entries ks p)

-- an entry other than that of `@language`
abbrev others : List Key → Bool
others ks = any_key is_id ks || (any_key is_kind ks || (any_key is_value ks || (any_key is_direction ks || (any_key is_index ks || any_key is_property ks))))

has-other : (k : Key) (ks : List Key) → IsPlainEntry k → is_language k ≡ false → others (k ∷ ks) ≡ true
has-other k ks p e =
    let i = any_key is_id ks in
    let c = any_key is_kind ks in
    let v = any_key is_value ks in
    let d = any_key is_direction ks in
    let x = any_key is_index ks in
    let two : (a b : Bool) → (a || (b || true)) ≡ true = λ a b. or_right a (b || true) (or_right b true refl) in
    let four : (a b c d : Bool) → (a || (b || (c || (d || true)))) ≡ true = λ a b c d. or_right a (b || (c || (d || true))) (or_right b (c || (d || true)) (two c d)) in
    plain-by (λ k. is_language k ≡ false → others (k ∷ ks) ≡ true) (λ e. refl) (λ e. or_right i true refl) (λ e. two i c) (λ e. absurd cc)
    (λ e. or_right i (c || (v || true)) (two c v)) (λ e. four i c v d) (λ name e. or_right i (c || (v || (d || (x || true)))) (four c v d x)) k p e

not-alone : (x o : Bool) → o ≡ true → false ≡ (x && not o)
not-alone x o e = sym (and_right x (not o) (ap not e))

alone : (ks : List Key) → AreEntries ks → is_only_language ks ≡ (any_key is_language ks && not (others ks))
alone [] p = refl
alone (language ∷ []) p = refl
alone (language ∷ k ∷ ks) p = not-alone true (others (k ∷ ks)) (has-other k ks p.1.1.0 (or_parts (is_language k) (any_key is_language ks) p.1.0).0)
alone (k ∷ ks) p = not-alone (any_key is_language (k ∷ ks)) (others (k ∷ ks)) (has-other k ks p.0 refl)

pub only-language : (es : Entries) (ks : List Key) → KeepsMarks es ks → AreEntries ks → closing.is_only_language es ≡ is_only_language ks
only-language es ks m p = cc (m.language, m.id, m.kind, m.value, m.direction, m.index, m.property, alone ks p)
