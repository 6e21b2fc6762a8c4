-- Names as they are read.
use Rattle.std.proofs.Common.{◌≡◌, ℕ, ◌+◌, ◌/◌, ◌%◌, ◌<◌, inl, inr, Bool, true, false, not, ◌&&◌, ◌||◌, ◌==◌, nat_lt, List, [], ◌∷◌, ◌++◌, map, flat_map, Some, Err, IsTrue, IsUtf8, codes, refl, sym, ap, ◌∙◌, subst, arith}
use Rattle.std.proofs.lemmas.Bool.{and_parts, and_from, cases_Bool, cases_lt, lt-ltb, le-ltb, ltb-true}
use Rattle.std.proofs.lemmas.List.Folds.{list_all-append}
use Rattle.std.specs.List.{list_all}
use lib.Utf8.{encode, encodes, scalar, scalars, next}
use Rattle.jl_model.specs.Iris.{IsIri}
use Rattle.jl_model.specs.Labels.{is_label_byte, last_byte, is_kept_label}
use Rattle.jl_model.specs.Ren.{ren, begins_jl, hex_byte, hex_digit}
use Rattle.jl_model.specs.LineTokens.{Written, itself, letter, four, eight, spelling, meaning, meant_byte, character, is_label, goes_on_label}
use Rattle.jl_model.specs.LineTokens as tokens
use Rattle.jl_model.specs.declared.terms.Term.TheVariants.{Iri, Blank}
use Rattle.jl_nquads.specs.CharactersRead.{letters_of, close_of, stands_in}
use Rattle.jl_nquads.specs.LinesRead.{IsInLine, ReadsFrom, IsFramed, FramedRead, IsLabelRead, IsName, NameRead}
use Rattle.jl_nquads.specs.Spots.{Spot, leads_to}
use Rattle.jl_nquads.specs.declared.code_points.Class.TheVariants.{LabelLater}
use Rattle.jl_nquads.specs.declared.framed.Frame.{Frame}
use Rattle.jl_nquads.specs.declared.framed.Frame.TheVariants.{Angles, Quotes}
use Rattle.jl_nquads.specs.declared.halts.LineHalt.{LineHalt}
use Rattle.jl_nquads.specs.declared.halts.LineHalt.TheVariants.{Bad, NoMemory}
use Rattle.jl_nquads.proofs.CodeFronts.{has_scalar}
use Rattle.jl_nquads.proofs.NoLineEnds.{label_goes_on}
use Rattle.jl_nquads.proofs.EscapesAt.{uchar_parts}
use Rattle.jl_nquads.proofs.FramedReads.{iri_continues, iri_bad, string_bad}
use Rattle.jl_nquads.proofs.LabelReads.{label_continues}
use Rattle.jl_nquads.proofs.TokenBodies.{at_below, scalar_below}
use Rattle.jl_nquads.proofs.UnframedGoes.{letter_scalar_of}

-- ---- what characters mean is UTF-8

means_scalar : (frame : Frame) (w : Written) → IsTrue (stands_in frame w) → IsTrue (scalar (character w))
means_scalar frame (itself c) h = (and_parts (scalar c) (not (c == close_of frame || c == 92)) h).0
means_scalar frame (letter c) h = letter_scalar_of (letters_of frame) c h
means_scalar frame (four ds) h = (uchar_parts 4 ds h).2
means_scalar frame (eight ds) h = (uchar_parts 8 ds h).2

all_scalar : (frame : Frame) (ws : List Written) → IsTrue (list_all (stands_in frame) ws) → IsTrue (scalars (map character ws))
all_scalar frame [] h = refl
all_scalar frame (w ∷ ws) h = let p = and_parts (stands_in frame w) (list_all (stands_in frame) ws) h in and_from (scalar (character w)) (scalars (map character ws)) (means_scalar frame w p.0) (all_scalar frame ws p.1)

meant : (ws : List Written) → encodes (map character ws) ≡ meaning ws
meant [] = refl
meant (w ∷ ws) = ap (λ z. encode (character w) ++ z) (meant ws)

pub meaning_utf8 : (frame : Frame) (text m : List ℕ) (len : ℕ) → IsFramed frame text m len → IsUtf8 m
meaning_utf8 frame text m len k = (map character k.written, (all_scalar frame k.written k.each, meant k.written ∙ sym k.meaning_is))

pub is_iri : (text m : List ℕ) (len : ℕ) → IsFramed Angles text m len → IsIri m
is_iri text m len k = record { utf8 = meaning_utf8 Angles text m len k; form = k.good }

-- ---- renamed labels have the kept form

ren_kept : (label : List ℕ) → (is_kept_label label && not (begins_jl label)) ≡ true → ren label ≡ label
unfolding ren
ren_kept label e = ap (λ b. elim b [ true ↦ label | false ↦ codes "jlx" ++ flat_map hex_byte label ]) e

ren_renamed : (label : List ℕ) → (is_kept_label label && not (begins_jl label)) ≡ false → ren label ≡ codes "jlx" ++ flat_map hex_byte label
unfolding ren
ren_renamed label e = ap (λ b. elim b [ true ↦ label | false ↦ codes "jlx" ++ flat_map hex_byte label ]) e

-- a byte that may stand in labels and is no dot
abbrev plain : ℕ → Bool
plain c = is_label_byte c && not (c == 46)

hex_plain : (n : ℕ) → n < 16 → IsTrue (plain (hex_digit n))
hex_plain n l = at_below 16 (λ k. plain (hex_digit k)) n refl l

hex_plains : (label : List ℕ) → ((n : ℕ) → IsTrue (plain (hex_digit (n % 16)))) → IsTrue (list_all (λ c. nat_lt c 256) label) → IsTrue (list_all plain (flat_map hex_byte label))
hex_plains [] k h = refl
hex_plains (c ∷ label) k h =
    let p = and_parts (nat_lt c 256) (list_all (λ c. nat_lt c 256) label) h in
    and_from (plain (hex_digit (c / 16))) (plain (hex_digit (c % 16)) && list_all plain (flat_map hex_byte label)) (hex_plain (c / 16) (let z = ltb-true c 256 p.0 in omega (arith, z)))
    (and_from (plain (hex_digit (c % 16))) (list_all plain (flat_map hex_byte label)) (k c) (hex_plains label k p.1))

plain_labels : (cs : List ℕ) → IsTrue (list_all plain cs) → IsTrue (list_all is_label_byte cs)
plain_labels [] h = refl
plain_labels (c ∷ cs) h = let p = and_parts (plain c) (list_all plain cs) h in and_from (is_label_byte c) (list_all is_label_byte cs) (and_parts (is_label_byte c) (not (c == 46)) p.0).0 (plain_labels cs p.1)

plain_last : (c : ℕ) (cs : List ℕ) → IsTrue (plain c) → IsTrue (list_all plain cs) → IsTrue (not (last_byte c cs == 46))
plain_last c [] h k = (and_parts (is_label_byte c) (not (c == 46)) h).1
plain_last c (d ∷ cs) h k = let p = and_parts (plain d) (list_all plain cs) k in plain_last d cs p.0 p.1

pub ren_is_kept : (label : List ℕ) → IsTrue (list_all (λ c. nat_lt c 256) label) → IsTrue (is_kept_label (ren label))
ren_is_kept label bytes = elim (cases_Bool (is_kept_label label && not (begins_jl label))) [
  | inl e ↦ subst (λ z. IsTrue (is_kept_label z)) (sym (ren_kept label e)) (and_parts (is_kept_label label) (not (begins_jl label)) e).0
  | inr e ↦
      let all = hex_plains label (λ n. hex_plain (n % 16) (let z : n % 16 < 16 = omega arith in z)) bytes in
      subst (λ z. IsTrue (is_kept_label z)) (sym (ren_renamed label e))
      (and_from true (list_all is_label_byte (108 ∷ 120 ∷ flat_map hex_byte label) && not (last_byte 106 (108 ∷ 120 ∷ flat_map hex_byte label) == 46)) refl
      (and_from (list_all is_label_byte (flat_map hex_byte label)) (not (last_byte 120 (flat_map hex_byte label) == 46)) (plain_labels (flat_map hex_byte label) all) (plain_last 120 (flat_map hex_byte label) refl all)))
]

-- ---- the bytes of characters are bytes

is_byte : ℕ → Bool
is_byte b = nat_lt b 256

byte_true : (b : ℕ) → b < 256 → IsTrue (is_byte b)
unfolding is_byte
byte_true b l = lt-ltb b 256 l

encode_bytes : (c : ℕ) → c < 1114112 → IsTrue (list_all is_byte (encode c))
unfolding encode
encode_bytes c k = elim (cases_lt c 128) [
  | inl l ↦ rw (lt-ltb c 128 l) (and_from (is_byte c) true (byte_true c (omega (arith, l))) refl)
  | inr l ↦ elim (cases_lt c 2048) [
    | inl m ↦ rw (le-ltb c 128 l, lt-ltb c 2048 m) (two (192 + c / 64) (next c) (omega (arith, m)) (omega arith))
    | inr m ↦ elim (cases_lt c 65536) [
      | inl n ↦ rw (le-ltb c 128 l, le-ltb c 2048 m, lt-ltb c 65536 n) (and_from (is_byte (224 + c / 4096)) _ (byte_true (224 + c / 4096) (omega (arith, n))) (two (next (c / 64)) (next c) (omega arith) (omega arith)))
      | inr n ↦
          rw (le-ltb c 128 l, le-ltb c 2048 m, le-ltb c 65536 n)
          (and_from (is_byte (240 + c / 262144)) _ (byte_true (240 + c / 262144) (omega (arith, k))) (and_from (is_byte (next (c / 4096))) _ (byte_true (next (c / 4096)) (omega arith)) (two (next (c / 64)) (next c) (omega arith) (omega arith))))
    ]
  ]
]
  where
    two : (a b : ℕ) → a < 256 → b < 256 → IsTrue (is_byte a && (is_byte b && true))
    two a b h k = and_from (is_byte a) (is_byte b && true) (byte_true a h) (and_from (is_byte b) true (byte_true b k) refl)

label_bytes : (cs : List ℕ) → IsTrue (list_all goes_on_label cs) → IsTrue (list_all is_byte (encodes cs))
label_bytes [] h = refl
label_bytes (c ∷ cs) h =
    let p = and_parts (goes_on_label c) (list_all goes_on_label cs) h in
    list_all-append is_byte (encode c) (encodes cs) ∙ and_from (list_all is_byte (encode c)) (list_all is_byte (encodes cs)) (encode_bytes c (scalar_below c (has_scalar LabelLater c p.0))) (label_bytes cs p.1)

pub label_kept : (cs : List ℕ) → IsTrue (is_label cs) → IsTrue (is_kept_label (ren (encodes cs)))
unfolding is_byte
label_kept cs h = ren_is_kept (encodes cs) (label_bytes cs (label_goes_on cs h))

-- ---- names

pub iri_is_name : (text m : List ℕ) (len : ℕ) → IsFramed Angles text m len → (dotted : Bool) → IsName dotted text (Iri m) len
iri_is_name text m len k dotted = record {
  within = k.within;
  node = is_iri text m len k;
  continues = λ s to lead answer h. iri_continues s (λ z. to (Iri z)) text m len lead.iri k answer h;
}

pub label_is_name : (dotted : Bool) (text renamed : List ℕ) (len : ℕ) → IsLabelRead dotted text renamed len → IsName dotted text (Blank renamed) len
label_is_name dotted text renamed len k = record {
  within = k.within;
  node = subst (λ z. IsTrue (is_kept_label z)) (sym k.renamed_is) (label_kept k.characters k.label);
  continues = λ s to lead answer h. label_continues dotted text renamed len k s to lead answer h;
}

-- the reading of an IRI halts where one may stand
pub iri_halts : (text : List ℕ) (halt : LineHalt) → FramedRead Angles text (Err halt) → (s : Spot) → ((ws : List Written) → (r : Spot) × (leads_to s (tokens.iri ws) ≡ Some r)) → ReadsFrom s text (Err halt)
iri_halts text NoMemory k s lead = tt
iri_halts text (Bad place) k s lead = iri_bad s lead text place k.0 k.1

pub string_halts : (text : List ℕ) (halt : LineHalt) → IsInLine text → FramedRead Quotes text (Err halt) → (s : Spot) → ((ws : List Written) → (r : Spot) × (leads_to s (tokens.string ws) ≡ Some r)) → ReadsFrom s text (Err halt)
string_halts text NoMemory h k s lead = tt
string_halts text (Bad place) h k s lead = string_bad s lead text place h k.0 k.1

pub name_halts : (text : List ℕ) (halt : LineHalt) → FramedRead Angles text (Err halt) → (dotted : Bool) → NameRead dotted text (Err halt)
name_halts text halt k dotted s to lead = iri_halts text halt k s (λ ws. (to (Iri (meaning ws)), lead.iri ws))
