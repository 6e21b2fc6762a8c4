-- Texts of usual bytes, block by block, and as IRIs.
use Rattle.std.proofs.Common.{◌≡◌, ℕ, inl, inr, nat_lt, Some, None, true≢false, ◌+◌, ◌-◌, ◌≤◌, Bool, true, false, ◌&&◌, List, [], ◌∷◌, ◌++◌, length, take, drop, refl, sym, ap, subst, ◌∙◌, arith}
use Rattle.std.proofs.lemmas.List.{take-append-drop, take_all, length-drop}
use Rattle.std.proofs.lemmas.List.Folds.{list_all-append}
use Rattle.std.proofs.Math.Seq.{take-add}
use Rattle.std.specs.List.{list_all}
use Rattle.std.specs.Prelude.{codes}
use Rattle.std.specs.Str.{IsAscii}
use Rattle.std.proofs.lemmas.Bool.{cond-true, lt-ltb, ltb-true}
use Rattle.std.proofs.lemmas.Str.{IsUtf8-from_ascii}
use Rattle.std.proofs.lemmas.Str.Ascii.{IsAscii-nil, IsAscii-cons}
use lib.Lanes.{chunk}
use Rattle.jl_model.specs.Iris.{is_iri_byte, has_form_at, has_iri_form, IsIri}
use Rattle.jl_model.specs.UsualIris.{is_usual_byte, HasUsualScheme}

-- two tests that both pass
parts : (a b : Bool) → (a && b) ≡ true → (a ≡ true) × (b ≡ true)
parts true b e = (refl, e)
parts false b e = (e, absurd (true≢false (sym e)))

module _ (p : ℕ → Bool) (text : List ℕ) where
  -- a front that passes, and the block behind it
  pub longer_front : (i n : ℕ) → list_all p (take i text) ≡ true → list_all p (chunk i n text) ≡ true → list_all p (take (i + n) text) ≡ true
  longer_front i n front block = ap (list_all p) (take-add i n text) ∙ list_all-append p (take i text) (chunk i n text) ∙ (λ k. front k && block k)

  -- behind a front that passes, the rest decides
  rest_decides : (i : ℕ) → list_all p (take i text) ≡ true → list_all p (drop i text) ≡ list_all p text
  rest_decides i front = sym (ap (list_all p) (sym (take-append-drop i text)) ∙ list_all-append p (take i text) (drop i text) ∙ ap (λ b. b && list_all p (drop i text)) front)

  -- a block that fails decides
  pub block_fails : (i n : ℕ) → list_all p (take i text) ≡ true → list_all p (chunk i n text) ≡ false → list_all p text ≡ false
  block_fails i n front block =
      sym (rest_decides i front) ∙ ap (list_all p) (sym (take-append-drop n (drop i text))) ∙ list_all-append p (chunk i n text) (drop n (drop i text))
      ∙ ap (λ b. b && list_all p (drop n (drop i text))) block

  -- the last block decides, where all bytes before it have passed
  pub last_block : (i n : ℕ) → list_all p (take i text) ≡ true → i ≤ length text → length text - i ≤ n → n ≤ length text → list_all p (chunk (length text - n) n text) ≡ list_all p text
  last_block i n front within short room =
      let from = length text - n in
      let whole : chunk from n text ≡ drop from text = take_all n (drop from text) (omega (arith, length-drop from text)) in
      let cut : take i text ≡ take from text ++ take (i - from) (drop from text) = ap (λ k. take k text) (omega arith) ∙ take-add from (i - from) text in
      let shorter = sym (ap (list_all p) cut ∙ list_all-append p (take from text) (take (i - from) (drop from text))) ∙ front in
      ap (list_all p) whole ∙ rest_decides from (parts (list_all p (take from text)) _ shorter).0

-- usual bytes are ASCII
ascii : (text : List ℕ) → list_all is_usual_byte text ≡ true → IsAscii text
ascii [] e = IsAscii-nil
ascii (c ∷ cs) e = let both = parts (is_usual_byte c) (list_all is_usual_byte cs) e in IsAscii-cons c cs (ltb-true c 128 (parts (nat_lt c 128) (is_iri_byte c) both.0).0) (ascii cs both.1)

-- IRIs may have usual bytes
iri_bytes : (text : List ℕ) → list_all is_usual_byte text ≡ true → list_all is_iri_byte text ≡ true
iri_bytes [] e = refl
iri_bytes (c ∷ cs) e = let both = parts (is_usual_byte c) (list_all is_usual_byte cs) e in λ i. (parts (nat_lt c 128) (is_iri_byte c) both.0).1 i && iri_bytes cs both.1 i

-- behind `http`, the first colon comes at once
http_form : (rest : List ℕ) → list_all is_iri_byte rest ≡ true → has_iri_form (codes "http:" ++ rest) ≡ true
http_form rest e = ap (has_form_at (codes "http:" ++ rest)) (cond-true (nat_lt 4 (length (codes "http:" ++ rest))) (Some 4) None (lt-ltb 4 (length (codes "http:" ++ rest)) (omega arith))) ∙ e

-- so it does behind `https`
https_form : (rest : List ℕ) → list_all is_iri_byte rest ≡ true → has_iri_form (codes "https:" ++ rest) ≡ true
https_form rest e = ap (has_form_at (codes "https:" ++ rest)) (cond-true (nat_lt 5 (length (codes "https:" ++ rest))) (Some 5) None (lt-ltb 5 (length (codes "https:" ++ rest)) (omega arith))) ∙ e

-- usual bytes behind a usual scheme are an IRI
pub usual_iri : (text : List ℕ) → HasUsualScheme text → list_all is_usual_byte text ≡ true → IsIri text
usual_iri text scheme e = record {
  utf8 = IsUtf8-from_ascii text (ascii text e);
  form = elim scheme [
    | inl h ↦ subst (λ t. has_iri_form t ≡ true) (sym h) (http_form (drop 5 text) (rest 5))
    | inr h ↦ subst (λ t. has_iri_form t ≡ true) (sym h) (https_form (drop 6 text) (rest 6))
  ];
} where
  rest : (n : ℕ) → list_all is_iri_byte (drop n text) ≡ true
  rest n = (parts (list_all is_iri_byte (take n text)) _ (sym (ap (list_all is_iri_byte) (sym (take-append-drop n text)) ∙ list_all-append is_iri_byte (take n text) (drop n text)) ∙ iri_bytes text e)).1
