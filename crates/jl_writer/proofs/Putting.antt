-- Texts that are put in parts.
use Rattle.std.proofs.Common.{◌≡◌, ℕ, List, [], ◌++◌, Option, Result, Ok, Err, OnOk, OnErr, Some, bytes_eq, IsTrue, true, false, sym, ap, ◌∙◌, subst, append_assoc, append-nil, codes}
use Rattle.jl_io.specs.Outside.{appended}
use Rattle.jl_io.specs.Puts.{PutsFront}
use Rattle.jl_io.proofs.Fronts.{put_then, cut_first, cut_then}
use Rattle.jl_defs.specs.Canon.{string_text}
use Rattle.jl_model.specs.Parts.{xsd_string}
use Rattle.jl_model.specs.Tags.{is_language_tag}
use Rattle.jl_model.specs.declared.terms.Lit.{Lit}
use Rattle.jl_defs.specs.WriterText.{literal_value}
use Rattle.jl_writer.specs.Steps.{tagged_value, untagged_value, typed_unless}
use Rattle.jl_writer.specs.Escapes.{IsPlain}
use Rattle.jl_writer.proofs.PlainTexts.{plain_string, plain_tag}

-- the text, put in its parts
pub put_as : {E : Type 0} (r : Result (Unit {0}) E) (w0 w1 : Option (List ℕ)) (t u : List ℕ) → t ≡ u → OnOk r (w1 ≡ appended w0 t) → OnOk r (w1 ≡ appended w0 u)
put_as (Ok x) w0 w1 t u e h = h ∙ ap (λ text. appended w0 text) e
put_as (Err x) w0 w1 t u e h = h

-- the text, cut in its parts
pub cut_as : {E : Type 0} (r : Result (Unit {0}) E) (w0 w1 : Option (List ℕ)) (t u : List ℕ) → t ≡ u → OnErr r (PutsFront w0 t w1) → OnErr r (PutsFront w0 u w1)
cut_as (Ok x) w0 w1 t u e h = h
cut_as (Err x) w0 w1 t u e h = subst (λ text. PutsFront w0 text w1) e h

-- the front of the text was cut
pub cut_in_front : {E : Type 0} (r : Result (Unit {0}) E) (w0 w1 : Option (List ℕ)) (front rest text : List ℕ) → front ++ rest ≡ text → PutsFront w0 front w1 → OnErr r (PutsFront w0 text w1)
cut_in_front (Ok x) w0 w1 front rest text e h = tt
cut_in_front (Err x) w0 w1 front rest text e h = subst (λ t. PutsFront w0 t w1) e (cut_first w0 w1 front rest h)

-- the front was put, and then the rest
pub put_behind : {E : Type 0} (r : Result (Unit {0}) E) (w0 w1 w2 : Option (List ℕ)) (front rest text : List ℕ) → front ++ rest ≡ text → w1 ≡ appended w0 front → OnOk r (w2 ≡ appended w1 rest) → OnOk r (w2 ≡ appended w0 text)
put_behind (Ok x) w0 w1 w2 front rest text e h k = put_then w0 w1 w2 front rest h k ∙ ap (λ t. appended w0 t) e
put_behind (Err x) w0 w1 w2 front rest text e h k = tt

-- the front was put, and the rest was cut
pub cut_behind : {E : Type 0} (r : Result (Unit {0}) E) (w0 w1 w2 : Option (List ℕ)) (front rest text : List ℕ) → front ++ rest ≡ text → w1 ≡ appended w0 front → OnErr r (PutsFront w1 rest w2) → OnErr r (PutsFront w0 text w2)
cut_behind (Ok x) w0 w1 w2 front rest text e h k = tt
cut_behind (Err x) w0 w1 w2 front rest text e h k = subst (λ t. PutsFront w0 t w2) e (cut_then w0 w1 w2 front rest h k)

-- an object of one plain string and of a string that was made
pub object_joined : (front plain middle quote text : List ℕ) → IsPlain plain
    → (front ++ codes "\"") ++ (plain ++ ((codes "\"" ++ middle) ++ (quote ++ (text ++ (quote ++ (codes "}" ++ [])))))) ≡ front ++ string_text plain ++ middle ++ (quote ++ text ++ quote) ++ codes "}"
object_joined front plain middle quote text h = rw (← plain_string plain h) (simp append_assoc)

pub string_joined : (quote text : List ℕ) → quote ++ (text ++ (quote ++ [])) ≡ quote ++ text ++ quote
string_joined quote text = simp (append_assoc, append-nil)

-- a literal without a language is its string where it is plain, and else an object
pub untagged_string : (datatype quote text : List ℕ) → bytes_eq datatype xsd_string ≡ true → quote ++ (text ++ (quote ++ [])) ≡ untagged_value datatype (quote ++ text ++ quote)
untagged_string datatype quote text h = string_joined quote text ∙ sym (ap (λ b. typed_unless b datatype (quote ++ text ++ quote)) h)

pub untagged_object : (datatype quote text : List ℕ) → bytes_eq datatype xsd_string ≡ false → IsPlain datatype
    → codes "{\"@type\":\"" ++ (datatype ++ (codes "\",\"@value\":" ++ (quote ++ (text ++ (quote ++ (codes "}" ++ [])))))) ≡ untagged_value datatype (quote ++ text ++ quote)
untagged_object datatype quote text h plain =
    object_joined (codes "{\"@type\":") datatype (codes ",\"@value\":") quote text plain ∙ sym (ap (λ b. typed_unless b datatype (quote ++ text ++ quote)) h)

-- a literal with a language
pub tagged_object : (tag quote text : List ℕ) → IsTrue (is_language_tag tag)
    → codes "{\"@language\":\"" ++ (tag ++ (codes "\",\"@value\":" ++ (quote ++ (text ++ (quote ++ (codes "}" ++ [])))))) ≡ tagged_value tag (quote ++ text ++ quote)
tagged_object tag quote text formed = object_joined (codes "{\"@language\":") tag (codes ",\"@value\":") quote text (plain_tag tag formed)

-- a predicate and what stands behind it
pub member_joined : (predicate value : List ℕ) → IsPlain predicate → (codes "\"" ++ (predicate ++ (codes "\":[" ++ []))) ++ value ≡ string_text predicate ++ codes ":[" ++ value
member_joined predicate value h = rw (← plain_string predicate h) (simp append_assoc)

-- a name and what stands behind it
pub named_joined : (front sign name string middle rest : List ℕ) → sign ++ name ++ codes "\"" ≡ string → (front ++ (sign ++ (name ++ ((codes "\"" ++ middle) ++ [])))) ++ rest ≡ front ++ string ++ middle ++ rest
named_joined front sign name string middle rest h = rw (← h) (simp (append_assoc, append-nil))

-- the value of a literal with a language
pub literal_tagged : (lit : Lit) (tag string : List ℕ) → lit.language ≡ Some tag → string ≡ string_text lit.text → tagged_value tag string ≡ literal_value lit
literal_tagged lit tag string h e = ap (tagged_value tag) e ∙ sym (ap (λ language. literal_value (record lit { language = language })) h)
