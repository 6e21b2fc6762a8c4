-- Rows of the law of bytes: a fault that each readable text has which begins with some bytes; and the law is false where a
-- fault is reported that only some text has.
use Rattle.std.proofs.Common.{lit≤, lit<, ℕ, ◌+◌, inl, inr, true, List, [], ◌∷◌, ◌++◌, length, None, codes, refl, arith}
use Rattle.jl_model.specs.JsonTree.{Tree, scalar, object, no_item, no_member, member}
use Rattle.jl_model.specs.JsonNumbers.{IsNumber}
use Rattle.jl_model.specs.JsonStrings.{IsString}
use Rattle.jl_model.specs.JsonStrings.Char.{plain}
use Rattle.jl_model.specs.JsonStrings.Chars.{none, more}
use Rattle.jl_model.specs.JsonText.{Then, Sign, Blanks, Colon, BeginArray, BeginObject, EndObject, KeyText, ScalarText, Inside, ValueText, MembersText}
use Rattle.jl_model.specs.declared.codes.Code.TheVariants.{InvalidIdValue}
use Rattle.jl_model.specs.declared.faults.Fault.{Fault}
use Rattle.jl_model.specs.declared.orders.Order.TheVariants.{Streaming}
use Rattle.jl_model.specs.declared.scalars.Scalar.TheVariants.{Null, Number}
use Rattle.jl_model.specs.declared.tokens.Token.{Token}
use Rattle.jl_model.specs.declared.tokens.Token.TheVariants.{OpenArray, OpenObject, CloseObject, Key, Value}
use Rattle.jl_defs.specs.Settings.{Settings}
use Rattle.jl_defs.specs.ObjectContexts.{fault}
use Rattle.jl_defs.specs.Sets.{Has}
use Rattle.jl_defs.specs.Faults.{faults}
use Rattle.jl_defs.specs.OpenTree.{Open, unread, in_array, in_member}
use Rattle.jl_defs.specs.OpenText.{Language, Either, Where, OpenText, Opens, ReadsAs}
use Rattle.jl_defs.specs.Reported.{reported}
use Rattle.jl_defs.specs.Documents.{HasFault}
use Rattle.jl_defs.proofs.RowWords.{settings, reports, says as defined}
use Rattle.jl_laws.specs.Laws.{FaultsStayInBytesBy}
use Rattle.jl_laws.proofs.FaultsStayInBytes.{faults-stay-in-bytes}

join : (P Q : Language) (at : ℕ) (us vs : List Token) (t u : List ℕ) → P at us t → Q (at + length t) vs u → Then P Q at (us ++ vs) (t ++ u)
join P Q at us vs t u p q = record { front_tokens = us; back_tokens = vs; front = t; back = u; tokens_are = refl; text_is = refl; in_first = p; in_second = q }

no_blanks : (at : ℕ) → Blanks at [] []
no_blanks at = record { tokens_are = refl; blank = tt }

a_sign : (byte : ℕ) (made : ℕ → List Token) (at : ℕ) → Sign byte made at (made at) (byte ∷ [])
a_sign byte made at = record { tokens_are = refl; text_is = refl }

-- {"@id":0}
numbered : Tree
numbered = object 0 (member 1 (codes "@id") (scalar 7 (Number (codes "0"))) no_member)

zero_number : IsNumber (codes "0")
zero_number = record {
  front = [];
  back = codes "0";
  text_is = refl;
  in_one = tt;
  in_other = record { front = codes "0"; back = []; text_is = refl; in_one = inl (refl, refl); in_other = record { front = []; back = []; text_is = refl; in_one = tt; in_other = tt } };
}

id_string : IsString (codes "@id") (codes "\"@id\"")
id_string = (
  codes "@id\"",
  refl,
  (
    codes "@id",
    refl,
    more (plain {c = 64} (lit≤ tt) (lit< tt) (λ e. omega (arith, e)) (λ e. omega (arith, e)))
        (more (plain {c = 105} (lit≤ tt) (lit< tt) (λ e. omega (arith, e)) (λ e. omega (arith, e)))
        (more (plain {c = 100} (lit≤ tt) (lit< tt) (λ e. omega (arith, e)) (λ e. omega (arith, e))) none refl refl) refl refl) refl refl,
  ),
)

the_value : Then (ScalarText 7 (Number (codes "0"))) (Then Blanks EndObject) 7 (Value 7 (Number (codes "0")) ∷ CloseObject 8 ∷ []) (codes "0}")
the_value =
    join (ScalarText 7 (Number (codes "0"))) (Then Blanks EndObject) 7 (Value 7 (Number (codes "0")) ∷ []) (CloseObject 8 ∷ []) (codes "0") (codes "}")
    (record { place_is = refl; tokens_are = refl; spelled = (refl, zero_number) })
    (join Blanks EndObject 8 [] (CloseObject 8 ∷ []) [] (codes "}") (no_blanks 8) (a_sign 125 (λ at. CloseObject at ∷ []) 8))

the_member : MembersText true 255 [] (member 1 (codes "@id") (scalar 7 (Number (codes "0"))) no_member) 1 (Key 1 (codes "@id") ∷ Value 7 (Number (codes "0")) ∷ CloseObject 8 ∷ []) (codes "\"@id\":0}")
the_member =
    let V = Then (ScalarText 7 (Number (codes "0"))) (Then Blanks EndObject) in
    let us : List Token = Value 7 (Number (codes "0")) ∷ CloseObject 8 ∷ [] in
    join Blanks (Then (KeyText true [] 1 (codes "@id")) (Then Blanks (Then Colon (Then Blanks V)))) 1 [] (Key 1 (codes "@id") ∷ us) [] (codes "\"@id\":0}") (no_blanks 1)
    (join (KeyText true [] 1 (codes "@id")) (Then Blanks (Then Colon (Then Blanks V))) 1 (Key 1 (codes "@id") ∷ []) us (codes "\"@id\"") (codes ":0}")
    (record { place_is = refl; tokens_are = refl; spelled = id_string; is_new = tt })
    (join Blanks (Then Colon (Then Blanks V)) 6 [] us [] (codes ":0}") (no_blanks 6)
    (join Colon (Then Blanks V) 6 [] us (codes ":") (codes "0}") (a_sign 58 (λ _. []) 6)
    (join Blanks V 7 [] us [] (codes "0}") (no_blanks 7) the_value))))

reads_numbered : ReadsAs (codes "{\"@id\":0}") numbered
unfolding numbered
reads_numbered =
    let us : List Token = Key 1 (codes "@id") ∷ Value 7 (Number (codes "0")) ∷ CloseObject 8 ∷ [] in
    let O = ValueText true 256 (object 0 (member 1 (codes "@id") (scalar 7 (Number (codes "0"))) no_member)) in
    let M = MembersText true 255 [] (member 1 (codes "@id") (scalar 7 (Number (codes "0"))) no_member) in (
      OpenObject 0 ∷ us,
      join Blanks (Then O Blanks) 0 [] (OpenObject 0 ∷ us) [] (codes "{\"@id\":0}") (no_blanks 0)
          (join O Blanks 0 (OpenObject 0 ∷ us) [] (codes "{\"@id\":0}") []
          (record { place_is = refl; left = 255; room_is = refl; spelled = join BeginObject M 0 (OpenObject 0 ∷ []) us (codes "{") (codes "\"@id\":0}") (a_sign 123 (λ at. OpenObject at ∷ []) 0) the_member })
          (no_blanks 9)),
    )

reads_null : ReadsAs (codes "null") (scalar 0 Null)
reads_null =
    let V = ValueText true 256 (scalar 0 Null) in (
      Value 0 Null ∷ [],
      join Blanks (Then V Blanks) 0 [] (Value 0 Null ∷ []) [] (codes "null") (no_blanks 0)
          (join V Blanks 0 (Value 0 Null ∷ []) [] (codes "null") [] (record { place_is = refl; tokens_are = refl; spelled = refl }) (no_blanks 4)),
    )

streaming_order : Settings
streaming_order = settings Streaming None []

-- ---- a fault that is reported

-- {"@id":[
begun : Open
begun = in_member 0 no_member [] 1 (codes "@id") (in_array 7 no_item unread)

opens_begun : Opens (codes "{\"@id\":[") begun
unfolding OpenText begun
opens_begun =
    let next : Open = in_array 7 no_item unread in
    let L = OpenText true 255 next in
    let Q = KeyText true [] 1 (codes "@id") in
    let E = Either (Where ⊥ Blanks) (Then Blanks (Then Colon L)) in
    let us : List Token = Key 1 (codes "@id") ∷ OpenArray 7 ∷ [] in
    let array_begun : L 7 (OpenArray 7 ∷ []) (codes "[") =
    join Blanks (Inside 255 7 (λ left. Then BeginArray Blanks)) 7 [] (OpenArray 7 ∷ []) [] (codes "[") (no_blanks 7)
    (record { place_is = refl; left = 254; room_is = refl; spelled = join BeginArray Blanks 7 (OpenArray 7 ∷ []) [] (codes "[") [] (a_sign 91 (λ at. OpenArray at ∷ []) 7) (no_blanks 8) }) in
    let behind_key : Then Blanks (Then Colon L) 6 (OpenArray 7 ∷ []) (codes ":[") =
    join Blanks (Then Colon L) 6 [] (OpenArray 7 ∷ []) [] (codes ":[") (no_blanks 6) (join Colon L 6 [] (OpenArray 7 ∷ []) (codes ":") (codes "[") (a_sign 58 (λ _. []) 6) array_begun) in
    let pair : Then Blanks (Then Q E) 1 us (codes "\"@id\":[") =
    join Blanks (Then Q E) 1 [] us [] (codes "\"@id\":[") (no_blanks 1)
    (join Q E 1 (Key 1 (codes "@id") ∷ []) (OpenArray 7 ∷ []) (codes "\"@id\"") (codes ":[") (record { place_is = refl; tokens_are = refl; spelled = id_string; is_new = tt }) (inr behind_key)) in (
      OpenObject 0 ∷ us,
      join Blanks (Inside 256 0 (λ left. Then BeginObject (Then Blanks (Then (KeyText true [] 1 (codes "@id")) (Either (Where ⊥ Blanks) (Then Blanks (Then Colon (OpenText true left next)))))))) 0 [] (OpenObject 0 ∷ us) [] (codes "{\"@id\":[") (no_blanks 0)
          (record { place_is = refl; left = 255; room_is = refl; spelled = join BeginObject (Then Blanks (Then Q E)) 0 (OpenObject 0 ∷ []) us (codes "{") (codes "\"@id\":[") (a_sign 123 (λ at. OpenObject at ∷ []) 0) pair }),
    )

begun_reports : Has (reported streaming_order begun) (fault InvalidIdValue 1)
unfolding reports begun streaming_order
begun_reports = inl refl

-- no identifier is an array: each readable text that begins so has the fault
row_1 : (rest : List ℕ) (t : Tree) → ReadsAs (codes "{\"@id\":[" ++ rest) t → Has (faults streaming_order t) (fault InvalidIdValue 1)
unfolding streaming_order
row_1 rest t reads = faults-stay-in-bytes streaming_order (codes "{\"@id\":[") rest (fault InvalidIdValue 1) t refl (begun, opens_begun, begun_reports) reads

-- ---- a guess

-- a fault of some text that begins with the bytes
guessed : Settings → List ℕ → Fault → Type 0
guessed s bytes f = (rest : List ℕ) × HasFault s (bytes ++ rest) f

its_fault : Has (faults streaming_order numbered) (fault InvalidIdValue 1)
unfolding defined numbered streaming_order
its_fault = inl refl

null_has_none : Has (faults streaming_order (scalar 0 Null)) (fault InvalidIdValue 1) → ⊥
unfolding defined streaming_order
null_has_none h = absurd h

guessed_is_wrong : FaultsStayInBytesBy guessed → ⊥
unfolding guessed streaming_order
guessed_is_wrong h = null_has_none (h streaming_order [] (codes "null") (fault InvalidIdValue 1) (scalar 0 Null) refl (codes "{\"@id\":0}", (numbered, reads_numbered, its_fault)) reads_null)
