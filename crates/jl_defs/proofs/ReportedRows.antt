-- Faults that are reported where a document has been read up to the mark `|`.
use Rattle.std.specs.Prelude.{◌≡◌, true, [], ◌∷◌, codes, refl}
use Rattle.jl_model.specs.JsonTree.{scalar, array, object, no_item, item, no_member, member}
use Rattle.jl_model.specs.declared.scalars.Scalar.TheVariants.{Null, Number, Str}
use Rattle.jl_model.specs.declared.orders.Order.TheVariants.{Any, Streaming}
use Rattle.jl_model.specs.declared.codes.Code.TheVariants as code
use Rattle.jl_defs.specs.ObjectContexts.{fault}
use Rattle.jl_defs.specs.OpenTree.{sign, unread, in_scalar, in_array, in_object, in_member}
use Rattle.jl_defs.proofs.RowWords.{reports}

-- streaming: {"@id":5|,"http://a/p":1}
row_1 : reports Streaming (in_member 0 no_member [] 1 (codes "@id") (in_scalar 7 sign)) [] ≡ true
unfolding reports
row_1 = refl

-- streaming: {"http://a/q":1,"@id":[|]}
row_2 : reports Streaming (in_member 0 (member 1 (codes "http://a/q") (scalar 14 (Number (codes "1"))) no_member) (15 ∷ []) 16 (codes "@id") (in_array 22 no_item unread)) (fault code.LateIdentifier 16 ∷ fault code.InvalidIdValue 16 ∷ []) ≡ true
unfolding reports
row_2 = refl

-- any: {"http://a/q":1,"@id":[|]}
row_3 : reports Any (in_member 0 (member 1 (codes "http://a/q") (scalar 14 (Number (codes "1"))) no_member) (15 ∷ []) 16 (codes "@id") (in_array 22 no_item unread)) [] ≡ true
unfolding reports
row_3 = refl

-- any: {"@context":{"i":"@id"},"@type":[],"@id":"http://a/s","i"|:"http://a/t"}
row_4 : reports Any (in_member 0 (member 1 (codes "@context") (object 12 (member 13 (codes "i") (scalar 17 (Str (codes "@id"))) no_member)) (member 24 (codes "@type") (array 32 no_item) (member 35 (codes "@id") (scalar 41 (Str (codes "http://a/s"))) no_member))) (23 ∷ 34 ∷ 53 ∷ []) 54 (codes "i") unread) (fault code.CollidingKeywords 54 ∷ []) ≡ true
unfolding reports
row_4 = refl

-- streaming: {"http://a/p":[{"http://a/q":1.5}|,2]}
row_5 : reports Streaming (in_member 0 no_member [] 1 (codes "http://a/p") (in_array 14 (item (object 15 (member 16 (codes "http://a/q") (scalar 29 (Number (codes "1.5"))) no_member)) no_item) unread)) (fault code.NumberNotWhole 29 ∷ []) ≡ true
unfolding reports
row_5 = refl

-- any: {"http://a/p":[{"http://a/q":1.5}|,2]}
row_6 : reports Any (in_member 0 no_member [] 1 (codes "http://a/p") (in_array 14 (item (object 15 (member 16 (codes "http://a/q") (scalar 29 (Number (codes "1.5"))) no_member)) no_item) unread)) [] ≡ true
unfolding reports
row_6 = refl

-- any: [{"@id":5}|]
row_7 : reports Any (in_array 0 (item (object 1 (member 2 (codes "@id") (scalar 8 (Number (codes "5"))) no_member)) no_item) unread) (fault code.InvalidIdValue 2 ∷ []) ≡ true
unfolding reports
row_7 = refl

-- streaming: {"http://a/p":1,"@reverse":{"http://a/q":["x"|]}}
row_8 : reports Streaming (in_member 0 (member 1 (codes "http://a/p") (scalar 14 (Number (codes "1"))) no_member) (15 ∷ []) 16 (codes "@reverse") (in_member 27 no_member [] 28 (codes "http://a/q") (in_array 41 (item (scalar 42 (Str (codes "x"))) no_item) unread))) (fault code.InvalidReversePropertyValue 42 ∷ []) ≡ true
unfolding reports
row_8 = refl

-- streaming: {"http://a/p":1,"@included":[null|]}
row_9 : reports Streaming (in_member 0 (member 1 (codes "http://a/p") (scalar 14 (Number (codes "1"))) no_member) (15 ∷ []) 16 (codes "@included") (in_array 28 (item (scalar 29 Null) no_item) unread)) (fault code.InvalidIncludedValue 29 ∷ []) ≡ true
unfolding reports
row_9 = refl

-- streaming: {"http://a/p":1,"@nest":{"@id":"x"|}}
row_10 : reports Streaming (in_member 0 (member 1 (codes "http://a/p") (scalar 14 (Number (codes "1"))) no_member) (15 ∷ []) 16 (codes "@nest") (in_object 24 (member 25 (codes "@id") (scalar 31 (Str (codes "x"))) no_member) (34 ∷ []))) (fault code.NestedKeyword 25 ∷ []) ≡ true
unfolding reports
row_10 = refl

-- streaming: {"x":1,"@context"|:{"p":5}}
row_11 : reports Streaming (in_member 0 (member 1 (codes "x") (scalar 5 (Number (codes "1"))) no_member) (6 ∷ []) 7 (codes "@context") unread) (fault code.LateContext 7 ∷ []) ≡ true
unfolding reports
row_11 = refl

-- streaming: {"@context":{"p":5},"http://a/q"|:1}
row_12 : reports Streaming (in_member 0 (member 1 (codes "@context") (object 12 (member 13 (codes "p") (scalar 17 (Number (codes "5"))) no_member)) no_member) (19 ∷ []) 20 (codes "http://a/q") unread) (fault code.InvalidTermDefinition 1 ∷ []) ≡ true
unfolding reports
row_12 = refl

-- streaming: {"@graph":[],"http://a/p":"x"|,"@type":"T"}
row_13 : reports Streaming (in_object 0 (member 1 (codes "@graph") (array 10 no_item) (member 13 (codes "http://a/p") (scalar 26 (Str (codes "x"))) no_member)) (12 ∷ 29 ∷ [])) (fault code.LateGraph 13 ∷ []) ≡ true
unfolding reports
row_13 = refl

-- streaming: {"http://a/p":1,"@language"|:5}
row_14 : reports Streaming (in_member 0 (member 1 (codes "http://a/p") (scalar 14 (Number (codes "1"))) no_member) (15 ∷ []) 16 (codes "@language") unread) [] ≡ true
unfolding reports
row_14 = refl

-- streaming: {"http://a/p":1,"@language":5|}
row_15 : reports Streaming (in_member 0 (member 1 (codes "http://a/p") (scalar 14 (Number (codes "1"))) no_member) (15 ∷ []) 16 (codes "@language") (in_scalar 28 sign)) (fault code.InvalidLanguageTaggedString 16 ∷ []) ≡ true
unfolding reports
row_15 = refl

-- streaming: {"@value":1,"@id":"x","http://a/p"|:1}
row_16 : reports Streaming (in_member 0 (member 1 (codes "@value") (scalar 10 (Number (codes "1"))) (member 12 (codes "@id") (scalar 18 (Str (codes "x"))) no_member)) (11 ∷ 21 ∷ []) 22 (codes "http://a/p") unread) [] ≡ true
unfolding reports
row_16 = refl

-- streaming: {"@context":{"g":{"@id":"http://a/g","@container":"@graph"}},"@id":"http://a/s","@reverse":{"g":["x"|]}}
row_17 : reports Streaming (in_member 0 (member 1 (codes "@context") (object 12 (member 13 (codes "g") (object 17 (member 18 (codes "@id") (scalar 24 (Str (codes "http://a/g"))) (member 37 (codes "@container") (scalar 50 (Str (codes "@graph"))) no_member))) no_member)) (member 61 (codes "@id") (scalar 67 (Str (codes "http://a/s"))) no_member)) (60 ∷ 79 ∷ []) 80 (codes "@reverse") (in_member 91 no_member [] 92 (codes "g") (in_array 96 (item (scalar 97 (Str (codes "x"))) no_item) unread))) [] ≡ true
unfolding reports
row_17 = refl

-- streaming: {"@context":{"i":{"@id":"http://a/i","@container":"@list"},"T":{"@id":"http://a/T","@context":{"i":{"@id":"http://a/i","@container":"@id"}}}},"@id":"http://a/s","@type":"T","i":{"http://a/x":[["y"|]]}}
row_18 : reports Streaming (in_member 0 (member 1 (codes "@context") (object 12 (member 13 (codes "i") (object 17 (member 18 (codes "@id") (scalar 24 (Str (codes "http://a/i"))) (member 37 (codes "@container") (scalar 50 (Str (codes "@list"))) no_member))) (member 59 (codes "T") (object 63 (member 64 (codes "@id") (scalar 70 (Str (codes "http://a/T"))) (member 83 (codes "@context") (object 94 (member 95 (codes "i") (object 99 (member 100 (codes "@id") (scalar 106 (Str (codes "http://a/i"))) (member 119 (codes "@container") (scalar 132 (Str (codes "@id"))) no_member))) no_member)) no_member))) no_member))) (member 142 (codes "@id") (scalar 148 (Str (codes "http://a/s"))) (member 161 (codes "@type") (scalar 169 (Str (codes "T"))) no_member))) (141 ∷ 160 ∷ 172 ∷ []) 173 (codes "i") (in_member 177 no_member [] 178 (codes "http://a/x") (in_array 191 no_item (in_array 192 (item (scalar 193 (Str (codes "y"))) no_item) unread)))) [] ≡ true
unfolding reports
row_18 = refl

-- streaming: {"@context":{"x":"@index","n":{"@id":"@nest","@context":{"x":null}}},"@id":"http://a/s","n":[{"x":"a"},{"@index"|:"b"}]}
row_19 : reports Streaming (in_member 0 (member 1 (codes "@context") (object 12 (member 13 (codes "x") (scalar 17 (Str (codes "@index"))) (member 26 (codes "n") (object 30 (member 31 (codes "@id") (scalar 37 (Str (codes "@nest"))) (member 45 (codes "@context") (object 56 (member 57 (codes "x") (scalar 61 Null) no_member)) no_member))) no_member))) (member 69 (codes "@id") (scalar 75 (Str (codes "http://a/s"))) no_member)) (68 ∷ 87 ∷ []) 88 (codes "n") (in_array 92 (item (object 93 (member 94 (codes "x") (scalar 98 (Str (codes "a"))) no_member)) no_item) (in_member 103 no_member [] 104 (codes "@index") unread))) [] ≡ true
unfolding reports
row_19 = refl

-- streaming: {"@context":{"n":{"@id":"@nest","@context":{"x":"@index"}}},"@id":"http://a/s","n":[{"x":"a"},{"@index"|:"b"}]}
row_20 : reports Streaming (in_member 0 (member 1 (codes "@context") (object 12 (member 13 (codes "n") (object 17 (member 18 (codes "@id") (scalar 24 (Str (codes "@nest"))) (member 32 (codes "@context") (object 43 (member 44 (codes "x") (scalar 48 (Str (codes "@index"))) no_member)) no_member))) no_member)) (member 60 (codes "@id") (scalar 66 (Str (codes "http://a/s"))) no_member)) (59 ∷ 78 ∷ []) 79 (codes "n") (in_array 83 (item (object 84 (member 85 (codes "x") (scalar 89 (Str (codes "a"))) no_member)) no_item) (in_member 94 no_member [] 95 (codes "@index") unread))) (fault code.CollidingKeywords 95 ∷ []) ≡ true
unfolding reports
row_20 = refl

-- streaming: {"@id":"http://a/s","@nest":[["x"|]]}
row_21 : reports Streaming (in_member 0 (member 1 (codes "@id") (scalar 7 (Str (codes "http://a/s"))) no_member) (19 ∷ []) 20 (codes "@nest") (in_array 28 no_item (in_array 29 (item (scalar 30 (Str (codes "x"))) no_item) unread))) [] ≡ true
unfolding reports
row_21 = refl

-- streaming: {"@context":{"i":{"@reverse":"http://a/i","@container":"@index"}},"@id":"http://a/s","i":{"k":"x","l":[["y"|]]}}
row_22 : reports Streaming (in_member 0 (member 1 (codes "@context") (object 12 (member 13 (codes "i") (object 17 (member 18 (codes "@reverse") (scalar 29 (Str (codes "http://a/i"))) (member 42 (codes "@container") (scalar 55 (Str (codes "@index"))) no_member))) no_member)) (member 66 (codes "@id") (scalar 72 (Str (codes "http://a/s"))) no_member)) (65 ∷ 84 ∷ []) 85 (codes "i") (in_member 89 (member 90 (codes "k") (scalar 94 (Str (codes "x"))) no_member) (97 ∷ []) 98 (codes "l") (in_array 102 no_item (in_array 103 (item (scalar 104 (Str (codes "y"))) no_item) unread)))) (fault code.InvalidReversePropertyValue 94 ∷ fault code.InvalidReversePropertyValue 104 ∷ []) ≡ true
unfolding reports
row_22 = refl

-- streaming: {"@context":{"t":{"@id":"http://a/t","@container":"@language"}},"@id":"http://a/s","@reverse":{"t":{"de":"x","en":["y"|]}}}
row_23 : reports Streaming (in_member 0 (member 1 (codes "@context") (object 12 (member 13 (codes "t") (object 17 (member 18 (codes "@id") (scalar 24 (Str (codes "http://a/t"))) (member 37 (codes "@container") (scalar 50 (Str (codes "@language"))) no_member))) no_member)) (member 64 (codes "@id") (scalar 70 (Str (codes "http://a/s"))) no_member)) (63 ∷ 82 ∷ []) 83 (codes "@reverse") (in_member 94 no_member [] 95 (codes "t") (in_member 99 (member 100 (codes "de") (scalar 105 (Str (codes "x"))) no_member) (108 ∷ []) 109 (codes "en") (in_array 114 (item (scalar 115 (Str (codes "y"))) no_item) unread)))) (fault code.InvalidReversePropertyValue 105 ∷ fault code.InvalidReversePropertyValue 115 ∷ []) ≡ true
unfolding reports
row_23 = refl

-- streaming: {"@context":{"T":{"@id":"http://a/T","@context":{"p":"http://t/p","i":"@id"}},"i":"http://a/i"},"@id":"http://a/s","@type":"T","p":{"i"|:["x"]}}, a lone identifier isn't late before its value has begun
row_24 : reports Streaming (in_member 0 (member 1 (codes "@context") (object 12 (member 13 (codes "T") (object 17 (member 18 (codes "@id") (scalar 24 (Str (codes "http://a/T"))) (member 37 (codes "@context") (object 48 (member 49 (codes "p") (scalar 53 (Str (codes "http://t/p"))) (member 66 (codes "i") (scalar 70 (Str (codes "@id"))) no_member))) no_member))) (member 78 (codes "i") (scalar 82 (Str (codes "http://a/i"))) no_member))) (member 96 (codes "@id") (scalar 102 (Str (codes "http://a/s"))) (member 115 (codes "@type") (scalar 123 (Str (codes "T"))) no_member))) (95 ∷ 114 ∷ 126 ∷ []) 127 (codes "p") (in_member 131 no_member [] 132 (codes "i") unread)) [] ≡ true
unfolding reports
row_24 = refl

-- streaming: {"@context":{"T":{"@id":"http://a/T","@context":{"p":"http://t/p","i":"@id"}},"i":"http://a/i"},"@id":"http://a/s","@type":"T","p":{"i":[|"x"]}}, with the first byte it is, whatever follows
row_25 : reports Streaming (in_member 0 (member 1 (codes "@context") (object 12 (member 13 (codes "T") (object 17 (member 18 (codes "@id") (scalar 24 (Str (codes "http://a/T"))) (member 37 (codes "@context") (object 48 (member 49 (codes "p") (scalar 53 (Str (codes "http://t/p"))) (member 66 (codes "i") (scalar 70 (Str (codes "@id"))) no_member))) no_member))) (member 78 (codes "i") (scalar 82 (Str (codes "http://a/i"))) no_member))) (member 96 (codes "@id") (scalar 102 (Str (codes "http://a/s"))) (member 115 (codes "@type") (scalar 123 (Str (codes "T"))) no_member))) (95 ∷ 114 ∷ 126 ∷ []) 127 (codes "p") (in_member 131 no_member [] 132 (codes "i") (in_array 136 no_item unread))) (fault code.InvalidIdValue 132 ∷ fault code.LateIdentifier 132 ∷ []) ≡ true
unfolding reports
row_25 = refl

-- any: {"@context":{"T":{"@id":"http://a/T","@context":{"p":"http://t/p","i":"@id"}},"i":"http://a/i"},"@id":"http://a/s","@type":"T","p":{"i":[|"x"]}}
row_26 : reports Any (in_member 0 (member 1 (codes "@context") (object 12 (member 13 (codes "T") (object 17 (member 18 (codes "@id") (scalar 24 (Str (codes "http://a/T"))) (member 37 (codes "@context") (object 48 (member 49 (codes "p") (scalar 53 (Str (codes "http://t/p"))) (member 66 (codes "i") (scalar 70 (Str (codes "@id"))) no_member))) no_member))) (member 78 (codes "i") (scalar 82 (Str (codes "http://a/i"))) no_member))) (member 96 (codes "@id") (scalar 102 (Str (codes "http://a/s"))) (member 115 (codes "@type") (scalar 123 (Str (codes "T"))) no_member))) (95 ∷ 114 ∷ 126 ∷ []) 127 (codes "p") (in_member 131 no_member [] 132 (codes "i") (in_array 136 no_item unread))) [] ≡ true
unfolding reports
row_26 = refl

-- streaming: {"@context":{"T":{"@id":"http://a/T","@context":{"i":"@id"}},"i":"http://a/i"},"@id":"http://a/s","@type":"T","@reverse":{"i":{|"@id":"http://a/o"}}}, the same in the map of `@reverse`
row_27 : reports Streaming (in_member 0 (member 1 (codes "@context") (object 12 (member 13 (codes "T") (object 17 (member 18 (codes "@id") (scalar 24 (Str (codes "http://a/T"))) (member 37 (codes "@context") (object 48 (member 49 (codes "i") (scalar 53 (Str (codes "@id"))) no_member)) no_member))) (member 61 (codes "i") (scalar 65 (Str (codes "http://a/i"))) no_member))) (member 79 (codes "@id") (scalar 85 (Str (codes "http://a/s"))) (member 98 (codes "@type") (scalar 106 (Str (codes "T"))) no_member))) (78 ∷ 97 ∷ 109 ∷ []) 110 (codes "@reverse") (in_member 121 no_member [] 122 (codes "i") (in_object 126 no_member []))) (fault code.InvalidReversePropertyMap 122 ∷ fault code.LateIdentifier 122 ∷ []) ≡ true
unfolding reports
row_27 = refl

-- streaming: {"@id":"http://a/s","http://a/p":{"@value":[1e99|],"@type":"@json"}}, numbers of what isn't known as a JSON literal
row_28 : reports Streaming (in_member 0 (member 1 (codes "@id") (scalar 7 (Str (codes "http://a/s"))) no_member) (19 ∷ []) 20 (codes "http://a/p") (in_member 33 no_member [] 34 (codes "@value") (in_array 43 no_item (in_scalar 44 sign)))) (fault code.InvalidValueObjectValue 34 ∷ []) ≡ true
unfolding reports
row_28 = refl

-- streaming: {"@id":"http://a/s","http://a/p":[{"@value":[1e99],"@type":"@json"}|]}, they are judged as the object closes
row_29 : reports Streaming (in_member 0 (member 1 (codes "@id") (scalar 7 (Str (codes "http://a/s"))) no_member) (19 ∷ []) 20 (codes "http://a/p") (in_array 33 (item (object 34 (member 35 (codes "@value") (array 44 (item (scalar 45 (Number (codes "1e99"))) no_item)) (member 51 (codes "@type") (scalar 59 (Str (codes "@json"))) no_member))) no_item) unread)) (fault code.InvalidValueObjectValue 35 ∷ fault code.NumberNotWhole 45 ∷ fault code.LateType 51 ∷ []) ≡ true
unfolding reports
row_29 = refl
