-- Value objects, numbers and JSON literals. Each document stands above its row.
use Rattle.std.specs.Prelude.{◌≡◌, true, [], ◌∷◌, ◌++◌, None, codes, refl}
use Rattle.jl_model.specs.JsonTree.{scalar, array, object, no_item, item, no_member, member}
use Rattle.jl_model.specs.declared.scalars.Scalar.TheVariants.{Null, Bool as truth, Number, Str}
use Rattle.jl_model.specs.declared.orders.Order.TheVariants.{Any, Streaming}
use Rattle.jl_model.specs.declared.codes.Code.TheVariants as code
use Rattle.jl_defs.specs.ObjectContexts.{fault}
use Rattle.jl_defs.proofs.RowWords.{settings, says, says_in_both, is_refused, is_refused_in_both}

-- {"@context":{"j":{"@id":"http://a/j","@type":"@json"}},"@id":"http://a/s","j":{"\ufb01":1,"\ud83d\ude00":2}}
row_1 : says_in_both None [] (object 0 (member 1 (codes "@context") (object 12 (member 13 (codes "j") (object 17 (member 18 (codes "@id") (scalar 24 (Str (codes "http://a/j"))) (member 37 (codes "@type") (scalar 45 (Str (codes "@json"))) no_member))) no_member)) (member 55 (codes "@id") (scalar 61 (Str (codes "http://a/s"))) (member 74 (codes "j") (object 78 (member 79 (239 ∷ 172 ∷ 129 ∷ []) (scalar 88 (Number (codes "1"))) (member 90 (240 ∷ 159 ∷ 152 ∷ 128 ∷ []) (scalar 105 (Number (codes "2"))) no_member))) no_member)))) ((codes "<http://a/s> <http://a/j> \"{\\\"" ++ (240 ∷ 159 ∷ 152 ∷ 128 ∷ []) ++ codes "\\\":2,\\\"" ++ (239 ∷ 172 ∷ 129 ∷ []) ++ codes "\\\":1}\"^^<http://www.w3.org/1999/02/22-rdf-syntax-ns#JSON> .\n") ∷ []) ≡ true
unfolding says_in_both
row_1 = refl

-- {"@id":"http://a/s","http://a/p":{"@type":"@json","@value":[1,{"b":null,"a":true}]}}
row_2 : says_in_both None [] (object 0 (member 1 (codes "@id") (scalar 7 (Str (codes "http://a/s"))) (member 20 (codes "http://a/p") (object 33 (member 34 (codes "@type") (scalar 42 (Str (codes "@json"))) (member 50 (codes "@value") (array 59 (item (scalar 60 (Number (codes "1"))) (item (object 62 (member 63 (codes "b") (scalar 67 Null) (member 72 (codes "a") (scalar 76 (truth true)) no_member))) no_item))) no_member))) no_member))) (codes "<http://a/s> <http://a/p> \"[1,{\\\"a\\\":true,\\\"b\\\":null}]\"^^<http://www.w3.org/1999/02/22-rdf-syntax-ns#JSON> .\n" ∷ []) ≡ true
unfolding says_in_both
row_2 = refl

-- {"@id":"http://a/s","http://a/p":{"@value":"x","@language":"en-US","@direction":"rtl"}}
row_3 : says_in_both None [] (object 0 (member 1 (codes "@id") (scalar 7 (Str (codes "http://a/s"))) (member 20 (codes "http://a/p") (object 33 (member 34 (codes "@value") (scalar 43 (Str (codes "x"))) (member 47 (codes "@language") (scalar 59 (Str (codes "en-US"))) (member 67 (codes "@direction") (scalar 80 (Str (codes "rtl"))) no_member)))) no_member))) (codes "<http://a/s> <http://a/p> \"x\"@en-US .\n" ∷ []) ≡ true
unfolding says_in_both
row_3 = refl

-- {"@context":{"t":"@type","v":"@included"},"@id":"http://a/s","@type":"http://a/A","t":"http://a/B","http://a/p":{"@value":"x","@type":"http://a/d","t":"http://a/d"}}
row_4 : is_refused_in_both None [] (object 0 (member 1 (codes "@context") (object 12 (member 13 (codes "t") (scalar 17 (Str (codes "@type"))) (member 25 (codes "v") (scalar 29 (Str (codes "@included"))) no_member))) (member 42 (codes "@id") (scalar 48 (Str (codes "http://a/s"))) (member 61 (codes "@type") (scalar 69 (Str (codes "http://a/A"))) (member 82 (codes "t") (scalar 86 (Str (codes "http://a/B"))) (member 99 (codes "http://a/p") (object 112 (member 113 (codes "@value") (scalar 122 (Str (codes "x"))) (member 126 (codes "@type") (scalar 134 (Str (codes "http://a/d"))) (member 147 (codes "t") (scalar 151 (Str (codes "http://a/d"))) no_member)))) no_member)))))) (fault code.InvalidTypedValue 112 ∷ []) ≡ true
unfolding is_refused_in_both
row_4 = refl

-- {"@id":"http://a/s","http://a/p":{"@type":["@json"],"@value":[1]}}
row_5 : is_refused_in_both None [] (object 0 (member 1 (codes "@id") (scalar 7 (Str (codes "http://a/s"))) (member 20 (codes "http://a/p") (object 33 (member 34 (codes "@type") (array 42 (item (scalar 43 (Str (codes "@json"))) no_item)) (member 52 (codes "@value") (array 61 (item (scalar 62 (Number (codes "1"))) no_item)) no_member))) no_member))) (fault code.InvalidTypedValue 33 ∷ fault code.InvalidValueObjectValue 52 ∷ []) ≡ true
unfolding is_refused_in_both
row_5 = refl

-- {"@id":"http://a/s","http://a/p":{"@value":[1],"@type":"@json"}}
row_6_any : says (settings Any None []) (object 0 (member 1 (codes "@id") (scalar 7 (Str (codes "http://a/s"))) (member 20 (codes "http://a/p") (object 33 (member 34 (codes "@value") (array 43 (item (scalar 44 (Number (codes "1"))) no_item)) (member 47 (codes "@type") (scalar 55 (Str (codes "@json"))) no_member))) no_member))) (codes "<http://a/s> <http://a/p> \"[1]\"^^<http://www.w3.org/1999/02/22-rdf-syntax-ns#JSON> .\n" ∷ []) ≡ true
unfolding says
row_6_any = refl

row_6_streaming : is_refused (settings Streaming None []) (object 0 (member 1 (codes "@id") (scalar 7 (Str (codes "http://a/s"))) (member 20 (codes "http://a/p") (object 33 (member 34 (codes "@value") (array 43 (item (scalar 44 (Number (codes "1"))) no_item)) (member 47 (codes "@type") (scalar 55 (Str (codes "@json"))) no_member))) no_member))) (fault code.InvalidValueObjectValue 34 ∷ fault code.LateType 47 ∷ []) ≡ true
unfolding is_refused
row_6_streaming = refl

-- {"@id":"http://a/s","http://a/p":[{"@value":null,"@type":"x"},{"@value":null,"@id":"x"}]}
row_7 : is_refused_in_both None [] (object 0 (member 1 (codes "@id") (scalar 7 (Str (codes "http://a/s"))) (member 20 (codes "http://a/p") (array 33 (item (object 34 (member 35 (codes "@value") (scalar 44 Null) (member 49 (codes "@type") (scalar 57 (Str (codes "x"))) no_member))) (item (object 62 (member 63 (codes "@value") (scalar 72 Null) (member 77 (codes "@id") (scalar 83 (Str (codes "x"))) no_member))) no_item))) no_member))) (fault code.InvalidValueObject 62 ∷ []) ≡ true
unfolding is_refused_in_both
row_7 = refl

-- {"@id":"http://a/s","http://a/p":{"@type":"@json","@value":null}}
row_8 : says_in_both None [] (object 0 (member 1 (codes "@id") (scalar 7 (Str (codes "http://a/s"))) (member 20 (codes "http://a/p") (object 33 (member 34 (codes "@type") (scalar 42 (Str (codes "@json"))) (member 50 (codes "@value") (scalar 59 Null) no_member))) no_member))) (codes "<http://a/s> <http://a/p> \"null\"^^<http://www.w3.org/1999/02/22-rdf-syntax-ns#JSON> .\n" ∷ []) ≡ true
unfolding says_in_both
row_8 = refl

-- {"@graph":[{"@value":0.5},{"@type":"@json","@value":0.5}]}
row_9 : is_refused_in_both None [] (object 0 (member 1 (codes "@graph") (array 10 (item (object 11 (member 12 (codes "@value") (scalar 21 (Number (codes "0.5"))) no_member)) (item (object 26 (member 27 (codes "@type") (scalar 35 (Str (codes "@json"))) (member 43 (codes "@value") (scalar 52 (Number (codes "0.5"))) no_member))) no_item))) no_member)) (fault code.NumberNotWhole 52 ∷ []) ≡ true
unfolding is_refused_in_both
row_9 = refl

-- {"@id":"http://a/s","http://a/p":[9007199254740992,{"@type":"http://a/d","@value":9007199254740992},{"@type":"http://www.w3.org/2001/XMLSchema#double","@value":9007199254740992}]}
row_10 : is_refused_in_both None [] (object 0 (member 1 (codes "@id") (scalar 7 (Str (codes "http://a/s"))) (member 20 (codes "http://a/p") (array 33 (item (scalar 34 (Number (codes "9007199254740992"))) (item (object 51 (member 52 (codes "@type") (scalar 60 (Str (codes "http://a/d"))) (member 73 (codes "@value") (scalar 82 (Number (codes "9007199254740992"))) no_member))) (item (object 100 (member 101 (codes "@type") (scalar 109 (Str (codes "http://www.w3.org/2001/XMLSchema#double"))) (member 151 (codes "@value") (scalar 160 (Number (codes "9007199254740992"))) no_member))) no_item)))) no_member))) (fault code.NumberOutOfRange 160 ∷ []) ≡ true
unfolding is_refused_in_both
row_10 = refl

-- {"@context":{"p":{"@id":"http://a/p","@type":"@id"}},"@id":"http://a/s","p":[7,{"@type":"http://www.w3.org/2001/XMLSchema#double","@value":true}]}
row_11 : says_in_both None [] (object 0 (member 1 (codes "@context") (object 12 (member 13 (codes "p") (object 17 (member 18 (codes "@id") (scalar 24 (Str (codes "http://a/p"))) (member 37 (codes "@type") (scalar 45 (Str (codes "@id"))) no_member))) no_member)) (member 53 (codes "@id") (scalar 59 (Str (codes "http://a/s"))) (member 72 (codes "p") (array 76 (item (scalar 77 (Number (codes "7"))) (item (object 79 (member 80 (codes "@type") (scalar 88 (Str (codes "http://www.w3.org/2001/XMLSchema#double"))) (member 130 (codes "@value") (scalar 139 (truth true)) no_member))) no_item))) no_member)))) (codes "<http://a/s> <http://a/p> \"7\"^^<http://www.w3.org/2001/XMLSchema#integer> .\n" ∷ codes "<http://a/s> <http://a/p> \"true\"^^<http://www.w3.org/2001/XMLSchema#double> .\n" ∷ []) ≡ true
unfolding says_in_both
row_11 = refl

-- {"@id":"http://a/s","http://a/p":[{"@value":"x","@language":"EN"},{"@list":[{"@value":"y","@language":"e n"}]}]}
row_12 : says_in_both None [] (object 0 (member 1 (codes "@id") (scalar 7 (Str (codes "http://a/s"))) (member 20 (codes "http://a/p") (array 33 (item (object 34 (member 35 (codes "@value") (scalar 44 (Str (codes "x"))) (member 48 (codes "@language") (scalar 60 (Str (codes "EN"))) no_member))) (item (object 66 (member 67 (codes "@list") (array 75 (item (object 76 (member 77 (codes "@value") (scalar 86 (Str (codes "y"))) (member 90 (codes "@language") (scalar 102 (Str (codes "e n"))) no_member))) no_item)) no_member)) no_item))) no_member))) (codes "<http://a/s> <http://a/p> \"x\"@EN .\n" ∷ codes "<http://a/s> <http://a/p> _:jll76 .\n" ∷ codes "_:jll76 <http://www.w3.org/1999/02/22-rdf-syntax-ns#rest> <http://www.w3.org/1999/02/22-rdf-syntax-ns#nil> .\n" ∷ []) ≡ true
unfolding says_in_both
row_12 = refl

-- {"@id":"http://a/s","http://a/p":{"@type":"@json","@value":{"\ufb01":-0,"\ud83d\ude00":"\u007f\u0001","":[]}}}
row_13 : says_in_both None [] (object 0 (member 1 (codes "@id") (scalar 7 (Str (codes "http://a/s"))) (member 20 (codes "http://a/p") (object 33 (member 34 (codes "@type") (scalar 42 (Str (codes "@json"))) (member 50 (codes "@value") (object 59 (member 60 (239 ∷ 172 ∷ 129 ∷ []) (scalar 69 (Number (codes "-0"))) (member 72 (240 ∷ 159 ∷ 152 ∷ 128 ∷ []) (scalar 87 (Str (127 ∷ 1 ∷ []))) (member 102 ([]) (array 105 no_item) no_member)))) no_member))) no_member))) ((codes "<http://a/s> <http://a/p> \"{\\\"\\\":[],\\\"" ++ (240 ∷ 159 ∷ 152 ∷ 128 ∷ []) ++ codes "\\\":\\\"" ++ (127 ∷ []) ++ codes "\\\\u0001\\\",\\\"" ++ (239 ∷ 172 ∷ 129 ∷ []) ++ codes "\\\":0}\"^^<http://www.w3.org/1999/02/22-rdf-syntax-ns#JSON> .\n") ∷ []) ≡ true
unfolding says_in_both
row_13 = refl

-- {"@context":{"T":{"@id":"http://a/T","@context":{"T":"@json"}}},"@id":"http://a/s","http://a/p":{"@type":"T","@value":[1]}}
row_14 : is_refused_in_both None [] (object 0 (member 1 (codes "@context") (object 12 (member 13 (codes "T") (object 17 (member 18 (codes "@id") (scalar 24 (Str (codes "http://a/T"))) (member 37 (codes "@context") (object 48 (member 49 (codes "T") (scalar 53 (Str (codes "@json"))) no_member)) no_member))) no_member)) (member 64 (codes "@id") (scalar 70 (Str (codes "http://a/s"))) (member 83 (codes "http://a/p") (object 96 (member 97 (codes "@type") (scalar 105 (Str (codes "T"))) (member 109 (codes "@value") (array 118 (item (scalar 119 (Number (codes "1"))) no_item)) no_member))) no_member)))) (fault code.InvalidValueObjectValue 109 ∷ []) ≡ true
unfolding is_refused_in_both
row_14 = refl

-- {"@id":"http://a/s","http://a/p":[{"@value":1.5,"@id":"x"},{"@value":1.5,"@language":"en"},{"@value":1.5,"@type":"x"},{"@value":1.5}]}
row_15 : is_refused_in_both None [] (object 0 (member 1 (codes "@id") (scalar 7 (Str (codes "http://a/s"))) (member 20 (codes "http://a/p") (array 33 (item (object 34 (member 35 (codes "@value") (scalar 44 (Number (codes "1.5"))) (member 48 (codes "@id") (scalar 54 (Str (codes "x"))) no_member))) (item (object 59 (member 60 (codes "@value") (scalar 69 (Number (codes "1.5"))) (member 73 (codes "@language") (scalar 85 (Str (codes "en"))) no_member))) (item (object 91 (member 92 (codes "@value") (scalar 101 (Number (codes "1.5"))) (member 105 (codes "@type") (scalar 113 (Str (codes "x"))) no_member))) (item (object 118 (member 119 (codes "@value") (scalar 128 (Number (codes "1.5"))) no_member)) no_item))))) no_member))) (fault code.InvalidLanguageTaggedValue 59 ∷ fault code.InvalidTypedValue 91 ∷ fault code.InvalidValueObject 34 ∷ fault code.NumberNotWhole 128 ∷ []) ≡ true
unfolding is_refused_in_both
row_15 = refl

-- {"@id":"http://a/s","http://a/p":[{"@value":"x","@nest":{}},{"@set":[],"@nest":{}}]}
row_16 : is_refused_in_both None [] (object 0 (member 1 (codes "@id") (scalar 7 (Str (codes "http://a/s"))) (member 20 (codes "http://a/p") (array 33 (item (object 34 (member 35 (codes "@value") (scalar 44 (Str (codes "x"))) (member 48 (codes "@nest") (object 56 no_member) no_member))) (item (object 60 (member 61 (codes "@set") (array 68 no_item) (member 71 (codes "@nest") (object 79 no_member) no_member))) no_item))) no_member))) (fault code.InvalidSetOrListObject 60 ∷ fault code.InvalidValueObject 34 ∷ []) ≡ true
unfolding is_refused_in_both
row_16 = refl

-- {"@context":{"p":{"@id":"http://a/p","@context":{"p":{"@id":"http://a/p","@type":"@json"}}}},"@id":"http://a/s","p":"x"}
row_17 : says_in_both None [] (object 0 (member 1 (codes "@context") (object 12 (member 13 (codes "p") (object 17 (member 18 (codes "@id") (scalar 24 (Str (codes "http://a/p"))) (member 37 (codes "@context") (object 48 (member 49 (codes "p") (object 53 (member 54 (codes "@id") (scalar 60 (Str (codes "http://a/p"))) (member 73 (codes "@type") (scalar 81 (Str (codes "@json"))) no_member))) no_member)) no_member))) no_member)) (member 93 (codes "@id") (scalar 99 (Str (codes "http://a/s"))) (member 112 (codes "p") (scalar 116 (Str (codes "x"))) no_member)))) [] ≡ true
unfolding says_in_both
row_17 = refl

-- {"http://a/p":{"@value":[1e99],"@type":"@json"}}
-- A late type makes a JSON literal all the same, so its numbers are judged.
row_18_any : is_refused (settings Any None []) (object 0 (member 1 (codes "http://a/p") (object 14 (member 15 (codes "@value") (array 24 (item (scalar 25 (Number (codes "1e99"))) no_item)) (member 31 (codes "@type") (scalar 39 (Str (codes "@json"))) no_member))) no_member)) (fault code.NumberNotWhole 25 ∷ []) ≡ true
unfolding is_refused
row_18_any = refl

row_18_streaming : is_refused (settings Streaming None []) (object 0 (member 1 (codes "http://a/p") (object 14 (member 15 (codes "@value") (array 24 (item (scalar 25 (Number (codes "1e99"))) no_item)) (member 31 (codes "@type") (scalar 39 (Str (codes "@json"))) no_member))) no_member)) (fault code.InvalidValueObjectValue 15 ∷ fault code.NumberNotWhole 25 ∷ fault code.LateType 31 ∷ []) ≡ true
unfolding is_refused
row_18_streaming = refl

-- {"@context":{"J":{"@id":"@json","@context":{"J":"http://a/J"}}},"@id":"http://a/s","http://a/p":{"@type":"J","@value":[1]}}
-- The one type is `@json`, which the base tells, but the input type, which the final context tells, isn't.
row_19 : is_refused_in_both None [] (object 0 (member 1 (codes "@context") (object 12 (member 13 (codes "J") (object 17 (member 18 (codes "@id") (scalar 24 (Str (codes "@json"))) (member 32 (codes "@context") (object 43 (member 44 (codes "J") (scalar 48 (Str (codes "http://a/J"))) no_member)) no_member))) no_member)) (member 64 (codes "@id") (scalar 70 (Str (codes "http://a/s"))) (member 83 (codes "http://a/p") (object 96 (member 97 (codes "@type") (scalar 105 (Str (codes "J"))) (member 109 (codes "@value") (array 118 (item (scalar 119 (Number (codes "1"))) no_item)) no_member))) no_member)))) (fault code.InvalidValueObjectValue 109 ∷ []) ≡ true
unfolding is_refused_in_both
row_19 = refl

-- {"@context":{"J":{"@id":"@json","@context":{"J":"http://a/J"}}},"@id":"http://a/s","http://a/p":[{"@type":"J","@value":1},{"@type":"J","@value":1.5}]}
-- A scalar there is a JSON literal by its one type alone, and its number is judged as the object closes.
row_20 : is_refused_in_both None [] (object 0 (member 1 (codes "@context") (object 12 (member 13 (codes "J") (object 17 (member 18 (codes "@id") (scalar 24 (Str (codes "@json"))) (member 32 (codes "@context") (object 43 (member 44 (codes "J") (scalar 48 (Str (codes "http://a/J"))) no_member)) no_member))) no_member)) (member 64 (codes "@id") (scalar 70 (Str (codes "http://a/s"))) (member 83 (codes "http://a/p") (array 96 (item (object 97 (member 98 (codes "@type") (scalar 106 (Str (codes "J"))) (member 110 (codes "@value") (scalar 119 (Number (codes "1"))) no_member))) (item (object 122 (member 123 (codes "@type") (scalar 131 (Str (codes "J"))) (member 135 (codes "@value") (scalar 144 (Number (codes "1.5"))) no_member))) no_item))) no_member)))) (fault code.NumberNotWhole 144 ∷ []) ≡ true
unfolding is_refused_in_both
row_20 = refl

-- {"@id":"http://a/s","http://a/p":[{"@type":"@json","@value":1.5},{"@type":"@json","@value":1.5,"@id":"x"}]}
-- Under the input type `@json` a number is judged whatever else is wrong.
row_21 : is_refused_in_both None [] (object 0 (member 1 (codes "@id") (scalar 7 (Str (codes "http://a/s"))) (member 20 (codes "http://a/p") (array 33 (item (object 34 (member 35 (codes "@type") (scalar 43 (Str (codes "@json"))) (member 51 (codes "@value") (scalar 60 (Number (codes "1.5"))) no_member))) (item (object 65 (member 66 (codes "@type") (scalar 74 (Str (codes "@json"))) (member 82 (codes "@value") (scalar 91 (Number (codes "1.5"))) (member 95 (codes "@id") (scalar 101 (Str (codes "x"))) no_member)))) no_item))) no_member))) (fault code.NumberNotWhole 60 ∷ fault code.InvalidValueObject 65 ∷ fault code.NumberNotWhole 91 ∷ []) ≡ true
unfolding is_refused_in_both
row_21 = refl

-- {"@id":"http://a/s","http://a/p":{"@value":"x","http://a/q":{"@context":5}}}
-- A property whose object has faulty contexts is an entry.
row_22 : is_refused_in_both None [] (object 0 (member 1 (codes "@id") (scalar 7 (Str (codes "http://a/s"))) (member 20 (codes "http://a/p") (object 33 (member 34 (codes "@value") (scalar 43 (Str (codes "x"))) (member 47 (codes "http://a/q") (object 60 (member 61 (codes "@context") (scalar 72 (Number (codes "5"))) no_member)) no_member))) no_member))) (fault code.InvalidValueObject 33 ∷ fault code.InvalidLocalContext 61 ∷ []) ≡ true
unfolding is_refused_in_both
row_22 = refl

-- {"@id":"http://a/s","http://a/p":{"@value":"x","http://a/q":null}}
-- A property whose value is null is none.
row_23 : says_in_both None [] (object 0 (member 1 (codes "@id") (scalar 7 (Str (codes "http://a/s"))) (member 20 (codes "http://a/p") (object 33 (member 34 (codes "@value") (scalar 43 (Str (codes "x"))) (member 47 (codes "http://a/q") (scalar 60 Null) no_member))) no_member))) (codes "<http://a/s> <http://a/p> \"x\" .\n" ∷ []) ≡ true
unfolding says_in_both
row_23 = refl

-- {"@id":"http://a/s","http://a/p":{"@list":[],"http://a/q":{"@context":5}}}
row_24 : is_refused_in_both None [] (object 0 (member 1 (codes "@id") (scalar 7 (Str (codes "http://a/s"))) (member 20 (codes "http://a/p") (object 33 (member 34 (codes "@list") (array 42 no_item) (member 45 (codes "http://a/q") (object 58 (member 59 (codes "@context") (scalar 70 (Number (codes "5"))) no_member)) no_member))) no_member))) (fault code.InvalidSetOrListObject 33 ∷ fault code.InvalidLocalContext 59 ∷ []) ≡ true
unfolding is_refused_in_both
row_24 = refl
