-- Nodes, arrays and value objects without contexts. Each document stands above its row.
use Rattle.std.specs.Prelude.{◌≡◌, true, [], ◌∷◌, ◌++◌, Some, None, codes, refl}
use Rattle.jl_model.specs.JsonTree.{scalar, array, object, no_item, item, no_member, member}
use Rattle.jl_model.specs.declared.scalars.Scalar.TheVariants.{Bool as truth, Number, Str}
use Rattle.jl_model.specs.declared.orders.Order.TheVariants.{Any, Streaming}
use Rattle.jl_model.specs.declared.codes.Code.TheVariants as code
use Rattle.jl_defs.specs.ObjectContexts.{fault}
use Rattle.jl_defs.proofs.RowWords.{settings, says, says_in_both, is_refused, is_refused_in_both}

-- {"@id":"http://a/s","http://a/p":"x"}
row_1 : says_in_both None [] (object 0 (member 1 (codes "@id") (scalar 7 (Str (codes "http://a/s"))) (member 20 (codes "http://a/p") (scalar 33 (Str (codes "x"))) no_member))) (codes "<http://a/s> <http://a/p> \"x\" .\n" ∷ []) ≡ true
unfolding says_in_both
row_1 = refl

-- {}
row_2 : says_in_both None [] (object 0 no_member) [] ≡ true
unfolding says_in_both
row_2 = refl

-- []
row_3 : says_in_both None [] (array 0 no_item) [] ≡ true
unfolding says_in_both
row_3 = refl

-- {"http://a/p":{"http://a/q":1}}
row_4 : says_in_both None [] (object 0 (member 1 (codes "http://a/p") (object 14 (member 15 (codes "http://a/q") (scalar 28 (Number (codes "1"))) no_member)) no_member)) (codes "_:jlb0 <http://a/p> _:jlb14 .\n" ∷ codes "_:jlb14 <http://a/q> \"1\"^^<http://www.w3.org/2001/XMLSchema#integer> .\n" ∷ []) ≡ true
unfolding says_in_both
row_4 = refl

-- {"http://a/p":"x","@id":"http://a/s"}
row_5_any : says (settings Any None []) (object 0 (member 1 (codes "http://a/p") (scalar 14 (Str (codes "x"))) (member 18 (codes "@id") (scalar 24 (Str (codes "http://a/s"))) no_member))) (codes "<http://a/s> <http://a/p> \"x\" .\n" ∷ []) ≡ true
unfolding says
row_5_any = refl

row_5_streaming : is_refused (settings Streaming None []) (object 0 (member 1 (codes "http://a/p") (scalar 14 (Str (codes "x"))) (member 18 (codes "@id") (scalar 24 (Str (codes "http://a/s"))) no_member))) (fault code.LateIdentifier 18 ∷ []) ≡ true
unfolding is_refused
row_5_streaming = refl

-- {"@id":"http://a/s","http://a/p":"é"}
row_6 : says_in_both None [] (object 0 (member 1 (codes "@id") (scalar 7 (Str (codes "http://a/s"))) (member 20 (codes "http://a/p") (scalar 33 (Str (195 ∷ 169 ∷ []))) no_member))) ((codes "<http://a/s> <http://a/p> \"" ++ (195 ∷ 169 ∷ []) ++ codes "\" .\n") ∷ []) ≡ true
unfolding says_in_both
row_6 = refl

-- {"@id":"http://a/s","http://a/p":"\ud83d\ude00"}
row_7 : says_in_both None [] (object 0 (member 1 (codes "@id") (scalar 7 (Str (codes "http://a/s"))) (member 20 (codes "http://a/p") (scalar 33 (Str (240 ∷ 159 ∷ 152 ∷ 128 ∷ []))) no_member))) ((codes "<http://a/s> <http://a/p> \"" ++ (240 ∷ 159 ∷ 152 ∷ 128 ∷ []) ++ codes "\" .\n") ∷ []) ≡ true
unfolding says_in_both
row_7 = refl

-- {"u":1.5}
row_8 : says_in_both None [] (object 0 (member 1 (codes "u") (scalar 5 (Number (codes "1.5"))) no_member)) [] ≡ true
unfolding says_in_both
row_8 = refl

-- {"http://a/p":1.5}
row_9 : is_refused_in_both None [] (object 0 (member 1 (codes "http://a/p") (scalar 14 (Number (codes "1.5"))) no_member)) (fault code.NumberNotWhole 14 ∷ []) ≡ true
unfolding is_refused_in_both
row_9 = refl

-- {"http://a/p":1000000000000000000000}
row_10 : is_refused_in_both None [] (object 0 (member 1 (codes "http://a/p") (scalar 14 (Number (codes "1000000000000000000000"))) no_member)) (fault code.NumberOutOfRange 14 ∷ []) ≡ true
unfolding is_refused_in_both
row_10 = refl

-- {"@id":"../g","http://a/p":{"@id":"?y"}} with the base http://a/b/c/d;p?q
row_11 : says_in_both (Some (codes "http://a/b/c/d;p?q")) [] (object 0 (member 1 (codes "@id") (scalar 7 (Str (codes "../g"))) (member 14 (codes "http://a/p") (object 27 (member 28 (codes "@id") (scalar 34 (Str (codes "?y"))) no_member)) no_member))) (codes "<http://a/b/g> <http://a/p> <http://a/b/c/d;p?y> .\n" ∷ []) ≡ true
unfolding says_in_both
row_11 = refl

-- {"@id":"../g","http://a/p":{"@id":"?y"}}
row_12 : says_in_both None [] (object 0 (member 1 (codes "@id") (scalar 7 (Str (codes "../g"))) (member 14 (codes "http://a/p") (object 27 (member 28 (codes "@id") (scalar 34 (Str (codes "?y"))) no_member)) no_member))) [] ≡ true
unfolding says_in_both
row_12 = refl

-- {"@id":"_:jlb0","http://a/p":[{"@id":"_:b1"},{"@id":"_:a b"}]}
row_13 : says_in_both None [] (object 0 (member 1 (codes "@id") (scalar 7 (Str (codes "_:jlb0"))) (member 16 (codes "http://a/p") (array 29 (item (object 30 (member 31 (codes "@id") (scalar 37 (Str (codes "_:b1"))) no_member)) (item (object 45 (member 46 (codes "@id") (scalar 52 (Str (codes "_:a b"))) no_member)) no_item))) no_member))) (codes "_:jlx6a6c6230 <http://a/p> _:b1 .\n" ∷ codes "_:jlx6a6c6230 <http://a/p> _:jlx612062 .\n" ∷ []) ≡ true
unfolding says_in_both
row_13 = refl

-- {"@id":"http://a/s","http://a/p":[{"@type":"http://www.w3.org/2001/XMLSchema#double","@value":1234},true,-0,0,{"@language":"en","@value":"x"},{"@value":"y","@type":"http://a/d"}]}
row_14 : says_in_both None [] (object 0 (member 1 (codes "@id") (scalar 7 (Str (codes "http://a/s"))) (member 20 (codes "http://a/p") (array 33 (item (object 34 (member 35 (codes "@type") (scalar 43 (Str (codes "http://www.w3.org/2001/XMLSchema#double"))) (member 85 (codes "@value") (scalar 94 (Number (codes "1234"))) no_member))) (item (scalar 100 (truth true)) (item (scalar 105 (Number (codes "-0"))) (item (scalar 108 (Number (codes "0"))) (item (object 110 (member 111 (codes "@language") (scalar 123 (Str (codes "en"))) (member 128 (codes "@value") (scalar 137 (Str (codes "x"))) no_member))) (item (object 142 (member 143 (codes "@value") (scalar 152 (Str (codes "y"))) (member 156 (codes "@type") (scalar 164 (Str (codes "http://a/d"))) no_member))) no_item))))))) no_member))) (codes "<http://a/s> <http://a/p> \"0\"^^<http://www.w3.org/2001/XMLSchema#integer> .\n" ∷ codes "<http://a/s> <http://a/p> \"1.234E3\"^^<http://www.w3.org/2001/XMLSchema#double> .\n" ∷ codes "<http://a/s> <http://a/p> \"true\"^^<http://www.w3.org/2001/XMLSchema#boolean> .\n" ∷ codes "<http://a/s> <http://a/p> \"x\"@en .\n" ∷ codes "<http://a/s> <http://a/p> \"y\"^^<http://a/d> .\n" ∷ []) ≡ true
unfolding says_in_both
row_14 = refl

-- {"@id":"http://a/s","http://a/p":1}
row_15 : says_in_both None [] (object 0 (member 1 (codes "@id") (scalar 7 (Str (codes "http://a/s"))) (member 20 (codes "http://a/p") (scalar 33 (Number (codes "1"))) no_member))) (codes "<http://a/s> <http://a/p> \"1\"^^<http://www.w3.org/2001/XMLSchema#integer> .\n" ∷ []) ≡ true
unfolding says_in_both
row_15 = refl

-- {"@id":"http://a/s","name":"x"}
row_16 : says_in_both None [] (object 0 (member 1 (codes "@id") (scalar 7 (Str (codes "http://a/s"))) (member 20 (codes "name") (scalar 27 (Str (codes "x"))) no_member))) [] ≡ true
unfolding says_in_both
row_16 = refl

-- {"@id":"http://a/s","http://a/p":"a\u0022\n"}
row_17 : says_in_both None [] (object 0 (member 1 (codes "@id") (scalar 7 (Str (codes "http://a/s"))) (member 20 (codes "http://a/p") (scalar 33 (Str (97 ∷ 34 ∷ 10 ∷ []))) no_member))) (codes "<http://a/s> <http://a/p> \"a\\\"\\n\" .\n" ∷ []) ≡ true
unfolding says_in_both
row_17 = refl

--  { "@id" : "http://a/s" ,  "http://a/p": "x" }
row_18 : says_in_both None [] (object 1 (member 3 (codes "@id") (scalar 11 (Str (codes "http://a/s"))) (member 27 (codes "http://a/p") (scalar 41 (Str (codes "x"))) no_member))) (codes "<http://a/s> <http://a/p> \"x\" .\n" ∷ []) ≡ true
unfolding says_in_both
row_18 = refl

-- {"http://a/p":1e-1}
row_19 : is_refused_in_both None [] (object 0 (member 1 (codes "http://a/p") (scalar 14 (Number (codes "1e-1"))) no_member)) (fault code.NumberNotWhole 14 ∷ []) ≡ true
unfolding is_refused_in_both
row_19 = refl

-- {"@id":"http://a/s","1a:b":{"@id":"http://a/o","http://a/p":[1.5]}}
row_20 : is_refused_in_both None [] (object 0 (member 1 (codes "@id") (scalar 7 (Str (codes "http://a/s"))) (member 20 (codes "1a:b") (object 27 (member 28 (codes "@id") (scalar 34 (Str (codes "http://a/o"))) (member 47 (codes "http://a/p") (array 60 (item (scalar 61 (Number (codes "1.5"))) no_item)) no_member))) no_member))) (fault code.NumberNotWhole 61 ∷ []) ≡ true
unfolding is_refused_in_both
row_20 = refl

-- {"@id":"http://a/s","p":1.5,"@foo":{"@id":5}}
row_21 : says_in_both None [] (object 0 (member 1 (codes "@id") (scalar 7 (Str (codes "http://a/s"))) (member 20 (codes "p") (scalar 24 (Number (codes "1.5"))) (member 28 (codes "@foo") (object 35 (member 36 (codes "@id") (scalar 42 (Number (codes "5"))) no_member)) no_member)))) [] ≡ true
unfolding says_in_both
row_21 = refl

-- {"@context":{"i":{"@id":"http://a/i","@container":"@id"}},"@id":"_:jlx","@type":"_:a b","i":{"_:b":{}}}
row_22 : says_in_both None [] (object 0 (member 1 (codes "@context") (object 12 (member 13 (codes "i") (object 17 (member 18 (codes "@id") (scalar 24 (Str (codes "http://a/i"))) (member 37 (codes "@container") (scalar 50 (Str (codes "@id"))) no_member))) no_member)) (member 58 (codes "@id") (scalar 64 (Str (codes "_:jlx"))) (member 72 (codes "@type") (scalar 80 (Str (codes "_:a b"))) (member 88 (codes "i") (object 92 (member 93 (codes "_:b") (object 99 no_member) no_member)) no_member))))) (codes "_:jlx6a6c78 <http://a/i> _:b .\n" ∷ codes "_:jlx6a6c78 <http://www.w3.org/1999/02/22-rdf-syntax-ns#type> _:jlx612062 .\n" ∷ []) ≡ true
unfolding says_in_both
row_22 = refl

-- {"@id":"http://a/s","_:p":{"@id":"http://a/o","http://a/q":"x"}}
row_23 : says_in_both None [] (object 0 (member 1 (codes "@id") (scalar 7 (Str (codes "http://a/s"))) (member 20 (codes "_:p") (object 26 (member 27 (codes "@id") (scalar 33 (Str (codes "http://a/o"))) (member 46 (codes "http://a/q") (scalar 59 (Str (codes "x"))) no_member))) no_member))) (codes "<http://a/o> <http://a/q> \"x\" .\n" ∷ []) ≡ true
unfolding says_in_both
row_23 = refl

-- {"@id":"","http://a/p":{"@id":"#x"}} with the base http://a/b?q#f
row_24 : says_in_both (Some (codes "http://a/b?q#f")) [] (object 0 (member 1 (codes "@id") (scalar 7 (Str ([]))) (member 10 (codes "http://a/p") (object 23 (member 24 (codes "@id") (scalar 30 (Str (codes "#x"))) no_member)) no_member))) (codes "<http://a/b?q> <http://a/p> <http://a/b?q#x> .\n" ∷ []) ≡ true
unfolding says_in_both
row_24 = refl

-- {"@id":"y","http://a/p":"1"} with the base x:a/b
row_25 : says_in_both (Some (codes "x:a/b")) [] (object 0 (member 1 (codes "@id") (scalar 7 (Str (codes "y"))) (member 11 (codes "http://a/p") (scalar 24 (Str (codes "1"))) no_member))) (codes "<x:a/y> <http://a/p> \"1\" .\n" ∷ []) ≡ true
unfolding says_in_both
row_25 = refl

-- {"@context":{"p":{"@id":"http://a/p","@type":"@id"}},"@id":"http://a/s","p":["1a:b",":b"]} with the base http://d/e
row_26 : says_in_both (Some (codes "http://d/e")) [] (object 0 (member 1 (codes "@context") (object 12 (member 13 (codes "p") (object 17 (member 18 (codes "@id") (scalar 24 (Str (codes "http://a/p"))) (member 37 (codes "@type") (scalar 45 (Str (codes "@id"))) no_member))) no_member)) (member 53 (codes "@id") (scalar 59 (Str (codes "http://a/s"))) (member 72 (codes "p") (array 76 (item (scalar 77 (Str (codes "1a:b"))) (item (scalar 84 (Str (codes ":b"))) no_item))) no_member)))) (codes "<http://a/s> <http://a/p> <http://d/:b> .\n" ∷ []) ≡ true
unfolding says_in_both
row_26 = refl

-- {"@context":{"i":"@id"},"@id":5,"i":"http://a/x"}
row_27 : is_refused_in_both None [] (object 0 (member 1 (codes "@context") (object 12 (member 13 (codes "i") (scalar 17 (Str (codes "@id"))) no_member)) (member 24 (codes "@id") (scalar 30 (Number (codes "5"))) (member 32 (codes "i") (scalar 36 (Str (codes "http://a/x"))) no_member)))) (fault code.CollidingKeywords 32 ∷ fault code.InvalidIdValue 24 ∷ []) ≡ true
unfolding is_refused_in_both
row_27 = refl

-- {"@id":"http://a/s","http://a/p":{"@value":1,"@language":5}}
row_28 : is_refused_in_both None [] (object 0 (member 1 (codes "@id") (scalar 7 (Str (codes "http://a/s"))) (member 20 (codes "http://a/p") (object 33 (member 34 (codes "@value") (scalar 43 (Number (codes "1"))) (member 45 (codes "@language") (scalar 57 (Number (codes "5"))) no_member))) no_member))) (fault code.InvalidLanguageTaggedString 45 ∷ fault code.InvalidLanguageTaggedValue 33 ∷ []) ≡ true
unfolding is_refused_in_both
row_28 = refl

-- {"@id":"http://a/s#a#b","http://a/p":"x"}
row_29 : says_in_both None [] (object 0 (member 1 (codes "@id") (scalar 7 (Str (codes "http://a/s#a#b"))) (member 24 (codes "http://a/p") (scalar 37 (Str (codes "x"))) no_member))) (codes "<http://a/s#a#b> <http://a/p> \"x\" .\n" ∷ []) ≡ true
unfolding says_in_both
row_29 = refl

-- {"@id":"http://a/s","http://a/p":"x","http://a/q":"y"}
row_30 : says_in_both None [] (object 0 (member 1 (codes "@id") (scalar 7 (Str (codes "http://a/s"))) (member 20 (codes "http://a/p") (scalar 33 (Str (codes "x"))) (member 37 (codes "http://a/q") (scalar 50 (Str (codes "y"))) no_member)))) (codes "<http://a/s> <http://a/p> \"x\" .\n" ∷ codes "<http://a/s> <http://a/q> \"y\" .\n" ∷ []) ≡ true
unfolding says_in_both
row_30 = refl

-- {"@id":"http://a/s","@type":["http://a/T",5]}
row_31 : is_refused_in_both None [] (object 0 (member 1 (codes "@id") (scalar 7 (Str (codes "http://a/s"))) (member 20 (codes "@type") (array 28 (item (scalar 29 (Str (codes "http://a/T"))) (item (scalar 42 (Number (codes "5"))) no_item))) no_member))) (fault code.InvalidTypeValue 20 ∷ []) ≡ true
unfolding is_refused_in_both
row_31 = refl

-- {"@type":{},"@index":5}
row_32 : is_refused_in_both None [] (object 0 (member 1 (codes "@type") (object 9 no_member) (member 12 (codes "@index") (scalar 21 (Number (codes "5"))) no_member))) (fault code.InvalidTypeValue 1 ∷ fault code.InvalidIndexValue 12 ∷ []) ≡ true
unfolding is_refused_in_both
row_32 = refl

-- {"@id":"http://a/s","http://a/p":{"@value":"x","@direction":"up"}}
row_33 : is_refused_in_both None [] (object 0 (member 1 (codes "@id") (scalar 7 (Str (codes "http://a/s"))) (member 20 (codes "http://a/p") (object 33 (member 34 (codes "@value") (scalar 43 (Str (codes "x"))) (member 47 (codes "@direction") (scalar 60 (Str (codes "up"))) no_member))) no_member))) (fault code.InvalidBaseDirection 47 ∷ []) ≡ true
unfolding is_refused_in_both
row_33 = refl
