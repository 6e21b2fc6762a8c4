-- One walk says what the dataset has: nodes and values, lists and sets, contexts, maps, graphs, nested, reversed and
-- included members. Each document stands above its row.
use Rattle.std.specs.Prelude.{None, Some, [], codes, refl, true, ◌++◌, ◌∷◌, ◌≡◌}
use Rattle.jl_model.specs.JsonTree.{array, item, member, no_item, no_member, object, scalar}
use Rattle.jl_model.specs.declared.orders.Order.TheVariants.{Any, Streaming}
use Rattle.jl_model.specs.declared.scalars.Scalar.TheVariants.{Bool as truth, Null, Number, Str}
use Rattle.jl_defs.proofs.RowWords.{settings}
use Rattle.jl_laws.proofs.RowWords.{walked, walked_in_both}

-- {"@id":"http://a/s","http://a/p":"x"}
row_1 : walked_in_both None [] (object 0 (member 1 (codes "@id") (scalar 7 (Str (codes "http://a/s"))) (member 20 (codes "http://a/p") (scalar 33 (Str (codes "x"))) no_member))) (codes "<http://a/s> <http://a/p> \"x\" .\n" ∷ []) ≡ true
unfolding walked_in_both
row_1 = refl

-- []
row_2 : walked_in_both None [] (array 0 no_item) [] ≡ true
unfolding walked_in_both
row_2 = refl

-- {"http://a/p":"x","@id":"http://a/s"}
row_3 : walked (settings Any None []) (object 0 (member 1 (codes "http://a/p") (scalar 14 (Str (codes "x"))) (member 18 (codes "@id") (scalar 24 (Str (codes "http://a/s"))) no_member))) (codes "<http://a/s> <http://a/p> \"x\" .\n" ∷ []) ≡ true
unfolding walked
row_3 = refl

-- {"@id":"_:jlb0","http://a/p":[{"@id":"_:b1"},{"@id":"_:a b"}]}
row_4 : walked_in_both None [] (object 0 (member 1 (codes "@id") (scalar 7 (Str (codes "_:jlb0"))) (member 16 (codes "http://a/p") (array 29 (item (object 30 (member 31 (codes "@id") (scalar 37 (Str (codes "_:b1"))) no_member)) (item (object 45 (member 46 (codes "@id") (scalar 52 (Str (codes "_:a b"))) no_member)) no_item))) no_member))) (codes "_:jlx6a6c6230 <http://a/p> _:b1 .\n" ∷ codes "_:jlx6a6c6230 <http://a/p> _:jlx612062 .\n" ∷ []) ≡ true
unfolding walked_in_both
row_4 = refl

-- {"@id":"http://a/s","http://a/p":[{"@type":"http://www.w3.org/2001/XMLSchema#double","@value":1234},true,-0,0,{"@language":"en","@value":"x"},{"@value":"y","@type":"http://a/d"}]}
row_5 : walked_in_both None [] (object 0 (member 1 (codes "@id") (scalar 7 (Str (codes "http://a/s"))) (member 20 (codes "http://a/p") (array 33 (item (object 34 (member 35 (codes "@type") (scalar 43 (Str (codes "http://www.w3.org/2001/XMLSchema#double"))) (member 85 (codes "@value") (scalar 94 (Number (codes "1234"))) no_member))) (item (scalar 100 (truth true)) (item (scalar 105 (Number (codes "-0"))) (item (scalar 108 (Number (codes "0"))) (item (object 110 (member 111 (codes "@language") (scalar 123 (Str (codes "en"))) (member 128 (codes "@value") (scalar 137 (Str (codes "x"))) no_member))) (item (object 142 (member 143 (codes "@value") (scalar 152 (Str (codes "y"))) (member 156 (codes "@type") (scalar 164 (Str (codes "http://a/d"))) no_member))) no_item))))))) no_member))) (codes "<http://a/s> <http://a/p> \"0\"^^<http://www.w3.org/2001/XMLSchema#integer> .\n" ∷ codes "<http://a/s> <http://a/p> \"1.234E3\"^^<http://www.w3.org/2001/XMLSchema#double> .\n" ∷ codes "<http://a/s> <http://a/p> \"true\"^^<http://www.w3.org/2001/XMLSchema#boolean> .\n" ∷ codes "<http://a/s> <http://a/p> \"x\"@en .\n" ∷ codes "<http://a/s> <http://a/p> \"y\"^^<http://a/d> .\n" ∷ []) ≡ true
unfolding walked_in_both
row_5 = refl

-- {"@context":{"i":{"@id":"http://a/i","@container":"@id"}},"@id":"_:jlx","@type":"_:a b","i":{"_:b":{}}}
row_6 : walked_in_both None [] (object 0 (member 1 (codes "@context") (object 12 (member 13 (codes "i") (object 17 (member 18 (codes "@id") (scalar 24 (Str (codes "http://a/i"))) (member 37 (codes "@container") (scalar 50 (Str (codes "@id"))) no_member))) no_member)) (member 58 (codes "@id") (scalar 64 (Str (codes "_:jlx"))) (member 72 (codes "@type") (scalar 80 (Str (codes "_:a b"))) (member 88 (codes "i") (object 92 (member 93 (codes "_:b") (object 99 no_member) no_member)) no_member))))) (codes "_:jlx6a6c78 <http://a/i> _:b .\n" ∷ codes "_:jlx6a6c78 <http://www.w3.org/1999/02/22-rdf-syntax-ns#type> _:jlx612062 .\n" ∷ []) ≡ true
unfolding walked_in_both
row_6 = refl

-- {"@id":"http://a/s","_:p":{"@id":"http://a/o","http://a/q":"x"}}
row_7 : walked_in_both None [] (object 0 (member 1 (codes "@id") (scalar 7 (Str (codes "http://a/s"))) (member 20 (codes "_:p") (object 26 (member 27 (codes "@id") (scalar 33 (Str (codes "http://a/o"))) (member 46 (codes "http://a/q") (scalar 59 (Str (codes "x"))) no_member))) no_member))) (codes "<http://a/o> <http://a/q> \"x\" .\n" ∷ []) ≡ true
unfolding walked_in_both
row_7 = refl

-- {"@context":{"j":{"@id":"http://a/j","@type":"@json"}},"@id":"http://a/s","j":{"\ufb01":1,"\ud83d\ude00":2}}
row_8 : walked_in_both None [] (object 0 (member 1 (codes "@context") (object 12 (member 13 (codes "j") (object 17 (member 18 (codes "@id") (scalar 24 (Str (codes "http://a/j"))) (member 37 (codes "@type") (scalar 45 (Str (codes "@json"))) no_member))) no_member)) (member 55 (codes "@id") (scalar 61 (Str (codes "http://a/s"))) (member 74 (codes "j") (object 78 (member 79 (239 ∷ 172 ∷ 129 ∷ []) (scalar 88 (Number (codes "1"))) (member 90 (240 ∷ 159 ∷ 152 ∷ 128 ∷ []) (scalar 105 (Number (codes "2"))) no_member))) no_member)))) ((codes "<http://a/s> <http://a/j> \"{\\\"" ++ (240 ∷ 159 ∷ 152 ∷ 128 ∷ []) ++ codes "\\\":2,\\\"" ++ (239 ∷ 172 ∷ 129 ∷ []) ++ codes "\\\":1}\"^^<http://www.w3.org/1999/02/22-rdf-syntax-ns#JSON> .\n") ∷ []) ≡ true
unfolding walked_in_both
row_8 = refl

-- {"@id":"http://a/s","http://a/p":{"@type":"@json","@value":[1,{"b":null,"a":true}]}}
row_9 : walked_in_both None [] (object 0 (member 1 (codes "@id") (scalar 7 (Str (codes "http://a/s"))) (member 20 (codes "http://a/p") (object 33 (member 34 (codes "@type") (scalar 42 (Str (codes "@json"))) (member 50 (codes "@value") (array 59 (item (scalar 60 (Number (codes "1"))) (item (object 62 (member 63 (codes "b") (scalar 67 Null) (member 72 (codes "a") (scalar 76 (truth true)) no_member))) no_item))) no_member))) no_member))) (codes "<http://a/s> <http://a/p> \"[1,{\\\"a\\\":true,\\\"b\\\":null}]\"^^<http://www.w3.org/1999/02/22-rdf-syntax-ns#JSON> .\n" ∷ []) ≡ true
unfolding walked_in_both
row_9 = refl

-- {"@id":"http://a/s","http://a/p":{"@value":"x","@language":"en-US","@direction":"rtl"}}
row_10 : walked_in_both None [] (object 0 (member 1 (codes "@id") (scalar 7 (Str (codes "http://a/s"))) (member 20 (codes "http://a/p") (object 33 (member 34 (codes "@value") (scalar 43 (Str (codes "x"))) (member 47 (codes "@language") (scalar 59 (Str (codes "en-US"))) (member 67 (codes "@direction") (scalar 80 (Str (codes "rtl"))) no_member)))) no_member))) (codes "<http://a/s> <http://a/p> \"x\"@en-US .\n" ∷ []) ≡ true
unfolding walked_in_both
row_10 = refl

-- {"@id":"http://a/s","http://a/p":{"@value":[1],"@type":"@json"}}
row_11 : walked (settings Any None []) (object 0 (member 1 (codes "@id") (scalar 7 (Str (codes "http://a/s"))) (member 20 (codes "http://a/p") (object 33 (member 34 (codes "@value") (array 43 (item (scalar 44 (Number (codes "1"))) no_item)) (member 47 (codes "@type") (scalar 55 (Str (codes "@json"))) no_member))) no_member))) (codes "<http://a/s> <http://a/p> \"[1]\"^^<http://www.w3.org/1999/02/22-rdf-syntax-ns#JSON> .\n" ∷ []) ≡ true
unfolding walked
row_11 = refl

-- {"@id":"http://a/s","http://a/p":{"@type":"@json","@value":null}}
row_12 : walked_in_both None [] (object 0 (member 1 (codes "@id") (scalar 7 (Str (codes "http://a/s"))) (member 20 (codes "http://a/p") (object 33 (member 34 (codes "@type") (scalar 42 (Str (codes "@json"))) (member 50 (codes "@value") (scalar 59 Null) no_member))) no_member))) (codes "<http://a/s> <http://a/p> \"null\"^^<http://www.w3.org/1999/02/22-rdf-syntax-ns#JSON> .\n" ∷ []) ≡ true
unfolding walked_in_both
row_12 = refl

-- {"@context":{"p":{"@id":"http://a/p","@type":"@id"}},"@id":"http://a/s","p":[7,{"@type":"http://www.w3.org/2001/XMLSchema#double","@value":true}]}
row_13 : walked_in_both None [] (object 0 (member 1 (codes "@context") (object 12 (member 13 (codes "p") (object 17 (member 18 (codes "@id") (scalar 24 (Str (codes "http://a/p"))) (member 37 (codes "@type") (scalar 45 (Str (codes "@id"))) no_member))) no_member)) (member 53 (codes "@id") (scalar 59 (Str (codes "http://a/s"))) (member 72 (codes "p") (array 76 (item (scalar 77 (Number (codes "7"))) (item (object 79 (member 80 (codes "@type") (scalar 88 (Str (codes "http://www.w3.org/2001/XMLSchema#double"))) (member 130 (codes "@value") (scalar 139 (truth true)) no_member))) no_item))) no_member)))) (codes "<http://a/s> <http://a/p> \"7\"^^<http://www.w3.org/2001/XMLSchema#integer> .\n" ∷ codes "<http://a/s> <http://a/p> \"true\"^^<http://www.w3.org/2001/XMLSchema#double> .\n" ∷ []) ≡ true
unfolding walked_in_both
row_13 = refl

-- {"@id":"http://a/s","http://a/p":[{"@value":"x","@language":"EN"},{"@list":[{"@value":"y","@language":"e n"}]}]}
row_14 : walked_in_both None [] (object 0 (member 1 (codes "@id") (scalar 7 (Str (codes "http://a/s"))) (member 20 (codes "http://a/p") (array 33 (item (object 34 (member 35 (codes "@value") (scalar 44 (Str (codes "x"))) (member 48 (codes "@language") (scalar 60 (Str (codes "EN"))) no_member))) (item (object 66 (member 67 (codes "@list") (array 75 (item (object 76 (member 77 (codes "@value") (scalar 86 (Str (codes "y"))) (member 90 (codes "@language") (scalar 102 (Str (codes "e n"))) no_member))) no_item)) no_member)) no_item))) no_member))) (codes "<http://a/s> <http://a/p> \"x\"@EN .\n" ∷ codes "<http://a/s> <http://a/p> _:jll76 .\n" ∷ codes "_:jll76 <http://www.w3.org/1999/02/22-rdf-syntax-ns#rest> <http://www.w3.org/1999/02/22-rdf-syntax-ns#nil> .\n" ∷ []) ≡ true
unfolding walked_in_both
row_14 = refl

-- {"@id":"http://a/s","http://a/p":{"@type":"@json","@value":{"\ufb01":-0,"\ud83d\ude00":"\u007f\u0001","":[]}}}
row_15 : walked_in_both None [] (object 0 (member 1 (codes "@id") (scalar 7 (Str (codes "http://a/s"))) (member 20 (codes "http://a/p") (object 33 (member 34 (codes "@type") (scalar 42 (Str (codes "@json"))) (member 50 (codes "@value") (object 59 (member 60 (239 ∷ 172 ∷ 129 ∷ []) (scalar 69 (Number (codes "-0"))) (member 72 (240 ∷ 159 ∷ 152 ∷ 128 ∷ []) (scalar 87 (Str (127 ∷ 1 ∷ []))) (member 102 ([]) (array 105 no_item) no_member)))) no_member))) no_member))) ((codes "<http://a/s> <http://a/p> \"{\\\"\\\":[],\\\"" ++ (240 ∷ 159 ∷ 152 ∷ 128 ∷ []) ++ codes "\\\":\\\"" ++ (127 ∷ []) ++ codes "\\\\u0001\\\",\\\"" ++ (239 ∷ 172 ∷ 129 ∷ []) ++ codes "\\\":0}\"^^<http://www.w3.org/1999/02/22-rdf-syntax-ns#JSON> .\n") ∷ []) ≡ true
unfolding walked_in_both
row_15 = refl

-- {"@context":{"p":{"@id":"http://a/p","@context":{"p":{"@id":"http://a/p","@type":"@json"}}}},"@id":"http://a/s","p":"x"}
row_16 : walked_in_both None [] (object 0 (member 1 (codes "@context") (object 12 (member 13 (codes "p") (object 17 (member 18 (codes "@id") (scalar 24 (Str (codes "http://a/p"))) (member 37 (codes "@context") (object 48 (member 49 (codes "p") (object 53 (member 54 (codes "@id") (scalar 60 (Str (codes "http://a/p"))) (member 73 (codes "@type") (scalar 81 (Str (codes "@json"))) no_member))) no_member)) no_member))) no_member)) (member 93 (codes "@id") (scalar 99 (Str (codes "http://a/s"))) (member 112 (codes "p") (scalar 116 (Str (codes "x"))) no_member)))) [] ≡ true
unfolding walked_in_both
row_16 = refl

-- {"@id":"http://a/s","http://a/p":{"@list":[]}}
row_17 : walked_in_both None [] (object 0 (member 1 (codes "@id") (scalar 7 (Str (codes "http://a/s"))) (member 20 (codes "http://a/p") (object 33 (member 34 (codes "@list") (array 42 no_item) no_member)) no_member))) (codes "<http://a/s> <http://a/p> <http://www.w3.org/1999/02/22-rdf-syntax-ns#nil> .\n" ∷ []) ≡ true
unfolding walked_in_both
row_17 = refl

-- {"@id":"http://a/s","http://a/p":{"@list":[{"@id":"x y"}]}}
row_18 : walked_in_both None [] (object 0 (member 1 (codes "@id") (scalar 7 (Str (codes "http://a/s"))) (member 20 (codes "http://a/p") (object 33 (member 34 (codes "@list") (array 42 (item (object 43 (member 44 (codes "@id") (scalar 50 (Str (codes "x y"))) no_member)) no_item)) no_member)) no_member))) (codes "<http://a/s> <http://a/p> _:jll43 .\n" ∷ codes "_:jll43 <http://www.w3.org/1999/02/22-rdf-syntax-ns#rest> <http://www.w3.org/1999/02/22-rdf-syntax-ns#nil> .\n" ∷ []) ≡ true
unfolding walked_in_both
row_18 = refl

-- {"@context":{"l":{"@id":"http://a/l","@container":"@list"}},"@id":"http://a/s","l":[["x"],[]]}
row_19 : walked_in_both None [] (object 0 (member 1 (codes "@context") (object 12 (member 13 (codes "l") (object 17 (member 18 (codes "@id") (scalar 24 (Str (codes "http://a/l"))) (member 37 (codes "@container") (scalar 50 (Str (codes "@list"))) no_member))) no_member)) (member 60 (codes "@id") (scalar 66 (Str (codes "http://a/s"))) (member 79 (codes "l") (array 83 (item (array 84 (item (scalar 85 (Str (codes "x"))) no_item)) (item (array 90 no_item) no_item))) no_member)))) (codes "<http://a/s> <http://a/l> _:jll84 .\n" ∷ codes "_:jll84 <http://www.w3.org/1999/02/22-rdf-syntax-ns#first> _:jll85 .\n" ∷ codes "_:jll84 <http://www.w3.org/1999/02/22-rdf-syntax-ns#rest> _:jll90 .\n" ∷ codes "_:jll85 <http://www.w3.org/1999/02/22-rdf-syntax-ns#first> \"x\" .\n" ∷ codes "_:jll85 <http://www.w3.org/1999/02/22-rdf-syntax-ns#rest> <http://www.w3.org/1999/02/22-rdf-syntax-ns#nil> .\n" ∷ codes "_:jll90 <http://www.w3.org/1999/02/22-rdf-syntax-ns#first> <http://www.w3.org/1999/02/22-rdf-syntax-ns#nil> .\n" ∷ codes "_:jll90 <http://www.w3.org/1999/02/22-rdf-syntax-ns#rest> <http://www.w3.org/1999/02/22-rdf-syntax-ns#nil> .\n" ∷ []) ≡ true
unfolding walked_in_both
row_19 = refl

-- {"@context":{"l":{"@id":"http://a/l","@container":"@list"}},"@id":"http://a/s","l":[["x"]],"http://a/m":{"@list":[["y"]]}}
row_20 : walked_in_both None [] (object 0 (member 1 (codes "@context") (object 12 (member 13 (codes "l") (object 17 (member 18 (codes "@id") (scalar 24 (Str (codes "http://a/l"))) (member 37 (codes "@container") (scalar 50 (Str (codes "@list"))) no_member))) no_member)) (member 60 (codes "@id") (scalar 66 (Str (codes "http://a/s"))) (member 79 (codes "l") (array 83 (item (array 84 (item (scalar 85 (Str (codes "x"))) no_item)) no_item)) (member 91 (codes "http://a/m") (object 104 (member 105 (codes "@list") (array 113 (item (array 114 (item (scalar 115 (Str (codes "y"))) no_item)) no_item)) no_member)) no_member))))) (codes "<http://a/s> <http://a/l> _:jll84 .\n" ∷ codes "<http://a/s> <http://a/m> _:jll115 .\n" ∷ codes "_:jll115 <http://www.w3.org/1999/02/22-rdf-syntax-ns#first> \"y\" .\n" ∷ codes "_:jll115 <http://www.w3.org/1999/02/22-rdf-syntax-ns#rest> <http://www.w3.org/1999/02/22-rdf-syntax-ns#nil> .\n" ∷ codes "_:jll84 <http://www.w3.org/1999/02/22-rdf-syntax-ns#first> _:jll85 .\n" ∷ codes "_:jll84 <http://www.w3.org/1999/02/22-rdf-syntax-ns#rest> <http://www.w3.org/1999/02/22-rdf-syntax-ns#nil> .\n" ∷ codes "_:jll85 <http://www.w3.org/1999/02/22-rdf-syntax-ns#first> \"x\" .\n" ∷ codes "_:jll85 <http://www.w3.org/1999/02/22-rdf-syntax-ns#rest> <http://www.w3.org/1999/02/22-rdf-syntax-ns#nil> .\n" ∷ []) ≡ true
unfolding walked_in_both
row_20 = refl

-- {"@context":{"l":{"@id":"http://a/l","@container":"@list"}},"@id":"http://a/s","l":[{"@list":["x"]}]}
row_21 : walked_in_both None [] (object 0 (member 1 (codes "@context") (object 12 (member 13 (codes "l") (object 17 (member 18 (codes "@id") (scalar 24 (Str (codes "http://a/l"))) (member 37 (codes "@container") (scalar 50 (Str (codes "@list"))) no_member))) no_member)) (member 60 (codes "@id") (scalar 66 (Str (codes "http://a/s"))) (member 79 (codes "l") (array 83 (item (object 84 (member 85 (codes "@list") (array 93 (item (scalar 94 (Str (codes "x"))) no_item)) no_member)) no_item)) no_member)))) (codes "<http://a/s> <http://a/l> _:jll84 .\n" ∷ codes "_:jll84 <http://www.w3.org/1999/02/22-rdf-syntax-ns#first> _:jll94 .\n" ∷ codes "_:jll84 <http://www.w3.org/1999/02/22-rdf-syntax-ns#rest> <http://www.w3.org/1999/02/22-rdf-syntax-ns#nil> .\n" ∷ codes "_:jll94 <http://www.w3.org/1999/02/22-rdf-syntax-ns#first> \"x\" .\n" ∷ codes "_:jll94 <http://www.w3.org/1999/02/22-rdf-syntax-ns#rest> <http://www.w3.org/1999/02/22-rdf-syntax-ns#nil> .\n" ∷ []) ≡ true
unfolding walked_in_both
row_21 = refl

-- {"@graph":[{"@list":[{"@id":5}]},{"@set":[{"@id":"http://a/s","http://a/p":"x"}]}]}
row_22 : walked_in_both None [] (object 0 (member 1 (codes "@graph") (array 10 (item (object 11 (member 12 (codes "@list") (array 20 (item (object 21 (member 22 (codes "@id") (scalar 28 (Number (codes "5"))) no_member)) no_item)) no_member)) (item (object 33 (member 34 (codes "@set") (array 41 (item (object 42 (member 43 (codes "@id") (scalar 49 (Str (codes "http://a/s"))) (member 62 (codes "http://a/p") (scalar 75 (Str (codes "x"))) no_member))) no_item)) no_member)) no_item))) no_member)) (codes "<http://a/s> <http://a/p> \"x\" .\n" ∷ []) ≡ true
unfolding walked_in_both
row_22 = refl

-- {"@context":{"l":{"@id":"http://a/l","@container":"@list"}},"@id":"http://a/s","l":[{"@set":["x","y"]},"z"]}
row_23 : walked_in_both None [] (object 0 (member 1 (codes "@context") (object 12 (member 13 (codes "l") (object 17 (member 18 (codes "@id") (scalar 24 (Str (codes "http://a/l"))) (member 37 (codes "@container") (scalar 50 (Str (codes "@list"))) no_member))) no_member)) (member 60 (codes "@id") (scalar 66 (Str (codes "http://a/s"))) (member 79 (codes "l") (array 83 (item (object 84 (member 85 (codes "@set") (array 92 (item (scalar 93 (Str (codes "x"))) (item (scalar 97 (Str (codes "y"))) no_item))) no_member)) (item (scalar 103 (Str (codes "z"))) no_item))) no_member)))) (codes "<http://a/s> <http://a/l> _:jll93 .\n" ∷ codes "_:jll103 <http://www.w3.org/1999/02/22-rdf-syntax-ns#first> \"z\" .\n" ∷ codes "_:jll103 <http://www.w3.org/1999/02/22-rdf-syntax-ns#rest> <http://www.w3.org/1999/02/22-rdf-syntax-ns#nil> .\n" ∷ codes "_:jll93 <http://www.w3.org/1999/02/22-rdf-syntax-ns#first> \"x\" .\n" ∷ codes "_:jll93 <http://www.w3.org/1999/02/22-rdf-syntax-ns#rest> _:jll97 .\n" ∷ codes "_:jll97 <http://www.w3.org/1999/02/22-rdf-syntax-ns#first> \"y\" .\n" ∷ codes "_:jll97 <http://www.w3.org/1999/02/22-rdf-syntax-ns#rest> _:jll103 .\n" ∷ []) ≡ true
unfolding walked_in_both
row_23 = refl

-- {"p":"x","@context":{"p":"http://a/p"},"@id":"http://a/s"}
row_24 : walked (settings Any None []) (object 0 (member 1 (codes "p") (scalar 5 (Str (codes "x"))) (member 9 (codes "@context") (object 20 (member 21 (codes "p") (scalar 25 (Str (codes "http://a/p"))) no_member)) (member 39 (codes "@id") (scalar 45 (Str (codes "http://a/s"))) no_member)))) (codes "<http://a/s> <http://a/p> \"x\" .\n" ∷ []) ≡ true
unfolding walked
row_24 = refl

-- {"@context":{"@vocab":"http://v/","T":{"@context":{"p":"http://t/p"}}},"@id":"http://a/s","@type":"T","p":{"@id":"http://a/o","p":"x"}}
row_25 : walked_in_both None [] (object 0 (member 1 (codes "@context") (object 12 (member 13 (codes "@vocab") (scalar 22 (Str (codes "http://v/"))) (member 34 (codes "T") (object 38 (member 39 (codes "@context") (object 50 (member 51 (codes "p") (scalar 55 (Str (codes "http://t/p"))) no_member)) no_member)) no_member))) (member 71 (codes "@id") (scalar 77 (Str (codes "http://a/s"))) (member 90 (codes "@type") (scalar 98 (Str (codes "T"))) (member 102 (codes "p") (object 106 (member 107 (codes "@id") (scalar 113 (Str (codes "http://a/o"))) (member 126 (codes "p") (scalar 130 (Str (codes "x"))) no_member))) no_member))))) (codes "<http://a/o> <http://v/p> \"x\" .\n" ∷ codes "<http://a/s> <http://t/p> <http://a/o> .\n" ∷ codes "<http://a/s> <http://www.w3.org/1999/02/22-rdf-syntax-ns#type> <http://v/T> .\n" ∷ []) ≡ true
unfolding walked_in_both
row_25 = refl

-- {"@context":{"@vocab":"http://v/","T":{"@context":{"p":"http://t/p"}}},"@id":"http://a/s","@type":"T","p":{"@id":"http://a/o"}}
row_26 : walked_in_both None [] (object 0 (member 1 (codes "@context") (object 12 (member 13 (codes "@vocab") (scalar 22 (Str (codes "http://v/"))) (member 34 (codes "T") (object 38 (member 39 (codes "@context") (object 50 (member 51 (codes "p") (scalar 55 (Str (codes "http://t/p"))) no_member)) no_member)) no_member))) (member 71 (codes "@id") (scalar 77 (Str (codes "http://a/s"))) (member 90 (codes "@type") (scalar 98 (Str (codes "T"))) (member 102 (codes "p") (object 106 (member 107 (codes "@id") (scalar 113 (Str (codes "http://a/o"))) no_member)) no_member))))) (codes "<http://a/s> <http://t/p> <http://a/o> .\n" ∷ codes "<http://a/s> <http://www.w3.org/1999/02/22-rdf-syntax-ns#type> <http://v/T> .\n" ∷ []) ≡ true
unfolding walked_in_both
row_26 = refl

-- {"@context":{"l":{"@id":"http://a/l","@container":"@language"}},"@id":"http://a/s","l":{"en":"a","@none":["b",null],"x y":"c"}}
row_27 : walked_in_both None [] (object 0 (member 1 (codes "@context") (object 12 (member 13 (codes "l") (object 17 (member 18 (codes "@id") (scalar 24 (Str (codes "http://a/l"))) (member 37 (codes "@container") (scalar 50 (Str (codes "@language"))) no_member))) no_member)) (member 64 (codes "@id") (scalar 70 (Str (codes "http://a/s"))) (member 83 (codes "l") (object 87 (member 88 (codes "en") (scalar 93 (Str (codes "a"))) (member 97 (codes "@none") (array 105 (item (scalar 106 (Str (codes "b"))) (item (scalar 110 Null) no_item))) (member 116 (codes "x y") (scalar 122 (Str (codes "c"))) no_member)))) no_member)))) (codes "<http://a/s> <http://a/l> \"a\"@en .\n" ∷ codes "<http://a/s> <http://a/l> \"b\" .\n" ∷ []) ≡ true
unfolding walked_in_both
row_27 = refl

-- {"@context":{"@vocab":"http://v/","i":{"@id":"i","@container":"@index","@index":"k"},"t":{"@id":"t","@container":"@type"}},"@id":"http://a/s","i":{"one":{"@id":"http://a/x"}},"t":{"T":{"@id":"http://a/y"}}}
row_28 : walked_in_both None [] (object 0 (member 1 (codes "@context") (object 12 (member 13 (codes "@vocab") (scalar 22 (Str (codes "http://v/"))) (member 34 (codes "i") (object 38 (member 39 (codes "@id") (scalar 45 (Str (codes "i"))) (member 49 (codes "@container") (scalar 62 (Str (codes "@index"))) (member 71 (codes "@index") (scalar 80 (Str (codes "k"))) no_member)))) (member 85 (codes "t") (object 89 (member 90 (codes "@id") (scalar 96 (Str (codes "t"))) (member 100 (codes "@container") (scalar 113 (Str (codes "@type"))) no_member))) no_member)))) (member 123 (codes "@id") (scalar 129 (Str (codes "http://a/s"))) (member 142 (codes "i") (object 146 (member 147 (codes "one") (object 153 (member 154 (codes "@id") (scalar 160 (Str (codes "http://a/x"))) no_member)) no_member)) (member 175 (codes "t") (object 179 (member 180 (codes "T") (object 184 (member 185 (codes "@id") (scalar 191 (Str (codes "http://a/y"))) no_member)) no_member)) no_member))))) (codes "<http://a/s> <http://v/i> <http://a/x> .\n" ∷ codes "<http://a/s> <http://v/t> <http://a/y> .\n" ∷ codes "<http://a/x> <http://v/k> \"one\" .\n" ∷ codes "<http://a/y> <http://www.w3.org/1999/02/22-rdf-syntax-ns#type> <http://v/T> .\n" ∷ []) ≡ true
unfolding walked_in_both
row_28 = refl

-- {"@context":{"i":{"@id":"http://a/i","@type":"@id","@container":"@index","@index":"http://a/k"},"t":{"@id":"http://a/t","@container":"@type"}},"@id":"http://a/s","i":{"one":"http://a/x"},"t":{"http://a/C":"http://a/y"}}
row_29 : walked_in_both None [] (object 0 (member 1 (codes "@context") (object 12 (member 13 (codes "i") (object 17 (member 18 (codes "@id") (scalar 24 (Str (codes "http://a/i"))) (member 37 (codes "@type") (scalar 45 (Str (codes "@id"))) (member 51 (codes "@container") (scalar 64 (Str (codes "@index"))) (member 73 (codes "@index") (scalar 82 (Str (codes "http://a/k"))) no_member))))) (member 96 (codes "t") (object 100 (member 101 (codes "@id") (scalar 107 (Str (codes "http://a/t"))) (member 120 (codes "@container") (scalar 133 (Str (codes "@type"))) no_member))) no_member))) (member 143 (codes "@id") (scalar 149 (Str (codes "http://a/s"))) (member 162 (codes "i") (object 166 (member 167 (codes "one") (scalar 173 (Str (codes "http://a/x"))) no_member)) (member 187 (codes "t") (object 191 (member 192 (codes "http://a/C") (scalar 205 (Str (codes "http://a/y"))) no_member)) no_member))))) (codes "<http://a/s> <http://a/i> <http://a/x> .\n" ∷ codes "<http://a/s> <http://a/t> <http://a/y> .\n" ∷ codes "<http://a/x> <http://a/k> \"one\" .\n" ∷ codes "<http://a/y> <http://www.w3.org/1999/02/22-rdf-syntax-ns#type> <http://a/C> .\n" ∷ []) ≡ true
unfolding walked_in_both
row_29 = refl

-- {"@context":{"t":{"@id":"http://a/t","@container":"@type"}},"@id":"http://a/s","t":{"rel":{"@id":"http://a/x","@type":"rel"}}} with the base http://d/e
row_30 : walked_in_both (Some (codes "http://d/e")) [] (object 0 (member 1 (codes "@context") (object 12 (member 13 (codes "t") (object 17 (member 18 (codes "@id") (scalar 24 (Str (codes "http://a/t"))) (member 37 (codes "@container") (scalar 50 (Str (codes "@type"))) no_member))) no_member)) (member 60 (codes "@id") (scalar 66 (Str (codes "http://a/s"))) (member 79 (codes "t") (object 83 (member 84 (codes "rel") (object 90 (member 91 (codes "@id") (scalar 97 (Str (codes "http://a/x"))) (member 110 (codes "@type") (scalar 118 (Str (codes "rel"))) no_member))) no_member)) no_member)))) (codes "<http://a/s> <http://a/t> <http://a/x> .\n" ∷ codes "<http://a/x> <http://www.w3.org/1999/02/22-rdf-syntax-ns#type> <http://d/rel> .\n" ∷ []) ≡ true
unfolding walked_in_both
row_30 = refl

-- {"@context":{"@vocab":"http://v/","t":{"@id":"http://a/t","@container":"@type"},"T":{"@id":"http://a/T","@context":{"@vocab":"http://t/"}}},"@id":"http://a/s","t":{"T":{"@id":"http://a/x","p":"1"},"U":{"@id":"http://a/y","p":"2"}}}
row_31 : walked_in_both None [] (object 0 (member 1 (codes "@context") (object 12 (member 13 (codes "@vocab") (scalar 22 (Str (codes "http://v/"))) (member 34 (codes "t") (object 38 (member 39 (codes "@id") (scalar 45 (Str (codes "http://a/t"))) (member 58 (codes "@container") (scalar 71 (Str (codes "@type"))) no_member))) (member 80 (codes "T") (object 84 (member 85 (codes "@id") (scalar 91 (Str (codes "http://a/T"))) (member 104 (codes "@context") (object 115 (member 116 (codes "@vocab") (scalar 125 (Str (codes "http://t/"))) no_member)) no_member))) no_member)))) (member 140 (codes "@id") (scalar 146 (Str (codes "http://a/s"))) (member 159 (codes "t") (object 163 (member 164 (codes "T") (object 168 (member 169 (codes "@id") (scalar 175 (Str (codes "http://a/x"))) (member 188 (codes "p") (scalar 192 (Str (codes "1"))) no_member))) (member 197 (codes "U") (object 201 (member 202 (codes "@id") (scalar 208 (Str (codes "http://a/y"))) (member 221 (codes "p") (scalar 225 (Str (codes "2"))) no_member))) no_member))) no_member)))) (codes "<http://a/s> <http://a/t> <http://a/x> .\n" ∷ codes "<http://a/s> <http://a/t> <http://a/y> .\n" ∷ codes "<http://a/x> <http://t/p> \"1\" .\n" ∷ codes "<http://a/x> <http://www.w3.org/1999/02/22-rdf-syntax-ns#type> <http://a/T> .\n" ∷ codes "<http://a/y> <http://v/p> \"2\" .\n" ∷ codes "<http://a/y> <http://www.w3.org/1999/02/22-rdf-syntax-ns#type> <http://v/U> .\n" ∷ []) ≡ true
unfolding walked_in_both
row_31 = refl

-- {"@context":{"i":{"@id":"http://a/i","@container":"@id"}},"@id":"http://a/s","i":{"http://a/x":{"@id":"@foo","http://a/p":"1"}}}
row_32 : walked_in_both None [] (object 0 (member 1 (codes "@context") (object 12 (member 13 (codes "i") (object 17 (member 18 (codes "@id") (scalar 24 (Str (codes "http://a/i"))) (member 37 (codes "@container") (scalar 50 (Str (codes "@id"))) no_member))) no_member)) (member 58 (codes "@id") (scalar 64 (Str (codes "http://a/s"))) (member 77 (codes "i") (object 81 (member 82 (codes "http://a/x") (object 95 (member 96 (codes "@id") (scalar 102 (Str (codes "@foo"))) (member 109 (codes "http://a/p") (scalar 122 (Str (codes "1"))) no_member))) no_member)) no_member)))) (codes "<http://a/s> <http://a/i> <http://a/x> .\n" ∷ codes "<http://a/x> <http://a/p> \"1\" .\n" ∷ []) ≡ true
unfolding walked_in_both
row_32 = refl

-- {"@context":[{"k":"http://a/k","i":{"@id":"http://a/i","@container":"@index","@index":"k"}},{"k":null}],"@id":"http://a/s","i":{"one":{"@id":"http://a/o"},"two":{"@list":[]}}}
row_33 : walked_in_both None [] (object 0 (member 1 (codes "@context") (array 12 (item (object 13 (member 14 (codes "k") (scalar 18 (Str (codes "http://a/k"))) (member 31 (codes "i") (object 35 (member 36 (codes "@id") (scalar 42 (Str (codes "http://a/i"))) (member 55 (codes "@container") (scalar 68 (Str (codes "@index"))) (member 77 (codes "@index") (scalar 86 (Str (codes "k"))) no_member)))) no_member))) (item (object 92 (member 93 (codes "k") (scalar 97 Null) no_member)) no_item))) (member 104 (codes "@id") (scalar 110 (Str (codes "http://a/s"))) (member 123 (codes "i") (object 127 (member 128 (codes "one") (object 134 (member 135 (codes "@id") (scalar 141 (Str (codes "http://a/o"))) no_member)) (member 155 (codes "two") (object 161 (member 162 (codes "@list") (array 170 no_item) no_member)) no_member))) no_member)))) (codes "<http://a/s> <http://a/i> <http://a/o> .\n" ∷ codes "<http://a/s> <http://a/i> <http://www.w3.org/1999/02/22-rdf-syntax-ns#nil> .\n" ∷ []) ≡ true
unfolding walked_in_both
row_33 = refl

-- {"@graph":[{"@id":"http://a/s","http://a/p":"x"}],"@id":"http://a/g"}
row_34 : walked (settings Any None []) (object 0 (member 1 (codes "@graph") (array 10 (item (object 11 (member 12 (codes "@id") (scalar 18 (Str (codes "http://a/s"))) (member 31 (codes "http://a/p") (scalar 44 (Str (codes "x"))) no_member))) no_item)) (member 50 (codes "@id") (scalar 56 (Str (codes "http://a/g"))) no_member))) (codes "<http://a/s> <http://a/p> \"x\" <http://a/g> .\n" ∷ []) ≡ true
unfolding walked
row_34 = refl

-- {"@graph":[{"@id":"http://a/s","http://a/p":"x"}]}
row_35 : walked_in_both None [] (object 0 (member 1 (codes "@graph") (array 10 (item (object 11 (member 12 (codes "@id") (scalar 18 (Str (codes "http://a/s"))) (member 31 (codes "http://a/p") (scalar 44 (Str (codes "x"))) no_member))) no_item)) no_member)) (codes "<http://a/s> <http://a/p> \"x\" .\n" ∷ []) ≡ true
unfolding walked_in_both
row_35 = refl

-- {"@context":{"g":{"@id":"http://a/g","@container":["@graph","@id"]}},"@id":"http://a/s","g":{"http://a/g1":{"@graph":[{"@id":"http://a/x","http://a/p":"1"}]},"http://a/g2":{"@id":"http://a/y","http://a/p":"2"}}}
row_36 : walked_in_both None [] (object 0 (member 1 (codes "@context") (object 12 (member 13 (codes "g") (object 17 (member 18 (codes "@id") (scalar 24 (Str (codes "http://a/g"))) (member 37 (codes "@container") (array 50 (item (scalar 51 (Str (codes "@graph"))) (item (scalar 60 (Str (codes "@id"))) no_item))) no_member))) no_member)) (member 69 (codes "@id") (scalar 75 (Str (codes "http://a/s"))) (member 88 (codes "g") (object 92 (member 93 (codes "http://a/g1") (object 107 (member 108 (codes "@graph") (array 117 (item (object 118 (member 119 (codes "@id") (scalar 125 (Str (codes "http://a/x"))) (member 138 (codes "http://a/p") (scalar 151 (Str (codes "1"))) no_member))) no_item)) no_member)) (member 158 (codes "http://a/g2") (object 172 (member 173 (codes "@id") (scalar 179 (Str (codes "http://a/y"))) (member 192 (codes "http://a/p") (scalar 205 (Str (codes "2"))) no_member))) no_member))) no_member)))) (codes "<http://a/s> <http://a/g> <http://a/g1> .\n" ∷ codes "<http://a/s> <http://a/g> <http://a/g2> .\n" ∷ codes "<http://a/x> <http://a/p> \"1\" <http://a/g1> .\n" ∷ codes "<http://a/y> <http://a/p> \"2\" <http://a/g2> .\n" ∷ []) ≡ true
unfolding walked_in_both
row_36 = refl

-- {"@context":{"g":{"@id":"http://a/g","@container":"@graph"}},"@id":"http://a/s","g":{"@id":"http://a/x","http://a/p":"1"}}
row_37 : walked_in_both None [] (object 0 (member 1 (codes "@context") (object 12 (member 13 (codes "g") (object 17 (member 18 (codes "@id") (scalar 24 (Str (codes "http://a/g"))) (member 37 (codes "@container") (scalar 50 (Str (codes "@graph"))) no_member))) no_member)) (member 61 (codes "@id") (scalar 67 (Str (codes "http://a/s"))) (member 80 (codes "g") (object 84 (member 85 (codes "@id") (scalar 91 (Str (codes "http://a/x"))) (member 104 (codes "http://a/p") (scalar 117 (Str (codes "1"))) no_member))) no_member)))) (codes "<http://a/s> <http://a/g> _:jlg84 .\n" ∷ codes "<http://a/x> <http://a/p> \"1\" _:jlg84 .\n" ∷ []) ≡ true
unfolding walked_in_both
row_37 = refl

-- {"@id":"x y","@graph":[{"@id":"http://a/1","http://a/p":"x"},{"@id":"http://a/g","@graph":[{"@id":"http://a/2","http://a/p":"y"}]}]}
row_38 : walked_in_both None [] (object 0 (member 1 (codes "@id") (scalar 7 (Str (codes "x y"))) (member 13 (codes "@graph") (array 22 (item (object 23 (member 24 (codes "@id") (scalar 30 (Str (codes "http://a/1"))) (member 43 (codes "http://a/p") (scalar 56 (Str (codes "x"))) no_member))) (item (object 61 (member 62 (codes "@id") (scalar 68 (Str (codes "http://a/g"))) (member 81 (codes "@graph") (array 90 (item (object 91 (member 92 (codes "@id") (scalar 98 (Str (codes "http://a/2"))) (member 111 (codes "http://a/p") (scalar 124 (Str (codes "y"))) no_member))) no_item)) no_member))) no_item))) no_member))) (codes "<http://a/2> <http://a/p> \"y\" <http://a/g> .\n" ∷ []) ≡ true
unfolding walked_in_both
row_38 = refl

-- {"@context":{"g":{"@id":"http://a/g","@container":["@graph","@id"]}},"@id":"http://a/s","g":{"http://a/k":{"@id":"http://a/own","@graph":{"@id":"http://a/x","http://a/p":"1"}}}}
row_39 : walked_in_both None [] (object 0 (member 1 (codes "@context") (object 12 (member 13 (codes "g") (object 17 (member 18 (codes "@id") (scalar 24 (Str (codes "http://a/g"))) (member 37 (codes "@container") (array 50 (item (scalar 51 (Str (codes "@graph"))) (item (scalar 60 (Str (codes "@id"))) no_item))) no_member))) no_member)) (member 69 (codes "@id") (scalar 75 (Str (codes "http://a/s"))) (member 88 (codes "g") (object 92 (member 93 (codes "http://a/k") (object 106 (member 107 (codes "@id") (scalar 113 (Str (codes "http://a/own"))) (member 128 (codes "@graph") (object 137 (member 138 (codes "@id") (scalar 144 (Str (codes "http://a/x"))) (member 157 (codes "http://a/p") (scalar 170 (Str (codes "1"))) no_member))) no_member))) no_member)) no_member)))) (codes "<http://a/s> <http://a/g> <http://a/own> .\n" ∷ codes "<http://a/x> <http://a/p> \"1\" <http://a/own> .\n" ∷ []) ≡ true
unfolding walked_in_both
row_39 = refl

-- {"@context":{"g":{"@id":"http://a/g","@container":"@graph"}},"@id":"http://a/s","g":["x",{"@list":[{"@id":"http://a/x","http://a/p":"1"}]}]}
row_40 : walked_in_both None [] (object 0 (member 1 (codes "@context") (object 12 (member 13 (codes "g") (object 17 (member 18 (codes "@id") (scalar 24 (Str (codes "http://a/g"))) (member 37 (codes "@container") (scalar 50 (Str (codes "@graph"))) no_member))) no_member)) (member 61 (codes "@id") (scalar 67 (Str (codes "http://a/s"))) (member 80 (codes "g") (array 84 (item (scalar 85 (Str (codes "x"))) (item (object 89 (member 90 (codes "@list") (array 98 (item (object 99 (member 100 (codes "@id") (scalar 106 (Str (codes "http://a/x"))) (member 119 (codes "http://a/p") (scalar 132 (Str (codes "1"))) no_member))) no_item)) no_member)) no_item))) no_member)))) (codes "<http://a/s> <http://a/g> _:jlg85 .\n" ∷ codes "<http://a/s> <http://a/g> _:jlg89 .\n" ∷ codes "<http://a/x> <http://a/p> \"1\" _:jlg89 .\n" ∷ []) ≡ true
unfolding walked_in_both
row_40 = refl

-- {"@context":{"g":{"@id":"http://a/g","@container":["@graph","@index"],"@index":"http://a/k"}},"@id":"http://a/s","g":{"one":"x"}}
row_41 : walked_in_both None [] (object 0 (member 1 (codes "@context") (object 12 (member 13 (codes "g") (object 17 (member 18 (codes "@id") (scalar 24 (Str (codes "http://a/g"))) (member 37 (codes "@container") (array 50 (item (scalar 51 (Str (codes "@graph"))) (item (scalar 60 (Str (codes "@index"))) no_item))) (member 70 (codes "@index") (scalar 79 (Str (codes "http://a/k"))) no_member)))) no_member)) (member 94 (codes "@id") (scalar 100 (Str (codes "http://a/s"))) (member 113 (codes "g") (object 117 (member 118 (codes "one") (scalar 124 (Str (codes "x"))) no_member)) no_member)))) (codes "<http://a/s> <http://a/g> _:jlg124 .\n" ∷ codes "_:jlg124 <http://a/k> \"one\" .\n" ∷ []) ≡ true
unfolding walked_in_both
row_41 = refl

-- {"@context":{"g":{"@id":"http://a/g","@container":["@graph","@id"]}},"@id":"http://a/s","g":{"http://a/k":{"u":1,"@index":"i","@graph":[{"@id":"http://a/x","http://a/p":"1"}]}}}
row_42 : walked_in_both None [] (object 0 (member 1 (codes "@context") (object 12 (member 13 (codes "g") (object 17 (member 18 (codes "@id") (scalar 24 (Str (codes "http://a/g"))) (member 37 (codes "@container") (array 50 (item (scalar 51 (Str (codes "@graph"))) (item (scalar 60 (Str (codes "@id"))) no_item))) no_member))) no_member)) (member 69 (codes "@id") (scalar 75 (Str (codes "http://a/s"))) (member 88 (codes "g") (object 92 (member 93 (codes "http://a/k") (object 106 (member 107 (codes "u") (scalar 111 (Number (codes "1"))) (member 113 (codes "@index") (scalar 122 (Str (codes "i"))) (member 126 (codes "@graph") (array 135 (item (object 136 (member 137 (codes "@id") (scalar 143 (Str (codes "http://a/x"))) (member 156 (codes "http://a/p") (scalar 169 (Str (codes "1"))) no_member))) no_item)) no_member)))) no_member)) no_member)))) (codes "<http://a/s> <http://a/g> <http://a/k> .\n" ∷ codes "<http://a/x> <http://a/p> \"1\" <http://a/k> .\n" ∷ []) ≡ true
unfolding walked_in_both
row_42 = refl

-- {"@context":{"g":{"@id":"http://a/g","@container":["@graph","@id"]}},"@id":"http://a/s","g":{"http://a/k":{"u":1,"@graph":[{"@id":"http://a/x","http://a/p":"1"}],"@index":"i"}}}
row_43 : walked (settings Any None []) (object 0 (member 1 (codes "@context") (object 12 (member 13 (codes "g") (object 17 (member 18 (codes "@id") (scalar 24 (Str (codes "http://a/g"))) (member 37 (codes "@container") (array 50 (item (scalar 51 (Str (codes "@graph"))) (item (scalar 60 (Str (codes "@id"))) no_item))) no_member))) no_member)) (member 69 (codes "@id") (scalar 75 (Str (codes "http://a/s"))) (member 88 (codes "g") (object 92 (member 93 (codes "http://a/k") (object 106 (member 107 (codes "u") (scalar 111 (Number (codes "1"))) (member 113 (codes "@graph") (array 122 (item (object 123 (member 124 (codes "@id") (scalar 130 (Str (codes "http://a/x"))) (member 143 (codes "http://a/p") (scalar 156 (Str (codes "1"))) no_member))) no_item)) (member 162 (codes "@index") (scalar 171 (Str (codes "i"))) no_member)))) no_member)) no_member)))) (codes "<http://a/s> <http://a/g> <http://a/k> .\n" ∷ codes "<http://a/x> <http://a/p> \"1\" <http://a/k> .\n" ∷ []) ≡ true
unfolding walked
row_43 = refl

-- {"@context":{"n":"@nest","c":{"@reverse":"http://a/p"}},"@id":"http://a/s","n":{"http://a/q":"x"},"c":{"@id":"http://a/o"},"@included":[{"@id":"http://a/i","http://a/q":"y"}]}
row_44 : walked_in_both None [] (object 0 (member 1 (codes "@context") (object 12 (member 13 (codes "n") (scalar 17 (Str (codes "@nest"))) (member 25 (codes "c") (object 29 (member 30 (codes "@reverse") (scalar 41 (Str (codes "http://a/p"))) no_member)) no_member))) (member 56 (codes "@id") (scalar 62 (Str (codes "http://a/s"))) (member 75 (codes "n") (object 79 (member 80 (codes "http://a/q") (scalar 93 (Str (codes "x"))) no_member)) (member 98 (codes "c") (object 102 (member 103 (codes "@id") (scalar 109 (Str (codes "http://a/o"))) no_member)) (member 123 (codes "@included") (array 135 (item (object 136 (member 137 (codes "@id") (scalar 143 (Str (codes "http://a/i"))) (member 156 (codes "http://a/q") (scalar 169 (Str (codes "y"))) no_member))) no_item)) no_member)))))) (codes "<http://a/i> <http://a/q> \"y\" .\n" ∷ codes "<http://a/o> <http://a/p> <http://a/s> .\n" ∷ codes "<http://a/s> <http://a/q> \"x\" .\n" ∷ []) ≡ true
unfolding walked_in_both
row_44 = refl

-- {"@context":{"r":{"@reverse":"http://a/r"}},"@id":"http://a/s","@reverse":{"r":{"@id":"http://a/o"}}}
row_45 : walked_in_both None [] (object 0 (member 1 (codes "@context") (object 12 (member 13 (codes "r") (object 17 (member 18 (codes "@reverse") (scalar 29 (Str (codes "http://a/r"))) no_member)) no_member)) (member 44 (codes "@id") (scalar 50 (Str (codes "http://a/s"))) (member 63 (codes "@reverse") (object 74 (member 75 (codes "r") (object 79 (member 80 (codes "@id") (scalar 86 (Str (codes "http://a/o"))) no_member)) no_member)) no_member)))) (codes "<http://a/s> <http://a/r> <http://a/o> .\n" ∷ []) ≡ true
unfolding walked_in_both
row_45 = refl

-- {"@id":"http://a/s","@reverse":{"http://a/p":[{"@value":null},null]}}
row_46 : walked_in_both None [] (object 0 (member 1 (codes "@id") (scalar 7 (Str (codes "http://a/s"))) (member 20 (codes "@reverse") (object 31 (member 32 (codes "http://a/p") (array 45 (item (object 46 (member 47 (codes "@value") (scalar 56 Null) no_member)) (item (scalar 62 Null) no_item))) no_member)) no_member))) [] ≡ true
unfolding walked_in_both
row_46 = refl

-- {"@context":{"r":{"@reverse":"http://a/r"}},"@id":"http://a/s","r":{"@id":"http://a/o"},"@reverse":{"http://a/p":{"@id":"http://a/o"}}}
row_47 : walked_in_both None [] (object 0 (member 1 (codes "@context") (object 12 (member 13 (codes "r") (object 17 (member 18 (codes "@reverse") (scalar 29 (Str (codes "http://a/r"))) no_member)) no_member)) (member 44 (codes "@id") (scalar 50 (Str (codes "http://a/s"))) (member 63 (codes "r") (object 67 (member 68 (codes "@id") (scalar 74 (Str (codes "http://a/o"))) no_member)) (member 88 (codes "@reverse") (object 99 (member 100 (codes "http://a/p") (object 113 (member 114 (codes "@id") (scalar 120 (Str (codes "http://a/o"))) no_member)) no_member)) no_member))))) (codes "<http://a/o> <http://a/p> <http://a/s> .\n" ∷ codes "<http://a/o> <http://a/r> <http://a/s> .\n" ∷ []) ≡ true
unfolding walked_in_both
row_47 = refl

-- {"@context":{"id":"@id"},"id":"http://a/s","@type":"http://a/T","http://a/p":{"http://a/q":"x","@id":"http://a/o"}}
row_48 : walked (settings Any None []) (object 0 (member 1 (codes "@context") (object 12 (member 13 (codes "id") (scalar 18 (Str (codes "@id"))) no_member)) (member 25 (codes "id") (scalar 30 (Str (codes "http://a/s"))) (member 43 (codes "@type") (scalar 51 (Str (codes "http://a/T"))) (member 64 (codes "http://a/p") (object 77 (member 78 (codes "http://a/q") (scalar 91 (Str (codes "x"))) (member 95 (codes "@id") (scalar 101 (Str (codes "http://a/o"))) no_member))) no_member))))) (codes "<http://a/o> <http://a/q> \"x\" .\n" ∷ codes "<http://a/s> <http://a/p> <http://a/o> .\n" ∷ codes "<http://a/s> <http://www.w3.org/1999/02/22-rdf-syntax-ns#type> <http://a/T> .\n" ∷ []) ≡ true
unfolding walked
row_48 = refl

-- {"@context":{"b":"@index","t":"@type","g":{"@id":"http://a/g","@container":["@graph","@index"]},"T":{"@id":"http://a/T","@context":{"b":"@graph","t":null}}},"@id":"http://a/s","g":{"k":{"t":"T","b":"x","u":1}}}
-- In streaming order only the rest of an item of a graph map tells whether it is used as it is. Here `b` means `@graph`
-- and stands before the rest, so the item is in a graph of its own.
row_49 : walked (settings Streaming None []) (object 0 (member 1 (codes "@context") (object 12 (member 13 (codes "b") (scalar 17 (Str (codes "@index"))) (member 26 (codes "t") (scalar 30 (Str (codes "@type"))) (member 38 (codes "g") (object 42 (member 43 (codes "@id") (scalar 49 (Str (codes "http://a/g"))) (member 62 (codes "@container") (array 75 (item (scalar 76 (Str (codes "@graph"))) (item (scalar 85 (Str (codes "@index"))) no_item))) no_member))) (member 96 (codes "T") (object 100 (member 101 (codes "@id") (scalar 107 (Str (codes "http://a/T"))) (member 120 (codes "@context") (object 131 (member 132 (codes "b") (scalar 136 (Str (codes "@graph"))) (member 145 (codes "t") (scalar 149 Null) no_member))) no_member))) no_member))))) (member 157 (codes "@id") (scalar 163 (Str (codes "http://a/s"))) (member 176 (codes "g") (object 180 (member 181 (codes "k") (object 185 (member 186 (codes "t") (scalar 190 (Str (codes "T"))) (member 194 (codes "b") (scalar 198 (Str (codes "x"))) (member 202 (codes "u") (scalar 206 (Number (codes "1"))) no_member)))) no_member)) no_member)))) (codes "<http://a/s> <http://a/g> _:jlg185 .\n" ∷ []) ≡ true
unfolding walked
row_49 = refl

-- {"@context":{"b":"@index","t":"@type","g":{"@id":"http://a/g","@container":["@graph","@index"]},"T":{"@id":"http://a/T","@context":{"b":"@graph","t":null}}},"@id":"http://a/s","g":{"k":{"t":"T","u":1,"b":"x"}}}
-- The same members in another order: here `b` stands in the rest, so the item is the graph. Without faults, the order of
-- members in an item of a graph map can so change what is said, in streaming order.
row_50 : walked (settings Streaming None []) (object 0 (member 1 (codes "@context") (object 12 (member 13 (codes "b") (scalar 17 (Str (codes "@index"))) (member 26 (codes "t") (scalar 30 (Str (codes "@type"))) (member 38 (codes "g") (object 42 (member 43 (codes "@id") (scalar 49 (Str (codes "http://a/g"))) (member 62 (codes "@container") (array 75 (item (scalar 76 (Str (codes "@graph"))) (item (scalar 85 (Str (codes "@index"))) no_item))) no_member))) (member 96 (codes "T") (object 100 (member 101 (codes "@id") (scalar 107 (Str (codes "http://a/T"))) (member 120 (codes "@context") (object 131 (member 132 (codes "b") (scalar 136 (Str (codes "@graph"))) (member 145 (codes "t") (scalar 149 Null) no_member))) no_member))) no_member))))) (member 157 (codes "@id") (scalar 163 (Str (codes "http://a/s"))) (member 176 (codes "g") (object 180 (member 181 (codes "k") (object 185 (member 186 (codes "t") (scalar 190 (Str (codes "T"))) (member 194 (codes "u") (scalar 198 (Number (codes "1"))) (member 200 (codes "b") (scalar 204 (Str (codes "x"))) no_member)))) no_member)) no_member)))) (codes "<http://a/s> <http://a/g> _:jlb185 .\n" ∷ []) ≡ true
unfolding walked
row_50 = refl

-- in the order any both say the same
row_51 : walked (settings Any None []) (object 0 (member 1 (codes "@context") (object 12 (member 13 (codes "b") (scalar 17 (Str (codes "@index"))) (member 26 (codes "t") (scalar 30 (Str (codes "@type"))) (member 38 (codes "g") (object 42 (member 43 (codes "@id") (scalar 49 (Str (codes "http://a/g"))) (member 62 (codes "@container") (array 75 (item (scalar 76 (Str (codes "@graph"))) (item (scalar 85 (Str (codes "@index"))) no_item))) no_member))) (member 96 (codes "T") (object 100 (member 101 (codes "@id") (scalar 107 (Str (codes "http://a/T"))) (member 120 (codes "@context") (object 131 (member 132 (codes "b") (scalar 136 (Str (codes "@graph"))) (member 145 (codes "t") (scalar 149 Null) no_member))) no_member))) no_member))))) (member 157 (codes "@id") (scalar 163 (Str (codes "http://a/s"))) (member 176 (codes "g") (object 180 (member 181 (codes "k") (object 185 (member 186 (codes "t") (scalar 190 (Str (codes "T"))) (member 194 (codes "b") (scalar 198 (Str (codes "x"))) (member 202 (codes "u") (scalar 206 (Number (codes "1"))) no_member)))) no_member)) no_member)))) (codes "<http://a/s> <http://a/g> _:jlb185 .\n" ∷ []) ≡ true
unfolding walked
row_51 = refl

row_52 : walked (settings Any None []) (object 0 (member 1 (codes "@context") (object 12 (member 13 (codes "b") (scalar 17 (Str (codes "@index"))) (member 26 (codes "t") (scalar 30 (Str (codes "@type"))) (member 38 (codes "g") (object 42 (member 43 (codes "@id") (scalar 49 (Str (codes "http://a/g"))) (member 62 (codes "@container") (array 75 (item (scalar 76 (Str (codes "@graph"))) (item (scalar 85 (Str (codes "@index"))) no_item))) no_member))) (member 96 (codes "T") (object 100 (member 101 (codes "@id") (scalar 107 (Str (codes "http://a/T"))) (member 120 (codes "@context") (object 131 (member 132 (codes "b") (scalar 136 (Str (codes "@graph"))) (member 145 (codes "t") (scalar 149 Null) no_member))) no_member))) no_member))))) (member 157 (codes "@id") (scalar 163 (Str (codes "http://a/s"))) (member 176 (codes "g") (object 180 (member 181 (codes "k") (object 185 (member 186 (codes "t") (scalar 190 (Str (codes "T"))) (member 194 (codes "u") (scalar 198 (Number (codes "1"))) (member 200 (codes "b") (scalar 204 (Str (codes "x"))) no_member)))) no_member)) no_member)))) (codes "<http://a/s> <http://a/g> _:jlb185 .\n" ∷ []) ≡ true
unfolding walked
row_52 = refl
