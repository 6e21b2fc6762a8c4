-- Graphs, graph maps and pure graphs. Each document stands above its row.
use Rattle.std.specs.Prelude.{◌≡◌, true, [], ◌∷◌, None, codes, refl}
use Rattle.jl_model.specs.JsonTree.{scalar, array, object, no_item, item, no_member, member}
use Rattle.jl_model.specs.declared.scalars.Scalar.TheVariants.{Null, Number, Str}
use Rattle.jl_model.specs.declared.orders.Order.TheVariants.{Any, Streaming}
use Rattle.jl_model.specs.declared.codes.Code.TheVariants as code
use Rattle.jl_defs.specs.ObjectContexts.{fault}
use Rattle.jl_defs.proofs.RowWords.{settings, says, says_in_both, is_refused}

-- {"@graph":[{"@id":"http://a/s","http://a/p":"x"}],"@id":"http://a/g"}
row_1_any : says (settings Any None []) (object 0 (member 1 (codes "@graph") (array 10 (item (object 11 (member 12 (codes "@id") (scalar 18 (Str (codes "http://a/s"))) (member 31 (codes "http://a/p") (scalar 44 (Str (codes "x"))) no_member))) no_item)) (member 50 (codes "@id") (scalar 56 (Str (codes "http://a/g"))) no_member))) (codes "<http://a/s> <http://a/p> \"x\" <http://a/g> .\n" ∷ []) ≡ true
unfolding says
row_1_any = refl

row_1_streaming : is_refused (settings Streaming None []) (object 0 (member 1 (codes "@graph") (array 10 (item (object 11 (member 12 (codes "@id") (scalar 18 (Str (codes "http://a/s"))) (member 31 (codes "http://a/p") (scalar 44 (Str (codes "x"))) no_member))) no_item)) (member 50 (codes "@id") (scalar 56 (Str (codes "http://a/g"))) no_member))) (fault code.LateIdentifier 50 ∷ []) ≡ true
unfolding is_refused
row_1_streaming = refl

-- {"@graph":[{"@id":"http://a/s","http://a/p":"x"}]}
row_2 : says_in_both None [] (object 0 (member 1 (codes "@graph") (array 10 (item (object 11 (member 12 (codes "@id") (scalar 18 (Str (codes "http://a/s"))) (member 31 (codes "http://a/p") (scalar 44 (Str (codes "x"))) no_member))) no_item)) no_member)) (codes "<http://a/s> <http://a/p> \"x\" .\n" ∷ []) ≡ true
unfolding says_in_both
row_2 = refl

-- [{"@graph":[{"@id":"http://a/s","http://a/p":"x"}]}]
row_3 : says_in_both None [] (array 0 (item (object 1 (member 2 (codes "@graph") (array 11 (item (object 12 (member 13 (codes "@id") (scalar 19 (Str (codes "http://a/s"))) (member 32 (codes "http://a/p") (scalar 45 (Str (codes "x"))) no_member))) no_item)) no_member)) no_item)) (codes "<http://a/s> <http://a/p> \"x\" _:jlb1 .\n" ∷ []) ≡ true
unfolding says_in_both
row_3 = refl

-- {"@graph":[],"http://a/p":"x"}
row_4_any : says (settings Any None []) (object 0 (member 1 (codes "@graph") (array 10 no_item) (member 13 (codes "http://a/p") (scalar 26 (Str (codes "x"))) no_member))) (codes "_:jlb0 <http://a/p> \"x\" .\n" ∷ []) ≡ true
unfolding says
row_4_any = refl

row_4_streaming : is_refused (settings Streaming None []) (object 0 (member 1 (codes "@graph") (array 10 no_item) (member 13 (codes "http://a/p") (scalar 26 (Str (codes "x"))) no_member))) (fault code.LateGraph 13 ∷ []) ≡ true
unfolding is_refused
row_4_streaming = refl

-- {"@context":{"g":{"@id":"http://a/g","@container":["@graph","@id"]}},"@id":"http://a/s","g":{"http://a/g1":{"@graph":[{"@id":"http://a/x","http://a/p":"1"}]},"http://a/g2":{"@id":"http://a/y","http://a/p":"2"}}}
row_5 : says_in_both None [] (object 0 (member 1 (codes "@context") (object 12 (member 13 (codes "g") (object 17 (member 18 (codes "@id") (scalar 24 (Str (codes "http://a/g"))) (member 37 (codes "@container") (array 50 (item (scalar 51 (Str (codes "@graph"))) (item (scalar 60 (Str (codes "@id"))) no_item))) no_member))) no_member)) (member 69 (codes "@id") (scalar 75 (Str (codes "http://a/s"))) (member 88 (codes "g") (object 92 (member 93 (codes "http://a/g1") (object 107 (member 108 (codes "@graph") (array 117 (item (object 118 (member 119 (codes "@id") (scalar 125 (Str (codes "http://a/x"))) (member 138 (codes "http://a/p") (scalar 151 (Str (codes "1"))) no_member))) no_item)) no_member)) (member 158 (codes "http://a/g2") (object 172 (member 173 (codes "@id") (scalar 179 (Str (codes "http://a/y"))) (member 192 (codes "http://a/p") (scalar 205 (Str (codes "2"))) no_member))) no_member))) no_member)))) (codes "<http://a/s> <http://a/g> <http://a/g1> .\n" ∷ codes "<http://a/s> <http://a/g> <http://a/g2> .\n" ∷ codes "<http://a/x> <http://a/p> \"1\" <http://a/g1> .\n" ∷ codes "<http://a/y> <http://a/p> \"2\" <http://a/g2> .\n" ∷ []) ≡ true
unfolding says_in_both
row_5 = refl

-- {"@context":{"g":{"@id":"http://a/g","@container":"@graph"}},"@id":"http://a/s","g":{"@id":"http://a/x","http://a/p":"1"}}
row_6 : says_in_both None [] (object 0 (member 1 (codes "@context") (object 12 (member 13 (codes "g") (object 17 (member 18 (codes "@id") (scalar 24 (Str (codes "http://a/g"))) (member 37 (codes "@container") (scalar 50 (Str (codes "@graph"))) no_member))) no_member)) (member 61 (codes "@id") (scalar 67 (Str (codes "http://a/s"))) (member 80 (codes "g") (object 84 (member 85 (codes "@id") (scalar 91 (Str (codes "http://a/x"))) (member 104 (codes "http://a/p") (scalar 117 (Str (codes "1"))) no_member))) no_member)))) (codes "<http://a/s> <http://a/g> _:jlg84 .\n" ∷ codes "<http://a/x> <http://a/p> \"1\" _:jlg84 .\n" ∷ []) ≡ true
unfolding says_in_both
row_6 = refl

-- {"@context":{"g":{"@id":"http://a/g","@container":["@graph","@id"]}},"@id":"http://a/s","g":{"@none":{"@id":"http://a/y","http://a/p":"2"}}}
row_7 : says_in_both None [] (object 0 (member 1 (codes "@context") (object 12 (member 13 (codes "g") (object 17 (member 18 (codes "@id") (scalar 24 (Str (codes "http://a/g"))) (member 37 (codes "@container") (array 50 (item (scalar 51 (Str (codes "@graph"))) (item (scalar 60 (Str (codes "@id"))) no_item))) no_member))) no_member)) (member 69 (codes "@id") (scalar 75 (Str (codes "http://a/s"))) (member 88 (codes "g") (object 92 (member 93 (codes "@none") (object 101 (member 102 (codes "@id") (scalar 108 (Str (codes "http://a/y"))) (member 121 (codes "http://a/p") (scalar 134 (Str (codes "2"))) no_member))) no_member)) no_member)))) (codes "<http://a/s> <http://a/g> _:jlg101 .\n" ∷ codes "<http://a/y> <http://a/p> \"2\" _:jlg101 .\n" ∷ []) ≡ true
unfolding says_in_both
row_7 = refl

-- {"@id":"@foo","@graph":[{"@id":"http://a/s","http://a/p":"x"}]}
row_8 : says_in_both None [] (object 0 (member 1 (codes "@id") (scalar 7 (Str (codes "@foo"))) (member 14 (codes "@graph") (array 23 (item (object 24 (member 25 (codes "@id") (scalar 31 (Str (codes "http://a/s"))) (member 44 (codes "http://a/p") (scalar 57 (Str (codes "x"))) no_member))) no_item)) no_member))) (codes "<http://a/s> <http://a/p> \"x\" _:jlb0 .\n" ∷ []) ≡ true
unfolding says_in_both
row_8 = refl

-- {"@id":"x y","@graph":[{"@id":"http://a/1","http://a/p":"x"},{"@id":"http://a/g","@graph":[{"@id":"http://a/2","http://a/p":"y"}]}]}
row_9 : says_in_both None [] (object 0 (member 1 (codes "@id") (scalar 7 (Str (codes "x y"))) (member 13 (codes "@graph") (array 22 (item (object 23 (member 24 (codes "@id") (scalar 30 (Str (codes "http://a/1"))) (member 43 (codes "http://a/p") (scalar 56 (Str (codes "x"))) no_member))) (item (object 61 (member 62 (codes "@id") (scalar 68 (Str (codes "http://a/g"))) (member 81 (codes "@graph") (array 90 (item (object 91 (member 92 (codes "@id") (scalar 98 (Str (codes "http://a/2"))) (member 111 (codes "http://a/p") (scalar 124 (Str (codes "y"))) no_member))) no_item)) no_member))) no_item))) no_member))) (codes "<http://a/2> <http://a/p> \"y\" <http://a/g> .\n" ∷ []) ≡ true
unfolding says_in_both
row_9 = refl

-- {"@graph":[{"@id":"http://a/s","http://a/p":"x"}],"http://a/q":[]}
row_10_any : says (settings Any None []) (object 0 (member 1 (codes "@graph") (array 10 (item (object 11 (member 12 (codes "@id") (scalar 18 (Str (codes "http://a/s"))) (member 31 (codes "http://a/p") (scalar 44 (Str (codes "x"))) no_member))) no_item)) (member 50 (codes "http://a/q") (array 63 no_item) no_member))) (codes "<http://a/s> <http://a/p> \"x\" _:jlb0 .\n" ∷ []) ≡ true
unfolding says
row_10_any = refl

row_10_streaming : is_refused (settings Streaming None []) (object 0 (member 1 (codes "@graph") (array 10 (item (object 11 (member 12 (codes "@id") (scalar 18 (Str (codes "http://a/s"))) (member 31 (codes "http://a/p") (scalar 44 (Str (codes "x"))) no_member))) no_item)) (member 50 (codes "http://a/q") (array 63 no_item) no_member))) (fault code.LateGraph 50 ∷ []) ≡ true
unfolding is_refused
row_10_streaming = refl

-- {"@graph":[{"@id":"http://a/s","http://a/p":"x"}],"q":[1.5],"http://a/q":null}
row_11 : says_in_both None [] (object 0 (member 1 (codes "@graph") (array 10 (item (object 11 (member 12 (codes "@id") (scalar 18 (Str (codes "http://a/s"))) (member 31 (codes "http://a/p") (scalar 44 (Str (codes "x"))) no_member))) no_item)) (member 50 (codes "q") (array 54 (item (scalar 55 (Number (codes "1.5"))) no_item)) (member 60 (codes "http://a/q") (scalar 73 Null) no_member)))) (codes "<http://a/s> <http://a/p> \"x\" .\n" ∷ []) ≡ true
unfolding says_in_both
row_11 = refl

-- {"@graph":[{"@id":"http://a/s","http://a/p":"x"}],"@nest":{}}
row_12_any : says (settings Any None []) (object 0 (member 1 (codes "@graph") (array 10 (item (object 11 (member 12 (codes "@id") (scalar 18 (Str (codes "http://a/s"))) (member 31 (codes "http://a/p") (scalar 44 (Str (codes "x"))) no_member))) no_item)) (member 50 (codes "@nest") (object 58 no_member) no_member))) (codes "<http://a/s> <http://a/p> \"x\" _:jlb0 .\n" ∷ []) ≡ true
unfolding says
row_12_any = refl

row_12_streaming : is_refused (settings Streaming None []) (object 0 (member 1 (codes "@graph") (array 10 (item (object 11 (member 12 (codes "@id") (scalar 18 (Str (codes "http://a/s"))) (member 31 (codes "http://a/p") (scalar 44 (Str (codes "x"))) no_member))) no_item)) (member 50 (codes "@nest") (object 58 no_member) no_member))) (fault code.LateGraph 50 ∷ []) ≡ true
unfolding is_refused
row_12_streaming = refl

-- {"@graph":[{"@id":"http://a/s","http://a/p":"x"}],"@reverse":{}}
row_13 : says_in_both None [] (object 0 (member 1 (codes "@graph") (array 10 (item (object 11 (member 12 (codes "@id") (scalar 18 (Str (codes "http://a/s"))) (member 31 (codes "http://a/p") (scalar 44 (Str (codes "x"))) no_member))) no_item)) (member 50 (codes "@reverse") (object 61 no_member) no_member))) (codes "<http://a/s> <http://a/p> \"x\" .\n" ∷ []) ≡ true
unfolding says_in_both
row_13 = refl

-- {"@type":[],"@graph":[{"@id":"http://a/s","http://a/p":"x"}]}
row_14 : says_in_both None [] (object 0 (member 1 (codes "@type") (array 9 no_item) (member 12 (codes "@graph") (array 21 (item (object 22 (member 23 (codes "@id") (scalar 29 (Str (codes "http://a/s"))) (member 42 (codes "http://a/p") (scalar 55 (Str (codes "x"))) no_member))) no_item)) no_member))) (codes "<http://a/s> <http://a/p> \"x\" _:jlb0 .\n" ∷ []) ≡ true
unfolding says_in_both
row_14 = refl

-- {"@context":{"g":{"@id":"http://a/g","@container":["@graph","@id"]}},"@id":"http://a/s","g":{"http://a/k":{"@id":"http://a/own","@graph":{"@id":"http://a/x","http://a/p":"1"}}}}
row_15 : says_in_both None [] (object 0 (member 1 (codes "@context") (object 12 (member 13 (codes "g") (object 17 (member 18 (codes "@id") (scalar 24 (Str (codes "http://a/g"))) (member 37 (codes "@container") (array 50 (item (scalar 51 (Str (codes "@graph"))) (item (scalar 60 (Str (codes "@id"))) no_item))) no_member))) no_member)) (member 69 (codes "@id") (scalar 75 (Str (codes "http://a/s"))) (member 88 (codes "g") (object 92 (member 93 (codes "http://a/k") (object 106 (member 107 (codes "@id") (scalar 113 (Str (codes "http://a/own"))) (member 128 (codes "@graph") (object 137 (member 138 (codes "@id") (scalar 144 (Str (codes "http://a/x"))) (member 157 (codes "http://a/p") (scalar 170 (Str (codes "1"))) no_member))) no_member))) no_member)) no_member)))) (codes "<http://a/s> <http://a/g> <http://a/own> .\n" ∷ codes "<http://a/x> <http://a/p> \"1\" <http://a/own> .\n" ∷ []) ≡ true
unfolding says_in_both
row_15 = refl

-- {"@context":{"g":{"@id":"http://a/g","@container":"@graph"}},"@id":"http://a/s","g":{"@graph":[{"@id":"http://a/x","http://a/p":"1"}]}}
row_16 : says_in_both None [] (object 0 (member 1 (codes "@context") (object 12 (member 13 (codes "g") (object 17 (member 18 (codes "@id") (scalar 24 (Str (codes "http://a/g"))) (member 37 (codes "@container") (scalar 50 (Str (codes "@graph"))) no_member))) no_member)) (member 61 (codes "@id") (scalar 67 (Str (codes "http://a/s"))) (member 80 (codes "g") (object 84 (member 85 (codes "@graph") (array 94 (item (object 95 (member 96 (codes "@id") (scalar 102 (Str (codes "http://a/x"))) (member 115 (codes "http://a/p") (scalar 128 (Str (codes "1"))) no_member))) no_item)) no_member)) no_member)))) (codes "<http://a/s> <http://a/g> _:jlg84 .\n" ∷ codes "<http://a/x> <http://a/p> \"1\" _:jlb84 .\n" ∷ []) ≡ true
unfolding says_in_both
row_16 = refl

-- {"@context":{"g":{"@id":"http://a/g","@container":["@graph","@index"]}},"@id":"http://a/s","g":[{"@id":"http://a/x","http://a/p":"1"}]}
row_17 : says_in_both None [] (object 0 (member 1 (codes "@context") (object 12 (member 13 (codes "g") (object 17 (member 18 (codes "@id") (scalar 24 (Str (codes "http://a/g"))) (member 37 (codes "@container") (array 50 (item (scalar 51 (Str (codes "@graph"))) (item (scalar 60 (Str (codes "@index"))) no_item))) no_member))) no_member)) (member 72 (codes "@id") (scalar 78 (Str (codes "http://a/s"))) (member 91 (codes "g") (array 95 (item (object 96 (member 97 (codes "@id") (scalar 103 (Str (codes "http://a/x"))) (member 116 (codes "http://a/p") (scalar 129 (Str (codes "1"))) no_member))) no_item)) no_member)))) (codes "<http://a/s> <http://a/g> <http://a/x> .\n" ∷ codes "<http://a/x> <http://a/p> \"1\" .\n" ∷ []) ≡ true
unfolding says_in_both
row_17 = refl

-- {"@context":{"g":{"@id":"http://a/g","@container":"@graph"}},"@id":"http://a/s","g":["x",{"@list":[{"@id":"http://a/x","http://a/p":"1"}]}]}
row_18 : says_in_both None [] (object 0 (member 1 (codes "@context") (object 12 (member 13 (codes "g") (object 17 (member 18 (codes "@id") (scalar 24 (Str (codes "http://a/g"))) (member 37 (codes "@container") (scalar 50 (Str (codes "@graph"))) no_member))) no_member)) (member 61 (codes "@id") (scalar 67 (Str (codes "http://a/s"))) (member 80 (codes "g") (array 84 (item (scalar 85 (Str (codes "x"))) (item (object 89 (member 90 (codes "@list") (array 98 (item (object 99 (member 100 (codes "@id") (scalar 106 (Str (codes "http://a/x"))) (member 119 (codes "http://a/p") (scalar 132 (Str (codes "1"))) no_member))) no_item)) no_member)) no_item))) no_member)))) (codes "<http://a/s> <http://a/g> _:jlg85 .\n" ∷ codes "<http://a/s> <http://a/g> _:jlg89 .\n" ∷ codes "<http://a/x> <http://a/p> \"1\" _:jlg89 .\n" ∷ []) ≡ true
unfolding says_in_both
row_18 = refl

-- {"@context":{"g":{"@id":"http://a/g","@container":["@graph","@index"],"@index":"http://a/k"}},"@id":"http://a/s","g":{"one":"x"}}
row_19 : says_in_both None [] (object 0 (member 1 (codes "@context") (object 12 (member 13 (codes "g") (object 17 (member 18 (codes "@id") (scalar 24 (Str (codes "http://a/g"))) (member 37 (codes "@container") (array 50 (item (scalar 51 (Str (codes "@graph"))) (item (scalar 60 (Str (codes "@index"))) no_item))) (member 70 (codes "@index") (scalar 79 (Str (codes "http://a/k"))) no_member)))) no_member)) (member 94 (codes "@id") (scalar 100 (Str (codes "http://a/s"))) (member 113 (codes "g") (object 117 (member 118 (codes "one") (scalar 124 (Str (codes "x"))) no_member)) no_member)))) (codes "<http://a/s> <http://a/g> _:jlg124 .\n" ∷ codes "_:jlg124 <http://a/k> \"one\" .\n" ∷ []) ≡ true
unfolding says_in_both
row_19 = refl

-- {"@context":{"g":{"@id":"http://a/g","@container":["@graph","@id"]}},"@id":"http://a/s","g":{"http://a/k":{"u":1,"@index":"i","@graph":[{"@id":"http://a/x","http://a/p":"1"}]}}}
row_20 : says_in_both None [] (object 0 (member 1 (codes "@context") (object 12 (member 13 (codes "g") (object 17 (member 18 (codes "@id") (scalar 24 (Str (codes "http://a/g"))) (member 37 (codes "@container") (array 50 (item (scalar 51 (Str (codes "@graph"))) (item (scalar 60 (Str (codes "@id"))) no_item))) no_member))) no_member)) (member 69 (codes "@id") (scalar 75 (Str (codes "http://a/s"))) (member 88 (codes "g") (object 92 (member 93 (codes "http://a/k") (object 106 (member 107 (codes "u") (scalar 111 (Number (codes "1"))) (member 113 (codes "@index") (scalar 122 (Str (codes "i"))) (member 126 (codes "@graph") (array 135 (item (object 136 (member 137 (codes "@id") (scalar 143 (Str (codes "http://a/x"))) (member 156 (codes "http://a/p") (scalar 169 (Str (codes "1"))) no_member))) no_item)) no_member)))) no_member)) no_member)))) (codes "<http://a/s> <http://a/g> <http://a/k> .\n" ∷ codes "<http://a/x> <http://a/p> \"1\" <http://a/k> .\n" ∷ []) ≡ true
unfolding says_in_both
row_20 = refl

-- {"@context":{"g":{"@id":"http://a/g","@container":["@graph","@id"]}},"@id":"http://a/s","g":{"http://a/k":{"u":1,"@graph":[{"@id":"http://a/x","http://a/p":"1"}],"@index":"i"}}}
row_21_any : says (settings Any None []) (object 0 (member 1 (codes "@context") (object 12 (member 13 (codes "g") (object 17 (member 18 (codes "@id") (scalar 24 (Str (codes "http://a/g"))) (member 37 (codes "@container") (array 50 (item (scalar 51 (Str (codes "@graph"))) (item (scalar 60 (Str (codes "@id"))) no_item))) no_member))) no_member)) (member 69 (codes "@id") (scalar 75 (Str (codes "http://a/s"))) (member 88 (codes "g") (object 92 (member 93 (codes "http://a/k") (object 106 (member 107 (codes "u") (scalar 111 (Number (codes "1"))) (member 113 (codes "@graph") (array 122 (item (object 123 (member 124 (codes "@id") (scalar 130 (Str (codes "http://a/x"))) (member 143 (codes "http://a/p") (scalar 156 (Str (codes "1"))) no_member))) no_item)) (member 162 (codes "@index") (scalar 171 (Str (codes "i"))) no_member)))) no_member)) no_member)))) (codes "<http://a/s> <http://a/g> <http://a/k> .\n" ∷ codes "<http://a/x> <http://a/p> \"1\" <http://a/k> .\n" ∷ []) ≡ true
unfolding says
row_21_any = refl

row_21_streaming : is_refused (settings Streaming None []) (object 0 (member 1 (codes "@context") (object 12 (member 13 (codes "g") (object 17 (member 18 (codes "@id") (scalar 24 (Str (codes "http://a/g"))) (member 37 (codes "@container") (array 50 (item (scalar 51 (Str (codes "@graph"))) (item (scalar 60 (Str (codes "@id"))) no_item))) no_member))) no_member)) (member 69 (codes "@id") (scalar 75 (Str (codes "http://a/s"))) (member 88 (codes "g") (object 92 (member 93 (codes "http://a/k") (object 106 (member 107 (codes "u") (scalar 111 (Number (codes "1"))) (member 113 (codes "@graph") (array 122 (item (object 123 (member 124 (codes "@id") (scalar 130 (Str (codes "http://a/x"))) (member 143 (codes "http://a/p") (scalar 156 (Str (codes "1"))) no_member))) no_item)) (member 162 (codes "@index") (scalar 171 (Str (codes "i"))) no_member)))) no_member)) no_member)))) (fault code.LateGraph 162 ∷ []) ≡ true
unfolding is_refused
row_21_streaming = refl

-- {"u":1,"@index":"i","@graph":[{"@id":"http://a/s","http://a/p":"x"}]}
row_22 : says_in_both None [] (object 0 (member 1 (codes "u") (scalar 5 (Number (codes "1"))) (member 7 (codes "@index") (scalar 16 (Str (codes "i"))) (member 20 (codes "@graph") (array 29 (item (object 30 (member 31 (codes "@id") (scalar 37 (Str (codes "http://a/s"))) (member 50 (codes "http://a/p") (scalar 63 (Str (codes "x"))) no_member))) no_item)) no_member)))) (codes "<http://a/s> <http://a/p> \"x\" _:jlb0 .\n" ∷ []) ≡ true
unfolding says_in_both
row_22 = refl

-- {"@context":{"g":{"@id":"http://a/g","@container":["@graph","@id"]}},"@id":"http://a/s","g":{"@foo":{"@id":"http://a/x","http://a/p":"1"}}}
row_23 : says_in_both None [] (object 0 (member 1 (codes "@context") (object 12 (member 13 (codes "g") (object 17 (member 18 (codes "@id") (scalar 24 (Str (codes "http://a/g"))) (member 37 (codes "@container") (array 50 (item (scalar 51 (Str (codes "@graph"))) (item (scalar 60 (Str (codes "@id"))) no_item))) no_member))) no_member)) (member 69 (codes "@id") (scalar 75 (Str (codes "http://a/s"))) (member 88 (codes "g") (object 92 (member 93 (codes "@foo") (object 100 (member 101 (codes "@id") (scalar 107 (Str (codes "http://a/x"))) (member 120 (codes "http://a/p") (scalar 133 (Str (codes "1"))) no_member))) no_member)) no_member)))) (codes "<http://a/s> <http://a/g> _:jlg100 .\n" ∷ codes "<http://a/x> <http://a/p> \"1\" _:jlg100 .\n" ∷ []) ≡ true
unfolding says_in_both
row_23 = refl

-- {"@graph":[],"http://a/q":{"@set":null},"http://a/p":{"@list":null}}
row_24_any : says (settings Any None []) (object 0 (member 1 (codes "@graph") (array 10 no_item) (member 13 (codes "http://a/q") (object 26 (member 27 (codes "@set") (scalar 34 Null) no_member)) (member 40 (codes "http://a/p") (object 53 (member 54 (codes "@list") (scalar 62 Null) no_member)) no_member)))) (codes "_:jlb0 <http://a/p> <http://www.w3.org/1999/02/22-rdf-syntax-ns#nil> .\n" ∷ []) ≡ true
unfolding says
row_24_any = refl

row_24_streaming : is_refused (settings Streaming None []) (object 0 (member 1 (codes "@graph") (array 10 no_item) (member 13 (codes "http://a/q") (object 26 (member 27 (codes "@set") (scalar 34 Null) no_member)) (member 40 (codes "http://a/p") (object 53 (member 54 (codes "@list") (scalar 62 Null) no_member)) no_member)))) (fault code.LateGraph 13 ∷ fault code.LateGraph 40 ∷ []) ≡ true
unfolding is_refused
row_24_streaming = refl

-- {"@context":{"g":{"@id":"http://a/g","@container":"@graph"}},"@id":"http://a/s","@reverse":{"g":["x"]}}
row_25 : says_in_both None [] (object 0 (member 1 (codes "@context") (object 12 (member 13 (codes "g") (object 17 (member 18 (codes "@id") (scalar 24 (Str (codes "http://a/g"))) (member 37 (codes "@container") (scalar 50 (Str (codes "@graph"))) no_member))) no_member)) (member 61 (codes "@id") (scalar 67 (Str (codes "http://a/s"))) (member 80 (codes "@reverse") (object 91 (member 92 (codes "g") (array 96 (item (scalar 97 (Str (codes "x"))) no_item)) no_member)) no_member)))) (codes "_:jlg97 <http://a/g> <http://a/s> .\n" ∷ []) ≡ true
unfolding says_in_both
row_25 = refl

-- {"@context":{"g":{"@id":"http://a/g","@container":"@list"},"T":{"@id":"http://a/T","@context":{"g":{"@id":"http://a/g","@container":["@graph","@id"]}}}},"@id":"http://a/s","@type":"T","g":{"@none":[[{"@id":"http://a/o","http://a/p":"x"}]]}}
row_26 : says_in_both None [] (object 0 (member 1 (codes "@context") (object 12 (member 13 (codes "g") (object 17 (member 18 (codes "@id") (scalar 24 (Str (codes "http://a/g"))) (member 37 (codes "@container") (scalar 50 (Str (codes "@list"))) no_member))) (member 59 (codes "T") (object 63 (member 64 (codes "@id") (scalar 70 (Str (codes "http://a/T"))) (member 83 (codes "@context") (object 94 (member 95 (codes "g") (object 99 (member 100 (codes "@id") (scalar 106 (Str (codes "http://a/g"))) (member 119 (codes "@container") (array 132 (item (scalar 133 (Str (codes "@graph"))) (item (scalar 142 (Str (codes "@id"))) no_item))) no_member))) no_member)) no_member))) no_member))) (member 153 (codes "@id") (scalar 159 (Str (codes "http://a/s"))) (member 172 (codes "@type") (scalar 180 (Str (codes "T"))) (member 184 (codes "g") (object 188 (member 189 (codes "@none") (array 197 (item (array 198 (item (object 199 (member 200 (codes "@id") (scalar 206 (Str (codes "http://a/o"))) (member 219 (codes "http://a/p") (scalar 232 (Str (codes "x"))) no_member))) no_item)) no_item)) no_member)) no_member))))) (codes "<http://a/s> <http://www.w3.org/1999/02/22-rdf-syntax-ns#type> <http://a/T> .\n" ∷ codes "<http://a/s> <http://a/g> _:jlg198 .\n" ∷ codes "<http://a/o> <http://a/p> \"x\" _:jlg199 .\n" ∷ []) ≡ true
unfolding says_in_both
row_26 = refl

-- {"@context":{"b":"@index","T":{"@id":"http://a/T","@context":{"b":"@graph"}}},"b":"x","@id":"http://a/s","@type":"T"}
-- A key of the prelude that means `@graph` in the final context decides nothing: the object is a node in both orders.
row_27 : says_in_both None [] (object 0 (member 1 (codes "@context") (object 12 (member 13 (codes "b") (scalar 17 (Str (codes "@index"))) (member 26 (codes "T") (object 30 (member 31 (codes "@id") (scalar 37 (Str (codes "http://a/T"))) (member 50 (codes "@context") (object 61 (member 62 (codes "b") (scalar 66 (Str (codes "@graph"))) no_member)) no_member))) no_member))) (member 78 (codes "b") (scalar 82 (Str (codes "x"))) (member 86 (codes "@id") (scalar 92 (Str (codes "http://a/s"))) (member 105 (codes "@type") (scalar 113 (Str (codes "T"))) no_member))))) (codes "<http://a/s> <http://www.w3.org/1999/02/22-rdf-syntax-ns#type> <http://a/T> .\n" ∷ []) ≡ true
unfolding says_in_both
row_27 = refl

-- {"@context":{"b":"@index","T":{"@id":"http://a/T","@context":{"b":"@graph"}}},"b":"x","@id":"http://a/s","@type":"T","http://a/p":"y"}
row_28 : says_in_both None [] (object 0 (member 1 (codes "@context") (object 12 (member 13 (codes "b") (scalar 17 (Str (codes "@index"))) (member 26 (codes "T") (object 30 (member 31 (codes "@id") (scalar 37 (Str (codes "http://a/T"))) (member 50 (codes "@context") (object 61 (member 62 (codes "b") (scalar 66 (Str (codes "@graph"))) no_member)) no_member))) no_member))) (member 78 (codes "b") (scalar 82 (Str (codes "x"))) (member 86 (codes "@id") (scalar 92 (Str (codes "http://a/s"))) (member 105 (codes "@type") (scalar 113 (Str (codes "T"))) (member 117 (codes "http://a/p") (scalar 130 (Str (codes "y"))) no_member)))))) (codes "<http://a/s> <http://a/p> \"y\" .\n" ∷ codes "<http://a/s> <http://www.w3.org/1999/02/22-rdf-syntax-ns#type> <http://a/T> .\n" ∷ []) ≡ true
unfolding says_in_both
row_28 = refl

-- {"@context":{"g":"@type","T":{"@id":"http://a/T","@context":{"g":"@graph"}}},"g":["T",{"@id":"http://a/s","http://a/p":"x"}],"@id":"http://a/g"}
row_29 : says_in_both None [] (object 0 (member 1 (codes "@context") (object 12 (member 13 (codes "g") (scalar 17 (Str (codes "@type"))) (member 25 (codes "T") (object 29 (member 30 (codes "@id") (scalar 36 (Str (codes "http://a/T"))) (member 49 (codes "@context") (object 60 (member 61 (codes "g") (scalar 65 (Str (codes "@graph"))) no_member)) no_member))) no_member))) (member 77 (codes "g") (array 81 (item (scalar 82 (Str (codes "T"))) (item (object 86 (member 87 (codes "@id") (scalar 93 (Str (codes "http://a/s"))) (member 106 (codes "http://a/p") (scalar 119 (Str (codes "x"))) no_member))) no_item))) (member 125 (codes "@id") (scalar 131 (Str (codes "http://a/g"))) no_member)))) (codes "<http://a/s> <http://a/p> \"x\" <http://a/g> .\n" ∷ []) ≡ true
unfolding says_in_both
row_29 = refl

-- {"@context":{"g":"@type","T":{"@id":"http://a/T","@context":{"g":"@graph"}}},"g":["T",{"@id":"http://a/s","http://a/p":"x"}]}
-- Here the two orders accept the document with different quads: its one entry makes it a pure graph where all entries tell,
-- and a node where its rest tells, since the rest has none.
row_30_any : says (settings Any None []) (object 0 (member 1 (codes "@context") (object 12 (member 13 (codes "g") (scalar 17 (Str (codes "@type"))) (member 25 (codes "T") (object 29 (member 30 (codes "@id") (scalar 36 (Str (codes "http://a/T"))) (member 49 (codes "@context") (object 60 (member 61 (codes "g") (scalar 65 (Str (codes "@graph"))) no_member)) no_member))) no_member))) (member 77 (codes "g") (array 81 (item (scalar 82 (Str (codes "T"))) (item (object 86 (member 87 (codes "@id") (scalar 93 (Str (codes "http://a/s"))) (member 106 (codes "http://a/p") (scalar 119 (Str (codes "x"))) no_member))) no_item))) no_member))) (codes "<http://a/s> <http://a/p> \"x\" .\n" ∷ []) ≡ true
unfolding says
row_30_any = refl

row_30_streaming : says (settings Streaming None []) (object 0 (member 1 (codes "@context") (object 12 (member 13 (codes "g") (scalar 17 (Str (codes "@type"))) (member 25 (codes "T") (object 29 (member 30 (codes "@id") (scalar 36 (Str (codes "http://a/T"))) (member 49 (codes "@context") (object 60 (member 61 (codes "g") (scalar 65 (Str (codes "@graph"))) no_member)) no_member))) no_member))) (member 77 (codes "g") (array 81 (item (scalar 82 (Str (codes "T"))) (item (object 86 (member 87 (codes "@id") (scalar 93 (Str (codes "http://a/s"))) (member 106 (codes "http://a/p") (scalar 119 (Str (codes "x"))) no_member))) no_item))) no_member))) (codes "<http://a/s> <http://a/p> \"x\" _:jlb0 .\n" ∷ []) ≡ true
unfolding says
row_30_streaming = refl

-- {"@context":{"g":{"@id":"http://a/g","@container":["@graph","@id"]}},"@id":"http://a/s","g":{"http://a/k":{"u":1,"@id":"http://a/i","@graph":[],"http://a/p":"x"}}}
-- The first kept member of the rest is the late `@id`, so the item is no graph object, and nothing is late after its `@graph`.
row_31_any : says (settings Any None []) (object 0 (member 1 (codes "@context") (object 12 (member 13 (codes "g") (object 17 (member 18 (codes "@id") (scalar 24 (Str (codes "http://a/g"))) (member 37 (codes "@container") (array 50 (item (scalar 51 (Str (codes "@graph"))) (item (scalar 60 (Str (codes "@id"))) no_item))) no_member))) no_member)) (member 69 (codes "@id") (scalar 75 (Str (codes "http://a/s"))) (member 88 (codes "g") (object 92 (member 93 (codes "http://a/k") (object 106 (member 107 (codes "u") (scalar 111 (Number (codes "1"))) (member 113 (codes "@id") (scalar 119 (Str (codes "http://a/i"))) (member 132 (codes "@graph") (array 141 no_item) (member 144 (codes "http://a/p") (scalar 157 (Str (codes "x"))) no_member))))) no_member)) no_member)))) (codes "<http://a/i> <http://a/p> \"x\" <http://a/k> .\n" ∷ codes "<http://a/s> <http://a/g> <http://a/k> .\n" ∷ []) ≡ true
unfolding says
row_31_any = refl

row_31_streaming : is_refused (settings Streaming None []) (object 0 (member 1 (codes "@context") (object 12 (member 13 (codes "g") (object 17 (member 18 (codes "@id") (scalar 24 (Str (codes "http://a/g"))) (member 37 (codes "@container") (array 50 (item (scalar 51 (Str (codes "@graph"))) (item (scalar 60 (Str (codes "@id"))) no_item))) no_member))) no_member)) (member 69 (codes "@id") (scalar 75 (Str (codes "http://a/s"))) (member 88 (codes "g") (object 92 (member 93 (codes "http://a/k") (object 106 (member 107 (codes "u") (scalar 111 (Number (codes "1"))) (member 113 (codes "@id") (scalar 119 (Str (codes "http://a/i"))) (member 132 (codes "@graph") (array 141 no_item) (member 144 (codes "http://a/p") (scalar 157 (Str (codes "x"))) no_member))))) no_member)) no_member)))) (fault code.LateIdentifier 113 ∷ []) ≡ true
unfolding is_refused
row_31_streaming = refl

-- {"@context":{"g":{"@id":"http://a/g","@container":["@graph","@id"]},"t":"@type","T":{"@id":"http://a/T","@context":{"t":null,"b":"@index"}}},"@id":"http://a/s","g":{"http://a/k":{"t":"T","b":"i","@graph":[{"@id":"http://a/x","http://a/p":"1"}]}}}
-- Before the rest stand the prelude, which keeps nothing here, and the second run with its `@index`: a graph object.
row_32 : says_in_both None [] (object 0 (member 1 (codes "@context") (object 12 (member 13 (codes "g") (object 17 (member 18 (codes "@id") (scalar 24 (Str (codes "http://a/g"))) (member 37 (codes "@container") (array 50 (item (scalar 51 (Str (codes "@graph"))) (item (scalar 60 (Str (codes "@id"))) no_item))) no_member))) (member 68 (codes "t") (scalar 72 (Str (codes "@type"))) (member 80 (codes "T") (object 84 (member 85 (codes "@id") (scalar 91 (Str (codes "http://a/T"))) (member 104 (codes "@context") (object 115 (member 116 (codes "t") (scalar 120 Null) (member 125 (codes "b") (scalar 129 (Str (codes "@index"))) no_member))) no_member))) no_member)))) (member 141 (codes "@id") (scalar 147 (Str (codes "http://a/s"))) (member 160 (codes "g") (object 164 (member 165 (codes "http://a/k") (object 178 (member 179 (codes "t") (scalar 183 (Str (codes "T"))) (member 187 (codes "b") (scalar 191 (Str (codes "i"))) (member 195 (codes "@graph") (array 204 (item (object 205 (member 206 (codes "@id") (scalar 212 (Str (codes "http://a/x"))) (member 225 (codes "http://a/p") (scalar 238 (Str (codes "1"))) no_member))) no_item)) no_member)))) no_member)) no_member)))) (codes "<http://a/s> <http://a/g> <http://a/k> .\n" ∷ codes "<http://a/x> <http://a/p> \"1\" <http://a/k> .\n" ∷ []) ≡ true
unfolding says_in_both
row_32 = refl

-- {"@context":{"g":{"@id":"http://a/g","@container":["@graph","@id"]}},"@id":"http://a/s","g":{"http://a/k":{"@type":[],"@graph":[{"@id":"http://a/x","http://a/p":"1"}]}}}
-- Before the rest there is more than `@id` and `@index`: a node, which names the graph of its content, in a graph named by the key.
row_33 : says_in_both None [] (object 0 (member 1 (codes "@context") (object 12 (member 13 (codes "g") (object 17 (member 18 (codes "@id") (scalar 24 (Str (codes "http://a/g"))) (member 37 (codes "@container") (array 50 (item (scalar 51 (Str (codes "@graph"))) (item (scalar 60 (Str (codes "@id"))) no_item))) no_member))) no_member)) (member 69 (codes "@id") (scalar 75 (Str (codes "http://a/s"))) (member 88 (codes "g") (object 92 (member 93 (codes "http://a/k") (object 106 (member 107 (codes "@type") (array 115 no_item) (member 118 (codes "@graph") (array 127 (item (object 128 (member 129 (codes "@id") (scalar 135 (Str (codes "http://a/x"))) (member 148 (codes "http://a/p") (scalar 161 (Str (codes "1"))) no_member))) no_item)) no_member))) no_member)) no_member)))) (codes "<http://a/s> <http://a/g> <http://a/k> .\n" ∷ codes "<http://a/x> <http://a/p> \"1\" _:jlb106 .\n" ∷ []) ≡ true
unfolding says_in_both
row_33 = refl
