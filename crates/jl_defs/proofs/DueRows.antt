-- Quads that are due where a document has been read up to the mark `|`.
use Rattle.std.specs.Prelude.{◌≡◌, true, [], ◌∷◌, codes, refl}
use Rattle.jl_model.specs.JsonTree.{scalar, array, object, no_item, item, no_member, member}
use Rattle.jl_model.specs.declared.scalars.Scalar.TheVariants.{Number, Str}
use Rattle.jl_model.specs.declared.orders.Order.TheVariants.{Any, Streaming}
use Rattle.jl_defs.specs.OpenTree.{quote, sign, unread, in_scalar, in_array, in_object, in_member, whole}
use Rattle.jl_defs.proofs.RowWords.{is_due}

-- streaming: {"@id":"http://a/s","http://a/p":"x"|,"http://a/q":"y"}
row_1 : is_due Streaming (in_object 0 (member 1 (codes "@id") (scalar 7 (Str (codes "http://a/s"))) (member 20 (codes "http://a/p") (scalar 33 (Str (codes "x"))) no_member)) (19 ∷ 36 ∷ [])) (codes "<http://a/s> <http://a/p> \"x\" .\n" ∷ []) ≡ true
unfolding is_due
row_1 = refl

-- streaming: {"@id":"http://a/s","http://a/p":"x|","http://a/q":"y"}
row_2 : is_due Streaming (in_member 0 (member 1 (codes "@id") (scalar 7 (Str (codes "http://a/s"))) no_member) (19 ∷ []) 20 (codes "http://a/p") (in_scalar 33 quote)) [] ≡ true
unfolding is_due
row_2 = refl

-- streaming: {"http://a/p":{"http://a/q":1}|}
row_3 : is_due Streaming (in_object 0 (member 1 (codes "http://a/p") (object 14 (member 15 (codes "http://a/q") (scalar 28 (Number (codes "1"))) no_member)) no_member) (30 ∷ [])) (codes "_:jlb0 <http://a/p> _:jlb14 .\n" ∷ codes "_:jlb14 <http://a/q> \"1\"^^<http://www.w3.org/2001/XMLSchema#integer> .\n" ∷ []) ≡ true
unfolding is_due
row_3 = refl

-- streaming: {"http://a/p":{"http://a/q":1|}}
row_4 : is_due Streaming (in_member 0 no_member [] 1 (codes "http://a/p") (in_member 14 no_member [] 15 (codes "http://a/q") (in_scalar 28 sign))) [] ≡ true
unfolding is_due
row_4 = refl

-- any: {"http://a/p":{"http://a/q":1}|}
row_5 : is_due Any (in_object 0 (member 1 (codes "http://a/p") (object 14 (member 15 (codes "http://a/q") (scalar 28 (Number (codes "1"))) no_member)) no_member) (30 ∷ [])) [] ≡ true
unfolding is_due
row_5 = refl

-- any: {"http://a/p":{"http://a/q":1}}|
row_6 : is_due Any (whole (object 0 (member 1 (codes "http://a/p") (object 14 (member 15 (codes "http://a/q") (scalar 28 (Number (codes "1"))) no_member)) no_member))) (codes "_:jlb0 <http://a/p> _:jlb14 .\n" ∷ codes "_:jlb14 <http://a/q> \"1\"^^<http://www.w3.org/2001/XMLSchema#integer> .\n" ∷ []) ≡ true
unfolding is_due
row_6 = refl

-- streaming: {"http://a/p":"x"|,"@id":"http://a/s"}
row_7 : is_due Streaming (in_object 0 (member 1 (codes "http://a/p") (scalar 14 (Str (codes "x"))) no_member) (17 ∷ [])) (codes "_:jlb0 <http://a/p> \"x\" .\n" ∷ []) ≡ true
unfolding is_due
row_7 = refl

-- any: {"http://a/p":"x"|,"@id":"http://a/s"}
row_8 : is_due Any (in_object 0 (member 1 (codes "http://a/p") (scalar 14 (Str (codes "x"))) no_member) (17 ∷ [])) [] ≡ true
unfolding is_due
row_8 = refl

-- any: {"@context":{},"@type":[],"@id":"http://a/s","http://a/p":"x"|,"http://a/q":1}
row_9 : is_due Any (in_object 0 (member 1 (codes "@context") (object 12 no_member) (member 15 (codes "@type") (array 23 no_item) (member 26 (codes "@id") (scalar 32 (Str (codes "http://a/s"))) (member 45 (codes "http://a/p") (scalar 58 (Str (codes "x"))) no_member)))) (14 ∷ 25 ∷ 44 ∷ 61 ∷ [])) (codes "<http://a/s> <http://a/p> \"x\" .\n" ∷ []) ≡ true
unfolding is_due
row_9 = refl

-- streaming: [{"@id":"http://a/s","http://a/p":"x"}|,{"@id":"http://a/t"}]
row_10 : is_due Streaming (in_array 0 (item (object 1 (member 2 (codes "@id") (scalar 8 (Str (codes "http://a/s"))) (member 21 (codes "http://a/p") (scalar 34 (Str (codes "x"))) no_member))) no_item) unread) (codes "<http://a/s> <http://a/p> \"x\" .\n" ∷ []) ≡ true
unfolding is_due
row_10 = refl

-- any: [{"@id":"http://a/s","http://a/p":"x"}|,{"@id":"http://a/t"}]
row_11 : is_due Any (in_array 0 (item (object 1 (member 2 (codes "@id") (scalar 8 (Str (codes "http://a/s"))) (member 21 (codes "http://a/p") (scalar 34 (Str (codes "x"))) no_member))) no_item) unread) (codes "<http://a/s> <http://a/p> \"x\" .\n" ∷ []) ≡ true
unfolding is_due
row_11 = refl

-- streaming: {"@context":{"g":{"@id":"http://a/g","@container":["@graph","@id"]}},"@id":"http://a/s","g":{"@none":{"http://a/q":{"@id":"http://a/r","http://a/p":"x"|}}}}
row_12 : is_due Streaming (in_member 0 (member 1 (codes "@context") (object 12 (member 13 (codes "g") (object 17 (member 18 (codes "@id") (scalar 24 (Str (codes "http://a/g"))) (member 37 (codes "@container") (array 50 (item (scalar 51 (Str (codes "@graph"))) (item (scalar 60 (Str (codes "@id"))) no_item))) no_member))) no_member)) (member 69 (codes "@id") (scalar 75 (Str (codes "http://a/s"))) no_member)) (68 ∷ 87 ∷ []) 88 (codes "g") (in_member 92 no_member [] 93 (codes "@none") (in_member 101 no_member [] 102 (codes "http://a/q") (in_object 115 (member 116 (codes "@id") (scalar 122 (Str (codes "http://a/r"))) (member 135 (codes "http://a/p") (scalar 148 (Str (codes "x"))) no_member)) (134 ∷ 151 ∷ []))))) (codes "<http://a/r> <http://a/p> \"x\" _:jlg101 .\n" ∷ []) ≡ true
unfolding is_due
row_12 = refl

-- streaming: {"@graph":[{"@id":"http://a/s","http://a/p":"x"|}]}
row_13 : is_due Streaming (in_member 0 no_member [] 1 (codes "@graph") (in_array 10 no_item (in_object 11 (member 12 (codes "@id") (scalar 18 (Str (codes "http://a/s"))) (member 31 (codes "http://a/p") (scalar 44 (Str (codes "x"))) no_member)) (30 ∷ 47 ∷ [])))) (codes "<http://a/s> <http://a/p> \"x\" .\n" ∷ []) ≡ true
unfolding is_due
row_13 = refl

-- streaming: {"@id":"http://a/s","http://a/p":{"@list":["x"|]}}
row_14 : is_due Streaming (in_member 0 (member 1 (codes "@id") (scalar 7 (Str (codes "http://a/s"))) no_member) (19 ∷ []) 20 (codes "http://a/p") (in_member 33 no_member [] 34 (codes "@list") (in_array 42 (item (scalar 43 (Str (codes "x"))) no_item) unread))) [] ≡ true
unfolding is_due
row_14 = refl

-- streaming: {"@id":"http://a/s","http://a/q":{"@list":[{"@id":"http://a/s","http://a/p":"x"|}]}}
row_15 : is_due Streaming (in_member 0 (member 1 (codes "@id") (scalar 7 (Str (codes "http://a/s"))) no_member) (19 ∷ []) 20 (codes "http://a/q") (in_member 33 no_member [] 34 (codes "@list") (in_array 42 no_item (in_object 43 (member 44 (codes "@id") (scalar 50 (Str (codes "http://a/s"))) (member 63 (codes "http://a/p") (scalar 76 (Str (codes "x"))) no_member)) (62 ∷ 79 ∷ []))))) (codes "<http://a/s> <http://a/p> \"x\" .\n" ∷ []) ≡ true
unfolding is_due
row_15 = refl

-- streaming: {"@id":"http://a/s","http://a/p":{"@list":[{"@id":"http://a/o","http://a/q":"y"}|]}}
row_16 : is_due Streaming (in_member 0 (member 1 (codes "@id") (scalar 7 (Str (codes "http://a/s"))) no_member) (19 ∷ []) 20 (codes "http://a/p") (in_member 33 no_member [] 34 (codes "@list") (in_array 42 (item (object 43 (member 44 (codes "@id") (scalar 50 (Str (codes "http://a/o"))) (member 63 (codes "http://a/q") (scalar 76 (Str (codes "y"))) no_member))) no_item) unread))) [] ≡ true
unfolding is_due
row_16 = refl

-- streaming: {"@id":"http://a/s","http://a/p":{"u":1,"@set":["x"|,"y"]}}
row_17 : is_due Streaming (in_member 0 (member 1 (codes "@id") (scalar 7 (Str (codes "http://a/s"))) no_member) (19 ∷ []) 20 (codes "http://a/p") (in_member 33 (member 34 (codes "u") (scalar 38 (Number (codes "1"))) no_member) (39 ∷ []) 40 (codes "@set") (in_array 47 (item (scalar 48 (Str (codes "x"))) no_item) unread))) (codes "<http://a/s> <http://a/p> \"x\" .\n" ∷ []) ≡ true
unfolding is_due
row_17 = refl

-- streaming: {"@id":"http://a/s","http://a/q":{"http://a/p":"x"|,"@value":1}}
row_18 : is_due Streaming (in_member 0 (member 1 (codes "@id") (scalar 7 (Str (codes "http://a/s"))) no_member) (19 ∷ []) 20 (codes "http://a/q") (in_object 33 (member 34 (codes "http://a/p") (scalar 47 (Str (codes "x"))) no_member) (50 ∷ []))) (codes "_:jlb33 <http://a/p> \"x\" .\n" ∷ []) ≡ true
unfolding is_due
row_18 = refl

-- streaming: {"@context":{"l":{"@id":"http://a/l","@container":"@language"}},"@id":"http://a/s","l":{"en":["a"|,"b"]}}
row_19 : is_due Streaming (in_member 0 (member 1 (codes "@context") (object 12 (member 13 (codes "l") (object 17 (member 18 (codes "@id") (scalar 24 (Str (codes "http://a/l"))) (member 37 (codes "@container") (scalar 50 (Str (codes "@language"))) no_member))) no_member)) (member 64 (codes "@id") (scalar 70 (Str (codes "http://a/s"))) no_member)) (63 ∷ 82 ∷ []) 83 (codes "l") (in_member 87 no_member [] 88 (codes "en") (in_array 93 (item (scalar 94 (Str (codes "a"))) no_item) unread))) (codes "<http://a/s> <http://a/l> \"a\"@en .\n" ∷ []) ≡ true
unfolding is_due
row_19 = refl

-- streaming: {"@id":"http://a/s","@reverse":{"http://a/p":{"@id":"http://a/o"}|}}
row_20 : is_due Streaming (in_member 0 (member 1 (codes "@id") (scalar 7 (Str (codes "http://a/s"))) no_member) (19 ∷ []) 20 (codes "@reverse") (in_object 31 (member 32 (codes "http://a/p") (object 45 (member 46 (codes "@id") (scalar 52 (Str (codes "http://a/o"))) no_member)) no_member) (65 ∷ []))) (codes "<http://a/o> <http://a/p> <http://a/s> .\n" ∷ []) ≡ true
unfolding is_due
row_20 = refl

-- streaming: {"@id":"http://a/s","@nest":{"http://a/p":["x"|,"y"]}}
row_21 : is_due Streaming (in_member 0 (member 1 (codes "@id") (scalar 7 (Str (codes "http://a/s"))) no_member) (19 ∷ []) 20 (codes "@nest") (in_member 28 no_member [] 29 (codes "http://a/p") (in_array 42 (item (scalar 43 (Str (codes "x"))) no_item) unread))) (codes "<http://a/s> <http://a/p> \"x\" .\n" ∷ []) ≡ true
unfolding is_due
row_21 = refl

-- streaming: {"@id":"http://a/g","@graph":[{"@id":"http://a/s","http://a/p":"x"}|]}
row_22 : is_due Streaming (in_member 0 (member 1 (codes "@id") (scalar 7 (Str (codes "http://a/g"))) no_member) (19 ∷ []) 20 (codes "@graph") (in_array 29 (item (object 30 (member 31 (codes "@id") (scalar 37 (Str (codes "http://a/s"))) (member 50 (codes "http://a/p") (scalar 63 (Str (codes "x"))) no_member))) no_item) unread)) (codes "<http://a/s> <http://a/p> \"x\" <http://a/g> .\n" ∷ []) ≡ true
unfolding is_due
row_22 = refl

-- streaming: {"@context":{"g":{"@id":"http://a/g","@container":"@list"},"T":{"@id":"http://a/T","@context":{"g":{"@id":"http://a/g","@container":["@graph","@id"]}}}},"@id":"http://a/s","@type":"T","g":{"@none":[[{"@id":"http://a/o","http://a/p":"x"|}]]}}
row_23 : is_due Streaming (in_member 0 (member 1 (codes "@context") (object 12 (member 13 (codes "g") (object 17 (member 18 (codes "@id") (scalar 24 (Str (codes "http://a/g"))) (member 37 (codes "@container") (scalar 50 (Str (codes "@list"))) no_member))) (member 59 (codes "T") (object 63 (member 64 (codes "@id") (scalar 70 (Str (codes "http://a/T"))) (member 83 (codes "@context") (object 94 (member 95 (codes "g") (object 99 (member 100 (codes "@id") (scalar 106 (Str (codes "http://a/g"))) (member 119 (codes "@container") (array 132 (item (scalar 133 (Str (codes "@graph"))) (item (scalar 142 (Str (codes "@id"))) no_item))) no_member))) no_member)) no_member))) no_member))) (member 153 (codes "@id") (scalar 159 (Str (codes "http://a/s"))) (member 172 (codes "@type") (scalar 180 (Str (codes "T"))) no_member))) (152 ∷ 171 ∷ 183 ∷ []) 184 (codes "g") (in_member 188 no_member [] 189 (codes "@none") (in_array 197 no_item (in_array 198 no_item (in_object 199 (member 200 (codes "@id") (scalar 206 (Str (codes "http://a/o"))) (member 219 (codes "http://a/p") (scalar 232 (Str (codes "x"))) no_member)) (218 ∷ 235 ∷ [])))))) (codes "<http://a/s> <http://www.w3.org/1999/02/22-rdf-syntax-ns#type> <http://a/T> .\n" ∷ codes "<http://a/o> <http://a/p> \"x\" _:jlg199 .\n" ∷ []) ≡ true
unfolding is_due
row_23 = refl

-- streaming: {"@context":{"g":{"@id":"http://a/g","@container":"@list"},"T":{"@id":"http://a/T","@context":{"g":{"@id":"http://a/g","@container":["@graph","@id"]}}}},"@id":"http://a/s","@type":"T","g":{"@none":[[{"@id":"http://a/o","http://a/p":"x"}|]]}}
row_24 : is_due Streaming (in_member 0 (member 1 (codes "@context") (object 12 (member 13 (codes "g") (object 17 (member 18 (codes "@id") (scalar 24 (Str (codes "http://a/g"))) (member 37 (codes "@container") (scalar 50 (Str (codes "@list"))) no_member))) (member 59 (codes "T") (object 63 (member 64 (codes "@id") (scalar 70 (Str (codes "http://a/T"))) (member 83 (codes "@context") (object 94 (member 95 (codes "g") (object 99 (member 100 (codes "@id") (scalar 106 (Str (codes "http://a/g"))) (member 119 (codes "@container") (array 132 (item (scalar 133 (Str (codes "@graph"))) (item (scalar 142 (Str (codes "@id"))) no_item))) no_member))) no_member)) no_member))) no_member))) (member 153 (codes "@id") (scalar 159 (Str (codes "http://a/s"))) (member 172 (codes "@type") (scalar 180 (Str (codes "T"))) no_member))) (152 ∷ 171 ∷ 183 ∷ []) 184 (codes "g") (in_member 188 no_member [] 189 (codes "@none") (in_array 197 no_item (in_array 198 (item (object 199 (member 200 (codes "@id") (scalar 206 (Str (codes "http://a/o"))) (member 219 (codes "http://a/p") (scalar 232 (Str (codes "x"))) no_member))) no_item) unread)))) (codes "<http://a/s> <http://www.w3.org/1999/02/22-rdf-syntax-ns#type> <http://a/T> .\n" ∷ []) ≡ true
unfolding is_due
row_24 = refl
