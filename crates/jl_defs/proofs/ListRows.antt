-- Lists and sets. Each document stands above its row.
use Rattle.std.specs.Prelude.{◌≡◌, true, [], ◌∷◌, None, codes, refl}
use Rattle.jl_model.specs.JsonTree.{scalar, array, object, no_item, item, no_member, member}
use Rattle.jl_model.specs.declared.scalars.Scalar.TheVariants.{Number, Str}
use Rattle.jl_defs.proofs.RowWords.{says_in_both}

-- {"@id":"http://a/s","http://a/p":{"@list":["x","y"]}}
row_1 : says_in_both None [] (object 0 (member 1 (codes "@id") (scalar 7 (Str (codes "http://a/s"))) (member 20 (codes "http://a/p") (object 33 (member 34 (codes "@list") (array 42 (item (scalar 43 (Str (codes "x"))) (item (scalar 47 (Str (codes "y"))) no_item))) no_member)) no_member))) (codes "<http://a/s> <http://a/p> _:jll43 .\n" ∷ codes "_:jll43 <http://www.w3.org/1999/02/22-rdf-syntax-ns#first> \"x\" .\n" ∷ codes "_:jll43 <http://www.w3.org/1999/02/22-rdf-syntax-ns#rest> _:jll47 .\n" ∷ codes "_:jll47 <http://www.w3.org/1999/02/22-rdf-syntax-ns#first> \"y\" .\n" ∷ codes "_:jll47 <http://www.w3.org/1999/02/22-rdf-syntax-ns#rest> <http://www.w3.org/1999/02/22-rdf-syntax-ns#nil> .\n" ∷ []) ≡ true
unfolding says_in_both
row_1 = refl

-- {"@id":"http://a/s","http://a/p":{"@list":[]}}
row_2 : says_in_both None [] (object 0 (member 1 (codes "@id") (scalar 7 (Str (codes "http://a/s"))) (member 20 (codes "http://a/p") (object 33 (member 34 (codes "@list") (array 42 no_item) no_member)) no_member))) (codes "<http://a/s> <http://a/p> <http://www.w3.org/1999/02/22-rdf-syntax-ns#nil> .\n" ∷ []) ≡ true
unfolding says_in_both
row_2 = refl

-- {"@id":"http://a/s","http://a/p":{"@list":[{"@id":"x y"}]}}
row_3 : says_in_both None [] (object 0 (member 1 (codes "@id") (scalar 7 (Str (codes "http://a/s"))) (member 20 (codes "http://a/p") (object 33 (member 34 (codes "@list") (array 42 (item (object 43 (member 44 (codes "@id") (scalar 50 (Str (codes "x y"))) no_member)) no_item)) no_member)) no_member))) (codes "<http://a/s> <http://a/p> _:jll43 .\n" ∷ codes "_:jll43 <http://www.w3.org/1999/02/22-rdf-syntax-ns#rest> <http://www.w3.org/1999/02/22-rdf-syntax-ns#nil> .\n" ∷ []) ≡ true
unfolding says_in_both
row_3 = refl

-- {"@context":{"l":{"@id":"http://a/l","@container":"@list"}},"@id":"http://a/s","l":[["x"],[]]}
row_4 : says_in_both None [] (object 0 (member 1 (codes "@context") (object 12 (member 13 (codes "l") (object 17 (member 18 (codes "@id") (scalar 24 (Str (codes "http://a/l"))) (member 37 (codes "@container") (scalar 50 (Str (codes "@list"))) no_member))) no_member)) (member 60 (codes "@id") (scalar 66 (Str (codes "http://a/s"))) (member 79 (codes "l") (array 83 (item (array 84 (item (scalar 85 (Str (codes "x"))) no_item)) (item (array 90 no_item) no_item))) no_member)))) (codes "<http://a/s> <http://a/l> _:jll84 .\n" ∷ codes "_:jll84 <http://www.w3.org/1999/02/22-rdf-syntax-ns#first> _:jll85 .\n" ∷ codes "_:jll84 <http://www.w3.org/1999/02/22-rdf-syntax-ns#rest> _:jll90 .\n" ∷ codes "_:jll85 <http://www.w3.org/1999/02/22-rdf-syntax-ns#first> \"x\" .\n" ∷ codes "_:jll85 <http://www.w3.org/1999/02/22-rdf-syntax-ns#rest> <http://www.w3.org/1999/02/22-rdf-syntax-ns#nil> .\n" ∷ codes "_:jll90 <http://www.w3.org/1999/02/22-rdf-syntax-ns#first> <http://www.w3.org/1999/02/22-rdf-syntax-ns#nil> .\n" ∷ codes "_:jll90 <http://www.w3.org/1999/02/22-rdf-syntax-ns#rest> <http://www.w3.org/1999/02/22-rdf-syntax-ns#nil> .\n" ∷ []) ≡ true
unfolding says_in_both
row_4 = refl

-- {"@context":{"l":{"@id":"http://a/l","@type":"@id","@container":"@list"}},"@id":"http://a/s","l":["@foo"]}
row_5 : says_in_both None [] (object 0 (member 1 (codes "@context") (object 12 (member 13 (codes "l") (object 17 (member 18 (codes "@id") (scalar 24 (Str (codes "http://a/l"))) (member 37 (codes "@type") (scalar 45 (Str (codes "@id"))) (member 51 (codes "@container") (scalar 64 (Str (codes "@list"))) no_member)))) no_member)) (member 74 (codes "@id") (scalar 80 (Str (codes "http://a/s"))) (member 93 (codes "l") (array 97 (item (scalar 98 (Str (codes "@foo"))) no_item)) no_member)))) (codes "<http://a/s> <http://a/l> _:jll98 .\n" ∷ codes "_:jll98 <http://www.w3.org/1999/02/22-rdf-syntax-ns#rest> <http://www.w3.org/1999/02/22-rdf-syntax-ns#nil> .\n" ∷ []) ≡ true
unfolding says_in_both
row_5 = refl

-- {"@context":{"l":{"@id":"http://a/l","@container":"@list"}},"@id":"http://a/s","l":[["x"]],"http://a/m":{"@list":[["y"]]}}
row_6 : says_in_both None [] (object 0 (member 1 (codes "@context") (object 12 (member 13 (codes "l") (object 17 (member 18 (codes "@id") (scalar 24 (Str (codes "http://a/l"))) (member 37 (codes "@container") (scalar 50 (Str (codes "@list"))) no_member))) no_member)) (member 60 (codes "@id") (scalar 66 (Str (codes "http://a/s"))) (member 79 (codes "l") (array 83 (item (array 84 (item (scalar 85 (Str (codes "x"))) no_item)) no_item)) (member 91 (codes "http://a/m") (object 104 (member 105 (codes "@list") (array 113 (item (array 114 (item (scalar 115 (Str (codes "y"))) no_item)) no_item)) no_member)) no_member))))) (codes "<http://a/s> <http://a/l> _:jll84 .\n" ∷ codes "<http://a/s> <http://a/m> _:jll115 .\n" ∷ codes "_:jll115 <http://www.w3.org/1999/02/22-rdf-syntax-ns#first> \"y\" .\n" ∷ codes "_:jll115 <http://www.w3.org/1999/02/22-rdf-syntax-ns#rest> <http://www.w3.org/1999/02/22-rdf-syntax-ns#nil> .\n" ∷ codes "_:jll84 <http://www.w3.org/1999/02/22-rdf-syntax-ns#first> _:jll85 .\n" ∷ codes "_:jll84 <http://www.w3.org/1999/02/22-rdf-syntax-ns#rest> <http://www.w3.org/1999/02/22-rdf-syntax-ns#nil> .\n" ∷ codes "_:jll85 <http://www.w3.org/1999/02/22-rdf-syntax-ns#first> \"x\" .\n" ∷ codes "_:jll85 <http://www.w3.org/1999/02/22-rdf-syntax-ns#rest> <http://www.w3.org/1999/02/22-rdf-syntax-ns#nil> .\n" ∷ []) ≡ true
unfolding says_in_both
row_6 = refl

-- {"@context":{"l":{"@id":"http://a/l","@container":"@list"}},"@id":"http://a/s","l":[{"@list":["x"]}]}
row_7 : says_in_both None [] (object 0 (member 1 (codes "@context") (object 12 (member 13 (codes "l") (object 17 (member 18 (codes "@id") (scalar 24 (Str (codes "http://a/l"))) (member 37 (codes "@container") (scalar 50 (Str (codes "@list"))) no_member))) no_member)) (member 60 (codes "@id") (scalar 66 (Str (codes "http://a/s"))) (member 79 (codes "l") (array 83 (item (object 84 (member 85 (codes "@list") (array 93 (item (scalar 94 (Str (codes "x"))) no_item)) no_member)) no_item)) no_member)))) (codes "<http://a/s> <http://a/l> _:jll84 .\n" ∷ codes "_:jll84 <http://www.w3.org/1999/02/22-rdf-syntax-ns#first> _:jll94 .\n" ∷ codes "_:jll84 <http://www.w3.org/1999/02/22-rdf-syntax-ns#rest> <http://www.w3.org/1999/02/22-rdf-syntax-ns#nil> .\n" ∷ codes "_:jll94 <http://www.w3.org/1999/02/22-rdf-syntax-ns#first> \"x\" .\n" ∷ codes "_:jll94 <http://www.w3.org/1999/02/22-rdf-syntax-ns#rest> <http://www.w3.org/1999/02/22-rdf-syntax-ns#nil> .\n" ∷ []) ≡ true
unfolding says_in_both
row_7 = refl

-- {"@graph":[{"@list":[{"@id":5}]},{"@set":[{"@id":"http://a/s","http://a/p":"x"}]}]}
row_8 : says_in_both None [] (object 0 (member 1 (codes "@graph") (array 10 (item (object 11 (member 12 (codes "@list") (array 20 (item (object 21 (member 22 (codes "@id") (scalar 28 (Number (codes "5"))) no_member)) no_item)) no_member)) (item (object 33 (member 34 (codes "@set") (array 41 (item (object 42 (member 43 (codes "@id") (scalar 49 (Str (codes "http://a/s"))) (member 62 (codes "http://a/p") (scalar 75 (Str (codes "x"))) no_member))) no_item)) no_member)) no_item))) no_member)) (codes "<http://a/s> <http://a/p> \"x\" .\n" ∷ []) ≡ true
unfolding says_in_both
row_8 = refl

-- {"@id":"http://a/s","http://a/p":{"u":1,"@set":["x"]}}
row_9 : says_in_both None [] (object 0 (member 1 (codes "@id") (scalar 7 (Str (codes "http://a/s"))) (member 20 (codes "http://a/p") (object 33 (member 34 (codes "u") (scalar 38 (Number (codes "1"))) (member 40 (codes "@set") (array 47 (item (scalar 48 (Str (codes "x"))) no_item)) no_member))) no_member))) (codes "<http://a/s> <http://a/p> \"x\" .\n" ∷ []) ≡ true
unfolding says_in_both
row_9 = refl

-- {"@context":{"j":{"@id":"http://a/j","@type":"@json","@container":"@list"}},"@id":"http://a/s","j":[1,2]}
row_10 : says_in_both None [] (object 0 (member 1 (codes "@context") (object 12 (member 13 (codes "j") (object 17 (member 18 (codes "@id") (scalar 24 (Str (codes "http://a/j"))) (member 37 (codes "@type") (scalar 45 (Str (codes "@json"))) (member 53 (codes "@container") (scalar 66 (Str (codes "@list"))) no_member)))) no_member)) (member 76 (codes "@id") (scalar 82 (Str (codes "http://a/s"))) (member 95 (codes "j") (array 99 (item (scalar 100 (Number (codes "1"))) (item (scalar 102 (Number (codes "2"))) no_item))) no_member)))) (codes "<http://a/s> <http://a/j> \"[1,2]\"^^<http://www.w3.org/1999/02/22-rdf-syntax-ns#JSON> .\n" ∷ []) ≡ true
unfolding says_in_both
row_10 = refl

-- {"@context":{"l":{"@id":"http://a/l","@container":"@list"}},"@id":"http://a/s","l":[{"@set":["x","y"]},"z"]}
row_11 : says_in_both None [] (object 0 (member 1 (codes "@context") (object 12 (member 13 (codes "l") (object 17 (member 18 (codes "@id") (scalar 24 (Str (codes "http://a/l"))) (member 37 (codes "@container") (scalar 50 (Str (codes "@list"))) no_member))) no_member)) (member 60 (codes "@id") (scalar 66 (Str (codes "http://a/s"))) (member 79 (codes "l") (array 83 (item (object 84 (member 85 (codes "@set") (array 92 (item (scalar 93 (Str (codes "x"))) (item (scalar 97 (Str (codes "y"))) no_item))) no_member)) (item (scalar 103 (Str (codes "z"))) no_item))) no_member)))) (codes "<http://a/s> <http://a/l> _:jll93 .\n" ∷ codes "_:jll103 <http://www.w3.org/1999/02/22-rdf-syntax-ns#first> \"z\" .\n" ∷ codes "_:jll103 <http://www.w3.org/1999/02/22-rdf-syntax-ns#rest> <http://www.w3.org/1999/02/22-rdf-syntax-ns#nil> .\n" ∷ codes "_:jll93 <http://www.w3.org/1999/02/22-rdf-syntax-ns#first> \"x\" .\n" ∷ codes "_:jll93 <http://www.w3.org/1999/02/22-rdf-syntax-ns#rest> _:jll97 .\n" ∷ codes "_:jll97 <http://www.w3.org/1999/02/22-rdf-syntax-ns#first> \"y\" .\n" ∷ codes "_:jll97 <http://www.w3.org/1999/02/22-rdf-syntax-ns#rest> _:jll103 .\n" ∷ []) ≡ true
unfolding says_in_both
row_11 = refl

-- [{"@id":"http://a/s","http://a/p":[{"@list":["x","y"]}]}]
row_12 : says_in_both None [] (array 0 (item (object 1 (member 2 (codes "@id") (scalar 8 (Str (codes "http://a/s"))) (member 21 (codes "http://a/p") (array 34 (item (object 35 (member 36 (codes "@list") (array 44 (item (scalar 45 (Str (codes "x"))) (item (scalar 49 (Str (codes "y"))) no_item))) no_member)) no_item)) no_member))) no_item)) (codes "<http://a/s> <http://a/p> _:jll45 .\n" ∷ codes "_:jll45 <http://www.w3.org/1999/02/22-rdf-syntax-ns#first> \"x\" .\n" ∷ codes "_:jll45 <http://www.w3.org/1999/02/22-rdf-syntax-ns#rest> _:jll49 .\n" ∷ codes "_:jll49 <http://www.w3.org/1999/02/22-rdf-syntax-ns#first> \"y\" .\n" ∷ codes "_:jll49 <http://www.w3.org/1999/02/22-rdf-syntax-ns#rest> <http://www.w3.org/1999/02/22-rdf-syntax-ns#nil> .\n" ∷ []) ≡ true
unfolding says_in_both
row_12 = refl
