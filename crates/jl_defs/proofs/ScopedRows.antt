-- Type-scoped and property-scoped contexts, and what an object goes back to. Each document stands above its row.
use Rattle.std.specs.Prelude.{◌≡◌, true, false, [], ◌∷◌, None, codes, refl}
use Rattle.jl_model.specs.JsonTree.{scalar, array, object, no_item, item, no_member, member}
use Rattle.jl_model.specs.declared.scalars.Scalar.TheVariants.{Null, Bool as truth, Number, Str}
use Rattle.jl_model.specs.declared.orders.Order.TheVariants.{Any, Streaming}
use Rattle.jl_model.specs.declared.codes.Code.TheVariants as code
use Rattle.jl_defs.specs.ObjectContexts.{fault}
use Rattle.jl_defs.proofs.RowWords.{settings, handed, says, says_in_both, is_refused, is_refused_in_both}

-- {"@context":{"@vocab":"http://v/","T":{"@context":{"p":"http://t/p"}}},"@id":"http://a/s","@type":"T","p":{"@id":"http://a/o","p":"x"}}
row_1 : says_in_both None [] (object 0 (member 1 (codes "@context") (object 12 (member 13 (codes "@vocab") (scalar 22 (Str (codes "http://v/"))) (member 34 (codes "T") (object 38 (member 39 (codes "@context") (object 50 (member 51 (codes "p") (scalar 55 (Str (codes "http://t/p"))) no_member)) no_member)) no_member))) (member 71 (codes "@id") (scalar 77 (Str (codes "http://a/s"))) (member 90 (codes "@type") (scalar 98 (Str (codes "T"))) (member 102 (codes "p") (object 106 (member 107 (codes "@id") (scalar 113 (Str (codes "http://a/o"))) (member 126 (codes "p") (scalar 130 (Str (codes "x"))) no_member))) no_member))))) (codes "<http://a/o> <http://v/p> \"x\" .\n" ∷ codes "<http://a/s> <http://t/p> <http://a/o> .\n" ∷ codes "<http://a/s> <http://www.w3.org/1999/02/22-rdf-syntax-ns#type> <http://v/T> .\n" ∷ []) ≡ true
unfolding says_in_both
row_1 = refl

-- {"@context":{"@vocab":"http://v/","T":{"@context":{"p":"http://t/p"}}},"@id":"http://a/s","@type":"T","p":{"@id":"http://a/o"}}
row_2 : says_in_both None [] (object 0 (member 1 (codes "@context") (object 12 (member 13 (codes "@vocab") (scalar 22 (Str (codes "http://v/"))) (member 34 (codes "T") (object 38 (member 39 (codes "@context") (object 50 (member 51 (codes "p") (scalar 55 (Str (codes "http://t/p"))) no_member)) no_member)) no_member))) (member 71 (codes "@id") (scalar 77 (Str (codes "http://a/s"))) (member 90 (codes "@type") (scalar 98 (Str (codes "T"))) (member 102 (codes "p") (object 106 (member 107 (codes "@id") (scalar 113 (Str (codes "http://a/o"))) no_member)) no_member))))) (codes "<http://a/s> <http://t/p> <http://a/o> .\n" ∷ codes "<http://a/s> <http://www.w3.org/1999/02/22-rdf-syntax-ns#type> <http://v/T> .\n" ∷ []) ≡ true
unfolding says_in_both
row_2 = refl

-- {"@context":{"p":"http://a/p","q":"http://a/q"},"@id":"http://a/s","q":{"p":null,"@value":"x"}}
row_3_any : says (settings Any None []) (object 0 (member 1 (codes "@context") (object 12 (member 13 (codes "p") (scalar 17 (Str (codes "http://a/p"))) (member 30 (codes "q") (scalar 34 (Str (codes "http://a/q"))) no_member))) (member 48 (codes "@id") (scalar 54 (Str (codes "http://a/s"))) (member 67 (codes "q") (object 71 (member 72 (codes "p") (scalar 76 Null) (member 81 (codes "@value") (scalar 90 (Str (codes "x"))) no_member))) no_member)))) (codes "<http://a/s> <http://a/q> \"x\" .\n" ∷ []) ≡ true
unfolding says
row_3_any = refl

row_3_streaming : is_refused (settings Streaming None []) (object 0 (member 1 (codes "@context") (object 12 (member 13 (codes "p") (scalar 17 (Str (codes "http://a/p"))) (member 30 (codes "q") (scalar 34 (Str (codes "http://a/q"))) no_member))) (member 48 (codes "@id") (scalar 54 (Str (codes "http://a/s"))) (member 67 (codes "q") (object 71 (member 72 (codes "p") (scalar 76 Null) (member 81 (codes "@value") (scalar 90 (Str (codes "x"))) no_member))) no_member)))) (fault code.LateValue 81 ∷ []) ≡ true
unfolding is_refused
row_3_streaming = refl

-- {"@context":{"@vocab":"http://v/","T":{"@context":{"@propagate":true,"p":"http://t/p"}}},"@id":"http://a/s","@type":"T","p":{"@id":"http://a/o","p":"x"}}
row_4 : says_in_both None [] (object 0 (member 1 (codes "@context") (object 12 (member 13 (codes "@vocab") (scalar 22 (Str (codes "http://v/"))) (member 34 (codes "T") (object 38 (member 39 (codes "@context") (object 50 (member 51 (codes "@propagate") (scalar 64 (truth true)) (member 69 (codes "p") (scalar 73 (Str (codes "http://t/p"))) no_member))) no_member)) no_member))) (member 89 (codes "@id") (scalar 95 (Str (codes "http://a/s"))) (member 108 (codes "@type") (scalar 116 (Str (codes "T"))) (member 120 (codes "p") (object 124 (member 125 (codes "@id") (scalar 131 (Str (codes "http://a/o"))) (member 144 (codes "p") (scalar 148 (Str (codes "x"))) no_member))) no_member))))) (codes "<http://a/o> <http://t/p> \"x\" .\n" ∷ codes "<http://a/s> <http://t/p> <http://a/o> .\n" ∷ codes "<http://a/s> <http://www.w3.org/1999/02/22-rdf-syntax-ns#type> <http://v/T> .\n" ∷ []) ≡ true
unfolding says_in_both
row_4 = refl

-- {"@context":{"T":{"@id":"http://a/T","@context":{"p":{"@id":"http://t/p","@type":"@id"}}}},"@id":"http://a/s","@type":"T","p":{"@list":["http://a/o"]}}
row_5 : says_in_both None [] (object 0 (member 1 (codes "@context") (object 12 (member 13 (codes "T") (object 17 (member 18 (codes "@id") (scalar 24 (Str (codes "http://a/T"))) (member 37 (codes "@context") (object 48 (member 49 (codes "p") (object 53 (member 54 (codes "@id") (scalar 60 (Str (codes "http://t/p"))) (member 73 (codes "@type") (scalar 81 (Str (codes "@id"))) no_member))) no_member)) no_member))) no_member)) (member 91 (codes "@id") (scalar 97 (Str (codes "http://a/s"))) (member 110 (codes "@type") (scalar 118 (Str (codes "T"))) (member 122 (codes "p") (object 126 (member 127 (codes "@list") (array 135 (item (scalar 136 (Str (codes "http://a/o"))) no_item)) no_member)) no_member))))) (codes "<http://a/s> <http://t/p> _:jll136 .\n" ∷ codes "<http://a/s> <http://www.w3.org/1999/02/22-rdf-syntax-ns#type> <http://a/T> .\n" ∷ codes "_:jll136 <http://www.w3.org/1999/02/22-rdf-syntax-ns#first> \"http://a/o\" .\n" ∷ codes "_:jll136 <http://www.w3.org/1999/02/22-rdf-syntax-ns#rest> <http://www.w3.org/1999/02/22-rdf-syntax-ns#nil> .\n" ∷ []) ≡ true
unfolding says_in_both
row_5 = refl

-- {"@context":{"T":{"@id":"http://a/T","@context":{"p":"http://t/p"}},"p":"http://a/p"},"@id":"http://a/s","@type":"T","@reverse":{"p":{"@id":"http://a/o"}}}
row_6 : says_in_both None [] (object 0 (member 1 (codes "@context") (object 12 (member 13 (codes "T") (object 17 (member 18 (codes "@id") (scalar 24 (Str (codes "http://a/T"))) (member 37 (codes "@context") (object 48 (member 49 (codes "p") (scalar 53 (Str (codes "http://t/p"))) no_member)) no_member))) (member 68 (codes "p") (scalar 72 (Str (codes "http://a/p"))) no_member))) (member 86 (codes "@id") (scalar 92 (Str (codes "http://a/s"))) (member 105 (codes "@type") (scalar 113 (Str (codes "T"))) (member 117 (codes "@reverse") (object 128 (member 129 (codes "p") (object 133 (member 134 (codes "@id") (scalar 140 (Str (codes "http://a/o"))) no_member)) no_member)) no_member))))) (codes "<http://a/o> <http://a/p> <http://a/s> .\n" ∷ codes "<http://a/s> <http://www.w3.org/1999/02/22-rdf-syntax-ns#type> <http://a/T> .\n" ∷ []) ≡ true
unfolding says_in_both
row_6 = refl

-- {"@context":{"T":{"@id":"http://a/T","@context":{"p":"http://t/p"}},"p":"http://a/p"},"@id":"http://a/s","@nest":{"@type":"http://a/T","p":"x"},"@type":"T"}
row_7_any : says (settings Any None []) (object 0 (member 1 (codes "@context") (object 12 (member 13 (codes "T") (object 17 (member 18 (codes "@id") (scalar 24 (Str (codes "http://a/T"))) (member 37 (codes "@context") (object 48 (member 49 (codes "p") (scalar 53 (Str (codes "http://t/p"))) no_member)) no_member))) (member 68 (codes "p") (scalar 72 (Str (codes "http://a/p"))) no_member))) (member 86 (codes "@id") (scalar 92 (Str (codes "http://a/s"))) (member 105 (codes "@nest") (object 113 (member 114 (codes "@type") (scalar 122 (Str (codes "http://a/T"))) (member 135 (codes "p") (scalar 139 (Str (codes "x"))) no_member))) (member 144 (codes "@type") (scalar 152 (Str (codes "T"))) no_member))))) (codes "<http://a/s> <http://t/p> \"x\" .\n" ∷ codes "<http://a/s> <http://www.w3.org/1999/02/22-rdf-syntax-ns#type> <http://a/T> .\n" ∷ []) ≡ true
unfolding says
row_7_any = refl

row_7_streaming : is_refused (settings Streaming None []) (object 0 (member 1 (codes "@context") (object 12 (member 13 (codes "T") (object 17 (member 18 (codes "@id") (scalar 24 (Str (codes "http://a/T"))) (member 37 (codes "@context") (object 48 (member 49 (codes "p") (scalar 53 (Str (codes "http://t/p"))) no_member)) no_member))) (member 68 (codes "p") (scalar 72 (Str (codes "http://a/p"))) no_member))) (member 86 (codes "@id") (scalar 92 (Str (codes "http://a/s"))) (member 105 (codes "@nest") (object 113 (member 114 (codes "@type") (scalar 122 (Str (codes "http://a/T"))) (member 135 (codes "p") (scalar 139 (Str (codes "x"))) no_member))) (member 144 (codes "@type") (scalar 152 (Str (codes "T"))) no_member))))) (fault code.LateType 144 ∷ []) ≡ true
unfolding is_refused
row_7_streaming = refl

-- {"@context":{"@vocab":"http://v/","T":{"@id":"http://a/T","@context":{"i":"@id","@vocab":"http://t/"}}},"@id":"http://a/s","@type":"T","p":[{"i":"http://a/1"},{"@context":{},"i":"http://a/2"}]}
row_8 : says_in_both None [] (object 0 (member 1 (codes "@context") (object 12 (member 13 (codes "@vocab") (scalar 22 (Str (codes "http://v/"))) (member 34 (codes "T") (object 38 (member 39 (codes "@id") (scalar 45 (Str (codes "http://a/T"))) (member 58 (codes "@context") (object 69 (member 70 (codes "i") (scalar 74 (Str (codes "@id"))) (member 80 (codes "@vocab") (scalar 89 (Str (codes "http://t/"))) no_member))) no_member))) no_member))) (member 104 (codes "@id") (scalar 110 (Str (codes "http://a/s"))) (member 123 (codes "@type") (scalar 131 (Str (codes "T"))) (member 135 (codes "p") (array 139 (item (object 140 (member 141 (codes "i") (scalar 145 (Str (codes "http://a/1"))) no_member)) (item (object 159 (member 160 (codes "@context") (object 171 no_member) (member 174 (codes "i") (scalar 178 (Str (codes "http://a/2"))) no_member))) no_item))) no_member))))) (codes "<http://a/s> <http://t/p> <http://a/1> .\n" ∷ codes "<http://a/s> <http://t/p> _:jlb159 .\n" ∷ codes "<http://a/s> <http://www.w3.org/1999/02/22-rdf-syntax-ns#type> <http://a/T> .\n" ∷ codes "_:jlb159 <http://v/i> \"http://a/2\" .\n" ∷ []) ≡ true
unfolding says_in_both
row_8 = refl

-- {"@context":{"T":{"@id":"http://a/T","@context":{"p":"http://t/p","lang":"@language"}}},"@id":"http://a/s","@type":"T","p":{"@value":"x","lang":"en"}}
row_9 : says_in_both None [] (object 0 (member 1 (codes "@context") (object 12 (member 13 (codes "T") (object 17 (member 18 (codes "@id") (scalar 24 (Str (codes "http://a/T"))) (member 37 (codes "@context") (object 48 (member 49 (codes "p") (scalar 53 (Str (codes "http://t/p"))) (member 66 (codes "lang") (scalar 73 (Str (codes "@language"))) no_member))) no_member))) no_member)) (member 88 (codes "@id") (scalar 94 (Str (codes "http://a/s"))) (member 107 (codes "@type") (scalar 115 (Str (codes "T"))) (member 119 (codes "p") (object 123 (member 124 (codes "@value") (scalar 133 (Str (codes "x"))) (member 137 (codes "lang") (scalar 144 (Str (codes "en"))) no_member))) no_member))))) (codes "<http://a/s> <http://t/p> \"x\"@en .\n" ∷ codes "<http://a/s> <http://www.w3.org/1999/02/22-rdf-syntax-ns#type> <http://a/T> .\n" ∷ []) ≡ true
unfolding says_in_both
row_9 = refl

-- {"@context":{"A":{"@id":"http://a/A","@context":{"p":"http://1/p"}},"B":{"@id":"http://a/B","@context":{"p":"http://2/p"}}},"@id":"http://a/s","@type":["B","A"],"p":"x"}
row_10 : says_in_both None [] (object 0 (member 1 (codes "@context") (object 12 (member 13 (codes "A") (object 17 (member 18 (codes "@id") (scalar 24 (Str (codes "http://a/A"))) (member 37 (codes "@context") (object 48 (member 49 (codes "p") (scalar 53 (Str (codes "http://1/p"))) no_member)) no_member))) (member 68 (codes "B") (object 72 (member 73 (codes "@id") (scalar 79 (Str (codes "http://a/B"))) (member 92 (codes "@context") (object 103 (member 104 (codes "p") (scalar 108 (Str (codes "http://2/p"))) no_member)) no_member))) no_member))) (member 124 (codes "@id") (scalar 130 (Str (codes "http://a/s"))) (member 143 (codes "@type") (array 151 (item (scalar 152 (Str (codes "B"))) (item (scalar 156 (Str (codes "A"))) no_item))) (member 161 (codes "p") (scalar 165 (Str (codes "x"))) no_member))))) (codes "<http://a/s> <http://2/p> \"x\" .\n" ∷ codes "<http://a/s> <http://www.w3.org/1999/02/22-rdf-syntax-ns#type> <http://a/A> .\n" ∷ codes "<http://a/s> <http://www.w3.org/1999/02/22-rdf-syntax-ns#type> <http://a/B> .\n" ∷ []) ≡ true
unfolding says_in_both
row_10 = refl

-- {"@context":{"@vocab":"http://v/","T":{"@id":"http://a/T","@context":{"U":"http://t/U","@vocab":"http://t/"}}},"@id":"http://a/s","@type":["T","U"]}
row_11 : says_in_both None [] (object 0 (member 1 (codes "@context") (object 12 (member 13 (codes "@vocab") (scalar 22 (Str (codes "http://v/"))) (member 34 (codes "T") (object 38 (member 39 (codes "@id") (scalar 45 (Str (codes "http://a/T"))) (member 58 (codes "@context") (object 69 (member 70 (codes "U") (scalar 74 (Str (codes "http://t/U"))) (member 87 (codes "@vocab") (scalar 96 (Str (codes "http://t/"))) no_member))) no_member))) no_member))) (member 111 (codes "@id") (scalar 117 (Str (codes "http://a/s"))) (member 130 (codes "@type") (array 138 (item (scalar 139 (Str (codes "T"))) (item (scalar 143 (Str (codes "U"))) no_item))) no_member)))) (codes "<http://a/s> <http://www.w3.org/1999/02/22-rdf-syntax-ns#type> <http://a/T> .\n" ∷ codes "<http://a/s> <http://www.w3.org/1999/02/22-rdf-syntax-ns#type> <http://v/U> .\n" ∷ []) ≡ true
unfolding says_in_both
row_11 = refl

-- {"@context":{"@vocab":"http://v/","T":{"@id":"http://a/T","@context":null}},"@id":"http://a/s","@type":"T","http://a/p":{"@id":"http://a/o","q":"x"},"q":"y"}
row_12 : says_in_both None [] (object 0 (member 1 (codes "@context") (object 12 (member 13 (codes "@vocab") (scalar 22 (Str (codes "http://v/"))) (member 34 (codes "T") (object 38 (member 39 (codes "@id") (scalar 45 (Str (codes "http://a/T"))) (member 58 (codes "@context") (scalar 69 Null) no_member))) no_member))) (member 76 (codes "@id") (scalar 82 (Str (codes "http://a/s"))) (member 95 (codes "@type") (scalar 103 (Str (codes "T"))) (member 107 (codes "http://a/p") (object 120 (member 121 (codes "@id") (scalar 127 (Str (codes "http://a/o"))) (member 140 (codes "q") (scalar 144 (Str (codes "x"))) no_member))) (member 149 (codes "q") (scalar 153 (Str (codes "y"))) no_member)))))) (codes "<http://a/o> <http://v/q> \"x\" .\n" ∷ codes "<http://a/s> <http://a/p> <http://a/o> .\n" ∷ codes "<http://a/s> <http://www.w3.org/1999/02/22-rdf-syntax-ns#type> <http://a/T> .\n" ∷ []) ≡ true
unfolding says_in_both
row_12 = refl

-- {"@context":{"T":{"@id":"http://a/T","@context":{"p":{"@id":"http://t/p","@context":{"q":"http://t/q"}}}}},"@id":"http://a/s","@type":"T","p":{"q":"x"}}
row_13 : says_in_both None [] (object 0 (member 1 (codes "@context") (object 12 (member 13 (codes "T") (object 17 (member 18 (codes "@id") (scalar 24 (Str (codes "http://a/T"))) (member 37 (codes "@context") (object 48 (member 49 (codes "p") (object 53 (member 54 (codes "@id") (scalar 60 (Str (codes "http://t/p"))) (member 73 (codes "@context") (object 84 (member 85 (codes "q") (scalar 89 (Str (codes "http://t/q"))) no_member)) no_member))) no_member)) no_member))) no_member)) (member 107 (codes "@id") (scalar 113 (Str (codes "http://a/s"))) (member 126 (codes "@type") (scalar 134 (Str (codes "T"))) (member 138 (codes "p") (object 142 (member 143 (codes "q") (scalar 147 (Str (codes "x"))) no_member)) no_member))))) (codes "<http://a/s> <http://t/p> _:jlb142 .\n" ∷ codes "<http://a/s> <http://www.w3.org/1999/02/22-rdf-syntax-ns#type> <http://a/T> .\n" ∷ codes "_:jlb142 <http://t/q> \"x\" .\n" ∷ []) ≡ true
unfolding says_in_both
row_13 = refl

-- {"@context":{"p":{"@id":"http://a/p","@context":{"p":{"@id":"http://b/p","@type":"@id"}}}},"@id":"http://a/s","p":"http://a/o"}
row_14 : says_in_both None [] (object 0 (member 1 (codes "@context") (object 12 (member 13 (codes "p") (object 17 (member 18 (codes "@id") (scalar 24 (Str (codes "http://a/p"))) (member 37 (codes "@context") (object 48 (member 49 (codes "p") (object 53 (member 54 (codes "@id") (scalar 60 (Str (codes "http://b/p"))) (member 73 (codes "@type") (scalar 81 (Str (codes "@id"))) no_member))) no_member)) no_member))) no_member)) (member 91 (codes "@id") (scalar 97 (Str (codes "http://a/s"))) (member 110 (codes "p") (scalar 114 (Str (codes "http://a/o"))) no_member)))) (codes "<http://a/s> <http://a/p> <http://a/o> .\n" ∷ []) ≡ true
unfolding says_in_both
row_14 = refl

-- {"@context":{"p":"http://a/p"},"@id":"http://a/s","p":{"@context":[{"@propagate":false,"q":"http://a/q"}],"q":{"q":"x"}}}
row_15 : says_in_both None [] (object 0 (member 1 (codes "@context") (object 12 (member 13 (codes "p") (scalar 17 (Str (codes "http://a/p"))) no_member)) (member 31 (codes "@id") (scalar 37 (Str (codes "http://a/s"))) (member 50 (codes "p") (object 54 (member 55 (codes "@context") (array 66 (item (object 67 (member 68 (codes "@propagate") (scalar 81 (truth false)) (member 87 (codes "q") (scalar 91 (Str (codes "http://a/q"))) no_member))) no_item)) (member 106 (codes "q") (object 110 (member 111 (codes "q") (scalar 115 (Str (codes "x"))) no_member)) no_member))) no_member)))) (codes "<http://a/s> <http://a/p> _:jlb54 .\n" ∷ codes "_:jlb110 <http://a/q> \"x\" .\n" ∷ codes "_:jlb54 <http://a/q> _:jlb110 .\n" ∷ []) ≡ true
unfolding says_in_both
row_15 = refl

-- {"@context":{"p":"http://a/p"},"@id":"http://a/s","p":{"@context":{"@propagate":false,"q":"http://a/q"},"q":{"q":"x"}}}
row_16 : says_in_both None [] (object 0 (member 1 (codes "@context") (object 12 (member 13 (codes "p") (scalar 17 (Str (codes "http://a/p"))) no_member)) (member 31 (codes "@id") (scalar 37 (Str (codes "http://a/s"))) (member 50 (codes "p") (object 54 (member 55 (codes "@context") (object 66 (member 67 (codes "@propagate") (scalar 80 (truth false)) (member 86 (codes "q") (scalar 90 (Str (codes "http://a/q"))) no_member))) (member 104 (codes "q") (object 108 (member 109 (codes "q") (scalar 113 (Str (codes "x"))) no_member)) no_member))) no_member)))) (codes "<http://a/s> <http://a/p> _:jlb54 .\n" ∷ codes "_:jlb54 <http://a/q> _:jlb108 .\n" ∷ []) ≡ true
unfolding says_in_both
row_16 = refl

-- {"@context":{"T":{"@id":"http://a/T","@context":{"i":"@id"}}},"@type":"T","i":"http://a/s","http://a/p":"x"}
row_17 : says_in_both None [] (object 0 (member 1 (codes "@context") (object 12 (member 13 (codes "T") (object 17 (member 18 (codes "@id") (scalar 24 (Str (codes "http://a/T"))) (member 37 (codes "@context") (object 48 (member 49 (codes "i") (scalar 53 (Str (codes "@id"))) no_member)) no_member))) no_member)) (member 62 (codes "@type") (scalar 70 (Str (codes "T"))) (member 74 (codes "i") (scalar 78 (Str (codes "http://a/s"))) (member 91 (codes "http://a/p") (scalar 104 (Str (codes "x"))) no_member))))) (codes "<http://a/s> <http://a/p> \"x\" .\n" ∷ codes "<http://a/s> <http://www.w3.org/1999/02/22-rdf-syntax-ns#type> <http://a/T> .\n" ∷ []) ≡ true
unfolding says_in_both
row_17 = refl

-- {"@context":{"T":{"@id":"http://a/T","@context":{"p":"http://t/p","i":"@id"}},"i":"http://a/i"},"@id":"http://a/s","@type":"T","p":{"i":["x"],"http://a/q":"y"}}
row_18_any : says (settings Any None []) (object 0 (member 1 (codes "@context") (object 12 (member 13 (codes "T") (object 17 (member 18 (codes "@id") (scalar 24 (Str (codes "http://a/T"))) (member 37 (codes "@context") (object 48 (member 49 (codes "p") (scalar 53 (Str (codes "http://t/p"))) (member 66 (codes "i") (scalar 70 (Str (codes "@id"))) no_member))) no_member))) (member 78 (codes "i") (scalar 82 (Str (codes "http://a/i"))) no_member))) (member 96 (codes "@id") (scalar 102 (Str (codes "http://a/s"))) (member 115 (codes "@type") (scalar 123 (Str (codes "T"))) (member 127 (codes "p") (object 131 (member 132 (codes "i") (array 136 (item (scalar 137 (Str (codes "x"))) no_item)) (member 142 (codes "http://a/q") (scalar 155 (Str (codes "y"))) no_member))) no_member))))) (codes "<http://a/s> <http://t/p> _:jlb131 .\n" ∷ codes "<http://a/s> <http://www.w3.org/1999/02/22-rdf-syntax-ns#type> <http://a/T> .\n" ∷ codes "_:jlb131 <http://a/i> \"x\" .\n" ∷ codes "_:jlb131 <http://a/q> \"y\" .\n" ∷ []) ≡ true
unfolding says
row_18_any = refl

row_18_streaming : is_refused (settings Streaming None []) (object 0 (member 1 (codes "@context") (object 12 (member 13 (codes "T") (object 17 (member 18 (codes "@id") (scalar 24 (Str (codes "http://a/T"))) (member 37 (codes "@context") (object 48 (member 49 (codes "p") (scalar 53 (Str (codes "http://t/p"))) (member 66 (codes "i") (scalar 70 (Str (codes "@id"))) no_member))) no_member))) (member 78 (codes "i") (scalar 82 (Str (codes "http://a/i"))) no_member))) (member 96 (codes "@id") (scalar 102 (Str (codes "http://a/s"))) (member 115 (codes "@type") (scalar 123 (Str (codes "T"))) (member 127 (codes "p") (object 131 (member 132 (codes "i") (array 136 (item (scalar 137 (Str (codes "x"))) no_item)) (member 142 (codes "http://a/q") (scalar 155 (Str (codes "y"))) no_member))) no_member))))) (fault code.InvalidIdValue 132 ∷ fault code.LateIdentifier 132 ∷ []) ≡ true
unfolding is_refused
row_18_streaming = refl

-- {"@context":{"T":{"@id":"http://a/T","@context":{"p":"http://t/p","t":"@type"}},"t":"http://a/t"},"@id":"http://a/s","@type":"T","p":{"t":[{"@id":"http://a/o"}],"http://a/x":1}}
row_19 : says_in_both None [] (object 0 (member 1 (codes "@context") (object 12 (member 13 (codes "T") (object 17 (member 18 (codes "@id") (scalar 24 (Str (codes "http://a/T"))) (member 37 (codes "@context") (object 48 (member 49 (codes "p") (scalar 53 (Str (codes "http://t/p"))) (member 66 (codes "t") (scalar 70 (Str (codes "@type"))) no_member))) no_member))) (member 80 (codes "t") (scalar 84 (Str (codes "http://a/t"))) no_member))) (member 98 (codes "@id") (scalar 104 (Str (codes "http://a/s"))) (member 117 (codes "@type") (scalar 125 (Str (codes "T"))) (member 129 (codes "p") (object 133 (member 134 (codes "t") (array 138 (item (object 139 (member 140 (codes "@id") (scalar 146 (Str (codes "http://a/o"))) no_member)) no_item)) (member 161 (codes "http://a/x") (scalar 174 (Number (codes "1"))) no_member))) no_member))))) (codes "<http://a/s> <http://t/p> _:jlb133 .\n" ∷ codes "<http://a/s> <http://www.w3.org/1999/02/22-rdf-syntax-ns#type> <http://a/T> .\n" ∷ codes "_:jlb133 <http://a/t> <http://a/o> .\n" ∷ codes "_:jlb133 <http://a/x> \"1\"^^<http://www.w3.org/2001/XMLSchema#integer> .\n" ∷ []) ≡ true
unfolding says_in_both
row_19 = refl

-- {"@context":"http://c/r","@id":"http://a/s","p":[null,"x"]} with http://c/r handed in as {"@context":{"p":{"@id":"http://a/p","@context":{"@base":5}}}}
row_20 : is_refused_in_both None (handed (codes "http://c/r") (object 0 (member 1 (codes "@context") (object 12 (member 13 (codes "p") (object 17 (member 18 (codes "@id") (scalar 24 (Str (codes "http://a/p"))) (member 37 (codes "@context") (object 48 (member 49 (codes "@base") (scalar 57 (Number (codes "5"))) no_member)) no_member))) no_member)) no_member)) ∷ []) (object 0 (member 1 (codes "@context") (scalar 12 (Str (codes "http://c/r"))) (member 25 (codes "@id") (scalar 31 (Str (codes "http://a/s"))) (member 44 (codes "p") (array 48 (item (scalar 49 Null) (item (scalar 54 (Str (codes "x"))) no_item))) no_member)))) (fault code.InvalidBaseIri 54 ∷ []) ≡ true
unfolding is_refused_in_both
row_20 = refl

-- {"@context":"http://c/r","@id":"http://a/s","p":5} with http://c/r handed in as {"@context":{"p":{"@id":"http://a/p","@type":"@json","@context":{"@base":5}}}}
row_21 : says_in_both None (handed (codes "http://c/r") (object 0 (member 1 (codes "@context") (object 12 (member 13 (codes "p") (object 17 (member 18 (codes "@id") (scalar 24 (Str (codes "http://a/p"))) (member 37 (codes "@type") (scalar 45 (Str (codes "@json"))) (member 53 (codes "@context") (object 64 (member 65 (codes "@base") (scalar 73 (Number (codes "5"))) no_member)) no_member)))) no_member)) no_member)) ∷ []) (object 0 (member 1 (codes "@context") (scalar 12 (Str (codes "http://c/r"))) (member 25 (codes "@id") (scalar 31 (Str (codes "http://a/s"))) (member 44 (codes "p") (scalar 48 (Number (codes "5"))) no_member)))) (codes "<http://a/s> <http://a/p> \"5\"^^<http://www.w3.org/1999/02/22-rdf-syntax-ns#JSON> .\n" ∷ []) ≡ true
unfolding says_in_both
row_21 = refl

-- {"@context":{"n":{"@id":"@nest","@context":{"v":"@value"}}},"@id":"http://a/s","n":{"v":1}}
row_22 : is_refused_in_both None [] (object 0 (member 1 (codes "@context") (object 12 (member 13 (codes "n") (object 17 (member 18 (codes "@id") (scalar 24 (Str (codes "@nest"))) (member 32 (codes "@context") (object 43 (member 44 (codes "v") (scalar 48 (Str (codes "@value"))) no_member)) no_member))) no_member)) (member 60 (codes "@id") (scalar 66 (Str (codes "http://a/s"))) (member 79 (codes "n") (object 83 (member 84 (codes "v") (scalar 88 (Number (codes "1"))) no_member)) no_member)))) (fault code.InvalidNestValue 84 ∷ []) ≡ true
unfolding is_refused_in_both
row_22 = refl

-- {"@context":{"@vocab":"http://v/","T":{"@id":"http://a/T","@context":{"val":"@value","i":{"@id":"http://a/i","@container":"@index"}}}},"@id":"http://a/s","@type":"T","i":{"k":{"@context":{"val":"http://a/v"},"val":"y"}}}
row_23 : says_in_both None [] (object 0 (member 1 (codes "@context") (object 12 (member 13 (codes "@vocab") (scalar 22 (Str (codes "http://v/"))) (member 34 (codes "T") (object 38 (member 39 (codes "@id") (scalar 45 (Str (codes "http://a/T"))) (member 58 (codes "@context") (object 69 (member 70 (codes "val") (scalar 76 (Str (codes "@value"))) (member 85 (codes "i") (object 89 (member 90 (codes "@id") (scalar 96 (Str (codes "http://a/i"))) (member 109 (codes "@container") (scalar 122 (Str (codes "@index"))) no_member))) no_member))) no_member))) no_member))) (member 135 (codes "@id") (scalar 141 (Str (codes "http://a/s"))) (member 154 (codes "@type") (scalar 162 (Str (codes "T"))) (member 166 (codes "i") (object 170 (member 171 (codes "k") (object 175 (member 176 (codes "@context") (object 187 (member 188 (codes "val") (scalar 194 (Str (codes "http://a/v"))) no_member)) (member 208 (codes "val") (scalar 214 (Str (codes "y"))) no_member))) no_member)) no_member))))) (codes "<http://a/s> <http://a/i> _:jlb175 .\n" ∷ codes "<http://a/s> <http://www.w3.org/1999/02/22-rdf-syntax-ns#type> <http://a/T> .\n" ∷ codes "_:jlb175 <http://a/v> \"y\" .\n" ∷ []) ≡ true
unfolding says_in_both
row_23 = refl

-- {"@context":{"T":{"@id":"http://a/T","@context":{"i":"@id","q":"http://t/q"}},"p":{"@id":"http://a/p","@context":{"i":"http://x/i"}},"q":"http://a/q"},"@id":"http://a/s","@type":"T","p":{"i":{"@id":"http://a/o"},"q":"x"}}
-- A lone first key that means `@id` outside counts as single, though the object's own contexts give it another meaning: so
-- the object doesn't go back to the context before, where with all its members known it would, and the key is late.
row_24 : is_refused (settings Streaming None []) (object 0 (member 1 (codes "@context") (object 12 (member 13 (codes "T") (object 17 (member 18 (codes "@id") (scalar 24 (Str (codes "http://a/T"))) (member 37 (codes "@context") (object 48 (member 49 (codes "i") (scalar 53 (Str (codes "@id"))) (member 59 (codes "q") (scalar 63 (Str (codes "http://t/q"))) no_member))) no_member))) (member 78 (codes "p") (object 82 (member 83 (codes "@id") (scalar 89 (Str (codes "http://a/p"))) (member 102 (codes "@context") (object 113 (member 114 (codes "i") (scalar 118 (Str (codes "http://x/i"))) no_member)) no_member))) (member 133 (codes "q") (scalar 137 (Str (codes "http://a/q"))) no_member)))) (member 151 (codes "@id") (scalar 157 (Str (codes "http://a/s"))) (member 170 (codes "@type") (scalar 178 (Str (codes "T"))) (member 182 (codes "p") (object 186 (member 187 (codes "i") (object 191 (member 192 (codes "@id") (scalar 198 (Str (codes "http://a/o"))) no_member)) (member 212 (codes "q") (scalar 216 (Str (codes "x"))) no_member))) no_member))))) (fault code.LateIdentifier 187 ∷ []) ≡ true
unfolding is_refused
row_24 = refl

row_25 : says (settings Any None []) (object 0 (member 1 (codes "@context") (object 12 (member 13 (codes "T") (object 17 (member 18 (codes "@id") (scalar 24 (Str (codes "http://a/T"))) (member 37 (codes "@context") (object 48 (member 49 (codes "i") (scalar 53 (Str (codes "@id"))) (member 59 (codes "q") (scalar 63 (Str (codes "http://t/q"))) no_member))) no_member))) (member 78 (codes "p") (object 82 (member 83 (codes "@id") (scalar 89 (Str (codes "http://a/p"))) (member 102 (codes "@context") (object 113 (member 114 (codes "i") (scalar 118 (Str (codes "http://x/i"))) no_member)) no_member))) (member 133 (codes "q") (scalar 137 (Str (codes "http://a/q"))) no_member)))) (member 151 (codes "@id") (scalar 157 (Str (codes "http://a/s"))) (member 170 (codes "@type") (scalar 178 (Str (codes "T"))) (member 182 (codes "p") (object 186 (member 187 (codes "i") (object 191 (member 192 (codes "@id") (scalar 198 (Str (codes "http://a/o"))) no_member)) (member 212 (codes "q") (scalar 216 (Str (codes "x"))) no_member))) no_member))))) (codes "<http://a/s> <http://www.w3.org/1999/02/22-rdf-syntax-ns#type> <http://a/T> .\n" ∷ codes "<http://a/s> <http://a/p> _:jlb186 .\n" ∷ codes "_:jlb186 <http://x/i> <http://a/o> .\n" ∷ codes "_:jlb186 <http://a/q> \"x\" .\n" ∷ []) ≡ true
unfolding says
row_25 = refl

-- {"@context":{"T":{"@id":"http://a/T","@context":{"i":"@id","q":"http://t/q"}},"p":{"@id":"http://a/p","@context":{"i":"http://x/i"}},"q":"http://a/q"},"@id":"http://a/s","@type":"T","p":{"i":{"@id":"http://a/o"}}}
-- The same key alone: where all members are known it is single, and the object doesn't go back.
row_26_any : says (settings Any None []) (object 0 (member 1 (codes "@context") (object 12 (member 13 (codes "T") (object 17 (member 18 (codes "@id") (scalar 24 (Str (codes "http://a/T"))) (member 37 (codes "@context") (object 48 (member 49 (codes "i") (scalar 53 (Str (codes "@id"))) (member 59 (codes "q") (scalar 63 (Str (codes "http://t/q"))) no_member))) no_member))) (member 78 (codes "p") (object 82 (member 83 (codes "@id") (scalar 89 (Str (codes "http://a/p"))) (member 102 (codes "@context") (object 113 (member 114 (codes "i") (scalar 118 (Str (codes "http://x/i"))) no_member)) no_member))) (member 133 (codes "q") (scalar 137 (Str (codes "http://a/q"))) no_member)))) (member 151 (codes "@id") (scalar 157 (Str (codes "http://a/s"))) (member 170 (codes "@type") (scalar 178 (Str (codes "T"))) (member 182 (codes "p") (object 186 (member 187 (codes "i") (object 191 (member 192 (codes "@id") (scalar 198 (Str (codes "http://a/o"))) no_member)) no_member)) no_member))))) (codes "<http://a/s> <http://a/p> _:jlb186 .\n" ∷ codes "<http://a/s> <http://www.w3.org/1999/02/22-rdf-syntax-ns#type> <http://a/T> .\n" ∷ codes "_:jlb186 <http://x/i> <http://a/o> .\n" ∷ []) ≡ true
unfolding says
row_26_any = refl

row_26_streaming : is_refused (settings Streaming None []) (object 0 (member 1 (codes "@context") (object 12 (member 13 (codes "T") (object 17 (member 18 (codes "@id") (scalar 24 (Str (codes "http://a/T"))) (member 37 (codes "@context") (object 48 (member 49 (codes "i") (scalar 53 (Str (codes "@id"))) (member 59 (codes "q") (scalar 63 (Str (codes "http://t/q"))) no_member))) no_member))) (member 78 (codes "p") (object 82 (member 83 (codes "@id") (scalar 89 (Str (codes "http://a/p"))) (member 102 (codes "@context") (object 113 (member 114 (codes "i") (scalar 118 (Str (codes "http://x/i"))) no_member)) no_member))) (member 133 (codes "q") (scalar 137 (Str (codes "http://a/q"))) no_member)))) (member 151 (codes "@id") (scalar 157 (Str (codes "http://a/s"))) (member 170 (codes "@type") (scalar 178 (Str (codes "T"))) (member 182 (codes "p") (object 186 (member 187 (codes "i") (object 191 (member 192 (codes "@id") (scalar 198 (Str (codes "http://a/o"))) no_member)) no_member)) no_member))))) (fault code.LateIdentifier 187 ∷ []) ≡ true
unfolding is_refused
row_26_streaming = refl

-- {"@context":{"T":{"@id":"http://a/T","@context":{"p":"http://t/p","i":"@id"}},"i":"http://a/i"},"@id":"http://a/s","@type":"T","p":{"i":["x"]}}
row_27_any : is_refused (settings Any None []) (object 0 (member 1 (codes "@context") (object 12 (member 13 (codes "T") (object 17 (member 18 (codes "@id") (scalar 24 (Str (codes "http://a/T"))) (member 37 (codes "@context") (object 48 (member 49 (codes "p") (scalar 53 (Str (codes "http://t/p"))) (member 66 (codes "i") (scalar 70 (Str (codes "@id"))) no_member))) no_member))) (member 78 (codes "i") (scalar 82 (Str (codes "http://a/i"))) no_member))) (member 96 (codes "@id") (scalar 102 (Str (codes "http://a/s"))) (member 115 (codes "@type") (scalar 123 (Str (codes "T"))) (member 127 (codes "p") (object 131 (member 132 (codes "i") (array 136 (item (scalar 137 (Str (codes "x"))) no_item)) no_member)) no_member))))) (fault code.InvalidIdValue 132 ∷ []) ≡ true
unfolding is_refused
row_27_any = refl

row_27_streaming : is_refused (settings Streaming None []) (object 0 (member 1 (codes "@context") (object 12 (member 13 (codes "T") (object 17 (member 18 (codes "@id") (scalar 24 (Str (codes "http://a/T"))) (member 37 (codes "@context") (object 48 (member 49 (codes "p") (scalar 53 (Str (codes "http://t/p"))) (member 66 (codes "i") (scalar 70 (Str (codes "@id"))) no_member))) no_member))) (member 78 (codes "i") (scalar 82 (Str (codes "http://a/i"))) no_member))) (member 96 (codes "@id") (scalar 102 (Str (codes "http://a/s"))) (member 115 (codes "@type") (scalar 123 (Str (codes "T"))) (member 127 (codes "p") (object 131 (member 132 (codes "i") (array 136 (item (scalar 137 (Str (codes "x"))) no_item)) no_member)) no_member))))) (fault code.InvalidIdValue 132 ∷ fault code.LateIdentifier 132 ∷ []) ≡ true
unfolding is_refused
row_27_streaming = refl

-- {"@context":{"T":{"@id":"http://a/T","@context":{"i":"@id"}},"i":"http://a/i"},"@id":"http://a/s","@type":"T","@reverse":{"i":{"@id":"http://a/o"},"http://a/q":{"@id":"http://a/r"}}}
-- The map of `@reverse` may go back too.
row_28_any : says (settings Any None []) (object 0 (member 1 (codes "@context") (object 12 (member 13 (codes "T") (object 17 (member 18 (codes "@id") (scalar 24 (Str (codes "http://a/T"))) (member 37 (codes "@context") (object 48 (member 49 (codes "i") (scalar 53 (Str (codes "@id"))) no_member)) no_member))) (member 61 (codes "i") (scalar 65 (Str (codes "http://a/i"))) no_member))) (member 79 (codes "@id") (scalar 85 (Str (codes "http://a/s"))) (member 98 (codes "@type") (scalar 106 (Str (codes "T"))) (member 110 (codes "@reverse") (object 121 (member 122 (codes "i") (object 126 (member 127 (codes "@id") (scalar 133 (Str (codes "http://a/o"))) no_member)) (member 147 (codes "http://a/q") (object 160 (member 161 (codes "@id") (scalar 167 (Str (codes "http://a/r"))) no_member)) no_member))) no_member))))) (codes "<http://a/o> <http://a/i> <http://a/s> .\n" ∷ codes "<http://a/r> <http://a/q> <http://a/s> .\n" ∷ codes "<http://a/s> <http://www.w3.org/1999/02/22-rdf-syntax-ns#type> <http://a/T> .\n" ∷ []) ≡ true
unfolding says
row_28_any = refl

row_28_streaming : is_refused (settings Streaming None []) (object 0 (member 1 (codes "@context") (object 12 (member 13 (codes "T") (object 17 (member 18 (codes "@id") (scalar 24 (Str (codes "http://a/T"))) (member 37 (codes "@context") (object 48 (member 49 (codes "i") (scalar 53 (Str (codes "@id"))) no_member)) no_member))) (member 61 (codes "i") (scalar 65 (Str (codes "http://a/i"))) no_member))) (member 79 (codes "@id") (scalar 85 (Str (codes "http://a/s"))) (member 98 (codes "@type") (scalar 106 (Str (codes "T"))) (member 110 (codes "@reverse") (object 121 (member 122 (codes "i") (object 126 (member 127 (codes "@id") (scalar 133 (Str (codes "http://a/o"))) no_member)) (member 147 (codes "http://a/q") (object 160 (member 161 (codes "@id") (scalar 167 (Str (codes "http://a/r"))) no_member)) no_member))) no_member))))) (fault code.InvalidReversePropertyMap 122 ∷ fault code.LateIdentifier 122 ∷ []) ≡ true
unfolding is_refused
row_28_streaming = refl

-- {"@context":{"T":{"@id":"http://a/T","@context":{"p":"http://t/p","i":"@id"}},"i":"http://a/i"},"@id":"http://a/s","@type":"T","p":{"@context":{},"i":["x"],"http://a/q":"y"}}
-- With a context of its own the object isn't single, and nothing is late.
row_29 : says_in_both None [] (object 0 (member 1 (codes "@context") (object 12 (member 13 (codes "T") (object 17 (member 18 (codes "@id") (scalar 24 (Str (codes "http://a/T"))) (member 37 (codes "@context") (object 48 (member 49 (codes "p") (scalar 53 (Str (codes "http://t/p"))) (member 66 (codes "i") (scalar 70 (Str (codes "@id"))) no_member))) no_member))) (member 78 (codes "i") (scalar 82 (Str (codes "http://a/i"))) no_member))) (member 96 (codes "@id") (scalar 102 (Str (codes "http://a/s"))) (member 115 (codes "@type") (scalar 123 (Str (codes "T"))) (member 127 (codes "p") (object 131 (member 132 (codes "@context") (object 143 no_member) (member 146 (codes "i") (array 150 (item (scalar 151 (Str (codes "x"))) no_item)) (member 156 (codes "http://a/q") (scalar 169 (Str (codes "y"))) no_member)))) no_member))))) (codes "<http://a/s> <http://t/p> _:jlb131 .\n" ∷ codes "<http://a/s> <http://www.w3.org/1999/02/22-rdf-syntax-ns#type> <http://a/T> .\n" ∷ codes "_:jlb131 <http://a/i> \"x\" .\n" ∷ codes "_:jlb131 <http://a/q> \"y\" .\n" ∷ []) ≡ true
unfolding says_in_both
row_29 = refl

-- {"@context":{"T":{"@id":"http://a/T","@context":{"m":{"@id":"http://t/m","@container":"@index"},"i":"@id"}},"i":"http://a/i"},"@id":"http://a/s","@type":"T","m":{"k":{"i":["x"],"http://a/q":"y"}}}
-- The value of a map's entry doesn't go back, so its first key isn't late.
row_30 : is_refused_in_both None [] (object 0 (member 1 (codes "@context") (object 12 (member 13 (codes "T") (object 17 (member 18 (codes "@id") (scalar 24 (Str (codes "http://a/T"))) (member 37 (codes "@context") (object 48 (member 49 (codes "m") (object 53 (member 54 (codes "@id") (scalar 60 (Str (codes "http://t/m"))) (member 73 (codes "@container") (scalar 86 (Str (codes "@index"))) no_member))) (member 96 (codes "i") (scalar 100 (Str (codes "@id"))) no_member))) no_member))) (member 108 (codes "i") (scalar 112 (Str (codes "http://a/i"))) no_member))) (member 126 (codes "@id") (scalar 132 (Str (codes "http://a/s"))) (member 145 (codes "@type") (scalar 153 (Str (codes "T"))) (member 157 (codes "m") (object 161 (member 162 (codes "k") (object 166 (member 167 (codes "i") (array 171 (item (scalar 172 (Str (codes "x"))) no_item)) (member 177 (codes "http://a/q") (scalar 190 (Str (codes "y"))) no_member))) no_member)) no_member))))) (fault code.InvalidIdValue 167 ∷ []) ≡ true
unfolding is_refused_in_both
row_30 = refl
