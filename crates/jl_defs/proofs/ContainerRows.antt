-- Maps by language, index, identifier and type. Each document stands above its row.
use Rattle.std.specs.Prelude.{◌≡◌, true, [], ◌∷◌, Some, None, codes, refl}
use Rattle.jl_model.specs.JsonTree.{scalar, array, object, no_item, item, no_member, member}
use Rattle.jl_model.specs.declared.scalars.Scalar.TheVariants.{Null, Number, Str}
use Rattle.jl_model.specs.declared.codes.Code.TheVariants as code
use Rattle.jl_defs.specs.ObjectContexts.{fault}
use Rattle.jl_defs.proofs.RowWords.{handed, says_in_both, is_refused_in_both}

-- {"@context":{"l":{"@id":"http://a/l","@container":"@language"}},"@id":"http://a/s","l":{"en":"a","@none":["b",null],"x y":"c"}}
row_1 : says_in_both None [] (object 0 (member 1 (codes "@context") (object 12 (member 13 (codes "l") (object 17 (member 18 (codes "@id") (scalar 24 (Str (codes "http://a/l"))) (member 37 (codes "@container") (scalar 50 (Str (codes "@language"))) no_member))) no_member)) (member 64 (codes "@id") (scalar 70 (Str (codes "http://a/s"))) (member 83 (codes "l") (object 87 (member 88 (codes "en") (scalar 93 (Str (codes "a"))) (member 97 (codes "@none") (array 105 (item (scalar 106 (Str (codes "b"))) (item (scalar 110 Null) no_item))) (member 116 (codes "x y") (scalar 122 (Str (codes "c"))) no_member)))) no_member)))) (codes "<http://a/s> <http://a/l> \"a\"@en .\n" ∷ codes "<http://a/s> <http://a/l> \"b\" .\n" ∷ []) ≡ true
unfolding says_in_both
row_1 = refl

-- {"@context":{"@vocab":"http://v/","i":{"@id":"i","@container":"@index","@index":"k"},"t":{"@id":"t","@container":"@type"}},"@id":"http://a/s","i":{"one":{"@id":"http://a/x"}},"t":{"T":{"@id":"http://a/y"}}}
row_2 : says_in_both None [] (object 0 (member 1 (codes "@context") (object 12 (member 13 (codes "@vocab") (scalar 22 (Str (codes "http://v/"))) (member 34 (codes "i") (object 38 (member 39 (codes "@id") (scalar 45 (Str (codes "i"))) (member 49 (codes "@container") (scalar 62 (Str (codes "@index"))) (member 71 (codes "@index") (scalar 80 (Str (codes "k"))) no_member)))) (member 85 (codes "t") (object 89 (member 90 (codes "@id") (scalar 96 (Str (codes "t"))) (member 100 (codes "@container") (scalar 113 (Str (codes "@type"))) no_member))) no_member)))) (member 123 (codes "@id") (scalar 129 (Str (codes "http://a/s"))) (member 142 (codes "i") (object 146 (member 147 (codes "one") (object 153 (member 154 (codes "@id") (scalar 160 (Str (codes "http://a/x"))) no_member)) no_member)) (member 175 (codes "t") (object 179 (member 180 (codes "T") (object 184 (member 185 (codes "@id") (scalar 191 (Str (codes "http://a/y"))) no_member)) no_member)) no_member))))) (codes "<http://a/s> <http://v/i> <http://a/x> .\n" ∷ codes "<http://a/s> <http://v/t> <http://a/y> .\n" ∷ codes "<http://a/x> <http://v/k> \"one\" .\n" ∷ codes "<http://a/y> <http://www.w3.org/1999/02/22-rdf-syntax-ns#type> <http://v/T> .\n" ∷ []) ≡ true
unfolding says_in_both
row_2 = refl

-- {"@context":{"t":{"@id":"http://a/t","@container":"@id"}},"@id":"http://a/s","t":{"http://a/x":{"@value":"v"}}}
row_3 : is_refused_in_both None [] (object 0 (member 1 (codes "@context") (object 12 (member 13 (codes "t") (object 17 (member 18 (codes "@id") (scalar 24 (Str (codes "http://a/t"))) (member 37 (codes "@container") (scalar 50 (Str (codes "@id"))) no_member))) no_member)) (member 58 (codes "@id") (scalar 64 (Str (codes "http://a/s"))) (member 77 (codes "t") (object 81 (member 82 (codes "http://a/x") (object 95 (member 96 (codes "@value") (scalar 105 (Str (codes "v"))) no_member)) no_member)) no_member)))) (fault code.MapItem 95 ∷ []) ≡ true
unfolding is_refused_in_both
row_3 = refl

-- {"@context":{"i":{"@id":"http://a/i","@container":"@index","@index":"http://a/k"}},"@id":"http://a/s","i":{"one":["x"]}}
row_4 : is_refused_in_both None [] (object 0 (member 1 (codes "@context") (object 12 (member 13 (codes "i") (object 17 (member 18 (codes "@id") (scalar 24 (Str (codes "http://a/i"))) (member 37 (codes "@container") (scalar 50 (Str (codes "@index"))) (member 59 (codes "@index") (scalar 68 (Str (codes "http://a/k"))) no_member)))) no_member)) (member 83 (codes "@id") (scalar 89 (Str (codes "http://a/s"))) (member 102 (codes "i") (object 106 (member 107 (codes "one") (array 113 (item (scalar 114 (Str (codes "x"))) no_item)) no_member)) no_member)))) (fault code.InvalidValueObject 114 ∷ []) ≡ true
unfolding is_refused_in_both
row_4 = refl

-- {"@context":{"i":{"@id":"http://a/i","@type":"@id","@container":"@index","@index":"http://a/k"},"t":{"@id":"http://a/t","@container":"@type"}},"@id":"http://a/s","i":{"one":"http://a/x"},"t":{"http://a/C":"http://a/y"}}
row_5 : says_in_both None [] (object 0 (member 1 (codes "@context") (object 12 (member 13 (codes "i") (object 17 (member 18 (codes "@id") (scalar 24 (Str (codes "http://a/i"))) (member 37 (codes "@type") (scalar 45 (Str (codes "@id"))) (member 51 (codes "@container") (scalar 64 (Str (codes "@index"))) (member 73 (codes "@index") (scalar 82 (Str (codes "http://a/k"))) no_member))))) (member 96 (codes "t") (object 100 (member 101 (codes "@id") (scalar 107 (Str (codes "http://a/t"))) (member 120 (codes "@container") (scalar 133 (Str (codes "@type"))) no_member))) no_member))) (member 143 (codes "@id") (scalar 149 (Str (codes "http://a/s"))) (member 162 (codes "i") (object 166 (member 167 (codes "one") (scalar 173 (Str (codes "http://a/x"))) no_member)) (member 187 (codes "t") (object 191 (member 192 (codes "http://a/C") (scalar 205 (Str (codes "http://a/y"))) no_member)) no_member))))) (codes "<http://a/s> <http://a/i> <http://a/x> .\n" ∷ codes "<http://a/s> <http://a/t> <http://a/y> .\n" ∷ codes "<http://a/x> <http://a/k> \"one\" .\n" ∷ codes "<http://a/y> <http://www.w3.org/1999/02/22-rdf-syntax-ns#type> <http://a/C> .\n" ∷ []) ≡ true
unfolding says_in_both
row_5 = refl

-- {"@context":{"t":{"@id":"http://a/t","@container":"@type"}},"@id":"http://a/s","t":{"rel":{"@id":"http://a/x","@type":"rel"}}} with the base http://d/e
row_6 : says_in_both (Some (codes "http://d/e")) [] (object 0 (member 1 (codes "@context") (object 12 (member 13 (codes "t") (object 17 (member 18 (codes "@id") (scalar 24 (Str (codes "http://a/t"))) (member 37 (codes "@container") (scalar 50 (Str (codes "@type"))) no_member))) no_member)) (member 60 (codes "@id") (scalar 66 (Str (codes "http://a/s"))) (member 79 (codes "t") (object 83 (member 84 (codes "rel") (object 90 (member 91 (codes "@id") (scalar 97 (Str (codes "http://a/x"))) (member 110 (codes "@type") (scalar 118 (Str (codes "rel"))) no_member))) no_member)) no_member)))) (codes "<http://a/s> <http://a/t> <http://a/x> .\n" ∷ codes "<http://a/x> <http://www.w3.org/1999/02/22-rdf-syntax-ns#type> <http://d/rel> .\n" ∷ []) ≡ true
unfolding says_in_both
row_6 = refl

-- {"@context":{"@vocab":"http://v/","t":{"@id":"http://a/t","@container":"@type"},"T":{"@id":"http://a/T","@context":{"@vocab":"http://t/"}}},"@id":"http://a/s","t":{"T":{"@id":"http://a/x","p":"1"},"U":{"@id":"http://a/y","p":"2"}}}
row_7 : says_in_both None [] (object 0 (member 1 (codes "@context") (object 12 (member 13 (codes "@vocab") (scalar 22 (Str (codes "http://v/"))) (member 34 (codes "t") (object 38 (member 39 (codes "@id") (scalar 45 (Str (codes "http://a/t"))) (member 58 (codes "@container") (scalar 71 (Str (codes "@type"))) no_member))) (member 80 (codes "T") (object 84 (member 85 (codes "@id") (scalar 91 (Str (codes "http://a/T"))) (member 104 (codes "@context") (object 115 (member 116 (codes "@vocab") (scalar 125 (Str (codes "http://t/"))) no_member)) no_member))) no_member)))) (member 140 (codes "@id") (scalar 146 (Str (codes "http://a/s"))) (member 159 (codes "t") (object 163 (member 164 (codes "T") (object 168 (member 169 (codes "@id") (scalar 175 (Str (codes "http://a/x"))) (member 188 (codes "p") (scalar 192 (Str (codes "1"))) no_member))) (member 197 (codes "U") (object 201 (member 202 (codes "@id") (scalar 208 (Str (codes "http://a/y"))) (member 221 (codes "p") (scalar 225 (Str (codes "2"))) no_member))) no_member))) no_member)))) (codes "<http://a/s> <http://a/t> <http://a/x> .\n" ∷ codes "<http://a/s> <http://a/t> <http://a/y> .\n" ∷ codes "<http://a/x> <http://t/p> \"1\" .\n" ∷ codes "<http://a/x> <http://www.w3.org/1999/02/22-rdf-syntax-ns#type> <http://a/T> .\n" ∷ codes "<http://a/y> <http://v/p> \"2\" .\n" ∷ codes "<http://a/y> <http://www.w3.org/1999/02/22-rdf-syntax-ns#type> <http://v/U> .\n" ∷ []) ≡ true
unfolding says_in_both
row_7 = refl

-- {"@context":{"T":{"@id":"http://a/T","@context":{"i":{"@id":"http://a/i","@type":"@id","@container":"@id"}}}},"@id":"http://a/s","@type":"T","i":{"http://a/x":"http://a/y"}}
row_8 : is_refused_in_both None [] (object 0 (member 1 (codes "@context") (object 12 (member 13 (codes "T") (object 17 (member 18 (codes "@id") (scalar 24 (Str (codes "http://a/T"))) (member 37 (codes "@context") (object 48 (member 49 (codes "i") (object 53 (member 54 (codes "@id") (scalar 60 (Str (codes "http://a/i"))) (member 73 (codes "@type") (scalar 81 (Str (codes "@id"))) (member 87 (codes "@container") (scalar 100 (Str (codes "@id"))) no_member)))) no_member)) no_member))) no_member)) (member 110 (codes "@id") (scalar 116 (Str (codes "http://a/s"))) (member 129 (codes "@type") (scalar 137 (Str (codes "T"))) (member 141 (codes "i") (object 145 (member 146 (codes "http://a/x") (scalar 159 (Str (codes "http://a/y"))) no_member)) no_member))))) (fault code.MapItem 159 ∷ []) ≡ true
unfolding is_refused_in_both
row_8 = refl

-- {"@context":{"i":{"@id":"http://a/i","@container":"@id"}},"@id":"http://a/s","i":{"http://a/x":{"@id":"@foo","http://a/p":"1"}}}
row_9 : says_in_both None [] (object 0 (member 1 (codes "@context") (object 12 (member 13 (codes "i") (object 17 (member 18 (codes "@id") (scalar 24 (Str (codes "http://a/i"))) (member 37 (codes "@container") (scalar 50 (Str (codes "@id"))) no_member))) no_member)) (member 58 (codes "@id") (scalar 64 (Str (codes "http://a/s"))) (member 77 (codes "i") (object 81 (member 82 (codes "http://a/x") (object 95 (member 96 (codes "@id") (scalar 102 (Str (codes "@foo"))) (member 109 (codes "http://a/p") (scalar 122 (Str (codes "1"))) no_member))) no_member)) no_member)))) (codes "<http://a/s> <http://a/i> <http://a/x> .\n" ∷ codes "<http://a/x> <http://a/p> \"1\" .\n" ∷ []) ≡ true
unfolding says_in_both
row_9 = refl

-- {"@context":{"n":"@none","l":{"@id":"http://a/l","@type":"@id","@container":"@language"}},"@id":"http://a/s","l":{"n":"a","en":["b",null,["c"]]}}
row_10 : is_refused_in_both None [] (object 0 (member 1 (codes "@context") (object 12 (member 13 (codes "n") (scalar 17 (Str (codes "@none"))) (member 25 (codes "l") (object 29 (member 30 (codes "@id") (scalar 36 (Str (codes "http://a/l"))) (member 49 (codes "@type") (scalar 57 (Str (codes "@id"))) (member 63 (codes "@container") (scalar 76 (Str (codes "@language"))) no_member)))) no_member))) (member 90 (codes "@id") (scalar 96 (Str (codes "http://a/s"))) (member 109 (codes "l") (object 113 (member 114 (codes "n") (scalar 118 (Str (codes "a"))) (member 122 (codes "en") (array 127 (item (scalar 128 (Str (codes "b"))) (item (scalar 132 Null) (item (array 137 (item (scalar 138 (Str (codes "c"))) no_item)) no_item)))) no_member))) no_member)))) (fault code.InvalidLanguageMapValue 137 ∷ []) ≡ true
unfolding is_refused_in_both
row_10 = refl

-- {"@context":{"m":{"@id":"http://a/m","@container":"@id"},"t":{"@id":"http://a/t","@container":"@type"}},"@id":"http://a/s","m":{"http://a/1":[1.5,2]},"t":{"http://a/1":1.5}}
row_11 : is_refused_in_both None [] (object 0 (member 1 (codes "@context") (object 12 (member 13 (codes "m") (object 17 (member 18 (codes "@id") (scalar 24 (Str (codes "http://a/m"))) (member 37 (codes "@container") (scalar 50 (Str (codes "@id"))) no_member))) (member 57 (codes "t") (object 61 (member 62 (codes "@id") (scalar 68 (Str (codes "http://a/t"))) (member 81 (codes "@container") (scalar 94 (Str (codes "@type"))) no_member))) no_member))) (member 104 (codes "@id") (scalar 110 (Str (codes "http://a/s"))) (member 123 (codes "m") (object 127 (member 128 (codes "http://a/1") (array 141 (item (scalar 142 (Number (codes "1.5"))) (item (scalar 146 (Number (codes "2"))) no_item))) no_member)) (member 150 (codes "t") (object 154 (member 155 (codes "http://a/1") (scalar 168 (Number (codes "1.5"))) no_member)) no_member))))) (fault code.MapItem 146 ∷ fault code.NumberNotWhole 142 ∷ fault code.NumberNotWhole 168 ∷ []) ≡ true
unfolding is_refused_in_both
row_11 = refl

-- {"@context":"http://c/r","@id":"http://a/s","n":[{},{}],"t":{"K":[],"L":[{},{}]}} with http://c/r handed in as {"@context":{"n":{"@id":"@nest","@context":{"@base":5}},"t":{"@id":"http://a/t","@container":"@type"},"K":{"@id":"http://a/K","@context":{"@base":5}},"L":{"@id":"http://a/L","@context":{"@base":5}}}}
row_12 : is_refused_in_both None (handed (codes "http://c/r") (object 0 (member 1 (codes "@context") (object 12 (member 13 (codes "n") (object 17 (member 18 (codes "@id") (scalar 24 (Str (codes "@nest"))) (member 32 (codes "@context") (object 43 (member 44 (codes "@base") (scalar 52 (Number (codes "5"))) no_member)) no_member))) (member 56 (codes "t") (object 60 (member 61 (codes "@id") (scalar 67 (Str (codes "http://a/t"))) (member 80 (codes "@container") (scalar 93 (Str (codes "@type"))) no_member))) (member 102 (codes "K") (object 106 (member 107 (codes "@id") (scalar 113 (Str (codes "http://a/K"))) (member 126 (codes "@context") (object 137 (member 138 (codes "@base") (scalar 146 (Number (codes "5"))) no_member)) no_member))) (member 150 (codes "L") (object 154 (member 155 (codes "@id") (scalar 161 (Str (codes "http://a/L"))) (member 174 (codes "@context") (object 185 (member 186 (codes "@base") (scalar 194 (Number (codes "5"))) no_member)) no_member))) no_member))))) no_member)) ∷ []) (object 0 (member 1 (codes "@context") (scalar 12 (Str (codes "http://c/r"))) (member 25 (codes "@id") (scalar 31 (Str (codes "http://a/s"))) (member 44 (codes "n") (array 48 (item (object 49 no_member) (item (object 52 no_member) no_item))) (member 56 (codes "t") (object 60 (member 61 (codes "K") (array 65 no_item) (member 68 (codes "L") (array 72 (item (object 73 no_member) (item (object 76 no_member) no_item))) no_member))) no_member))))) (fault code.InvalidBaseIri 49 ∷ fault code.InvalidBaseIri 52 ∷ fault code.InvalidBaseIri 65 ∷ fault code.InvalidBaseIri 72 ∷ []) ≡ true
unfolding is_refused_in_both
row_12 = refl

-- {"@context":[{"k":"http://a/k","i":{"@id":"http://a/i","@container":"@index","@index":"k"}},{"k":null}],"@id":"http://a/s","i":{"one":{"@id":"http://a/o"},"two":{"@list":[]}}}
row_13 : says_in_both None [] (object 0 (member 1 (codes "@context") (array 12 (item (object 13 (member 14 (codes "k") (scalar 18 (Str (codes "http://a/k"))) (member 31 (codes "i") (object 35 (member 36 (codes "@id") (scalar 42 (Str (codes "http://a/i"))) (member 55 (codes "@container") (scalar 68 (Str (codes "@index"))) (member 77 (codes "@index") (scalar 86 (Str (codes "k"))) no_member)))) no_member))) (item (object 92 (member 93 (codes "k") (scalar 97 Null) no_member)) no_item))) (member 104 (codes "@id") (scalar 110 (Str (codes "http://a/s"))) (member 123 (codes "i") (object 127 (member 128 (codes "one") (object 134 (member 135 (codes "@id") (scalar 141 (Str (codes "http://a/o"))) no_member)) (member 155 (codes "two") (object 161 (member 162 (codes "@list") (array 170 no_item) no_member)) no_member))) no_member)))) (codes "<http://a/s> <http://a/i> <http://a/o> .\n" ∷ codes "<http://a/s> <http://a/i> <http://www.w3.org/1999/02/22-rdf-syntax-ns#nil> .\n" ∷ []) ≡ true
unfolding says_in_both
row_13 = refl

-- {"@context":{"i":{"@id":"http://a/i","@container":"@list"},"T":{"@id":"http://a/T","@context":{"i":{"@id":"http://a/i","@container":"@id"}}}},"@id":"http://a/s","@type":"T","i":{"http://a/x":[["y"]]}}
row_14 : is_refused_in_both None [] (object 0 (member 1 (codes "@context") (object 12 (member 13 (codes "i") (object 17 (member 18 (codes "@id") (scalar 24 (Str (codes "http://a/i"))) (member 37 (codes "@container") (scalar 50 (Str (codes "@list"))) no_member))) (member 59 (codes "T") (object 63 (member 64 (codes "@id") (scalar 70 (Str (codes "http://a/T"))) (member 83 (codes "@context") (object 94 (member 95 (codes "i") (object 99 (member 100 (codes "@id") (scalar 106 (Str (codes "http://a/i"))) (member 119 (codes "@container") (scalar 132 (Str (codes "@id"))) no_member))) no_member)) no_member))) no_member))) (member 142 (codes "@id") (scalar 148 (Str (codes "http://a/s"))) (member 161 (codes "@type") (scalar 169 (Str (codes "T"))) (member 173 (codes "i") (object 177 (member 178 (codes "http://a/x") (array 191 (item (array 192 (item (scalar 193 (Str (codes "y"))) no_item)) no_item)) no_member)) no_member))))) (fault code.MapItem 192 ∷ []) ≡ true
unfolding is_refused_in_both
row_14 = refl

-- {"@context":{"i":{"@id":"http://a/i","@container":"@index","@index":"http://a/k"}},"@id":"http://a/s","i":{"one":1.5,"two":2,"three":{"@value":1.5}}}
-- Under a property-valued index a number at fault has its own fault alone, a value object with one has both.
row_15 : is_refused_in_both None [] (object 0 (member 1 (codes "@context") (object 12 (member 13 (codes "i") (object 17 (member 18 (codes "@id") (scalar 24 (Str (codes "http://a/i"))) (member 37 (codes "@container") (scalar 50 (Str (codes "@index"))) (member 59 (codes "@index") (scalar 68 (Str (codes "http://a/k"))) no_member)))) no_member)) (member 83 (codes "@id") (scalar 89 (Str (codes "http://a/s"))) (member 102 (codes "i") (object 106 (member 107 (codes "one") (scalar 113 (Number (codes "1.5"))) (member 117 (codes "two") (scalar 123 (Number (codes "2"))) (member 125 (codes "three") (object 133 (member 134 (codes "@value") (scalar 143 (Number (codes "1.5"))) no_member)) no_member)))) no_member)))) (fault code.NumberNotWhole 113 ∷ fault code.InvalidValueObject 123 ∷ fault code.InvalidValueObject 133 ∷ fault code.NumberNotWhole 143 ∷ []) ≡ true
unfolding is_refused_in_both
row_15 = refl
