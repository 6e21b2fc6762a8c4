-- Nested, reversed and included members. Each document stands above its row.
use Rattle.std.specs.Prelude.{◌≡◌, true, [], ◌∷◌, None, codes, refl}
use Rattle.jl_model.specs.JsonTree.{scalar, array, object, no_item, item, no_member, member}
use Rattle.jl_model.specs.declared.scalars.Scalar.TheVariants.{Null, Number, Str}
use Rattle.jl_model.specs.declared.codes.Code.TheVariants as code
use Rattle.jl_defs.specs.ObjectContexts.{fault}
use Rattle.jl_defs.proofs.RowWords.{says_in_both, is_refused_in_both}

-- {"@context":{"n":"@nest","c":{"@reverse":"http://a/p"}},"@id":"http://a/s","n":{"http://a/q":"x"},"c":{"@id":"http://a/o"},"@included":[{"@id":"http://a/i","http://a/q":"y"}]}
row_1 : says_in_both None [] (object 0 (member 1 (codes "@context") (object 12 (member 13 (codes "n") (scalar 17 (Str (codes "@nest"))) (member 25 (codes "c") (object 29 (member 30 (codes "@reverse") (scalar 41 (Str (codes "http://a/p"))) no_member)) no_member))) (member 56 (codes "@id") (scalar 62 (Str (codes "http://a/s"))) (member 75 (codes "n") (object 79 (member 80 (codes "http://a/q") (scalar 93 (Str (codes "x"))) no_member)) (member 98 (codes "c") (object 102 (member 103 (codes "@id") (scalar 109 (Str (codes "http://a/o"))) no_member)) (member 123 (codes "@included") (array 135 (item (object 136 (member 137 (codes "@id") (scalar 143 (Str (codes "http://a/i"))) (member 156 (codes "http://a/q") (scalar 169 (Str (codes "y"))) no_member))) no_item)) no_member)))))) (codes "<http://a/i> <http://a/q> \"y\" .\n" ∷ codes "<http://a/o> <http://a/p> <http://a/s> .\n" ∷ codes "<http://a/s> <http://a/q> \"x\" .\n" ∷ []) ≡ true
unfolding says_in_both
row_1 = refl

-- {"@id":"http://a/s","@reverse":{"http://a/p":"x"}}
row_2 : is_refused_in_both None [] (object 0 (member 1 (codes "@id") (scalar 7 (Str (codes "http://a/s"))) (member 20 (codes "@reverse") (object 31 (member 32 (codes "http://a/p") (scalar 45 (Str (codes "x"))) no_member)) no_member))) (fault code.InvalidReversePropertyValue 45 ∷ []) ≡ true
unfolding is_refused_in_both
row_2 = refl

-- {"@id":"http://a/s","@reverse":{"@id":"http://a/o"}}
row_3 : is_refused_in_both None [] (object 0 (member 1 (codes "@id") (scalar 7 (Str (codes "http://a/s"))) (member 20 (codes "@reverse") (object 31 (member 32 (codes "@id") (scalar 38 (Str (codes "http://a/o"))) no_member)) no_member))) (fault code.InvalidReversePropertyMap 32 ∷ []) ≡ true
unfolding is_refused_in_both
row_3 = refl

-- {"@id":"http://a/s","@nest":{"@id":"http://a/t"}}
row_4 : is_refused_in_both None [] (object 0 (member 1 (codes "@id") (scalar 7 (Str (codes "http://a/s"))) (member 20 (codes "@nest") (object 28 (member 29 (codes "@id") (scalar 35 (Str (codes "http://a/t"))) no_member)) no_member))) (fault code.NestedKeyword 29 ∷ []) ≡ true
unfolding is_refused_in_both
row_4 = refl

-- {"@id":"http://a/s","@included":"x"}
row_5 : is_refused_in_both None [] (object 0 (member 1 (codes "@id") (scalar 7 (Str (codes "http://a/s"))) (member 20 (codes "@included") (scalar 32 (Str (codes "x"))) no_member))) (fault code.InvalidIncludedValue 32 ∷ []) ≡ true
unfolding is_refused_in_both
row_5 = refl

-- {"@context":{"r":{"@reverse":"http://a/r"}},"@id":"http://a/s","@reverse":{"r":{"@id":"http://a/o"}}}
row_6 : says_in_both None [] (object 0 (member 1 (codes "@context") (object 12 (member 13 (codes "r") (object 17 (member 18 (codes "@reverse") (scalar 29 (Str (codes "http://a/r"))) no_member)) no_member)) (member 44 (codes "@id") (scalar 50 (Str (codes "http://a/s"))) (member 63 (codes "@reverse") (object 74 (member 75 (codes "r") (object 79 (member 80 (codes "@id") (scalar 86 (Str (codes "http://a/o"))) no_member)) no_member)) no_member)))) (codes "<http://a/s> <http://a/r> <http://a/o> .\n" ∷ []) ≡ true
unfolding says_in_both
row_6 = refl

-- {"@context":{"l":{"@id":"http://a/l","@container":"@list"}},"@id":"http://a/s","@reverse":{"l":[{"@id":"http://a/o"}]}}
row_7 : is_refused_in_both None [] (object 0 (member 1 (codes "@context") (object 12 (member 13 (codes "l") (object 17 (member 18 (codes "@id") (scalar 24 (Str (codes "http://a/l"))) (member 37 (codes "@container") (scalar 50 (Str (codes "@list"))) no_member))) no_member)) (member 60 (codes "@id") (scalar 66 (Str (codes "http://a/s"))) (member 79 (codes "@reverse") (object 90 (member 91 (codes "l") (array 95 (item (object 96 (member 97 (codes "@id") (scalar 103 (Str (codes "http://a/o"))) no_member)) no_item)) no_member)) no_member)))) (fault code.InvalidReversePropertyValue 95 ∷ []) ≡ true
unfolding is_refused_in_both
row_7 = refl

-- {"@id":"http://a/s","@reverse":{"http://a/p":[{"@value":null},null]}}
row_8 : says_in_both None [] (object 0 (member 1 (codes "@id") (scalar 7 (Str (codes "http://a/s"))) (member 20 (codes "@reverse") (object 31 (member 32 (codes "http://a/p") (array 45 (item (object 46 (member 47 (codes "@value") (scalar 56 Null) no_member)) (item (scalar 62 Null) no_item))) no_member)) no_member))) [] ≡ true
unfolding says_in_both
row_8 = refl

-- {"@id":"http://a/s","@included":[{"@id":"http://a/i"},{"@value":null},{"@language":"en"},[null]]}
row_9 : is_refused_in_both None [] (object 0 (member 1 (codes "@id") (scalar 7 (Str (codes "http://a/s"))) (member 20 (codes "@included") (array 32 (item (object 33 (member 34 (codes "@id") (scalar 40 (Str (codes "http://a/i"))) no_member)) (item (object 54 (member 55 (codes "@value") (scalar 64 Null) no_member)) (item (object 70 (member 71 (codes "@language") (scalar 83 (Str (codes "en"))) no_member)) (item (array 89 (item (scalar 90 Null) no_item)) no_item))))) no_member))) (fault code.InvalidIncludedValue 54 ∷ fault code.InvalidIncludedValue 70 ∷ fault code.InvalidIncludedValue 90 ∷ []) ≡ true
unfolding is_refused_in_both
row_9 = refl

-- {"@id":"http://a/s","@reverse":{"http://a/p":1.5}}
row_10 : is_refused_in_both None [] (object 0 (member 1 (codes "@id") (scalar 7 (Str (codes "http://a/s"))) (member 20 (codes "@reverse") (object 31 (member 32 (codes "http://a/p") (scalar 45 (Number (codes "1.5"))) no_member)) no_member))) (fault code.InvalidReversePropertyValue 45 ∷ fault code.NumberNotWhole 45 ∷ []) ≡ true
unfolding is_refused_in_both
row_10 = refl

-- {"@context":{"r":{"@reverse":"http://a/r"}},"@id":"http://a/s","r":{"@id":"http://a/o"},"@reverse":{"http://a/p":{"@id":"http://a/o"}}}
row_11 : says_in_both None [] (object 0 (member 1 (codes "@context") (object 12 (member 13 (codes "r") (object 17 (member 18 (codes "@reverse") (scalar 29 (Str (codes "http://a/r"))) no_member)) no_member)) (member 44 (codes "@id") (scalar 50 (Str (codes "http://a/s"))) (member 63 (codes "r") (object 67 (member 68 (codes "@id") (scalar 74 (Str (codes "http://a/o"))) no_member)) (member 88 (codes "@reverse") (object 99 (member 100 (codes "http://a/p") (object 113 (member 114 (codes "@id") (scalar 120 (Str (codes "http://a/o"))) no_member)) no_member)) no_member))))) (codes "<http://a/o> <http://a/p> <http://a/s> .\n" ∷ codes "<http://a/o> <http://a/r> <http://a/s> .\n" ∷ []) ≡ true
unfolding says_in_both
row_11 = refl

-- {"@id":"http://a/s","@nest":{"@context":{}}}
row_12 : is_refused_in_both None [] (object 0 (member 1 (codes "@id") (scalar 7 (Str (codes "http://a/s"))) (member 20 (codes "@nest") (object 28 (member 29 (codes "@context") (object 40 no_member) no_member)) no_member))) (fault code.NestedKeyword 29 ∷ []) ≡ true
unfolding is_refused_in_both
row_12 = refl

-- {"@id":"http://a/s","@included":[{"@list":[]},{"@list":[],"@index":"i"},{"@list":[{"@id":5}],"http://a/p":"x"}]}
row_13 : is_refused_in_both None [] (object 0 (member 1 (codes "@id") (scalar 7 (Str (codes "http://a/s"))) (member 20 (codes "@included") (array 32 (item (object 33 (member 34 (codes "@list") (array 42 no_item) no_member)) (item (object 46 (member 47 (codes "@list") (array 55 no_item) (member 58 (codes "@index") (scalar 67 (Str (codes "i"))) no_member))) (item (object 72 (member 73 (codes "@list") (array 81 (item (object 82 (member 83 (codes "@id") (scalar 89 (Number (codes "5"))) no_member)) no_item)) (member 93 (codes "http://a/p") (scalar 106 (Str (codes "x"))) no_member))) no_item)))) no_member))) (fault code.InvalidIncludedValue 33 ∷ fault code.InvalidIncludedValue 46 ∷ []) ≡ true
unfolding is_refused_in_both
row_13 = refl

-- {"@context":{"x":"@index","n":{"@id":"@nest","@context":{"x":null}}},"@id":"http://a/s","n":[{"x":"a"},{"@index":"b"}]}
row_14 : says_in_both None [] (object 0 (member 1 (codes "@context") (object 12 (member 13 (codes "x") (scalar 17 (Str (codes "@index"))) (member 26 (codes "n") (object 30 (member 31 (codes "@id") (scalar 37 (Str (codes "@nest"))) (member 45 (codes "@context") (object 56 (member 57 (codes "x") (scalar 61 Null) no_member)) no_member))) no_member))) (member 69 (codes "@id") (scalar 75 (Str (codes "http://a/s"))) (member 88 (codes "n") (array 92 (item (object 93 (member 94 (codes "x") (scalar 98 (Str (codes "a"))) no_member)) (item (object 103 (member 104 (codes "@index") (scalar 113 (Str (codes "b"))) no_member)) no_item))) no_member)))) [] ≡ true
unfolding says_in_both
row_14 = refl

-- {"@context":{"n":{"@id":"@nest","@context":{"x":"@index"}}},"@id":"http://a/s","n":[{"x":"a"},{"@index":"b"}]}
row_15 : is_refused_in_both None [] (object 0 (member 1 (codes "@context") (object 12 (member 13 (codes "n") (object 17 (member 18 (codes "@id") (scalar 24 (Str (codes "@nest"))) (member 32 (codes "@context") (object 43 (member 44 (codes "x") (scalar 48 (Str (codes "@index"))) no_member)) no_member))) no_member)) (member 60 (codes "@id") (scalar 66 (Str (codes "http://a/s"))) (member 79 (codes "n") (array 83 (item (object 84 (member 85 (codes "x") (scalar 89 (Str (codes "a"))) no_member)) (item (object 94 (member 95 (codes "@index") (scalar 104 (Str (codes "b"))) no_member)) no_item))) no_member)))) (fault code.CollidingKeywords 95 ∷ []) ≡ true
unfolding is_refused_in_both
row_15 = refl

-- {"@id":"http://a/s","@nest":[["x"],{}]}
row_16 : is_refused_in_both None [] (object 0 (member 1 (codes "@id") (scalar 7 (Str (codes "http://a/s"))) (member 20 (codes "@nest") (array 28 (item (array 29 (item (scalar 30 (Str (codes "x"))) no_item)) (item (object 35 no_member) no_item))) no_member))) (fault code.InvalidNestValue 29 ∷ []) ≡ true
unfolding is_refused_in_both
row_16 = refl

-- {"@id":"http://a/s","@reverse":[]}
row_17 : is_refused_in_both None [] (object 0 (member 1 (codes "@id") (scalar 7 (Str (codes "http://a/s"))) (member 20 (codes "@reverse") (array 31 no_item) no_member))) (fault code.InvalidReverseValue 20 ∷ []) ≡ true
unfolding is_refused_in_both
row_17 = refl

-- {"@context":{"r":{"@reverse":"http://a/r"}},"@id":"http://a/s","@reverse":{"r":"x"}}
row_18 : is_refused_in_both None [] (object 0 (member 1 (codes "@context") (object 12 (member 13 (codes "r") (object 17 (member 18 (codes "@reverse") (scalar 29 (Str (codes "http://a/r"))) no_member)) no_member)) (member 44 (codes "@id") (scalar 50 (Str (codes "http://a/s"))) (member 63 (codes "@reverse") (object 74 (member 75 (codes "r") (scalar 79 (Str (codes "x"))) no_member)) no_member)))) (fault code.InvalidReversePropertyValue 79 ∷ []) ≡ true
unfolding is_refused_in_both
row_18 = refl

-- {"@context":{"r":"@reverse"},"@id":"http://a/s","@reverse":{"http://a/p":{"@id":"http://a/o"}},"r":{}}
-- A second `@reverse` collides after one that put an entry, also where it is empty.
row_19 : is_refused_in_both None [] (object 0 (member 1 (codes "@context") (object 12 (member 13 (codes "r") (scalar 17 (Str (codes "@reverse"))) no_member)) (member 29 (codes "@id") (scalar 35 (Str (codes "http://a/s"))) (member 48 (codes "@reverse") (object 59 (member 60 (codes "http://a/p") (object 73 (member 74 (codes "@id") (scalar 80 (Str (codes "http://a/o"))) no_member)) no_member)) (member 95 (codes "r") (object 99 no_member) no_member))))) (fault code.CollidingKeywords 95 ∷ []) ≡ true
unfolding is_refused_in_both
row_19 = refl

-- {"@context":{"r":"@reverse"},"@id":"http://a/s","@reverse":{},"r":{"http://a/p":{"@id":"http://a/o"}}}
-- An empty one puts no entry.
row_20 : says_in_both None [] (object 0 (member 1 (codes "@context") (object 12 (member 13 (codes "r") (scalar 17 (Str (codes "@reverse"))) no_member)) (member 29 (codes "@id") (scalar 35 (Str (codes "http://a/s"))) (member 48 (codes "@reverse") (object 59 no_member) (member 62 (codes "r") (object 66 (member 67 (codes "http://a/p") (object 80 (member 81 (codes "@id") (scalar 87 (Str (codes "http://a/o"))) no_member)) no_member)) no_member))))) (codes "<http://a/o> <http://a/p> <http://a/s> .\n" ∷ []) ≡ true
unfolding says_in_both
row_20 = refl

-- {"@id":"http://a/s","@included":{"@language":"en","http://a/q":{"@context":5}}}
-- A property whose object has faulty contexts is an entry, so the language doesn't stand alone.
row_21 : is_refused_in_both None [] (object 0 (member 1 (codes "@id") (scalar 7 (Str (codes "http://a/s"))) (member 20 (codes "@included") (object 32 (member 33 (codes "@language") (scalar 45 (Str (codes "en"))) (member 50 (codes "http://a/q") (object 63 (member 64 (codes "@context") (scalar 75 (Number (codes "5"))) no_member)) no_member))) no_member))) (fault code.InvalidLocalContext 64 ∷ []) ≡ true
unfolding is_refused_in_both
row_21 = refl
