-- The bound where a document has been read up to the mark `|`.
use Rattle.std.specs.Prelude.{◌≡◌, [], ◌∷◌, codes, refl}
use Rattle.jl_model.specs.JsonTree.{scalar, array, object, no_item, item, no_member, member}
use Rattle.jl_model.specs.declared.scalars.Scalar.TheVariants.{Number, Str}
use Rattle.jl_model.specs.declared.orders.Order.TheVariants.{Any, Streaming}
use Rattle.jl_defs.specs.OpenTree.{quote, unread, in_scalar, in_array, in_object, in_key, in_member}
use Rattle.jl_defs.proofs.RowWords.{bound_of}

-- streaming: |{}, the document alone
row_1 : bound_of Streaming 0 unread ≡ 64
unfolding bound_of
row_1 = refl

-- streaming: {|}, the document and an object
row_2 : bound_of Streaming 1 (in_object 0 no_member []) ≡ 128
unfolding bound_of
row_2 = refl

-- streaming: {"http://a/p":"x|"}, 2 bytes of a string; 64 and 64; 18 for the key; twice 4 for the label jlb0 and 10 and 10 for the property
row_3 : bound_of Streaming 16 (in_member 0 no_member [] 1 (codes "http://a/p") (in_scalar 14 quote)) ≡ 196
unfolding bound_of
row_3 = refl

-- streaming: {"http://a/p|":"x"}, 11 bytes of a key, which counts four times as a member that may lead
row_4 : bound_of Streaming 12 (in_key 0 no_member [] 1) ≡ 183
unfolding bound_of
row_4 = refl

-- streaming: {"@id":"http://a/s"|}, a key; four times 18 bytes of a leading member; no subject before the object is decided
row_5 : bound_of Streaming 19 (in_object 0 (member 1 (codes "@id") (scalar 7 (Str (codes "http://a/s"))) no_member) (19 ∷ [])) ≡ 211
unfolding bound_of
row_5 = refl

-- any: {"http://a/p":"x"|}, 17 bytes wait
row_6 : bound_of Any 17 (in_object 0 (member 1 (codes "http://a/p") (scalar 14 (Str (codes "x"))) no_member) (17 ∷ [])) ≡ 163
unfolding bound_of
row_6 = refl

-- any: {"http://a/p":[[|]]}, 16 bytes wait, with two arrays among them; the key is in force
row_7 : bound_of Any 16 (in_member 0 no_member [] 1 (codes "http://a/p") (in_array 14 no_item (in_array 15 no_item unread))) ≡ 310
unfolding bound_of
row_7 = refl

-- streaming: [[|]], two arrays
row_8 : bound_of Streaming 2 (in_array 0 no_item (in_array 1 no_item unread)) ≡ 192
unfolding bound_of
row_8 = refl

-- streaming: {"@context":{"p":|"http://a/p"}}, the context counts five times from its first byte; its key is in force twice
row_9 : bound_of Streaming 17 (in_member 0 no_member [] 1 (codes "@context") (in_member 12 no_member [] 13 (codes "p") unread)) ≡ 274
unfolding bound_of
row_9 = refl

-- streaming: {"@graph":[{"@list":[{"http://a/p":"x|"}]}]}, in an ignored list nothing is an object
row_10 : bound_of Streaming 37 (in_member 0 no_member [] 1 (codes "@graph") (in_array 10 no_item (in_member 11 no_member [] 12 (codes "@list") (in_array 20 no_item (in_member 21 no_member [] 22 (codes "http://a/p") (in_scalar 35 quote)))))) ≡ 515
unfolding bound_of
row_10 = refl

-- streaming: {"@context":{"i":{"@id":"http://a/i","@container":"@id"}},"i":{"http://a/x":[|]}}, the entry's key is in force in its map and in the array
row_11 : bound_of Streaming 77 (in_member 0 (member 1 (codes "@context") (object 12 (member 13 (codes "i") (object 17 (member 18 (codes "@id") (scalar 24 (Str (codes "http://a/i"))) (member 37 (codes "@container") (scalar 50 (Str (codes "@id"))) no_member))) no_member)) no_member) (57 ∷ []) 58 (codes "i") (in_member 62 no_member [] 63 (codes "http://a/x") (in_array 76 no_item unread))) ≡ 672
unfolding bound_of
row_11 = refl

-- streaming: {"@context":{"n":{"@id":"@nest","@context":{"q":"http://a/q"}}},"n":{"q":[|]}}, under `@nest` the nest term's context and the key read last hold
row_12 : bound_of Streaming 74 (in_member 0 (member 1 (codes "@context") (object 12 (member 13 (codes "n") (object 17 (member 18 (codes "@id") (scalar 24 (Str (codes "@nest"))) (member 32 (codes "@context") (object 43 (member 44 (codes "q") (scalar 48 (Str (codes "http://a/q"))) no_member)) no_member))) no_member)) no_member) (63 ∷ []) 64 (codes "n") (in_member 68 no_member [] 69 (codes "q") (in_array 73 no_item unread))) ≡ 819
unfolding bound_of
row_12 = refl

-- streaming: {"@id":"http://a/s","@reverse":{"http://a/p":{|}}}, the map of `@reverse` is an object that speaks of the node round it
row_13 : bound_of Streaming 46 (in_member 0 (member 1 (codes "@id") (scalar 7 (Str (codes "http://a/s"))) no_member) (19 ∷ []) 20 (codes "@reverse") (in_member 31 no_member [] 32 (codes "http://a/p") (in_object 45 no_member []))) ≡ 529
unfolding bound_of
row_13 = refl

-- streaming: {"@context":{"j":{"@id":"http://a/j","@type":"@json"}},"@id":"http://a/s","j":[1,{"b|":2}]}, 6 bytes of a literal count five times; the context has 32 bytes
row_14 : bound_of Streaming 84 (in_member 0 (member 1 (codes "@context") (object 12 (member 13 (codes "j") (object 17 (member 18 (codes "@id") (scalar 24 (Str (codes "http://a/j"))) (member 37 (codes "@type") (scalar 45 (Str (codes "@json"))) no_member))) no_member)) (member 55 (codes "@id") (scalar 61 (Str (codes "http://a/s"))) no_member)) (54 ∷ 73 ∷ []) 74 (codes "j") (in_array 78 (item (scalar 79 (Number (codes "1"))) no_item) (in_key 81 no_member [] 82))) ≡ 810
unfolding bound_of
row_14 = refl

-- any: {"@context":{},"@type":[],"@id":"http://a/s","http://a/p":{"http://a/q":|1}}, 14 bytes wait in an object round which another has settled; that one's leading members don't count any more
row_15 : bound_of Any 72 (in_member 0 (member 1 (codes "@context") (object 12 no_member) (member 15 (codes "@type") (array 23 no_item) (member 26 (codes "@id") (scalar 32 (Str (codes "http://a/s"))) no_member))) (14 ∷ 25 ∷ 44 ∷ []) 45 (codes "http://a/p") (in_member 58 no_member [] 59 (codes "http://a/q") unread)) ≡ 402
unfolding bound_of
row_15 = refl

-- streaming: {"@context":{"g":{"@id":"http://a/g","@container":["@graph","@id"]}},"g":{"http://a/k":{"http://a/p":|1}}}, the key names the graph; beside it it is in force at the map, and no more in the object in which a property has been read
row_16 : bound_of Streaming 101 (in_member 0 (member 1 (codes "@context") (object 12 (member 13 (codes "g") (object 17 (member 18 (codes "@id") (scalar 24 (Str (codes "http://a/g"))) (member 37 (codes "@container") (array 50 (item (scalar 51 (Str (codes "@graph"))) (item (scalar 60 (Str (codes "@id"))) no_item))) no_member))) no_member)) no_member) (68 ∷ []) 69 (codes "g") (in_member 73 no_member [] 74 (codes "http://a/k") (in_member 87 no_member [] 88 (codes "http://a/p") unread))) ≡ 710
unfolding bound_of
row_16 = refl

-- streaming: {"@context":{"T":{"@id":"http://a/T","@context":{"i":"@id"}}},"@type":"T","i":"http://a/s|"}, the second run leads too; the final context weighs with the one before it
row_17 : bound_of Streaming 89 (in_member 0 (member 1 (codes "@context") (object 12 (member 13 (codes "T") (object 17 (member 18 (codes "@id") (scalar 24 (Str (codes "http://a/T"))) (member 37 (codes "@context") (object 48 (member 49 (codes "i") (scalar 53 (Str (codes "@id"))) no_member)) no_member))) no_member)) (member 62 (codes "@type") (scalar 70 (Str (codes "T"))) no_member)) (61 ∷ 73 ∷ []) 74 (codes "i") (in_scalar 78 quote)) ≡ 537
unfolding bound_of
row_17 = refl

-- streaming: {"@context":{"i":{"@id":"http://a/i","@container":"@index"}},"i":{"k":[{"@id":"http://a/o"|}]}}, the key of the map's entry is in force at the map, at the array and at the first object below it
row_18 : bound_of Streaming 90 (in_member 0 (member 1 (codes "@context") (object 12 (member 13 (codes "i") (object 17 (member 18 (codes "@id") (scalar 24 (Str (codes "http://a/i"))) (member 37 (codes "@container") (scalar 50 (Str (codes "@index"))) no_member))) no_member)) no_member) (60 ∷ []) 61 (codes "i") (in_member 65 no_member [] 66 (codes "k") (in_array 70 no_item (in_object 71 (member 72 (codes "@id") (scalar 78 (Str (codes "http://a/o"))) no_member) (90 ∷ []))))) ≡ 887
unfolding bound_of
row_18 = refl

-- streaming: {"@context":{"i":{"@id":"http://a/i","@container":"@index"}},"i":{"k":[{"http://a/p":[|]}]}}, from the object's first key for a property on it is in force neither there nor below
row_19 : bound_of Streaming 86 (in_member 0 (member 1 (codes "@context") (object 12 (member 13 (codes "i") (object 17 (member 18 (codes "@id") (scalar 24 (Str (codes "http://a/i"))) (member 37 (codes "@container") (scalar 50 (Str (codes "@index"))) no_member))) no_member)) no_member) (60 ∷ []) 61 (codes "i") (in_member 65 no_member [] 66 (codes "k") (in_array 70 no_item (in_member 71 no_member [] 72 (codes "http://a/p") (in_array 85 no_item unread))))) ≡ 1035
unfolding bound_of
row_19 = refl

-- streaming: {"@context":{"i":{"@id":"http://a/i","@container":"@index"}},"i":{"k":[{"http://a/p":1,"@index":"x"|}]}}, nor is it after another key has been read
row_20 : bound_of Streaming 99 (in_member 0 (member 1 (codes "@context") (object 12 (member 13 (codes "i") (object 17 (member 18 (codes "@id") (scalar 24 (Str (codes "http://a/i"))) (member 37 (codes "@container") (scalar 50 (Str (codes "@index"))) no_member))) no_member)) no_member) (60 ∷ []) 61 (codes "i") (in_member 65 no_member [] 66 (codes "k") (in_array 70 no_item (in_object 71 (member 72 (codes "http://a/p") (scalar 85 (Number (codes "1"))) (member 87 (codes "@index") (scalar 96 (Str (codes "x"))) no_member)) (86 ∷ 99 ∷ []))))) ≡ 836
unfolding bound_of
row_20 = refl

-- streaming: {"@context":{"i":{"@id":"http://a/i","@container":"@index"}},"i":{"k":{"@set":[|]}}}, the first object below the map may be a set; below it the key isn't in force
row_21 : bound_of Streaming 79 (in_member 0 (member 1 (codes "@context") (object 12 (member 13 (codes "i") (object 17 (member 18 (codes "@id") (scalar 24 (Str (codes "http://a/i"))) (member 37 (codes "@container") (scalar 50 (Str (codes "@index"))) no_member))) no_member)) no_member) (60 ∷ []) 61 (codes "i") (in_member 65 no_member [] 66 (codes "k") (in_member 70 no_member [] 71 (codes "@set") (in_array 78 no_item unread)))) ≡ 790
unfolding bound_of
row_21 = refl

-- streaming: {"@context":{"l":{"@id":"http://a/l","@container":"@language"}},"l":{"en":[|]}}, the key of a language map's entry is in force at the map and at the array
row_22 : bound_of Streaming 75 (in_member 0 (member 1 (codes "@context") (object 12 (member 13 (codes "l") (object 17 (member 18 (codes "@id") (scalar 24 (Str (codes "http://a/l"))) (member 37 (codes "@container") (scalar 50 (Str (codes "@language"))) no_member))) no_member)) no_member) (63 ∷ []) 64 (codes "l") (in_member 68 no_member [] 69 (codes "en") (in_array 74 no_item unread))) ≡ 632
unfolding bound_of
row_22 = refl

-- any: {"@context":{},"http://a/p":"x","@id":"http://a/s"|}, 50 bytes wait; of the closed members that for `@id` leads, with four times 18 bytes, and no other
row_23 : bound_of Any 50 (in_object 0 (member 1 (codes "@context") (object 12 no_member) (member 15 (codes "http://a/p") (scalar 28 (Str (codes "x"))) (member 32 (codes "@id") (scalar 38 (Str (codes "http://a/s"))) no_member))) (14 ∷ 31 ∷ 50 ∷ [])) ≡ 295
unfolding bound_of
row_23 = refl

-- any: {"@context":{},"@id":"http://a/s","@type":"T|"}, the open member for `@type` doesn't lead
row_24 : bound_of Any 44 (in_member 0 (member 1 (codes "@context") (object 12 no_member) (member 15 (codes "@id") (scalar 21 (Str (codes "http://a/s"))) no_member)) (14 ∷ 33 ∷ []) 34 (codes "@type") (in_scalar 42 quote)) ≡ 296
unfolding bound_of
row_24 = refl

-- any: {"@context":{},"@type":[],"@id":"http://a/s","http://a/p|":1}, the object has settled: no member leads, and the key counts as it is read, with 11 bytes
row_25 : bound_of Any 56 (in_key 0 (member 1 (codes "@context") (object 12 no_member) (member 15 (codes "@type") (array 23 no_item) (member 26 (codes "@id") (scalar 32 (Str (codes "http://a/s"))) no_member))) (14 ∷ 25 ∷ 44 ∷ []) 45) ≡ 199
unfolding bound_of
row_25 = refl
