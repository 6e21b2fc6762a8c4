-- Context processing and term definitions. Each document stands above its row.
use Rattle.std.specs.Prelude.{◌≡◌, true, false, [], ◌∷◌, Some, None, codes, refl}
use Rattle.jl_model.specs.JsonTree.{scalar, array, object, no_item, item, no_member, member}
use Rattle.jl_model.specs.declared.scalars.Scalar.TheVariants.{Null, Bool as truth, Number, Str}
use Rattle.jl_model.specs.declared.orders.Order.TheVariants.{Any, Streaming}
use Rattle.jl_model.specs.declared.codes.Code.TheVariants as code
use Rattle.jl_defs.specs.ObjectContexts.{fault}
use Rattle.jl_defs.proofs.RowWords.{settings, handed, says, says_in_both, is_refused, is_refused_in_both}

-- {"@context":{"@version":1.1,"ex":"http://a/","n":{"@id":"ex:n","@type":"@id"}},"@id":"http://a/s","n":"ex:o"}
row_1 : says_in_both None [] (object 0 (member 1 (codes "@context") (object 12 (member 13 (codes "@version") (scalar 24 (Number (codes "1.1"))) (member 28 (codes "ex") (scalar 33 (Str (codes "http://a/"))) (member 45 (codes "n") (object 49 (member 50 (codes "@id") (scalar 56 (Str (codes "ex:n"))) (member 63 (codes "@type") (scalar 71 (Str (codes "@id"))) no_member))) no_member)))) (member 79 (codes "@id") (scalar 85 (Str (codes "http://a/s"))) (member 98 (codes "n") (scalar 102 (Str (codes "ex:o"))) no_member)))) (codes "<http://a/s> <http://a/n> <http://a/o> .\n" ∷ []) ≡ true
unfolding says_in_both
row_1 = refl

-- {"p":"x","@context":{"p":"http://a/p"},"@id":"http://a/s"}
row_2_any : says (settings Any None []) (object 0 (member 1 (codes "p") (scalar 5 (Str (codes "x"))) (member 9 (codes "@context") (object 20 (member 21 (codes "p") (scalar 25 (Str (codes "http://a/p"))) no_member)) (member 39 (codes "@id") (scalar 45 (Str (codes "http://a/s"))) no_member)))) (codes "<http://a/s> <http://a/p> \"x\" .\n" ∷ []) ≡ true
unfolding says
row_2_any = refl

row_2_streaming : is_refused (settings Streaming None []) (object 0 (member 1 (codes "p") (scalar 5 (Str (codes "x"))) (member 9 (codes "@context") (object 20 (member 21 (codes "p") (scalar 25 (Str (codes "http://a/p"))) no_member)) (member 39 (codes "@id") (scalar 45 (Str (codes "http://a/s"))) no_member)))) (fault code.LateContext 9 ∷ fault code.LateIdentifier 39 ∷ []) ≡ true
unfolding is_refused
row_2_streaming = refl

-- {"@context":[{"@protected":true,"p":"http://a/p"},{"p":"http://b/p"}],"@id":"http://a/s","p":"x"}
row_3 : is_refused_in_both None [] (object 0 (member 1 (codes "@context") (array 12 (item (object 13 (member 14 (codes "@protected") (scalar 27 (truth true)) (member 32 (codes "p") (scalar 36 (Str (codes "http://a/p"))) no_member))) (item (object 50 (member 51 (codes "p") (scalar 55 (Str (codes "http://b/p"))) no_member)) no_item))) (member 70 (codes "@id") (scalar 76 (Str (codes "http://a/s"))) (member 89 (codes "p") (scalar 93 (Str (codes "x"))) no_member)))) (fault code.ProtectedTermRedefinition 1 ∷ []) ≡ true
unfolding is_refused_in_both
row_3 = refl

-- {"@context":[{"@protected":true,"p":"http://a/p"},{"p":"http://a/p"}],"@id":"http://a/s","p":"x"}
row_4 : says_in_both None [] (object 0 (member 1 (codes "@context") (array 12 (item (object 13 (member 14 (codes "@protected") (scalar 27 (truth true)) (member 32 (codes "p") (scalar 36 (Str (codes "http://a/p"))) no_member))) (item (object 50 (member 51 (codes "p") (scalar 55 (Str (codes "http://a/p"))) no_member)) no_item))) (member 70 (codes "@id") (scalar 76 (Str (codes "http://a/s"))) (member 89 (codes "p") (scalar 93 (Str (codes "x"))) no_member)))) (codes "<http://a/s> <http://a/p> \"x\" .\n" ∷ []) ≡ true
unfolding says_in_both
row_4 = refl

-- {"@context":[{"@protected":true,"p":"http://a/p"},null],"@id":"http://a/s"}
row_5 : is_refused_in_both None [] (object 0 (member 1 (codes "@context") (array 12 (item (object 13 (member 14 (codes "@protected") (scalar 27 (truth true)) (member 32 (codes "p") (scalar 36 (Str (codes "http://a/p"))) no_member))) (item (scalar 50 Null) no_item))) (member 56 (codes "@id") (scalar 62 (Str (codes "http://a/s"))) no_member))) (fault code.InvalidContextNullification 1 ∷ []) ≡ true
unfolding is_refused_in_both
row_5 = refl

-- {"@context":{"@protected":true,"p":"http://a/p","q":{"@id":"http://a/q","@context":{"p":"http://b/p"}}},"@id":"http://a/s","q":{"@id":"http://a/o","p":"x"}}
row_6 : says_in_both None [] (object 0 (member 1 (codes "@context") (object 12 (member 13 (codes "@protected") (scalar 26 (truth true)) (member 31 (codes "p") (scalar 35 (Str (codes "http://a/p"))) (member 48 (codes "q") (object 52 (member 53 (codes "@id") (scalar 59 (Str (codes "http://a/q"))) (member 72 (codes "@context") (object 83 (member 84 (codes "p") (scalar 88 (Str (codes "http://b/p"))) no_member)) no_member))) no_member)))) (member 104 (codes "@id") (scalar 110 (Str (codes "http://a/s"))) (member 123 (codes "q") (object 127 (member 128 (codes "@id") (scalar 134 (Str (codes "http://a/o"))) (member 147 (codes "p") (scalar 151 (Str (codes "x"))) no_member))) no_member)))) (codes "<http://a/o> <http://b/p> \"x\" .\n" ∷ codes "<http://a/s> <http://a/q> <http://a/o> .\n" ∷ []) ≡ true
unfolding says_in_both
row_6 = refl

-- {"@context":"https://schema.org/","@id":"http://shop.example/1","@type":"Product","name":"Cup","url":"http://shop.example/1.html","offers":{"@type":"Offer","price":12,"priceCurrency":"EUR"}} with https://schema.org/ handed in as {"@context":{"@vocab":"http://schema.org/","url":{"@id":"url","@type":"@id"}}}
row_7 : says_in_both None (handed (codes "https://schema.org/") (object 0 (member 1 (codes "@context") (object 12 (member 13 (codes "@vocab") (scalar 22 (Str (codes "http://schema.org/"))) (member 43 (codes "url") (object 49 (member 50 (codes "@id") (scalar 56 (Str (codes "url"))) (member 62 (codes "@type") (scalar 70 (Str (codes "@id"))) no_member))) no_member))) no_member)) ∷ []) (object 0 (member 1 (codes "@context") (scalar 12 (Str (codes "https://schema.org/"))) (member 34 (codes "@id") (scalar 40 (Str (codes "http://shop.example/1"))) (member 64 (codes "@type") (scalar 72 (Str (codes "Product"))) (member 82 (codes "name") (scalar 89 (Str (codes "Cup"))) (member 95 (codes "url") (scalar 101 (Str (codes "http://shop.example/1.html"))) (member 130 (codes "offers") (object 139 (member 140 (codes "@type") (scalar 148 (Str (codes "Offer"))) (member 156 (codes "price") (scalar 164 (Number (codes "12"))) (member 167 (codes "priceCurrency") (scalar 183 (Str (codes "EUR"))) no_member)))) no_member))))))) (codes "<http://shop.example/1> <http://schema.org/name> \"Cup\" .\n" ∷ codes "<http://shop.example/1> <http://schema.org/offers> _:jlb139 .\n" ∷ codes "<http://shop.example/1> <http://schema.org/url> <http://shop.example/1.html> .\n" ∷ codes "<http://shop.example/1> <http://www.w3.org/1999/02/22-rdf-syntax-ns#type> <http://schema.org/Product> .\n" ∷ codes "_:jlb139 <http://schema.org/price> \"12\"^^<http://www.w3.org/2001/XMLSchema#integer> .\n" ∷ codes "_:jlb139 <http://schema.org/priceCurrency> \"EUR\" .\n" ∷ codes "_:jlb139 <http://www.w3.org/1999/02/22-rdf-syntax-ns#type> <http://schema.org/Offer> .\n" ∷ []) ≡ true
unfolding says_in_both
row_7 = refl

-- {"@context":"https://schema.org/","@id":"http://shop.example/1","@type":"Product","name":"Cup","url":"http://shop.example/1.html","offers":{"@type":"Offer","price":12,"priceCurrency":"EUR"}}
row_8 : is_refused_in_both None [] (object 0 (member 1 (codes "@context") (scalar 12 (Str (codes "https://schema.org/"))) (member 34 (codes "@id") (scalar 40 (Str (codes "http://shop.example/1"))) (member 64 (codes "@type") (scalar 72 (Str (codes "Product"))) (member 82 (codes "name") (scalar 89 (Str (codes "Cup"))) (member 95 (codes "url") (scalar 101 (Str (codes "http://shop.example/1.html"))) (member 130 (codes "offers") (object 139 (member 140 (codes "@type") (scalar 148 (Str (codes "Offer"))) (member 156 (codes "price") (scalar 164 (Number (codes "12"))) (member 167 (codes "priceCurrency") (scalar 183 (Str (codes "EUR"))) no_member)))) no_member))))))) (fault code.LoadingRemoteContextFailed 1 ∷ []) ≡ true
unfolding is_refused_in_both
row_8 = refl

-- {"@context":{"id":"@id"},"@id":"http://a/s","id":"http://a/t"}
row_9 : is_refused_in_both None [] (object 0 (member 1 (codes "@context") (object 12 (member 13 (codes "id") (scalar 18 (Str (codes "@id"))) no_member)) (member 25 (codes "@id") (scalar 31 (Str (codes "http://a/s"))) (member 44 (codes "id") (scalar 49 (Str (codes "http://a/t"))) no_member)))) (fault code.CollidingKeywords 44 ∷ []) ≡ true
unfolding is_refused_in_both
row_9 = refl

-- {"@context":{"p":"http://a/p"},"@id":"http://a/s","p":"x"}
row_10 : says_in_both None [] (object 0 (member 1 (codes "@context") (object 12 (member 13 (codes "p") (scalar 17 (Str (codes "http://a/p"))) no_member)) (member 31 (codes "@id") (scalar 37 (Str (codes "http://a/s"))) (member 50 (codes "p") (scalar 54 (Str (codes "x"))) no_member)))) (codes "<http://a/s> <http://a/p> \"x\" .\n" ∷ []) ≡ true
unfolding says_in_both
row_10 = refl

-- {"@context":{"a":"b:x","b":"a:y"}}
row_11 : is_refused_in_both None [] (object 0 (member 1 (codes "@context") (object 12 (member 13 (codes "a") (scalar 17 (Str (codes "b:x"))) (member 23 (codes "b") (scalar 27 (Str (codes "a:y"))) no_member))) no_member)) (fault code.CyclicIriMapping 1 ∷ []) ≡ true
unfolding is_refused_in_both
row_11 = refl

-- {"@context":5}
row_12 : is_refused_in_both None [] (object 0 (member 1 (codes "@context") (scalar 12 (Number (codes "5"))) no_member)) (fault code.InvalidLocalContext 1 ∷ []) ≡ true
unfolding is_refused_in_both
row_12 = refl

-- {"@context":{"@language":"en"},"@id":"http://a/s","http://a/p":"x"}
row_13 : says_in_both None [] (object 0 (member 1 (codes "@context") (object 12 (member 13 (codes "@language") (scalar 25 (Str (codes "en"))) no_member)) (member 31 (codes "@id") (scalar 37 (Str (codes "http://a/s"))) (member 50 (codes "http://a/p") (scalar 63 (Str (codes "x"))) no_member)))) (codes "<http://a/s> <http://a/p> \"x\"@en .\n" ∷ []) ≡ true
unfolding says_in_both
row_13 = refl

-- {"@context":"x.json"}
row_14 : is_refused_in_both None [] (object 0 (member 1 (codes "@context") (scalar 12 (Str (codes "x.json"))) no_member)) (fault code.LoadingDocumentFailed 1 ∷ []) ≡ true
unfolding is_refused_in_both
row_14 = refl

-- {"@context":{"@import":5}}
row_15 : is_refused_in_both None [] (object 0 (member 1 (codes "@context") (object 12 (member 13 (codes "@import") (scalar 23 (Number (codes "5"))) no_member)) no_member)) (fault code.InvalidImportValue 1 ∷ []) ≡ true
unfolding is_refused_in_both
row_15 = refl

-- {"@context":{"p":{"@id":"http://a/p","@context":5}}}
row_16 : is_refused_in_both None [] (object 0 (member 1 (codes "@context") (object 12 (member 13 (codes "p") (object 17 (member 18 (codes "@id") (scalar 24 (Str (codes "http://a/p"))) (member 37 (codes "@context") (scalar 48 (Number (codes "5"))) no_member))) no_member)) no_member)) (fault code.InvalidScopedContext 1 ∷ []) ≡ true
unfolding is_refused_in_both
row_16 = refl

-- {"@context":{"@protected":true,"p":"http://a/p","q":{"@id":"http://a/q","@context":"http://c/one"}}} with http://c/one handed in as {"@context":{"p":"http://b/p"}}
row_17 : is_refused_in_both None (handed (codes "http://c/one") (object 0 (member 1 (codes "@context") (object 12 (member 13 (codes "p") (scalar 17 (Str (codes "http://b/p"))) no_member)) no_member)) ∷ []) (object 0 (member 1 (codes "@context") (object 12 (member 13 (codes "@protected") (scalar 26 (truth true)) (member 31 (codes "p") (scalar 35 (Str (codes "http://a/p"))) (member 48 (codes "q") (object 52 (member 53 (codes "@id") (scalar 59 (Str (codes "http://a/q"))) (member 72 (codes "@context") (scalar 83 (Str (codes "http://c/one"))) no_member))) no_member)))) no_member)) (fault code.InvalidScopedContext 1 ∷ []) ≡ true
unfolding is_refused_in_both
row_17 = refl

-- {"@context":[{"p":{"@id":"http://a/p","@protected":true}},null]}
row_18 : is_refused_in_both None [] (object 0 (member 1 (codes "@context") (array 12 (item (object 13 (member 14 (codes "p") (object 18 (member 19 (codes "@id") (scalar 25 (Str (codes "http://a/p"))) (member 38 (codes "@protected") (scalar 51 (truth true)) no_member))) no_member)) (item (scalar 58 Null) no_item))) no_member)) (fault code.InvalidContextNullification 1 ∷ []) ≡ true
unfolding is_refused_in_both
row_18 = refl

-- {"@context":[{"@protected":true,"p":"http://a/p"},{"p":{"@id":"http://a/p","@protected":false}},{"p":"http://b/p"}]}
row_19 : is_refused_in_both None [] (object 0 (member 1 (codes "@context") (array 12 (item (object 13 (member 14 (codes "@protected") (scalar 27 (truth true)) (member 32 (codes "p") (scalar 36 (Str (codes "http://a/p"))) no_member))) (item (object 50 (member 51 (codes "p") (object 55 (member 56 (codes "@id") (scalar 62 (Str (codes "http://a/p"))) (member 75 (codes "@protected") (scalar 88 (truth false)) no_member))) no_member)) (item (object 96 (member 97 (codes "p") (scalar 101 (Str (codes "http://b/p"))) no_member)) no_item)))) no_member)) (fault code.ProtectedTermRedefinition 1 ∷ []) ≡ true
unfolding is_refused_in_both
row_19 = refl

-- {"@context":{"@vocab":"http://v/#","ex":"ex","ey":"http://e/"},"@id":"http://a/s","ex:p":"1","ey:p":"2"}
row_20 : says_in_both None [] (object 0 (member 1 (codes "@context") (object 12 (member 13 (codes "@vocab") (scalar 22 (Str (codes "http://v/#"))) (member 35 (codes "ex") (scalar 40 (Str (codes "ex"))) (member 45 (codes "ey") (scalar 50 (Str (codes "http://e/"))) no_member)))) (member 63 (codes "@id") (scalar 69 (Str (codes "http://a/s"))) (member 82 (codes "ex:p") (scalar 89 (Str (codes "1"))) (member 93 (codes "ey:p") (scalar 100 (Str (codes "2"))) no_member))))) (codes "<http://a/s> <ex:p> \"1\" .\n" ∷ codes "<http://a/s> <http://e/p> \"2\" .\n" ∷ []) ≡ true
unfolding says_in_both
row_20 = refl

-- {"@context":{"":"http://a/"},"@id":"http://a/s"}
row_21 : is_refused_in_both None [] (object 0 (member 1 (codes "@context") (object 12 (member 13 ([]) (scalar 16 (Str (codes "http://a/"))) no_member)) (member 29 (codes "@id") (scalar 35 (Str (codes "http://a/s"))) no_member))) (fault code.InvalidTermDefinition 1 ∷ []) ≡ true
unfolding is_refused_in_both
row_21 = refl

-- {"@context":[{"@vocab":"http://v/"},{"@vocab":"x#"}],"@id":"http://a/s","p":"1"}
row_22 : says_in_both None [] (object 0 (member 1 (codes "@context") (array 12 (item (object 13 (member 14 (codes "@vocab") (scalar 23 (Str (codes "http://v/"))) no_member)) (item (object 36 (member 37 (codes "@vocab") (scalar 46 (Str (codes "x#"))) no_member)) no_item))) (member 53 (codes "@id") (scalar 59 (Str (codes "http://a/s"))) (member 72 (codes "p") (scalar 76 (Str (codes "1"))) no_member)))) (codes "<http://a/s> <http://v/x#p> \"1\" .\n" ∷ []) ≡ true
unfolding says_in_both
row_22 = refl

-- {"@context":{"@vocab":""},"@id":"http://a/s","p":"1"} with the base http://d/e
row_23 : says_in_both (Some (codes "http://d/e")) [] (object 0 (member 1 (codes "@context") (object 12 (member 13 (codes "@vocab") (scalar 22 (Str ([]))) no_member)) (member 26 (codes "@id") (scalar 32 (Str (codes "http://a/s"))) (member 45 (codes "p") (scalar 49 (Str (codes "1"))) no_member)))) (codes "<http://a/s> <http://d/ep> \"1\" .\n" ∷ []) ≡ true
unfolding says_in_both
row_23 = refl

-- {"@context":{"@vocab":"http://v/","a/b":{}},"@id":"http://a/s","a/b":"x"}
row_24 : says_in_both None [] (object 0 (member 1 (codes "@context") (object 12 (member 13 (codes "@vocab") (scalar 22 (Str (codes "http://v/"))) (member 34 (codes "a/b") (object 40 no_member) no_member))) (member 44 (codes "@id") (scalar 50 (Str (codes "http://a/s"))) (member 63 (codes "a/b") (scalar 69 (Str (codes "x"))) no_member)))) (codes "<http://a/s> <http://v/a/b> \"x\" .\n" ∷ []) ≡ true
unfolding says_in_both
row_24 = refl

-- {"@context":{"@vocab":"http://v/","p":{"@type":"p"}}}
row_25 : is_refused_in_both None [] (object 0 (member 1 (codes "@context") (object 12 (member 13 (codes "@vocab") (scalar 22 (Str (codes "http://v/"))) (member 34 (codes "p") (object 38 (member 39 (codes "@type") (scalar 47 (Str (codes "p"))) no_member)) no_member))) no_member)) (fault code.CyclicIriMapping 1 ∷ []) ≡ true
unfolding is_refused_in_both
row_25 = refl

-- {"@context":{"@import":"http://c/f"}} with http://c/f handed in as {"@context":{"t":{"@id":"http://a/t","@context":{"@import":"http://c/f"}}}}
row_26 : is_refused_in_both None (handed (codes "http://c/f") (object 0 (member 1 (codes "@context") (object 12 (member 13 (codes "t") (object 17 (member 18 (codes "@id") (scalar 24 (Str (codes "http://a/t"))) (member 37 (codes "@context") (object 48 (member 49 (codes "@import") (scalar 59 (Str (codes "http://c/f"))) no_member)) no_member))) no_member)) no_member)) ∷ []) (object 0 (member 1 (codes "@context") (object 12 (member 13 (codes "@import") (scalar 23 (Str (codes "http://c/f"))) no_member)) no_member)) (fault code.InvalidScopedContext 1 ∷ []) ≡ true
unfolding is_refused_in_both
row_26 = refl

-- {"@context":"http://c/f","@id":"http://a/s","t":{"@id":"http://a/o","t":"x"}} with http://c/f handed in as {"@context":{"t":{"@id":"http://a/t","@context":"http://c/f"}}}
row_27 : says_in_both None (handed (codes "http://c/f") (object 0 (member 1 (codes "@context") (object 12 (member 13 (codes "t") (object 17 (member 18 (codes "@id") (scalar 24 (Str (codes "http://a/t"))) (member 37 (codes "@context") (scalar 48 (Str (codes "http://c/f"))) no_member))) no_member)) no_member)) ∷ []) (object 0 (member 1 (codes "@context") (scalar 12 (Str (codes "http://c/f"))) (member 25 (codes "@id") (scalar 31 (Str (codes "http://a/s"))) (member 44 (codes "t") (object 48 (member 49 (codes "@id") (scalar 55 (Str (codes "http://a/o"))) (member 68 (codes "t") (scalar 72 (Str (codes "x"))) no_member))) no_member)))) (codes "<http://a/o> <http://a/t> \"x\" .\n" ∷ codes "<http://a/s> <http://a/t> <http://a/o> .\n" ∷ []) ≡ true
unfolding says_in_both
row_27 = refl

-- {"@context":{"@import":"http://c/f","@base":"http://b/"},"@id":"s","t":"x"} with http://c/f handed in as {"@context":{"t":"http://a/t"}}
row_28 : says_in_both None (handed (codes "http://c/f") (object 0 (member 1 (codes "@context") (object 12 (member 13 (codes "t") (scalar 17 (Str (codes "http://a/t"))) no_member)) no_member)) ∷ []) (object 0 (member 1 (codes "@context") (object 12 (member 13 (codes "@import") (scalar 23 (Str (codes "http://c/f"))) (member 36 (codes "@base") (scalar 44 (Str (codes "http://b/"))) no_member))) (member 57 (codes "@id") (scalar 63 (Str (codes "s"))) (member 67 (codes "t") (scalar 71 (Str (codes "x"))) no_member)))) (codes "<http://b/s> <http://a/t> \"x\" .\n" ∷ []) ≡ true
unfolding says_in_both
row_28 = refl

-- {"@context":["http://c/f",{"@base":"http://x/"}],"@id":"s","t":"x"} with http://c/f handed in as {"@context":{"@base":"http://c/","t":"http://a/t"}}
row_29 : says_in_both None (handed (codes "http://c/f") (object 0 (member 1 (codes "@context") (object 12 (member 13 (codes "@base") (scalar 21 (Str (codes "http://c/"))) (member 33 (codes "t") (scalar 37 (Str (codes "http://a/t"))) no_member))) no_member)) ∷ []) (object 0 (member 1 (codes "@context") (array 12 (item (scalar 13 (Str (codes "http://c/f"))) (item (object 26 (member 27 (codes "@base") (scalar 35 (Str (codes "http://x/"))) no_member)) no_item))) (member 49 (codes "@id") (scalar 55 (Str (codes "s"))) (member 59 (codes "t") (scalar 63 (Str (codes "x"))) no_member)))) (codes "<http://x/s> <http://a/t> \"x\" .\n" ∷ []) ≡ true
unfolding says_in_both
row_29 = refl

-- {"@context":{"i":{"@id":"http://a/i","@container":"@index","@index":"k"},"k":"http://a/k"},"@id":"http://a/s","i":{"one":{"@id":"http://a/o"}}}
row_30 : says_in_both None [] (object 0 (member 1 (codes "@context") (object 12 (member 13 (codes "i") (object 17 (member 18 (codes "@id") (scalar 24 (Str (codes "http://a/i"))) (member 37 (codes "@container") (scalar 50 (Str (codes "@index"))) (member 59 (codes "@index") (scalar 68 (Str (codes "k"))) no_member)))) (member 73 (codes "k") (scalar 77 (Str (codes "http://a/k"))) no_member))) (member 91 (codes "@id") (scalar 97 (Str (codes "http://a/s"))) (member 110 (codes "i") (object 114 (member 115 (codes "one") (object 121 (member 122 (codes "@id") (scalar 128 (Str (codes "http://a/o"))) no_member)) no_member)) no_member)))) (codes "<http://a/o> <http://a/k> \"one\" .\n" ∷ codes "<http://a/s> <http://a/i> <http://a/o> .\n" ∷ []) ≡ true
unfolding says_in_both
row_30 = refl

-- {"@context":{"i":{"@id":"http://a/i","@container":"@index","@index":"i"}}}
row_31 : is_refused_in_both None [] (object 0 (member 1 (codes "@context") (object 12 (member 13 (codes "i") (object 17 (member 18 (codes "@id") (scalar 24 (Str (codes "http://a/i"))) (member 37 (codes "@container") (scalar 50 (Str (codes "@index"))) (member 59 (codes "@index") (scalar 68 (Str (codes "i"))) no_member)))) no_member)) no_member)) (fault code.CyclicIriMapping 1 ∷ []) ≡ true
unfolding is_refused_in_both
row_31 = refl

-- {"@context":{"p":{"@id":"http://a/p","@container":[]}}}
row_32 : is_refused_in_both None [] (object 0 (member 1 (codes "@context") (object 12 (member 13 (codes "p") (object 17 (member 18 (codes "@id") (scalar 24 (Str (codes "http://a/p"))) (member 37 (codes "@container") (array 50 no_item) no_member))) no_member)) no_member)) (fault code.InvalidContainerMapping 1 ∷ []) ≡ true
unfolding is_refused_in_both
row_32 = refl

-- {"@context":{"p":{"@id":"http://a/p","@container":null}}}
row_33 : is_refused_in_both None [] (object 0 (member 1 (codes "@context") (object 12 (member 13 (codes "p") (object 17 (member 18 (codes "@id") (scalar 24 (Str (codes "http://a/p"))) (member 37 (codes "@container") (scalar 50 Null) no_member))) no_member)) no_member)) (fault code.InvalidContainerMapping 1 ∷ []) ≡ true
unfolding is_refused_in_both
row_33 = refl

-- {"@context":{"r":{"@reverse":"http://a/r","@container":null,"@language":5,"@foo":1}},"@id":"http://a/s","r":{"@id":"http://a/o"}}
row_34 : says_in_both None [] (object 0 (member 1 (codes "@context") (object 12 (member 13 (codes "r") (object 17 (member 18 (codes "@reverse") (scalar 29 (Str (codes "http://a/r"))) (member 42 (codes "@container") (scalar 55 Null) (member 60 (codes "@language") (scalar 72 (Number (codes "5"))) (member 74 (codes "@foo") (scalar 81 (Number (codes "1"))) no_member))))) no_member)) (member 85 (codes "@id") (scalar 91 (Str (codes "http://a/s"))) (member 104 (codes "r") (object 108 (member 109 (codes "@id") (scalar 115 (Str (codes "http://a/o"))) no_member)) no_member)))) (codes "<http://a/o> <http://a/r> <http://a/s> .\n" ∷ []) ≡ true
unfolding says_in_both
row_34 = refl

-- {"@context":{"r":{"@reverse":"http://a/r","@container":["@set"]}}}
row_35 : is_refused_in_both None [] (object 0 (member 1 (codes "@context") (object 12 (member 13 (codes "r") (object 17 (member 18 (codes "@reverse") (scalar 29 (Str (codes "http://a/r"))) (member 42 (codes "@container") (array 55 (item (scalar 56 (Str (codes "@set"))) no_item)) no_member))) no_member)) no_member)) (fault code.InvalidReverseProperty 1 ∷ []) ≡ true
unfolding is_refused_in_both
row_35 = refl

-- {"@context":[{"p":{"@id":"http://a/p","@protected":true,"@context":{"a":"http://a/a","b":"http://a/b"}}},{"p":{"@id":"http://a/p","@context":{"b":"http://a/b","a":"http://a/a"}}}]}
row_36 : is_refused_in_both None [] (object 0 (member 1 (codes "@context") (array 12 (item (object 13 (member 14 (codes "p") (object 18 (member 19 (codes "@id") (scalar 25 (Str (codes "http://a/p"))) (member 38 (codes "@protected") (scalar 51 (truth true)) (member 56 (codes "@context") (object 67 (member 68 (codes "a") (scalar 72 (Str (codes "http://a/a"))) (member 85 (codes "b") (scalar 89 (Str (codes "http://a/b"))) no_member))) no_member)))) no_member)) (item (object 105 (member 106 (codes "p") (object 110 (member 111 (codes "@id") (scalar 117 (Str (codes "http://a/p"))) (member 130 (codes "@context") (object 141 (member 142 (codes "b") (scalar 146 (Str (codes "http://a/b"))) (member 159 (codes "a") (scalar 163 (Str (codes "http://a/a"))) no_member))) no_member))) no_member)) no_item))) no_member)) (fault code.ProtectedTermRedefinition 1 ∷ []) ≡ true
unfolding is_refused_in_both
row_36 = refl

-- {"@context":[{"p":"http://a/p"},{"p":{"@id":"http://b/p","@context":{"q":{"@id":"http://b/q","@type":"p"}}}}]}
row_37 : is_refused_in_both None [] (object 0 (member 1 (codes "@context") (array 12 (item (object 13 (member 14 (codes "p") (scalar 18 (Str (codes "http://a/p"))) no_member)) (item (object 32 (member 33 (codes "p") (object 37 (member 38 (codes "@id") (scalar 44 (Str (codes "http://b/p"))) (member 57 (codes "@context") (object 68 (member 69 (codes "q") (object 73 (member 74 (codes "@id") (scalar 80 (Str (codes "http://b/q"))) (member 93 (codes "@type") (scalar 101 (Str (codes "p"))) no_member))) no_member)) no_member))) no_member)) no_item))) no_member)) (fault code.InvalidScopedContext 1 ∷ []) ≡ true
unfolding is_refused_in_both
row_37 = refl

-- {"@context":"http://c/r"} with http://c/r handed in as {"p":1}
row_38 : is_refused_in_both None (handed (codes "http://c/r") (object 0 (member 1 (codes "p") (scalar 5 (Number (codes "1"))) no_member)) ∷ []) (object 0 (member 1 (codes "@context") (scalar 12 (Str (codes "http://c/r"))) no_member)) (fault code.InvalidRemoteContext 1 ∷ []) ≡ true
unfolding is_refused_in_both
row_38 = refl

-- {"@context":"http://c/r"} with http://c/r handed in as {"@context":"http://c/r"}
row_39 : is_refused_in_both None (handed (codes "http://c/r") (object 0 (member 1 (codes "@context") (scalar 12 (Str (codes "http://c/r"))) no_member)) ∷ []) (object 0 (member 1 (codes "@context") (scalar 12 (Str (codes "http://c/r"))) no_member)) (fault code.ContextOverflow 1 ∷ []) ≡ true
unfolding is_refused_in_both
row_39 = refl

-- {"@context":{"@import":"http://c/r"}} with http://c/r handed in as {"@context":{"@import":"http://c/r"}}
row_40 : is_refused_in_both None (handed (codes "http://c/r") (object 0 (member 1 (codes "@context") (object 12 (member 13 (codes "@import") (scalar 23 (Str (codes "http://c/r"))) no_member)) no_member)) ∷ []) (object 0 (member 1 (codes "@context") (object 12 (member 13 (codes "@import") (scalar 23 (Str (codes "http://c/r"))) no_member)) no_member)) (fault code.InvalidContextEntry 1 ∷ []) ≡ true
unfolding is_refused_in_both
row_40 = refl

-- {"@context":{"@import":"http://c/r"}} with http://c/r handed in as {"@context":[{}]}
row_41 : is_refused_in_both None (handed (codes "http://c/r") (object 0 (member 1 (codes "@context") (array 12 (item (object 13 no_member) no_item)) no_member)) ∷ []) (object 0 (member 1 (codes "@context") (object 12 (member 13 (codes "@import") (scalar 23 (Str (codes "http://c/r"))) no_member)) no_member)) (fault code.InvalidRemoteContext 1 ∷ []) ≡ true
unfolding is_refused_in_both
row_41 = refl

-- {"@context":{"@vocab":5,"@version":1.0}}
row_42 : is_refused_in_both None [] (object 0 (member 1 (codes "@context") (object 12 (member 13 (codes "@vocab") (scalar 22 (Number (codes "5"))) (member 24 (codes "@version") (scalar 35 (Number (codes "1.0"))) no_member))) no_member)) (fault code.InvalidVersionValue 1 ∷ []) ≡ true
unfolding is_refused_in_both
row_42 = refl

-- {"@context":{"@vocab":"x"}}
row_43 : is_refused_in_both None [] (object 0 (member 1 (codes "@context") (object 12 (member 13 (codes "@vocab") (scalar 22 (Str (codes "x"))) no_member)) no_member)) (fault code.InvalidVocabMapping 1 ∷ []) ≡ true
unfolding is_refused_in_both
row_43 = refl

-- {"@context":{"@language":5}}
row_44 : is_refused_in_both None [] (object 0 (member 1 (codes "@context") (object 12 (member 13 (codes "@language") (scalar 25 (Number (codes "5"))) no_member)) no_member)) (fault code.InvalidDefaultLanguage 1 ∷ []) ≡ true
unfolding is_refused_in_both
row_44 = refl

-- {"@context":{"@direction":"up"}}
row_45 : is_refused_in_both None [] (object 0 (member 1 (codes "@context") (object 12 (member 13 (codes "@direction") (scalar 26 (Str (codes "up"))) no_member)) no_member)) (fault code.InvalidBaseDirection 1 ∷ []) ≡ true
unfolding is_refused_in_both
row_45 = refl

-- {"@context":{"@propagate":"x"}}
row_46 : is_refused_in_both None [] (object 0 (member 1 (codes "@context") (object 12 (member 13 (codes "@propagate") (scalar 26 (Str (codes "x"))) no_member)) no_member)) (fault code.InvalidPropagateValue 1 ∷ []) ≡ true
unfolding is_refused_in_both
row_46 = refl

-- {"@context":{"@protected":"x"}}
row_47 : is_refused_in_both None [] (object 0 (member 1 (codes "@context") (object 12 (member 13 (codes "@protected") (scalar 26 (Str (codes "x"))) no_member)) no_member)) (fault code.InvalidProtectedValue 1 ∷ []) ≡ true
unfolding is_refused_in_both
row_47 = refl

-- {"@context":{"p":{"@id":"http://a/p","@protected":5}}}
row_48 : is_refused_in_both None [] (object 0 (member 1 (codes "@context") (object 12 (member 13 (codes "p") (object 17 (member 18 (codes "@id") (scalar 24 (Str (codes "http://a/p"))) (member 37 (codes "@protected") (scalar 50 (Number (codes "5"))) no_member))) no_member)) no_member)) (fault code.InvalidProtectedValue 1 ∷ []) ≡ true
unfolding is_refused_in_both
row_48 = refl

-- {"@context":{"@type":"@id"}}
row_49 : is_refused_in_both None [] (object 0 (member 1 (codes "@context") (object 12 (member 13 (codes "@type") (scalar 21 (Str (codes "@id"))) no_member)) no_member)) (fault code.KeywordRedefinition 1 ∷ []) ≡ true
unfolding is_refused_in_both
row_49 = refl

-- {"@context":{"@type":{"@container":"@list"}}}
row_50 : is_refused_in_both None [] (object 0 (member 1 (codes "@context") (object 12 (member 13 (codes "@type") (object 21 (member 22 (codes "@container") (scalar 35 (Str (codes "@list"))) no_member)) no_member)) no_member)) (fault code.KeywordRedefinition 1 ∷ []) ≡ true
unfolding is_refused_in_both
row_50 = refl

-- {"@context":{"@id":{}}}
row_51 : is_refused_in_both None [] (object 0 (member 1 (codes "@context") (object 12 (member 13 (codes "@id") (object 19 no_member) no_member)) no_member)) (fault code.KeywordRedefinition 1 ∷ []) ≡ true
unfolding is_refused_in_both
row_51 = refl

-- {"@context":{"p":{"@id":"http://a/p","@type":"@set"}}}
row_52 : is_refused_in_both None [] (object 0 (member 1 (codes "@context") (object 12 (member 13 (codes "p") (object 17 (member 18 (codes "@id") (scalar 24 (Str (codes "http://a/p"))) (member 37 (codes "@type") (scalar 45 (Str (codes "@set"))) no_member))) no_member)) no_member)) (fault code.InvalidTypeMapping 1 ∷ []) ≡ true
unfolding is_refused_in_both
row_52 = refl

-- {"@context":{"t":{"@id":"http://a/t","@container":"@type","@type":"http://a/d"}}}
row_53 : is_refused_in_both None [] (object 0 (member 1 (codes "@context") (object 12 (member 13 (codes "t") (object 17 (member 18 (codes "@id") (scalar 24 (Str (codes "http://a/t"))) (member 37 (codes "@container") (scalar 50 (Str (codes "@type"))) (member 58 (codes "@type") (scalar 66 (Str (codes "http://a/d"))) no_member)))) no_member)) no_member)) (fault code.InvalidTypeMapping 1 ∷ []) ≡ true
unfolding is_refused_in_both
row_53 = refl

-- {"@context":{"p":{}}}
row_54 : is_refused_in_both None [] (object 0 (member 1 (codes "@context") (object 12 (member 13 (codes "p") (object 17 no_member) no_member)) no_member)) (fault code.InvalidIriMapping 1 ∷ []) ≡ true
unfolding is_refused_in_both
row_54 = refl

-- {"@context":{"a:b":"http://a/c"}}
row_55 : is_refused_in_both None [] (object 0 (member 1 (codes "@context") (object 12 (member 13 (codes "a:b") (scalar 19 (Str (codes "http://a/c"))) no_member)) no_member)) (fault code.InvalidIriMapping 1 ∷ []) ≡ true
unfolding is_refused_in_both
row_55 = refl

-- {"@context":{"r":{"@reverse":"x"}}}
row_56 : is_refused_in_both None [] (object 0 (member 1 (codes "@context") (object 12 (member 13 (codes "r") (object 17 (member 18 (codes "@reverse") (scalar 29 (Str (codes "x"))) no_member)) no_member)) no_member)) (fault code.InvalidIriMapping 1 ∷ []) ≡ true
unfolding is_refused_in_both
row_56 = refl

-- {"@context":{"p":"@context"}}
row_57 : is_refused_in_both None [] (object 0 (member 1 (codes "@context") (object 12 (member 13 (codes "p") (scalar 17 (Str (codes "@context"))) no_member)) no_member)) (fault code.InvalidKeywordAlias 1 ∷ []) ≡ true
unfolding is_refused_in_both
row_57 = refl

-- {"@context":{"p":{"@id":"http://a/p","@language":5}}}
row_58 : is_refused_in_both None [] (object 0 (member 1 (codes "@context") (object 12 (member 13 (codes "p") (object 17 (member 18 (codes "@id") (scalar 24 (Str (codes "http://a/p"))) (member 37 (codes "@language") (scalar 49 (Number (codes "5"))) no_member))) no_member)) no_member)) (fault code.InvalidLanguageMapping 1 ∷ []) ≡ true
unfolding is_refused_in_both
row_58 = refl

-- {"@context":{"p":{"@id":"http://a/p","@direction":"up"}}}
row_59 : is_refused_in_both None [] (object 0 (member 1 (codes "@context") (object 12 (member 13 (codes "p") (object 17 (member 18 (codes "@id") (scalar 24 (Str (codes "http://a/p"))) (member 37 (codes "@direction") (scalar 50 (Str (codes "up"))) no_member))) no_member)) no_member)) (fault code.InvalidBaseDirection 1 ∷ []) ≡ true
unfolding is_refused_in_both
row_59 = refl

-- {"@context":{"p":{"@id":"http://a/p","@prefix":5}}}
row_60 : is_refused_in_both None [] (object 0 (member 1 (codes "@context") (object 12 (member 13 (codes "p") (object 17 (member 18 (codes "@id") (scalar 24 (Str (codes "http://a/p"))) (member 37 (codes "@prefix") (scalar 47 (Number (codes "5"))) no_member))) no_member)) no_member)) (fault code.InvalidPrefixValue 1 ∷ []) ≡ true
unfolding is_refused_in_both
row_60 = refl

-- {"@context":{"n":{"@id":"http://a/n","@nest":"@id"}}}
row_61 : is_refused_in_both None [] (object 0 (member 1 (codes "@context") (object 12 (member 13 (codes "n") (object 17 (member 18 (codes "@id") (scalar 24 (Str (codes "http://a/n"))) (member 37 (codes "@nest") (scalar 45 (Str (codes "@id"))) no_member))) no_member)) no_member)) (fault code.InvalidNestValue 1 ∷ []) ≡ true
unfolding is_refused_in_both
row_61 = refl

-- {"@context":{"p":{"@id":"http://a/p","@odd":1}}}
row_62 : is_refused_in_both None [] (object 0 (member 1 (codes "@context") (object 12 (member 13 (codes "p") (object 17 (member 18 (codes "@id") (scalar 24 (Str (codes "http://a/p"))) (member 37 (codes "@odd") (scalar 44 (Number (codes "1"))) no_member))) no_member)) no_member)) (fault code.InvalidTermDefinition 1 ∷ []) ≡ true
unfolding is_refused_in_both
row_62 = refl

-- {"@context":{"@base":"x"}}
row_63 : is_refused_in_both None [] (object 0 (member 1 (codes "@context") (object 12 (member 13 (codes "@base") (scalar 21 (Str (codes "x"))) no_member)) no_member)) (fault code.InvalidBaseIri 1 ∷ []) ≡ true
unfolding is_refused_in_both
row_63 = refl

-- {"@context":{"@type":{"@container":["@set"],"@protected":true},"@foo":"http://a/f","q":"@foo","p":"http://a/p"},"@id":"http://a/s","@foo":1,"q":1,"p":"x"}
row_64 : says_in_both None [] (object 0 (member 1 (codes "@context") (object 12 (member 13 (codes "@type") (object 21 (member 22 (codes "@container") (array 35 (item (scalar 36 (Str (codes "@set"))) no_item)) (member 44 (codes "@protected") (scalar 57 (truth true)) no_member))) (member 63 (codes "@foo") (scalar 70 (Str (codes "http://a/f"))) (member 83 (codes "q") (scalar 87 (Str (codes "@foo"))) (member 94 (codes "p") (scalar 98 (Str (codes "http://a/p"))) no_member))))) (member 112 (codes "@id") (scalar 118 (Str (codes "http://a/s"))) (member 131 (codes "@foo") (scalar 138 (Number (codes "1"))) (member 140 (codes "q") (scalar 144 (Number (codes "1"))) (member 146 (codes "p") (scalar 150 (Str (codes "x"))) no_member)))))) (codes "<http://a/s> <http://a/p> \"x\" .\n" ∷ []) ≡ true
unfolding says_in_both
row_64 = refl

-- {"@context":[{"a":"http://a/a"},{"a":{"@id":"b:x"},"b":{"@id":"http://b/","@context":{"q":{"@id":"http://q/q","@type":"a"}}}}]}
-- A scoped context is tried without the terms that wait for its own term, older definitions neither.
row_65 : is_refused_in_both None [] (object 0 (member 1 (codes "@context") (array 12 (item (object 13 (member 14 (codes "a") (scalar 18 (Str (codes "http://a/a"))) no_member)) (item (object 32 (member 33 (codes "a") (object 37 (member 38 (codes "@id") (scalar 44 (Str (codes "b:x"))) no_member)) (member 51 (codes "b") (object 55 (member 56 (codes "@id") (scalar 62 (Str (codes "http://b/"))) (member 74 (codes "@context") (object 85 (member 86 (codes "q") (object 90 (member 91 (codes "@id") (scalar 97 (Str (codes "http://q/q"))) (member 110 (codes "@type") (scalar 118 (Str (codes "a"))) no_member))) no_member)) no_member))) no_member))) no_item))) no_member)) (fault code.InvalidScopedContext 1 ∷ []) ≡ true
unfolding is_refused_in_both
row_65 = refl

-- {"@context":[{"a":"http://a/a"},{"b":{"@id":"http://b/","@context":{"q":{"@id":"http://q/q","@type":"a"}}},"a":{"@id":"b:x"}}],"@id":"http://a/s","a":"x"}
-- Here nothing waits for it yet, and the older definition counts.
row_66 : says_in_both None [] (object 0 (member 1 (codes "@context") (array 12 (item (object 13 (member 14 (codes "a") (scalar 18 (Str (codes "http://a/a"))) no_member)) (item (object 32 (member 33 (codes "b") (object 37 (member 38 (codes "@id") (scalar 44 (Str (codes "http://b/"))) (member 56 (codes "@context") (object 67 (member 68 (codes "q") (object 72 (member 73 (codes "@id") (scalar 79 (Str (codes "http://q/q"))) (member 92 (codes "@type") (scalar 100 (Str (codes "a"))) no_member))) no_member)) no_member))) (member 107 (codes "a") (object 111 (member 112 (codes "@id") (scalar 118 (Str (codes "b:x"))) no_member)) no_member))) no_item))) (member 127 (codes "@id") (scalar 133 (Str (codes "http://a/s"))) (member 146 (codes "a") (scalar 150 (Str (codes "x"))) no_member)))) (codes "<http://a/s> <b:x> \"x\" .\n" ∷ []) ≡ true
unfolding says_in_both
row_66 = refl

-- {"@context":{"@vocab":"http://v/","p":"@vocab:x"}}
-- A prefix that is an entry of the local context and no term is looked up there.
row_67 : is_refused_in_both None [] (object 0 (member 1 (codes "@context") (object 12 (member 13 (codes "@vocab") (scalar 22 (Str (codes "http://v/"))) (member 34 (codes "p") (scalar 38 (Str (codes "@vocab:x"))) no_member))) no_member)) (fault code.KeywordRedefinition 1 ∷ []) ≡ true
unfolding is_refused_in_both
row_67 = refl

-- {"@context":{"p":"@vocab:x"}}
row_68 : is_refused_in_both None [] (object 0 (member 1 (codes "@context") (object 12 (member 13 (codes "p") (scalar 17 (Str (codes "@vocab:x"))) no_member)) no_member)) (fault code.InvalidIriMapping 1 ∷ []) ≡ true
unfolding is_refused_in_both
row_68 = refl
