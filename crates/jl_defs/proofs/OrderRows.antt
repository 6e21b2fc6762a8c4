-- What comes too late in streaming order. Each document stands above its row.
use Rattle.std.specs.Prelude.{◌≡◌, true, [], ◌∷◌, None, codes, refl}
use Rattle.jl_model.specs.JsonTree.{scalar, array, object, no_item, item, no_member, member}
use Rattle.jl_model.specs.declared.scalars.Scalar.TheVariants.{Number, Str}
use Rattle.jl_model.specs.declared.orders.Order.TheVariants.{Any, Streaming}
use Rattle.jl_model.specs.declared.codes.Code.TheVariants as code
use Rattle.jl_defs.specs.ObjectContexts.{fault}
use Rattle.jl_defs.proofs.RowWords.{settings, says, says_in_both, is_refused}

-- {"@context":{"id":"@id"},"id":"http://a/s","@type":"http://a/T","http://a/p":{"http://a/q":"x","@id":"http://a/o"}}
row_1_any : says (settings Any None []) (object 0 (member 1 (codes "@context") (object 12 (member 13 (codes "id") (scalar 18 (Str (codes "@id"))) no_member)) (member 25 (codes "id") (scalar 30 (Str (codes "http://a/s"))) (member 43 (codes "@type") (scalar 51 (Str (codes "http://a/T"))) (member 64 (codes "http://a/p") (object 77 (member 78 (codes "http://a/q") (scalar 91 (Str (codes "x"))) (member 95 (codes "@id") (scalar 101 (Str (codes "http://a/o"))) no_member))) no_member))))) (codes "<http://a/o> <http://a/q> \"x\" .\n" ∷ codes "<http://a/s> <http://a/p> <http://a/o> .\n" ∷ codes "<http://a/s> <http://www.w3.org/1999/02/22-rdf-syntax-ns#type> <http://a/T> .\n" ∷ []) ≡ true
unfolding says
row_1_any = refl

-- {"http://a/p":[{"http://a/q":"x"},{"@id":5}]}
row_2_any : is_refused (settings Any None []) (object 0 (member 1 (codes "http://a/p") (array 14 (item (object 15 (member 16 (codes "http://a/q") (scalar 29 (Str (codes "x"))) no_member)) (item (object 34 (member 35 (codes "@id") (scalar 41 (Number (codes "5"))) no_member)) no_item))) no_member)) (fault code.InvalidIdValue 35 ∷ []) ≡ true
unfolding is_refused
row_2_any = refl

-- {"x":1,"@id":"http://a/s"}
row_3_any : says (settings Any None []) (object 0 (member 1 (codes "x") (scalar 5 (Number (codes "1"))) (member 7 (codes "@id") (scalar 13 (Str (codes "http://a/s"))) no_member))) [] ≡ true
unfolding says
row_3_any = refl

row_3_streaming : is_refused (settings Streaming None []) (object 0 (member 1 (codes "x") (scalar 5 (Number (codes "1"))) (member 7 (codes "@id") (scalar 13 (Str (codes "http://a/s"))) no_member))) (fault code.LateIdentifier 7 ∷ []) ≡ true
unfolding is_refused
row_3_streaming = refl

-- {"@id":"http://a/s","http://a/p":"x","@index":"i"}
row_4 : says_in_both None [] (object 0 (member 1 (codes "@id") (scalar 7 (Str (codes "http://a/s"))) (member 20 (codes "http://a/p") (scalar 33 (Str (codes "x"))) (member 37 (codes "@index") (scalar 46 (Str (codes "i"))) no_member)))) (codes "<http://a/s> <http://a/p> \"x\" .\n" ∷ []) ≡ true
unfolding says_in_both
row_4 = refl

-- {"@id":"http://a/s","http://a/p":"x","@nest":{"@type":"http://a/T"}}
row_5 : says_in_both None [] (object 0 (member 1 (codes "@id") (scalar 7 (Str (codes "http://a/s"))) (member 20 (codes "http://a/p") (scalar 33 (Str (codes "x"))) (member 37 (codes "@nest") (object 45 (member 46 (codes "@type") (scalar 54 (Str (codes "http://a/T"))) no_member)) no_member)))) (codes "<http://a/s> <http://a/p> \"x\" .\n" ∷ codes "<http://a/s> <http://www.w3.org/1999/02/22-rdf-syntax-ns#type> <http://a/T> .\n" ∷ []) ≡ true
unfolding says_in_both
row_5 = refl

-- {"@context":{"t":"@type","T":{"@id":"http://a/T","@context":{"t":"http://a/t"}}},"@type":"T","http://a/p":"x","t":"U"}
row_6_any : says (settings Any None []) (object 0 (member 1 (codes "@context") (object 12 (member 13 (codes "t") (scalar 17 (Str (codes "@type"))) (member 25 (codes "T") (object 29 (member 30 (codes "@id") (scalar 36 (Str (codes "http://a/T"))) (member 49 (codes "@context") (object 60 (member 61 (codes "t") (scalar 65 (Str (codes "http://a/t"))) no_member)) no_member))) no_member))) (member 81 (codes "@type") (scalar 89 (Str (codes "T"))) (member 93 (codes "http://a/p") (scalar 106 (Str (codes "x"))) (member 110 (codes "t") (scalar 114 (Str (codes "U"))) no_member))))) (codes "_:jlb0 <http://a/p> \"x\" .\n" ∷ codes "_:jlb0 <http://a/t> \"U\" .\n" ∷ codes "_:jlb0 <http://www.w3.org/1999/02/22-rdf-syntax-ns#type> <http://a/T> .\n" ∷ []) ≡ true
unfolding says
row_6_any = refl

row_6_streaming : is_refused (settings Streaming None []) (object 0 (member 1 (codes "@context") (object 12 (member 13 (codes "t") (scalar 17 (Str (codes "@type"))) (member 25 (codes "T") (object 29 (member 30 (codes "@id") (scalar 36 (Str (codes "http://a/T"))) (member 49 (codes "@context") (object 60 (member 61 (codes "t") (scalar 65 (Str (codes "http://a/t"))) no_member)) no_member))) no_member))) (member 81 (codes "@type") (scalar 89 (Str (codes "T"))) (member 93 (codes "http://a/p") (scalar 106 (Str (codes "x"))) (member 110 (codes "t") (scalar 114 (Str (codes "U"))) no_member))))) (fault code.LateType 110 ∷ []) ≡ true
unfolding is_refused
row_6_streaming = refl

-- {"@id":"http://a/s","@context":{"p":5},"http://a/p":"x","@type":"http://a/T"}
row_7_any : is_refused (settings Any None []) (object 0 (member 1 (codes "@id") (scalar 7 (Str (codes "http://a/s"))) (member 20 (codes "@context") (object 31 (member 32 (codes "p") (scalar 36 (Number (codes "5"))) no_member)) (member 39 (codes "http://a/p") (scalar 52 (Str (codes "x"))) (member 56 (codes "@type") (scalar 64 (Str (codes "http://a/T"))) no_member))))) (fault code.InvalidTermDefinition 20 ∷ []) ≡ true
unfolding is_refused
row_7_any = refl

row_7_streaming : is_refused (settings Streaming None []) (object 0 (member 1 (codes "@id") (scalar 7 (Str (codes "http://a/s"))) (member 20 (codes "@context") (object 31 (member 32 (codes "p") (scalar 36 (Number (codes "5"))) no_member)) (member 39 (codes "http://a/p") (scalar 52 (Str (codes "x"))) (member 56 (codes "@type") (scalar 64 (Str (codes "http://a/T"))) no_member))))) (fault code.LateContext 20 ∷ fault code.LateType 56 ∷ []) ≡ true
unfolding is_refused
row_7_streaming = refl

-- {"@graph":[],"http://a/p":"x","@type":"T","q":1,"@nest":{},"@index":"i"}
row_8_any : says (settings Any None []) (object 0 (member 1 (codes "@graph") (array 10 no_item) (member 13 (codes "http://a/p") (scalar 26 (Str (codes "x"))) (member 30 (codes "@type") (scalar 38 (Str (codes "T"))) (member 42 (codes "q") (scalar 46 (Number (codes "1"))) (member 48 (codes "@nest") (object 56 no_member) (member 59 (codes "@index") (scalar 68 (Str (codes "i"))) no_member))))))) (codes "_:jlb0 <http://a/p> \"x\" .\n" ∷ []) ≡ true
unfolding says
row_8_any = refl

row_8_streaming : is_refused (settings Streaming None []) (object 0 (member 1 (codes "@graph") (array 10 no_item) (member 13 (codes "http://a/p") (scalar 26 (Str (codes "x"))) (member 30 (codes "@type") (scalar 38 (Str (codes "T"))) (member 42 (codes "q") (scalar 46 (Number (codes "1"))) (member 48 (codes "@nest") (object 56 no_member) (member 59 (codes "@index") (scalar 68 (Str (codes "i"))) no_member))))))) (fault code.LateGraph 13 ∷ fault code.LateGraph 48 ∷ fault code.LateGraph 59 ∷ fault code.LateType 30 ∷ []) ≡ true
unfolding is_refused
row_8_streaming = refl

-- {"@context":{"t":"@type","T":{"@id":"http://a/T","@context":{"t":"@id"}}},"@type":"T","http://a/p":"x","t":"U"}
row_9_any : says (settings Any None []) (object 0 (member 1 (codes "@context") (object 12 (member 13 (codes "t") (scalar 17 (Str (codes "@type"))) (member 25 (codes "T") (object 29 (member 30 (codes "@id") (scalar 36 (Str (codes "http://a/T"))) (member 49 (codes "@context") (object 60 (member 61 (codes "t") (scalar 65 (Str (codes "@id"))) no_member)) no_member))) no_member))) (member 74 (codes "@type") (scalar 82 (Str (codes "T"))) (member 86 (codes "http://a/p") (scalar 99 (Str (codes "x"))) (member 103 (codes "t") (scalar 107 (Str (codes "U"))) no_member))))) [] ≡ true
unfolding says
row_9_any = refl

row_9_streaming : is_refused (settings Streaming None []) (object 0 (member 1 (codes "@context") (object 12 (member 13 (codes "t") (scalar 17 (Str (codes "@type"))) (member 25 (codes "T") (object 29 (member 30 (codes "@id") (scalar 36 (Str (codes "http://a/T"))) (member 49 (codes "@context") (object 60 (member 61 (codes "t") (scalar 65 (Str (codes "@id"))) no_member)) no_member))) no_member))) (member 74 (codes "@type") (scalar 82 (Str (codes "T"))) (member 86 (codes "http://a/p") (scalar 99 (Str (codes "x"))) (member 103 (codes "t") (scalar 107 (Str (codes "U"))) no_member))))) (fault code.LateIdentifier 103 ∷ fault code.LateType 103 ∷ []) ≡ true
unfolding is_refused
row_9_streaming = refl
