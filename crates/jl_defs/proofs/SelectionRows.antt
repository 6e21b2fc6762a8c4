-- Quads that the words select. Each document stands above its row.
use Rattle.std.specs.Prelude.{◌≡◌, true, false, [], ◌∷◌, Some, None, codes, refl}
use Rattle.jl_model.specs.JsonTree.{scalar, array, object, no_item, item, no_member, member}
use Rattle.jl_model.specs.declared.scalars.Scalar.TheVariants.{Str}
use Rattle.jl_model.specs.declared.orders.Order.TheVariants.{Any}
use Rattle.jl_defs.proofs.RowWords.{selects_lines}

-- {"@context":{"@vocab":"http://v/","T":{"@context":{"p":"http://t/p"}}},"@id":"http://a/s","@type":"T","p":{"@id":"http://a/o","p":"x"}} with --only-predicate http://v/p
row_1 : selects_lines (record { order = Any; base = None; contexts = None; limit = 268435456; only_graph = None; only_predicate = Some (codes "http://v/p"); stats = false }) (object 0 (member 1 (codes "@context") (object 12 (member 13 (codes "@vocab") (scalar 22 (Str (codes "http://v/"))) (member 34 (codes "T") (object 38 (member 39 (codes "@context") (object 50 (member 51 (codes "p") (scalar 55 (Str (codes "http://t/p"))) no_member)) no_member)) no_member))) (member 71 (codes "@id") (scalar 77 (Str (codes "http://a/s"))) (member 90 (codes "@type") (scalar 98 (Str (codes "T"))) (member 102 (codes "p") (object 106 (member 107 (codes "@id") (scalar 113 (Str (codes "http://a/o"))) (member 126 (codes "p") (scalar 130 (Str (codes "x"))) no_member))) no_member))))) (codes "<http://a/o> <http://v/p> \"x\" .\n" ∷ []) ≡ true
unfolding selects_lines
row_1 = refl

-- {"@context":{"g":{"@id":"http://a/g","@container":["@graph","@id"]}},"@id":"http://a/s","g":{"http://a/g1":{"@graph":[{"@id":"http://a/x","http://a/p":"1"}]},"http://a/g2":{"@id":"http://a/y","http://a/p":"2"}}} with --only-graph http://a/g2
row_2 : selects_lines (record { order = Any; base = None; contexts = None; limit = 268435456; only_graph = Some (codes "http://a/g2"); only_predicate = None; stats = false }) (object 0 (member 1 (codes "@context") (object 12 (member 13 (codes "g") (object 17 (member 18 (codes "@id") (scalar 24 (Str (codes "http://a/g"))) (member 37 (codes "@container") (array 50 (item (scalar 51 (Str (codes "@graph"))) (item (scalar 60 (Str (codes "@id"))) no_item))) no_member))) no_member)) (member 69 (codes "@id") (scalar 75 (Str (codes "http://a/s"))) (member 88 (codes "g") (object 92 (member 93 (codes "http://a/g1") (object 107 (member 108 (codes "@graph") (array 117 (item (object 118 (member 119 (codes "@id") (scalar 125 (Str (codes "http://a/x"))) (member 138 (codes "http://a/p") (scalar 151 (Str (codes "1"))) no_member))) no_item)) no_member)) (member 158 (codes "http://a/g2") (object 172 (member 173 (codes "@id") (scalar 179 (Str (codes "http://a/y"))) (member 192 (codes "http://a/p") (scalar 205 (Str (codes "2"))) no_member))) no_member))) no_member)))) (codes "<http://a/y> <http://a/p> \"2\" <http://a/g2> .\n" ∷ []) ≡ true
unfolding selects_lines
row_2 = refl

-- {"@id":"http://a/s","http://a/p":"x"} with --only-graph http://a/none
row_3 : selects_lines (record { order = Any; base = None; contexts = None; limit = 268435456; only_graph = Some (codes "http://a/none"); only_predicate = None; stats = false }) (object 0 (member 1 (codes "@id") (scalar 7 (Str (codes "http://a/s"))) (member 20 (codes "http://a/p") (scalar 33 (Str (codes "x"))) no_member))) [] ≡ true
unfolding selects_lines
row_3 = refl
