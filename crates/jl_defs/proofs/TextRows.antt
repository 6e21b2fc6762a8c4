-- Rows of texts: resolution, labels, numbers, canonical JSON, the writer's text and the generated text.
use Rattle.std.specs.Prelude.{ℕ, zero, suc, ◌≡◌, Bool, true, false, ◌&&◌, List, [], ◌∷◌, length, Some, None, Ok, Err, codes, bytes_eq, refl}
use Rattle.std.specs.Str.{chars}
use Rattle.std.specs.Fmt.{digits}
use Rattle.jl_model.specs.JsonTree.{scalar, array, object, no_item, item, no_member, member}
use Rattle.jl_model.specs.Parts.{parts_of}
use Rattle.jl_model.specs.Resolve.{resolve, remove_dot_segments}
use Rattle.jl_model.specs.Ren.{ren}
use Rattle.jl_model.specs.declared.scalars.Scalar.TheVariants.{Null, Bool as truth, Number, Str}
use Rattle.jl_model.specs.declared.terms.Term.TheVariants.{Iri, Blank, Literal}
use Rattle.jl_model.specs.declared.codes.Code.TheVariants as code
use Rattle.jl_defs.specs.Texts.{Text}
use Rattle.jl_defs.specs.Numbers.{magnitude, double_number, integer_number}
use Rattle.jl_defs.specs.Canon.{string_text, canon}
use Rattle.jl_defs.specs.NodeMap.{node_label, cell_label, graph_label}
use Rattle.jl_defs.specs.WriterText.{same_predicate, new_predicate, new_node, OpenNode, in_node, text_behind, node_behind, writer_text}
use Rattle.jl_defs.specs.Generated.{further_items, pieces, generated_text}

-- the examples of RFC 3986, section 5.4, against http://a/b/c/d;p?q
abbrev resolves : List (Text × Text) → Bool
resolves [] = true
resolves (e ∷ es) = bytes_eq (resolve (codes "http://a/b/c/d;p?q") e.0) e.1 && resolves es

abbrev normal_examples : List (Text × Text)
normal_examples =
    (codes "g:h", codes "g:h")
    ∷ (codes "g", codes "http://a/b/c/g")
    ∷ (codes "./g", codes "http://a/b/c/g")
    ∷ (codes "g/", codes "http://a/b/c/g/")
    ∷ (codes "/g", codes "http://a/g")
    ∷ (codes "//g", codes "http://g")
    ∷ (codes "?y", codes "http://a/b/c/d;p?y")
    ∷ (codes "g?y", codes "http://a/b/c/g?y")
    ∷ (codes "#s", codes "http://a/b/c/d;p?q#s")
    ∷ (codes "g#s", codes "http://a/b/c/g#s")
    ∷ (codes "g?y#s", codes "http://a/b/c/g?y#s")
    ∷ (codes ";x", codes "http://a/b/c/;x")
    ∷ (codes "g;x", codes "http://a/b/c/g;x")
    ∷ (codes "g;x?y#s", codes "http://a/b/c/g;x?y#s")
    ∷ ([], codes "http://a/b/c/d;p?q")
    ∷ (codes ".", codes "http://a/b/c/")
    ∷ (codes "./", codes "http://a/b/c/")
    ∷ (codes "..", codes "http://a/b/")
    ∷ (codes "../", codes "http://a/b/")
    ∷ (codes "../g", codes "http://a/b/g")
    ∷ (codes "../..", codes "http://a/")
    ∷ (codes "../../", codes "http://a/")
    ∷ (codes "../../g", codes "http://a/g")
    ∷ []

abbrev abnormal_examples : List (Text × Text)
abnormal_examples =
    (codes "../../../g", codes "http://a/g")
    ∷ (codes "../../../../g", codes "http://a/g")
    ∷ (codes "/./g", codes "http://a/g")
    ∷ (codes "/../g", codes "http://a/g")
    ∷ (codes "g.", codes "http://a/b/c/g.")
    ∷ (codes ".g", codes "http://a/b/c/.g")
    ∷ (codes "g..", codes "http://a/b/c/g..")
    ∷ (codes "..g", codes "http://a/b/c/..g")
    ∷ (codes "./../g", codes "http://a/b/g")
    ∷ (codes "./g/.", codes "http://a/b/c/g/")
    ∷ (codes "g/./h", codes "http://a/b/c/g/h")
    ∷ (codes "g/../h", codes "http://a/b/c/h")
    ∷ (codes "g;x=1/./y", codes "http://a/b/c/g;x=1/y")
    ∷ (codes "g;x=1/../y", codes "http://a/b/c/y")
    ∷ (codes "g?y/./x", codes "http://a/b/c/g?y/./x")
    ∷ (codes "g?y/../x", codes "http://a/b/c/g?y/../x")
    ∷ (codes "g#s/./x", codes "http://a/b/c/g#s/./x")
    ∷ (codes "g#s/../x", codes "http://a/b/c/g#s/../x")
    ∷ (codes "http:g", codes "http:g")
    ∷ []

row_1 : resolves normal_examples ≡ true
unfolding resolve remove_dot_segments
row_1 = refl

row_2 : resolves abnormal_examples ≡ true
unfolding resolve remove_dot_segments
row_2 = refl

-- a base without authority
row_3 : resolve (codes "x:a/b") (codes "y") ≡ codes "x:a/y"
unfolding resolve remove_dot_segments
row_3 = refl

row_4 : resolve (codes "http://a/b?q#f") ([]) ≡ codes "http://a/b?q"
unfolding resolve remove_dot_segments
row_4 = refl

-- an empty path with an authority
row_5 : resolve (codes "http://a") (codes "b") ≡ codes "http://a/b"
unfolding resolve remove_dot_segments
row_5 = refl

-- a reference with what looks like a scheme
row_6 : resolve (codes "http://a/") (codes "1a:b") ≡ codes "1a:b"
unfolding resolve remove_dot_segments
row_6 = refl

row_7 : ren (codes "b1") ≡ codes "b1"
unfolding ren
row_7 = refl

row_8 : ren (codes "jlb0") ≡ codes "jlx6a6c6230"
unfolding ren
row_8 = refl

row_9 : ren (codes "a b") ≡ codes "jlx612062"
unfolding ren
row_9 = refl

row_10 : ren (codes "a.") ≡ codes "jlx612e"
unfolding ren
row_10 = refl

row_11 : ren (195 ∷ 169 ∷ []) ≡ codes "jlxc3a9"
unfolding ren
row_11 = refl

row_12 : ren ([]) ≡ codes "jlx"
unfolding ren
row_12 = refl

row_13 : node_label 14 ≡ codes "jlb14"
unfolding digits
row_13 = refl

row_14 : cell_label 43 ≡ codes "jll43"
unfolding digits
row_14 = refl

row_15 : graph_label 101 ≡ codes "jlg101"
unfolding digits
row_15 = refl

row_16 : double_number (codes "1234") ≡ Ok (codes "1.234E3")
unfolding magnitude digits
row_16 = refl

row_17 : double_number (codes "0") ≡ Ok (codes "0.0E0")
unfolding magnitude digits
row_17 = refl

row_18 : double_number (codes "-0") ≡ Ok (codes "0.0E0")
unfolding magnitude digits
row_18 = refl

row_19 : double_number (codes "-1200") ≡ Ok (codes "-1.2E3")
unfolding magnitude digits
row_19 = refl

row_20 : double_number (codes "9007199254740991") ≡ Ok (codes "9.007199254740991E15")
unfolding magnitude digits
row_20 = refl

row_21 : double_number (codes "9007199254740992") ≡ Err code.NumberOutOfRange
unfolding magnitude digits
row_21 = refl

row_22 : integer_number (codes "999999999999999999999") ≡ Ok (codes "999999999999999999999")
unfolding magnitude
row_22 = refl

row_23 : integer_number (codes "1000000000000000000000") ≡ Err code.NumberOutOfRange
unfolding magnitude
row_23 = refl

row_24 : integer_number (codes "1.5") ≡ Err code.NumberNotWhole
unfolding magnitude
row_24 = refl

row_25 : integer_number (codes "-0") ≡ Ok (codes "0")
unfolding magnitude
row_25 = refl

-- {"\ufb01":1,"\ud83d\ude00":2}
row_26 : canon (object 0 (member 1 (239 ∷ 172 ∷ 129 ∷ []) (scalar 10 (Number (codes "1"))) (member 12 (240 ∷ 159 ∷ 152 ∷ 128 ∷ []) (scalar 27 (Number (codes "2"))) no_member))) ≡ 123 ∷ 34 ∷ 240 ∷ 159 ∷ 152 ∷ 128 ∷ 34 ∷ 58 ∷ 50 ∷ 44 ∷ 34 ∷ 239 ∷ 172 ∷ 129 ∷ 34 ∷ 58 ∷ 49 ∷ 125 ∷ []
unfolding canon string_text magnitude chars
row_26 = refl

-- [1,{"b":null,"a":true}]
row_27 : canon (array 0 (item (scalar 1 (Number (codes "1"))) (item (object 3 (member 4 (codes "b") (scalar 8 Null) (member 13 (codes "a") (scalar 17 (truth true)) no_member))) no_item))) ≡ codes "[1,{\"a\":true,\"b\":null}]"
unfolding canon string_text magnitude chars
row_27 = refl

-- {"\ufb01":-0,"\ud83d\ude00":"\u007f\u0001","":[]}
row_28 : canon (object 0 (member 1 (239 ∷ 172 ∷ 129 ∷ []) (scalar 10 (Number (codes "-0"))) (member 13 (240 ∷ 159 ∷ 152 ∷ 128 ∷ []) (scalar 28 (Str (127 ∷ 1 ∷ []))) (member 43 ([]) (array 46 no_item) no_member)))) ≡ 123 ∷ 34 ∷ 34 ∷ 58 ∷ 91 ∷ 93 ∷ 44 ∷ 34 ∷ 240 ∷ 159 ∷ 152 ∷ 128 ∷ 34 ∷ 58 ∷ 34 ∷ 127 ∷ 92 ∷ 117 ∷ 48 ∷ 48 ∷ 48 ∷ 49 ∷ 34 ∷ 44 ∷ 34 ∷ 239 ∷ 172 ∷ 129 ∷ 34 ∷ 58 ∷ 48 ∷ 125 ∷ []
unfolding canon string_text magnitude chars
row_28 = refl

-- ["\"\\\/\b\f\n\r\t",{"aa":false,"a":[]}]
row_29 : canon (array 0 (item (scalar 1 (Str (34 ∷ 92 ∷ 47 ∷ 8 ∷ 12 ∷ 10 ∷ 13 ∷ 9 ∷ []))) (item (object 20 (member 21 (codes "aa") (scalar 26 (truth false)) (member 32 (codes "a") (array 36 no_item) no_member))) no_item))) ≡ codes "[\"\\\"\\\\/\\b\\f\\n\\r\\t\",{\"a\":[],\"aa\":false}]"
unfolding canon string_text magnitude chars
row_29 = refl

row_30 : writer_text (parts_of (Iri (codes "http://a/s")) (codes "http://a/p") (Literal (record { text = codes "x"; datatype = codes "http://www.w3.org/2001/XMLSchema#string"; language = None })) None ∷ parts_of (Iri (codes "http://a/s")) (codes "http://a/p") (Literal (record { text = codes "x"; datatype = codes "http://www.w3.org/2001/XMLSchema#string"; language = None })) (Some (Iri (codes "http://a/g"))) ∷ parts_of (Iri (codes "http://a/s")) (codes "http://a/p") (Literal (record { text = codes "y"; datatype = codes "http://www.w3.org/2001/XMLSchema#string"; language = None })) None ∷ parts_of (Iri (codes "http://a/s")) (codes "http://a/p") (Literal (record { text = codes "y"; datatype = codes "http://www.w3.org/2001/XMLSchema#string"; language = None })) None ∷ []) ≡ codes "[{\"@id\":\"http://a/s\",\"http://a/p\":[\"x\"]},\n{\"@id\":\"http://a/g\",\"@graph\":[{\"@id\":\"http://a/s\",\"http://a/p\":[\"x\"]}]},\n{\"@id\":\"http://a/s\",\"http://a/p\":[\"y\",\"y\"]}]\n"
unfolding writer_text text_behind node_behind string_text
row_30 = refl

row_31 : writer_text [] ≡ codes "[]\n"
unfolding writer_text text_behind node_behind string_text
row_31 = refl

row_32 : writer_text (parts_of (Iri (codes "http://a/s")) (codes "http://a/p") (Literal (record { text = codes "1"; datatype = codes "http://www.w3.org/2001/XMLSchema#string"; language = None })) None ∷ parts_of (Iri (codes "http://a/s")) (codes "http://a/q") (Literal (record { text = codes "2"; datatype = codes "http://www.w3.org/2001/XMLSchema#string"; language = None })) None ∷ parts_of (Iri (codes "http://a/s")) (codes "http://a/p") (Literal (record { text = codes "3"; datatype = codes "http://www.w3.org/2001/XMLSchema#string"; language = None })) None ∷ []) ≡ codes "[{\"@id\":\"http://a/s\",\"http://a/p\":[\"1\"],\"http://a/q\":[\"2\"]},\n{\"@id\":\"http://a/s\",\"http://a/p\":[\"3\"]}]\n"
unfolding writer_text text_behind node_behind string_text
row_32 = refl

row_33 : writer_text (parts_of (Blank (codes "x")) (codes "http://a/p") (Literal (record { text = codes "a"; datatype = codes "http://www.w3.org/1999/02/22-rdf-syntax-ns#langString"; language = (Some (codes "en")) })) None ∷ []) ≡ codes "[{\"@id\":\"_:x\",\"http://a/p\":[{\"@language\":\"en\",\"@value\":\"a\"}]}]\n"
unfolding writer_text text_behind node_behind string_text
row_33 = refl

row_34 : writer_text (parts_of (Iri (codes "http://a/s")) (codes "http://a/p") (Literal (record { text = codes "a"; datatype = codes "http://a/d"; language = None })) (Some (Iri (codes "http://a/g"))) ∷ parts_of (Iri (codes "http://a/t")) (codes "http://a/p") (Blank (codes "b")) (Some (Iri (codes "http://a/g"))) ∷ []) ≡ codes "[{\"@id\":\"http://a/g\",\"@graph\":[{\"@id\":\"http://a/s\",\"http://a/p\":[{\"@type\":\"http://a/d\",\"@value\":\"a\"}]},{\"@id\":\"http://a/t\",\"http://a/p\":[{\"@id\":\"_:b\"}]}]}]\n"
unfolding writer_text text_behind node_behind string_text
row_34 = refl

row_35 : generated_text 0 ≡ codes "{\"@context\":{\"@vocab\":\"http://gen.example/\"},\"@graph\":[]}\n"
unfolding generated_text pieces further_items digits
row_35 = refl

row_36 : generated_text 1 ≡ codes "{\"@context\":{\"@vocab\":\"http://gen.example/\"},\"@graph\":[{\"@id\":\"http://gen.example/n/0\",\"@type\":\"T1\",\"v\":1,\"next\":{\"@id\":\"http://gen.example/n/0\"}}]}\n"
unfolding generated_text pieces further_items digits
row_36 = refl

row_37 : generated_text 2 ≡ codes "{\"@context\":{\"@vocab\":\"http://gen.example/\"},\"@graph\":[{\"@id\":\"http://gen.example/n/0\",\"@type\":\"T1\",\"v\":1,\"next\":{\"@id\":\"http://gen.example/n/1\"}},{\"@id\":\"http://gen.example/n/1\",\"@type\":\"T4\",\"v\":590,\"next\":{\"@id\":\"http://gen.example/n/0\"}}]}\n"
unfolding generated_text pieces further_items digits
row_37 = refl

row_38 : length (generated_text 1) ≡ 149
unfolding generated_text pieces further_items digits
row_38 = refl

-- so many predicates `p` and one `q`, which was used last
abbrev used : ℕ → List Text
used n = codes "q" ∷ repeated n
  where
    repeated : ℕ → List Text
    repeated zero = []
    repeated (suc m) = codes "p" ∷ repeated m

abbrev node_with : ℕ → OpenNode
node_with n = record { graph = None; subject = Iri (codes "http://a/s"); used = used n }

-- a node that uses 63 predicates takes one more, and one that uses 64 takes none; the last one goes on
row_39 : in_node (node_with 62) (codes "r") ≡ new_predicate
row_39 = refl

row_40 : in_node (node_with 63) (codes "r") ≡ new_node
row_40 = refl

row_41 : in_node (node_with 63) (codes "q") ≡ same_predicate
row_41 = refl

row_42 : in_node (node_with 1) (codes "p") ≡ new_node
row_42 = refl
