-- Rows of the reading of N-Quads: documents with their quads, tokens that are refused, and where lines stop.
use Rattle.std.specs.Prelude.{◌≡◌, ℕ, true, false, List, [], ◌∷◌, ◌++◌, length, map, Option, Some, None, IsTrue, codes, refl}
use lib.Utf8.{encode, encodes}
use Rattle.jl_model.specs.Parts.{Parts, parts_of, rdf_lang_string, xsd_string}
use Rattle.jl_model.specs.Ren.{ren}
use Rattle.jl_model.specs.JsonStrings.{hex_value}
use Rattle.jl_model.specs.LineTokens.{Written, itself, letter, four, eight, LineToken, bytes_of, is_row, is_token}
use Rattle.jl_model.specs.LineTokens as tokens
use Rattle.jl_model.specs.LineGrammar.{Name, iri, label, Object, named, literal, Suffix, plain, typed, tagged, Graph, Statement, Line, Document, last, ended, document_tokens, document_quads, QuadsOf, BeginsLines}
use Rattle.jl_model.specs.LineFaults.{GoesOn}
use Rattle.jl_model.specs.declared.terms.Term.{Term}
use Rattle.jl_model.specs.declared.terms.Term.TheVariants.{Iri, Blank, Literal}

-- characters that are written as themselves
abbrev chars : List ℕ → List Written
chars = map itself

abbrev space : List ℕ
space = codes " "

-- `<a:p>`
abbrev pub p : List Written
p = chars (codes "a:p")

abbrev statement : Name → Object → Option Graph → Statement
statement subject object graph = record { subject = subject; after_subject = space; predicate = p; after_predicate = space; object = object; after_object = space; graph = graph; after_dot = [] }

-- a line of `<a:s> <a:p>`, the object and a dot
abbrev says : Object → Line
says object = record { blanks = []; statement = Some (statement (iri (chars (codes "a:s"))) object None); comment = None }

abbrev no_line : Line
no_line = record { blanks = []; statement = None; comment = None }

abbrev comment_line : List ℕ → Line
comment_line text = record { blanks = []; statement = None; comment = Some text }

-- the line, ended by a line feed
abbrev one : Line → Document
one line = ended line 10 (last no_line)

-- the quads that rows have
abbrev quad : Term → Parts
quad object = parts_of (Iri (codes "a:s")) (codes "a:p") object None

abbrev lit : List ℕ → List ℕ → Option (List ℕ) → Term
lit text datatype language = Literal (record { text = text; datatype = datatype; language = language })

-- what a derivation spells is of the grammar, and has its quads
derived : (d : Document) → IsTrue (is_row (document_tokens d) []) → QuadsOf (bytes_of (document_tokens d)) (document_quads d)
derived d whole = record { row = document_tokens d; document = d; spelled = refl; of_grammar = record { whole = whole; derived = refl }; quads_are = refl }

-- an IRI
row_1 : QuadsOf (codes "<a:s> <a:p> <a:o> .\n") (quad (Iri (codes "a:o")) ∷ [])
unfolding encode
row_1 = derived (one (says (named (iri (chars (codes "a:o")))))) refl

-- no white space, no line end: a label as object, and another as graph
row_2 : QuadsOf (codes "<a:s><a:p>_:x<a:g>.") (parts_of (Iri (codes "a:s")) (codes "a:p") (Blank (codes "x")) (Some (Iri (codes "a:g"))) ∷ [])
unfolding encode ren
row_2 =
    derived
    (last (record {
      blanks = [];
      statement = Some (record { subject = iri (chars (codes "a:s")); after_subject = []; predicate = p; after_predicate = []; object = named (label (codes "x")); after_object = []; graph = Some (record { name = iri (chars (codes "a:g")); then_blanks = [] }); after_dot = [] });
      comment = None;
    }))
    refl

-- spaces and tabs, a comment behind a statement, and a line of white space alone
row_3 : QuadsOf (codes "\t <a:s>\t<a:p>  <a:o>\t. \t# a <b> \"c\n \t") (quad (Iri (codes "a:o")) ∷ [])
unfolding encode
row_3 =
    derived
    (ended
    (record {
      blanks = codes "\t ";
      statement = Some (record { subject = iri (chars (codes "a:s")); after_subject = codes "\t"; predicate = p; after_predicate = codes "  "; object = named (iri (chars (codes "a:o"))); after_object = codes "\t"; graph = None; after_dot = codes " \t" });
      comment = Some (codes " a <b> \"c");
    })
    10
    (last (record { blanks = codes " \t"; statement = None; comment = None })))
    refl

-- nothing; a comment alone, without a line end; empty lines and comments
row_4 : QuadsOf [] []
row_4 = derived (last no_line) refl

row_5 : QuadsOf (codes "# only a comment") []
unfolding encode
row_5 = derived (last (comment_line (codes " only a comment"))) refl

row_6 : QuadsOf (codes "\n\n#\n# \r\r\n<a:s> <a:p> <a:o> .") (quad (Iri (codes "a:o")) ∷ [])
unfolding encode
row_6 = derived (ended no_line 10 (ended no_line 10 (ended (comment_line []) 10 (ended (comment_line (codes " ")) 13 (ended no_line 13 (ended no_line 10 (last (says (named (iri (chars (codes "a:o")))))))))))) refl

-- carriage returns and line feeds, two quads in order: a plain literal, and one with the datatype of plain ones
row_7 : QuadsOf (codes "<a:s> <a:p> \"y\" .\r\n<a:s> <a:p> \"x\"^^<http://www.w3.org/2001/XMLSchema#string> .\r\n") (quad (lit (codes "y") xsd_string None) ∷ quad (lit (codes "x") xsd_string None) ∷ [])
unfolding encode
row_7 =
    derived
    (ended (says (literal (chars (codes "y")) plain)) 13 (ended no_line 10 (ended (says (literal (chars (codes "x")) (typed (chars xsd_string)))) 13 (ended no_line 10 (last no_line)))))
    refl

-- a language, whose case is kept, and a datatype
row_8 : QuadsOf (codes "<a:s> <a:p> \"a\"@en-GB .\n<a:s> <a:p> \"1\"^^<a:d> .\n") (quad (lit (codes "a") rdf_lang_string (Some (codes "en-GB"))) ∷ quad (lit (codes "1") (codes "a:d") None) ∷ [])
unfolding encode
row_8 = derived (ended (says (literal (chars (codes "a")) (tagged (codes "en-GB")))) 10 (one (says (literal (chars (codes "1")) (typed (chars (codes "a:d"))))))) refl

-- each escape by a letter
row_9 : QuadsOf (codes "<a:s> <a:p> \"\\t\\b\\n\\r\\f\\\"\\'\\\\\" .\n") (quad (lit (9 ∷ 8 ∷ 10 ∷ 13 ∷ 12 ∷ 34 ∷ 39 ∷ 92 ∷ []) xsd_string None) ∷ [])
unfolding encode
row_9 = derived (one (says (literal (map letter (codes "tbnrf\"'\\")) plain))) refl

-- escapes by digits, in both cases of letters: é twice and U+1F600 in a string, é in an IRI
row_10 : QuadsOf (codes "<a:s> <a:p> \"\\u00e9\\u00E9\\U0001F600\" .\n<a:s> <a:p> <a:\\u00e9> .\n") (quad (lit (195 ∷ 169 ∷ 195 ∷ 169 ∷ 240 ∷ 159 ∷ 152 ∷ 128 ∷ []) xsd_string None) ∷ quad (Iri (97 ∷ 58 ∷ 195 ∷ 169 ∷ [])) ∷ [])
unfolding encode hex_value
row_10 =
    derived
    (ended
    (says (literal (four (codes "00e9") ∷ four (codes "00E9") ∷ eight (codes "0001F600") ∷ []) plain))
    10
    (one (says (named (iri (itself 97 ∷ itself 58 ∷ four (codes "00e9") ∷ []))))))
    refl

-- characters beyond ASCII as themselves, in a string, an IRI and a comment
row_11 : QuadsOf (encodes (codes "<a:s> <a:p> \"é\" .\n<a:s> <a:p> <a:é> .\n#é\n")) (quad (lit (195 ∷ 169 ∷ []) xsd_string None) ∷ quad (Iri (97 ∷ 58 ∷ 195 ∷ 169 ∷ [])) ∷ [])
unfolding encode
row_11 = derived (ended (says (literal (itself 233 ∷ []) plain)) 10 (ended (says (named (iri (itself 97 ∷ itself 58 ∷ itself 233 ∷ [])))) 10 (one (comment_line (233 ∷ []))))) refl

-- labels: a dot within one stays, that behind it ends the statement; one like those that are made here is renamed
row_12 : QuadsOf (codes "<a:s> <a:p> _:a.b .\n<a:s> <a:p> _:jlb0.\n") (quad (Blank (codes "a.b")) ∷ quad (Blank (codes "jlx6a6c6230")) ∷ [])
unfolding encode ren
row_12 =
    derived
    (ended (says (named (label (codes "a.b")))) 10
    (one (record {
      blanks = [];
      statement = Some (record { subject = iri (chars (codes "a:s")); after_subject = space; predicate = p; after_predicate = space; object = named (label (codes "jlb0")); after_object = []; graph = None; after_dot = [] });
      comment = None;
    })))
    refl

-- labels of no kept form are renamed: `:` and é
row_13 : QuadsOf (encodes (codes "<a:s> <a:p> _:: .\n<a:s> <a:p> _:é .\n")) (quad (Blank (codes "jlx3a")) ∷ quad (Blank (codes "jlxc3a9")) ∷ [])
unfolding encode ren
row_13 = derived (ended (says (named (label (codes ":")))) 10 (one (says (named (label (233 ∷ [])))))) refl

-- labels as subject, object and graph
row_14 : QuadsOf (codes "_:x <a:p> _:y _:g .\n") (parts_of (Blank (codes "x")) (codes "a:p") (Blank (codes "y")) (Some (Blank (codes "g"))) ∷ [])
unfolding encode ren
row_14 =
    derived
    (one (record { blanks = []; statement = Some (statement (label (codes "x")) (named (label (codes "y"))) (Some (record { name = label (codes "g"); then_blanks = space }))); comment = None }))
    refl

-- two labels want white space between them
row_15 : is_row (tokens.label (codes "y") ∷ tokens.label (codes "g") ∷ []) [] ≡ false
unfolding encode
row_15 = refl

-- what is no token: an escape of a surrogate, of 110000, of three digits; an escape by a letter in an IRI, and another letter
row_16 : is_token (tokens.string (four (codes "d800") ∷ [])) ≡ false
unfolding hex_value
row_16 = refl

row_17 : is_token (tokens.string (eight (codes "00110000") ∷ [])) ≡ false
unfolding hex_value
row_17 = refl

row_18 : is_token (tokens.string (four (codes "0e9") ∷ [])) ≡ false
unfolding hex_value
row_18 = refl

row_19 : is_token (tokens.iri (itself 97 ∷ itself 58 ∷ letter 110 ∷ [])) ≡ false
unfolding encode
row_19 = refl

row_20 : is_token (tokens.string (letter 97 ∷ [])) ≡ false
row_20 = refl

-- an IRI without a scheme, and one with a space or a `>`, behind escapes
row_21 : is_token (tokens.iri (chars (codes "abc"))) ≡ false
unfolding encode
row_21 = refl

row_22 : is_token (tokens.iri (itself 97 ∷ itself 58 ∷ four (codes "0020") ∷ [])) ≡ false
unfolding encode hex_value
row_22 = refl

row_23 : is_token (tokens.iri (itself 97 ∷ itself 58 ∷ four (codes "003E") ∷ [])) ≡ false
unfolding encode hex_value
row_23 = refl

-- a line feed or a quote within a string, a surrogate as itself
row_24 : is_token (tokens.string (itself 10 ∷ [])) ≡ false
row_24 = refl

row_25 : is_token (tokens.string (itself 34 ∷ [])) ≡ false
row_25 = refl

row_26 : is_token (tokens.string (itself 55296 ∷ [])) ≡ false
row_26 = refl

-- labels that end with a dot, begin with a dash, or have U+D7; one with U+B7 inside is one
row_27 : is_token (tokens.label (codes "a.")) ≡ false
row_27 = refl

row_28 : is_token (tokens.label (codes "-a")) ≡ false
row_28 = refl

row_29 : is_token (tokens.label (97 ∷ 215 ∷ [])) ≡ false
row_29 = refl

row_30 : is_token (tokens.label (97 ∷ 183 ∷ [])) ≡ true
row_30 = refl

row_31 : is_token (tokens.label (183 ∷ [])) ≡ false
row_31 = refl

-- a tag that ends with a dash
row_32 : is_token (tokens.tag (codes "en-")) ≡ false
row_32 = refl

-- the byte c stands behind bytes that begin a text; these tokens, behind which the place is, go on to a text
pub record Stands (front : List ℕ) (c : ℕ) (place : ℕ) : Type 0 where
  pub begins : BeginsLines front
  pub row : List LineToken
  pub goes_on : GoesOn (front ++ c ∷ []) row
  pub place_is : place ≡ length (bytes_of row)

-- bytes begin a text that a derivation spells
pub begun : (front more : List ℕ) (d : Document) → front ++ more ≡ bytes_of (document_tokens d) → IsTrue (is_row (document_tokens d) []) → BeginsLines front
begun front more d spelled whole = (more, document_quads d, record { row = document_tokens d; document = d; spelled = spelled; of_grammar = record { whole = whole; derived = refl }; quads_are = refl })

abbrev pub s : LineToken
s = tokens.iri (chars (codes "a:s"))

abbrev pub gap : LineToken
gap = tokens.blank 32

-- the tokens of `<a:s> <a:p>` and a space
abbrev pub up_to_object : List LineToken
up_to_object = s ∷ gap ∷ tokens.iri p ∷ gap ∷ []

abbrev pub x : LineToken
x = tokens.string (chars (codes "x"))

abbrev pub x_line : Suffix → Document
x_line suffix = last (record {
  blanks = [];
  statement = Some (record { subject = iri (chars (codes "a:s")); after_subject = space; predicate = p; after_predicate = space; object = literal (chars (codes "x")) suffix; after_object = []; graph = None; after_dot = [] });
  comment = None;
})

-- white space before `^^`: the place is that of the `^`
pub row_33 : Stands (codes "<a:s> <a:p> \"x\" ") 94 16
unfolding encode
row_33 = record {
  begins = begun (codes "<a:s> <a:p> \"x\" ") (codes ".") (last (says (literal (chars (codes "x")) plain))) refl refl;
  row = up_to_object ++ x ∷ gap ∷ [];
  goes_on = record { rest = codes "^"; text_is = refl; whole = refl; more = tokens.dot ∷ []; document = last (says (literal (chars (codes "x")) plain)); begins = record { whole = refl; derived = refl } };
  place_is = refl;
}

-- white space behind `^^`: the place is that of the space
pub row_34 : Stands (codes "<a:s> <a:p> \"x\"^^") 32 17
unfolding encode
row_34 = record {
  begins = begun (codes "<a:s> <a:p> \"x\"^^") (codes "<a:d>.") (x_line (typed (chars (codes "a:d")))) refl refl;
  row = up_to_object ++ x ∷ tokens.carets ∷ [];
  goes_on = record { rest = codes " "; text_is = refl; whole = refl; more = tokens.iri (chars (codes "a:d")) ∷ tokens.dot ∷ []; document = x_line (typed (chars (codes "a:d"))); begins = record { whole = refl; derived = refl } };
  place_is = refl;
}

-- a tag that isn't whole: the place is that of its `@`
pub row_35 : Stands (codes "<a:s> <a:p> \"x\"@en-") 32 15
unfolding encode
row_35 = record {
  begins = begun (codes "<a:s> <a:p> \"x\"@en-") (codes "a.") (x_line (tagged (codes "en-a"))) refl refl;
  row = up_to_object ++ x ∷ [];
  goes_on = record { rest = codes "@en- "; text_is = refl; whole = refl; more = tokens.dot ∷ []; document = x_line plain; begins = record { whole = refl; derived = refl } };
  place_is = refl;
}

-- a label doesn't end with a dot: the place is that of the second one
pub row_36 : Stands (codes "<a:s> <a:p> _:a..") 32 16
unfolding encode
row_36 = record {
  begins = begun (codes "<a:s> <a:p> _:a..") (codes "b .") (last (says (named (label (codes "a..b"))))) refl refl;
  row = up_to_object ++ tokens.label (codes "a") ∷ tokens.dot ∷ [];
  goes_on = record {
    rest = codes ". ";
    text_is = refl;
    whole = refl;
    more = [];
    document = last (record {
      blanks = [];
      statement = Some (record { subject = iri (chars (codes "a:s")); after_subject = space; predicate = p; after_predicate = space; object = named (label (codes "a")); after_object = []; graph = None; after_dot = [] });
      comment = None;
    });
    begins = record { whole = refl; derived = refl };
  };
  place_is = refl;
}

-- no object: the place is that of the dot
pub row_37 : Stands (codes "<a:s> <a:p> ") 46 12
unfolding encode
row_37 = record {
  begins = begun (codes "<a:s> <a:p> ") (codes "<a:o> .") (last (says (named (iri (chars (codes "a:o")))))) refl refl;
  row = up_to_object;
  goes_on = record { rest = codes "."; text_is = refl; whole = refl; more = tokens.iri (chars (codes "a:o")) ∷ gap ∷ tokens.dot ∷ []; document = last (says (named (iri (chars (codes "a:o"))))); begins = record { whole = refl; derived = refl } };
  place_is = refl;
}

-- a byte of a comment that isn't UTF-8: the place is that of the first byte of these, not that of the `#`
pub row_38 : Stands (codes "#a" ++ 195 ∷ []) 40 2
unfolding encode
row_38 = record {
  begins = begun (codes "#a" ++ 195 ∷ []) (169 ∷ []) (last (comment_line (97 ∷ 233 ∷ []))) refl refl;
  row = tokens.comment (97 ∷ []) ∷ [];
  goes_on = record { rest = 195 ∷ 40 ∷ []; text_is = refl; whole = refl; more = []; document = last (comment_line (97 ∷ [])); begins = record { whole = refl; derived = refl } };
  place_is = refl;
}

-- the tag `en` doesn't end before a dash or a letter, and ends before a digit, which can't go on with it
row_39 : is_row (tokens.tag (codes "en") ∷ []) (codes "-") ≡ false
row_39 = refl

row_40 : is_row (tokens.tag (codes "en") ∷ []) (codes "g") ≡ false
row_40 = refl

row_41 : is_row (tokens.tag (codes "en") ∷ []) (codes "1") ≡ true
row_41 = refl

row_42 : is_row (tokens.tag (codes "en-x") ∷ []) (codes "1") ≡ false
row_42 = refl
