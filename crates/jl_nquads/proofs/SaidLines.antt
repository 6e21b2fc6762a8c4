-- The rows of tokens that say something from the beginning of a line are the lines of the grammar.
use Rattle.std.proofs.Common.{◌≡◌, ℕ, List, [], ◌∷◌, ◌++◌, Option, Some, None, append_assoc, refl, sym, ap, ◌∙◌}
use lib.Utf8.{encodes}
use Rattle.jl_model.specs.Parts.{Parts, parts_of, rdf_lang_string, xsd_string}
use Rattle.jl_model.specs.Ren.{ren}
use Rattle.jl_model.specs.LineTokens.{Written, meaning, LineToken}
use Rattle.jl_model.specs.LineTokens as tokens
use Rattle.jl_model.specs.LineGrammar.{Name, Object, named, literal, Suffix, plain, typed, tagged, Graph, Statement, Line, blank_tokens, name_token, name_term, object_tokens, object_term, suffix_tokens, graph_tokens, graph_term, statement_tokens, statement_quads, comment_tokens, line_tokens}
use Rattle.jl_model.specs.LineGrammar as grammar
use Rattle.jl_model.specs.declared.terms.Term.{Term}
use Rattle.jl_model.specs.declared.terms.Term.TheVariants.{Iri, Blank, Literal}
use Rattle.jl_nquads.specs.Spots.{Spot, begins, has_subject, has_predicate, has_string, has_carets, has_object, has_graph, has_dot, has_comment, leads_to, said, literal_of}
use Rattle.jl_nquads.proofs.SpotRows.{said_where}

-- ---- a line of the grammar says what its statement says

blanks_stay : (s : Spot) → ((b : ℕ) → leads_to s (tokens.blank b) ≡ Some s) → (bs : List ℕ) (ts : List LineToken) → said s (blank_tokens bs ++ ts) ≡ said s ts
blanks_stay s h [] ts = refl
blanks_stay s h (b ∷ bs) ts = ap (λ (o : Option Spot). elim o as (λ _. Option (List Parts)) [ None ↦ None | Some x ↦ said x (blank_tokens bs ++ ts) ]) (h b) ∙ blanks_stay s h bs ts

said_comment : (q : Parts) (c : Option (List ℕ)) → said (has_dot q) (comment_tokens c) ≡ Some (q ∷ [])
said_comment q None = refl
said_comment q (Some c) = refl

said_dot : (q : Parts) (bs : List ℕ) (c : Option (List ℕ)) → said (has_dot q) (blank_tokens bs ++ comment_tokens c) ≡ Some (q ∷ [])
said_dot q bs c = blanks_stay (has_dot q) (λ b. refl) bs (comment_tokens c) ∙ said_comment q c

said_graph : (s : Term) (p : List ℕ) (o g : Term) (bs bs2 : List ℕ) (c : Option (List ℕ)) → said (has_graph s p o g) (blank_tokens bs ++ (tokens.dot ∷ (blank_tokens bs2 ++ comment_tokens c))) ≡ Some (parts_of s p o (Some g) ∷ [])
said_graph s p o g bs bs2 c = blanks_stay (has_graph s p o g) (λ b. refl) bs (tokens.dot ∷ (blank_tokens bs2 ++ comment_tokens c)) ∙ said_dot (parts_of s p o (Some g)) bs2 c

-- what stands behind the white space after an object
abbrev pub behind_object : Option Graph → List ℕ → Option (List ℕ) → List LineToken
behind_object g bs c = graph_tokens g ++ (tokens.dot ∷ (blank_tokens bs ++ comment_tokens c))

said_behind : (s : Term) (p : List ℕ) (o : Term) (g : Option Graph) (bs : List ℕ) (c : Option (List ℕ)) → said (has_object s p o) (behind_object g bs c) ≡ Some (parts_of s p o (graph_term g) ∷ [])
said_behind s p o None bs c = said_dot (parts_of s p o None) bs c
said_behind s p o (Some g) bs c = by g.name
  where
    by : (n : Name) → said (has_object s p o) (name_token n ∷ (blank_tokens g.then_blanks ++ (tokens.dot ∷ (blank_tokens bs ++ comment_tokens c)))) ≡ Some (parts_of s p o (Some (name_term n)) ∷ [])
    by (grammar.iri w) = said_graph s p o (Iri (meaning w)) g.then_blanks bs c
    by (grammar.label l) = said_graph s p o (Blank (ren (encodes l))) g.then_blanks bs c

said_object : (s : Term) (p : List ℕ) (o : Term) (bs : List ℕ) (g : Option Graph) (bs2 : List ℕ) (c : Option (List ℕ)) → said (has_object s p o) (blank_tokens bs ++ behind_object g bs2 c) ≡ Some (parts_of s p o (graph_term g) ∷ [])
said_object s p o bs g bs2 c = blanks_stay (has_object s p o) (λ b. refl) bs (behind_object g bs2 c) ∙ said_behind s p o g bs2 c

-- behind a plain string
said_plain : (s : Term) (p t : List ℕ) (bs : List ℕ) (g : Option Graph) (bs2 : List ℕ) (c : Option (List ℕ)) → said (has_string s p t) (blank_tokens bs ++ behind_object g bs2 c) ≡ Some (parts_of s p (literal_of t xsd_string None) (graph_term g) ∷ [])
said_plain s p t (b ∷ bs) g bs2 c = said_object s p (literal_of t xsd_string None) bs g bs2 c
said_plain s p t [] None bs2 c = said_behind s p (literal_of t xsd_string None) None bs2 c
said_plain s p t [] (Some g) bs2 c = by g.name
  where
    by : (n : Name) → said (has_string s p t) (name_token n ∷ (blank_tokens g.then_blanks ++ (tokens.dot ∷ (blank_tokens bs2 ++ comment_tokens c)))) ≡ Some (parts_of s p (literal_of t xsd_string None) (Some (name_term n)) ∷ [])
    by (grammar.iri w) = said_graph s p (literal_of t xsd_string None) (Iri (meaning w)) g.then_blanks bs2 c
    by (grammar.label l) = said_graph s p (literal_of t xsd_string None) (Blank (ren (encodes l))) g.then_blanks bs2 c

said_predicate : (s : Term) (p : List ℕ) (o : Object) (bs : List ℕ) (g : Option Graph) (bs2 : List ℕ) (c : Option (List ℕ)) → said (has_predicate s p) (object_tokens o ++ (blank_tokens bs ++ behind_object g bs2 c)) ≡ Some (parts_of s p (object_term o) (graph_term g) ∷ [])
said_predicate s p (named (grammar.iri w)) bs g bs2 c = said_object s p (Iri (meaning w)) bs g bs2 c
said_predicate s p (named (grammar.label l)) bs g bs2 c = said_object s p (Blank (ren (encodes l))) bs g bs2 c
said_predicate s p (literal w plain) bs g bs2 c = said_plain s p (meaning w) bs g bs2 c
said_predicate s p (literal w (typed d)) bs g bs2 c = said_object s p (literal_of (meaning w) (meaning d) None) bs g bs2 c
said_predicate s p (literal w (tagged l)) bs g bs2 c = said_object s p (literal_of (meaning w) rdf_lang_string (Some l)) bs g bs2 c

-- the tokens of a statement and a comment, part by part
abbrev pub all_tokens : Statement → Option (List ℕ) → List LineToken
all_tokens s c = name_token s.subject ∷ (blank_tokens s.after_subject ++ (tokens.iri s.predicate ∷ (blank_tokens s.after_predicate ++ (object_tokens s.object ++ (blank_tokens s.after_object ++ behind_object s.graph s.after_dot c)))))

pub grouped : (s : Statement) (c : Option (List ℕ)) → statement_tokens (Some s) ++ comment_tokens c ≡ all_tokens s c
grouped s c =
    let a = name_token s.subject ∷ blank_tokens s.after_subject in
    let p = tokens.iri s.predicate ∷ blank_tokens s.after_predicate in
    let o = object_tokens s.object in
    let b = blank_tokens s.after_object in
    let g = graph_tokens s.graph in
    let d = tokens.dot ∷ blank_tokens s.after_dot in
    let t = comment_tokens c in
    append_assoc (((((a ++ p) ++ o) ++ b) ++ g)) d t
    ∙ append_assoc (((a ++ p) ++ o) ++ b) g (d ++ t)
    ∙ append_assoc ((a ++ p) ++ o) b (g ++ (d ++ t))
    ∙ append_assoc (a ++ p) o (b ++ (g ++ (d ++ t)))
    ∙ append_assoc a p (o ++ (b ++ (g ++ (d ++ t))))

said_statement : (s : Statement) (c : Option (List ℕ)) → said begins (all_tokens s c) ≡ Some (parts_of (name_term s.subject) (meaning s.predicate) (object_term s.object) (graph_term s.graph) ∷ [])
said_statement s c = by s.subject
  where
    rest : List LineToken
    rest = blank_tokens s.after_predicate ++ (object_tokens s.object ++ (blank_tokens s.after_object ++ behind_object s.graph s.after_dot c))

    from : (t : Term) → said (has_subject t) (blank_tokens s.after_subject ++ (tokens.iri s.predicate ∷ rest)) ≡ Some (parts_of t (meaning s.predicate) (object_term s.object) (graph_term s.graph) ∷ [])
    from t =
        blanks_stay (has_subject t) (λ b. refl) s.after_subject (tokens.iri s.predicate ∷ rest) ∙ blanks_stay (has_predicate t (meaning s.predicate)) (λ b. refl) s.after_predicate (object_tokens s.object ++ (blank_tokens s.after_object ++ behind_object s.graph s.after_dot c))
        ∙ said_predicate t (meaning s.predicate) s.object s.after_object s.graph s.after_dot c

    by : (n : Name) → said begins (name_token n ∷ (blank_tokens s.after_subject ++ (tokens.iri s.predicate ∷ rest))) ≡ Some (parts_of (name_term n) (meaning s.predicate) (object_term s.object) (graph_term s.graph) ∷ [])
    by (grammar.iri w) = from (Iri (meaning w))
    by (grammar.label l) = from (Blank (ren (encodes l)))

said_nothing : (c : Option (List ℕ)) → said begins (comment_tokens c) ≡ Some []
said_nothing None = refl
said_nothing (Some c) = refl

pub said_line : (line : Line) → said begins (line_tokens line) ≡ Some (statement_quads line.statement)
said_line line = ap (said begins) (append_assoc (blank_tokens line.blanks) (statement_tokens line.statement) (comment_tokens line.comment)) ∙ blanks_stay begins (λ b. refl) line.blanks (statement_tokens line.statement ++ comment_tokens line.comment) ∙ by line.statement
  where
    by : (s : Option Statement) → said begins (statement_tokens s ++ comment_tokens line.comment) ≡ Some (statement_quads s)
    by None = said_nothing line.comment
    by (Some s) = ap (said begins) (grouped s line.comment) ∙ said_statement s line.comment

-- ---- a row that says something is a line of the grammar

some_same : {A : Type 0} (a b : A) → ◌≡◌ {A = Option A} (Some a) (Some b) → a ≡ b
some_same a b e = cc

from_comment : (qs : List Parts) (row : List LineToken) (quads : List Parts) → said (has_comment qs) row ≡ Some quads → (row ≡ []) × (quads ≡ qs)
from_comment qs [] quads h = (refl, sym (some_same qs quads h))
from_comment qs (t ∷ ts) quads h = absurd (none t (said_where (has_comment qs) t ts quads h))
  where
    none : (t : LineToken) → (r : Spot) × (leads_to (has_comment qs) t ≡ Some r) × (said r ts ≡ Some quads) → ⊥
    none (tokens.iri w) k = let e = k.1 in let z : ⊥ = cc in z
    none (tokens.label w) k = let e = k.1 in let z : ⊥ = cc in z
    none (tokens.string w) k = let e = k.1 in let z : ⊥ = cc in z
    none tokens.carets k = let e = k.1 in let z : ⊥ = cc in z
    none (tokens.tag w) k = let e = k.1 in let z : ⊥ = cc in z
    none tokens.dot k = let e = k.1 in let z : ⊥ = cc in z
    none (tokens.comment w) k = let e = k.1 in let z : ⊥ = cc in z
    none (tokens.line_end w) k = let e = k.1 in let z : ⊥ = cc in z
    none (tokens.blank w) k = let e = k.1 in let z : ⊥ = cc in z

-- behind the dot
record FromDot (q : Parts) (row : List LineToken) (quads : List Parts) : Type 0 where
  blanks : List ℕ
  remark : Option (List ℕ)
  row_is : row ≡ blank_tokens blanks ++ comment_tokens remark
  quads_are : quads ≡ q ∷ []

from_dot : (q : Parts) (row : List LineToken) (quads : List Parts) → said (has_dot q) row ≡ Some quads → FromDot q row quads
from_dot q [] quads h = record { blanks = []; remark = None; row_is = refl; quads_are = sym (some_same (q ∷ []) quads h) }
from_dot q (tokens.blank b ∷ ts) quads h =
    let k = from_dot q ts quads h in record { blanks = b ∷ k.blanks; remark = k.remark; row_is = ap (λ z. tokens.blank b ∷ z) k.row_is; quads_are = k.quads_are }
from_dot q (tokens.comment c ∷ ts) quads h =
    let k = from_comment (q ∷ []) ts quads h in record { blanks = []; remark = Some c; row_is = ap (λ z. tokens.comment c ∷ z) k.0; quads_are = k.1 }
from_dot q (t ∷ ts) quads h = absurd (let z : ⊥ = cc in z)

-- behind an object
record FromObject (s : Term) (p : List ℕ) (o : Term) (row : List LineToken) (quads : List Parts) : Type 0 where
  blanks : List ℕ
  graph : Option Graph
  after : List ℕ
  remark : Option (List ℕ)
  row_is : row ≡ blank_tokens blanks ++ behind_object graph after remark
  quads_are : quads ≡ parts_of s p o (graph_term graph) ∷ []

-- behind a graph
record FromGraph (s : Term) (p : List ℕ) (o g : Term) (row : List LineToken) (quads : List Parts) : Type 0 where
  blanks : List ℕ
  after : List ℕ
  remark : Option (List ℕ)
  row_is : row ≡ blank_tokens blanks ++ (tokens.dot ∷ (blank_tokens after ++ comment_tokens remark))
  quads_are : quads ≡ parts_of s p o (Some g) ∷ []

from_graph : (s : Term) (p : List ℕ) (o g : Term) (row : List LineToken) (quads : List Parts) → said (has_graph s p o g) row ≡ Some quads → FromGraph s p o g row quads
from_graph s p o g [] quads h = absurd (let z : ⊥ = cc in z)
from_graph s p o g (tokens.blank b ∷ ts) quads h =
    let k = from_graph s p o g ts quads h in record { blanks = b ∷ k.blanks; after = k.after; remark = k.remark; row_is = ap (λ z. tokens.blank b ∷ z) k.row_is; quads_are = k.quads_are }
from_graph s p o g (tokens.dot ∷ ts) quads h =
    let k = from_dot (parts_of s p o (Some g)) ts quads h in record { blanks = []; after = k.blanks; remark = k.remark; row_is = ap (λ z. tokens.dot ∷ z) k.row_is; quads_are = k.quads_are }
from_graph s p o g (t ∷ ts) quads h = absurd (let z : ⊥ = cc in z)

graphed : (s : Term) (p : List ℕ) (o : Term) (n : Name) (ts : List LineToken) (quads : List Parts) → FromGraph s p o (name_term n) ts quads → FromObject s p o (name_token n ∷ ts) quads
graphed s p o n ts quads k = record {
  blanks = [];
  graph = Some (record { name = n; then_blanks = k.blanks });
  after = k.after;
  remark = k.remark;
  row_is = ap (λ z. name_token n ∷ z) k.row_is;
  quads_are = k.quads_are;
}

dotted : (s : Term) (p : List ℕ) (o : Term) (ts : List LineToken) (quads : List Parts) → FromDot (parts_of s p o None) ts quads → FromObject s p o (tokens.dot ∷ ts) quads
dotted s p o ts quads k = record { blanks = []; graph = None; after = k.blanks; remark = k.remark; row_is = ap (λ z. tokens.dot ∷ z) k.row_is; quads_are = k.quads_are }

blanked : (s : Term) (p : List ℕ) (o : Term) (b : ℕ) (ts : List LineToken) (quads : List Parts) → FromObject s p o ts quads → FromObject s p o (tokens.blank b ∷ ts) quads
blanked s p o b ts quads k = record { blanks = b ∷ k.blanks; graph = k.graph; after = k.after; remark = k.remark; row_is = ap (λ z. tokens.blank b ∷ z) k.row_is; quads_are = k.quads_are }

from_object : (s : Term) (p : List ℕ) (o : Term) (row : List LineToken) (quads : List Parts) → said (has_object s p o) row ≡ Some quads → FromObject s p o row quads
from_object s p o [] quads h = absurd (let z : ⊥ = cc in z)
from_object s p o (tokens.blank b ∷ ts) quads h = blanked s p o b ts quads (from_object s p o ts quads h)
from_object s p o (tokens.iri w ∷ ts) quads h = graphed s p o (grammar.iri w) ts quads (from_graph s p o (Iri (meaning w)) ts quads h)
from_object s p o (tokens.label c ∷ ts) quads h = graphed s p o (grammar.label c) ts quads (from_graph s p o (Blank (ren (encodes c))) ts quads h)
from_object s p o (tokens.dot ∷ ts) quads h = dotted s p o ts quads (from_dot (parts_of s p o None) ts quads h)
from_object s p o (t ∷ ts) quads h = absurd (let z : ⊥ = cc in z)

-- behind a string
record FromString (s : Term) (p t : List ℕ) (row : List LineToken) (quads : List Parts) : Type 0 where
  suffix : Suffix
  blanks : List ℕ
  graph : Option Graph
  after : List ℕ
  remark : Option (List ℕ)
  row_is : row ≡ suffix_tokens suffix ++ (blank_tokens blanks ++ behind_object graph after remark)
  quads_are : quads ≡ parts_of s p (Literal (grammar.literal_of t suffix)) (graph_term graph) ∷ []

suffixed : (s : Term) (p t : List ℕ) (suffix : Suffix) (ts : List LineToken) (quads : List Parts) → FromObject s p (Literal (grammar.literal_of t suffix)) ts quads → FromString s p t (suffix_tokens suffix ++ ts) quads
suffixed s p t suffix ts quads k = record { suffix = suffix; blanks = k.blanks; graph = k.graph; after = k.after; remark = k.remark; row_is = ap (λ z. suffix_tokens suffix ++ z) k.row_is; quads_are = k.quads_are }

from_carets : (s : Term) (p t : List ℕ) (ts : List LineToken) (quads : List Parts) → said (has_carets s p t) ts ≡ Some quads → FromString s p t (tokens.carets ∷ ts) quads
from_carets s p t [] quads h = absurd (let z : ⊥ = cc in z)
from_carets s p t (tokens.iri w ∷ ts) quads h = suffixed s p t (typed w) ts quads (from_object s p (literal_of t (meaning w) None) ts quads h)
from_carets s p t (u ∷ ts) quads h = absurd (let z : ⊥ = cc in z)

from_string : (s : Term) (p t : List ℕ) (row : List LineToken) (quads : List Parts) → said (has_string s p t) row ≡ Some quads → FromString s p t row quads
from_string s p t [] quads h = absurd (let z : ⊥ = cc in z)
from_string s p t (tokens.carets ∷ ts) quads h = from_carets s p t ts quads h
from_string s p t (tokens.tag l ∷ ts) quads h = suffixed s p t (tagged l) ts quads (from_object s p (literal_of t rdf_lang_string (Some l)) ts quads h)
from_string s p t (tokens.blank b ∷ ts) quads h = suffixed s p t plain (tokens.blank b ∷ ts) quads (blanked s p (literal_of t xsd_string None) b ts quads (from_object s p (literal_of t xsd_string None) ts quads h))
from_string s p t (tokens.iri w ∷ ts) quads h = suffixed s p t plain (tokens.iri w ∷ ts) quads (graphed s p (literal_of t xsd_string None) (grammar.iri w) ts quads (from_graph s p (literal_of t xsd_string None) (Iri (meaning w)) ts quads h))
from_string s p t (tokens.label c ∷ ts) quads h = suffixed s p t plain (tokens.label c ∷ ts) quads (graphed s p (literal_of t xsd_string None) (grammar.label c) ts quads (from_graph s p (literal_of t xsd_string None) (Blank (ren (encodes c))) ts quads h))
from_string s p t (tokens.dot ∷ ts) quads h = suffixed s p t plain (tokens.dot ∷ ts) quads (dotted s p (literal_of t xsd_string None) ts quads (from_dot (parts_of s p (literal_of t xsd_string None) None) ts quads h))
from_string s p t (u ∷ ts) quads h = absurd (let z : ⊥ = cc in z)

-- behind a predicate
record FromPredicate (s : Term) (p : List ℕ) (row : List LineToken) (quads : List Parts) : Type 0 where
  before : List ℕ
  object : Object
  blanks : List ℕ
  graph : Option Graph
  after : List ℕ
  remark : Option (List ℕ)
  row_is : row ≡ blank_tokens before ++ (object_tokens object ++ (blank_tokens blanks ++ behind_object graph after remark))
  quads_are : quads ≡ parts_of s p (object_term object) (graph_term graph) ∷ []

from_name : (s : Term) (p : List ℕ) (n : Name) (ts : List LineToken) (quads : List Parts) → FromObject s p (name_term n) ts quads → FromPredicate s p (name_token n ∷ ts) quads
from_name s p n ts quads k = record { before = []; object = named n; blanks = k.blanks; graph = k.graph; after = k.after; remark = k.remark; row_is = ap (λ z. name_token n ∷ z) k.row_is; quads_are = k.quads_are }

from_predicate : (s : Term) (p : List ℕ) (row : List LineToken) (quads : List Parts) → said (has_predicate s p) row ≡ Some quads → FromPredicate s p row quads
from_predicate s p [] quads h = absurd (let z : ⊥ = cc in z)
from_predicate s p (tokens.blank b ∷ ts) quads h =
    let k = from_predicate s p ts quads h in
    record { before = b ∷ k.before; object = k.object; blanks = k.blanks; graph = k.graph; after = k.after; remark = k.remark; row_is = ap (λ z. tokens.blank b ∷ z) k.row_is; quads_are = k.quads_are }
from_predicate s p (tokens.iri w ∷ ts) quads h = from_name s p (grammar.iri w) ts quads (from_object s p (Iri (meaning w)) ts quads h)
from_predicate s p (tokens.label c ∷ ts) quads h = from_name s p (grammar.label c) ts quads (from_object s p (Blank (ren (encodes c))) ts quads h)
from_predicate s p (tokens.string w ∷ ts) quads h =
    let k = from_string s p (meaning w) ts quads h in
    record { before = []; object = literal w k.suffix; blanks = k.blanks; graph = k.graph; after = k.after; remark = k.remark; row_is = ap (λ z. tokens.string w ∷ z) k.row_is; quads_are = k.quads_are }
from_predicate s p (t ∷ ts) quads h = absurd (let z : ⊥ = cc in z)

-- behind a subject
record FromSubject (s : Term) (row : List LineToken) (quads : List Parts) : Type 0 where
  between : List ℕ
  predicate : List Written
  rest : List LineToken
  row_is : row ≡ blank_tokens between ++ (tokens.iri predicate ∷ rest)
  further : FromPredicate s (meaning predicate) rest quads

from_subject : (s : Term) (row : List LineToken) (quads : List Parts) → said (has_subject s) row ≡ Some quads → FromSubject s row quads
from_subject s [] quads h = absurd (let z : ⊥ = cc in z)
from_subject s (tokens.blank b ∷ ts) quads h = let k = from_subject s ts quads h in record { between = b ∷ k.between; predicate = k.predicate; rest = k.rest; row_is = ap (λ z. tokens.blank b ∷ z) k.row_is; further = k.further }
from_subject s (tokens.iri w ∷ ts) quads h = record { between = []; predicate = w; rest = ts; row_is = refl; further = from_predicate s (meaning w) ts quads h }
from_subject s (t ∷ ts) quads h = absurd (let z : ⊥ = cc in z)

-- the line that a row is
pub record IsLine (row : List LineToken) (quads : List Parts) : Type 0 where
  pub line : Line
  pub row_is : row ≡ line_tokens line
  pub quads_are : quads ≡ statement_quads line.statement

from_name_first : (n : Name) (ts : List LineToken) (quads : List Parts) → FromSubject (name_term n) ts quads → IsLine (name_token n ∷ ts) quads
from_name_first n ts quads k =
    let f = k.further in
    let s : Statement = record { subject = n; after_subject = k.between; predicate = k.predicate; after_predicate = f.before; object = f.object; after_object = f.blanks; graph = f.graph; after_dot = f.after } in
    record {
      line = record { blanks = []; statement = Some s; comment = f.remark };
      row_is = ap (λ z. name_token n ∷ z) (k.row_is ∙ ap (λ z. blank_tokens k.between ++ (tokens.iri k.predicate ∷ z)) f.row_is) ∙ sym (grouped s f.remark);
      quads_are = f.quads_are;
    }

pub line_of : (row : List LineToken) (quads : List Parts) → said begins row ≡ Some quads → IsLine row quads
line_of [] quads h = record { line = record { blanks = []; statement = None; comment = None }; row_is = refl; quads_are = sym (some_same [] quads h) }
line_of (tokens.blank b ∷ ts) quads h =
    let k = line_of ts quads h in
    let l = k.line in
    record {
      line = record { blanks = b ∷ l.blanks; statement = l.statement; comment = l.comment };
      row_is = ap (λ z. tokens.blank b ∷ z) k.row_is;
      quads_are = k.quads_are;
    }
line_of (tokens.iri w ∷ ts) quads h = from_name_first (grammar.iri w) ts quads (from_subject (Iri (meaning w)) ts quads h)
line_of (tokens.label c ∷ ts) quads h = from_name_first (grammar.label c) ts quads (from_subject (Blank (ren (encodes c))) ts quads h)
line_of (tokens.comment c ∷ ts) quads h = let k = from_comment [] ts quads h in record { line = record { blanks = []; statement = None; comment = Some c }; row_is = ap (λ z. tokens.comment c ∷ z) k.0; quads_are = k.1 }
line_of (t ∷ ts) quads h = absurd (let z : ⊥ = cc in z)
