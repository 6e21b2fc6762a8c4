-- The lines of quads read back.
use Rattle.std.proofs.Common.{◌≡◌, ℕ, Bool, true, false, not, cond, List, [], ◌∷◌, ◌++◌, map, flat_map, Option, Some, None, codes, IsTrue, append-nil, append_assoc, refl, sym, ap, ◌∙◌, subst, arith}
use Rattle.std.proofs.lemmas.List.Elements.{All-tail}
use Rattle.std.proofs.lemmas.Slice.Eq.{bytes_eq-Decides}
use Rattle.std.specs.List.{All}
use Rattle.std.specs.Str.{bytes_eq}
use lib.Utf8.{encodes}
use Rattle.jl_model.specs.Iris.{IsIri}
use Rattle.jl_model.specs.Labels.{is_kept_label}
use Rattle.jl_model.specs.Lines.{escaped, iri_text, suffix_text, term_text, spaced, graph_text, line}
use Rattle.jl_model.specs.LineGrammar.{QuadsOf}
use Rattle.jl_model.specs.LineTokens.{Written, meaning, LineToken, token_bytes, is_token, ends_before}
use Rattle.jl_model.specs.LineTokens as tokens
use Rattle.jl_model.specs.Parts.{Parts, parts_of, rdf_lang_string, xsd_string, IsNode, IsLanguage, IsObject, IsGraph, AreWellFormed}
use Rattle.jl_model.specs.Ren.{ren}
use Rattle.jl_model.specs.declared.terms.Term.{Term}
use Rattle.jl_model.specs.declared.terms.Term.TheVariants.{Iri, Blank, Literal}
use Rattle.jl_nquads.specs.EndedLines.{HasEnded}
use Rattle.jl_nquads.specs.Laws.{LinesReadBack}
use Rattle.jl_nquads.specs.Renamed.{renamed_term, renamed_graph, renamed}
use Rattle.jl_nquads.specs.Spots.{Spot, begins, has_subject, has_predicate, has_string, has_carets, has_object, has_graph, has_dot, literal_of, leads_to, Left}
use Rattle.jl_nquads.proofs.Documents.{ends_more, quads_of_last}
use Rattle.jl_nquads.proofs.SpotSteps.{left_before}
use Rattle.jl_nquads.proofs.TagBytes.{other_ends}
use Rattle.jl_nquads.proofs.WrittenTokens.{iri_written, iri_token, string_written, kept_token}

-- ---- a token and the space after it

spaced_before : (s r v : Spot) (t : LineToken) (text rest : List ℕ) (q : List Parts) → leads_to s t ≡ Some r → leads_to r (tokens.blank 32) ≡ Some v → IsTrue (is_token t) → token_bytes t ≡ text → IsTrue (ends_before t (32 ∷ rest)) → Left v rest q → Left s (text ++ (32 ∷ rest)) q
spaced_before s r v t text rest q lead blank token spelled apart l =
    subst (λ z. Left s (z ++ (32 ∷ rest)) q) spelled (left_before s r t (32 ∷ rest) q lead token apart (left_before r v (tokens.blank 32) rest q blank refl refl l))

iri_before : (s : Spot) (f : List ℕ → Spot) (v : Spot) (text rest : List ℕ) (q : List Parts) → ((ws : List Written) → leads_to s (tokens.iri ws) ≡ Some (f (meaning ws))) → leads_to (f text) (tokens.blank 32) ≡ Some v → IsIri text → Left v rest q → Left s (iri_text text ++ (32 ∷ rest)) q
iri_before s f v text rest q lead blank h l =
    let w = iri_written text h in
    spaced_before s (f text) v (tokens.iri w.characters) (iri_text text) rest q (subst (λ z. leads_to s (tokens.iri w.characters) ≡ Some (f z)) w.meaning_is (lead w.characters)) blank (iri_token text h.form w) (ap iri_text w.bytes_are) refl l

label_before : (s : Spot) (f : List ℕ → Spot) (v : Spot) (text rest : List ℕ) (q : List Parts) → ((cs : List ℕ) → leads_to s (tokens.label cs) ≡ Some (f (ren (encodes cs)))) → leads_to (f (ren text)) (tokens.blank 32) ≡ Some v → IsTrue (is_kept_label text) → Left v rest q → Left s ((codes "_:" ++ text) ++ (32 ∷ rest)) q
label_before s f v text rest q lead blank h l =
    let (token, spelled) = kept_token text h in
    spaced_before s (f (ren text)) v (tokens.label text) (codes "_:" ++ text) rest q (subst (λ z. leads_to s (tokens.label text) ≡ Some (f (ren z))) spelled (lead text)) blank token (ap (λ z. codes "_:" ++ z) spelled) refl l

-- the name of a node
node_before : (s : Spot) (f : Term → Spot) (term : Term) (rest : List ℕ) (q : List Parts) → ((ws : List Written) → leads_to s (tokens.iri ws) ≡ Some (f (Iri (meaning ws)))) → ((cs : List ℕ) → leads_to s (tokens.label cs) ≡ Some (f (Blank (ren (encodes cs)))))
    → ((t : Term) → leads_to (f t) (tokens.blank 32) ≡ Some (f t)) → IsNode term → Left (f (renamed_term term)) rest q → Left s (term_text term ++ (32 ∷ rest)) q
node_before s f (Iri iri) rest q by_iri by_label blank h l = iri_before s (λ m. f (Iri m)) (f (Iri iri)) iri rest q by_iri (blank (Iri iri)) h l
node_before s f (Blank label) rest q by_iri by_label blank h l = label_before s (λ m. f (Blank m)) (f (Blank (ren label))) label rest q by_label (blank (Blank (ren label))) h l
node_before s f (Literal lit) rest q by_iri by_label blank h l = absurd h

-- ---- literals

module _ (s : Term) (p text : List ℕ) where
  -- what stands after a string
  plain_before : (datatype rest : List ℕ) (q : List Parts) → IsIri datatype → Left (has_object s p (literal_of text datatype None)) rest q → (b : Bool) → bytes_eq datatype xsd_string ≡ b → Left (has_string s p text) (cond b [] (codes "^^" ++ iri_text datatype) ++ (32 ∷ rest)) q
  plain_before datatype rest q h l true e =
      left_before (has_string s p text) (has_object s p (literal_of text xsd_string None)) (tokens.blank 32) rest q refl refl refl
      (subst (λ z. Left (has_object s p (literal_of text z None)) rest q) ((bytes_eq-Decides datatype xsd_string).0 e) l)
  plain_before datatype rest q h l false e =
      left_before (has_string s p text) (has_carets s p text) tokens.carets (iri_text datatype ++ (32 ∷ rest)) q refl refl refl
      (iri_before (has_carets s p text) (λ m. has_object s p (literal_of text m None)) (has_object s p (literal_of text datatype None)) datatype rest q (λ ws. refl) refl h l)

  suffix_before : (datatype : List ℕ) (language : Option (List ℕ)) (rest : List ℕ) (q : List Parts) → IsIri datatype → IsLanguage datatype language → Left (has_object s p (literal_of text datatype language)) rest q → Left (has_string s p text) (suffix_text datatype language ++ (32 ∷ rest)) q
  suffix_before datatype None rest q h k l = plain_before datatype rest q h l (bytes_eq datatype xsd_string) refl
  suffix_before datatype (Some tag) rest q h k l =
      let spot = has_object s p (literal_of text rdf_lang_string (Some tag)) in
      spaced_before (has_string s p text) spot spot (tokens.tag tag) (codes "@" ++ tag) rest q refl refl k.0 refl (ap not (other_ends tag 32 [] refl))
      (subst (λ z. Left (has_object s p (literal_of text z (Some tag))) rest q) k.1 l)

quoted : List ℕ → List ℕ
quoted text = codes "\"" ++ text ++ codes "\""

object_before : (s : Term) (p : List ℕ) (object : Term) (rest : List ℕ) (q : List Parts) → IsObject object → Left (has_object s p (renamed_term object)) rest q → Left (has_predicate s p) (term_text object ++ (32 ∷ rest)) q
unfolding quoted
object_before s p (Iri iri) rest q h l = iri_before (has_predicate s p) (λ m. has_object s p (Iri m)) (has_object s p (Iri iri)) iri rest q (λ ws. refl) refl h l
object_before s p (Blank label) rest q h l = label_before (has_predicate s p) (λ m. has_object s p (Blank m)) (has_object s p (Blank (ren label))) label rest q (λ cs. refl) refl h l
object_before s p (Literal lit) rest q h l =
    let w = string_written lit.text h.text in
    let suffix = suffix_text lit.datatype lit.language in
    let behind = suffix_before s p lit.text lit.datatype lit.language rest q h.datatype h.language l in
    let whole = left_before (has_predicate s p) (has_string s p (meaning w.characters)) (tokens.string w.characters) (suffix ++ (32 ∷ rest)) q refl w.each refl (subst (λ z. Left (has_string s p z) (suffix ++ (32 ∷ rest)) q) (sym w.meaning_is) behind) in
    subst (λ z. Left (has_predicate s p) z q) (ap (λ z. quoted z ++ (suffix ++ (32 ∷ rest))) w.bytes_are ∙ sym (append_assoc (quoted (flat_map escaped lit.text)) suffix (32 ∷ rest))) whole

-- ---- the end of a line

dot_last : (s : Spot) (q : Parts) → leads_to s tokens.dot ≡ Some (has_dot q) → Left s (codes ".") (q ∷ [])
dot_last s q lead = left_before s (has_dot q) tokens.dot [] (q ∷ []) lead refl refl (record { row = []; text_is = refl; whole = refl; says = refl })

graph_last : (s : Term) (p : List ℕ) (o : Term) (graph : Option Term) → IsGraph graph → Left (has_object s p o) (graph_text graph ++ codes ".") (parts_of s p o (renamed_graph graph) ∷ [])
graph_last s p o None h = dot_last (has_object s p o) (parts_of s p o None) refl
graph_last s p o (Some graph) h =
    let quad = parts_of s p o (Some (renamed_term graph)) in
    let k = node_before (has_object s p o) (has_graph s p o) graph (codes ".") (quad ∷ []) (λ ws. refl) (λ cs. refl) (λ t. refl) h (dot_last (has_graph s p o (renamed_term graph)) quad refl) in
    subst (λ z. Left (has_object s p o) z (quad ∷ [])) (sym (append_assoc (term_text graph) (codes " ") (codes "."))) k

-- ---- lines

-- a line without its line feed
abbrev body : Parts → List ℕ
body q = term_text q.subject ++ (32 ∷ (iri_text q.predicate ++ (32 ∷ (term_text q.object ++ (32 ∷ (graph_text q.graph ++ codes "."))))))

body_left : (q : Parts) → AreWellFormed q → Left begins (body q) (renamed q ∷ [])
body_left q h =
    let s = renamed_term q.subject in
    let o = renamed_term q.object in
    let behind_object = graph_text q.graph ++ codes "." in
    let behind_predicate = term_text q.object ++ (32 ∷ behind_object) in
    let quad = renamed q in
    node_before begins has_subject q.subject (iri_text q.predicate ++ (32 ∷ behind_predicate)) (quad ∷ []) (λ ws. refl) (λ cs. refl) (λ t. refl) h.subject
    (iri_before (has_subject s) (λ m. has_predicate s m) (has_predicate s q.predicate) q.predicate behind_predicate (quad ∷ []) (λ ws. refl) refl h.predicate
    (object_before s q.predicate q.object behind_object (quad ∷ []) h.object (graph_last s q.predicate o q.graph h.graph)))

regrouped : (a b c g : List ℕ) → spaced a ++ spaced b ++ spaced c ++ g ++ codes ".\n" ≡ (a ++ (32 ∷ (b ++ (32 ∷ (c ++ (32 ∷ (g ++ codes "."))))))) ++ 10 ∷ []
regrouped a b c g = simp append_assoc

line_body : (q : Parts) → line q ≡ body q ++ 10 ∷ []
line_body q = regrouped (term_text q.subject) (iri_text q.predicate) (term_text q.object) (graph_text q.graph)

-- lines after lines that have ended
lines_end : (quads : List Parts) (done : List ℕ) (given : List Parts) → HasEnded done given → All AreWellFormed quads → HasEnded (done ++ flat_map line quads) (given ++ map renamed quads)
lines_end [] done given h w = subst (λ z. HasEnded z (given ++ [])) (sym (append-nil done)) (subst (λ z. HasEnded done z) (sym (append-nil given)) h)
lines_end (q ∷ qs) done given h w =
    let one = ends_more done (body q) 10 given (renamed q ∷ []) refl h (body_left q (w 0 q (omega arith))) in
    let k = lines_end qs (done ++ line q) (given ++ renamed q ∷ []) (subst (λ z. HasEnded (done ++ z) (given ++ renamed q ∷ [])) (sym (line_body q)) one) (All-tail AreWellFormed q qs w) in
    subst (λ z. HasEnded z (given ++ map renamed (q ∷ qs))) (append_assoc done (line q) (flat_map line qs))
    (subst (λ z. HasEnded ((done ++ line q) ++ flat_map line qs) z) (append_assoc given (renamed q ∷ []) (map renamed qs)) k)

pub lines-read_back : LinesReadBack
lines-read_back quads w =
    let none : HasEnded [] [] = record { lines = []; spelled = refl; whole = refl; quads_are = refl } in
    let all = lines_end quads [] [] none w in
    let k = quads_of_last (flat_map line quads) [] (map renamed quads) [] all (record { row = []; text_is = refl; whole = refl; says = refl }) in
    subst (λ z. QuadsOf z (map renamed quads)) (append-nil (flat_map line quads)) (subst (λ z. QuadsOf (flat_map line quads ++ []) z) (append-nil (map renamed quads)) k)
