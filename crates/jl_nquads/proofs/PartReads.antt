-- The parts of a statement as they are read, one behind the other.
use Rattle.std.proofs.Common.{◌≡◌, ℕ, ◌+◌, ◌-◌, ◌≤◌, ◌↔◌, Bool, true, false, List, [], ◌∷◌, length, drop, Option, Some, None, Result, Ok, Err, IsSome, IfSome, IsTrue, IsFalse, refl, sym, ap, ◌∙◌, subst, arith}
use Rattle.std.proofs.lemmas.Bool.{false≢true}
use Rattle.std.proofs.lemmas.List.{drop-drop, length-drop}
use Rattle.jl_model.specs.Iris.{IsIri}
use Rattle.jl_model.specs.Parts.{Parts, IsLanguage, IsObject, AreWellFormed, parts_of, rdf_lang_string, xsd_string}
use Rattle.jl_model.specs.LineTokens.{meaning}
use Rattle.jl_model.specs.declared.terms.Term.{Term}
use Rattle.jl_nquads.specs.LinesRead.{IsInLine, ReadsFrom, halt_at, begins_with, BlanksSkipped, IsFramed, FramedRead, IsName, NameRead, IsTagRead, CommentRead, has_carets}
use Rattle.jl_nquads.specs.Nexts.{next_of, allows}
use Rattle.jl_nquads.specs.PartsRead.{IsApart, WantedRead, PredicateRead, IsObjectRead, ObjectRead, IsSuffix, IsPlain, IsClose, EndRead}
use Rattle.jl_nquads.specs.Spots.{Spot, begins, has_subject, has_predicate, has_string, has_carets as carets_at, has_object, has_graph, has_dot, literal_of, says_at}
use Rattle.jl_nquads.specs.declared.framed.Frame.TheVariants.{Angles, Quotes}
use Rattle.jl_nquads.specs.declared.framed_tokens.FramedToken.{FramedToken}
use Rattle.jl_nquads.specs.declared.halts.LineHalt.{LineHalt}
use Rattle.jl_nquads.specs.declared.names.TermToken.{TermToken}
use Rattle.jl_nquads.specs.declared.nexts.Next.TheVariants.{Carets, Tag, Str, Dot}
use Rattle.jl_nquads.specs.declared.objects.Suffix.{Suffix}
use Rattle.jl_nquads.proofs.NameReads.{iri_halts, is_iri, meaning_utf8}
use Rattle.jl_nquads.proofs.NextBytes.{begins_some, next_dot, no_object}
use Rattle.jl_nquads.proofs.ReadSteps.{stop_reads}
use Rattle.jl_nquads.proofs.SpotReads.{subject_leads, object_leads, graph_leads, iri_on, string_on, dot_on, carets_on, plain_reads, node_object, string_iri, lang_iri}

pub stops_now : (s : Spot) (text : List ℕ) (halt : LineHalt) → IsFalse (allows s (next_of text)) → (text ≡ [] → says_at s ≡ None) → halt ≡ halt_at text → ReadsFrom s text (Err halt)
stops_now s text halt n e h = subst (λ z. ReadsFrom s text (Err z)) (sym h) (stop_reads s text n e)

-- ---- names and predicates

pub wanted : (dotted : Bool) (text : List ℕ) (r : Result TermToken LineHalt) → NameRead dotted text r → WantedRead dotted text r
wanted dotted text (Ok name) h = h
wanted dotted text (Err halt) h = λ s to lead w. h s to lead

pub predicate_read : (text : List ℕ) (r : Result FramedToken LineHalt) → FramedRead Angles text r → PredicateRead text r
predicate_read text (Ok iri) h = h
predicate_read text (Err halt) h = λ s. iri_halts text halt h (has_subject s) (λ ws. (has_predicate s (meaning ws), refl))

-- ---- objects

pub named_object : (text : List ℕ) (r : Result TermToken LineHalt) → IsApart text → (next_of text ≡ Str → ⊥) → WantedRead true text r → ObjectRead text r
named_object text (Ok name) a n h = record { within = h.within; object = node_object name.term h.node; continues = λ s p answer k. h.continues (has_predicate s p) (has_object s p) (object_leads s p) answer k }
named_object text (Err halt) a n h = λ s p. h (has_predicate s p) (has_object s p) (object_leads s p) (record { others = λ i l. no_object s p (next_of text) a i l n; goes_on = λ e. refl })

behind : (s : Spot) (n k : ℕ) (text rest : List ℕ) (answer : Result (Option Parts) LineHalt) → rest ≡ drop n text → ReadsFrom s (drop (n + k) text) answer → ReadsFrom s (drop k rest) answer
behind s n k text rest answer e h = subst (λ z. ReadsFrom s (drop k z) answer) (sym e) (subst (λ z. ReadsFrom s z answer) (sym (drop-drop k n text)) h)

pub literal_read : (text rest m d : List ℕ) (l : Option (List ℕ)) (n k : ℕ) (term : Term) → IsInLine text → IsFramed Quotes text m n → rest ≡ drop n text → IsSuffix rest d l k → term ≡ literal_of m d l → IsObjectRead text term (n + k)
literal_read text rest m d l n k term il f r u e = record {
  within = omega (arith, f.within, u.within, ap length r, length-drop n text);
  object = subst IsObject (sym e) (record { text = meaning_utf8 Quotes text m n f; datatype = u.iri; language = u.tag });
  continues = λ s p answer h. string_on (has_predicate s p) (has_string s p) text rest m n answer il (λ ws. refl) f r (u.continues s p m answer (behind (has_object s p (literal_of m d l)) n k text rest answer r (subst (λ z. ReadsFrom (has_object s p z) (drop (n + k) text) answer) e h)));
}

pub tag_suffix : (text tag d : List ℕ) (len : ℕ) → IsTagRead text tag len → d ≡ rdf_lang_string → IsSuffix text d (Some tag) len
tag_suffix text tag d len k e = record {
  within = k.within;
  iri = subst IsIri (sym e) lang_iri;
  tag = (k.is_tag, e);
  continues = λ s p t answer h. k.continues (has_string s p t) (has_object s p (literal_of t rdf_lang_string (Some tag))) refl answer (subst (λ z. ReadsFrom (has_object s p (literal_of t z (Some tag))) (drop len text) answer) e h);
}

pub plain_suffix : (text : List ℕ) (u : Suffix) → IsPlain u → (next_of text ≡ Carets → ⊥) → (next_of text ≡ Tag → ⊥) → IsSuffix text u.datatype u.language u.len
plain_suffix text u k a b = record {
  within = omega (arith, k.len_is);
  iri = subst IsIri (sym k.datatype_is) string_iri;
  tag = subst (λ l. IsLanguage u.datatype l) (sym k.language_is) tt;
  continues = λ s p t answer h. plain_reads s p t text answer a b
      (subst (λ z. ReadsFrom (has_object s p (literal_of t xsd_string None)) (drop z text) answer) k.len_is
      (subst (λ z. ReadsFrom (has_object s p (literal_of t xsd_string z)) (drop u.len text) answer) k.language_is
      (subst (λ z. ReadsFrom (has_object s p (literal_of t z u.language)) (drop u.len text) answer) k.datatype_is h)));
}

two_carets : (text : List ℕ) → IsTrue (begins_with text 94) → has_carets text ≡ true → 2 ≤ length text
two_carets [] b n = absurd (false≢true b)
two_carets (d ∷ []) b n = absurd (false≢true n)
two_carets (d ∷ c ∷ x) b n = omega arith

pub typed_suffix : (text rest m : List ℕ) (len : ℕ) → IsTrue (begins_with text 94) → has_carets text ≡ true → rest ≡ drop 2 text → IsFramed Angles rest m len → IsSuffix text m None (len + 2)
typed_suffix text rest m len b n e f = record {
  within = omega (arith, f.within, two_carets text b n, ap length e, length-drop 2 text);
  iri = is_iri rest m len f;
  tag = tt;
  continues = λ s p t answer h. carets_on (has_string s p t) (carets_at s p t) text rest answer refl b n e
      (iri_on (carets_at s p t) (λ d. has_object s p (literal_of t d None)) rest (drop len rest) m len answer (λ ws. refl) f refl
      (behind (has_object s p (literal_of t m None)) 2 len text rest answer e (subst (λ z. ReadsFrom (has_object s p (literal_of t m None)) (drop z text) answer) (let z : len + 2 ≡ 2 + len = omega arith in z) h)));
}

-- ---- what stands behind the object

pub dot_close : (text : List ℕ) → Dot ≡ next_of text → IsClose text None 1
dot_close text d = record {
  within = begins_some text 46 (next_dot text d);
  named = tt;
  continues = λ s p o answer h. dot_on (has_object s p o) (parts_of s p o None) text (drop 1 text) answer refl (next_dot text d) refl h;
}

pub graph_close : (text after rest : List ℕ) (term : Term) (len : ℕ) → IsName true text term len → after ≡ drop len text → BlanksSkipped after rest → Dot ≡ next_of rest → IsClose text (Some term) (length text - length rest + 1)
graph_close text after rest term len k e b d =
    let size : length rest + (len + b.blanks) ≡ length text = omega (arith, k.within, b.within, ap length b.rest_is, length-drop b.blanks after, ap length e, length-drop len text) in
    let some = begins_some rest 46 (next_dot rest d) in
    let whole : rest ≡ drop (len + b.blanks) text = b.rest_is ∙ ap (drop b.blanks) e ∙ drop-drop b.blanks len text in
    record {
      within = omega (arith, some, size);
      named = k.node;
      continues = λ s p o answer h. k.continues (has_object s p o) (has_graph s p o) (graph_leads s p o) answer
          (subst (λ z. ReadsFrom (has_graph s p o term) z answer) e
          (b.continues (has_graph s p o term) (λ c. refl) answer
          (dot_on (has_graph s p o term) (parts_of s p o (Some term)) rest (drop 1 rest) answer refl (next_dot rest d) refl
          (behind (has_dot (parts_of s p o (Some term))) (len + b.blanks) 1 text rest answer whole
          (subst (λ z. ReadsFrom (has_dot (parts_of s p o (Some term))) (drop z text) answer) (let z : length text - length rest + 1 ≡ len + b.blanks + 1 = omega (arith, size) in z) h)))));
    }

pub comment_end : (text rest : List ℕ) (r : Result (Unit {0}) LineHalt) → BlanksSkipped text rest → CommentRead rest r → EndRead text r
comment_end text rest (Ok u) k h = λ q. k.continues (has_dot q) (λ b. refl) (Ok (Some q)) (h (has_dot q) (q ∷ []) (λ cs. refl))
comment_end text rest (Err halt) k h = λ q. k.continues (has_dot q) (λ b. refl) (Err halt) (h (has_dot q) (q ∷ []) (λ cs. refl))

-- ---- a statement

pub subject_on : (text after rest : List ℕ) (term : Term) (len : ℕ) (answer : Result (Option Parts) LineHalt) → IsName false text term len → after ≡ drop len text → BlanksSkipped after rest → ReadsFrom (has_subject term) rest answer → ReadsFrom begins text answer
subject_on text after rest term len answer n e k h = n.continues begins has_subject subject_leads answer (subst (λ z. ReadsFrom (has_subject term) z answer) e (k.continues (has_subject term) (λ b. refl) answer h))

pub predicate_on : (s : Term) (text after rest m : List ℕ) (len : ℕ) (answer : Result (Option Parts) LineHalt) → IsFramed Angles text m len → after ≡ drop len text → BlanksSkipped after rest → ReadsFrom (has_predicate s m) rest answer → ReadsFrom (has_subject s) text answer
predicate_on s text after rest m len answer f e k h = iri_on (has_subject s) (has_predicate s) text after m len answer (λ ws. refl) f e (k.continues (has_predicate s m) (λ b. refl) answer h)

pub object_on : (s : Term) (p text after rest : List ℕ) (term : Term) (len : ℕ) (answer : Result (Option Parts) LineHalt) → IsObjectRead text term len → after ≡ drop len text → BlanksSkipped after rest → ReadsFrom (has_object s p term) rest answer → ReadsFrom (has_predicate s p) text answer
object_on s p text after rest term len answer o e k h = o.continues s p answer (subst (λ z. ReadsFrom (has_object s p term) z answer) e (k.continues (has_object s p term) (λ b. refl) answer h))

pub close_on : (s : Term) (p : List ℕ) (o : Term) (text after : List ℕ) (graph : Option Term) (len : ℕ) (answer : Result (Option Parts) LineHalt) → IsClose text graph len → after ≡ drop len text → ReadsFrom (has_dot (parts_of s p o graph)) after answer → ReadsFrom (has_object s p o) text answer
close_on s p o text after graph len answer k e h = k.continues s p o answer (subst (λ z. ReadsFrom (has_dot (parts_of s p o graph)) z answer) e h)

pub some_quad : (r : Option Parts) (q : Parts) → (IsSome r ↔ AreWellFormed q) → IfSome r (λ x. x ≡ q) → AreWellFormed q → r ≡ Some q
some_quad None q f e w = absurd (false≢true (f.1 w))
some_quad (Some x) q f e w = ap Some e
