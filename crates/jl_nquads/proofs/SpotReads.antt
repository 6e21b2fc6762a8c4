-- What is read from each spot on.
use Rattle.std.proofs.Common.{◌≡◌, ℕ, ◌-◌, Bool, true, false, ◌==◌, List, [], ◌∷◌, ◌++◌, length, drop, Option, Some, None, Result, Ok, Err, IsTrue, IsUtf8, append_assoc, refl, sym, ap, ◌∙◌, subst, arith}
use Rattle.std.proofs.lemmas.Bool.{false≢true, eq-eqb, eqb-true, ne_eqb}
use Rattle.std.specs.Option.{option_to_list}
use lib.Utf8.{encode}
use Rattle.jl_model.specs.Iris.{IsIri}
use Rattle.jl_model.specs.Parts.{Parts, parts_of, IsNode, IsObject, rdf_lang_string, xsd_string}
use Rattle.jl_model.specs.Tags.{is_language_tag}
use Rattle.jl_model.specs.LineTokens.{Written, LineToken, token_bytes, is_token, ends_before, is_row, bytes_of, meaning, is_line_end}
use Rattle.jl_model.specs.LineTokens as tokens
use Rattle.jl_model.specs.declared.terms.Term.{Term}
use Rattle.jl_model.specs.declared.terms.Term.TheVariants.{Iri, Blank, Literal}
use Rattle.jl_nquads.specs.LinesRead.{IsInLine, BreaksBy, ReadsFrom, begins_with, LeadsBlank, BlanksSkipped, IsFramed, LeadsName, IsName, has_carets}
use Rattle.jl_nquads.specs.Nexts.{next_of, opened_by}
use Rattle.jl_nquads.specs.Spots.{Spot, begins, has_subject, has_predicate, has_string, has_object, has_graph, has_dot, literal_of, leads_to, goes, said, Left, Breaks, BreaksInside, BreaksAtEnd}
use Rattle.jl_nquads.specs.declared.framed.Frame.TheVariants.{Angles, Quotes}
use Rattle.jl_nquads.specs.declared.halts.BadPlace.{BadPlace}
use Rattle.jl_nquads.specs.declared.halts.LineHalt.{LineHalt}
use Rattle.jl_nquads.specs.declared.halts.LineHalt.TheVariants.{Bad, NoMemory}
use Rattle.jl_nquads.specs.declared.nexts.Next.{Next}
use Rattle.jl_nquads.specs.declared.nexts.Next.TheVariants.{Carets, Tag}
use Rattle.jl_nquads.proofs.FramedReads.{iri_continues, string_continues}
use Rattle.jl_nquads.proofs.NameReads.{is_iri}
use Rattle.jl_nquads.proofs.NextBytes.{begins_is, in_line_drop}
use Rattle.jl_nquads.proofs.PlainTokens.{carets_unfinished, carets_broken}
use Rattle.jl_nquads.proofs.ReadSteps.{dot_before, carets_before, bad_at_once}
use Rattle.jl_nquads.proofs.NoLineEnds.{end_is}
use Rattle.jl_nquads.proofs.SpotRows.{goes_on, goes_where, said_on, said_where, head_is_token, has_byte}
use Rattle.jl_nquads.proofs.Stops.{opening_byte}

-- ---- names

pub subject_leads : LeadsName false begins has_subject
subject_leads = record { iri = λ ws. refl; label = λ cs. refl; dots = λ term. refl }

pub object_leads : (s : Term) (p : List ℕ) → LeadsName true (has_predicate s p) (has_object s p)
object_leads s p = record { iri = λ ws. refl; label = λ cs. refl; dots = λ o. (parts_of s p o None, refl) }

pub graph_leads : (s : Term) (p : List ℕ) (o : Term) → LeadsName true (has_object s p o) (has_graph s p o)
graph_leads s p o = record { iri = λ ws. refl; label = λ cs. refl; dots = λ g. (parts_of s p o (Some g), refl) }

pub name_on : (dotted : Bool) (s : Spot) (to : Term → Spot) (text rest after : List ℕ) (term : Term) (len : ℕ) (answer : Result (Option Parts) LineHalt) → LeadsName dotted s to → LeadsBlank s → BlanksSkipped text rest → IsName dotted rest term len → after ≡ drop len rest → ReadsFrom (to term) after answer → ReadsFrom s text answer
name_on dotted s to text rest after term len answer lead l k n e h = k.continues s l answer (n.continues s to lead answer (subst (λ z. ReadsFrom (to term) z answer) e h))

pub halts_behind : (s : Spot) (text rest : List ℕ) (halt : LineHalt) → LeadsBlank s → BlanksSkipped text rest → ReadsFrom s rest (Err halt) → ReadsFrom s text (Err halt)
halts_behind s text rest halt l k h = k.continues s l (Err halt) h

pub iri_on : (s : Spot) (to : List ℕ → Spot) (text after m : List ℕ) (len : ℕ) (answer : Result (Option Parts) LineHalt) → ((ws : List Written) → leads_to s (tokens.iri ws) ≡ Some (to (meaning ws))) → IsFramed Angles text m len → after ≡ drop len text → ReadsFrom (to m) after answer → ReadsFrom s text answer
iri_on s to text after m len answer lead k e h = iri_continues s to text m len lead k answer (subst (λ z. ReadsFrom (to m) z answer) e h)

pub string_on : (s : Spot) (to : List ℕ → Spot) (text after m : List ℕ) (len : ℕ) (answer : Result (Option Parts) LineHalt) → IsInLine text → ((ws : List Written) → leads_to s (tokens.string ws) ≡ Some (to (meaning ws))) → IsFramed Quotes text m len → after ≡ drop len text → ReadsFrom (to m) after answer → ReadsFrom s text answer
string_on s to text after m len answer il lead k e h = string_continues s to text m len il lead k answer (subst (λ z. ReadsFrom (to m) z answer) e h)

pub dot_on : (s : Spot) (q : Parts) (text after : List ℕ) (answer : Result (Option Parts) LineHalt) → leads_to s tokens.dot ≡ Some (has_dot q) → IsTrue (begins_with text 46) → after ≡ drop 1 text → ReadsFrom (has_dot q) after answer → ReadsFrom s text answer
dot_on s q text after answer lead b e h = subst (λ z. ReadsFrom s z answer) (sym (begins_is text 46 b)) (dot_before s (has_dot q) (drop 1 text) lead answer (subst (λ z. ReadsFrom (has_dot q) z answer) e h))

-- ---- carets

carets_break : (s r : Spot) → leads_to s tokens.carets ≡ Some r → (text : List ℕ) → IsTrue (begins_with text 94) → has_carets text ≡ false → BreaksBy (length text == 1) s text 0
carets_break s r lead [] b n = absurd (false≢true b)
carets_break s r lead (d ∷ []) b n = subst (λ z. BreaksAtEnd s (z ∷ []) 0) (sym (eqb-true d 94 b)) (carets_unfinished s r lead)
carets_break s r lead (d ∷ c ∷ x) b n =
    let far : (length (d ∷ c ∷ x) == 1) ≡ false = ne_eqb (length (d ∷ c ∷ x)) 1 (λ e. omega (arith, e)) in
    subst (λ o. BreaksBy o s (d ∷ c ∷ x) 0) (sym far) (subst (λ z. BreaksInside s (z ∷ c ∷ x) 0) (sym (eqb-true d 94 b)) (carets_broken s r c x lead (λ e. false≢true (sym n ∙ eq-eqb c 94 e))))

pub carets_bad : (s r : Spot) (text : List ℕ) (place : BadPlace) → leads_to s tokens.carets ≡ Some r → IsTrue (begins_with text 94) → has_carets text ≡ false → place.left ≡ length text → place.open ≡ (length text == 1) → ReadsFrom s text (Err (Bad place))
carets_bad s r text place lead b n e o = bad_at_once s text place e (subst (λ z. BreaksBy z s text 0) (sym o) (carets_break s r lead text b n))

pub carets_on : (s r : Spot) (text after : List ℕ) (answer : Result (Option Parts) LineHalt) → leads_to s tokens.carets ≡ Some r → IsTrue (begins_with text 94) → IsTrue (has_carets text) → after ≡ drop 2 text → ReadsFrom r after answer → ReadsFrom s text answer
carets_on s r [] after answer lead b n e h = absurd (false≢true b)
carets_on s r (d ∷ []) after answer lead b n e h = absurd (false≢true n)
carets_on s r (d ∷ c ∷ x) after answer lead b n e h =
    subst (λ z. ReadsFrom s (z ∷ c ∷ x) answer) (sym (eqb-true d 94 b)) (subst (λ z. ReadsFrom s (94 ∷ z ∷ x) answer) (sym (eqb-true c 94 n)) (carets_before s r x lead answer (subst (λ z. ReadsFrom r z answer) e h)))

-- ---- a string that nothing is joined to

module _ (s : Term) (p t : List ℕ) where
  plain_leads : (u : LineToken) (r : Spot) → leads_to (has_object s p (literal_of t xsd_string None)) u ≡ Some r → leads_to (has_string s p t) u ≡ Some r
  plain_leads (tokens.blank b) r e = e
  plain_leads (tokens.iri b) r e = e
  plain_leads (tokens.label b) r e = e
  plain_leads tokens.dot r e = e
  plain_leads (tokens.string b) r e = absurd (let z : ⊥ = cc in z)
  plain_leads tokens.carets r e = absurd (let z : ⊥ = cc in z)
  plain_leads (tokens.tag b) r e = absurd (let z : ⊥ = cc in z)
  plain_leads (tokens.comment b) r e = absurd (let z : ⊥ = cc in z)
  plain_leads (tokens.line_end b) r e = absurd (let z : ⊥ = cc in z)

  abbrev Apart : Next → Type 0
  Apart n = (n ≡ Carets → ⊥) × (n ≡ Tag → ⊥)

  back_leads : (u : LineToken) (r : Spot) (c : ℕ) (x y : List ℕ) → IsTrue (is_token u) → c ∷ x ≡ token_bytes u ++ y → Apart (opened_by c) → leads_to (has_string s p t) u ≡ Some r → leads_to (has_object s p (literal_of t xsd_string None)) u ≡ Some r
  back_leads (tokens.blank b) r c x y h i n e = e
  back_leads (tokens.iri b) r c x y h i n e = e
  back_leads (tokens.label b) r c x y h i n e = e
  back_leads tokens.dot r c x y h i n e = e
  back_leads (tokens.string b) r c x y h i n e = absurd (let z : ⊥ = cc in z)
  back_leads tokens.carets r c x y h i n e = absurd (n.0 (opening_byte tokens.carets c x y h i))
  back_leads (tokens.tag b) r c x y h i n e = absurd (n.1 (opening_byte (tokens.tag b) c x y h i))
  back_leads (tokens.comment b) r c x y h i n e = absurd (let z : ⊥ = cc in z)
  back_leads (tokens.line_end b) r c x y h i n e = absurd (let z : ⊥ = cc in z)

  plain_goes : (row : List LineToken) → IsTrue (goes (has_object s p (literal_of t xsd_string None)) row) → IsTrue (goes (has_string s p t) row)
  plain_goes [] g = refl
  plain_goes (u ∷ us) g = let (r, l, k) = goes_where (has_object s p (literal_of t xsd_string None)) u us g in goes_on (has_string s p t) r u us (plain_leads u r l) ∙ k

  back_goes : (row : List LineToken) (c : ℕ) (x rest : List ℕ) → IsTrue (is_row row rest) → c ∷ x ≡ bytes_of row ++ rest → Apart (opened_by c) → IsTrue (goes (has_string s p t) row) → IsTrue (goes (has_object s p (literal_of t xsd_string None)) row)
  back_goes [] c x rest w e n g = refl
  back_goes (u ∷ us) c x rest w e n g =
      let (r, l, k) = goes_where (has_string s p t) u us g in
      goes_on (has_object s p (literal_of t xsd_string None)) r u us (back_leads u r c x (bytes_of us ++ rest) (head_is_token u us rest w) (e ∙ append_assoc (token_bytes u) (bytes_of us) rest) n l) ∙ k

  plain_said : (row : List LineToken) (q : List Parts) → said (has_object s p (literal_of t xsd_string None)) row ≡ Some q → said (has_string s p t) row ≡ Some q
  plain_said [] q e = e
  plain_said (u ∷ us) q e = let (r, l, k) = said_where (has_object s p (literal_of t xsd_string None)) u us q e in said_on (has_string s p t) r u us (plain_leads u r l) ∙ k

  plain_breaks : (front : List ℕ) (byte place : ℕ) (c : ℕ) (x : List ℕ) → front ++ byte ∷ [] ≡ c ∷ x → Apart (opened_by c) → Breaks (has_object s p (literal_of t xsd_string None)) front byte place → Breaks (has_string s p t) front byte place
  plain_breaks front byte place c x e n b = record {
    begins = record { more = b.begins.more; row = b.begins.row; text_is = b.begins.text_is; whole = b.begins.whole; fits = plain_goes b.begins.row b.begins.fits };
    stands = record { row = b.stands.row; rest = b.stands.rest; text_is = b.stands.text_is; whole = b.stands.whole; fits = plain_goes b.stands.row b.stands.fits; place_is = b.stands.place_is };
    reaches = λ behind rest row w g i. b.reaches behind rest row w (back_goes row c (x ++ behind) rest w (ap (λ z. z ++ behind) (sym e) ∙ i) n g) i;
    within = b.within;
  }

  end_apart : (e : ℕ) → IsTrue (is_line_end e) → Apart (opened_by e)
  end_apart e l = end_is (λ z. Apart (opened_by z)) e l ((λ h. let z : ⊥ = cc in z), (λ h. let z : ⊥ = cc in z)) ((λ h. let z : ⊥ = cc in z), (λ h. let z : ⊥ = cc in z))

  by_place : (o : Bool) (text : List ℕ) (place : ℕ) → Apart (next_of text) → BreaksBy o (has_object s p (literal_of t xsd_string None)) text place → BreaksBy o (has_string s p t) text place
  by_place false text place n b = record { front = b.front; byte = b.byte; back = b.back; text_is = b.text_is; breaks = first b.front b.byte b.back b.text_is b.breaks }
    where
      first : (front : List ℕ) (byte : ℕ) (back : List ℕ) → text ≡ front ++ byte ∷ back → Breaks (has_object s p (literal_of t xsd_string None)) front byte place → Breaks (has_string s p t) front byte place
      first [] byte back e k = plain_breaks [] byte place byte [] refl (subst (λ z. Apart (next_of z)) e n) k
      first (c ∷ front) byte back e k = plain_breaks (c ∷ front) byte place c (front ++ byte ∷ []) refl (subst (λ z. Apart (next_of z)) e n) k
  by_place true text place n b = record { breaks = λ e l. at_end text n e l (b.breaks e l); unfinished = λ q l. b.unfinished q (back text n q l) }
    where
      at_end : (text : List ℕ) → Apart (next_of text) → (e : ℕ) → IsTrue (is_line_end e) → Breaks (has_object s p (literal_of t xsd_string None)) text e place → Breaks (has_string s p t) text e place
      at_end [] n e l k = plain_breaks [] e place e [] refl (end_apart e l) k
      at_end (c ∷ text) n e l k = plain_breaks (c ∷ text) e place c (text ++ e ∷ []) refl n k

      back : (text : List ℕ) → Apart (next_of text) → (q : List Parts) → Left (has_string s p t) text q → Left (has_object s p (literal_of t xsd_string None)) text q
      back text n q l = record { row = l.row; text_is = l.text_is; whole = l.whole; says = says text n l.row l.text_is l.whole l.says }
        where
          says : (text : List ℕ) → Apart (next_of text) → (row : List LineToken) → text ≡ bytes_of row → IsTrue (is_row row []) → said (has_string s p t) row ≡ Some q → said (has_object s p (literal_of t xsd_string None)) row ≡ Some q
          says text n [] e w h = h
          says [] n (u ∷ us) e w h = absurd (too_long u us e)
            where
              too_long : (u : LineToken) (us : List LineToken) → [] ≡ bytes_of (u ∷ us) → ⊥
              too_long u us e = let (b, bs, i) = has_byte u in let f : [] ≡ b ∷ (bs ++ bytes_of us) = e ∙ ap (λ z. z ++ bytes_of us) i in let z : ⊥ = cc in z
          says (c ∷ x) n (u ∷ us) e w h =
              let (r, l, k) = said_where (has_string s p t) u us q h in
              said_on (has_object s p (literal_of t xsd_string None)) r u us (back_leads u r c x (bytes_of us) (head_is_token u us [] w) e n l) ∙ k

  pub plain_reads : (text : List ℕ) (answer : Result (Option Parts) LineHalt) → (next_of text ≡ Carets → ⊥) → (next_of text ≡ Tag → ⊥) → ReadsFrom (has_object s p (literal_of t xsd_string None)) text answer → ReadsFrom (has_string s p t) text answer
  plain_reads text (Ok quad) a b h = record { row = h.row; text_is = h.text_is; whole = h.whole; says = plain_said h.row (option_to_list quad) h.says }
  plain_reads text (Err NoMemory) a b h = tt
  plain_reads text (Err (Bad place)) a b h = record { within = h.within; breaks = by_place place.open text (length text - place.left) (a, b) h.breaks }

-- ---- well-formed parts

pub node_object : (term : Term) → IsNode term → IsObject term
node_object (Iri iri) h = h
node_object (Blank label) h = h
node_object (Literal lit) h = absurd h

-- a literal's parts
pub typed_object : (t text m : List ℕ) (len : ℕ) (object : Term) → IsUtf8 t → IsFramed Angles text m len → object ≡ literal_of t m None → IsObject object
typed_object t text m len object u k e = subst IsObject (sym e) (record { text = u; datatype = is_iri text m len k; language = tt })

pub string_iri : IsIri xsd_string
unfolding encode
string_iri = record { utf8 = (xsd_string, (refl, refl)); form = refl }

pub lang_iri : IsIri rdf_lang_string
unfolding encode
lang_iri = record { utf8 = (rdf_lang_string, (refl, refl)); form = refl }

pub plain_object : (t d : List ℕ) (object : Term) → IsUtf8 t → d ≡ xsd_string → object ≡ literal_of t d None → IsObject object
plain_object t d object u f e = subst IsObject (sym e) (record { text = u; datatype = subst IsIri (sym f) string_iri; language = tt })

pub tagged_object : (t d tag : List ℕ) (object : Term) → IsUtf8 t → d ≡ rdf_lang_string → IsTrue (is_language_tag tag) → object ≡ literal_of t d (Some tag) → IsObject object
tagged_object t d tag object u f l e = subst IsObject (sym e) (record { text = u; datatype = subst IsIri (sym f) lang_iri; language = (l, f) })

pub in_line_on : (text after : List ℕ) (n : ℕ) → IsInLine text → after ≡ drop n text → IsInLine after
in_line_on text after n h e = subst IsInLine (sym e) (in_line_drop n text h)
