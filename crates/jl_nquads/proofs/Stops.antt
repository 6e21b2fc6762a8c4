-- Where no token may follow.
use Rattle.std.proofs.Common.{◌≡◌, ℕ, inl, inr, false, ◌==◌, List, [], ◌∷◌, ◌++◌, length, Some, None, IsTrue, IsFalse, append_assoc, refl, sym, ap, ◌∙◌, arith}
use Rattle.std.proofs.lemmas.Bool.{or_cases, false≢true, eqb-true}
use Rattle.jl_model.specs.Parts.{Parts}
use Rattle.jl_model.specs.LineTokens.{LineToken, token_bytes, is_token, ends_before, is_row, bytes_of, is_line_end, is_label}
use Rattle.jl_model.specs.LineTokens as tokens
use Rattle.jl_nquads.specs.Nexts.{opened_by, opening, allows}
use Rattle.jl_nquads.specs.declared.nexts.Next.{Next}
use Rattle.jl_nquads.specs.declared.nexts.Next.TheVariants.{Iri, Label, Str, Carets, Tag, Dot, Comment, Other}
use Rattle.jl_nquads.specs.Spots.{Spot, begins, has_subject, has_predicate, has_string, has_carets, has_object, has_graph, has_dot, has_comment, leads_to, goes, said, says_at, Breaks, BreaksInside, BreaksAtEnd}
use Rattle.jl_nquads.proofs.NoLineEnds.{end_is}
use Rattle.jl_nquads.proofs.SpotRows.{head_is_token, goes_where}

-- the first byte of a token opens it
opened : (b c : ℕ) (n : Next) → c ≡ b → opened_by b ≡ n → opened_by c ≡ n
opened b c n e h = ap opened_by e ∙ h

pub opening_byte : (t : LineToken) (c : ℕ) (x y : List ℕ) → IsTrue (is_token t) → c ∷ x ≡ token_bytes t ++ y → opened_by c ≡ opening t
opening_byte (tokens.iri w) c x y h e = opened 60 c Iri (cc) refl
opening_byte (tokens.label l) c x y h e = opened 95 c Label (cc) refl
opening_byte (tokens.string w) c x y h e = opened 34 c Str (cc) refl
opening_byte tokens.carets c x y h e = opened 94 c Carets (cc) refl
opening_byte (tokens.tag l) c x y h e = opened 64 c Tag (cc) refl
opening_byte tokens.dot c x y h e = opened 46 c Dot (cc) refl
opening_byte (tokens.comment l) c x y h e = opened 35 c Comment (cc) refl
opening_byte (tokens.line_end b) c x y h e = let k : c ≡ b = cc in ap opened_by k ∙ end_is (λ z. opened_by z ≡ Other) b h refl refl
opening_byte (tokens.blank b) c x y h e =
    let k : c ≡ b = cc in ap opened_by k ∙ elim (or_cases (b == 32) (b == 9) h) [ inl f ↦ ap opened_by (eqb-true b 32 f) | inr f ↦ ap opened_by (eqb-true b 9 f) ]

-- a token that may follow is allowed by its first byte
pub allowed : (s : Spot) (t : LineToken) (r : Spot) → leads_to s t ≡ Some r → IsTrue (allows s (opening t))
allowed begins (tokens.blank b) r h = refl
allowed begins (tokens.iri b) r h = refl
allowed begins (tokens.label b) r h = refl
allowed begins (tokens.comment b) r h = refl
allowed (has_subject s) (tokens.blank b) r h = refl
allowed (has_subject s) (tokens.iri b) r h = refl
allowed (has_predicate s p) (tokens.blank b) r h = refl
allowed (has_predicate s p) (tokens.iri b) r h = refl
allowed (has_predicate s p) (tokens.label b) r h = refl
allowed (has_predicate s p) (tokens.string b) r h = refl
allowed (has_string s p t) (tokens.blank b) r h = refl
allowed (has_string s p t) (tokens.iri b) r h = refl
allowed (has_string s p t) (tokens.label b) r h = refl
allowed (has_string s p t) tokens.carets r h = refl
allowed (has_string s p t) (tokens.tag b) r h = refl
allowed (has_string s p t) tokens.dot r h = refl
allowed (has_carets s p t) (tokens.iri b) r h = refl
allowed (has_object s p o) (tokens.blank b) r h = refl
allowed (has_object s p o) (tokens.iri b) r h = refl
allowed (has_object s p o) (tokens.label b) r h = refl
allowed (has_object s p o) tokens.dot r h = refl
allowed (has_graph s p o g) (tokens.blank b) r h = refl
allowed (has_graph s p o g) tokens.dot r h = refl
allowed (has_dot q) (tokens.blank b) r h = refl
allowed (has_dot q) (tokens.comment b) r h = refl
allowed s t r h = absurd (let z : ⊥ = cc in z)

-- no row goes on with a byte that opens no token which may follow
pub none_follows : (s : Spot) (c : ℕ) (x rest : List ℕ) (row : List LineToken) → IsFalse (allows s (opened_by c)) → IsTrue (is_row row rest) → IsTrue (goes s row) → c ∷ x ≡ bytes_of row ++ rest → row ≡ []
none_follows s c x rest [] n w g e = refl
none_follows s c x rest (t ∷ ts) n w g e =
    let (r, l, k) = goes_where s t ts g in
    let o = opening_byte t c x (bytes_of ts ++ rest) (head_is_token t ts rest w) (e ∙ append_assoc (token_bytes t) (bytes_of ts) rest) in
    absurd (false≢true (sym n ∙ ap (allows s) o ∙ allowed s t r l))

pub stuck : (s : Spot) (c : ℕ) → IsFalse (allows s (opened_by c)) → Breaks s [] c 0
stuck s c n = record {
  begins = record { more = []; row = []; text_is = refl; whole = refl; fits = refl };
  stands = record { row = []; rest = c ∷ []; text_is = refl; whole = refl; fits = refl; place_is = refl };
  reaches = λ behind rest row w g e. let k = none_follows s c behind rest row n w g e in omega (arith, ap (λ z. length (bytes_of z)) k);
  within = omega arith;
}

pub stuck_inside : (s : Spot) (c : ℕ) (x : List ℕ) → IsFalse (allows s (opened_by c)) → BreaksInside s (c ∷ x) 0
stuck_inside s c x n = record { front = []; byte = c; back = x; text_is = refl; breaks = stuck s c n }

pub other_stops : (s : Spot) → allows s Other ≡ false
other_stops begins = refl
other_stops (has_subject s) = refl
other_stops (has_predicate s p) = refl
other_stops (has_string s p t) = refl
other_stops (has_carets s p t) = refl
other_stops (has_object s p o) = refl
other_stops (has_graph s p o g) = refl
other_stops (has_dot q) = refl
other_stops (has_comment q) = refl

pub end_stops : (s : Spot) (e : ℕ) → IsTrue (is_line_end e) → IsFalse (allows s (opened_by e))
end_stops s e l = end_is (λ z. IsFalse (allows s (opened_by z))) e l (other_stops s) (other_stops s)

-- a line ends too early
pub stuck_at_end : (s : Spot) → says_at s ≡ None → BreaksAtEnd s [] 0
stuck_at_end s n = record { breaks = λ e l. stuck s e (end_stops s e l); unfinished = λ q l. none q l.row l.text_is l.whole l.says }
  where
    none : (q : List Parts) (row : List LineToken) → [] ≡ bytes_of row → IsTrue (is_row row []) → said s row ≡ Some q → ⊥
    none q [] e w h = let z : ⊥ = cc in z
    none q (t ∷ ts) e w h = too_long t e
      where
        too_long : (t : LineToken) → [] ≡ bytes_of (t ∷ ts) → ⊥
        too_long (tokens.iri w) e = let z : ⊥ = cc in z
        too_long (tokens.label w) e = let z : ⊥ = cc in z
        too_long (tokens.string w) e = let z : ⊥ = cc in z
        too_long tokens.carets e = let z : ⊥ = cc in z
        too_long (tokens.tag w) e = let z : ⊥ = cc in z
        too_long tokens.dot e = let z : ⊥ = cc in z
        too_long (tokens.comment w) e = let z : ⊥ = cc in z
        too_long (tokens.line_end w) e = let z : ⊥ = cc in z
        too_long (tokens.blank w) e = let z : ⊥ = cc in z
