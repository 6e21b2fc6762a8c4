-- What is read of a line behind a token, and before it.
use Rattle.std.proofs.Common.{◌≡◌, ℕ, ◌+◌, ◌-◌, Bool, true, false, ◌||◌, ◌==◌, List, [], ◌∷◌, ◌++◌, length, Option, Some, None, Result, Ok, Err, IsTrue, IsFalse, refl, subst, arith, length-append}
use Rattle.std.specs.Option.{option_to_list}
use Rattle.jl_model.specs.Parts.{Parts}
use Rattle.jl_model.specs.LineTokens.{LineToken, token_bytes, is_token, ends_before, is_line_end}
use Rattle.jl_model.specs.LineTokens as tokens
use Rattle.jl_nquads.specs.LinesRead.{BreaksBy, ReadsFrom, halt_at}
use Rattle.jl_nquads.specs.Nexts.{next_of, allows}
use Rattle.jl_nquads.specs.Spots.{Spot, leads_to, says_at, Breaks}
use Rattle.jl_nquads.specs.declared.halts.BadPlace.{BadPlace}
use Rattle.jl_nquads.specs.declared.halts.LineHalt.{LineHalt}
use Rattle.jl_nquads.specs.declared.halts.LineHalt.TheVariants.{Bad, NoMemory}
use Rattle.jl_nquads.proofs.PlainTokens.{blank_joins, dot_joins, carets_joins}
use Rattle.jl_nquads.proofs.SpotSteps.{Joins, left_before, inside_before, at_end_before}
use Rattle.jl_nquads.proofs.Stops.{stuck_inside, stuck_at_end}

-- the token leads on from s to r, whatever of the rest stands behind it
pub record JoinsAll (s r : Spot) (t : LineToken) (rest : List ℕ) : Type 0 where
  pub leads : leads_to s t ≡ Some r
  pub token : IsTrue (is_token t)
  pub apart : IsTrue (ends_before t rest)
  pub at_end : (e : ℕ) → IsTrue (is_line_end e) → Joins s r t (rest ++ e ∷ [])
  pub inside : (p : List ℕ) (c : ℕ) (y : List ℕ) (place : ℕ) → rest ≡ p ++ c ∷ y → Breaks r p c place → Joins s r t (p ++ c ∷ [])

module _ (s r : Spot) (t : LineToken) (rest : List ℕ) (j : JoinsAll s r t rest) where
  bad_before : (o : Bool) (place : ℕ) → BreaksBy o r rest place → BreaksBy o s (token_bytes t ++ rest) (length (token_bytes t) + place)
  bad_before true place b = at_end_before s r t rest j.at_end place b
  bad_before false place b = inside_before s r t rest place (λ p c y e k. j.inside p c y place e k) b

  -- what is read of the rest is read of the text that the token begins
  pub token_before : (answer : Result (Option Parts) LineHalt) → ReadsFrom r rest answer → ReadsFrom s (token_bytes t ++ rest) answer
  token_before (Ok quad) l = left_before s r t rest (option_to_list quad) j.leads j.token j.apart l
  token_before (Err NoMemory) l = tt
  token_before (Err (Bad place)) l =
      let size : length (token_bytes t) + (length rest - place.left) ≡ length (token_bytes t ++ rest) - place.left = omega (arith, l.within, length-append (token_bytes t) rest) in
      record {
        within = omega (arith, l.within, length-append (token_bytes t) rest);
        breaks = subst (λ n. BreaksBy place.open s (token_bytes t ++ rest) n) size (bad_before place.open (length rest - place.left) l.breaks);
      }

-- a token that joins whatever stands behind it
pub joins_all : (s r : Spot) (t : LineToken) (rest : List ℕ) → leads_to s t ≡ Some r → IsTrue (is_token t) → IsTrue (ends_before t rest) → ((x : List ℕ) → Joins s r t x) → JoinsAll s r t rest
joins_all s r t rest l h a j = record { leads = l; token = h; apart = a; at_end = λ e m. j (rest ++ e ∷ []); inside = λ p c y place e k. j (p ++ c ∷ []) }

pub blank_before : (s r : Spot) (b : ℕ) (rest : List ℕ) → IsTrue (b == 32 || b == 9) → leads_to s (tokens.blank b) ≡ Some r → (answer : Result (Option Parts) LineHalt) → ReadsFrom r rest answer → ReadsFrom s (b ∷ rest) answer
blank_before s r b rest h l = token_before s r (tokens.blank b) rest (joins_all s r (tokens.blank b) rest l h refl (λ x. blank_joins s r b x h l))

pub dot_before : (s r : Spot) (rest : List ℕ) → leads_to s tokens.dot ≡ Some r → (answer : Result (Option Parts) LineHalt) → ReadsFrom r rest answer → ReadsFrom s (46 ∷ rest) answer
dot_before s r rest l = token_before s r tokens.dot rest (joins_all s r tokens.dot rest l refl refl (λ x. dot_joins s r x l))

pub carets_before : (s r : Spot) (rest : List ℕ) → leads_to s tokens.carets ≡ Some r → (answer : Result (Option Parts) LineHalt) → ReadsFrom r rest answer → ReadsFrom s (94 ∷ 94 ∷ rest) answer
carets_before s r rest l = token_before s r tokens.carets rest (joins_all s r tokens.carets rest l refl refl (λ x. carets_joins s r x l))

-- where no token may follow
no_length : (n : ℕ) → 0 ≡ n - n
no_length n = omega arith

-- a text that is bad from its first byte on
pub bad_at_once : (s : Spot) (text : List ℕ) (place : BadPlace) → place.left ≡ length text → BreaksBy place.open s text 0 → ReadsFrom s text (Err (Bad place))
bad_at_once s text place e b = record {
  within = omega (arith, e);
  breaks = subst (λ n. BreaksBy place.open s text n) (let z : 0 ≡ length text - place.left = omega (arith, e) in z) b;
}

pub stop_reads : (s : Spot) (text : List ℕ) → IsFalse (allows s (next_of text)) → (text ≡ [] → says_at s ≡ None) → ReadsFrom s text (Err (halt_at text))
stop_reads s [] n k = bad_at_once s [] (record { left = 0; «open» = true }) refl (stuck_at_end s (k refl))
stop_reads s (c ∷ x) n k = bad_at_once s (c ∷ x) (record { left = length (c ∷ x); «open» = false }) refl (stuck_inside s c x n)
