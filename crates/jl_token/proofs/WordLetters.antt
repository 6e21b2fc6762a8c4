-- The letters of a word that were read, and those to come.
use Rattle.std.proofs.Common.{lit≤, ◌≡◌, ℕ, ◌≤◌, inl, inr, List, [], ◌∷◌, ◌++◌, length, refl, ap, arith, Option, Some, None}
use Rattle.jl_model.specs.TextFaults.{IsWord}
use Rattle.jl_token.specs.declared.words.InWord.{InWord}
use Rattle.jl_token.specs.declared.words.InWord.TheVariants as letters
use Rattle.jl_token.specs.NumberMachine.{letters_read, next_letter, later_letters, word_next}
use Rattle.jl_token.proofs.Heads.{head_is}

-- the letters after the next one
abbrev pub WordReads : InWord → Option InWord → Type 0
WordReads place None = IsWord (letters_read place ++ next_letter place ∷ [])
WordReads place (Some w) = letters_read w ≡ letters_read place ++ next_letter place ∷ []

pub word_reads : (place : InWord) → WordReads place (word_next place)
word_reads letters.N = refl
word_reads letters.Nu = refl
word_reads letters.Nul = inl refl
word_reads letters.T = refl
word_reads letters.Tr = refl
word_reads letters.Tru = inr (inl refl)
word_reads letters.F = refl
word_reads letters.Fa = refl
word_reads letters.Fal = refl
word_reads letters.Fals = inr (inr refl)

pub word_full : (place : InWord) → IsWord (letters_read place ++ next_letter place ∷ later_letters place)
word_full letters.N = inl refl
word_full letters.Nu = inl refl
word_full letters.Nul = inl refl
word_full letters.T = inr (inl refl)
word_full letters.Tr = inr (inl refl)
word_full letters.Tru = inr (inl refl)
word_full letters.F = inr (inr refl)
word_full letters.Fa = inr (inr refl)
word_full letters.Fal = inr (inr refl)
word_full letters.Fals = inr (inr refl)

four : (text : List ℕ) → IsWord text → 4 ≤ length text
four text (inl e) = omega (arith, ap length e)
four text (inr (inl e)) = omega (arith, ap length e)
four text (inr (inr e)) = omega (arith, ap length e)

short : (text : List ℕ) → length text ≤ 3 → IsWord text → ⊥
short text l w = omega (arith, l, four text w)

fals : IsWord (letters_read letters.Fals) → ⊥
fals (inl e) = omega (arith, let q : ◌≡◌ {A = ℕ} 102 110 = head_is 102 110 _ _ e in q)
fals (inr (inl e)) = omega (arith, let q : ◌≡◌ {A = ℕ} 102 116 = head_is 102 116 _ _ e in q)
fals (inr (inr e)) = omega (arith, ap length e)

-- no word is whole before its last letter
pub word_short : (place : InWord) → IsWord (letters_read place) → ⊥
word_short letters.N w = short _ (lit≤ tt) w
word_short letters.Nu w = short _ (lit≤ tt) w
word_short letters.Nul w = short _ (lit≤ tt) w
word_short letters.T w = short _ (lit≤ tt) w
word_short letters.Tr w = short _ (lit≤ tt) w
word_short letters.Tru w = short _ (lit≤ tt) w
word_short letters.F w = short _ (lit≤ tt) w
word_short letters.Fa w = short _ (lit≤ tt) w
word_short letters.Fal w = short _ (lit≤ tt) w
word_short letters.Fals w = fals w

-- and none begins with a quote
pub word_no_quote : (place : InWord) (body : List ℕ) → letters_read place ≡ 34 ∷ body → ⊥
word_no_quote letters.N body e = omega (arith, head_is 110 34 _ _ e)
word_no_quote letters.Nu body e = omega (arith, head_is 110 34 _ _ e)
word_no_quote letters.Nul body e = omega (arith, head_is 110 34 _ _ e)
word_no_quote letters.T body e = omega (arith, head_is 116 34 _ _ e)
word_no_quote letters.Tr body e = omega (arith, head_is 116 34 _ _ e)
word_no_quote letters.Tru body e = omega (arith, head_is 116 34 _ _ e)
word_no_quote letters.F body e = omega (arith, head_is 102 34 _ _ e)
word_no_quote letters.Fa body e = omega (arith, head_is 102 34 _ _ e)
word_no_quote letters.Fal body e = omega (arith, head_is 102 34 _ _ e)
word_no_quote letters.Fals body e = omega (arith, head_is 102 34 _ _ e)
