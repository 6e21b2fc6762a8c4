-- The sign of a word.
use Rattle.jl_token.specs.declared.steps.Sign.{Sign}
use Rattle.jl_token.specs.declared.steps.Sign.TheVariants.{Null, True, False}
use Rattle.jl_token.specs.declared.words.InWord.{InWord}
use Rattle.jl_token.specs.declared.words.InWord.TheVariants as letters

abbrev pub word_sign : InWord → Sign
word_sign letters.N = Null
word_sign letters.Nu = Null
word_sign letters.Nul = Null
word_sign letters.T = True
word_sign letters.Tr = True
word_sign letters.Tru = True
word_sign _ = False
