-- What a keyword means, by the six that mean something.
use Rattle.std.proofs.Common.{if◌then◌else◌, ◌≡◌, refl, sym, subst, Bool, true, false, inl, inr}
use Rattle.std.specs.Prelude.{codes, bytes_eq}
use Rattle.std.proofs.lemmas.Bool.{cases_Bool}
use Rattle.std.proofs.lemmas.Slice.Eq.{bytes_eq-Decides}
use Rattle.jl_defs.specs.Texts.{Text}
use Rattle.jl_defs.specs.Keys.{Key, its_context, id, kind, value, language, direction, index, graph, included, list, set, reverse, nest, other, keyword_key}
use Rattle.jl_frames.specs.declared.keywords.Keyword.TheVariants as keyword
use Rattle.jl_frames.specs.declared.keywords.Meaning.TheVariants as meaning
use Rattle.jl_frames.specs.Nodes.{meaning_of}
use Rattle.jl_frames.specs.Fronts.{keyword_meaning}

-- the keywords that mean something, behind those that don't
rest-ignored : (a b c d e f : Bool) → meaning_of (if a then graph else (if b then included else (if c then list else (if d then set else (if e then reverse else (if f then nest else other)))))) ≡ meaning.Ignored
rest-ignored true b c d e f = refl
rest-ignored false true c d e f = refl
rest-ignored false false true d e f = refl
rest-ignored false false false true e f = refl
rest-ignored false false false false true f = refl
rest-ignored false false false false false true = refl
rest-ignored false false false false false false = refl

told : (i k v l d x : Bool) (final : Key) → meaning_of final ≡ meaning.Ignored →
    (if i then meaning.Keyword keyword.Id else (if k then meaning.Keyword keyword.Kind else (if v then meaning.Keyword keyword.Value else (if l then meaning.Keyword keyword.Language else (if d then meaning.Keyword keyword.Direction else (if x then meaning.Keyword keyword.Index else meaning.Ignored))))))
    ≡ meaning_of (if i then id else (if k then kind else (if v then value else (if l then language else (if d then direction else (if x then index else final))))))
told true k v l d x final e = refl
told false true v l d x final e = refl
told false false true l d x final e = refl
told false false false true d x final e = refl
told false false false false true x final e = refl
told false false false false false true final e = refl
told false false false false false false final e = sym e

in-context : (text : Text) → text ≡ codes "@context" → keyword_meaning text ≡ meaning_of (keyword_key text)
in-context text e = subst (λ t. keyword_meaning t ≡ meaning_of (keyword_key t)) (sym e) refl

unless-context : (text : Text) (b : Bool) (first final : Key) → b ≡ false → keyword_meaning text ≡ meaning_of final → keyword_meaning text ≡ meaning_of (if b then first else final)
unless-context text true first final e h = absurd cc
unless-context text false first final e h = h

pub meaning_keyword : (text : Text) → keyword_meaning text ≡ meaning_of (keyword_key text)
meaning_keyword text = elim (cases_Bool (bytes_eq text (codes "@context"))) [
  | inl e ↦ in-context text ((bytes_eq-Decides text (codes "@context")).0 e)
  | inr e ↦
      unless-context text (bytes_eq text (codes "@context")) its_context _ e
      (told (bytes_eq text (codes "@id")) (bytes_eq text (codes "@type")) (bytes_eq text (codes "@value")) (bytes_eq text (codes "@language")) (bytes_eq text (codes "@direction")) (bytes_eq text (codes "@index")) _
      (rest-ignored (bytes_eq text (codes "@graph")) (bytes_eq text (codes "@included")) (bytes_eq text (codes "@list")) (bytes_eq text (codes "@set")) (bytes_eq text (codes "@reverse")) (bytes_eq text (codes "@nest"))))
]
