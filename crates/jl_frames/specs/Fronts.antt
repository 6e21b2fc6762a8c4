-- Forms of definitions that follow the order of a test.
use Rattle.std.specs.Prelude.{if◌then◌else◌, codes, bytes_eq}
use Rattle.jl_defs.specs.Texts.{Text}
use Rattle.jl_frames.specs.declared.keywords.Keyword.TheVariants as keyword
use Rattle.jl_frames.specs.declared.keywords.Meaning.{Meaning}
use Rattle.jl_frames.specs.declared.keywords.Meaning.TheVariants as meaning

-- what a keyword means, by the six that mean something
abbrev pub keyword_meaning : Text → Meaning
keyword_meaning text =
    if bytes_eq text (codes "@id") then meaning.Keyword keyword.Id
    else (if bytes_eq text (codes "@type") then meaning.Keyword keyword.Kind
    else (if bytes_eq text (codes "@value") then meaning.Keyword keyword.Value
    else (if bytes_eq text (codes "@language") then meaning.Keyword keyword.Language
    else (if bytes_eq text (codes "@direction") then meaning.Keyword keyword.Direction
    else (if bytes_eq text (codes "@index") then meaning.Keyword keyword.Index else meaning.Ignored)))))
