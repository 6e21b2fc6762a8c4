-- The writer's text reads back as its quads.
use Rattle.std.proofs.Common.{◌∙◌, sym, ap, subst, map}
use Rattle.jl_defs.specs.Dataset.{dataset}
use Rattle.jl_defs.specs.Documents.{in_form}
use Rattle.jl_defs.specs.OpenText.{ReadsAs}
use Rattle.jl_defs.specs.Sets.{SameSet}
use Rattle.jl_defs.specs.WriterText.{writer_text}
use Rattle.jl_laws.specs.Says.{says, root_spot}
use Rattle.jl_laws.proofs.Counting.{same-set}
use Rattle.jl_laws.proofs.Equality.{parts_eq}
use Rattle.jl_laws.proofs.Frames.{says-dataset}
use Rattle.jl_nquads.specs.Renamed.{renamed}
use Rattle.jl_writer.specs.Laws.{streaming, TextReadsBack}
use Rattle.jl_writer.proofs.Grouped.{items_of}
use Rattle.jl_writer.proofs.GroupedTrees.{array_tree}
use Rattle.jl_writer.proofs.GroupedTexts.{grouped_text}
use Rattle.jl_writer.proofs.GoodGroups.{items_good}
use Rattle.jl_writer.proofs.TreesRead.{items_text_read}
use Rattle.jl_writer.proofs.GroupedQuads.{quads_said}
use Rattle.jl_writer.proofs.Faultless.{tree_faultless}
use Rattle.jl_writer.proofs.Saying.{tree_says}

pub text_reads_back : TextReadsBack
text_reads_back = λ quads h.
    let items = items_of quads in
    let good = items_good quads h in
    let tree = array_tree items in
    let read : ReadsAs (writer_text quads) tree = subst (λ text. ReadsAs text tree) (sym (grouped_text quads)) (items_text_read items good) in
    let faultless = tree_faultless items good in
    let same : SameSet (says streaming (root_spot streaming) tree) (dataset streaming tree) = same-set parts_eq (says streaming (root_spot streaming) tree) (dataset streaming tree) (λ f. says-dataset f streaming tree) in
    record {
      in_form = (tree, read, ap in_form faultless);
      accepted = (tree, read, faultless);
      dataset = (tree, read, subst (λ qs. SameSet qs (dataset streaming tree)) (tree_says items good ∙ ap (map renamed) (quads_said quads)) same);
    }
