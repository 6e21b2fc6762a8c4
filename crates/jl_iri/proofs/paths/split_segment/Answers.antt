use Rattle.std.proofs.Common.{◌+◌, ◌∙◌, ap, sym, ◌∷◌, take}
use Rattle.std.proofs.lemmas.List.{take_rest}
use Rattle.std.specs.List.{slice_split}
use Rattle.jl_model.specs.Resolve.{is_slash}
use Rattle.jl_iri.proofs.Slashes.{split_at, split_none}
use Rattle.jl_iri.proofs.paths.split_segment.Goals as goal

pub returns-in-Some : goal.returns-in-Some
returns-in-Some c =
    split_at c.args.path.now c.in-Some.slash (sym c.in-Some.ensures)
    ∙ ap (λ rest. take c.in-Some.slash c.args.path.now ∷ slice_split is_slash rest) (sym (take_rest c.args.path.now (c.in-Some.slash + 1)))

pub returns-in-None : goal.returns-in-None
returns-in-None c = split_none c.args.path.now (sym c.in-None.ensures)
