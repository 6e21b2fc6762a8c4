use Rattle.std.proofs.Common.{sym, ◌∙◌, ◌++◌, codes, flat_map}
use Rattle.jl_model.specs.Ren.{ren, hex_byte}
use Rattle.jl_iri.proofs.Resolved.{if_ok-is}
use Rattle.jl_iri.proofs.RenLemmas.{ren-kept, ren-renamed}
use Rattle.jl_iri.proofs.renamings.ren.Goals as goal

pub returns-then-stays : goal.returns-then-stays
returns-then-stays c = if_ok-is c.from_bytes.result c.args.label.now (ren c.args.label.now) (sym (ren-kept c.args.label.now (sym c.stays.ensures ∙ c.if-stays.true))) c.from_bytes.ensures

pub returns-else-stays : goal.returns-else-stays
returns-else-stays c =
    if_ok-is c.in_hexadecimal.result (codes "jlx" ++ flat_map hex_byte c.args.label.now) (ren c.args.label.now) (sym (ren-renamed c.args.label.now (sym c.stays.ensures ∙ c.if-stays.false))) c.in_hexadecimal.ensures
