use Rattle.std.proofs.Common.{◌≡◌, ◌++◌, drop, codes, flat_map}
use Rattle.jl_model.specs.Ren.{hex_byte}
use Rattle.jl_iri.proofs.renamings.in_hexadecimal.Given as goal

abbrev pub invariant-loop-byte : goal.invariant-loop-byte
invariant-loop-byte l = l.text ++ flat_map hex_byte (drop l.byte-index l.label) ≡ codes "jlx" ++ flat_map hex_byte l.label
