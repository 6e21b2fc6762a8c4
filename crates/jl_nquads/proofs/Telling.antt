-- What an out of lines tells.
use Rattle.std.proofs.Common.{◌≡◌, ℕ, ◌+◌, ◌-◌, ◌^◌, min, Bool, true, false, List, [], ◌∷◌, ◌++◌, flat_map, Option, Some, None, sym, ap, ◌∙◌, subst, arith, append-nil}
use Rattle.std.specs.Option.{IfSome}
use Rattle.std.proofs.lemmas.List.Concat.{flat_map-append}
use Rattle.jl_model.specs.Parts.{Parts}
use Rattle.jl_model.specs.Lines.{line}
use Rattle.jl_io.specs.Outside.{appended}
use Rattle.jl_io.specs.Puts.{PutsFront}
use Rattle.jl_nquads.specs.LineOuts.{TellsLines, CountsTold}

-- one more line was put
pub tells_more : (w0 w1 : Option (List ℕ)) (quad : Parts) (quads : List Parts) → w1 ≡ appended w0 (line quad) → IfSome w0 (TellsLines false quads) → IfSome w1 (TellsLines false (quads ++ quad ∷ []))
tells_more None w1 quad quads h told = subst (λ w. IfSome w (TellsLines false (quads ++ quad ∷ []))) (sym h) tt
tells_more (Some w) w1 quad quads h told =
    let lines : flat_map line (quads ++ quad ∷ []) ≡ flat_map line quads ++ line quad = flat_map-append line quads (quad ∷ []) ∙ ap (λ t. flat_map line quads ++ t) (append-nil (line quad)) in
    subst (λ w. IfSome w (TellsLines false (quads ++ quad ∷ []))) (sym h) (ap (λ t. t ++ line quad) told ∙ sym lines)

-- a line was cut
pub tells_cut : (w0 w1 : Option (List ℕ)) (quad : Parts) (quads : List Parts) → PutsFront w0 (line quad) w1 → IfSome w0 (TellsLines false quads) → IfSome w1 (TellsLines true quads)
tells_cut None w1 quad quads h told = subst (λ w. IfSome w (TellsLines true quads)) (sym h.put) tt
tells_cut (Some w) w1 quad quads h told =
    subst (λ w. IfSome w (TellsLines true quads)) (sym h.put)
    (record { cut = h.front; bytes_are = ap (λ t. t ++ h.front) told; is_cut = record { quad = quad; rest = h.back; line_is = h.text_is; some_left = h.some_left } })

-- one more line was put and counted
pub counts_line : (failed : Bool) (before now : ℕ) (w0 w1 : Option (List ℕ)) (quad : Parts) → failed ≡ false → now ≡ min (before + 1) (2 ^ 64 - 1) → w1 ≡ appended w0 (line quad) → CountsTold failed failed before now w0 w1
counts_line failed before now w0 w1 quad unfailed count put =
    record {
      more = quad ∷ [];
      told = λ quads. subst (λ f. IfSome w0 (TellsLines f quads) → IfSome w1 (TellsLines f (quads ++ quad ∷ []))) (sym unfailed) (tells_more w0 w1 quad quads put);
      count = omega (arith, count);
    }

-- a line was cut, and not counted
pub counts_cut : (failed : Bool) (lines : ℕ) (w0 w1 : Option (List ℕ)) (quad : Parts) → failed ≡ false → PutsFront w0 (line quad) w1 → CountsTold failed true lines lines w0 w1
counts_cut failed lines w0 w1 quad unfailed cut =
    record {
      more = [];
      told = λ quads told. subst (λ q. IfSome w1 (TellsLines true q)) (sym (append-nil quads)) (tells_cut w0 w1 quad quads cut (subst (λ f. IfSome w0 (TellsLines f quads)) unfailed told));
      count = omega arith;
    }
