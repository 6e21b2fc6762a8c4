-- A front of lines is lines again, and a front of one more.
use Rattle.std.proofs.Common.{◌≡◌, ℕ, ◌+◌, ◌<◌, Bool, true, false, List, [], ◌∷◌, ◌++◌, length, flat_map, Option, Some, None, refl, sym, ap, ◌∙◌, subst, arith, append_assoc, append-nil, length-append, lit<}
use Rattle.jl_io.specs.Outside.{appended}
use Rattle.jl_model.specs.Lines.{line}
use Rattle.jl_model.specs.Parts.{Parts}
use Rattle.jl_model.specs.declared.terms.Term.TheVariants.{Blank}
use Rattle.jl_nquads.specs.LineOuts.{IsCut, AreLines, TellsLines}
use Rattle.jl_top.specs.Pieces.{PutsLines}

-- two texts of which both are fronts: the second is a front of the first, or goes on behind it
pub data Fronts (xs ys cs ds : List ℕ) : Type 0 where
  longer : (rest : List ℕ) → xs ≡ cs ++ rest → ds ≡ rest ++ ys → Fronts xs ys cs ds
  shorter : (rest : List ℕ) → cs ≡ xs ++ rest → 0 < length rest → Fronts xs ys cs ds

pub fronts : (xs ys cs ds : List ℕ) → xs ++ ys ≡ cs ++ ds → Fronts xs ys cs ds
fronts xs ys [] ds e = longer xs refl (sym e)
fronts [] ys (a ∷ cs) ds e = shorter (a ∷ cs) refl (omega arith)
fronts (x ∷ xs) ys (a ∷ cs) ds e =
    let head : x ≡ a = cc in
    let tail : xs ++ ys ≡ cs ++ ds = cc in
    elim (fronts xs ys cs ds tail) [
      | longer rest f g ↦ longer rest (ap (λ t. x ∷ t) f ∙ ap (λ h. h ∷ (cs ++ rest)) head) g
      | shorter rest f some ↦ shorter rest (ap (λ t. a ∷ t) f ∙ ap (λ h. h ∷ (xs ++ rest)) (sym head)) some
    ]

-- some quads, of which these lines are
pub record FrontLines (quads : List Parts) (bytes : List ℕ) : Type 0 where
  pub front : List Parts
  pub back : List Parts
  pub quads_are : quads ≡ front ++ back
  pub lines : AreLines front bytes

one_more : (q : Parts) (quads : List Parts) (rest bytes : List ℕ) → bytes ≡ line q ++ rest → FrontLines quads rest → FrontLines (q ∷ quads) bytes
one_more q quads rest bytes e f =
    record {
      front = q ∷ f.front;
      back = f.back;
      quads_are = ap (λ t. q ∷ t) f.quads_are;
      lines = record { cut = f.lines.cut; bytes_are = e ∙ ap (λ t. line q ++ t) f.lines.bytes_are ∙ sym (append_assoc (line q) (flat_map line f.front) f.lines.cut); is_cut = f.lines.is_cut };
    }

pub front_lines : (quads : List Parts) (bytes held cut : List ℕ) → bytes ++ held ≡ flat_map line quads ++ cut → IsCut cut → FrontLines quads bytes
front_lines [] bytes held cut e is_cut =
    let longer_rest : length (held ++ is_cut.rest) ≡ length held + length is_cut.rest = length-append held is_cut.rest in
    let some : 0 < length is_cut.rest = is_cut.some_left in
    record {
      front = [];
      back = [];
      quads_are = refl;
      lines = record {
        cut = bytes;
        bytes_are = refl;
        is_cut = record {
          quad = is_cut.quad;
          rest = held ++ is_cut.rest;
          line_is = is_cut.line_is ∙ ap (λ t. t ++ is_cut.rest) (sym e) ∙ append_assoc bytes held is_cut.rest;
          some_left = omega arith;
        };
      };
    }
front_lines (q ∷ quads) bytes held cut e is_cut =
    elim (fronts bytes held (line q) (flat_map line quads ++ cut) (e ∙ append_assoc (line q) (flat_map line quads) cut)) [
      | longer rest f g ↦ one_more q quads rest bytes f (front_lines quads rest held cut (sym g) is_cut)
      | shorter rest f some ↦ record {
        front = [];
        back = q ∷ quads;
        quads_are = refl;
        lines = record { cut = bytes; bytes_are = refl; is_cut = record { quad = q; rest = rest; line_is = f; some_left = some } };
      }
    ]

-- a quad with a line
some_quad : Parts
some_quad = record { subject = Blank []; predicate = []; object = Blank []; graph = None }

-- nothing is a proper front of a line
pub no_cut : IsCut []
unfolding some_quad
no_cut = record { quad = some_quad; rest = line some_quad; line_is = refl; some_left = lit< tt }

-- whole lines are lines
pub whole_lines : (quads : List Parts) (bytes : List ℕ) → bytes ≡ flat_map line quads → AreLines quads bytes
whole_lines quads bytes e = record { cut = []; bytes_are = e ∙ sym (append-nil (flat_map line quads)); is_cut = no_cut }

-- what is told without a failure is told with one
pub tells_lax : (failed : Bool) (quads : List Parts) (bytes : List ℕ) → TellsLines failed quads bytes → TellsLines true quads bytes
tells_lax true quads bytes h = h
tells_lax false quads bytes h = whole_lines quads bytes h

-- what holds of some quads holds of the first of them
abbrev pub IsClosed : (List Parts → Type 0) → Type 0
IsClosed Holds = (front back : List Parts) → Holds (front ++ back) → Holds front

-- a part of what is held was handed on
pub puts_front : (Holds : List Parts → Type 0) (failed : Bool) (put : Option (List ℕ)) (held : List ℕ) → IsClosed Holds → PutsLines Holds failed (appended put held) → PutsLines Holds true put
puts_front Holds failed None held closed h = record { quads = h.quads; holds = h.holds; lines = tt }
puts_front Holds failed (Some w) held closed h =
    let told : AreLines h.quads (w ++ held) = tells_lax failed h.quads (w ++ held) h.lines in
    let f = front_lines h.quads w held told.cut told.bytes_are told.is_cut in
    record { quads = f.front; holds = closed f.front f.back (subst Holds f.quads_are h.holds); lines = f.lines }
