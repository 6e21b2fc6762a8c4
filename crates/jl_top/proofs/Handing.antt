-- What is handed on from a block.
use Rattle.std.proofs.Common.{◌≡◌, ℕ, ◌+◌, ◌-◌, ◌^◌, ◌<◌, min, List, [], ◌++◌, take, drop, Option, Some, None, sym, ap, ◌∙◌, subst, arith, append_assoc, count_by}
use Rattle.std.proofs.lemmas.List.{take-append-drop}
use Rattle.std.proofs.lemmas.List.Sums.{sum_by-append}
use Rattle.std.proofs.Math.Seq.{drop-drop}
use Rattle.jl_io.specs.Outside.{appended}
use Rattle.jl_top.specs.declared.blocks.Block.{Block}
use Rattle.jl_top.specs.Blocks.{HandsOn, gathered_of, held_of, is_line_feed, CountsLines}
use Rattle.jl_io.proofs.Fronts.{appended-appended, appended-nil, put_then}

count_by-append : (xs ys : List ℕ) → count_by is_line_feed (xs ++ ys) ≡ count_by is_line_feed xs + count_by is_line_feed ys
count_by-append xs ys = sum_by-append _ xs ys

-- nothing was handed on
pub hands_none : (w : Option (List ℕ)) (old new : Block) → held_of new ≡ held_of old → new.lines ≡ old.lines → old.lines < 2 ^ 64 → HandsOn w w old new
hands_none w old new held lines fits =
    record { handed = []; put = sym (appended-nil w); held = sym held; lines = lines ∙ omega arith }

-- more was handed on
pub hands_more : (w0 w1 w2 : Option (List ℕ)) (a b c : Block) → HandsOn w0 w1 a b → HandsOn w1 w2 b c → HandsOn w0 w2 a c
hands_more w0 w1 w2 a b c h k =
    let feeds = count_by-append h.handed k.handed in
    let first : b.lines ≡ min (a.lines + count_by is_line_feed h.handed) (2 ^ 64 - 1) = h.lines in
    let second : c.lines ≡ min (b.lines + count_by is_line_feed k.handed) (2 ^ 64 - 1) = k.lines in
    record {
      handed = h.handed ++ k.handed;
      put = put_then w0 w1 w2 h.handed k.handed h.put k.put;
      held = h.held ∙ ap (λ t. h.handed ++ t) k.held ∙ sym (append_assoc h.handed k.handed (held_of c));
      lines = omega (arith, feeds, first, second);
    }

-- what was put and what is held stay the same together
pub hands_same : (w0 w1 : Option (List ℕ)) (a b : Block) → HandsOn w0 w1 a b → appended w1 (held_of b) ≡ appended w0 (held_of a)
hands_same w0 w1 a b h = ap (λ w. appended w (held_of b)) h.put ∙ appended-appended w0 h.handed (held_of b) ∙ ap (λ t. appended w0 t) (sym h.held)

counts_at : (w0 : Option (List ℕ)) (handed : List ℕ) (old new : ℕ) → new ≡ min (old + count_by is_line_feed handed) (2 ^ 64 - 1) → CountsLines w0 old → CountsLines (appended w0 handed) new
counts_at None handed old new h k = tt
counts_at (Some w) handed old new h k =
    let feeds = count_by-append w handed in
    let before : old ≡ min (count_by is_line_feed w) (2 ^ 64 - 1) = k in
    omega (arith, feeds, before, h)

-- a count that was right stays right
pub hands_count : (w0 w1 : Option (List ℕ)) (a b : Block) → HandsOn w0 w1 a b → CountsLines w0 a.lines → CountsLines w1 b.lines
hands_count w0 w1 a b h k = subst (λ w. CountsLines w b.lines) (sym h.put) (counts_at w0 h.handed a.lines b.lines h.lines k)

-- the first bytes of those held
pub held_split : (gathered : List ℕ) (handed n : ℕ) → drop handed gathered ≡ take n (drop handed gathered) ++ drop (handed + n) gathered
held_split gathered handed n = rw (← drop-drop n handed gathered) (sym (take-append-drop n (drop handed gathered)))

-- some bytes were put and counted
pub hands_some : (w0 w1 : Option (List ℕ)) (old new : Block) (n : ℕ) → gathered_of new ≡ gathered_of old → new.handed ≡ old.handed + n → w1 ≡ appended w0 (take n (held_of old))
    → new.lines ≡ min (old.lines + count_by is_line_feed (take n (held_of old))) (2 ^ 64 - 1) → HandsOn w0 w1 old new
hands_some w0 w1 old new n same handed put lines =
    let held : held_of new ≡ drop (old.handed + n) (gathered_of old) = ap (λ k. drop k (gathered_of new)) handed ∙ ap (λ t. drop (old.handed + n) t) same in
    record { handed = take n (held_of old); put = put; held = held_split (gathered_of old) old.handed n ∙ ap (λ t. take n (held_of old) ++ t) (sym held); lines = lines }

-- the end of a block: it is emptied
pub hands_emptied : (w0 w1 : Option (List ℕ)) (old full new : Block) → HandsOn w0 w1 old full → held_of full ≡ [] → held_of new ≡ [] → new.lines ≡ full.lines → HandsOn w0 w1 old new
hands_emptied w0 w1 old full new h none_left none lines =
    record { handed = h.handed; put = h.put; held = h.held ∙ ap (λ t. h.handed ++ t) (none_left ∙ sym none); lines = lines ∙ h.lines }

-- bytes that are gathered once there is room are put behind all others
pub hands_then : (w0 w1 : Option (List ℕ)) (a b c : Block) (bytes : List ℕ) → HandsOn w0 w1 a b → held_of c ≡ held_of b ++ bytes → appended w1 (held_of c) ≡ appended (appended w0 (held_of a)) bytes
hands_then w0 w1 a b c bytes h k =
    ap (λ t. appended w1 t) k ∙ sym (appended-appended w1 (held_of b) bytes) ∙ ap (λ w. appended w bytes) (hands_same w0 w1 a b h)
