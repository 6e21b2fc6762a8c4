-- Output in blocks.
use Rattle.std.specs.Prelude.{◌≡◌, ℕ, ◌+◌, ◌-◌, ◌^◌, ◌==◌, Bool, true, false, List, [], ◌++◌, min, take, drop, Option, IfSome, count_by}
use Rattle.jl_io.specs.Outside.{appended}
use Rattle.jl_top.specs.declared.blocks.Block.{Block}

abbrev pub is_line_feed : ℕ → Bool
is_line_feed c = c == 10

-- how many line feeds stand among the bytes, up to 2^64 - 1
abbrev pub line_count : List ℕ → ℕ
line_count bytes = min (count_by is_line_feed bytes) (2 ^ 64 - 1)

-- the count is that of the bytes put, where they are told
abbrev pub CountsLines : Option (List ℕ) → ℕ → Type 0
CountsLines put count = IfSome put (λ bytes. count ≡ line_count bytes)

-- the bytes that have been gathered
abbrev pub gathered_of : Block → List ℕ
gathered_of block = take block.len block.room.items

-- those of them that are still to be handed on
abbrev pub held_of : Block → List ℕ
held_of block = drop block.handed (gathered_of block)

-- nothing has been gathered and nothing handed on
pub record IsEmptyBlock (block : Block) : Type 0 where
  pub nothing_held : held_of block ≡ []
  pub no_lines : block.lines ≡ 0

-- these bytes were gathered
pub record Gathers (old new : Block) (bytes : List ℕ) : Type 0 where
  pub held : held_of new ≡ held_of old ++ bytes
  pub lines : new.lines ≡ old.lines

-- either these bytes were gathered, or nothing changed
abbrev pub GathersAtOnce : Bool → Block → Block → List ℕ → Type 0
GathersAtOnce true old new bytes = Gathers old new bytes
GathersAtOnce false old new bytes = new ≡ old

-- some of the bytes held were put, and their line feeds counted
pub record HandsOn (put_old put_new : Option (List ℕ)) (old new : Block) : Type 0 where
  pub handed : List ℕ
  pub put : put_new ≡ appended put_old handed
  pub held : held_of old ≡ handed ++ held_of new
  pub lines : new.lines ≡ min (old.lines + count_by is_line_feed handed) (2 ^ 64 - 1)
