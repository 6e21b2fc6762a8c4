-- A text that is shared.
use Rattle.std.specs.Prelude.{ℕ, List, Option, option_map}
use Rattle.std.specs.declared.alloc.Global.{Global}
use Rattle.std.specs.declared.rc.Rc.{Rc}

-- the text without its count
abbrev pub bare : Option (Rc (List ℕ) Global) → Option (List ℕ)
bare text = option_map (λ r. r.value) text
