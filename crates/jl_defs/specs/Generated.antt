-- The generated document of a number of nodes (this project's own rules).
use Rattle.std.specs.Prelude.{ℕ, zero, suc, ◌+◌, ◌*◌, ◌%◌, List, [], ◌∷◌, ◌++◌, codes, decimal, flat_map}
use Rattle.jl_defs.specs.Texts.{Text}

-- the next number of the row
abbrev pub next_number : ℕ → ℕ
next_number x = (x * 1103515245 + 12345) % 2147483648

-- an item of a document of so many nodes, by its number and the row's number
abbrev pub item_text : ℕ → ℕ → ℕ → Text
item_text n i x =
    codes "{\"@id\":\"http://gen.example/n/" ++ decimal i
    ++ codes "\",\"@type\":\"T" ++ decimal (x % 7)
    ++ codes "\",\"v\":" ++ decimal (x % 1000)
    ++ codes ",\"next\":{\"@id\":\"http://gen.example/n/" ++ decimal (x % n) ++ codes "\"}}"

-- so many further items, each with the comma before it
unfoldable pub further_items : ℕ → ℕ → ℕ → ℕ → List Text
further_items n zero i x = []
further_items n (suc left) i x = (codes "," ++ item_text n i x) ∷ further_items n left (i + 1) (next_number x)

-- all items: the first has no comma
abbrev pub items : ℕ → List Text
items zero = []
items (suc m) = item_text (suc m) 0 1 ∷ further_items (suc m) m 1 (next_number 1)

abbrev pub beginning : Text
beginning = codes "{\"@context\":{\"@vocab\":\"http://gen.example/\"},\"@graph\":["

abbrev pub ending : Text
ending = codes "]}\n"

-- the pieces: the beginning, each item, and the end
unfoldable pub pieces : ℕ → List Text
pieces n = beginning ∷ (items n ++ ending ∷ [])

abbrev pub piece : Text → Text
piece p = p

-- the generated text
unfoldable pub generated_text : ℕ → Text
generated_text n = flat_map piece (pieces n)
