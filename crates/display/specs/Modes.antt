-- The display modes (document 01, "The multiplexer"): three numbers for each value of V2 V1 V0. X is how many falls of B3 flip B4, Y
-- how many falls of B4 move B5..B15 on, and top the highest bit that a fall of HS clears.
-- Decision: the last mode clears none, and its top is written 0: from B1 up to B0 there is no bit.
use Rattle.std.specs.Prelude.{ℕ, ◌%◌, List, [], ◌∷◌, slice_index, slice_index_or}
use Rattle.display.specs.declared.modes.Mode.{Mode}

-- the three numbers of a mode: X, Y and top
abbrev pub three : ℕ → ℕ → ℕ → List ℕ
three x y top = x ∷ y ∷ top ∷ []

-- the table, from 000 to 111
abbrev pub modes : List (List ℕ)
modes =
    three 1 12 4
    ∷ three 3 1 3
    ∷ three 1 3 4
    ∷ three 2 1 3
    ∷ three 1 2 4
    ∷ three 1 1 3
    ∷ three 1 1 4
    ∷ three 1 1 0
    ∷ []

-- Decision: of a number past 7 only the low three bits count, so that every byte names a mode
abbrev pub entry_at : ℕ → List ℕ
entry_at v = slice_index_or modes (v % 8) []

-- the mode that a number names, its three numbers by name
abbrev pub mode_at : ℕ → Mode
mode_at v = record { x = slice_index (entry_at v) 0; y = slice_index (entry_at v) 1; top = slice_index (entry_at v) 2 }
