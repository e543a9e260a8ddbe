-- What the line's own functions say (document 02, W3).
use Rattle.std.specs.Prelude.{ℕ, List, [], ◌∷◌, get_or}

-- the bytes of the first record
abbrev pub first_record : List ℕ → List ℕ
first_record l = get_or l 0 0 ∷ get_or l 1 0 ∷ get_or l 2 0 ∷ get_or l 3 0 ∷ []
