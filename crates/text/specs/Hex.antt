-- Bytes as lowercase hex digits (document 01, "Records and what comes back", the listing program).
use Rattle.std.specs.Prelude.{ℕ, ◌+◌, ◌-◌, ◌/◌, ◌%◌, List, [], ◌∷◌, ◌++◌, ltb}
use Rattle.basics.specs.Choice.{when◌then◌else◌}

-- the code of a digit below 16: `0` to `9` from 48 on, `a` to `f` from 97 on
unfoldable pub digit_of : ℕ → ℕ
digit_of n = when ltb n 10 then 48 + n else 97 + (n - 10)

-- a byte's digits, the high one first
unfoldable pub pair_of : ℕ → List ℕ
pair_of b = digit_of (b / 16) ∷ digit_of (b % 16) ∷ []

-- two digits for each byte, in the order of the bytes
unfoldable pub hex_of : List ℕ → List ℕ
hex_of [] = []
hex_of (b ∷ bs) = pair_of b ++ hex_of bs
