-- How much of a text a program writes. Decision: an input that cannot be read has no listing, not even that of an empty batch; and a
-- complaint is written where there is something to complain of, and nowhere else.
use Rattle.std.specs.Prelude.{ℕ, Bool, List, [], ◌∷◌}
use Rattle.basics.specs.Choice.{when◌then◌else◌}

-- the bytes of a text that are said
unfoldable pub said_of : Bool → List ℕ → List ℕ
said_of wanted text = when wanted then text else []

-- `too long`, all that a program says of an input with more bytes than it takes
abbrev pub too_long : List ℕ
too_long = 116 ∷ 111 ∷ 111 ∷ 32 ∷ 108 ∷ 111 ∷ 110 ∷ 103 ∷ 10 ∷ []
