-- Numbers in a row: the columns of a picture's row and the addresses of a line of bytes (document 01, "The locator" and "The
-- multiplexer").
use Rattle.std.specs.Prelude.{ℕ, zero, suc, List, [], ◌∷◌}

-- n numbers from a on
unfoldable pub count : ℕ → ℕ → List ℕ
count a zero = []
count a (suc n) = a ∷ count (suc a) n
