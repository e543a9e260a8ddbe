-- The sum of a list of numbers and the greatest of them (document 02, W1: totals over the list of character times).
use Rattle.std.specs.Prelude.{ℕ, ◌+◌, max, List, [], ◌∷◌}

-- all of them added up
unfoldable pub sum : List ℕ → ℕ
sum [] = 0
sum (x ∷ l) = x + sum l

-- the greatest of them; 0 where there is none
unfoldable pub greatest : List ℕ → ℕ
greatest [] = 0
greatest (x ∷ l) = max x (greatest l)
