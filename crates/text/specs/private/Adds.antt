-- What a writer of a text tells the next one: serves the contracts of writers that are not public.
use Rattle.std.specs.Prelude.{ℕ, ◌+◌, ◌≤◌, List, ◌++◌, ◌≡◌, length}

-- Where w has room behind t, u is t and then w. Of a room that is too small this says nothing.
pub record Adds (room : ℕ) (t u w : List ℕ) : Type 0 where
  pub holds : length t + length w ≤ room → u ≡ t ++ w
