-- f applied n times over: what "n character clocks" and "n display fetches" mean (document 01, the table of kinds).
use Rattle.std.specs.Prelude.{ℕ, zero, suc}

-- x, and then f of it n times over
unfoldable pub iterate : {A : Type 0} → (A → A) → ℕ → A → A
iterate f zero x = x
iterate f (suc n) x = f (iterate f n x)
