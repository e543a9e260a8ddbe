-- Numbers as decimal digits, without zeros in front (document 02, W1: the numbers of a report, as its program tells them).
use Rattle.std.specs.Prelude.{ℕ, zero, suc, ◌+◌, ◌*◌, ◌-◌, ◌/◌, ◌%◌, ◌^◌, ◌<◌, ◌≤◌, ◌≡◌, List, [], ◌∷◌, ◌++◌, ltb, length, get_or}
use Rattle.basics.specs.Choice.{when◌then◌else◌}

-- the last k digits at the most, the highest first; the code of `0` is 48
unfoldable pub decimal_in : ℕ → ℕ → List ℕ
decimal_in zero n = []
decimal_in (suc k) n = when ltb n 10 then (48 + n % 10) ∷ [] else decimal_in k (n / 10) ++ ((48 + n % 10) ∷ [])

-- the most digits that a number of 64 bits has
abbrev pub most_digits : ℕ
most_digits = 20

-- all digits of such a number
abbrev pub decimal_of : ℕ → List ℕ
decimal_of n = decimal_in most_digits n

-- the number that digits name, read from left to right after a number that is read already
unfoldable pub read_on : ℕ → List ℕ → ℕ
read_on a [] = a
read_on a (d ∷ l) = read_on (10 * a + (d - 48)) l

-- What the digits of a number of 64 bits are.
pub record Digits (n : ℕ) : Type 0 where
  -- they name the number
  pub name : n < 2 ^ 64 → read_on 0 (decimal_of n) ≡ n
  -- each is the code of a digit, `0` to `9`
  pub each : (i : ℕ) → i < length (decimal_of n) → (48 ≤ get_or (decimal_of n) i 0) × (get_or (decimal_of n) i 0 ≤ 57)
  -- and none stands in front that could be left out: `0` is the first only of 0 itself
  pub first : n < 2 ^ 64 → get_or (decimal_of n) 0 0 ≡ 48 → n ≡ 0
