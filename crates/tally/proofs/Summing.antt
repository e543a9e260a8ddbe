-- Laws of sums and of the greatest. Assumes nothing.
use Prim.Native.Nat.{ℕ, ◌+◌, ◌^◌, ◌<◌, ◌≤◌, max}
use mathlib.Core.Path.{◌≡◌, ap, sym, ◌∙◌}
use mathlib.Core.List.{List, [], ◌∷◌, ◌++◌}
use native.Mathlib.Nat.{add_assoc}
use native.Mathlib.Omega.{arith}
use lib.Bits.{bit_xor, xor_lt}
use lib.Count.{ones, ones-le}
use Rattle.tally.specs.Sums.{sum, greatest}

-- one number more, behind the others
pub sum-last : (l : List ℕ) (x : ℕ) → sum (l ++ (x ∷ [])) ≡ sum l + x
unfolding sum
sum-last [] x = omega arith
sum-last (y ∷ l) x = ap (λ (n : ℕ). y + n) (sum-last l x) ∙ sym (add_assoc y (sum l) x)

max_assoc : (a b c : ℕ) → max a (max b c) ≡ max (max a b) c
max_assoc a b c = omega arith

pub greatest-last : (l : List ℕ) (x : ℕ) → greatest (l ++ (x ∷ [])) ≡ max (greatest l) x
unfolding greatest
greatest-last [] x = omega arith
greatest-last (y ∷ l) x = ap (max y) (greatest-last l x) ∙ max_assoc y (greatest l) x

-- two addresses of sixteen bits differ in sixteen lines at most
pub few_lines : (a b : ℕ) → a < 2 ^ 16 → b < 2 ^ 16 → ones (bit_xor a b) ≤ 16
few_lines a b h k = ones-le 16 (bit_xor a b) (xor_lt 16 a b h k)
