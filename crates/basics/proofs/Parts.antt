-- Lists by their parts. Assumes nothing.
use Prim.Native.Nat.{ℕ, suc, ◌+◌, ◌<◌}
use mathlib.Core.Path.{◌≡◌}
use mathlib.Core.List.{List, ◌∷◌}
use native.Mathlib.Omega.{arith}
use lib.ListN.{length, get_or, drop}
use lib.Seq.{drop-cons}

-- what stands from i on begins with what stands at i, and goes on with what stands from the next place on
pub drop-next : (l : List ℕ) (i j : ℕ) → j ≡ i + 1 → i < length l → drop i l ≡ get_or l i 0 ∷ drop j l
drop-next l i j e h = let q : j ≡ suc i = omega arith in rw q (drop-cons l i 0 h)
