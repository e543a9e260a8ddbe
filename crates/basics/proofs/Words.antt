-- Laws of bits as numbers. Assumes nothing.
use Prim.Native.Nat.{ℕ, ◌<◌}
use mathlib.Core.Path.{◌≡◌}
use mathlib.Core.Bool.{Bool, true, false}
use lib.Dec.{lit<}
use Rattle.basics.specs.Bits.{num}

-- a yes or no as a number is below 2
pub num-lt : (yes : Bool) → num yes < 2
num-lt true = lit< tt
num-lt false = lit< tt

-- and so is a result that is one
pub number_lt : (n : ℕ) (t : Bool) → n ≡ num t → n < 2
number_lt n t e = rw e (num-lt t)
