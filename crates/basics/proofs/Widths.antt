-- Bounds of a counter over its width. Assumes nothing.
use Prim.Native.Nat.{ℕ, ◌+◌, ◌^◌, ◌<◌, ◌≤◌}
use native.Mathlib.Nat.{mod-lt}
use lib.Dec.{lit≤}
use lib.Pow.{pow_pos}
use Rattle.basics.specs.declared.width.Width.{Width}
use Rattle.basics.specs.declared.width.Width.TheVariants.{Five, Seven, Eight, Fourteen}
use Rattle.basics.specs.Width.{bits_of, counted_of}

pub values-pos : (w : Width) → 0 < 2 ^ bits_of w
values-pos w = pow_pos (bits_of w)

-- no width is wider than fourteen bits
pub values-most : (w : Width) → 2 ^ bits_of w ≤ 16384
values-most Five = lit≤ tt
values-most Seven = lit≤ tt
values-most Eight = lit≤ tt
values-most Fourteen = lit≤ tt

-- a counter stays below its width's number of values
pub counted-lt : (w : Width) (x step : ℕ) → counted_of w x step < 2 ^ bits_of w
counted-lt w x step = mod-lt (x + step) (values-pos w)
