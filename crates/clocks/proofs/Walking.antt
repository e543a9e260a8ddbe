-- A walk of n steps. Assumes nothing.
use Prim.Native.Nat.{ℕ, zero, suc, ◌≤◌}
use mathlib.Core.Path.{◌≡◌, refl}
use native.Mathlib.Omega.{arith}
use Rattle.basics.specs.Iterate.{iterate}
use Rattle.raster.specs.Scan.{next_of}
use Rattle.raster.specs.Sync.{arrive_of}
use Rattle.raster.specs.declared.registers.Registers.{Registers}
use Rattle.clocks.specs.declared.place.Place.{Place}
use Rattle.clocks.specs.declared.place.Walk.{Walk}
use Rattle.clocks.specs.Walk.{stepped_of, on_from, walk_of}

-- what a step is
pub stepped : (r : Registers) (p : Place) → stepped_of r p ≡ record { scan = next_of r p.scan; sync = arrive_of r (next_of r p.scan) p.sync }
unfolding stepped_of
stepped r p = refl

module _ (r : Registers) (p : Place) where
  -- a walk of n steps has come to where n steps lead
  pub walk-place : (n : ℕ) → (walk_of r n p).place ≡ iterate (stepped_of r) n p
  unfolding walk_of iterate
  walk-place zero = refl
  walk-place (suc n) = refl

  -- a walk of one step, and of one step more
  pub walk-one : walk_of r 1 p ≡ on_from r p
  unfolding walk_of iterate
  walk-one = refl

  pub walk_more : (n : ℕ) → walk_of r (suc (suc n)) p ≡ on_from r (walk_of r (suc n) p).place
  unfolding walk_of iterate
  walk_more n = refl

  pub walk-done : (i n : ℕ) (w : Walk) → i ≤ n → n ≤ i → w ≡ walk_of r i p → w ≡ walk_of r n p
  walk-done i n w h l e = let q : n ≡ i = omega arith in rw q e
