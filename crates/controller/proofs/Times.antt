-- A character time part by part: what it moves, what is shown at it, and the four bytes that tell of it. Assumes nothing.
use Prim.Native.Nat.{ℕ, ◌+◌}
use mathlib.Core.Path.{◌≡◌, refl}
use mathlib.Core.List.{[], ◌∷◌}
use native.Mathlib.Numerals.{add-one}
use lib.Dec.{ltb}
use Rattle.basics.specs.Bits.{high_of, low_of}
use Rattle.basics.specs.Iterate.{iterate}
use Rattle.raster.specs.Registers.{display_delayed_of, cursor_delayed_of}
use Rattle.raster.specs.Scan.{next_of}
use Rattle.raster.specs.Sync.{arrive_of}
use Rattle.facts.specs.Facts.{picture_of, ma_of, cursor_of, facts_of}
use Rattle.controller.specs.Bytes.{flags_of, time_bytes_of}
use Rattle.controller.specs.Chip.{step_of, clock_of}
use Rattle.controller.specs.Pins.{pin_of, outputs_of}
use Rattle.controller.specs.declared.chip.Controller.{Controller}
use Rattle.controller.specs.declared.pins.Outputs.{Outputs}

pub time-bytes : (o : Outputs) → time_bytes_of o ≡ high_of o.ma ∷ low_of o.ma ∷ o.ra ∷ flags_of o ∷ []
unfolding time_bytes_of
time-bytes o = refl

-- no time, and one time more
pub clock-none : (c : Controller) → clock_of 0 c ≡ c
unfolding clock_of iterate
clock-none c = refl

pub clock-more : (t : ℕ) (c : Controller) → clock_of (t + 1) c ≡ step_of (clock_of t c)
unfolding clock_of iterate
clock-more t c = rw add-one

module _ (c : Controller) where
  -- what one time moves
  pub step-regs : (step_of c).regs ≡ c.regs
  unfolding step_of
  step-regs = refl

  pub step-scan : (step_of c).scan ≡ next_of c.regs c.scan
  unfolding step_of
  step-scan = refl

  pub step-sync : (step_of c).sync ≡ arrive_of c.regs (next_of c.regs c.scan) c.sync
  unfolding step_of
  step-sync = refl

  pub step_left : (step_of c).left ≡ facts_of c.regs c.scan
  unfolding step_of
  step_left = refl

  -- what is shown: the address and the picture fact of this character, pins that can come late, and counts that still run
  pub shown-ma : (outputs_of c).ma ≡ ma_of c.regs c.scan
  unfolding outputs_of
  shown-ma = refl

  pub shown-picture : (outputs_of c).picture ≡ picture_of c.regs c.scan
  unfolding outputs_of
  shown-picture = refl

  pub shown-display : (outputs_of c).display ≡ pin_of (display_delayed_of c.regs) c.left.picture (picture_of c.regs c.scan)
  unfolding outputs_of
  shown-display = refl

  pub shown-cursor : (outputs_of c).cursor ≡ pin_of (cursor_delayed_of c.regs) c.left.cursor (cursor_of c.regs c.scan)
  unfolding outputs_of
  shown-cursor = refl

  pub shown-hsync : (outputs_of c).hsync ≡ ltb 0 c.sync.hsync
  unfolding outputs_of
  shown-hsync = refl

  pub shown-vsync : (outputs_of c).vsync ≡ ltb 0 c.sync.vsync
  unfolding outputs_of
  shown-vsync = refl
