-- A frame's totals as sums over its times. Assumes nothing.
use Prim.Native.Nat.{ℕ}
use mathlib.Core.Path.{◌≡◌, ap, ◌∙◌}
use mathlib.Core.List.{map, map-map}
use Rattle.basics.specs.Bits.{num}
use Rattle.basics.specs.Count.{count}
use Rattle.basics.proofs.Counting.{each_same}
use Rattle.raster.specs.declared.registers.Registers.{Registers}
use Rattle.facts.specs.Facts.{picture_of}
use Rattle.controller.specs.Chip.{clock_of}
use Rattle.controller.specs.declared.chip.Controller.{Controller}
use Rattle.controller.specs.declared.pins.Outputs.{Outputs}
use Rattle.controller.proofs.Keeping.{clock-regs}
use Rattle.controller.proofs.Times.{shown-picture}
use Rattle.frames.specs.Places.{frame_times}
use Rattle.tally.specs.Sums.{sum}
use Rattle.tally.specs.Tally.{shown_of, tallied_of, tally_of}

-- the picture total, by where the scan is at each time
pub picture-total : (c : Controller) → (tally_of c).picture ≡ sum (map (λ (t : ℕ). num (picture_of c.regs (clock_of t c).scan)) (count 0 (frame_times c.regs)))
unfolding tally_of tallied_of shown_of
picture-total c =
    let n = frame_times c.regs in
    ap sum
    (map-map (λ (o : Outputs). num o.picture) (shown_of c) (count 0 n)
    ∙ each_same _ _ n (λ t h. ap num (shown-picture (clock_of t c) ∙ ap (λ (r : Registers). picture_of r (clock_of t c).scan) (clock-regs c t))))
