-- What each call keeps of a controller, and what it moves. Assumes nothing.
use Prim.Native.Nat.{ℕ, zero, suc}
use mathlib.Core.Path.{◌≡◌, refl, ap, ◌∙◌}
use mathlib.Core.Bool.{Bool}
use Rattle.basics.specs.Iterate.{iterate}
use Rattle.basics.proofs.Iterating.{iterate-keeps}
use Rattle.raster.specs.Scan.{top_of, next_of}
use Rattle.raster.specs.declared.registers.Registers.{Registers}
use Rattle.controller.specs.Chip.{arrived_of, reset_of, write_of, step_of, clock_of, strike_of}
use Rattle.pen.specs.Pen.{no_pen, struck_of}
use Rattle.controller.specs.Chip.{strike_at}
use Rattle.controller.specs.Reads.{read_of}
use Rattle.controller.specs.declared.chip.Controller.{Controller}
use Rattle.controller.proofs.ReadingLaws.{after_read}

-- what every character time keeps, a clock of any number keeps
pub clock-keeps : (P : Controller → Type 0) → ((c : Controller) → P c → P (step_of c)) → (n : ℕ) (c : Controller) → P c → P (clock_of n c)
unfolding clock_of
clock-keeps P k n c p = iterate-keeps step_of P k n c p

module _ (c : Controller) where
  -- character times keep registers and pen
  pub clock-regs : (n : ℕ) → (clock_of n c).regs ≡ c.regs
  unfolding step_of
  clock-regs n = clock-keeps (λ (d : Controller). d.regs ≡ c.regs) (λ d e. e) n c refl

  pub clock-pen : (n : ℕ) → (clock_of n c).pen ≡ c.pen
  unfolding step_of
  clock-pen n = clock-keeps (λ (d : Controller). d.pen ≡ c.pen) (λ d e. e) n c refl

  -- and move the scan one place each
  pub clock-scan : (n : ℕ) → (clock_of n c).scan ≡ iterate (next_of c.regs) n c.scan
  unfolding clock_of iterate step_of
  clock-scan zero = refl
  clock-scan (suc n) = ap (λ (r : Registers). next_of r (clock_of n c).scan) (clock-regs n) ∙ ap (next_of c.regs) (clock-scan n)

  -- a strike keeps all but the pen
  pub strike-regs : (strike_of c).regs ≡ c.regs
  unfolding strike_of
  strike-regs = refl

  pub strike-scan : (strike_of c).scan ≡ c.scan
  unfolding strike_of
  strike-scan = refl

  pub strike-pen : (strike_of c).pen ≡ struck_of c.pen (strike_at c.regs c.scan)
  unfolding strike_of
  strike-pen = refl

  -- so does a read
  pub read-regs : (rs : Bool) → (read_of c rs).controller.regs ≡ c.regs
  read-regs rs = after_read (λ (d : Controller). d.regs ≡ c.regs) c refl refl rs

  pub read-scan : (rs : Bool) → (read_of c rs).controller.scan ≡ c.scan
  read-scan rs = after_read (λ (d : Controller). d.scan ≡ c.scan) c refl refl rs

  -- a write keeps all but the registers
  pub write-scan : (rs : Bool) (v : ℕ) → (write_of c rs v).scan ≡ c.scan
  unfolding write_of
  write-scan rs v = refl

  pub write-pen : (rs : Bool) (v : ℕ) → (write_of c rs v).pen ≡ c.pen
  unfolding write_of
  write-pen rs v = refl

  -- a reset keeps the registers, and begins at the top of field 0 with a pen that has not struck
  pub reset-regs : (reset_of c).regs ≡ c.regs
  unfolding reset_of arrived_of
  reset-regs = refl

  pub reset-scan : (reset_of c).scan ≡ top_of c.regs 0
  unfolding reset_of arrived_of
  reset-scan = refl

  pub reset-pen : (reset_of c).pen ≡ no_pen
  unfolding reset_of arrived_of
  reset-pen = refl

-- a reset is an arrival with the registers that it keeps
pub reset-arrived : (c : Controller) → reset_of c ≡ arrived_of c.regs
unfolding reset_of
reset-arrived c = refl

pub arrived-regs : (r : Registers) → (arrived_of r).regs ≡ r
unfolding arrived_of
arrived-regs r = refl
