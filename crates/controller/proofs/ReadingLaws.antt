-- A read: what it leaves of the controller, which is all of it or all but L, and what it brings by what is named. Assumes nothing.
use Prim.Native.Nat.{ℕ, ◌<◌, ◌≤◌}
use mathlib.Core.Path.{◌≡◌, refl, sym}
use mathlib.Core.Bool.{Bool, true, false}
use native.Mathlib.Omega.{arith}
use Rattle.basics.specs.Bits.{high_of, low_of}
use Rattle.basics.specs.Choice.{when◌then◌else◌}
use Rattle.basics.proofs.Cases.{if_no, if-both, cases}
use Rattle.raster.specs.Registers.{reg}
use Rattle.pen.specs.Pen.{emptied_of, newest_of}
use Rattle.controller.specs.Chip.{with_pen}
use Rattle.controller.specs.Reads.{value_of, driven_of, after_read_of, register_read_of, status_of, status_read_of, read_of}
use Rattle.controller.specs.declared.reads.Reading.{Reading}
use Rattle.controller.specs.declared.chip.Controller.{Controller}

-- what holds of the controller as it is, and with L cleared, holds after a read
pub after_read : (P : Controller → Type 0) (c : Controller) → P c → P (with_pen (emptied_of c.pen) c) → (rs : Bool) → P (read_of c rs).controller
unfolding read_of register_read_of status_read_of after_read_of
after_read P c same emptied rs =
    let of : Reading → Type 0 = λ o. P o.controller in
    if-both of rs _ _ (λ _. if-both of _ _ _ (λ _. if-both P _ _ _ (λ _. emptied) (λ _. same)) (λ _. same)) (λ _. same)

module _ (c : Controller) where
  abbrev named : ℕ
  named = c.regs.named

  pub read-cursor : 14 ≤ named → named ≤ 15 → read_of c true ≡ record { driven = true; value = reg c.regs named; controller = c }
  unfolding read_of register_read_of value_of after_read_of when◌then◌else◌
  read-cursor l u =
      let k : named ≤ 17 = omega arith in
      let h : named < 16 = omega arith in
      let m : named ≡ 16 → ⊥ = λ e. omega arith in
      let n : named ≡ 17 → ⊥ = λ e. omega arith in
      sym (search cases depth 9)

  pub read-high : named ≡ 16
      → read_of c true ≡ record { driven = true; value = high_of (newest_of c.pen).latch; controller = with_pen (emptied_of c.pen) c }
  unfolding read_of register_read_of value_of after_read_of when◌then◌else◌
  read-high e = rw e

  pub read_low : named ≡ 17
      → read_of c true ≡ record { driven = true; value = low_of (newest_of c.pen).latch; controller = with_pen (emptied_of c.pen) c }
  unfolding read_of register_read_of value_of after_read_of when◌then◌else◌
  read_low e = rw e

  floating : driven_of named ≡ false → read_of c true ≡ record { driven = false; value = 0; controller = c }
  unfolding read_of register_read_of when◌then◌else◌
  floating h = sym (if_no _ _ _ _ h refl)

  pub read_below : named < 14 → read_of c true ≡ record { driven = false; value = 0; controller = c }
  read_below u = floating (search cases depth 9)

  pub read_above : 17 < named → read_of c true ≡ record { driven = false; value = 0; controller = c }
  read_above l = let h : 14 ≤ named = omega arith in floating (search cases depth 9)

  pub read-status : read_of c false ≡ record { driven = true; value = status_of c; controller = c }
  unfolding read_of status_read_of when◌then◌else◌
  read-status = refl
