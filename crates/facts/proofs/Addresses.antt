-- MA and the latch keep to fourteen bits; what a true picture fact gives. Assumes nothing.
use Prim.Native.Nat.{ℕ, ◌<◌}
use mathlib.Core.Path.{◌≡◌}
use mathlib.Core.Bool.{true, false, not, ◌&&◌, and-eq-true_iff}
use native.Mathlib.Omega.{arith}
use lib.Dec.{ltb}
use borrow.Author.Tests.{ltb-true, lt-ltb, not-true}
use Rattle.basics.proofs.Cases.{if-both}
use Rattle.raster.specs.Registers.{reg}
use Rattle.raster.specs.Scan.{next_of}
use Rattle.raster.specs.declared.registers.Registers.{Registers}
use Rattle.raster.specs.declared.scan.Scan.{Scan}
use Rattle.facts.specs.Facts.{picture_of, address_of, ma_of, latch_of}

pub ma-lt : (r : Registers) (s : Scan) → ma_of r s < 16384
unfolding ma_of address_of
ma-lt r s = if-both (λ (a : ℕ). a < 16384) _ _ _ (λ _. omega arith) (λ _. omega arith)

pub latch-lt : (r : Registers) (s : Scan) → latch_of r s < 16384
unfolding latch_of
latch-lt r s = ma-lt r (next_of r (next_of r s))

-- a character of the picture: no adjust line, row below R6, column below R1
pub record InPicture (r : Registers) (s : Scan) : Type 0 where
  pub running : s.adjusting ≡ false
  pub row : s.row < reg r 6
  pub column : s.column < reg r 1

pub in-picture : (r : Registers) (s : Scan) → picture_of r s ≡ true → InPicture r s
unfolding picture_of
in-picture r s e =
    let a = (and-eq-true_iff (not s.adjusting && ltb s.row (reg r 6)) (ltb s.column (reg r 1))).0 e in
    let b = (and-eq-true_iff (not s.adjusting) (ltb s.row (reg r 6))).0 a.0 in
    record { running = not-true s.adjusting b.0; row = ltb-true s.row (reg r 6) b.1; column = ltb-true s.column (reg r 1) a.1 }

pub picture-in : (r : Registers) (s : Scan) → InPicture r s → picture_of r s ≡ true
unfolding picture_of
picture-in r s p = rw (p.running, lt-ltb s.row (reg r 6) p.row, lt-ltb s.column (reg r 1) p.column)
