-- The scan stays in its frame while no register is written. Assumes nothing.
use Prim.Native.Nat.{ℕ, suc, ◌+◌, ◌*◌, ◌%◌, ◌<◌}
use mathlib.Core.Path.{◌≡◌, refl, ap, ◌∙◌}
use mathlib.Core.Bool.{Bool, true, false}
use native.Mathlib.Nat.{suc-mul}
use native.Mathlib.Omega.{arith}
use Rattle.basics.specs.Iterate.{iterate}
use Rattle.basics.specs.Width.{counted_of}
use Rattle.basics.specs.declared.width.Width.TheVariants.{Fourteen}
use Rattle.basics.proofs.Iterating.{iterate-keeps}
use Rattle.raster.specs.Registers.{reg, row_base_of}
use Rattle.raster.specs.Scan.{Move, top_of, next_of}
use Rattle.raster.specs.Widths.{RegistersWithin}
use Rattle.raster.specs.declared.registers.Registers.{Registers}
use Rattle.raster.specs.declared.scan.Scan.{Scan}
use Rattle.raster.proofs.Bases.{row-base-next}
use Rattle.raster.proofs.LineEnds.{line-down, row-down, to-adjust, to-frame, adjust-down, adjust-frame, Step, in-line, at-end, step}
use Rattle.frames.specs.Places.{Region, Placed}

-- the widths that the frame's arithmetic leans on, one by one, so that omega finds them
pub record Narrow (r : Registers) : Type 0 where
  pub r0 : reg r 0 < 256
  pub r4 : reg r 4 < 128
  pub r5 : reg r 5 < 32
  pub r9 : reg r 9 < 32
  pub r12 : reg r 12 < 64
  pub r13 : reg r 13 < 256

pub narrow : (r : Registers) → RegistersWithin r → Narrow r
narrow r f = record {
  r0 = f.each 0 (omega arith);
  r4 = f.each 4 (omega arith);
  r5 = f.each 5 (omega arith);
  r9 = f.each 9 (omega arith);
  r12 = f.each 12 (omega arith);
  r13 = f.each 13 (omega arith);
}

-- one more, under a product: what omega needs of products
pub times-suc : {a b : ℕ} (n : ℕ) → b ≡ suc a → b * n ≡ a * n + n
times-suc {a} n e = ap (λ (x : ℕ). x * n) e ∙ suc-mul a n

module _ (r : Registers) (w : Narrow r) where
  pub placed-top : (f : ℕ) → Placed r (top_of r f)
  placed-top f = record { column = omega arith; start = refl; region = (omega arith, omega arith, omega arith) }

  module _ (s : Scan) (p : Placed r s) where
    -- the facts of a place, where it is known whether the adjust lines run
    pub facts : (b : Bool) → s.adjusting ≡ b → Region r s.line s.row s.base b
    facts b a = rw a at p.region

    -- the base of the row below
    next-base : (row : ℕ) → s.base ≡ row_base_of r s.row → suc s.row ≡ row → counted_of Fourteen s.base (reg r 1) ≡ row_base_of r row
    next-base row b e = ap (λ (x : ℕ). counted_of Fourteen x (reg r 1)) b ∙ row-base-next r s.row ∙ ap (row_base_of r) e

    pub placed-step : {m : Move} {z : Scan} → Step r s m z → Placed r z
    placed-step (in-line h) = record { column = omega arith; start = p.start; region = p.region }
    placed-step (at-end h (line-down a l)) =
        let q = facts false a in
        record { column = omega arith; start = p.start; region = rw a (omega arith, q.1, q.2) }
    placed-step (at-end h (row-down a l k)) =
        let q = facts false a in
        record { column = omega arith; start = p.start; region = (omega arith, omega arith, next-base ((s.row + 1) % 128) q.2 (omega arith)) }
    placed-step (at-end h (to-adjust a l k z)) =
        let q = facts false a in
        record {
          column = omega arith;
          start = p.start;
          region = (omega arith, ap (λ (row : ℕ). (row + 1) % 128) k, next-base (reg r 4 + 1) q.2 (omega arith));
        }
    placed-step (at-end h (to-frame a l k z)) = placed-top _
    placed-step (at-end h (adjust-down a l)) =
        let q = facts true a in
        record { column = omega arith; start = p.start; region = rw a (omega arith, q.1, q.2) }
    placed-step (at-end h (adjust-frame a l)) = placed-top _

  pub placed-after : (s : Scan) → Placed r s → (n : ℕ) → Placed r (iterate (next_of r) n s)
  placed-after s p n = iterate-keeps (next_of r) (Placed r) (λ z q. placed-step z q (step r z)) n s p
