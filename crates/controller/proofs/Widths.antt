-- Every call keeps a controller within its widths, and power-on begins there. Assumes nothing.
use Prim.Native.Nat.{ℕ, ◌^◌, ◌<◌}
use mathlib.Core.Path.{◌≡◌, refl}
use mathlib.Core.Bool.{Bool, true, false}
use native.Mathlib.Omega.{arith}
use native.Mathlib.Nat.{mod-lt}
use lib.Dec.{eqb, ltb}
use lib.ListN.{get_or, set, length-set, get_or-replicate}
use lib.Pow.{pow_pos}
use lib.Seq.{get_or-set_same, get_or-set_other}
use borrow.Author.Tests.{ltb-true, eqb-true, eqb-false}
use Rattle.basics.proofs.Cases.{if-both}
use Rattle.raster.specs.Registers.{widths}
use Rattle.raster.specs.Scan.{top_of, next_of}
use Rattle.raster.specs.Widths.{RegistersWithin}
use Rattle.raster.specs.declared.registers.Registers.{Registers}
use Rattle.raster.proofs.Widths.{top_within, next-within, arrive-within}
use Rattle.facts.proofs.Addresses.{latch-lt}
use Rattle.controller.specs.Writes.{kept_of, addressed_of, stored_of, written_of}
use Rattle.pen.specs.Pen.{emptied_of}
use Rattle.controller.specs.Chip.{strike_at}
use Rattle.pen.proofs.Pens.{none-latch, struck-newest, emptied-newest}
use Rattle.controller.specs.Chip.{no_sync, no_registers, with_pen, arrived_of, fresh_of, reset_of, write_of, step_of, clock_of, strike_of}
use Rattle.controller.specs.Reads.{read_of}
use Rattle.controller.specs.Widths.{Within}
use Rattle.controller.specs.declared.chip.Controller.{Controller}
use Rattle.controller.proofs.Keeping.{clock-keeps}
use Rattle.controller.proofs.ReadingLaws.{after_read}

-- registers: all zero they are within, and a write leaves them so
zero-within : RegistersWithin no_registers
zero-within = record { sixteen = refl; each = λ k l. rw (get_or-replicate {A = ℕ} 16 k 0 0 l) (pow_pos (get_or widths k 0)); named = omega arith }

module _ (r : Registers) (v : ℕ) (f : RegistersWithin r) where
  stored-each : r.named < 16 → (k : ℕ) → k < 16 → (b : Bool) → eqb k r.named ≡ b →
      get_or (set r.held r.named (kept_of r.named v)) k 0 < 2 ^ get_or widths k 0
  stored-each n k l true e =
      rw (eqb-true k r.named e, get_or-set_same r.held r.named (kept_of r.named v) 0 (rw f.sixteen n))
      (mod-lt v (pow_pos (get_or widths r.named 0)))
  stored-each n k l false e =
      rw (get_or-set_other r.held r.named k (kept_of r.named v) 0 (eqb-false k r.named e)) (f.each k l)

  stored-within : RegistersWithin (stored_of r v)
  unfolding stored_of
  stored-within =
      if-both RegistersWithin (ltb r.named 16) _ _
      (λ t. record {
        sixteen = simp length-set f.sixteen;
        each = λ k l. stored-each (ltb-true r.named 16 t) k l (eqb k r.named) refl;
        named = f.named;
      })
      (λ _. f)

  written-within : (rs : Bool) → RegistersWithin (written_of r rs v)
  unfolding written_of addressed_of
  written-within rs =
      if-both RegistersWithin rs _ _ (λ _. stored-within) (λ _. record { sixteen = f.sixteen; each = f.each; named = omega arith })

arrived-within : (r : Registers) → RegistersWithin r → Within (arrived_of r)
unfolding arrived_of
arrived-within r f = record {
  regs = f;
  scan = top_within r f 0 (omega arith);
  sync = arrive-within r f (top_of r 0) no_sync (record { hsync = omega arith; vsync = omega arith });
  latch = omega (arith, none-latch);
}

pub fresh-within : Within fresh_of
unfolding fresh_of
fresh-within = arrived-within no_registers zero-within

module _ (c : Controller) (f : Within c) where
  pub reset-within : Within (reset_of c)
  unfolding reset_of
  reset-within = arrived-within c.regs f.regs

  pub write-within : (rs : Bool) (v : ℕ) → Within (write_of c rs v)
  unfolding write_of
  write-within rs v = record { regs = written-within c.regs v f.regs rs; scan = f.scan; sync = f.sync; latch = f.latch }

  pub strike-within : Within (strike_of c)
  unfolding strike_of
  strike-within = record { regs = f.regs; scan = f.scan; sync = f.sync; latch = rw (struck-newest c.pen (strike_at c.regs c.scan)) (latch-lt c.regs c.scan) }

  emptied-within : Within (with_pen (emptied_of c.pen) c)
  emptied-within = record { regs = f.regs; scan = f.scan; sync = f.sync; latch = rw (emptied-newest c.pen) f.latch }

  pub read-within : (rs : Bool) → Within (read_of c rs).controller
  read-within rs = after_read Within c f emptied-within rs

step-within : (c : Controller) → Within c → Within (step_of c)
unfolding step_of
step-within c f = record {
  regs = f.regs;
  scan = next-within c.regs f.regs c.scan f.scan;
  sync = arrive-within c.regs f.regs (next_of c.regs c.scan) c.sync f.sync;
  latch = f.latch;
}

pub clock-within : (n : ℕ) (c : Controller) → Within c → Within (clock_of n c)
clock-within = clock-keeps Within step-within
