-- A register named and then written. Assumes nothing.
use Prim.Native.Nat.{ℕ, ◌%◌, ◌^◌, ◌<◌}
use mathlib.Core.Path.{◌≡◌}
use mathlib.Core.Bool.{true, false}
use native.Mathlib.Nat.{mod-lt, mod-eq_of_lt}
use native.Mathlib.Omega.{arith}
use lib.ListN.{get_or, set}
use lib.Pow.{pow_pos}
use borrow.Author.Tests.{lt-ltb}
use Rattle.basics.specs.Choice.{when◌then◌else◌}
use Rattle.raster.specs.Registers.{widths}
use Rattle.raster.specs.declared.registers.Registers.{Registers}
use Rattle.controller.specs.Chip.{write_of}
use Rattle.controller.specs.Writes.{kept_of, addressed_of, stored_of, written_of}
use Rattle.controller.specs.declared.chip.Controller.{Controller}

-- what a register keeps is within its width
pub kept-lt : (k v : ℕ) → kept_of k v < 2 ^ get_or widths k 0
kept-lt k v = mod-lt v (pow_pos (get_or widths k 0))

-- the registers after both writes: that one holds what it keeps of the byte, and is the one named
pub pair-written : (r : Registers) (k v : ℕ) → k < 16
    → written_of (written_of r false k) true v ≡ record { held = set r.held k (kept_of k v); named = k }
unfolding written_of addressed_of stored_of when◌then◌else◌
pair-written r k v h =
    let e : k % 32 ≡ k = mod-eq_of_lt (omega arith) in
    rw (e, lt-ltb k 16 h)

-- so of the controller
pub write-pair : (c : Controller) (k v : ℕ) → k < 16
    → (write_of (write_of c false k) true v).regs ≡ record { held = set c.regs.held k (kept_of k v); named = k }
unfolding write_of
write-pair c k v h = pair-written c.regs k v h
