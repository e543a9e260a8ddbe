-- A setting's registers are what register writes leave. Assumes nothing.
use Prim.Native.Nat.{ℕ, zero, suc, ◌≤◌}
use mathlib.Core.Path.{◌≡◌, refl, ap, sym, ◌∙◌}
use mathlib.Core.List.{List, map}
use native.Mathlib.Numerals.{add-one}
use native.Mathlib.Omega.{arith}
use lib.ListN.{length, get_or}
use Rattle.basics.specs.Count.{count}
use Rattle.basics.proofs.Counting.{length-each, each_at}
use Rattle.basics.proofs.Filling.{filled, fill_none, fill-next, fill-all}
use Rattle.raster.specs.Widths.{RegistersWithin}
use Rattle.raster.specs.declared.registers.Registers.{Registers}
use Rattle.controller.specs.Chip.{arrived_of}
use Rattle.controller.specs.Writes.{kept_of}
use Rattle.controller.specs.declared.chip.Controller.{Controller}
use Rattle.controller.proofs.Keeping.{reset-arrived, arrived-regs}
use Rattle.controller.proofs.Writing.{kept-lt, write-pair}
use Rattle.setting.specs.Setting.{bytes, cut_of, setting_of, started_of}
use Rattle.setting.specs.Writes.{pairs_of, ByWrites}

module _ (given : List ℕ) where
  abbrev keeps : ℕ → ℕ
  keeps k = kept_of k (get_or given k 0)

  -- what the registers hold when n of them are written
  held_after : (c : Controller) (n : ℕ) → length c.regs.held ≡ bytes → n ≤ bytes → (pairs_of given n c).regs.held ≡ filled c.regs.held keeps n
  unfolding pairs_of
  held_after c zero w h = fill_none c.regs.held keeps
  held_after c (suc n) w h =
      ap (λ (r : Registers). r.held) (write-pair (pairs_of given n c) n (get_or given n 0) (omega arith))
      ∙ rw (held_after c n w (omega arith)) (fill-next c.regs.held keeps n (keeps n) (omega arith) refl)
      ∙ ap (filled c.regs.held keeps) (add-one n)

  -- all of them written: R15 is the last, and so the one that is named
  all-written : (c : Controller) → length c.regs.held ≡ bytes → (pairs_of given bytes c).regs ≡ setting_of given
  unfolding setting_of cut_of pairs_of
  all-written c w =
      let last = write-pair (pairs_of given 15 c) 15 (get_or given 15 0) (omega arith) in
      let held : (pairs_of given bytes c).regs.held ≡ map keeps (count 0 bytes) = held_after c bytes w (omega arith) ∙ fill-all c.regs.held keeps bytes w in
      last ∙ ap (λ (h : List ℕ). record { held = h; named = 15 }) (sym (ap (λ (r : Registers). r.held) last) ∙ held)

  setting-within : RegistersWithin (setting_of given)
  unfolding setting_of cut_of
  setting-within = record {
    sixteen = length-each keeps bytes;
    each = λ k h. rw (each_at keeps 0 bytes k h) (kept-lt k (get_or given k 0));
    named = omega arith;
  }

-- the controller that a setting starts has its registers
pub started-regs : (given : List ℕ) → (started_of given).regs ≡ setting_of given
unfolding started_of
started-regs given = arrived-regs (setting_of given)

pub by-writes : (given : List ℕ) → ByWrites given
unfolding started_of
by-writes given = record {
  started = λ c w. reset-arrived (pairs_of given bytes c) ∙ ap arrived_of (all-written given c w);
  registers = started-regs given;
  within = setting-within given;
}
