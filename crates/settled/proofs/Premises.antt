-- The premises of demand 3, met by settled cases and in their settings. Assumes nothing.
use Prim.Native.Nat.{ℕ, ◌+◌, ◌*◌, ◌/◌, ◌%◌, ◌≤◌, ◌<◌}
use mathlib.Core.Path.{◌≡◌, refl, ap, ap₂, sym, ◌∙◌}
use mathlib.Core.Bool.{true}
use mathlib.Core.List.{[]}
use native.Mathlib.Omega.{arith}
use lib.Dec.{lit<}
use Rattle.basics.specs.Choice.{when◌then◌else◌}
use Rattle.basics.specs.Count.{count}
use Rattle.basics.specs.Iterate.{iterate}
use Rattle.raster.specs.Scan.{line_end_of, move_of, moved_of, next_of}
use Rattle.facts.specs.Facts.{picture_of, address_of, ma_of, latch_of}
use Rattle.controller.specs.Chip.{arrived_of, fresh_of, reset_of, write_of, step_of, clock_of, strike_of}
use Rattle.pen.specs.Pen.{no_pen, struck_of, emptied_of, holds_of, newest_of, unread_of}
use Rattle.controller.specs.Reads.{after_read_of, register_read_of, read_of}
use Rattle.controller.specs.Writes.{addressed_of, stored_of, written_of}
use Rattle.frames.specs.Calls.{after_call, after_calls, after_wait, after_act, after_acts}
use Rattle.locator.specs.Cells.{cell_at, cells_from, cell_address_of, cell_latch_of, any_of, fits_of, keep, the_fit, fit_of}
use Rattle.locator.specs.Locate.{refusal_of, named_of, strike_found_of, locate_of}
use Rattle.locator.specs.declared.cells.Cell.{Cell}
use Rattle.demand.specs.Demand.{struck_at, answer_to, Rival, OneCellEach}
use Rattle.demand.proofs.Demand.{demand3-reached}
use Rattle.settled.specs.Cases as cases
use Rattle.settled.specs.Cases.{writes_of, in_a}
use Rattle.settled.specs.Premises.{A, waited, Premises}

-- case d is answered with a cell
d-number : refusal_of (answer_to A (waited 1) []) ≡ 0
unfolding when◌then◌else◌ iterate line_end_of move_of moved_of next_of picture_of address_of ma_of latch_of arrived_of fresh_of reset_of write_of step_of clock_of strike_of addressed_of stored_of written_of after_call after_calls after_wait after_act after_acts count cells_from cell_latch_of any_of fits_of keep the_fit fit_of named_of strike_found_of locate_of no_pen struck_of holds_of newest_of cases.written_of
d-number = refl

d-inside : picture_of A.regs (struck_at A (waited 1)) ≡ true
unfolding when◌then◌else◌ iterate line_end_of move_of moved_of next_of picture_of arrived_of fresh_of reset_of write_of step_of clock_of addressed_of stored_of written_of after_call after_calls after_wait after_act after_acts cases.written_of
d-inside = refl

-- so it has no rival: with one, demand 3 would have it refused with 8
d-alone : (d : Cell) → Rival A (struck_at A (waited 1)) d → ⊥
unfolding cases.written_of
d-alone d v =
    let e : ◌≡◌ {A = ℕ} 0 8 = sym d-number ∙ (demand3-reached (writes_of (in_a 0 0))).shared (waited 1) [] d-inside d v in absurd (omega arith)

-- no two cells of setting A have one address, since an address of two columns to the row tells both
told-apart : (a b x y : ℕ) → x < 2 → y < 2 → a * 2 + x ≡ b * 2 + y → (a ≡ b) × (x ≡ y)
told-apart a b x y p q e =
    let halves : (a * 2 + x) / 2 ≡ (b * 2 + y) / 2 = ap (λ (n : ℕ). n / 2) e in
    let rows : a ≡ b = omega arith in (rows, omega arith)

unwrapped : (a x : ℕ) → a ≤ 1 → x < 2 → ((0 + a * 2) % 16384 + x) % 16384 ≡ a * 2 + x
unwrapped a x p q = omega arith

one_each : OneCellEach A.regs
unfolding when◌then◌else◌ address_of ma_of arrived_of fresh_of write_of addressed_of stored_of written_of after_call after_calls cell_address_of cases.written_of
one_each c d i j e =
    let q =
    told-apart c.row d.row c.column d.column i.column< j.column<
    (sym (unwrapped c.row c.column i.row≤ i.column<) ∙ e ∙ unwrapped d.row d.column j.row≤ j.column<) in
    ap₂ cell_at q.0 q.1

pub premises : Premises
unfolding when◌then◌else◌ iterate line_end_of move_of moved_of next_of picture_of address_of ma_of latch_of arrived_of fresh_of reset_of write_of step_of clock_of strike_of addressed_of stored_of written_of emptied_of unread_of struck_of no_pen after_read_of register_read_of read_of after_call after_calls after_wait after_act after_acts count cell_latch_of any_of fits_of cases.written_of
premises = record {
  inside = d-inside;
  alone = d-alone;
  outside = refl;
  cell = record { row< = lit< tt; row≤ = omega arith; column< = lit< tt; column≤ = omega arith };
  shares = refl;
  short = omega arith;
  one_each = one_each;
  inside_too = refl;
  rival = record {
    cell = record { row< = lit< tt; row≤ = lit< tt; column< = lit< tt; column≤ = lit< tt };
    fits = refl;
    other = λ e. let z : ◌≡◌ {A = ℕ} 126 0 = ap (λ (c : Cell). c.row) e in absurd (omega arith);
  };
  full = refl;
  emptied = refl;
  settings = λ v0 v1 v2 v3 v4 v5 v6 v7 v8 v9 v10 v11 v12 v13 v14 v15. refl;
}
