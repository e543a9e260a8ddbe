-- Where the scan is t character times after a reset: a place is told by the number of its line in its frame, its column and its field, and
-- the first two by the number of its character time. Assumes nothing.
use Prim.Native.Nat.{ℕ, ◌+◌, ◌*◌, ◌-◌, ◌%◌, ◌/◌, ◌<◌, ◌≤◌}
use mathlib.Core.Path.{◌≡◌, ap, sym, ◌∙◌}
use mathlib.Core.Bool.{Bool, true, false}
use native.Mathlib.Nat.{mod-eq_of_lt}
use native.Mathlib.Omega.{arith}
use lib.Arith.{digits_lt, digits_div, digits_mod}
use borrow.Author.Tests.{lt-ltb, le-ltb}
use Rattle.basics.specs.Choice.{when◌then◌else◌}
use Rattle.basics.specs.Iterate.{iterate}
use Rattle.raster.specs.Registers.{reg, start_of}
use Rattle.raster.specs.Scan.{top_of, next_of}
use Rattle.raster.specs.declared.registers.Registers.{Registers}
use Rattle.raster.specs.declared.scan.Scan.{Scan}
use Rattle.frames.specs.Places.{row_lines, frame_times, Region, Placed, scan_on, scan_at}
use Rattle.frames.proofs.Placing.{Narrow, placed-top, placed-after}
use Rattle.frames.proofs.Times.{line_no, time_no, time-after}

-- a place of the first frame, by its line; a line of the rows, and an adjust line
module _ (r : Registers) where
  pub at-within : (t : ℕ) → t < frame_times r → scan_at r t ≡ scan_on r (t / (reg r 0 + 1)) (t % (reg r 0 + 1)) (t / frame_times r % 32)
  unfolding scan_at
  at-within t h = rw (mod-eq_of_lt h)

  module _ (line column field : ℕ) where
    pub on-rows : line < row_lines r → ((scan_on r line column field).adjusting ≡ false) × ((scan_on r line column field).row ≡ line / (reg r 9 + 1)) × ((scan_on r line column field).column ≡ column)
    unfolding scan_on when◌then◌else◌
    on-rows h = (rw (lt-ltb line (row_lines r) h), rw (lt-ltb line (row_lines r) h), rw (lt-ltb line (row_lines r) h))

    pub on-adjust : row_lines r ≤ line → (scan_on r line column field).adjusting ≡ true
    unfolding scan_on when◌then◌else◌
    on-adjust h = rw (le-ltb line (row_lines r) h)

-- all of a place but its column, start and field
abbrev at : Registers → (line row base column field : ℕ) → Bool → Scan
at r line row base column field adjusting =
    record { column = column; line = line; row = row; base = base; start = start_of r; field = field; adjusting = adjusting }

place_is : (r : Registers) (line row base column field : ℕ) (b : Bool) → Region r line row base b
    → at r line row base column field b ≡ scan_on r (line_no r line row b) column field
unfolding scan_on line_no when◌then◌else◌
place_is r line row base column field false q =
    let n = row * (reg r 9 + 1) + line in
    let less : line < reg r 9 + 1 = omega arith in
    let in_rows : n < row_lines r = digits_lt {q = row} {m = reg r 4 + 1} {r = line} {c = reg r 9 + 1} (omega arith) less in
    rw (lt-ltb n (row_lines r) in_rows, digits_div row less, digits_mod row less, q.2)
place_is r line row base column field true q =
    let behind : row_lines r + line - row_lines r ≡ line = omega arith in
    rw (le-ltb (row_lines r + line) (row_lines r) (omega arith), behind, q.1, q.2)

scan-is : (r : Registers) (s : Scan) → Placed r s → s ≡ scan_on r (line_no r s.line s.row s.adjusting) s.column s.field
scan-is r s p =
    ap (λ (start : ℕ). record { column = s.column; line = s.line; row = s.row; base = s.base; start = start; field = s.field; adjusting = s.adjusting }) p.start
    ∙ place_is r s.line s.row s.base s.column s.field s.adjusting p.region

module _ (r : Registers) (w : Narrow r) (fields : (t : ℕ) → (iterate (next_of r) t (top_of r 0)).field ≡ (t / frame_times r) % 32) where
  pub scan-at : (t : ℕ) → iterate (next_of r) t (top_of r 0) ≡ scan_at r t
  unfolding scan_at time_no
  scan-at t =
      let s = iterate (next_of r) t (top_of r 0) in
      let p = placed-after r w (top_of r 0) (placed-top r w 0) t in
      let n = line_no r s.line s.row s.adjusting in
      let time : n * (reg r 0 + 1) + s.column ≡ t % frame_times r = time-after r w 0 t in
      let line : n ≡ t % frame_times r / (reg r 0 + 1) = sym (digits_div n (omega (arith, p.column))) ∙ ap (λ (u : ℕ). u / (reg r 0 + 1)) time in
      let column : s.column ≡ t % frame_times r % (reg r 0 + 1) = sym (digits_mod n (omega (arith, p.column))) ∙ ap (λ (u : ℕ). u % (reg r 0 + 1)) time in
      scan-is r s p
      ∙ ap (λ (k : ℕ). scan_on r k s.column s.field) line
      ∙ ap (λ (k : ℕ). scan_on r (t % frame_times r / (reg r 0 + 1)) k s.field) column
      ∙ ap (scan_on r (t % frame_times r / (reg r 0 + 1)) (t % frame_times r % (reg r 0 + 1))) (fields t)
