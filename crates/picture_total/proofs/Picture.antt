-- The picture total: a character time's number in its frame gives its line and its column, so the total is a sum over lines and columns.
-- Assumes nothing.
use Prim.Native.Nat.{ℕ, ◌+◌, ◌*◌, ◌/◌, ◌%◌, ◌<◌, ◌≤◌}
use mathlib.Core.Path.{◌≡◌, ap, ap₂, sym, subst, ◌∙◌}
use mathlib.Core.Bool.{Bool, true, false, ◌&&◌}
use mathlib.Core.List.{List}
use mathlib.Core.Logic.{◌↔◌, ⊎_elim}
use native.Mathlib.Nat.{mul-le-mul_right, mul_comm, mul_assoc, zero-mul, min-eq_left, one-mul, suc-mul, div-lt_iff_lt-mul}
use native.Mathlib.Omega.{arith}
use lib.Dec.{ltb}
use borrow.Author.Tests.{lt-ltb, le-ltb}
use Rattle.basics.specs.Bits.{num}
use Rattle.basics.proofs.Tests.{lt-or-ge}
use Rattle.raster.specs.Registers.{reg}
use Rattle.raster.specs.declared.registers.Registers.{Registers}
use Rattle.raster.specs.declared.scan.Scan.{Scan}
use Rattle.facts.specs.Facts.{picture_of}
use Rattle.facts.proofs.Parts.{picture-running, picture-adjusting}
use Rattle.controller.specs.Chip.{arrived_of, reset_of, clock_of}
use Rattle.controller.specs.declared.chip.Controller.{Controller}
use Rattle.controller.proofs.Keeping.{clock-scan, reset-arrived, arrived-regs}
use Rattle.frames.specs.Frames.{begins_at, Frames}
use Rattle.frames.specs.Places.{row_lines, frame_times, scan_on, scan_at}
use Rattle.frames.proofs.Frames.{frames}
use Rattle.frames.proofs.Places.{at-within, on-rows, on-adjust}
use Rattle.locator.specs.Cells.{columns_of, rows_of}
use Rattle.setting.specs.Setting.{setting_of, started_of}
use Rattle.setting.proofs.Writes.{started-regs, by-writes}
use Rattle.tally.specs.Tally.{tally_of}
use Rattle.tally.proofs.Totals.{picture-total}
use Rattle.report.specs.Report.{setting_at}
use Rattle.report.proofs.Reporting.{first-place}
use Rattle.picture_total.specs.Picture.{picture_times, Counted, Reported}
use Rattle.picture_total.proofs.Sums.{up_to, up_same, up-lines, up-below}

num-and : (a b : Bool) → num (a && b) ≡ num a * num b
num-and true b = omega arith
num-and false b = omega arith

module _ (r : Registers) where
  -- the picture's lines are the first of the frame
  abbrev tall : ℕ
  tall = rows_of r * (reg r 9 + 1)

  -- a line that lies in the picture, by its number in the frame; a column that does
  abbrev of_line : ℕ → ℕ
  of_line i = num (ltb i tall)

  abbrev of_column : ℕ → ℕ
  of_column j = num (ltb j (reg r 1))

  tall-least : tall ≤ row_lines r
  tall-least = mul-le-mul_right {m = rows_of r} {n = reg r 4 + 1} (reg r 9 + 1) (omega arith)

  -- the line with this number is in one of the first n rows
  rows-of-line : (line n : ℕ) → (line / (reg r 9 + 1) < n) ↔ (line < n * (reg r 9 + 1))
  rows-of-line line n = div-lt_iff_lt-mul {k = reg r 9 + 1} {x = line} {y = n} (omega arith)

  -- a line of the rows, by its row
  row_in : (line : ℕ) → line < row_lines r → ltb (line / (reg r 9 + 1)) (reg r 6) ≡ ltb line tall
  row_in line h =
      let row : line / (reg r 9 + 1) < reg r 4 + 1 = (rows-of-line line (reg r 4 + 1)).1 h in
      ⊎_elim
      (λ (l : line / (reg r 9 + 1) < reg r 6). lt-ltb _ _ l ∙ sym (lt-ltb line tall ((rows-of-line line (rows_of r)).0 (omega arith))))
      (λ (l : reg r 6 ≤ line / (reg r 9 + 1)).
      le-ltb _ _ l
      ∙ sym (le-ltb line tall (⊎_elim (λ (b : line < tall). absurd (omega (arith, (rows-of-line line (rows_of r)).1 b))) (λ (b : tall ≤ line). b) (lt-or-ge line tall))))
      (lt-or-ge (line / (reg r 9 + 1)) (reg r 6))

  picture-on : (line column field : ℕ) → num (picture_of r (scan_on r line column field)) ≡ of_line line * of_column column
  picture-on line column field =
      ⊎_elim
      (λ (h : line < row_lines r).
      let s = on-rows r line column field h in
      ap num (picture-running r (scan_on r line column field) s.0)
      ∙ ap₂ (λ (x y : ℕ). num (ltb x (reg r 6) && ltb y (reg r 1))) s.1 s.2
      ∙ num-and (ltb (line / (reg r 9 + 1)) (reg r 6)) (ltb column (reg r 1))
      ∙ ap (λ (b : Bool). num b * of_column column) (row_in line h))
      (λ (h : row_lines r ≤ line).
      ap num (picture-adjusting r (scan_on r line column field) (on-adjust r line column field h))
      ∙ sym (ap (λ (b : Bool). num b * of_column column) (le-ltb line tall (omega (arith, tall-least))) ∙ zero-mul (of_column column)))
      (lt-or-ge line (row_lines r))

  -- so the sum over a frame's times
  sum-of-picture : up_to (λ (t : ℕ). num (picture_of r (scan_at r t))) (frame_times r) ≡ picture_times r
  sum-of-picture =
      let w = reg r 0 + 1 in
      let lines = row_lines r + reg r 5 in
      up_same (λ (t : ℕ). num (picture_of r (scan_at r t))) (λ (t : ℕ). of_line (t / w) * of_column (t % w)) (frame_times r)
      (λ t h. ap (λ (s : Scan). num (picture_of r s)) (at-within r t h) ∙ picture-on (t / w) (t % w) (t / frame_times r % 32))
      ∙ ap (up_to (λ (t : ℕ). of_line (t / w) * of_column (t % w))) (mul_comm w lines)
      ∙ up-lines of_line of_column w lines
      ∙ ap₂ (λ (x y : ℕ). x * y) (up-below tall lines ∙ min-eq_left (omega (arith, tall-least))) (up-below (reg r 1) w)
      ∙ mul_comm tall (columns_of r)
      ∙ sym (mul_assoc (columns_of r) (rows_of r) (reg r 9 + 1))

module _ (given : List ℕ) where
  abbrev c : Controller
  c = started_of given

  -- a reset changes nothing of the controller that a setting starts
  again : reset_of c ≡ c
  unfolding started_of
  again = reset-arrived c ∙ ap arrived_of (arrived-regs (setting_of given))

  framed : Frames c
  framed = frames c (rw (started-regs given) (by-writes given).within)

  scan-after : (t : ℕ) → (clock_of t c).scan ≡ scan_at c.regs t
  scan-after t = clock-scan c t ∙ rw again at (framed.places t)

  picture-of : (tally_of c).picture ≡ picture_times c.regs
  picture-of =
      picture-total c
      ∙ up_same _ (λ (t : ℕ). num (picture_of c.regs (scan_at c.regs t))) (frame_times c.regs) (λ t h. ap (λ (s : Scan). num (picture_of c.regs s)) (scan-after t))
      ∙ sum-of-picture c.regs

  next_of : begins_at c.regs c.scan (frame_times c.regs) ≡ true
  next_of = rw again at ((framed.begins (frame_times c.regs)).1 (0, sym (one-mul (frame_times c.regs))))

  only_of : (t : ℕ) → t < frame_times c.regs → begins_at c.regs c.scan t ≡ true → ⊥
  only_of t h b =
      let q = (framed.begins t).0 (rw again b) in
      omega (arith, suc-mul q.0 (frame_times c.regs), q.1)

  pub counted : Counted given
  counted = record {
    picture = picture-of ∙ ap picture_times (started-regs given);
    next = subst (λ (q : Registers). begins_at q c.scan (frame_times q) ≡ true) (started-regs given) next_of;
    only = subst (λ (q : Registers). (t : ℕ) → t < frame_times q → begins_at q c.scan t ≡ true → ⊥) (started-regs given) only_of;
  }

-- and so in each row of a report
pub reported : (given out : List ℕ) → Reported given out
reported given out z k h = first-place given out z k h ∙ (counted (setting_at given k)).picture
