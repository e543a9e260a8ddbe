-- The latch of a strike by where it falls: within a line, and on the lines of a row. Assumes nothing.
use Prim.Native.Nat.{ℕ, ◌+◌, ◌%◌, ◌<◌, ◌≤◌}
use mathlib.Core.Path.{◌≡◌, refl, ap, sym, ◌∙◌}
use mathlib.Core.Bool.{Bool, true, false}
use mathlib.Core.Logic.{◌⊎◌, inl, inr, ⊎_elim}
use native.Mathlib.Omega.{arith}
use lib.Dec.{eqb}
use borrow.Author.Tests.{eqb-true, eqb-false}
use Rattle.basics.specs.Choice.{when◌then◌else◌}
use Rattle.basics.specs.Bits.{word_of, high_of, low_of}
use Rattle.basics.specs.Width.{counted_of}
use Rattle.basics.specs.declared.width.Width.TheVariants.{Five, Eight}
use Rattle.raster.specs.Registers.{reg, by_rows_of}
use Rattle.raster.specs.Scan.{next_of, along_of}
use Rattle.raster.specs.declared.registers.Registers.{Registers}
use Rattle.raster.specs.declared.scan.Scan.{Scan}
use Rattle.raster.proofs.Fields.{in_field, next_field}
use Rattle.raster.proofs.LineEnds.{next-along, next_down}
use Rattle.facts.specs.Facts.{address_of, ma_of, latch_of}

module _ (r : Registers) (s : Scan) where
  -- the field has no part in it
  pub latch-field : (f : ℕ) → latch_of r (in_field f s) ≡ latch_of r s
  unfolding latch_of ma_of
  latch-field f =
      let p = next_field r s f in
      let q = next_field r (next_of r s) p.0 in
      ap (ma_of r) (ap (next_of r) p.1 ∙ q.1)

  module _ (here : s.column ≡ reg r 0 → ⊥) (there : s.column + 1 ≡ reg r 0 → ⊥) (narrow : s.column + 2 < 256) where
    -- where the line goes on for two characters more: the address two columns on, whatever the line
    pub latch-within : latch_of r s ≡ address_of r s.start s.base s.row (s.column + 2)
    unfolding latch_of ma_of
    latch-within =
        let one : counted_of Eight s.column 1 ≡ s.column + 1 = omega arith in
        let e : counted_of Eight (counted_of Eight s.column 1) 1 ≡ s.column + 2 = omega arith in
        ap (ma_of r) (ap (next_of r) (next-along r s here) ∙ next-along r (along_of s) (λ q. there (sym one ∙ q)))
        ∙ ap (address_of r s.start s.base s.row) e

    -- and that is MA and 2, where addresses are counted on from the row's base
    pub latch-linear : by_rows_of r ≡ false → latch_of r s ≡ (ma_of r s + 2) % 16384
    unfolding when◌then◌else◌ address_of ma_of
    latch-linear b = latch-within ∙ rw b (omega arith)

-- two places in rows of one frame whose addresses two columns on are the same have the same address themselves
pub two_back : (r : Registers) (start b c row other x y : ℕ)
    → address_of r start b row (x + 2) ≡ address_of r start c other (y + 2) → address_of r start b row x ≡ address_of r start c other y
unfolding when◌then◌else◌ address_of
two_back r start b c row other x y = go (by_rows_of r)
  where
    go : (t : Bool)
        → (when t then word_of ((high_of start + row) % 64) ((low_of start + (x + 2)) % 256) else (b + (x + 2)) % 16384)
        ≡ (when t then word_of ((high_of start + other) % 64) ((low_of start + (y + 2)) % 256) else (c + (y + 2)) % 16384)
        → (when t then word_of ((high_of start + row) % 64) ((low_of start + x) % 256) else (b + x) % 16384)
        ≡ (when t then word_of ((high_of start + other) % 64) ((low_of start + y) % 256) else (c + y) % 16384)
    go true e = omega arith
    go false e = omega arith

-- the lines of a row that two character times do not lead out of it: they latch alike
module _ (r : Registers) where
  -- another place in the row
  abbrev in_row : Scan → (column line : ℕ) → Scan
  in_row s column line = record {
    column = column;
    line = line;
    row = s.row;
    base = s.base;
    start = s.start;
    field = s.field;
    adjusting = s.adjusting;
  }

  -- the column after a column
  unfoldable turned : ℕ → ℕ
  turned column = when eqb column (reg r 0) then 0 else counted_of Eight column 1

  -- a character time anywhere in the row but at the end of its last line: it turns the column, and the line only at the line's end
  next-in-row : (s : Scan) → s.adjusting ≡ false → (s.column ≡ reg r 0 → s.line ≡ reg r 9 → ⊥)
      → (l : ℕ) × (next_of r s ≡ in_row s (turned s.column) l) × (l ≤ s.line + 1) × ((turned s.column ≡ 0) ⊎ (l ≡ s.line))
  unfolding when◌then◌else◌ turned
  next-in-row s a n = go (eqb s.column (reg r 0)) refl
    where
      go : (t : Bool) → eqb s.column (reg r 0) ≡ t
          → (let column : ℕ = when t then 0 else counted_of Eight s.column 1 in
          (l : ℕ) × (next_of r s ≡ in_row s column l) × (l ≤ s.line + 1) × ((column ≡ 0) ⊎ (l ≡ s.line)))
      go true e = (counted_of Five s.line 1, next_down r s (eqb-true _ _ e) a (n (eqb-true _ _ e)), omega arith, inl refl)
      go false e = (s.line, next-along r s (eqb-false _ _ e), omega arith, inr refl)

  latch-in-row : (s : Scan) → s.adjusting ≡ false → s.line < reg r 9 → (reg r 0 ≡ 0 → s.line + 2 ≤ reg r 9)
      → latch_of r s ≡ address_of r s.start s.base s.row (turned (turned s.column))
  unfolding latch_of ma_of
  latch-in-row s a h k =
      let p = next-in-row s a (λ c e. omega arith) in
      let q =
      next-in-row (in_row s (turned s.column) p.0) a
      (λ c l. ⊎_elim (λ (z : turned s.column ≡ 0). let w = k (sym c ∙ z) in omega arith) (λ (z : p.0 ≡ s.line). omega arith) p.3) in
      ap (ma_of r) (ap (next_of r) p.1 ∙ q.1)

  pub latch-lines : (s : Scan) → s.adjusting ≡ false → (l m : ℕ) → l < reg r 9 → m < reg r 9
      → (reg r 0 ≡ 0 → l + 2 ≤ reg r 9) → (reg r 0 ≡ 0 → m + 2 ≤ reg r 9)
      → latch_of r (in_row s s.column l) ≡ latch_of r (in_row s s.column m)
  latch-lines s a l m h k u v = latch-in-row (in_row s s.column l) a h u ∙ sym (latch-in-row (in_row s s.column m) a k v)
