-- The line's last two columns latch the first or the second address of a line: of their own row's, of the next row's, or of a new frame's.
-- Assumes nothing.
use Rattle.std.proofs.Common.{◌≡◌, ℕ, ◌+◌, ◌%◌, ◌<◌, ◌≤◌, Bool, true, false, ◌&&◌, ◌||◌, eqb, leb, ◌⊎◌, sym, refl, ap, ◌∙◌, ap₂, inl, inr, ⊎_elim, true≢false, eq-or-lt_of_le, arith, eq-eqb, le-leb}
use Rattle.basics.proofs.Cases.{if_yes, if_no}
use Rattle.basics.specs.Bits.{word_of, high_of, low_of}
use Rattle.basics.specs.Width.{counted_of}
use Rattle.basics.specs.declared.width.Width.TheVariants.{Eight, Fourteen}
use Rattle.raster.specs.Registers.{reg, start_of, row_base_of, by_rows_of}
use Rattle.raster.specs.Scan.{Move, next_of, along_of}
use Rattle.raster.specs.declared.registers.Registers.{Registers}
use Rattle.raster.specs.declared.scan.Scan.{Scan}
use Rattle.raster.proofs.LineEnds.{line-down, row-down, to-adjust, to-frame, adjust-down, adjust-frame, Step, in-line, at-end, step, next-along}
use Rattle.facts.specs.Facts.{address_of, ma_of, latch_of}
use Rattle.locator.specs.Cells.{cell_at, cell_scan_of, cell_latch_of, fits_of}
use Rattle.locator.specs.private.Search.{from_base_of, from_low_of}
use Rattle.locator.proofs.Lines.{or_left, or_right, fit_line}

-- how the code asks for them
abbrev pub near : ℕ → ℕ → Bool
near b latch = leb 16382 (from_base_of b latch)

by-base : (b k latch : ℕ) → k ≤ 1 → (b + k) % 16384 ≡ latch → 16382 ≤ from_base_of b latch
by-base b k latch h e = omega arith

by-low : (high start k latch : ℕ) → k ≤ 1 → word_of high ((low_of start + k) % 256) ≡ latch → 254 ≤ from_low_of start latch
by-low high start k latch h e = omega arith

both : {t u : Bool} → t ≡ true → u ≡ true → (t && u) ≡ true
both p q = rw (p, q)

module _ (r : Registers) (row : ℕ) where
  -- an address that the first line behind the row's lines may begin with
  Begins : ℕ → Type 0
  Begins b = (b ≡ row_base_of r row) ⊎ ((b ≡ counted_of Fourteen (row_base_of r row) (reg r 1)) ⊎ ((row ≡ reg r 4) × (b ≡ start_of r)))

  abbrev own : ℕ → Bool
  own = near (row_base_of r row)

  abbrev next : ℕ → Bool
  next = near (counted_of Fourteen (row_base_of r row) (reg r 1))

  abbrev new : ℕ → Bool
  new latch = eqb row (reg r 4) && near (start_of r) latch

  abbrev pub any_near : ℕ → Bool
  any_near latch = own latch || next latch || new latch

  one-near : (latch b : ℕ) → Begins b → near b latch ≡ true → any_near latch ≡ true
  unfolding Begins
  one-near latch b (inl p) e = or_left (own latch || next latch) (new latch) (or_left (own latch) (next latch) (ap (λ (y : ℕ). near y latch) (sym p) ∙ e))
  one-near latch b (inr (inl p)) e = or_left (own latch || next latch) (new latch) (or_right (own latch) (next latch) (ap (λ (y : ℕ). near y latch) (sym p) ∙ e))
  one-near latch b (inr (inr p)) e =
      or_right (own latch || next latch) (new latch) (both (eq-eqb row (reg r 4) p.0) (ap (λ (y : ℕ). near y latch) (sym p.1) ∙ e))

  -- behind a line of the row
  record Behind (z : Scan) : Type 0 where
    pub column : z.column ≡ 0
    pub start : z.start ≡ start_of r
    pub base : Begins z.base

  behind : (s : Scan) → s.column ≡ reg r 0 → s.row ≡ row → s.base ≡ row_base_of r row → s.start ≡ start_of r → s.adjusting ≡ false → Behind (next_of r s)
  unfolding Begins
  behind s c w b t a = go (step r s)
    where
      next : counted_of Fourteen s.base (reg r 1) ≡ counted_of Fourteen (row_base_of r row) (reg r 1)
      next = ap (λ (x : ℕ). counted_of Fourteen x (reg r 1)) b

      go : {m : Move} {z : Scan} → Step r s m z → Behind z
      go (in-line h) = absurd (h c)
      go (at-end _ (line-down _ _)) = record { column = refl; start = t; base = inl b }
      go (at-end _ (row-down _ _ _)) = record { column = refl; start = t; base = inr (inl next) }
      go (at-end _ (to-adjust _ _ _ _)) = record { column = refl; start = t; base = inr (inl next) }
      go (at-end _ (to-frame _ _ e _)) = record { column = refl; start = refl; base = inr (inr (sym w ∙ e, refl)) }
      go (at-end _ (adjust-down e _)) = absurd (true≢false (sym e ∙ a))
      go (at-end _ (adjust-frame e _)) = absurd (true≢false (sym e ∙ a))

  -- so one of the last two columns latches there, at the first column or the second
  record Latched (latch : ℕ) : Type 0 where
    pub place : Scan
    pub at : Behind place
    pub column : ℕ
    pub column≤ : column ≤ 1
    pub address : address_of r (start_of r) place.base place.row column ≡ latch

  shown : (z : Scan) → Behind z → (latch : ℕ) → ma_of r z ≡ latch → Latched latch
  unfolding ma_of
  shown z q latch e = record {
    place = z;
    at = q;
    column = 0;
    column≤ = omega arith;
    address = ap₂ (λ (t k : ℕ). address_of r t z.base z.row k) (sym q.start) (sym q.column) ∙ e;
  }

  module _ (wide : reg r 0 ≡ 0 → ⊥) (narrow : reg r 0 < 256) where
    -- one time behind the line's end, and two times
    shown-next : (z : Scan) → Behind z → (latch : ℕ) → ma_of r (next_of r z) ≡ latch → Latched latch
    unfolding ma_of
    shown-next z q latch e = record {
      place = z;
      at = q;
      column = counted_of Eight 0 1;
      column≤ = omega arith;
      address = ap₂ (λ (t k : ℕ). address_of r t z.base z.row (counted_of Eight k 1)) (sym q.start) (sym q.column)
          ∙ sym (ap (ma_of r) (next-along r z (λ p. wide (sym p ∙ q.column)))) ∙ e;
    }

    latched : (x line latch : ℕ) → x ≤ reg r 0 → reg r 0 < x + 2 → cell_latch_of r (cell_at row x) line ≡ latch → Latched latch
    unfolding cell_latch_of latch_of
    latched x line latch h k e =
        ⊎_elim
        (λ (p : x ≡ reg r 0). shown-next (next_of r s) (behind s p refl refl refl refl) latch e)
        (λ (p : x < reg r 0).
        let n : counted_of Eight x 1 ≡ reg r 0 = omega arith in
        let along = next-along r s (λ q. omega arith) in
        shown (next_of r (along_of s)) (behind (along_of s) n refl refl refl refl) latch (sym (ap (λ (z : Scan). ma_of r (next_of r z)) along) ∙ e))
        (eq-or-lt_of_le h)
      where
        s : Scan
        s = cell_scan_of r (cell_at row x) line

    module _ (x latch : ℕ) (h : x ≤ reg r 0) (k : reg r 0 < x + 2) (fits : fits_of r latch (cell_at row x) ≡ true) where
      found : Latched latch
      found = let q = fit_line r latch (cell_at row x) fits in latched x q.0 latch h k q.2

      -- by rows the low byte tells
      pub low_near : by_rows_of r ≡ true → leb 254 (from_low_of (start_of r) latch) ≡ true
      unfolding address_of
      low_near b =
          let q = found in
          le-leb _ _ (by-low ((high_of (start_of r) + q.place.row) % 64) (start_of r) q.column latch q.column≤ (if_yes (by_rows_of r) _ _ _ b refl ∙ q.address))

      -- and else one of the three addresses
      pub base-near : by_rows_of r ≡ false → any_near latch ≡ true
      unfolding address_of
      base-near b =
          let q = found in
          one-near latch q.place.base q.at.base
          (le-leb _ _ (by-base q.place.base q.column latch q.column≤ (if_no (by_rows_of r) _ _ _ b refl ∙ q.address)))
