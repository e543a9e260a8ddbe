-- A cell fits by one of its lines, and two or three of them tell of all. Assumes nothing.
use Rattle.std.proofs.Common.{◌≡◌, ℕ, zero, suc, ◌+◌, ◌-◌, ◌<◌, ◌≤◌, Bool, true, false, ◌||◌, ◌⊎◌, sym, refl, ap, ◌∙◌, inl, inr, ⊎_elim, eq-or-lt_of_le, arith, eq-eqb, eqb-true}
use mathlib.Core.Bool.{false≢true}
use Rattle.basics.specs.Count.{count}
use Rattle.basics.proofs.Tests.{lt-or-ge}
use Rattle.raster.specs.Registers.{reg, start_of, row_base_of}
use Rattle.raster.specs.declared.registers.Registers.{Registers}
use Rattle.facts.specs.Facts.{address_of}
use Rattle.facts.proofs.Latching.{latch-within, latch-lines}
use Rattle.locator.specs.Cells.{cell_scan_of, cell_latch_of, any_of, fits_of}
use Rattle.locator.specs.private.Search.{line_fits_of}
use Rattle.locator.specs.declared.cells.Cell.{Cell}

-- tests joined by or
either : (t u : Bool) → (t || u) ≡ true → (t ≡ true) ⊎ (u ≡ true)
either true u e = inl refl
either false u e = inr e

pub or_left : (t u : Bool) → t ≡ true → (t || u) ≡ true
or_left true u e = refl
or_left false u e = absurd (false≢true e)

pub or_right : (t u : Bool) → u ≡ true → (t || u) ≡ true
or_right true u e = refl
or_right false u e = e

same_test : (t u : Bool) → (t ≡ true → u ≡ true) → (u ≡ true → t ≡ true) → t ≡ u
same_test true u f g = sym (f refl)
same_test false true f g = g refl
same_test false false f g = refl

-- one of the numbers in a row passes
module _ (f : ℕ → Bool) where
  any-number : (a n : ℕ) → any_of f (count a n) ≡ true → (x : ℕ) × (a ≤ x) × (x < a + n) × (f x ≡ true)
  unfolding any_of count
  any-number a zero e = absurd (false≢true e)
  any-number a (suc n) e =
      ⊎_elim
      (λ (p : f a ≡ true). (a, omega arith, omega arith, p))
      (λ p. let q = any-number (suc a) n p in (q.0, omega arith, omega arith, q.3))
      (either (f a) (any_of f (count (suc a) n)) e)

  number-any : (a n x : ℕ) → a ≤ x → x < a + n → f x ≡ true → any_of f (count a n) ≡ true
  unfolding any_of count
  number-any a zero x h k e = absurd (omega arith)
  number-any a (suc n) x h k e =
      ⊎_elim
      (λ (p : a ≡ x). or_left (f a) (any_of f (count (suc a) n)) (ap f p ∙ e))
      (λ (p : a < x). or_right (f a) (any_of f (count (suc a) n)) (number-any (suc a) n x p (omega arith) e))
      (eq-or-lt_of_le h)

module _ (r : Registers) (latch : ℕ) (c : Cell) where
  abbrev on : ℕ → Bool
  on = line_fits_of r latch c

  leaves : (line : ℕ) → on line ≡ true → cell_latch_of r c line ≡ latch
  unfolding line_fits_of
  leaves line e = eqb-true (cell_latch_of r c line) latch e

  pub fit_line : fits_of r latch c ≡ true → (line : ℕ) × (line ≤ reg r 9) × (cell_latch_of r c line ≡ latch)
  unfolding fits_of line_fits_of
  fit_line e = let q = any-number on 0 (reg r 9 + 1) e in (q.0, omega arith, leaves q.0 q.3)

  fitting : (line : ℕ) → line ≤ reg r 9 → on line ≡ true → fits_of r latch c ≡ true
  unfolding fits_of line_fits_of
  fitting line h e = number-any on 0 (reg r 9 + 1) line (omega arith) (omega arith) e

  pub line-fit : (line : ℕ) → line ≤ reg r 9 → cell_latch_of r c line ≡ latch → fits_of r latch c ≡ true
  unfolding line_fits_of
  line-fit line h e = fitting line h (eq-eqb _ _ e)

  same_line : (l m : ℕ) → cell_latch_of r c l ≡ cell_latch_of r c m → on l ≡ true → on m ≡ true
  unfolding line_fits_of
  same_line l m e p = eq-eqb _ _ (sym e ∙ leaves l p)

  -- two or more columns before the line's end all lines latch alike, so the first tells
  module _ (within : c.column + 2 ≤ reg r 0) (narrow : c.column + 2 < 256) where
    pub two-columns-on : (line : ℕ) → cell_latch_of r c line ≡ address_of r (start_of r) (row_base_of r c.row) c.row (c.column + 2)
    unfolding cell_latch_of
    two-columns-on line = latch-within r (cell_scan_of r c line) (λ e. omega arith) (λ e. omega arith) narrow

    pub first-line : fits_of r latch c ≡ on 0
    unfolding line_fits_of
    first-line =
        same_test (fits_of r latch c) (on 0)
        (λ e. let q = fit_line e in same_line q.0 0 (two-columns-on q.0 ∙ sym (two-columns-on 0)) (eq-eqb _ _ q.2))
        (λ e. fitting 0 (omega arith) e)

  -- lines that two character times do not lead out of the row latch alike: those before the last, or, where a line has one character, two
  -- or more before it
  alike : (l m : ℕ) → l < reg r 9 → m < reg r 9 → (reg r 0 ≡ 0 → l + 2 ≤ reg r 9) → (reg r 0 ≡ 0 → m + 2 ≤ reg r 9) → on l ≡ true → on m ≡ true
  unfolding cell_latch_of
  alike l m h k u v = same_line l m (latch-lines r (cell_scan_of r c 0) refl l m h k u v)

  -- so the last line and the one before it tell of all, but for the first where a line has one character
  abbrev near : Bool
  near = on (reg r 9 - 1) || on (reg r 9)

  near-fit : near ≡ true → fits_of r latch c ≡ true
  near-fit e = ⊎_elim (fitting (reg r 9 - 1) (omega arith)) (fitting (reg r 9) (omega arith)) (either (on (reg r 9 - 1)) (on (reg r 9)) e)

  by_last : (line : ℕ) → line ≤ reg r 9 → on line ≡ true → (line < reg r 9 → on (reg r 9 - 1) ≡ true) → near ≡ true
  by_last line h e f =
      ⊎_elim
      (λ (p : line ≡ reg r 9). or_right (on (reg r 9 - 1)) (on (reg r 9)) (ap on (sym p) ∙ e))
      (λ (p : line < reg r 9). or_left (on (reg r 9 - 1)) (on (reg r 9)) (f p))
      (eq-or-lt_of_le h)

  pub two-lines : (reg r 0 ≡ 0 → ⊥) → fits_of r latch c ≡ near
  unfolding line_fits_of
  two-lines n =
      same_test (fits_of r latch c) near
      (λ e.
      let q = fit_line e in
      let o = eq-eqb (cell_latch_of r c q.0) latch q.2 in
      by_last q.0 q.1 o (λ p. alike q.0 (reg r 9 - 1) p (omega arith) (λ z. absurd (n z)) (λ z. absurd (n z)) o))
      near-fit

  of_three : (line : ℕ) → line ≤ reg r 9 → on line ≡ true → (line + 2 ≤ reg r 9) ⊎ (reg r 9 < line + 2) → (near || on 0) ≡ true
  of_three line h e (inl p) = or_right near (on 0) (alike line 0 (omega arith) (omega arith) (λ z. p) (λ z. omega arith) e)
  of_three line h e (inr p) =
      or_left near (on 0) (by_last line h e (λ q. let z : line ≡ reg r 9 - 1 = omega arith in ap on (sym z) ∙ e))

  pub three-lines : fits_of r latch c ≡ (near || on 0)
  unfolding line_fits_of
  three-lines =
      same_test (fits_of r latch c) (near || on 0)
      (λ e.
      let q = fit_line e in
      of_three q.0 q.1 (eq-eqb _ _ q.2) (⊎_elim (λ (p : reg r 9 < q.0 + 2). inr p) (λ (p : q.0 + 2 ≤ reg r 9). inl p) (lt-or-ge (reg r 9) (q.0 + 2))))
      (λ e. ⊎_elim near-fit (fitting 0 (omega arith)) (either near (on 0) e))
