-- What the locator's answer goes by, and the cell of a picture strike. Assumes nothing.
use Rattle.std.proofs.Common.{◌≡◌, ◌≤◌, Bool, true, false, eqb, ◌⊎◌, refl, ap, ◌∙◌, ap₂, inl, inr, eqb-true, Err}
use borrow.Author.Tests.{eqb-false}
use Rattle.basics.specs.Choice.{when◌then◌else◌}
use Rattle.raster.specs.Registers.{reg, start_of, row_base_of}
use Rattle.raster.specs.declared.registers.Registers.{Registers}
use Rattle.raster.specs.declared.scan.Scan.{Scan}
use Rattle.facts.specs.Facts.{picture_of, latch_of}
use Rattle.raster.proofs.Fields.{in_field}
use Rattle.facts.proofs.Addresses.{in-picture}
use Rattle.facts.proofs.Latching.{latch-field}
use Rattle.pen.specs.Pen.{holds_of, newest_of}
use Rattle.controller.specs.declared.chip.Controller.{Controller}
use Rattle.pen.specs.declared.pen.Strike.{Strike}
use Rattle.locator.specs.Cells.{IsCell, cell_at, cell_scan_of, cell_latch_of, fits_of, fit_of}
use Rattle.locator.specs.Locate.{named_of, strike_found_of, locate_of}
use Rattle.locator.specs.declared.answer.Unlocated.TheVariants.{Unstruck, Outside}
use Rattle.locator.specs.declared.cells.Cell.{Cell}
use Rattle.locator.proofs.Lines.{line-fit}

-- registers, whether a strike is held, and which is the newest
pub locate-alike : (c d : Controller) → c.regs ≡ d.regs → holds_of c.pen ≡ holds_of d.pen → newest_of c.pen ≡ newest_of d.pen → locate_of c ≡ locate_of d
unfolding locate_of
locate-alike c d r h n = rw (r, h, n)

module _ (c : Controller) where
  pub locate-none : holds_of c.pen ≡ false → locate_of c ≡ Err Unstruck
  unfolding locate_of when◌then◌else◌
  locate-none h = rw h

  pub locate-newest : holds_of c.pen ≡ true → locate_of c ≡ strike_found_of c.regs (newest_of c.pen)
  unfolding locate_of when◌then◌else◌
  locate-newest h = rw h

module _ (r : Registers) (s : Strike) where
  pub found_inside : s.inside ≡ true → strike_found_of r s ≡ named_of (fit_of r s.latch)
  unfolding strike_found_of when◌then◌else◌
  found_inside h = rw h

  pub found-outside : s.inside ≡ false → strike_found_of r s ≡ Err Outside
  unfolding strike_found_of when◌then◌else◌
  found-outside h = rw h

-- the cell of a place in the picture, and that it fits what a strike there latches
pub picture-cell : (r : Registers) (s : Scan) → picture_of r s ≡ true → s.row ≤ reg r 4 → s.column ≤ reg r 0 → IsCell r (cell_at s.row s.column)
picture-cell r s e w c = let p = in-picture r s e in record { row< = p.row; row≤ = w; column< = p.column; column≤ = c }

pub own-fits : (r : Registers) (s : Scan) → s.adjusting ≡ false → s.line ≤ reg r 9 → s.start ≡ start_of r → s.base ≡ row_base_of r s.row
    → fits_of r (latch_of r s) (cell_at s.row s.column) ≡ true
unfolding cell_latch_of
own-fits r s a l t b =
    let c = cell_at s.row s.column in
    let e : cell_scan_of r c s.line ≡ in_field 0 s = rw (a, t, b) in
    line-fit r (latch_of r s) c s.line l (ap (latch_of r) e ∙ latch-field r s 0)

-- two cells are the same, or they are not
pub same-or-other : (c d : Cell) → (c ≡ d) ⊎ (c ≡ d → ⊥)
same-or-other c d = go (eqb c.row d.row) refl (eqb c.column d.column) refl
  where
    go : (a : Bool) → eqb c.row d.row ≡ a → (b : Bool) → eqb c.column d.column ≡ b → (c ≡ d) ⊎ (c ≡ d → ⊥)
    go true p true q = inl (ap₂ cell_at (eqb-true _ _ p) (eqb-true _ _ q))
    go true p false q = inr (λ e. eqb-false _ _ q (ap (λ (x : Cell). x.column) e))
    go false p b q = inr (λ e. eqb-false _ _ p (ap (λ (x : Cell). x.row) e))
