use Rattle.std.proofs.Common.{◌≡◌, ℕ, sym, refl, ap, ◌∙◌, ap₂, add-one, arith}
use Rattle.basics.specs.Width.{counted_of}
use Rattle.basics.specs.declared.width.Width.TheVariants.{Fourteen}
use Rattle.raster.specs.Registers.{reg, row_base_of}
use Rattle.raster.proofs.Bases.{row-base-next}
use Rattle.locator.specs.Cells.{rows_of, cells_from, fits_of, keep, the_fit, fit_of}
use Rattle.locator.specs.private.Search.{joined_of}
use Rattle.locator.proofs.Fits.{rows_more}
use Rattle.locator.proofs.fit.picture_fit.Goals as goal

pub loop-number-init : goal.loop-number-init
unfolding the_fit keep cells_from
loop-number-init c = (c.first_base-base.ensures, refl)

pub loop-number-preserved : goal.loop-number-preserved
loop-number-preserved c =
    let l = c.loop-number in
    let r = c.args.registers in (
      c.next_base-base.ensures
          ∙ ap (λ (x : ℕ). counted_of Fourteen x (reg r 1)) l.invariant.0
          ∙ row-base-next r l.number
          ∙ ap (row_base_of r) (sym (add-one l.number)),
      c.join-best.ensures
          ∙ ap₂ joined_of l.invariant.1 c.row_fit.ensures
          ∙ sym (rows_more r c.args.latch l.number),
    )

pub returns : goal.returns
unfolding fit_of
returns c =
    let l = c.loop-number in
    let r = c.args.registers in
    let all : l.number ≡ rows_of r = omega arith in
    l.invariant.1 ∙ ap (λ (x : ℕ). the_fit (keep (fits_of r c.args.latch) (cells_from r 0 x))) all
