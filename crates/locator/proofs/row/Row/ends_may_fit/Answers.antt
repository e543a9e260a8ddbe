use Rattle.std.proofs.Common.{ℕ, leb, sym, ap, ◌∙◌, true≢false}
use Rattle.basics.specs.Width.{counted_of}
use Rattle.basics.specs.declared.width.Width.TheVariants.{Fourteen}
use Rattle.raster.specs.Registers.{reg}
use Rattle.locator.specs.private.Search.{from_base_of, from_low_of}
use Rattle.locator.proofs.Ends.{low_near, base-near}
use Rattle.locator.proofs.row.Row.ends_may_fit.Goals as goal

pub returns-then-by_rows : goal.returns-then-by_rows
returns-then-by_rows c e x h k n f =
    let row = c.args.self in
    let low = c.from_low.ensures ∙ ap (λ (t : ℕ). from_low_of t row.latch) c.start.ensures in
    true≢false
    (sym (low_near row.registers.now row.number c.if-r-eq0.false n x row.latch h k f (sym c.by_rows.ensures ∙ c.if-by_rows.true))
    ∙ sym (ap (leb 254) low) ∙ e)

pub returns : goal.returns
returns c e x h k n f =
    let row = c.args.self in
    let first = c.from_base.ensures ∙ ap (λ (b : ℕ). from_base_of b row.latch) row.begins in
    let second =
    c.from_base-2.ensures
    ∙ ap (λ (b : ℕ). from_base_of b row.latch) (c.next_base.ensures ∙ ap (λ (b : ℕ). counted_of Fourteen b (reg row.registers.now 1)) row.begins) in
    let third = c.from_base-3.ensures ∙ ap (λ (b : ℕ). from_base_of b row.latch) c.start-2.ensures in
    true≢false
    (sym (base-near row.registers.now row.number c.if-r-eq0.false n x row.latch h k f (sym c.by_rows.ensures ∙ c.if-by_rows.false))
    ∙ rw (← first, ← second, ← third) e)
