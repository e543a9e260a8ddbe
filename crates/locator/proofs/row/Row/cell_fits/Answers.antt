use Rattle.std.proofs.Common.{sym}
use Rattle.locator.specs.Cells.{cell_at}
use Rattle.locator.proofs.Lines.{two-lines, three-lines}
use Rattle.locator.proofs.row.Row.cell_fits.Goals as goal

pub returns-then-self-eq0 : goal.returns-then-self-eq0
returns-then-self-eq0 c =
    let row = c.args.self in
    let h = c.saturating_sub.ensures in
    rw (c.line_fits-then-self-eq0.ensures, c.line_fits-2.ensures, c.line_fits.ensures, c.saturating_sub.ensures)
    (sym (three-lines row.registers.now row.latch (cell_at row.number c.args.column)))

pub returns : goal.returns
returns c =
    let row = c.args.self in
    rw (c.line_fits-2.ensures, c.line_fits.ensures, c.saturating_sub.ensures)
    (sym (two-lines row.registers.now row.latch (cell_at row.number c.args.column) c.if-self-eq0.false))
