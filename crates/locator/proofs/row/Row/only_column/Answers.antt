use Rattle.std.proofs.Common.{sym, ◌∙◌}
use Rattle.locator.specs.Cells.{cell_at}
use Rattle.locator.proofs.Columns.{by-base, by-low}
use Rattle.locator.proofs.row.Row.only_column.Goals as goal

pub returns-then-by_rows : goal.returns-then-by_rows
returns-then-by_rows c x h k e =
    let row = c.args.self in
    by-low row.registers.now row.latch (cell_at row.number x) h k e (sym c.by_rows.ensures ∙ c.if-by_rows.true)
    ∙ sym (rw c.start.ensures at c.from_low.ensures)

pub returns : goal.returns
returns c x h k e =
    let row = c.args.self in
    by-base row.registers.now row.latch (cell_at row.number x) h k e (sym c.by_rows.ensures ∙ c.if-by_rows.false)
    ∙ sym (rw row.begins at c.from_base.ensures)
