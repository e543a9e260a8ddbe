use Rattle.std.proofs.Common.{Bool, sym, ap, ◌∙◌, arith}
use Rattle.locator.specs.Cells.{cell_at}
use Rattle.locator.specs.private.Search.{one_fit_of}
use Rattle.locator.proofs.Lines.{first-line}
use Rattle.locator.proofs.Fits.{only-inside, only-outside}
use Rattle.locator.proofs.row.Row.front_fit.Goals as goal

pub returns-then-only-from : goal.returns-then-only-from
returns-then-only-from c =
    let only = c.only_column-only in
    let row = c.args.self in
    let cell = cell_at row.number only.result in
    rw (c.cell.ensures, c.line_fits.ensures) at c.one_fit.ensures
    ∙ ap (λ (b : Bool). one_fit_of b cell) (sym (first-line row.registers.now row.latch cell (omega arith) (omega arith)))
    ∙ sym (only-inside row.registers.now row.latch row.number only.result c.args.front (omega arith) (λ x h e. only.ensures x (omega arith) (omega arith) e))

pub returns : goal.returns
returns c =
    let only = c.only_column-only in
    let row = c.args.self in
    sym (only-outside row.registers.now row.latch row.number only.result c.args.front (omega arith) (λ x h e. only.ensures x (omega arith) (omega arith) e))
