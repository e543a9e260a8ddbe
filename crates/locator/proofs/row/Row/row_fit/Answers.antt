use Rattle.std.proofs.Common.{◌≡◌, ap, ◌∙◌, ap₂, arith}
use Rattle.locator.specs.Cells.{columns_of}
use Rattle.locator.specs.private.Search.{joined_of, part_fit_of, row_fit_of}
use Rattle.locator.proofs.Fits.{split-row, front-alone}
use Rattle.locator.proofs.row.Row.row_fit.Goals.{else-front-columns-via-then-front-columns+else-ends_may_fit, else-front-columns-via-else-front-columns}
use Rattle.locator.proofs.row.Row.row_fit.Goals as goal

pub returns-then-ends_may_fit : goal.returns-then-ends_may_fit
unfolding row_fit_of
returns-then-ends_may_fit c =
    let row = c.args.self in
    let all : c.args.columns ≡ columns_of row.registers.now = omega arith in
    c.join.ensures
    ∙ ap₂ joined_of c.front_fit-fit.ensures c.part_fit.ensures
    ∙ split-row row.registers.now row.latch row.number c.args.front c.args.columns (omega arith)
    ∙ ap (part_fit_of row.registers.now row.latch row.number 0) all

pub returns : goal.returns
unfolding row_fit_of
returns c =
    let row = c.args.self in
    let all : c.args.columns ≡ columns_of row.registers.now = omega arith in
    elim c.else-front-columns.branch [
      | else-front-columns-via-then-front-columns+else-ends_may_fit w ↦
          c.front_fit-fit.ensures
          ∙ front-alone row.registers.now row.latch row.number c.args.front c.args.columns (omega arith)
          (λ x u v f. w.ends_may_fit.ensures w.if-ends_may_fit.false x (omega arith) (omega arith) (omega arith) f)
          ∙ ap (part_fit_of row.registers.now row.latch row.number 0) all
      | else-front-columns-via-else-front-columns w ↦
          let none : c.args.front ≡ c.args.columns = omega arith in
          c.front_fit-fit.ensures ∙ ap (part_fit_of row.registers.now row.latch row.number 0) (none ∙ all)
    ]
